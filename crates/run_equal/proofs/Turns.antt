-- One turn of the comparison: two terms looked into, their roots linked before, and then their arguments. What is found of the arguments one level down
-- makes the link true a level further; so, level by level, all links are true.
use Prim.Native.Nat.{ℕ, zero, suc, ◌+◌, ◌<◌}
use mathlib.Core.Path.{◌≡◌, sym, ap, subst, ◌∙◌}
use mathlib.Core.Bool.{true, false}
use mathlib.Core.Logic.{inl, inr}
use mathlib.Core.List.{List}
use native.Mathlib.Omega.{arith}
use lib.ListN.{length, get_or}
use Rattle.meaning.specs.Terms.{Term, constant, compound, count}
use Rattle.term.specs.Cells.{term_word, functor_word}
use Rattle.term.specs.Layout.{trial_region}
use Rattle.term.specs.Words.{tag_in, rest_in}
use Rattle.run_circle.proofs.Depth.{depth, depths}
use Rattle.run_equal.specs.Equal.{
  each,
  cut,
  Scene,
  Means,
  VariableIs,
  PartIs,
  Readable,
  Agrees,
  Working,
  Alike,
  Opened,
  Linked,
  Found,
  Truly,
  SameRoot,
  MatchIs,
}
use Rattle.run_equal.proofs.Cuts.{Equal, AllEqual, cut_down, cut_none, cut_compounds, functors_agree, arguments_agree, constants_agree, constant_agrees_not, equal_count, agree_deep}
use Rattle.run_equal.proofs.Words.{variable_tag, constant_tag, first_words}
use Rattle.run_equal.proofs.Links.{halves_one}
use Rattle.run_equal.proofs.Meanings.{Variable, Compound, Seen, a_variable, a_constant, a_compound, Part, seen, means_one}

-- Links that agree so far agree less far too.
pub agrees_down : (x : Scene) (s : List ℕ) (lists taken n : ℕ) → Agrees x s lists taken (suc n) → Agrees x s lists taken n
agrees_down x s lists taken n h i l b t u mt mu = cut_down n t u (h i l b t u mt mu)

-- Two terms looked into as e and f, when their roots are linked.
pub record Opening (s s₁ : List ℕ) (x : Scene) (values lists links taken taken₁ : ℕ) (left right : Term) (e f : ℕ) : Type 0 where
  pub first : Term
  pub second : Term
  pub first_means : Means x e first
  pub second_means : Means x f second
  pub first_ended : VariableIs e false
  pub second_ended : VariableIs f false
  pub working : Working s₁ x values lists links taken₁
  pub links_agree : (n : ℕ) → Agrees x s lists taken n → cut n left ≡ cut n right → Agrees x s₁ lists taken₁ n
  pub up : (n : ℕ) → Agrees x s lists taken n → cut n first ≡ cut n second → cut n left ≡ cut n right
  pub down : (n : ℕ) → Agrees x s lists taken n → cut n left ≡ cut n right → cut n first ≡ cut n second
  pub same_first : (n : ℕ) → Agrees x s lists taken n → cut n left ≡ cut n first

pub opening : (s s₁ : List ℕ) (x : Scene) (values lists links taken taken₁ : ℕ) (left right : Term) (c d e f : ℕ)
    (l : Alike s x lists taken left c) (r : Alike s x lists taken right d) → Opened s x lists taken l.meaning e
    → Opened s x lists taken r.meaning f → Linked s s₁ x values lists links taken l.meaning r.meaning taken₁
    → Opening s s₁ x values lists links taken taken₁ left right e f
opening s s₁ x values lists links taken taken₁ left right c d e f l r a b k = record {
  first = a.alike.meaning;
  second = b.alike.meaning;
  first_means = a.alike.means;
  second_means = b.alike.means;
  first_ended = a.ended;
  second_ended = b.ended;
  working = k.working;
  links_agree = λ n h q. k.agrees n (sym (l.same n h) ∙ q ∙ r.same n h) h;
  up = λ n h q. l.same n h ∙ a.alike.same n h ∙ q ∙ sym (b.alike.same n h) ∙ sym (r.same n h);
  down = λ n h q. sym (a.alike.same n h) ∙ sym (l.same n h) ∙ q ∙ r.same n h ∙ b.alike.same n h;
  same_first = λ n h. l.same n h ∙ a.alike.same n h;
}

-- The same root.
pub roots_found : (s : List ℕ) (x : Scene) (values lists links taken : ℕ) → Working s x values lists links taken → (left right : Term) (c d : ℕ)
    (l : Alike s x lists taken left c) (r : Alike s x lists taken right d) → SameRoot c d true → Found s s x lists taken left right taken
roots_found s x values lists links taken w left right c d l r is n h = (l.same n h ∙ go is ∙ sym (r.same n h), h)
  where
    go : SameRoot c d true → cut n l.meaning ≡ cut n r.meaning
    go (inl e) = means_one x values links w.asking d l.meaning r.meaning (subst (λ k. Means x k l.meaning) e l.means) r.means n
    go (inr (a, b, e)) = halves_one s x values lists links taken w c d l.meaning r.meaning l.means r.means a b e n

-- Two compounds of the same functor and number of arguments.
pub record Facing (x : Scene) (values e f : ℕ) (v u : Term) : Type 0 where
  pub left : Compound x values e v
  pub right : Compound x values f u
  pub functors : left.functor ≡ right.functor
  pub counts : count left.terms ≡ count right.terms

-- The number of arguments, as the first word has it.
pub counted_terms : (s : List ℕ) (x : Scene) (values lists links taken : ℕ) → Working s x values lists links taken → (e f : ℕ) (v u : Term)
    (F : Facing x values e f v u) (p k : ℕ) → p ≡ rest_in e → k ≡ tag_in (get_or s p 0) → k ≡ count F.left.terms
counted_terms s x values lists links taken w e f v u F p k at is =
    let word : get_or s p 0 ≡ functor_word x.unit.places F.left.functor (count F.left.terms) =
    ap (λ i. get_or s i 0) at ∙ w.only.below (rest_in e) (omega (arith, F.left.low, w.asking.marks_behind, w.lists_at)) ∙ F.left.first in
    omega (arith, F.left.few)

module _ (s s₁ : List ℕ) (x : Scene) (values lists links taken taken₁ : ℕ) (left right : Term) (e f : ℕ)
    (o : Opening s s₁ x values lists links taken taken₁ left right e f) where
  -- The same word.
  pub found_same : e ≡ f → Found s s₁ x lists taken left right taken₁
  found_same q n h =
      let same = o.up n h
      (means_one x values links o.working.asking f o.first o.second (subst (λ w. Means x w o.first) q o.first_means) o.second_means n) in
      (same, o.links_agree n h same)

  as_compound : (w : ℕ) (v : Term) → Means x w v → tag_in w ≡ 6 → Compound x values w v
  as_compound w v m six = go (seen x values links o.working.asking w v m)
    where
      go : Seen x values w v → Compound x values w v
      go (a_variable k) = absurd (omega (arith, (variable_tag x.unit.places k.half k.pair).1, ap (λ i. tag_in i) k.word))
      go (a_constant k) = absurd (omega (arith, (constant_tag x.unit.places k.value).1, ap (λ i. tag_in i) k.word))
      go (a_compound k) = k

  -- A compound's place, and the word there.
  pub compound_inside : (w : ℕ) (v : Term) → Means x w v → tag_in w ≡ 6 → rest_in w < length s₁
  compound_inside w v m six = omega (arith, (as_compound w v m six).inside, o.working.only.size)

  word_there : (k : ℕ) → k < values → get_or s₁ k 0 ≡ get_or x.front k 0
  word_there k h = o.working.only.below k (omega (arith, o.working.asking.marks_behind, o.working.lists_at))

  -- Their first words are equal.
  pub matched : MatchIs s₁ e f true → Facing x values e f o.first o.second
  matched (p, q, same) =
      let a = as_compound e o.first o.first_means p in
      let b = as_compound f o.second o.second_means q in
      let both = first_words x.unit.places a.functor b.functor (count a.terms) (count b.terms) a.few b.few a.known b.known
      (sym a.first ∙ sym (word_there (rest_in e) a.low) ∙ same ∙ word_there (rest_in f) b.low ∙ b.first) in
      record { left = a; right = b; functors = both.0; counts = both.1 }

  -- They are not, and the words differ: so do the terms.
  pub mismatched : MatchIs s₁ e f false → (e ≡ f → ⊥) → Equal o.first o.second → ⊥
  mismatched unlike d same = go (seen x values links o.working.asking e o.first o.first_means) (seen x values links o.working.asking f o.second o.second_means)
    where
      variable_not : (w : ℕ) (v : Term) → Variable x w v → VariableIs w false → ⊥
      variable_not w v k ended =
          let tag = variable_tag x.unit.places k.half k.pair in
          omega (arith, tag.1, ap (λ i. tag_in i) k.word, ended (omega (arith, tag.0, ap (λ i. tag_in i) k.word)))

      go : Seen x values e o.first → Seen x values f o.second → ⊥
      go (a_variable k) b = variable_not e o.first k o.first_ended
      go (a_constant k) (a_variable l) = variable_not f o.second l o.second_ended
      go (a_constant k) (a_constant l) =
          let z = sym (ap (cut 1) k.is) ∙ same 1 ∙ ap (cut 1) l.is in
          d (k.word ∙ ap (λ c. term_word x.unit.places (constant c)) (constants_agree k.value l.value z) ∙ sym l.word)
      go (a_constant k) (a_compound l) =
          constant_agrees_not k.value l.number l.functor l.terms (sym (ap (cut 1) k.is) ∙ same 1 ∙ ap (cut 1) l.is)
      go (a_compound k) (a_variable l) = variable_not f o.second l o.second_ended
      go (a_compound k) (a_constant l) =
          constant_agrees_not l.value k.number k.functor k.terms (sym (ap (cut 1) l.is) ∙ sym (same 1) ∙ ap (cut 1) k.is)
      go (a_compound k) (a_compound l) =
          let z : (n : ℕ) → cut n (compound k.number k.functor k.terms) ≡ cut n (compound l.number l.functor l.terms) =
          λ n. sym (ap (cut n) k.is) ∙ same n ∙ ap (cut n) l.is in
          let g = functors_agree 0 k.number k.functor k.terms l.number l.functor l.terms (z 1) in
          let c = equal_count k.terms l.terms (arguments_agree 0 k.number k.functor k.terms l.number l.functor l.terms (z 1)) in
          unlike k.tag l.tag
          (word_there (rest_in e) k.low ∙ k.first ∙ ap (λ h. functor_word x.unit.places h (count k.terms)) g
          ∙ ap (functor_word x.unit.places l.functor) c ∙ sym l.first ∙ sym (word_there (rest_in f) l.low))

  module _ (F : Facing x values e f o.first o.second) where
    terms_agree : (n : ℕ) → each (cut n) F.left.terms ≡ each (cut n) F.right.terms → cut (suc n) o.first ≡ cut (suc n) o.second
    terms_agree n q =
        ap (cut (suc n)) F.left.is
        ∙ cut_compounds n F.left.number F.left.functor F.left.terms F.right.number F.right.functor F.right.terms F.functors q
        ∙ sym (ap (cut (suc n)) F.right.is)

    -- Their arguments agree, as far as the links do: level by level, so do they.
    module _ (s' : List ℕ) (r : ℕ)
        (args : (n : ℕ) → Agrees x s₁ lists taken₁ n → (each (cut n) F.left.terms ≡ each (cut n) F.right.terms) × Agrees x s' lists r n) where
      both_agree : (n : ℕ) → Agrees x s lists taken n → cut n left ≡ cut n right
      both_agree zero h = cut_none left right
      both_agree (suc n) h =
          let before = agrees_down x s lists taken n h in
          o.up (suc n) h (terms_agree n (args n (o.links_agree n before (both_agree n before))).0)

      pub found_compounds : Found s s' x lists taken left right r
      found_compounds n h = let same = both_agree n h in (same, (args n (o.links_agree n h same)).1)

    -- If all is true, so are the links made now, and the arguments are equal and less deep.
    module _ (deep : ℕ) (t : Truly s x lists taken left right deep) where
      pub links_true : (n : ℕ) → Agrees x s₁ lists taken₁ n
      links_true n = o.links_agree n (t.links n) (t.equal n)

      pub terms_equal : AllEqual F.left.terms F.right.terms
      terms_equal n =
          arguments_agree n F.left.number F.left.functor F.left.terms F.right.number F.right.functor F.right.terms
          (sym (ap (cut (suc n)) F.left.is) ∙ o.down (suc n) (t.links (suc n)) (t.equal (suc n)) ∙ ap (cut (suc n)) F.right.is)

      pub terms_low : depths F.left.terms + 1 < deep
      unfolding depth
      terms_low =
          let same : depth left ≡ depth o.first = agree_deep left o.first (λ n. o.same_first n (t.links n)) in
          let is : depth o.first ≡ depth (compound F.left.number F.left.functor F.left.terms) = ap depth F.left.is in
          omega (arith, t.low)

-- A part of a compound is read as it is meant.
module _ (s : List ℕ) (x : Scene) (values lists links taken : ℕ) (W : Working s x values lists links taken) (j : ℕ) (v : Term) (p : Part x values j v) where
  there : (k : ℕ) → k < values → get_or s k 0 ≡ get_or x.front k 0
  there k h = W.only.below k (omega (arith, W.asking.marks_behind, W.lists_at))

  pub part_readable : Readable s j
  part_readable = record {
    inside = omega (arith, p.low, W.asking.marks_behind, W.asking.inside, W.only.size);
    clause = λ l. record {
      inside = omega (arith, p.low, W.asking.marks_behind, W.asking.inside, W.only.size);
      given = λ is.
          let low = p.given_low l (subst (λ w. VariableIs w true) (there j p.low) is) in
          let same : rest_in (get_or s j 0) ≡ rest_in (get_or x.front j 0) = ap (λ w. rest_in w) (there j p.low) in
          omega (arith, W.asking.marks_behind, W.asking.inside, W.only.size);
    };
  }

  pub part_means : (r : ℕ) → PartIs s j r → Means x r v
  part_means r is =
      let here = there j p.low in
      p.means r (record {
        clause = λ l. record {
          given = λ t.
              (is.clause l).given (subst (λ w. VariableIs w true) (sym here) t)
              ∙ ap (λ w. get_or s (trial_region + rest_in w) 0) here ∙ there (trial_region + rest_in (get_or x.front j 0)) (p.given_low l t);
          other = λ t. (is.clause l).other (subst (λ w. VariableIs w false) (sym here) t) ∙ here;
        };
        unit = λ l. is.unit l ∙ here;
      })
