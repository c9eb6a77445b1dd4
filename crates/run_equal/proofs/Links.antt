-- Links in the scratch: what a pair is linked to means the same, as far as the links agree; following a variable's value; a link that is made.
use Rattle.std.specs.Prelude.{Some}
use Prim.Native.Nat.{ℕ, zero, suc, ◌+◌, ◌*◌, ◌≤◌, ◌<◌}
use mathlib.Core.Path.{◌≡◌, refl, sym, ap, subst, ◌∙◌}
use mathlib.Core.Bool.{true, false}
use mathlib.Core.Logic.{⊎_elim}
use mathlib.Core.List.{List}
use mathlib.Core.Option.{Option, none, some}
use native.Mathlib.Decide.{dec_lt}
use native.Mathlib.Omega.{arith}
use lib.ListN.{length, get_or}
use Rattle.meaning.specs.Terms.{Half, reader, Term, variable, constant, compound}
use Rattle.meaning.specs.State.{value}
use Rattle.meaning.specs.Compare.{followed}
use Rattle.term.specs.Cells.{term_word, Known}
use Rattle.term.specs.Chains.{value_of}
use Rattle.term.specs.Holds.{Holds}
use Rattle.term.specs.Setting.{Within, Ranged, UnitTerm}
use Rattle.term.specs.Words.{tag_in, rest_in, reader_word}
use Rattle.term.proofs.Frames.{only_then}
use Rattle.term.proofs.Units.{unit_term_alike, unit_stands_alike, ends_stand_alike}
use Rattle.run_chains.specs.Follow.{Chained, Reads, FollowedTo}
use Rattle.run_equal.specs.Equal.{cut, Bare, Scene, plain, Means, of_unit, of_clause, VariableIs, linked_pair, linked_word, LinkAgrees, Link, Working, LinkIs, Puts, Put, Alike, Opened, Linked}
use Rattle.run_equal.proofs.Words.{variable_tag, variable_rest, constant_tag}
use Rattle.run_equal.proofs.Meanings.{Variable, Seen, a_variable, a_constant, a_compound, plain_assigned, plain_none, seen, means_one}

pub means_bare : (x : Scene) (w : ℕ) (v : Term) → Means x w v → Bare v
means_bare x w v (of_unit t held e m b) = b
means_bare x w v (of_clause n f ts held e m b) = b

-- Either way round.
pub linked_swap : (s s' : List ℕ) (x : Scene) (values lists links taken : ℕ) (v u : Term) (r : ℕ) → Linked s s' x values lists links taken u v r
    → Linked s s' x values lists links taken v u r
linked_swap s s' x values lists links taken v u r l = record { working = l.working; agrees = λ n e h. l.agrees n (sym e) h }

module _ (s : List ℕ) (x : Scene) (values lists links taken : ℕ) (W : Working s x values lists links taken) where
  -- A variable's word.
  pub as_variable : (w : ℕ) (v : Term) → Means x w v → VariableIs w true → Variable x w v
  as_variable w v m is = go (seen x values links W.asking w v m)
    where
      go : Seen x values w v → Variable x w v
      go (a_variable k) = k
      go (a_constant k) = absurd (omega (arith, is.1, (constant_tag x.unit.places k.value).0, ap (λ i. tag_in i) k.word))
      go (a_compound k) = absurd (omega (arith, is.1, k.tag))

  variable_place : (w : ℕ) (v : Term) (k : Variable x w v) → rest_in w ≡ x.unit.places.pair k.pair
  variable_place w v k = ap (λ i. rest_in i) k.word ∙ variable_rest x.unit.places k.half k.pair

  -- The place of its pair is one of the room's.
  pub pair_inside : (w : ℕ) (v : Term) → Means x w v → VariableIs w true → rest_in w < links
  pair_inside w v m is =
      let k = as_variable w v m is in
      omega (arith, variable_place w v k, W.asking.chained.stands.held.place k.pair k.below, W.asking.chained.links_are)

  pair_term : (h : Half) (p : ℕ) → p < length x.unit.values → UnitTerm x.front x.unit (variable h p)
  unfolding Holds Within Known Ranged
  pair_term h p below = record { held = tt; of = record { within = below; known = tt; ranged = tt } }

  -- The pair's reader means the same.
  pub means_reader : (w : ℕ) (v : Term) → Means x w v → VariableIs w true → Means x (reader_word (rest_in w)) v
  means_reader w v m is =
      let k = as_variable w v m is in
      of_unit (variable reader k.pair) (pair_term reader k.pair k.below) (ap (λ i. reader_word i) (variable_place w v k))
      (k.meaning ∙ sym (plain_assigned x values links W.asking reader k.pair k.value_is k.assigned)) (means_bare x w v m)

  -- The two halves of a pair mean the same.
  pub halves_one : (c d : ℕ) (v u : Term) → Means x c v → Means x d u → VariableIs c true → VariableIs d true → rest_in c ≡ rest_in d
      → (n : ℕ) → cut n v ≡ cut n u
  halves_one c d v u m o is it e =
      means_one x values links W.asking (reader_word (rest_in c)) v u (means_reader c v m is)
      (subst (λ i. Means x (reader_word i) u) (sym e) (means_reader d u o it))

  pub alike_self : (w : ℕ) (v : Term) → Means x w v → Alike s x lists taken v w
  alike_self w v m = record { meaning = v; means = m; same = λ n h. refl }

  pub alike_then : (v : Term) (w r : ℕ) (a : Alike s x lists taken v w) → Alike s x lists taken a.meaning r → Alike s x lists taken v r
  alike_then v w r a b = record { meaning = b.meaning; means = b.means; same = λ n h. a.same n h ∙ b.same n h }

  -- What it is linked to.
  pub link_alike : (c : ℕ) (v : Term) (r : ℕ) → Means x c v → VariableIs c true → LinkIs s lists taken (rest_in c) (Some r)
      → Alike s x lists taken v r
  link_alike c v r m is (d, i, below, pair, word) = by (dec_lt i x.met)
    where
      by : Dec (i < x.met) → Alike s x lists taken v r
      by (yes first) = absurd (d (omega (arith, word, W.readers.small i first, W.few)))
      by (no behind) =
          let low : x.met ≤ i = omega arith in
          let k = W.linked i low below in record {
            meaning = k.right;
            means = subst (λ q. Means x q k.right) word k.word;
            same = λ n h. h i low below v k.right (subst (λ q. Means x (reader_word q) v) (sym pair) (means_reader c v m is)) k.word;
          }

  -- Following.
  module _ (k : ℕ) where
    outside : (n : ℕ) → n < x.unit.compounds → x.unit.places.compound n ≤ k → k < x.unit.places.compound n + x.unit.places.width n
        → get_or s k 0 ≡ get_or x.front k 0
    outside n h l u = W.only.below k (omega (arith, W.asking.compound_before n h, W.asking.marks_behind, W.lists_at))

  unit_here : (t : Term) → UnitTerm x.front x.unit t → UnitTerm s x.unit t
  unit_here = unit_term_alike x.front s x.unit (omega (arith, W.only.size)) (λ n h k l u. outside k n h l u)

  unit_there : (t : Term) → UnitTerm s x.unit t → UnitTerm x.front x.unit t
  unit_there = unit_term_alike s x.front x.unit (omega (arith, W.only.size)) (λ n h k l u. sym (outside k n h l u))

  chained_here : Chained s x.unit values links
  chained_here =
      let A = W.asking in record {
        stands = unit_stands_alike x.front s x.unit (omega (arith, W.only.size)) (λ n h k l u. outside k n h l u) values
            (λ k l u. W.only.below k (omega (arith, A.marks_behind, W.lists_at))) A.chained.stands;
        links_are = A.chained.links_are;
        ends = ends_stand_alike x.front s x.unit (omega (arith, W.only.size)) (λ n h k l u. outside k n h l u) values
            (λ n h. W.only.above _ (omega (arith, A.ends_behind, A.chained.links_are, W.lists_at))) A.chained.ends;
      }

  pub reads_variable : (w : ℕ) (v : Term) → Means x w v → VariableIs w true → (t : Term) × Reads s x.unit values links t w
  reads_variable w v m is =
      let k = as_variable w v m is in (
        variable k.half k.pair,
        record { chained = chained_here; term = unit_here (variable k.half k.pair) (pair_term k.half k.pair k.below); word = k.word },
      )

  -- Followed, it means the same.
  plain_followed : (l : ℕ) (t : Term) → plain x (followed l x.unit.values t) ≡ plain x t
  unfolding followed
  plain_followed zero t = refl
  plain_followed (suc l) (variable h p) = go (value x.unit.values p) refl (plain_followed l)
    where
      go : (o : Option Term) → value x.unit.values p ≡ o → ((t : Term) → plain x (followed l x.unit.values t) ≡ plain x t)
          → plain x (followed (suc l) x.unit.values (variable h p)) ≡ plain x (variable h p)
      go none e further = rw (e, followed) refl
      go (some t) e further = rw (e, followed) (further t ∙ sym (plain_assigned x values links W.asking h p t e))
  plain_followed (suc l) (constant k) = refl
  plain_followed (suc l) (compound n f ts) = refl

  no_variable : (t : Term) (r : ℕ) → r ≡ term_word x.unit.places t → value_of x.unit.values t ≡ none → Bare (plain x t) → VariableIs r false
  no_variable (variable h p) r e none_left b = absurd (plain_none x h p none_left b)
  no_variable (constant k) r e none_left b = λ z. omega (arith, (constant_tag x.unit.places k).0, ap (λ i. tag_in i) e)
  no_variable (compound n f ts) r e none_left b = λ z. omega arith

  pub followed_opened : (w : ℕ) (v : Term) (m : Means x w v) (is : VariableIs w true) (r : ℕ)
      → FollowedTo s x.unit values links (reads_variable w v m is).0 r → Opened s x lists taken v r
  unfolding reads_variable
  followed_opened w v m is r to =
      let k = as_variable w v m is in
      let t = variable k.half k.pair in
      let u = followed links x.unit.values t in
      let means_it : v ≡ plain x u =
      k.meaning ∙ sym (plain_assigned x values links W.asking k.half k.pair k.value_is k.assigned) ∙ sym (plain_followed links t) in
      let ended : value_of x.unit.values u ≡ none =
      subst (λ l. value_of x.unit.values (followed l x.unit.values t) ≡ none) (sym W.asking.chained.links_are)
      (W.asking.chained.ends.ended t) in
      record {
        alike = alike_self r v (of_unit u (unit_there u to.term) to.word means_it (means_bare x w v m));
        ended = no_variable u r to.word ended (subst Bare means_it (means_bare x w v m));
      }

  -- Nothing is linked.
  pub linked_none : (v u : Term) → Linked s s x values lists links taken v u taken
  linked_none v u = record { working = W; agrees = λ n e h. h }

  -- A link fits.
  pub puts : (c d : ℕ) (v u : Term) → Means x c v → Means x d u → VariableIs c true → (VariableIs d false → tag_in d ≡ 6)
      → Puts links taken x.met (rest_in c) d
  puts c d v u m o is side = record {
    low = W.low;
    high = W.high;
    few = W.few;
    pair = pair_inside c v m is;
    word = go (seen x values links W.asking d u o);
  }
    where
      go : Seen x values d u → d < 4294967296
      go (a_variable k) =
          omega (
            arith,
            (variable_tag x.unit.places k.half k.pair).1,
            ap (λ i. tag_in i) k.word,
            variable_place d u k,
            W.asking.chained.stands.held.place k.pair k.below,
            W.asking.chained.links_are,
            W.few,
          )
      go (a_constant k) =
          let tag = constant_tag x.unit.places k.value in
          let same : tag_in d ≡ tag_in (term_word x.unit.places (constant k.value)) = ap (λ i. tag_in i) k.word in
          absurd (omega (arith, tag.0, tag.1, side (λ z. omega (arith, tag.0))))
      go (a_compound k) = omega (arith, k.low, k.tag, W.near)

  -- It is made.
  module _ (c d : ℕ) (v u : Term) (m : Means x c v) (o : Means x d u) (is : VariableIs c true) (s' : List ℕ) (r : ℕ)
      (p : Put s s' lists links taken x.met (rest_in c) d r) where
    pair_of : linked_pair (rest_in c + 65536 * d) ≡ rest_in c
    pair_of = omega (arith, pair_inside c v m is, W.few)

    word_of : linked_word (rest_in c + 65536 * d) ≡ d
    word_of = omega (arith, pair_inside c v m is, W.few)

    pub put_linked : Linked s s' x values lists links taken v u r
    put_linked = record {
      working = record {
        asking = W.asking;
        few = W.few;
        near = W.near;
        lists_at = W.lists_at;
        only = only_then lists (lists + 2 * links) x.front s s' W.only p.only;
        readers = p.readers;
        firsts = λ i h. p.firsts i h ∙ W.firsts i h;
        low = omega (arith, W.low, p.low);
        high = p.high;
        linked = λ i l h.
            ⊎_elim
            (λ q. subst (Link x) (sym q) (record {
              left = v;
              right = u;
              pair = subst (λ k. Means x (reader_word k) v) (sym pair_of) (means_reader c v m is);
              word = subst (λ k. Means x k u) (sym word_of) o;
            }))
            (λ (b, q). subst (Link x) (sym q) (W.linked i l b))
            (p.new i l h);
      };
      agrees = λ n same h i l b.
          ⊎_elim
          (λ q. subst (LinkAgrees x n) (sym q) (λ t t' mt mt'.
          means_one x values links W.asking (reader_word (rest_in c)) t v (subst (λ k. Means x (reader_word k) t) pair_of mt) (means_reader c v m is) n
          ∙ same ∙ means_one x values links W.asking d u t' o (subst (λ k. Means x k t') word_of mt') n))
          (λ (below, q). subst (LinkAgrees x n) (sym q) (h i l below))
          (p.new i l b);
    }
