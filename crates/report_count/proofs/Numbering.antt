-- A pair is given the next number of the section.
use Prim.Native.Nat.{ℕ, suc, ◌+◌, ◌*◌, ◌≤◌, ◌<◌}
use mathlib.Core.Path.{◌≡◌, refl, ◌∙◌, sym, ap}
use mathlib.Core.Logic.{◌≢◌}
use mathlib.Core.Bool.{Bool, true, false}
use mathlib.Core.List.{List, [], ◌∷◌, ◌++◌}
use mathlib.Core.Option.{Option, none, some}
use native.Mathlib.Omega.{arith}
use lib.ListN.{length, length-append, get_or, set, length-set}
use lib.Seq.{get_or-set_same, get_or-set_other}
use lib.Dec.{eqb}
use borrow.Author.Tests.{eqb-true, eqb-false, eq-eqb, ne_eqb}
use Rattle.meaning.specs.Bytes.{Bytes, among, when◌then◌else◌}
use Rattle.meaning.specs.Terms.{Half, Term}
use Rattle.meaning.specs.State.{value}
use Rattle.meaning.specs.Report.{alone, number_in}
use Rattle.term.specs.Setting.{Setting}
use Rattle.term.specs.Layout.{trial_region, pair_facts}
use Rattle.report_pairs.specs.Threaded.{full, seen_after}
use Rattle.report_pairs.specs.Facts.{fact_place, number_seen, Readable, Changed, Counting, LengthAt, PlaceAt, Placed}
use Rattle.report_pairs.proofs.Once.{among_append, seen_after_known, seen_after_new, number_known, number_new, number_in_more, number_in_new}
use Rattle.report_pairs.proofs.Again.{seen_still, shown_still}
use Rattle.report_pairs.proofs.Chains.{fact_inside}
use Rattle.report_pairs.proofs.Keeping.{changed_none, readable_kept, ends_kept}

-- A number is at least 1.
number_positive : (n : ℕ) (l : List ℕ) → 1 ≤ number_in n l
unfolding number_in
number_positive n [] = omega arith
number_positive n (m ∷ l) = go (eqb n m)
  where
    go : (b : Bool) → 1 ≤ elim b [ true ↦ 1 | false ↦ suc (number_in n l) ]
    go true = omega arith
    go false = omega arith

-- Whether it was seen, by the number that it has.
seen_by : (n : ℕ) (seen : List ℕ) (k : ℕ) → k ≡ number_seen n seen → k ≢ 0 → (among n seen ≡ true) × (k ≡ number_in n seen)
unfolding when◌then◌else◌
seen_by n seen k e d = go (among n seen) refl e
  where
    go : (b : Bool) → among n seen ≡ b → k ≡ (when b then number_in n seen else 0) → (b ≡ true) × (k ≡ number_in n seen)
    go true q e = (refl, e)
    go false q e = absurd (d e)

unseen_by : (n : ℕ) (seen : List ℕ) (k : ℕ) → k ≡ number_seen n seen → k ≡ 0 → among n seen ≡ false
unfolding when◌then◌else◌
unseen_by n seen k e z = go (among n seen) refl e
  where
    go : (b : Bool) → among n seen ≡ b → k ≡ (when b then number_in n seen else 0) → b ≡ false
    go true q e = absurd (omega (arith, number_positive n seen))
    go false q e = refl

abbrev pub Told : List ℕ → List ℕ → Bytes → Setting → ℕ → List ℕ → ℕ → Half → ℕ → Type 0
Told s s' text x facts seen n h r = Changed s s' x facts × Readable s' text x facts × Counting s' x facts (seen_after seen (Term.variable h n))
    × (r ≡ number_in n (seen_after seen (Term.variable h n)))
    × ((whole : Bytes) → Placed s x facts seen whole → Placed s' x facts (seen_after seen (Term.variable h n)) whole)

pub number_had : (s : List ℕ) (text : Bytes) (x : Setting) (facts : ℕ) (seen : List ℕ) (n p k : ℕ) → Readable s text x facts → Counting s x facts seen
    → n < length x.values → p ≡ x.places.pair n → k ≡ get_or s (facts + pair_facts * p + 2) 0 → k ≢ 0 → (h : Half) → Told s s text x facts seen n h k
number_had s text x facts seen n p k r c b q e d h =
    let place : facts + pair_facts * p + 2 ≡ fact_place x facts n + 2 = omega arith in
    let S = seen_by n seen k (e ∙ ap (λ (m : ℕ). get_or s m 0) place ∙ c.numbers n b) d in
    (changed_none s x facts, r, rw (seen_after_known seen h n S.0) c, S.1 ∙ sym (number_known seen h n S.0), λ whole p. rw (seen_after_known seen h n S.0) p)

module _ (s : List ℕ) (text : Bytes) (x : Setting) (facts : ℕ) (r : Readable s text x facts) (seen : List ℕ) (c : Counting s x facts seen)
    (n : ℕ) (b : n < length x.values) (new : among n seen ≡ false) where
  abbrev next : ℕ
  next = length seen + 1

  abbrev s₁ : List ℕ
  s₁ = set s trial_region next

  abbrev s₂ : List ℕ
  s₂ = set s₁ (fact_place x facts n + 2) next

  other : (k : ℕ) → k ≢ trial_region → k ≢ fact_place x facts n + 2 → get_or s₂ k 0 ≡ get_or s k 0
  other k d e = get_or-set_other s₁ (fact_place x facts n + 2) k next 0 e ∙ get_or-set_other s trial_region k next 0 d

  new_changed : Changed s s₂ x facts
  new_changed = record {
    size = length-set s₁ (fact_place x facts n + 2) next ∙ length-set s trial_region next;
    others = λ k d o. other k d (o n b).2;
  }

  new_readable : Readable s₂ text x facts
  new_readable = readable_kept s s₂ text x facts r new_changed
      (λ m h. ends_kept s s₂ text x facts r new_changed m h (other (fact_place x facts m) (λ z. omega (arith, r.behind)) (λ z. omega arith)))

  after_is : (h : Half) → seen_after seen (Term.variable h n) ≡ seen ++ (n ∷ [])
  after_is h = seen_after_new seen h n new

  number_other : (m : ℕ) → m ≢ n → number_seen m seen ≡ number_seen m (seen ++ (n ∷ []))
  unfolding among when◌then◌else◌
  number_other m d = go (among m seen) refl
    where
      go : (t : Bool) → among m seen ≡ t → number_seen m seen ≡ number_seen m (seen ++ (n ∷ []))
      go true q = rw (among_append m seen (n ∷ []), q) (sym (number_in_more m seen (n ∷ []) q))
      go false q = rw (among_append m seen (n ∷ []), q, ne_eqb m n d)

  number_here : next ≡ number_seen n (seen ++ (n ∷ []))
  unfolding among when◌then◌else◌
  number_here = rw (among_append n seen (n ∷ []), new, eq-eqb n n refl) (rw (number_in_new n seen new) (omega arith))

  lengths_on : (m : ℕ) (v : Option Term) → get_or s₂ (fact_place x facts m + 1) 0 ≡ get_or s (fact_place x facts m + 1) 0
      → LengthAt s x facts seen m v → LengthAt s₂ x facts (seen ++ (n ∷ [])) m v
  lengths_on m none q l = q ∙ l
  lengths_on m (some u) q l = λ d.
      let k = l (λ z. d (q ∙ z)) in
      (seen_still seen (n ∷ []) (full x.values u) k.0, q ∙ k.1 ∙ ap length (sym (shown_still seen (n ∷ []) alone (full x.values u) k.0)))

  new_counting : Counting s₂ x facts (seen ++ (n ∷ []))
  new_counting = record {
    given = get_or-set_other s₁ (fact_place x facts n + 2) trial_region next 0 (λ z. omega (arith, r.behind))
        ∙ get_or-set_same s trial_region next 0 (omega (arith, r.behind, r.inside)) ∙ sym (length-append seen (n ∷ []));
    numbers = λ m h. go m h (eqb m n) refl;
    lengths = λ m h. lengths_on m (value x.values m)
        (other (fact_place x facts m + 1) (λ z. omega (arith, r.behind)) (λ z. omega arith)) (c.lengths m h);
  }
    where
      go : (m : ℕ) → m < length x.values → (t : Bool) → eqb m n ≡ t → get_or s₂ (fact_place x facts m + 2) 0 ≡ number_seen m (seen ++ (n ∷ []))
      go m h true q =
          let same : m ≡ n = eqb-true m n q in
          rw same (get_or-set_same s₁ (fact_place x facts n + 2) next 0 (omega (arith, fact_inside s text x facts r n b, length-set s trial_region next)) ∙ number_here)
      go m h false q =
          other (fact_place x facts m + 2) (λ z. omega (arith, r.behind)) (λ z. eqb-false m n q (r.apart m n h b (omega arith)))
          ∙ c.numbers m h ∙ number_other m (eqb-false m n q)

  places_on : (whole : Bytes) (m : ℕ) (v : Option Term) → get_or s₂ (fact_place x facts m + 1) 0 ≡ get_or s (fact_place x facts m + 1) 0
      → get_or s₂ (fact_place x facts m + 3) 0 ≡ get_or s (fact_place x facts m + 3) 0
      → LengthAt s x facts seen m v → PlaceAt s x facts seen whole m v → PlaceAt s₂ x facts (seen ++ (n ∷ [])) whole m v
  places_on whole m none q f l a = tt
  places_on whole m (some u) q f l a = λ d.
      let there : get_or s (fact_place x facts m + 1) 0 ≢ 0 = λ z. d (q ∙ z) in
      rw (f, shown_still seen (n ∷ []) alone (full x.values u) (l there).0) (a there)

  new_placed : (whole : Bytes) → Placed s x facts seen whole → Placed s₂ x facts (seen ++ (n ∷ [])) whole
  new_placed whole p m h = places_on whole m (value x.values m)
      (other (fact_place x facts m + 1) (λ z. omega (arith, r.behind)) (λ z. omega arith))
      (other (fact_place x facts m + 3) (λ z. omega (arith, r.behind)) (λ z. omega arith)) (c.lengths m h) (p m h)

  pub number_given : (h : Half) → Told s s₂ text x facts seen n h next
  number_given h = (new_changed, new_readable, rw (after_is h) new_counting, sym (number_new seen h n new), λ whole p. rw (after_is h) (new_placed whole p))

pub number_missing : (s : List ℕ) (x : Setting) (facts : ℕ) (seen : List ℕ) (n p k : ℕ) → Counting s x facts seen → n < length x.values
    → p ≡ x.places.pair n → k ≡ get_or s (facts + pair_facts * p + 2) 0 → k ≡ 0 → among n seen ≡ false
number_missing s x facts seen n p k c b q e z =
    let place : facts + pair_facts * p + 2 ≡ fact_place x facts n + 2 = omega arith in
    unseen_by n seen k (e ∙ ap (λ (m : ℕ). get_or s m 0) place ∙ c.numbers n b) z

pub number_given_at : (s : List ℕ) (text : Bytes) (x : Setting) (facts : ℕ) (seen : List ℕ) (n p v : ℕ) → Readable s text x facts → Counting s x facts seen
    → n < length x.values → among n seen ≡ false → p ≡ x.places.pair n → v ≡ length seen + 1 → (h : Half)
    → Told s (set (set s trial_region v) (facts + pair_facts * p + 2) v) text x facts seen n h v
number_given_at s text x facts seen n p v r c b new q e h =
    let place : facts + pair_facts * p + 2 ≡ fact_place x facts n + 2 = omega arith in
    rw (place, e) (number_given s text x facts r seen c n b new h)
