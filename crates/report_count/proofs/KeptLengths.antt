-- The length that is kept of a variable's value is the term's.
use Prim.Native.Nat.{ℕ, ◌+◌, ◌-◌, ◌*◌, ◌<◌}
use mathlib.Core.Path.{◌≡◌, refl, ◌∙◌, ap}
use mathlib.Core.Logic.{◌≢◌}
use mathlib.Core.List.{List}
use mathlib.Core.Option.{Option, none, some}
use native.Mathlib.Omega.{arith}
use lib.ListN.{length, get_or, set, length-set}
use lib.Seq.{get_or-set_same, get_or-set_other}
use lib.Dec.{eqb}
use mathlib.Core.Bool.{Bool, true, false}
use borrow.Author.Tests.{eqb-true, eqb-false}
use Rattle.meaning.specs.Bytes.{Bytes}
use Rattle.meaning.specs.Terms.{Half, Term}
use Rattle.meaning.specs.State.{value}
use Rattle.meaning.specs.Report.{alone}
use Rattle.term.specs.Setting.{Setting}
use Rattle.term.specs.Layout.{trial_region, pair_facts}
use Rattle.report_pairs.specs.Threaded.{full, seen_after, shown}
use Rattle.report_pairs.specs.Pairs.{pair_seen}
use Rattle.report_pairs.specs.Laid.{Has}
use Rattle.report_pairs.specs.Facts.{fact_place, Readable, Shows, Changed, Counting, LengthAt, PlaceAt, Placed}
use Rattle.std.specs.Prelude.{Option as Told, Some, None, SomeIff}
use Rattle.report_count.specs.Counts.{LengthKnown, KnownNow}
use Rattle.report_pairs.proofs.Full.{full_assigned}
use Rattle.report_pairs.proofs.Told.{seen as look, pair_told}
use Rattle.report_pairs.proofs.Chains.{variable_below, fact_inside}
use Rattle.report_pairs.proofs.Keeping.{readable_kept, ends_kept, place_kept}

length_known : (s : List ℕ) (text : Bytes) (x : Setting) (facts : ℕ) (seen : List ℕ) (t : Term) (w p e : ℕ) → Readable s text x facts
    → Counting s x facts seen → Shows s x t w → Some p ≡ pair_seen (look w) → e ≡ get_or s (facts + pair_facts * p + 1) 0 → e ≢ 0 → LengthKnown x seen t (Some e)
length_known s text x facts seen t w p e r c k q i d = go (pair_told x.places t w p k.word q)
  where
    by : (h : Half) (n : ℕ) (v : Option Term) → value x.values n ≡ v → LengthAt s x facts seen n v → e ≡ get_or s (fact_place x facts n + 1) 0
        → LengthKnown x seen (Term.variable h n) (Some e)
    by h n none z l j = absurd (d (j ∙ l))
    by h n (some u) z l j =
        let same = full_assigned x.values r.no_circle h n u z in
        let told = l (λ o. d (j ∙ o)) in
        rw same (told.0, j ∙ told.1)

    go : (h : Half) × (n : ℕ) × (t ≡ Term.variable h n) × (p ≡ x.places.pair n) → LengthKnown x seen t (Some e)
    go (h, n, v, g) =
        let b = variable_below s text x facts r h n w (rw v at k) in
        let same : facts + pair_facts * p + 1 ≡ fact_place x facts n + 1 = omega arith in
        rw v (by h n (value x.values n) refl (c.lengths n b) (i ∙ ap (λ (m : ℕ). get_or s m 0) same))

pub length_told : (s : List ℕ) (text : Bytes) (x : Setting) (facts : ℕ) (seen : List ℕ) (t : Term) (w p n : ℕ) (e : Told ℕ) → Readable s text x facts
    → Counting s x facts seen → Shows s x t w → Some p ≡ pair_seen (look w) → n ≡ get_or s (facts + pair_facts * p + 1) 0 → SomeIff e (n ≢ 0) n → LengthKnown x seen t e
length_told s text x facts seen t w p n None r c k q i d = tt
length_told s text x facts seen t w p n (Some m) r c k q i d = rw d.1 (length_known s text x facts seen t w p n r c k q i d.0)

-- The length of an assigned variable's value is kept.
module _ (s : List ℕ) (text : Bytes) (x : Setting) (facts : ℕ) (r : Readable s text x facts) (n v a : ℕ) (b : n < length x.values) where
  abbrev now : List ℕ
  now = set (set s (fact_place x facts n + 1) v) (fact_place x facts n + 3) a

  now_other : (k : ℕ) → k ≢ fact_place x facts n + 1 → k ≢ fact_place x facts n + 3 → get_or now k 0 ≡ get_or s k 0
  now_other k d e = get_or-set_other (set s (fact_place x facts n + 1) v) (fact_place x facts n + 3) k a 0 e ∙ get_or-set_other s (fact_place x facts n + 1) k v 0 d

  now_length : get_or now (fact_place x facts n + 1) 0 ≡ v
  now_length =
      get_or-set_other (set s (fact_place x facts n + 1) v) (fact_place x facts n + 3) (fact_place x facts n + 1) a 0 (λ z. omega arith)
      ∙ get_or-set_same s (fact_place x facts n + 1) v 0 (omega (arith, fact_inside s text x facts r n b))

  now_place : get_or now (fact_place x facts n + 3) 0 ≡ a
  now_place = get_or-set_same (set s (fact_place x facts n + 1) v) (fact_place x facts n + 3) a 0
      (omega (arith, fact_inside s text x facts r n b, length-set s (fact_place x facts n + 1) v))

  now_changed : Changed s now x facts
  now_changed = record {
    size = length-set (set s (fact_place x facts n + 1) v) (fact_place x facts n + 3) a ∙ length-set s (fact_place x facts n + 1) v;
    others = λ k d o. now_other k (o n b).1 (o n b).3;
  }

  now_readable : Readable now text x facts
  now_readable = readable_kept s now text x facts r now_changed
      (λ m c. ends_kept s now text x facts r now_changed m c (now_other (fact_place x facts m) (λ z. omega arith) (λ z. omega arith)))

  length_other : (seen : List ℕ) (m : ℕ) (o : Option Term) → get_or now (fact_place x facts m + 1) 0 ≡ get_or s (fact_place x facts m + 1) 0
      → LengthAt s x facts seen m o → LengthAt now x facts seen m o
  length_other seen m none q l = q ∙ l
  length_other seen m (some u) q l = λ d. let k = l (λ z. d (q ∙ z)) in (k.0, q ∙ k.1)

  length_here : (seen : List ℕ) (o : Option Term) (u : Term) → o ≡ some u → seen_after seen (full x.values u) ≡ seen
      → v ≡ length (shown seen alone (full x.values u)) → LengthAt now x facts seen n o
  length_here seen o u e a c = rw e (λ d. (a, now_length ∙ c))

  place_here : (seen : List ℕ) (whole : Bytes) (o : Option Term) (u : Term) → o ≡ some u → Has whole a (shown seen alone (full x.values u))
      → PlaceAt now x facts seen whole n o
  place_here seen whole o u e h = rw e (λ d. rw now_place h)

  now_placed : (seen : List ℕ) (whole : Bytes) (u : Term) → value x.values n ≡ some u → Has whole a (shown seen alone (full x.values u))
      → Placed s x facts seen whole → Placed now x facts seen whole
  now_placed seen whole u e h p m l = go (eqb m n) refl
    where
      go : (t : Bool) → eqb m n ≡ t → PlaceAt now x facts seen whole m (value x.values m)
      go true q = let same : m ≡ n = eqb-true m n q in rw same (place_here seen whole (value x.values n) u e h)
      go false q =
          let other : x.places.pair m ≢ x.places.pair n = λ z. eqb-false m n q (r.apart m n l b z) in
          place_kept s now x facts seen whole m (value x.values m)
          (now_other (fact_place x facts m + 1) (λ z. other (omega arith)) (λ z. omega arith))
          (now_other (fact_place x facts m + 3) (λ z. omega arith) (λ z. other (omega arith))) (p m l)

  now_counting : (seen : List ℕ) (u : Term) → value x.values n ≡ some u → seen_after seen (full x.values u) ≡ seen
      → v ≡ length (shown seen alone (full x.values u)) → Counting s x facts seen → Counting now x facts seen
  now_counting seen u e a c k = record {
    given = now_other trial_region (λ z. omega (arith, r.behind)) (λ z. omega (arith, r.behind)) ∙ k.given;
    numbers = λ m h. now_other (fact_place x facts m + 2) (λ z. omega arith) (λ z. omega arith) ∙ k.numbers m h;
    lengths = λ m h. go m h (eqb m n) refl;
  }
    where
      go : (m : ℕ) → m < length x.values → (t : Bool) → eqb m n ≡ t → LengthAt now x facts seen m (value x.values m)
      go m h true q = let same : m ≡ n = eqb-true m n q in rw same (length_here seen (value x.values n) u e a c)
      go m h false q = length_other seen m (value x.values m)
          (now_other (fact_place x facts m + 1) (λ z. eqb-false m n q (r.apart m n h b (omega arith))) (λ z. omega arith)) (k.lengths m h)

-- What is told of it.
abbrev pub Kept : List ℕ → List ℕ → Bytes → Setting → ℕ → List ℕ → Term → ℕ → Type 0
Kept s s' text x facts seen t at = Changed s s' x facts × Readable s' text x facts × Counting s' x facts seen
    × ((whole : Bytes) → Has whole at (shown seen alone (full x.values t)) → Placed s x facts seen whole → Placed s' x facts seen whole)

abbrev kept : List ℕ → ℕ → ℕ → ℕ → ℕ → List ℕ
kept s facts p at to = set (set s (facts + pair_facts * p + 1) (to - at)) (facts + pair_facts * p + 3) at

pub keep_now : (s : List ℕ) (text : Bytes) (x : Setting) (facts : ℕ) (seen : List ℕ) (t : Term) (w p at to : ℕ) → Readable s text x facts
    → Counting s x facts seen → Shows s x t w → KnownNow x facts seen t at to → Some p ≡ pair_seen (look w) → to ≢ 16777217
    → Kept s (kept s facts p at to) text x facts seen t at
keep_now s text x facts seen t w p at to r c k K q o = go (pair_told x.places t w p k.word q)
  where
    go : (h : Half) × (n : ℕ) × (t ≡ Term.variable h n) × (p ≡ x.places.pair n) → Kept s (kept s facts p at to) text x facts seen t at
    go (h, n, v, g) =
        let b = variable_below s text x facts r h n w (rw v at k) in
        let U = K.assigned h n v in
        let first : facts + pair_facts * p + 1 ≡ fact_place x facts n + 1 = omega arith in
        let third : facts + pair_facts * p + 3 ≡ fact_place x facts n + 3 = omega arith in
        let full_is : full x.values t ≡ full x.values U.0 = ap (full x.values) v ∙ full_assigned x.values r.no_circle h n U.0 U.1 in
        let all : seen_after seen (full x.values U.0) ≡ seen = rw full_is at (K.seen_all o) in
        let size : to ≡ at + length (shown seen alone (full x.values U.0)) = rw full_is at (K.size o) in
        rw (first, third) (
          now_changed s text x facts r n (to - at) at b,
          now_readable s text x facts r n (to - at) at b,
          now_counting s text x facts r n (to - at) at b seen U.0 U.1 all (omega arith) c,
          λ whole has P. now_placed s text x facts r n (to - at) at b seen whole U.0 U.1 (rw full_is at has) P,
        )
