-- The readers that a trial waits on, among the pairs that it noted: one pair more, and what they are read from.
-- A pair joins them exactly if the word 0 stands beside it.
use Prim.Native.Nat.{ℕ, zero, suc, ◌+◌, ◌*◌, ◌≤◌, ◌<◌}
use mathlib.Core.Path.{◌≡◌, refl, ap, ◌∙◌}
use mathlib.Core.Bool.{Bool, true, false}
use mathlib.Core.Logic.{⊎_elim}
use mathlib.Core.List.{List, [], ◌∷◌, ◌++◌, append-nil}
use native.Mathlib.Decide.{ℕ_discrete}
use native.Mathlib.Omega.{arith}
use native.Mathlib.Numerals.{add-one}
use borrow.Author.Tests.{eq-eqb, ne_eqb, eqb-true}
use lib.Dec.{eqb}
use lib.ListN.{get_or}
use Rattle.meaning.specs.Bytes.{when◌then◌else◌}
use Rattle.laws.proofs.Lists.Tests.{or_true_right}
use Rattle.laws.proofs.Lists.Among.{In, in_none, in_single, in_append_cases}
use Rattle.term.specs.Layout.{gifts_part, gift_pair, gift_term}
use Rattle.run_readers.specs.Readers.{asked_in, is_some}
use Rattle.run_readers.proofs.AllMet.{some_append}

pub asked_none : (s : List ℕ) → asked_in s 0 ≡ []
unfolding asked_in
asked_none s = refl

-- The next pair is waited on, or is given a term.
pub asked_more : (s : List ℕ) (i : ℕ) → get_or s (gift_term i) 0 ≡ 0 → asked_in s (i + 1) ≡ asked_in s i ++ (get_or s (gift_pair i) 0 ∷ [])
unfolding asked_in when◌then◌else◌
asked_more s i e = rw (add-one i, asked_in, eq-eqb (get_or s (gift_term i) 0) 0 e)

pub asked_less : (s : List ℕ) (i : ℕ) → (get_or s (gift_term i) 0 ≡ 0 → ⊥) → asked_in s (i + 1) ≡ asked_in s i
unfolding asked_in when◌then◌else◌
asked_less s i e = rw (add-one i, asked_in, ne_eqb (get_or s (gift_term i) 0) 0 e) (append-nil (asked_in s i))

-- A trial that waits after so many pairs does so with more.
asked_next : (s : List ℕ) (n : ℕ) → is_some (asked_in s n) ≡ true → is_some (asked_in s (suc n)) ≡ true
unfolding asked_in
asked_next s n e =
    some_append (asked_in s n) (when eqb (get_or s (gift_term n) 0) 0 then get_or s (gift_pair n) 0 ∷ [] else []) ∙ rw e

pub asked_here : (s : List ℕ) (i n : ℕ) → i < n → get_or s (gift_term i) 0 ≡ 0 → is_some (asked_in s n) ≡ true
unfolding is_some
asked_here s i zero h e = absurd (omega arith)
asked_here s i (suc n) h e = go (ℕ_discrete i n) (λ l. asked_next s n (asked_here s i n l e))
  where
    go : Dec (i ≡ n) → (i < n → is_some (asked_in s (suc n)) ≡ true) → is_some (asked_in s (suc n)) ≡ true
    go (yes f) further =
        let last : asked_in s (suc n) ≡ asked_in s n ++ (get_or s (gift_pair n) 0 ∷ []) = rw (← add-one n) (asked_more s n (rw f at e)) in
        ap is_some last ∙ some_append (asked_in s n) (get_or s (gift_pair n) 0 ∷ []) ∙ or_true_right (is_some (asked_in s n)) true refl
    go (no d) further = further (omega arith)

-- They are read from the words of the pairs noted and from nothing else.
pub asked_kept : (s s' : List ℕ) (n : ℕ) → ((x : ℕ) → gifts_part ≤ x → x < gifts_part + 2 * n → get_or s' x 0 ≡ get_or s x 0)
    → asked_in s' n ≡ asked_in s n
unfolding asked_in
asked_kept s s' zero same = refl
asked_kept s s' (suc n) same =
    rw (
      asked_kept s s' n (λ x a b. same x a (omega arith)),
      same (gift_term n) (omega arith) (omega arith),
      same (gift_pair n) (omega arith) (omega arith),
    )

-- Each is a pair that the trial noted, with no term beside it.
pub asked_each : (P : ℕ → Type 0) (s : List ℕ) (n : ℕ) → ((i : ℕ) → i < n → get_or s (gift_term i) 0 ≡ 0 → P (get_or s (gift_pair i) 0))
    → (p : ℕ) → In p (asked_in s n) → P p
unfolding asked_in when◌then◌else◌
asked_each P s zero each p m = absurd (in_none m)
asked_each P s (suc n) each p m =
    ⊎_elim (asked_each P s n (λ i h. each i (omega arith)) p) (λ l. last (eqb (get_or s (gift_term n) 0) 0) refl l) (in_append_cases (asked_in s n) m)
  where
    last : (b : Bool) → eqb (get_or s (gift_term n) 0) 0 ≡ b → In p (when b then get_or s (gift_pair n) 0 ∷ [] else []) → P p
    last true e l = rw (in_single l) (each n (omega arith) (eqb-true (get_or s (gift_term n) 0) 0 e))
    last false e l = absurd (in_none l)
