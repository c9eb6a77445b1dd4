-- What a machine reads from a job that is held: the next clause of a procedure, a goal by its place, a clause's head, names by their numbers.
use Prim.Native.Nat.{ℕ, zero, suc, ◌+◌, ◌-◌, ◌<◌}
use mathlib.Core.Path.{◌≡◌, refl, ap}
use mathlib.Core.Bool.{Bool, true, false}
use mathlib.Core.List.{List, [], ◌∷◌}
use mathlib.Core.Logic.{◌≢◌}
use native.Mathlib.Omega.{arith}
use lib.Dec.{eqb}
use lib.ListN.{length, get_or}
use borrow.Author.Tests.{eq-eqb, ne_eqb}
use Rattle.meaning.specs.Bytes.{Bytes, same}
use Rattle.meaning.specs.Terms.{Named, Clause, as_term}
use Rattle.term.specs.Cells.{Places, term_word, number_of, Numbered, KnownName}
use Rattle.term.specs.Holds.{Holds}
use Rattle.term.specs.Jobs.{ClauseLaid, HoldsGoals, Linked}
use Rattle.term.proofs.Numbers.{same_equal, number_apart}
use Rattle.term.specs.Layout.{clause_record}

-- No clause is left where the word is 0; else the word is one more than the number of the next.
module _ (s : List ℕ) (At : ℕ → Clause → Type 0) (w : ℕ) where
  pub linked_none_left : (cs : List Clause) → w ≡ 0 → Linked s At w cs → cs ≡ []
  unfolding Linked
  linked_none_left [] e l = refl
  linked_none_left (c ∷ cs) e l = absurd (omega (arith, l.1))

  pub linked_next : (cs : List Clause) → w ≢ 0 → Linked s At w cs
      → (c : Clause) × (rest : List Clause) × (cs ≡ c ∷ rest) × At (w - 1) c × Linked s At (get_or s (clause_record (w - 1)) 0) rest
  unfolding Linked
  linked_next [] e l = absurd (e l)
  linked_next (c ∷ cs) e l =
      let number : w - 1 ≡ l.0 = omega (arith, l.1) in
      (c, cs, refl, rw number l.2, rw number l.3)

-- The n-th of the goals.
module _ (s : List ℕ) (places : Places) (place : ℕ) where
  pub holds_goal_at : (i n : ℕ) (gs : List Named) (d : Named) → n < length gs → HoldsGoals s places place i gs
      → (get_or s (place + (i + n)) 0 ≡ term_word places (as_term (get_or gs n d))) × Holds s places (as_term (get_or gs n d))
  unfolding HoldsGoals
  holds_goal_at i n [] d h k = absurd (omega arith)
  holds_goal_at i zero (g ∷ gs) d h k = let same : i + 0 ≡ i = omega arith in (rw same k.0, k.1)
  holds_goal_at i (suc n) (g ∷ gs) d h k =
      let same : i + suc n ≡ (i + 1) + n = omega arith in
      rw same (holds_goal_at (i + 1) n gs d (omega arith) k.2)

-- A clause's head is the first of its compounds.
pub head_first : (names : List Bytes) (c : Clause) → ClauseLaid names c → c.head.number ≡ 0
unfolding Numbered as_term
head_first names c laid = laid.head_numbered.0

-- Two known names are the same exactly if their numbers are.
pub numbers_tell : (f g : Bytes) (names : List Bytes) → KnownName names f → KnownName names g
    → eqb (number_of f names) (number_of g names) ≡ same f g
numbers_tell f g names h k = by (same f g) refl
  where
    by : (b : Bool) → same f g ≡ b → eqb (number_of f names) (number_of g names) ≡ b
    by true e = eq-eqb (number_of f names) (number_of g names) (ap (λ x. number_of x names) (same_equal f g e))
    by false e = ne_eqb (number_of f names) (number_of g names) (number_apart f g names e h k)
