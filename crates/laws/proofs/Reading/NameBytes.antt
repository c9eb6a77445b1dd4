-- Which bytes make a name: the row of ranges is the test that was there before document 02, and so every run is the one that it was.
-- The row names each range once, in another order; a range of one byte is that byte.
use Prim.Native.Nat.{ℕ}
use Prim.Native.Char.{Char}
use mathlib.Core.Path.{◌≡◌, refl, ap, ◌∙◌}
use mathlib.Core.Bool.{Bool, true, false, ◌&&◌, ◌||◌, or-true}
use mathlib.Core.List.{[], ◌∷◌}
use native.Mathlib.Omega.{arith}
use lib.Dec.{leb, eqb}
use borrow.Author.Tests.{leb-true, le-leb, eqb-true, eqb-false}
use native.Mathlib.Nat.{le_antisymm}
use Rattle.meaning.specs.Bytes.{Bytes, byte}
use Rattle.meaning.specs.Tokens.{between, lowercase, uppercase, digit, underscore, in_run, run}

-- The test as it was: letters, digits and `_`, each with its own name.
abbrev pub former_test : ℕ → Bool
former_test c = lowercase c || uppercase c || digit c || underscore c

-- The runs as they were.
abbrev pub former_run : Bytes → Bytes
former_run [] = []
former_run (c ∷ cs) = elim (former_test c) [ true ↦ c ∷ former_run cs | false ↦ [] ]

-- A range of one byte is that byte.
within_one : (c k : ℕ) → (leb k c && leb c k) ≡ eqb c k
within_one c k = by (eqb c k) refl
  where
    outside : eqb c k ≡ false → (a b : Bool) → leb k c ≡ a → leb c k ≡ b → (a && b) ≡ false
    outside e false b l h = refl
    outside e true false l h = refl
    outside e true true l h = absurd (eqb-false c k e (le_antisymm (leb-true c k h) (leb-true k c l)))

    by : (b : Bool) → eqb c k ≡ b → (leb k c && leb c k) ≡ eqb c k
    by true e =
        let same = eqb-true c k e in
        rw (e, le-leb k c (omega arith), le-leb c k (omega arith))
    by false e = rw e (outside e (leb k c) (leb c k) refl refl)

pub one_byte : (k : Char) (c : ℕ) → between k k c ≡ eqb c (byte k)
unfolding between
one_byte k c = within_one c (byte k)

other_order : (d u o l : Bool) → (d || u || o || l) ≡ (l || u || d || o)
other_order d u o true = or-true (d || u || o)
other_order d true o false = rw (or-true d)
other_order true false o false = refl
other_order false false true false = refl
other_order false false false false = refl

-- On every number, and so on every byte, the row answers as the former test did.
pub row_is_the_former_test : (c : ℕ) → in_run c ≡ former_test c
unfolding in_run lowercase uppercase digit underscore
row_is_the_former_test c = rw (one_byte "_" c) (other_order (digit c) (uppercase c) (underscore c) (lowercase c))

-- "Not one answer moves": the runs of a text are what they were, and by nothing else does a text's reading use the row.
pub runs_are_the_former_runs : (cs : Bytes) → run cs ≡ former_run cs
unfolding run
runs_are_the_former_runs [] = refl
runs_are_the_former_runs (c ∷ cs) = by (former_test c) refl (runs_are_the_former_runs cs)
  where
    by : (b : Bool) → former_test c ≡ b → run cs ≡ former_run cs → run (c ∷ cs) ≡ former_run (c ∷ cs)
    by true e behind = rw (row_is_the_former_test c ∙ e, run, e, former_run) (ap (λ l. c ∷ l) behind)
    by false e behind = rw (row_is_the_former_test c ∙ e, run, e, former_run)
