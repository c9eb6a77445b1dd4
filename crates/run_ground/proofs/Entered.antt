-- The marks of pairs that a walk does not enter: that of a ground pair, and the walk's own stamp.
use Prim.Native.Nat.{ℕ, ◌<◌}
use mathlib.Core.Path.{◌≡◌, refl, sym, ◌∙◌}
use mathlib.Core.Logic.{◌⊎◌, inl, inr, ⊎_elim}
use mathlib.Core.Bool.{Bool, true, false, true≢false}
use mathlib.Core.Option.{Option, none, some}
use native.Mathlib.Decide.{ℕ_discrete}
use native.Mathlib.Omega.{arith}
use lib.Dec.{eqb}
use borrow.Author.Tests.{eq-eqb, ne_eqb}
use Rattle.meaning.specs.Bytes.{when◌then◌else◌}
use Rattle.run_circle.specs.Ground.{Tells}

unfoldable pub was_entered : ℕ → ℕ → Bool
was_entered stamp m = when eqb m 1 then true else eqb m stamp

pub not_entered : (stamp m : ℕ) → (m ≡ 1 → ⊥) → (m ≡ stamp → ⊥) → was_entered stamp m ≡ false
unfolding was_entered when◌then◌else◌
not_entered stamp m d e = rw (ne_eqb m 1 d) (ne_eqb m stamp e)

pub entered_cases : (stamp m : ℕ) → was_entered stamp m ≡ true → (m ≡ 1) ⊎ (m ≡ stamp)
entered_cases stamp m v = go (ℕ_discrete m 1) (ℕ_discrete m stamp)
  where
    go : Dec (m ≡ 1) → Dec (m ≡ stamp) → (m ≡ 1) ⊎ (m ≡ stamp)
    go (yes e) d = inl e
    go (no d) (yes e) = inr e
    go (no d) (no e) = absurd (true≢false (sym v ∙ not_entered stamp m d e))

pub entered_stamp : (stamp : ℕ) → was_entered stamp stamp ≡ true
unfolding was_entered when◌then◌else◌
entered_stamp stamp = go (eqb stamp 1)
  where
    go : (b : Bool) → (when b then true else eqb stamp stamp) ≡ true
    go true = refl
    go false = eq-eqb stamp stamp refl

entered_ground : (stamp : ℕ) → was_entered stamp 1 ≡ true
unfolding was_entered when◌then◌else◌
entered_ground stamp = refl

pub cases_entered : (stamp m : ℕ) → (m ≡ 1) ⊎ (m ≡ stamp) → was_entered stamp m ≡ true
cases_entered stamp m = ⊎_elim (λ e. rw e (entered_ground stamp)) (λ e. rw e (entered_stamp stamp))

-- A stamp tells nothing.
pub stamp_silent : (stamp : ℕ) → 1 < stamp → stamp < 1099511627776 → (o : Option ℕ) → Tells o stamp → ⊥
stamp_silent stamp above below none e = omega arith
stamp_silent stamp above below (some q) e = omega arith
