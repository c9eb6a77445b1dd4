-- Results taken together, in either way, of terms of which none fails, of which the first does, or of which the first decides.
use Prim.Native.Nat.{ℕ}
use mathlib.Core.Path.{◌≡◌, refl, sym, ap}
use mathlib.Core.Bool.{Bool, true, false, true≢false}
use mathlib.Core.List.{List, [], ◌∷◌, ◌++◌, append-nil}
use Rattle.meaning.specs.Compare.{Result, succeeds, waits, fails, with_assignments, with_readers, and_then}
use Rattle.meaning.specs.Guards.{first_of}
use Rattle.run_ground.specs.Seeking.{together}
use Rattle.run_ground.specs.Looking.{of_readers, or_some}

pub then_readers : (b : Bool) (rs qs : List ℕ) → (b ≡ true → rs ≡ []) → together b (of_readers rs) (of_readers qs) ≡ of_readers (rs ++ qs)
unfolding first_of and_then with_assignments with_readers
then_readers true rs qs none = rw (none refl) refl
then_readers false [] [] none = refl
then_readers false [] (q ∷ qs) none = refl
then_readers false (r ∷ rs) [] none = ap (λ l. waits (r ∷ l)) (sym (append-nil rs))
then_readers false (r ∷ rs) (q ∷ qs) none = refl

pub then_fails : (b : Bool) (rs : List ℕ) → (b ≡ true → rs ≡ []) → together b (of_readers rs) fails ≡ fails
unfolding first_of and_then with_assignments with_readers
then_fails true rs none = rw (none refl) refl
then_fails false [] none = refl
then_fails false (r ∷ rs) none = refl

pub fails_first : (b : Bool) (o : Result) → together b fails o ≡ fails
unfolding first_of and_then
fails_first true o = refl
fails_first false o = refl

pub first_decides : (rs : List ℕ) (o : Result) → (rs ≡ [] → ⊥) → together true (of_readers rs) o ≡ of_readers rs
unfolding first_of
first_decides [] o some = absurd (some refl)
first_decides (r ∷ rs) o some = refl

pub then_none : (b : Bool) (rs : List ℕ) → together b (of_readers rs) (succeeds []) ≡ of_readers rs
unfolding first_of and_then with_assignments with_readers
then_none true [] = refl
then_none true (r ∷ rs) = refl
then_none false [] = refl
then_none false (r ∷ rs) = refl

-- Whether readers were met, in turn.
pub or_some_then : (p : Bool) (rs qs : List ℕ) → or_some (or_some p rs) qs ≡ or_some p (rs ++ qs)
or_some_then p [] qs = refl
or_some_then p (r ∷ rs) [] = refl
or_some_then p (r ∷ rs) (q ∷ qs) = refl

pub or_some_true : (p : Bool) (rs : List ℕ) → p ≡ true → or_some p rs ≡ true
or_some_true p [] e = e
or_some_true p (r ∷ rs) e = refl

pub or_some_none : (p : Bool) (rs : List ℕ) → or_some p rs ≡ false → rs ≡ []
or_some_none p [] e = refl
or_some_none p (r ∷ rs) e = absurd (true≢false e)
