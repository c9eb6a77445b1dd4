-- The three results of a trial differ; a test that stands before a result changes it only to failing; two places agree only if both do.
-- So what is known of an answer that is no failure is known of the result that was tested.
use Prim.Native.Nat.{ℕ}
use mathlib.Core.Path.{◌≡◌, refl}
use mathlib.Core.Bool.{Bool, true, false}
use mathlib.Core.List.{List, ◌++◌}
use Rattle.meaning.specs.Bytes.{when◌then◌else◌}
use Rattle.meaning.specs.Compare.{Assignment, Result, succeeds, waits, fails, and_then, with_assignments, with_readers}
use Rattle.laws.proofs.Lists.{differ}

pub fails_not_succeeds : {given : List Assignment} → fails ≡ succeeds given → ⊥
fails_not_succeeds e = differ (cc)

pub waits_not_succeeds : {readers : List ℕ} {given : List Assignment} → waits readers ≡ succeeds given → ⊥
waits_not_succeeds e = differ (cc)

pub fails_not_waits : {readers : List ℕ} → fails ≡ waits readers → ⊥
fails_not_waits e = differ (cc)

pub succeeds_not_waits : {readers : List ℕ} {given : List Assignment} → succeeds given ≡ waits readers → ⊥
succeeds_not_waits e = differ (cc)

-- A result that stands behind a test, or unless the test.
module _ (r answer : Result) (no_failure : fails ≡ answer → ⊥) where
  pub behind_test : (b : Bool) → (when b then r else fails) ≡ answer → r ≡ answer
  unfolding when◌then◌else◌
  behind_test true e = e
  behind_test false e = absurd (no_failure e)

  pub unless_test : (b : Bool) → (when b then fails else r) ≡ answer → r ≡ answer
  unfolding when◌then◌else◌
  unless_test true e = absurd (no_failure e)
  unless_test false e = e

-- All places agree exactly if the first does and the others do.
pub record Both (one two : Result) (given : List Assignment) : Type 0 where
  pub first : List Assignment
  pub others : List Assignment
  pub one_succeeds : one ≡ succeeds first
  pub two_succeeds : two ≡ succeeds others
  pub together : given ≡ first ++ others

pub both : (one two : Result) (given : List Assignment) → and_then one two ≡ succeeds given → Both one two given
unfolding and_then with_assignments with_readers
both (succeeds first) (succeeds others) given e =
    record { first = first; others = others; one_succeeds = refl; two_succeeds = refl; together = cc }
both (succeeds first) (waits readers) given e = absurd (waits_not_succeeds e)
both (succeeds first) fails given e = absurd (fails_not_succeeds e)
both (waits readers) (succeeds others) given e = absurd (waits_not_succeeds e)
both (waits readers) (waits others) given e = absurd (waits_not_succeeds e)
both (waits readers) fails given e = absurd (fails_not_succeeds e)
both fails two given e = absurd (fails_not_succeeds e)

-- Two places wait if one of them does and neither fails: on the readers of the one, of the other, or of both.
pub data Either (one two : Result) (readers : List ℕ) : Type 0 where
  the_one : one ≡ waits readers → Either one two readers
  the_other : two ≡ waits readers → Either one two readers
  the_two : (first others : List ℕ) → one ≡ waits first → two ≡ waits others → readers ≡ first ++ others → Either one two readers

pub either : (one two : Result) (readers : List ℕ) → and_then one two ≡ waits readers → Either one two readers
unfolding and_then with_assignments with_readers
either (succeeds first) (succeeds others) readers e = absurd (succeeds_not_waits e)
either (succeeds first) (waits rs) readers e = the_other e
either (succeeds first) fails readers e = absurd (fails_not_waits e)
either (waits rs) (succeeds others) readers e = the_one e
either (waits rs) (waits others) readers e = the_two rs others refl refl (cc)
either (waits rs) fails readers e = absurd (fails_not_waits e)
either fails two readers e = absurd (fails_not_waits e)
