-- "The comparison shall go through all places: any failing place fails the trial, and otherwise the trial waits on every reader needed" (02, T-03).
-- `and_then` is associative with a unit, and the same either way round but for order; so no order of the places changes what comes of them.
use Prim.Native.Nat.{ℕ}
use mathlib.Core.Path.{◌≡◌, refl, ap}
use mathlib.Core.List.{List, [], ◌∷◌, append_assoc, append-nil}
use Rattle.meaning.specs.Terms.{Term, Terms, end, more}
use Rattle.meaning.specs.Compare.{Assignment, Result, succeeds, waits, fails, with_assignments, with_readers, and_then, place, places}
use Rattle.laws.proofs.Lists.{
  Rearranged,
  nothing,
  behind,
  swapped,
  after,
  rearranged_same,
  rearranged_back,
  rearranged_append,
  rearranged_exchange,
}

-- No place at all: nothing before a place, and nothing behind it.
pub and_then_nothing_before : (r : Result) → and_then (succeeds []) r ≡ r
unfolding and_then with_assignments
and_then_nothing_before (succeeds given) = refl
and_then_nothing_before (waits readers) = refl
and_then_nothing_before fails = refl

pub and_then_nothing_behind : (r : Result) → and_then r (succeeds []) ≡ r
unfolding and_then with_assignments with_readers
and_then_nothing_behind (succeeds given) = ap succeeds (append-nil given)
and_then_nothing_behind (waits readers) = refl
and_then_nothing_behind fails = refl

-- Three places: it does not matter which two are taken together.
pub and_then_associative : (r s t : Result) → and_then (and_then r s) t ≡ and_then r (and_then s t)
unfolding and_then with_assignments with_readers
and_then_associative (succeeds given) (succeeds more_given) (succeeds others) = ap succeeds (append_assoc given more_given others)
and_then_associative (succeeds given) (succeeds more_given) (waits readers) = refl
and_then_associative (succeeds given) (succeeds more_given) fails = refl
and_then_associative (succeeds given) (waits readers) (succeeds others) = refl
and_then_associative (succeeds given) (waits readers) (waits others) = refl
and_then_associative (succeeds given) (waits readers) fails = refl
and_then_associative (succeeds given) fails t = refl
and_then_associative (waits readers) (succeeds given) (succeeds others) = refl
and_then_associative (waits readers) (succeeds given) (waits others) = refl
and_then_associative (waits readers) (succeeds given) fails = refl
and_then_associative (waits readers) (waits more_readers) (succeeds given) = refl
and_then_associative (waits readers) (waits more_readers) (waits others) = ap waits (append_assoc readers more_readers others)
and_then_associative (waits readers) (waits more_readers) fails = refl
and_then_associative (waits readers) fails t = refl
and_then_associative fails s t = refl

-- Two results are the same but for the order in which readers or assignments stand.
pub data SameButOrder : Result → Result → Type 0 where
  both_succeed : {given others : List Assignment} → Rearranged given others → SameButOrder (succeeds given) (succeeds others)
  both_wait : {readers others : List ℕ} → Rearranged readers others → SameButOrder (waits readers) (waits others)
  both_fail : SameButOrder fails fails

pub same_itself : (r : Result) → SameButOrder r r
same_itself (succeeds given) = both_succeed (rearranged_same given)
same_itself (waits readers) = both_wait (rearranged_same readers)
same_itself fails = both_fail

pub same_back : {r s : Result} → SameButOrder r s → SameButOrder s r
same_back (both_succeed e) = both_succeed (rearranged_back e)
same_back (both_wait e) = both_wait (rearranged_back e)
same_back both_fail = both_fail

pub same_then : {r s t : Result} → SameButOrder r s → SameButOrder s t → SameButOrder r t
same_then (both_succeed e) (both_succeed f) = both_succeed (after e f)
same_then (both_wait e) (both_wait f) = both_wait (after e f)
same_then both_fail both_fail = both_fail

-- What it says of two results that wait: they wait on the same readers.
pub same_readers : {readers others : List ℕ} → SameButOrder (waits readers) (waits others) → Rearranged readers others
same_readers (both_wait e) = e

-- Two places in the other order.
pub and_then_either_way : (r s : Result) → SameButOrder (and_then r s) (and_then s r)
unfolding and_then with_assignments with_readers
and_then_either_way (succeeds given) (succeeds others) = both_succeed (rearranged_exchange given others)
and_then_either_way (succeeds given) (waits readers) = same_itself (waits readers)
and_then_either_way (succeeds given) fails = both_fail
and_then_either_way (waits readers) (succeeds given) = same_itself (waits readers)
and_then_either_way (waits readers) (waits others) = both_wait (rearranged_exchange readers others)
and_then_either_way (waits readers) fails = both_fail
and_then_either_way fails (succeeds given) = both_fail
and_then_either_way fails (waits readers) = both_fail
and_then_either_way fails fails = both_fail

-- What is the same but for order in each of two places is so in both together.
pub and_then_keeps : {r s t u : Result} → SameButOrder r s → SameButOrder t u → SameButOrder (and_then r t) (and_then s u)
unfolding and_then with_assignments with_readers
and_then_keeps (both_succeed e) (both_succeed f) = both_succeed (rearranged_append e f)
and_then_keeps (both_succeed e) (both_wait f) = both_wait f
and_then_keeps (both_succeed e) both_fail = both_fail
and_then_keeps (both_wait e) (both_succeed f) = both_wait e
and_then_keeps (both_wait e) (both_wait f) = both_wait (rearranged_append e f)
and_then_keeps (both_wait e) both_fail = both_fail
and_then_keeps both_fail f = both_fail

-- Two neighbouring places in the other order, with others behind them.
pub swap_two : (r s t : Result) → SameButOrder (and_then r (and_then s t)) (and_then s (and_then r t))
swap_two r s t =
    rw (← and_then_associative r s t, ← and_then_associative s r t) (and_then_keeps (and_then_either_way r s) (same_itself t))

-- A place of a clause: an argument of its head, and the goal's that stands against it.
pub record Place : Type 0 where
  pub head : Term
  pub goal : Term

unfoldable pub heads : List Place → Terms
heads [] = end
heads (p ∷ ps) = more p.head (heads ps)

unfoldable pub goals : List Place → Terms
goals [] = end
goals (p ∷ ps) = more p.goal (goals ps)

-- In whatever order the places stand, the comparison comes to the same: it fails, it waits on the same readers, or it assigns the same.
pub places_in_any_order : (look : Term → Term) {ps qs : List Place} → Rearranged ps qs
    → SameButOrder (places look (heads ps) (goals ps)) (places look (heads qs) (goals qs))
unfolding places heads goals
places_in_any_order look nothing = same_itself (succeeds [])
places_in_any_order look (behind {a = p} r) = and_then_keeps (same_itself (place look p.head (look p.goal))) (places_in_any_order look r)
places_in_any_order look (swapped {a = p} {b = q} {l = ps}) =
    swap_two (place look p.head (look p.goal)) (place look q.head (look q.goal)) (places look (heads ps) (goals ps))
places_in_any_order look (after r s) = same_then (places_in_any_order look r) (places_in_any_order look s)
