-- What failed fails later: by a place, by the circle test or by a guard; and `otherwise` succeeds as long as every earlier clause fails.
-- So a goal of which every clause fails would fail in every later state, as long as no writer that it holds is assigned.
use Prim.Native.Nat.{ℕ}
use mathlib.Core.Path.{◌≡◌, refl, sym}
use mathlib.Core.Bool.{Bool, true, false}
use mathlib.Core.List.{List, [], ◌∷◌}
use mathlib.Core.Option.{some}
use lib.ListN.{length}
use Rattle.meaning.specs.Bytes.{when◌then◌else◌}
use Rattle.meaning.specs.Terms.{Named, Clause}
use Rattle.meaning.specs.State.{value, QueryUnit}
use Rattle.meaning.specs.Compare.{Assignment, Result, succeeds, waits, fails}
use Rattle.meaning.specs.Circle.{circle}
use Rattle.meaning.specs.Trial.{next_pair, compared, values_after, tested, guarded, trial, procedure, joins_failed, choice}
use Rattle.laws.proofs.Lists.{Each, each_of_those}
use Rattle.laws.proofs.Trial.{fails_not_waits, guards_fail_later, with_its_readers, trials, AllFail, failed_exactly_if_all_fail}
use Rattle.laws.proofs.Circle.FailsLater.{compared_fails_later}
use Rattle.laws.proofs.Circle.Grown.{GivenLater, written_out_grew}
use Rattle.laws.proofs.Circle.CircleLater.{GoalLater, compared_agrees_later, circle_later}

module _ (unit later : QueryUnit) (goal : Named) where
  -- Where the head agrees in the later state, each of its assignments would be the value of its pair: no pair is assigned twice.
  abbrev pub Settles : Clause → Type 0
  Settles clause = (given : List Assignment) → compared clause later goal ≡ succeeds given
      → Each (λ a. value (values_after clause given later) a.pair ≡ some a.value) given

  module _ (l : GoalLater unit later goal) where
    -- `earlier_then` are the readers on which the earlier clauses wait in the later state.
    module _ (clause : Clause) (settles : Settles clause) (earlier earlier_then : List ℕ) (still : earlier ≡ [] → earlier_then ≡ []) where
      tested_later : (r : Result) → compared clause unit goal ≡ r → guarded earlier clause unit (tested clause unit r) ≡ fails
          → guarded earlier_then clause later (tested clause later (compared clause later goal)) ≡ fails
      unfolding tested guarded when◌then◌else◌ next_pair
      tested_later fails e f = rw (compared_fails_later clause unit later goal l.grew l.still_open e)
      tested_later (waits readers) e f = absurd (fails_not_waits (sym f))
      tested_later (succeeds given) e f =
          let (given_later, agrees, paired) = compared_agrees_later unit later goal l clause given e in
          rw agrees
          (go given_later paired (circle_later unit later goal l clause given given_later paired agrees (settles given_later agrees))
          (circle (values_after clause given unit)) (circle (values_after clause given_later later)) refl refl)
        where
          go : (given_later : List Assignment)
              → GivenLater unit.values later.values l.grew l.longer unit.compounds later.compounds given given_later
              → (circle (values_after clause given unit) ≡ true → circle (values_after clause given_later later) ≡ true)
              → (now afterwards : Bool) → circle (values_after clause given unit) ≡ now → circle (values_after clause given_later later) ≡ afterwards
              → guarded earlier_then clause later (tested clause later (succeeds given_later)) ≡ fails
          go given_later paired again now true i j = rw (tested, j)
          go given_later paired again true false i j = rw (tested, again i)
          go given_later paired again false false i j =
              rw (tested, j)
              (guards_fail_later earlier earlier_then still given given_later unit.values later.values (length unit.values) (length later.values)
              (written_out_grew unit.values later.values l.grew l.longer unit.compounds later.compounds paired) clause.guards
              (rw (tested, i) at f))

      -- A trial that failed fails later.
      pub trial_fails_later : trial earlier clause unit goal ≡ fails → trial earlier_then clause later goal ≡ fails
      unfolding trial
      trial_fails_later e = tested_later (compared clause unit goal) refl e

    -- Clauses in turn, of which every one failed.
    pub all_fail_later : (clauses : List Clause) → Each Settles clauses → AllFail (trials [] clauses unit goal) → AllFail (trials [] clauses later goal)
    unfolding trials with_its_readers
    all_fail_later [] settle all = tt
    all_fail_later (c ∷ clauses) settle (e, all) =
        let f = trial_fails_later c settle.0 [] [] (λ i. i) e in
        (f, rw f (all_fail_later clauses settle.1 (rw e at all)))

    -- A goal that joins the failed goals would join them later too.
    pub failed_stays_failed : (clauses : List Clause) → Each Settles clauses → choice clauses unit goal ≡ joins_failed → choice clauses later goal ≡ joins_failed
    unfolding procedure
    failed_stays_failed clauses settle e =
        (failed_exactly_if_all_fail later goal clauses).1
        (all_fail_later (procedure clauses goal) (each_of_those _ _ clauses settle) ((failed_exactly_if_all_fail unit goal clauses).0 e))
