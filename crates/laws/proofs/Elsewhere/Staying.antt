-- A goal that a step does not take is there after the step, and what it has a chain to it keeps.
-- So is the goal that is taken, unless it is reduced.
use Prim.Native.Nat.{ℕ, ◌≤◌}
use mathlib.Core.Path.{◌≡◌, refl, ap}
use mathlib.Core.Bool.{Bool, true, false, not}
use mathlib.Core.List.{List, [], ◌∷◌, ◌++◌, map}
use Rattle.meaning.specs.Bytes.{those}
use Rattle.meaning.specs.Terms.{reader, Clause, Query, renamed_goal, all_occurrences}
use Rattle.meaning.specs.State.{Values, QueryUnit, Goal, Waiting, Goals, State, unit_at, start}
use Rattle.meaning.specs.Compare.{Assignment}
use Rattle.meaning.specs.Trial.{next_pair, Choice, reduces, joins_waiting, joins_failed}
use Rattle.meaning.specs.Step.{made_by, body_goals, wakes, goals_after, without_front, step}
use Rattle.meaning.specs.Run.{choice_for}
use Rattle.laws.proofs.Lists.{In, here, in_append_left, in_append_right, in_map, in_those, each_all, each_append, each_in, each_map, each_member}
use Rattle.laws.proofs.Runs.AllGoals.{EachGoal, each_goal_at}
use Rattle.laws.proofs.Circle.Never.{NoCircle}
use Rattle.laws.proofs.Circle.ValuesStay.{step_values_stay}
use Rattle.laws.proofs.Single.Chains.{Reaches, reaches_kept}
use Rattle.laws.proofs.Single.Chains as chains
use Rattle.laws.proofs.Single.Counting.{together}

-- What holds of each goal of the three lists holds of each of them together.
pub each_together : (P : Goal → Type 0) (goals : Goals) → EachGoal P goals → (g : Goal) → In g (together goals) → P g
each_together P goals all g m =
    each_in P
    (each_append P (goals.queue ++ map (λ w. w.goal) goals.waiting) goals.failed
    (each_append P goals.queue (map (λ w. w.goal) goals.waiting) all.queue
    (each_map P (λ (w : Waiting). w.goal) goals.waiting all.waiting))
    all.failed) m

-- Where a goal of one of the lists stands in all together.
pub in_queue : (goals : Goals) {g : Goal} → In g goals.queue → In g (together goals)
in_queue goals m = in_append_left goals.failed (in_append_left (map (λ w. w.goal) goals.waiting) m)

pub in_waiting : (goals : Goals) {w : Waiting} → In w goals.waiting → In w.goal (together goals)
in_waiting goals m = in_append_left goals.failed (in_append_right goals.queue (in_map (λ (w : Waiting). w.goal) m))

pub in_failed : (goals : Goals) {g : Goal} → In g goals.failed → In g (together goals)
in_failed goals m = in_append_right (goals.queue ++ map (λ w. w.goal) goals.waiting) m

-- And back.
pub together_each : (P : Goal → Type 0) (goals : Goals) → ((g : Goal) → In g (together goals) → P g) → EachGoal P goals
together_each P goals all =
    record {
      queue = each_member P goals.queue (λ g m. all g (in_queue goals m));
      waiting = each_member (λ w. P w.goal) goals.waiting (λ w m. all w.goal (in_waiting goals m));
      failed = each_member P goals.failed (λ g m. all g (in_failed goals m));
    }

-- The other goals are there after the step.
pub others_stay : (c : Choice) (unit : QueryUnit) (g : Goal) (others : Goals) (o : Goal) → In o (together others)
    → In o (together (goals_after c unit g others))
unfolding goals_after
others_stay c unit g others = each_together (λ o. In o (together (goals_after c unit g others))) others (go c)
  where
    go : (c : Choice) → EachGoal (λ o. In o (together (goals_after c unit g others))) others
    go (reduces clause given) =
        let goals = goals_after (reduces clause given) unit g others in
        let woken : Waiting → Bool = wakes g.query given in
        record {
          queue =
              each_member _ others.queue
              (λ o i. in_queue goals (in_append_left (map (λ w. w.goal) (those woken others.waiting)) (in_append_left (body_goals clause unit g.query) i)));
          waiting = each_member (λ w. In w.goal (together goals)) others.waiting (λ w i. still clause given w i (woken w) refl);
          failed = each_member _ others.failed (λ o i. in_failed goals i);
        }
      where
        still : (clause : Clause) (given : List Assignment) (w : Waiting) → In w others.waiting → (b : Bool) → wakes g.query given w ≡ b
            → In w.goal (together (goals_after (reduces clause given) unit g others))
        still clause given w i true e =
            in_queue (goals_after (reduces clause given) unit g others)
            (in_append_right (others.queue ++ body_goals clause unit g.query) (in_map (λ (w : Waiting). w.goal) (in_those (wakes g.query given) i e)))
        still clause given w i false e =
            in_waiting (goals_after (reduces clause given) unit g others) (in_those (λ w. not (wakes g.query given w)) i (ap not e))
    go (joins_waiting readers) =
        let goals = goals_after (joins_waiting readers) unit g others in
        record {
          queue = each_member _ others.queue (λ o i. in_queue goals i);
          waiting =
              each_member (λ w. In w.goal (together goals)) others.waiting
              (λ w i. in_waiting goals (in_append_left (record { goal = g; readers = readers } ∷ []) i));
          failed = each_member _ others.failed (λ o i. in_failed goals i);
        }
    go joins_failed =
        let goals = goals_after joins_failed unit g others in
        record {
          queue = each_member _ others.queue (λ o i. in_queue goals i);
          waiting = each_member (λ w. In w.goal (together goals)) others.waiting (λ w i. in_waiting goals i);
          failed = each_member _ others.failed (λ o i. in_failed goals (in_append_left (g ∷ []) i));
        }

-- The goal that is taken is there unless it is reduced.
pub taken_stays : (c : Choice) (unit : QueryUnit) (g : Goal) (others : Goals) → ((clause : Clause) (given : List Assignment) → c ≡ reduces clause given → ⊥)
    → In g (together (goals_after c unit g others))
unfolding goals_after
taken_stays (reduces clause given) unit g others d = absurd (d clause given refl)
taken_stays (joins_waiting readers) unit g others d =
    in_waiting (goals_after (joins_waiting readers) unit g others) (in_append_right others.waiting (here {x = record { goal = g; readers = readers }} refl))
taken_stays joins_failed unit g others d =
    in_failed (goals_after joins_failed unit g others) (in_append_right others.failed (here refl))

-- A body's goals are there.
pub body_enters : (clause : Clause) (given : List Assignment) (unit : QueryUnit) (g : Goal) (others : Goals) (o : Goal)
    → In o (body_goals clause unit g.query) → In o (together (goals_after (reduces clause given) unit g others))
unfolding goals_after
body_enters clause given unit g others o m =
    in_queue (goals_after (reduces clause given) unit g others)
    (in_append_left (map (λ w. w.goal) (those (wakes g.query given) others.waiting)) (in_append_right others.queue m))

-- One of these goals, of the query at place k, has a chain to the reader of pair z.
pub record ReachedBy (k z : ℕ) (values : Values) (goals : Goals) (o : Goal) : Type 0 where
  pub present : In o (together goals)
  pub its_own : o.query ≡ k
  pub reached : Reaches values z o.goal.arguments

module _ (clauses : List Clause) (state : State) (g : Goal) (others : List Goal) (no_circle : NoCircle state) (k z : ℕ) where
  -- Whatever goal the step takes, another stays and keeps its chain.
  pub reached_by_stays : (o : Goal) → ReachedBy k z (unit_at k state.units).values (without_front others state.goals) o
      → let later = step (choice_for clauses state g) g others state in ReachedBy k z (unit_at k later.units).values later.goals o
  unfolding step
  reached_by_stays o r =
      record {
        present = others_stay (choice_for clauses state g) (unit_at g.query state.units) g (without_front others state.goals) o r.present;
        its_own = r.its_own;
        reached = reaches_kept _ (step_values_stay clauses state g others no_circle k) r.reached;
      }

  -- The goal that it takes does too, unless it is reduced.
  pub reached_by_taken_stays : ((clause : Clause) (given : List Assignment) → choice_for clauses state g ≡ reduces clause given → ⊥)
      → ReachedBy k z (unit_at k state.units).values state.goals g
      → let later = step (choice_for clauses state g) g others state in ReachedBy k z (unit_at k later.units).values later.goals g
  unfolding step
  reached_by_taken_stays not_reduced r =
      record {
        present = taken_stays (choice_for clauses state g) (unit_at g.query state.units) g (without_front others state.goals) not_reduced;
        its_own = r.its_own;
        reached = reaches_kept _ (step_values_stay clauses state g others no_circle k) r.reached;
      }

-- A goal of the body reads each reader that it holds; so does a goal of the queries before the first step.
body_own : (clause : Clause) (unit : QueryUnit) (query : ℕ) (o : Goal) → In o (body_goals clause unit query) → o.query ≡ query
unfolding body_goals
body_own clause unit query o m =
    each_in (λ o. o.query ≡ query)
    (each_goal_at (λ o. o.query ≡ query) (made_by clause unit) query (map (renamed_goal (next_pair unit) unit.compounds) clause.body)
    (each_all (λ b. query ≡ query) (λ b. refl) (map (renamed_goal (next_pair unit) unit.compounds) clause.body))) m

pub reached_by_body : (clauses : List Clause) (state : State) (g : Goal) (others : List Goal) (clause : Clause) (given : List Assignment)
    → choice_for clauses state g ≡ reduces clause given
    → (o : Goal) → In o (body_goals clause (unit_at g.query state.units) g.query) → (x : ℕ) → 1 ≤ all_occurrences reader x o.goal.arguments
    → let later = step (choice_for clauses state g) g others state in ReachedBy g.query x (unit_at g.query later.units).values later.goals o
unfolding step
reached_by_body clauses state g others clause given chosen o m x held =
    let unit = unit_at g.query state.units in
    record {
      present = rw chosen (body_enters clause given unit g (without_front others state.goals) o m);
      its_own = body_own clause unit g.query o m;
      reached = chains.here {ts = o.goal.arguments} held;
    }

pub reached_at_start : (queries : List Query) (o : Goal) → In o (start queries).goals.queue → (x : ℕ) → 1 ≤ all_occurrences reader x o.goal.arguments
    → ReachedBy o.query x (unit_at o.query (start queries).units).values (start queries).goals o
reached_at_start queries o m x held =
    record { present = in_queue (start queries).goals m; its_own = refl; reached = chains.here {ts = o.goal.arguments} held }
