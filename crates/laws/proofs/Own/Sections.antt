-- Demand 3: a query's section depends on its clauses, on the query and on its number of tries alone, and at rest not even on that number.
-- Both runs make of the query the same own run: as many steps of it as the tries say, and at rest all of it.
use Prim.Native.Nat.{ℕ, zero, suc, ◌<◌, ◌+◌}
use mathlib.Core.Path.{◌≡◌, refl, sym, ap, ◌∙◌}
use mathlib.Core.List.{List, [], ◌∷◌}
use native.Mathlib.Nat.{not-suc-le-zero, le_of_suc-le-suc}
use native.Mathlib.Omega.{arith}
use lib.ListN.{length, get_or}
use Rattle.meaning.specs.Bytes.{those}
use Rattle.meaning.specs.Terms.{Clause, Job, Query}
use Rattle.meaning.specs.State.{Room, Goal, Part, goals_of, part_of, State}
use Rattle.meaning.specs.Run.{rest, run}
use Rattle.meaning.specs.Report.{section, sections}
use Rattle.laws.proofs.Lists.{differ}
use Rattle.laws.proofs.Runs.{rest_exactly_if_queue_empty}
use Rattle.laws.proofs.Own.Steps.{Some, Goes, own_step, own_steps, first_part, query_at, tries_of, part_is_own_steps, own_steps_take_goals}

nothing_in_front : (queue : List Goal) → queue ≡ [] → Some queue → ⊥
unfolding Some
nothing_in_front [] e s = s
nothing_in_front (g ∷ others) e s = differ (cc)

-- An own run comes to rest after one number of steps.
own_rest_once : (m n : ℕ) (clauses : List Clause) (part : Part) → Goes m clauses part → Goes n clauses part
    → (own_steps m clauses part).goals.queue ≡ [] → (own_steps n clauses part).goals.queue ≡ [] → m ≡ n
unfolding Goes own_steps
own_rest_once zero zero clauses part a b e f = refl
own_rest_once zero (suc n) clauses part a b e f = absurd (nothing_in_front part.goals.queue e b.0)
own_rest_once (suc m) zero clauses part a b e f = absurd (nothing_in_front part.goals.queue f a.0)
own_rest_once (suc m) (suc n) clauses part a b e f = ap suc (own_rest_once m n clauses (own_step clauses part) a.1 b.1 e f)

same_rest_once : (m n : ℕ) (clauses₁ clauses₂ : List Clause) (part₁ part₂ : Part) → clauses₁ ≡ clauses₂ → part₁ ≡ part₂
    → Goes m clauses₁ part₁ → Goes n clauses₂ part₂
    → (own_steps m clauses₁ part₁).goals.queue ≡ [] → (own_steps n clauses₂ part₂).goals.queue ≡ [] → m ≡ n
same_rest_once m n clauses₁ clauses₂ part₁ part₂ p q a b e f =
    own_rest_once m n clauses₂ part₂ (rw (p, q) at a) b (rw (p, q) at e) f

-- Where the run rests, the query's own queue is empty.
own_queue_empty : (job : Job) (limit : ℕ) (figures : Room) (k : ℕ) → (run job limit figures).verdict ≡ rest
    → (part_of k (run job limit figures).state).goals.queue ≡ []
unfolding part_of goals_of those
own_queue_empty job limit figures k e =
    let empty : (run job limit figures).state.goals.queue ≡ [] = (rest_exactly_if_queue_empty job limit figures).0 e in
    rw empty

-- The section of the query at place k stands at place k.
sections_from : (k place i : ℕ) (qs : List Query) (state : State) → k ≡ place + i → i < length qs
    → get_or (sections place qs state) i [] ≡ section k (query_at i qs) (part_of k state)
unfolding sections query_at
sections_from k place i [] state e h = absurd (not-suc-le-zero h)
sections_from k place zero (q ∷ qs) state e h = let here : place ≡ k = omega arith in rw here
sections_from k place (suc i) (q ∷ qs) state e h = sections_from k (suc place) i qs state (omega arith) (le_of_suc-le-suc h)

pub section_at_its_place : (k : ℕ) (queries : List Query) (state : State) → k < length queries
    → get_or (sections 0 queries state) k [] ≡ section k (query_at k queries) (part_of k state)
section_at_its_place k queries state h = sections_from k 0 k queries state (omega arith) h

-- Two jobs with the same clauses and the same query at place k, run under any budgets and in any rooms.
pub record Alike (k : ℕ) (job₁ job₂ : Job) : Type 0 where
  pub place₁ : k < length job₁.queries
  pub place₂ : k < length job₂.queries
  pub clauses : job₁.clauses ≡ job₂.clauses
  pub query : query_at k job₁.queries ≡ query_at k job₂.queries

module _ (k : ℕ) (job₁ job₂ : Job) (alike : Alike k job₁ job₂) (limit₁ limit₂ : ℕ) (figures₁ figures₂ : Room) where
  same_own_run : (n : ℕ) → own_steps n job₁.clauses (first_part k (query_at k job₁.queries))
      ≡ own_steps n job₂.clauses (first_part k (query_at k job₂.queries))
  same_own_run n = rw (alike.clauses, alike.query)

  -- Equal tries, equal parts: the query's unit, and its goals in each of the three lists.
  pub equal_tries_equal_parts : tries_of k (run job₁ limit₁ figures₁).state ≡ tries_of k (run job₂ limit₂ figures₂).state
      → part_of k (run job₁ limit₁ figures₁).state ≡ part_of k (run job₂ limit₂ figures₂).state
  equal_tries_equal_parts e =
      part_is_own_steps job₁ limit₁ figures₁ k alike.place₁
      ∙ (rw e (same_own_run (tries_of k (run job₂ limit₂ figures₂).state)))
      ∙ sym (part_is_own_steps job₂ limit₂ figures₂ k alike.place₂)

  -- Demand 3, first part: equal tries of the query give equal sections, byte for byte, also where a run was stopped.
  pub equal_tries_equal_sections : tries_of k (run job₁ limit₁ figures₁).state ≡ tries_of k (run job₂ limit₂ figures₂).state
      → section k (query_at k job₁.queries) (part_of k (run job₁ limit₁ figures₁).state)
      ≡ section k (query_at k job₂.queries) (part_of k (run job₂ limit₂ figures₂).state)
  equal_tries_equal_sections e = rw (alike.query, equal_tries_equal_parts e)

  -- Demand 3, second part: where both runs rest the tries are equal.
  pub both_rest_equal_tries : (run job₁ limit₁ figures₁).verdict ≡ rest → (run job₂ limit₂ figures₂).verdict ≡ rest
      → tries_of k (run job₁ limit₁ figures₁).state ≡ tries_of k (run job₂ limit₂ figures₂).state
  both_rest_equal_tries rests₁ rests₂ =
      same_rest_once _ _ _ _ _ _ alike.clauses (ap (first_part k) alike.query)
      (own_steps_take_goals job₁ limit₁ figures₁ k alike.place₁)
      (own_steps_take_goals job₂ limit₂ figures₂ k alike.place₂)
      (rw (part_is_own_steps job₁ limit₁ figures₁ k alike.place₁) at (own_queue_empty job₁ limit₁ figures₁ k rests₁))
      (rw (part_is_own_steps job₂ limit₂ figures₂ k alike.place₂) at (own_queue_empty job₂ limit₂ figures₂ k rests₂))

  -- So are the sections.
  pub both_rest_equal_sections : (run job₁ limit₁ figures₁).verdict ≡ rest → (run job₂ limit₂ figures₂).verdict ≡ rest
      → section k (query_at k job₁.queries) (part_of k (run job₁ limit₁ figures₁).state)
      ≡ section k (query_at k job₂.queries) (part_of k (run job₂ limit₂ figures₂).state)
  both_rest_equal_sections rests₁ rests₂ = equal_tries_equal_sections (both_rest_equal_tries rests₁ rests₂)
