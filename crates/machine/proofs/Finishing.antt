-- From the queries entered to the run, and from the run's end to what the report is given.
use Prim.Native.Nat.{ℕ, ◌+◌, ◌≤◌, ◌<◌}
use mathlib.Core.Path.{◌≡◌, refl, subst, ◌∙◌}
use mathlib.Core.List.{List, []}
use native.Mathlib.Omega.{arith}
use lib.ListN.{length, get_or}
use Rattle.meaning.specs.Bytes.{Bytes}
use Rattle.meaning.specs.Terms.{Job}
use Rattle.meaning.specs.State.{Room, start}
use Rattle.meaning.specs.Run.{run}
use Rattle.term.specs.Jobs.{HoldsJob, KeptButIndex}
use Rattle.term.specs.Layout.{waiters_region, marks_region, ends_region, clause_record, query_record}
use Rattle.term.specs.States.{Atlas, Ready, Finished}
use Rattle.term.specs.declared.state.Standing.{Standing}
use Rattle.term.specs.declared.state.Verdict.{Verdict}
use Rattle.term.proofs.Jobs.{holds_job_but_index}
use Rattle.term.proofs.Spellings.{holds_text_kept}
use Rattle.term.proofs.Zeroing.{pairs_zero_kept}
use Rattle.run_queues.specs.Log.{present}
use Rattle.run_index.specs.Index.{Indexed, IndexOnly}
use Rattle.run_index.proofs.Kept.{indexed_kept}
use Rattle.run_enter.specs.Entering.{EnterOnly, Entered}
use Rattle.run_between.specs.Running.{RunOnly, Running}
use Rattle.run_between.proofs.GroundMarks.{grounds_none}
use Rattle.machine.specs.Ending.{Untouched, GoneOn, RanIs}
use Rattle.std.specs.Prelude.{Some}
use Rattle.machine.proofs.Going.{run_starts}

-- All queries are entered: the run is at its start, and nobody waits.
pub entered_running : (s : List ℕ) (text : Bytes) (names : List Bytes) (j : Job) (figures : Room) (atlas : Atlas) (t : Standing)
    → Indexed s (length j.clauses) → Entered s text names j figures j.queries atlas t → Running s text names j figures 0 atlas [] t 2 × (t.steps ≡ 0)
unfolding present start
entered_running s text names j figures atlas t indexed e =
    let none : t.steps ≡ 0 = e.state.steps in
    let waiters_none : (p : ℕ) → p < figures.pairs → get_or s (waiters_region figures + p) 0 ≡ 0 =
    λ p l. e.room_zero.values_waiters (waiters_region figures + p) (omega arith) (omega arith) in (
      record {
        in_range = e.in_range;
        inside = e.inside;
        reads = e.reads;
        fit = e.fit;
        few_steps = omega (arith, none);
        held = e.held;
        indexed = indexed;
        state = rw (run_starts j figures) e.state;
        log = record {
          waiters_first = omega arith;
          sets_next = omega arith;
          inside = omega (arith, e.inside);
          stands = λ i l. absurd (omega arith);
          waiter = λ p i l w. absurd (omega (arith, waiters_none p l, w));
        };
        log_number = e.log;
        waiting = rw (run_starts j figures) refl;
        marks = λ k l m. omega (arith, e.room_zero.marks k (omega arith) (omega arith));
        ends = λ p l d. absurd (d (e.room_zero.ends (ends_region figures + p) (omega arith) (omega arith)));
        grounds = grounds_none s figures atlas (run j 0 figures).state.units (λ p l. e.room_zero.marks (marks_region figures + p) (omega arith) (omega arith));
      },
      none,
    )

-- A job that is ready is so when the index is built, which entering keeps.
pub ready_indexed : (figures : Room) (s s' : List ℕ) (text : Bytes) (names : List Bytes) (j : Job) → IndexOnly s s' → Ready s text names figures j → Ready s' text names figures j
ready_indexed figures s s' text names j i r =
    let kept : KeptButIndex s s' = record {
      size = omega (arith, i.size);
      before = i.below;
      clauses = i.clauses;
      records = λ q w h m a b. i.above (query_record q + w) (omega arith);
      items = λ k a b. i.above k (omega arith);
    } in
    record {
      in_range = r.in_range;
      inside = omega (arith, r.inside, i.size);
      reads = r.reads;
      held = holds_job_but_index s s' names kept j r.held;
      text_held = holds_text_kept s s' text names j r.held kept r.text_held;
      records_zero = λ q w h e. i.above (query_record q + w) (omega arith) ∙ r.records_zero q w h e;
      zero = pairs_zero_kept s s' figures (λ k a b. i.above k (omega arith)) r.zero;
    }

pub entered_indexed : (figures : Room) (s s' : List ℕ) (names : List Bytes) (j : Job) → HoldsJob s names j → HoldsJob s' names j → EnterOnly figures s s'
    → Indexed s (length j.clauses) → Indexed s' (length j.clauses)
entered_indexed figures s s' names j held held' e = indexed_kept s s' names j held held' e.before 0

-- The index is built and all queries are entered.
pub built_running : (figures : Room) (s₀ sᵢ s₁ : List ℕ) (text : Bytes) (names : List Bytes) (j : Job) (atlas : Atlas) (t : Standing) (clauses : ℕ)
    → Ready s₀ text names figures j → clauses ≡ length j.clauses → IndexOnly s₀ sᵢ → Indexed sᵢ clauses → EnterOnly figures sᵢ s₁
    → Entered s₁ text names j figures j.queries atlas t → Running s₁ text names j figures 0 atlas [] t 2 × (t.steps ≡ 0)
built_running figures s₀ sᵢ s₁ text names j atlas t clauses ready count i indexed e entered =
    entered_running s₁ text names j figures atlas t
    (entered_indexed figures sᵢ s₁ names j (ready_indexed figures s₀ sᵢ text names j i ready).held entered.held e (subst (Indexed sᵢ) count indexed)) entered

-- Neither building the index nor entering nor running changes these words.
pub built_then_run : (figures : Room) (s₀ s t u : List ℕ) → IndexOnly s₀ s → EnterOnly figures s t → RunOnly figures t u → Untouched figures s₀ u
built_then_run figures s₀ s t u i e r =
    record {
      size = omega (arith, i.size, e.size, r.size);
      before = λ k h. r.before k (omega arith) ∙ e.before k (omega arith) ∙ i.below k h;
      clauses = λ c k h m. r.before (clause_record c + k) (omega arith) ∙ e.before (clause_record c + k) (omega arith) ∙ i.clauses c k h m;
      records = λ q k h m a b. r.records q k h m b ∙ e.records q k h m a ∙ i.above (query_record q + k) (omega arith);
      items = λ k h m. r.items k h m ∙ e.items k h (omega arith) ∙ i.above k (omega arith);
      behind = λ k h. r.behind k h ∙ e.behind k h ∙ i.above k (omega arith);
    }

untouched_job : (figures : Room) (s s' : List ℕ) → Untouched figures s s' → KeptButIndex s s'
untouched_job figures s s' u = record { size = omega (arith, u.size); before = u.before; clauses = u.clauses; records = u.records; items = u.items }

-- The run has ended.
pub finished : (figures : Room) (s₀ sᵢ s₁ s : List ℕ) (text : Bytes) (names : List Bytes) (j : Job) (atlas : Atlas) (first : Standing) (limit : ℕ) (v : Verdict) (t : Standing)
    → Ready s₀ text names figures j → IndexOnly s₀ sᵢ → EnterOnly figures sᵢ s₁ → Entered s₁ text names j figures j.queries atlas first → RunOnly figures s₁ s
    → limit ≤ 1000000 → GoneOn s names j figures limit (v, t)
    → Untouched figures s₀ s × Finished s text names figures j limit v t
finished figures s₀ sᵢ s₁ s text names j atlas first limit v t ready i e entered r few g =
    let all = built_then_run figures s₀ sᵢ s₁ s i e r in
    let kept = untouched_job figures s₀ s all in (
      all,
      record {
        in_range = ready.in_range;
        inside = omega (arith, ready.inside, all.size);
        reads = ready.reads;
        held = holds_job_but_index s₀ s names kept j ready.held;
        text_held = holds_text_kept s₀ s text names j ready.held kept ready.text_held;
        fit = entered.fit;
        limit_fits = few;
        verdict = g.0;
        atlas = g.1;
        state = g.2;
      },
    )

pub ran_is : (figures : Room) (s₀ sᵢ s₁ s : List ℕ) (text : Bytes) (names : List Bytes) (j : Job) (atlas : Atlas) (first : Standing) (limit : ℕ) (r : Verdict × Standing)
    → Ready s₀ text names figures j → IndexOnly s₀ sᵢ → EnterOnly figures sᵢ s₁ → Entered s₁ text names j figures j.queries atlas first → RunOnly figures s₁ s
    → limit ≤ 1000000 → GoneOn s names j figures limit r → RanIs s₀ s text names j figures limit (Some r)
ran_is figures s₀ sᵢ s₁ s text names j atlas first limit (v, t) ready i e entered r few g =
    finished figures s₀ sᵢ s₁ s text names j atlas first limit v t ready i e entered r few g
