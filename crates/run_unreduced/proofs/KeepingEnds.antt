-- The goal in front waits, and the ends to which its arguments lead are kept: the state and all else stays as it was.
use Prim.Native.Nat.{ℕ, ◌+◌, ◌*◌, ◌≤◌, ◌<◌}
use mathlib.Core.Path.{◌≡◌, refl, ap, ◌∙◌}
use mathlib.Core.Logic.{◌⊎◌, inl, inr}
use mathlib.Core.List.{List}
use native.Mathlib.Omega.{arith}
use lib.ListN.{length, get_or}
use Rattle.meaning.specs.Bytes.{Bytes}
use Rattle.meaning.specs.Terms.{Job, named, as_term}
use Rattle.meaning.specs.State.{Room, QueryUnit, Goal}
use Rattle.meaning.specs.Run.{run}
use Rattle.term.specs.Jobs.{JobKept}
use Rattle.term.specs.Layout.{values_region, readers_region, ends_region, queue_region, query_record, query_first_pair_word, query_tries_word}
use Rattle.term.specs.Setting.{Setting}
use Rattle.term.specs.States.{Atlas, setting_at}
use Rattle.term.specs.declared.state.Standing.{Standing}
use Rattle.term.specs.Goals.{origin_word, place_in}
use Rattle.term.proofs.Goals.{goal_place}
use Rattle.run_chains.specs.Follow.{Keeps, EndsKept}
use Rattle.run_queues.specs.Log.{Slot}
use Rattle.run_queues.proofs.Listed.{listed_kept}
use Rattle.run_between.specs.Running.{RunOnly, EndAt, AllEnds, StepIs}
use Rattle.run_between.specs.Taking.{Taken, JoiningWaiting}
use Rattle.std.specs.Prelude.{Option}
use Rattle.run_between.proofs.Ends.{end_at_alike, find}
use Rattle.run_unreduced.proofs.Failing.{front_query, query_below}
use Rattle.run_between.proofs.Frames.{cells_before, units_same}
use Rattle.run_between.proofs.GroundMarks.{grounds_alike}
use Rattle.run_between.proofs.FramesRunning.{StateKept, state_units_kept, unit_ends, running_kept, run_only_then, front_stands, front_low}

module _ {s : List ℕ} {text : Bytes} {names : List Bytes} {j : Job} {figures : Room} {limit : ℕ} {atlas : Atlas} {slots : List Slot}
    {g : Goal} {others : List Goal} {t : Standing} {goal query n : ℕ} {readers : List ℕ}
    (k : Taken s text names j figures limit atlas slots g others t) (joins : JoiningWaiting s j figures limit atlas g goal query n readers) where
  abbrev pub x : Setting
  x = setting_at figures atlas (run j limit figures).state.units g.query

  here : g.query < length (run j limit figures).state.units
  here = front_query s text names j figures limit atlas slots g others t k

  pub keeps : (place : ℕ) → place ≡ place_in goal
      → Keeps s x (values_region figures) figures.pairs g.goal.number (named g.goal.name) g.goal.arguments place
  unfolding as_term
  keeps place e =
      let h = k.running.state in
      record {
        keepable = record {
          chained = record {
            stands = h.units.unit g.query here;
            links_are = refl;
            ends = unit_ends s text names j figures limit atlas slots t (t.steps * 32768 + 32770) k.running g.query here;
          };
          apart = λ n m a b e. (h.lies.pair_apart g.query g.query n m here here a b e).1;
          before = λ n a. omega (arith, h.lies.compound_below g.query n here a, cells_before h.lies);
        };
        term = (front_stands s names figures j.queries atlas (run j limit figures).state t h g others k.front).term;
        place = e ∙ ap (λ w. place_in w) joins.goal_is
            ∙ goal_place g.query ((atlas g.query).compound g.goal.number) (query_below s text names j figures limit atlas slots g others t k)
            (front_low s names figures j.queries atlas (run j limit figures).state t h g others k.front k.running.in_range) (origin_word g.origin);
      }

  module _ {s' : List ℕ} (kept : EndsKept s s' x (values_region figures) figures.pairs) where
    pair_small : (m : ℕ) → m < length x.values → (atlas g.query).pair m < figures.pairs
    pair_small m b = omega (arith, k.running.state.lies.pair_below g.query m here b, k.running.state.lies.pairs_fit)

    low : (w : ℕ) → w < ends_region figures → get_or s' w 0 ≡ get_or s w 0
    low w a = kept.others w (λ m b z. omega arith)

    high : (w : ℕ) → queue_region figures ≤ w → get_or s' w 0 ≡ get_or s w 0
    high w a = kept.others w (λ m b z. omega (arith, pair_small m b))

    state_stays : StateKept figures s s'
    state_stays = record {
      size = kept.size;
      first_pairs = λ q h. low (query_first_pair_word q) (omega arith);
      tries = λ q h. low (query_tries_word q) (omega arith);
      units = λ w a b. low w (omega arith);
      goals = λ w a b. high w a;
    }

    job_stays : JobKept s s'
    job_stays = record {
      size = omega (arith, kept.size);
      before = λ w h. low w (omega arith);
      records = λ q i h m a b. low (query_record q + i) (omega arith);
      items = λ w a b. low w (omega arith);
    }

    -- The ends of the goal's own unit are right; another's words stay.
    all_ends : AllEnds s' figures atlas (run j limit figures).state.units
    all_ends p h d = go (find (atlas g.query).pair p (length x.values))
      where
        units : List QueryUnit
        units = (run j limit figures).state.units

        go : ((m : ℕ) × (m < length x.values) × ((atlas g.query).pair m ≡ p)) ⊎ ((m : ℕ) → m < length x.values → (atlas g.query).pair m ≡ p → ⊥)
            → EndAt s' figures atlas units p (get_or s' (ends_region figures + p) 0)
        go (inl (m, b, e)) =
            let same : get_or s' (ends_region figures + p) 0 ≡ get_or s' (ends_region figures + (atlas g.query).pair m) 0 = rw e refl in
            record {
              query = g.query;
              known = here;
              pair = m;
              inside = b;
              place = e;
              end = rw same (kept.keepable.chained.ends.kept m b (λ z. d (same ∙ z)));
            }
        go (inr none) =
            let same = kept.others (ends_region figures + p) (λ m b z. none m b (omega arith)) in
            let st = (run j limit figures).state in
            rw same
            (end_at_alike s s' names figures atlas units units st.pairs st.compounds t.cells k.running.state.lies
            (state_units_kept figures s s' t.cells (cells_before k.running.state.lies) state_stays) (units_same units)
            p (get_or s (ends_region figures + p) 0) (k.running.ends p h (λ z. d (same ∙ z))))

    pub still_taken : Taken s' text names j figures limit atlas slots g others t
    still_taken = record {
      running = running_kept s text names j figures limit atlas slots t (t.steps * 32768 + 32770) k.running s' (t.steps * 32768 + 32770)
          state_stays job_stays (λ w a b. low w (omega arith)) (λ w a b. rw (low w (omega arith)) (k.running.marks w a b)) all_ends
          (grounds_alike s s' figures atlas (run j limit figures).state.units (run j limit figures).state.units (λ w a b. low w (omega arith))
          (units_same (run j limit figures).state.units) k.running.grounds);
      front = k.front;
      more = k.more;
    }

    pub still_joins : JoiningWaiting s' j figures limit atlas g goal query n readers
    still_joins = record {
      goal_is = joins.goal_is;
      query_is = joins.query_is;
      chosen = joins.chosen;
      few = joins.few;
      listed_are = listed_kept s s' (readers_region figures) n (λ w a b. low w (omega (arith, joins.few))) ∙ joins.listed_are;
      inside = joins.inside;
    }

    pub step_kept : {s₂ : List ℕ} {answer : Option Standing} → StepIs s' s₂ text names j figures limit atlas g others t answer
        → StepIs s s₂ text names j figures limit atlas g others t answer
    step_kept {s₂} is = record {
      only = run_only_then figures s s' s₂ only is.only;
      told = is.told;
    }
      where
        only : RunOnly figures s s'
        only = record {
          size = kept.size;
          before = λ w h. low w (omega arith);
          records = λ q i h m a. low (query_record q + i) (omega arith);
          items = λ w a b. low w (omega arith);
          behind = λ w a. high w (omega arith);
        }
