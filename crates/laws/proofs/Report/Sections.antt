-- The report cut by its bytes alone gives the run line and the sections, for every job whose names hold no LF and whose variables begin with no `q`.
-- Such is every job that a text gives.
use Prim.Native.Nat.{ℕ, suc}
use mathlib.Core.Path.{◌≡◌, refl}
use mathlib.Core.List.{List, [], ◌∷◌, ◌++◌}
use Rattle.meaning.specs.Bytes.{Bytes, byte, bytes, decimal}
use Rattle.meaning.specs.Terms.{Query, Job}
use Rattle.meaning.specs.State.{State, Room, part_of}
use Rattle.meaning.specs.Run.{Verdict, rest, budget, room, Ended, run}
use Rattle.meaning.specs.Report.{sections, verdict_bytes, run_line, report}
use Rattle.laws.proofs.Lists.{Each}
use Rattle.laws.proofs.Runs.AllGoals.{each_goal_of}
use Rattle.laws.proofs.Report.Spelled.{GoalSpelled}
use Rattle.laws.proofs.Report.SpelledRun.{JobSpelled, StateSpelled, unit_at_spelled, run_spelled}
use Rattle.laws.proofs.Report.Cut.{Plain, no_break, Inner, SectionLines, cut, cut_line_and_sections}
use Rattle.laws.proofs.Report.Lines.{word_and_number, section_lines}

-- No name of the job holds an LF, and no variable begins with `q`.
pub record Lined (job : Job) : Type 0 where
  pub names : JobSpelled Plain job
  pub variables : Each (λ q. Each Inner q.variables) job.queries

sections_lines : (place : ℕ) (qs : List Query) (state : State) → Each (λ q. Each Inner q.variables) qs → StateSpelled Plain state
    → Each SectionLines (sections place qs state)
unfolding sections part_of
sections_lines place [] state v s = tt
sections_lines place (q ∷ qs) state v s = (
  section_lines place q (part_of place state)
      (record {
        variables = v.0;
        unit = unit_at_spelled Plain place state.units s.units;
        goals = each_goal_of (λ g. GoalSpelled Plain g.goal) place state.goals s.goals;
      }),
  sections_lines (suc place) qs state v.1 s,
)

-- The run line without its LF.
run_line_body : Ended → Bytes
run_line_body last = bytes "run " ++ verdict_bytes last.verdict ++ bytes " steps " ++ decimal last.state.steps

verdict_plain : (verdict : Verdict) → Plain (bytes "run " ++ verdict_bytes verdict)
unfolding verdict_bytes no_break bytes byte
verdict_plain rest = refl
verdict_plain budget = refl
verdict_plain room = refl

run_line_plain : (last : Ended) → Plain (run_line_body last)
unfolding run_line_body no_break bytes byte
run_line_plain last = word_and_number (bytes "run " ++ verdict_bytes last.verdict) (bytes " steps ") last.state.steps (verdict_plain last.verdict) refl

-- A report, cut before each line that begins with `q`, is the run line and the sections in the queries' order.
pub report_cut : (job : Job) (limit : ℕ) (figures : Room) → Lined job
    → cut (report job.queries (run job limit figures))
    ≡ run_line (run job limit figures) ∷ sections 0 job.queries (run job limit figures).state
unfolding report run_line run_line_body
report_cut job limit figures l =
    cut_line_and_sections (run_line_body (run job limit figures)) (sections 0 job.queries (run job limit figures).state)
    (run_line_plain (run job limit figures))
    (sections_lines 0 job.queries (run job limit figures).state l.variables (run_spelled Plain job limit figures l.names))
