-- The call: what one that ran left in its buffer; and the length that it returns never passes the ceiling: 0 on 1 to 7, below it on 0, cut to it on 8.
-- No case can show the latter, since no report of 16,777,217 bytes is computed here.
pub mod Delivered
pub mod Need
pub mod Offset
pub mod OffsetExample
use Prim.Native.Nat.{ℕ, ◌≤◌}
use mathlib.Core.Path.{◌≡◌, refl}
use mathlib.Core.Bool.{not, ◌&&◌}
use native.Mathlib.Omega.{arith}
use lib.Dec.{leb, ltb}
use lib.ListN.{length}
use borrow.Author.Tests.{leb-true}
use Rattle.meaning.specs.Bytes.{Bytes}
use Rattle.meaning.specs.Terms.{Job}
use Rattle.meaning.specs.Items.{Refusal, no_item, guard_rule, occurrence_rule, figure, no_query, Reading, job, refused, reading}
use Rattle.meaning.specs.State.{Room}
use Rattle.meaning.specs.Run.{run, queries_fit}
use Rattle.meaning.specs.Report.{report}
use Rattle.meaning.specs.Call.{Given, Outcome, length_of, in_range, refusal, untouched, refuses, reports, delivered, runs, taken, call}
use Rattle.laws.proofs.Lists.{if_holds, and_right}
-- A call that ran read a job from its text, returned the length of that job's report, and left it at the front of its buffer.
pub use Delivered.{Ran, ran_read_a_job, ran_reports, report_is_run_line_and_sections, ran_returns_the_length, ran_shows_the_report}
-- Answer and report buffer are the same with any need that the scratch has.
pub use Need.{Agree, lending, answer_does_not_hang_on_the_need, answer_with_any_need, case_with_any_need}
-- The byte offset of 4, 5, 9 and 10: 0 with every other number; of 4 a token's start or the text's length, of the others where the item's first
-- fault is spelled.
pub use Offset.{StoppedAnswer, stopped_answer, BrokenAnswer, broken_answer, GuardAnswer, guard_answer, offset_with_four_numbers, OffsetSpelled, offset_spelled, spelling_inside}

Within : Outcome → Type 0
Within o = length_of o.answer ≤ 16777217

refusal_short : (text : Bytes) (r : Refusal) → length_of (refusal text r) ≡ 0
unfolding refusal length_of
refusal_short text (no_item place) = refl
refusal_short text (guard_rule place) = refl
refusal_short text (occurrence_rule place fault) = refl
refusal_short text (figure place) = refl
refusal_short text no_query = refl

module _ (need : ℕ) (given : Given) where
  delivered_within : (written : Bytes) → Within (delivered need written given)
  unfolding Within delivered reports refuses length_of
  delivered_within written =
      if_holds Within (leb (length written) (length given.buffer) && leb (length written) 16777216) _ _
      (λ e. omega (arith, leb-true (length written) 16777216 (and_right (leb (length written) (length given.buffer)) (leb (length written) 16777216) e)))
      (λ e. omega arith)

  runs_within : (j : Job) → Within (runs need j given)
  unfolding Within runs refuses length_of
  runs_within j =
      if_holds Within (queries_fit given.room j.queries) _ _
      (λ e. delivered_within (report j.queries (run j given.budget given.room)))
      (λ e. omega arith)

  taken_within : (r : Reading) → Within (taken need r given)
  unfolding Within taken refuses
  taken_within (job j) = runs_within j
  taken_within (refused r) = omega (arith, refusal_short given.text r)

-- "The smaller of its length and 16,777,217 is returned."
pub length_at_most : (need : Room → ℕ) (given : Given) → length_of (call need given).answer ≤ 16777217
unfolding Within call untouched length_of
length_at_most need given =
    if_holds Within (not (in_range given.budget given.room)) _ _ (λ e. omega arith)
    (λ e. if_holds Within (ltb (length given.scratch) (need given.room)) _ _ (λ e. omega arith)
    (λ e. if_holds Within (ltb 16384 (length given.text)) _ _ (λ e. omega arith)
    (λ e. taken_within (need given.room) given (reading given.text))))
