-- A call that ran read a job, and its buffer begins with that job's report: the run line, then one section for each query.
-- Every other way through the call gives another answer.
use Prim.Native.Nat.{ℕ}
use mathlib.Core.Path.{◌≡◌, refl, sym, ◌∙◌}
use mathlib.Core.Bool.{Bool, true, false, not}
use mathlib.Core.List.{List, [], ◌++◌}
use lib.Dec.{ltb}
use lib.ListN.{length, take, drop}
use lib.Seq.{take_at}
use Rattle.meaning.specs.Bytes.{Bytes, when◌then◌else◌, joined}
use Rattle.meaning.specs.Terms.{Job}
use Rattle.meaning.specs.Items.{Refusal, no_item, guard_rule, occurrence_rule, figure, no_query, Reading, job, refused, reading}
use Rattle.meaning.specs.State.{Room}
use Rattle.meaning.specs.Run.{run, queries_fit}
use Rattle.meaning.specs.Report.{sections, run_line, report}
use Rattle.meaning.specs.Call.{Given, ran, Outcome, in_range, refusal, untouched, refuses, reports, delivered, runs, taken, call}
use Rattle.laws.proofs.Lists.{differ}

-- Of two ways, one of which never gives this answer, the other was taken.
module _ (n : ℕ) where
  Gives : Outcome → Type 0
  Gives o = o.answer ≡ ran n

  first_taken : (b : Bool) (x y : Outcome) → (Gives y → ⊥) → Gives (when b then x else y) → (when b then x else y) ≡ x
  unfolding when◌then◌else◌
  first_taken true x y h r = refl
  first_taken false x y h r = absurd (h r)

  second_taken : (b : Bool) (x y : Outcome) → (Gives x → ⊥) → Gives (when b then x else y) → (when b then x else y) ≡ y
  unfolding when◌then◌else◌
  second_taken true x y h r = absurd (h r)
  second_taken false x y h r = refl

module _ (n : ℕ) (given : Given) where
  refusal_never_ran : (r : Refusal) → refusal given.text r ≡ ran n → ⊥
  unfolding refusal
  refusal_never_ran (no_item place) e = differ (cc)
  refusal_never_ran (guard_rule place) e = differ (cc)
  refusal_never_ran (occurrence_rule place fault) e = differ (cc)
  refusal_never_ran (figure place) e = differ (cc)
  refusal_never_ran no_query e = differ (cc)

  delivered_ran : (need : ℕ) (written : Bytes) → Gives n (delivered need written given) → delivered need written given ≡ reports need written given
  unfolding Gives delivered refuses
  delivered_ran need written r = first_taken n _ _ _ (λ e. differ (cc)) r

  runs_ran : (need : ℕ) (j : Job) → Gives n (runs need j given)
      → runs need j given ≡ reports need (report j.queries (run j given.budget given.room)) given
  unfolding Gives runs refuses
  runs_ran need j r =
      let deliver = first_taken n (queries_fit given.room j.queries) _ _ (λ e. differ (cc)) r in
      deliver ∙ delivered_ran need _ (rw deliver at r)

  call_ran : (need : Room → ℕ) → Gives n (call need given) → call need given ≡ taken (need given.room) (reading given.text) given
  unfolding Gives call untouched
  call_ran need r =
      let ranges = second_taken n (not (in_range given.budget given.room)) _ _ (λ e. differ (cc)) r in
      let scratches = second_taken n (ltb (length given.scratch) (need given.room)) _ _ (λ e. differ (cc)) (rw ranges at r) in
      let texts = second_taken n (ltb 16384 (length given.text)) _ _ (λ e. differ (cc)) (rw (ranges, scratches) at r) in
      ranges ∙ scratches ∙ texts

-- A call that ran, with the length that it returned and the job that it read.
pub record Ran (need : Room → ℕ) (given : Given) (n : ℕ) (j : Job) : Type 0 where
  pub answers : (call need given).answer ≡ ran n
  pub reads : reading given.text ≡ job j

-- A call that ran read a job from its text.
pub ran_read_a_job : (need : Room → ℕ) (given : Given) (n : ℕ) → (call need given).answer ≡ ran n → (j : Job) × Ran need given n j
unfolding Gives taken refuses
ran_read_a_job need given n r = go (reading given.text) refl
  where
    go : (read : Reading) → reading given.text ≡ read → (j : Job) × Ran need given n j
    go (job j) e = (j, record { answers = r; reads = e })
    go (refused why) e = absurd (refusal_never_ran n given why (rw (call_ran n given need r, e) at r))

-- It ends with that job's report delivered.
pub ran_reports : (need : Room → ℕ) (given : Given) (n : ℕ) (j : Job) → Ran need given n j
    → call need given ≡ reports (need given.room) (report j.queries (run j given.budget given.room)) given
unfolding Gives taken
ran_reports need given n j r =
    let takes : call need given ≡ runs (need given.room) j given = call_ran n given need r.answers ∙ rw r.reads in
    takes ∙ runs_ran n given (need given.room) j (rw takes at r.answers)

-- The report of a job under the budget and in the room of a call, and its sections in the queries' order.
unfoldable pub report_for : Given → Job → Bytes
report_for given j = report j.queries (run j given.budget given.room)

unfoldable pub sections_for : Given → Job → List Bytes
sections_for given j = sections 0 j.queries (run j given.budget given.room).state

-- The report is the run line followed by the sections.
pub report_is_run_line_and_sections : (given : Given) (j : Job)
    → report_for given j ≡ run_line (run j given.budget given.room) ++ joined (sections_for given j)
unfolding report_for sections_for report
report_is_run_line_and_sections given j = refl

-- "The report's length is returned"; the report "stands at the front of its buffer".
pub ran_returns_the_length : (need : Room → ℕ) (given : Given) (n : ℕ) (j : Job) → Ran need given n j
    → n ≡ length (report_for given j)
unfolding report_for reports
ran_returns_the_length need given n j r =
    let answers : ran (length (report j.queries (run j given.budget given.room))) ≡ ran n =
    rw (ran_reports need given n j r) at r.answers in
    cc

pub ran_shows_the_report : (need : Room → ℕ) (given : Given) (n : ℕ) (j : Job) → Ran need given n j
    → take n (call need given).buffer ≡ report_for given j
unfolding reports report_for
ran_shows_the_report need given n j r =
    let written = report j.queries (run j given.budget given.room) in
    rw (ran_reports need given n j r)
    (take_at written (drop (length written) given.buffer) n (sym (ran_returns_the_length need given n j r)))
