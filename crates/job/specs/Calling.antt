-- The call's contract: its answer and both buffers at exit are the definition's.
use Rattle.std.specs.Prelude.{ℕ, min, ◌≤◌, ◌≡◌, ◌&&◌, List, leb, length, Result, Ok, Err}
use Rattle.meaning.specs.Bytes.{Bytes, when◌then◌else◌}
use Rattle.meaning.specs.State.{Room}
use Rattle.meaning.specs.Call.{
  Given,
  Answer as Told,
  ran,
  out_of_range,
  scratch_short,
  text_long,
  queries_pass_room,
  report_long,
  Outcome,
  call,
}
use Rattle.term.specs.Layout.{need_of}
use Rattle.loader.specs.Refusals.{refusal_answer}
use Rattle.job.specs.declared.call.Unreported.{Unreported}
use Rattle.job.specs.declared.call.Unreported.TheVariants.{
  OutOfRange,
  ScratchShort,
  TextLong,
  Refused,
  QueriesPassRoom,
  ReportLong,
}

-- What the call answers: the report's length, or why there is no report. As the definition's answer.
abbrev pub answer_of : Result ℕ Unreported → Told
answer_of (Ok n) = ran n
answer_of (Err OutOfRange) = out_of_range
answer_of (Err ScratchShort) = scratch_short
answer_of (Err TextLong) = text_long
answer_of (Err (Refused why)) = refusal_answer why
answer_of (Err QueriesPassRoom) = queries_pass_room
answer_of (Err (ReportLong n)) = report_long n

-- What the call is given, and what it leaves.
abbrev pub room_of : ℕ → ℕ → ℕ → Room
room_of pairs compounds goals = record { pairs = pairs; compounds = compounds; goals = goals }

abbrev pub given : Bytes → ℕ → Room → List ℕ → Bytes → Given
given text budget room scratch buffer = record { text = text; budget = budget; room = room; scratch = scratch; buffer = buffer }

abbrev pub outcome : Result ℕ Unreported → Bytes → List ℕ → Outcome
outcome r buffer scratch = record { answer = answer_of r; buffer = buffer; scratch = scratch }

-- A report of so many bytes, told for a buffer of so many.
unfoldable pub told : ℕ → ℕ → Told
told n size = when leb n size && leb n 16777216 then ran n else report_long (min n 16777217)

-- The call's contract, as the laws of proofs/Promise.antt take it.
abbrev pub Called : Given → Result ℕ Unreported → Bytes → List ℕ → Type 0
Called g r buffer scratch = outcome r buffer scratch ≡ call need_of g

-- A report's length lies within a buffer.
abbrev pub Within : Result ℕ Unreported → Bytes → Type 0
Within r buffer = (n : ℕ) → r ≡ Ok n → n ≤ length buffer
