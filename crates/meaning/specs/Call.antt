-- Document 01, 'What the caller gets back', and document 02, T-01: the call, its numbers in their order, and both buffers when it ends.
use Rattle.std.specs.Prelude.{ℕ, zero, suc, ◌+◌, min, Bool, true, false, not, ◌&&◌, List, [], ◌∷◌, ◌++◌, leb, ltb, length, drop, replicate}
use Rattle.meaning.specs.Bytes.{Bytes, when◌then◌else◌}
use Rattle.meaning.specs.Terms.{Job}
use Rattle.meaning.specs.Faults.{Broken, twice, writer_alone, reader_alone}
use Rattle.meaning.specs.Items.{Refusal, no_item, guard_rule, occurrence_rule, figure, no_query, Reading, job, refused, reading, line, items_words}
use Rattle.meaning.specs.State.{Room}
use Rattle.meaning.specs.Run.{run, queries_fit}
use Rattle.meaning.specs.Report.{report, report_words}

-- What the call is given: the text, the budget, the room figures, scratch (64-bit words) and the report buffer.
pub record Given : Type 0 where
  pub text : Bytes
  pub budget : ℕ
  pub room : Room
  pub scratch : List ℕ
  pub buffer : Bytes

-- The answer: with the report's length where it ran, the smaller of its length and 16,777,217 where it was too long, the line where the text was
-- refused, and behind it the byte where the number has one.
pub data Answer : Type 0 where
  ran : ℕ → Answer
  out_of_range : Answer
  scratch_short : Answer
  text_long : Answer
  no_items : ℕ → ℕ → Answer
  occurrence_broken : Broken → ℕ → ℕ → Answer
  figure_passed : ℕ → Answer
  queries_pass_room : Answer
  report_long : ℕ → Answer
  guard_refused : ℕ → Answer

-- "Number 5 becomes 5 (the same half twice), 9 (a writer without its reader) and 10 (a reader without its writer)."
unfoldable pub rule_number : Broken → ℕ
rule_number twice = 5
rule_number writer_alone = 9
rule_number reader_alone = 10

-- The paper's number, line, offset and length for each answer.
unfoldable pub number : Answer → ℕ
number (ran report) = 0
number out_of_range = 1
number scratch_short = 2
number text_long = 3
number (no_items at offset) = 4
number (occurrence_broken rule at offset) = rule_number rule
number (figure_passed at) = 6
number queries_pass_room = 7
number (report_long report) = 8
number (guard_refused at) = 11

unfoldable pub line_of : Answer → ℕ
line_of (ran report) = 0
line_of out_of_range = 0
line_of scratch_short = 0
line_of text_long = 0
line_of (no_items at offset) = at
line_of (occurrence_broken rule at offset) = at
line_of (figure_passed at) = at
line_of queries_pass_room = 0
line_of (report_long report) = 0
line_of (guard_refused at) = at

-- "4, 5, 9 and 10 also return a byte offset, 0 with every other number."
unfoldable pub offset_of : Answer → ℕ
offset_of (ran report) = 0
offset_of out_of_range = 0
offset_of scratch_short = 0
offset_of text_long = 0
offset_of (no_items at offset) = offset
offset_of (occurrence_broken rule at offset) = offset
offset_of (figure_passed at) = 0
offset_of queries_pass_room = 0
offset_of (report_long report) = 0
offset_of (guard_refused at) = 0

unfoldable pub length_of : Answer → ℕ
length_of (ran report) = report
length_of out_of_range = 0
length_of scratch_short = 0
length_of text_long = 0
length_of (no_items at offset) = 0
length_of (occurrence_broken rule at offset) = 0
length_of (figure_passed at) = 0
length_of queries_pass_room = 0
length_of (report_long report) = report
length_of (guard_refused at) = 0

-- The answer with the two buffers as they are when the call ends.
pub record Outcome : Type 0 where
  pub answer : Answer
  pub buffer : Bytes
  pub scratch : List ℕ

-- "A budget (0 to 1,000,000), three room figures (each 1 to 65,535)."
unfoldable pub in_range : ℕ → Room → Bool
in_range budget room =
    leb budget 1000000
    && (leb 1 room.pairs && leb room.pairs 65535)
    && (leb 1 room.compounds && leb room.compounds 65535)
    && (leb 1 room.goals && leb room.goals 65535)

-- 4, 5, 9, 10, 6 and 11, with their lines; "0 for no query". "For 4 the token's start (the text's length at its end)": the token's own place.
unfoldable pub refusal : Bytes → Refusal → Answer
refusal text (no_item place) = no_items (line text place) place
refusal text (guard_rule place) = guard_refused (line text place)
refusal text (occurrence_rule place fault) = occurrence_broken fault.rule (line text place) fault.offset
refusal text (figure place) = figure_passed (line text place)
refusal text no_query = figure_passed 0

-- "Scratch is untouched on 1, 2, 3; otherwise the needed part is zero afterwards and any part beyond it is untouched."
unfoldable pub untouched : Answer → Given → Outcome
untouched answer given = record { answer = answer; buffer = given.buffer; scratch = given.scratch }

unfoldable pub cleared : ℕ → List ℕ → List ℕ
cleared need scratch = replicate need 0 ++ drop need scratch

-- "On 1 to 8 the whole report buffer keeps its values", and on 9 and 10, which take 5's place, and on 11.
unfoldable pub refuses : ℕ → Answer → Given → Outcome
refuses need answer given = record { answer = answer; buffer = given.buffer; scratch = cleared need given.scratch }

-- "On 0 the report stands at the front of its buffer and the bytes behind it keep their values."
unfoldable pub reports : ℕ → Bytes → Given → Outcome
reports need written given =
    record { answer = ran (length written); buffer = written ++ drop (length written) given.buffer; scratch = cleared need given.scratch }

-- "The report is longer than its buffer or than 16,777,216 bytes; the smaller of its length and 16,777,217 is returned."
unfoldable pub delivered : ℕ → Bytes → Given → Outcome
delivered need written given =
    when leb (length written) (length given.buffer) && leb (length written) 16777216
    then reports need written given
    else refuses need (report_long (min (length written) 16777217)) given

-- "Then 7; then 8."
unfoldable pub runs : ℕ → Job → Given → Outcome
runs need j given =
    when queries_fit given.room j.queries
    then delivered need (report j.queries (run j given.budget given.room)) given
    else refuses need queries_pass_room given

unfoldable pub taken : ℕ → Reading → Given → Outcome
taken need (job j) given = runs need j given
taken need (refused r) given = refuses need (refusal given.text r) given

-- "Order: 1, 2, 3; then the text item by item; then no query; then 7; then 8." The need is a formula over the room figures.
unfoldable pub call : (Room → ℕ) → Given → Outcome
call need given =
    when not (in_range given.budget given.room) then untouched out_of_range given
    else when ltb (length given.scratch) (need given.room) then untouched scratch_short given
    else when ltb 16384 (length given.text) then untouched text_long given
    else taken (need given.room) (reading given.text) given

-- Every definition of document 01, for a statement that computes.
unfoldable pub everything : Unit {0}
unfolding items_words report_words rule_number number line_of offset_of length_of in_range refusal untouched cleared refuses reports delivered runs taken call
everything = tt
