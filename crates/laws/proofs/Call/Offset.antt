-- The byte that a call returns: 0 with every number but 4, 5, 9 and 10; with 4 a token's start or the text's length, with the others a variable.
-- What the text was read as decides; the item that is broken has the variable's spelling there.
use Prim.Native.Nat.{ℕ, ◌+◌, ◌≤◌}
use mathlib.Core.Path.{◌≡◌, refl}
use mathlib.Core.Logic.{◌⊎◌, inl, inr}
use mathlib.Core.Bool.{not}
use mathlib.Core.List.{[], ◌∷◌, ◌++◌}
use native.Mathlib.Omega.{arith}
use lib.Dec.{ltb}
use lib.ListN.{length, length-append}
use Rattle.meaning.specs.Bytes.{Bytes}
use Rattle.meaning.specs.Terms.{Half, Job}
use Rattle.meaning.specs.Tokens.{Token, variable, tokens}
use Rattle.meaning.specs.Faults.{Broken, twice, writer_alone, reader_alone, Fault}
use Rattle.meaning.specs.Items.{Refusal, no_item, guard_rule, occurrence_rule, figure, no_query, Reading, job, refused, reading, pieces, line}
use Rattle.meaning.specs.State.{Room}
use Rattle.meaning.specs.Run.{queries_fit}
use Rattle.meaning.specs.Report.{report}
use Rattle.meaning.specs.Call.{
  Given,
  Answer,
  ran,
  out_of_range,
  scratch_short,
  text_long,
  no_items,
  occurrence_broken,
  figure_passed,
  queries_pass_room,
  report_long,
  guard_refused,
  Outcome,
  rule_number,
  number,
  offset_of,
  in_range,
  refusal,
  untouched,
  refuses,
  reports,
  delivered,
  runs,
  taken,
  call,
}
use Rattle.laws.proofs.Lists.{In, here, there, if_holds}
use Rattle.laws.proofs.Reading.Rising.{StandsAt}
use Rattle.laws.proofs.Reading.Items.{behind_first}
use Rattle.laws.proofs.Reading.BrokenText.{ClauseBroken, QueryBroken, OneBroken, refused_is_broken}
use Rattle.laws.proofs.Reading.GuardText.{OneGuarded, refused_has_other_guards}
use Rattle.laws.proofs.Reading.StoppedText.{stopped_at_a_token}
use Rattle.laws.proofs.Reading.Spelling.{SpelledAt, spelled_at, stands_in_all}

rule_numbers : (b : Broken) → In (rule_number b) (4 ∷ 5 ∷ 9 ∷ 10 ∷ [])
unfolding rule_number
rule_numbers twice = there (here refl)
rule_numbers writer_alone = there (there (here refl))
rule_numbers reader_alone = there (there (there (here refl)))

-- "4, 5, 9 and 10 also return a byte offset, 0 with every other number."
pub offset_with_four_numbers : (a : Answer) → In (number a) (4 ∷ 5 ∷ 9 ∷ 10 ∷ []) ⊎ (offset_of a ≡ 0)
unfolding number offset_of
offset_with_four_numbers (ran report) = inr refl
offset_with_four_numbers out_of_range = inr refl
offset_with_four_numbers scratch_short = inr refl
offset_with_four_numbers text_long = inr refl
offset_with_four_numbers (no_items at offset) = inl (here refl)
offset_with_four_numbers (occurrence_broken rule at offset) = inl (rule_numbers rule)
offset_with_four_numbers (figure_passed at) = inr refl
offset_with_four_numbers queries_pass_room = inr refl
offset_with_four_numbers (report_long report) = inr refl
offset_with_four_numbers (guard_refused at) = inr refl

-- A call that answered 5, 9 or 10 read a text in which an item breaks that rule; the line is that item's first token's.
pub record BrokenAnswer (text : Bytes) (rule : Broken) (at offset : ℕ) : Type 0 where
  pub begins : ℕ
  pub line_is : at ≡ line text begins
  pub text_refused : reading text ≡ refused (occurrence_rule begins (record { rule = rule; offset = offset }))

-- A call that answered 4 read a text that cannot be continued there: at a token, or at its end; the line is that place's.
pub record StoppedAnswer (text : Bytes) (at offset : ℕ) : Type 0 where
  pub line_is : at ≡ line text offset
  pub text_refused : reading text ≡ refused (no_item offset)
  pub start_or_end : (offset ≡ length text) ⊎ ((t : Token) × StandsAt offset t (tokens text))

-- A call that answered 11 read a text in which a clause has a guard not in the table or with another variable; the line is that clause's first token's.
pub record GuardAnswer (text : Bytes) (at : ℕ) : Type 0 where
  pub begins : ℕ
  pub line_is : at ≡ line text begins
  pub text_refused : reading text ≡ refused (guard_rule begins)
  pub clause : OneGuarded (pieces (tokens text)) begins

abbrev Tells : Bytes → Answer → Type 0
Tells text (occurrence_broken rule at offset) = BrokenAnswer text rule at offset
Tells text (ran report) = Unit {0}
Tells text out_of_range = Unit {0}
Tells text scratch_short = Unit {0}
Tells text text_long = Unit {0}
Tells text (no_items at offset) = StoppedAnswer text at offset
Tells text (figure_passed at) = Unit {0}
Tells text queries_pass_room = Unit {0}
Tells text (report_long report) = Unit {0}
Tells text (guard_refused at) = GuardAnswer text at

module _ (need : ℕ) (given : Given) where
  Told : Outcome → Type 0
  Told o = Tells given.text o.answer

  runs_told : (j : Job) → Told (runs need j given)
  unfolding Told runs refuses delivered reports
  runs_told j =
      if_holds Told (queries_fit given.room j.queries) _ _ (λ e. if_holds Told _ _ _ (λ e. tt) (λ e. tt)) (λ e. tt)

  refusal_told : (r : Refusal) → reading given.text ≡ refused r → Tells given.text (refusal given.text r)
  unfolding refusal
  refusal_told (no_item place) e = record { line_is = refl; text_refused = e; start_or_end = stopped_at_a_token given.text place e }
  refusal_told (guard_rule place) e = record { begins = place; line_is = refl; text_refused = e; clause = refused_has_other_guards given.text place e }
  refusal_told (occurrence_rule place fault) e = record { begins = place; line_is = refl; text_refused = e }
  refusal_told (figure place) e = tt
  refusal_told no_query e = tt

  taken_told : (r : Reading) → reading given.text ≡ r → Told (taken need r given)
  unfolding Told taken refuses
  taken_told (job j) e = runs_told j
  taken_told (refused r) e = refusal_told r e

call_tells : (need : Room → ℕ) (given : Given) → Tells given.text (call need given).answer
unfolding Told call untouched
call_tells need given =
    if_holds (Told (need given.room) given) (not (in_range given.budget given.room)) _ _ (λ e. tt)
    (λ e. if_holds (Told (need given.room) given) (ltb (length given.scratch) (need given.room)) _ _ (λ e. tt)
    (λ e. if_holds (Told (need given.room) given) (ltb 16384 (length given.text)) _ _ (λ e. tt)
    (λ e. taken_told (need given.room) given (reading given.text) refl)))

pub broken_answer : (need : Room → ℕ) (given : Given) (rule : Broken) (at offset : ℕ) → (call need given).answer ≡ occurrence_broken rule at offset
    → BrokenAnswer given.text rule at offset
broken_answer need given rule at offset e = rw e at (call_tells need given)

pub stopped_answer : (need : Room → ℕ) (given : Given) (at offset : ℕ) → (call need given).answer ≡ no_items at offset → StoppedAnswer given.text at offset
stopped_answer need given at offset e = rw e at (call_tells need given)

pub guard_answer : (need : Room → ℕ) (given : Given) (at : ℕ) → (call need given).answer ≡ guard_refused at → GuardAnswer given.text at
guard_answer need given at e = rw e at (call_tells need given)

-- At the offset the text spells a variable, and an item's fault is at that variable.
pub record OffsetSpelled (text : Bytes) (f : Fault) : Type 0 where
  pub half : Half
  pub spelling : Bytes
  pub stands : StandsAt f.offset (variable half spelling) (tokens text)
  pub spelled : SpelledAt text f.offset spelling

pub offset_spelled : (text : Bytes) (begins : ℕ) (f : Fault) → reading text ≡ refused (occurrence_rule begins f) → OffsetSpelled text f
unfolding behind_first StandsAt
offset_spelled text begins f e = go (refused_is_broken text begins f e)
  where
    so : (h : Half) (x : Bytes) → StandsAt f.offset (variable h x) (tokens text) → OffsetSpelled text f
    so h x s = record { half = h; spelling = x; stands = s; spelled = spelled_at h x f.offset text s }

    go : OneBroken (pieces (tokens text)) begins f → OffsetSpelled text f
    go (piece, m, b) = by b.broken
      where
        by : ClauseBroken piece f ⊎ QueryBroken (behind_first piece) f → OffsetSpelled text f
        by (inl c) = so c.fault.half c.fault.spelling (stands_in_all f.offset _ (tokens text) piece m c.stands)
        by (inr q) =
            let (t, rest, piece_is) = b.begins_there in
            let q_stands : StandsAt f.offset (variable q.fault.half q.fault.spelling) rest = rw piece_is at q.stands in
            so q.fault.half q.fault.spelling (stands_in_all f.offset _ (tokens text) piece m (rw piece_is (inr q_stands)))

-- So the offset lies in the text, and so does the whole spelling.
pub spelling_inside : (text : Bytes) (p : ℕ) (x : Bytes) → SpelledAt text p x → p + length x ≤ length text
spelling_inside text p x s =
    let all : length text ≡ length s.before + length (x ++ s.behind) = rw s.text_is (length-append s.before (x ++ s.behind)) in
    omega (arith, all, length-append x s.behind, s.place_is)
