-- What the call's contract gives: one answer and one content of both buffers; acceptance exactly as document 01 has it; and demand 3 in both parts,
-- of the reports that two calls left in their buffers.
use Prim.Native.Nat.{ℕ, ◌≤◌}
use mathlib.Core.Path.{◌≡◌, refl, ap, sym, ◌∙◌}
use mathlib.Core.Bool.{Bool, true, false, not, ◌&&◌}
use mathlib.Core.List.{List}
use native.Mathlib.Omega.{arith}
use lib.Dec.{leb, ltb}
use lib.ListN.{length, take}
use borrow.Author.Tests.{leb-true, le-leb, ltb-false, le-ltb, not-false}
use Rattle.std.specs.Prelude.{Result, Ok, Err}
use Rattle.meaning.specs.Bytes.{Bytes, when◌then◌else◌}
use Rattle.meaning.specs.Terms.{Job}
use Rattle.meaning.specs.Items.{job, reading}
use Rattle.meaning.specs.Run.{run, queries_fit}
use Rattle.meaning.specs.Report.{report}
use Rattle.meaning.specs.Call.{
  Given,
  Answer as Told,
  ran,
  out_of_range,
  scratch_short,
  text_long,
  no_items,
  occurrence_broken,
  figure_passed,
  queries_pass_room,
  report_long,
  guard_refused,
  Outcome,
  in_range,
  untouched,
  refuses,
  reports,
  delivered,
  runs,
  taken,
  call,
}
use Rattle.laws.proofs.Lists.Tests.{differ, and_left, and_right}
use Rattle.laws.proofs.Report.Decimal.{tries_shown}
use Rattle.laws.proofs.Call.Delivered.{ran_read_a_job}
use Rattle.laws.proofs.Own.{TextsAlike}
use Rattle.laws.proofs.Own.Shown.{section_shown, rest_shown, left_by}
use Rattle.laws.proofs.Promise.{same_tries_same_section, both_rest_same_section}
use Rattle.term.specs.Layout.{need_of}
use Rattle.loader.proofs.OneAnswer.{back_rule, back_rule_of}
use Rattle.loader.specs.declared.refusal.Refusal.TheVariants.{NoItems, GuardRefused, OccurrenceBroken, FigurePassed}
use Rattle.job.specs.Calling.{answer_of, outcome, Called}
use Rattle.job.specs.declared.call.Unreported.{Unreported}
use Rattle.job.specs.declared.call.Unreported.TheVariants.{
  OutOfRange,
  ScratchShort,
  TextLong,
  Refused,
  QueriesPassRoom,
  ReportLong,
}

-- No two answers of the code are one answer of the definition.
back : Told → Result ℕ Unreported
back (ran n) = Ok n
back out_of_range = Err OutOfRange
back scratch_short = Err ScratchShort
back text_long = Err TextLong
back (no_items at offset) = Err (Refused (NoItems at offset))
back (occurrence_broken rule at offset) = Err (Refused (OccurrenceBroken (back_rule rule) at offset))
back (figure_passed at) = Err (Refused (FigurePassed at))
back queries_pass_room = Err QueriesPassRoom
back (report_long n) = Err (ReportLong n)
back (guard_refused at) = Err (Refused (GuardRefused at))

back_answer : (r : Result ℕ Unreported) → back (answer_of r) ≡ r
unfolding back
back_answer (Ok n) = refl
back_answer (Err OutOfRange) = refl
back_answer (Err ScratchShort) = refl
back_answer (Err TextLong) = refl
back_answer (Err (Refused (NoItems at offset))) = refl
back_answer (Err (Refused (GuardRefused at))) = refl
back_answer (Err (Refused (OccurrenceBroken rule at offset))) = ap (λ b. Err (Refused (OccurrenceBroken b at offset))) (back_rule_of rule)
back_answer (Err (Refused (FigurePassed at))) = refl
back_answer (Err QueriesPassRoom) = refl
back_answer (Err (ReportLong n)) = refl

-- Uniqueness, refusals too: two answers to one call are equal, and so are both buffers.
module _ (g : Given) (r r' : Result ℕ Unreported) (b b' : Bytes) (s s' : List ℕ) (c : Called g r b s) (c' : Called g r' b' s') where
  same : outcome r b s ≡ outcome r' b' s'
  same = c ∙ sym c'

  pub one_answer : r ≡ r'
  one_answer = sym (back_answer r) ∙ ap (λ (o : Outcome). back o.answer) same ∙ back_answer r'

  pub one_buffer : b ≡ b'
  one_buffer = ap (λ (o : Outcome). o.buffer) same

  pub one_scratch : s ≡ s'
  one_scratch = ap (λ (o : Outcome). o.scratch) same

-- Document 01's job that fits its room and its buffers: figures in range, scratch enough, a text of at most 16,384 bytes that reads as a job, whose
-- queries fit the room, and whose report fits its buffer and the ceiling.
unfoldable pub report_for : Given → Job → Bytes
report_for g j = report j.queries (run j g.budget g.room)

pub record Accepted (g : Given) : Type 0 where
  pub in_its_range : in_range g.budget g.room ≡ true
  pub scratch_enough : need_of g.room ≤ length g.scratch
  pub text_short : length g.text ≤ 16384
  pub read : Job
  pub reads : reading g.text ≡ job read
  pub fit : queries_fit g.room read.queries ≡ true
  pub buffer_enough : length (report_for g read) ≤ length g.buffer
  pub below_ceiling : length (report_for g read) ≤ 16777216

-- Of two ways, one of which never gives this answer.
not_first : {n : ℕ} (b : Bool) (x y : Outcome) → (x.answer ≡ ran n → ⊥) → (when b then x else y).answer ≡ ran n → (b ≡ false) × (y.answer ≡ ran n)
unfolding when◌then◌else◌
not_first true x y h r = absurd (h r)
not_first false x y h r = (refl, r)

is_first : {n : ℕ} (b : Bool) (x y : Outcome) → (y.answer ≡ ran n → ⊥) → (when b then x else y).answer ≡ ran n → (b ≡ true) × (x.answer ≡ ran n)
unfolding when◌then◌else◌
is_first true x y h r = (refl, r)
is_first false x y h r = absurd (h r)

pub ran_accepted : (g : Given) (n : ℕ) → (call need_of g).answer ≡ ran n → Accepted g
unfolding call untouched taken runs refuses delivered report_for
ran_accepted g n r =
    let first = not_first (not (in_range g.budget g.room)) _ _ (λ e. differ (cc)) r in
    let second = not_first (ltb (length g.scratch) (need_of g.room)) _ _ (λ e. differ (cc)) first.1 in
    let third = not_first (ltb 16384 (length g.text)) _ _ (λ e. differ (cc)) second.1 in
    let (j, its) = ran_read_a_job need_of g n r in
    let fourth = is_first (queries_fit g.room j.queries) _ _ (λ e. differ (cc)) (rw its.reads at third.1) in
    let long = length (report j.queries (run j g.budget g.room)) in
    let fifth = is_first (leb long (length g.buffer) && leb long 16777216) _ _ (λ e. differ (cc)) fourth.1 in
    record {
      in_its_range = not-false (in_range g.budget g.room) first.0;
      scratch_enough = ltb-false (length g.scratch) (need_of g.room) second.0;
      text_short = ltb-false 16384 (length g.text) third.0;
      read = j;
      reads = its.reads;
      fit = fourth.0;
      buffer_enough = leb-true long (length g.buffer) (and_left (leb long (length g.buffer)) (leb long 16777216) fifth.0);
      below_ceiling = leb-true long 16777216 (and_right (leb long (length g.buffer)) (leb long 16777216) fifth.0);
    }

pub accepted_ran : (g : Given) (a : Accepted g) → (call need_of g).answer ≡ ran (length (report_for g a.read))
unfolding call taken runs delivered reports report_for when◌then◌else◌
accepted_ran g a =
    let long = length (report a.read.queries (run a.read g.budget g.room)) in
    rw (
      a.in_its_range,
      le-ltb (length g.scratch) (need_of g.room) a.scratch_enough,
      le-ltb 16384 (length g.text) a.text_short,
      a.reads,
      a.fit,
      le-leb long (length g.buffer) a.buffer_enough,
      le-leb long 16777216 a.below_ceiling,
    )

-- The call answers `Ok` exactly for these.
module _ (g : Given) (r : Result ℕ Unreported) (b : Bytes) (s : List ℕ) (c : Called g r b s) where
  pub accepts : (a : Accepted g) → r ≡ Ok (length (report_for g a.read))
  unfolding back
  accepts a = sym (back_answer r) ∙ ap back (ap (λ (o : Outcome). o.answer) c ∙ accepted_ran g a)

  answers : (n : ℕ) → r ≡ Ok n → (call need_of g).answer ≡ ran n
  answers n e = sym (ap (λ (o : Outcome). o.answer) c) ∙ ap answer_of e

  pub accepts_only : (n : ℕ) → r ≡ Ok n → Accepted g
  accepts_only n e = ran_accepted g n (answers n e)

  -- The length that it gives lies within the buffer that it was given.
  pub ran_fits : (n : ℕ) → r ≡ Ok n → n ≤ length g.buffer
  ran_fits n e =
      let a = accepts_only n e in
      let same_length : ran (length (report_for g a.read)) ≡ ran n = sym (accepted_ran g a) ∙ answers n e in
      let it : length (report_for g a.read) ≡ n = cc in
      omega (arith, a.buffer_enough)

-- Demand 3, of what two calls left in their buffers: texts with the same clauses and the same query at place k, token by token.
module _ (k : ℕ) (g₁ g₂ : Given) (n₁ n₂ : ℕ) (b₁ b₂ : Bytes) (s₁ s₂ : List ℕ) (c₁ : Called g₁ (Ok n₁) b₁ s₁) (c₂ : Called g₂ (Ok n₂) b₂ s₂)
    (alike : TextsAlike k g₁.text g₂.text) where
  left₁ : take n₁ b₁ ≡ left_by need_of g₁ n₁
  unfolding left_by
  left₁ = ap (λ (o : Outcome). take n₁ o.buffer) c₁

  left₂ : take n₂ b₂ ≡ left_by need_of g₂ n₂
  unfolding left_by
  left₂ = ap (λ (o : Outcome). take n₂ o.buffer) c₂

  answer₁ : (call need_of g₁).answer ≡ ran n₁
  answer₁ = answers g₁ (Ok n₁) b₁ s₁ c₁ n₁ refl

  answer₂ : (call need_of g₂).answer ≡ ran n₂
  answer₂ = answers g₂ (Ok n₂) b₂ s₂ c₂ n₂ refl

  -- If both reports show the same tries of the query, they show the same section of it, byte for byte.
  pub calls_same_tries_same_section : tries_shown k (section_shown k (take n₁ b₁)) ≡ tries_shown k (section_shown k (take n₂ b₂))
      → section_shown k (take n₁ b₁) ≡ section_shown k (take n₂ b₂)
  calls_same_tries_same_section =
      rw (left₁, left₂) (same_tries_same_section k need_of need_of g₁ g₂ n₁ n₂ answer₁ answer₂ alike)

  -- If both reports begin `run rest`, they show the same tries of the query, and so the same section.
  pub calls_both_rest_same_section : rest_shown (take n₁ b₁) ≡ true → rest_shown (take n₂ b₂) ≡ true
      → (tries_shown k (section_shown k (take n₁ b₁)) ≡ tries_shown k (section_shown k (take n₂ b₂)))
      × (section_shown k (take n₁ b₁) ≡ section_shown k (take n₂ b₂))
  calls_both_rest_same_section =
      rw (left₁, left₂) (both_rest_same_section k need_of need_of g₁ g₂ n₁ n₂ answer₁ answer₂ alike)
