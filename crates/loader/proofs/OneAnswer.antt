-- The contract of `load` leaves one answer and one content of the scratch: two answers to the same call are equal, and so are the scratches.
use Prim.Native.Nat.{ℕ}
use mathlib.Core.Path.{◌≡◌, refl, ap, sym, ◌∙◌}
use mathlib.Core.List.{List}
use native.Mathlib.Omega.{arith}
use Rattle.std.specs.Prelude.{Result, Ok, Err}
use Rattle.meaning.specs.Bytes.{Bytes}
use Rattle.meaning.specs.Terms.{Job}
use Rattle.meaning.specs.Faults.{Broken, twice, writer_alone, reader_alone}
use Rattle.meaning.specs.Items.{Refusal, Reading, job, refused, reading}
use Rattle.meaning.specs.State.{Room}
use Rattle.meaning.specs.Call.{
  Answer,
  ran,
  out_of_range,
  scratch_short,
  text_long,
  no_items,
  occurrence_broken,
  figure_passed,
  queries_pass_room,
  report_long,
  guard_refused,
  refusal,
}
use Rattle.load_faults.specs.Finding.{rule_of}
use Rattle.load_faults.specs.declared.faults.Broken.{Broken as Rule}
use Rattle.load_faults.specs.declared.faults.Broken.TheVariants.{Twice, WriterAlone, ReaderAlone}
use Rattle.loader.specs.Loading.{LoadedIs}
use Rattle.loader.specs.Refusals.{refusal_answer}
use Rattle.loader.specs.declared.refusal.Refusal.{Refusal as Why}
use Rattle.loader.specs.declared.refusal.Refusal.TheVariants.{NoItems, GuardRefused, OccurrenceBroken, FigurePassed}

same_job : (x : Reading) (i j : Job) → x ≡ job i → x ≡ job j → i ≡ j
same_job x i j a b = cc

same_refusal : (x : Reading) (i j : Refusal) → x ≡ refused i → x ≡ refused j → i ≡ j
same_refusal x i j a b = cc

not_both : {P : Type 0} (x : Reading) (i : Job) (j : Refusal) → x ≡ job i → x ≡ refused j → P
not_both x i j a b = let z : ◌≡◌ {A = ℕ} 0 1 = cc in absurd (omega arith)

-- No two rules of the code are one of the definition.
pub back_rule : Broken → Rule
back_rule twice = Twice
back_rule writer_alone = WriterAlone
back_rule reader_alone = ReaderAlone

pub back_rule_of : (x : Rule) → back_rule (rule_of x) ≡ x
unfolding back_rule
back_rule_of Twice = refl
back_rule_of WriterAlone = refl
back_rule_of ReaderAlone = refl

-- No two refusals of the code are one answer of the definition.
back : Answer → Why
back (ran n) = NoItems 0 0
back out_of_range = NoItems 0 0
back scratch_short = NoItems 0 0
back text_long = NoItems 0 0
back (no_items at offset) = NoItems at offset
back (occurrence_broken rule at offset) = OccurrenceBroken (back_rule rule) at offset
back (figure_passed at) = FigurePassed at
back queries_pass_room = NoItems 0 0
back (report_long n) = NoItems 0 0
back (guard_refused at) = GuardRefused at

back_refusal : (x : Why) → back (refusal_answer x) ≡ x
unfolding back
back_refusal (NoItems at offset) = refl
back_refusal (GuardRefused at) = refl
back_refusal (OccurrenceBroken rule at offset) = ap (λ b. OccurrenceBroken b at offset) (back_rule_of rule)
back_refusal (FigurePassed at) = refl

pub one_refusal : (x y : Why) → refusal_answer x ≡ refusal_answer y → x ≡ y
one_refusal x y e = sym (back_refusal x) ∙ ap back e ∙ back_refusal y

pub one_answer : (text : Bytes) (figures : Room) (s s₁ s₂ : List ℕ) (r₁ r₂ : Result (ℕ × ℕ) Why) → LoadedIs text figures s s₁ r₁ → LoadedIs text figures s s₂ r₂
    → (r₁ ≡ r₂) × (s₁ ≡ s₂)
one_answer text figures s s₁ s₂ (Ok (c, q)) (Ok (d, p)) (i, a, b, e, f, n, u, o) (j, g, h, k, l, m, v, w) =
    let same = same_job (reading text) i j a g in
    (rw (b, e, h, k, same), f ∙ sym l)
one_answer text figures s s₁ s₂ (Ok (c, q)) (Err x) (i, a, b, e, f, n, u, o) (j, g, h, l) = not_both (reading text) i j a g
one_answer text figures s s₁ s₂ (Err x) (Ok (d, p)) (i, a, b, f) (j, g, h, k, l, m, v, w) = not_both (reading text) j i g a
one_answer text figures s s₁ s₂ (Err x) (Err y) (i, a, b, f) (j, g, h, l) =
    let same = same_refusal (reading text) i j a g in
    (ap Err (one_refusal x y (b ∙ ap (refusal text) same ∙ sym h)), f ∙ sym l)
