-- `report_sections::sections::count_goal` meets its contract: the goal's line, if it is the query's.
use Prim.Native.Nat.{ℕ, ◌+◌}
use mathlib.Core.Path.{◌≡◌, refl, sym, ap, ◌∙◌}
use mathlib.Core.Bool.{true}
use native.Mathlib.Omega.{arith}
use mathlib.Core.List.{◌++◌}
use lib.ListN.{length, length-append}
use Rattle.laws.proofs.Lists.Tests.{false_not_true}
use Rattle.term.specs.Words.{compound_word}
use Rattle.term.specs.Goals.{place_in}
use Rattle.report_tallies.specs.Groups.{goal_in, own}
use Rattle.meaning.specs.Bytes.{Bytes, bytes}
use Rattle.report_tallies.specs.Origins.{origin_of}
use Rattle.report_sections.proofs.sections.count_goal.Goals as goal

one_more : {n : ℕ} (origin : Bytes) → n ≡ length origin → n + 1 ≡ length (origin ++ bytes "\n")
unfolding bytes
one_more origin e = simp length-append (omega arith)

pub returns-then-own : goal.returns-then-own
returns-then-own c =
    let a = c.args in
    let at = c.goal_at-goal in
    let term = c.goal_term-w in
    let line = c.count_line in
    let is : own a.q (goal_in a.s.now a.g a.i) ≡ true =
    sym (ap (own a.q) at.ensures) ∙ sym c.own.ensures ∙ c.if-own.true in
    let word : term.result ≡ compound_word (place_in (goal_in a.s.now a.g a.i)) =
    term.ensures ∙ ap (λ (w : ℕ). compound_word (place_in w)) at.ensures in
    let behind = c.origin_length-behind.ensures.0 ∙ ap (λ (w : ℕ). length (origin_of w)) at.ensures in (
      λ e. absurd (false_not_true _ e is),
      λ text x seen t e counts shows.
          line.ensures text x seen t a.label.now (origin_of (goal_in a.s.now a.g a.i) ++ bytes "\n") counts (rw word shows) refl
          (one_more (origin_of (goal_in a.s.now a.g a.i)) behind),
    )
