-- The word of the procedure's slot.
use Rattle.std.proofs.Common.{◌≡◌, ◌+◌, refl, ◌∙◌}
use native.Mathlib.Omega.{arith}
use Rattle.run_trial.proofs.choice.first_clause.Goals as goal

pub word_at-requires-2 : goal.word_at-requires-2
word_at-requires-2 c =
    let same : c.args.goal + 0 ≡ c.args.goal = omega arith in
    let is = rw same at c.word_at.ensures in
    omega (arith, is, c.index-functor.ensures, c.requires.1)

pub returns : goal.returns
returns c =
    let same : c.args.goal + 0 ≡ c.args.goal = omega arith in
    let is = rw same at c.word_at.ensures in
    c.linked.ensures ∙ c.word_at-2.ensures ∙ rw (c.index-functor.ensures, is) refl
