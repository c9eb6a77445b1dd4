-- Behind a separator or a remark the tokens are the same, and any other byte is one of a token.
use Rattle.std.proofs.Common.{◌≤◌, ◌+◌, length, sym, ◌∙◌, arith}
use borrow.Author.Tests.{eq-eqb, ne_eqb}
use Rattle.meaning.specs.Bytes.{byte}
use Rattle.load_tokens.specs.Ends.{end_of_remark}
use Rattle.load_tokens.proofs.Blanks.{behind_separator, behind_remark}
use Rattle.load_tokens.proofs.token.skip.Goals as goal

pub loop-i-preserved-then-separates : goal.loop-i-preserved-then-separates
loop-i-preserved-then-separates c =
    let behind = behind_separator c.args.rest.now c.loop-i.i c.loop-i-test.true (sym c.separates.ensures ∙ c.if-separates.true) in
    record { onward = omega arith; inside = omega arith; same_tokens = λ from. c.loop-i.invariant.same_tokens from ∙ behind from }

pub loop-i-preserved : goal.loop-i-preserved
unfolding byte
loop-i-preserved c =
    let rest = c.args.rest.now in
    let i = c.loop-i.i in
    let end = c.remark_end-i.ensures in
    let fits : end_of_remark rest (i + 1) ≤ length rest = omega (arith, end.0, end.1) in
    let behind = behind_remark rest i c.loop-i-test.true (sym c.separates.ensures ∙ c.if-separates.false) (eq-eqb _ _ c.if-c-eq37.true) fits in
    record { onward = omega (arith, end.0); inside = end.1; same_tokens = λ from. rw end.0 (c.loop-i.invariant.same_tokens from ∙ behind from) }

pub returns-else-c-eq37 : goal.returns-else-c-eq37
unfolding byte
returns-else-c-eq37 c =
    record {
      onward = c.loop-i.invariant.onward;
      inside = c.loop-i.invariant.inside;
      same_tokens = c.loop-i.invariant.same_tokens;
      no_separator = λ h. sym c.separates.ensures ∙ c.if-separates.false;
      no_remark = λ h. ne_eqb _ _ c.if-c-eq37.false;
    }

pub returns : goal.returns
returns c =
    record {
      onward = c.loop-i.invariant.onward;
      inside = c.loop-i.invariant.inside;
      same_tokens = c.loop-i.invariant.same_tokens;
      no_separator = λ h. absurd (omega arith);
      no_remark = λ h. absurd (omega arith);
    }
