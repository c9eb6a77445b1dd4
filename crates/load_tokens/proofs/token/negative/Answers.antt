-- The digits are led by a zero, too many, within the range or beyond it.
use Rattle.std.proofs.Common.{refl}
use Rattle.load_tokens.proofs.Digits.{above, no_value}
use Rattle.load_tokens.proofs.Integers.{minus_zero_is, long_negative_is, negative_within_is, negative_beyond_is}
use Rattle.load_tokens.proofs.token.negative.Goals as goal

pub returns-then-rest-a-eq48 : goal.returns-then-rest-a-eq48
returns-then-rest-a-eq48 c = minus_zero_is c.args.rest.now c.args.a _ c.requires.0 refl c.requires.1 c.requires.2 c.if-rest-a-eq48.true

pub returns-then-e-a-gt11 : goal.returns-then-e-a-gt11
returns-then-e-a-gt11 c = long_negative_is c.args.rest.now c.args.a c.run_end-e.result c.requires.0 c.run_end-e.ensures.0 c.requires.1 c.requires.2 c.if-rest-a-eq48.false c.if-e-a-gt11.true

pub returns-in-Some : goal.returns-in-Some
returns-in-Some c = negative_within_is c.args.rest.now c.args.a c.run_end-e.result c.requires.0 c.run_end-e.ensures.0 c.requires.1 c.requires.2 c.if-rest-a-eq48.false c.in-Some.v c.in-Some.ensures c.if-v-le2147483648.true

pub returns-in_default : goal.returns-in_default
returns-in_default c = negative_beyond_is c.args.rest.now c.args.a c.run_end-e.result c.requires.0 c.run_end-e.ensures.0 c.requires.1 c.requires.2 c.if-rest-a-eq48.false (above _ 2147483648 c.in-Some.v c.in-Some.ensures c.if-v-le2147483648.false)

pub returns-in_default-2 : goal.returns-in_default-2
returns-in_default-2 c = negative_beyond_is c.args.rest.now c.args.a c.run_end-e.result c.requires.0 c.run_end-e.ensures.0 c.requires.1 c.requires.2 c.if-rest-a-eq48.false (no_value _ 2147483648 c.in_default.ensures)
