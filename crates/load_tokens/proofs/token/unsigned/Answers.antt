-- The run is a zero alone, led by a zero, too long, within the range or beyond it.
use Rattle.load_tokens.proofs.Digits.{above, no_value}
use Rattle.load_tokens.proofs.Integers.{zero_is, zero_led_is, long_unsigned_is, unsigned_within_is, unsigned_beyond_is}
use Rattle.load_tokens.proofs.token.unsigned.Goals as goal

pub returns-then-e-a : goal.returns-then-e-a
returns-then-e-a c = zero_is c.args.rest.now c.args.a c.run_end-e.result c.requires.0 c.run_end-e.ensures.0 c.requires.1 c.if-rest-a-eq48.true c.if-e-a.true

pub returns-then-rest-a-eq48 : goal.returns-then-rest-a-eq48
returns-then-rest-a-eq48 c = zero_led_is c.args.rest.now c.args.a c.run_end-e.result c.requires.0 c.run_end-e.ensures.0 c.requires.1 c.if-rest-a-eq48.true c.if-e-a.false

pub returns-then-e-a-gt10 : goal.returns-then-e-a-gt10
returns-then-e-a-gt10 c = long_unsigned_is c.args.rest.now c.args.a c.run_end-e.result c.requires.0 c.run_end-e.ensures.0 c.requires.1 c.if-rest-a-eq48.false c.if-e-a-gt10.true

pub returns-in-Some : goal.returns-in-Some
returns-in-Some c = unsigned_within_is c.args.rest.now c.args.a c.run_end-e.result c.requires.0 c.run_end-e.ensures.0 c.requires.1 c.if-rest-a-eq48.false c.in-Some.v c.in-Some.ensures c.if-v-le2147483647.true

pub returns-in_default : goal.returns-in_default
returns-in_default c = unsigned_beyond_is c.args.rest.now c.args.a c.run_end-e.result c.requires.0 c.run_end-e.ensures.0 c.requires.1 c.if-rest-a-eq48.false (above _ 2147483647 c.in-Some.v c.in-Some.ensures c.if-v-le2147483647.false)

pub returns-in_default-2 : goal.returns-in_default-2
returns-in_default-2 c = unsigned_beyond_is c.args.rest.now c.args.a c.run_end-e.result c.requires.0 c.run_end-e.ensures.0 c.requires.1 c.if-rest-a-eq48.false (no_value _ 2147483647 c.in_default.ensures)
