-- A digit more takes the value on, and a byte that is none decides.
use Rattle.std.proofs.Common.{◌≡◌, ◌-◌, true, false, get_or, sym, ◌∙◌, drop_of_length-le, arith}
use Rattle.meaning.specs.Bytes.{when◌then◌else◌, all}
use Rattle.meaning.specs.Tokens.{digit, value}
use Rattle.load_tokens.proofs.Classes.{digit_is, digit_bytes}
use Rattle.load_tokens.proofs.Digits.{value_below, value_next, digits_next, digits_stop}
use Rattle.load_tokens.proofs.token.digits_value.Goals as goal

pub returns-then-not-is_ascii_digit : goal.returns-then-not-is_ascii_digit
unfolding when◌then◌else◌
returns-then-not-is_ascii_digit c =
    let digits = c.args.digits.now in
    let i = c.loop-c.c-index in
    let none : digit (get_or digits i 0) ≡ false = sym (digit_is (get_or digits i 0)) ∙ sym c.is_ascii_digit.ensures.value ∙ c.if-not-is_ascii_digit.true in
    rw (sym c.loop-c.invariant.same_test ∙ digits_stop digits i c.loop-c-test.true none)

pub loop-c-preserved : goal.loop-c-preserved
loop-c-preserved c =
    let digits = c.args.digits.now in
    let i = c.loop-c.c-index in
    let v = c.loop-c.v in
    let passes : digit (get_or digits i 0) ≡ true = sym (digit_is (get_or digits i 0)) ∙ sym c.is_ascii_digit.ensures.value ∙ c.if-not-is_ascii_digit.false in
    let bytes = digit_bytes (get_or digits i 0) passes in
    rw c.from.ensures (record {
      small = value_below v (get_or digits i 0 - 48) i c.loop-c.invariant.small (omega arith);
      same_value = sym (value_next digits i c.loop-c-test.true v) ∙ c.loop-c.invariant.same_value;
      same_test = sym (digits_next digits i c.loop-c-test.true passes) ∙ c.loop-c.invariant.same_test;
    })

pub returns : goal.returns
unfolding when◌then◌else◌ all value
returns c =
    let digits = c.args.digits.now in
    let none = drop_of_length-le digits {i = c.loop-c.c-index} c.loop-c-test.false in
    let all_of = sym (rw none at c.loop-c.invariant.same_test) in
    let value_of = rw none at c.loop-c.invariant.same_value in
    rw (all_of, ← value_of)
