-- The first byte's class tells what the run is, and `_` is the one that is left.
use Rattle.std.proofs.Common.{◌≡◌, ◌+◌, true, length, drop, sym, ◌∙◌}
use Rattle.meaning.specs.Tokens.{underscore, run}
use Rattle.laws.proofs.Reading.NameBytes.{row_is_the_former_test}
use Rattle.load_tokens.proofs.Classes.{lowercase_is, uppercase_is, digit_is}
use Rattle.load_tokens.proofs.Leads.{underscore_leads}
use Rattle.load_tokens.proofs.TokensIn.{bad_in_front}
use Rattle.load_tokens.proofs.token.led.Goals as goal

pub name-requires : goal.name-requires
name-requires c = (c.requires.0, rw c.requires.1 (sym (lowercase_is c.args.c) ∙ sym c.is_ascii_lowercase.ensures.value ∙ c.if-is_ascii_lowercase.true))

pub variable-requires : goal.variable-requires
variable-requires c = (c.requires.0, rw c.requires.1 (sym (uppercase_is c.args.c) ∙ sym c.is_ascii_uppercase.ensures.value ∙ c.if-is_ascii_uppercase.true))

pub unsigned-requires : goal.unsigned-requires
unsigned-requires c = (c.requires.0, rw c.requires.1 (sym (digit_is c.args.c) ∙ sym c.is_ascii_digit.ensures.value ∙ c.if-is_ascii_digit.true))

pub returns-else-is_ascii_digit : goal.returns-else-is_ascii_digit
returns-else-is_ascii_digit c =
    let b = c.args.c in
    let small = sym (lowercase_is b) ∙ sym c.is_ascii_lowercase.ensures.value ∙ c.if-is_ascii_lowercase.false in
    let large = sym (uppercase_is b) ∙ sym c.is_ascii_uppercase.ensures.value ∙ c.if-is_ascii_uppercase.false in
    let number = sym (digit_is b) ∙ sym c.is_ascii_digit.ensures.value ∙ c.if-is_ascii_digit.false in
    let line : underscore b ≡ true = rw (small, large, number) at (sym (row_is_the_former_test b) ∙ c.requires.2) in
    let behind = drop (c.args.a + 1) c.args.rest.now in
    bad_in_front c.args.rest.now c.args.a c.requires.0 (length (run behind)) (rw c.requires.1 (underscore_leads b behind line))
