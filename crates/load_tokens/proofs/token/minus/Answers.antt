-- A digit right behind makes it an integer's, or the token is bad.
use Rattle.std.proofs.Common.{◌≡◌, ◌≤◌, ◌<◌, ◌+◌, ℕ, List, Bool, length, get_or, sym, ◌∙◌, arith}
use Rattle.std.proofs.lemmas.Grind.{common_steps, get_or_default_zero}
use Rattle.std.specs.Char.{is_ascii_digit}
use Rattle.meaning.specs.Tokens.{digit}
use Rattle.load_tokens.proofs.Classes.{digit_is}
use Rattle.load_tokens.proofs.Signs.{last_minus_is, no_minus_is}
use Rattle.load_tokens.proofs.token.minus.Goals as goal

-- What the library's test says of the byte that was read.
as_digit : (rest : List ℕ) (i d : ℕ) (b : Bool) → i < length rest → d ≡ get_or rest i d → b ≡ is_ascii_digit d → digit (get_or rest i 0) ≡ b
as_digit rest i d b inside here told = rw (sym (here ∙ get_or_default_zero rest i d inside)) (sym (digit_is d) ∙ sym told)

pub negative-requires : goal.negative-requires
negative-requires c =
    let inside : c.args.a + 1 < length c.args.rest.now = grind (arith, common_steps) in
    (inside, c.requires.1, as_digit c.args.rest.now (c.args.a + 1) c.in-Some.d.now _ inside c.in-Some.ensures.lookup.1 (sym c.if-is_ascii_digit.true ∙ c.is_ascii_digit.ensures.value))

pub returns-in_default : goal.returns-in_default
returns-in_default c =
    let inside : c.args.a + 1 < length c.args.rest.now = grind (arith, common_steps) in
    no_minus_is c.args.rest.now c.args.a c.requires.0 c.requires.1 inside
    (as_digit c.args.rest.now (c.args.a + 1) c.in-Some.d.now _ inside c.in-Some.ensures.lookup.1 (sym c.if-is_ascii_digit.false ∙ c.is_ascii_digit.ensures.value))

pub returns-in_default-2 : goal.returns-in_default-2
returns-in_default-2 c =
    let end : length c.args.rest.now ≤ c.args.a + 1 = grind (arith, common_steps) in
    last_minus_is c.args.rest.now c.args.a c.requires.0 c.requires.1 end
