-- Behind separators and remarks a sign begins, or a token that is none.
use Rattle.std.proofs.Common.{ℕ, ◌+◌, ◌≡◌, ◌∙◌, length, get_or, refl, sym, arith}
use Rattle.meaning.specs.Tokens.{ends}
use Rattle.load_tokens.specs.Fronts.{tokens_in}
use Rattle.load_tokens.specs.declared.token.Token.TheVariants.{Sign}
use Rattle.load_tokens.proofs.NoSigns.{no_sign_stops}
use Rattle.load_tokens.proofs.Signs.{sign_is}
use Rattle.load_tokens.proofs.TokensIn.{tokens_end, from_later}
use Rattle.load_tokens.proofs.next.ahead.Goals as goal

pub returns-then-rest-a : goal.returns-then-rest-a
returns-then-rest-a c =
    let rest = c.args.rest.now in
    let skipped = c.skip-a.ensures in
    let end : c.skip-a.result ≡ length rest = omega (arith, skipped.inside) in
    let none : (from : ℕ) → tokens_in from rest c.args.at ≡ ends (from + length rest) = λ from. skipped.same_tokens from ∙ rw end (tokens_end rest from) in
    λ signs. (skipped.inside, λ from. rw (none from) (rw end))

pub returns-then-begins_sign : goal.returns-then-begins_sign
returns-then-begins_sign c =
    let rest = c.args.rest.now in
    let a = c.skip-a.result in
    let x = get_or rest a 0 in
    let found = sign_is rest a c.if-rest-a.false x refl (sym c.begins_sign.ensures ∙ c.if-begins_sign.true) in
    from_later rest c.args.at a (Sign x a) c.skip-a.ensures.onward c.skip-a.ensures.same_tokens found

pub returns-else-begins_sign : goal.returns-else-begins_sign
returns-else-begins_sign c =
    let skipped = c.skip-a.ensures in
    let h = c.if-rest-a.false in
    let no_sign = sym c.begins_sign.ensures ∙ c.if-begins_sign.false in
    let stops = no_sign_stops c.args.rest.now c.skip-a.result h (skipped.no_separator h) (skipped.no_remark h) no_sign in
    λ signs. (skipped.inside, λ from. rw (skipped.same_tokens from) (stops signs from))
