-- What the first byte behind separators and remarks leads stands in front there, and so from the first offset on.
use Rattle.std.proofs.Common.{◌≡◌, ◌+◌, length, drop, get_or, refl, sym, ◌∙◌, arith}
use borrow.Author.Tests.{ne_eqb}
use Rattle.meaning.specs.Bytes.{byte}
use Rattle.load_tokens.specs.declared.token.Token.TheVariants.{Sign, Bad}
use Rattle.load_tokens.proofs.TokensIn.{tokens_end, bad_in_front, from_later}
use Rattle.load_tokens.proofs.Leads.{Nothing, bad_leads}
use Rattle.load_tokens.proofs.Signs.{sign_is}
use Rattle.load_tokens.proofs.token.front.Goals as goal

pub returns-then-rest-a : goal.returns-then-rest-a
returns-then-rest-a c =
    let end : c.skip-a.result ≡ length c.args.rest.now = omega (arith, c.skip-a.ensures.inside) in
    λ from. c.skip-a.ensures.same_tokens from ∙ rw end (tokens_end c.args.rest.now from)

pub returns-then-begins_sign : goal.returns-then-begins_sign
returns-then-begins_sign c =
    let rest = c.args.rest.now in
    let a = c.skip-a.result in
    let x = get_or rest a 0 in
    from_later rest c.args.at a (Sign x a) c.skip-a.ensures.onward c.skip-a.ensures.same_tokens
    (sign_is rest a c.if-rest-a.false x refl (sym c.begins_sign.ensures ∙ c.if-begins_sign.true))

pub returns-then-in_run : goal.returns-then-in_run
returns-then-in_run c = from_later c.args.rest.now c.args.at c.skip-a.result c.led.result c.skip-a.ensures.onward c.skip-a.ensures.same_tokens c.led.ensures

pub minus-requires : goal.minus-requires
unfolding byte
minus-requires c = (c.if-rest-a.false, c.if-c-eq45.true)

pub returns-then-c-eq45 : goal.returns-then-c-eq45
returns-then-c-eq45 c = from_later c.args.rest.now c.args.at c.skip-a.result c.minus.result c.skip-a.ensures.onward c.skip-a.ensures.same_tokens c.minus.ensures

pub returns-else-c-eq45 : goal.returns-else-c-eq45
unfolding byte
returns-else-c-eq45 c =
    let rest = c.args.rest.now in
    let skipped = c.skip-a.ensures in
    let a = c.skip-a.result in
    let x = get_or rest a 0 in
    let o : Nothing x (drop (a + 1) rest) =
    record {
      no_separator = skipped.no_separator c.if-rest-a.false;
      no_remark = skipped.no_remark c.if-rest-a.false;
      no_run = sym c.in_run.ensures ∙ c.if-in_run.false;
      no_minus = ne_eqb _ (byte "-") c.if-c-eq45.false;
      no_sign = sym c.begins_sign.ensures ∙ c.if-begins_sign.false;
    } in
    from_later rest c.args.at a (Bad a) skipped.onward skipped.same_tokens (bad_in_front rest a c.if-rest-a.false 0 (bad_leads x (drop (a + 1) rest) o))
