-- The value so far, taken on over the digits that are left, is that of them all.
use Rattle.std.proofs.Common.{◌≡◌, ◌^◌, ◌<◌, drop}
use Rattle.meaning.specs.Bytes.{all}
use Rattle.meaning.specs.Tokens.{digit, value}
use Rattle.load_tokens.proofs.token.digits_value.Given as goal

abbrev pub invariant-loop-c : goal.invariant-loop-c
invariant-loop-c l = record {
  small : l.v < 10 ^ l.c-index;
  same_value : value l.v (drop l.c-index l.digits) ≡ value 0 l.digits;
  same_test : all digit (drop l.c-index l.digits) ≡ all digit l.digits;
}
