-- The line feeds among the bytes so far are counted.
use Rattle.std.proofs.Common.{◌≡◌, ◌+◌, ◌≤◌, length, take, eqb}
use Rattle.meaning.specs.Bytes.{those}
use Rattle.load_tokens.proofs.lines.line.Given as goal

abbrev pub invariant-loop-c : goal.invariant-loop-c
invariant-loop-c l = record {
  counted : l.n ≡ 1 + length (those (λ c. eqb c 10) (take l.c-index l.before));
  few : l.n ≤ l.c-index + 1;
}
