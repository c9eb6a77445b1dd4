-- Two words are set, and no two the same.
use Rattle.std.proofs.Common.{◌<◌}
use native.Mathlib.Omega.{arith}
use Rattle.run_index.specs.Index.{IndexOnly}
use Rattle.run_index.proofs.Building.{index_only_same, index_only_then}
use Rattle.run_index.proofs.Telling.{cleared_next, set_only}
use Rattle.run_index.proofs.build.begin.Goals as goal

pub loop-k-init : goal.loop-k-init
loop-k-init c = record { only = index_only_same _; cleared = λ a h. absurd (omega arith) }

pub loop-k-preserved : goal.loop-k-preserved
loop-k-preserved c =
    let i = c.loop-k.invariant in
    let taken : c.loop-k.k < 128 = omega arith in
    let first : IndexOnly c.loop-k.s c.set_word.new.s = set_only _ _ c.loop-k.k 28 0 c.set_word.ensures taken (omega arith) (omega arith) in
    let second : IndexOnly c.set_word.new.s c.set_word-in-loop-k.new.s = set_only _ _ c.loop-k.k 29 0 c.set_word-in-loop-k.ensures taken (omega arith) (omega arith) in
    record {
      only = index_only_then i.only (index_only_then first second);
      cleared = cleared_next _ _ _ c.loop-k.k taken (omega (arith, i.only.size)) first c.set_word.ensures c.set_word-in-loop-k.ensures i.cleared;
    }

pub returns : goal.returns
returns c =
    let i = c.loop-k.invariant in
    record { only = i.only; buckets = λ b h. (i.cleared b (omega arith)).0; told = λ k h. (i.cleared k (omega arith)).1 }
