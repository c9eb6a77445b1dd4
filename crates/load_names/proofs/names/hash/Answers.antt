use Rattle.std.proofs.Common.{◌%◌, ◌∙◌, sym, ap, arith}
use Rattle.load_names.specs.Tables.{hash_of}
use Rattle.load_names.proofs.Hashes.{hash_next, hash_ends}
use Rattle.load_names.proofs.names.hash.Goals as goal

pub loop-c-preserved : goal.loop-c-preserved
loop-c-preserved c =
    let part = c.args.spelling.now in
    record {
      small = omega arith;
      same_hash = rw c.from.ensures (hash_next part c.loop-c.h c.loop-c.c-index c.loop-c-test.true ∙ c.loop-c.invariant.same_hash);
    }

pub returns : goal.returns
unfolding hash_of
returns c =
    let part = c.args.spelling.now in
    let whole = sym (hash_ends part c.loop-c.h c.loop-c.c-index c.loop-c-test.false) ∙ c.loop-c.invariant.same_hash in
    ap (λ h. h % 256) whole
