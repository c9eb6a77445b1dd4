-- `run_chains::ends::keep` meets its contract: the pair has a value, so it leads to what is found.
use Rattle.run_chains.proofs.Keeping.{kept_where}
use Rattle.run_chains.proofs.ends.keep.Goals as goal

pub returns : goal.returns
returns c x h n k a =
    let w = c.args.w in
    let followed = c.follow-e in
    let value = c.word_at-v in
    rw c.set_at.ensures
    (kept_where x c.args.values c.args.links c.args.s.now h n w c.args.p followed.result value.result k a
    (followed.ensures x _ k.reads) value.ensures c.if-v-ne-READER.false)
