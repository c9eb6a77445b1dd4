use Rattle.std.proofs.Common.{◌≡◌, true}
use Rattle.load_guards.proofs.Words.{grounds_so, licenses_reader, licenses_other}
use Rattle.load_guards.proofs.guards.grounded.Goals as goal

pub returns-then-argument-eq-READER : goal.returns-then-argument-eq-READER
returns-then-argument-eq-READER c base known g t m =
    let grounds : g.row.means_ground ≡ true = grounds_so _ _ base known g t _ _ true c.index.ensures c.means_ground.ensures c.if-means_ground.true in
    rw (c.index-then-argument-eq-READER.ensures, c.index-then-means_ground.ensures)
    (licenses_reader _ _ base known g t grounds (rw c.index-then-means_ground.ensures at c.if-argument-eq-READER.true) m)

pub returns-else-argument-eq-READER : goal.returns-else-argument-eq-READER
returns-else-argument-eq-READER c base known g t m =
    let grounds : g.row.means_ground ≡ true = grounds_so _ _ base known g t _ _ true c.index.ensures c.means_ground.ensures c.if-means_ground.true in
    licenses_other _ _ base known g t grounds (rw c.index-then-means_ground.ensures at c.if-argument-eq-READER.false) m
