-- `run_equal::equal::opened` meets its contract: a link, or the value followed to its end.
use mathlib.Core.Bool.{not}
use mathlib.Core.Path.{ap}
use native.Mathlib.Omega.{arith}
use Rattle.run_equal.proofs.Words.{is_variable, no_variable}
use Rattle.run_equal.proofs.Links.{alike_self, pair_inside, link_alike, reads_variable, followed_opened}
use Rattle.run_equal.proofs.equal.opened.Goals as goal

pub returns-then-not-is_variable : goal.returns-then-not-is_variable
returns-then-not-is_variable c =
    let a = c.args in
    λ x v W m.
    record {
      alike = alike_self a.s.now x a.values a.lists a.links a.taken W a.c v m;
      ended = no_variable a.c c.is_variable.result c.is_variable.ensures (ap not c.if-not-is_variable.true);
    }

pub link-requires : goal.link-requires
link-requires c =
    let a = c.args in
    let (x, v, W, m) = c.requires in
    let is = is_variable a.c c.is_variable.result c.is_variable.ensures (ap not c.if-not-is_variable.false) in
    let pair = pair_inside a.s.now x a.values a.lists a.links a.taken W a.c v m is in
    (W.readers.inside, omega (arith, c.index.ensures), W.high)

pub returns-then-v-eq-COMPOUND : goal.returns-then-v-eq-COMPOUND
returns-then-v-eq-COMPOUND c =
    let a = c.args in
    let is = is_variable a.c c.is_variable.result c.is_variable.ensures (ap not c.if-not-is_variable.false) in
    λ x v W m.
    record {
      alike = link_alike a.s.now x a.values a.lists a.links a.taken W a.c v c.in-Some.v m is
          (rw (c.index.ensures, c.in-Some.is) at c.link.ensures);
      ended = λ z. omega (arith, c.if-v-eq-COMPOUND.true);
    }

pub follow-requires : goal.follow-requires
follow-requires c =
    let a = c.args in
    let (x, v, W, m) = c.requires in
    let is = is_variable a.c c.is_variable.result c.is_variable.ensures (ap not c.if-not-is_variable.false) in
    let reads = reads_variable a.s.now x a.values a.lists a.links a.taken W a.c v m is in
    (x.unit, reads.0, reads.1)

pub returns : goal.returns
returns c =
    let a = c.args in
    let is = is_variable a.c c.is_variable.result c.is_variable.ensures (ap not c.if-not-is_variable.false) in
    λ x v W m.
    let reads = reads_variable a.s.now x a.values a.lists a.links a.taken W a.c v m is in
    followed_opened a.s.now x a.values a.lists a.links a.taken W a.c v m is c.follow.result
    (c.follow.ensures x.unit reads.0 reads.1)
