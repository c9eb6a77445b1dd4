-- `run_equal::equal::equal` meets its contract.
use mathlib.Core.Path.{refl}
use Rattle.run_equal.specs.Equal.{filled}
use Rattle.run_equal.proofs.Answers.{scene, first_readable, second_readable, first_means, second_means, begins, says}
use Rattle.run_equal.proofs.equal.equal.Goals as goal

pub given-t-requires : goal.given-t-requires
given-t-requires c =
    let a = c.args in
    let (x, y, given, n, t, u, E) = c.requires in
    first_readable a.s.now x y given a.values a.marks a.links a.met n a.place t u E

pub given-u-requires : goal.given-u-requires
given-u-requires c =
    let a = c.args in
    let (x, y, given, n, t, u, E) = c.requires in
    second_readable a.s.now x y given a.values a.marks a.links a.met n a.place t u E

pub same-requires : goal.same-requires
same-requires c =
    let a = c.args in
    let (x, y, given, n, t, u, E) = c.requires in (
      scene a.s.now x y given a.values a.marks a.links a.met n a.place t u E,
      filled (scene a.s.now x y given a.values a.marks a.links a.met n a.place t u E) t,
      filled (scene a.s.now x y given a.values a.marks a.links a.met n a.place t u E) u,
      begins a.s.now x y given a.values a.marks a.links a.met n a.place t u E,
      first_means a.s.now x y given a.values a.marks a.links a.met n a.place t u E c.given-t.result c.given-t.ensures,
      second_means a.s.now x y given a.values a.marks a.links a.met n a.place t u E c.given-u.result c.given-u.ensures,
    )

pub returns : goal.returns
returns c x y given n t u E =
    let a = c.args in
    says a.s.now x y given a.values a.marks a.links a.met n a.place t u E c.same.new.s c.same.result
    (c.same.ensures (scene a.s.now x y given a.values a.marks a.links a.met n a.place t u E)
    (filled (scene a.s.now x y given a.values a.marks a.links a.met n a.place t u E) t)
    (filled (scene a.s.now x y given a.values a.marks a.links a.met n a.place t u E) u)
    (begins a.s.now x y given a.values a.marks a.links a.met n a.place t u E)
    (first_means a.s.now x y given a.values a.marks a.links a.met n a.place t u E c.given-t.result c.given-t.ensures)
    (second_means a.s.now x y given a.values a.marks a.links a.met n a.place t u E c.given-u.result c.given-u.ensures)) _ refl
