-- The head is compared with the goal; where no place fails and none waits the circle test follows, and where it finds no circle the guards.
use Rattle.std.proofs.Common.{Some, None, refl}
use Rattle.meaning.specs.Terms.{named}
use Rattle.term.specs.States.{setting}
use Rattle.run_trial.specs.Choosing.{unit_of, template}
use Rattle.run_trial.proofs.Answering.{meets, circle_fails, guarding, gathered_earlier, guards_succeed, guards_wait, guards_fail, some_wait, place_fails}
use Rattle.run_trial.proofs.Trials.{to, comparing, comparison, cleared_all, large_noted, few_noted, quiet, waiting, tried_as, tried, given}
use Rattle.run_trial.proofs.choice.trial.Goals as goal

pub head-requires : goal.head-requires
head-requires c =
    let (text, names, j, limit, figures, at, g, others, goal, k, t, f, m, new, met, fit) = c.requires in
    let begun = c.begin.ensures.only in (
      setting figures at (unit_of j limit figures g),
      template c.args.k k,
      k.head.number,
      named k.head.name,
      k.head.arguments,
      1,
      to t f m begun,
      g.goal.arguments,
      comparing t f m begun,
    )

pub returns-in_default : goal.returns-in_default
returns-in_default c = λ text names j limit figures at g others goal k earlier t f m new gathered.
    let begun = c.begin.ensures.only in
    place_fails t f m begun gathered.ok new (comparison t f m begun c.head.new.s c.head.result None c.head.ensures c.in_default.is)

pub asks-requires : goal.asks-requires
asks-requires c =
    let (text, names, j, limit, figures, at, g, others, goal, k, t, f, m, new, met, fit) = c.requires in
    let begun = c.begin.ensures.only in
    let told = comparison t f m begun c.head.new.s c.head.result (Some c.in-Some.n) c.head.ensures c.in-Some.is in
    (large_noted t f m begun told, few_noted t f m begun told)

pub meet_all-met-requires : goal.meet_all-met-requires
meet_all-met-requires c =
    let (text, names, j, limit, figures, at, g, others, goal, k, t, f, m, new, met, fit) = c.requires in
    let begun = c.begin.ensures.only in
    let told = comparison t f m begun c.head.new.s c.head.result (Some c.in-Some.n) c.head.ensures c.in-Some.is in
    meets t f m begun met told

pub returns-then-asks : goal.returns-then-asks
returns-then-asks c = λ text names j limit figures at g others goal k earlier t f m new gathered.
    let begun = c.begin.ensures.only in
    let told = comparison t f m begun c.head.new.s c.head.result (Some c.in-Some.n) c.head.ensures c.in-Some.is in
    some_wait t f m begun gathered.ok new c.in-Some.n told (waiting t f m begun told c.asks.ensures c.if-asks.true)
    c.meet_all-met.result c.meet_all-met.ensures

pub circle-requires : goal.circle-requires
circle-requires c =
    let (text, names, j, limit, figures, at, g, others, goal, k, t, f, m, new, met, fit) = c.requires in
    let begun = c.begin.ensures.only in
    let cleared = cleared_all t f m begun c.begin.ensures.nothing in
    let told = comparison t f m begun c.head.new.s c.head.result (Some c.in-Some.n) c.head.ensures c.in-Some.is in
    let none = quiet t f m begun told c.asks.ensures c.if-asks.false in
    (tried_as t f m begun new fit cleared told none, tried t f m begun new fit cleared told none)

pub returns-then-circle : goal.returns-then-circle
returns-then-circle c =
    let fit = c.requires.15 in
    λ text names j limit figures at g others goal k earlier t f m new gathered.
    let begun = c.begin.ensures.only in
    let cleared = cleared_all t f m begun c.begin.ensures.nothing in
    let told = comparison t f m begun c.head.new.s c.head.result (Some c.in-Some.n) c.head.ensures c.in-Some.is in
    let none = quiet t f m begun told c.asks.ensures c.if-asks.false in
    let tested = c.circle.ensures (tried_as t f m begun new fit cleared told none) (tried t f m begun new fit cleared told none) in
    circle_fails t f m begun gathered.ok new fit cleared told none tested c.if-circle.true

pub guards-requires : goal.guards-requires
guards-requires c =
    let (text, names, j, limit, figures, at, g, others, goal, k, t, f, m, new, met, fit) = c.requires in
    let begun = c.begin.ensures.only in
    let cleared = cleared_all t f m begun c.begin.ensures.nothing in
    let told = comparison t f m begun c.head.new.s c.head.result (Some c.in-Some.n) c.head.ensures c.in-Some.is in
    let none = quiet t f m begun told c.asks.ensures c.if-asks.false in
    let tested = c.circle.ensures (tried_as t f m begun new fit cleared told none) (tried t f m begun new fit cleared told none) in (
      setting figures at (unit_of j limit figures g),
      template c.args.k k,
      k,
      given t f m begun new fit cleared told none,
      guarding t f m begun met new fit cleared told none tested,
      refl,
    )

pub returns-in-Ok : goal.returns-in-Ok
returns-in-Ok c =
    let fit = c.requires.15 in
    λ text names j limit figures at g others goal k earlier t f m new gathered.
    let begun = c.begin.ensures.only in
    let cleared = cleared_all t f m begun c.begin.ensures.nothing in
    let told = comparison t f m begun c.head.new.s c.head.result (Some c.in-Some.n) c.head.ensures c.in-Some.is in
    let none = quiet t f m begun told c.asks.ensures c.if-asks.false in
    let tested = c.circle.ensures (tried_as t f m begun new fit cleared told none) (tried t f m begun new fit cleared told none) in
    let guarded = c.guards.ensures (setting figures at (unit_of j limit figures g)) (template c.args.k k) k (given t f m begun new fit cleared told none)
    earlier (guarding t f m begun gathered.ok new fit cleared told none tested) refl (gathered_earlier gathered) in
    guards_succeed t f m begun gathered.ok new fit cleared told none tested c.if-circle.false guarded c.in-Ok.is

pub returns-in-Err-Waits : goal.returns-in-Err-Waits
returns-in-Err-Waits c =
    let fit = c.requires.15 in
    λ text names j limit figures at g others goal k earlier t f m new gathered.
    let begun = c.begin.ensures.only in
    let cleared = cleared_all t f m begun c.begin.ensures.nothing in
    let told = comparison t f m begun c.head.new.s c.head.result (Some c.in-Some.n) c.head.ensures c.in-Some.is in
    let none = quiet t f m begun told c.asks.ensures c.if-asks.false in
    let tested = c.circle.ensures (tried_as t f m begun new fit cleared told none) (tried t f m begun new fit cleared told none) in
    let guarded = c.guards.ensures (setting figures at (unit_of j limit figures g)) (template c.args.k k) k (given t f m begun new fit cleared told none)
    earlier (guarding t f m begun gathered.ok new fit cleared told none tested) refl (gathered_earlier gathered) in
    guards_wait t f m begun gathered.ok new fit cleared told none tested c.if-circle.false guarded c.in-Err-Waits.m (cc)

pub returns-in-Err-Fails : goal.returns-in-Err-Fails
returns-in-Err-Fails c =
    let fit = c.requires.15 in
    λ text names j limit figures at g others goal k earlier t f m new gathered.
    let begun = c.begin.ensures.only in
    let cleared = cleared_all t f m begun c.begin.ensures.nothing in
    let told = comparison t f m begun c.head.new.s c.head.result (Some c.in-Some.n) c.head.ensures c.in-Some.is in
    let none = quiet t f m begun told c.asks.ensures c.if-asks.false in
    let tested = c.circle.ensures (tried_as t f m begun new fit cleared told none) (tried t f m begun new fit cleared told none) in
    let guarded = c.guards.ensures (setting figures at (unit_of j limit figures g)) (template c.args.k k) k (given t f m begun new fit cleared told none)
    earlier (guarding t f m begun gathered.ok new fit cleared told none tested) refl (gathered_earlier gathered) in
    guards_fail t f m begun gathered.ok new fit cleared told none tested c.if-circle.false guarded (cc)
