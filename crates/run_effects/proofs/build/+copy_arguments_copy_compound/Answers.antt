-- `copy_arguments` and `copy_compound` meet their contracts: what each asks of the other and tells is a lemma of CopyCalls.
use Rattle.std.proofs.Common.{arith, ◌+◌, get_or, set, refl, sym, ◌∙◌}
use Rattle.run_effects.proofs.CopyCalls as calls
use Rattle.run_effects.proofs.Copying.{none_compound}
use Rattle.run_effects.proofs.build.+copy_arguments_copy_compound.Goals as goal
use Rattle.run_effects.proofs.build.+copy_arguments_copy_compound.Goals.{copy_arguments-in-Compound, copy_arguments-in_default}

pub copy_arguments-count-k-requires : goal.copy_arguments-count-k-requires
copy_arguments-count-k-requires t c =
    let a = c.args in
    omega (arith, (calls.compound_inside a.s.now a.pair a.to a.p c.requires).0)

pub copy_arguments-offset_bounds-s-p : goal.copy_arguments-offset_bounds-s-p
copy_arguments-offset_bounds-s-p t c =
    let a = c.args in
    omega (arith, (calls.compound_inside a.s.now a.pair a.to a.p c.requires).0, c.well_formed)

pub copy_arguments-bounds-s-p : goal.copy_arguments-bounds-s-p
copy_arguments-bounds-s-p t c =
    let a = c.args in
    omega (arith, (calls.compound_inside a.s.now a.pair a.to a.p c.requires).0)

pub copy_arguments-bounds-s-to : goal.copy_arguments-bounds-s-to
copy_arguments-bounds-s-to t c =
    let a = c.args in
    omega (arith, (calls.compound_inside a.s.now a.pair a.to a.p c.requires).1)

pub copy_arguments-overflow_add-free : goal.copy_arguments-overflow_add-free
copy_arguments-overflow_add-free t c =
    let a = c.args in
    omega (arith, (calls.compound_inside a.s.now a.pair a.to a.p c.requires).1, c.well_formed)

pub copy_arguments-overflow_add-free-2 : goal.copy_arguments-overflow_add-free-2
copy_arguments-overflow_add-free-2 t c =
    let a = c.args in
    omega (arith, calls.copy_inside a.s.now a.pair a.to a.p _ c.count-k.ensures c.requires, c.well_formed)

pub copy_arguments-loop-i-init : goal.copy_arguments-loop-i-init
copy_arguments-loop-i-init t c = calls.walk_begins _ c.args.pair c.args.to c.args.p _

pub copy_arguments-argument-a-requires : goal.copy_arguments-argument-a-requires
copy_arguments-argument-a-requires t c =
    let a = c.args in let L = c.loop-i in
    let inside = calls.compound_inside a.s.now a.pair a.to a.p c.requires in
    let size = calls.walk_size a.s.now a.pair a.to a.p _ c.count-k.ensures _ refl L.s L.free L.i L.invariant c.requires in
    omega (arith, c.loop-i-test.true, inside.0, size.0, size.1)

-- An argument that is a compound.
pub copy_arguments-overflow_add-to : goal.copy_arguments-overflow_add-to
copy_arguments-overflow_add-to t c =
    let a = c.args in
    omega (arith, c.loop-i-test.true, calls.copy_inside a.s.now a.pair a.to a.p _ c.count-k.ensures c.requires, c.well_formed)

pub copy_arguments-copy_compound-free-requires : goal.copy_arguments-copy_compound-free-requires
copy_arguments-copy_compound-free-requires t c =
    let a = c.args in let L = c.loop-i in
    let said = sym c.look.ensures ∙ c.in-Compound.is in
    calls.walk_asks a.s.now a.pair a.to a.p _ c.count-k.ensures _ refl L.s L.free L.i L.invariant c.requires (omega arith) c.argument-a.result c.argument-a.ensures _ said t c.decreases

-- One that is none.
pub copy_arguments-moved-requires : goal.copy_arguments-moved-requires
copy_arguments-moved-requires t c =
    let a = c.args in let L = c.loop-i in let A = c.argument-a in
    calls.pair_fits L.s a.pair _ _ A.result
    (calls.walk_term a.s.now a.pair a.to a.p _ c.count-k.ensures _ refl L.s L.free L.i L.invariant c.requires (omega arith) A.result A.ensures)

pub copy_arguments-bounds-s-to-in_default : goal.copy_arguments-bounds-s-to-in_default
copy_arguments-bounds-s-to-in_default t c =
    let a = c.args in let L = c.loop-i in let A = c.argument-a in
    calls.term_inside L.s a.pair _ _ A.result
    (calls.walk_term a.s.now a.pair a.to a.p _ c.count-k.ensures _ refl L.s L.free L.i L.invariant c.requires (omega arith) A.result A.ensures)

pub copy_arguments-loop-i-preserved : goal.copy_arguments-loop-i-preserved
copy_arguments-loop-i-preserved t c =
    let a = c.args in let L = c.loop-i in let A = c.argument-a in let M = c.match-look in
    let on = calls.walk_on _ a.pair a.to a.p _ L.s L.free L.i L.invariant (omega arith) A.result A.ensures in
    elim M.branch [
      | copy_arguments-in-Compound w ↦
          let said = sym c.look.ensures ∙ w.in-Compound.is in
          on _ _ (calls.whole_tells L.s a.pair (a.to + L.i) L.free A.result _ said _ _ w.copy_compound-free.ensures) M.s M.free w.s-is w.free-is
      | copy_arguments-in_default w ↦
          let plain = none_compound _ (λ p e. w.in_default.not-Compound p (c.look.ensures ∙ e)) in
          on _ _ (calls.moved_tells L.s a.pair (a.to + L.i) L.free A.result plain _ w.moved.ensures) M.s M.free w.s-is w.free-is
    ]

-- Behind the last argument.
pub copy_arguments-returns-after-look : goal.copy_arguments-returns-after-look
copy_arguments-returns-after-look t c =
    let a = c.args in let L = c.loop-i in let A = c.argument-a in let M = c.match-look in
    let on = calls.walk_on _ a.pair a.to a.p _ L.s L.free L.i L.invariant (omega arith) A.result A.ensures in
    let next : calls.Walking (set a.s.now a.to (get_or a.s.now a.p 0)) a.pair a.to a.p c.count-k.result M.s M.free (L.i + 1) =
    elim M.branch [
      | copy_arguments-in-Compound w ↦
          let said = sym c.look.ensures ∙ w.in-Compound.is in
          on _ _ (calls.whole_tells L.s a.pair (a.to + L.i) L.free A.result _ said _ _ w.copy_compound-free.ensures) M.s M.free w.s-is w.free-is
      | copy_arguments-in_default w ↦
          let plain = none_compound _ (λ p e. w.in_default.not-Compound p (c.look.ensures ∙ e)) in
          on _ _ (calls.moved_tells L.s a.pair (a.to + L.i) L.free A.result plain _ w.moved.ensures) M.s M.free w.s-is w.free-is
    ] in
    calls.walk_ends a.s.now a.pair a.to a.p _ c.count-k.ensures _ refl M.s M.free (L.i + 1) next (omega arith)

pub copy_arguments-returns : goal.copy_arguments-returns
copy_arguments-returns t c =
    let a = c.args in let L = c.loop-i in
    calls.walk_ends a.s.now a.pair a.to a.p _ c.count-k.ensures _ refl L.s L.free L.i L.invariant (omega arith)

pub copy_compound-placed-requires : goal.copy_compound-placed-requires
copy_compound-placed-requires t c =
    let a = c.args in
    (omega arith, omega (arith, (calls.whole_inside a.s.now a.pair a.at a.to a.p c.requires).1, c.well_formed))

pub copy_compound-copy_arguments-requires : goal.copy_compound-copy_arguments-requires
copy_compound-copy_arguments-requires t c =
    let a = c.args in
    calls.compound_asks a.s.now a.pair a.at a.to a.p c.requires _ _ refl t c.decreases

pub copy_compound-returns : goal.copy_compound-returns
copy_compound-returns t c =
    let a = c.args in
    calls.compound_tells a.s.now a.pair a.at a.to a.p _ _ _ _ refl c.placed.ensures c.copy_arguments.ensures
