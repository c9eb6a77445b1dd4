-- A compound is copied by `copy_compound`, any other term by its word moved.
use Rattle.std.proofs.Common.{sym, ◌∙◌}
use Rattle.run_effects.proofs.CopyCalls as calls
use Rattle.run_effects.proofs.Copying.{none_compound}
use Rattle.run_effects.proofs.build.copy.Goals as goal

pub copy_compound-requires : goal.copy_compound-requires
copy_compound-requires c = calls.whole_asks _ _ _ _ c.args.h c.requires _ (sym c.look.ensures ∙ c.in-Compound.is)

pub moved-requires : goal.moved-requires
moved-requires c = calls.pair_fits _ _ _ _ c.args.h c.requires

pub returns-in-Compound : goal.returns-in-Compound
returns-in-Compound c = calls.whole_tells _ _ _ _ c.args.h _ (sym c.look.ensures ∙ c.in-Compound.is) _ _ c.copy_compound.ensures

pub returns-in_default : goal.returns-in_default
returns-in_default c =
    let plain = none_compound _ (λ p e. c.in_default.not-Compound p (c.look.ensures ∙ e)) in
    calls.moved_tells _ _ _ _ c.args.h plain _ c.moved.ensures
