-- The definition's test, figure by figure.
use Rattle.term.specs.Layout.{figures}
use Rattle.run_charges.proofs.Within.{over_pairs, over_compounds, goals_decide}
use Rattle.run_charges.proofs.charges.fits.Goals as goal

pub returns-then-room-t : goal.returns-then-room-t
returns-then-room-t c = over_pairs (figures c.args.room) _ _ _ c.if-room-t.true

pub returns-then-room-t-2 : goal.returns-then-room-t-2
returns-then-room-t-2 c = over_compounds (figures c.args.room) _ _ _ c.if-room-t.false c.if-room-t-2.true

pub returns : goal.returns
returns c = goals_decide (figures c.args.room) _ _ _ c.if-room-t.false c.if-room-t-2.false
