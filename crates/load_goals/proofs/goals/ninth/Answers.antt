-- A name passes the figure, any other token cannot stand.
use Rattle.load_goals.proofs.Ninth.{ninth_name, ninth_writer, ninth_reader, ninth_integer, ninth_sign, ninth_bad, ninth_ends}
use Rattle.load_goals.proofs.goals.ninth.Goals as goal

pub returns-in-Name : goal.returns-in-Name
returns-in-Name c = ninth_name c.args.rest.now c.args.at _ _ c.in-Name.ensures

pub returns-in-Writer : goal.returns-in-Writer
returns-in-Writer c = ninth_writer c.args.rest.now c.args.at c.in-Writer.a _ c.in-Writer.ensures

pub returns-in-Writer-2 : goal.returns-in-Writer-2
returns-in-Writer-2 c = ninth_reader c.args.rest.now c.args.at c.in-Writer.a _ c.in-Writer.ensures

pub returns-in-Writer-3 : goal.returns-in-Writer-3
returns-in-Writer-3 c = ninth_integer c.args.rest.now c.args.at _ c.in-Writer.a _ c.in-Writer.ensures

pub returns-in-Writer-4 : goal.returns-in-Writer-4
returns-in-Writer-4 c = ninth_sign c.args.rest.now c.args.at _ c.in-Writer.a c.in-Writer.ensures

pub returns-in-Writer-5 : goal.returns-in-Writer-5
returns-in-Writer-5 c = ninth_bad c.args.rest.now c.args.at c.in-Writer.a c.in-Writer.ensures

pub returns-in-End : goal.returns-in-End
returns-in-End c = ninth_ends c.args.rest.now c.args.at c.in-End.ensures
