-- Each arm is what is seen of the word of a term.
use Rattle.std.proofs.Common.{rules}
use Rattle.load_elements.proofs.Seen.{seen_alone, none_alone, seen_inside}
use Rattle.load_elements.proofs.elements.stands_alone.Goals as goal

pub offset_bounds-s-place : goal.offset_bounds-s-place
offset_bounds-s-place c =
    let p = c.requires in
    let inside = seen_inside c.args.s.now p.0 p.1 c.args.w p.2 p.3 c.look.result c.in-Compound.place c.look.ensures c.in-Compound.is in
    search rules

pub bounds-s-place : goal.bounds-s-place
bounds-s-place c =
    let p = c.requires in
    seen_inside c.args.s.now p.0 p.1 c.args.w p.2 p.3 c.look.result c.in-Compound.place c.look.ensures c.in-Compound.is

pub returns-in-Name : goal.returns-in-Name
returns-in-Name c = λ names base t st. seen_alone c.args.s.now names base c.args.w t st _ c.in-Name.ensures

pub returns-in-Compound : goal.returns-in-Compound
returns-in-Compound c = λ names base t st. seen_alone c.args.s.now names base c.args.w t st _ c.in-Compound.ensures

pub returns-in-Nothing : goal.returns-in-Nothing
returns-in-Nothing c = λ names base t st. none_alone c.args.s.now names base c.args.w t st c.look.result c.in-Nothing.is c.look.ensures
