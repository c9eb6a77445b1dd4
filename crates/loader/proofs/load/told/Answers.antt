-- Each refusal holds the line of the item, or of the token that cannot stand.
use Rattle.std.proofs.Common.{◌+◌, ap}
use Rattle.meaning.specs.Items.{no_item, guard_rule, occurrence_rule, figure}
use Rattle.meaning.specs.Call.{no_items, guard_refused, occurrence_broken, figure_passed, refusal}
use Rattle.loader.proofs.load.told.Goals as goal

pub returns-in-Malformed : goal.returns-in-Malformed
unfolding refusal
returns-in-Malformed c = λ places clauses queries s s' u.
    let h = rw c.in-Malformed.is at u.2 in
    let p = c.args.from + c.in-Malformed.a in
    (no_item p, h.0, ap (λ l. no_items l p) c.line.ensures, h.2)

pub returns-in-Unknown : goal.returns-in-Unknown
unfolding refusal
returns-in-Unknown c = λ places clauses queries s s' u.
    let h = rw c.in-Unknown.is at u.2 in
    (guard_rule (c.args.from + c.args.unfit.begins), h.0, ap guard_refused c.line-in-Unknown.ensures, h.1)

pub returns-in-Broken : goal.returns-in-Broken
unfolding refusal
returns-in-Broken c = λ places clauses queries s s' u.
    let h = rw c.in-Broken.is at u.2 in
    (occurrence_rule (c.args.from + c.args.unfit.begins) h.0, h.1, rw (h.2.0, h.2.1) (ap (λ l. occurrence_broken h.0.rule l h.0.offset) c.line-in-Broken.ensures), h.3)

pub returns-in-Exceeded : goal.returns-in-Exceeded
unfolding refusal
returns-in-Exceeded c = λ places clauses queries s s' u.
    let h = rw c.in-Exceeded.is at u.2 in
    (figure (c.args.from + c.args.unfit.begins), h.0, ap figure_passed c.line-in-Exceeded.ensures, h.1)
