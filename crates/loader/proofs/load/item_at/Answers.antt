-- The rest of the text and an empty table are what `next_item` asks for.
use Rattle.std.proofs.Common.{◌≡◌, ◌-◌, length, take, drop, refl, subst, Ok}
use Rattle.load_items.specs.Outcomes.{ItemIs}
use Rattle.std.proofs.lemmas.List.{take_rest}
use Rattle.loader.proofs.load.item_at.Goals as goal

pub told-requires : goal.told-requires
told-requires c =
    let a = c.args in
    let rest : take (length a.text.now - a.from) (drop a.from a.text.now) ≡ drop a.from a.text.now = take_rest a.text.now a.from in
    let (places, inside, names, count) = c.requires.from_in_bounds in
    let h = rw rest at (c.in-Err.ensures places (record { part = (inside, rest); names_in = names; count_is = count; empty = refl })) in
    (places, a.clauses, a.queries, a.s.now, c.next_item.new.s, (inside, h.0, h.1))

pub returns-in-Ok : goal.returns-in-Ok
returns-in-Ok c = λ places inside names count.
    let a = c.args in
    let rest : take (length a.text.now - a.from) (drop a.from a.text.now) ≡ drop a.from a.text.now = take_rest a.text.now a.from in
    let new = c.next_item.new in
    subst (λ r. ItemIs a.text.now r a.from places a.clauses a.queries a.s.now a.heads.now new.s a.names.now new.names new.heads (Ok c.in-Ok.found)) rest
    (c.in-Ok.ensures places (record { part = (inside, rest); names_in = names; count_is = count; empty = refl }))

pub returns-in-Err : goal.returns-in-Err
returns-in-Err c = λ places inside names count.
    let a = c.args in
    let rest : take (length a.text.now - a.from) (drop a.from a.text.now) ≡ drop a.from a.text.now = take_rest a.text.now a.from in
    let h = rw rest at (c.in-Err.ensures places (record { part = (inside, rest); names_in = names; count_is = count; empty = refl })) in
    c.told.ensures places a.clauses a.queries a.s.now c.next_item.new.s (inside, h.0, h.1)
