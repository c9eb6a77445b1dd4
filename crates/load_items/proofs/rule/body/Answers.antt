-- The elements behind `:-` are the goals at the full stop, and at the bar the guards.
use Rattle.std.proofs.Common.{◌≡◌, ◌∙◌, ◌≤◌, ℕ, length, refl, arith}
use Rattle.std.proofs.Math.ListN.{replicate, length-replicate, length-take}
use Rattle.std.proofs.lemmas.List.{length-take-le}
use Rattle.std.proofs.lemmas.Result.{err_from_is_err_and}
use Rattle.term.specs.Layout.{clause_base}
use Rattle.load_names.specs.Places.{names_over, variables_over, item_places}
use Rattle.load_items.proofs.Behind.{fresh_stands, behind_unread, worded, stop_not, stop_got, listed, bar_stands, at_bar}
use Rattle.load_items.proofs.rule.body.Goals as goal

pub elements-requires-clause-stands : goal.elements-requires-clause-stands
elements-requires-clause-stands c =
    let a = c.args in
    let p = c.requires.stands in
    let fresh = rw c.requires.none_counted.0 at c.copy_counts.ensures in (
      p.0,
      p.1,
      fresh_stands a.k c.requires.k_bound.0 a.src.text.now a.src.rest.now a.src.from p.0 p.1 a.c a.s.now a.names.now a.item.now a.tables.now.in_head c.requires.by_index p.2
          c.copy_counts.new.table c.copy_counts.auto.table fresh,
    )

pub returns-in_err-n-clause-read : goal.returns-in_err-n-clause-read
returns-in_err-n-clause-read c = λ known vars st.
    let a = c.args in
    let fresh = rw c.requires.none_counted.0 at c.copy_counts.ensures in
    let p = err_from_is_err_and c.from_residual.result c.from_residual.ensures.1 in
    rw (p.1, p.2) (behind_unread a.k c.requires.k_bound.0 a.src.text.now a.src.rest.now a.src.from known vars a.c a.s.now a.names.now a.item.now a.tables.now.in_head c.requires.by_index st
    c.copy_counts.new.table c.copy_counts.auto.table fresh
    (replicate 8 0) c.elements.new.s c.elements.new.names c.elements.new.item c.elements.new.words a.tables.now.in_guards a.tables.now.licensed _
    (c.in_err-n.ensures known vars (fresh_stands a.k c.requires.k_bound.0 a.src.text.now a.src.rest.now a.src.from known vars a.c a.s.now a.names.now a.item.now a.tables.now.in_head c.requires.by_index st
    c.copy_counts.new.table c.copy_counts.auto.table fresh)))

pub slice_bounds-words-end : goal.slice_bounds-words-end
slice_bounds-words-end c =
    let a = c.args in
    let fresh = rw c.requires.none_counted.0 at c.copy_counts.ensures in
    let (known, vars, st) = c.requires.stands in
    let now = c.in-Stop in
    let told = rw now.is at (c.in_ok-n.ensures known vars (fresh_stands a.k c.requires.k_bound.0 a.src.text.now a.src.rest.now a.src.from known vars a.c a.s.now a.names.now a.item.now a.tables.now.in_head c.requires.by_index st
    c.copy_counts.new.table c.copy_counts.auto.table fresh)) in
    let many : 8 ≤ length c.elements.new.words = omega (arith, c.elements.auto.words) in
    omega (arith, told.2.gave.few, many)

pub slice_bounds-set_goals-end : goal.slice_bounds-set_goals-end
slice_bounds-set_goals-end c =
    let a = c.args in
    let fresh = rw c.requires.none_counted.0 at c.copy_counts.ensures in
    let (known, vars, st) = c.requires.stands in
    let now = c.in-Stop in
    let told = rw now.is at (c.in_ok-n.ensures known vars (fresh_stands a.k c.requires.k_bound.0 a.src.text.now a.src.rest.now a.src.from known vars a.c a.s.now a.names.now a.item.now a.tables.now.in_head c.requires.by_index st
    c.copy_counts.new.table c.copy_counts.auto.table fresh)) in
    let many : 8 ≤ length c.elements.new.words = omega (arith, c.elements.auto.words) in
    omega (arith, length-take now.n c.elements.new.words, told.2.gave.few, many)

pub returns-then-not-set_goals-clause-read : goal.returns-then-not-set_goals-clause-read
returns-then-not-set_goals-clause-read c = λ known vars st.
    let a = c.args in
    let fresh = rw c.requires.none_counted.0 at c.copy_counts.ensures in
    let now = c.in-Stop in
    let told = rw now.is at (c.in_ok-n.ensures known vars (fresh_stands a.k c.requires.k_bound.0 a.src.text.now a.src.rest.now a.src.from known vars a.c a.s.now a.names.now a.item.now a.tables.now.in_head c.requires.by_index st
    c.copy_counts.new.table c.copy_counts.auto.table fresh)) in
    let many : 8 ≤ length c.elements.new.words = omega (arith, c.elements.auto.words) in
    let known' = names_over told.1 known in
    let goals_told = rw c.if-not-set_goals.true at (c.set_goals.ensures (item_places known' (clause_base a.k)) told.0 (worded a.k c.requires.k_bound.0 a.src.text.now a.src.rest.now a.src.from known vars a.c a.s.now a.names.now a.item.now a.tables.now.in_head c.requires.by_index st
    c.copy_counts.new.table c.copy_counts.auto.table fresh
    (replicate 8 0) c.elements.new.s c.elements.new.names c.elements.new.item c.elements.new.words now.n now.d told.0 told.1 told.2.gave _ refl many)) in
    stop_not a.k c.requires.k_bound.0 a.src.text.now a.src.rest.now a.src.from known vars a.c a.s.now a.names.now a.item.now a.tables.now.in_head c.requires.by_index st
    c.copy_counts.new.table c.copy_counts.auto.table fresh
    (replicate 8 0) c.elements.new.s c.elements.new.names c.elements.new.item c.elements.new.words now.n now.d told.0 told.1 now.a told.2 c.set_goals.new.s a.tables.now.in_guards a.tables.now.licensed goals_told

pub add_counts-requires-clause-by_index : goal.add_counts-requires-clause-by_index
add_counts-requires-clause-by_index c =
    let a = c.args in
    let fresh = rw c.requires.none_counted.0 at c.copy_counts.ensures in
    let (known, vars, st) = c.requires.stands in
    let now = c.in-Stop in
    let told = rw now.is at (c.in_ok-n.ensures known vars (fresh_stands a.k c.requires.k_bound.0 a.src.text.now a.src.rest.now a.src.from known vars a.c a.s.now a.names.now a.item.now a.tables.now.in_head c.requires.by_index st
    c.copy_counts.new.table c.copy_counts.auto.table fresh)) in
    λ i l. (omega (arith, c.requires.by_index i l, st.variables_in.counted i l), told.2.gave.stands.variables_in.counted i l)

pub slice_bounds-words-end-in-Bar : goal.slice_bounds-words-end-in-Bar
slice_bounds-words-end-in-Bar c =
    let a = c.args in
    let fresh = rw c.requires.none_counted.0 at c.copy_counts.ensures in
    let (known, vars, st) = c.requires.stands in
    let now = c.in-Bar in
    let told = rw now.is at (c.in_ok-n.ensures known vars (fresh_stands a.k c.requires.k_bound.0 a.src.text.now a.src.rest.now a.src.from known vars a.c a.s.now a.names.now a.item.now a.tables.now.in_head c.requires.by_index st
    c.copy_counts.new.table c.copy_counts.auto.table fresh)) in
    let many : 8 ≤ length c.elements.new.words = omega (arith, c.elements.auto.words) in
    omega (arith, told.3.gave.few, many)

pub slice_bounds-tested-end : goal.slice_bounds-tested-end
slice_bounds-tested-end c =
    let a = c.args in
    let fresh = rw c.requires.none_counted.0 at c.copy_counts.ensures in
    let (known, vars, st) = c.requires.stands in
    let now = c.in-Bar in
    let told = rw now.is at (c.in_ok-n.ensures known vars (fresh_stands a.k c.requires.k_bound.0 a.src.text.now a.src.rest.now a.src.from known vars a.c a.s.now a.names.now a.item.now a.tables.now.in_head c.requires.by_index st
    c.copy_counts.new.table c.copy_counts.auto.table fresh)) in
    let many : 8 ≤ length c.elements.new.words = omega (arith, c.elements.auto.words) in
    omega (arith, length-take now.n c.elements.new.words, told.3.gave.few, many)

pub tested-found-requires-clause-listed : goal.tested-found-requires-clause-listed
tested-found-requires-clause-listed c =
    let a = c.args in
    let fresh = rw c.requires.none_counted.0 at c.copy_counts.ensures in
    let (known, vars, st) = c.requires.stands in
    let now = c.in-Bar in
    let told = rw now.is at (c.in_ok-n.ensures known vars (fresh_stands a.k c.requires.k_bound.0 a.src.text.now a.src.rest.now a.src.from known vars a.c a.s.now a.names.now a.item.now a.tables.now.in_head c.requires.by_index st
    c.copy_counts.new.table c.copy_counts.auto.table fresh)) in
    let many : 8 ≤ length c.elements.new.words = omega (arith, c.elements.auto.words) in (
      names_over told.1 known,
      told.0,
      listed a.k c.requires.k_bound.0 a.src.text.now a.src.rest.now a.src.from known vars a.c a.s.now a.names.now a.item.now a.tables.now.in_head c.requires.by_index st
          c.copy_counts.new.table c.copy_counts.auto.table fresh
          (replicate 8 0) c.elements.new.s c.elements.new.names c.elements.new.item c.elements.new.words now.n now.d told.0 told.1 told.2 told.3 c.requires.k_bound.1 many,
    )

pub guarded-requires-clause-stands : goal.guarded-requires-clause-stands
guarded-requires-clause-stands c =
    let a = c.args in
    let fresh = rw c.requires.none_counted.0 at c.copy_counts.ensures in
    let (known, vars, st) = c.requires.stands in
    let now = c.in-Bar in
    let told = rw now.is at (c.in_ok-n.ensures known vars (fresh_stands a.k c.requires.k_bound.0 a.src.text.now a.src.rest.now a.src.from known vars a.c a.s.now a.names.now a.item.now a.tables.now.in_head c.requires.by_index st
    c.copy_counts.new.table c.copy_counts.auto.table fresh)) in
    let kept_guards = rw c.requires.none_counted.0 at c.copy_counts-in-Bar.ensures in
    let were : length a.tables.now.in_guards ≡ 64 = rw c.requires.none_counted.0 (length-replicate {A = ℕ} 64 0) in
    let size_g : length c.copy_counts-in-Bar.new.table ≡ 64 = c.copy_counts-in-Bar.auto.table ∙ were in
    let back = c.copy_counts-in-Bar-2 in (
      names_over told.1 known,
      variables_over a.src.from told.1 vars,
      bar_stands a.k c.requires.k_bound.0 a.src.text.now a.src.rest.now a.src.from known vars a.c a.s.now a.names.now a.item.now a.tables.now.in_head c.requires.by_index st
          c.copy_counts.new.table c.copy_counts.auto.table fresh
          (replicate 8 0) c.elements.new.s c.elements.new.names c.elements.new.item c.elements.new.words now.n now.d told.0 told.1 told.2 told.3 c.requires.k_bound.1
          c.copy_counts-in-Bar.new.table back.new.table back.new.table size_g kept_guards back.auto.table back.ensures,
    )

pub returns-else-not-set_goals-clause-read : goal.returns-else-not-set_goals-clause-read
returns-else-not-set_goals-clause-read c = λ known vars st.
    let a = c.args in
    let fresh = rw c.requires.none_counted.0 at c.copy_counts.ensures in
    let now = c.in-Stop in
    let told = rw now.is at (c.in_ok-n.ensures known vars (fresh_stands a.k c.requires.k_bound.0 a.src.text.now a.src.rest.now a.src.from known vars a.c a.s.now a.names.now a.item.now a.tables.now.in_head c.requires.by_index st
    c.copy_counts.new.table c.copy_counts.auto.table fresh)) in
    let many : 8 ≤ length c.elements.new.words = omega (arith, c.elements.auto.words) in
    let known' = names_over told.1 known in
    let goals_told = rw c.if-not-set_goals.false at (c.set_goals.ensures (item_places known' (clause_base a.k)) told.0 (worded a.k c.requires.k_bound.0 a.src.text.now a.src.rest.now a.src.from known vars a.c a.s.now a.names.now a.item.now a.tables.now.in_head c.requires.by_index st
    c.copy_counts.new.table c.copy_counts.auto.table fresh
    (replicate 8 0) c.elements.new.s c.elements.new.names c.elements.new.item c.elements.new.words now.n now.d told.0 told.1 told.2.gave _ refl many)) in
    stop_got a.k c.requires.k_bound.0 a.src.text.now a.src.rest.now a.src.from known vars a.c a.s.now a.names.now a.item.now a.tables.now.in_head c.requires.by_index st
    c.copy_counts.new.table c.copy_counts.auto.table fresh
    (replicate 8 0) c.elements.new.s c.elements.new.names c.elements.new.item c.elements.new.words now.n now.d told.0 told.1 now.a told.2 c.set_goals.new.s c.add_counts.new.table a.tables.now.in_guards a.tables.now.licensed
    c.word.result c.add_counts.auto.table c.add_counts.ensures c.word.ensures c.requires.none_counted.0 c.requires.none_counted.1 goals_told

pub returns-in-Bar-clause-read : goal.returns-in-Bar-clause-read
returns-in-Bar-clause-read c = λ known vars st.
    let a = c.args in
    let fresh = rw c.requires.none_counted.0 at c.copy_counts.ensures in
    let now = c.in-Bar in
    let told = rw now.is at (c.in_ok-n.ensures known vars (fresh_stands a.k c.requires.k_bound.0 a.src.text.now a.src.rest.now a.src.from known vars a.c a.s.now a.names.now a.item.now a.tables.now.in_head c.requires.by_index st
    c.copy_counts.new.table c.copy_counts.auto.table fresh)) in
    let many : 8 ≤ length c.elements.new.words = omega (arith, c.elements.auto.words) in
    let kept_guards = rw c.requires.none_counted.0 at c.copy_counts-in-Bar.ensures in
    let were : length a.tables.now.in_guards ≡ 64 = rw c.requires.none_counted.0 (length-replicate {A = ℕ} 64 0) in
    let size_g : length c.copy_counts-in-Bar.new.table ≡ 64 = c.copy_counts-in-Bar.auto.table ∙ were in
    let back = c.copy_counts-in-Bar-2 in
    let known' = names_over told.1 known in
    let vars' = variables_over a.src.from told.1 vars in
    let size = length-take-le now.n c.elements.new.words (omega (arith, told.3.gave.few, many)) in
    let tested_told = rw size at (c.tested-found.ensures known' told.0 (listed a.k c.requires.k_bound.0 a.src.text.now a.src.rest.now a.src.from known vars a.c a.s.now a.names.now a.item.now a.tables.now.in_head c.requires.by_index st
    c.copy_counts.new.table c.copy_counts.auto.table fresh
    (replicate 8 0) c.elements.new.s c.elements.new.names c.elements.new.item c.elements.new.words now.n now.d told.0 told.1 told.2 told.3 c.requires.k_bound.1 many)) in
    at_bar a.k c.requires.k_bound.0 a.src.text.now a.src.rest.now a.src.from known vars a.c a.s.now a.names.now a.item.now a.tables.now.in_head c.requires.by_index st
    c.copy_counts.new.table c.copy_counts.auto.table fresh
    (replicate 8 0) c.elements.new.s c.elements.new.names c.elements.new.item c.elements.new.words now.n now.d told.0 told.1 told.2 told.3 c.requires.k_bound.1
    c.copy_counts-in-Bar.new.table back.new.table back.new.table size_g kept_guards back.auto.table back.ensures
    c.tested-found.new.s c.tested-found.new.licensed c.guarded.new.s c.guarded.new.names c.guarded.new.item c.tested-found.result tested_told c.guarded.result
    (c.guarded.ensures known' vars' (bar_stands a.k c.requires.k_bound.0 a.src.text.now a.src.rest.now a.src.from known vars a.c a.s.now a.names.now a.item.now a.tables.now.in_head c.requires.by_index st
    c.copy_counts.new.table c.copy_counts.auto.table fresh
    (replicate 8 0) c.elements.new.s c.elements.new.names c.elements.new.item c.elements.new.words now.n now.d told.0 told.1 told.2 told.3 c.requires.k_bound.1
    c.copy_counts-in-Bar.new.table back.new.table back.new.table size_g kept_guards back.auto.table back.ensures))
