-- `report_sections::sections::count_lines` meets its contract: header, values and the goals of the three lists, each counted behind the others.
use mathlib.Core.Path.{◌≡◌, ap, ◌∙◌}
use mathlib.Core.List.{[]}
use Prim.Native.Nat.{ℕ, ◌+◌}
use lib.ListN.{length}
use Rattle.meaning.specs.Bytes.{bytes}
use Rattle.term.specs.Layout.{figures}
use Rattle.report_pairs.specs.Laid.{capped}
use Rattle.report_sections.specs.Whole.{section_bytes}
use Rattle.report_tallies.specs.Header.{header_of, tallies_of}
use Rattle.report_count.proofs.Lengths.{counts_further, counts_on}
use Rattle.report_pairs.proofs.Keeping.{changed_then}
use Rattle.report_sections.proofs.SectionCounts.{listed_kept, listed_as, section_counted}
use Rattle.report_sections.proofs.sections.count_lines.Goals as goal

pub count_values-to-requires : goal.count_values-to-requires
count_values-to-requires c =
    let a = c.args in
    let (text, x, xs, actives, ws, fs, counts, sec) = c.requires in
    let counts₀ = counts_further a.s.now text x a.facts [] a.at _ _ counts c.further-to.ensures in
    (text, x, [], xs, counts₀, sec.variables)

pub count_goals-to-requires : goal.count_goals-to-requires
unfolding bytes
count_goals-to-requires c =
    let a = c.args in
    let (text, x, xs, actives, ws, fs, counts, sec) = c.requires in
    let counts₀ = counts_further a.s.now text x a.facts [] a.at _ _ counts c.further-to.ensures in
    let v = c.count_values-to in
    let c₁ = v.ensures text x [] xs counts₀ sec.variables in
    let counts₁ = counts_on a.s.now v.new.s text x a.facts _ _ _ _ v.result c₁ in
    let listed₁ = listed_as v.new.s x a.facts _ _ a.q _ c.active.ensures (listed_kept a.s.now v.new.s text x a.facts _ a.q actives counts.readable c₁.changed sec.active) in
    (text, x, c₁.after, actives, counts₁, listed₁)

pub count_goals-to-requires-2 : goal.count_goals-to-requires-2
unfolding bytes
count_goals-to-requires-2 c =
    let a = c.args in
    let (text, x, xs, actives, ws, fs, counts, sec) = c.requires in
    let counts₀ = counts_further a.s.now text x a.facts [] a.at _ _ counts c.further-to.ensures in
    let v = c.count_values-to in
    let c₁ = v.ensures text x [] xs counts₀ sec.variables in
    let counts₁ = counts_on a.s.now v.new.s text x a.facts _ _ _ _ v.result c₁ in
    let listed₁ = listed_as v.new.s x a.facts _ _ a.q _ c.active.ensures (listed_kept a.s.now v.new.s text x a.facts _ a.q actives counts.readable c₁.changed sec.active) in
    let g₁ = c.count_goals-to in
    let c₂ = g₁.ensures text x c₁.after actives counts₁ listed₁ in
    let counts₂ = counts_on v.new.s g₁.new.s text x a.facts _ _ _ _ g₁.result c₂ in
    let changed₂ = changed_then a.s.now v.new.s g₁.new.s x a.facts c₁.changed c₂.changed in
    let listed₂ = listed_as g₁.new.s x a.facts _ _ a.q _ c.waiting.ensures (listed_kept a.s.now g₁.new.s text x a.facts _ a.q ws counts.readable changed₂ sec.waiting) in
    (text, x, c₂.after, ws, counts₂, listed₂)

pub failed-requires : goal.failed-requires
failed-requires c =
    let a = c.args in
    let (text, x, xs, actives, ws, fs, counts, sec) = c.requires in
    sec.in_range

pub count_goals-requires : goal.count_goals-requires
unfolding bytes
count_goals-requires c =
    let a = c.args in
    let (text, x, xs, actives, ws, fs, counts, sec) = c.requires in
    let counts₀ = counts_further a.s.now text x a.facts [] a.at _ _ counts c.further-to.ensures in
    let v = c.count_values-to in
    let c₁ = v.ensures text x [] xs counts₀ sec.variables in
    let counts₁ = counts_on a.s.now v.new.s text x a.facts _ _ _ _ v.result c₁ in
    let listed₁ = listed_as v.new.s x a.facts _ _ a.q _ c.active.ensures (listed_kept a.s.now v.new.s text x a.facts _ a.q actives counts.readable c₁.changed sec.active) in
    let g₁ = c.count_goals-to in
    let c₂ = g₁.ensures text x c₁.after actives counts₁ listed₁ in
    let counts₂ = counts_on v.new.s g₁.new.s text x a.facts _ _ _ _ g₁.result c₂ in
    let changed₂ = changed_then a.s.now v.new.s g₁.new.s x a.facts c₁.changed c₂.changed in
    let listed₂ = listed_as g₁.new.s x a.facts _ _ a.q _ c.waiting.ensures (listed_kept a.s.now g₁.new.s text x a.facts _ a.q ws counts.readable changed₂ sec.waiting) in
    let g₂ = c.count_goals-to-2 in
    let c₃ = g₂.ensures text x c₂.after ws counts₂ listed₂ in
    let counts₃ = counts_on g₁.new.s g₂.new.s text x a.facts _ _ _ _ g₂.result c₃ in
    let changed₃ = changed_then a.s.now g₁.new.s g₂.new.s x a.facts changed₂ c₃.changed in
    let listed₃ = listed_as g₂.new.s x a.facts _ _ a.q _ c.failed.ensures (listed_kept a.s.now g₂.new.s text x a.facts _ a.q fs counts.readable changed₃ sec.failed) in
    (text, x, c₃.after, fs, counts₃, listed₃)

pub returns : goal.returns
unfolding bytes section_bytes
returns c =
    let a = c.args in
    λ text x xs actives ws fs counts sec.
    let counts₀ = counts_further a.s.now text x a.facts [] a.at _ _ counts c.further-to.ensures in
    let v = c.count_values-to in
    let c₁ = v.ensures text x [] xs counts₀ sec.variables in
    let counts₁ = counts_on a.s.now v.new.s text x a.facts _ _ _ _ v.result c₁ in
    let listed₁ = listed_as v.new.s x a.facts _ _ a.q _ c.active.ensures (listed_kept a.s.now v.new.s text x a.facts _ a.q actives counts.readable c₁.changed sec.active) in
    let g₁ = c.count_goals-to in
    let c₂ = g₁.ensures text x c₁.after actives counts₁ listed₁ in
    let counts₂ = counts_on v.new.s g₁.new.s text x a.facts _ _ _ _ g₁.result c₂ in
    let changed₂ = changed_then a.s.now v.new.s g₁.new.s x a.facts c₁.changed c₂.changed in
    let listed₂ = listed_as g₁.new.s x a.facts _ _ a.q _ c.waiting.ensures (listed_kept a.s.now g₁.new.s text x a.facts _ a.q ws counts.readable changed₂ sec.waiting) in
    let g₂ = c.count_goals-to-2 in
    let c₃ = g₂.ensures text x c₂.after ws counts₂ listed₂ in
    let counts₃ = counts_on g₁.new.s g₂.new.s text x a.facts _ _ _ _ g₂.result c₃ in
    let changed₃ = changed_then a.s.now g₁.new.s g₂.new.s x a.facts changed₂ c₃.changed in
    let listed₃ = listed_as g₂.new.s x a.facts _ _ a.q _ c.failed.ensures (listed_kept a.s.now g₂.new.s text x a.facts _ a.q fs counts.readable changed₃ sec.failed) in
    let size : c.header_length.result ≡ length (header_of a.q _) = c.header_length.ensures ∙ ap (λ c'. length (header_of a.q c')) c.of-c.ensures in
    let first = c.further-to.ensures ∙ ap (λ (n : ℕ). capped (a.at + n)) size in
    let head = header_of a.q (tallies_of a.s.now (figures a.room) a.q a.t) in
    section_counted a.s.now v.new.s g₁.new.s g₂.new.s c.count_goals.new.s text x a.facts a.at head
    c.further-to.result v.result g₁.result g₂.result c.count_goals.result xs actives ws fs counts first c₁ c₂ c₃
    (c.count_goals.ensures text x c₃.after fs counts₃ listed₃)
