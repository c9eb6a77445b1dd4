-- `report_sections::sections::count_section` meets its contract: the counter is set to 0, and the section counted.
use Rattle.report_sections.proofs.Restarting.{long_enough, asked_counts, asked_section, count_told}
use Rattle.report_sections.proofs.sections.count_section.Goals as goal

pub restart-requires : goal.restart-requires
restart-requires c =
    let (text, x, xs, actives, ws, fs, st, u, low) = c.requires in
    long_enough _ text x _ _ _ xs actives ws fs st u

pub waiters-requires : goal.waiters-requires
waiters-requires c =
    let (text, x, xs, actives, ws, fs, st, u, low) = c.requires in
    st.here.in_range

pub count_lines-requires : goal.count_lines-requires
count_lines-requires c =
    let a = c.args in
    let (text, x, xs, actives, ws, fs, st, u, low) = c.requires in
    let s₁ = c.restart.new.s in
    let e = c.restart.ensures in
    let f = c.waiters.ensures in (
      text,
      x,
      xs,
      actives,
      ws,
      fs,
      asked_counts a.s.now text x _ a.t a.q xs actives ws fs st u s₁ c.waiters.result a.at e f low,
      asked_section a.s.now text x _ a.t a.q xs actives ws fs st u s₁ c.waiters.result a.at e f low,
    )

pub returns : goal.returns
returns c =
    let a = c.args in
    λ text x xs actives ws fs st u low.
    let s₁ = c.restart.new.s in
    let e = c.restart.ensures in
    let f = c.waiters.ensures in
    let from = c.waiters.result in
    let n = c.count_lines in
    count_told a.s.now text x _ a.t a.q xs actives ws fs st u s₁ from a.at e f low n.new.s n.result
    (n.ensures text x xs actives ws fs
    (asked_counts a.s.now text x _ a.t a.q xs actives ws fs st u s₁ from a.at e f low)
    (asked_section a.s.now text x _ a.t a.q xs actives ws fs st u s₁ from a.at e f low))
