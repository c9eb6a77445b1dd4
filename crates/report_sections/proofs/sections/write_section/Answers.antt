-- `report_sections::sections::write_section` meets its contract: header, values and the goals of the three lists, one behind the other.
use mathlib.Core.Path.{ap}
use native.Mathlib.Omega.{arith}
use lib.ListN.{length}
use Rattle.meaning.specs.Bytes.{bytes}
use Rattle.term.specs.Layout.{figures, waiters_region}
use Rattle.report_tallies.specs.Groups.{active_group, waiting_group, failed_group}
use Rattle.report_pairs.specs.Threaded.{lines_seen}
use Rattle.report_tallies.specs.Header.{header_of}
use Rattle.report_pairs.proofs.Laid.{puts_as}
use Rattle.report_sections.proofs.SectionWrites.{
  section_actives_in,
  section_waits_in,
  section_fails_in,
  head_fits,
  values_fit,
  actives_fit,
  waits_fit,
  fails_fit,
  section_puts,
  values_ready,
  goals_ready,
  fits_from,
}
use Rattle.report_sections.proofs.sections.write_section.Goals as goal

pub header-to-requires : goal.header-to-requires
header-to-requires c =
    let a = c.args in
    let (x, xs, actives, ws, fs, stands, numbers, fits) = c.requires in
    let tallied = c.of in
    let head = ap (λ c'. length (header_of a.q c')) tallied.ensures in
    (stands.here.variables.small, omega (arith, head_fits x.values xs actives ws fs a.s.now (figures a.room) a.t a.q fits, head))

pub write_values-to-requires : goal.write_values-to-requires
write_values-to-requires c =
    let a = c.args in
    let (x, xs, actives, ws, fs, stands, numbers, fits) = c.requires in
    let order = lines_seen x.values xs actives ws fs in
    let tallied = c.of in
    let h = c.header-to in
    let p₀ = puts_as _ _ a.buffer.now h.new.buffer a.at h.result (ap (header_of a.q) tallied.ensures) h.ensures in
    let w = c.waiters-facts in
    let (readable, numbered) = values_ready a.s.now a.text.now x (figures a.room) a.t a.q xs actives ws fs w.result w.ensures stands numbers in
    let values_fits = fits_from w.ensures (values_fit x.values xs actives ws fs a.s.now (figures a.room) a.t a.q fits p₀) in
    (x, order, xs, readable, stands.here.variables, numbered, values_fits)

pub write_goals-to-requires : goal.write_goals-to-requires
unfolding bytes
write_goals-to-requires c =
    let a = c.args in
    let (x, xs, actives, ws, fs, stands, numbers, fits) = c.requires in
    let order = lines_seen x.values xs actives ws fs in
    let tallied = c.of in
    let h = c.header-to in
    let p₀ = puts_as _ _ a.buffer.now h.new.buffer a.at h.result (ap (header_of a.q) tallied.ensures) h.ensures in
    let w = c.waiters-facts in
    let (readable, numbered) = values_ready a.s.now a.text.now x (figures a.room) a.t a.q xs actives ws fs w.result w.ensures stands numbers in
    let v = c.write_values-to in
    let values_fits = fits_from w.ensures (values_fit x.values xs actives ws fs a.s.now (figures a.room) a.t a.q fits p₀) in
    let p₁ = v.ensures x order xs readable stands.here.variables numbered values_fits in
    let one = c.active in
    let (one_r, one_l, one_n) = goals_ready a.s.now a.text.now x (waiters_region (figures a.room)) w.result (active_group (figures a.room) a.t) one.result a.q actives order
    w.ensures one.ensures stands.readable stands.here.active numbers in
    let actives_fits = fits_from w.ensures (actives_fit x.values xs actives ws fs a.s.now (figures a.room) a.t a.q fits p₀ p₁) in
    (x, order, actives, one_r, one_l, one_n, section_actives_in x.values xs actives ws fs, actives_fits)

pub waiting-requires : goal.waiting-requires
waiting-requires c =
    let a = c.args in
    let (x, xs, actives, ws, fs, stands, numbers, fits) = c.requires in
    stands.here.in_range

pub write_goals-to-requires-2 : goal.write_goals-to-requires-2
unfolding bytes
write_goals-to-requires-2 c =
    let a = c.args in
    let (x, xs, actives, ws, fs, stands, numbers, fits) = c.requires in
    let order = lines_seen x.values xs actives ws fs in
    let tallied = c.of in
    let h = c.header-to in
    let p₀ = puts_as _ _ a.buffer.now h.new.buffer a.at h.result (ap (header_of a.q) tallied.ensures) h.ensures in
    let w = c.waiters-facts in
    let (readable, numbered) = values_ready a.s.now a.text.now x (figures a.room) a.t a.q xs actives ws fs w.result w.ensures stands numbers in
    let v = c.write_values-to in
    let values_fits = fits_from w.ensures (values_fit x.values xs actives ws fs a.s.now (figures a.room) a.t a.q fits p₀) in
    let p₁ = v.ensures x order xs readable stands.here.variables numbered values_fits in
    let one = c.active in
    let (one_r, one_l, one_n) = goals_ready a.s.now a.text.now x (waiters_region (figures a.room)) w.result (active_group (figures a.room) a.t) one.result a.q actives order
    w.ensures one.ensures stands.readable stands.here.active numbers in
    let g₁ = c.write_goals-to in
    let actives_fits = fits_from w.ensures (actives_fit x.values xs actives ws fs a.s.now (figures a.room) a.t a.q fits p₀ p₁) in
    let p₂ = g₁.ensures x order actives one_r one_l one_n (section_actives_in x.values xs actives ws fs) actives_fits in
    let two = c.waiting in
    let (two_r, two_l, two_n) = goals_ready a.s.now a.text.now x (waiters_region (figures a.room)) w.result (waiting_group (figures a.room) a.t) two.result a.q ws order
    w.ensures two.ensures stands.readable stands.here.waiting numbers in
    let waits_fits = fits_from w.ensures (waits_fit x.values xs actives ws fs a.s.now (figures a.room) a.t a.q fits p₀ p₁ p₂) in
    (x, order, ws, two_r, two_l, two_n, section_waits_in x.values xs actives ws fs, waits_fits)

pub failed-requires : goal.failed-requires
failed-requires c =
    let a = c.args in
    let (x, xs, actives, ws, fs, stands, numbers, fits) = c.requires in
    stands.here.in_range

pub write_goals-requires : goal.write_goals-requires
unfolding bytes
write_goals-requires c =
    let a = c.args in
    let (x, xs, actives, ws, fs, stands, numbers, fits) = c.requires in
    let order = lines_seen x.values xs actives ws fs in
    let tallied = c.of in
    let h = c.header-to in
    let p₀ = puts_as _ _ a.buffer.now h.new.buffer a.at h.result (ap (header_of a.q) tallied.ensures) h.ensures in
    let w = c.waiters-facts in
    let (readable, numbered) = values_ready a.s.now a.text.now x (figures a.room) a.t a.q xs actives ws fs w.result w.ensures stands numbers in
    let v = c.write_values-to in
    let values_fits = fits_from w.ensures (values_fit x.values xs actives ws fs a.s.now (figures a.room) a.t a.q fits p₀) in
    let p₁ = v.ensures x order xs readable stands.here.variables numbered values_fits in
    let one = c.active in
    let (one_r, one_l, one_n) = goals_ready a.s.now a.text.now x (waiters_region (figures a.room)) w.result (active_group (figures a.room) a.t) one.result a.q actives order
    w.ensures one.ensures stands.readable stands.here.active numbers in
    let g₁ = c.write_goals-to in
    let actives_fits = fits_from w.ensures (actives_fit x.values xs actives ws fs a.s.now (figures a.room) a.t a.q fits p₀ p₁) in
    let p₂ = g₁.ensures x order actives one_r one_l one_n (section_actives_in x.values xs actives ws fs) actives_fits in
    let two = c.waiting in
    let (two_r, two_l, two_n) = goals_ready a.s.now a.text.now x (waiters_region (figures a.room)) w.result (waiting_group (figures a.room) a.t) two.result a.q ws order
    w.ensures two.ensures stands.readable stands.here.waiting numbers in
    let g₂ = c.write_goals-to-2 in
    let waits_fits = fits_from w.ensures (waits_fit x.values xs actives ws fs a.s.now (figures a.room) a.t a.q fits p₀ p₁ p₂) in
    let p₃ = g₂.ensures x order ws two_r two_l two_n (section_waits_in x.values xs actives ws fs) waits_fits in
    let three = c.failed in
    let (three_r, three_l, three_n) = goals_ready a.s.now a.text.now x (waiters_region (figures a.room)) w.result (failed_group (figures a.room) a.t) three.result a.q fs order
    w.ensures three.ensures stands.readable stands.here.failed numbers in
    let fails_fits = fits_from w.ensures (fails_fit x.values xs actives ws fs a.s.now (figures a.room) a.t a.q fits p₀ p₁ p₂ p₃) in
    (x, order, fs, three_r, three_l, three_n, section_fails_in x.values xs actives ws fs, fails_fits)

pub returns : goal.returns
unfolding bytes
returns c =
    let a = c.args in
    λ x xs actives ws fs stands numbers fits.
    let order = lines_seen x.values xs actives ws fs in
    let tallied = c.of in
    let h = c.header-to in
    let p₀ = puts_as _ _ a.buffer.now h.new.buffer a.at h.result (ap (header_of a.q) tallied.ensures) h.ensures in
    let w = c.waiters-facts in
    let (readable, numbered) = values_ready a.s.now a.text.now x (figures a.room) a.t a.q xs actives ws fs w.result w.ensures stands numbers in
    let v = c.write_values-to in
    let values_fits = fits_from w.ensures (values_fit x.values xs actives ws fs a.s.now (figures a.room) a.t a.q fits p₀) in
    let p₁ = v.ensures x order xs readable stands.here.variables numbered values_fits in
    let one = c.active in
    let (one_r, one_l, one_n) = goals_ready a.s.now a.text.now x (waiters_region (figures a.room)) w.result (active_group (figures a.room) a.t) one.result a.q actives order
    w.ensures one.ensures stands.readable stands.here.active numbers in
    let g₁ = c.write_goals-to in
    let actives_fits = fits_from w.ensures (actives_fit x.values xs actives ws fs a.s.now (figures a.room) a.t a.q fits p₀ p₁) in
    let p₂ = g₁.ensures x order actives one_r one_l one_n (section_actives_in x.values xs actives ws fs) actives_fits in
    let two = c.waiting in
    let (two_r, two_l, two_n) = goals_ready a.s.now a.text.now x (waiters_region (figures a.room)) w.result (waiting_group (figures a.room) a.t) two.result a.q ws order
    w.ensures two.ensures stands.readable stands.here.waiting numbers in
    let g₂ = c.write_goals-to-2 in
    let waits_fits = fits_from w.ensures (waits_fit x.values xs actives ws fs a.s.now (figures a.room) a.t a.q fits p₀ p₁ p₂) in
    let p₃ = g₂.ensures x order ws two_r two_l two_n (section_waits_in x.values xs actives ws fs) waits_fits in
    let three = c.failed in
    let (three_r, three_l, three_n) = goals_ready a.s.now a.text.now x (waiters_region (figures a.room)) w.result (failed_group (figures a.room) a.t) three.result a.q fs order
    w.ensures three.ensures stands.readable stands.here.failed numbers in
    let g₃ = c.write_goals in
    let fails_fits = fits_from w.ensures (fails_fit x.values xs actives ws fs a.s.now (figures a.room) a.t a.q fits p₀ p₁ p₂ p₃) in
    let p₄ = g₃.ensures x order fs three_r three_l three_n (section_fails_in x.values xs actives ws fs) fails_fits in
    section_puts x.values xs actives ws fs a.s.now (figures a.room) a.t a.q
    a.buffer.now h.new.buffer v.new.buffer g₁.new.buffer g₂.new.buffer g₃.new.buffer
    a.at h.result v.result g₁.result g₂.result g₃.result
    p₀ p₁ p₂ p₃ p₄
