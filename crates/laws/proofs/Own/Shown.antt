-- What a call left in its buffer, by the bytes alone: which bytes are section k, and whether the run rested.
-- A section begins with a line that begins with `q`; a run that rested says `run rest`.
use Prim.Native.Nat.{ℕ, suc, ◌<◌}
use mathlib.Core.Path.{◌≡◌, refl, ◌∙◌}
use mathlib.Core.Logic.{◌↔◌}
use mathlib.Core.Bool.{Bool, true}
use mathlib.Core.List.{[], ◌++◌, append_assoc}
use lib.ListN.{length, get_or, take}
use Rattle.meaning.specs.Bytes.{Bytes, bytes, same, decimal, joined}
use Rattle.meaning.specs.Terms.{Job}
use Rattle.meaning.specs.State.{Room, part_of}
use Rattle.meaning.specs.Run.{Verdict, rest, budget, room, run}
use Rattle.meaning.specs.Report.{section, sections, verdict_bytes, run_line, report}
use Rattle.meaning.specs.Call.{Given, call}
use Rattle.laws.proofs.Report.{cut, report_cut_into_sections}
use Rattle.laws.proofs.Call.{Ran, ran_shows_the_report}
use Rattle.laws.proofs.Call.Delivered.{report_for}
use Rattle.laws.proofs.Own.Steps.{query_at}
use Rattle.laws.proofs.Own.Sections.{section_at_its_place}

-- The bytes of section k: of the report cut before each line that begins with `q`, the piece behind the run line and k sections.
unfoldable pub section_shown : ℕ → Bytes → Bytes
section_shown k report = get_or (cut report) (suc k) []

-- The report says that the run rested.
unfoldable pub rest_shown : Bytes → Bool
rest_shown report = same (take 8 report) (bytes "run rest")

-- The report that a call left.
unfoldable pub left_by : (Room → ℕ) → Given → ℕ → Bytes
left_by need given n = take n (call need given).buffer

-- What a call that ran shows of the query at place k is that query's section.
pub shows_its_section : (need : Room → ℕ) (given : Given) (n : ℕ) (j : Job) → Ran need given n j → (k : ℕ) → k < length j.queries
    → section_shown k (left_by need given n)
    ≡ section k (query_at k j.queries) (part_of k (run j given.budget given.room).state)
unfolding section_shown left_by report_for
shows_its_section need given n j r k h =
    let shown = ran_shows_the_report need given n j r in
    let pieces = report_cut_into_sections given.text j r.reads given.budget given.room in
    rw (shown, pieces) (section_at_its_place k j.queries (run j given.budget given.room).state h)

verdict_shown : (verdict : Verdict) (behind : Bytes) → rest_shown (bytes "run " ++ verdict_bytes verdict ++ bytes " steps " ++ behind) ≡ true → verdict ≡ rest
unfolding rest_shown verdict_bytes bytes same
verdict_shown rest behind e = refl
verdict_shown budget behind e = cc
verdict_shown room behind e = cc

rest_verdict_shown : (verdict : Verdict) (behind : Bytes) → verdict ≡ rest → rest_shown (bytes "run " ++ verdict_bytes verdict ++ bytes " steps " ++ behind) ≡ true
unfolding rest_shown verdict_bytes bytes same
rest_verdict_shown rest behind e = refl
rest_verdict_shown budget behind e = cc
rest_verdict_shown room behind e = cc

-- A call that ran shows `run rest` exactly if its run rested.
pub shows_its_rest : (need : Room → ℕ) (given : Given) (n : ℕ) (j : Job) → Ran need given n j
    → (rest_shown (left_by need given n) ≡ true) ↔ ((run j given.budget given.room).verdict ≡ rest)
unfolding left_by report_for report run_line
shows_its_rest need given n j r =
    let last = run j given.budget given.room in
    let behind = decimal last.state.steps ++ bytes "\n" ++ joined (sections 0 j.queries last.state) in
    let regrouped : report_for given j ≡ bytes "run " ++ verdict_bytes last.verdict ++ bytes " steps " ++ behind = simp append_assoc in
    let shown = ran_shows_the_report need given n j r ∙ regrouped in
    (λ e. verdict_shown last.verdict behind (rw shown at e), λ e. rw shown (rest_verdict_shown last.verdict behind e))
