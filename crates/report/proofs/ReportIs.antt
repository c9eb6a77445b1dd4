-- The bytes that are counted and written are the definition's report of the run.
use Prim.Native.Nat.{ℕ, suc, ◌+◌, ◌≤◌, ◌<◌}
use mathlib.Core.Path.{◌≡◌, sym, ap, ap₂, ◌∙◌}
use mathlib.Core.List.{List, [], ◌∷◌, ◌++◌, map, append_assoc, append-nil}
use native.Mathlib.Omega.{arith}
use lib.ListN.{length, get_or, set, length-map}
use lib.Seq.{get_or-set_other}
use Rattle.meaning.specs.Bytes.{Bytes, joined, those}
use Rattle.meaning.specs.Terms.{Query, Job}
use Rattle.meaning.specs.State.{Room, State, Part, of, unit_at, goals_of, part_of}
use Rattle.meaning.specs.Run.{run, Ended}
use Rattle.meaning.specs.Report.{header, section, sections, run_line, report}
use Rattle.laws.proofs.Runs.Charges.{run_units}
use Rattle.term.specs.Layout.{waiters_region, pairs_told, query_tries_word}
use Rattle.term.specs.States.{Atlas, Finished, verdict_of}
use Rattle.term.specs.declared.state.Standing.{Standing}
use Rattle.term.specs.declared.state.Verdict.{Verdict as Told}
use Rattle.report_pairs.specs.Facts.{Cleared}
use Rattle.report_pairs.specs.Threaded.{shown_groups}
use Rattle.report_tallies.specs.Header.{tallies_of, header_of, run_words_of, run_line_of}
use Rattle.report_tallies.specs.declared.header.Tallies.{Tallies}
use Rattle.report_sections.specs.Whole.{lines_shown, section_bytes}
use Rattle.report.specs.All.{Made, Stands, Sections, bytes_of, sections_bytes, report_bytes, no_query, made_of}
use Rattle.report_sections.proofs.Lines.{section_shown}
use Rattle.report.proofs.Sectioning.{finished_sections}

-- The report's first line, and a section's, by equal counts.
run_line_is : (v : Told) (steps : ℕ) (last : Ended) → verdict_of v ≡ last.verdict → steps ≡ last.state.steps → run_line_of v steps ≡ run_line last
unfolding run_line_of run_words_of run_line
run_line_is v steps last e f = rw (e, f)

header_is : (k : ℕ) (c : Tallies) (part : Part) → c.tries ≡ part.unit.tries → c.active ≡ length part.goals.queue
    → c.waiting ≡ length part.goals.waiting → c.failed ≡ length part.goals.failed → header_of k c ≡ header k part
unfolding header_of header
header_is k c part tries active waiting failed = rw (tries, active, waiting, failed)

-- A section of a state whose query has so many tries: its goals are as many as the scratch lists.
section_is : (s : List ℕ) (text : Bytes) (figures : Room) (t : Standing) (atlas : Atlas) (queries : List Query) (state : State) (k : ℕ)
    → Stands s text figures t k (made_of figures atlas queries state k) → get_or s (query_tries_word k) 0 ≡ (unit_at k state.units).tries
    → bytes_of s figures t k (made_of figures atlas queries state k) ≡ section k (get_or queries k no_query) (part_of k state)
unfolding section_bytes lines_shown shown_groups part_of goals_of
section_is s text figures t atlas queries state k stands tries =
    ap (λ (l : Bytes). l ++ shown_groups (get_or queries k no_query) (part_of k state))
    (header_is k (tallies_of s figures k t) (part_of k state) tries
    (ap length stands.here.active.words ∙ length-map (those (of k) state.goals.queue) _)
    (ap length stands.here.waiting.words
    ∙ length-map (map (λ w. w.goal) (those (λ w. of k w.goal) state.goals.waiting)) _
    ∙ length-map (those (λ w. of k w.goal) state.goals.waiting) (λ w. w.goal))
    (ap length stands.here.failed.words ∙ length-map (those (of k) state.goals.failed) _))
    ∙ sym (section_shown k (get_or queries k no_query) (part_of k state))

-- Sections one behind the other, from the k-th on.
joined_is : (s : List ℕ) (figures : Room) (t : Standing) (made : ℕ → Made) (state : State) (qs : List Query) (k : ℕ)
    → ((i : ℕ) → i < length qs → bytes_of s figures t (k + i) (made (k + i)) ≡ section (k + i) (get_or qs i no_query) (part_of (k + i) state))
    → sections_bytes s figures t made (k + length qs) ≡ sections_bytes s figures t made k ++ joined (sections k qs state)
unfolding sections_bytes joined sections
joined_is s figures t made state [] k each =
    let none : k + 0 ≡ k = omega arith in
    ap (sections_bytes s figures t made) none ∙ sym (append-nil (sections_bytes s figures t made k))
joined_is s figures t made state (q ∷ qs) k each =
    let next : k + suc (length qs) ≡ suc k + length qs = omega arith in
    let none : k + 0 ≡ k = omega arith in
    let first : bytes_of s figures t k (made k) ≡ section k q (part_of k state) = rw none at (each 0 (omega arith)) in
    ap (sections_bytes s figures t made) next
    ∙ joined_is s figures t made state qs (suc k) (λ i h. let one : k + suc i ≡ suc k + i = omega arith in rw one at (each (suc i) (omega arith)))
    ∙ ap (λ (l : Bytes). (sections_bytes s figures t made k ++ l) ++ joined (sections (suc k) qs state)) first
    ∙ append_assoc (sections_bytes s figures t made k) (section k q (part_of k state)) (joined (sections (suc k) qs state))

joined_all : (s : List ℕ) (figures : Room) (t : Standing) (made : ℕ → Made) (state : State) (qs : List Query)
    → ((i : ℕ) → i < length qs → bytes_of s figures t i (made i) ≡ section i (get_or qs i no_query) (part_of i state))
    → sections_bytes s figures t made (length qs) ≡ joined (sections 0 qs state)
unfolding sections_bytes
joined_all s figures t made state qs each =
    let none : length qs ≡ 0 + length qs = omega arith in
    ap (sections_bytes s figures t made) none
    ∙ joined_is s figures t made state qs 0 (λ i h. let same : 0 + i ≡ i = omega arith in rw same (each i h))

pub report_is : (s s₁ : List ℕ) (text : Bytes) (names : List Bytes) (figures : Room) (j : Job) (limit : ℕ) (v : Told) (t : Standing)
    (F : Finished s text names figures j limit v t) → length text ≤ 16384 → Cleared s s₁ (waiters_region figures) t.pairs
    → report_bytes (set s₁ pairs_told figures.pairs) figures v t (made_of figures F.atlas j.queries (run j limit figures).state) (length j.queries)
    ≡ report j.queries (run j limit figures)
unfolding report
report_is s s₁ text names figures j limit v t F short cleared =
    ap₂ (◌++◌ {A = ℕ}) (run_line_is v t.steps (run j limit figures) F.verdict F.state.steps) all
  where
    standing : Sections (set s₁ pairs_told figures.pairs) text figures t (made_of figures F.atlas j.queries (run j limit figures).state) (length j.queries)
    standing = (finished_sections s s₁ text names figures j limit v t F short cleared).0

    tries : (k : ℕ) → k < length j.queries
        → get_or (set s₁ pairs_told figures.pairs) (query_tries_word k) 0 ≡ (unit_at k (run j limit figures).state.units).tries
    tries k h =
        let few = standing.few in
        get_or-set_other s₁ pairs_told (query_tries_word k) figures.pairs 0 (λ e. omega arith)
        ∙ cleared.only.below (query_tries_word k) (omega arith)
        ∙ F.state.units.tries k (omega (arith, run_units j limit figures))

    all : sections_bytes (set s₁ pairs_told figures.pairs) figures t (made_of figures F.atlas j.queries (run j limit figures).state) (length j.queries)
        ≡ joined (sections 0 j.queries (run j limit figures).state)
    all =
        joined_all (set s₁ pairs_told figures.pairs) figures t (made_of figures F.atlas j.queries (run j limit figures).state) (run j limit figures).state j.queries
        (λ i h. section_is (set s₁ pairs_told figures.pairs) text figures t F.atlas j.queries (run j limit figures).state i (standing.stands i h) (tries i h))
