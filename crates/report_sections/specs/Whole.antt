-- A section as a whole: what stands in the scratch for it, what counting it tells, and its bytes.
use Rattle.std.specs.Prelude.{ℕ, ◌+◌, ◌<◌, ◌≡◌, List, [], ◌∷◌, ◌++◌, length, get_or, true}
use Rattle.meaning.specs.Bytes.{Bytes, bytes, among}
use Rattle.meaning.specs.Terms.{as_term}
use Rattle.laws.proofs.Terms.Standing.{Stands}
use Rattle.meaning.specs.State.{Room, Values, Goal}
use Rattle.term.specs.Layout.{waiters_region}
use Rattle.term.specs.Setting.{Setting}
use Rattle.term.specs.declared.state.Standing.{Standing}
use Rattle.report_pairs.specs.Threaded.{full, shown_values, seen_after_values, shown_goals, seen_after_goals, lines_seen}
use Rattle.report_pairs.specs.Laid.{capped, Has}
use Rattle.report_pairs.specs.Facts.{fact_place, number_seen, Readable, Changed}
use Rattle.report_leaves.specs.Fits.{Stored}
use Rattle.report_tallies.specs.Header.{tallies_of, header_of}
use Rattle.report_sections.specs.Sections.{SectionAt}

-- The lines of a section behind its header.
unfoldable pub lines_shown : Values → List Bytes → List Goal → List Goal → List Goal → Bytes
lines_shown values xs actives ws fs =
    let seen₁ = seen_after_values values [] 0 xs in
    let seen₂ = seen_after_goals values seen₁ actives in
    let seen₃ = seen_after_goals values seen₂ ws in
    shown_values values [] 0 xs
    ++ (shown_goals values seen₁ (bytes "active ") actives
    ++ (shown_goals values seen₂ (bytes "waiting ") ws ++ shown_goals values seen₃ (bytes "failed ") fs))

-- The section of the query q, whose header shows the counts that the scratch has.
unfoldable pub section_bytes : List ℕ → Room → Standing → Values → ℕ → List Bytes → List Goal → List Goal → List Goal → Bytes
section_bytes s figures t values q xs actives ws fs = header_of q (tallies_of s figures q t) ++ lines_shown values xs actives ws fs

-- A query's unit, variables and goals stand in the scratch.
pub record SectionStands (s : List ℕ) (text : Bytes) (x : Setting) (figures : Room) (t : Standing) (q : ℕ) (xs : List Bytes) (actives ws fs : List Goal) : Type 0 where
  pub readable : Readable s text x (waiters_region figures)
  pub here : SectionAt s text x (waiters_region figures) figures t q xs actives ws fs

-- The unit's pairs have these numbers; or nothing is kept of them yet.
abbrev pub Numbers : List ℕ → Setting → ℕ → List ℕ → Type 0
Numbers s x facts seen = (n : ℕ) → n < length x.values → get_or s (fact_place x facts n + 2) 0 ≡ number_seen n seen

-- Every pair that these goals show is among the order.
abbrev pub AllIn : Values → List ℕ → List Goal → Type 0
AllIn values order [] = Unit {0}
AllIn values order (g ∷ gs) = ((n : ℕ) → Stands n (full values (as_term g.goal)) → among n order ≡ true) × AllIn values order gs

pub record Uncounted (s : List ℕ) (x : Setting) (facts : ℕ) : Type 0 where
  pub lengths : (n : ℕ) → n < length x.values → get_or s (fact_place x facts n + 1) 0 ≡ 0
  pub numbers : (n : ℕ) → n < length x.values → get_or s (fact_place x facts n + 2) 0 ≡ 0

-- The section is counted up to r; below the ceiling its pairs have their numbers, and a whole that has the section has the values kept at their places.
pub record SectionCounted (s s' : List ℕ) (text : Bytes) (x : Setting) (figures : Room) (t : Standing) (q : ℕ) (xs : List Bytes) (actives ws fs : List Goal) (at r : ℕ) : Type 0 where
  pub changed : Changed s s' x (waiters_region figures)
  pub readable : Readable s' text x (waiters_region figures)
  pub place : r ≡ capped (at + length (section_bytes s figures t x.values q xs actives ws fs))
  pub numbers : r < 16777217 → Numbers s' x (waiters_region figures) (lines_seen x.values xs actives ws fs)
  pub stored : r < 16777217 → (whole : Bytes) → Has whole at (section_bytes s figures t x.values q xs actives ws fs)
      → Stored s' x (waiters_region figures) (lines_seen x.values xs actives ws fs) whole
