-- What counting a term asks and gives. A length counts up to the ceiling; below it every pair of the term has its number.
use Rattle.std.specs.Prelude.{ℕ, ◌+◌, ◌≤◌, ◌<◌, min, ◌≡◌, ◌≢◌, List, length, Option, Some, None}
use Rattle.meaning.specs.Bytes.{Bytes}
use Rattle.std.proofs.Math.Option.{some}
use Rattle.meaning.specs.Terms.{Half, Functor, Term, Terms}
use Rattle.meaning.specs.State.{value}
use Rattle.meaning.specs.Report.{alone}
use Rattle.term.specs.Setting.{Setting}
use Rattle.report_pairs.specs.Threaded.{full, seen_after, shown}
use Rattle.report_pairs.specs.Laid.{capped, Has}
use Rattle.report_pairs.specs.Facts.{Readable, Counting, Placed, Changed}
use Rattle.report_pairs.specs.Walk.{StandsAt}

-- The scratch where a section is counted, so many bytes behind.
pub record Counts (s : List ℕ) (text : Bytes) (x : Setting) (facts : ℕ) (seen : List ℕ) (at : ℕ) : Type 0 where
  pub readable : Readable s text x facts
  pub counting : Counting s x facts seen
  pub low : at ≤ 16777217
  pub few : length seen ≤ at

-- Bytes from a place on, before which some pairs were seen, and after which these, were counted up to r. In a whole that has them there, the places kept
-- are right afterwards if they were before.
pub record Counted (s s' : List ℕ) (text : Bytes) (x : Setting) (facts at : ℕ) (from : List ℕ) (bs : Bytes) (seen : List ℕ) (r : ℕ) : Type 0 where
  pub changed : Changed s s' x facts
  pub readable : Readable s' text x facts
  pub after : List ℕ
  pub counting : Counting s' x facts after
  pub few : length after ≤ r
  pub place : r ≡ capped (at + length bs)
  pub exact : r < 16777217 → after ≡ seen
  pub placed : r < 16777217 → (whole : Bytes) → Has whole at bs → Placed s x facts from whole → Placed s' x facts after whole

-- A term counted.
abbrev pub CountedTerm : List ℕ → List ℕ → Bytes → Setting → ℕ → List ℕ → Term → ℕ → ℕ → Type 0
CountedTerm s s' text x facts seen t at r =
    Counted s s' text x facts at seen (shown seen alone (full x.values t)) (seen_after seen (full x.values t)) r

-- A term leads to a compound at this place, with the same values applied.
pub record LeadsTo (s : List ℕ) (x : Setting) (t : Term) (place : ℕ) : Type 0 where
  pub number : ℕ
  pub functor : Functor
  pub terms : Terms
  pub stands : StandsAt s x number functor terms place
  pub same : full x.values t ≡ full x.values (Term.compound number functor terms)

-- A term that is no compound and no assigned variable, counted: so many bytes.
pub record LeafCounted (s s' : List ℕ) (text : Bytes) (x : Setting) (facts : ℕ) (seen : List ℕ) (t : Term) (r : ℕ) : Type 0 where
  pub changed : Changed s s' x facts
  pub readable : Readable s' text x facts
  pub counting : Counting s' x facts (seen_after seen (full x.values t))
  pub placed : (whole : Bytes) → Placed s x facts seen whole → Placed s' x facts (seen_after seen (full x.values t)) whole
  pub size : r ≡ length (shown seen alone (full x.values t))
  pub few : length (seen_after seen (full x.values t)) ≤ length seen + min r 1

-- A length that is known is the term's, and all its pairs were seen.
abbrev pub LengthKnown : Setting → List ℕ → Term → Option ℕ → Type 0
LengthKnown x seen t None = Unit {0}
LengthKnown x seen t (Some r) = (seen_after seen (full x.values t) ≡ seen) × (r ≡ length (shown seen alone (full x.values t)))

-- A term that is no unassigned variable, counted from one place to another below the ceiling: all its pairs were seen.
pub record KnownNow (x : Setting) (facts : ℕ) (seen : List ℕ) (t : Term) (at to : ℕ) : Type 0 where
  pub assigned : (h : Half) (n : ℕ) → t ≡ Term.variable h n → (u : Term) × (value x.values n ≡ some u)
  pub seen_all : to ≢ 16777217 → seen_after seen (full x.values t) ≡ seen
  pub size : to ≢ 16777217 → to ≡ at + length (shown seen alone (full x.values t))
