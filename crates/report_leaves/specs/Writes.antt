-- What writing a term asks: its pairs have their numbers in the section's order, and its bytes fit the buffer.
use Rattle.std.specs.Prelude.{ℕ, ◌+◌, ◌≤◌, ◌<◌, ◌≡◌, List, length, get_or}
use Rattle.meaning.specs.Bytes.{Bytes}
use Rattle.meaning.specs.Terms.{Term}
use Rattle.meaning.specs.Report.{alone, number_in, written}
use Rattle.laws.proofs.Terms.Standing.{Stands}
use Rattle.term.specs.Setting.{Setting}
use Rattle.report_pairs.specs.Threaded.{full}
use Rattle.report_pairs.specs.Facts.{Readable, fact_place}

-- Each pair that is written has its number.
abbrev pub Numbered : List ℕ → Setting → ℕ → List ℕ → Term → Type 0
Numbered s x facts order t = (n : ℕ) → n < length x.values → Stands n t → get_or s (fact_place x facts n + 2) 0 ≡ number_in n order

pub record Writes (s : List ℕ) (text : Bytes) (x : Setting) (facts : ℕ) (order : List ℕ) (t : Term) (at size : ℕ) : Type 0 where
  pub readable : Readable s text x facts
  pub numbered : Numbered s x facts order (full x.values t)
  pub fits : at + length (written order alone (full x.values t)) ≤ size
