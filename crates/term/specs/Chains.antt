-- Chains of values: a pair whose value is a variable leads on to that variable's value. The ends to which the pairs of a unit were seen to lead.
use Rattle.std.specs.Prelude.{ℕ, zero, suc, ◌+◌, ◌*◌, ◌≤◌, ◌<◌, ◌≡◌, ◌≢◌, List, length, get_or}
use Rattle.std.proofs.Math.Option.{Option, none, some}
use Rattle.meaning.specs.Terms.{Term}
use Rattle.meaning.specs.State.{Values, value}
use Rattle.meaning.specs.Compare.{followed}
use Rattle.term.specs.Cells.{term_word}
use Rattle.term.specs.Layout.{ends_after}
use Rattle.term.specs.Setting.{Setting, UnitTerm}

-- What a variable was assigned, if anything.
abbrev pub value_of : Values → Term → Option Term
value_of values (Term.variable h n) = value values n
value_of values (Term.constant k) = none
value_of values (Term.compound n f ts) = none

-- A term leads to another over so many links.
unfoldable pub Leads : Values → ℕ → Term → Term → Type 0
Leads values zero t u = t ≡ u
Leads values (suc links) t u = (v : Term) × (value_of values t ≡ some v) × Leads values links v u

-- The word w is that of a term of the unit to which the value of pair n leads.
pub record EndOf (s : List ℕ) (x : Setting) (n w : ℕ) : Type 0 where
  pub first : Term
  pub assigned : value x.values n ≡ some first
  pub links : ℕ
  pub last : Term
  pub leads : Leads x.values links first last
  pub term : UnitTerm s x last
  pub word : w ≡ term_word x.places last

-- Where the end that is kept of pair n stands: so many words a pair of the room behind the values.
abbrev pub end_place : Setting → ℕ → ℕ → ℕ
end_place x from n = from + ends_after * x.pairs + x.places.pair n

-- Each pair of the unit has the word 0, or an end; and every chain ends, within as many links as the room has pairs.
pub record EndsStand (s : List ℕ) (x : Setting) (from : ℕ) : Type 0 where
  pub inside : from + (ends_after + 1) * x.pairs ≤ length s
  pub ended : (t : Term) → value_of x.values (followed x.pairs x.values t) ≡ none
  pub kept : (n : ℕ) → n < length x.values → get_or s (end_place x from n) 0 ≢ 0 → EndOf s x n (get_or s (end_place x from n) 0)
