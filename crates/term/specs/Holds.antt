-- What it is for the scratch to hold a term: each of its compounds stands at its place, with its functor and its arguments' words.
use Rattle.std.specs.Prelude.{ℕ, ◌+◌, ◌≤◌, ◌<◌, ◌≡◌, List, length, get_or}
use Rattle.std.proofs.Math.Option.{Option, none, some}
use Rattle.meaning.specs.Terms.{Functor, Term, Terms, end, more, count}
use Rattle.meaning.specs.State.{Values, value}
use Rattle.term.specs.Cells.{Places, term_word, functor_word}

-- The compound n of so many arguments stands at its place, in words of its own.
pub record CellAt (s : List ℕ) (places : Places) (n : ℕ) (f : Functor) (k : ℕ) : Type 0 where
  pub inside : places.compound n + 8 ≤ length s
  pub few : k ≤ 6
  pub wide : k < places.width n
  pub functor : get_or s (places.compound n) 0 ≡ functor_word places f k

unfoldable mutual
  pub Holds : List ℕ → Places → Term → Type 0
  Holds s places (Term.variable h n) = Unit {0}
  Holds s places (Term.constant k) = Unit {0}
  Holds s places (Term.compound n f ts) = CellAt s places n f (count ts) × HoldsFrom s places n 0 ts

  -- The arguments of the compound n from the i-th on.
  pub HoldsFrom : List ℕ → Places → ℕ → ℕ → Terms → Type 0
  HoldsFrom s places n i end = Unit {0}
  HoldsFrom s places n i (more t ts) =
      (get_or s (places.compound n + 1 + i) 0 ≡ term_word places t) × Holds s places t × HoldsFrom s places n (i + 1) ts

-- A pair's word: 0, or the word of its value.
abbrev pub value_word : Places → Option Term → ℕ
value_word places none = 0
value_word places (some t) = term_word places t

abbrev pub HoldsValue : List ℕ → Places → Option Term → Type 0
HoldsValue s places none = Unit {0}
HoldsValue s places (some t) = Holds s places t

-- The pairs' values stand from a place of the scratch on, each at its pair's place.
pub record HoldsValues (s : List ℕ) (places : Places) (from pairs : ℕ) (values : Values) : Type 0 where
  pub inside : from + pairs ≤ length s
  pub place : (n : ℕ) → n < length values → places.pair n < pairs
  pub stands : (n : ℕ) → n < length values → get_or s (from + places.pair n) 0 ≡ value_word places (value values n)
  pub held : (n : ℕ) → n < length values → HoldsValue s places (value values n)
