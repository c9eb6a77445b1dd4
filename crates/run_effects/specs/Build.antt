-- A term of an item copied for a unit: its pairs come from a pair on, and its compounds stand one behind the other from a word on.
use Rattle.std.specs.Prelude.{ℕ, ◌+◌, ◌≤◌, ◌<◌, ◌≡◌, ◌⊎◌, ◌≢◌, List, [], ◌∷◌, length, get_or}
use Rattle.meaning.specs.Terms.{Term, Terms, variable, constant, compound, end, more, count, renamed}
use Rattle.term.specs.declared.word.View.{View}
use Rattle.term.specs.declared.word.View.TheVariants.{Nothing, Writer, Reader, Integer, Name, Empty, Compound}
use Rattle.term.specs.Cells.{Places, Numbered, term_word}
use Rattle.term.specs.Holds.{Holds}
use Rattle.term.specs.Setting.{Within}
use Rattle.term.specs.Frames.{Only}
use Rattle.term.specs.Layout.{trial_region, compounds_region}
use Rattle.term.specs.Words.{writer_word, reader_word}

-- An item: its own places, how many pairs and compounds it has.
pub record Item : Type 0 where
  pub places : Places
  pub pairs : ℕ
  pub compounds : ℕ

-- How many words the compounds of a term take: of each one for its functor and one for each argument.
unfoldable mutual
  pub size : Term → ℕ
  size (variable h n) = 0
  size (constant k) = 0
  size (compound n f ts) = 1 + count ts + sizes ts

  pub sizes : Terms → ℕ
  sizes end = 0
  sizes (more t ts) = size t + sizes ts

-- Where the compounds of an item are copied to, by their numbers, and how many words each has there.
pub record Copies : Type 0 where
  pub at : ℕ → ℕ
  pub width : ℕ → ℕ

-- A term's compounds are copied to a word and those behind it: its own words, then its arguments' from left to right.
unfoldable mutual
  pub Spread : Copies → ℕ → Term → Type 0
  Spread y to (variable h n) = Unit {0}
  Spread y to (constant k) = Unit {0}
  Spread y to (compound n f ts) = (y.at n ≡ to) × (y.width n ≡ 1 + count ts) × AllSpread y (to + 1 + count ts) ts

  pub AllSpread : Copies → ℕ → Terms → Type 0
  AllSpread y to end = Unit {0}
  AllSpread y to (more t ts) = Spread y to t × AllSpread y (to + size t) ts

-- The same of terms one behind the other.
unfoldable pub total : List Term → ℕ
total [] = 0
total (t ∷ ts) = size t + total ts

unfoldable pub ListSpread : Copies → ℕ → List Term → Type 0
ListSpread y to [] = Unit {0}
ListSpread y to (t ∷ ts) = Spread y to t × ListSpread y (to + size t) ts

-- Their compounds have numbers from lo up to hi, each term's behind those of the terms before it.
unfoldable pub Rising : ℕ → ℕ → List Term → Type 0
Rising lo hi [] = lo ≤ hi
Rising lo hi (t ∷ ts) = (a : ℕ) × (b : ℕ) × (lo ≤ a) × Numbered a b t × Rising b hi ts

-- The item's pairs have their own numbers, its compounds lie before the trial's region, and the pairs' copies have places.
pub record Goes (x : Item) (pair : ℕ) : Type 0 where
  pub own : (n : ℕ) → x.places.pair n ≡ n
  pub before : (n : ℕ) → n < x.compounds → x.places.compound n + 8 ≤ trial_region
  pub pairs_fit : pair + x.pairs ≤ 4294967296

-- A term of the item in the scratch.
pub record ItemTerm (s : List ℕ) (x : Item) (t : Term) : Type 0 where
  pub held : Holds s x.places t
  pub within : Within x.pairs x.compounds t

-- A term of the item by its word, and room for its compounds' copies from a word on, each with eight words of the scratch from its first on.
pub record Original (s : List ℕ) (x : Item) (pair to h : ℕ) (t : Term) : Type 0 where
  pub goes : Goes x pair
  pub word : h ≡ term_word x.places t
  pub term : ItemTerm s x t
  pub behind : compounds_region ≤ to
  pub inside : to + size t ≤ length s
  pub room : 1 ≤ size t → to + size t + 7 ≤ length s

-- The word of the copy of a term that is no compound, by what its own word says: a variable's pair comes from a pair on, any other word stays.
abbrev pub moved_word : ℕ → ℕ → View → ℕ
moved_word pair h (Writer m) = writer_word (pair + m)
moved_word pair h (Reader m) = reader_word (pair + m)
moved_word pair h Nothing = h
moved_word pair h (Integer bits) = h
moved_word pair h (Name number) = h
moved_word pair h Empty = h
moved_word pair h (Compound place) = h

-- Where a word is a variable's, its pair has a place from that pair on.
abbrev pub PairFits : ℕ → View → Type 0
PairFits pair v = ((m : ℕ) → v ≡ Writer m → pair + m < 4294967296) × ((m : ℕ) → v ≡ Reader m → pair + m < 4294967296)

-- A word for the copy's word, none of those of its compounds.
pub record Aside (s : List ℕ) (at to : ℕ) (t : Term) : Type 0 where
  pub behind : compounds_region ≤ at
  pub inside : at < length s
  pub apart : (at < to) ⊎ (to + size t ≤ at)

-- The unit's places for the item renamed by p and c: its pairs from a pair on, its compounds where they are copied to.
pub record Moved (x : Item) (places : Places) (pair : ℕ) (y : Copies) (p c : ℕ) : Type 0 where
  pub names : places.names ≡ x.places.names
  pub pair_at : (n : ℕ) → n < x.pairs → places.pair (p + n) ≡ pair + n
  pub compound_at : (n : ℕ) → n < x.compounds → places.compound (c + n) ≡ y.at n
  pub width_at : (n : ℕ) → n < x.compounds → places.width (c + n) ≡ y.width n

-- The compounds of a term copied: the word behind them, which words have changed, and that the copy is held by places that have its compounds there.
pub record Laid (s s' : List ℕ) (x : Item) (pair to : ℕ) (t : Term) (r : ℕ) : Type 0 where
  pub behind : r ≡ to + size t
  pub only : Only to (to + size t) s s'
  pub held : (places : Places) (y : Copies) (p c : ℕ) → Moved x places pair y p c → Spread y to t → Holds s' places (renamed p c t)

-- A term copied: its word besides, which stands at a word of its own.
pub record Copied (s s' : List ℕ) (x : Item) (pair at to : ℕ) (t : Term) (r : ℕ) : Type 0 where
  pub behind : r ≡ to + size t
  pub size_kept : length s' ≡ length s
  pub same : (k : ℕ) → k ≢ at → (k < to) ⊎ (to + size t ≤ k) → get_or s' k 0 ≡ get_or s k 0
  pub word : (places : Places) (y : Copies) (p c : ℕ) → Moved x places pair y p c → Spread y to t → get_or s' at 0 ≡ term_word places (renamed p c t)
  pub held : (places : Places) (y : Copies) (p c : ℕ) → Moved x places pair y p c → Spread y to t → Holds s' places (renamed p c t)
