-- Terms in the scratch: the word of a term, and its compounds, each from its place on: its functor, then its arguments.
use Rattle.std.specs.Prelude.{ℕ, suc, ◌+◌, ◌-◌, ◌≤◌, ◌≡◌, true, List, [], ◌∷◌, set}
use Rattle.meaning.specs.Bytes.{Bytes, same, any, when◌then◌else◌}
use Rattle.meaning.specs.Terms.{
  Integer,
  plus,
  minus,
  Constant,
  Functor,
  cell,
  named,
  Term,
  Terms,
  end,
  more,
  count,
}
use Rattle.term.specs.Words.{Content, word, packed}

-- Which number each name has, at which place each pair lies and at which word each compound, and how many words are the compound's own.
pub record Places : Type 0 where
  pub names : List Bytes
  pub pair : ℕ → ℕ
  pub compound : ℕ → ℕ
  pub width : ℕ → ℕ

-- An integer's 32 bits.
abbrev pub bits : Integer → ℕ
bits (plus n) = n
bits (minus n) = 4294967296 - n

-- A name's number: its place among the names.
unfoldable pub number_of : Bytes → List Bytes → ℕ
number_of f [] = 0
number_of f (g ∷ gs) = when same f g then 0 else suc (number_of f gs)

abbrev pub constant_content : Places → Constant → Content
constant_content places (Constant.integer i) = Content.integer (bits i)
constant_content places (Constant.name f) = Content.name (number_of f places.names)
constant_content places Constant.empty = Content.empty

abbrev pub content : Places → Term → Content
content places (Term.variable h n) = Content.variable h (places.pair n)
content places (Term.constant k) = constant_content places k
content places (Term.compound n f ts) = Content.compound (places.compound n)

-- The word of a term.
abbrev pub term_word : Places → Term → ℕ
term_word places t = word (content places t)

-- A compound's first word: the number of its arguments and eight times its functor, 0 for the list cell, else the name's number and one.
abbrev pub functor_number : Places → Functor → ℕ
functor_number places cell = 0
functor_number places (named f) = number_of f places.names + 1

abbrev pub functor_word : Places → Functor → ℕ → ℕ
functor_word places f k = packed k (functor_number places f)

-- The scratch with a term's compounds stored: of each the arguments' own compounds and words from left to right, then its functor.
unfoldable mutual
  pub stored : Places → Term → List ℕ → List ℕ
  stored places (Term.variable h n) s = s
  stored places (Term.constant k) s = s
  stored places (Term.compound n f ts) s =
      set (arguments_stored places n 0 ts s) (places.compound n) (functor_word places f (count ts))

  pub arguments_stored : Places → ℕ → ℕ → Terms → List ℕ → List ℕ
  arguments_stored places n i end s = s
  arguments_stored places n i (more t ts) s =
      arguments_stored places n (i + 1) ts (set (stored places t s) (places.compound n + 1 + i) (term_word places t))

-- The compounds of a term have numbers from lo up to hi, the arguments' from left to right behind its own, and at most 6 arguments each.
unfoldable mutual
  pub Numbered : ℕ → ℕ → Term → Type 0
  Numbered lo hi (Term.variable h n) = lo ≤ hi
  Numbered lo hi (Term.constant k) = lo ≤ hi
  Numbered lo hi (Term.compound n f ts) = (n ≡ lo) × (count ts ≤ 6) × AllNumbered (lo + 1) hi ts

  pub AllNumbered : ℕ → ℕ → Terms → Type 0
  AllNumbered lo hi end = lo ≤ hi
  AllNumbered lo hi (more t ts) = (mid : ℕ) × Numbered lo mid t × AllNumbered mid hi ts

-- The names of a term are among these.
abbrev pub KnownName : List Bytes → Bytes → Type 0
KnownName names f = any (same f) names ≡ true

abbrev pub KnownConstant : List Bytes → Constant → Type 0
KnownConstant names (Constant.integer i) = Unit {0}
KnownConstant names (Constant.name f) = KnownName names f
KnownConstant names Constant.empty = Unit {0}

abbrev pub KnownFunctor : List Bytes → Functor → Type 0
KnownFunctor names cell = Unit {0}
KnownFunctor names (named f) = KnownName names f

unfoldable mutual
  pub Known : List Bytes → Term → Type 0
  Known names (Term.variable h n) = Unit {0}
  Known names (Term.constant k) = KnownConstant names k
  Known names (Term.compound n f ts) = KnownFunctor names f × AllKnown names ts

  pub AllKnown : List Bytes → Terms → Type 0
  AllKnown names end = Unit {0}
  AllKnown names (more t ts) = Known names t × AllKnown names ts
