-- More names behind those known: a term whose names are known keeps its words, and the scratch with its compounds stored is the same.
use Prim.Native.Nat.{ℕ, suc, ◌+◌, ◌*◌}
use mathlib.Core.Path.{◌≡◌, refl, ap}
use mathlib.Core.Bool.{Bool, true, false, ◌||◌}
use mathlib.Core.List.{List, [], ◌∷◌, ◌++◌}
use native.Mathlib.Omega.{arith}
use lib.ListN.{set}
use Rattle.meaning.specs.Bytes.{Bytes, same, any, when◌then◌else◌}
use Rattle.meaning.specs.Terms.{writer, reader, Constant, Functor, cell, named, Term, Terms, end, more, count}
use Rattle.term.specs.Cells.{Places, number_of, term_word, functor_word, stored, arguments_stored, KnownName, KnownConstant, KnownFunctor, Known, AllKnown}

-- The same places with more names.
abbrev pub with_more : Places → List Bytes → Places
with_more places later = record { names = places.names ++ later; pair = places.pair; compound = places.compound; width = places.width }

or_more : (a b c : Bool) → (b ≡ true → c ≡ true) → (a || b) ≡ true → (a || c) ≡ true
or_more true b c h k = refl
or_more false b c h k = h k

if_more : (a b : Bool) (m n : ℕ) → (b ≡ true → m ≡ n) → (a || b) ≡ true → (when a then 0 else suc m) ≡ (when a then 0 else suc n)
unfolding when◌then◌else◌
if_more true b m n h k = refl
if_more false b m n h k = ap suc (h k)

pub known_name_more : (f : Bytes) (names later : List Bytes) → KnownName names f → KnownName (names ++ later) f
unfolding any
known_name_more f [] later h = let z : ◌≡◌ {A = ℕ} 0 1 = cc in absurd (omega arith)
known_name_more f (g ∷ gs) later h =
    or_more (same f g) (any (same f) gs) (any (same f) (gs ++ later)) (known_name_more f gs later) h

pub number_of_more : (f : Bytes) (names later : List Bytes) → KnownName names f → number_of f (names ++ later) ≡ number_of f names
unfolding any number_of
number_of_more f [] later h = let z : ◌≡◌ {A = ℕ} 0 1 = cc in absurd (omega arith)
number_of_more f (g ∷ gs) later h =
    if_more (same f g) (any (same f) gs) (number_of f (gs ++ later)) (number_of f gs) (number_of_more f gs later) h

known_constant_more : (k : Constant) (names later : List Bytes) → KnownConstant names k → KnownConstant (names ++ later) k
known_constant_more (Constant.integer i) names later h = tt
known_constant_more (Constant.name f) names later h = known_name_more f names later h
known_constant_more Constant.empty names later h = tt

known_functor_more : (f : Functor) (names later : List Bytes) → KnownFunctor names f → KnownFunctor (names ++ later) f
known_functor_more cell names later h = tt
known_functor_more (named f) names later h = known_name_more f names later h

mutual
  unfolding Known AllKnown

  pub known_more : (t : Term) (names later : List Bytes) → Known names t → Known (names ++ later) t
  known_more (Term.variable h n) names later k = tt
  known_more (Term.constant c) names later k = known_constant_more c names later k
  known_more (Term.compound n f ts) names later k = (known_functor_more f names later k.0, all_known_more ts names later k.1)

  pub all_known_more : (ts : Terms) (names later : List Bytes) → AllKnown names ts → AllKnown (names ++ later) ts
  all_known_more end names later k = tt
  all_known_more (more t ts) names later k = (known_more t names later k.0, all_known_more ts names later k.1)

module _ (places : Places) (later : List Bytes) where
  constant_word_more : (k : Constant) → KnownConstant places.names k
      → term_word (with_more places later) (Term.constant k) ≡ term_word places (Term.constant k)
  constant_word_more (Constant.integer i) h = refl
  constant_word_more (Constant.name f) h = ap (λ n. 4 + 8 * n) (number_of_more f places.names later h)
  constant_word_more Constant.empty h = refl

  pub term_word_more : (t : Term) → Known places.names t → term_word (with_more places later) t ≡ term_word places t
  unfolding Known
  term_word_more (Term.variable writer n) h = refl
  term_word_more (Term.variable reader n) h = refl
  term_word_more (Term.constant k) h = constant_word_more k h
  term_word_more (Term.compound n f ts) h = refl

  pub functor_word_more : (f : Functor) (k : ℕ) → KnownFunctor places.names f
      → functor_word (with_more places later) f k ≡ functor_word places f k
  functor_word_more cell k h = refl
  functor_word_more (named f) k h = ap (λ n. k + 8 * (n + 1)) (number_of_more f places.names later h)

  mutual
    unfolding Known AllKnown stored arguments_stored

    pub stored_more : (t : Term) (s : List ℕ) → Known places.names t → stored (with_more places later) t s ≡ stored places t s
    stored_more (Term.variable h n) s k = refl
    stored_more (Term.constant c) s k = refl
    stored_more (Term.compound n f ts) s k = rw (arguments_stored_more n 0 ts s k.1, functor_word_more f (count ts) k.0)

    pub arguments_stored_more : (n i : ℕ) (ts : Terms) (s : List ℕ) → AllKnown places.names ts
        → arguments_stored (with_more places later) n i ts s ≡ arguments_stored places n i ts s
    arguments_stored_more n i end s k = refl
    arguments_stored_more n i (more t ts) s k =
        rw (stored_more t s k.0, term_word_more t k.0)
        (arguments_stored_more n (i + 1) ts (set (stored places t s) (places.compound n + 1 + i) (term_word places t)) k.1)
