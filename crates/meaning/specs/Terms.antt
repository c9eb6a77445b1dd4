-- Document 01, 'Job text', with document 02, T-02: what a term, a guard, a clause, a query and a job are.
use Rattle.std.specs.Prelude.{ℕ, zero, suc, ◌+◌, Bool, true, false, ◌&&◌, ◌||◌, List, [], ◌∷◌, eqb}
use Rattle.meaning.specs.Bytes.{Bytes, bytes_words, same, when◌then◌else◌}

-- A variable is one of the two halves of a pair.
pub data Half : Type 0 where
  writer reader : Half

-- An integer by its sign and its digits' value; no text gives `-0`.
pub data Integer : Type 0 where
  plus : ℕ → Integer
  minus : ℕ → Integer

-- A constant is an integer, a name or `[]`; a name is its spelling.
pub data Constant : Type 0 where
  integer : Integer → Constant
  name : Bytes → Constant
  empty : Constant

-- A list cell has a functor of its own; any other compound has a name.
pub data Functor : Type 0 where
  cell : Functor
  named : Bytes → Functor

-- "A term holds a list of arguments, and each argument is a term." Pairs and compounds have numbers of their own.
mutual
  pub data Term : Type 0 where
    variable : Half → ℕ → Term
    constant : Constant → Term
    compound : ℕ → Functor → Terms → Term

  pub data Terms : Type 0 where
    end : Terms
    more : Term → Terms → Terms

-- "Heads and goals are compounds with a name."
pub record Named : Type 0 where
  pub number : ℕ
  pub name : Bytes
  pub arguments : Terms

-- What a guard asks: "integer, constant, compound, ground, known, `==` and otherwise" (02, T-02).
pub data Test : Type 0 where
  an_integer a_constant a_compound a_ground known equal otherwise : Test

-- A row of the "fixed table of names and argument counts", with whether success means ground.
pub record Row : Type 0 where
  pub name : Bytes
  pub count : ℕ
  pub test : Test
  pub means_ground : Bool

-- A guard: its row, its arguments, and the number of the compound that it is; otherwise is none, and has 0.
pub record Guard : Type 0 where
  pub row : Row
  pub number : ℕ
  pub arguments : Terms

-- `head.`, `head :- goal,..,goal.` or `head :- guard,..,guard | goal,..,goal.`, with the number of its pairs and of its compounds, head, guards, goals and list cells counted;
-- and which one it is of the clauses of the whole text, from 1.
pub record Clause : Type 0 where
  pub place : ℕ
  pub head : Named
  pub guards : List Guard
  pub body : List Named
  pub pairs : ℕ
  pub compounds : ℕ

-- `?- goal,..,goal.`, with the spellings of its pairs' variables in order of first occurrence.
pub record Query : Type 0 where
  pub goals : List Named
  pub variables : List Bytes
  pub compounds : ℕ

-- A job: clauses and queries, each in text order.
pub record Job : Type 0 where
  pub clauses : List Clause
  pub queries : List Query

-- The number of arguments.
unfoldable pub count : Terms → ℕ
count end = 0
count (more t ts) = suc (count ts)

-- Equal constants; equal functors.
unfoldable pub same_integer : Integer → Integer → Bool
same_integer (plus m) (plus n) = eqb m n
same_integer (plus m) (minus n) = false
same_integer (minus m) (plus n) = false
same_integer (minus m) (minus n) = eqb m n

unfoldable pub same_constant : Constant → Constant → Bool
same_constant (integer i) (integer j) = same_integer i j
same_constant (integer i) (name g) = false
same_constant (integer i) empty = false
same_constant (name f) (integer j) = false
same_constant (name f) (name g) = same f g
same_constant (name f) empty = false
same_constant empty (integer j) = false
same_constant empty (name g) = false
same_constant empty empty = true

unfoldable pub same_functor : Functor → Functor → Bool
same_functor cell cell = true
same_functor cell (named g) = false
same_functor (named f) cell = false
same_functor (named f) (named g) = same f g

unfoldable pub same_half : Half → Half → Bool
same_half writer writer = true
same_half writer reader = false
same_half reader writer = false
same_half reader reader = true

-- Renamed apart: the pairs' numbers raised by p, the compounds' by c.
unfoldable mutual
  pub renamed : ℕ → ℕ → Term → Term
  renamed p c (variable h n) = variable h (p + n)
  renamed p c (constant k) = constant k
  renamed p c (compound n f ts) = compound (c + n) f (all_renamed p c ts)

  pub all_renamed : ℕ → ℕ → Terms → Terms
  all_renamed p c end = end
  all_renamed p c (more t ts) = more (renamed p c t) (all_renamed p c ts)

unfoldable pub renamed_goal : ℕ → ℕ → Named → Named
renamed_goal p c g = record { number = c + g.number; name = g.name; arguments = all_renamed p c g.arguments }

-- How often one half of pair n occurs.
unfoldable mutual
  pub occurrences : Half → ℕ → Term → ℕ
  occurrences h n (variable k m) = when same_half h k && eqb n m then 1 else 0
  occurrences h n (constant k) = 0
  occurrences h n (compound m f ts) = all_occurrences h n ts

  pub all_occurrences : Half → ℕ → Terms → ℕ
  all_occurrences h n end = 0
  all_occurrences h n (more t ts) = occurrences h n t + all_occurrences h n ts

unfoldable pub goals_occurrences : Half → ℕ → List Named → ℕ
goals_occurrences h n [] = 0
goals_occurrences h n (g ∷ gs) = all_occurrences h n g.arguments + goals_occurrences h n gs

-- The pairs that a term holds, by their writers or readers, in order of occurrence.
unfoldable mutual
  pub pairs_of : Term → List ℕ → List ℕ
  pairs_of (variable h n) behind = n ∷ behind
  pairs_of (constant k) behind = behind
  pairs_of (compound m f ts) behind = pairs_of_all ts behind

  pub pairs_of_all : Terms → List ℕ → List ℕ
  pairs_of_all end behind = behind
  pairs_of_all (more t ts) behind = pairs_of t (pairs_of_all ts behind)

-- A term with each of its variables replaced.
unfoldable mutual
  pub replaced : (Half → ℕ → Term) → Term → Term
  replaced by (variable h n) = by h n
  replaced by (constant k) = constant k
  replaced by (compound m f ts) = compound m f (all_replaced by ts)

  pub all_replaced : (Half → ℕ → Term) → Terms → Terms
  all_replaced by end = end
  all_replaced by (more t ts) = more (replaced by t) (all_replaced by ts)

-- A goal as the term that it is.
unfoldable pub as_term : Named → Term
as_term g = compound g.number (named g.name) g.arguments

unfoldable pub terms_words : Unit {0}
unfolding bytes_words count same_integer same_constant same_functor same_half renamed all_renamed renamed_goal occurrences all_occurrences goals_occurrences pairs_of pairs_of_all replaced all_replaced as_term
terms_words = tt
