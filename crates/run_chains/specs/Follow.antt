-- What following a goal's term asks and gives: the word of a term of the unit, and that of the term followed. What following all arguments of a
-- goal, and keeping their ends, asks and gives.
use Rattle.std.specs.Prelude.{ℕ, ◌+◌, ◌≤◌, ◌<◌, ◌≡◌, ◌≢◌, List, length, get_or, Option, Some, None}
use Rattle.std.proofs.Math.Option.{none}
use Rattle.meaning.specs.Terms.{Functor, Term, Terms, end, more}
use Rattle.meaning.specs.Compare.{followed}
use Rattle.term.specs.Cells.{term_word}
use Rattle.term.specs.Frames.{Only}
use Rattle.term.specs.Chains.{value_of, Leads, end_place, EndsStand}
use Rattle.term.specs.Setting.{Setting, UnitTerm, UnitStands}
use Rattle.term.specs.Layout.{compounds_region, followed_from, followed_end}

-- The unit's values stand from a place on, and the ends behind them; a chain has no more links than the room has pairs.
pub record Chained (s : List ℕ) (x : Setting) (from links : ℕ) : Type 0 where
  pub stands : UnitStands s x from
  pub links_are : links ≡ x.pairs
  pub ends : EndsStand s x from

-- w is the word of t, a term of the unit.
pub record Reads (s : List ℕ) (x : Setting) (from links : ℕ) (t : Term) (w : ℕ) : Type 0 where
  pub chained : Chained s x from links
  pub term : UnitTerm s x t
  pub word : w ≡ term_word x.places t

-- r is the word of t followed, which the scratch holds too.
abbrev pub FollowedTo : List ℕ → Setting → ℕ → ℕ → Term → ℕ → Type 0
FollowedTo s x from links t r = Reads s x from links (followed links x.values t) r

-- The arguments of a goal, followed, stand one behind the other from word `followed_from` + i on.
unfoldable pub FollowedAt : List ℕ → Setting → ℕ → ℕ → Terms → Type 0
FollowedAt s x links i end = Unit {0}
FollowedAt s x links i (more t ts) =
    (get_or s (followed_from + i) 0 ≡ term_word x.places (followed links x.values t)) × UnitTerm s x (followed links x.values t)
    × FollowedAt s x links (i + 1) ts

-- The arguments of the compound l, a goal at a place, can be followed: the unit's compounds and values stand behind the trial's region.
pub record Follows (s : List ℕ) (x : Setting) (from links l : ℕ) (f : Functor) (ts : Terms) (goal : ℕ) : Type 0 where
  pub chained : Chained s x from links
  pub term : UnitTerm s x (Term.compound l f ts)
  pub place : goal ≡ x.places.compound l
  pub compounds_behind : (n : ℕ) → n < x.compounds → compounds_region ≤ x.places.compound n
  pub values_behind : compounds_region ≤ from

-- They are followed: only the words for them have changed.
pub record ArgumentsFollowed (s s' : List ℕ) (x : Setting) (links : ℕ) (ts : Terms) : Type 0 where
  pub only : Only followed_from followed_end s s'
  pub stand : FollowedAt s' x links 0 ts

-- A term leads on to the word r: that of its value, or of a term further on; to none if it is no assigned variable.
pub record Onward (s : List ℕ) (x : Setting) (from links : ℕ) (t : Term) (r : ℕ) : Type 0 where
  pub next : Term
  pub over : ℕ
  pub more : 0 < over
  pub leads : Leads x.values over t next
  pub reads : Reads s x from links next r

abbrev pub Ahead : List ℕ → Setting → ℕ → ℕ → Term → Option ℕ → Type 0
Ahead s x from links t None = value_of x.values t ≡ none
Ahead s x from links t (Some r) = Onward s x from links t r

-- The pair n at its place.
pub record PairAt (s : List ℕ) (x : Setting) (from links n p : ℕ) : Type 0 where
  pub chained : Chained s x from links
  pub inside : n < length x.values
  pub place : p ≡ x.places.pair n

-- Ends can be kept: the pairs have places of their own, and the unit's compounds stand before the values.
pub record Keepable (s : List ℕ) (x : Setting) (from links : ℕ) : Type 0 where
  pub chained : Chained s x from links
  pub apart : (n m : ℕ) → n < length x.values → m < length x.values → x.places.pair n ≡ x.places.pair m → n ≡ m
  pub before : (n : ℕ) → n < x.compounds → x.places.compound n + x.places.width n ≤ from

-- Of a term with the word w.
pub record KeepsOf (s : List ℕ) (x : Setting) (from links : ℕ) (t : Term) (w : ℕ) : Type 0 where
  pub keepable : Keepable s x from links
  pub reads : Reads s x from links t w

-- Of the arguments of the compound l.
pub record Keeps (s : List ℕ) (x : Setting) (from links l : ℕ) (f : Functor) (ts : Terms) (goal : ℕ) : Type 0 where
  pub keepable : Keepable s x from links
  pub term : UnitTerm s x (Term.compound l f ts)
  pub place : goal ≡ x.places.compound l

-- Only ends of the unit's pairs have changed, and those that stand are right.
pub record EndsKept (s s' : List ℕ) (x : Setting) (from links : ℕ) : Type 0 where
  pub size : length s' ≡ length s
  pub others : (k : ℕ) → ((n : ℕ) → n < length x.values → k ≢ end_place x from n) → get_or s' k 0 ≡ get_or s k 0
  pub keepable : Keepable s' x from links
