-- What document 01's figures say of an accepted item: its pairs, compounds, arguments and integers, and that its names are the text's.
-- What fits within some bounds fits within wider ones; what fits holds no pair that the item does not have.
use Prim.Native.Nat.{ℕ, ◌≤◌, ◌<◌}
use mathlib.Core.Path.{◌≡◌, refl}
use mathlib.Core.Bool.{Bool, true, false, ◌&&◌, ◌||◌}
use mathlib.Core.List.{List, [], ◌∷◌, ◌++◌}
use native.Mathlib.Omega.{arith}
use lib.ListN.{length, length-append}
use borrow.Author.Tests.{ne_eqb}
use Rattle.meaning.specs.Bytes.{Bytes, when◌then◌else◌, same, any}
use Rattle.meaning.specs.Terms.{
  Half,
  Integer,
  plus,
  minus,
  Constant,
  integer,
  name,
  empty,
  Functor,
  cell,
  named,
  Term,
  Terms,
  variable,
  constant,
  compound,
  end,
  more,
  Named,
  Guard,
  Clause,
  Query,
  Job,
  count,
  same_half,
  occurrences,
  all_occurrences,
  goals_occurrences,
  as_term,
}
use Rattle.meaning.specs.Tokens.{lowercase, uppercase, next_is}
use Rattle.meaning.specs.Table.{guard_table}
use Rattle.laws.proofs.Lists.{In, any_in, in_same, Each, each_append, Distinct, distinct_last, same_true}
use Rattle.laws.proofs.Reading.Numbering.{NamedNumbered, GoalsNumbered, GuardsNumbered}
use Rattle.laws.proofs.Reading.Brackets.{GoalNested, GuardNested}

-- So many pairs and compounds, and these names.
pub record Bounds : Type 0 where
  pub pairs : ℕ
  pub compounds : ℕ
  pub names : List Bytes

-- A name is among the text's.
abbrev pub Known : Bounds → Bytes → Type 0
Known b f = any (same f) b.names ≡ true

-- It stands among them.
pub known_in : (b : Bounds) (f : Bytes) → Known b f → In f b.names
known_in b f e = let (g, m, is_same) = any_in (same f) b.names e in in_same (same_true f g is_same) m

-- "1 to 31 bytes", led by a letter.
unfoldable pub letter : ℕ → Bool
letter c = lowercase c || uppercase c

pub record SpellingFits (f : Bytes) : Type 0 where
  pub some : 1 ≤ length f
  pub few : length f ≤ 31
  pub led : next_is letter f ≡ true

-- At most so many spellings, told apart.
pub record SpellingsFit (most : ℕ) (l : List Bytes) : Type 0 where
  pub few : length l ≤ most
  pub distinct : Distinct l
  pub spelled : Each SpellingFits l

pub no_spellings_fit : (most : ℕ) → SpellingsFit most []
unfolding Distinct
no_spellings_fit most = record { few = omega arith; distinct = tt; spelled = tt }

-- One more of them, where there is room.
pub one_more_spelling : {most : ℕ} (l : List Bytes) (x : Bytes) → length l < most → SpellingFits x → (In x l → ⊥)
    → SpellingsFit most l → SpellingsFit most (l ++ (x ∷ []))
one_more_spelling l x room spelled new h =
    record {
      few = omega (arith, length-append l (x ∷ []));
      distinct = distinct_last l x h.distinct new;
      spelled = each_append SpellingFits l (x ∷ []) h.spelled (spelled, tt);
    }

-- "From -2147483648 to 2147483647", and there is no `-0`.
unfoldable pub IntegerFits : Integer → Type 0
IntegerFits (plus n) = n ≤ 2147483647
IntegerFits (minus n) = (1 ≤ n) × (n ≤ 2147483648)

unfoldable pub ConstantFits : Bounds → Constant → Type 0
ConstantFits b (integer i) = IntegerFits i
ConstantFits b (name f) = Known b f
ConstantFits b empty = Unit {0}

-- A list cell is "a compound of two arguments", a compound with a name has 1 to 6.
unfoldable pub FunctorFits : Bounds → Functor → ℕ → Type 0
FunctorFits b cell n = n ≡ 2
FunctorFits b (named f) n = Known b f × (1 ≤ n) × (n ≤ 6)

unfoldable mutual
  pub TermFits : Bounds → Term → Type 0
  TermFits b (variable h n) = n < b.pairs
  TermFits b (constant k) = ConstantFits b k
  TermFits b (compound n f ts) = (n < b.compounds) × FunctorFits b f (count ts) × TermsFit b ts

  pub TermsFit : Bounds → Terms → Type 0
  TermsFit b end = Unit {0}
  TermsFit b (more t ts) = TermFits b t × TermsFit b ts

-- A head or a goal: "compounds with a name".
pub record NamedFits (b : Bounds) (g : Named) : Type 0 where
  pub number : g.number < b.compounds
  pub known : Known b g.name
  pub some_arguments : 1 ≤ count g.arguments
  pub few_arguments : count g.arguments ≤ 6
  pub arguments : TermsFit b g.arguments

-- A guard: "from a fixed table of names and argument counts". Its own compound has a number too; otherwise is none, and has 0.
pub record GuardFits (b : Bounds) (g : Guard) : Type 0 where
  pub in_table : In g.row guard_table
  pub counted : count g.arguments ≡ g.row.count
  pub number : g.number < b.compounds
  pub arguments : TermsFit b g.arguments
  pub nested : GuardNested g

-- "Per item 16 variable pairs, 32 compounds (head, goals and list cells counted) and 8 body or query goals", and 8 guards (02, T-02).
-- The compounds of the head come first, then the guards', then the body's.
pub record ClauseFits (names : List Bytes) (c : Clause) : Type 0 where
  pub few_pairs : c.pairs ≤ 16
  pub few_compounds : c.compounds ≤ 32
  pub few_guards : length c.guards ≤ 8
  pub few_goals : length c.body ≤ 8
  pub behind_head : ℕ
  pub behind_guards : ℕ
  pub head_numbered : NamedNumbered 0 behind_head c.head
  pub guards_numbered : GuardsNumbered behind_head behind_guards c.guards
  pub body_numbered : GoalsNumbered behind_guards c.compounds c.body
  pub guards : Each (GuardFits (record { pairs = c.pairs; compounds = c.compounds; names = names })) c.guards
  pub nested : Each GoalNested (c.head ∷ c.body)
  pub head : NamedFits (record { pairs = c.pairs; compounds = c.compounds; names = names }) c.head
  pub body : Each (NamedFits (record { pairs = c.pairs; compounds = c.compounds; names = names })) c.body

pub record QueryFits (names : List Bytes) (q : Query) : Type 0 where
  pub few_pairs : length q.variables ≤ 16
  pub few_compounds : q.compounds ≤ 32
  pub some_goals : 1 ≤ length q.goals
  pub few_goals : length q.goals ≤ 8
  pub variables : SpellingsFit 16 q.variables
  pub numbered : GoalsNumbered 0 q.compounds q.goals
  pub nested : Each GoalNested q.goals
  pub goals : Each (NamedFits (record { pairs = length q.variables; compounds = q.compounds; names = names })) q.goals

-- "128 clauses; 1 to 8 queries; 256 distinct names", of a job whose names are these.
pub record JobFits (names : List Bytes) (j : Job) : Type 0 where
  pub names_fit : SpellingsFit 256 names
  pub few_clauses : length j.clauses ≤ 128
  pub some_queries : 1 ≤ length j.queries
  pub few_queries : length j.queries ≤ 8
  pub clauses : Each (ClauseFits names) j.clauses
  pub queries : Each (QueryFits names) j.queries

-- Bounds within wider ones.
pub record Widens (b c : Bounds) : Type 0 where
  pub pairs : b.pairs ≤ c.pairs
  pub compounds : b.compounds ≤ c.compounds
  pub names : (f : Bytes) → Known b f → Known c f

pub widens_refl : (b : Bounds) → Widens b b
widens_refl b = record { pairs = omega arith; compounds = omega arith; names = λ f h. h }

pub widens_trans : {b c d : Bounds} → Widens b c → Widens c d → Widens b d
widens_trans v w = record { pairs = omega arith; compounds = omega arith; names = λ f h. w.names f (v.names f h) }

module _ {b c : Bounds} (w : Widens b c) where
  constant_widens : (k : Constant) → ConstantFits b k → ConstantFits c k
  unfolding ConstantFits
  constant_widens (integer i) h = h
  constant_widens (name f) h = w.names f h
  constant_widens empty h = tt

  functor_widens : (f : Functor) (n : ℕ) → FunctorFits b f n → FunctorFits c f n
  unfolding FunctorFits
  functor_widens cell n h = h
  functor_widens (named f) n h = (w.names f h.0, h.1, h.2)

  mutual
    unfolding TermFits TermsFit

    pub term_widens : (t : Term) → TermFits b t → TermFits c t
    term_widens (variable h n) l = omega arith
    term_widens (constant k) h = constant_widens k h
    term_widens (compound n f ts) h = (omega arith, functor_widens f (count ts) h.1, terms_widen ts h.2)

    pub terms_widen : (ts : Terms) → TermsFit b ts → TermsFit c ts
    terms_widen end h = tt
    terms_widen (more t ts) h = (term_widens t h.0, terms_widen ts h.1)

  pub guard_widens : (g : Guard) → GuardFits b g → GuardFits c g
  guard_widens g h =
      record { in_table = h.in_table; counted = h.counted; number = omega arith; arguments = terms_widen g.arguments h.arguments; nested = h.nested }

  pub named_widens : (g : Named) → NamedFits b g → NamedFits c g
  named_widens g h =
      record {
        number = omega arith;
        known = w.names g.name h.known;
        some_arguments = h.some_arguments;
        few_arguments = h.few_arguments;
        arguments = terms_widen g.arguments h.arguments;
      }

-- What fits as a head or a goal fits as the term that it is.
pub as_term_fits : (b : Bounds) (g : Named) → NamedFits b g → TermFits b (as_term g)
unfolding TermFits FunctorFits as_term
as_term_fits b g h = (h.number, (h.known, h.some_arguments, h.few_arguments), h.arguments)

-- A pair that the item does not have occurs nowhere in what fits.
module _ (b : Bounds) (h : Half) (n : ℕ) (past : b.pairs ≤ n) where
  mutual
    unfolding TermFits TermsFit occurrences all_occurrences when◌then◌else◌

    pub term_below : (t : Term) → TermFits b t → occurrences h n t ≡ 0
    term_below (variable k m) l = rw (ne_eqb n m (λ e. omega arith)) (go (same_half h k))
      where
        go : (a : Bool) → ◌≡◌ {A = ℕ} (when a && false then 1 else 0) 0
        go true = refl
        go false = refl
    term_below (constant k) f = refl
    term_below (compound m g ts) f = terms_below ts f.2

    pub terms_below : (ts : Terms) → TermsFit b ts → all_occurrences h n ts ≡ 0
    terms_below end f = refl
    terms_below (more t ts) f = rw (term_below t f.0, terms_below ts f.1)

  pub goals_below : (gs : List Named) → Each (NamedFits b) gs → goals_occurrences h n gs ≡ 0
  unfolding goals_occurrences
  goals_below [] f = refl
  goals_below (g ∷ gs) f =
      rw (terms_below g.arguments f.0.arguments, goals_below gs f.1)
