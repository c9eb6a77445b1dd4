-- What asking a single guard of a clause asks and tells, and what a word shows of the term that an argument is, written out.
use Rattle.std.specs.Prelude.{ℕ, ◌+◌, ◌*◌, ◌≤◌, ◌<◌, ◌≡◌, Bool, true, not, List, [], eqb, length, Option, Some, None, Result as Outcome}
use Rattle.meaning.specs.Terms.{writer, reader, Constant, Term, variable, constant, compound, Guard, count, replaced}
use Rattle.meaning.specs.State.{applied}
use Rattle.meaning.specs.Compare.{Assignment, Result}
use Rattle.meaning.specs.Table.{guard_table}
use Rattle.meaning.specs.Guards.{given_to}
use Rattle.term.specs.Cells.{term_word}
use Rattle.term.specs.Frames.{Only}
use Rattle.term.specs.Guards.{test_number, row_at}
use Rattle.term.specs.Setting.{Setting, Within}
use Rattle.term.specs.Words.{tag_in, rest_in}
use Rattle.run_compare.specs.Compare.{Template, item}
use Rattle.run_readers.specs.Readers.{Readers}
use Rattle.run_asked.specs.Asking.{Asking, Arguments, StampsFrom}
use Rattle.run_asked.specs.declared.asking.Hindered.{Hindered}
use Rattle.run_ground.specs.Seeking.{GroundsAdded}
use Rattle.run_guards.specs.Guarding.{GuardsTold}
use Rattle.run_guards.specs.declared.guards.Kind.{Kind}
use Rattle.run_guards.specs.declared.guards.Kind.TheVariants as kinds

-- A guard of the clause, whose arguments stand behind a place. Stamps from this one on are unused.
pub record GuardAt (s : List ℕ) (x : Setting) (y : Template) (given : List Assignment) (values marks links met stamp : ℕ) (g : Guard) (place : ℕ) : Type 0 where
  pub asking : Asking s x y given values marks links
  pub counted : count g.arguments ≡ (row_at guard_table (test_number g.row.test)).count
  pub number : 0 < count g.arguments → g.number < y.compounds
  pub arguments : Arguments s x y g.number place g.arguments
  pub readers : Readers s (marks + links) links met
  pub few_links : links ≤ 65536
  pub near : values ≤ 268435456
  pub stamps : StampsFrom s marks x.pairs stamp
  pub above : 1 < stamp
  pub below : stamp + 1 < 1099511627776

-- The answer to what the guard's test answers.
pub record GuardIs (s s' : List ℕ) (x : Setting) (marks links met stamp : ℕ) (o : Result) (r : Outcome Unit Hindered) : Type 0 where
  pub only : Only marks (marks + 3 * links) s s'
  pub stamps : StampsFrom s' marks x.pairs (stamp + 1)
  pub grounds : GroundsAdded x.places x.values marks x.pairs s s'
  pub told : GuardsTold s s' x [] (marks + links) links met o r

-- The word of an argument, a term of the clause; and this written out.
pub record Argument (s : List ℕ) (x : Setting) (y : Template) (given : List Assignment) (values marks links : ℕ) (t : Term) (w : ℕ) : Type 0 where
  pub asking : Asking s x y given values marks links
  pub word : w ≡ term_word (item x y) t
  pub within : Within y.pairs y.compounds t

abbrev pub written : Setting → List Assignment → Term → Term
written x given t = replaced (λ h m. applied (length x.values) x.values (given_to given (length x.values + m))) t

abbrev pub constant_tag : Constant → ℕ
constant_tag (Constant.integer i) = 3
constant_tag (Constant.name f) = 4
constant_tag Constant.empty = 5

-- What a word shows of a term: a writer also where the word is 0; a reader and its pair's place; whether it is a constant, and which, or a compound.
abbrev pub Shows : Setting → Term → ℕ → Type 0
Shows x (variable writer p) w = tag_in w ≤ 1
Shows x (variable reader p) w = (tag_in w ≡ 2) × (rest_in w ≡ x.places.pair p) × (p < length x.values)
Shows x (constant k) w = tag_in w ≡ constant_tag k
Shows x (compound n f ts) w = tag_in w ≡ 6

-- What is read of an argument written out: a word that shows it, or nothing, of a writer alone.
abbrev pub IsRead : Setting → Term → Option ℕ → Type 0
IsRead x t (Some w) = Shows x t w
IsRead x t None = (p : ℕ) × (t ≡ variable writer p)

-- The kinds by the tags of terms that are no variables.
abbrev pub of_kind : Kind → ℕ → Bool
of_kind kinds.Integer tag = eqb tag 3
of_kind kinds.Constant tag = not (eqb tag 6)
of_kind kinds.Compound tag = eqb tag 6
of_kind kinds.Any tag = true
