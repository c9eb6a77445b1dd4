-- What is left to try for a goal: two chains of clauses, merged in text order; of each clause of the procedure that is in neither it is known that it fails.
use Rattle.std.specs.Prelude.{ℕ, ◌+◌, ◌-◌, ◌≤◌, ◌<◌, ◌≡◌, ◌⊎◌, ◌≢◌, List, [], ◌∷◌, length, get_or}
use Rattle.meaning.specs.Bytes.{Bytes}
use Rattle.meaning.specs.Terms.{Named, named, Clause, Job, count}
use Rattle.meaning.specs.Trial.{procedure}
use Rattle.term.specs.Words.{link_to, tag_in}
use Rattle.term.specs.Cells.{KnownName, functor_word}
use Rattle.term.specs.Jobs.{places_from, EachFrom, ClauseAt, HoldsJob}
use Rattle.term.specs.Layout.{procedure_slot, clause_stride, clause_record, clause_head, followed_part}
use Rattle.run_index.specs.Index.{kind_of, KindReads, Indexed}
use Rattle.run_index.specs.declared.leads.Leads.{Leads}

-- Clause k has another kind of term than the goal at an argument that both have, where the clause has no writer, and the goal no variable.
pub record Idle (s : List ℕ) (functor k : ℕ) : Type 0 where
  pub argument : ℕ
  pub from_one : 1 ≤ argument
  pub inside : argument ≤ tag_in functor
  pub goal_closed : 2 < kind_of s (get_or s (followed_part + argument) 0)
  pub no_writer : kind_of s (get_or s (clause_head k + argument) 0) ≢ 0
  pub other : kind_of s (get_or s (clause_head k + argument) 0) ≢ kind_of s (get_or s (followed_part + argument) 0)

-- The clauses from a number on, in text order: each is the next of the first chain, or the next of the second, or idle. A chain is the number of its first
-- clause plus one, or 0, and goes on by a word of that clause's record.
unfoldable pub Left : List ℕ → (ℕ → Type 0) → (ℕ → Clause → Type 0) → ℕ → List Clause → ℕ → ℕ → ℕ → ℕ → Type 0
Left s Out At from [] a link b other = (a ≡ 0) × (b ≡ 0)
Left s Out At from (c ∷ cs) a link b other =
    (k : ℕ) × (from ≤ k) × At k c
    × (((a ≡ k + 1) × Left s Out At (k + 1) cs (get_or s (clause_record k + link) 0) link b other)
    ⊎ (((b ≡ k + 1) × Left s Out At (k + 1) cs a link (get_or s (clause_record k + other) 0) other)
    ⊎ (Out k × Left s Out At (k + 1) cs a link b other)))

-- Clauses of which each is out.
unfoldable pub AllOut : (ℕ → Type 0) → (ℕ → Clause → Type 0) → List Clause → Type 0
AllOut Out At [] = Unit {0}
AllOut Out At (c ∷ cs) = ((k : ℕ) × At k c × Out k) × AllOut Out At cs

-- The first chain has the next clause to try, if there is one.
pub record Nearest (l : Leads) : Type 0 where
  pub none : link_to l.next ≡ 0 → link_to l.other ≡ 0
  pub before : link_to l.other ≢ 0 → link_to l.next < link_to l.other
  pub link_inside : l.link < clause_stride
  pub other_inside : l.onward < clause_stride

-- The clauses of a goal's procedure that are left.
abbrev pub LeftFor : List ℕ → List Bytes → ℕ → ℕ → List Clause → Leads → Type 0
LeftFor s names functor from cs l =
    Left s (Idle s functor) (ClauseAt s names) from cs (link_to l.next) l.link (link_to l.other) l.onward

-- A goal whose arguments were followed: the first word of its compound, and the first clause of its procedure, plus one, or 0. The arguments' words are
-- words of terms, and the job's clauses count from 1.
pub record Sought (s : List ℕ) (names : List Bytes) (j : Job) (goal : Named) (functor first : ℕ) : Type 0 where
  pub held : HoldsJob s names j
  pub indexed : Indexed s (length j.clauses)
  pub known : KnownName names goal.name
  pub few : count goal.arguments ≤ 6
  pub functor_is : functor ≡ functor_word (places_from names 0) (named goal.name) (count goal.arguments)
  pub first_is : first ≡ get_or s (procedure_slot functor) 0
  pub reads : (i : ℕ) → 1 ≤ i → i ≤ tag_in functor → KindReads s (get_or s (followed_part + i) 0)
  pub tagged : (i : ℕ) → 1 ≤ i → i ≤ tag_in functor → tag_in (get_or s (followed_part + i) 0) ≢ 0
  pub numbered : EachFrom (λ k c. c.place ≡ k + 1) 0 j.clauses

-- What is to be tried for it.
pub record LeadsAre (s : List ℕ) (names : List Bytes) (j : Job) (goal : Named) (functor : ℕ) (l : Leads) : Type 0 where
  pub nearest : Nearest l
  pub left : LeftFor s names functor 0 (procedure j.clauses goal) l

-- Two chains in order, and the chains behind the next clause.
pub record InOrder (a link b other : ℕ) (l : Leads) : Type 0 where
  pub nearest : link < clause_stride → other < clause_stride → (a ≢ 0 → a ≢ b) → Nearest l
  pub are : ((link_to l.next ≡ a) × (l.link ≡ link) × (link_to l.other ≡ b) × (l.onward ≡ other))
      ⊎ ((link_to l.next ≡ b) × (l.link ≡ other) × (link_to l.other ≡ a) × (l.onward ≡ link))

-- What is left behind clause k, the next one.
abbrev pub FurtherIs : List ℕ → ℕ → Leads → Leads → Type 0
FurtherIs s k l r = InOrder (get_or s (clause_record k + l.link) 0) l.link (link_to l.other) l.onward r
