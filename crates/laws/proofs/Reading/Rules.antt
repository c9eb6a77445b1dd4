-- What an accepted item keeps: its variables are numbered below its number of pairs, and the occurrence rules hold of it.
-- Stated for every number n, also where the item has no pair n, so that a proof need not ask. The tests say the same of the terms read.
use Prim.Native.Nat.{ℕ, ◌≤◌, min}
use mathlib.Core.Path.{◌≡◌}
use mathlib.Core.Bool.{Bool, false, ◌&&◌, ◌||◌}
use mathlib.Core.Logic.{◌↔◌}
use mathlib.Core.List.{List, [], ◌∷◌}
use lib.Dec.{leb, eqb}
use lib.ListN.{length}
use Rattle.meaning.specs.Bytes.{all, up_to}
use Rattle.meaning.specs.Terms.{Half, writer, reader, Named, Clause, Query, Job, count, all_occurrences, goals_occurrences}
use Rattle.meaning.specs.Table.{guard_table, licensed}
use Rattle.laws.proofs.Lists.{Each, In}

-- "No writer and no reader occurs twice" among these compounds, for each of so many pairs.
unfoldable pub nothing_twice : ℕ → List Named → Bool
nothing_twice pairs gs =
    all (λ n. leb (goals_occurrences writer n gs) 1 && leb (goals_occurrences reader n gs) 1) (up_to pairs)

-- A reader that is free "may stand several times in that clause's body, and once in its head as well".
unfoldable pub nothing_twice_but : (ℕ → Bool) → ℕ → Named → List Named → Bool
nothing_twice_but free pairs head gs =
    nothing_twice pairs (head ∷ [])
    && all (λ n. leb (goals_occurrences writer n (head ∷ gs)) 1 && (free n || leb (goals_occurrences reader n (head ∷ gs)) 1)) (up_to pairs)

-- "A writer occurs exactly if its reader does."
unfoldable pub both_halves : ℕ → List Named → Bool
both_halves pairs gs = all (λ n. eqb (min 1 (goals_occurrences writer n gs)) (min 1 (goals_occurrences reader n gs))) (up_to pairs)

-- "In a clause no writer and no reader occurs twice", but for the readers that a guard licenses, which stand once in the head;
-- "and a writer occurs exactly if its reader does". A guard is in the table, and its variables are readers of writers in the head.
pub record ClauseOk (c : Clause) : Type 0 where
  pub below : (h : Half) (n : ℕ) → c.pairs ≤ n → goals_occurrences h n (c.head ∷ c.body) ≡ 0
  pub writers_once : (n : ℕ) → goals_occurrences writer n (c.head ∷ c.body) ≤ 1
  pub readers_once : (n : ℕ) → licensed c.guards n ≡ false → goals_occurrences reader n (c.head ∷ c.body) ≤ 1
  pub head_once : (h : Half) (n : ℕ) → all_occurrences h n c.head.arguments ≤ 1
  pub halves : (n : ℕ) → (1 ≤ goals_occurrences writer n (c.head ∷ c.body)) ↔ (1 ≤ goals_occurrences reader n (c.head ∷ c.body))
  pub guards_in_table : Each (λ g. In g.row guard_table × (count g.arguments ≡ g.row.count)) c.guards
  pub guards_readers : Each (λ g. (h : Half) (n : ℕ) → 1 ≤ all_occurrences h n g.arguments → (h ≡ reader) × (1 ≤ all_occurrences writer n c.head.arguments)) c.guards

-- "In a query nothing occurs twice; either half may be missing."
pub record QueryOk (q : Query) : Type 0 where
  pub below : (h : Half) (n : ℕ) → length q.variables ≤ n → goals_occurrences h n q.goals ≡ 0
  pub once : (h : Half) (n : ℕ) → goals_occurrences h n q.goals ≤ 1

-- Every clause and every query of a job is such.
pub record JobOk (j : Job) : Type 0 where
  pub clauses_ok : Each ClauseOk j.clauses
  pub queries_ok : Each QueryOk j.queries
