-- The report as it is written from left to right: of a section only the pairs that were seen so far have numbers, and each term adds its own.
use Rattle.std.specs.Prelude.{ℕ, suc, ◌+◌, List, [], ◌∷◌, ◌++◌, map, length}
use Rattle.meaning.specs.Bytes.{Bytes, bytes, each_once}
use Rattle.meaning.specs.Terms.{writer, Term, Terms, variable, constant, compound, end, more, pairs_of, pairs_of_all, as_term, Query}
use Rattle.meaning.specs.State.{Values, Goal, Part}
use Rattle.meaning.specs.Report.{applied, Role, alone, written, Line, origin_bytes}

-- "Values are written out with every assignment applied": a term, and each of its arguments.
unfoldable pub full : Values → Term → Term
full values t = applied (length values) values t

unfoldable pub all_full : Values → Terms → Terms
all_full values end = end
all_full values (more t ts) = more (full values t) (all_full values ts)

-- The section's unassigned pairs so far, in order of first appearance, after a term, arguments, lines.
unfoldable pub seen_after : List ℕ → Term → List ℕ
seen_after seen t = seen ++ each_once seen (pairs_of t [])

unfoldable pub seen_after_all : List ℕ → Terms → List ℕ
seen_after_all seen ts = seen ++ each_once seen (pairs_of_all ts [])

unfoldable pub seen_after_lines : List ℕ → List Line → List ℕ
seen_after_lines seen [] = seen
seen_after_lines seen (l ∷ ls) = seen_after_lines (seen_after seen l.shown) ls

-- A term written where some pairs were seen; arguments, the first or those behind it; lines.
unfoldable pub shown : List ℕ → Role → Term → Bytes
shown seen standing t = written (seen_after seen t) standing t

unfoldable pub shown_others : List ℕ → Terms → Bytes
shown_others seen end = []
shown_others seen (more t ts) = bytes "," ++ (shown seen alone t ++ shown_others (seen_after seen t) ts)

unfoldable pub shown_arguments : List ℕ → Terms → Bytes
shown_arguments seen end = []
shown_arguments seen (more t ts) = shown seen alone t ++ shown_others (seen_after seen t) ts

unfoldable pub shown_line : List ℕ → Line → Bytes
shown_line seen l = l.words ++ (shown seen alone l.shown ++ (l.ending ++ bytes "\n"))

unfoldable pub shown_lines : List ℕ → List Line → Bytes
shown_lines seen [] = []
shown_lines seen (l ∷ ls) = shown_line seen l ++ shown_lines (seen_after seen l.shown) ls

-- The `NAME = value` lines of a query's pairs from the p-th on: their bytes, and what was seen after them.
unfoldable pub shown_values : Values → List ℕ → ℕ → List Bytes → Bytes
shown_values values seen p [] = []
shown_values values seen p (x ∷ xs) =
    (x ++ bytes " = ") ++ (shown seen alone (full values (variable writer p)) ++ bytes "\n")
    ++ shown_values values (seen_after seen (full values (variable writer p))) (suc p) xs

unfoldable pub seen_after_values : Values → List ℕ → ℕ → List Bytes → List ℕ
seen_after_values values seen p [] = seen
seen_after_values values seen p (x ∷ xs) = seen_after_values values (seen_after seen (full values (variable writer p))) (suc p) xs

-- The lines of some goals, each behind a word and with its origin behind it: their bytes, and what was seen after them.
unfoldable pub shown_goals : Values → List ℕ → Bytes → List Goal → Bytes
shown_goals values seen word [] = []
shown_goals values seen word (g ∷ gs) =
    word ++ (shown seen alone (full values (as_term g.goal)) ++ (origin_bytes g.origin ++ bytes "\n"))
    ++ shown_goals values (seen_after seen (full values (as_term g.goal))) word gs

unfoldable pub seen_after_goals : Values → List ℕ → List Goal → List ℕ
seen_after_goals values seen [] = seen
seen_after_goals values seen (g ∷ gs) = seen_after_goals values (seen_after seen (full values (as_term g.goal))) gs

-- A section behind its header: the values, the active goals, the waiting ones, the failed ones.
unfoldable pub shown_groups : Query → Part → Bytes
shown_groups query part =
    let values = part.unit.values in
    let active = part.goals.queue in
    let waiting = map (λ w. w.goal) part.goals.waiting in
    let seen₁ = seen_after_values values [] 0 query.variables in
    let seen₂ = seen_after_goals values seen₁ active in
    let seen₃ = seen_after_goals values seen₂ waiting in
    shown_values values [] 0 query.variables
    ++ (shown_goals values seen₁ (bytes "active ") active
    ++ (shown_goals values seen₂ (bytes "waiting ") waiting ++ shown_goals values seen₃ (bytes "failed ") part.goals.failed))

-- What was seen after the lines of a section.
unfoldable pub lines_seen : Values → List Bytes → List Goal → List Goal → List Goal → List ℕ
lines_seen values xs actives ws fs =
    seen_after_goals values (seen_after_goals values (seen_after_goals values (seen_after_values values [] 0 xs) actives) ws) fs

-- The same lines written in the section's whole order: the values from the p-th on, and some goals behind a word.
unfoldable pub written_values : Values → List ℕ → ℕ → List Bytes → Bytes
written_values values order p [] = []
written_values values order p (x ∷ xs) =
    (x ++ bytes " = ") ++ (written order alone (full values (variable writer p)) ++ bytes "\n") ++ written_values values order (suc p) xs

unfoldable pub written_goals : Values → List ℕ → Bytes → List Goal → Bytes
written_goals values order word [] = []
written_goals values order word (g ∷ gs) =
    word ++ (written order alone (full values (as_term g.goal)) ++ (origin_bytes g.origin ++ bytes "\n")) ++ written_goals values order word gs

-- How many terms a term is made of.
unfoldable mutual
  pub nodes : Term → ℕ
  nodes (variable h p) = 1
  nodes (constant k) = 1
  nodes (compound n f ts) = suc (all_nodes ts)

  pub all_nodes : Terms → ℕ
  all_nodes end = 0
  all_nodes (more t ts) = nodes t + all_nodes ts
