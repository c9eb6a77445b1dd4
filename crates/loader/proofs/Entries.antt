-- Entries one behind the other, and as they were where more names are known.
use Prim.Native.Nat.{ℕ, suc, ◌+◌}
use mathlib.Core.Path.{◌≡◌, refl, ap, ◌∙◌}
use mathlib.Core.List.{List, [], ◌∷◌, ◌++◌}
use native.Mathlib.Omega.{arith}
use lib.ListN.{length}
use Rattle.meaning.specs.Bytes.{Bytes}
use Rattle.meaning.specs.Terms.{Clause, Query, as_term}
use Rattle.meaning.specs.Items.{Refusal, Reading, job, refused, with_clause, with_query}
use Rattle.term.specs.Jobs.{GoalsKnown}
use Rattle.term.specs.Cells.{stored}
use Rattle.term.specs.Layout.{clause_base, query_base, query_goals_from, clause_goals_from, clause_tests_from}
use Rattle.load_names.specs.Places.{Place, spellings, item_places}
use Rattle.load_image.specs.Image.{Entry, a_clause, a_query, clauses_of, queries_of, clause_stored, query_stored, entries_stored, head_word, head_words}
use Rattle.loader.specs.Loading.{with_entries, EntriesKnown}
use Rattle.load_openings.proofs.Passing.{More}
use Rattle.load_goals.proofs.GoalLists.{still_known, still_goals, still_stored}
use Rattle.load_items.specs.Rules.{GuardsNamed}
use Rattle.load_items.proofs.Heads.{still_head}
use Rattle.load_items.proofs.MoreNames.{still_guards, still_named_guards}

pub with_snoc : (es : List Entry) (e : Entry) (r : Reading) → with_entries (es ++ (e ∷ [])) r ≡ with_entries es (with_entries (e ∷ []) r)
unfolding with_entries
with_snoc [] e r = refl
with_snoc (a_clause c ∷ es) e r = ap (with_clause c) (with_snoc es e r)
with_snoc (a_query q vs ∷ es) e r = ap (with_query q) (with_snoc es e r)

pub with_all : (es : List Entry) → with_entries es (job (record { clauses = []; queries = [] })) ≡ job (record { clauses = clauses_of es; queries = queries_of es })
unfolding with_entries clauses_of queries_of with_clause with_query
with_all [] = refl
with_all (a_clause c ∷ es) = rw (with_all es)
with_all (a_query q vs ∷ es) = rw (with_all es)

pub with_refused : (es : List Entry) (r : Refusal) → with_entries es (refused r) ≡ refused r
unfolding with_entries with_clause with_query
with_refused [] r = refl
with_refused (a_clause c ∷ es) r = rw (with_refused es r)
with_refused (a_query q vs ∷ es) r = rw (with_refused es r)

pub clauses_snoc : (es fs : List Entry) → clauses_of (es ++ fs) ≡ clauses_of es ++ clauses_of fs
unfolding clauses_of
clauses_snoc [] fs = refl
clauses_snoc (a_clause c ∷ es) fs = ap (λ l. c ∷ l) (clauses_snoc es fs)
clauses_snoc (a_query q vs ∷ es) fs = clauses_snoc es fs

pub queries_snoc : (es fs : List Entry) → queries_of (es ++ fs) ≡ queries_of es ++ queries_of fs
unfolding queries_of
queries_snoc [] fs = refl
queries_snoc (a_clause c ∷ es) fs = queries_snoc es fs
queries_snoc (a_query q vs ∷ es) fs = ap (λ l. q ∷ l) (queries_snoc es fs)

pub stored_snoc_clause : (names : List Place) (k q : ℕ) (es : List Entry) (c : Clause) (s : List ℕ)
    → entries_stored names k q (es ++ (a_clause c ∷ [])) s ≡ clause_stored names (k + length (clauses_of es)) c (entries_stored names k q es s)
unfolding entries_stored clauses_of
stored_snoc_clause names k q [] c s =
    let e : k ≡ k + 0 = omega arith in
    ap (λ n. clause_stored names n c s) e
stored_snoc_clause names k q (a_clause d ∷ es) c s =
    let e : k + 1 + length (clauses_of es) ≡ k + suc (length (clauses_of es)) = omega arith in
    stored_snoc_clause names (k + 1) q es c (clause_stored names k d s)
    ∙ ap (λ n. clause_stored names n c (entries_stored names (k + 1) q es (clause_stored names k d s))) e
stored_snoc_clause names k q (a_query g vs ∷ es) c s = stored_snoc_clause names k (q + 1) es c (query_stored names q g vs s)

pub stored_snoc_query : (names : List Place) (k q : ℕ) (es : List Entry) (g : Query) (vs : List Place) (s : List ℕ)
    → entries_stored names k q (es ++ (a_query g vs ∷ [])) s ≡ query_stored names (q + length (queries_of es)) g vs (entries_stored names k q es s)
unfolding entries_stored queries_of
stored_snoc_query names k q [] g vs s =
    let e : q ≡ q + 0 = omega arith in
    ap (λ n. query_stored names n g vs s) e
stored_snoc_query names k q (a_clause d ∷ es) g vs s = stored_snoc_query names (k + 1) q es g vs (clause_stored names k d s)
stored_snoc_query names k q (a_query h ws ∷ es) g vs s =
    let e : q + 1 + length (queries_of es) ≡ q + suc (length (queries_of es)) = omega arith in
    stored_snoc_query names k (q + 1) es g vs (query_stored names q h ws s)
    ∙ ap (λ n. query_stored names n g vs (entries_stored names k (q + 1) es (query_stored names q h ws s))) e

pub known_snoc_entries : (names : List Bytes) (es fs : List Entry) → EntriesKnown names es → EntriesKnown names fs → EntriesKnown names (es ++ fs)
unfolding EntriesKnown
known_snoc_entries names [] fs a b = b
known_snoc_entries names (a_clause c ∷ es) fs a b = (a.0, a.1, known_snoc_entries names es fs a.2 b)
known_snoc_entries names (a_query q vs ∷ es) fs a b = (a.0, known_snoc_entries names es fs a.1 b)

-- Where more names are known.
module _ (known known' : List Place) (m : More known known') where
  pub entries_still_known : (es : List Entry) → EntriesKnown (spellings known) es → EntriesKnown (spellings known') es
  unfolding EntriesKnown
  entries_still_known [] k = tt
  entries_still_known (a_clause c ∷ es) k =
      ((still_known known known' 0 m (c.head ∷ c.body) k.0.0, still_named_guards known known' 0 m c.guards k.0.1), k.1, entries_still_known es k.2)
  entries_still_known (a_query q vs ∷ es) k = (still_known known known' 0 m q.goals k.0, entries_still_known es k.1)

  clause_still : (k : ℕ) (c : Clause) (s : List ℕ) → GoalsKnown (spellings known) (c.head ∷ c.body) × GuardsNamed (spellings known) c.guards
      → clause_stored known' k c s ≡ clause_stored known k c s
  unfolding clause_stored GoalsKnown
  clause_still k c s h =
      rw (
        still_stored known known' (clause_base k) m c.head s h.0.0,
        still_guards known known' (clause_base k) m (clause_tests_from k) c.guards (stored (item_places known (clause_base k)) (as_term c.head) s) h.1,
        still_goals known known' (clause_base k) m (clause_goals_from k) c.body _ h.0.1,
      )

  query_still : (k : ℕ) (q : Query) (vs : List Place) (s : List ℕ) → GoalsKnown (spellings known) q.goals → query_stored known' k q vs s ≡ query_stored known k q vs s
  unfolding query_stored
  query_still k q vs s h = rw (still_goals known known' (query_base k) m (query_goals_from k) q.goals s h)

  pub entries_still : (k q : ℕ) (es : List Entry) (s : List ℕ) → EntriesKnown (spellings known) es → entries_stored known' k q es s ≡ entries_stored known k q es s
  unfolding entries_stored EntriesKnown
  entries_still k q [] s h = refl
  entries_still k q (a_clause c ∷ es) s h =
      rw (clause_still k c s h.0) (entries_still (k + 1) q es (clause_stored known k c s) h.2)
  entries_still k q (a_query g vs ∷ es) s h =
      rw (query_still q g vs s h.0) (entries_still k (q + 1) es (query_stored known q g vs s) h.1)

  pub heads_still : (es : List Entry) → EntriesKnown (spellings known) es → head_words known' (clauses_of es) ≡ head_words known (clauses_of es)
  unfolding head_words EntriesKnown clauses_of GoalsKnown
  heads_still [] h = refl
  heads_still (a_clause c ∷ es) h = rw (still_head known known' m c.head h.0.0.0) (ap (λ l. head_word known c.head ∷ l) (heads_still es h.2))
  heads_still (a_query g vs ∷ es) h = heads_still es h.1
