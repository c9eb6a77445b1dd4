-- The scratch that a loaded text leaves holds the text's job: its items stored, its clauses linked, its names kept, each in its own region.
use Prim.Native.Nat.{ℕ, ◌+◌, ◌≤◌, ◌<◌}
use mathlib.Core.Path.{◌≡◌, ◌∙◌}
use mathlib.Core.List.{List, [], ◌∷◌}
use native.Mathlib.Omega.{arith}
use lib.ListN.{length, get_or}
use Rattle.meaning.specs.Bytes.{Bytes}
use Rattle.meaning.specs.Terms.{Named, Clause, Query, Job, count}
use Rattle.meaning.specs.Trial.{procedure}
use Rattle.term.specs.Cells.{KnownName}
use Rattle.term.specs.Frames.{Only}
use Rattle.term.specs.Jobs.{HoldsClause, HoldsQuery, EachFrom, Linked, procedure_place, Distinct, ClauseAt, HoldsJob}
use Rattle.term.proofs.Jobs.{each_map, linked_map, holds_clause_kept, holds_query_kept}
use Rattle.term.specs.Layout.{clauses_region, compounds_region, clause_record, query_record}
use Rattle.load_names.specs.Places.{Place, spellings}
use Rattle.load_image.specs.Image.{
  Entry,
  a_clause,
  a_query,
  clauses_of,
  queries_of,
  entries_stored,
  places_stored,
  head_words,
  linked,
  text_names,
  text_entries,
  image,
}
use Rattle.load_names.proofs.Numbering.{spellings_length}
use Rattle.load_image.proofs.Keeping.{places_only}
use Rattle.load_image.proofs.KeptEntries.{EntriesLaid, Earlier, entries_earlier, entries_clauses, entries_queries}
use Rattle.load_image.proofs.Procedures.{Headed, clause_headed, place_low, LinkKept, linked_kept, linked_leads}

-- What the figures say of the clauses and queries among the entries.
pub entries_clauses_few : (names : List Bytes) (k q : ℕ) (es : List Entry) → EntriesLaid names k q es → k + length (clauses_of es) ≤ 128
unfolding EntriesLaid clauses_of
entries_clauses_few names k q [] l = omega (arith, l.0)
entries_clauses_few names k q (a_clause c ∷ es) l = omega (arith, entries_clauses_few names (k + 1) q es l.2)
entries_clauses_few names k q (a_query g vs ∷ es) l = entries_clauses_few names k (q + 1) es l.3

pub entries_queries_few : (names : List Bytes) (k q : ℕ) (es : List Entry) → EntriesLaid names k q es → q + length (queries_of es) ≤ 8
unfolding EntriesLaid queries_of
entries_queries_few names k q [] l = omega (arith, l.1)
entries_queries_few names k q (a_clause c ∷ es) l = entries_queries_few names (k + 1) q es l.2
entries_queries_few names k q (a_query g vs ∷ es) l = omega (arith, entries_queries_few names k (q + 1) es l.3)

pub entries_headed : (names : List Bytes) (k q : ℕ) (es : List Entry) → EntriesLaid names k q es
    → EachFrom (λ i c. Headed names c.head) k (clauses_of es)
unfolding EntriesLaid clauses_of EachFrom
entries_headed names k q [] l = tt
entries_headed names k q (a_clause c ∷ es) l = (clause_headed names c l.1, entries_headed names (k + 1) q es l.2)
entries_headed names k q (a_query g vs ∷ es) l = entries_headed names k (q + 1) es l.3

entries_counted : (names : List Bytes) (k q : ℕ) (es : List Entry) → EntriesLaid names k q es → EachFrom (λ i c. c.place ≡ i + 1) k (clauses_of es)
unfolding EntriesLaid clauses_of EachFrom
entries_counted names k q [] l = tt
entries_counted names k q (a_clause c ∷ es) l = (l.3, entries_counted names (k + 1) q es l.2)
entries_counted names k q (a_query g vs ∷ es) l = entries_counted names k (q + 1) es l.3

each_both : {A : Type 0} (P Q : ℕ → A → Type 0) (k : ℕ) (l : List A) → EachFrom P k l → EachFrom Q k l → EachFrom (λ i a. P i a × Q i a) k l
unfolding EachFrom
each_both P Q k [] p q = tt
each_both P Q k (a ∷ l) p q = ((p.0, q.0), each_both P Q (k + 1) l p.1 q.1)

-- The job of some entries.
unfoldable pub job_of : List Entry → Job
job_of es = record { clauses = clauses_of es; queries = queries_of es }

module _ (names : List Place) (es : List Entry) (s : List ℕ) (few_names : length (spellings names) ≤ 256)
    (laid : EntriesLaid (spellings names) 0 0 es) (inside : compounds_region ≤ length s) (zeros : (w : ℕ) → 512 ≤ w → w < clauses_region → get_or s w 0 ≡ 0) where
  items_in : List ℕ
  items_in = entries_stored names 0 0 es s

  links_in : List ℕ
  links_in = linked 0 (head_words names (clauses_of es)) items_in

  names_too : List ℕ
  names_too = places_stored 0 names links_in

  earlier : Earlier 0 0 s items_in
  unfolding items_in
  earlier = entries_earlier names 0 0 es s laid

  inside_items : compounds_region ≤ length items_in
  inside_items = omega (arith, earlier.size)

  few_clauses : 0 + length (clauses_of es) ≤ 128
  few_clauses = entries_clauses_few (spellings names) 0 0 es laid

  links : LinkKept items_in links_in
  unfolding links_in
  links = linked_kept names few_names 0 (clauses_of es) items_in few_clauses inside_items (entries_headed (spellings names) 0 0 es laid)

  last : Only 0 512 links_in names_too
  unfolding names_too
  last =
      let only = places_only 0 names links_in in
      let few : length names ≤ 256 = omega (arith, spellings_length names) in
      record { size = only.size; below = λ k h. absurd (omega arith); above = λ k h. only.above k (omega arith) }

  size_names : length items_in ≤ length names_too
  size_names = omega (arith, links.size, last.size)

  clause_in : (k : ℕ) (c : Clause) → HoldsClause items_in (spellings names) k c → HoldsClause names_too (spellings names) k c
  clause_in k c h =
      holds_clause_kept items_in names_too (spellings names) k size_names c
      (λ i l m. last.above (clause_record k + i) (omega arith) ∙ links.records k i l (omega arith))
      (λ i l m. last.above i (omega arith) ∙ links.behind i (omega arith)) h

  query_in : (k : ℕ) (q : Query) → HoldsQuery items_in (spellings names) k q → HoldsQuery names_too (spellings names) k q
  query_in k q h =
      holds_query_kept items_in names_too (spellings names) k size_names q
      (λ i m x y. last.above (query_record k + i) (omega arith) ∙ links.behind (query_record k + i) (omega arith))
      (λ i l m. last.above i (omega arith) ∙ links.behind i (omega arith)) h

  clauses_in : EachFrom (HoldsClause items_in (spellings names)) 0 (clauses_of es)
  unfolding items_in
  clauses_in = entries_clauses names 0 0 es s laid inside

  queries_in : EachFrom (HoldsQuery items_in (spellings names)) 0 (queries_of es)
  unfolding items_in
  queries_in = entries_queries names 0 0 es s laid inside

  procedure_in : (goal : Named) → KnownName (spellings names) goal.name → count goal.arguments ≤ 6
      → Linked names_too (ClauseAt names_too (spellings names)) (get_or names_too (procedure_place (spellings names) goal) 0) (procedure (clauses_of es) goal)
  unfolding links_in
  procedure_in goal known few =
      let p = procedure_place (spellings names) goal in
      let g : Headed (spellings names) goal = record { known = known; few = few } in
      let Nth : ℕ → Clause → Type 0 = λ i c. c.place ≡ i + 1 in
      let At : ℕ → Clause → Type 0 = λ i c. HoldsClause items_in (spellings names) i c × Nth i c in
      let low : 512 ≤ p = place_low (spellings names) goal g few_names in
      rw (last.above p low)
      (linked_map links_in names_too (λ i c. (0 ≤ i) × (i < 128) × At i c) (ClauseAt names_too (spellings names))
      (get_or links_in p 0) (procedure (clauses_of es) goal)
      (λ i c h. (record { number = h.1; nth = h.2.1; held = clause_in i c h.2.0 }, last.above (clause_record i) (omega arith)))
      (linked_leads names few_names At goal g 0 (clauses_of es) items_in few_clauses inside_items
      (λ w l h. earlier.clause_words w h ∙ zeros w l h)
      (entries_headed (spellings names) 0 0 es laid)
      (each_both (HoldsClause items_in (spellings names)) Nth 0 (clauses_of es) clauses_in (entries_counted (spellings names) 0 0 es laid))))

  pub stored_job : Distinct (spellings names)
      → HoldsJob (places_stored 0 names (linked 0 (head_words names (clauses_of es)) (entries_stored names 0 0 es s))) (spellings names) (job_of es)
  unfolding job_of names_too links_in items_in
  stored_job distinct = record {
    inside = omega (arith, inside_items, size_names);
    few_names = few_names;
    distinct = distinct;
    few_clauses = omega (arith, few_clauses);
    few_queries = omega (arith, entries_queries_few (spellings names) 0 0 es laid);
    clauses = each_map (HoldsClause items_in (spellings names)) (HoldsClause names_too (spellings names)) 0 (clauses_of es)
        (λ k c l m. clause_in k c) clauses_in;
    procedures = procedure_in;
    queries = each_map (HoldsQuery items_in (spellings names)) (HoldsQuery names_too (spellings names)) 0 (queries_of es)
        (λ k q l m. query_in k q) queries_in;
  }

-- A text whose entries are laid out, and are the job's.
pub record LaidOut (text : Bytes) (j : Job) : Type 0 where
  pub few_names : length (spellings (text_names text)) ≤ 256
  pub distinct : Distinct (spellings (text_names text))
  pub entries : EntriesLaid (spellings (text_names text)) 0 0 (text_entries text)
  pub job : job_of (text_entries text) ≡ j

pub image_holds_laid_out : (text : Bytes) (j : Job) (s : List ℕ) → LaidOut text j → compounds_region ≤ length s
    → ((w : ℕ) → 512 ≤ w → w < clauses_region → get_or s w 0 ≡ 0) → HoldsJob (image text s) (spellings (text_names text)) j
unfolding image
image_holds_laid_out text j s l inside zeros =
    rw l.job at (stored_job (text_names text) (text_entries text) s l.few_names l.entries inside zeros l.distinct)
