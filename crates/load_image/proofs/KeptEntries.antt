-- All items, stored in text order: each changes nothing of those before it, so that in the end the scratch holds them all.
use Prim.Native.Nat.{ℕ, ◌+◌, ◌≤◌, ◌<◌}
use mathlib.Core.Path.{◌≡◌, refl, ◌∙◌}
use mathlib.Core.List.{List, [], ◌∷◌}
use native.Mathlib.Omega.{arith}
use lib.ListN.{length, get_or}
use Rattle.meaning.specs.Bytes.{Bytes}
use Rattle.term.specs.Jobs.{ClauseLaid, QueryLaid, HoldsClause, HoldsQuery, EachFrom}
use Rattle.term.proofs.Regions.{OnlyTwo}
use Rattle.term.proofs.Jobs.{holds_clause_kept, holds_query_kept}
use Rattle.term.specs.Layout.{queries_region, items_region, query_items_region, compounds_region, item_start, item_end, clause_record, clause_base, query_record, query_base, query_end, clause_pairs_word, clause_end}
use Rattle.load_names.specs.Places.{Place, spellings}
use Rattle.load_image.specs.Image.{Entry, a_clause, a_query, clauses_of, queries_of, clause_stored, query_stored, entries_stored}
use Rattle.load_image.proofs.KeptItems.{clause_two, clause_holds, query_two, query_holds}

-- The entries keep the figures: "128 clauses; 1 to 8 queries", each item laid out, clauses counted from 1, and the variables of a query.
unfoldable pub EntriesLaid : List Bytes → ℕ → ℕ → List Entry → Type 0
EntriesLaid names k q [] = (k ≤ 128) × (q ≤ 8)
EntriesLaid names k q (a_clause c ∷ es) = (k < 128) × ClauseLaid names c × EntriesLaid names (k + 1) q es × (c.place ≡ k + 1)
EntriesLaid names k q (a_query g vs ∷ es) = (q < 8) × QueryLaid names g × (length vs ≤ 16) × EntriesLaid names k (q + 1) es

pub entries_few : (names : List Bytes) (k q : ℕ) (es : List Entry) → EntriesLaid names k q es → (k ≤ 128) × (q ≤ 8)
unfolding EntriesLaid
entries_few names k q [] l = l
entries_few names k q (a_clause c ∷ es) l = (omega (arith, l.0), (entries_few names (k + 1) q es l.2).1)
entries_few names k q (a_query g vs ∷ es) l = ((entries_few names k (q + 1) es l.3).0, omega (arith, l.0))

-- Nothing before the clause k and the query q has changed: names and procedures, the records and the compounds.
pub record Earlier (k q : ℕ) (s s' : List ℕ) : Type 0 where
  pub size : length s' ≡ length s
  pub clause_words : (w : ℕ) → w < clause_record k → get_or s' w 0 ≡ get_or s w 0
  pub query_words : (w : ℕ) → queries_region ≤ w → w < query_record q → get_or s' w 0 ≡ get_or s w 0
  pub clause_cells : (w : ℕ) → items_region ≤ w → w < item_start (clause_base k) → get_or s' w 0 ≡ get_or s w 0
  pub query_cells : (w : ℕ) → query_items_region ≤ w → w < item_start (query_base q) → get_or s' w 0 ≡ get_or s w 0

earlier_same : (k q : ℕ) (s : List ℕ) → Earlier k q s s
earlier_same k q s = record {
  size = refl;
  clause_words = λ w h. refl;
  query_words = λ w l h. refl;
  clause_cells = λ w l h. refl;
  query_cells = λ w l h. refl;
}

earlier_then : (k q k' q' : ℕ) (s t u : List ℕ) → k ≤ k' → q ≤ q' → Earlier k q s t → Earlier k' q' t u → Earlier k q s u
earlier_then k q k' q' s t u h i a b = record {
  size = b.size ∙ a.size;
  clause_words = λ w m. b.clause_words w (omega arith) ∙ a.clause_words w m;
  query_words = λ w l m. b.query_words w l (omega arith) ∙ a.query_words w l m;
  clause_cells = λ w l m. b.clause_cells w l (omega arith) ∙ a.clause_cells w l m;
  query_cells = λ w l m. b.query_cells w l (omega arith) ∙ a.query_cells w l m;
}

clause_earlier : (k q : ℕ) (s s' : List ℕ) → k < 128 → q ≤ 8
    → OnlyTwo (clause_pairs_word k) (clause_end k) (item_start (clause_base k)) (item_end (clause_base k)) s s' → Earlier k q s s'
clause_earlier k q s s' h i two = record {
  size = two.size;
  clause_words = λ w m. two.below w (omega arith);
  query_words = λ w l m. two.between w (omega arith) (omega arith);
  clause_cells = λ w l m. two.between w (omega arith) m;
  query_cells = λ w l m. two.above w (omega arith);
}

query_earlier : (k q : ℕ) (s s' : List ℕ) → k ≤ 128 → q < 8
    → OnlyTwo (query_record q) (query_end q) (item_start (query_base q)) (item_end (query_base q)) s s' → Earlier k q s s'
query_earlier k q s s' h i two = record {
  size = two.size;
  clause_words = λ w m. two.below w (omega arith);
  query_words = λ w l m. two.below w m;
  clause_cells = λ w l m. two.between w (omega arith) (omega arith);
  query_cells = λ w l m. two.between w (omega arith) m;
}

module _ (names : List Place) where
  pub entries_earlier : (k q : ℕ) (es : List Entry) (s : List ℕ) → EntriesLaid (spellings names) k q es
      → Earlier k q s (entries_stored names k q es s)
  unfolding EntriesLaid entries_stored
  entries_earlier k q [] s l = earlier_same k q s
  entries_earlier k q (a_clause c ∷ es) s l =
      let s₁ = clause_stored names k c s in
      earlier_then k q (k + 1) q s s₁ (entries_stored names (k + 1) q es s₁) (omega arith) (omega arith)
      (clause_earlier k q s s₁ l.0 (entries_few (spellings names) (k + 1) q es l.2).1 (clause_two names k l.0 c l.1 s))
      (entries_earlier (k + 1) q es s₁ l.2)
  entries_earlier k q (a_query g vs ∷ es) s l =
      let s₁ = query_stored names q g vs s in
      earlier_then k q k (q + 1) s s₁ (entries_stored names k (q + 1) es s₁) (omega arith) (omega arith)
      (query_earlier k q s s₁ (entries_few (spellings names) k (q + 1) es l.3).0 l.0 (query_two names q l.0 g l.1 vs l.2 s))
      (entries_earlier k (q + 1) es s₁ l.3)

  pub entries_clauses : (k q : ℕ) (es : List Entry) (s : List ℕ) → EntriesLaid (spellings names) k q es → compounds_region ≤ length s
      → EachFrom (HoldsClause (entries_stored names k q es s) (spellings names)) k (clauses_of es)
  unfolding EntriesLaid entries_stored clauses_of EachFrom
  entries_clauses k q [] s l inside = tt
  entries_clauses k q (a_clause c ∷ es) s l inside =
      let s₁ = clause_stored names k c s in
      let s₂ = entries_stored names (k + 1) q es s₁ in
      let two = clause_two names k l.0 c l.1 s in
      let later = entries_earlier (k + 1) q es s₁ l.2 in (
        holds_clause_kept s₁ s₂ (spellings names) k (omega (arith, later.size)) c
            (λ i h m. later.clause_words (clause_record k + i) (omega arith))
            (λ i h m. later.clause_cells i (omega arith) (omega arith))
            (clause_holds names k l.0 c l.1 s inside),
        entries_clauses (k + 1) q es s₁ l.2 (omega (arith, two.size)),
      )
  entries_clauses k q (a_query g vs ∷ es) s l inside =
      let two = query_two names q l.0 g l.1 vs l.2 s in
      entries_clauses k (q + 1) es (query_stored names q g vs s) l.3 (omega (arith, two.size))

  pub entries_queries : (k q : ℕ) (es : List Entry) (s : List ℕ) → EntriesLaid (spellings names) k q es → compounds_region ≤ length s
      → EachFrom (HoldsQuery (entries_stored names k q es s) (spellings names)) q (queries_of es)
  unfolding EntriesLaid entries_stored queries_of EachFrom
  entries_queries k q [] s l inside = tt
  entries_queries k q (a_query g vs ∷ es) s l inside =
      let s₁ = query_stored names q g vs s in
      let s₂ = entries_stored names k (q + 1) es s₁ in
      let two = query_two names q l.0 g l.1 vs l.2 s in
      let later = entries_earlier k (q + 1) es s₁ l.3 in (
        holds_query_kept s₁ s₂ (spellings names) q (omega (arith, later.size)) g
            (λ i m x y. later.query_words (query_record q + i) (omega arith) (omega arith))
            (λ i h m. later.query_cells i (omega arith) (omega arith))
            (query_holds names q l.0 g l.1 vs l.2 s inside),
        entries_queries k (q + 1) es s₁ l.3 (omega (arith, two.size)),
      )
  entries_queries k q (a_clause c ∷ es) s l inside =
      let two = clause_two names k l.0 c l.1 s in
      entries_queries (k + 1) q es (clause_stored names k c s) l.2 (omega (arith, two.size))
