-- The scratch that a loaded text leaves holds the spellings of its names and of its queries' variables, by where they first stand.
use Prim.Native.Nat.{ℕ, ◌+◌, ◌*◌, ◌≤◌, ◌<◌}
use mathlib.Core.Path.{◌≡◌, ap, sym, ◌∙◌}
use mathlib.Core.List.{List, [], ◌∷◌}
use native.Mathlib.Omega.{arith}
use lib.ListN.{length, get_or, set, length-set}
use lib.Seq.{get_or-set_same, get_or-set_other}
use Rattle.meaning.specs.Bytes.{Bytes}
use Rattle.meaning.specs.Terms.{Query, Job}
use Rattle.meaning.specs.Tokens.{Tokens, tokens}
use Rattle.meaning.specs.Items.{Piece, nothing, clause, query, refused, item, pieces, reading, job}
use Rattle.term.specs.Frames.{Only}
use Rattle.term.specs.Jobs.{EachFrom}
use Rattle.term.specs.Spellings.{HoldsSpellings, HoldsVariables, HoldsText}
use Rattle.term.proofs.Jobs.{each_map}
use Rattle.term.proofs.Spellings.{holds_spellings_kept}
use Rattle.term.specs.Layout.{compounds_region, query_record, query_base, query_variables_from, query_end}
use Rattle.load_names.specs.Places.{Place, spellings, item_places}
use Rattle.load_image.specs.Image.{
  Entry,
  a_clause,
  a_query,
  so_far,
  entries,
  clauses_of,
  queries_of,
  names_in,
  variables_in,
  goals_stored,
  places_stored,
  clause_stored,
  query_stored,
  entries_stored,
  head_words,
  linked,
  text_names,
  text_entries,
  image,
}
use Rattle.load_names.proofs.Numbering.{spellings_length}
use Rattle.load_image.proofs.Keeping.{places_only}
use Rattle.load_image.proofs.KeptItems.{clause_two, query_two}
use Rattle.load_image.proofs.KeptEntries.{EntriesLaid, entries_earlier}
use Rattle.load_image.proofs.Procedures.{LinkKept, linked_kept}
use Rattle.load_image.proofs.LaidItems.{PieceIs, item_is}
use Rattle.load_image.proofs.AcceptedEntries.{first_variables, EachCut, pieces_cut}
use Rattle.load_image.proofs.ImageHolds.{job_of, entries_clauses_few, entries_headed}
use Rattle.load_image.proofs.Loaded.{accepted_laid_out}
use Rattle.load_image.proofs.TokensSpelled.{
  AllPlaced,
  EachSpelled,
  names_in_placed,
  variables_in_placed,
  pieces_spelled,
  tokens_spelled,
}

-- Places stored are spellings held.
pub places_held : (text : Bytes) (place : ℕ) (ps : List Place) (s : List ℕ) → place + 2 * length ps ≤ length s → AllPlaced text ps
    → HoldsSpellings (places_stored place ps s) text place (spellings ps)
unfolding places_stored AllPlaced spellings HoldsSpellings
places_held text place [] s room h = tt
places_held text place (p ∷ ps) s room h =
    let s₁ = set s place p.at in
    let s₂ = set s₁ (place + 1) (length p.spelling) in
    let s₃ = places_stored (place + 2) ps s₂ in
    let size₁ : length s₁ ≡ length s = length-set s place p.at in
    let size₂ : length s₂ ≡ length s₁ = length-set s₁ (place + 1) (length p.spelling) in
    let rest = places_only (place + 2) ps s₂ in
    let first : get_or s₃ place 0 ≡ p.at = rest.below place (omega arith)
    ∙ (get_or-set_other s₁ (place + 1) place (length p.spelling) 0 (λ e. omega arith) ∙ get_or-set_same s place p.at 0 (omega arith)) in
    let second : get_or s₃ (place + 1) 0 ≡ length p.spelling = rest.below (place + 1) (omega arith)
    ∙ get_or-set_same s₁ (place + 1) (length p.spelling) 0 (omega arith) in
    (rw (first, second) h.0, places_held text (place + 2) ps s₂ (omega arith) h.1)

-- The variables of each query among the entries, by their places.
unfoldable pub EntriesPlaced : Bytes → List Entry → Type 0
EntriesPlaced text [] = Unit {0}
EntriesPlaced text (a_clause c ∷ es) = EntriesPlaced text es
EntriesPlaced text (a_query g vs ∷ es) = (spellings vs ≡ g.variables) × AllPlaced text vs × EntriesPlaced text es

module _ (text : Bytes) (p : Tokens) (ps : List Tokens) (known : List Place) (k q : ℕ)
    (behind : (known : List Place) (k q : ℕ) → EntriesPlaced text (entries known k q ps)) (placed : AllPlaced text (variables_in p [])) where
  piece_placed : (x : Piece) → PieceIs p (spellings known) k q x
      → EntriesPlaced text
      (elim x [
        | nothing ↦ entries known k q ps
        | clause c names ↦ a_clause c ∷ entries (names_in p known) (k + 1) q ps
        | query g names ↦ a_query g (variables_in p []) ∷ entries (names_in p known) k (q + 1) ps
        | refused r ↦ []
      ])
  unfolding PieceIs EntriesPlaced
  piece_placed nothing h = behind known k q
  piece_placed (clause c names) h = behind (names_in p known) (k + 1) q
  piece_placed (query g names) h = (first_variables p ∙ sym h.variables_are, placed, behind (names_in p known) k (q + 1))
  piece_placed (refused r) h = tt

entries_placed : (text : Bytes) (known : List Place) (k q : ℕ) (ps : List Tokens) → EachCut ps → EachSpelled text ps
    → EntriesPlaced text (entries known k q ps)
unfolding EachCut EachSpelled entries so_far EntriesPlaced AllPlaced
entries_placed text known k q [] cut s = tt
entries_placed text known k q (p ∷ ps) cut s =
    piece_placed text p ps known k q (λ known' k' q'. entries_placed text known' k' q' ps cut.1 s.1) (variables_in_placed text p [] s.0 tt)
    (item (so_far known k q) p) (item_is (spellings known) k q p cut.0)

-- A query's record, and those of all entries.
module _ (text : Bytes) (names : List Place) where
  query_variables : (k : ℕ) (g : Query) (vs : List Place) (s : List ℕ) → k < 8 → length vs ≤ 16
      → query_end k ≤ length (query_stored names k g vs s)
      → spellings vs ≡ g.variables → AllPlaced text vs → HoldsVariables (query_stored names k g vs s) text k g
  unfolding query_stored
  query_variables k g vs s few places room e h =
      let r = query_record k in
      let s₁ = goals_stored (item_places names (query_base k)) (r + 8) g.goals s in
      let s₂ = set (set (set s₁ r (length g.goals)) (r + 1) (length g.variables)) (r + 2) g.compounds in
      record {
        few = omega (arith, ap length e, spellings_length vs);
        held = rw e at (places_held text (r + 16) vs s₂ (omega (arith, (places_only (r + 16) vs s₂).size)) h);
      }

  entries_variables : (k q : ℕ) (es : List Entry) (s : List ℕ) → EntriesLaid (spellings names) k q es → EntriesPlaced text es → compounds_region ≤ length s
      → EachFrom (HoldsVariables (entries_stored names k q es s) text) q (queries_of es)
  unfolding EntriesLaid EntriesPlaced entries_stored queries_of EachFrom
  entries_variables k q [] s l p inside = tt
  entries_variables k q (a_query g vs ∷ es) s l p inside =
      let s₁ = query_stored names q g vs s in
      let s₂ = entries_stored names k (q + 1) es s₁ in
      let two = query_two names q l.0 g l.1 vs l.2 s in
      let later = entries_earlier names k (q + 1) es s₁ l.3 in
      let few : q < 8 = l.0 in
      let here = query_variables q g vs s l.0 l.2 (omega (arith, two.size)) p.0 p.1 in
      let few_variables : length g.variables ≤ 16 = here.few in (
        record {
          few = here.few;
          held = holds_spellings_kept s₁ s₂ text (query_variables_from q) g.variables (λ w a b. later.query_words w (omega arith) (omega arith)) here.held;
        },
        entries_variables k (q + 1) es s₁ l.3 p.2 (omega (arith, two.size)),
      )
  entries_variables k q (a_clause c ∷ es) s l p inside =
      let two = clause_two names k l.0 c l.1 s in
      entries_variables (k + 1) q es (clause_stored names k c s) l.2 p (omega (arith, two.size))

-- All of it.
module _ (text : Bytes) (names : List Place) (es : List Entry) (s : List ℕ) (few_names : length (spellings names) ≤ 256)
    (laid : EntriesLaid (spellings names) 0 0 es) (inside : compounds_region ≤ length s) where
  stored_text : AllPlaced text names → EntriesPlaced text es
      → HoldsText (places_stored 0 names (linked 0 (head_words names (clauses_of es)) (entries_stored names 0 0 es s))) text (spellings names) (job_of es)
  unfolding job_of
  stored_text placed others =
      let s₁ = entries_stored names 0 0 es s in
      let s₂ = linked 0 (head_words names (clauses_of es)) s₁ in
      let s₃ = places_stored 0 names s₂ in
      let earlier = entries_earlier names 0 0 es s laid in
      let inside₁ : compounds_region ≤ length s₁ = omega (arith, earlier.size) in
      let links : LinkKept s₁ s₂ = linked_kept names few_names 0 (clauses_of es) s₁ (entries_clauses_few (spellings names) 0 0 es laid) inside₁
      (entries_headed (spellings names) 0 0 es laid) in
      let last : Only 0 (0 + 2 * length names) s₂ s₃ = places_only 0 names s₂ in
      let few : length names ≤ 256 = omega (arith, spellings_length names) in
      record {
        names_held = places_held text 0 names s₂ (omega (arith, links.size)) placed;
        variables_held = each_map (HoldsVariables s₁ text) (HoldsVariables s₃ text) 0 (queries_of es)
            (λ k q l m v. record {
              few = v.few;
              held = holds_spellings_kept s₁ s₃ text (query_variables_from k) q.variables
                  (λ w a b. last.above w (omega arith) ∙ links.behind w (omega arith)) v.held;
            })
            (entries_variables text names 0 0 es s laid others inside);
      }

pub image_holds_text : (text : Bytes) (j : Job) (s : List ℕ) → reading text ≡ job j → compounds_region ≤ length s
    → HoldsText (image text s) text (spellings (text_names text)) j
unfolding image text_names text_entries AllPlaced
image_holds_text text j s h inside =
    let l = accepted_laid_out text j h in
    rw l.job at (stored_text text (text_names text) (text_entries text) s l.few_names l.entries inside
    (names_in_placed text (tokens text) [] (tokens_spelled text) tt)
    (entries_placed text [] 0 0 (pieces (tokens text)) (pieces_cut (tokens text)) (pieces_spelled text (tokens text) (tokens_spelled text))))
