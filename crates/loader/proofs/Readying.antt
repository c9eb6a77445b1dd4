-- A loaded text is ready to run: its image holds the job, the words that the run begins with are zero, and nothing behind the needed part has changed.
use Prim.Native.Nat.{ℕ, ◌+◌, ◌*◌, ◌≤◌, ◌<◌}
use mathlib.Core.Path.{◌≡◌, refl, ◌∙◌}
use mathlib.Core.List.{List, [], ◌∷◌}
use mathlib.Core.Bool.{Bool, true, false}
use mathlib.Core.Logic.{◌⊎◌, inl, inr, ⊎_elim}
use native.Mathlib.Omega.{arith}
use native.Mathlib.Nat.{eq-or-lt_of_le}
use lib.Dec.{leb}
use lib.ListN.{length, get_or, set}
use lib.Seq.{get_or-set_other}
use borrow.Author.Tests.{leb-true, leb-false}
use Rattle.meaning.specs.Bytes.{Bytes}
use Rattle.meaning.specs.Terms.{Query, Job}
use Rattle.meaning.specs.Items.{reading, job}
use Rattle.meaning.specs.State.{Room}
use Rattle.term.specs.Frames.{Only}
use Rattle.term.specs.Jobs.{QueryLaid}
use Rattle.term.specs.Layout.{need_of, InRange, trial_region, compounds_region, query_record, query_base, query_first_pair_word, query_tries_word}
use Rattle.term.specs.States.{Ready}
use Rattle.term.proofs.Zeroing.{pairs_zero_kept}
use Rattle.load_names.specs.Places.{Place, spellings, item_places}
use Rattle.load_image.specs.Image.{
  Entry,
  a_clause,
  a_query,
  clauses_of,
  goals_stored,
  places_stored,
  clause_stored,
  query_stored,
  entries_stored,
  head_words,
  linked,
  text_names,
  text_entries,
  image,
}
use Rattle.load_names.proofs.Numbering.{spellings_length}
use Rattle.load_image.proofs.Keeping.{goals_two, places_only}
use Rattle.load_image.proofs.KeptItems.{clause_two, query_two}
use Rattle.load_image.proofs.KeptEntries.{EntriesLaid}
use Rattle.load_image.proofs.Procedures.{LinkKept, linked_kept}
use Rattle.load_image.proofs.ImageHolds.{entries_clauses_few, entries_headed}
use Rattle.load_image.proofs.Loaded.{accepted_laid_out}
use Rattle.loader.specs.Loading.{prepared}
use Rattle.loader.proofs.Loaded.{loaded_holds, loaded_holds_text}
use Rattle.loader.proofs.Preparing.{Prepared, prepared_is}

-- A word that no item writes: the first pair and the tries of a query, and all from the trial's region on.
record RunWordsKept (s s' : List ℕ) : Type 0 where
  pub size : length s' ≡ length s
  pub third : (q : ℕ) → q < 8 → get_or s' (query_first_pair_word q) 0 ≡ get_or s (query_first_pair_word q) 0
  pub fourth : (q : ℕ) → q < 8 → get_or s' (query_tries_word q) 0 ≡ get_or s (query_tries_word q) 0
  pub behind : (k : ℕ) → trial_region ≤ k → get_or s' k 0 ≡ get_or s k 0

kept_same : (s : List ℕ) → RunWordsKept s s
kept_same s = record { size = refl; third = λ q h. refl; fourth = λ q h. refl; behind = λ k h. refl }

kept_then : (s t u : List ℕ) → RunWordsKept s t → RunWordsKept t u → RunWordsKept s u
kept_then s t u a b = record {
  size = b.size ∙ a.size;
  third = λ q h. b.third q h ∙ a.third q h;
  fourth = λ q h. b.fourth q h ∙ a.fourth q h;
  behind = λ k h. b.behind k h ∙ a.behind k h;
}

order : (m n : ℕ) → (m ≤ n) ⊎ (n < m)
order m n = by (leb m n) refl
  where
    by : (b : Bool) → leb m n ≡ b → (m ≤ n) ⊎ (n < m)
    by true e = inl (leb-true m n e)
    by false e = inr (leb-false m n e)

three_other : (s : List ℕ) (p a b c k : ℕ) → p + 2 < k → get_or (set (set (set s p a) (p + 1) b) (p + 2) c) k 0 ≡ get_or s k 0
three_other s p a b c k h =
    let s₁ = set s p a in
    let s₂ = set s₁ (p + 1) b in
    get_or-set_other s₂ (p + 2) k c 0 (λ e. omega arith)
    ∙ (get_or-set_other s₁ (p + 1) k b 0 (λ e. omega arith) ∙ get_or-set_other s p k a 0 (λ e. omega arith))

module _ (names : List Place) (k : ℕ) (few : k < 8) (g : Query) (laid : QueryLaid (spellings names) g) (vs : List Place) (few_places : length vs ≤ 16)
    (s : List ℕ) where
  own_word : (i : ℕ) → 3 ≤ i → i < 8 → get_or (query_stored names k g vs s) (query_record k + i) 0 ≡ get_or s (query_record k + i) 0
  unfolding query_stored item_places
  own_word i low high =
      let p = item_places names (query_base k) in
      let base = query_base k in
      let r = query_record k in
      let s₁ = goals_stored p (r + 8) g.goals s in
      let s₂ = set (set (set s₁ r (length g.goals)) (r + 1) (length g.variables)) (r + 2) g.compounds in
      (places_only (r + 16) vs s₂).below (r + i) (omega arith)
      ∙ (three_other s₁ r (length g.goals) (length g.variables) g.compounds (r + i) (omega arith)
      ∙ (goals_two p base (λ n. refl) (r + 8) 0 g.compounds g.goals s (omega (arith, laid.few_goals)) laid.numbered).below (r + i) (omega arith))

  word_kept : (q i : ℕ) → q < 8 → 3 ≤ i → i < 8 → get_or (query_stored names k g vs s) (query_record q + i) 0 ≡ get_or s (query_record q + i) 0
  word_kept q i h low high =
      let two = query_two names k few g laid vs few_places s in
      ⊎_elim
      (λ (a : q ≤ k).
      ⊎_elim (λ (e : q ≡ k). rw e (own_word i low high)) (λ (l : q < k). two.below (query_record q + i) (omega arith)) (eq-or-lt_of_le a))
      (λ (a : k < q). two.between (query_record q + i) (omega arith) (omega arith))
      (order q k)

  query_kept : RunWordsKept s (query_stored names k g vs s)
  query_kept =
      let two = query_two names k few g laid vs few_places s in
      record {
        size = two.size;
        third = λ q h. word_kept q 3 h (omega arith) (omega arith);
        fourth = λ q h. word_kept q 4 h (omega arith) (omega arith);
        behind = λ w h. two.above w (omega arith);
      }

module _ (names : List Place) where
  entries_kept : (k q : ℕ) (es : List Entry) (s : List ℕ) → EntriesLaid (spellings names) k q es → RunWordsKept s (entries_stored names k q es s)
  unfolding EntriesLaid entries_stored
  entries_kept k q [] s l = kept_same s
  entries_kept k q (a_clause c ∷ es) s l =
      let s₁ = clause_stored names k c s in
      let few : k < 128 = l.0 in
      let two = clause_two names k l.0 c l.1 s in
      kept_then s s₁ (entries_stored names (k + 1) q es s₁)
      (record {
        size = two.size;
        third = λ q' h. two.between (query_first_pair_word q') (omega arith) (omega arith);
        fourth = λ q' h. two.between (query_tries_word q') (omega arith) (omega arith);
        behind = λ w h. two.above w (omega arith);
      })
      (entries_kept (k + 1) q es s₁ l.2)
  entries_kept k q (a_query g vs ∷ es) s l =
      let s₁ = query_stored names q g vs s in
      kept_then s s₁ (entries_stored names k (q + 1) es s₁) (query_kept names q l.0 g l.1 vs l.2 s) (entries_kept k (q + 1) es s₁ l.3)

image_kept : (text : Bytes) (j : Job) (s : List ℕ) → reading text ≡ job j → compounds_region ≤ length s → RunWordsKept s (image text s)
unfolding image
image_kept text j s h inside =
    let l = accepted_laid_out text j h in
    let names = text_names text in
    let es = text_entries text in
    let s₁ = entries_stored names 0 0 es s in
    let s₂ = linked 0 (head_words names (clauses_of es)) s₁ in
    let s₃ = places_stored 0 names s₂ in
    let first : RunWordsKept s s₁ = entries_kept names 0 0 es s l.entries in
    let inside₁ : compounds_region ≤ length s₁ = omega (arith, first.size) in
    let links : LinkKept s₁ s₂ = linked_kept names l.few_names 0 (clauses_of es) s₁ (entries_clauses_few (spellings names) 0 0 es l.entries) inside₁
    (entries_headed (spellings names) 0 0 es l.entries) in
    let last : Only 0 (0 + 2 * length names) s₂ s₃ = places_only 0 names s₂ in
    let few : length names ≤ 256 = omega (arith, spellings_length names, l.few_names) in
    kept_then s s₁ s₃ first
    (record {
      size = last.size ∙ links.size;
      third = λ q m. last.above (query_first_pair_word q) (omega arith) ∙ links.behind (query_first_pair_word q) (omega arith);
      fourth = λ q m. last.above (query_tries_word q) (omega arith) ∙ links.behind (query_tries_word q) (omega arith);
      behind = λ w m. last.above w (omega arith) ∙ links.behind w (omega arith);
    })

-- What `load` has made of a text that is a job.
module _ (text : Bytes) (j : Job) (figures : Room) (s s' : List ℕ) (inside : need_of figures ≤ length s) (h : reading text ≡ job j)
    (e : s' ≡ image text (prepared figures s)) where
  before : Prepared figures s (prepared figures s)
  before = prepared_is figures s inside

  kept : RunWordsKept (prepared figures s) s'
  kept = rw e (image_kept text j (prepared figures s) h (omega (arith, before.only.size)))

  pub loaded_ready : InRange figures → Ready s' text (spellings (text_names text)) figures j
  loaded_ready range =
      record {
        in_range = range;
        inside = omega (arith, kept.size, before.only.size);
        reads = h;
        held = loaded_holds text j figures s s' inside h e;
        text_held = loaded_holds_text text j figures s s' inside h e;
        records_zero = λ q i m x.
            ⊎_elim
            (λ (a : i ≡ 3). rw a (kept.third q m ∙ before.tables (query_first_pair_word q) (omega arith) (omega arith)))
            (λ (a : i ≡ 4). rw a (kept.fourth q m ∙ before.tables (query_tries_word q) (omega arith) (omega arith)))
            x;
        zero = pairs_zero_kept (prepared figures s) s' figures (λ k l m. kept.behind k (omega arith)) before.pairs;
      }

  -- Nothing behind the needed part has changed.
  pub loaded_only : Only 0 (need_of figures) s s'
  loaded_only = record {
    size = kept.size ∙ before.only.size;
    below = λ k l. absurd (omega arith);
    above = λ k l. kept.behind k (omega arith) ∙ before.only.above k l;
  }
