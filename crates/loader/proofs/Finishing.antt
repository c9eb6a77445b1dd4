-- What `load` makes of all items: the job and its image, or a refusal and a cleared scratch.
use Prim.Native.Nat.{ℕ, zero, suc, ◌+◌, ◌≤◌, ◌<◌}
use mathlib.Core.Path.{◌≡◌, refl, ap, sym, ◌∙◌}
use mathlib.Core.Bool.{Bool, true, false, ◌||◌}
use mathlib.Core.List.{List, [], ◌∷◌, ◌++◌, map}
use native.Mathlib.Omega.{arith}
use lib.ListN.{length, get_or, take, drop, replicate, length-drop}
use lib.Seq.{ext_get_or, get_or-drop, get_or-take}
use borrow.Author.Tests.{le-leb}
use Rattle.std.proofs.lemmas.List.{append-nil}
use Rattle.meaning.specs.Bytes.{Bytes, same, any, when◌then◌else◌}
use Rattle.meaning.specs.Terms.{Clause, Job, count}
use Rattle.meaning.specs.Tokens.{ends}
use Rattle.meaning.specs.Items.{no_query, job, refused, item, items, pieces, asked, reading}
use Rattle.meaning.specs.Call.{cleared}
use Rattle.term.specs.Cells.{number_of}
use Rattle.term.specs.Frames.{Only}
use Rattle.load_tokens.specs.Fronts.{tokens_at}
use Rattle.load_names.specs.Places.{Place, spellings, item_places}
use Rattle.load_image.specs.Kept.{pairs_kept}
use Rattle.load_image.specs.Image.{
  names_in,
  Entry,
  a_clause,
  a_query,
  so_far,
  entries,
  clauses_of,
  queries_of,
  entries_stored,
  head_word,
  head_words,
  linked,
  places_stored,
  text_names,
  text_entries,
  image,
}
use Rattle.load_items.specs.Outcomes.{shifted}
use Rattle.loader.specs.Loading.{with_entries, EntriesKnown, Reached}
use Rattle.term.specs.Cells.{Known}
use Rattle.meaning.specs.Terms.{as_term}
use Rattle.term.specs.Jobs.{GoalsKnown}
use Rattle.term.specs.Layout.{trial_region}
use Rattle.load_names.proofs.Numbering.{spellings_length}
use Rattle.loader.proofs.Entries.{with_all}
use Rattle.load_items.proofs.PlacesKept.{kept_places}

-- Clearing the needed part: nothing beyond it has changed.
only_drop : (hi n : ℕ) (s t : List ℕ) → hi ≤ n → Only 0 hi s t → drop n t ≡ drop n s
only_drop hi n s t h o =
    let size : length (drop n t) ≡ length (drop n s) = omega (arith, length-drop n t, length-drop n s, o.size) in
    ext_get_or 0 (drop n t) (drop n s) size (λ i l. get_or-drop n t i 0 ∙ o.above (n + i) (omega arith) ∙ sym (get_or-drop n s i 0))

pub cleared_again : (need : ℕ) (s s₀ t : List ℕ) → trial_region ≤ need → Only 0 need s s₀ → Only 0 trial_region s₀ t → replicate need 0 ++ drop need t ≡ cleared need s
unfolding cleared
cleared_again need s s₀ t h p o =
    ap (λ l. replicate need 0 ++ l) (only_drop trial_region need s₀ t h o ∙ only_drop need need s s₀ (omega arith) p)

-- A name's number is below how many there are.
number_by : (b t : Bool) (m n : ℕ) → (t ≡ true → m < n) → (b || t) ≡ true → (when b then 0 else suc m) < suc n
unfolding when◌then◌else◌
number_by true t m n h k = omega arith
number_by false t m n h k = omega (arith, h k)

number_below : (f : Bytes) (names : List Bytes) → any (same f) names ≡ true → number_of f names < length names
unfolding any number_of
number_below f [] h = let z : ◌≡◌ {A = ℕ} 0 1 = cc in absurd (omega arith)
number_below f (g ∷ gs) h = number_by (same f g) (any (same f) gs) (number_of f gs) (length gs) (number_below f gs) h

head_bounds : (places : List Place) (c : Clause) → GoalsKnown (spellings places) (c.head ∷ c.body) → count c.head.arguments ≤ 6 → length places ≤ 256
    → (8 ≤ head_word places c.head) × (head_word places c.head < 2056)
unfolding head_word GoalsKnown Known as_term item_places
head_bounds places c k few many =
    let below = number_below c.head.name (spellings places) k.0.0 in
    (omega arith, omega (arith, below, spellings_length places))

heads_bounds : (places : List Place) (es : List Entry) → EntriesKnown (spellings places) es → length places ≤ 256 → (k : ℕ) → k < length (clauses_of es)
    → (8 ≤ get_or (head_words places (clauses_of es)) k 0) × (get_or (head_words places (clauses_of es)) k 0 < 2056)
unfolding clauses_of head_words EntriesKnown
heads_bounds places [] h many k l = absurd (omega arith)
heads_bounds places (a_clause c ∷ es) h many zero l = head_bounds places c h.0.0 h.1 many
heads_bounds places (a_clause c ∷ es) h many (suc k) l = heads_bounds places es h.2 many k (omega arith)
heads_bounds places (a_query q vs ∷ es) h many k l = heads_bounds places es h.1 many k l

shifted_none : (ps : List Place) → map (shifted 0) ps ≡ ps
unfolding shifted
shifted_none [] = refl
shifted_none (p ∷ ps) =
    let e : 0 + p.at ≡ p.at = omega arith in
    rw (e, shifted_none ps)

items_end : (places : List Place) (clauses queries n : ℕ) → items (so_far places clauses queries) (pieces (ends n)) ≡ job (record { clauses = []; queries = [] })
unfolding items pieces item
items_end places clauses queries n = refl

entries_end : (places : List Place) (clauses queries n : ℕ) → entries places clauses queries (pieces (ends n)) ≡ []
unfolding entries pieces item
entries_end places clauses queries n = refl

module _ (text : Bytes) (s₀ s names heads : List ℕ) (from clauses queries known n : ℕ) (places : List Place) (done : List Entry)
    (r : Reached text s₀ s names heads from clauses queries known places done) (nothing_left : tokens_at text from ≡ ends n) where
  unfoldable pub the_job : Job
  the_job = record { clauses = clauses_of done; queries = queries_of done }

  all_read : reading text ≡ asked (job the_job)
  unfolding reading so_far spellings the_job
  all_read =
      ap asked (r.reads ∙ ap (λ ts. with_entries done (items (so_far places clauses queries) (pieces ts))) nothing_left
      ∙ ap (with_entries done) (items_end places clauses queries n) ∙ with_all done)

  pub no_queries : queries ≡ 0 → reading text ≡ refused no_query
  unfolding asked the_job when◌then◌else◌
  no_queries e =
      let none : length (queries_of done) ≡ 0 = sym r.queries_are ∙ e in
      all_read ∙ (rw none)

  pub some_queries : (queries ≡ 0 → ⊥) → reading text ≡ job the_job
  unfolding asked the_job when◌then◌else◌
  some_queries e =
      let some : 1 ≤ length (queries_of done) = omega (arith, r.queries_are, e) in
      all_read ∙ (rw (le-leb 1 (length (queries_of done)) some))

  names_all : text_names text ≡ places
  unfolding text_names names_in
  names_all = r.names_are ∙ ap (λ ts. names_in ts places) nothing_left

  entries_all : text_entries text ≡ done
  unfolding text_entries
  entries_all =
      r.entries_are ∙ ap (λ ts. done ++ entries places clauses queries (pieces ts)) nothing_left
      ∙ ap (λ l. done ++ l) (entries_end places clauses queries n) ∙ append-nil done

  image_all : image text s₀ ≡ places_stored 0 places (linked 0 (head_words places (clauses_of done)) (entries_stored places 0 0 done s₀))
  unfolding image
  image_all = rw (names_all, entries_all)

  pub imaged : (s₁ s₂ : List ℕ) → s₁ ≡ linked 0 (take clauses heads) s → s₂ ≡ pairs_kept names 0 0 known s₁ → s₂ ≡ image text s₀
  imaged s₁ s₂ e f =
      f ∙ ap (λ k. pairs_kept names 0 0 k s₁) r.count_is
      ∙ kept_places names 0 0 places s₁ r.names_table.starts r.names_table.lengths
      ∙ ap (λ ps. places_stored 0 ps s₁) (shifted_none places)
      ∙ ap (places_stored 0 places) (e ∙ ap (λ ws. linked 0 ws s) r.heads_are ∙ ap (linked 0 (head_words places (clauses_of done))) r.stored_is)
      ∙ sym image_all

  pub link_heads : (k : ℕ) → k < clauses → (8 ≤ get_or heads k 0) × (get_or heads k 0 < 2056)
  link_heads k l =
      let low : k < length (clauses_of done) = omega (arith, r.clauses_are) in
      let word : get_or heads k 0 ≡ get_or (head_words places (clauses_of done)) k 0 = sym (get_or-take clauses heads k 0 l) ∙ ap (λ ws. get_or ws k 0) r.heads_are in
      rw word (heads_bounds places done r.known_names r.names_table.few k low)

-- The code's clearing of a text that is refused, by what `clear` ensures.
pub clear_refused : (need n : ℕ) (s s₀ t s' : List ℕ) → n ≡ need → trial_region ≤ need → Only 0 need s s₀ → Only 0 trial_region s₀ t
    → s' ≡ replicate n 0 ++ drop n t → s' ≡ cleared need s
clear_refused need n s s₀ t s' e enough p o h = h ∙ ap (λ k. replicate k 0 ++ drop k t) e ∙ cleared_again need s s₀ t enough p o
