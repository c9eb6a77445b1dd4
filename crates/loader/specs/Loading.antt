-- What loading answers, and how far it has come between two items.
use Rattle.std.specs.Prelude.{ℕ, ◌*◌, ◌-◌, ◌≤◌, ◌≡◌, List, [], ◌∷◌, ◌++◌, length, take, drop, Option, Result, Ok, Err}
use Rattle.meaning.specs.Bytes.{Bytes}
use Rattle.meaning.specs.Terms.{Job, count}
use Rattle.meaning.specs.Tokens.{Tokens, tokens}
use Rattle.meaning.specs.Items.{Refusal, Piece, Reading, job, refused, with_clause, with_query, item, items, pieces, reading}
use Rattle.meaning.specs.State.{Room}
use Rattle.meaning.specs.Call.{refusal, cleared}
use Rattle.term.specs.Frames.{Only, zeroed}
use Rattle.term.specs.Jobs.{GoalsKnown}
use Rattle.term.specs.Layout.{procedures_region, items_region, trial_region, values_region, marks_region, ends_region, need_of}
use Rattle.term.specs.States.{Ready}
use Rattle.load_tokens.specs.Fronts.{tokens_at, tokens_in}
use Rattle.load_names.specs.Places.{Place, spellings}
use Rattle.load_names.specs.Tables.{NamesIn}
use Rattle.load_image.specs.Image.{
  names_in,
  Entry,
  a_clause,
  a_query,
  so_far,
  entries,
  clauses_of,
  queries_of,
  entries_stored,
  head_words,
  image,
}
use Rattle.load_openings.specs.Reading.{piece}
use Rattle.load_items.specs.Outcomes.{RefusedIs, ItemIs}
use Rattle.load_items.specs.Rules.{GuardsNamed}
use Rattle.load_items.specs.declared.items.Item.{Item}
use Rattle.load_items.specs.declared.items.Unfit.{Unfit}
use Rattle.loader.specs.Refusals.{refusal_answer}
use Rattle.loader.specs.declared.refusal.Refusal.{Refusal as Why}

-- A reading with these entries before it.
unfoldable pub with_entries : List Entry → Reading → Reading
with_entries [] r = r
with_entries (a_clause c ∷ es) r = with_clause c (with_entries es r)
with_entries (a_query q vs ∷ es) r = with_query q (with_entries es r)

-- The entries' names are among these, and no head has more than 6 arguments.
unfoldable pub EntriesKnown : List Bytes → List Entry → Type 0
EntriesKnown names [] = Unit {0}
EntriesKnown names (a_clause c ∷ es) =
    (GoalsKnown names (c.head ∷ c.body) × GuardsNamed names c.guards) × (count c.head.arguments ≤ 6) × EntriesKnown names es
EntriesKnown names (a_query q vs ∷ es) = GoalsKnown names q.goals × EntriesKnown names es

-- Some items have been read, up to the byte behind a full stop.
pub record Reached (text : Bytes) (s₀ s names heads : List ℕ) (from clauses queries known : ℕ) (places : List Place) (done : List Entry) : Type 0 where
  pub inside : from ≤ length text
  pub names_table : NamesIn text places names
  pub count_is : known ≡ length places
  pub clauses_are : clauses ≡ length (clauses_of done)
  pub queries_are : queries ≡ length (queries_of done)
  pub few : (clauses ≤ 128) × (queries ≤ 8)
  pub reads : items (so_far [] 0 0) (pieces (tokens text)) ≡ with_entries done (items (so_far places clauses queries) (pieces (tokens_at text from)))
  pub entries_are : entries [] 0 0 (pieces (tokens text)) ≡ done ++ entries places clauses queries (pieces (tokens_at text from))
  pub names_are : names_in (tokens text) [] ≡ names_in (tokens_at text from) places
  pub stored_is : s ≡ entries_stored places 0 0 done s₀
  pub heads_are : take clauses heads ≡ head_words places (clauses_of done)
  pub heads_size : length heads ≡ 128
  pub known_names : EntriesKnown (spellings places) done
  pub only : Only 0 trial_region s₀ s

-- The item that begins at an offset of the text is refused, and with this answer.
abbrev pub UnfitIs : (text : Bytes) (from : ℕ) (places : List Place) (clauses queries : ℕ) (s s' : List ℕ) → Unfit → Type 0
UnfitIs text from places clauses queries s s' unfit =
    (from ≤ length text) × (unfit.begins ≤ length (drop from text)) × RefusedIs (drop from text) from places clauses queries unfit.begins s s' unfit.why

abbrev pub ToldIs : (text : Bytes) (from : ℕ) (places : List Place) (clauses queries : ℕ) (s s' : List ℕ) → Why → Type 0
ToldIs text from places clauses queries s s' why =
    (r : Refusal) × (item (so_far places clauses queries) (piece (tokens_in from (drop from text) 0)) ≡ Piece.refused r)
    × (refusal_answer why ≡ refusal text r) × Only 0 trial_region s s'

-- The item at an offset of the text, or that nothing is left.
abbrev pub ItemAtIs : (text : Bytes) (from : ℕ) (places : List Place) (clauses queries : ℕ) (s heads s' names names' heads' : List ℕ)
    → Result (Option Item) Why → Type 0
ItemAtIs text from places clauses queries s heads s' names names' heads' (Ok found) =
    ItemIs text (drop from text) from places clauses queries s heads s' names names' heads' (Ok found)
ItemAtIs text from places clauses queries s heads s' names names' heads' (Err why) = ToldIs text from places clauses queries s s' why

-- All items read, with a query among them; or the first refused item's refusal, or that of a text without a query.
abbrev pub ListedIs : (text : Bytes) (s₀ s names heads : List ℕ) → Result (ℕ × ℕ × ℕ) Why → Type 0
ListedIs text s₀ s names heads (Ok (clauses, queries, known)) =
    (places : List Place) × (done : List Entry) × (n : ℕ) × (from : ℕ)
    × Reached text s₀ s names heads from clauses queries known places done
    × (tokens_at text from ≡ Tokens.ends n) × (queries ≡ 0 → ⊥)
ListedIs text s₀ s names heads (Err why) =
    (r : Refusal) × (reading text ≡ refused r) × (refusal_answer why ≡ refusal text r) × Only 0 trial_region s₀ s

-- What is zeroed before a text is loaded: the table of procedures and the records of clauses and of queries; and of the pairs values and waiters, marks,
-- and ends.
unfoldable pub prepared : Room → List ℕ → List ℕ
prepared figures s =
    zeroed (ends_region figures) figures.pairs
    (zeroed (marks_region figures) figures.pairs
    (zeroed (values_region figures) (2 * figures.pairs)
    (zeroed procedures_region (items_region - procedures_region) s)))

-- The answer of `load`: a job, every word of the scratch, and that it is ready to run, with nothing changed behind the needed part; or the definition's
-- answer for the refused text, and the needed part is zero.
abbrev pub LoadedIs : (text : Bytes) (figures : Room) (s s' : List ℕ) → Result (ℕ × ℕ) Why → Type 0
LoadedIs text figures s s' (Ok (clauses, queries)) =
    (j : Job) × (reading text ≡ job j) × (clauses ≡ length j.clauses) × (queries ≡ length j.queries)
    × (s' ≡ image text (prepared figures s))
    × (names : List Bytes) × Ready s' text names figures j × Only 0 (need_of figures) s s'
LoadedIs text figures s s' (Err why) =
    (r : Refusal) × (reading text ≡ refused r) × (refusal_answer why ≡ refusal text r) × (s' ≡ cleared (need_of figures) s)
