-- What a reader gave, carried over to the reader that called it: behind a bracket, behind a sign, as a term.
use Rattle.std.specs.Prelude.{Result, Ok, Err}
use Prim.Native.Nat.{ℕ, ◌+◌, ◌<◌, min}
use mathlib.Core.Path.{◌≡◌, refl, ap, ◌∙◌}
use mathlib.Core.Bool.{false}
use mathlib.Core.List.{List, [], ◌∷◌, ◌++◌}
use lib.Dec.{eqb}
use lib.ListN.{get_or}
use Rattle.meaning.specs.Bytes.{Bytes}
use Rattle.meaning.specs.Terms.{Half, Term, as_term, occurrences}
use Rattle.meaning.specs.Tokens.{Tokens, token, sign}
use Rattle.meaning.specs.Items.{Counted, Reader, read, read_on, ◌>>=◌, give, compound_of}
use Rattle.term.specs.Cells.{term_word, stored, Numbered, Known}
use Rattle.term.specs.Frames.{Only}
use Rattle.term.specs.Layout.{item_start, item_end}
use Rattle.load_tokens.specs.Fronts.{tokens_in}
use Rattle.load_names.specs.Places.{Place, Placed, spellings, names_over, variables_over, item_places}
use Rattle.load_tokens.specs.Nexts.{SignAt}
use Rattle.load_openings.specs.Reading.{piece, counted_at, half_place, Stands, Gave, ReadIs, round_of, Opened}
use Rattle.load_openings.specs.declared.cursor.Cursor.{Cursor}
use Rattle.load_openings.specs.declared.cursor.Unread.{Unread}
use Rattle.load_openings.specs.declared.cursor.Unread.TheVariants.{Malformed, Exceeded}
use Rattle.load_openings.proofs.Moves.{Moves, moves_then, moves_sign, sign_placed, piece_sign, moved_to, stands_moved, stored_in_item}

-- What was given, by the places that the tokens lead to.
pub gave_by : {A : Type 0} {seen : A → Term} {by : Reader A} {text rest : Bytes} {from base : ℕ} {known vars : List Place} {c : Cursor}
    {s item s' names' item' : List ℕ} {w : ℕ} {c' : Cursor} {a : A} {over : List Placed} (known' vars' : List Place)
    → Moves from rest c.at c'.at known vars known' vars' over
    → by (counted_at known vars c.compounds) (piece (tokens_in from rest c.at)) ≡ read a (counted_at known' vars' c'.compounds) (piece (tokens_in from rest c'.at))
    → Stands text rest from names' item' c' known' vars'
    → w ≡ term_word (item_places known' base) (seen a)
    → s' ≡ stored (item_places known' base) (seen a) s
    → Numbered c.compounds c'.compounds (seen a)
    → Known (spellings known') (seen a)
    → ((h : Half) (n : ℕ) → n < 16 → get_or item' (half_place h n) 0 ≡ min 2 (get_or item (half_place h n) 0 + occurrences h n (seen a)))
    → Gave seen by text rest from base known vars c s item s' names' item' w c' a over
gave_by known' vars' m reads stands word stored numbered names halves = record {
  reads = rw (m.names, m.variables) reads;
  follows = m.follows;
  stands = rw (m.names, m.variables) stands;
  word_is = rw m.names word;
  stored_is = rw m.names stored;
  numbered = numbered;
  known_names = rw m.names names;
  no_stop = m.no_stop;
  halves = halves;
}

pub gave_moves : {A : Type 0} {seen : A → Term} {by : Reader A} {text rest : Bytes} {from base : ℕ} {known vars : List Place} {c : Cursor}
    {s item s' names' item' : List ℕ} {w : ℕ} {c' : Cursor} {a : A} {over : List Placed}
    → Gave seen by text rest from base known vars c s item s' names' item' w c' a over
    → Moves from rest c.at c'.at known vars (names_over over known) (variables_over from over vars) over
gave_moves g = record { follows = g.follows; names = refl; variables = refl; no_stop = g.no_stop }

-- Only words of the item's compounds changed.
pub gave_only : {A : Type 0} {seen : A → Term} {by : Reader A} {text rest : Bytes} {from base : ℕ} {known vars : List Place} {c : Cursor}
    {s item s' names' item' : List ℕ} {w : ℕ} {c' : Cursor} {a : A} {over : List Placed}
    → Gave seen by text rest from base known vars c s item s' names' item' w c' a over → Only (item_start base) (item_end base) s s'
gave_only {seen = seen} {base = base} {known = known} {c = c} {s = s} {c' = c'} {a = a} {over = over} g =
    rw g.stored_is
    (stored_in_item (names_over over known) base c.compounds c'.compounds (seen a) s g.numbered g.stands.compounds_few)

module _ (text rest : Bytes) (from base : ℕ) (s s' names' item' : List ℕ) where
  -- A compound as a term.
  pub round_read : (argument : Reader Term) (f : Bytes) (known vars : List Place) (c : Cursor) (item : List ℕ) (r : Result (ℕ × Cursor) Unread)
      → ReadIs as_term (compound_of argument f) text rest from base known vars c s item s' names' item' r
      → ReadIs (λ (t : Term). t) (round_of argument f) text rest from base known vars c s item s' names' item' r
  unfolding round_of ◌>>=◌ read_on give
  round_read argument f known vars c item (Ok (w, c')) g = (
    as_term g.0,
    g.1,
    record {
      reads = rw g.2.reads;
      follows = g.2.follows;
      stands = g.2.stands;
      word_is = g.2.word_is;
      stored_is = g.2.stored_is;
      numbered = g.2.numbered;
      known_names = g.2.known_names;
      no_stop = g.2.no_stop;
      halves = g.2.halves;
    },
  )
  round_read argument f known vars c item (Err (Malformed place)) g = (rw g.0, g.1, g.2)
  round_read argument f known vars c item (Err Exceeded) g = (rw g.0, g.1)

  -- Behind tokens that add no compound and leave the item's table as it was.
  pub opened_read : (by opened : Reader Term) (known vars : List Place) (c d : Cursor) (item names₁ item₁ : List ℕ) (over : List Placed) (r : Result (ℕ × Cursor) Unread)
      → Opened by opened text rest from known vars c item names₁ item₁ d over
      → ReadIs (λ (t : Term). t) opened text rest from base (names_over over known) (variables_over from over vars) d s item₁ s' names' item' r
      → ReadIs (λ (t : Term). t) by text rest from base known vars c s item s' names' item' r
  opened_read by opened known vars c d item names₁ item₁ over (Ok (w, c')) o g =
      let moves = moves_then from rest c.at d.at c'.at known vars (names_over over known) (variables_over from over vars)
      (names_over g.1 (names_over over known)) (variables_over from g.1 (variables_over from over vars)) over g.1
      (record { follows = o.follows; names = refl; variables = refl; no_stop = o.no_stop }) (gave_moves g.2) in (
        g.0,
        over ++ g.1,
        gave_by (names_over g.1 (names_over over known)) (variables_over from g.1 (variables_over from over vars)) moves
            (o.reads ∙ g.2.reads)
            g.2.stands
            g.2.word_is
            g.2.stored_is
            (rw o.compounds_same at g.2.numbered)
            g.2.known_names
            (rw o.item_same at g.2.halves),
      )
  opened_read by opened known vars c d item names₁ item₁ over (Err (Malformed place)) o g = (o.reads ∙ g.0, g.1, g.2)
  opened_read by opened known vars c d item names₁ item₁ over (Err Exceeded) o g = (o.reads ∙ g.0, g.1)

  -- Behind a sign, with another reader from there.
  pub sign_read : (by opened : Reader Term) (known vars : List Place) (c : Cursor) (x b : ℕ) (names item : List ℕ) (r : Result (ℕ × Cursor) Unread)
      → (sign_at : SignAt rest c.at x b) → eqb x 46 ≡ false
      → Stands text rest from names item c known vars
      → ((counted : Counted) (p : ℕ) (ts : Tokens) → by counted (token p (sign x) ts) ≡ opened counted ts)
      → ReadIs (λ (t : Term). t) opened text rest from base known vars (moved_to c b) s item s' names' item' r
      → ReadIs (λ (t : Term). t) by text rest from base known vars c s item s' names' item' r
  sign_read by opened known vars c x b names item r sign_at dot stands same g =
      let m = moves_sign from rest c.at x b known vars sign_at dot in
      opened_read by opened known vars c (moved_to c b) item names item (sign_placed from rest sign_at ∷ []) r
      (record {
        reads = rw (m.names, m.variables) (ap (by (counted_at known vars c.compounds)) (piece_sign from rest c.at x b sign_at dot) ∙ same (counted_at known vars c.compounds) (from + sign_at.place) (piece (tokens_in from rest b)));
        follows = m.follows;
        stands = rw (m.names, m.variables) (stands_moved b stands sign_at.inside);
        compounds_same = refl;
        no_stop = m.no_stop;
        item_same = refl;
      })
      (rw (m.names, m.variables) g)
