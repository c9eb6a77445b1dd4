-- The right side of `==`: counted as a compound, read, and the words of both sides stored behind its place.
use Prim.Native.Nat.{ℕ, ◌+◌, ◌≤◌, ◌<◌}
use mathlib.Core.Path.{◌≡◌, ap, ◌∙◌}
use mathlib.Core.List.{List}
use lib.ListN.{set}
use Rattle.std.specs.Prelude.{Ok, Err}
use Rattle.meaning.specs.Bytes.{Bytes}
use Rattle.meaning.specs.Terms.{Term}
use Rattle.meaning.specs.Items.{term}
use Rattle.term.specs.Cells.{stored}
use Rattle.term.specs.Layout.{item_start, item_end, item_place}
use Rattle.term.specs.Words.{probe_word}
use Rattle.term.proofs.Frames.{only_same}
use Rattle.load_tokens.specs.Fronts.{tokens_in}
use Rattle.load_names.specs.Places.{Place, names_over, variables_over, item_places}
use Rattle.load_openings.specs.Reading.{piece, counted_at, ReadIs}
use Rattle.load_openings.specs.declared.cursor.Cursor.{Cursor}
use Rattle.load_openings.specs.declared.cursor.Unread.{Unread}
use Rattle.load_openings.specs.declared.cursor.Unread.TheVariants.{Malformed, Exceeded}
use Rattle.load_openings.proofs.Moves.{counted_one}
use Rattle.load_elements.specs.Sides.{RightIs}
use Rattle.load_elements.proofs.Bodies.{equals_many, equals_malformed, equals_passed, equals_read}

module _ (text rest : Bytes) (from base : ℕ) (known vars : List Place) (c : Cursor) (s item : List ℕ) (left : ℕ) where
  pub right_many : (names : List ℕ) → 32 ≤ c.compounds → RightIs left text rest from base known vars c s item s names item (Err Exceeded)
  right_many names h = (
    λ t. equals_many t known vars c.compounds (piece (tokens_in from rest c.at)) h,
    only_same (item_start base) (item_end base) s,
  )

  module _ (few : c.compounds < 32) (s₁ names₁ item₁ : List ℕ) where
    pub right_unread : (why : Unread)
        → ReadIs (λ (t : Term). t) (term 16) text rest from base known vars (counted_one c) s item s₁ names₁ item₁ (Err why)
        → RightIs left text rest from base known vars c s item s₁ names₁ item₁ (Err why)
    right_unread (Malformed place) g =
        (λ t. equals_malformed t known vars c.compounds (piece (tokens_in from rest c.at)) few (from + place) g.0, g.1, g.2)
    right_unread Exceeded g = (λ t. equals_passed t known vars c.compounds (piece (tokens_in from rest c.at)) few g.0, g.1)

    pub right_got : (right w : ℕ) (d : Cursor) (s₂ : List ℕ)
        → ReadIs (λ (t : Term). t) (term 16) text rest from base known vars (counted_one c) s item s₁ names₁ item₁ (Ok (right, d))
        → s₂ ≡ set (set s₁ (item_place base c.compounds + 1) left) (item_place base c.compounds + 2) right
        → w ≡ probe_word (item_place base c.compounds)
        → RightIs left text rest from base known vars c s item s₂ names₁ item₁ (Ok (w, d))
    right_got right w d s₂ g kept word =
        let u = g.0 in
        let p = g.1 in
        let places = item_places (names_over p known) base in
        let n = item_place base c.compounds in (
          u,
          p,
          record {
            reads = λ t. equals_read t known vars c.compounds (piece (tokens_in from rest c.at)) few u
                (counted_at (names_over p known) (variables_over from p vars) d.compounds) (piece (tokens_in from rest d.at)) g.2.reads;
            follows = g.2.follows;
            no_stop = g.2.no_stop;
            stands = g.2.stands;
            word_is = word;
            stored_is = kept ∙ ap (λ (l : List ℕ). set (set l (n + 1) left) (n + 2) right) g.2.stored_is
                ∙ ap (λ (v : ℕ). set (set (stored places u s) (n + 1) left) (n + 2) v) g.2.word_is;
            numbered = g.2.numbered;
            known_names = g.2.known_names;
            halves = g.2.halves;
          },
        )
