-- The elements of a list, one after the other: the cells of some have been stored, each leading to the next, and whatever the others answer is the
-- answer of all.
use Rattle.std.specs.Prelude.{Result, Ok, Err}
use Prim.Native.Nat.{ℕ, suc, ◌+◌, ◌-◌, ◌≤◌, ◌<◌}
use mathlib.Core.Path.{◌≡◌, refl}
use mathlib.Core.List.{List, [], ◌∷◌}
use native.Mathlib.Omega.{arith}
use Rattle.meaning.specs.Bytes.{Bytes}
use Rattle.meaning.specs.Terms.{Term}
use Rattle.meaning.specs.Items.{Reader, begins_term, next, tail_of, elements, term}
use Rattle.term.specs.Frames.{Only}
use Rattle.term.proofs.Frames.{only_same}
use Rattle.term.proofs.Cells.{numbered_order}
use Rattle.term.specs.Layout.{item_start, item_end, item_place}
use Rattle.term.specs.Words.{compound_word}
use Rattle.load_tokens.specs.Fronts.{tokens_in}
use Rattle.load_tokens.specs.Nexts.{SignAt, StopsAt, Goes, one_of}
use Rattle.load_tokens.specs.declared.next.Misplaced.{Misplaced}
use Rattle.load_names.specs.Places.{Place, Placed, names_over, variables_over}
use Rattle.load_openings.specs.Reading.{Stands, Gave, ReadIs, closed}
use Rattle.load_openings.specs.declared.cursor.Cursor.{Cursor}
use Rattle.load_openings.specs.declared.cursor.Unread.{Unread}
use Rattle.load_openings.specs.declared.cursor.Unread.TheVariants.{Malformed, Exceeded}
use Rattle.load_openings.proofs.Given.{sign_read}
use Rattle.load_openings.proofs.Moves.{moved_to, counted_one, stands_moved}
use Rattle.load_terms.proofs.Arms.{tail_more, tail_closed}
use Rattle.load_terms.proofs.Elements.{
  cell_stored,
  cell_only,
  start_cannot,
  element_many,
  element_unread,
  tail_unread,
  cell_behind,
  cell_first,
  tail_third,
  tail_other,
}

-- The elements before d have been read from c on; the next cell is the next compound.
pub record Linked (depth left : ℕ) (text rest : Bytes) (from base : ℕ) (known vars : List Place) (c : Cursor) (s item : List ℕ)
    (d : Cursor) (s₁ names₁ item₁ : List ℕ) : Type 0 where
  pub known₁ : List Place
  pub vars₁ : List Place
  pub left₁ : ℕ
  pub stands : Stands text rest from names₁ item₁ d known₁ vars₁
  pub enough : 32 ≤ left₁ + d.compounds
  pub got : (s' names' item' : List ℕ) (w : ℕ) (f : Cursor)
      → ReadIs (λ (t : Term). t) (elements (term depth) left₁) text rest from base known₁ vars₁ d s₁ item₁ s' names' item' (Ok (compound_word (item_place base d.compounds), f))
      → w ≡ compound_word (item_place base c.compounds)
      → ReadIs (λ (t : Term). t) (elements (term depth) left) text rest from base known vars c s item s' names' item' (Ok (w, f))
  pub unread : (u : Unread) (s' names' item' : List ℕ)
      → ReadIs (λ (t : Term). t) (elements (term depth) left₁) text rest from base known₁ vars₁ d s₁ item₁ s' names' item' (Err u)
      → ReadIs (λ (t : Term). t) (elements (term depth) left) text rest from base known vars c s item s' names' item' (Err u)

pub linked_none : (depth left : ℕ) (text rest : Bytes) (from base : ℕ) (known vars : List Place) (c : Cursor) (s names item : List ℕ)
    → Stands text rest from names item c known vars → 32 ≤ left + c.compounds
    → Linked depth left text rest from base known vars c s item c s names item
linked_none depth left text rest from base known vars c s names item stands enough = record {
  known₁ = known;
  vars₁ = vars;
  left₁ = left;
  stands = stands;
  enough = enough;
  got = λ s' names' item' w f a same. rw same a;
  unread = λ u s' names' item' a. a;
}

module _ (depth left : ℕ) (text rest : Bytes) (from base : ℕ) (known vars : List Place) (c : Cursor) (s item : List ℕ)
    (d : Cursor) (s₁ names₁ item₁ : List ℕ) (l : Linked depth left text rest from base known vars c s item d s₁ names₁ item₁) where
  -- The 33rd compound's first token.
  pub linked_cannot : (m : Misplaced) → StopsAt begins_term rest d.at m
      → ReadIs (λ (t : Term). t) (elements (term depth) left) text rest from base known vars c s item s₁ names₁ item₁ (Err (Malformed m.0))
  linked_cannot m stops =
      l.unread (Malformed m.0) s₁ names₁ item₁
      (start_cannot text rest from base l.known₁ l.vars₁ d s₁ item₁ (term depth) names₁ l.left₁ m stops)

  pub linked_many : ((from : ℕ) → Goes begins_term (tokens_in from rest d.at)) → 32 ≤ d.compounds
      → ReadIs (λ (t : Term). t) (elements (term depth) left) text rest from base known vars c s item s₁ names₁ item₁ (Err Exceeded)
  linked_many goes many =
      l.unread Exceeded s₁ names₁ item₁
      (element_many text rest from base l.known₁ l.vars₁ d s₁ item₁ (term depth) goes names₁ l.left₁ many)

  module _ (few : d.compounds < 32) where
    one : l.left₁ ≡ suc (l.left₁ - 1)
    one = omega (arith, l.enough)

    one_more : (u : Unread) (s' names' item' : List ℕ)
        → ReadIs (λ (t : Term). t) (elements (term depth) (suc (l.left₁ - 1))) text rest from base l.known₁ l.vars₁ d s₁ item₁ s' names' item' (Err u)
        → ReadIs (λ (t : Term). t) (elements (term depth) l.left₁) text rest from base l.known₁ l.vars₁ d s₁ item₁ s' names' item' (Err u)
    one_more (Malformed place) s' names' item' a = rw one a
    one_more Exceeded s' names' item' a = rw one a

    -- The next element is not read.
    pub linked_unread : (u : Unread) (s₂ names₂ item₂ : List ℕ)
        → ReadIs (λ (t : Term). t) (term depth) text rest from base l.known₁ l.vars₁ (counted_one d) s₁ item₁ s₂ names₂ item₂ (Err u)
        → ReadIs (λ (t : Term). t) (elements (term depth) left) text rest from base known vars c s item s₂ names₂ item₂ (Err u)
    linked_unread u s₂ names₂ item₂ a =
        l.unread u s₂ names₂ item₂
        (one_more u s₂ names₂ item₂ (element_unread text rest from base l.known₁ l.vars₁ d s₁ item₁ depth few (l.left₁ - 1) u s₂ names₂ item₂ a))

    -- It was read.
    module _ (s₂ names₂ item₂ : List ℕ) (w : ℕ) (e : Cursor) (t : Term) (p : List Placed)
        (g : Gave (λ (t : Term). t) (term depth) text rest from base l.known₁ l.vars₁ (counted_one d) s₁ item₁ s₂ names₂ item₂ w e t p) where
      abbrev known₂ : List Place
      known₂ = names_over p l.known₁

      abbrev vars₂ : List Place
      vars₂ = variables_over from p l.vars₁

      abbrev others : Reader Term
      others = elements (term depth) (l.left₁ - 1)

      abbrev rest_of_list : Reader Term
      rest_of_list = next (tail_of (term depth) others)

      above : d.compounds + 1 ≤ e.compounds
      above = numbered_order (d.compounds + 1) e.compounds t g.numbered

      -- Behind a comma others follow, from the next compound on.
      module _ (s₃ : List ℕ) (kept : s₃ ≡ cell_stored base d.compounds w (compound_word (item_place base e.compounds)) s₂) (b : ℕ) (sign_at : SignAt rest e.at 44 b) where
        behind_comma : (s' names' item' : List ℕ) (r : Result (ℕ × Cursor) Unread)
            → ReadIs (λ (t : Term). t) others text rest from base known₂ vars₂ (moved_to e b) s₃ item₂ s' names' item' r
            → ReadIs (λ (t : Term). t) rest_of_list text rest from base known₂ vars₂ e s₃ item₂ s' names' item' r
        behind_comma s' names' item' r =
            sign_read text rest from base s₃ s' names' item' rest_of_list others known₂ vars₂ e 44 b names₂ item₂ r sign_at refl g.stands
            (tail_more (term depth) others)

        only : Only (item_start base) (item_end base) s₂ s₃
        only = rw kept (cell_only base d.compounds w (compound_word (item_place base e.compounds)) s₂ few)

        pub linked_more : Linked depth left text rest from base known vars c s item (moved_to e b) s₃ names₂ item₂
        linked_more = record {
          known₁ = known₂;
          vars₁ = vars₂;
          left₁ = l.left₁ - 1;
          stands = stands_moved b g.stands sign_at.inside;
          enough = omega (arith, l.enough, above);
          got = λ s' names' item' v f a same. l.got s' names' item' v f
              (rw one (cell_first text rest from base l.known₁ l.vars₁ d s₁ item₁ depth few (l.left₁ - 1) s₂ names₂ item₂ w e t p g s₃ s' names' item'
              (compound_word (item_place base e.compounds)) (compound_word (item_place base d.compounds)) f kept
              (behind_comma s' names' item' (Ok (compound_word (item_place base e.compounds), f)) a) refl))
              same;
          unread = λ u s' names' item' a. l.unread u s' names' item'
              (one_more u s' names' item' (tail_unread text rest from base l.known₁ l.vars₁ d s₁ item₁ depth few (l.left₁ - 1) s₂ names₂ item₂ w e t p g u s₃ s' names' item'
              only (behind_comma s' names' item' (Err u) a)));
        }

      -- It is the last one: its tail is read, and its cell stored.
      linked_cell : (s₃ names₃ item₃ s₄ : List ℕ) (v cell_word : ℕ) (f : Cursor)
          → ReadIs (λ (t : Term). t) rest_of_list text rest from base known₂ vars₂ e s₂ item₂ s₃ names₃ item₃ (Ok (v, f))
          → s₄ ≡ cell_stored base d.compounds w v s₃ → cell_word ≡ compound_word (item_place base c.compounds)
          → ReadIs (λ (t : Term). t) (elements (term depth) left) text rest from base known vars c s item s₄ names₃ item₃ (Ok (cell_word, f))
      linked_cell s₃ names₃ item₃ s₄ v cell_word f a kept word =
          l.got s₄ names₃ item₃ cell_word f
          (rw one (cell_behind text rest from base l.known₁ l.vars₁ d s₁ item₁ depth few (l.left₁ - 1) s₂ names₂ item₂ w e t p g s₃ names₃ item₃ s₄ v
          (compound_word (item_place base d.compounds)) f a kept refl))
          word

      -- Its tail is the term behind a `|`.
      module _ (b : ℕ) (sign_at : SignAt rest e.at 124 b) (s₃ names₃ item₃ : List ℕ) where
        behind_bar : (r : Result (ℕ × Cursor) Unread) → ReadIs (λ (t : Term). t) (closed (term depth)) text rest from base known₂ vars₂ (moved_to e b) s₂ item₂ s₃ names₃ item₃ r
            → ReadIs (λ (t : Term). t) rest_of_list text rest from base known₂ vars₂ e s₂ item₂ s₃ names₃ item₃ r
        behind_bar r =
            sign_read text rest from base s₂ s₃ names₃ item₃ rest_of_list (closed (term depth)) known₂ vars₂ e 124 b names₂ item₂ r sign_at refl g.stands
            (tail_closed (term depth) others)

        pub linked_last : (s₄ : List ℕ) (v cell_word : ℕ) (f : Cursor)
            → ReadIs (λ (t : Term). t) (closed (term depth)) text rest from base known₂ vars₂ (moved_to e b) s₂ item₂ s₃ names₃ item₃ (Ok (v, f))
            → s₄ ≡ cell_stored base d.compounds w v s₃ → cell_word ≡ compound_word (item_place base c.compounds)
            → ReadIs (λ (t : Term). t) (elements (term depth) left) text rest from base known vars c s item s₄ names₃ item₃ (Ok (cell_word, f))
        linked_last s₄ v cell_word f a = linked_cell s₃ names₃ item₃ s₄ v cell_word f (behind_bar (Ok (v, f)) a)

        pub linked_last_unread : (u : Unread)
            → ReadIs (λ (t : Term). t) (closed (term depth)) text rest from base known₂ vars₂ (moved_to e b) s₂ item₂ s₃ names₃ item₃ (Err u)
            → ReadIs (λ (t : Term). t) (elements (term depth) left) text rest from base known vars c s item s₃ names₃ item₃ (Err u)
        linked_last_unread u a =
            l.unread u s₃ names₃ item₃
            (one_more u s₃ names₃ item₃ (tail_unread text rest from base l.known₁ l.vars₁ d s₁ item₁ depth few (l.left₁ - 1) s₂ names₂ item₂ w e t p g u s₂ s₃ names₃ item₃
            (only_same (item_start base) (item_end base) s₂) (behind_bar (Err u) a)))

      -- Its tail is `[]`, or none of the three signs comes next.
      pub linked_closed : (b : ℕ) → SignAt rest e.at 93 b → (s₃ : List ℕ) (cell_word : ℕ)
          → s₃ ≡ cell_stored base d.compounds w 5 s₂ → cell_word ≡ compound_word (item_place base c.compounds)
          → ReadIs (λ (t : Term). t) (elements (term depth) left) text rest from base known vars c s item s₃ names₂ item₂ (Ok (cell_word, moved_to e b))
      linked_closed b sign_at s₃ cell_word =
          linked_cell s₂ names₂ item₂ s₃ 5 cell_word (moved_to e b)
          (tail_third text rest from base known₂ vars₂ e s₂ names₂ item₂ (term depth) others b g.stands sign_at)

      pub linked_stop : (m : Misplaced) → StopsAt (one_of (44 ∷ 124 ∷ 93 ∷ [])) rest e.at m
          → ReadIs (λ (t : Term). t) (elements (term depth) left) text rest from base known vars c s item s₂ names₂ item₂ (Err (Malformed m.0))
      linked_stop m stops =
          l.unread (Malformed m.0) s₂ names₂ item₂
          (rw one (tail_unread text rest from base l.known₁ l.vars₁ d s₁ item₁ depth few (l.left₁ - 1) s₂ names₂ item₂ w e t p g (Malformed m.0) s₂ s₂ names₂ item₂
          (only_same (item_start base) (item_end base) s₂) (tail_other text rest from base known₂ vars₂ e s₂ names₂ item₂ (term depth) others m stops)))
