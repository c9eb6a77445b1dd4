-- The elements of a list: an element and its tail make a list cell; the tail behind a sign; the last tail with its closing bracket.
use Rattle.std.specs.Prelude.{Ok, Err}
use Prim.Native.Nat.{ℕ, zero, suc, ◌+◌, ◌≤◌, ◌<◌, min}
use mathlib.Core.Path.{◌≡◌, refl, ap, sym, ◌∙◌}
use mathlib.Core.List.{List, [], ◌∷◌, ◌++◌}
use native.Mathlib.Omega.{arith}
use lib.ListN.{get_or, set}
use Rattle.meaning.specs.Bytes.{Bytes}
use Rattle.meaning.specs.Terms.{empty, cell, Term, compound, end, more, count, occurrences, all_occurrences}
use Rattle.meaning.specs.Tokens.{Tokens}
use Rattle.meaning.specs.Items.{Counted, Reader, read, read_on, give, begins_term, next, tail_of, elements, term}
use Rattle.term.specs.Cells.{term_word, stored, arguments_stored, Numbered, AllNumbered, Known, AllKnown}
use Rattle.term.specs.Frames.{Only}
use Rattle.term.proofs.Frames.{only_same, only_set, only_then}
use Rattle.term.proofs.Cells.{numbered_order, stored_set}
use Rattle.term.specs.Layout.{item_start, item_end, item_place}
use Rattle.term.specs.Words.{compound_word}
use Rattle.load_tokens.specs.Fronts.{tokens_in}
use Rattle.load_names.specs.Places.{Place, Placed, names_over, variables_over, item_places}
use Rattle.load_tokens.specs.Nexts.{SignAt, StopsAt, Goes, one_of}
use Rattle.load_tokens.specs.declared.next.Misplaced.{Misplaced}
use Rattle.load_openings.specs.Reading.{piece, counted_at, half_place, Stands, Gave, ReadIs, closed}
use Rattle.load_openings.specs.declared.cursor.Cursor.{Cursor}
use Rattle.load_openings.specs.declared.cursor.Unread.{Unread}
use Rattle.load_openings.specs.declared.cursor.Unread.TheVariants.{Malformed, Exceeded}
use Rattle.load_openings.proofs.Passing.{piece_stops, piece_goes}
use Rattle.load_openings.proofs.Expected.{tail_stops}
use Rattle.load_terms.proofs.Arms.{elements_cannot, elements_many, elements_term, elements_none, elements_none_cannot, tail_empty, closed_malformed, closed_passed, closed_read, closed_stop}
use Rattle.load_openings.proofs.Moves.{moves_then, moves_sign, sign_placed, piece_sign, moved_to, counted_one, stands_moved, word_later, stored_later, known_later, once, twice, half_small}
use Rattle.load_openings.proofs.Given.{gave_by, gave_moves, gave_only}

-- The words of the list cell n: its element's, its tail's and its functor.
abbrev pub cell_stored : (base n w v : ℕ) → List ℕ → List ℕ
cell_stored base n w v s = set (set (set s (item_place base n + 1 + 0) w) (item_place base n + 1 + 1) v) (item_place base n) 2

pub cell_only : (base n w v : ℕ) (s : List ℕ) → n < 32 → Only (item_start base) (item_end base) s (cell_stored base n w v s)
cell_only base n w v s few =
    let lo = item_start base in
    let hi = item_end base in
    let here = item_place base n in
    let s₁ = set s (here + 1 + 0) w in
    let s₂ = set s₁ (here + 1 + 1) v in
    only_then lo hi s s₁ (set s₂ here 2) (only_set lo hi s (here + 1 + 0) w (omega arith) (omega arith))
    (only_then lo hi s₁ s₂ (set s₂ here 2) (only_set lo hi s₁ (here + 1 + 1) v (omega arith) (omega arith))
    (only_set lo hi s₂ here 2 (omega arith) (omega arith)))

-- A cell before the compounds of a term may be stored before or behind them.
cell_then_stored : (known : List Place) (base n w v lo hi : ℕ) (t : Term) (s : List ℕ) → Numbered lo hi t → n + 1 ≤ lo
    → stored (item_places known base) t (cell_stored base n w v s) ≡ cell_stored base n w v (stored (item_places known base) t s)
unfolding item_places
cell_then_stored known base n w v lo hi t s m below =
    let here = item_place base n in
    let s₁ = set s (here + 1 + 0) w in
    let s₂ = set s₁ (here + 1 + 1) v in
    let past = stored_set (item_places known base) base (λ k. refl) lo hi t in
    past s₂ here 2 m (λ j low high same. omega arith)
    ∙ ap (λ l. set l here 2) (past s₁ (here + 1 + 1) v m (λ j low high same. omega arith))
    ∙ ap (λ l. set (set l (here + 1 + 1) v) here 2) (past s (here + 1 + 0) w m (λ j low high same. omega arith))

module _ (text rest : Bytes) (from base : ℕ) (known vars : List Place) (c : Cursor) (s item : List ℕ) (element : Reader Term) where
  -- The first token cannot begin a term.
  pub start_cannot : (names : List ℕ) (left : ℕ) (m : Misplaced) → StopsAt begins_term rest c.at m
      → ReadIs (λ (t : Term). t) (elements element left) text rest from base known vars c s item s names item (Err (Malformed m.0))
  start_cannot names zero m stops = (
    elements_none_cannot element (from + m.0) (counted_at known vars c.compounds) (piece (tokens_in from rest c.at))
        (piece_stops begins_term (from + m.0) (tokens_in from rest c.at) (stops.1 from)),
    stops.0,
    only_same (item_start base) (item_end base) s,
  )
  start_cannot names (suc left) m stops = (
    elements_cannot element left known vars c.compounds (piece (tokens_in from rest c.at)) (from + m.0)
        (piece_stops begins_term (from + m.0) (tokens_in from rest c.at) (stops.1 from)),
    stops.0,
    only_same (item_start base) (item_end base) s,
  )

  module _ (goes : (from : ℕ) → Goes begins_term (tokens_in from rest c.at)) where
    goes_on : Goes begins_term (piece (tokens_in from rest c.at))
    goes_on = piece_goes begins_term (tokens_in from rest c.at) (goes from)

    -- The 33rd compound.
    pub element_many : (names : List ℕ) (left : ℕ) → 32 ≤ c.compounds
        → ReadIs (λ (t : Term). t) (elements element left) text rest from base known vars c s item s names item (Err Exceeded)
    element_many names zero many = (
      elements_none element (counted_at known vars c.compounds) (piece (tokens_in from rest c.at)) goes_on,
      only_same (item_start base) (item_end base) s,
    )
    element_many names (suc left) many = (
      elements_many element left known vars c.compounds (piece (tokens_in from rest c.at)) goes_on many,
      only_same (item_start base) (item_end base) s,
    )

-- An element, read by its first token on, and its tail: of a token that cannot begin a term the term's reader says the same.
module _ (text rest : Bytes) (from base : ℕ) (known vars : List Place) (c : Cursor) (s item : List ℕ) (depth : ℕ) where
  abbrev element : Reader Term
  element = term depth

  module _ (few : c.compounds < 32) (left : ℕ) where
    over : elements element (suc left) (counted_at known vars c.compounds) (piece (tokens_in from rest c.at))
        ≡ read_on (element (counted_at known vars (c.compounds + 1)) (piece (tokens_in from rest c.at)))
        (λ (t : Term) (counted : Counted) (behind : Tokens). read_on (next (tail_of element (elements element left)) counted behind)
        (λ (tail : Term). give (compound c.compounds cell (more t (more tail end)))))
    over = elements_term depth left known vars c.compounds few (piece (tokens_in from rest c.at))

    -- The element is not read.
    pub element_unread : (u : Unread) (s₁ names₁ item₁ : List ℕ)
        → ReadIs (λ (t : Term). t) element text rest from base known vars (counted_one c) s item s₁ names₁ item₁ (Err u)
        → ReadIs (λ (t : Term). t) (elements element (suc left)) text rest from base known vars c s item s₁ names₁ item₁ (Err u)
    unfolding read_on
    element_unread (Malformed place) s₁ names₁ item₁ g = (over ∙ rw g.0, g.1, g.2)
    element_unread Exceeded s₁ names₁ item₁ g = (over ∙ rw g.0, g.1)

    -- The element was read; then its tail.
    module _ (s₁ names₁ item₁ : List ℕ) (w : ℕ) (e : Cursor) (t : Term) (p : List Placed)
        (g : Gave (λ (t : Term). t) element text rest from base known vars (counted_one c) s item s₁ names₁ item₁ w e t p) where
      abbrev known₁ : List Place
      known₁ = names_over p known

      abbrev vars₁ : List Place
      vars₁ = variables_over from p vars

      abbrev rest_of_list : Reader Term
      rest_of_list = next (tail_of element (elements element left))

      pub tail_unread : (u : Unread) (s₂ s₃ names₃ item₃ : List ℕ) → Only (item_start base) (item_end base) s₁ s₂
          → ReadIs (λ (t : Term). t) rest_of_list text rest from base known₁ vars₁ e s₂ item₁ s₃ names₃ item₃ (Err u)
          → ReadIs (λ (t : Term). t) (elements element (suc left)) text rest from base known vars c s item s₃ names₃ item₃ (Err u)
      unfolding read_on
      tail_unread (Malformed place) s₂ s₃ names₃ item₃ only a = (
        over ∙ rw (g.reads, a.0),
        a.1,
        only_then (item_start base) (item_end base) s s₁ s₃ (gave_only g) (only_then (item_start base) (item_end base) s₁ s₂ s₃ only a.2),
      )
      tail_unread Exceeded s₂ s₃ names₃ item₃ only a = (
        over ∙ rw (g.reads, a.0),
        only_then (item_start base) (item_end base) s s₁ s₃ (gave_only g) (only_then (item_start base) (item_end base) s₁ s₂ s₃ only a.1),
      )

      -- Both are read, and the cell's words are stored over those of its element and its tail.
      tail_got : (s₂ s₃ names₃ item₃ s₄ : List ℕ) (v cell_word : ℕ) (d : Cursor) (tail : Term) (q : List Placed)
          → Gave (λ (t : Term). t) rest_of_list text rest from base known₁ vars₁ e s₂ item₁ s₃ names₃ item₃ v d tail q
          → s₄ ≡ cell_stored base c.compounds w v (stored (item_places (names_over q known₁) base) tail s₁)
          → cell_word ≡ compound_word (item_place base c.compounds)
          → ReadIs (λ (t : Term). t) (elements element (suc left)) text rest from base known vars c s item s₄ names₃ item₃ (Ok (cell_word, d))
      unfolding read_on give item_places stored arguments_stored Numbered AllNumbered Known AllKnown occurrences all_occurrences count
      tail_got s₂ s₃ names₃ item₃ s₄ v cell_word d tail q h kept word =
          let here = item_place base c.compounds in
          let places = item_places (names_over q known₁) base in
          let m = moves_then from rest c.at e.at d.at known vars known₁ vars₁ (names_over q known₁) (variables_over from q vars₁) p q
          (gave_moves g) (gave_moves h) in
          let above : c.compounds + 1 ≤ e.compounds = numbered_order (c.compounds + 1) e.compounds t g.numbered in
          let first : set s₁ (here + 1 + 0) w ≡ set (stored places t s) (here + 1 + 0) (term_word places t) =
          rw (stored_later known₁ q base t s g.known_names, word_later known₁ q base t g.known_names)
          (ap (λ l. set l (here + 1 + 0) w) g.stored_is
          ∙ ap (λ x. set (stored (item_places known₁ base) t s) (here + 1 + 0) x) g.word_is) in
          let before_tail : set (stored places tail s₁) (here + 1 + 0) w ≡ stored places tail (set (stored places t s) (here + 1 + 0) (term_word places t)) =
          sym (stored_set places base (λ n. refl) e.compounds d.compounds tail s₁ (here + 1 + 0) w h.numbered (λ j low high same. omega arith))
          ∙ ap (stored places tail) first in (
            compound c.compounds cell (more t (more tail end)),
            p ++ q,
            gave_by (names_over q known₁) (variables_over from q vars₁) m
                (over ∙ rw (g.reads, h.reads))
                h.stands
                word
                (kept ∙ ap (λ l. set (set l (here + 1 + 1) v) here 2) before_tail
                ∙ ap (λ x. set (set (stored places tail (set (stored places t s) (here + 1 + 0) (term_word places t))) (here + 1 + 1) x) here 2) h.word_is)
                (refl, omega arith, (e.compounds, g.numbered, (d.compounds, h.numbered, omega arith)))
                (tt, (known_later known₁ q base t g.known_names, (h.known_names, tt)))
                (λ k n b. h.halves k n b ∙ ap (λ z. min 2 (z + occurrences k n tail)) (g.halves k n b)
                ∙ twice (get_or item (half_place k n) 0) (occurrences k n t) (occurrences k n tail)
                ∙ ap (λ z. min 2 (get_or item (half_place k n) 0 + z)) (omega arith)),
          )

      -- The cell's words are stored behind its tail's.
      pub cell_behind : (s₂ names₂ item₂ s₃ : List ℕ) (v cell_word : ℕ) (d : Cursor)
          → ReadIs (λ (t : Term). t) rest_of_list text rest from base known₁ vars₁ e s₁ item₁ s₂ names₂ item₂ (Ok (v, d))
          → s₃ ≡ cell_stored base c.compounds w v s₂
          → cell_word ≡ compound_word (item_place base c.compounds)
          → ReadIs (λ (t : Term). t) (elements element (suc left)) text rest from base known vars c s item s₃ names₂ item₂ (Ok (cell_word, d))
      cell_behind s₂ names₂ item₂ s₃ v cell_word d a kept word =
          tail_got s₁ s₂ names₂ item₂ s₃ v cell_word d a.0 a.1 a.2
          (kept ∙ ap (cell_stored base c.compounds w v) a.2.stored_is) word

      -- The cell's words are stored first, its tail's known beforehand.
      pub cell_first : (s₂ s₃ names₃ item₃ : List ℕ) (v cell_word : ℕ) (d : Cursor)
          → s₂ ≡ cell_stored base c.compounds w v s₁
          → ReadIs (λ (t : Term). t) rest_of_list text rest from base known₁ vars₁ e s₂ item₁ s₃ names₃ item₃ (Ok (v, d))
          → cell_word ≡ compound_word (item_place base c.compounds)
          → ReadIs (λ (t : Term). t) (elements element (suc left)) text rest from base known vars c s item s₃ names₃ item₃ (Ok (cell_word, d))
      cell_first s₂ s₃ names₃ item₃ v cell_word d kept a word =
          let places = item_places (names_over a.1 known₁) base in
          tail_got s₂ s₃ names₃ item₃ s₃ v cell_word d a.0 a.1 a.2
          (a.2.stored_is ∙ ap (stored places a.0) kept
          ∙ cell_then_stored (names_over a.1 known₁) base c.compounds w v e.compounds d.compounds a.0 s₁ a.2.numbered
          (numbered_order (c.compounds + 1) e.compounds t g.numbered))
          word

-- The tail behind an element: `[]`, or none of its three signs.
module _ (text rest : Bytes) (from base : ℕ) (known vars : List Place) (c : Cursor) (s names item : List ℕ) (element others : Reader Term) where
  pub tail_third : (b : ℕ) → Stands text rest from names item c known vars → SignAt rest c.at 93 b
      → ReadIs (λ (t : Term). t) (next (tail_of element others)) text rest from base known vars c s item s names item (Ok (5, moved_to c b))
  unfolding item_places stored Numbered Known occurrences
  tail_third b stands sign_at =
      let m = moves_sign from rest c.at 93 b known vars sign_at refl in (
        Term.constant empty,
        sign_placed from rest sign_at ∷ [],
        gave_by known vars m
            (ap (next (tail_of element others) (counted_at known vars c.compounds)) (piece_sign from rest c.at 93 b sign_at refl)
            ∙ tail_empty element others (counted_at known vars c.compounds) (from + sign_at.place) (piece (tokens_in from rest b)))
            (stands_moved b stands sign_at.inside)
            refl
            refl
            (omega arith)
            tt
            (λ h n few. once (get_or item (half_place h n) 0) (half_small stands.variables_in h n few)),
      )

  pub tail_other : (m : Misplaced) → StopsAt (one_of (44 ∷ 124 ∷ 93 ∷ [])) rest c.at m
      → ReadIs (λ (t : Term). t) (next (tail_of element others)) text rest from base known vars c s item s names item (Err (Malformed m.0))
  tail_other m stops = (
    tail_stops (counted_at known vars c.compounds) element others (from + m.0) (piece (tokens_in from rest c.at))
        (piece_stops (one_of (44 ∷ 124 ∷ 93 ∷ [])) (from + m.0) (tokens_in from rest c.at) (stops.1 from)),
    stops.0,
    only_same (item_start base) (item_end base) s,
  )

-- The last tail, and its closing bracket.
module _ (text rest : Bytes) (from base : ℕ) (known vars : List Place) (c : Cursor) (s item s₁ names₁ item₁ : List ℕ) (element : Reader Term) where
  pub last_unread : (u : Unread) → ReadIs (λ (t : Term). t) element text rest from base known vars c s item s₁ names₁ item₁ (Err u)
      → ReadIs (λ (t : Term). t) (closed element) text rest from base known vars c s item s₁ names₁ item₁ (Err u)
  last_unread (Malformed place) g =
      (closed_malformed element (counted_at known vars c.compounds) (piece (tokens_in from rest c.at)) (from + place) g.0, g.1, g.2)
  last_unread Exceeded g = (closed_passed element (counted_at known vars c.compounds) (piece (tokens_in from rest c.at)) g.0, g.1)

  module _ (w : ℕ) (e : Cursor) (t : Term) (p : List Placed)
      (g : Gave (λ (t : Term). t) element text rest from base known vars c s item s₁ names₁ item₁ w e t p) where
    pub last_other : (m : Misplaced) → StopsAt (one_of (93 ∷ [])) rest e.at m
        → ReadIs (λ (t : Term). t) (closed element) text rest from base known vars c s item s₁ names₁ item₁ (Err (Malformed m.0))
    last_other m stops = (
      closed_stop element (counted_at known vars c.compounds) (piece (tokens_in from rest c.at)) t
          (counted_at (names_over p known) (variables_over from p vars) e.compounds) (from + m.0) (piece (tokens_in from rest e.at)) g.reads
          (piece_stops (one_of (93 ∷ [])) (from + m.0) (tokens_in from rest e.at) (stops.1 from)),
      stops.0,
      gave_only g,
    )

    pub last_got : (b : ℕ) → SignAt rest e.at 93 b
        → ReadIs (λ (t : Term). t) (closed element) text rest from base known vars c s item s₁ names₁ item₁ (Ok (w, moved_to e b))
    last_got b sign_at =
        let known₁ = names_over p known in
        let vars₁ = variables_over from p vars in
        let m = moves_then from rest c.at e.at b known vars known₁ vars₁ known₁ vars₁ p (sign_placed from rest sign_at ∷ []) (gave_moves g)
        (moves_sign from rest e.at 93 b known₁ vars₁ sign_at refl) in (
          t,
          p ++ (sign_placed from rest sign_at ∷ []),
          gave_by known₁ vars₁ m
              (closed_read element (counted_at known vars c.compounds) (piece (tokens_in from rest c.at)) t (counted_at known₁ vars₁ e.compounds)
              (from + sign_at.place) (piece (tokens_in from rest b))
              (g.reads ∙ ap (λ ts. read t (counted_at known₁ vars₁ e.compounds) ts) (piece_sign from rest e.at 93 b sign_at refl)))
              (stands_moved b g.stands sign_at.inside)
              g.word_is
              g.stored_is
              g.numbered
              g.known_names
              g.halves,
        )
