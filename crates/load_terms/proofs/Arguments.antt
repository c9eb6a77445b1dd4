-- The arguments of a compound: one more in front of those behind it, the last one, or an argument that stops; and the compound itself.
use Rattle.std.specs.Prelude.{Result, Ok, Err}
use Prim.Native.Nat.{ℕ, suc, ◌+◌, ◌-◌, ◌≤◌, ◌<◌, min}
use mathlib.Core.Path.{◌≡◌, refl, ap, ◌∙◌}
use mathlib.Core.List.{List, [], ◌∷◌, ◌++◌}
use mathlib.Core.Option.{some}
use native.Mathlib.Omega.{arith}
use lib.ListN.{get_or, set}
use Rattle.meaning.specs.Bytes.{Bytes}
use Rattle.meaning.specs.Terms.{Term, Terms, end, more, count, as_term, occurrences, all_occurrences}
use Rattle.meaning.specs.Items.{Reader, read, read_on, give, begins_term, place_of, arguments, compound_of}
use Rattle.term.specs.Cells.{number_of, stored, arguments_stored, Numbered, AllNumbered, Known, AllKnown}
use Rattle.term.specs.Frames.{Only}
use Rattle.term.proofs.Frames.{only_same, only_set, only_then}
use Rattle.term.proofs.Cells.{numbered_order}
use Rattle.term.proofs.Names.{known_name_more, number_of_more}
use Rattle.term.specs.Layout.{item_start, item_end, item_place}
use Rattle.term.specs.Words.{compound_word, packed}
use Rattle.load_tokens.specs.Fronts.{tokens_in}
use Rattle.load_names.specs.Places.{Place, Placed, spellings, names_over, variables_over, item_places}
use Rattle.load_tokens.specs.Nexts.{SignAt, StopsAt, Goes, one_of}
use Rattle.load_tokens.specs.declared.next.Misplaced.{Misplaced}
use Rattle.load_openings.specs.Reading.{piece, counted_at, half_place, Gave, ReadIs, ArgumentsAre}
use Rattle.load_openings.specs.declared.cursor.Cursor.{Cursor}
use Rattle.load_openings.specs.declared.cursor.Unread.{Unread}
use Rattle.load_openings.specs.declared.cursor.Unread.{Unread}
use Rattle.load_openings.specs.declared.cursor.Unread.TheVariants.{Malformed, Exceeded}
use Rattle.load_names.proofs.Numbering.{placed}
use Rattle.load_openings.proofs.Passing.{names_more, piece_stops, piece_goes}
use Rattle.load_terms.proofs.Arms.{
  arguments_malformed,
  arguments_passed,
  arguments_more,
  arguments_last,
  arguments_stop,
  arguments_many,
  arguments_cannot,
  compound_many,
  compound_over,
}
use Rattle.load_openings.proofs.Moves.{moves_then, moves_sign, sign_placed, piece_sign, moved_to, counted_one, stands_moved, word_later, stored_later, known_later, twice}
use Rattle.load_openings.proofs.Given.{gave_moves, gave_only}

module _ (text rest : Bytes) (from base : ℕ) (known vars : List Place) (c : Cursor) (s item : List ℕ) (argument : Reader Term) (n i : ℕ)
    (inside : i < 6) where
  six : 6 - i ≡ suc (5 - i)
  six = omega arith

  six' : 6 - (i + 1) ≡ 5 - i
  six' = omega arith

  -- The argument itself is not read.
  pub argument_unread : (u : Unread) (s' names' item' : List ℕ)
      → ReadIs (λ (t : Term). t) argument text rest from base known vars c s item s' names' item' (Err u)
      → ArgumentsAre n i (arguments argument (6 - i)) text rest from base known vars c s item s' names' item' (Err u)
  argument_unread (Malformed place) s' names' item' g =
      (rw six (arguments_malformed argument (5 - i) (counted_at known vars c.compounds) (piece (tokens_in from rest c.at)) (from + place) g.0), g.1, g.2)
  argument_unread Exceeded s' names' item' g =
      (rw six (arguments_passed argument (5 - i) (counted_at known vars c.compounds) (piece (tokens_in from rest c.at)) g.0), g.1)

  -- The argument was read, and its word stored.
  module _ (behind : n < c.compounds) (s₁ names₁ item₁ s₂ : List ℕ) (w : ℕ) (e : Cursor) (t : Term) (p : List Placed)
      (g : Gave (λ (t : Term). t) argument text rest from base known vars c s item s₁ names₁ item₁ w e t p)
      (kept : s₂ ≡ set s₁ (item_place base n + 1 + i) w) where
    abbrev known₁ : List Place
    known₁ = names_over p known

    abbrev vars₁ : List Place
    vars₁ = variables_over from p vars

    pub argument_only : Only (item_start base) (item_end base) s s₂
    argument_only =
        let few : e.compounds ≤ 32 = g.stands.compounds_few in
        let order : c.compounds ≤ e.compounds = numbered_order c.compounds e.compounds t g.numbered in
        rw kept
        (only_then (item_start base) (item_end base) s s₁ (set s₁ (item_place base n + 1 + i) w) (gave_only g)
        (only_set (item_start base) (item_end base) s₁ (item_place base n + 1 + i) w (omega arith) (omega arith)))

    -- Neither sign comes next.
    pub argument_stop : (m : Misplaced) → StopsAt (one_of (44 ∷ 41 ∷ [])) rest e.at m
        → ArgumentsAre n i (arguments argument (6 - i)) text rest from base known vars c s item s₂ names₁ item₁ (Err (Malformed m.0))
    argument_stop m stops = (
      rw six
          (arguments_stop argument (5 - i) (counted_at known vars c.compounds) (piece (tokens_in from rest c.at)) t
          (counted_at known₁ vars₁ e.compounds) (from + m.0) (piece (tokens_in from rest e.at)) g.reads
          (piece_stops (one_of (44 ∷ 41 ∷ [])) (from + m.0) (tokens_in from rest e.at) (stops.1 from))),
      stops.0,
      argument_only,
    )

    -- It is the last one.
    pub argument_last : (b : ℕ) → SignAt rest e.at 41 b
        → ArgumentsAre n i (arguments argument (6 - i)) text rest from base known vars c s item s₂ names₁ item₁ (Ok (i + 1, moved_to e b))
    unfolding arguments_stored AllNumbered AllKnown count all_occurrences item_places
    argument_last b sign_at =
        let m = moves_then from rest c.at e.at b known vars known₁ vars₁ known₁ vars₁ p (sign_placed from rest sign_at ∷ []) (gave_moves g)
        (moves_sign from rest e.at 41 b known₁ vars₁ sign_at refl) in (
          more t end,
          p ++ (sign_placed from rest sign_at ∷ []),
          record {
            reads = rw (m.names, m.variables, six)
                (arguments_last argument (5 - i) (counted_at known vars c.compounds) (piece (tokens_in from rest c.at)) t
                (counted_at known₁ vars₁ e.compounds) (from + sign_at.place) (piece (tokens_in from rest b))
                (g.reads ∙ ap (λ ts. read t (counted_at known₁ vars₁ e.compounds) ts) (piece_sign from rest e.at 41 b sign_at refl)));
            follows = m.follows;
            stands = rw (m.names, m.variables) (stands_moved b g.stands sign_at.inside);
            count_is = omega arith;
            few = omega arith;
            stored_is = rw m.names (kept ∙ ap (λ l. set l (item_place base n + 1 + i) w) g.stored_is ∙ ap (λ v. set (stored (item_places known₁ base) t s) (item_place base n + 1 + i) v) g.word_is);
            numbered = (e.compounds, g.numbered, omega arith);
            known_names = rw m.names (g.known_names, tt);
            no_stop = m.no_stop;
            halves = λ h k few. g.halves h k few ∙ ap (λ z. min 2 (get_or item (half_place h k) 0 + z)) (omega arith);
          },
        )

    step : (b : ℕ) (sign_at : SignAt rest e.at 44 b)
        → arguments argument (suc (5 - i)) (counted_at known vars c.compounds) (piece (tokens_in from rest c.at))
        ≡ read_on (arguments argument (5 - i) (counted_at known₁ vars₁ e.compounds) (piece (tokens_in from rest b))) (λ (others : Terms). give (more t others))
    step b sign_at =
        arguments_more argument (5 - i) (counted_at known vars c.compounds) (piece (tokens_in from rest c.at)) t
        (counted_at known₁ vars₁ e.compounds) (from + sign_at.place) (piece (tokens_in from rest b))
        (g.reads ∙ ap (λ ts. read t (counted_at known₁ vars₁ e.compounds) ts) (piece_sign from rest e.at 44 b sign_at refl))

    -- Others follow.
    pub argument_more : (b : ℕ) (sign_at : SignAt rest e.at 44 b) (s₃ names₃ item₃ : List ℕ) (r : Result (ℕ × Cursor) Unread)
        → ArgumentsAre n (i + 1) (arguments argument (6 - (i + 1))) text rest from base (names_over p known) (variables_over from p vars)
        (moved_to e b) s₂ item₁ s₃ names₃ item₃ r
        → ArgumentsAre n i (arguments argument (6 - i)) text rest from base known vars c s item s₃ names₃ item₃ r
    unfolding arguments_stored AllNumbered AllKnown count all_occurrences item_places read_on give
    argument_more b sign_at s₃ names₃ item₃ (Ok (w₃, c₃)) a =
        let ts = a.0 in
        let q = a.1 in
        let g₃ = a.2 in
        let m₁ = moves_then from rest c.at e.at b known vars known₁ vars₁ known₁ vars₁ p (sign_placed from rest sign_at ∷ []) (gave_moves g)
        (moves_sign from rest e.at 44 b known₁ vars₁ sign_at refl) in
        let m = moves_then from rest c.at b c₃.at known vars known₁ vars₁ (names_over q known₁) (variables_over from q vars₁)
        (p ++ (sign_placed from rest sign_at ∷ [])) q m₁
        (record { follows = g₃.follows; names = refl; variables = refl; no_stop = g₃.no_stop }) in (
          more t ts,
          (p ++ (sign_placed from rest sign_at ∷ [])) ++ q,
          record {
            reads = rw (m.names, m.variables, six)
                (step b sign_at ∙ rw (rw six' at g₃.reads));
            follows = m.follows;
            stands = rw (m.names, m.variables) g₃.stands;
            count_is = omega (arith, g₃.count_is);
            few = omega (arith, g₃.few);
            stored_is = rw (m.names, stored_later known₁ q base t s g.known_names, word_later known₁ q base t g.known_names)
                (g₃.stored_is ∙ ap (λ l. arguments_stored (item_places (names_over q known₁) base) n (i + 1) ts l)
                (kept ∙ ap (λ l. set l (item_place base n + 1 + i) w) g.stored_is ∙ ap (λ v. set (stored (item_places known₁ base) t s) (item_place base n + 1 + i) v) g.word_is));
            numbered = (e.compounds, g.numbered, g₃.numbered);
            known_names = rw m.names (known_later known₁ q base t g.known_names, g₃.known_names);
            no_stop = m.no_stop;
            halves = λ h k few. g₃.halves h k few ∙ ap (λ z. min 2 (z + all_occurrences h k ts)) (g.halves h k few)
                ∙ twice (get_or item (half_place h k) 0) (occurrences h k t) (all_occurrences h k ts);
          },
        )
    argument_more b sign_at s₃ names₃ item₃ (Err (Malformed place)) a =
        (rw six (step b sign_at ∙ rw (rw six' at a.0)), a.1, only_then (item_start base) (item_end base) s s₂ s₃ argument_only a.2)
    argument_more b sign_at s₃ names₃ item₃ (Err Exceeded) a =
        (rw six (step b sign_at ∙ rw (rw six' at a.0)), only_then (item_start base) (item_end base) s s₂ s₃ argument_only a.1)

-- The seventh argument's first token.
module _ (text rest : Bytes) (from base : ℕ) (known vars : List Place) (c : Cursor) (s item names : List ℕ) (argument : Reader Term) (n i : ℕ)
    (many : 6 ≤ i) where
  none_left : 6 - i ≡ 0
  none_left = omega arith

  pub seventh_passed : ((from : ℕ) → Goes begins_term (tokens_in from rest c.at))
      → ArgumentsAre n i (arguments argument (6 - i)) text rest from base known vars c s item s names item (Err Exceeded)
  seventh_passed goes = (
    rw none_left
        (arguments_many argument (counted_at known vars c.compounds) (piece (tokens_in from rest c.at)) (piece_goes begins_term (tokens_in from rest c.at) (goes from))),
    only_same (item_start base) (item_end base) s,
  )

  pub seventh_cannot : (m : Misplaced) → StopsAt begins_term rest c.at m
      → ArgumentsAre n i (arguments argument (6 - i)) text rest from base known vars c s item s names item (Err (Malformed m.0))
  seventh_cannot m stops = (
    rw none_left
        (arguments_cannot argument (from + m.0) (counted_at known vars c.compounds) (piece (tokens_in from rest c.at))
        (piece_stops begins_term (from + m.0) (tokens_in from rest c.at) (stops.1 from))),
    stops.0,
    only_same (item_start base) (item_end base) s,
  )

-- The compound over its arguments.
module _ (text rest : Bytes) (from base : ℕ) (known vars : List Place) (c : Cursor) (s item : List ℕ) (argument : Reader Term) (f : Bytes) where
  pub compound_none : (names : List ℕ) → 32 ≤ c.compounds
      → ReadIs as_term (compound_of argument f) text rest from base known vars c s item s names item (Err Exceeded)
  compound_none names many =
      (compound_many argument f known vars c.compounds (piece (tokens_in from rest c.at)) many, only_same (item_start base) (item_end base) s)

  module _ (few : c.compounds < 32) (s₁ names₁ item₁ : List ℕ) where
    over : compound_of argument f (counted_at known vars c.compounds) (piece (tokens_in from rest c.at))
        ≡ read_on (arguments argument 6 (counted_at known vars (c.compounds + 1)) (piece (tokens_in from rest c.at)))
        (λ (os : Terms). give (record { number = c.compounds; name = f; arguments = os }))
    over = compound_over argument f known vars c.compounds (piece (tokens_in from rest c.at)) few

    pub compound_unread : (u : Unread)
        → ArgumentsAre c.compounds 0 (arguments argument 6) text rest from base known vars (counted_one c) s item s₁ names₁ item₁ (Err u)
        → ReadIs as_term (compound_of argument f) text rest from base known vars c s item s₁ names₁ item₁ (Err u)
    unfolding read_on
    compound_unread (Malformed place) a = (over ∙ rw a.0, a.1, a.2)
    compound_unread Exceeded a = (over ∙ rw a.0, a.1)

    pub compound_got : (s₂ : List ℕ) (name w k : ℕ) (e : Cursor) → place_of f (spellings known) ≡ some name
        → ArgumentsAre c.compounds 0 (arguments argument 6) text rest from base known vars (counted_one c) s item s₁ names₁ item₁ (Ok (k, e))
        → s₂ ≡ set s₁ (item_place base c.compounds) (packed k (name + 1))
        → w ≡ compound_word (item_place base c.compounds)
        → ReadIs as_term (compound_of argument f) text rest from base known vars c s item s₂ names₁ item₁ (Ok (w, e))
    unfolding read_on give as_term item_places stored Numbered Known occurrences
    compound_got s₂ name w k e place a kept word =
        let ts = a.0 in
        let p = a.1 in
        let g = a.2 in
        let at = placed f (spellings known) name place in
        let later = names_more p known in
        let number : number_of f (spellings (names_over p known)) ≡ name =
        ap (number_of f) later.1 ∙ number_of_more f (spellings known) later.0 at.among ∙ at.number in
        let own : packed k (name + 1) ≡ packed (count ts) (number_of f (spellings (names_over p known)) + 1) = omega (arith, number, g.count_is) in (
          record { number = c.compounds; name = f; arguments = ts },
          p,
          record {
            reads = over ∙ rw g.reads;
            follows = g.follows;
            stands = g.stands;
            word_is = word;
            stored_is = kept ∙ ap (λ v. set s₁ (item_place base c.compounds) v) own
                ∙ ap (λ l. set l (item_place base c.compounds) (packed (count ts) (number_of f (spellings (names_over p known)) + 1))) g.stored_is;
            numbered = (refl, omega (arith, g.few), g.numbered);
            known_names = (rw later.1 (known_name_more f (spellings known) later.0 at.among), g.known_names);
            no_stop = g.no_stop;
            halves = g.halves;
          },
        )
