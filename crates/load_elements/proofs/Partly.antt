-- One element more behind those that have been read: its comma, its bar, its full stop, or what stops the reading.
use Prim.Native.Nat.{ℕ, suc, ◌+◌, ◌-◌, ◌≤◌, ◌<◌, min}
use mathlib.Core.Path.{◌≡◌, refl, ap, sym, ◌∙◌}
use mathlib.Core.Bool.{true}
use mathlib.Core.List.{List, [], ◌∷◌, ◌++◌, map}
use native.Mathlib.Omega.{arith}
use lib.ListN.{length, get_or, set}
use lib.Seq.{get_or-set_other}
use Rattle.std.specs.Prelude.{Err}
use Rattle.std.proofs.lemmas.Bool.Decides.{nat_tests}
use Rattle.std.proofs.lemmas.List.{length_push}
use Rattle.meaning.specs.Bytes.{Bytes, byte, among, when◌then◌else◌}
use Rattle.meaning.specs.Terms.{Half}
use Rattle.meaning.specs.Tokens.{sign, Tokens, ends, token}
use Rattle.meaning.specs.Table.{Element}
use Rattle.meaning.specs.Items.{Counted, read, is, body}
use Rattle.term.specs.Frames.{Only}
use Rattle.term.specs.Layout.{item_start, item_end}
use Rattle.term.proofs.Frames.{only_same, only_then}
use Rattle.load_tokens.specs.Fronts.{tokens_in, double_sign, behind}
use Rattle.load_tokens.specs.Nexts.{SignAt, one_of, Stops}
use Rattle.load_names.specs.Places.{Place, Placed, spellings, before, names_over, variables_over, item_places}
use Rattle.load_openings.specs.Reading.{piece, counted_at, half_place, Stands, Open}
use Rattle.load_openings.specs.declared.cursor.Cursor.{Cursor}
use Rattle.load_openings.specs.declared.cursor.Unread.{Unread}
use Rattle.load_openings.specs.declared.cursor.Unread.TheVariants.{Malformed, Exceeded}
use Rattle.load_openings.proofs.Expected.{piece_stop}
use Rattle.load_openings.proofs.Moves.{Moves, moves_then, moves_sign, sign_placed, piece_sign, moved_to, stands_moved, once, half_small}
use Rattle.load_openings.proofs.Passing.{names_more, piece_stops}
use Rattle.load_elements.specs.Elements.{element_word, elements_stored, elements_occurrences, ElementsNumbered, ElementsKnown, GaveElement, ElementIs}
use Rattle.load_elements.specs.Listed.{GaveElements, AtBar, AtStop, ElementsAre}
use Rattle.load_elements.specs.Sides.{NinthIs}
use Rattle.load_elements.proofs.Bodies.{body_malformed, body_passed, body_comma, body_bar, body_stop, body_other}
use Rattle.load_elements.proofs.Lists.{
  stored_snoc,
  occurrences_snoc,
  known_snoc,
  numbered_snoc,
  still_known,
  still_stored,
  still_words,
  element_only,
  words_snoc,
}

-- Neither the bar nor the full stop.
pub comma_left : (b : ℕ) → among b (44 ∷ 124 ∷ 46 ∷ []) ≡ true → (b ≡ 124 → ⊥) → (b ≡ 46 → ⊥) → b ≡ 44
unfolding among
comma_left b h p q = grind (arith, nat_tests)

-- What is known of the elements that have been read, by the places that the tokens led to.
pub record Had (text rest : Bytes) (from base : ℕ) (c : Cursor) (s₀ item₀ words₀ s names item words : List ℕ) (d : Cursor)
    (es : List Element) (known vars : List Place) : Type 0 where
  pub stands : Stands text rest from names item d known vars
  pub words_are : (i : ℕ) → i < length es → get_or words i 0 ≡ get_or (map (element_word (item_places known base)) es) i 0
  pub words_rest : (i : ℕ) → length es ≤ i → get_or words i 0 ≡ get_or words₀ i 0
  pub stored_is : s ≡ elements_stored (item_places known base) es s₀
  pub numbered : ElementsNumbered c.compounds d.compounds es
  pub known_names : ElementsKnown (spellings known) es
  pub halves : (h : Half) (m : ℕ) → m < 16 → get_or item (half_place h m) 0 ≡ min 2 (get_or item₀ (half_place h m) 0 + elements_occurrences h m es)
  pub only : Only (item_start base) (item_end base) s₀ s

-- Some elements have been read, each with the comma behind it, and the reading stands at the next.
pub record Partly (text rest : Bytes) (from base : ℕ) (known vars : List Place) (c : Cursor) (s₀ item₀ words₀ s names item words : List ℕ)
    (d : Cursor) (es : List Element) (known' vars' : List Place) (over : List Placed) : Type 0 where
  pub reads : body 8 [] (counted_at known vars c.compounds) (piece (tokens_in from rest c.at))
      ≡ body (8 - length es) es (counted_at known' vars' d.compounds) (piece (tokens_in from rest d.at))
  pub moves : Moves from rest c.at d.at known vars known' vars' over
  pub had : Had text rest from base c s₀ item₀ words₀ s names item words d es known' vars'

pub partly_none : (text rest : Bytes) (from base : ℕ) (known vars : List Place) (c : Cursor) (s names item words : List ℕ)
    → Stands text rest from names item c known vars
    → Partly text rest from base known vars c s item words s names item words c [] known vars []
unfolding before names_over variables_over elements_stored elements_occurrences ElementsNumbered ElementsKnown Open
partly_none text rest from base known vars c s names item words st = record {
  reads = refl;
  moves = record { follows = refl; names = refl; variables = refl; no_stop = tt };
  had = record {
    stands = st;
    words_are = λ i l. absurd (omega arith);
    words_rest = λ i l. refl;
    stored_is = refl;
    numbered = refl;
    known_names = tt;
    halves = λ h m few. once (get_or item (half_place h m) 0) (half_small st.variables_in h m few);
    only = only_same (item_start base) (item_end base) s;
  };
}

module _ (text rest : Bytes) (from base : ℕ) (known vars : List Place) (c : Cursor) (s₀ item₀ words₀ s names item words : List ℕ) (d : Cursor)
    (es : List Element) (known₁ vars₁ : List Place) (ps : List Placed)
    (t : Partly text rest from base known vars c s₀ item₀ words₀ s names item words d es known₁ vars₁ ps) where
  abbrev at_first : Counted
  at_first = counted_at known vars c.compounds

  abbrev so_far : Counted
  so_far = counted_at known₁ vars₁ d.compounds

  -- Eight have been read: the ninth passes the figure or cannot stand.
  pub partly_ninth : length es ≡ 8 → (why : Unread) → NinthIs rest d.at why
      → ElementsAre text rest from base known vars c s₀ item₀ words₀ s names item words (Err why)
  partly_ninth full (Malformed p) h =
      let none : 8 - length es ≡ 0 = omega arith in
      (rw none at t.reads ∙ h.1 from so_far es, h.0, t.had.only)
  partly_ninth full Exceeded h =
      let none : 8 - length es ≡ 0 = omega arith in
      (rw none at t.reads ∙ h from so_far es, t.had.only)

  module _ (room : length es < 8) where
    -- Seven less than those read may follow this one.
    reads_next : body 8 [] at_first (piece (tokens_in from rest c.at)) ≡ body (suc (7 - length es)) es so_far (piece (tokens_in from rest d.at))
    reads_next =
        let e : 8 - length es ≡ suc (7 - length es) = omega arith in
        rw e at t.reads

    module _ (s₂ names₂ item₂ : List ℕ) where
      pub partly_unread : (why : Unread) → ElementIs text rest from base known₁ vars₁ d s item s₂ names₂ item₂ (Err why)
          → (words₂ : List ℕ) → ElementsAre text rest from base known vars c s₀ item₀ words₀ s₂ names₂ item₂ words₂ (Err why)
      partly_unread (Malformed p) h words₂ = (
        reads_next ∙ body_malformed (7 - length es) es so_far (piece (tokens_in from rest d.at)) (from + p) h.0,
        h.1,
        only_then (item_start base) (item_end base) s₀ s s₂ t.had.only h.2,
      )
      partly_unread Exceeded h words₂ = (
        reads_next ∙ body_passed (7 - length es) es so_far (piece (tokens_in from rest d.at)) h.0,
        only_then (item_start base) (item_end base) s₀ s s₂ t.had.only h.1,
      )

      module _ (w : ℕ) (e : Cursor) (x : Element) (qs : List Placed)
          (gave : GaveElement text rest from base known₁ vars₁ d s item s₂ names₂ item₂ w e x qs) (long : 8 ≤ length words) where
        abbrev known₂ : List Place
        known₂ = names_over qs known₁

        abbrev vars₂ : List Place
        vars₂ = variables_over from qs vars₁

        abbrev grown : List Element
        grown = es ++ (x ∷ [])

        abbrev now_counted : Counted
        now_counted = counted_at known₂ vars₂ e.compounds

        here_moves : Moves from rest c.at e.at known vars known₂ vars₂ (ps ++ qs)
        here_moves =
            moves_then from rest c.at d.at e.at known vars known₁ vars₁ known₂ vars₂ ps qs t.moves
            (record { follows = gave.follows; names = refl; variables = refl; no_stop = gave.no_stop })

        grown_words : (i : ℕ) → i < length grown → get_or (set words (length es) w) i 0 ≡ get_or (map (element_word (item_places known₂ base)) grown) i 0
        grown_words i l =
            words_snoc (element_word (item_places known₂ base)) es x words w gave.word_is (omega arith)
            (λ j k. rw (still_words known₁ known₂ base (names_more qs known₁) es t.had.known_names) (t.had.words_are j k))
            i (omega (arith, length_push es x))

        grown_only : Only (item_start base) (item_end base) s₀ s₂
        grown_only =
            only_then (item_start base) (item_end base) s₀ s s₂ t.had.only
            (rw gave.stored_is
            (element_only known₂ base d.compounds e.compounds x s gave.numbered gave.stands.compounds_few))

        -- The reading stands behind the sign that follows.
        grown_had : (b : ℕ) → b ≤ length rest
            → Had text rest from base c s₀ item₀ words₀ s₂ names₂ item₂ (set words (length es) w) (moved_to e b) grown known₂ vars₂
        grown_had b inside = record {
          stands = stands_moved b gave.stands inside;
          words_are = grown_words;
          words_rest = λ i l. get_or-set_other words (length es) i w 0 (λ q. omega (arith, length_push es x)) ∙ t.had.words_rest i (omega (arith, length_push es x));
          stored_is = gave.stored_is ∙ rw (stored_snoc (item_places known₂ base) es x s₀, still_stored known₁ known₂ base (names_more qs known₁) es s₀ t.had.known_names, ← t.had.stored_is);
          numbered = numbered_snoc c.compounds d.compounds e.compounds es x t.had.numbered gave.numbered;
          known_names = known_snoc (spellings known₂) es x (still_known known₁ known₂ base (names_more qs known₁) es t.had.known_names) gave.known_names;
          halves = λ h m few. omega (arith, gave.halves h m few, t.had.halves h m few, occurrences_snoc h m es x);
          only = grown_only;
        }

        pub partly_other : (p : ℕ) → p ≤ length rest → Stops (one_of (44 ∷ 124 ∷ 46 ∷ [])) (from + p) (tokens_in from rest e.at)
            → (words₂ : List ℕ) → ElementsAre text rest from base known vars c s₀ item₀ words₀ s₂ names₂ item₂ words₂ (Err (Malformed p))
        partly_other p small h words₂ = (
          reads_next
              ∙ body_other (7 - length es) es so_far (piece (tokens_in from rest d.at)) x now_counted (from + p) (piece (tokens_in from rest e.at)) gave.reads
              (piece_stops (one_of (44 ∷ 124 ∷ 46 ∷ [])) (from + p) (tokens_in from rest e.at) h),
          small,
          grown_only,
        )

        -- A comma: more elements follow.
        pub partly_comma : (b : ℕ) (next : SignAt rest e.at 44 b)
            → Partly text rest from base known vars c s₀ item₀ words₀ s₂ names₂ item₂ (set words (length es) w) (moved_to e b) grown known₂ vars₂
            ((ps ++ qs) ++ (sign_placed from rest next ∷ []))
        partly_comma b next =
            let fewer : 8 - length grown ≡ 7 - length es = omega (arith, length_push es x) in
            record {
              reads = rw fewer
                  (reads_next
                  ∙ body_comma (7 - length es) es so_far (piece (tokens_in from rest d.at)) x now_counted (from + next.place) (piece (tokens_in from rest b))
                  (gave.reads ∙ ap (λ (ts : Tokens). read x now_counted ts) (piece_sign from rest e.at 44 b next refl)));
              moves = moves_then from rest c.at e.at b known vars known₂ vars₂ known₂ vars₂ (ps ++ qs) (sign_placed from rest next ∷ []) here_moves
                  (moves_sign from rest e.at 44 b known₂ vars₂ next refl);
              had = grown_had b next.inside;
            }

        -- What is told of them behind the sign that ends them.
        told : (b n : ℕ) → n ≡ length es + 1 → b ≤ length rest → 0 < b
            → GaveElements text rest from base known vars c s₀ item₀ words₀ s₂ names₂ item₂ (set words (length es) w) n (moved_to e b) grown (ps ++ qs)
        told b n count inside forward =
            let had = grown_had b inside in
            let all : length grown ≡ n = length_push es x ∙ sym count in
            record {
              stands = rw (here_moves.names, here_moves.variables) had.stands;
              forward = forward;
              no_stop = here_moves.no_stop;
              count_is = all;
              some = omega arith;
              few = omega arith;
              words_are = rw here_moves.names (λ i l. had.words_are i (omega arith));
              words_rest = λ i l. had.words_rest i (omega arith);
              stored_is = rw here_moves.names had.stored_is;
              numbered = had.numbered;
              known_names = rw here_moves.names had.known_names;
              halves = had.halves;
              only = had.only;
            }

        -- The bar: they are the guards.
        pub partly_bar : (b n : ℕ) → n ≡ length es + 1 → (next : SignAt rest e.at 124 b)
            → AtBar text rest from base known vars c s₀ item₀ words₀ s₂ names₂ item₂ (set words (length es) w) n (moved_to e b) grown (ps ++ qs) (from + next.place)
        partly_bar b n count next = record {
          reads = rw (here_moves.names, here_moves.variables)
              (reads_next
              ∙ body_bar (7 - length es) es so_far (piece (tokens_in from rest d.at)) x now_counted (from + next.place) (piece (tokens_in from rest b))
              (gave.reads ∙ ap (λ (ts : Tokens). read x now_counted ts) (piece_sign from rest e.at 124 b next refl)));
          follows = here_moves.follows ∙ ap (before (ps ++ qs)) (next.follows from);
          gave = told b n count next.inside (omega (arith, next.forward));
        }

        -- The full stop: they are the goals, if all of them can be.
        stop_place : (b : ℕ) (next : SignAt rest e.at 46 b) → b ≡ next.place + 1
        unfolding behind double_sign byte when◌then◌else◌
        stop_place b next = next.ends_at

        piece_there : (b : ℕ) (next : SignAt rest e.at 46 b)
            → piece (tokens_in from rest e.at) ≡ token (from + next.place) (sign 46) (ends (from + next.place))
        unfolding is byte
        piece_there b next = ap piece (next.follows from) ∙ piece_stop (from + next.place) (sign 46) (tokens_in from rest b) refl

        pub partly_stop : (b n a : ℕ) → n ≡ length es + 1 → a ≡ b - 1 → (next : SignAt rest e.at 46 b)
            → AtStop text rest from base known vars c s₀ item₀ words₀ s₂ names₂ item₂ (set words (length es) w) n a (moved_to e b) grown (ps ++ qs)
        partly_stop b n a count at next =
            let here : a ≡ next.place = omega (arith, stop_place b next) in
            record {
              reads = rw (here_moves.names, here_moves.variables, here)
                  (reads_next
                  ∙ body_stop (7 - length es) es so_far (piece (tokens_in from rest d.at)) x now_counted (from + next.place) (ends (from + next.place))
                  (gave.reads ∙ ap (λ (ts : Tokens). read x now_counted ts) (piece_there b next)));
              follows = rw here (here_moves.follows ∙ ap (before (ps ++ qs)) (next.follows from));
              inside = omega (arith, next.inside);
              gave = told b n count next.inside (omega (arith, next.forward));
            }
