-- One element: a term that stands alone, two terms with `==` between them, or what stops the reading.
use Prim.Native.Nat.{ℕ, ◌+◌, ◌≤◌, ◌<◌, min}
use mathlib.Core.Path.{◌≡◌, refl, ap, sym, ◌∙◌}
use mathlib.Core.Bool.{true, false}
use mathlib.Core.List.{List, [], ◌∷◌, ◌++◌}
use native.Mathlib.Omega.{arith}
use lib.ListN.{length, get_or, set, length-set}
use lib.Seq.{get_or-set_same}
use Rattle.std.specs.Prelude.{Result, Ok, Err}
use Rattle.meaning.specs.Bytes.{Bytes}
use Rattle.meaning.specs.Terms.{Half, Constant, cell, named, Term, Terms, count, as_term, occurrences}
use Rattle.meaning.specs.Tokens.{Tokens}
use Rattle.meaning.specs.Table.{Element, whole, bare, equals}
use Rattle.meaning.specs.Items.{Counted, read, give, term, by_itself, equals_behind, element_behind}
use Rattle.term.specs.Cells.{Places as CellPlaces, term_word, functor_word, stored, arguments_stored, Numbered, Known}
use Rattle.term.specs.Layout.{item_start, item_end, item_place}
use Rattle.term.proofs.Cells.{all_numbered_order}
use Rattle.term.proofs.Frames.{only_then}
use Rattle.load_tokens.specs.Fronts.{tokens_in}
use Rattle.load_tokens.specs.Nexts.{SignAt, one_of, Stops}
use Rattle.load_names.specs.Places.{Place, Placed, spellings, names_over, variables_over, item_places}
use Rattle.load_openings.specs.Reading.{piece, counted_at, half_place, Stands, Gave, ReadIs}
use Rattle.load_openings.specs.declared.cursor.Cursor.{Cursor}
use Rattle.load_openings.specs.declared.cursor.Unread.{Unread}
use Rattle.load_openings.specs.declared.cursor.Unread.TheVariants.{Malformed, Exceeded}
use Rattle.load_openings.proofs.Expected.{never}
use Rattle.load_openings.proofs.Given.{gave_moves, gave_only}
use Rattle.load_openings.proofs.Moves.{Moves, moves_then, moves_sign, sign_placed, piece_sign, moved_to, word_later, stored_later, known_later, twice}
use Rattle.load_openings.proofs.Passing.{piece_stops}
use Rattle.load_elements.specs.Elements.{element_word, element_stored, element_occurrences, ElementNumbered, ElementKnown, GaveElement, ElementIs}
use Rattle.load_elements.specs.Sides.{alone, Own, Stored, RightIs}
use Rattle.load_elements.proofs.Bare.{bare_counts}
use Rattle.load_elements.proofs.Bodies.{element_malformed, element_passed, element_equals, element_other, not_alone}

-- A term that stands alone as the element that it is; of any other term nothing is asked.
as_element : Term → Element
as_element (Term.variable h n) = bare []
as_element (Term.constant (Constant.integer i)) = bare []
as_element (Term.constant (Constant.name f)) = bare f
as_element (Term.constant Constant.empty) = bare []
as_element (Term.compound n cell ts) = bare []
as_element (Term.compound n (named f) ts) = whole (record { number = n; name = f; arguments = ts })

-- What holds of each term that stands alone.
each_alone : (P : Term → Type 0) → ((f : Bytes) → P (Term.constant (Constant.name f))) → ((n : ℕ) (f : Bytes) (ts : Terms) → P (Term.compound n (named f) ts))
    → (t : Term) → alone t ≡ true → P t
unfolding alone
each_alone P a b (Term.variable h n) e = never (sym e)
each_alone P a b (Term.constant (Constant.integer i)) e = never (sym e)
each_alone P a b (Term.constant (Constant.name f)) e = a f
each_alone P a b (Term.constant Constant.empty) e = never (sym e)
each_alone P a b (Term.compound n cell ts) e = never (sym e)
each_alone P a b (Term.compound n (named f) ts) e = b n f ts

module _ (counted : Counted) (ts : Tokens) where
  alone_reads : (t : Term) → alone t ≡ true → by_itself t counted ts ≡ read (as_element t) counted ts
  unfolding by_itself give as_element
  alone_reads = each_alone (λ t. by_itself t counted ts ≡ read (as_element t) counted ts) (λ f. refl) (λ n f us. refl)

module _ (places : CellPlaces) where
  alone_word : (t : Term) → alone t ≡ true → term_word places t ≡ element_word places (as_element t)
  unfolding element_word as_element as_term
  alone_word = each_alone (λ t. term_word places t ≡ element_word places (as_element t)) (λ f. refl) (λ n f us. refl)

  alone_stored : (s : List ℕ) (t : Term) → alone t ≡ true → stored places t s ≡ element_stored places (as_element t) s
  unfolding element_stored as_element as_term stored
  alone_stored s = each_alone (λ t. stored places t s ≡ element_stored places (as_element t) s) (λ f. refl) (λ n f us. refl)

alone_known : (names : List Bytes) (t : Term) → alone t ≡ true → Known names t → ElementKnown names (as_element t)
unfolding ElementKnown as_element as_term Known
alone_known names = each_alone (λ t. Known names t → ElementKnown names (as_element t)) (λ f k. k) (λ n f us k. k)

alone_occurrences : (h : Half) (m : ℕ) (t : Term) → alone t ≡ true → occurrences h m t ≡ element_occurrences h m (as_element t)
unfolding element_occurrences as_element as_term occurrences
alone_occurrences h m = each_alone (λ t. occurrences h m t ≡ element_occurrences h m (as_element t)) (λ f. refl) (λ n f us. refl)

-- Of a bare name it is asked that no compound was counted.
alone_numbered : (lo hi : ℕ) (t : Term) → alone t ≡ true → Numbered lo hi t → ((f : Bytes) → t ≡ Term.constant (Constant.name f) → lo ≡ hi)
    → ElementNumbered lo hi (as_element t)
unfolding ElementNumbered as_element as_term
alone_numbered lo hi =
    each_alone (λ t. Numbered lo hi t → ((f : Bytes) → t ≡ Term.constant (Constant.name f) → lo ≡ hi) → ElementNumbered lo hi (as_element t))
    (λ f n b. b f refl)
    (λ m f us n b. n)

-- A compound's own word stands at its place when it has been read.
own_word : (names : List Place) (base lo hi : ℕ) (t : Term) (s s' : List ℕ) → s' ≡ stored (item_places names base) t s → Numbered lo hi t → hi ≤ 32
    → item_end base ≤ length s' → Own s' (item_places names base) t
unfolding Own Numbered stored item_places
own_word names base lo hi (Term.variable h m) s s' is k few room = tt
own_word names base lo hi (Term.constant c) s s' is k few room = tt
own_word names base lo hi (Term.compound m f ts) s s' is k few room =
    let places = item_places names base in
    let before_own = arguments_stored places m 0 ts s in
    let own = functor_word places f (count ts) in
    let order : lo + 1 ≤ hi = all_numbered_order (lo + 1) hi ts k.2 in
    let inside : item_place base m < length s' = omega (arith, k.0) in
    let long : length s' ≡ length before_own = ap length is ∙ length-set before_own (item_place base m) own in
    (inside, rw is (get_or-set_same before_own (item_place base m) own 0 (omega arith)), k.1)

pub stored_own : (names : List Place) (base lo hi w : ℕ) (t : Term) (s s' : List ℕ) → w ≡ term_word (item_places names base) t
    → s' ≡ stored (item_places names base) t s → Numbered lo hi t → hi ≤ 32 → item_end base ≤ length s' → Stored s' names base w t
stored_own names base lo hi w t s s' word is n few room =
    record { word_is = word; own = own_word names base lo hi t s s' is n few room }

module _ (text rest : Bytes) (from base : ℕ) (known vars : List Place) (c : Cursor) (s item s₁ names₁ item₁ : List ℕ) where
  pub one_unread : (why : Unread) → ReadIs (λ (t : Term). t) (term 16) text rest from base known vars c s item s₁ names₁ item₁ (Err why)
      → ElementIs text rest from base known vars c s item s₁ names₁ item₁ (Err why)
  one_unread (Malformed place) g =
      (element_malformed (counted_at known vars c.compounds) (piece (tokens_in from rest c.at)) (from + place) g.0, g.1, g.2)
  one_unread Exceeded g = (element_passed (counted_at known vars c.compounds) (piece (tokens_in from rest c.at)) g.0, g.1)

  module _ (w : ℕ) (d : Cursor) (t : Term) (p : List Placed)
      (g : Gave (λ (t : Term). t) (term 16) text rest from base known vars c s item s₁ names₁ item₁ w d t p) where
    abbrev known₁ : List Place
    known₁ = names_over p known

    abbrev vars₁ : List Place
    vars₁ = variables_over from p vars

    abbrev before_it : Counted
    before_it = counted_at known vars c.compounds

    abbrev behind_it : Counted
    behind_it = counted_at known₁ vars₁ d.compounds

    -- No `==` comes next.
    module _ (place : ℕ) (stops : Stops (one_of (61 ∷ [])) (from + place) (tokens_in from rest d.at)) where
      here_stops : Stops (one_of (61 ∷ [])) (from + place) (piece (tokens_in from rest d.at))
      here_stops = piece_stops (one_of (61 ∷ [])) (from + place) (tokens_in from rest d.at) stops

      by_itself_then : element_behind before_it (piece (tokens_in from rest c.at)) ≡ by_itself t behind_it (piece (tokens_in from rest d.at))
      by_itself_then =
          element_other before_it (piece (tokens_in from rest c.at)) t behind_it (from + place) (piece (tokens_in from rest d.at)) g.reads here_stops

      pub one_not : place ≤ length rest → alone t ≡ false → ElementIs text rest from base known vars c s item s₁ names₁ item₁ (Err (Malformed place))
      one_not small a = (
        by_itself_then ∙ not_alone t (from + place) behind_it (piece (tokens_in from rest d.at)) a here_stops,
        small,
        gave_only g,
      )

      none_counted : (f : Bytes) → t ≡ Term.constant (Constant.name f) → c.compounds ≡ d.compounds
      unfolding counted_at
      none_counted f e =
          bare_counts f 15 before_it (piece (tokens_in from rest c.at)) behind_it (piece (tokens_in from rest d.at))
          (g.reads ∙ ap (λ (u : Term). read u behind_it (piece (tokens_in from rest d.at))) e)

      pub one_alone : alone t ≡ true → ElementIs text rest from base known vars c s item s₁ names₁ item₁ (Ok (w, d))
      one_alone a =
          let places = item_places known₁ base in (
            as_element t,
            p,
            record {
              reads = by_itself_then ∙ alone_reads behind_it (piece (tokens_in from rest d.at)) t a;
              follows = g.follows;
              no_stop = g.no_stop;
              stands = g.stands;
              word_is = g.word_is ∙ alone_word places t a;
              stored_is = g.stored_is ∙ alone_stored places s t a;
              numbered = alone_numbered c.compounds d.compounds t a g.numbered none_counted;
              known_names = alone_known (spellings known₁) t a g.known_names;
              halves = λ h m few. g.halves h m few ∙ ap (λ (z : ℕ). min 2 (get_or item (half_place h m) 0 + z)) (alone_occurrences h m t a);
            },
          )

    -- `==` comes next.
    module _ (b : ℕ) (sign_at : SignAt rest d.at 61 b) (s₂ names₂ item₂ : List ℕ) where
      equals_then : element_behind before_it (piece (tokens_in from rest c.at)) ≡ equals_behind t behind_it (piece (tokens_in from rest b))
      equals_then =
          element_equals before_it (piece (tokens_in from rest c.at)) t behind_it (from + sign_at.place) (piece (tokens_in from rest b))
          (g.reads ∙ ap (λ (ts : Tokens). read t behind_it ts) (piece_sign from rest d.at 61 b sign_at refl))

      -- What was given, by the places that the tokens lead to.
      gave_by : {v : ℕ} {e : Cursor} {x : Element} {over : List Placed} (known' vars' : List Place)
          → Moves from rest c.at e.at known vars known' vars' over
          → element_behind before_it (piece (tokens_in from rest c.at)) ≡ read x (counted_at known' vars' e.compounds) (piece (tokens_in from rest e.at))
          → Stands text rest from names₂ item₂ e known' vars'
          → v ≡ element_word (item_places known' base) x
          → s₂ ≡ element_stored (item_places known' base) x s
          → ElementNumbered c.compounds e.compounds x
          → ElementKnown (spellings known') x
          → ((h : Half) (m : ℕ) → m < 16 → get_or item₂ (half_place h m) 0 ≡ min 2 (get_or item (half_place h m) 0 + element_occurrences h m x))
          → GaveElement text rest from base known vars c s item s₂ names₂ item₂ v e x over
      gave_by known' vars' m reads stands word kept numbered names halves = record {
        reads = rw (m.names, m.variables) reads;
        follows = m.follows;
        no_stop = m.no_stop;
        stands = rw (m.names, m.variables) stands;
        word_is = rw m.names word;
        stored_is = rw m.names kept;
        numbered = numbered;
        known_names = rw m.names names;
        halves = halves;
      }

      -- The left side's words as they are when the right side has been read.
      both_stored : (u : Term) (q : List Placed) (place : ℕ)
          → s₂ ≡ set (set (stored (item_places (names_over q known₁) base) u s₁) (place + 1) w) (place + 2) (term_word (item_places (names_over q known₁) base) u)
          → s₂ ≡ set (set (stored (item_places (names_over q known₁) base) u (stored (item_places (names_over q known₁) base) t s)) (place + 1)
          (term_word (item_places (names_over q known₁) base) t)) (place + 2) (term_word (item_places (names_over q known₁) base) u)
      both_stored u q place kept =
          rw (stored_later known₁ q base t s g.known_names, word_later known₁ q base t g.known_names, ← g.stored_is, ← g.word_is) kept

      pub one_equals : (r : Result (ℕ × Cursor) Unread) → RightIs w text rest from base known₁ vars₁ (moved_to d b) s₁ item₁ s₂ names₂ item₂ r
          → ElementIs text rest from base known vars c s item s₂ names₂ item₂ r
      unfolding element_word element_stored element_occurrences ElementNumbered ElementKnown item_places
      one_equals (Ok (v, e)) h =
          let u = h.0 in
          let q = h.1 in
          let known₂ = names_over q known₁ in
          let vars₂ = variables_over from q vars₁ in
          let sign : List Placed = sign_placed from rest sign_at ∷ [] in
          let here = moves_then from rest c.at d.at b known vars known₁ vars₁ known₁ vars₁ p sign (gave_moves g)
          (moves_sign from rest d.at 61 b known₁ vars₁ sign_at refl) in
          let moves = moves_then from rest c.at b e.at known vars known₁ vars₁ known₂ vars₂ (p ++ sign) q here
          (record { follows = h.2.follows; names = refl; variables = refl; no_stop = h.2.no_stop }) in (
            equals d.compounds t u,
            (p ++ sign) ++ q,
            gave_by known₂ vars₂ moves
                (equals_then ∙ h.2.reads t)
                h.2.stands
                h.2.word_is
                (both_stored u q (item_place base d.compounds) h.2.stored_is)
                (g.numbered, h.2.numbered)
                (known_later known₁ q base t g.known_names, h.2.known_names)
                (λ k m few. h.2.halves k m few ∙ rw (g.halves k m few) (twice (get_or item (half_place k m) 0) (occurrences k m t) (occurrences k m u))),
          )
      one_equals (Err (Malformed place)) h =
          (equals_then ∙ h.0 t, h.1, only_then (item_start base) (item_end base) s s₁ s₂ (gave_only g) h.2)
      one_equals (Err Exceeded) h = (equals_then ∙ h.0 t, only_then (item_start base) (item_end base) s s₁ s₂ (gave_only g) h.1)
