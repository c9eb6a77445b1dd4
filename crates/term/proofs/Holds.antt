-- The scratch goes on holding a term where the words of its compounds stay; and it holds a term whose compounds have been stored.
-- A compound's own words, its arguments' compounds from left to right, and every other compound lie apart from one another.
use Prim.Native.Nat.{ℕ, ◌+◌, ◌*◌, ◌≤◌, ◌<◌}
use mathlib.Core.Path.{◌≡◌, ◌∙◌}
use mathlib.Core.List.{List}
use mathlib.Core.Option.{Option, none, some}
use native.Mathlib.Omega.{arith}
use lib.ListN.{length, get_or, set, length-set}
use lib.Seq.{get_or-set_same, get_or-set_other}
use Rattle.meaning.specs.Terms.{Term, Terms, end, more, count}
use Rattle.meaning.specs.State.{Values, value}
use Rattle.term.specs.Cells.{Places, term_word, functor_word, stored, arguments_stored, Numbered, AllNumbered}
use Rattle.term.specs.Every.{Every, EveryOf}
use Rattle.term.specs.Holds.{Holds, HoldsFrom, HoldsValue, HoldsValues}
use Rattle.term.proofs.Frames.{only_set}
use Rattle.term.proofs.Cells.{numbered_order, all_numbered_order, stored_only}
use Rattle.term.proofs.Regions.{OnlyTwo, two_same, two_first, two_second, two_then, two_wider}
use Rattle.term.specs.Layout.{item_place}

-- A condition met by every number in reach is met by a term's.
module _ (P Q : ℕ → Type 0) (h : (n : ℕ) → P n → Q n) where
  mutual
    unfolding Every EveryOf

    pub every_map : (t : Term) → Every P t → Every Q t
    every_map (Term.variable g n) e = tt
    every_map (Term.constant c) e = tt
    every_map (Term.compound n f ts) e = (h n e.0, every_map_of ts e.1)

    pub every_map_of : (ts : Terms) → EveryOf P ts → EveryOf Q ts
    every_map_of end e = tt
    every_map_of (more t ts) e = (every_map t e.0, every_map_of ts e.1)

-- The numbers of a term that is numbered from lo up to hi.
mutual
  unfolding Numbered AllNumbered Every EveryOf

  pub numbered_every : (lo hi : ℕ) (t : Term) (P : ℕ → Type 0) → ((n : ℕ) → lo ≤ n → n < hi → P n) → Numbered lo hi t → Every P t
  numbered_every lo hi (Term.variable h n) P p k = tt
  numbered_every lo hi (Term.constant c) P p k = tt
  numbered_every lo hi (Term.compound n f ts) P p k = (
    p n (omega (arith, k.0)) (omega (arith, k.0, all_numbered_order (lo + 1) hi ts k.2)),
    all_numbered_every (lo + 1) hi ts P (λ m l h. p m (omega arith) h) k.2,
  )

  pub all_numbered_every : (lo hi : ℕ) (ts : Terms) (P : ℕ → Type 0) → ((n : ℕ) → lo ≤ n → n < hi → P n) → AllNumbered lo hi ts → EveryOf P ts
  all_numbered_every lo hi end P p k = tt
  all_numbered_every lo hi (more t ts) P p k = (
    numbered_every lo k.0 t P (λ n l h. p n l (omega (arith, all_numbered_order k.0 hi ts k.2))) k.1,
    all_numbered_every k.0 hi ts P (λ n l h. p n (omega (arith, numbered_order lo k.0 t k.1)) h) k.2,
  )

-- Where the words of every compound of the term stay as they were.
module _ (s s' : List ℕ) (places : Places) (P : ℕ → Type 0) (size : length s ≤ length s')
    (alike : (n : ℕ) → P n → (k : ℕ) → places.compound n ≤ k → k < places.compound n + places.width n → get_or s' k 0 ≡ get_or s k 0) where
  mutual
    unfolding Holds HoldsFrom Every EveryOf count

    pub holds_alike : (t : Term) → Every P t → Holds s places t → Holds s' places t
    holds_alike (Term.variable h n) e k = tt
    holds_alike (Term.constant c) e k = tt
    holds_alike (Term.compound n f ts) e k =
        let in_s : places.compound n + 8 ≤ length s = k.0.inside in (
          record {
            inside = omega arith;
            few = k.0.few;
            wide = k.0.wide;
            functor = alike n e.0 (places.compound n) (omega arith) (omega (arith, k.0.wide)) ∙ k.0.functor;
          },
          holds_from_alike n 0 ts (λ j l h. alike n e.0 j (omega arith) h) (omega (arith, k.0.wide)) e.1 k.1,
        )

    -- The arguments of the compound n, of which the words behind its first stay.
    pub holds_from_alike : (n i : ℕ) (ts : Terms)
        → ((k : ℕ) → places.compound n + 1 + i ≤ k → k < places.compound n + places.width n → get_or s' k 0 ≡ get_or s k 0)
        → i + count ts < places.width n → EveryOf P ts → HoldsFrom s places n i ts → HoldsFrom s' places n i ts
    holds_from_alike n i end own few e k = tt
    holds_from_alike n i (more t ts) own few e k = (
      own (places.compound n + 1 + i) (omega arith) (omega arith) ∙ k.0,
      holds_alike t e.0 k.1,
      holds_from_alike n (i + 1) ts (λ j l h. own j (omega arith) h) (omega arith) e.1 k.2,
    )

-- The same of pairs' values, if the pairs' words stay too.
unfoldable pub EveryValue : (ℕ → Type 0) → Option Term → Type 0
EveryValue P none = Unit {0}
EveryValue P (some t) = Every P t

module _ (s s' : List ℕ) (places : Places) (P : ℕ → Type 0) (size : length s ≤ length s')
    (alike : (n : ℕ) → P n → (k : ℕ) → places.compound n ≤ k → k < places.compound n + places.width n → get_or s' k 0 ≡ get_or s k 0) where
  pub holds_value_alike : (v : Option Term) → EveryValue P v → HoldsValue s places v → HoldsValue s' places v
  unfolding EveryValue
  holds_value_alike none e k = tt
  holds_value_alike (some t) e k = holds_alike s s' places P size alike t e k

  pub holds_values_alike : (from pairs : ℕ) (values : Values) → ((k : ℕ) → from ≤ k → k < from + pairs → get_or s' k 0 ≡ get_or s k 0)
      → ((n : ℕ) → n < length values → EveryValue P (value values n))
      → HoldsValues s places from pairs values → HoldsValues s' places from pairs values
  holds_values_alike from pairs values own e k = record {
    inside = omega (arith, k.inside);
    place = k.place;
    stands = λ n h. own (from + places.pair n) (omega arith) (omega (arith, k.place n h)) ∙ k.stands n h;
    held = λ n h. holds_value_alike (value values n) (e n h) (k.held n h);
  }

-- A term that is numbered from lo up to hi, its compounds' places beginning at a base: where only words outside of its own differ.
module _ (places : Places) (base : ℕ) (at : (n : ℕ) → places.compound n ≡ item_place base n) (wide : (n : ℕ) → places.width n ≡ 8) (s s' : List ℕ) (size : length s ≤ length s') where
  own_words : (lo hi : ℕ) → ((k : ℕ) → item_place base lo ≤ k → k < item_place base hi → get_or s' k 0 ≡ get_or s k 0)
      → (n : ℕ) → (lo ≤ n) × (n < hi) → (k : ℕ) → places.compound n ≤ k → k < places.compound n + places.width n → get_or s' k 0 ≡ get_or s k 0
  own_words lo hi own n p k l h = own k (omega (arith, at n)) (omega (arith, at n, wide n))

  pub holds_kept : (lo hi : ℕ) (t : Term) → ((k : ℕ) → item_place base lo ≤ k → k < item_place base hi → get_or s' k 0 ≡ get_or s k 0)
      → Numbered lo hi t → Holds s places t → Holds s' places t
  holds_kept lo hi t own k =
      holds_alike s s' places (λ n. (lo ≤ n) × (n < hi)) size (own_words lo hi own) t
      (numbered_every lo hi t (λ n. (lo ≤ n) × (n < hi)) (λ n l h. (l, h)) k)

  pub holds_from_kept : (n i lo hi : ℕ) (ts : Terms) → ((k : ℕ) → item_place base lo ≤ k → k < item_place base hi → get_or s' k 0 ≡ get_or s k 0)
      → ((k : ℕ) → places.compound n + 1 + i ≤ k → k < places.compound n + places.width n → get_or s' k 0 ≡ get_or s k 0)
      → i + count ts < places.width n → AllNumbered lo hi ts → HoldsFrom s places n i ts → HoldsFrom s' places n i ts
  holds_from_kept n i lo hi ts own first few k =
      holds_from_alike s s' places (λ n. (lo ≤ n) × (n < hi)) size (own_words lo hi own) n i ts first few
      (all_numbered_every lo hi ts (λ n. (lo ≤ n) × (n < hi)) (λ n l h. (l, h)) k)

-- What storing leaves.
module _ (places : Places) (base : ℕ) (at : (n : ℕ) → places.compound n ≡ item_place base n) (wide : (n : ℕ) → places.width n ≡ 8) where
  -- The arguments from the i-th on, stored, change only their words in the place of their compound, and their own compounds.
  arguments_two : (n i lo hi : ℕ) (ts : Terms) (s : List ℕ) → n < lo → i + count ts ≤ 6 → AllNumbered lo hi ts
      → OnlyTwo (places.compound n + 1 + i) (places.compound n + 8) (item_place base lo) (item_place base hi) s (arguments_stored places n i ts s)
  unfolding AllNumbered arguments_stored count
  arguments_two n i lo hi end s b few k =
      two_same (places.compound n + 1 + i) (places.compound n + 8) (item_place base lo) (item_place base hi) s
  arguments_two n i lo hi (more t ts) s b few k =
      let p = places.compound n in
      let v = base + lo in
      let w = base + hi in
      let mid = k.0 in
      let low : lo ≤ mid = numbered_order lo mid t k.1 in
      let high : mid ≤ hi = all_numbered_order mid hi ts k.2 in
      let place : places.compound n ≡ item_place base n = at n in
      let s₁ = stored places t s in
      let s₂ = set s₁ (p + 1 + i) (term_word places t) in
      let s₃ = arguments_stored places n (i + 1) ts s₂ in
      two_then (p + 1 + i) (p + 8) (8 * v) (8 * w) s s₁ s₃
      (two_second (p + 1 + i) (p + 8) (8 * v) (8 * w) (8 * v) (item_place base mid) s s₁ (omega arith) (omega arith) (omega arith)
      (stored_only places base at lo mid t s k.1))
      (two_then (p + 1 + i) (p + 8) (8 * v) (8 * w) s₁ s₂ s₃
      (two_first (p + 1 + i) (p + 8) (8 * v) (8 * w) (p + 1 + i) (p + 8) s₁ s₂ (omega arith) (omega arith) (omega arith)
      (only_set (p + 1 + i) (p + 8) s₁ (p + 1 + i) (term_word places t) (omega arith) (omega arith)))
      (two_wider (p + 1 + (i + 1)) (p + 8) (item_place base mid) (8 * w) (p + 1 + i) (p + 8) (8 * v) (8 * w) s₂ s₃
      (omega arith) (omega arith) (omega arith) (omega arith)
      (arguments_two n (i + 1) mid hi ts s₂ (omega arith) (omega arith) k.2)))

  mutual
    unfolding Numbered AllNumbered stored arguments_stored count Holds HoldsFrom

    pub stored_holds : (lo hi : ℕ) (t : Term) (s : List ℕ) → Numbered lo hi t → item_place base hi ≤ length s → Holds (stored places t s) places t
    stored_holds lo hi (Term.variable h n) s k room = tt
    stored_holds lo hi (Term.constant c) s k room = tt
    stored_holds lo hi (Term.compound n f ts) s k room =
        let p = places.compound n in
        let w = functor_word places f (count ts) in
        let place : places.compound n ≡ item_place base n = at n in
        let first : n ≡ lo = k.0 in
        let order : lo + 1 ≤ hi = all_numbered_order (lo + 1) hi ts k.2 in
        let few : 0 + count ts ≤ 6 = omega (arith, k.1) in
        let s' = arguments_stored places n 0 ts s in
        let size : length s' ≡ length s = (arguments_two n 0 (lo + 1) hi ts s (omega arith) few k.2).size in
        let size' : length (set s' p w) ≡ length s' = length-set s' p w in (
          record { inside = omega arith; few = k.1; wide = omega (arith, wide n, k.1); functor = get_or-set_same s' p w 0 (omega arith) },
          holds_from_kept places base at wide s' (set s' p w) (omega arith) n 0 (lo + 1) hi ts
              (λ j l h. get_or-set_other s' p j w 0 (λ e. omega arith))
              (λ j l h. get_or-set_other s' p j w 0 (λ e. omega arith))
              (omega (arith, wide n)) k.2
              (arguments_hold n 0 (lo + 1) hi ts s (omega arith) few k.2 room),
        )

    pub arguments_hold : (n i lo hi : ℕ) (ts : Terms) (s : List ℕ) → n < lo → i + count ts ≤ 6 → AllNumbered lo hi ts → item_place base hi ≤ length s
        → HoldsFrom (arguments_stored places n i ts s) places n i ts
    arguments_hold n i lo hi end s b few k room = tt
    arguments_hold n i lo hi (more t ts) s b few k room =
        let p = places.compound n in
        let v = term_word places t in
        let mid = k.0 in
        let low : lo ≤ mid = numbered_order lo mid t k.1 in
        let high : mid ≤ hi = all_numbered_order mid hi ts k.2 in
        let place : places.compound n ≡ item_place base n = at n in
        let s₁ = stored places t s in
        let s₂ = set s₁ (p + 1 + i) v in
        let s₃ = arguments_stored places n (i + 1) ts s₂ in
        let size₁ : length s₁ ≡ length s = (stored_only places base at lo mid t s k.1).size in
        let size₂ : length s₂ ≡ length s₁ = length-set s₁ (p + 1 + i) v in
        let rest : OnlyTwo (p + 1 + (i + 1)) (p + 8) (item_place base mid) (item_place base hi) s₂ s₃
        = arguments_two n (i + 1) mid hi ts s₂ (omega arith) (omega arith) k.2 in (
          rest.below (p + 1 + i) (omega arith) ∙ get_or-set_same s₁ (p + 1 + i) v 0 (omega arith),
          holds_kept places base at wide s₁ s₃ (omega (arith, rest.size)) lo mid t
              (λ j l h. rest.between j (omega arith) h ∙ get_or-set_other s₁ (p + 1 + i) j v 0 (λ e. omega arith))
              k.1 (stored_holds lo mid t s k.1 (omega arith)),
          arguments_hold n (i + 1) mid hi ts s₂ (omega arith) (omega arith) k.2 (omega arith),
        )
