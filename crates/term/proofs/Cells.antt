-- A term's compounds, stored, change only the words of their own places, which lie from the first number of the term to its last.
use Prim.Native.Nat.{ℕ, ◌+◌, ◌≤◌, ◌<◌}
use mathlib.Core.Path.{◌≡◌, refl, ap, ◌∙◌}
use mathlib.Core.Logic.{◌≢◌}
use mathlib.Core.List.{List}
use native.Mathlib.Omega.{arith}
use lib.ListN.{set}
use lib.Seq.{set_comm}
use Rattle.meaning.specs.Terms.{writer, reader, Constant, Term, Terms, end, more, count}
use Rattle.term.specs.Cells.{Places, term_word, functor_word, stored, arguments_stored, Numbered, AllNumbered}
use Rattle.term.specs.Frames.{Only}
use Rattle.term.proofs.Frames.{only_same, only_set, only_then, only_wider}
use Rattle.term.specs.Layout.{item_place}

-- No term has the word 0.
pub word_positive : (places : Places) (t : Term) → 0 < term_word places t
word_positive places (Term.variable writer n) = omega arith
word_positive places (Term.variable reader n) = omega arith
word_positive places (Term.constant (Constant.integer i)) = omega arith
word_positive places (Term.constant (Constant.name f)) = omega arith
word_positive places (Term.constant Constant.empty) = omega arith
word_positive places (Term.compound n f ts) = omega arith

mutual
  unfolding Numbered AllNumbered

  pub numbered_order : (lo hi : ℕ) (t : Term) → Numbered lo hi t → lo ≤ hi
  numbered_order lo hi (Term.variable h n) k = k
  numbered_order lo hi (Term.constant c) k = k
  numbered_order lo hi (Term.compound n f ts) k = omega (arith, all_numbered_order (lo + 1) hi ts k.2)

  pub all_numbered_order : (lo hi : ℕ) (ts : Terms) → AllNumbered lo hi ts → lo ≤ hi
  all_numbered_order lo hi end k = k
  all_numbered_order lo hi (more t ts) k =
      omega (arith, numbered_order lo k.0 t k.1, all_numbered_order k.0 hi ts k.2)

-- The places of an item's compounds begin at a base.
module _ (places : Places) (base : ℕ) (at : (n : ℕ) → places.compound n ≡ item_place base n) where
  mutual
    unfolding Numbered AllNumbered stored arguments_stored count

    pub stored_only : (lo hi : ℕ) (t : Term) (s : List ℕ) → Numbered lo hi t → Only (item_place base lo) (item_place base hi) s (stored places t s)
    stored_only lo hi (Term.variable h n) s k = only_same (item_place base lo) (item_place base hi) s
    stored_only lo hi (Term.constant c) s k = only_same (item_place base lo) (item_place base hi) s
    stored_only lo hi (Term.compound n f ts) s k =
        let l = item_place base lo in
        let h = item_place base hi in
        let s' = arguments_stored places n 0 ts s in
        only_then l h s s' (set s' (places.compound n) (functor_word places f (count ts)))
        (arguments_stored_only lo hi n 0 (lo + 1) ts s k.0 (omega arith) (omega arith) k.2)
        (only_set l h s' (places.compound n) (functor_word places f (count ts))
        (omega (arith, at n, k.0))
        (omega (arith, at n, k.0, all_numbered_order (lo + 1) hi ts k.2)))

    -- The arguments' words lie in the place of their compound, which has the number lo.
    pub arguments_stored_only : (lo hi n i from : ℕ) (ts : Terms) (s : List ℕ) → n ≡ lo → lo < from → i + count ts ≤ 6 → AllNumbered from hi ts
        → Only (item_place base lo) (item_place base hi) s (arguments_stored places n i ts s)
    arguments_stored_only lo hi n i from end s e b few k = only_same (item_place base lo) (item_place base hi) s
    arguments_stored_only lo hi n i from (more t ts) s e b few k =
        let l = item_place base lo in
        let h = item_place base hi in
        let mid = k.0 in
        let low : from ≤ mid = numbered_order from mid t k.1 in
        let high : mid ≤ hi = all_numbered_order mid hi ts k.2 in
        let s₁ = stored places t s in
        let s₂ = set s₁ (places.compound n + 1 + i) (term_word places t) in
        only_then l h s s₁ (arguments_stored places n (i + 1) ts s₂)
        (only_wider (item_place base from) (item_place base mid) l h s s₁ (omega arith) (omega arith) (stored_only from mid t s k.1))
        (only_then l h s₁ s₂ (arguments_stored places n (i + 1) ts s₂)
        (only_set l h s₁ (places.compound n + 1 + i) (term_word places t) (omega (arith, at n)) (omega (arith, at n)))
        (arguments_stored_only lo hi n (i + 1) mid ts s₂ e (omega arith) (omega arith) k.2))

  -- A word outside the places may be set before or after.
  mutual
    unfolding Numbered AllNumbered stored arguments_stored count

    pub stored_set : (lo hi : ℕ) (t : Term) (s : List ℕ) (k v : ℕ) → Numbered lo hi t
        → ((j : ℕ) → item_place base lo ≤ j → j < item_place base hi → k ≢ j) → stored places t (set s k v) ≡ set (stored places t s) k v
    stored_set lo hi (Term.variable h n) s k v m outside = refl
    stored_set lo hi (Term.constant c) s k v m outside = refl
    stored_set lo hi (Term.compound n f ts) s k v m outside =
        let order : lo + 1 ≤ hi = all_numbered_order (lo + 1) hi ts m.2 in
        let here = places.compound n in
        let own = functor_word places f (count ts) in
        ap (λ l. set l here own) (arguments_stored_set lo hi n 0 (lo + 1) ts s k v m.0 (omega arith) (omega (arith, m.1)) m.2 outside)
        ∙ set_comm (arguments_stored places n 0 ts s) k here v own (outside here (omega (arith, at n, m.0)) (omega (arith, at n, m.0)))

    pub arguments_stored_set : (lo hi n i from : ℕ) (ts : Terms) (s : List ℕ) (k v : ℕ) → n ≡ lo → lo < from → i + count ts ≤ 6
        → AllNumbered from hi ts → ((j : ℕ) → item_place base lo ≤ j → j < item_place base hi → k ≢ j)
        → arguments_stored places n i ts (set s k v) ≡ set (arguments_stored places n i ts s) k v
    arguments_stored_set lo hi n i from end s k v e b few m outside = refl
    arguments_stored_set lo hi n i from (more t ts) s k v e b few m outside =
        let mid = m.0 in
        let low : from ≤ mid = numbered_order from mid t m.1 in
        let high : mid ≤ hi = all_numbered_order mid hi ts m.2 in
        let place = places.compound n + 1 + i in
        let w = term_word places t in
        ap (λ l. arguments_stored places n (i + 1) ts (set l place w))
        (stored_set from mid t s k v m.1 (λ j l h. outside j (omega arith) (omega arith)))
        ∙ ap (arguments_stored places n (i + 1) ts)
        (set_comm (stored places t s) k place v w (outside place (omega (arith, at n)) (omega (arith, at n))))
        ∙ arguments_stored_set lo hi n (i + 1) mid ts (set (stored places t s) place w) k v e (omega arith) (omega arith) m.2 outside
