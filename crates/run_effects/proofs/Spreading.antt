-- Compounds copied one behind the other: how many words they take, that there are places for them, lists of terms joined, and that copies stay held
-- where their own words stay.
use Prim.Native.Nat.{ℕ, ◌+◌, ◌*◌, ◌≤◌, ◌<◌}
use mathlib.Core.Path.{◌≡◌, refl, ◌∙◌}
use mathlib.Core.Bool.{Bool, true, false}
use mathlib.Core.List.{List, [], ◌∷◌, ◌++◌}
use native.Mathlib.Omega.{arith}
use lib.Dec.{ltb}
use lib.ListN.{length, get_or}
use borrow.Author.Tests.{lt-ltb, le-ltb}
use Rattle.meaning.specs.Bytes.{when◌then◌else◌}
use Rattle.meaning.specs.Terms.{Term, Terms, Named, variable, constant, compound, end, more, count, renamed, all_renamed, as_term}
use Rattle.term.specs.Cells.{Places, Numbered, AllNumbered}
use Rattle.term.specs.Every.{Every, EveryOf}
use Rattle.term.specs.Holds.{Holds}
use Rattle.term.specs.Jobs.{GoalsNumbered}
use Rattle.term.specs.Setting.{Within, AllWithin}
use Rattle.term.proofs.Cells.{numbered_order, all_numbered_order}
use Rattle.term.proofs.Holds.{holds_alike}
use Rattle.run_compare.specs.Gifts.{Entry}
use Rattle.run_effects.specs.Build.{Item, size, sizes, Copies, Spread, AllSpread, total, ListSpread, Rising, Moved}
use Rattle.run_effects.specs.Reducing.{EntryTerms, entry_terms, EntriesGiven, GoalsWithin, goal_terms, GoalsHeld}

-- A compound takes at most seven words.
mutual
  unfolding Numbered AllNumbered size sizes count

  pub size_few : (lo hi : ℕ) (t : Term) → Numbered lo hi t → size t + 7 * lo ≤ 7 * hi
  size_few lo hi (variable h n) k = omega arith
  size_few lo hi (constant c) k = omega arith
  size_few lo hi (compound n f ts) k = omega (arith, k.1, sizes_few (lo + 1) hi ts k.2)

  pub sizes_few : (lo hi : ℕ) (ts : Terms) → AllNumbered lo hi ts → sizes ts + 7 * lo ≤ 7 * hi
  sizes_few lo hi end k = omega arith
  sizes_few lo hi (more t ts) k = omega (arith, size_few lo k.0 t k.1, sizes_few k.0 hi ts k.2)

pub rising_order : (lo hi : ℕ) (ts : List Term) → Rising lo hi ts → lo ≤ hi
unfolding Rising
rising_order lo hi [] k = k
rising_order lo hi (t ∷ ts) (a, b, l, n, k) = omega (arith, numbered_order a b t n, rising_order b hi ts k)

pub total_few : (lo hi : ℕ) (ts : List Term) → Rising lo hi ts → total ts + 7 * lo ≤ 7 * hi
unfolding Rising total
total_few lo hi [] k = omega arith
total_few lo hi (t ∷ ts) (a, b, l, n, k) = omega (arith, size_few a b t n, total_few b hi ts k)

-- Terms one behind the other, in two lists.
pub total_append : (ts us : List Term) → total (ts ++ us) ≡ total ts + total us
unfolding total
total_append [] us = omega arith
total_append (t ∷ ts) us = omega (arith, total_append ts us)

pub list_spread_append : (y : Copies) (to : ℕ) (ts us : List Term) → ListSpread y to (ts ++ us)
    → ListSpread y to ts × ListSpread y (to + total ts) us
unfolding total ListSpread
list_spread_append y to [] us k = let none : to + 0 ≡ to = omega arith in (tt, rw none k)
list_spread_append y to (t ∷ ts) us k =
    let (first, second) = list_spread_append y (to + size t) ts us k.1 in
    let place : to + (size t + total ts) ≡ to + size t + total ts = omega arith in
    ((k.0, first), rw place second)

-- What rises from a number rises from any before it.
pub rising_later : (lo lo' hi : ℕ) (ts : List Term) → lo' ≤ lo → Rising lo hi ts → Rising lo' hi ts
unfolding Rising
rising_later lo lo' hi [] l k = omega arith
rising_later lo lo' hi (t ∷ ts) l (a, b, m, n, k) = (a, b, omega arith, n, k)

pub rising_append : (lo mid hi : ℕ) (ts us : List Term) → Rising lo mid ts → Rising mid hi us → Rising lo hi (ts ++ us)
unfolding Rising
rising_append lo mid hi [] us k m = rising_later mid lo hi us k m
rising_append lo mid hi (t ∷ ts) us (a, b, l, n, k) m = (a, b, l, n, rising_append b mid hi ts us k m)

pub goals_rising : (lo hi : ℕ) (goals : List Named) → GoalsNumbered lo hi goals → Rising lo hi (goal_terms goals)
unfolding Rising GoalsNumbered
goals_rising lo hi [] k = k
goals_rising lo hi (g ∷ gs) (mid, n, k) = (lo, mid, omega arith, n, goals_rising mid hi gs k)

-- Only the numbers of a term matter for where its compounds are.
Alike : Copies → Copies → ℕ → ℕ → Type 0
Alike y z lo hi = (n : ℕ) → lo ≤ n → n < hi → (z.at n ≡ y.at n) × (z.width n ≡ y.width n)

mutual
  unfolding Numbered AllNumbered Spread AllSpread Alike

  spread_alike : (y z : Copies) (lo hi to : ℕ) (t : Term) → Alike y z lo hi → Numbered lo hi t → Spread y to t → Spread z to t
  spread_alike y z lo hi to (variable h n) same k d = tt
  spread_alike y z lo hi to (constant c) same k d = tt
  spread_alike y z lo hi to (compound n f ts) same k d =
      let order : lo + 1 ≤ hi = all_numbered_order (lo + 1) hi ts k.2 in
      let own = same n (omega (arith, k.0)) (omega (arith, k.0)) in (
        own.0 ∙ d.0,
        own.1 ∙ d.1,
        all_spread_alike y z (lo + 1) hi (to + 1 + count ts) ts (λ m l h. same m (omega arith) h) k.2 d.2,
      )

  all_spread_alike : (y z : Copies) (lo hi to : ℕ) (ts : Terms) → Alike y z lo hi → AllNumbered lo hi ts → AllSpread y to ts → AllSpread z to ts
  all_spread_alike y z lo hi to end same k d = tt
  all_spread_alike y z lo hi to (more t ts) same (mid, n, k) d =
      let low : lo ≤ mid = numbered_order lo mid t n in
      let high : mid ≤ hi = all_numbered_order mid hi ts k in (
        spread_alike y z lo mid to t (λ m l h. same m l (omega arith)) n d.0,
        all_spread_alike y z mid hi (to + size t) ts (λ m l h. same m (omega arith) h) k d.1,
      )

list_spread_alike : (y z : Copies) (lo hi to : ℕ) (ts : List Term) → Alike y z lo hi → Rising lo hi ts → ListSpread y to ts → ListSpread z to ts
unfolding Rising ListSpread Alike
list_spread_alike y z lo hi to [] same k d = tt
list_spread_alike y z lo hi to (t ∷ ts) same (a, b, l, n, k) d =
    let low : a ≤ b = numbered_order a b t n in
    let high : b ≤ hi = rising_order b hi ts k in (
      spread_alike y z a b to t (λ m g h. same m (omega arith) (omega arith)) n d.0,
      list_spread_alike y z b hi (to + size t) ts (λ m g h. same m (omega arith) h) k d.1,
    )

-- Copies by two: of numbers below one the first's, of the others the second's.
joined : ℕ → Copies → Copies → Copies
joined mid y z = record {
  at = λ n. when ltb n mid then y.at n else z.at n;
  width = λ n. when ltb n mid then y.width n else z.width n;
}

joined_first : (mid lo : ℕ) (y z : Copies) → Alike y (joined mid y z) lo mid
unfolding Alike joined when◌then◌else◌
joined_first mid lo y z n l h = let test : ltb n mid ≡ true = lt-ltb n mid h in (rw test refl, rw test refl)

joined_second : (mid hi : ℕ) (y z : Copies) → Alike z (joined mid y z) mid hi
unfolding Alike joined when◌then◌else◌
joined_second mid hi y z n l h = let test : ltb n mid ≡ false = le-ltb n mid l in (rw test refl, rw test refl)

-- All copies lie between two words.
abbrev pub Between : ℕ → ℕ → Copies → Type 0
Between lo hi y = (n : ℕ) → (lo ≤ y.at n) × (y.at n + y.width n ≤ hi)

joined_between : (mid lo hi : ℕ) (y z : Copies) → Between lo hi y → Between lo hi z → Between lo hi (joined mid y z)
unfolding joined when◌then◌else◌
joined_between mid lo hi y z a b n = go (ltb n mid)
  where
    go : (t : Bool) → (lo ≤ (when t then y.at n else z.at n)) × ((when t then y.at n else z.at n) + (when t then y.width n else z.width n) ≤ hi)
    go true = a n
    go false = b n

between_wider : (lo hi lo' hi' : ℕ) (y : Copies) → lo' ≤ lo → hi ≤ hi' → Between lo hi y → Between lo' hi' y
between_wider lo hi lo' hi' y l h a n = (omega (arith, (a n).0), omega (arith, (a n).1))

-- No words for any number.
nowhere : ℕ → Copies
nowhere to = record { at = λ n. to; width = λ n. 0 }

-- There are copies that lie one behind the other.
mutual
  unfolding Numbered AllNumbered Spread AllSpread size sizes Alike nowhere

  pub spread_term : (lo hi : ℕ) (t : Term) → Numbered lo hi t → (to : ℕ) → (y : Copies) × Spread y to t × Between to (to + size t) y
  spread_term lo hi (variable h n) k to = (nowhere to, tt, λ m. (omega arith, omega arith))
  spread_term lo hi (constant c) k to = (nowhere to, tt, λ m. (omega arith, omega arith))
  spread_term lo hi (compound n f ts) k to =
      let (z, d, b) = spread_terms (lo + 1) hi ts k.2 (to + 1 + count ts) in
      let own : Copies = record { at = λ m. to; width = λ m. 1 + count ts } in
      let y = joined (lo + 1) own z in
      let first = joined_first (lo + 1) lo own z n (omega (arith, k.0)) (omega (arith, k.0)) in (
        y,
        (first.0, first.1, all_spread_alike z y (lo + 1) hi (to + 1 + count ts) ts (joined_second (lo + 1) hi own z) k.2 d),
        joined_between (lo + 1) to (to + (1 + count ts + sizes ts)) own z (λ m. (omega arith, omega arith))
            (between_wider (to + 1 + count ts) (to + 1 + count ts + sizes ts) to (to + (1 + count ts + sizes ts)) z (omega arith) (omega arith) b),
      )

  spread_terms : (lo hi : ℕ) (ts : Terms) → AllNumbered lo hi ts → (to : ℕ) → (y : Copies) × AllSpread y to ts × Between to (to + sizes ts) y
  spread_terms lo hi end k to = (nowhere to, tt, λ m. (omega arith, omega arith))
  spread_terms lo hi (more t ts) (mid, n, k) to =
      let (y, d, b) = spread_term lo mid t n to in
      let (z, e, c) = spread_terms mid hi ts k (to + size t) in
      let both = joined mid y z in (
        both,
        (
          spread_alike y both lo mid to t (joined_first mid lo y z) n d,
          all_spread_alike z both mid hi (to + size t) ts (joined_second mid hi y z) k e,
        ),
        joined_between mid to (to + (size t + sizes ts)) y z
            (between_wider to (to + size t) to (to + (size t + sizes ts)) y (omega arith) (omega arith) b)
            (between_wider (to + size t) (to + size t + sizes ts) to (to + (size t + sizes ts)) z (omega arith) (omega arith) c),
      )

pub spread : (lo hi : ℕ) (ts : List Term) → Rising lo hi ts → (to : ℕ)
    → (y : Copies) × ListSpread y to ts × ((n : ℕ) → (to ≤ y.at n) × (y.at n + y.width n ≤ to + total ts))
unfolding Rising ListSpread total nowhere
spread lo hi [] k to = (nowhere to, tt, λ n. (omega arith, omega arith))
spread lo hi (t ∷ ts) (a, b, l, n, k) to =
    let (y, d, inside) = spread_term a b t n to in
    let (z, e, others) = spread b hi ts k (to + size t) in
    let both = joined b y z in (
      both,
      (
        spread_alike y both a b to t (joined_first b a y z) n d,
        list_spread_alike z both b hi (to + size t) ts (joined_second b hi y z) k e,
      ),
      joined_between b to (to + (size t + total ts)) y z
          (between_wider to (to + size t) to (to + (size t + total ts)) y (omega arith) (omega arith) inside)
          (between_wider (to + size t) (to + size t + total ts) to (to + (size t + total ts)) z (omega arith) (omega arith) others),
    )

-- Where the compounds of a copy lie, and that it stays held where their words stay.
module _ (x : Item) (places : Places) (pair : ℕ) (y : Copies) (p c : ℕ) (moved : Moved x places pair y p c) where
  mutual
    unfolding Within AllWithin Spread AllSpread size sizes renamed all_renamed Every EveryOf

    pub copy_every : (lo hi to : ℕ) (t : Term) → lo ≤ to → to + size t ≤ hi → Within x.pairs x.compounds t → Spread y to t
        → Every (λ n. (lo ≤ places.compound n) × (places.compound n + places.width n ≤ hi)) (renamed p c t)
    copy_every lo hi to (variable h n) l u w d = tt
    copy_every lo hi to (constant k) l u w d = tt
    copy_every lo hi to (compound n f ts) l u w d =
        let place : places.compound (c + n) ≡ to = moved.compound_at n w.0 ∙ d.0 in
        let wide : places.width (c + n) ≡ 1 + count ts = moved.width_at n w.0 ∙ d.1 in (
          (omega arith, omega arith),
          copies_every lo hi (to + 1 + count ts) ts (omega arith) (omega arith) w.1 d.2,
        )

    pub copies_every : (lo hi to : ℕ) (ts : Terms) → lo ≤ to → to + sizes ts ≤ hi → AllWithin x.pairs x.compounds ts → AllSpread y to ts
        → EveryOf (λ n. (lo ≤ places.compound n) × (places.compound n + places.width n ≤ hi)) (all_renamed p c ts)
    copies_every lo hi to end l u w d = tt
    copies_every lo hi to (more t ts) l u w d = (
      copy_every lo hi to t l (omega arith) w.0 d.0,
      copies_every lo hi (to + size t) ts (omega arith) (omega arith) w.1 d.1,
    )

  module _ (s s' : List ℕ) (size_kept : length s ≤ length s') where
    pub copy_stays : (to : ℕ) (t : Term) → ((k : ℕ) → to ≤ k → k < to + size t → get_or s' k 0 ≡ get_or s k 0) → Within x.pairs x.compounds t
        → Spread y to t → Holds s places (renamed p c t) → Holds s' places (renamed p c t)
    copy_stays to t same w d h =
        holds_alike s s' places (λ n. (to ≤ places.compound n) × (places.compound n + places.width n ≤ to + size t)) size_kept
        (λ n inside k l u. same k (omega arith) (omega arith)) (renamed p c t) (copy_every to (to + size t) to t (omega arith) (omega arith) w d) h

    pub goal_copies_stay : (to : ℕ) (goals : List Named) → ((k : ℕ) → to ≤ k → k < to + total (goal_terms goals) → get_or s' k 0 ≡ get_or s k 0)
        → GoalsWithin x.pairs x.compounds goals → ListSpread y to (goal_terms goals) → GoalsHeld s places p c goals → GoalsHeld s' places p c goals
    unfolding total ListSpread GoalsWithin GoalsHeld
    goal_copies_stay to [] same w d h = tt
    goal_copies_stay to (g ∷ gs) same w d h = (
      copy_stays to (as_term g) (λ k l u. same k l (omega arith)) w.0 d.0 h.0,
      goal_copies_stay (to + size (as_term g)) gs (λ k l u. same k (omega arith) (omega arith)) w.1 d.1 h.1,
    )

    -- The entries' pairs keep their words besides.
    pub entry_copies_stay : (unit : Places) (values bound to : ℕ) (list : List Entry) → ((z : ℕ) → z < bound → get_or s' (values + z) 0 ≡ get_or s (values + z) 0)
        → ((k : ℕ) → to ≤ k → k < to + total (entry_terms list) → get_or s' k 0 ≡ get_or s k 0) → (s₀ : List ℕ) → EntryTerms s₀ x unit bound list
        → ListSpread y to (entry_terms list) → EntriesGiven s unit places values p c list → EntriesGiven s' unit places values p c list
    unfolding total ListSpread EntryTerms EntriesGiven
    entry_copies_stay unit values bound to [] words same s₀ w d h = tt
    entry_copies_stay unit values bound to (e ∷ es) words same s₀ w d h = (
      (
        words (unit.pair e.pair) w.0.0 ∙ h.0.0,
        copy_stays to e.term (λ k l u. same k l (omega arith)) w.0.1.within d.0 h.0.1,
      ),
      entry_copies_stay unit values bound (to + size e.term) es words (λ k l u. same k (omega arith) (omega arith)) s₀ w.1 d.1 h.1,
    )
