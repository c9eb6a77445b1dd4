-- The hash of a part, byte by byte; and the chain of the places of one hash: each link is the last such place before, so that a walk along
-- the chain passes over no place of that hash, and a spelling that it does not meet has no place.
use Prim.Native.Nat.{ℕ, zero, suc, ◌+◌, ◌*◌, ◌%◌, ◌≤◌, ◌<◌}
use mathlib.Core.Path.{◌≡◌, refl, sym, ap, ◌∙◌}
use mathlib.Core.Bool.{Bool, true, false}
use mathlib.Core.List.{List, ◌++◌}
use mathlib.Core.Option.{none, some}
use native.Mathlib.Omega.{arith}
use native.Mathlib.Numerals.{add-one}
use lib.Dec.{eqb, ltb}
use borrow.Author.Tests.{eqb-true, eqb-false, ltb-true, ltb-false, eq-eqb, ne_eqb}
use lib.ListN.{length, drop, get_or, get_or-append, drop_of_length-le}
use lib.Seq.{drop-cons}
use Rattle.meaning.specs.Bytes.{Bytes, same, when◌then◌else◌}
use Rattle.meaning.specs.Items.{place_of}
use Rattle.laws.proofs.Lists.Tests.{same_true}
use Rattle.load_names.specs.Places.{Place, spellings}
use Rattle.load_names.specs.Tables.{hash_from, hash_of, no_place, last_with}
use Rattle.load_names.proofs.Spellings.{same_false, place_at, place_none}

pub hash_fits : (f : Bytes) → hash_of f < 256
unfolding hash_of
hash_fits f = omega arith

-- One byte more, and none left.
pub hash_next : (part : Bytes) (h i : ℕ) → i < length part → hash_from ((h * 33 + get_or part i 0) % 4294967296) (drop (i + 1) part) ≡ hash_from h (drop i part)
unfolding hash_from
hash_next part h i turn = rw (add-one i, drop-cons part i 0 turn)

pub hash_ends : (part : Bytes) (h i : ℕ) → length part ≤ i → hash_from h (drop i part) ≡ h
unfolding hash_from
hash_ends part h i all = rw (drop_of_length-le part {i = i} all)

-- The last place of a hash among the first ones, by the last of these.
module _ (h : ℕ) (places : List Place) where
  pub last_hit : (n : ℕ) → hash_of (get_or places n no_place).spelling ≡ h → last_with h places (suc n) ≡ suc n
  unfolding last_with when◌then◌else◌
  last_hit n e = rw (eq-eqb (hash_of (get_or places n no_place).spelling) h e, when◌then◌else◌)

  pub last_miss : (n : ℕ) → (hash_of (get_or places n no_place).spelling ≡ h → ⊥) → last_with h places (suc n) ≡ last_with h places n
  unfolding last_with when◌then◌else◌
  last_miss n e = rw (ne_eqb (hash_of (get_or places n no_place).spelling) h e, when◌then◌else◌)

  -- A place with this hash, or 0, and no place with it from there on.
  record Last (m next : ℕ) : Type 0 where
    below : next ≤ m
    hashed : (n : ℕ) → next ≡ suc n → hash_of (get_or places n no_place).spelling ≡ h
    beyond : (k : ℕ) → next ≤ k → k < m → hash_of (get_or places k no_place).spelling ≡ h → ⊥

  last_more : (m : ℕ) (t : Bool) → eqb (hash_of (get_or places m no_place).spelling) h ≡ t → Last m (last_with h places m)
      → Last (suc m) (last_with h places (suc m))
  last_more m true e before =
      let same_hash = eqb-true _ _ e in
      rw (last_hit m same_hash) (record {
        below = omega arith;
        hashed = λ n q. let w : n ≡ m = omega arith in rw w same_hash;
        beyond = λ k p q r. omega arith;
      })
  last_more m false e before =
      let other_hash = eqb-false _ _ e in
      rw (last_miss m other_hash) (record {
        below = omega (arith, before.below);
        hashed = before.hashed;
        beyond = λ k p q. go k p (ltb k m) refl q;
      })
    where
      go : (k : ℕ) → last_with h places m ≤ k → (t : Bool) → ltb k m ≡ t → k < suc m → hash_of (get_or places k no_place).spelling ≡ h → ⊥
      go k p true w q = before.beyond k p (ltb-true k m w)
      go k p false w q = let l = ltb-false k m w in let x : k ≡ m = omega arith in rw x (eqb-false _ _ e)

  last_is : (m : ℕ) → Last m (last_with h places m)
  unfolding last_with
  last_is zero = record { below = omega arith; hashed = λ n e. absurd (omega arith); beyond = λ k p q r. omega arith }
  last_is (suc m) = last_more m (eqb (hash_of (get_or places m no_place).spelling) h) refl (last_is m)

pub last_below : (h : ℕ) (places : List Place) (m : ℕ) → last_with h places m ≤ m
last_below h places m = (last_is h places m).below

-- Places behind the first m do not matter to the last of these.
pub last_before : (h : ℕ) (places others : List Place) (m : ℕ) → m ≤ length places → last_with h (places ++ others) m ≡ last_with h places m
unfolding last_with
last_before h places others zero k = refl
last_before h places others (suc m) k =
    rw (get_or-append places others no_place m (omega arith), last_before h places others m (omega arith))

-- Where a walk for a spelling stands: no place from there on is spelled so.
pub record Walk (f : Bytes) (places : List Place) (next : ℕ) : Type 0 where
  pub below : next ≤ length places
  pub hashed : (n : ℕ) → next ≡ suc n → hash_of (get_or places n no_place).spelling ≡ hash_of f
  pub beyond : (k : ℕ) → next ≤ k → k < length places → same f (get_or places k no_place).spelling ≡ false

module _ (f : Bytes) (places : List Place) where
  pub walk_begin : Walk f places (last_with (hash_of f) places (length places))
  walk_begin =
      let l = last_is (hash_of f) places (length places) in
      record {
        below = l.below;
        hashed = l.hashed;
        beyond = λ k p q. same_false f _ (λ e. l.beyond k p q (ap hash_of (sym e)));
      }

  pub walk_next : (next n : ℕ) → Walk f places next → next ≡ suc n → same f (get_or places n no_place).spelling ≡ false
      → Walk f places (last_with (hash_of (get_or places n no_place).spelling) places n)
  walk_next next n walk e other =
      let w : hash_of (get_or places n no_place).spelling ≡ hash_of f = walk.hashed n e in
      rw w (walked (last_is (hash_of f) places n))
    where
      walked : Last (hash_of f) places n (last_with (hash_of f) places n) → Walk f places (last_with (hash_of f) places n)
      walked l = record {
        below = omega (arith, l.below, walk.below);
        hashed = l.hashed;
        beyond = λ k p q. go k p q (ltb k n) refl (eqb k n) refl;
      }
        where
          go : (k : ℕ) → last_with (hash_of f) places n ≤ k → k < length places → (t : Bool) → ltb k n ≡ t → (u : Bool) → eqb k n ≡ u
              → same f (get_or places k no_place).spelling ≡ false
          go k p q true t u v = same_false f _ (λ r. l.beyond k p (ltb-true k n t) (ap hash_of (sym r)))
          go k p q false t true v = rw (eqb-true k n v) other
          go k p q false t false v = walk.beyond k (omega (arith, ltb-false k n t, eqb-false k n v)) q

  pub walk_found : (next n : ℕ) → Walk f places next → next ≡ suc n → same f (get_or places n no_place).spelling ≡ true
      → ((m : ℕ) → m < n → n < length places → (get_or places m no_place).spelling ≡ (get_or places n no_place).spelling → ⊥)
      → place_of f (spellings places) ≡ some n
  walk_found next n walk e hit distinct =
      let inside : n < length places = omega (arith, walk.below) in
      place_at f places n inside hit (λ m k. same_false f _ (λ r. distinct m k inside (sym r ∙ same_true f _ hit)))

  pub walk_end : Walk f places 0 → place_of f (spellings places) ≡ none
  walk_end walk = place_none f places (λ m k. walk.beyond m (omega arith) k)
