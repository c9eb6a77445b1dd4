-- Spellings in a list: a spelling's place is there exactly if it is among them, and one that is not there gets the next place.
use Prim.Native.Nat.{ℕ, suc, ◌<◌}
use mathlib.Core.Path.{◌≡◌, refl, ap, sym, ◌∙◌}
use mathlib.Core.Bool.{Bool, true, false, ◌||◌}
use mathlib.Core.List.{List, [], ◌∷◌, ◌++◌, map-append}
use mathlib.Core.Option.{Option, none, some}
use native.Mathlib.Omega.{arith}
use lib.ListN.{length, length-map}
use Rattle.meaning.specs.Bytes.{Bytes, same, any, when◌then◌else◌}
use Rattle.meaning.specs.Items.{place_of}
use Rattle.laws.proofs.Lists.Tests.{same_refl}
use Rattle.term.specs.Cells.{number_of}
use Rattle.load_names.specs.Places.{Place, spellings, with_place}

-- What `place_of` does at one spelling, over the place among those behind it.
abbrev one_behind : Bool → Option ℕ → Option ℕ
one_behind b o = elim b [ true ↦ some 0 | false ↦ elim o [ none ↦ none | some n ↦ some (suc n) ] ]

behind_none : (b : Bool) (o : Option ℕ) → b ≡ false → o ≡ none → one_behind b o ≡ none
behind_none true o e h = let z : ◌≡◌ {A = ℕ} 0 1 = cc in absurd (omega arith)
behind_none false none e h = refl
behind_none false (some m) e h = let z : ◌≡◌ {A = ℕ} 0 1 = cc in absurd (omega arith)

behind_here : (b : Bool) (o : Option ℕ) → b ≡ true → one_behind b o ≡ some 0
behind_here true o e = refl
behind_here false o e = let z : ◌≡◌ {A = ℕ} 0 1 = cc in absurd (omega arith)

behind_next : (b : Bool) (o : Option ℕ) (m : ℕ) → b ≡ false → o ≡ some m → one_behind b o ≡ some (suc m)
behind_next true o m e h = let z : ◌≡◌ {A = ℕ} 0 1 = cc in absurd (omega arith)
behind_next false none m e h = let z : ◌≡◌ {A = ℕ} 0 1 = cc in absurd (omega arith)
behind_next false (some k) m e h = cc

or_false : (a b : Bool) → (a || b) ≡ false → (a ≡ false) × (b ≡ false)
or_false true b h = let z : ◌≡◌ {A = ℕ} 0 1 = cc in absurd (omega arith)
or_false false b h = (refl, h)

pub place_none : (x : Bytes) (ys : List Bytes) → any (same x) ys ≡ false → place_of x ys ≡ none
unfolding any place_of
place_none x [] h = refl
place_none x (y ∷ ys) h =
    let both = or_false (same x y) (any (same x) ys) h in
    behind_none (same x y) (place_of x ys) both.0 (place_none x ys both.1)

pub place_last : (x : Bytes) (ys : List Bytes) → any (same x) ys ≡ false → place_of x (ys ++ (x ∷ [])) ≡ some (length ys)
unfolding any place_of
place_last x [] h = behind_here (same x x) none (same_refl x)
place_last x (y ∷ ys) h =
    let both = or_false (same x y) (any (same x) ys) h in
    behind_next (same x y) (place_of x (ys ++ (x ∷ []))) (length ys) both.0 (place_last x ys both.1)

behind_some : (b : Bool) (o : Option ℕ) (n : ℕ) → one_behind b o ≡ some n → b ≡ false → (m : ℕ) × (o ≡ some m) × (n ≡ suc m)
behind_some true o n h e = let z : ◌≡◌ {A = ℕ} 0 1 = cc in absurd (omega arith)
behind_some false none n h e = let z : ◌≡◌ {A = ℕ} 0 1 = cc in absurd (omega arith)
behind_some false (some m) n h e = (m, refl, cc)

-- A spelling that has a place is among them; its number is the place, below their number.
pub record PlacedAt (x : Bytes) (ys : List Bytes) (n : ℕ) : Type 0 where
  pub among : any (same x) ys ≡ true
  pub number : number_of x ys ≡ n
  pub below : n < length ys

placed_cons : (x y : Bytes) (ys : List Bytes) (n : ℕ) (b : Bool) → same x y ≡ b → one_behind b (place_of x ys) ≡ some n
    → ((m : ℕ) → place_of x ys ≡ some m → PlacedAt x ys m) → PlacedAt x (y ∷ ys) n
unfolding any number_of when◌then◌else◌
placed_cons x y ys n true e h next =
    let z : n ≡ 0 = cc in
    record { among = rw e; number = rw (e, z); below = omega arith }
placed_cons x y ys n false e h next =
    let step = behind_some false (place_of x ys) n h refl in
    let p = next step.0 step.1 in
    record { among = rw e p.among; number = rw e (ap suc p.number ∙ sym step.2); below = omega (arith, p.below, step.2) }

pub placed : (x : Bytes) (ys : List Bytes) (n : ℕ) → place_of x ys ≡ some n → PlacedAt x ys n
unfolding place_of
placed x [] n h = let z : ◌≡◌ {A = ℕ} 0 1 = cc in absurd (omega arith)
placed x (y ∷ ys) n h = placed_cons x y ys n (same x y) refl h (λ m e. placed x ys m e)

-- The spellings of places one behind the other.
pub spellings_append : (a b : List Place) → spellings (a ++ b) ≡ spellings a ++ spellings b
unfolding spellings
spellings_append a b = map-append (λ p. p.spelling) a b

pub spellings_snoc : (ps : List Place) (at : ℕ) (f : Bytes) → spellings (ps ++ (record { at = at; spelling = f } ∷ [])) ≡ spellings ps ++ (f ∷ [])
unfolding spellings
spellings_snoc ps at f = spellings_append ps (record { at = at; spelling = f } ∷ [])

pub spellings_length : (a : List Place) → length (spellings a) ≡ length a
unfolding spellings
spellings_length a = length-map a (λ p. p.spelling)

-- One place more, or the same places.
with_place_is : (at : ℕ) (f : Bytes) (a : List Place) (b : Bool) → any (same f) (spellings a) ≡ b
    → with_place at f a ≡ (when b then a else a ++ (record { at = at; spelling = f } ∷ []))
unfolding with_place
with_place_is at f a b e = rw e

pub with_known : (at : ℕ) (f : Bytes) (a : List Place) → any (same f) (spellings a) ≡ true → with_place at f a ≡ a
unfolding when◌then◌else◌
with_known at f a e = with_place_is at f a true e

pub with_new : (at : ℕ) (f : Bytes) (a : List Place) → any (same f) (spellings a) ≡ false
    → with_place at f a ≡ a ++ (record { at = at; spelling = f } ∷ [])
unfolding when◌then◌else◌
with_new at f a e = with_place_is at f a false e
