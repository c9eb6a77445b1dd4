-- What falls in the search: the words not yet marked; then, on the way from a term of the head to what its variables are given, the side;
-- then the depth of the term at hand.
use Prim.Native.Nat.{ℕ, ◌+◌, ◌*◌, ◌≤◌, ◌<◌}
use mathlib.Core.Path.{◌≡◌}
use mathlib.Core.Bool.{Bool, true, false}
use mathlib.Core.List.{List}
use mathlib.Core.Option.{Option, none, some}
use native.Mathlib.Nat.{mul-le-mul_right, suc-mul}
use native.Mathlib.Numerals.{add-one}
use native.Mathlib.Omega.{arith}
use lib.ListN.{length, get_or, set, take, length-set}
use lib.Seq.{take-set-le}
use Rattle.meaning.specs.Terms.{Term}
use Rattle.run_circle.specs.Search.{Scene, filled, whole, side, Told, Searching, visited, Stamped}
use Rattle.run_circle.proofs.Depth.{height, height_within, height_is, shallow, flat}
use Rattle.run_circle.proofs.Unseen.{unseen, unseen_set, unseen_less}
use Rattle.run_circle.proofs.Stamps.{whole_length, searching_on}
use Rattle.run_circle.proofs.Walk.{value_depth}

abbrev lift : ℕ → Bool → ℕ
lift n true = n + 2
lift n false = 0

lift_within : (n : ℕ) (b : Bool) → lift n b ≤ n + 2
lift_within n true = omega arith
lift_within n false = omega arith

unfoldable pub pair_weight : List ℕ → (ℕ → Bool) → Bool → ℕ
pair_weight s marked b = unseen marked s * (2 * length s + 5) + lift (length s) b

unfoldable pub term_weight : List ℕ → ℕ → (ℕ → Bool) → Bool → ℕ → ℕ
term_weight s marks marked b w = pair_weight s marked b + 1 + height (length s) (filled (take marks s) (length s)) w

pub falls_to_pair : (s : List ℕ) (marks : ℕ) (marked : ℕ → Bool) (b : Bool) (w : ℕ) → pair_weight s marked b < term_weight s marks marked b w
unfolding term_weight
falls_to_pair s marks marked b w = omega arith

module _ (x : Scene) (values marks place stamp z : ℕ) (s : List ℕ) (h : Searching s x values marks place stamp z) where
  height_short : (w : ℕ) → height (length s) (filled (take marks s) (length s)) w ≤ length s
  height_short w = height_within (length s) (filled (take marks s) (length s)) w

  pub falls_to_given : (marked : ℕ → Bool) (w : ℕ) → term_weight s marks marked false w < pair_weight s marked true
  unfolding term_weight pair_weight
  falls_to_given marked w = omega (arith, height_short w)

  -- A new mark outweighs any term.
  pub falls_to_visited : (marked : ℕ → Bool) (s₁ : List ℕ) → take marks s₁ ≡ take marks s → length s₁ ≡ length s
      → unseen marked s₁ + 1 ≤ unseen marked s → (b : Bool) (w : ℕ) → term_weight s₁ marks marked b w < pair_weight s marked false
  unfolding term_weight pair_weight
  falls_to_visited marked s₁ front size less b w =
      let left = unseen marked s₁ in
      let times : (left + 1) * (2 * length s + 5) ≤ unseen marked s * (2 * length s + 5) = mul-le-mul_right (2 * length s + 5) less in
      let one_more : (left + 1) * (2 * length s + 5) ≡ left * (2 * length s + 5) + (2 * length s + 5) = plus_one left (2 * length s + 5) in
      rw (front, size) (omega (arith, height_short w, lift_within (length s) b))
    where
      plus_one : (a n : ℕ) → (a + 1) * n ≡ a * n + n
      plus_one a n = rw (add-one a) (suc-mul a n)

  pub falls_to_value : (marked : ℕ → Bool) (p m : ℕ) → marks + p < length s → marked (get_or s (marks + p) 0) ≡ false → marked m ≡ true
      → (b : Bool) (w : ℕ) → term_weight (set s (marks + p) m) marks marked b w < pair_weight s marked false
  falls_to_value marked p m inside d e =
      falls_to_visited marked (set s (marks + p) m) (take-set-le marks s (marks + p) m (omega arith)) (length-set s (marks + p) m)
      (unseen_set marked s (marks + p) m inside d e)

  -- The depth that a word tells is that of its term.
  told_height : (b : Bool) (w : ℕ) (v : Option Term) → Told x b w v → height (length s) (filled (take marks s) (length s)) w ≡ value_depth v
  told_height b w none told = flat (length s) (filled (take marks s) (length s)) w (λ e. omega (arith, told.word))
  told_height b w (some t) told =
      rw (h.front, h.size, told.word)
      (height_is (whole x) (side x b) x.size t told.held
      (omega (arith, shallow (whole x) (side x b) t told.held, whole_length s x values marks place stamp z h, h.size)))

pub falls_to_argument : (x : Scene) (values marks place stamp z : ℕ) (s₀ s : List ℕ) → Searching s₀ x values marks place stamp z
    → Stamped x marks stamp s₀ s → (marked : ℕ → Bool) → unseen marked s ≤ unseen marked s₀
    → (b : Bool) (w a : ℕ) (v u : Option Term) → Told x b w v → Told x b a u → value_depth u < value_depth v
    → term_weight s marks marked b a < term_weight s₀ marks marked b w
unfolding term_weight pair_weight
falls_to_argument x values marks place stamp z s₀ s h st marked less b w a v u told_v told_u lower =
    let fewer : unseen marked s * (2 * length s₀ + 5) ≤ unseen marked s₀ * (2 * length s₀ + 5) = mul-le-mul_right (2 * length s₀ + 5) less in
    let here = searching_on x marks stamp z s₀ s st values place h in
    rw (told_height x values marks place stamp z s here b a u told_u, told_height x values marks place stamp z s₀ h b w v told_v, st.size)
    (omega arith)

-- Marks that a search makes take words away.
pub fewer_unseen : (x : Scene) (marks stamp : ℕ) (s₀ s : List ℕ) → Stamped x marks stamp s₀ s
    → unseen (visited stamp) s ≤ unseen (visited stamp) s₀
fewer_unseen x marks stamp s₀ s st = unseen_less (visited stamp) s₀ s st.size st.others

pub lighter : (a b c t : ℕ) → c ≡ t → b ≤ c → a < b → a < t
lighter a b c t e h l = omega arith

pub no_heavier : (a b c : ℕ) → b ≤ c → a < b → a ≤ c
no_heavier a b c h l = omega arith
