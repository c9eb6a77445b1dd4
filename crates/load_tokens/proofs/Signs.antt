-- Signs in front: of two bytes, of a single byte, and a `-` that belongs to no integer.
-- The byte behind tells a sign of two bytes, and an integer, from a bad token.
use Prim.Native.Nat.{ℕ, ◌+◌, ◌≤◌, ◌<◌}
use mathlib.Core.Path.{◌≡◌, refl, ◌∙◌}
use mathlib.Core.Bool.{Bool, true, false, ◌&&◌, ◌||◌}
use native.Mathlib.Omega.{arith}
use lib.Dec.{eqb}
use lib.ListN.{length, drop, get_or}
use Rattle.meaning.specs.Bytes.{Bytes, byte, when◌then◌else◌}
use Rattle.meaning.specs.Tokens.{Front, sign, single_sign, digit, next_is, minus_front, front}
use Rattle.load_tokens.specs.Fronts.{FrontIs, double_sign, second, begins_sign, behind}
use Rattle.load_tokens.specs.declared.token.Token.TheVariants.{Sign, Bad}
use Rattle.load_tokens.proofs.TokensIn.{token_in_front, bad_in_front}
use Rattle.load_tokens.proofs.Classes.{of_signs}
use Rattle.load_tokens.proofs.Leads.{next_in, next_out, next_inside, sign_leads, double_leads, minus_leads}

pub behind_double : (c a : ℕ) → double_sign c ≡ true → behind c a ≡ a + 2
unfolding behind when◌then◌else◌
behind_double c a e = rw e

pub behind_single : (c a : ℕ) → double_sign c ≡ false → behind c a ≡ a + 1
unfolding behind when◌then◌else◌
behind_single c a e = rw e

module _ (rest : Bytes) (a : ℕ) (h : a < length rest) where
  -- A sign of a single byte, which begins no sign of two.
  single_is : (c : ℕ) → c ≡ get_or rest a 0 → single_sign c ≡ true → FrontIs rest a (Sign c a)
  unfolding byte double_sign
  single_is c q s =
      let no_double = of_signs (λ b. double_sign b ≡ false) refl refl refl refl refl refl refl c s in
      let place : behind c a ≡ a + 1 = behind_single c a no_double in
      let inside : behind c a ≤ length rest = omega arith in
      let leads : front (get_or rest a 0) (drop (a + 1) rest) ≡ Front.token 0 (sign c) = rw (← q) (sign_leads c (drop (a + 1) rest) s) in
      (omega arith, inside, token_in_front rest a h 0 (behind c a) (sign c) leads (omega arith) inside)

  double_is : (c : ℕ) → c ≡ get_or rest a 0 → double_sign c ≡ true → next_is (λ d. eqb d (second c)) (drop (a + 1) rest) ≡ true → FrontIs rest a (Sign c a)
  unfolding when◌then◌else◌
  double_is c q t other =
      let place : behind c a ≡ a + 2 = behind_double c a t in
      let more : a + 1 < length rest = next_inside _ rest (a + 1) other in
      let inside : behind c a ≤ length rest = omega arith in
      let leads : front (get_or rest a 0) (drop (a + 1) rest) ≡ Front.token 1 (sign c) = rw (← q) (double_leads c (drop (a + 1) rest) t ∙ rw other) in
      (omega arith, inside, token_in_front rest a h 1 (behind c a) (sign c) leads (omega arith) inside)

  sign_by : (c : ℕ) → c ≡ get_or rest a 0 → (b d : Bool) → single_sign c ≡ b → double_sign c ≡ d
      → (b || d && next_is (λ e. eqb e (second c)) (drop (a + 1) rest)) ≡ true → FrontIs rest a (Sign c a)
  sign_by c q true d s t e = single_is c q s
  sign_by c q false true s t e = double_is c q t e
  sign_by c q false false s t e =
      let z : ◌≡◌ {A = ℕ} 0 1 = cc in
      absurd (omega arith)

  pub sign_is : (c : ℕ) → c ≡ get_or rest a 0 → begins_sign c (drop (a + 1) rest) ≡ true → FrontIs rest a (Sign c a)
  unfolding begins_sign
  sign_is c q e = sign_by c q (single_sign c) (double_sign c) refl refl e

module _ (rest : Bytes) (a : ℕ) (h : a < length rest) (q : get_or rest a 0 ≡ byte "-") where
  no_minus : next_is digit (drop (a + 1) rest) ≡ false → FrontIs rest a (Bad a)
  unfolding minus_front when◌then◌else◌
  no_minus fails = bad_in_front rest a h 0 (minus_leads (get_or rest a 0) (drop (a + 1) rest) q ∙ rw fails)

  pub last_minus_is : length rest ≤ a + 1 → FrontIs rest a (Bad a)
  last_minus_is end = no_minus (next_out digit rest (a + 1) end)

  pub no_minus_is : a + 1 < length rest → digit (get_or rest (a + 1) 0) ≡ false → FrontIs rest a (Bad a)
  no_minus_is more fails = no_minus (next_in digit rest (a + 1) more ∙ fails)
