-- The tokens of a part of the text by offsets: what stands in front at an offset decides where they go on.
-- `tokens_from` counts down the bytes of a token; here they are dropped at once.
use Prim.Native.Nat.{ℕ, zero, suc, ◌+◌, ◌≤◌, ◌<◌}
use mathlib.Core.Path.{◌≡◌, refl, ap, ◌∙◌}
use mathlib.Core.Bool.{false}
use mathlib.Core.List.{List, [], ◌∷◌}
use native.Mathlib.Nat.{add-zero}
use native.Mathlib.Omega.{arith}
use lib.ListN.{length, drop, get_or, length-drop}
use lib.Seq.{drop-drop, drop-length}
use Rattle.meaning.specs.Bytes.{Bytes}
use Rattle.meaning.specs.Tokens.{Token, Tokens, ends, bad, Front, blank, front, placed, tokens_from}
use Rattle.load_tokens.specs.Fronts.{tokens_in, FrontIs}
use Rattle.load_tokens.specs.Nexts.{one_of, Stops}
use Rattle.load_tokens.specs.declared.token.Token.{Token as Code}
use Rattle.load_tokens.specs.declared.token.Token.TheVariants.{End, Name, Writer, Reader, Integer as AnInteger, Sign, Bad}
use Rattle.load_tokens.proofs.Parts.{drop_next}

tokens_skip : (at k : ℕ) (cs : Bytes) → k ≤ length cs → tokens_from at k cs ≡ tokens_from (at + k) 0 (drop k cs)
unfolding tokens_from
tokens_skip at zero cs h = rw (add-zero at)
tokens_skip at (suc k) [] h = absurd (omega arith)
tokens_skip at (suc k) (c ∷ cs) h =
    let same : at + 1 + k ≡ at + suc k = omega arith in
    rw same at (tokens_skip (at + 1) k cs (omega arith))

pub tokens_end : (rest : Bytes) (from : ℕ) → tokens_in from rest (length rest) ≡ ends (from + length rest)
unfolding tokens_from
tokens_end rest from = rw (drop-length rest)

module _ (rest : Bytes) (a : ℕ) (h : a < length rest) where
  tokens_front : (from : ℕ) → tokens_in from rest a ≡ placed (from + a) (front (get_or rest a 0) (drop (a + 1) rest)) (λ n. tokens_from (from + a + 1) n (drop (a + 1) rest))
  unfolding tokens_from
  tokens_front from = rw (drop_next rest a h)

  tokens_behind : (from n m : ℕ) → a + 1 + n ≡ m → m ≤ length rest → tokens_from (from + a + 1) n (drop (a + 1) rest) ≡ tokens_in from rest m
  tokens_behind from n m p k =
      let fits : n ≤ length (drop (a + 1) rest) = omega (arith, length-drop (a + 1) rest) in
      let place : from + a + 1 + n ≡ from + m = omega arith in
      rw (tokens_skip (from + a + 1) n (drop (a + 1) rest) fits, drop-drop n (a + 1) rest, place, p)

  -- In front stand bytes between tokens, and the tokens go on at m.
  pub blank_in_front : (n m : ℕ) → front (get_or rest a 0) (drop (a + 1) rest) ≡ blank n → a + 1 + n ≡ m → m ≤ length rest
      → (from : ℕ) → tokens_in from rest a ≡ tokens_in from rest m
  unfolding placed
  blank_in_front n m e p k from = tokens_front from ∙ rw e (tokens_behind from n m p k)

  -- In front stands a token, and the others go on at m.
  pub token_in_front : (n m : ℕ) (t : Token) → front (get_or rest a 0) (drop (a + 1) rest) ≡ Front.token n t → a + 1 + n ≡ m → m ≤ length rest
      → (from : ℕ) → tokens_in from rest a ≡ Tokens.token (from + a) t (tokens_in from rest m)
  unfolding placed
  token_in_front n m t e p k from = tokens_front from ∙ rw e (ap (λ others. Tokens.token (from + a) t others) (tokens_behind from n m p k))

  -- Behind a bad token nothing is asked of the others.
  pub bad_in_front : (n : ℕ) → front (get_or rest a 0) (drop (a + 1) rest) ≡ Front.token n bad → FrontIs rest a (Bad a)
  unfolding placed
  bad_in_front n e =
      (omega arith, h, λ from. (tokens_from (from + a + 1) n (drop (a + 1) rest), tokens_front from ∙ rw e))

  -- The tokens stop at a token that is none of these signs.
  pub stops_in_front : (signs : List ℕ) (n : ℕ) (t : Token) → front (get_or rest a 0) (drop (a + 1) rest) ≡ Front.token n t → one_of signs t ≡ false
      → (from : ℕ) → Stops (one_of signs) (from + a) (tokens_in from rest a)
  unfolding placed
  stops_in_front signs n t e f from = rw (tokens_front from, e) (refl, f)

-- What stands in front at a later offset, behind bytes between tokens, stands in front here.
pub from_later : (rest : Bytes) (at a : ℕ) (r : Code) → at ≤ a → ((from : ℕ) → tokens_in from rest at ≡ tokens_in from rest a) → FrontIs rest a r → FrontIs rest at r
from_later rest at a End h same f = λ from. same from ∙ f from
from_later rest at a (Name b e) h same f = (omega arith, f.1, f.2, f.3, λ from. same from ∙ f.4 from)
from_later rest at a (Writer b e) h same f = (omega arith, f.1, f.2, f.3, λ from. same from ∙ f.4 from)
from_later rest at a (Reader b e) h same f = (omega arith, f.1, f.2, f.3, λ from. same from ∙ f.4 from)
from_later rest at a (AnInteger w b e) h same f = (omega arith, f.1, f.2, f.3, f.4, f.5, λ from. same from ∙ f.6 from)
from_later rest at a (Sign c b) h same f = (omega arith, f.1, λ from. same from ∙ f.2 from)
from_later rest at a (Bad b) h same f = (omega arith, f.1, λ from. ((f.2 from).0, same from ∙ (f.2 from).1))
