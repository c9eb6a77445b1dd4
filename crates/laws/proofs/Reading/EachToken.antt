-- What holds of every token that can stand in front of some bytes holds of each token of a text, and of each token of its pieces.
-- By induction over the text, and then over its tokens, cut behind each full stop.
use Prim.Native.Char.{Char}
use Prim.Native.Nat.{ℕ, zero, suc, ◌+◌, ◌≤◌}
use mathlib.Core.Path.{◌≡◌, refl}
use mathlib.Core.Bool.{Bool, true, false, ◌||◌}
use mathlib.Core.List.{List, [], ◌∷◌}
use lib.Dec.{leb, eqb}
use lib.ListN.{length}
use borrow.Author.Tests.{leb-true}
use Rattle.meaning.specs.Bytes.{Bytes, byte}
use Rattle.meaning.specs.Terms.{Half, writer, reader}
use Rattle.meaning.specs.Tokens.{
  Token,
  name,
  variable,
  sign,
  bad,
  Tokens,
  ends,
  token,
  Front,
  blank,
  lowercase,
  uppercase,
  digit,
  underscore,
  separates,
  single_sign,
  in_run,
  run,
  next_is,
  unless_overlong,
  unsigned,
  negative,
  name_front,
  variable_front,
  double_front,
  minus_front,
  front,
  placed,
  tokens_from,
  tokens,
}
use Rattle.meaning.specs.Items.{is, onto, pieces}
use Rattle.laws.proofs.Lists.{Each, if_holds, false_not_true}

-- Each token has the property.
abbrev pub EachToken : (Token → Type 0) → Tokens → Type 0
EachToken P (ends place) = Unit {0}
EachToken P (token place t rest) = P t × EachToken P rest

-- A run that begins with a digit.
digit_run : (c : ℕ) (cs : Bytes) → digit c ≡ true → run (c ∷ cs) ≡ c ∷ run cs
unfolding run in_run digit
digit_run c cs e = rw (e, run)

-- What holds of names, variables, integers and signs as they are made, and of a bad token.
pub record OfEveryToken (P : Token → Type 0) : Type 0 where
  pub names : (c : ℕ) (cs : Bytes) → lowercase c ≡ true → length (c ∷ run cs) ≤ 31 → P (name (c ∷ run cs))
  pub variables : (h : Half) (c : ℕ) (cs : Bytes) → uppercase c ≡ true → length (c ∷ run cs) ≤ 31 → P (variable h (c ∷ run cs))
  pub unsigned_ones : (cs : Bytes) → P (unsigned cs)
  pub negative_ones : (c : ℕ) (cs : Bytes) → digit c ≡ true → P (negative (c ∷ cs))
  pub signs : (c : ℕ) → P (sign c)
  pub bad_one : P bad

module _ (P : Token → Type 0) (every : OfEveryToken P) where
  -- What stands in front.
  abbrev FrontHolds : Front → Type 0
  FrontHolds (blank n) = Unit {0}
  FrontHolds (Front.token n t) = P t

  unless_overlong_holds : (spelling : Bytes) (t : Token) → (length spelling ≤ 31 → P t) → P (unless_overlong spelling t)
  unfolding unless_overlong
  unless_overlong_holds spelling t h = if_holds P (leb (length spelling) 31) t bad (λ e. h (leb-true (length spelling) 31 e)) (λ e. every.bad_one)

  variable_front_holds : (c : ℕ) (cs behind : Bytes) → uppercase c ≡ true → FrontHolds (variable_front (c ∷ run cs) behind)
  unfolding variable_front
  variable_front_holds c cs behind up =
      if_holds FrontHolds _ _ _
      (λ e. unless_overlong_holds (c ∷ run cs) (variable reader (c ∷ run cs)) (every.variables reader c cs up))
      (λ e. unless_overlong_holds (c ∷ run cs) (variable writer (c ∷ run cs)) (every.variables writer c cs up))

  double_front_holds : (second : Char) (c : ℕ) (cs : Bytes) → FrontHolds (double_front second c cs)
  unfolding double_front
  double_front_holds second c cs = if_holds FrontHolds _ _ _ (λ e. every.signs c) (λ e. every.bad_one)

  minus_front_holds : (cs : Bytes) → FrontHolds (minus_front cs)
  unfolding minus_front next_is
  minus_front_holds cs = if_holds FrontHolds _ _ _ (digits cs) (λ e. every.bad_one)
    where
      digits : (cs : Bytes) → next_is digit cs ≡ true → P (negative (run cs))
      digits [] e = absurd (false_not_true false refl e)
      digits (c ∷ cs) e = rw (digit_run c cs e) (every.negative_ones c (run cs) e)

  front_holds : (c : ℕ) (cs : Bytes) → FrontHolds (front c cs)
  unfolding front name_front
  front_holds c cs =
      if_holds FrontHolds (separates c) _ _ (λ e. tt)
      (λ e. if_holds FrontHolds (eqb c (byte "%")) _ _ (λ e. tt)
      (λ e. if_holds FrontHolds (lowercase c) _ _ (λ low. unless_overlong_holds (c ∷ run cs) (name (c ∷ run cs)) (every.names c cs low))
      (λ e. if_holds FrontHolds (uppercase c) _ _ (λ up. variable_front_holds c cs _ up)
      (λ e. if_holds FrontHolds (digit c) _ _ (λ e. every.unsigned_ones (c ∷ run cs))
      (λ e. if_holds FrontHolds (underscore c) _ _ (λ e. every.bad_one)
      (λ e. if_holds FrontHolds (eqb c (byte "-")) _ _ (λ e. minus_front_holds cs)
      (λ e. if_holds FrontHolds (eqb c (byte ":") || eqb c (byte "?")) _ _ (λ e. double_front_holds "-" c cs)
      (λ e. if_holds FrontHolds (eqb c (byte "=")) _ _ (λ e. double_front_holds "=" c cs)
      (λ e. if_holds FrontHolds (single_sign c) _ _ (λ e. every.signs c) (λ e. every.bad_one))))))))))

  placed_holds : (at : ℕ) (f : Front) (behind : ℕ → Tokens) → FrontHolds f → ((n : ℕ) → EachToken P (behind n)) → EachToken P (placed at f behind)
  unfolding placed
  placed_holds at (blank n) behind h b = b n
  placed_holds at (Front.token n t) behind h b = (h, b n)

  tokens_from_hold : (at skip : ℕ) (cs : Bytes) → EachToken P (tokens_from at skip cs)
  unfolding tokens_from
  tokens_from_hold at skip [] = tt
  tokens_from_hold at zero (c ∷ cs) = placed_holds at (front c cs) _ (front_holds c cs) (λ n. tokens_from_hold (at + 1) n cs)
  tokens_from_hold at (suc skip) (c ∷ cs) = tokens_from_hold (at + 1) skip cs

  -- Every token of a text has the property.
  pub each_token_of_text : (text : Bytes) → EachToken P (tokens text)
  unfolding tokens
  each_token_of_text text = tokens_from_hold 0 0 text

-- The tokens cut behind each full stop.
module _ (P : Token → Type 0) where
  onto_holds : (place : ℕ) (t : Token) (ps : List Tokens) → P t → Each (EachToken P) ps → Each (EachToken P) (onto place t ps)
  unfolding onto
  onto_holds place t [] h hs = tt
  onto_holds place t (piece ∷ pieces) h hs = ((h, hs.0), hs.1)

  pub each_token_of_pieces : (ts : Tokens) → EachToken P ts → Each (EachToken P) (pieces ts)
  unfolding pieces
  each_token_of_pieces (ends place) h = (tt, tt)
  each_token_of_pieces (token place t rest) h =
      if_holds (Each (EachToken P)) (is "." t) (token place t (ends place) ∷ pieces rest) (onto place t (pieces rest))
      (λ e. ((h.0, tt), each_token_of_pieces rest h.1))
      (λ e. onto_holds place t (pieces rest) h.0 (each_token_of_pieces rest h.1))
