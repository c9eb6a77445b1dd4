-- A name's or a variable's token stands in the text where it says: its spelling is the bytes of the text from its offset on.
-- So do the places of names and variables that are collected over the tokens.
use Prim.Native.Nat.{ℕ, zero, suc, ◌+◌}
use mathlib.Core.Path.{◌≡◌, refl, ap, sym, ◌∙◌}
use mathlib.Core.Bool.{Bool, true, false, ◌&&◌, ◌||◌}
use mathlib.Core.List.{List, [], ◌∷◌, ◌++◌, append_assoc}
use native.Mathlib.Omega.{arith}
use lib.Dec.{eqb, leb}
use lib.ListN.{length, drop, length-append}
use lib.Seq.{take-append-add, take-append_seam, drop-append_seam}
use Rattle.meaning.specs.Bytes.{Bytes, byte, bytes, same, any, when◌then◌else◌}
use Rattle.meaning.specs.Terms.{reader, writer, plus, minus}
use Rattle.meaning.specs.Tokens.{
  Token,
  name,
  variable,
  integer,
  sign,
  bad,
  Tokens,
  ends,
  token,
  lowercase,
  uppercase,
  digit,
  underscore,
  separates,
  single_sign,
  in_run,
  run,
  next_is,
  unless_overlong,
  value,
  no_leading_zero,
  unsigned,
  negative,
  Front,
  blank,
  name_front,
  variable_front,
  double_front,
  minus_front,
  front,
  placed,
  tokens_from,
  tokens,
}
use Rattle.meaning.specs.Items.{is, onto, pieces}
use Rattle.term.specs.Spellings.{SpelledAt}
use Rattle.load_names.specs.Places.{Place, spellings, with_place, with_name, with_variable}
use Rattle.load_image.specs.Image.{names_in, variables_in}

unfoldable pub TokenSpelled : Bytes → ℕ → Token → Type 0
TokenSpelled text at (name f) = SpelledAt text at (length f) f
TokenSpelled text at (variable h x) = SpelledAt text at (length x) x
TokenSpelled text at (integer i) = Unit {0}
TokenSpelled text at (sign b) = Unit {0}
TokenSpelled text at bad = Unit {0}

unfoldable pub TokensSpelled : Bytes → Tokens → Type 0
TokensSpelled text (ends n) = Unit {0}
TokensSpelled text (token at t rest) = TokenSpelled text at t × TokensSpelled text rest

unfoldable pub AllPlaced : Bytes → List Place → Type 0
AllPlaced text [] = Unit {0}
AllPlaced text (p ∷ ps) = SpelledAt text p.at (length p.spelling) p.spelling × AllPlaced text ps

-- The bytes in front, behind those before.
spelled_here : (text before f behind : Bytes) (at : ℕ) → text ≡ before ++ (f ++ behind) → length before ≡ at → SpelledAt text at (length f) f
spelled_here text before f behind at e size = record {
  sized = refl;
  inside = omega (arith, ap length e, length-append before (f ++ behind), length-append f behind);
  spelled = rw (e, ← size, take-append-add before (f ++ behind) (length f), take-append_seam f behind, drop-append_seam before f);
}

run_here : (cs : Bytes) → (behind : Bytes) × (cs ≡ run cs ++ behind)
unfolding run
run_here [] = ([], refl)
run_here (c ∷ cs) = by (in_run c) (run_here cs)
  where
    by : (b : Bool) → ((behind : Bytes) × (cs ≡ run cs ++ behind))
        → (behind : Bytes) × (c ∷ cs ≡ elim b [ true ↦ c ∷ run cs | false ↦ [] ] ++ behind)
    by true h = (h.0, ap (λ l. c ∷ l) h.1)
    by false h = (c ∷ cs, refl)

unfoldable FrontSpelled : Bytes → ℕ → Front → Type 0
FrontSpelled text at (blank n) = Unit {0}
FrontSpelled text at (Front.token n t) = TokenSpelled text at t

module _ (text : Bytes) (at : ℕ) where
  if_token : (b : Bool) (t u : Token) → TokenSpelled text at t → TokenSpelled text at u → TokenSpelled text at (when b then t else u)
  unfolding when◌then◌else◌
  if_token true t u g h = g
  if_token false t u g h = h

  if_front : (b : Bool) (f g : Front) → FrontSpelled text at f → FrontSpelled text at g → FrontSpelled text at (when b then f else g)
  unfolding when◌then◌else◌
  if_front true f g x y = x
  if_front false f g x y = y

  module _ (c : ℕ) (cs : Bytes) (here : SpelledAt text at (length (c ∷ run cs)) (c ∷ run cs)) where
    front_spelled : FrontSpelled text at (front c cs)
    unfolding front name_front variable_front double_front minus_front unless_overlong unsigned negative FrontSpelled TokenSpelled
    front_spelled =
        if_front (separates c) _ _ tt
        (if_front (eqb c (byte "%")) _ _ tt
        (if_front (lowercase c) _ _ (if_token (leb (length (c ∷ run cs)) 31) (name (c ∷ run cs)) bad here tt)
        (if_front (uppercase c) _ _
        (if_front (next_is (λ d. eqb d (byte "?")) (drop (length (run cs)) cs)) _ _
        (if_token (leb (length (c ∷ run cs)) 31) (variable reader (c ∷ run cs)) bad here tt)
        (if_token (leb (length (c ∷ run cs)) 31) (variable writer (c ∷ run cs)) bad here tt))
        (if_front (digit c) _ _
        (if_token (same (c ∷ run cs) (bytes "0") || no_leading_zero (c ∷ run cs) && leb (value 0 (c ∷ run cs)) 2147483647)
        (integer (plus (value 0 (c ∷ run cs)))) bad tt tt)
        (if_front (underscore c) _ _ tt
        (if_front (eqb c (byte "-")) _ _
        (if_front (next_is digit cs) _ _
        (if_token (no_leading_zero (run cs) && leb (value 0 (run cs)) 2147483648) (integer (minus (value 0 (run cs)))) bad tt tt) tt)
        (if_front (eqb c (byte ":") || eqb c (byte "?")) _ _ (if_front (next_is (λ d. eqb d (byte "-")) cs) _ _ tt tt)
        (if_front (eqb c (byte "=")) _ _ (if_front (next_is (λ d. eqb d (byte "=")) cs) _ _ tt tt)
        (if_front (single_sign c) _ _ tt tt)))))))))

  placed_spelled : (f : Front) (behind : ℕ → Tokens) → FrontSpelled text at f → ((n : ℕ) → TokensSpelled text (behind n))
      → TokensSpelled text (placed at f behind)
  unfolding FrontSpelled placed TokensSpelled
  placed_spelled (blank n) behind f h = h n
  placed_spelled (Front.token n t) behind f h = (f, h n)

from_spelled : (text before : Bytes) (at skip : ℕ) (bs : Bytes) → text ≡ before ++ bs → length before ≡ at
    → TokensSpelled text (tokens_from at skip bs)
unfolding tokens_from TokensSpelled
from_spelled text before at skip [] e size = tt
from_spelled text before at zero (c ∷ cs) e size =
    let r = run_here cs in
    let here : text ≡ before ++ ((c ∷ run cs) ++ r.0) = e ∙ ap (λ l. before ++ (c ∷ l)) r.1 in
    placed_spelled text at (front c cs) (λ n. tokens_from (at + 1) n cs)
    (front_spelled text at c cs (spelled_here text before (c ∷ run cs) r.0 at here size))
    (λ n. from_spelled text (before ++ (c ∷ [])) (at + 1) n cs (e ∙ sym (append_assoc before (c ∷ []) cs))
    (length-append before (c ∷ []) ∙ ap (λ m. m + 1) size))
from_spelled text before at (suc skip) (c ∷ cs) e size =
    from_spelled text (before ++ (c ∷ [])) (at + 1) skip cs (e ∙ sym (append_assoc before (c ∷ []) cs))
    (length-append before (c ∷ []) ∙ ap (λ m. m + 1) size)

pub tokens_spelled : (text : Bytes) → TokensSpelled text (tokens text)
unfolding tokens
tokens_spelled text = from_spelled text [] 0 0 text refl refl

-- The places collected over spelled tokens.
placed_last : (text : Bytes) (ps : List Place) (at : ℕ) (f : Bytes) → AllPlaced text ps → SpelledAt text at (length f) f
    → AllPlaced text (ps ++ (record { at = at; spelling = f } ∷ []))
unfolding AllPlaced
placed_last text [] at f h s = (s, tt)
placed_last text (p ∷ ps) at f h s = (h.0, placed_last text ps at f h.1 s)

with_place_placed : (text : Bytes) (at : ℕ) (f : Bytes) (ps : List Place) → SpelledAt text at (length f) f → AllPlaced text ps
    → AllPlaced text (with_place at f ps)
unfolding with_place when◌then◌else◌
with_place_placed text at f ps s h = by (any (same f) (spellings ps))
  where
    by : (b : Bool) → AllPlaced text (when b then ps else ps ++ (record { at = at; spelling = f } ∷ []))
    by true = h
    by false = placed_last text ps at f h s

module _ (text : Bytes) where
  with_name_placed : (at : ℕ) (t : Token) (ps : List Place) → TokenSpelled text at t → AllPlaced text ps → AllPlaced text (with_name at t ps)
  unfolding with_name TokenSpelled
  with_name_placed at (name f) ps s h = with_place_placed text at f ps s h
  with_name_placed at (variable k x) ps s h = h
  with_name_placed at (integer i) ps s h = h
  with_name_placed at (sign b) ps s h = h
  with_name_placed at bad ps s h = h

  with_variable_placed : (at : ℕ) (t : Token) (ps : List Place) → TokenSpelled text at t → AllPlaced text ps → AllPlaced text (with_variable at t ps)
  unfolding with_variable TokenSpelled
  with_variable_placed at (name f) ps s h = h
  with_variable_placed at (variable k x) ps s h = with_place_placed text at x ps s h
  with_variable_placed at (integer i) ps s h = h
  with_variable_placed at (sign b) ps s h = h
  with_variable_placed at bad ps s h = h

  pub names_in_placed : (ts : Tokens) (ps : List Place) → TokensSpelled text ts → AllPlaced text ps → AllPlaced text (names_in ts ps)
  unfolding names_in TokensSpelled
  names_in_placed (ends n) ps s h = h
  names_in_placed (token at t rest) ps s h = names_in_placed rest (with_name at t ps) s.1 (with_name_placed at t ps s.0 h)

  pub variables_in_placed : (ts : Tokens) (ps : List Place) → TokensSpelled text ts → AllPlaced text ps → AllPlaced text (variables_in ts ps)
  unfolding variables_in TokensSpelled
  variables_in_placed (ends n) ps s h = h
  variables_in_placed (token at t rest) ps s h = variables_in_placed rest (with_variable at t ps) s.1 (with_variable_placed at t ps s.0 h)

-- The pieces of spelled tokens.
unfoldable pub EachSpelled : Bytes → List Tokens → Type 0
EachSpelled text [] = Unit {0}
EachSpelled text (p ∷ ps) = TokensSpelled text p × EachSpelled text ps

onto_spelled : (text : Bytes) (place : ℕ) (t : Token) (ps : List Tokens) → TokenSpelled text place t → EachSpelled text ps
    → EachSpelled text (onto place t ps)
unfolding onto EachSpelled TokensSpelled
onto_spelled text place t [] s h = tt
onto_spelled text place t (p ∷ ps) s h = ((s, h.0), h.1)

pub pieces_spelled : (text : Bytes) (ts : Tokens) → TokensSpelled text ts → EachSpelled text (pieces ts)
unfolding pieces EachSpelled TokensSpelled when◌then◌else◌
pieces_spelled text (ends place) h = (tt, tt)
pieces_spelled text (token place t rest) h = by (is "." t) (pieces_spelled text rest h.1)
  where
    by : (b : Bool) → EachSpelled text (pieces rest)
        → EachSpelled text (when b then token place t (ends place) ∷ pieces rest else onto place t (pieces rest))
    by true g = ((h.0, tt), g)
    by false g = onto_spelled text place t (pieces rest) h.0 g
