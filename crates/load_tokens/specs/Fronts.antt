-- The token in front, as the code has it and as document 01 has it.
use Rattle.std.specs.Prelude.{ℕ, ◌+◌, ◌-◌, ◌≤◌, ◌<◌, ◌≡◌, Bool, ◌&&◌, ◌||◌, eqb, length, drop}
use Rattle.std.proofs.Math.Seq.{slice}
use Rattle.meaning.specs.Bytes.{Bytes, byte, when◌then◌else◌}
use Rattle.meaning.specs.Terms.{writer, reader, Integer, plus, minus}
use Rattle.meaning.specs.Tokens.{Tokens, ends, token, name, variable, integer, sign, bad, single_sign, next_is, tokens_from}
use Rattle.load_tokens.specs.declared.token.Token.{Token}
use Rattle.load_tokens.specs.declared.token.Token.TheVariants.{End, Name, Writer, Reader, Integer as AnInteger, Sign, Bad}

-- The tokens from a place of the text on.
abbrev pub tokens_at : Bytes → ℕ → Tokens
tokens_at text place = tokens_from place 0 (drop place text)

-- The same of a part of the text, which begins at an offset of it.
abbrev pub tokens_in : ℕ → Bytes → ℕ → Tokens
tokens_in from rest at = tokens_from (from + at) 0 (drop at rest)

-- An integer's 32 bits.
abbrev pub bits : Integer → ℕ
bits (plus n) = n
bits (minus n) = 4294967296 - n

-- The first byte of a sign of two, `:-`, `?-` or `==`, and the second byte by the first.
unfoldable pub double_sign : ℕ → Bool
double_sign c = eqb c (byte ":") || eqb c (byte "?") || eqb c (byte "=")

unfoldable pub second : ℕ → ℕ
second c = when eqb c (byte "=") then byte "=" else byte "-"

-- The first byte behind a sign.
unfoldable pub behind : ℕ → ℕ → ℕ
behind c a = when double_sign c then a + 2 else a + 1

-- A byte begins a sign: one of a single byte, or of two, whose second is the next byte.
unfoldable pub begins_sign : ℕ → Bytes → Bool
begins_sign c cs = single_sign c || double_sign c && next_is (λ d. eqb d (second c)) cs

-- What the code's answer says of the tokens of the rest from a place on, wherever in the text the rest begins.
abbrev pub FrontIs : Bytes → ℕ → Token → Type 0
FrontIs rest at End = (from : ℕ) → tokens_in from rest at ≡ ends (from + length rest)
FrontIs rest at (Name a e) =
    (at ≤ a) × (a < e) × (e ≤ length rest) × (e ≤ a + 31)
    × ((from : ℕ) → tokens_in from rest at ≡ token (from + a) (name (slice a e rest)) (tokens_in from rest e))
FrontIs rest at (Writer a e) =
    (at ≤ a) × (a < e) × (e ≤ length rest) × (e ≤ a + 31)
    × ((from : ℕ) → tokens_in from rest at ≡ token (from + a) (variable writer (slice a e rest)) (tokens_in from rest e))
FrontIs rest at (Reader a e) =
    (at ≤ a) × (a < e) × (e < length rest) × (e ≤ a + 31)
    × ((from : ℕ) → tokens_in from rest at ≡ token (from + a) (variable reader (slice a e rest)) (tokens_in from rest (e + 1)))
FrontIs rest at (AnInteger w a e) =
    (at ≤ a) × (a < e) × (e ≤ length rest) × (w < 4294967296)
    × (i : Integer) × (w ≡ bits i)
    × ((from : ℕ) → tokens_in from rest at ≡ token (from + a) (integer i) (tokens_in from rest e))
FrontIs rest at (Sign c a) =
    (at ≤ a) × (behind c a ≤ length rest)
    × ((from : ℕ) → tokens_in from rest at ≡ token (from + a) (sign c) (tokens_in from rest (behind c a)))
FrontIs rest at (Bad a) =
    (at ≤ a) × (a < length rest) × ((from : ℕ) → (others : Tokens) × (tokens_in from rest at ≡ token (from + a) bad others))
