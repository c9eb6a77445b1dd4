-- Document 01, 'Job text', first paragraph, with `==` of document 02, T-02: the text as tokens, each with the offset at which it begins.
use Rattle.std.specs.Prelude.{ℕ, zero, suc, ◌+◌, ◌*◌, ◌-◌, Bool, true, false, not, ◌&&◌, ◌||◌, List, [], ◌∷◌, leb, eqb, length, drop}
use Prim.Native.Char.{Char}
use Rattle.meaning.specs.Bytes.{Bytes, bytes_words, byte, bytes, same, when◌then◌else◌, all}
use Rattle.meaning.specs.Terms.{Half, writer, reader, Integer, plus, minus}

-- A sign is known by its first byte: `:` is `:-`, `?` is `?-`, `=` is `==`.
pub data Token : Type 0 where
  name : Bytes → Token
  variable : Half → Bytes → Token
  integer : Integer → Token
  sign : ℕ → Token
  bad : Token

-- The tokens from some place on, each with its offset, up to the end of the text, with the text's length.
pub data Tokens : Type 0 where
  ends : ℕ → Tokens
  token : ℕ → Token → Tokens → Tokens

-- "Letters are ASCII."
unfoldable pub between : Char → Char → ℕ → Bool
between low high c = leb (byte low) c && leb c (byte high)

unfoldable pub lowercase : ℕ → Bool
lowercase c = between "a" "z" c

unfoldable pub uppercase : ℕ → Bool
uppercase c = between "A" "Z" c

unfoldable pub digit : ℕ → Bool
digit c = between "0" "9" c

unfoldable pub underscore : ℕ → Bool
underscore c = eqb c (byte "_")

-- "Space, tab, CR and LF separate."
unfoldable pub separates : ℕ → Bool
separates c = eqb c (byte " ") || eqb c (byte "\t") || eqb c (byte "\r") || eqb c (byte "\n")

-- "One of the signs used below": those of a single byte.
unfoldable pub single_sign : ℕ → Bool
single_sign c =
    eqb c (byte "(") || eqb c (byte ")") || eqb c (byte "[") || eqb c (byte "]") || eqb c (byte ",") || eqb c (byte "|") || eqb c (byte ".")

-- Document 02: "The test for a byte of a name shall be written as one visible row of ranges in rising order." Variables and integers share it.
unfoldable pub in_run : ℕ → Bool
in_run c = between "0" "9" c || between "A" "Z" c || between "_" "_" c || between "a" "z" c

-- "The longest run of letters, digits and `_`" in front.
unfoldable pub run : Bytes → Bytes
run [] = []
run (c ∷ cs) = elim (in_run c) [ true ↦ c ∷ run cs | false ↦ [] ]

-- "A remark up to LF or the end of the text": its length.
unfoldable pub remark : Bytes → ℕ
remark [] = 0
remark (c ∷ cs) = elim (eqb c (byte "\n")) [ true ↦ 0 | false ↦ suc (remark cs) ]

-- The next byte passes a test.
unfoldable pub next_is : (ℕ → Bool) → Bytes → Bool
next_is test [] = false
next_is test (c ∷ cs) = test c

-- A name or a variable has 1 to 31 bytes, the `?` not counted; an overlong one is one bad token.
unfoldable pub unless_overlong : Bytes → Token → Token
unless_overlong spelling t = when leb (length spelling) 31 then t else bad

-- The value of decimal digits.
unfoldable pub value : ℕ → Bytes → ℕ
value n [] = n
value n (c ∷ cs) = value (n * 10 + (c - 48)) cs

-- "Digits without a leading zero".
unfoldable pub no_leading_zero : Bytes → Bool
no_leading_zero cs = all digit cs && not (next_is (λ c. eqb c (byte "0")) cs)

-- "An integer is `0`, or an optional `-` and digits without a leading zero, from -2147483648 to 2147483647."
unfoldable pub unsigned : Bytes → Token
unsigned cs =
    when same cs (bytes "0") || no_leading_zero cs && leb (value 0 cs) 2147483647 then integer (plus (value 0 cs)) else bad

unfoldable pub negative : Bytes → Token
negative cs = when no_leading_zero cs && leb (value 0 cs) 2147483648 then integer (minus (value 0 cs)) else bad

-- What stands in front: bytes between tokens, or a token; with how many bytes it has behind its first.
pub data Front : Type 0 where
  blank : ℕ → Front
  token : ℕ → Token → Front

-- A run led by a lowercase letter is a name.
unfoldable pub name_front : Bytes → Front
name_front cs = token (length cs - 1) (unless_overlong cs (name cs))

-- A run led by an uppercase letter is a writer, "a reader is a writer with `?` directly after it".
unfoldable pub variable_front : Bytes → Bytes → Front
variable_front cs behind =
    when next_is (λ c. eqb c (byte "?")) behind
    then token (length cs) (unless_overlong cs (variable reader cs))
    else token (length cs - 1) (unless_overlong cs (variable writer cs))

-- Signs of two bytes: `:-`, `?-` and `==`, by the second.
unfoldable pub double_front : Char → ℕ → Bytes → Front
double_front second c cs = when next_is (λ d. eqb d (byte second)) cs then token 1 (sign c) else token 0 bad

-- "A `-` right before a first digit" belongs to the run.
unfoldable pub minus_front : Bytes → Front
minus_front cs = when next_is digit cs then token (length (run cs)) (negative (run cs)) else token 0 bad

-- "A token is the longest run ..., `:-`, `?-`, or one of the signs used below; a run led by `_` and any other byte are bad tokens."
unfoldable pub front : ℕ → Bytes → Front
front c cs =
    when separates c then blank 0
    else when eqb c (byte "%") then blank (remark cs)
    else when lowercase c then name_front (c ∷ run cs)
    else when uppercase c then variable_front (c ∷ run cs) (drop (length (run cs)) cs)
    else when digit c then token (length (run cs)) (unsigned (c ∷ run cs))
    else when underscore c then token (length (run cs)) bad
    else when eqb c (byte "-") then minus_front cs
    else when eqb c (byte ":") || eqb c (byte "?") then double_front "-" c cs
    else when eqb c (byte "=") then double_front "=" c cs
    else when single_sign c then token 0 (sign c)
    else token 0 bad

-- What stands in front at an offset, with the tokens that follow behind so many more bytes.
unfoldable pub placed : ℕ → Front → (ℕ → Tokens) → Tokens
placed at (blank n) behind = behind n
placed at (token n t) behind = token at t (behind n)

-- The tokens of the bytes from an offset on, of which the first few belong to the token before.
unfoldable pub tokens_from : ℕ → ℕ → Bytes → Tokens
tokens_from at skip [] = ends at
tokens_from at zero (c ∷ cs) = placed at (front c cs) (λ n. tokens_from (at + 1) n cs)
tokens_from at (suc skip) (c ∷ cs) = tokens_from (at + 1) skip cs

unfoldable pub tokens : Bytes → Tokens
tokens text = tokens_from 0 0 text

-- A token is this sign.
unfoldable pub is : Char → Token → Bool
is c (name f) = false
is c (variable h x) = false
is c (integer i) = false
is c (sign b) = eqb b (byte c)
is c bad = false

unfoldable pub tokens_words : Unit {0}
unfolding bytes_words between lowercase uppercase digit underscore separates single_sign in_run run remark next_is unless_overlong value no_leading_zero unsigned negative name_front variable_front double_front minus_front front placed tokens_from tokens is
tokens_words = tt
