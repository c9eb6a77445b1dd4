-- Bytes, and the few words that every other file uses.
use Rattle.std.specs.Prelude.{ℕ, zero, suc, ◌+◌, ◌/◌, ◌%◌, Bool, true, false, ◌&&◌, ◌||◌, List, [], ◌∷◌, ◌++◌, leb, ltb, eqb}
use Prim.Native.Char.{Char, code}
use Prim.Native.String.{String}

abbrev pub Bytes : Type 0
Bytes = List ℕ

-- The byte of a character: its code, which is below 256 in every text here.
unfoldable pub byte : Char → ℕ
byte c = code c

-- The bytes of a text, one for each character.
unfoldable pub bytes : String → Bytes
bytes String.[] = []
bytes (String.◌∷◌ c s) = code c ∷ bytes s

infix 10 when◌then◌else◌
unfoldable pub when◌then◌else◌ {ℓ} : {A : Type ℓ} → Bool → A → A → A
when true then a else b = a
when false then a else b = b

-- Two spellings are the same.
unfoldable pub same : Bytes → Bytes → Bool
same [] [] = true
same [] (c ∷ cs) = false
same (b ∷ bs) [] = false
same (b ∷ bs) (c ∷ cs) = eqb b c && same bs cs

-- A number is among these.
unfoldable pub among : ℕ → List ℕ → Bool
among n [] = false
among n (m ∷ ms) = eqb n m || among n ms

-- All, or some, of a list pass a test.
unfoldable pub all : {A : Type 0} → (A → Bool) → List A → Bool
all test [] = true
all test (a ∷ rest) = test a && all test rest

unfoldable pub any : {A : Type 0} → (A → Bool) → List A → Bool
any test [] = false
any test (a ∷ rest) = test a || any test rest

-- Those of a list that pass a test, in order.
unfoldable pub those : {A : Type 0} → (A → Bool) → List A → List A
those test [] = []
those test (a ∷ rest) = when test a then a ∷ those test rest else those test rest

-- Those numbers that are not among the seen ones, each once, in order of first occurrence.
unfoldable pub each_once : List ℕ → List ℕ → List ℕ
each_once seen [] = []
each_once seen (n ∷ ns) = elim (among n seen) [ true ↦ each_once seen ns | false ↦ n ∷ each_once (n ∷ seen) ns ]

-- The numbers from 0 up to n, without n.
unfoldable pub up_to : ℕ → List ℕ
up_to zero = []
up_to (suc n) = up_to n ++ (n ∷ [])

-- All the lists, one behind the other.
unfoldable pub joined : {A : Type 0} → List (List A) → List A
joined [] = []
joined (l ∷ ls) = l ++ joined ls

-- The decimal digits of a number, no more than given and one, before some others.
unfoldable pub digits : ℕ → ℕ → Bytes → Bytes
digits zero n behind = (48 + n) ∷ behind
digits (suc more) n behind =
    elim (ltb n 10) [ true ↦ (48 + n) ∷ behind | false ↦ digits more (n / 10) ((48 + n % 10) ∷ behind) ]

-- A number in decimal, without a leading zero: a number has no more digits than it counts.
unfoldable pub decimal : ℕ → Bytes
decimal n = digits n n []

-- Everything above, for a statement that computes.
unfoldable pub bytes_words : Unit {0}
unfolding byte bytes when◌then◌else◌ same among all any those each_once up_to joined digits decimal
bytes_words = tt
