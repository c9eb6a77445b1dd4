-- A case: one call, and what the documents say comes of it. For statements that compute.
-- What judges a case (`expected_scratch`, `equal`, `failing`) uses none of the definitions that it judges.
use Rattle.std.specs.Prelude.{ℕ, zero, suc, Bool, true, false, ◌&&◌, List, [], ◌∷◌, ◌++◌, leb, eqb, length, drop, replicate}
use Prim.Native.String.{String}
use Rattle.meaning.specs.Bytes.{Bytes}
use Rattle.meaning.specs.State.{Room}
use Rattle.meaning.specs.Call.{Given, Answer, Outcome, number, line_of, offset_of, length_of, call, everything}

-- What is expected: a report; a refusal with its number, line and offset; or number 8 with its length.
pub data Expected : Type 0 where
  prints : Bytes → Expected
  refuses : ℕ → ℕ → ℕ → Expected
  too_long : ℕ → Expected

-- A text with the figures of its call; of scratch and buffer the length.
pub record Case : Type 0 where
  pub label : String
  pub text : Bytes
  pub budget : ℕ
  pub room : Room
  pub scratch : ℕ
  pub buffer : ℕ
  pub expected : Expected

-- In a case the need is so many words, scratch is lent full of sevens and the buffer full of full stops.
unfoldable pub need : ℕ
need = 4

unfoldable pub lent_scratch : Case → List ℕ
lent_scratch c = replicate c.scratch 7

unfoldable pub lent_buffer : Case → Bytes
lent_buffer c = replicate c.buffer 46

unfoldable pub outcome : Case → Outcome
outcome c =
    call (λ room. need)
    (record { text = c.text; budget = c.budget; room = c.room; scratch = lent_scratch c; buffer = lent_buffer c })

unfoldable pub expected_number : Expected → ℕ
expected_number (prints report) = 0
expected_number (refuses number line offset) = number
expected_number (too_long length) = 8

unfoldable pub expected_line : Expected → ℕ
expected_line (prints report) = 0
expected_line (refuses number line offset) = line
expected_line (too_long length) = 0

unfoldable pub expected_offset : Expected → ℕ
expected_offset (prints report) = 0
expected_offset (refuses number line offset) = offset
expected_offset (too_long length) = 0

unfoldable pub expected_length : Expected → ℕ
expected_length (prints report) = length report
expected_length (refuses number line offset) = 0
expected_length (too_long length) = length

unfoldable pub expected_buffer : Expected → Bytes → Bytes
expected_buffer (prints report) lent = report ++ drop (length report) lent
expected_buffer (refuses number line offset) lent = lent
expected_buffer (too_long length) lent = lent

-- "Scratch is untouched on 1, 2, 3; otherwise the needed part is zero afterwards and any part beyond it is untouched."
unfoldable pub needed_part_zero : List ℕ → List ℕ
needed_part_zero lent = replicate need 0 ++ drop need lent

unfoldable pub expected_scratch : Expected → List ℕ → List ℕ
expected_scratch (prints report) lent = needed_part_zero lent
expected_scratch (refuses number line offset) lent = elim (leb number 3) [ true ↦ lent | false ↦ needed_part_zero lent ]
expected_scratch (too_long length) lent = needed_part_zero lent

unfoldable pub equal : List ℕ → List ℕ → Bool
equal [] [] = true
equal [] (n ∷ ns) = false
equal (m ∷ ms) [] = false
equal (m ∷ ms) (n ∷ ns) = eqb m n && equal ms ns

-- The call's outcome is the expected one: number, line, offset, length, report buffer and scratch.
unfoldable pub as_expected : Expected → Case → Outcome → Bool
as_expected expected c o =
    eqb (number o.answer) (expected_number expected)
    && eqb (line_of o.answer) (expected_line expected)
    && eqb (offset_of o.answer) (expected_offset expected)
    && eqb (length_of o.answer) (expected_length expected)
    && equal o.buffer (expected_buffer expected (lent_buffer c))
    && equal o.scratch (expected_scratch expected (lent_scratch c))

unfoldable pub holds : Case → Bool
holds c = as_expected c.expected c (outcome c)

-- The labels of the cases that do not hold.
unfoldable pub failing : List Case → List String
failing [] = []
failing (c ∷ cases) = elim (holds c) [ true ↦ failing cases | false ↦ c.label ∷ failing cases ]

unfoldable pub case_words : Unit {0}
unfolding everything need lent_scratch lent_buffer outcome expected_number expected_line expected_offset expected_length expected_buffer needed_part_zero expected_scratch equal as_expected holds failing
case_words = tt
