-- How the cases are written: a label, a text, what is expected; the program's budget and room where no others are named.
use Prim.Native.Nat.{ℕ, zero, suc, ◌+◌, ◌-◌}
use Prim.Native.String.{String}
use mathlib.Core.List.{List, [], ◌∷◌, ◌++◌, map}
use lib.ListN.{length, replicate}
use Rattle.meaning.specs.Bytes.{Bytes, bytes, decimal, joined, up_to}
use Rattle.meaning.specs.State.{Room}
use Rattle.meaning.specs.Case.{Case, Expected, prints, refuses, too_long, case_words}

-- Document 01, 'A session, and its corners': the rules for all but K1.
unfoldable pub rules : Bytes
unfolding case_words
rules =
    bytes "tag([H|T],[hit(H?)|R?]) :- tag(T?,R).\ntag([],[]).\nend([]).\nsame(X,X?).\ntwo(1,1).\nw(1,2).\n"

unfoldable pub room : ℕ → ℕ → ℕ → Room
room pairs compounds goals = record { pairs = pairs; compounds = compounds; goals = goals }

unfoldable pub of_bytes : String → Bytes → Expected → Case
of_bytes label text expected =
    record { label = label; text = text; budget = 10000; room = room 1024 1024 128; scratch = 6; buffer = 600; expected = expected }

-- A text alone, and a text behind the rules.
unfoldable pub text : String → String → Expected → Case
text label written expected = of_bytes label (bytes written) expected

unfoldable pub ruled : String → String → Expected → Case
ruled label written expected = of_bytes label (rules ++ bytes written) expected

unfoldable pub with_budget : ℕ → Case → Case
with_budget budget c =
    record { label = c.label; text = c.text; budget = budget; room = c.room; scratch = c.scratch; buffer = c.buffer; expected = c.expected }

unfoldable pub with_room : ℕ → ℕ → ℕ → Case → Case
with_room pairs compounds goals c =
    record { label = c.label; text = c.text; budget = c.budget; room = room pairs compounds goals; scratch = c.scratch; buffer = c.buffer; expected = c.expected }

unfoldable pub with_scratch : ℕ → Case → Case
with_scratch scratch c =
    record { label = c.label; text = c.text; budget = c.budget; room = c.room; scratch = scratch; buffer = c.buffer; expected = c.expected }

unfoldable pub with_buffer : ℕ → Case → Case
with_buffer buffer c =
    record { label = c.label; text = c.text; budget = c.budget; room = c.room; scratch = c.scratch; buffer = buffer; expected = c.expected }

unfoldable pub shows : String → Expected
shows report = prints (bytes report)

-- So many times the same; a text for each number below n, one behind the other.
unfoldable pub times : ℕ → String → Bytes
times n written = joined (replicate n (bytes written))

unfoldable pub for_each : ℕ → (ℕ → Bytes) → Bytes
for_each n written = joined (map written (up_to n))

unfoldable pub words_words : Unit {0}
unfolding case_words rules room of_bytes text ruled with_budget with_room with_scratch with_buffer shows times for_each
words_words = tt
