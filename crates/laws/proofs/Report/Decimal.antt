-- A number written in decimal can be read back from the bytes in front of anything that does not begin with a digit.
-- So a section shows its query's tries, and equal sections have equal tries.
use Prim.Native.Nat.{ℕ, zero, suc, ◌+◌, ◌*◌, ◌-◌, ◌/◌, ◌%◌, ◌≤◌, ◌<◌}
use mathlib.Core.Path.{◌≡◌, refl, ◌∙◌}
use mathlib.Core.Bool.{Bool, true, false, ◌&&◌}
use mathlib.Core.List.{[], ◌∷◌, ◌++◌, append_assoc}
use native.Mathlib.Omega.{arith}
use lib.Dec.{leb, ltb}
use lib.ListN.{length, drop}
use lib.Seq.{drop-append_seam}
use borrow.Author.Tests.{leb-true, le-leb}
use Rattle.meaning.specs.Bytes.{Bytes, bytes, digits, decimal}
use Rattle.meaning.specs.Terms.{Query}
use Rattle.meaning.specs.State.{Part}
use Rattle.meaning.specs.Report.{section, header, lines_bytes, lines_applied, part_lines}

-- The digits in front, read onto a number.
unfoldable pub is_digit : ℕ → Bool
is_digit c = leb 48 c && leb c 57

unfoldable pub read_digits : ℕ → Bytes → ℕ
read_digits n [] = n
read_digits n (c ∷ cs) = elim (is_digit c) [ true ↦ read_digits (n * 10 + (c - 48)) cs | false ↦ n ]

digit_read : (n d : ℕ) (behind : Bytes) → d < 10 → read_digits n ((48 + d) ∷ behind) ≡ read_digits (n * 10 + d) behind
unfolding is_digit read_digits
digit_read n d behind h =
    let low = le-leb 48 (48 + d) (omega arith) in
    let high = le-leb (48 + d) 57 (omega arith) in
    let value : 48 + d - 48 ≡ d = omega arith in
    rw (low, high, read_digits, value)

one_digit : (d : ℕ) (behind : Bytes) → d < 10 → read_digits 0 ((48 + d) ∷ behind) ≡ read_digits d behind
one_digit d behind h =
    let value : 0 * 10 + d ≡ d = omega arith in
    digit_read 0 d behind h ∙ rw value

-- What was written, before what was written already.
digits_read : (fuel n : ℕ) (written behind : Bytes) → n ≤ fuel
    → read_digits 0 (digits fuel n written ++ behind) ≡ read_digits n (written ++ behind)
unfolding digits
digits_read zero n written behind h = one_digit n (written ++ behind) (omega arith)
digits_read (suc fuel) n written behind h = go (ltb n 10) refl (digits_read fuel (n / 10) ((48 + n % 10) ∷ written) behind (omega arith))
  where
    go : (b : Bool) → ltb n 10 ≡ b
        → read_digits 0 (digits fuel (n / 10) ((48 + n % 10) ∷ written) ++ behind) ≡ read_digits (n / 10) (((48 + n % 10) ∷ written) ++ behind)
        → read_digits 0 (digits (suc fuel) n written ++ behind) ≡ read_digits n (written ++ behind)
    go true e further = rw (e, digits) (one_digit n (written ++ behind) (leb-true (suc n) 10 e))
    go false e further =
        let whole : n / 10 * 10 + n % 10 ≡ n = omega arith in
        rw (e, digits) (further ∙ digit_read (n / 10) (n % 10) (written ++ behind) (omega arith) ∙ rw whole)

-- A number is read back from its decimal, up to the first byte that is no digit.
pub decimal_read : (n : ℕ) (behind : Bytes) → read_digits 0 (decimal n ++ behind) ≡ read_digits n behind
unfolding decimal
decimal_read n behind = digits_read n n [] behind (omega arith)

-- `query K tries T`: the words before the number of tries, and the number read behind them.
unfoldable pub before_tries : ℕ → Bytes
before_tries k = bytes "query " ++ decimal (k + 1) ++ bytes " tries "

unfoldable pub tries_shown : ℕ → Bytes → ℕ
tries_shown k section = read_digits 0 (drop (length (before_tries k)) section)

behind_tries : Query → Part → Bytes
behind_tries query part =
    decimal (length part.goals.queue)
    ++ (bytes " waiting "
    ++ (decimal (length part.goals.waiting)
    ++ (bytes " failed "
    ++ (decimal (length part.goals.failed) ++ (bytes "\n" ++ lines_bytes (lines_applied part.unit.values (part_lines query part)))))))

section_begins : (k : ℕ) (query : Query) (part : Part)
    → section k query part ≡ before_tries k ++ (decimal part.unit.tries ++ (bytes " active " ++ behind_tries query part))
unfolding section header before_tries behind_tries
section_begins k query part = simp append_assoc

tries_end : (n : ℕ) (behind : Bytes) → read_digits n (bytes " active " ++ behind) ≡ n
unfolding bytes read_digits is_digit
tries_end n behind = refl

-- A section shows its query's tries.
pub section_shows_tries : (k : ℕ) (query : Query) (part : Part) → tries_shown k (section k query part) ≡ part.unit.tries
unfolding tries_shown
section_shows_tries k query part =
    rw (section_begins k query part, drop-append_seam)
    (decimal_read part.unit.tries (bytes " active " ++ behind_tries query part) ∙ tries_end part.unit.tries (behind_tries query part))
