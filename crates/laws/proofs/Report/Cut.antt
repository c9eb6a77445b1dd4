-- A report's sections by its bytes alone: a line that begins with `q`, as `query K ..` does, begins a section; no other line of a report does.
-- Lines without an LF inside, of which only the first begins so, stay together when the bytes are cut before each such line.
use Prim.Native.Nat.{ℕ}
use mathlib.Core.Path.{◌≡◌, refl, ap, ◌∙◌}
use mathlib.Core.Bool.{Bool, true, false, not, ◌&&◌}
use mathlib.Core.List.{List, [], ◌∷◌, ◌++◌, append_assoc, append-nil}
use lib.Dec.{eqb}
use Rattle.meaning.specs.Bytes.{Bytes, byte, bytes, joined}
use Rattle.laws.proofs.Lists.{Each, differ, false_not_true}

-- Bytes begin with `q`.
unfoldable pub begins_q : Bytes → Bool
begins_q [] = false
begins_q (c ∷ cs) = eqb c (byte "q")

-- A byte put in front of the first piece.
unfoldable pub before_first : ℕ → List Bytes → List Bytes
before_first c [] = (c ∷ []) ∷ []
before_first c (piece ∷ pieces) = (c ∷ piece) ∷ pieces

-- The bytes cut behind each LF that a `q` follows.
unfoldable pub cut : Bytes → List Bytes
cut [] = []
cut (c ∷ cs) = elim (eqb c (byte "\n") && begins_q cs) [ true ↦ (c ∷ []) ∷ cut cs | false ↦ before_first c (cut cs) ]

-- No LF inside.
unfoldable pub no_break : Bytes → Bool
no_break [] = true
no_break (c ∷ cs) = not (eqb c (byte "\n")) && no_break cs

abbrev pub Plain : Bytes → Type 0
Plain cs = no_break cs ≡ true

-- A line's bytes without its LF, ended by it; and all of some lines.
unfoldable pub ended_by_break : List Bytes → Bytes
ended_by_break [] = []
ended_by_break (line ∷ lines) = line ++ bytes "\n" ++ ended_by_break lines

-- A line that stays in its section.
pub record Inner (line : Bytes) : Type 0 where
  pub plain : Plain line
  pub begins : begins_q line ≡ false

all_before : Bytes → List Bytes → List Bytes
all_before [] pieces = pieces
all_before (c ∷ cs) pieces = before_first c (all_before cs pieces)

all_before_first : (cs piece : Bytes) (pieces : List Bytes) → all_before cs (piece ∷ pieces) ≡ (cs ++ piece) ∷ pieces
unfolding all_before before_first
all_before_first [] piece pieces = refl
all_before_first (c ∷ cs) piece pieces = ap (before_first c) (all_before_first cs piece pieces)

cut_plain : (cs rest : Bytes) → Plain cs → cut (cs ++ rest) ≡ all_before cs (cut rest)
unfolding all_before no_break cut
cut_plain [] rest p = refl
cut_plain (c ∷ cs) rest p = go (eqb c (byte "\n")) refl p (cut_plain cs rest)
  where
    go : (b : Bool) → eqb c (byte "\n") ≡ b → Plain (c ∷ cs) → (Plain cs → cut (cs ++ rest) ≡ all_before cs (cut rest))
        → cut ((c ∷ cs) ++ rest) ≡ all_before (c ∷ cs) (cut rest)
    go true e q further = absurd (false_not_true (no_break (c ∷ cs)) (rw e) q)
    go false e q further = rw (e, cut) (ap (before_first c) (further (rw e at q)))

-- Behind the LF stands nothing, or a line that begins with `q`; or else a line of the same section.
unfoldable pub fresh : Bytes → Bool
fresh [] = true
fresh (c ∷ cs) = eqb c (byte "q")

cut_break_fresh : (rest : Bytes) → fresh rest ≡ true → cut (bytes "\n" ++ rest) ≡ bytes "\n" ∷ cut rest
unfolding cut bytes byte fresh begins_q before_first
cut_break_fresh [] f = refl
cut_break_fresh (c ∷ cs) f = rw (f, cut)

cut_break_inner : (rest : Bytes) → begins_q rest ≡ false → cut (bytes "\n" ++ rest) ≡ all_before (bytes "\n") (cut rest)
unfolding cut bytes byte all_before
cut_break_inner rest f = rw (f, cut)

-- A line whose first byte is no `q`, with anything behind its LF.
begins_behind : (line rest : Bytes) → begins_q line ≡ false → begins_q (line ++ bytes "\n" ++ rest) ≡ false
unfolding begins_q bytes byte
begins_behind [] rest f = refl
begins_behind (c ∷ cs) rest f = f

-- A section's lines: the first begins with `q`, the others are inner lines.
pub record SectionLines (written : Bytes) : Type 0 where
  pub first : Bytes
  pub others : List Bytes
  pub plain : Plain first
  pub begins : begins_q first ≡ true
  pub inner : Each Inner others
  pub same : written ≡ ended_by_break (first ∷ others)

cut_on : (first tail rest : Bytes) → Plain first → begins_q (tail ++ rest) ≡ false → cut (tail ++ rest) ≡ tail ∷ cut rest
    → cut (first ++ bytes "\n" ++ tail ++ rest) ≡ (first ++ bytes "\n" ++ tail) ∷ cut rest
cut_on first tail rest p b further =
    simp append_assoc
    (cut_plain first (bytes "\n" ++ (tail ++ rest)) p
    ∙ rw (cut_break_inner (tail ++ rest) b, further, all_before_first (bytes "\n") tail (cut rest))
    (all_before_first first (bytes "\n" ++ tail) (cut rest)))

cut_lines : (first : Bytes) (others : List Bytes) (rest : Bytes) → Plain first → Each Inner others → fresh rest ≡ true
    → cut (ended_by_break (first ∷ others) ++ rest) ≡ ended_by_break (first ∷ others) ∷ cut rest
unfolding ended_by_break
cut_lines first [] rest p i f =
    simp (append_assoc, append-nil)
    (cut_plain first (bytes "\n" ++ rest) p ∙ rw (cut_break_fresh rest f) (all_before_first first (bytes "\n") (cut rest)))
cut_lines first (line ∷ lines) rest p i f =
    let here = i.0 in
    cut_on first (line ++ bytes "\n" ++ ended_by_break lines) rest p
    (simp append_assoc (rw append_assoc at (begins_behind line (ended_by_break lines ++ rest) here.begins)))
    (cut_lines line lines rest here.plain i.1 f)

-- What begins with `q` may follow an LF between two sections, and so may nothing.
fresh_section : (first : Bytes) (rest : Bytes) → begins_q first ≡ true → fresh (first ++ rest) ≡ true
unfolding begins_q fresh
fresh_section [] rest b = absurd (differ (cc))
fresh_section (c ∷ cs) rest b = b

fresh_sections : (sections : List Bytes) → Each SectionLines sections → fresh (joined sections) ≡ true
unfolding joined fresh ended_by_break
fresh_sections [] s = refl
fresh_sections (section ∷ sections) s =
    let here = s.0 in
    rw here.same (simp append_assoc (fresh_section here.first _ here.begins))

cut_sections : (sections : List Bytes) → Each SectionLines sections → cut (joined sections) ≡ sections
unfolding joined cut
cut_sections [] s = refl
cut_sections (section ∷ sections) s =
    let here = s.0 in
    let others = s.1 in
    rw here.same
    (cut_lines here.first here.others (joined sections) here.plain here.inner (fresh_sections sections others)
    ∙ ap (◌∷◌ (ended_by_break (here.first ∷ here.others))) (cut_sections sections others))

-- A first line and then sections are cut into that line and the sections.
pub cut_line_and_sections : (line : Bytes) (sections : List Bytes) → Plain line → Each SectionLines sections
    → cut (line ++ bytes "\n" ++ joined sections) ≡ (line ++ bytes "\n") ∷ sections
unfolding ended_by_break
cut_line_and_sections line sections p s =
    let whole = cut_lines line [] (joined sections) p tt (fresh_sections sections s) in
    (rw append-nil at whole) ∙ ap (◌∷◌ (line ++ bytes "\n")) (cut_sections sections s)
