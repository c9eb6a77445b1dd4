-- For every accepted text, the scratch that loading leaves holds the text's job.
-- Its entries are laid out, and no name stands twice among the names of the text.
use Prim.Native.Nat.{ℕ, zero, suc, ◌+◌, ◌≤◌, ◌<◌}
use mathlib.Core.Path.{◌≡◌, refl, ◌∙◌}
use mathlib.Core.Bool.{Bool, true, false, ◌||◌}
use mathlib.Core.List.{List, [], ◌∷◌, ◌++◌}
use mathlib.Core.Logic.{⊎_elim}
use native.Mathlib.Omega.{arith}
use native.Mathlib.Nat.{eq-or-lt_of_le}
use lib.Dec.{leb}
use lib.ListN.{length, get_or, length-append, get_or-append}
use lib.Seq.{get_or-append_seam}
use Rattle.meaning.specs.Bytes.{Bytes, same, any, when◌then◌else◌}
use Rattle.meaning.specs.Terms.{Job}
use Rattle.meaning.specs.Tokens.{Token, name, variable, integer, sign, bad, Tokens, ends, token, tokens}
use Rattle.meaning.specs.Items.{pieces, no_query, Reading, job, refused, items, asked, reading}
use Rattle.term.specs.Jobs.{Distinct, HoldsJob}
use Rattle.term.proofs.Numbers.{same_swap}
use Rattle.term.specs.Layout.{clauses_region, compounds_region}
use Rattle.load_names.specs.Places.{spellings}
use Rattle.load_image.specs.Image.{so_far, text_names, text_entries, image}
use Rattle.load_image.proofs.Steps.{added, name_added, names_after}
use Rattle.load_image.proofs.AcceptedEntries.{names_in_spells, entries_accepted, pieces_cut, pieces_names}
use Rattle.load_image.proofs.ImageHolds.{LaidOut, image_holds_laid_out}

-- One name more that is not known stands apart from all.
or_none : (a b : Bool) → (a || b) ≡ false → (a ≡ false) × (b ≡ false)
or_none true b h = let z : ◌≡◌ {A = ℕ} 0 1 = cc in absurd (omega arith)
or_none false b h = (refl, h)

none_at : (f : Bytes) (known : List Bytes) (i : ℕ) → any (same f) known ≡ false → i < length known → same (get_or known i []) f ≡ false
unfolding any
none_at f [] i h l = absurd (omega arith)
none_at f (g ∷ known) zero h l = same_swap g f ∙ (or_none (same f g) (any (same f) known) h).0
none_at f (g ∷ known) (suc i) h l = none_at f known i (or_none (same f g) (any (same f) known) h).1 (omega arith)

distinct_last : (f : Bytes) (known : List Bytes) → any (same f) known ≡ false → Distinct known → Distinct (known ++ (f ∷ []))
unfolding Distinct
distinct_last f known h d i j order below =
    let size : length (known ++ (f ∷ [])) ≡ length known + 1 = length-append known (f ∷ []) in
    let inside : j ≤ length known = omega arith in
    ⊎_elim
    (λ (e : j ≡ length known).
    rw (e, get_or-append_seam known f [] [], get_or-append known (f ∷ []) [] i (omega arith)) (none_at f known i h (omega arith)))
    (λ (l : j < length known).
    rw (get_or-append known (f ∷ []) [] i (omega arith), get_or-append known (f ∷ []) [] j l) (d i j order l))
    (eq-or-lt_of_le inside)

distinct_added : (f : Bytes) (known : List Bytes) → Distinct known → Distinct (added f known)
unfolding added when◌then◌else◌
distinct_added f known d = by (any (same f) known) refl
  where
    by : (b : Bool) → any (same f) known ≡ b → Distinct (when b then known else known ++ (f ∷ []))
    by true e = d
    by false e = distinct_last f known e d

distinct_name : (t : Token) (known : List Bytes) → Distinct known → Distinct (name_added t known)
unfolding name_added
distinct_name (name f) known d = distinct_added f known d
distinct_name (variable h x) known d = d
distinct_name (integer i) known d = d
distinct_name (sign b) known d = d
distinct_name bad known d = d

distinct_after : (ts : Tokens) (known : List Bytes) → Distinct known → Distinct (names_after ts known)
unfolding names_after
distinct_after (ends n) known d = d
distinct_after (token at t rest) known d = distinct_after rest (name_added t known) (distinct_name t known d)

pub text_names_distinct : (text : Bytes) → Distinct (spellings (text_names text))
unfolding text_names spellings Distinct
text_names_distinct text = rw (names_in_spells (tokens text) []) (distinct_after (tokens text) [] (λ i j order below. absurd (omega arith)))

-- "Then no query": the items are the job's all the same.
asked_job : (x : Reading) (j : Job) → asked x ≡ job j → x ≡ job j
unfolding asked when◌then◌else◌
asked_job (refused r) j h = h
asked_job (job i) j h = by (leb 1 (length i.queries)) refl h
  where
    by : (b : Bool) → leb 1 (length i.queries) ≡ b → (when b then job i else refused no_query) ≡ job j → job i ≡ job j
    by true e h = h
    by false e h = let z : ◌≡◌ {A = ℕ} 0 1 = cc in absurd (omega arith)

pub accepted_laid_out : (text : Bytes) (j : Job) → reading text ≡ job j → LaidOut text j
unfolding reading text_names text_entries so_far spellings
accepted_laid_out text j h =
    let all = entries_accepted [] 0 0 (pieces (tokens text)) j (pieces_cut (tokens text)) (omega arith) (omega arith) (omega arith)
    (asked_job (items (record { names = []; clauses = 0; queries = 0 }) (pieces (tokens text))) j h) in
    let names = pieces_names (tokens text) [] in
    record {
      few_names = rw names at all.few_names;
      distinct = text_names_distinct text;
      entries = rw names at all.laid;
      job = all.same_job;
    }

-- Loading an accepted text into a scratch whose table of procedures is zero; what else stands there may be anything.
pub image_holds : (text : Bytes) (j : Job) (s : List ℕ) → reading text ≡ job j → compounds_region ≤ length s
    → ((w : ℕ) → 512 ≤ w → w < clauses_region → get_or s w 0 ≡ 0) → HoldsJob (image text s) (spellings (text_names text)) j
image_holds text j s h inside zeros = image_holds_laid_out text j s (accepted_laid_out text j h) inside zeros
