-- The table of an item's variables: what a place of it says, that a half that occurs once more keeps it, and that the table with one variable
-- more holds the places with that one. Places lie below 32, the counts of halves from there on.
use Prim.Native.Nat.{ℕ, ◌+◌, ◌*◌, ◌-◌, ◌≤◌, ◌<◌, min}
use mathlib.Core.Path.{◌≡◌, refl, ap, ◌∙◌}
use mathlib.Core.Bool.{Bool, true, false}
use mathlib.Core.List.{List, [], ◌∷◌, ◌++◌}
use mathlib.Core.Option.{none, some}
use mathlib.Core.Logic.{◌≢◌}
use native.Mathlib.Omega.{arith}
use native.Mathlib.Numerals.{add-one}
use lib.Dec.{eqb}
use borrow.Author.Tests.{eqb-true, eqb-false}
use lib.ListN.{length, get_or, set, replicate, length-set, length-replicate}
use lib.Seq.{slice, get_or-set_same, get_or-set_other}
use Rattle.meaning.specs.Bytes.{Bytes}
use Rattle.meaning.specs.Items.{place_of}
use Rattle.load_names.specs.Places.{Place, spellings}
use Rattle.load_names.specs.Tables.{no_place, StandsAt, VariablesIn, stored_variable, counted_half}
use Rattle.load_names.specs.Answers.{VariableIs}
use Rattle.std.specs.Prelude.{Some, None}
use Rattle.load_names.proofs.Lists.{length_more, each_more, getD_zeros}
use Rattle.load_names.proofs.Spellings.{has_place, with_known, not_known, with_new, new_place}

pub variable_stands : (rest : Bytes) (places : List Place) (table : List ℕ) → VariablesIn rest places table → (n : ℕ) → n < length places
    → StandsAt rest table n (get_or places n no_place).spelling
variable_stands rest places table kept n h = record {
  kept = omega (arith, kept.size, kept.few);
  size = kept.lengths n h;
  inside = rw (kept.starts n h) (kept.inside n h);
  spelled = rw (kept.starts n h) (kept.spelled n h);
}

-- A table of zeros holds no variable.
pub no_variables : (rest : Bytes) → VariablesIn rest [] (replicate 64 0)
no_variables rest = record {
  size = length-replicate {A = ℕ} 64 0;
  few = omega arith;
  starts = λ n h. absurd (omega arith);
  lengths = λ n h. absurd (omega arith);
  inside = λ n h. absurd (omega arith);
  spelled = λ n h. absurd (omega arith);
  counted = λ k h. rw (getD_zeros 64 (32 + k)) (omega arith);
}

module _ (rest : Bytes) (places : List Place) (table : List ℕ) (kept : VariablesIn rest places table) where
  module _ (place : ℕ) (behind : 32 ≤ place) (within : place < 64) where
    -- Where a half is counted, of the table and of the table with one variable more.
    pub half_read : (place < length table) × (get_or table place 0 ≤ 2)
    half_read =
        let k = place - 32 in
        let there : 32 + k ≡ place = omega arith in
        (omega (arith, kept.size), rw there at (kept.counted k (omega arith)))

    pub half_read_more : (count start size : ℕ) → count < 16
        → (place < length (stored_variable table count start size)) × (get_or (stored_variable table count start size) place 0 ≤ 2)
    half_read_more count start size few = (
      simp length-set half_read.0,
      rw (get_or-set_other (set table (2 * count) start) (2 * count + 1) place size 0 (omega arith), get_or-set_other table (2 * count) place start 0 (omega arith))
          half_read.1,
    )

    same_place : (k : ℕ) → k < 32 → get_or (counted_half table place) k 0 ≡ get_or table k 0
    same_place k h = get_or-set_other table place k (min 2 (get_or table place 0 + 1)) 0 (omega arith)

    at_most_two : (k : ℕ) → k < 32 → (t : Bool) → eqb (32 + k) place ≡ t → get_or (counted_half table place) (32 + k) 0 ≤ 2
    at_most_two k h true e =
        rw (eqb-true (32 + k) place e, get_or-set_same table place (min 2 (get_or table place 0 + 1)) 0 (omega (arith, kept.size))) (omega arith)
    at_most_two k h false e =
        rw (get_or-set_other table place (32 + k) (min 2 (get_or table place 0 + 1)) 0 (eqb-false (32 + k) place e)) (kept.counted k h)

    half_counted : VariablesIn rest places (counted_half table place)
    half_counted = record {
      size = simp length-set kept.size;
      few = kept.few;
      starts = λ n h. same_place (2 * n) (omega (arith, kept.few)) ∙ kept.starts n h;
      lengths = λ n h. same_place (2 * n + 1) (omega (arith, kept.few)) ∙ kept.lengths n h;
      inside = kept.inside;
      spelled = kept.spelled;
      counted = λ k h. at_most_two k h (eqb (32 + k) place) refl;
    }

  module _ (p : Place) (few : length places < 16)
      (inside : p.at + length p.spelling ≤ length rest)
      (spelled : slice p.at (p.at + length p.spelling) rest ≡ p.spelling) where
    other_word : (k : ℕ) → k ≢ 2 * length places → k ≢ 2 * length places + 1
        → get_or (stored_variable table (length places) p.at (length p.spelling)) k 0 ≡ get_or table k 0
    other_word k q r =
        get_or-set_other (set table (2 * length places) p.at) (2 * length places + 1) k (length p.spelling) 0 r
        ∙ get_or-set_other table (2 * length places) k p.at 0 q

    at_start : get_or (stored_variable table (length places) p.at (length p.spelling)) (2 * length places) 0 ≡ p.at
    at_start =
        get_or-set_other (set table (2 * length places) p.at) (2 * length places + 1) (2 * length places) (length p.spelling) 0 (omega arith)
        ∙ get_or-set_same table (2 * length places) p.at 0 (omega (arith, kept.size))

    at_size : get_or (stored_variable table (length places) p.at (length p.spelling)) (2 * length places + 1) 0 ≡ length p.spelling
    at_size =
        get_or-set_same (set table (2 * length places) p.at) (2 * length places + 1) (length p.spelling) 0 (simp length-set (omega (arith, kept.size)))

    variable_added : VariablesIn rest (places ++ (p ∷ [])) (stored_variable table (length places) p.at (length p.spelling))
    variable_added =
        let after = stored_variable table (length places) p.at (length p.spelling) in
        record {
          size = simp length-set kept.size;
          few = rw (length_more places p) few;
          starts = each_more (λ n q. get_or after (2 * n) 0 ≡ q.at) places p no_place
              (λ n k. other_word (2 * n) (omega arith) (omega arith) ∙ kept.starts n k)
              at_start;
          lengths = each_more (λ n q. get_or after (2 * n + 1) 0 ≡ length q.spelling) places p no_place
              (λ n k. other_word (2 * n + 1) (omega arith) (omega arith) ∙ kept.lengths n k)
              at_size;
          inside = each_more (λ n q. q.at + length q.spelling ≤ length rest) places p no_place kept.inside inside;
          spelled = each_more (λ n q. slice q.at (q.at + length q.spelling) rest ≡ q.spelling) places p no_place kept.spelled spelled;
          counted = λ k h. rw (other_word (32 + k) (omega arith) (omega arith)) (kept.counted k h);
        }

-- What `number` answers: of a variable that is known, of a new one, and of the seventeenth.
module _ (rest : Bytes) (places : List Place) (table : List ℕ) (count half at : ℕ) (x : Bytes) (kept : VariablesIn rest places table)
    (counted : count ≡ length places) (behind : 32 ≤ half) (within : half ≤ 48) where
  pub variable_known : (n : ℕ) (table' : List ℕ) → place_of x (spellings places) ≡ some n → table' ≡ counted_half table (half + n)
      → VariableIs rest places half at x table table' (Some (n, count))
  variable_known n table' h after =
      let inside = has_place x places n h in
      let reach : half + n < 64 = omega (arith, kept.few) in
      rw (with_known x places n at h, after) (
        half_counted rest places table kept (half + n) (omega arith) reach,
        counted,
        rw counted inside,
        h,
        get_or-set_same table (half + n) (min 2 (get_or table (half + n) 0 + 1)) 0 (omega (arith, kept.size)),
        λ k l d. get_or-set_other table (half + n) k (min 2 (get_or table (half + n) 0 + 1)) 0 d,
      )

  pub variable_new : (size : ℕ) (table' : List ℕ) → place_of x (spellings places) ≡ none → count < 16
      → (at + length x ≤ length rest) × (slice at (at + length x) rest ≡ x) → size ≡ length x
      → table' ≡ counted_half (stored_variable table count at size) (half + count) → VariableIs rest places half at x table table' (Some (count, count + 1))
  variable_new size table' unknown few part sized after =
      let p : Place = record { at = at; spelling = x } in
      let before = stored_variable table (length places) at (length x) in
      let place = half + length places in
      let fewer : length places < 16 = rw counted at few in
      let added = variable_added rest places table kept p fewer part.0 part.1 in
      let word = other_word rest places table kept p fewer part.0 part.1 in
      rw (with_new x places at unknown, after, counted, sized) (
        half_counted rest (places ++ (p ∷ [])) before added place (omega arith) (omega arith),
        rw (length_more places p, add-one (length places)),
        omega arith,
        new_place x places at unknown,
        get_or-set_same before place (min 2 (get_or before place 0 + 1)) 0 (simp length-set (omega (arith, kept.size)))
            ∙ ap (λ w. min 2 (w + 1)) (word place (omega arith) (omega arith)),
        λ k l d. get_or-set_other before place k (min 2 (get_or before place 0 + 1)) 0 d ∙ word k (omega arith) (omega arith),
      )

  pub variable_passed : place_of x (spellings places) ≡ none → 16 ≤ count → VariableIs rest places half at x table table None
  variable_passed h many = (not_known x places h, rw counted at many, refl)
