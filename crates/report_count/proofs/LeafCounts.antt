-- A term that is no compound, counted: a variable with its number, a constant.
use Prim.Native.Nat.{ℕ, ◌+◌, ◌≤◌}
use mathlib.Core.Path.{◌≡◌, refl, ◌∙◌, sym, ap}
use mathlib.Core.Bool.{Bool, true, false}
use mathlib.Core.List.{List, [], ◌∷◌}
use native.Mathlib.Omega.{arith}
use lib.ListN.{length, length-append}
use Rattle.meaning.specs.Bytes.{Bytes, decimal, among}
use Rattle.meaning.specs.Terms.{Half, writer, reader, Constant, Term}
use Rattle.meaning.specs.Report.{alone, written, number_in}
use Rattle.term.specs.Setting.{Setting}
use Rattle.report_pairs.specs.Threaded.{full, seen_after, shown}
use Rattle.report_pairs.specs.Facts.{Readable, Counting}
use Rattle.report_count.specs.Counts.{LeafCounted}
use Rattle.report_pairs.proofs.Once.{seen_after_constant, seen_after_known, seen_after_new}
use Rattle.report_pairs.proofs.Leaves.{writer_bytes, reader_bytes, length_more}
use Rattle.report_count.proofs.Numbering.{Told}
use Rattle.report_pairs.proofs.Keeping.{changed_none}

variable_few : (seen : List ℕ) (h : Half) (n : ℕ) → length (seen_after seen (Term.variable h n)) ≤ length seen + 1
variable_few seen h n = go (among n seen) refl
  where
    go : (b : Bool) → among n seen ≡ b → length (seen_after seen (Term.variable h n)) ≤ length seen + 1
    go true e = omega (arith, ap length (seen_after_known seen h n e))
    go false e =
        let one : length (n ∷ []) ≡ 1 = refl in
        omega (arith, ap length (seen_after_new seen h n e), length-append seen (n ∷ []), one)

module _ (s s' : List ℕ) (text : Bytes) (x : Setting) (facts : ℕ) (seen : List ℕ) (t : Term) (n k d : ℕ) (is_digits : d ≡ length (decimal k)) where
  pub writer_counted : full x.values t ≡ Term.variable writer n → Told s s' text x facts seen n writer k → LeafCounted s s' text x facts seen t (1 + d)
  unfolding shown
  writer_counted e T =
      let order = seen_after seen (Term.variable writer n) in
      let size : length (written order alone (Term.variable writer n)) ≡ length (decimal k) + 1 =
      ap length (writer_bytes order n) ∙ length_more 95 (decimal (number_in n order)) ∙ ap (λ (m : ℕ). length (decimal m) + 1) (sym T.3) in record {
        changed = T.0;
        readable = T.1;
        counting = rw e T.2;
        placed = λ whole p. rw e (T.4 whole p);
        size = rw e (omega (arith, size, is_digits));
        few = rw e (omega (arith, variable_few seen writer n));
      }

  pub reader_counted : full x.values t ≡ Term.variable reader n → Told s s' text x facts seen n reader k → LeafCounted s s' text x facts seen t (2 + d)
  unfolding shown
  reader_counted e T =
      let order = seen_after seen (Term.variable reader n) in
      let one : length {A = ℕ} (63 ∷ []) ≡ 1 = refl in
      let size : length (written order alone (Term.variable reader n)) ≡ (length (decimal k) + 1) + length {A = ℕ} (63 ∷ []) =
      ap length (reader_bytes order n) ∙ length-append (95 ∷ decimal (number_in n order)) (63 ∷ [])
      ∙ ap (λ (m : ℕ). m + length {A = ℕ} (63 ∷ [])) (length_more 95 (decimal (number_in n order)) ∙ ap (λ (m : ℕ). length (decimal m) + 1) (sym T.3)) in record {
        changed = T.0;
        readable = T.1;
        counting = rw e T.2;
        placed = λ whole p. rw e (T.4 whole p);
        size = rw e (omega (arith, size, one, is_digits));
        few = rw e (omega (arith, variable_few seen reader n));
      }

pub constant_counted : (s : List ℕ) (text : Bytes) (x : Setting) (facts : ℕ) (seen : List ℕ) (t : Term) (c : Constant) (bs : Bytes) (r : ℕ)
    → Readable s text x facts → Counting s x facts seen → full x.values t ≡ Term.constant c
    → ((order : List ℕ) → written order alone (Term.constant c) ≡ bs) → r ≡ length bs → LeafCounted s s text x facts seen t r
unfolding shown
constant_counted s text x facts seen t c bs r R C e w q =
    let same : seen_after seen (full x.values t) ≡ seen = ap (seen_after seen) e ∙ seen_after_constant seen c in record {
      changed = changed_none s x facts;
      readable = R;
      counting = rw same C;
      placed = λ whole p. rw same p;
      size = q ∙ sym (ap (λ (u : Term). length (written (seen_after seen (full x.values t)) alone u)) e ∙ ap length (w (seen_after seen (full x.values t))));
      few = omega (arith, ap length same);
    }
