-- A variable written: where its bytes come from, and that they fit.
use Prim.Native.Nat.{ℕ, ◌+◌, ◌*◌, ◌≤◌, ◌<◌}
use mathlib.Core.Path.{◌≡◌, refl, ◌∙◌, sym, ap}
use mathlib.Core.List.{List, [], ◌∷◌, ◌++◌}
use native.Mathlib.Omega.{arith}
use lib.ListN.{length, length-append, get_or}
use Rattle.meaning.specs.Bytes.{Bytes, decimal}
use Rattle.meaning.specs.Terms.{Half, writer, reader, Term}
use Rattle.meaning.specs.Report.{alone, written, number_in}
use Rattle.laws.proofs.Terms.Standing.{Stands}
use Rattle.term.specs.Setting.{Setting}
use Rattle.term.specs.declared.word.View.TheVariants.{Writer, Reader}
use Rattle.term.specs.Layout.{pair_facts}
use Rattle.report_pairs.specs.Threaded.{full}
use Rattle.report_pairs.specs.Facts.{fact_place, Led}
use Rattle.report_leaves.specs.Writes.{Writes}
use Rattle.report_pairs.proofs.Told.{seen}
use Rattle.report_pairs.proofs.Chains.{fact_inside}
use Rattle.report_pairs.proofs.Leaves.{Unassigned, leaf_writer, leaf_reader, writer_bytes, reader_bytes, length_more}

module _ (s : List ℕ) (text : Bytes) (x : Setting) (facts : ℕ) (order : List ℕ) (t : Term) (at size w : ℕ)
    (W : Writes s text x facts order t at size) (l : Led s x t w) where
  number_is : (h : Half) (p : ℕ) (U : Unassigned s text x facts W.readable t w l h p) → get_or s (facts + pair_facts * p + 2) 0 ≡ number_in U.number order
  unfolding Stands
  number_is h p U =
      let place : facts + pair_facts * p + 2 ≡ fact_place x facts U.number + 2 = omega (arith, U.place) in
      ap (λ (m : ℕ). get_or s m 0) place ∙ W.numbered U.number U.below (rw U.is refl)

  fact_in : (h : Half) (p : ℕ) (U : Unassigned s text x facts W.readable t w l h p) → facts + pair_facts * p + 2 < length s
  fact_in h p U = omega (arith, U.place, fact_inside s text x facts W.readable U.number U.below)

  pub write_writer : (p : ℕ) → seen w ≡ Writer p
      → (facts + pair_facts * p + 2 < length s) × (written order alone (full x.values t) ≡ 95 ∷ decimal (get_or s (facts + pair_facts * p + 2) 0))
  write_writer p e =
      let U = leaf_writer s text x facts W.readable t w l p e in (
        fact_in writer p U,
        ap (written order alone) U.is ∙ writer_bytes order U.number ∙ ap (λ (m : ℕ). 95 ∷ decimal m) (sym (number_is writer p U)),
      )

  pub write_reader : (p : ℕ) → seen w ≡ Reader p
      → (facts + pair_facts * p + 2 < length s) × (written order alone (full x.values t) ≡ (95 ∷ decimal (get_or s (facts + pair_facts * p + 2) 0)) ++ (63 ∷ []))
  write_reader p e =
      let U = leaf_reader s text x facts W.readable t w l p e in (
        fact_in reader p U,
        ap (written order alone) U.is ∙ reader_bytes order U.number ∙ ap (λ (m : ℕ). (95 ∷ decimal m) ++ (63 ∷ [])) (sym (number_is reader p U)),
      )

  pub writer_fits : (p : ℕ) (e : seen w ≡ Writer p) → at + 1 + length (decimal (get_or s (facts + pair_facts * p + 2) 0)) ≤ size
  writer_fits p e =
      omega (arith, W.fits, ap length (write_writer p e).1, length_more 95 (decimal (get_or s (facts + pair_facts * p + 2) 0)))

  pub reader_fits : (p : ℕ) (e : seen w ≡ Reader p) → at + 2 + length (decimal (get_or s (facts + pair_facts * p + 2) 0)) ≤ size
  reader_fits p e =
      let d = decimal (get_or s (facts + pair_facts * p + 2) 0) in
      omega (arith, W.fits, ap length (write_reader p e).1, length-append (95 ∷ d) (63 ∷ []), length_more 95 d)
