-- Bytes that may be written: the first of them, and those behind what was put; a value that is stored is copied.
use Prim.Native.Nat.{ℕ, ◌+◌, ◌-◌, ◌*◌, ◌≤◌}
use mathlib.Core.Path.{◌≡◌, refl, ◌∙◌, ap}
use mathlib.Core.Logic.{◌≢◌}
use mathlib.Core.List.{List, ◌++◌}
use mathlib.Core.Option.{Option, none, some}
use native.Mathlib.Omega.{arith}
use lib.ListN.{length, length-append, get_or}
use Rattle.meaning.specs.Bytes.{Bytes}
use Rattle.meaning.specs.Terms.{Half, Term}
use Rattle.meaning.specs.State.{value}
use Rattle.meaning.specs.Report.{alone, written}
use Rattle.term.specs.Setting.{Setting}
use Rattle.term.specs.Layout.{pair_facts}
use Rattle.std.specs.Prelude.{Some}
use Rattle.report_pairs.specs.Threaded.{full}
use Rattle.report_pairs.specs.Pairs.{pair_seen}
use Rattle.report_pairs.specs.Laid.{Puts, Has}
use Rattle.report_pairs.specs.Facts.{fact_place, Readable, Shows}
use Rattle.report_leaves.specs.Fits.{StoredAt, Fits}
use Rattle.report_pairs.proofs.Full.{full_assigned}
use Rattle.report_pairs.proofs.Told.{seen as look, pair_told}
use Rattle.report_pairs.proofs.Chains.{variable_below}
use Rattle.report_pairs.proofs.Having.{has_front, has_behind, puts_agree}
use Rattle.report_put.proofs.Putting.{puts_length}

pub fits_front : {s : List ℕ} {x : Setting} {facts : ℕ} {order : List ℕ} {at : ℕ} {b : List ℕ} (xs ys : Bytes) → Fits s x facts order at b (xs ++ ys)
    → Fits s x facts order at b xs
fits_front xs ys F = record {
  room = omega (arith, F.room, length-append xs ys);
  whole = F.whole;
  there = has_front xs ys F.whole _ F.there;
  agrees = F.agrees;
  stored = F.stored;
}

pub fits_behind : {s : List ℕ} {x : Setting} {facts : ℕ} {order : List ℕ} {at to : ℕ} {b b' : List ℕ} (xs ys : Bytes) → Fits s x facts order at b (xs ++ ys)
    → Puts b b' at to xs → Fits s x facts order to b' ys
fits_behind {s} {x} {facts} {order} {at} {to} {b} {b'} xs ys F P = record {
  room = omega (arith, F.room, length-append xs ys, P.place, puts_length P);
  whole = F.whole;
  there = has_behind xs ys F.whole at to P.place F.there;
  agrees = puts_agree xs b b' at to F.whole (omega (arith, F.room, length-append xs ys)) P (has_front xs ys F.whole at F.there) F.agrees;
  stored = F.stored;
}

pub fits_as : {s : List ℕ} {x : Setting} {facts : ℕ} {order : List ℕ} {at : ℕ} {b : List ℕ} {xs ys : Bytes} → xs ≡ ys → Fits s x facts order at b xs
    → Fits s x facts order at b ys
fits_as e F = rw e at F

-- The length that is kept of a variable's value, if one is, and where its bytes stand.
pub record Standing (s : List ℕ) (facts p at : ℕ) (b : List ℕ) (bs : Bytes) : Type 0 where
  pub size : get_or s (facts + pair_facts * p + 1) 0 ≡ length bs
  pub here : get_or s (facts + pair_facts * p + 3) 0 + length bs ≤ at → Has b (get_or s (facts + pair_facts * p + 3) 0) bs

pub standing : (s : List ℕ) (text : Bytes) (x : Setting) (facts : ℕ) (order : List ℕ) (t : Term) (w p at : ℕ) (b : List ℕ) → Readable s text x facts
    → Shows s x t w → Fits s x facts order at b (written order alone (full x.values t)) → Some p ≡ pair_seen (look w)
    → get_or s (facts + pair_facts * p + 1) 0 ≢ 0 → Standing s facts p at b (written order alone (full x.values t))
standing s text x facts order t w p at b r k F q len = go (pair_told x.places t w p k.word q)
  where
    by : (h : Half) (n : ℕ) (v : Option Term) → t ≡ Term.variable h n → p ≡ x.places.pair n → value x.values n ≡ v
        → StoredAt s x facts order F.whole n v → Standing s facts p at b (written order alone (full x.values t))
    by h n none y g z S =
        let first : facts + pair_facts * p + 1 ≡ fact_place x facts n + 1 = omega arith in
        absurd (len (ap (λ (m : ℕ). get_or s m 0) first ∙ S))
    by h n (some u) y g z S =
        let same : full x.values t ≡ full x.values u = ap (full x.values) y ∙ full_assigned x.values r.no_circle h n u z in
        let first : facts + pair_facts * p + 1 ≡ fact_place x facts n + 1 = omega arith in
        let third : facts + pair_facts * p + 3 ≡ fact_place x facts n + 3 = omega arith in
        let size : get_or s (facts + pair_facts * p + 1) 0 ≡ get_or s (fact_place x facts n + 1) 0 = ap (λ (m : ℕ). get_or s m 0) first in
        let from : get_or s (facts + pair_facts * p + 3) 0 ≡ get_or s (fact_place x facts n + 3) 0 = ap (λ (m : ℕ). get_or s m 0) third in
        let there = S (λ o. len (size ∙ o)) in
        rw same (record {
          size = size ∙ there.0;
          here = λ l m c.
              F.agrees (get_or s (facts + pair_facts * p + 3) 0 + m) (omega arith) ∙ ap (λ (j : ℕ). get_or F.whole (j + m) 0) from ∙ there.1 m c;
        })

    go : (h : Half) × (n : ℕ) × (t ≡ Term.variable h n) × (p ≡ x.places.pair n) → Standing s facts p at b (written order alone (full x.values t))
    go (h, n, v, g) = by h n (value x.values n) v g refl (F.stored n (variable_below s text x facts r h n w (rw v at k)))

-- Put again, they are copied.
pub copied_all : (s : List ℕ) (facts p at : ℕ) (b b' : List ℕ) (bs : Bytes) → Standing s facts p at b bs → (n from r : ℕ)
    → n ≡ get_or s (facts + pair_facts * p + 1) 0 → from ≡ get_or s (facts + pair_facts * p + 3) 0 → n ≤ at → from ≤ at - n
    → ((bs : Bytes) → n ≡ length bs → Has b from bs → Puts b b' at r bs) → Puts b b' at r bs
copied_all s facts p at b b' bs D n from r e f l m put = put bs (e ∙ D.size) (rw f (D.here (omega (arith, D.size))))
