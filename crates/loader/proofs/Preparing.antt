-- What is zero when the scratch is prepared, and that nothing behind the needed part has changed.
use Prim.Native.Nat.{ℕ, ◌*◌, ◌-◌, ◌≤◌, ◌<◌}
use mathlib.Core.Path.{◌≡◌, ◌∙◌}
use mathlib.Core.List.{List}
use native.Mathlib.Omega.{arith}
use lib.ListN.{length, get_or}
use Rattle.meaning.specs.State.{Room}
use Rattle.term.specs.Frames.{Only, zeroed}
use Rattle.term.specs.Layout.{procedures_region, items_region, values_region, marks_region, ends_region, need_of}
use Rattle.term.specs.States.{PairsZero}
use Rattle.term.proofs.Zeroing.{zeroed_only, zeroed_zero}
use Rattle.loader.specs.Loading.{prepared}

-- The four parts, zeroed one behind the other.
pub prepared_by : (figures : Room) (s s₁ s₂ s₃ s₄ : List ℕ) (values marks ends : ℕ)
    → values ≡ values_region figures → marks ≡ marks_region figures → ends ≡ ends_region figures
    → s₁ ≡ zeroed procedures_region (items_region - procedures_region) s → s₂ ≡ zeroed values (2 * figures.pairs) s₁
    → s₃ ≡ zeroed marks figures.pairs s₂ → s₄ ≡ zeroed ends figures.pairs s₃ → s₄ ≡ prepared figures s
unfolding prepared
prepared_by figures s s₁ s₂ s₃ s₄ values marks ends v m e a b c d = rw (d, e, c, m, b, v, a)

pub record Prepared (figures : Room) (s s' : List ℕ) : Type 0 where
  pub only : Only 0 (need_of figures) s s'
  pub tables : (k : ℕ) → procedures_region ≤ k → k < items_region → get_or s' k 0 ≡ 0
  pub pairs : PairsZero s' figures

pub prepared_is : (figures : Room) (s : List ℕ) → need_of figures ≤ length s → Prepared figures s (prepared figures s)
unfolding prepared
prepared_is figures s inside =
    let P = figures.pairs in
    let words = items_region - procedures_region in
    let s₁ = zeroed procedures_region words s in
    let s₂ = zeroed (values_region figures) (2 * P) s₁ in
    let s₃ = zeroed (marks_region figures) P s₂ in
    let a = zeroed_only procedures_region words s in
    let b = zeroed_only (values_region figures) (2 * P) s₁ in
    let c = zeroed_only (marks_region figures) P s₂ in
    let d = zeroed_only (ends_region figures) P s₃ in
    record {
      only = record {
        size = d.size ∙ c.size ∙ b.size ∙ a.size;
        below = λ k h. absurd (omega arith);
        above = λ k h. d.above k (omega arith) ∙ c.above k (omega arith) ∙ b.above k (omega arith) ∙ a.above k (omega arith);
      };
      tables = λ k l h.
          d.below k (omega arith) ∙ c.below k (omega arith) ∙ b.below k (omega arith) ∙ zeroed_zero procedures_region words s k (omega arith) l h;
      pairs = record {
        values_waiters = λ k l h.
            d.below k (omega arith) ∙ c.below k (omega arith) ∙ zeroed_zero (values_region figures) (2 * P) s₁ k (omega (arith, a.size)) l (omega arith);
        marks = λ k l h. d.below k (omega arith) ∙ zeroed_zero (marks_region figures) P s₂ k (omega (arith, a.size, b.size)) l (omega arith);
        ends = λ k l h. zeroed_zero (ends_region figures) P s₃ k (omega (arith, a.size, b.size, c.size)) l (omega arith);
      };
    }
