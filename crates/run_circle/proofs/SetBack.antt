-- After the test the entries' pairs are set back to nothing, which they held before: so only marks differ.
use Prim.Native.Nat.{ℕ, ◌+◌, ◌≤◌, ◌<◌}
use mathlib.Core.Path.{◌≡◌, sym, ap, ◌∙◌}
use mathlib.Core.Logic.{◌⊎◌, inl, inr}
use mathlib.Core.Bool.{Bool, true, false}
use mathlib.Core.List.{List}
use native.Mathlib.Omega.{arith}
use lib.ListN.{get_or}
use Rattle.term.specs.Holds.{value_word}
use Rattle.term.specs.Layout.{gift_pair}
use Rattle.run_circle.specs.Circle.{entry_pair, Entries, Held, Trial, Tried, Answered, Tested}
use Rattle.run_circle.specs.Ground.{stamp_in}
use Rattle.run_circle.proofs.Grounds.{new_then, new_same}
use Rattle.run_circle.proofs.Through.{one_or_none}

module _ (s₀ : List ℕ) (y : Trial) (values marks n stamp : ℕ) (tried : Tried s₀ y values marks n stamp) where
  entry_low : (i : ℕ) → i < n → values + entry_pair s₀ i < marks
  entry_low i h =
      omega (arith, (tried.entry i h).place, tried.unit.held.place (tried.entry i h).pair (tried.entry i h).of_unit, tried.marks_behind)

  pub entries_of : Entries s₀ values n
  entries_of = record {
    before = tried.entries_before;
    inside = λ i h. omega (arith, entry_low i h, tried.room);
    apart = tried.entries_apart;
  }

  module _ (s₁ s₂ : List ℕ) (r : Bool) (held : Held s₀ s₁ values n true) (answered : Answered s₀ s₁ s₂ y marks n stamp r) where
    -- Neither the entries nor what stands before the marks is changed by the search.
    entry_kept : (i : ℕ) → i < n → entry_pair s₂ i ≡ entry_pair s₀ i
    entry_kept i h =
        answered.only.below (gift_pair i) (omega (arith, tried.entries_before, tried.marks_behind))
        ∙ held.others (gift_pair i) (λ j l e. omega (arith, tried.entries_before))

    pub entries_still : Entries s₂ values n
    entries_still = record {
      before = tried.entries_before;
      inside = λ i h. omega (arith, entry_low i h, tried.room, entry_kept i h, held.size, answered.only.size);
      apart = λ i j h l e. tried.entries_apart i j h l (sym (entry_kept i h) ∙ e ∙ entry_kept j l);
    }

    module _ (s₃ : List ℕ) (back : Held s₂ s₃ values n false) where
      unheld : (k : ℕ) → ((i : ℕ) → i < n → k ≡ values + entry_pair s₀ i → ⊥) → get_or s₃ k 0 ≡ get_or s₂ k 0
      unheld k d = back.others k (λ i h e. d i h (omega (arith, entry_kept i h)))

      below : (k : ℕ) → k < marks → get_or s₃ k 0 ≡ get_or s₀ k 0
      below k l = go (one_or_none (λ i. values + entry_pair s₀ i) n k)
        where
          go : ((i : ℕ) × (i < n) × (k ≡ values + entry_pair s₀ i)) ⊎ ((i : ℕ) → i < n → k ≡ values + entry_pair s₀ i → ⊥)
              → get_or s₃ k 0 ≡ get_or s₀ k 0
          go (inl (i, h, e)) =
              let z = tried.entry i h in
              let now : get_or s₃ (values + entry_pair s₂ i) 0 ≡ 0 = back.entry i h in
              let now' : get_or s₃ k 0 ≡ 0 = ap (λ j. get_or s₃ j 0) (omega (arith, entry_kept i h)) ∙ now in
              let before : get_or s₀ (values + y.unit.places.pair z.pair) 0 ≡ 0 =
              tried.unit.held.stands z.pair z.of_unit ∙ ap (value_word y.unit.places) z.unassigned in
              now' ∙ sym (ap (λ j. get_or s₀ j 0) (omega (arith, z.place)) ∙ before)
          go (inr d) = unheld k d ∙ answered.only.below k l ∙ held.others k d

      behind : (k : ℕ) → marks ≤ k → (i : ℕ) → i < n → k ≡ values + entry_pair s₀ i → ⊥
      behind k l i h e = omega (arith, entry_low i h)

      pub tested : Tested s₀ s₃ y marks n stamp r
      tested = record {
        answer = answered.answer;
        only = record {
          size = back.size ∙ answered.only.size ∙ held.size;
          below = below;
          above = λ k l.
              unheld k (behind k (omega arith)) ∙ answered.only.above k l ∙ held.others k (behind k (omega arith));
        };
        stamps_new = λ k l h. omega (arith, ap (λ m. stamp_in m) (unheld k (behind k l)), answered.stamps_new k l h);
        grounds =
            new_then y.unit.places y.unit.values marks s₀ s₁ s₃
            (new_same y.unit.places y.unit.values marks s₀ s₁ (λ p. held.others (marks + p) (behind (marks + p) (omega arith))))
            (new_then y.unit.places y.unit.values marks s₁ s₂ s₃ answered.grounds
            (new_same y.unit.places y.unit.values marks s₂ s₃ (λ p. unheld (marks + p) (behind (marks + p) (omega arith)))));
      }
