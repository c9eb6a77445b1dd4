-- At an unassigned variable: a writer fails; a reader joins the set, and the walk has met one.
use Prim.Native.Nat.{ℕ, ◌+◌, ◌*◌, ◌/◌, ◌%◌, ◌<◌}
use mathlib.Core.Path.{◌≡◌, refl, sym, ap, subst, ◌∙◌}
use mathlib.Core.Logic.{inl, inr}
use mathlib.Core.Bool.{Bool, true, false}
use mathlib.Core.List.{List, [], ◌∷◌}
use native.Mathlib.Omega.{arith}
use lib.ListN.{get_or}
use Rattle.meaning.specs.Terms.{Half, writer, reader}
use Rattle.meaning.specs.Compare.{fails, waits_on}
use Rattle.meaning.specs.Guards.{unassigned}
use Rattle.laws.proofs.Lists.Among.{in_single}
use Rattle.term.proofs.Frames.{only_wider}
use Rattle.run_circle.specs.Ground.{Tells}
use Rattle.run_readers.specs.Readers.{Readers, Met}
use Rattle.run_ground.specs.Looking.{Scene, unit_pair, of_readers, kept_as, half_tag, Looking, AtPair, Found}
use Rattle.run_ground.proofs.Found.{found_fails}
use Rattle.run_ground.proofs.Sets.{joined_of_met}

-- The state's number of pairs, and the state when a reader was met.
pub state_met : (first : Bool) (m : ℕ) (p : Bool) (k : ℕ) → kept_as first m p / 4 ≡ k + 1 → k ≡ m
state_met true m true k e = omega arith
state_met true m false k e = omega arith
state_met false m true k e = omega arith
state_met false m false k e = omega arith

state_joined : (first : Bool) (m : ℕ) (p : Bool) (m' : ℕ) → 4 * (m' + 1) + 2 * (kept_as first m p % 4 / 2) + 1 ≡ kept_as first m' true
state_joined true m true m' = omega arith
state_joined true m false m' = omega arith
state_joined false m true m' = omega arith
state_joined false m false m' = omega arith

writer_tag : (h : Half) (n : ℕ) → half_tag h ≡ 1 → unassigned h n ≡ fails
unfolding unassigned
writer_tag writer n e = refl
writer_tag reader n e = absurd (omega arith)

reader_tag : (h : Half) (n : ℕ) → (half_tag h ≡ 1 → ⊥) → unassigned h n ≡ of_readers (n ∷ [])
unfolding unassigned waits_on
reader_tag writer n d = absurd (d refl)
reader_tag reader n d = refl

module _ (s : List ℕ) (x : Scene) (values marks links stamp state m : ℕ) (p : Bool) (h : Looking s x values marks links stamp state m p)
    (tag q : ℕ) (half : Half) (n : ℕ) (at : AtPair x tag q half n) where
  pub at_writer : tag ≡ 1 → Found s s x marks links stamp m p (unassigned half n) 3
  at_writer e = found_fails x marks links stamp values state m p s h (unassigned half n) (writer_tag half n (sym at.half ∙ e))

  module _ (k : ℕ) (had : state / 4 ≡ k + 1) where
    pub had_is : k ≡ m
    had_is = state_met x.first m p k (rw h.state_is at had)

    pub meet_asks : Readers s (marks + links) links k × (q < links)
    meet_asks = (rw had_is h.readers, omega (arith, at.place, h.links_are, h.placed.shown.stands.held.place n at.below))

    pub at_reader : (tag ≡ 1 → ⊥) → (t : List ℕ) (m' r : ℕ) → Met s t (marks + links) links k (q ∷ []) m'
        → r ≡ 4 * (m' + 1) + 2 * (state % 4 / 2) + 1 → Found s t x marks links stamp m p (unassigned half n) r
    at_reader d t m' r met is = record {
      only = only_wider (marks + links) (marks + links + 2 * links) marks (marks + 3 * x.unit.pairs) s t (omega arith) (omega (arith, h.links_are))
          met.only;
      stamps = λ j l l'. rw (same j (omega (arith, h.links_are))) (h.placed.stamps j l l');
      grounds = λ o j l e. inl (subst (Tells o) (same (marks + j) (omega (arith, h.links_are))) e);
      entered = λ j l e. rw (same (marks + j) (omega (arith, h.links_are))) e;
      size = m';
      pairs = q ∷ [];
      joined = joined_of_met s t (marks + links) links m (q ∷ []) m' (rw had_is at met);
      answer = inr (record {
        readers = n ∷ [];
        result = reader_tag half n (λ e. d (at.half ∙ e));
        below = λ j i. rw (in_single i) at.below;
        added = ap (λ j. j ∷ []) at.place;
        state = is ∙ ap (λ w. 4 * (m' + 1) + 2 * (w % 4 / 2) + 1) h.state_is ∙ state_joined x.first m p m';
        new = λ j l e. inl (sym (same (marks + unit_pair x j) (omega (arith, h.links_are, h.placed.shown.stands.held.place j l))) ∙ e);
      });
    }
      where
        same : (j : ℕ) → j < marks + links → get_or t j 0 ≡ get_or s j 0
        same j l = met.only.below j l
