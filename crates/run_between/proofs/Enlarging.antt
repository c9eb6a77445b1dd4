-- The places of a unit enlarged by a clause's pairs and compounds, and an atlas with one unit's places replaced.
use Prim.Native.Nat.{ℕ, ◌+◌, ◌-◌, ◌*◌, ◌≤◌}
use mathlib.Core.Path.{◌≡◌, refl, ap, ◌∙◌}
use native.Mathlib.Omega.{arith}
use lib.Dec.{ltb}
use borrow.Author.Tests.{eq-eqb, ne_eqb}
use Rattle.meaning.specs.Bytes.{when◌then◌else◌}
use Rattle.term.specs.Cells.{Places}
use Rattle.term.specs.States.{Atlas}
use Rattle.term.specs.Layout.{compounds_region, compound_words}
use Rattle.run_effects.specs.Build.{Item, Copies, Moved}
use Rattle.run_between.specs.Extended.{extended, replaced_at}
use Rattle.run_queues.proofs.Deciding.{if_below, if_beyond}
use Rattle.run_between.proofs.Growing.{AgreeBelow}

-- An item's compounds are copied to words from the first free one up to the next that is, no further on than eight words for each compound charged.
pub record CopiedTo (y : Copies) (cells cells' charged : ℕ) : Type 0 where
  pub behind : compounds_region ≤ cells
  pub order : cells ≤ cells'
  pub fit : cells' ≤ compounds_region + compound_words * charged
  pub at : (n : ℕ) → (cells ≤ y.at n) × (y.at n + y.width n ≤ cells')

pub extended_agrees : (places : Places) (p c pair : ℕ) (y : Copies) → AgreeBelow p c places (extended places p c pair y)
extended_agrees places p c pair y =
    record {
      names = refl;
      pair = λ n h. if_below n p (places.pair n) (pair + (n - p)) h;
      compound = λ n h. if_below n c (places.compound n) (y.at (n - c)) h;
      width = λ n h. if_below n c (places.width n) (y.width (n - c)) h;
    }

module _ (places : Places) (p c pair : ℕ) (y : Copies) where
  pub extended_pair : (a : ℕ) → (extended places p c pair y).pair (p + a) ≡ pair + a
  extended_pair a = if_beyond (p + a) p (places.pair (p + a)) (pair + (p + a - p)) (omega arith) ∙ omega arith

  pub extended_moved : (x : Item) → places.names ≡ x.places.names → Moved x (extended places p c pair y) pair y p c
  extended_moved x names =
      record {
        names = names;
        pair_at = λ n h. extended_pair n;
        compound_at = λ n h. behind n y.at places.compound;
        width_at = λ n h. behind n y.width places.width;
      }
    where
      behind : (n : ℕ) (f g : ℕ → ℕ) → (when ltb (c + n) c then g (c + n) else f (c + n - c)) ≡ f n
      behind n f g = if_beyond (c + n) c (g (c + n)) (f (c + n - c)) (omega arith) ∙ ap f (omega arith)

pub replaced_there : (atlas : Atlas) (q : ℕ) (places : Places) → replaced_at atlas q places q ≡ places
unfolding when◌then◌else◌
replaced_there atlas q places = rw (eq-eqb q q refl)

pub replaced_elsewhere : (atlas : Atlas) (q k : ℕ) (places : Places) → (k ≡ q → ⊥) → replaced_at atlas q places k ≡ atlas k
unfolding when◌then◌else◌
replaced_elsewhere atlas q k places other = rw (ne_eqb k q other)
