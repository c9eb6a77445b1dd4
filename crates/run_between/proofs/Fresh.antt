-- Words for copies: the terms of an item, whose compounds' numbers rise, are copied one behind the other from the first free word on.
use Prim.Native.Nat.{ℕ, ◌+◌, ◌*◌, ◌≤◌, ◌<◌}
use mathlib.Core.List.{List}
use native.Mathlib.Omega.{arith}
use Rattle.meaning.specs.Terms.{Term}
use Rattle.term.specs.Layout.{compounds_region, compound_words}
use Rattle.run_effects.specs.Build.{Copies, total, ListSpread, Rising}
use Rattle.run_effects.proofs.Spreading.{total_few, spread}
use Rattle.run_between.proofs.Enlarging.{CopiedTo}

-- Where the compounds of these terms are copied to.
pub record Fresh (cells charged : ℕ) (ts : List Term) : Type 0 where
  pub copies : Copies
  pub spread_there : ListSpread copies cells ts
  pub copied : CopiedTo copies cells (cells + total ts) charged
  pub room : 1 ≤ total ts → cells + total ts < compounds_region + compound_words * charged

-- Numbers up to hi are charged besides: eight words each are enough, and leave one where anything is copied.
pub fresh : (lo hi cells charged : ℕ) (ts : List Term) → Rising lo hi ts → compounds_region ≤ cells → cells ≤ compounds_region + compound_words * charged → Fresh cells (charged + hi) ts
fresh lo hi cells charged ts rising behind fit =
    let (y, there, inside) = spread lo hi ts rising cells in
    record {
      copies = y;
      spread_there = there;
      copied = record { behind = behind; order = omega arith; fit = omega (arith, total_few lo hi ts rising); at = inside };
      room = λ some. omega (arith, total_few lo hi ts rising);
    }
