-- A compound's arguments, one after the other: some have been read, and whatever the others answer is the answer of all.
use Rattle.std.specs.Prelude.{Result}
use Prim.Native.Nat.{ℕ, ◌+◌, ◌-◌, ◌<◌}
use mathlib.Core.Path.{◌≡◌}
use mathlib.Core.List.{List}
use native.Mathlib.Omega.{arith}
use lib.ListN.{set}
use Rattle.meaning.specs.Bytes.{Bytes}
use Rattle.meaning.specs.Terms.{Term}
use Rattle.meaning.specs.Items.{Reader, arguments}
use Rattle.term.proofs.Cells.{numbered_order}
use Rattle.term.specs.Layout.{item_place}
use Rattle.load_names.specs.Places.{Place, Placed, names_over, variables_over}
use Rattle.load_tokens.specs.Nexts.{SignAt}
use Rattle.load_openings.specs.Reading.{Stands, Gave, ArgumentsAre}
use Rattle.load_openings.specs.declared.cursor.Cursor.{Cursor}
use Rattle.load_openings.specs.declared.cursor.Unread.{Unread}
use Rattle.load_openings.proofs.Moves.{moved_to, stands_moved}
use Rattle.load_terms.proofs.Arguments.{argument_more}

-- The arguments of the compound n before the i-th have been read from c on, and the reading stands at d.
pub record Reached (argument : Reader Term) (n i : ℕ) (text rest : Bytes) (from base : ℕ) (known vars : List Place) (c : Cursor) (s item : List ℕ)
    (d : Cursor) (s₁ names₁ item₁ : List ℕ) : Type 0 where
  pub known₁ : List Place
  pub vars₁ : List Place
  pub stands : Stands text rest from names₁ item₁ d known₁ vars₁
  pub behind : n < d.compounds
  pub answers : (s' names' item' : List ℕ) (r : Result (ℕ × Cursor) Unread)
      → ArgumentsAre n i (arguments argument (6 - i)) text rest from base known₁ vars₁ d s₁ item₁ s' names' item' r
      → ArgumentsAre n 0 (arguments argument 6) text rest from base known vars c s item s' names' item' r

pub reached_none : (argument : Reader Term) (n : ℕ) (text rest : Bytes) (from base : ℕ) (known vars : List Place) (c : Cursor) (s names item : List ℕ)
    → Stands text rest from names item c known vars → n < c.compounds
    → Reached argument n 0 text rest from base known vars c s item c s names item
reached_none argument n text rest from base known vars c s names item stands behind =
    record { known₁ = known; vars₁ = vars; stands = stands; behind = behind; answers = λ s' names' item' r a. a }

module _ (argument : Reader Term) (n i : ℕ) (text rest : Bytes) (from base : ℕ) (known vars : List Place) (c : Cursor) (s item : List ℕ)
    (d : Cursor) (s₁ names₁ item₁ : List ℕ) (t : Reached argument n i text rest from base known vars c s item d s₁ names₁ item₁) (inside : i < 6) where
  -- One more was read, its word stored, and a comma follows.
  pub reached_more : (s₂ names₂ item₂ s₃ : List ℕ) (w : ℕ) (e : Cursor) (a : Term) (p : List Placed)
      → Gave (λ (u : Term). u) argument text rest from base t.known₁ t.vars₁ d s₁ item₁ s₂ names₂ item₂ w e a p
      → s₃ ≡ set s₂ (item_place base n + 1 + i) w → (b : ℕ) → SignAt rest e.at 44 b
      → Reached argument n (i + 1) text rest from base known vars c s item (moved_to e b) s₃ names₂ item₂
  reached_more s₂ names₂ item₂ s₃ w e a p g kept b sign_at = record {
    known₁ = names_over p t.known₁;
    vars₁ = variables_over from p t.vars₁;
    stands = stands_moved b g.stands sign_at.inside;
    behind = omega (arith, t.behind, numbered_order d.compounds e.compounds a g.numbered);
    answers = λ s' names' item' r others. t.answers s' names' item' r
        (argument_more text rest from base t.known₁ t.vars₁ d s₁ item₁ argument n i inside t.behind s₂ names₂ item₂ s₃ w e a p g kept b sign_at
        s' names' item' r others);
  }
