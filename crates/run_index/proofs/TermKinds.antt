-- The kind of a term by its word's tag.
use Prim.Native.Nat.{ℕ, ◌%◌, ◌<◌}
use mathlib.Core.Path.{◌≡◌}
use mathlib.Core.Logic.{◌≢◌}
use mathlib.Core.List.{List}
use native.Mathlib.Decide.{ℕ_discrete}
use native.Mathlib.Omega.{arith}
use lib.ListN.{get_or}
use borrow.Author.Tests.{eq-eqb, ne_eqb}
use Rattle.meaning.specs.Bytes.{when◌then◌else◌}
use Rattle.term.specs.Words.{packed, tag_in, rest_in}
use Rattle.run_index.specs.Index.{kind_of, keys}

module _ (s : List ℕ) (w : ℕ) where
  pub kind_compound : tag_in w ≡ 6 → kind_of s w ≡ packed 6 (get_or s (rest_in w) 0)
  unfolding when◌then◌else◌
  kind_compound e = rw (eq-eqb (tag_in w) 6 e)

  pub kind_writer : tag_in w ≡ 1 → kind_of s w ≡ 0
  unfolding when◌then◌else◌
  kind_writer e = rw (ne_eqb (tag_in w) 6 (λ f. omega arith), eq-eqb (tag_in w) 1 e)

  pub kind_reader : tag_in w ≡ 2 → kind_of s w ≡ 2
  unfolding when◌then◌else◌
  kind_reader e = rw (ne_eqb (tag_in w) 6 (λ f. omega arith), ne_eqb (tag_in w) 1 (λ f. omega arith), eq-eqb (tag_in w) 2 e)

  pub kind_own : tag_in w ≢ 6 → tag_in w ≢ 1 → tag_in w ≢ 2 → kind_of s w ≡ w
  unfolding when◌then◌else◌
  kind_own a b c = rw (ne_eqb (tag_in w) 6 a, ne_eqb (tag_in w) 1 b, ne_eqb (tag_in w) 2 c)

  -- The kind of a term that is no variable is no writer's, also below the number of keys.
  pub kind_no_writer : tag_in w ≢ 0 → 2 < kind_of s w → kind_of s w % keys ≢ 0
  kind_no_writer tagged closed = go (ℕ_discrete (tag_in w) 6) (ℕ_discrete (tag_in w) 1) (ℕ_discrete (tag_in w) 2)
    where
      compound : (x : ℕ) → packed 6 x % keys ≢ 0
      compound x e = omega arith

      go : Dec (tag_in w ≡ 6) → Dec (tag_in w ≡ 1) → Dec (tag_in w ≡ 2) → kind_of s w % keys ≢ 0
      go (yes e) b c = rw (kind_compound e) (compound (get_or s (rest_in w) 0))
      go (no a) (yes e) c = absurd (omega (arith, kind_writer e))
      go (no a) (no b) (yes e) = absurd (omega (arith, kind_reader e))
      go (no a) (no b) (no c) = rw (kind_own a b c) (λ e. omega arith)
