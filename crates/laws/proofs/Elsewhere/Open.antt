-- From a closed pair every path and every chain leads to closed pairs only: so one that leads to a pair which is not closed passes no closed pair.
-- A closed pair's paths end within its links; so no pair of a circle is closed.
use Prim.Native.Nat.{ℕ, zero, suc, ◌≤◌}
use mathlib.Core.Path.{◌≡◌, refl, sym, ◌∙◌}
use mathlib.Core.Bool.{Bool, true, false}
use mathlib.Core.Option.{some}
use native.Mathlib.Omega.{arith}
use lib.ListN.{length}
use Rattle.meaning.specs.Terms.{Half, reader, Term, end, more, occurrences, all_occurrences}
use Rattle.meaning.specs.State.{Values, value}
use Rattle.laws.proofs.Lists.{false_not_true}
use Rattle.laws.proofs.Terms.{Stands, stands_occurs}
use Rattle.laws.proofs.Circle.Leaning.{Leans, Links, one, first}
use Rattle.laws.proofs.Single.Closed.{holds_only, not_held, closed_within, closed, opened, closed_more, opens}
use Rattle.laws.proofs.Single.Chains.{Reaches, here, through}

-- What occurs in a term that holds only such pairs is such a pair.
held_passes : (test : ℕ → Bool) (t : Term) → holds_only test t ≡ true → (h : Half) (n : ℕ) → 1 ≤ occurrences h n t → test n ≡ true
held_passes test t only h n o = go (test n) refl
  where
    go : (b : Bool) → test n ≡ b → test n ≡ true
    go true e = e
    go false e = absurd (omega (arith, not_held test h n e t only))

stands_passes : (test : ℕ → Bool) (t : Term) → holds_only test t ≡ true → (n : ℕ) → Stands n t → test n ≡ true
stands_passes test t only n s = let (h, o) = stands_occurs t n s in held_passes test t only h n o

module _ (values : Values) where
  -- With a link less, what a closed pair leans on is closed; so is whatever a path leads to.
  leans_within : (links i j : ℕ) → closed_within (suc links) values i ≡ true → Leans values i j → closed_within links values j ≡ true
  unfolding Leans
  leans_within links i j c (t, e, s) =
      let o = opened values links i c in
      let it : some t ≡ some o.value_held = sym e ∙ o.assigned in
      let its : t ≡ o.value_held = cc in
      stands_passes (closed_within links values) o.value_held o.only j (rw its at s)

  links_within : (links : ℕ) {i j : ℕ} → Links values i j → closed_within (suc links) values i ≡ true → closed_within links values j ≡ true
  links_within links {i} {j} (one l) c = leans_within links i j c l
  links_within links {i} {j} (first {j = k} l further) c =
      links_within links further (closed_more values links k (leans_within links i k c l))

  -- No pair of a circle is closed.
  circle_within : (links z : ℕ) → Links values z z → closed_within links values z ≡ true → ⊥
  unfolding closed_within
  circle_within zero z circle c = false_not_true false refl c
  circle_within (suc links) z circle c = circle_within links z circle (links_within links circle c)

  pub circle_open : (z : ℕ) → Links values z z → closed values z ≡ false
  unfolding closed
  circle_open z circle = go (closed values z) refl
    where
      go : (b : Bool) → closed values z ≡ b → closed values z ≡ false
      go false e = e
      go true e = absurd (circle_within (length values) z circle e)

  -- What a closed pair's value holds is closed.
  closed_holds : (p : ℕ) (u : Term) → closed values p ≡ true → value values p ≡ some u → (h : Half) (n : ℕ) → 1 ≤ occurrences h n u → closed values n ≡ true
  closed_holds p u c e h n m =
      let o = opens values p c in
      let it : some u ≡ some o.value_held = sym e ∙ o.assigned in
      let its : u ≡ o.value_held = cc in
      held_passes (closed values) o.value_held o.only h n (rw its at m)

  closed_links : {i j : ℕ} → Links values i j → closed values i ≡ true → closed values j ≡ true
  unfolding Leans
  closed_links {i} {j} (one (t, e, s)) c = let (h, o) = stands_occurs t j s in closed_holds i t c e h j o
  closed_links {i} {j} (first {j = k} (t, e, s) further) c = let (h, o) = stands_occurs t k s in closed_links further (closed_holds i t c e h k o)

  closed_reaches : (x p : ℕ) (u : Term) → closed values p ≡ true → value values p ≡ some u → Reaches values x (more u end) → closed values x ≡ true
  unfolding all_occurrences
  closed_reaches x p u c e (here m) = closed_holds p u c e reader x (omega arith)
  closed_reaches x p u c e (through k q v m f further) = closed_reaches x q v (closed_holds p u c e k q (omega arith)) f further

  -- So a path, or a chain, to a pair that is not closed begins at one that is not closed.
  pub links_open : {i j : ℕ} → Links values i j → closed values j ≡ false → closed values i ≡ false
  links_open {i} {j} path o = go (closed values i) refl
    where
      go : (b : Bool) → closed values i ≡ b → closed values i ≡ false
      go false e = e
      go true e = absurd (false_not_true _ o (closed_links path e))

  pub reaches_open : (p x : ℕ) (u : Term) → value values p ≡ some u → Reaches values x (more u end) → closed values x ≡ false → closed values p ≡ false
  reaches_open p x u e chain o = go (closed values p) refl
    where
      go : (b : Bool) → closed values p ≡ b → closed values p ≡ false
      go false c = c
      go true c = absurd (false_not_true _ o (closed_reaches x p u c e chain))
