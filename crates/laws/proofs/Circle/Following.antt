-- Where there is no circle, following a term ends within its links: more of them change nothing, and what is found is no assigned variable.
-- Each link that is followed takes one from the longest chain of assigned pairs that begins in the term.
use Prim.Native.Nat.{ℕ, zero, suc, ◌≤◌}
use mathlib.Core.Path.{◌≡◌, refl}
use mathlib.Core.Bool.{false}
use mathlib.Core.Option.{Option, none, some}
use native.Mathlib.Omega.{arith}
use lib.ListN.{length}
use Rattle.meaning.specs.Terms.{Half, Term, variable, constant, compound}
use Rattle.meaning.specs.State.{Values, value}
use Rattle.meaning.specs.Compare.{followed}
use Rattle.meaning.specs.Circle.{circle}
use Rattle.laws.proofs.Terms.{Below, Stands}
use Rattle.laws.proofs.Circle.Chains.{EndsWithin, AllEndWithin, chains_end}

module _ (values : Values) where
  followed_more_links : (links larger : ℕ) → links ≤ larger → (t : Term) → AllEndWithin links values t
      → followed larger values t ≡ followed links values t
  unfolding followed Stands EndsWithin
  followed_more_links zero zero h t ends = refl
  followed_more_links zero (suc larger) h (variable k p) ends = rw (ends p refl, followed)
  followed_more_links zero (suc larger) h (constant k) ends = refl
  followed_more_links zero (suc larger) h (compound n f ts) ends = refl
  followed_more_links (suc links) zero h t ends = absurd (omega arith)
  followed_more_links (suc links) (suc larger) h (variable k p) ends =
      go (value values p) refl (followed_more_links links larger (omega arith))
    where
      go : (v : Option Term) → value values p ≡ v
          → ((t : Term) → AllEndWithin links values t → followed larger values t ≡ followed links values t)
          → followed (suc larger) values (variable k p) ≡ followed (suc links) values (variable k p)
      go none e further = rw (e, followed)
      go (some t) e further = rw (e, followed) (further t (ends p refl t e))
  followed_more_links (suc links) (suc larger) h (constant k) ends = refl
  followed_more_links (suc links) (suc larger) h (compound n f ts) ends = refl

  followed_to_end : (links : ℕ) (t : Term) (h : Half) (p : ℕ) → AllEndWithin links values t
      → followed links values t ≡ variable h p → value values p ≡ none
  unfolding followed Stands EndsWithin
  followed_to_end zero t h p ends e = ends p (rw e refl)
  followed_to_end (suc links) (variable k q) h p ends e = go (value values q) refl (followed_to_end links)
    where
      go : (v : Option Term) → value values q ≡ v
          → ((t : Term) (h : Half) (p : ℕ) → AllEndWithin links values t → followed links values t ≡ variable h p → value values p ≡ none)
          → value values p ≡ none
      go none f further =
          let same : variable k q ≡ variable h p = rw (f, followed) at e in
          cc
      go (some t) f further = further t h p (ends q refl t f) (rw (f, followed) at e)
  followed_to_end (suc links) (constant k) h p ends e = cc
  followed_to_end (suc links) (compound n f ts) h p ends e = cc

  -- "A goal term that is an assigned variable is followed to its value, again and again": more links than there are pairs change nothing.
  pub followed_within : circle values ≡ false → (links : ℕ) → length values ≤ links → (t : Term)
      → followed links values t ≡ followed (length values) values t
  followed_within no_circle links h t = followed_more_links (length values) links h t (λ p s. chains_end values no_circle p)

  -- What is found is no assigned variable.
  pub followed_unassigned : circle values ≡ false → (t : Term) (h : Half) (p : ℕ)
      → followed (length values) values t ≡ variable h p → value values p ≡ none
  followed_unassigned no_circle t h p e = followed_to_end (length values) t h p (λ q s. chains_end values no_circle q) e

-- Followed through values below n, a term below n stays below n.
pub followed_below : (n : ℕ) (values : Values) → ((p : ℕ) (t : Term) → value values p ≡ some t → Below n t)
    → (links : ℕ) (t : Term) → Below n t → Below n (followed links values t)
unfolding followed
followed_below n values all zero t b = b
followed_below n values all (suc links) (variable h q) b = go (value values q) refl (followed_below n values all links)
  where
    go : (v : Option Term) → value values q ≡ v → ((t : Term) → Below n t → Below n (followed links values t))
        → Below n (followed (suc links) values (variable h q))
    go none e further = rw (e, followed) b
    go (some t) e further = rw (e, followed) (further t (all q t e))
followed_below n values all (suc links) (constant k) b = b
followed_below n values all (suc links) (compound m f ts) b = b
