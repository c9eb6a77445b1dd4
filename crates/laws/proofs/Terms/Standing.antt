-- Which pairs stand in a term, and whether all are below a number or all at or beyond it.
-- A pair stands in a term exactly if one of its halves occurs in it; renaming apart raises all beyond.
use Prim.Native.Nat.{ℕ, ◌+◌, ◌≤◌, ◌<◌}
use mathlib.Core.Path.{◌≡◌, refl}
use mathlib.Core.Logic.{◌↔◌, ◌⊎◌, inl, inr}
use mathlib.Core.Bool.{Bool, true, false, ◌&&◌}
use native.Mathlib.Decide.{dec_lt}
use native.Mathlib.Omega.{arith}
use lib.Dec.{eqb}
use borrow.Author.Tests.{eqb-true}
use Rattle.meaning.specs.Bytes.{when◌then◌else◌}
use Rattle.meaning.specs.Terms.{
  Half,
  Term,
  Terms,
  variable,
  constant,
  compound,
  end,
  more,
  same_half,
  renamed,
  all_renamed,
  occurrences,
  all_occurrences,
}
use Rattle.laws.proofs.Terms.Occurrences.{occurs_itself}
use Rattle.laws.proofs.Terms.Renaming.{all_renamed_below}

-- Pair j stands in a term, by its writer or its reader: h is either half.
unfoldable mutual
  pub Stands : ℕ → Term → Type 0
  Stands j (variable h p) = j ≡ p
  Stands j (constant k) = ⊥
  Stands j (compound n f ts) = StandsIn j ts

  pub StandsIn : ℕ → Terms → Type 0
  StandsIn j end = ⊥
  StandsIn j (more t ts) = Stands j t ⊎ StandsIn j ts

-- All pairs of a term, or of its arguments, are below n.
abbrev pub Below : ℕ → Term → Type 0
Below n t = (p : ℕ) → Stands p t → p < n

abbrev pub AllBelow : ℕ → Terms → Type 0
AllBelow n ts = (p : ℕ) → StandsIn p ts → p < n

-- All are at or beyond n.
abbrev pub Beyond : ℕ → Term → Type 0
Beyond n t = (p : ℕ) → Stands p t → n ≤ p

abbrev pub AllBeyond : ℕ → Terms → Type 0
AllBeyond n ts = (p : ℕ) → StandsIn p ts → n ≤ p

counted : (a b : Bool) → 1 ≤ (when a && b then 1 else 0) → b ≡ true
unfolding when◌then◌else◌
counted true true o = refl
counted true false o = absurd (omega arith)
counted false b o = absurd (omega arith)

-- A pair stands in a term exactly if one of its halves occurs in it.
mutual
  unfolding Stands StandsIn occurrences all_occurrences

  pub stands_occurs : (t : Term) (p : ℕ) → Stands p t → (h : Half) × (1 ≤ occurrences h p t)
  stands_occurs (variable h q) p s = (h, rw s (omega (arith, occurs_itself h q)))
  stands_occurs (constant k) p s = absurd s
  stands_occurs (compound n f ts) p s = stands_occurs_in ts p s

  pub stands_occurs_in : (ts : Terms) (p : ℕ) → StandsIn p ts → (h : Half) × (1 ≤ all_occurrences h p ts)
  stands_occurs_in end p s = absurd s
  stands_occurs_in (more t ts) p (inl s) = let (h, o) = stands_occurs t p s in (h, omega arith)
  stands_occurs_in (more t ts) p (inr s) = let (h, o) = stands_occurs_in ts p s in (h, omega arith)

mutual
  unfolding Stands StandsIn occurrences all_occurrences

  pub occurs_stands : (t : Term) (h : Half) (p : ℕ) → 1 ≤ occurrences h p t → Stands p t
  occurs_stands (variable k q) h p o = eqb-true p q (counted (same_half h k) (eqb p q) o)
  occurs_stands (constant k) h p o = absurd (omega arith)
  occurs_stands (compound n f ts) h p o = occurs_stands_in ts h p o

  pub occurs_stands_in : (ts : Terms) (h : Half) (p : ℕ) → 1 ≤ all_occurrences h p ts → StandsIn p ts
  occurs_stands_in end h p o = absurd (omega arith)
  occurs_stands_in (more t ts) h p o = go (dec_lt 0 (occurrences h p t)) (λ q. occurs_stands t h p q) (λ q. occurs_stands_in ts h p q)
    where
      go : Dec (0 < occurrences h p t) → (1 ≤ occurrences h p t → Stands p t) → (1 ≤ all_occurrences h p ts → StandsIn p ts)
          → Stands p t ⊎ StandsIn p ts
      go (yes b) here later = inl (here b)
      go (no b) here later = inr (later (omega arith))

-- Both halves count, and nothing else.
pub stands_says : (t : Term) (p : ℕ) → Stands p t ↔ ((h : Half) × (1 ≤ occurrences h p t))
stands_says t p = (stands_occurs t p, λ (h, o). occurs_stands t h p o)

-- The range of a term by its occurrences.
pub below_by_occurrences : (n : ℕ) (t : Term) → ((h : Half) (m : ℕ) → n ≤ m → occurrences h m t ≡ 0) → Below n t
below_by_occurrences n t none_beyond p s = go (dec_lt p n) (stands_occurs t p s)
  where
    go : Dec (p < n) → (h : Half) × (1 ≤ occurrences h p t) → p < n
    go (yes b) o = b
    go (no b) (h, o) = let never : occurrences h p t ≡ 0 = none_beyond h p (omega arith) in absurd (omega arith)

pub all_below_by_occurrences : (n : ℕ) (ts : Terms) → ((h : Half) (m : ℕ) → n ≤ m → all_occurrences h m ts ≡ 0) → AllBelow n ts
all_below_by_occurrences n ts none_beyond p s = go (dec_lt p n) (stands_occurs_in ts p s)
  where
    go : Dec (p < n) → (h : Half) × (1 ≤ all_occurrences h p ts) → p < n
    go (yes b) o = b
    go (no b) (h, o) = let never : all_occurrences h p ts ≡ 0 = none_beyond h p (omega arith) in absurd (omega arith)

-- Renamed apart, terms have pairs at or beyond the number by which they were raised.
pub all_renamed_beyond : (ts : Terms) (n c : ℕ) → AllBeyond n (all_renamed n c ts)
all_renamed_beyond ts n c p s = go (dec_lt p n) (stands_occurs_in (all_renamed n c ts) p s)
  where
    go : Dec (p < n) → (h : Half) × (1 ≤ all_occurrences h p (all_renamed n c ts)) → n ≤ p
    go (yes b) (h, o) = absurd (omega (arith, all_renamed_below n c h p ts b))
    go (no b) o = omega arith

-- The pairs of a term renamed apart are its pairs, raised.
mutual
  unfolding Stands StandsIn renamed all_renamed

  pub stands_renamed : (t : Term) (n c j : ℕ) → Stands j (renamed n c t) → (x : ℕ) × (j ≡ n + x) × Stands x t
  stands_renamed (variable h x) n c j s = (x, s, refl)
  stands_renamed (constant k) n c j s = absurd s
  stands_renamed (compound m f ts) n c j s = stands_all_renamed ts n c j s

  pub stands_all_renamed : (ts : Terms) (n c j : ℕ) → StandsIn j (all_renamed n c ts) → (x : ℕ) × (j ≡ n + x) × StandsIn x ts
  stands_all_renamed end n c j s = absurd s
  stands_all_renamed (more t ts) n c j (inl s) = let (x, e, i) = stands_renamed t n c j s in (x, e, inl i)
  stands_all_renamed (more t ts) n c j (inr s) = let (x, e, i) = stands_all_renamed ts n c j s in (x, e, inr i)

mutual
  unfolding Stands StandsIn renamed all_renamed

  pub renamed_stands : (t : Term) (n c x : ℕ) → Stands x t → Stands (n + x) (renamed n c t)
  renamed_stands (variable h y) n c x s = rw s
  renamed_stands (constant k) n c x s = absurd s
  renamed_stands (compound m f ts) n c x s = all_renamed_stand ts n c x s

  pub all_renamed_stand : (ts : Terms) (n c x : ℕ) → StandsIn x ts → StandsIn (n + x) (all_renamed n c ts)
  all_renamed_stand end n c x s = absurd s
  all_renamed_stand (more t ts) n c x (inl s) = inl (renamed_stands t n c x s)
  all_renamed_stand (more t ts) n c x (inr s) = inr (all_renamed_stand ts n c x s)
