-- What it is for a pair to lean on another through one or more links, said without the test that looks for it.
-- `pairs_of` gives the pairs that stand in a term, and `leans_on` those on which pairs lean.
use Prim.Native.Nat.{ℕ}
use mathlib.Core.Path.{◌≡◌, refl}
use mathlib.Core.Logic.{◌⊎◌, inl, inr, ⊎_elim}
use mathlib.Core.List.{List, [], ◌∷◌}
use mathlib.Core.Option.{Option, none, some}
use Rattle.meaning.specs.Terms.{Term, Terms, variable, constant, compound, end, more, pairs_of, pairs_of_all}
use Rattle.meaning.specs.State.{Values, value}
use Rattle.meaning.specs.Circle.{held, leans_on}
use Rattle.laws.proofs.Lists.{In, here, in_cons_cases, in_none, there}
use Rattle.laws.proofs.Terms.{Stands, StandsIn}

-- "Pair i leans on pair j if i's value holds j's writer or reader."
unfoldable pub Leans : Values → ℕ → ℕ → Type 0
Leans values i j = (t : Term) × (value values i ≡ some t) × Stands j t

-- "Through one or more links."
pub data Links (values : Values) : ℕ → ℕ → Type 0 where
  one : {i j : ℕ} → Leans values i j → Links values i j
  first : {i j k : ℕ} → Leans values i j → Links values j k → Links values i k

pub links_join : {values : Values} {i j k : ℕ} → Links values i j → Links values j k → Links values i k
links_join (one l) q = first l q
links_join (first l p) q = first l (links_join p q)

-- The pairs of a term are those that stand in it.
mutual
  unfolding Stands StandsIn pairs_of pairs_of_all

  pub in_pairs_of : (t : Term) (behind : List ℕ) (j : ℕ) → In j (pairs_of t behind) → Stands j t ⊎ In j behind
  in_pairs_of (variable h p) behind j q = in_cons_cases q
  in_pairs_of (constant k) behind j q = inr q
  in_pairs_of (compound n f ts) behind j q = in_pairs_of_all ts behind j q

  in_pairs_of_all : (ts : Terms) (behind : List ℕ) (j : ℕ) → In j (pairs_of_all ts behind) → StandsIn j ts ⊎ In j behind
  in_pairs_of_all end behind j q = inr q
  in_pairs_of_all (more t ts) behind j q = go (in_pairs_of t (pairs_of_all ts behind) j q) (in_pairs_of_all ts behind j)
    where
      go : Stands j t ⊎ In j (pairs_of_all ts behind) → (In j (pairs_of_all ts behind) → StandsIn j ts ⊎ In j behind)
          → (Stands j t ⊎ StandsIn j ts) ⊎ In j behind
      go (inl s) further = inl (inl s)
      go (inr r) further = ⊎_elim (λ s. inl (inr s)) inr (further r)

mutual
  unfolding Stands StandsIn pairs_of pairs_of_all

  pub stands_in_pairs_of : (t : Term) (behind : List ℕ) (j : ℕ) → Stands j t ⊎ In j behind → In j (pairs_of t behind)
  stands_in_pairs_of (variable h p) behind j (inl s) = here s
  stands_in_pairs_of (variable h p) behind j (inr q) = there q
  stands_in_pairs_of (constant k) behind j (inl s) = absurd s
  stands_in_pairs_of (constant k) behind j (inr q) = q
  stands_in_pairs_of (compound n f ts) behind j s = stands_in_pairs_of_all ts behind j s

  stands_in_pairs_of_all : (ts : Terms) (behind : List ℕ) (j : ℕ) → StandsIn j ts ⊎ In j behind → In j (pairs_of_all ts behind)
  stands_in_pairs_of_all end behind j (inl s) = absurd s
  stands_in_pairs_of_all end behind j (inr q) = q
  stands_in_pairs_of_all (more t ts) behind j (inl (inl s)) = stands_in_pairs_of t (pairs_of_all ts behind) j (inl s)
  stands_in_pairs_of_all (more t ts) behind j (inl (inr s)) =
      stands_in_pairs_of t (pairs_of_all ts behind) j (inr (stands_in_pairs_of_all ts behind j (inl s)))
  stands_in_pairs_of_all (more t ts) behind j (inr q) =
      stands_in_pairs_of t (pairs_of_all ts behind) j (inr (stands_in_pairs_of_all ts behind j (inr q)))

in_held : (v : Option Term) (behind : List ℕ) (j : ℕ) → In j (held v behind) → ((t : Term) × (v ≡ some t) × Stands j t) ⊎ In j behind
unfolding held
in_held none behind j q = inr q
in_held (some t) behind j q = ⊎_elim (λ s. inl (t, refl, s)) inr (in_pairs_of t behind j q)

behind_in_held : (v : Option Term) (behind : List ℕ) (j : ℕ) → In j behind → In j (held v behind)
unfolding held
behind_in_held none behind j q = q
behind_in_held (some t) behind j q = stands_in_pairs_of t behind j (inr q)

-- `leans_on` gives the pairs on which one of the given pairs leans.
module _ (values : Values) where
  pub in_leans_on : (is : List ℕ) (j : ℕ) → In j (leans_on values is) → (i : ℕ) × In i is × Leans values i j
  unfolding leans_on Leans
  in_leans_on [] j q = absurd (in_none q)
  in_leans_on (i ∷ is) j q =
      ⊎_elim (λ l. (i, here refl, l)) (λ r. let (k, p, l) = in_leans_on is j r in (k, there p, l))
      (in_held (value values i) (leans_on values is) j q)

  pub leaning_in_leans_on : {i : ℕ} {is : List ℕ} (j : ℕ) → In i is → Leans values i j → In j (leans_on values is)
  unfolding leans_on held Leans
  leaning_in_leans_on {i = i} j (here {x = k} {xs = ks} e) (t, v, s) =
      rw (← e, v) (stands_in_pairs_of t (leans_on values ks) j (inl s))
  leaning_in_leans_on j (there {x = k} {xs = ks} p) l =
      behind_in_held (value values k) (leans_on values ks) j (leaning_in_leans_on j p l)
