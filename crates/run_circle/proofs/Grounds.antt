-- Ground pairs, and pairs from which all ways go through another: they stay so, no unassigned pair is reached besides, and marks that tell them stay true.
use Prim.Native.Nat.{ℕ, ◌+◌, ◌≤◌, ◌<◌}
use mathlib.Core.Path.{◌≡◌, sym, subst, ◌∙◌}
use mathlib.Core.Logic.{◌⊎◌, inl, inr, ⊎_elim}
use mathlib.Core.List.{List}
use mathlib.Core.Option.{Option, none, some}
use native.Mathlib.Omega.{arith}
use lib.ListN.{length, get_or}
use Rattle.meaning.specs.Terms.{Term}
use Rattle.meaning.specs.State.{Values, value}
use Rattle.laws.proofs.Terms.Standing.{Stands}
use Rattle.laws.proofs.Circle.Leaning.{Leans, Links, one, first}
use Rattle.term.specs.Cells.{Places}
use Rattle.run_circle.specs.Ground.{Ground, a_ground, Via, there, through, LeadsVia, GroundAt, Tells, IsSo, Grounds, NewGrounds}

none_some : (u : Term) → none ≡ some u → ⊥
none_some u g = let z : ◌≡◌ {A = ℕ} 0 1 = cc in absurd (omega arith)

some_same : (a b : Term) → some a ≡ some b → a ≡ b
some_same a b g = cc

module _ (before after : Values) (stays : (n : ℕ) (t : Term) → value before n ≡ some t → value after n ≡ some t) where
  -- What is ground stays so where values stay.
  pub ground_stays : {n : ℕ} → Ground before n → Ground after n
  ground_stays (a_ground {n = n} t e all) = a_ground t (stays n t e) (λ j r. ground_stays (all j r))

  pub via_stays : {u n : ℕ} → Via before u n → Via after u n
  via_stays (there e) = there e
  via_stays (through {n = n} t e all) = through t (stays n t e) (λ j r. via_stays (all j r))

  pub leads_stays : (u n : ℕ) → LeadsVia before u n → LeadsVia after u n
  leads_stays u n (t, e, all) = (t, stays n t e, λ j r. via_stays (all j r))

  leans_stays : (i j : ℕ) → Leans before i j → Leans after i j
  unfolding Leans
  leans_stays i j (t, e, r) = (t, stays i t e, r)

  pub links_stay : {i j : ℕ} → Links before i j → Links after i j
  links_stay (one {i = i} {j = j} l) = one (leans_stays i j l)
  links_stay (first {i = i} {j = j} l p) = first (leans_stays i j l) (links_stay p)

  -- What a pair leans on stands in the value that it had.
  pub leans_stands : (n j : ℕ) (t : Term) → value before n ≡ some t → Leans after n j → Stands j t
  unfolding Leans
  leans_stands n j t e (u, f, r) =
      let same : ◌≡◌ {A = Term} t u = some_same t u (sym (stays n t e) ∙ f) in
      rw same r

  -- A ground pair leans on ground pairs.
  pub ground_leans : {n : ℕ} → Ground before n → (j : ℕ) → Leans after n j → Ground before j
  ground_leans (a_ground {n = n} t e all) j l = all j (leans_stands n j t e l)

  pub ground_value : {n : ℕ} → Ground before n → value before n ≡ none → ⊥
  ground_value (a_ground t e all) f = none_some t (sym f ∙ e)

  -- No unassigned pair is reached from it.
  pub ground_reaches : {n z : ℕ} → Ground before n → Links after n z → value before z ≡ none → ⊥
  ground_reaches {z = z} g (one l) e = ground_value (ground_leans g z l) e
  ground_reaches g (first {j = j} l p) e = ground_reaches (ground_leans g j l) p e

  -- From a pair from which all ways go through u, the next pair is such a one too, or the pair is u.
  pub via_leans : {u n : ℕ} → Via before u n → (n ≡ u) ⊎ ((j : ℕ) → Leans after n j → Via before u j)
  via_leans (there e) = inl e
  via_leans (through {n = n} t e all) = inr (λ j l. all j (leans_stands n j t e l))

-- An unassigned pair is reached through itself only.
pub via_unassigned : (values : Values) {u n : ℕ} → Via values u n → value values n ≡ none → n ≡ u
via_unassigned values (there e) f = e
via_unassigned values (through t e all) f = absurd (none_some t (sym f ∙ e))

-- Through a ground pair nothing unassigned is reached, and through one from which all ways go through another, all ways go through that.
pub ground_via : (values : Values) (u : ℕ) {n : ℕ} → Ground values n → Via values u n
ground_via values u (a_ground t e all) = through t e (λ j r. ground_via values u (all j r))

pub via_ground : (values : Values) {u n : ℕ} → Via values u n → Ground values u → Ground values n
via_ground values (there e) g = subst (Ground values) (sym e) g
via_ground values (through t e all) g = a_ground t e (λ j r. via_ground values (all j r) g)

pub via_via : (values : Values) {u w n : ℕ} → Via values u n → Via values w u → Via values w n
via_via values {w = w} (there e) g = subst (Via values w) (sym e) g
via_via values (through t e all) g = through t e (λ j r. via_via values (all j r) g)

pub leads_via : (values : Values) (u n : ℕ) → LeadsVia values u n → Via values u n
leads_via values u n (t, e, all) = through t e all

-- What is so stays so where values stay and there are more.
pub so_grows : (places places' : Places) (before after : Values) → length before ≤ length after
    → ((n : ℕ) → n < length before → places'.pair n ≡ places.pair n)
    → ((n : ℕ) (t : Term) → value before n ≡ some t → value after n ≡ some t)
    → (o : Option ℕ) (p : ℕ) → IsSo places before o p → IsSo places' after o p
so_grows places places' before after longer same stays none p g = record {
  pair = g.pair;
  below = omega (arith, g.below);
  place = same g.pair g.below ∙ g.place;
  a_ground = ground_stays before after stays g.a_ground;
}
so_grows places places' before after longer same stays (some q) p g = record {
  pair = g.pair;
  below = omega (arith, g.below);
  place = same g.pair g.below ∙ g.place;
  end = g.end;
  end_below = omega (arith, g.end_below);
  end_place = same g.end g.end_below ∙ g.end_place;
  leads = leads_stays before after stays g.end g.pair g.leads;
  path = links_stay before after stays g.path;
}

-- It is so of a pair of the unit.
pub so_pair : (places : Places) (values : Values) (o : Option ℕ) (p : ℕ) → IsSo places values o p
    → (n : ℕ) × (n < length values) × (places.pair n ≡ p)
so_pair places values none p g = (g.pair, g.below, g.place)
so_pair places values (some q) p g = (g.pair, g.below, g.place)

module _ (places : Places) (values : Values) (marks : ℕ) where
  pub new_none : (s : List ℕ) → NewGrounds places values marks s s
  new_none s o p e = inl e

  pub new_then : (s t u : List ℕ) → NewGrounds places values marks s t → NewGrounds places values marks t u → NewGrounds places values marks s u
  new_then s t u a b o p e = ⊎_elim (a o p) inr (b o p e)

  -- Where marks are the same, none is new.
  pub new_same : (s t : List ℕ) → ((p : ℕ) → get_or t (marks + p) 0 ≡ get_or s (marks + p) 0) → NewGrounds places values marks s t
  new_same s t same o p e = inl (subst (Tells o) (same p) e)

  pub grounds_on : (s t : List ℕ) → NewGrounds places values marks s t → Grounds places values marks s → Grounds places values marks t
  grounds_on s t new was o n h e = ⊎_elim (was o n h) (λ g. g) (new o (places.pair n) e)

  -- A pair that is marked as ground is so.
  pub marked_ground : ((i j : ℕ) → i < length values → j < length values → places.pair i ≡ places.pair j → i ≡ j)
      → (s : List ℕ) → Grounds places values marks s → (n : ℕ) → n < length values → get_or s (marks + places.pair n) 0 ≡ 1 → Ground values n
  marked_ground apart s all n h e =
      let g : GroundAt places values (places.pair n) = all none n h e in
      subst (Ground values) (apart g.pair n g.below h g.place) g.a_ground
