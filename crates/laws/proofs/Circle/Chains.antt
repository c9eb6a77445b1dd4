-- Where there is no circle, a chain of assigned pairs, each of which leans on the next, ends within as many pairs as there are.
-- The pairs that a chain has met lean on the pair where it stands; without a circle that one is new, and new pairs run out.
use Prim.Native.Nat.{ℕ, zero, suc, ◌+◌, ◌≤◌, ◌<◌}
use mathlib.Core.Path.{◌≡◌, refl}
use mathlib.Core.Logic.{⊎_elim}
use mathlib.Core.Bool.{false}
use mathlib.Core.List.{List, [], ◌∷◌}
use mathlib.Core.Option.{Option, none, some}
use native.Mathlib.Omega.{arith}
use lib.ListN.{length}
use Rattle.meaning.specs.Terms.{Term}
use Rattle.meaning.specs.State.{Values, value}
use Rattle.meaning.specs.Circle.{circle}
use Rattle.laws.proofs.Lists.{Distinct, In, in_cons_cases, in_none, pigeonhole}
use Rattle.laws.proofs.Terms.{Stands}
use Rattle.laws.proofs.Trial.{assigned_below}
use Rattle.laws.proofs.Circle.Leaning.{Leans, Links, one, links_join}
use Rattle.laws.proofs.Circle.Search.{no_circle_says}

-- Every chain of assigned pairs from pair p, each of which leans on the next, ends within n pairs.
unfoldable pub EndsWithin : ℕ → Values → ℕ → Type 0
EndsWithin zero values p = value values p ≡ none
EndsWithin (suc n) values p = (t : Term) → value values p ≡ some t → (q : ℕ) → Stands q t → EndsWithin n values q

-- The same from every pair of a term.
abbrev pub AllEndWithin : ℕ → Values → Term → Type 0
AllEndWithin n values t = (p : ℕ) → Stands p t → EndsWithin n values p

module _ (values : Values) (no_circle : circle values ≡ false) where
  -- A pair that those met lean on is none of them.
  new_pair : (met : List ℕ) (p : ℕ) → ((m : ℕ) → In m met → Links values m p) → In p met → ⊥
  new_pair met p lean q = (no_circle_says values).0 no_circle p (lean p q)

  met_below : (met : List ℕ) (p : ℕ) (t : Term) → value values p ≡ some t → ((m : ℕ) → In m met → m < length values)
      → (m : ℕ) → In m (p ∷ met) → m < length values
  met_below met p t e below m q = ⊎_elim (λ f. rw f (assigned_below values p t e)) (below m) (in_cons_cases q)

  met_lean : (met : List ℕ) (p q : ℕ) → Leans values p q → ((m : ℕ) → In m met → Links values m p)
      → (m : ℕ) → In m (p ∷ met) → Links values m q
  met_lean met p q l lean m r = ⊎_elim (λ f. rw f (one l)) (λ r'. links_join (lean m r') (one l)) (in_cons_cases r)

  chain_ends : (n : ℕ) (met : List ℕ) → n + length met ≡ length values → Distinct met
      → ((m : ℕ) → In m met → m < length values)
      → (p : ℕ) → ((m : ℕ) → In m met → Links values m p) → EndsWithin n values p
  unfolding EndsWithin Distinct Leans
  chain_ends zero met all d below p lean = go (value values p) refl
    where
      go : (v : Option Term) → value values p ≡ v → value values p ≡ none
      go none e = e
      go (some t) e =
          let few : suc (length met) ≤ length values =
          pigeonhole (length values) (p ∷ met) (new_pair met p lean, d) (met_below met p t e below) in
          absurd (omega arith)
  chain_ends (suc n) met all d below p lean =
      λ t e q s. chain_ends n (p ∷ met) (omega arith) (new_pair met p lean, d) (met_below met p t e below) q (met_lean met p q (t, e, s) lean)

  -- Without a circle every chain ends within the number of pairs.
  pub chains_end : (p : ℕ) → EndsWithin (length values) values p
  unfolding Distinct
  chains_end p = chain_ends (length values) [] (omega arith) tt (λ m q. absurd (in_none q)) p (λ m q. absurd (in_none q))
