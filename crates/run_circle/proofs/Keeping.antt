-- What the state of a search says as it goes on: whether all that it met is ground, and from which pair it has come since.
use Prim.Native.Nat.{ℕ, ◌+◌, ◌*◌, ◌/◌, ◌<◌}
use mathlib.Core.Path.{◌≡◌, refl, subst}
use mathlib.Core.Bool.{Bool, true, false}
use mathlib.Core.Option.{Option}
use native.Mathlib.Decide.{dec_lt}
use native.Mathlib.Omega.{arith}
use Rattle.meaning.specs.Terms.{Term}
use Rattle.run_circle.specs.Search.{Scene, First, Keeps, begun_state, SinceIs}
use Rattle.run_circle.proofs.Walk.{Onward}

-- What the state says at the beginning, and after a pair that may not be ground.
pub keeps_first : (x : Scene) (b : Bool) (v : Option Term) → Keeps x (begun_state b) b v v
keeps_first x true v = record { firm = λ e. absurd (omega arith); since = λ p e. absurd (omega arith) }
keeps_first x false v = record { firm = λ e. (refl, λ f. f); since = λ p e. absurd (omega arith) }

pub keeps_open : (x : Scene) (state : ℕ) (b : Bool) (u v : Option Term) → state ≡ 1 → Keeps x state b u v
keeps_open x state b u v e = record { firm = λ f. absurd (omega arith); since = λ p f. absurd (omega arith) }

first_on : (x : Scene) (p : ℕ) (v now : Option Term) → Onward x v now → First x p v → First x p now
first_on x p v now on f = record { pair = f.pair; below = f.below; place = f.place; stems = on.stems f.pair f.stems }

-- The search goes on, on the same side.
pub keeps_on : (x : Scene) (first state : ℕ) (b : Bool) (u v now : Option Term) → state ≡ first → Onward x v now → Keeps x first b u v
    → Keeps x state b u now
keeps_on x first state b u v now e on k = record {
  firm = λ o. let (side, all) = k.firm (rw e at o) in (side, λ g. all (on.firm g));
  since = λ p o. let (side, f) = k.since p (rw e at o) in (side, first_on x p v now on f);
}

-- A pair of the unit is visited, and the search goes on from it.
pub since_keeps : (x : Scene) (state state' p : ℕ) (u v now : Option Term) → SinceIs state p state' → Onward x v now → First x p now
    → Keeps x state false u v → Keeps x state' false u now
since_keeps x state state' p u v now since on known k = go (dec_lt 1 state)
  where
    go : Dec (1 < state) → Keeps x state' false u now
    go (yes l) = keeps_on x state state' false u v now (since.kept l) on k
    go (no l) =
        let is : state' ≡ state + 2 * p + 2 = since.new (omega arith) in
        record {
          firm = λ o. (refl, λ f. (k.firm (omega arith)).1 (on.firm f));
          since = λ q o. (refl, subst (λ n. First x n now) (same is q o) known);
        }
      where
        same : state' ≡ state + 2 * p + 2 → (q : ℕ) → state' / 2 ≡ q + 1 → p ≡ q
        same is q o = omega arith
