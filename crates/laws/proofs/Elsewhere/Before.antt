-- A chain after a trial to a pair that was there before was a chain before it, or the goal had one.
-- A head's terms hold new pairs only, which had no value; and what the head's writers are given is found in the goal.
use Prim.Native.Nat.{ℕ, ◌≤◌, ◌<◌}
use mathlib.Core.Path.{◌≡◌, refl}
use mathlib.Core.Logic.{◌⊎◌, inl, inr, ⊎_elim}
use mathlib.Core.List.{List}
use mathlib.Core.Option.{some}
use native.Mathlib.Omega.{arith}
use lib.ListN.{length}
use Rattle.meaning.specs.Terms.{reader, Term, Terms, compound, end, more, Named, Clause, all_renamed, occurrences, all_occurrences}
use Rattle.meaning.specs.State.{Values, value, QueryUnit}
use Rattle.meaning.specs.Compare.{Assignment, succeeds, followed}
use Rattle.meaning.specs.Trial.{next_pair, compared, values_after}
use Rattle.laws.proofs.Lists.{In, each_in}
use Rattle.laws.proofs.Terms.{Beyond, AllBeyond, all_renamed_beyond, occurs_stands_in, Stands, StandsIn}
use Rattle.laws.proofs.Trial.{value_after_cases, assigned_below, EachArgument, each_pair, table_gives}
use Rattle.laws.proofs.Single.Chains.{Reaches, here, through, reaches_more, followed_reaches}

-- From terms of new pairs there is no chain to an old one.
pub beyond_reaches_none : (values : Values) (z : ℕ) (ts : Terms) → z < length values → AllBeyond (length values) ts → Reaches values z ts → ⊥
beyond_reaches_none values z ts old new (here m) = omega (arith, new z (occurs_stands_in ts reader z m))
beyond_reaches_none values z ts old new (through k q u m e further) =
    omega (arith, new q (occurs_stands_in ts k q m), assigned_below values q u e)

pub one_beyond : {n : ℕ} (t : Term) → Beyond n t → AllBeyond n (more t end)
unfolding StandsIn
one_beyond t new p (inl s) = new p s
one_beyond t new p (inr s) = absurd s

-- Whatever the arguments have a chain to, the whole has.
pub arguments_reach : (values : Values) (ts : Terms) (P : ℕ → Type 0) → ((z : ℕ) → Reaches values z ts → P z)
    → EachArgument (λ t. (z : ℕ) → Reaches values z (more t end) → P z) ts
unfolding EachArgument all_occurrences
arguments_reach values end P all = tt
arguments_reach values (more t ts) P all = (
  λ z r. all z (reaches_more (more t ts) (λ h n. omega arith) r),
  arguments_reach values ts P (λ z r. all z (reaches_more (more t ts) (λ h n. omega arith) r)),
)

module _ (clause : Clause) (unit : QueryUnit) (goal : Named) (given : List Assignment) (agree : compared clause unit goal ≡ succeeds given) where
  abbrev before : Values
  before = unit.values

  -- Found in the goal: what it has a chain to, the goal has.
  abbrev pub InGoal : Term → Type 0
  InGoal t = (z : ℕ) → Reaches unit.values z (more t end) → Reaches unit.values z goal.arguments

  -- A new pair is given what was found in the goal; any other is given a term of the head.
  abbrev pub Source : Assignment → Type 0
  Source a = ((length unit.values ≤ a.pair) × InGoal a.value) ⊎ Beyond (length unit.values) a.value

  pub given_source : (a : Assignment) → In a given → Source a
  unfolding Stands compared next_pair all_occurrences occurrences
  given_source a =
      each_in Source
      (table_gives (Beyond n) InGoal InGoal Source (followed n before)
      (λ m f us new. each_pair (λ p. n ≤ p) us new)
      (λ m f ts found. arguments_reach before ts (λ z. Reaches before z goal.arguments)
      (λ z r. found z (reaches_more (more (compound m f ts) end) (λ h k. omega arith) r)))
      (λ t found z r. found z (followed_reaches before z n t r))
      (λ x t new found. inl (new x refl, found))
      (λ z u found new. inr new)
      (all_renamed n unit.compounds clause.head.arguments) goal.arguments
      (each_pair (λ p. n ≤ p) (all_renamed n unit.compounds clause.head.arguments)
      (all_renamed_beyond clause.head.arguments n unit.compounds))
      (arguments_reach before goal.arguments (λ z. Reaches before z goal.arguments) (λ z r. r))
      given agree)
    where
      n : ℕ
      n = length before

  -- A chain to an old pair was there before, or the goal had one.
  pub reached_before : {z : ℕ} (ts : Terms) → z < length unit.values → Reaches (values_after clause given unit) z ts
      → Reaches unit.values z ts ⊎ Reaches unit.values z goal.arguments
  reached_before ts old (here m) = inl (here m)
  reached_before {z} ts old (through k q u m e further) = ⊎_elim (λ r. go r (value_after_cases clause given unit q u e)) inr (reached_before (more u end) old further)
    where
      go : Reaches before z (more u end) → ((a : Assignment) × In a given × (a.pair ≡ q) × (a.value ≡ u)) ⊎ (value before q ≡ some u)
          → Reaches before z ts ⊎ Reaches before z goal.arguments
      go r (inr f) = inl (through {ts = ts} k q u m f r)
      go r (inl (a, i, f, g)) =
          inr (⊎_elim (λ (_, found). found z (rw g r))
          (λ new. absurd (beyond_reaches_none before z (more u end) old (one_beyond u (λ p s. new p (rw g s))) r)) (given_source a i))
