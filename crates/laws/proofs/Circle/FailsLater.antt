-- A clause whose comparison failed fails in every later state, as long as the goal's own writers are unassigned.
-- Values stay and none is a writer; so each term of the goal is followed as far as before, and further only behind a reader.
use Prim.Native.Nat.{ℕ, zero, suc, ◌≤◌}
use mathlib.Core.Path.{◌≡◌, refl, sym, ap, subst, ◌∙◌}
use mathlib.Core.Bool.{false}
use mathlib.Core.List.{List}
use mathlib.Core.Option.{Option, none, some}
use native.Mathlib.Omega.{arith}
use lib.ListN.{length}
use Rattle.meaning.specs.Terms.{
  Half,
  writer,
  reader,
  Functor,
  Term,
  Terms,
  variable,
  constant,
  compound,
  end,
  more,
  Named,
  Clause,
  occurrences,
  all_occurrences,
}
use Rattle.meaning.specs.State.{Values, value, QueryUnit}
use Rattle.meaning.specs.Compare.{fails, followed}
use Rattle.meaning.specs.Circle.{circle}
use Rattle.meaning.specs.Trial.{compared, tested, guarded, trial}
use Rattle.laws.proofs.Lists.{differ}
use Rattle.laws.proofs.Terms.{occurs_itself}
use Rattle.laws.proofs.Trial.{EachArgument, FoundLater, places_fail_later}
use Rattle.laws.proofs.Circle.Following.{followed_within, followed_unassigned}

-- The terms hold the pair's writer, or a variable whose value does so in turn.
pub data HoldsWriter (values : Values) (z : ℕ) : Terms → Type 0 where
  itself : {ts : Terms} → 1 ≤ all_occurrences writer z ts → HoldsWriter values z ts
  through : {ts : Terms} (k : Half) (q : ℕ) (u : Term) → 1 ≤ all_occurrences k q ts → value values q ≡ some u → HoldsWriter values z (more u end)
      → HoldsWriter values z ts

pub holds_more : {values : Values} {z : ℕ} {ts : Terms} (us : Terms) → ((h : Half) (n : ℕ) → all_occurrences h n ts ≤ all_occurrences h n us)
    → HoldsWriter values z ts → HoldsWriter values z us
holds_more {z = z} us less (itself m) = itself {ts = us} (omega (arith, less writer z))
holds_more us less (through k q u m e further) = through {ts = us} k q u (omega (arith, less k q)) e further

-- It holds them with more values too.
pub holds_kept : {values : Values} (after : Values) {z : ℕ} {ts : Terms} → ((p : ℕ) (t : Term) → value values p ≡ some t → value after p ≡ some t)
    → HoldsWriter values z ts → HoldsWriter after z ts
holds_kept after stays (itself m) = itself m
holds_kept after stays (through k q u m e further) = through k q u m (stays q u e) (holds_kept after stays further)

-- What became of values: they stayed, no circle closed, and none of them is a writer.
pub record ValuesGrew (values after : Values) : Type 0 where
  pub no_circle : circle values ≡ false
  pub no_circle_after : circle after ≡ false
  pub stays : (p : ℕ) (t : Term) → value values p ≡ some t → value after p ≡ some t
  pub no_writer : (p q : ℕ) → value after p ≡ some (variable writer q) → ⊥

-- No writer that the terms hold was assigned since.
abbrev pub StillOpen : Values → Values → Terms → Type 0
StillOpen values after ts = (z : ℕ) → HoldsWriter values z ts → value values z ≡ none → value after z ≡ none

module _ (values after : Values) (grew : ValuesGrew values after) where
  abbrev look_later : Term → Term
  look_later = followed (length after) after

  passes_on : (h : Half) (q : ℕ) (t : Term) → value after q ≡ some t → look_later (variable h q) ≡ look_later t
  unfolding followed
  passes_on h q t e =
      let further : followed (suc (length after)) after (variable h q) ≡ look_later t = rw (followed, e) in
      sym (followed_within after grew.no_circle_after (suc (length after)) (omega arith) (variable h q)) ∙ further

  -- To follow a term now and the rest later is to follow it later.
  pub follows_on : (links : ℕ) (t : Term) → look_later (followed links values t) ≡ look_later t
  unfolding followed
  follows_on zero t = refl
  follows_on (suc links) (constant k) = refl
  follows_on (suc links) (compound n f ts) = refl
  follows_on (suc links) (variable h q) = go (value values q) refl (follows_on links)
    where
      go : (v : Option Term) → value values q ≡ v → ((t : Term) → look_later (followed links values t) ≡ look_later t)
          → look_later (followed (suc links) values (variable h q)) ≡ look_later (variable h q)
      go none e further = rw (followed, e)
      go (some t) e further = rw (followed, e) (further t ∙ sym (passes_on h q t (grew.stays q t e)))

  pub unassigned_itself : (links : ℕ) (h : Half) (p : ℕ) → value after p ≡ none → followed links after (variable h p) ≡ variable h p
  unfolding followed
  unassigned_itself zero h p e = refl
  unassigned_itself (suc links) h p e = rw (followed, e)

  constant_itself : (links : ℕ) (t : Term) → ((h : Half) (p : ℕ) → t ≡ variable h p → ⊥) → followed links after t ≡ t
  unfolding followed
  constant_itself zero t d = refl
  constant_itself (suc links) (variable h p) d = absurd (d h p refl)
  constant_itself (suc links) (constant k) d = refl
  constant_itself (suc links) (compound n f ts) d = refl

  no_writer_found : (links : ℕ) (t : Term) → ((q : ℕ) → t ≡ variable writer q → ⊥) → (q : ℕ) → followed links after t ≡ variable writer q → ⊥
  unfolding followed
  no_writer_found zero t d q e = d q e
  no_writer_found (suc links) (constant k) d q e = d q e
  no_writer_found (suc links) (compound n f ts) d q e = d q e
  no_writer_found (suc links) (variable h p) d q e = go (value after p) refl (no_writer_found links)
    where
      go : (v : Option Term) → value after p ≡ v
          → ((t : Term) → ((q : ℕ) → t ≡ variable writer q → ⊥) → (q : ℕ) → followed links after t ≡ variable writer q → ⊥)
          → ⊥
      go none f further = d q (rw (followed, f) at e)
      go (some t) f further = further t (λ r i. grew.no_writer p r (f ∙ ap some i)) q (rw (followed, f) at e)

  -- What the goal holds.
  abbrev pub Own : Term → Type 0
  Own t = StillOpen values after (more t end)

  pub own_found : (links : ℕ) (t : Term) → Own t → Own (followed links values t)
  unfolding followed all_occurrences
  own_found zero t own = own
  own_found (suc links) (constant k) own = own
  own_found (suc links) (compound n f ts) own = own
  own_found (suc links) (variable h q) own = go (value values q) refl (own_found links)
    where
      go : (v : Option Term) → value values q ≡ v → ((t : Term) → Own t → Own (followed links values t)) → Own (followed (suc links) values (variable h q))
      go none e further = rw (followed, e) own
      go (some t) e further =
          rw (followed, e)
          (further t (λ z held. own z (through {ts = more (variable h q) end} h q t (omega (arith, occurs_itself h q)) e held)))

  each_own : (ts : Terms) → StillOpen values after ts → EachArgument Own ts
  unfolding EachArgument all_occurrences
  each_own end own = tt
  each_own (more t ts) own = (
    λ z held. own z (holds_more (more t ts) (λ h n. omega arith) held),
    each_own ts (λ z held. own z (holds_more (more t ts) (λ h n. omega arith) held)),
  )

  own_inside : (n : ℕ) (f : Functor) (ts : Terms) → Own (compound n f ts) → EachArgument Own ts
  unfolding occurrences all_occurrences
  own_inside n f ts own = each_own ts (λ z held. own z (holds_more (more (compound n f ts) end) (λ h n. omega arith) held))

  pub found_again : (t : Term) → ((h : Half) (p : ℕ) → t ≡ variable h p → value values p ≡ none) → Own t → FoundLater t (look_later t)
  unfolding FoundLater all_occurrences
  found_again (variable writer z) unassigned own =
      unassigned_itself (length after) writer z
      (own z (itself {ts = more (variable writer z) end} (omega (arith, occurs_itself writer z))) (unassigned writer z refl))
  found_again (variable reader z) unassigned own = no_writer_found (length after) (variable reader z) (λ q e. differ (cc))
  found_again (constant k) unassigned own = constant_itself (length after) (constant k) (λ h p e. differ (cc))
  found_again (compound n f ts) unassigned own = constant_itself (length after) (compound n f ts) (λ h p e. differ (cc))

  found_later : (t : Term) → Own t → FoundLater (followed (length values) values t) (look_later t)
  found_later t own =
      subst (FoundLater (followed (length values) values t)) (follows_on (length values) t)
      (found_again (followed (length values) values t) (followed_unassigned values grew.no_circle t) (own_found (length values) t own))

-- A comparison that failed fails later too, and so does the trial: as long as no writer that the goal holds is assigned, which only its own
-- reduction does.
module _ (clause : Clause) (unit later : QueryUnit) (goal : Named) (grew : ValuesGrew unit.values later.values)
    (own : StillOpen unit.values later.values goal.arguments) where
  pub compared_fails_later : compared clause unit goal ≡ fails → compared clause later goal ≡ fails
  unfolding compared
  compared_fails_later =
      places_fail_later (Own unit.values later.values grew) (Own unit.values later.values grew) _ _
      (own_inside unit.values later.values grew)
      (own_found unit.values later.values grew (length unit.values))
      (found_later unit.values later.values grew)
      _ _ _ _ clause.head.arguments goal.arguments (each_own unit.values later.values grew goal.arguments own)

  pub trial_fails_later_by_a_place : compared clause unit goal ≡ fails → (earlier : List ℕ) → trial earlier clause later goal ≡ fails
  unfolding trial tested guarded
  trial_fails_later_by_a_place e earlier = ap (λ r. guarded earlier clause later (tested clause later r)) (compared_fails_later e)
