-- What `assign_goal` and `add_goals` ask of `copy` and `copy_arguments` and tell, turn by turn, in the form of their contracts.
use Prim.Native.Nat.{ℕ, ◌+◌, ◌≤◌, ◌<◌}
use mathlib.Core.Path.{◌≡◌, ◌∙◌}
use mathlib.Core.List.{List}
use native.Mathlib.Omega.{arith}
use lib.ListN.{length, get_or}
use Rattle.meaning.specs.Terms.{Named, named}
use Rattle.term.specs.Cells.{Places}
use Rattle.term.specs.Layout.{gift_pair, gift_term}
use Rattle.term.specs.Words.{packed, rest_in}
use Rattle.run_compare.specs.Gifts.{Entry}
use Rattle.run_effects.specs.Build.{Item, Aside}
use Rattle.run_queues.specs.Ring.{RingOk, Pushed}
use Rattle.run_effects.specs.Reducing.{Assigning, GoalAssigned, Adding, Added}
use Rattle.run_effects.proofs.CopyCalls.{AsksTerm, TellsTerm, AsksCompound, TellsCompound}
use Rattle.run_effects.proofs.Assigned as assigned
use Rattle.run_effects.proofs.Added as added

-- Entries that are assigned, i of them so far.
abbrev pub AsksEntries : List ℕ → ℕ → ℕ → ℕ → ℕ → Type 0
AsksEntries s values pair to n =
    (x : Item) × (unit : Places) × (bound : ℕ) × (list : List Entry) × Assigning s x unit values bound pair to n list

abbrev pub Assigns : List ℕ → ℕ → ℕ → ℕ → ℕ → List ℕ → ℕ → ℕ → Type 0
Assigns s₀ values pair to n s free i =
    (x : Item) (unit : Places) (bound : ℕ) (list : List Entry) → Assigning s₀ x unit values bound pair to n list
    → (rest : List Entry) × assigned.Partly s₀ s x unit values bound pair to n list i free rest

module _ (s₀ : List ℕ) (values pair to n : ℕ) where
  pub assigns_none : Assigns s₀ values pair to n s₀ to 0
  assigns_none x unit bound list a = (list, assigned.none_assigned s₀ x unit values bound pair to n list a)

  module _ (s : List ℕ) (free i : ℕ) (walk : Assigns s₀ values pair to n s free i) where
    pub assigns_size : AsksEntries s₀ values pair to n → (length s ≡ length s₀) × (n ≤ 192)
    assigns_size (x, unit, bound, list, a) = let (rest, g) = walk x unit bound list a in (g.kept.size, a.few)

    pub assigns_inside : AsksEntries s₀ values pair to n → i < n → gift_term i < length s
    assigns_inside (x, unit, bound, list, a) h =
        let (rest, g) = walk x unit bound list a in
        assigned.inside s₀ x unit values bound pair to n list a s i free rest g h

    pub assigns_asks : AsksEntries s₀ values pair to n → i < n → (h z : ℕ) → z ≡ get_or s (gift_pair i) 0 → h ≡ get_or s (gift_term i) 0
        → AsksTerm s pair (values + z) free h
    assigns_asks (x, unit, bound, list, a) less h z place read =
        let (rest, g) = walk x unit bound list a in
        let (e, others, is, at, b, aside) = assigned.next_entry s₀ x unit values bound pair to n list a s i free rest g less in
        let where_it_is : z ≡ unit.pair e.pair = place ∙ at in
        let aside' : Aside s (values + z) free e.term = rw where_it_is aside in
        (x, e.term, rw read b, aside')

    pub assigns_place : AsksEntries s₀ values pair to n → i < n → (z : ℕ) → z ≡ get_or s (gift_pair i) 0 → values + z < length s
    assigns_place (x, unit, bound, list, a) less z read =
        let (rest, g) = walk x unit bound list a in
        let (e, others, is, at, b, aside) = assigned.next_entry s₀ x unit values bound pair to n list a s i free rest g less in
        omega (arith, aside.inside)

    pub assigns_on : i < n → (s₁ : List ℕ) (r h z : ℕ) → z ≡ get_or s (gift_pair i) 0 → h ≡ get_or s (gift_term i) 0
        → TellsTerm s pair (values + z) free h s₁ r → Assigns s₀ values pair to n s₁ r (i + 1)
    assigns_on less s₁ r h z place read told x unit bound list a =
        let (rest, g) = walk x unit bound list a in
        assigned.again s₀ x unit values bound pair to n list a s i free rest g less s₁ r h z place read told

    pub assigns_all : n ≤ i → (x : Item) (unit : Places) (bound : ℕ) (list : List Entry) → Assigning s₀ x unit values bound pair to n list
        → GoalAssigned s₀ s x unit values bound pair to list free
    assigns_all done x unit bound list a =
        let (rest, g) = walk x unit bound list a in
        assigned.all_assigned s₀ x unit values bound pair to n list a s i free rest g done

-- Goals that join the queue, i of them so far.
module _ (s₀ : List ℕ) (from n pair to mark queue size front active : ℕ) where
  abbrev pub AsksGoals : Type 0
  AsksGoals = (x : Item) × (goals : List Named) × Adding s₀ x from n pair to mark queue size front active goals

  abbrev pub Adds : List ℕ → ℕ → ℕ → Type 0
  Adds s free i =
      (x : Item) (goals : List Named) → Adding s₀ x from n pair to mark queue size front active goals
      → (rest : List Named) × added.Partly s₀ s x from n pair to mark queue size front active goals i free rest

  pub adds_none : Adds s₀ to 0
  adds_none x goals a = (goals, added.none_added s₀ x from n pair to mark queue size front active goals a)

  -- How many there may be.
  pub adds_few : AsksGoals → (mark ≤ 4503599627370496) × (active + n ≤ size) × (queue + size ≤ length s₀)
  adds_few (x, goals, a) = (a.few, a.space, a.ring_ok.inside)

  module _ (s : List ℕ) (free i : ℕ) (walk : Adds s free i) where
    pub adds_size : AsksGoals → length s ≡ length s₀
    adds_size (x, goals, a) = let (rest, g) = walk x goals a in g.kept.size

    pub adds_inside : AsksGoals → i < n → (from + i < length s) × (free ≤ length s)
    adds_inside (x, goals, a) less =
        let (rest, g) = walk x goals a in
        added.inside s₀ x from n pair to mark queue size front active goals a s i free rest g less

    pub adds_ring : AsksGoals → RingOk s queue size front
    adds_ring (x, goals, a) =
        let (rest, g) = walk x goals a in
        record { inside = omega (arith, a.ring_ok.inside, g.kept.size); front_inside = a.ring_ok.front_inside }

    module _ (less : i < n) (s₁ : List ℕ) (v : ℕ) (is : v ≡ packed mark free) (pushed : Pushed s s₁ queue size front (active + i) v)
        (q : ℕ) (read : q ≡ rest_in (get_or s (from + i) 0)) where
      pub adds_asks : AsksGoals → AsksCompound s₁ pair free q
      adds_asks (x, goals, a) =
          let (rest, g) = walk x goals a in
          let (d, others, same, b) =
          added.next_goal s₀ x from n pair to mark queue size front active goals a s i free rest g less s₁ v pushed q read in
          (x, d.number, named d.name, d.arguments, b)

      pub adds_on : (s₂ : List ℕ) (r : ℕ) → TellsCompound s₁ pair free q s₂ r → Adds s₂ r (i + 1)
      adds_on s₂ r told x goals a =
          let (rest, g) = walk x goals a in
          added.again s₀ x from n pair to mark queue size front active goals a s i free rest g less s₁ v is pushed q read s₂ r told

    pub adds_all : n ≤ i → (x : Item) (goals : List Named) → Adding s₀ x from n pair to mark queue size front active goals
        → Added s₀ s x n pair to mark queue size front active goals free
    adds_all done x goals a =
        let (rest, g) = walk x goals a in
        added.all_added s₀ x from n pair to mark queue size front active goals a s i free rest g done
