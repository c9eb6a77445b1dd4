-- A goal waits on a reader that it holds, or that a value holds which it reaches through assigned variables: a chain from the goal to the pair.
-- A chain is a flow from the goal to that reader; so two goals have no chains to one pair.
use Prim.Native.Nat.{ℕ, zero, suc, ◌+◌, ◌≤◌, ◌<◌}
use mathlib.Core.Path.{◌≡◌, refl}
use mathlib.Core.Bool.{Bool, true, false, ◌&&◌}
use mathlib.Core.List.{List, [], ◌∷◌}
use mathlib.Core.Option.{Option, none, some}
use native.Mathlib.Omega.{arith}
use lib.Dec.{leb, eqb}
use lib.ListN.{length}
use borrow.Author.Tests.{leb-true, leb-false, eqb-true, eqb-false}
use Rattle.meaning.specs.Bytes.{when◌then◌else◌}
use Rattle.meaning.specs.Terms.{
  Half,
  writer,
  reader,
  Term,
  Terms,
  variable,
  constant,
  compound,
  end,
  more,
  Named,
  Guard,
  Clause,
  count,
  same_constant,
  same_functor,
  same_half,
  occurrences,
  all_occurrences,
  replaced,
  all_replaced,
}
use Rattle.meaning.specs.State.{Values, value, applied, QueryUnit}
use Rattle.meaning.specs.Compare.{Assignment, succeeds, waits, followed, gives, waits_on, place, places}
use Rattle.meaning.specs.Circle.{circle}
use Rattle.meaning.specs.Guards.{given_to, written_out, answer, in_order}
use Rattle.meaning.specs.Trial.{next_pair, compared, joins_waiting, choice}
use Rattle.laws.proofs.Lists.{differ, In, Each, each_in, each_append, each_implies, not_beyond}
use Rattle.laws.proofs.Terms.{occurs_itself, occurs_in_other, occurs_stands}
use Rattle.laws.proofs.Trial.{
  waits_on_each,
  Waits,
  by_head,
  by_guard,
  EachArgument,
  table_gives,
  value_beyond,
  fails_not_waits,
  succeeds_not_waits,
  behind_test,
  Either,
  the_one,
  the_other,
  the_two,
  either,
  EachWaited,
  waited_first_of,
  answer_held,
}
use Rattle.laws.proofs.Circle.{followed_unassigned, applied_unassigned}
use Rattle.laws.proofs.Single.Closed.{first_in, later_in}
use Rattle.laws.proofs.Single.LiveValues.{in_term, in_terms, Flows, flows_to_less, flows_then, occurs_within, link}

-- The terms hold the pair's reader, or a variable whose value does so in turn.
pub data Reaches (values : Values) (p : ℕ) : Terms → Type 0 where
  here : {ts : Terms} → 1 ≤ all_occurrences reader p ts → Reaches values p ts
  through : {ts : Terms} (k : Half) (q : ℕ) (u : Term) → 1 ≤ all_occurrences k q ts → value values q ≡ some u → Reaches values p (more u end)
      → Reaches values p ts

-- A chain stays one from terms that hold more, and with more values.
pub reaches_more : {values : Values} {p : ℕ} {ts : Terms} (us : Terms) → ((h : Half) (n : ℕ) → all_occurrences h n ts ≤ all_occurrences h n us)
    → Reaches values p ts → Reaches values p us
reaches_more {p} us less (here m) = here {ts = us} (omega (arith, less reader p))
reaches_more us less (through k q u m e further) = through {ts = us} k q u (omega (arith, less k q)) e further

pub reaches_kept : {values : Values} (after : Values) {p : ℕ} {ts : Terms} → ((n : ℕ) (t : Term) → value values n ≡ some t → value after n ≡ some t)
    → Reaches values p ts → Reaches after p ts
reaches_kept after kept (here m) = here m
reaches_kept after kept (through k q u m e further) = through k q u m (kept q u e) (reaches_kept after kept further)

-- A chain to a pair's reader goes on to what its value reaches.
pub reaches_then : {values : Values} {z x : ℕ} (ts : Terms) (u : Term) → Reaches values z ts → value values z ≡ some u → Reaches values x (more u end)
    → Reaches values x ts
reaches_then {z} ts u (here m) e further = through {ts = ts} reader z u m e further
reaches_then ts u (through k q v m f chain) e further = through {ts = ts} k q v m f (reaches_then (more v end) u chain e further)

-- To a reader that no value holds a chain has no links.
pub reaches_unheld : {values : Values} {x : ℕ} → ((q : ℕ) (u : Term) → value values q ≡ some u → occurrences reader x u ≡ 0)
    → (ts : Terms) → Reaches values x ts → 1 ≤ all_occurrences reader x ts
unfolding all_occurrences
reaches_unheld unheld ts (here m) = m
reaches_unheld unheld ts (through k q u m e further) = absurd (omega (arith, unheld q u e, reaches_unheld unheld (more u end) further))

-- What a chain reaches is in range where all that it passes is.
pub reaches_inside : {values : Values} {p : ℕ} {ts : Terms} (pairs : ℕ) → ((h : Half) (n : ℕ) → pairs ≤ n → all_occurrences h n ts ≡ 0)
    → ((q : ℕ) (u : Term) → value values q ≡ some u → (h : Half) (n : ℕ) → pairs ≤ n → occurrences h n u ≡ 0)
    → Reaches values p ts → p < pairs
unfolding all_occurrences
reaches_inside {p} pairs inside values_inside (here m) = not_beyond p pairs (λ e. omega (arith, inside reader p e))
reaches_inside pairs inside values_inside (through k q u m e further) =
    reaches_inside pairs (λ h n i. omega (arith, values_inside q u e h n i)) values_inside further

-- A chain is a flow to the reader at its end.
pub chain_flows : (values : Values) {p : ℕ} {ts : Terms} → Reaches values p ts
    → Flows values (in_terms ts) (in_term (variable reader p))
unfolding all_occurrences
chain_flows values {p} {ts} (here m) = flows_to_less (occurs_within (in_terms ts) reader p m)
chain_flows values {p} {ts} (through k q u m e further) =
    flows_then (link values (in_terms ts) k q u e m)
    (flows_then (flows_to_less (λ h n. omega arith)) (chain_flows values further))

module _ (values : Values) where
  pub followed_reaches : (p : ℕ) (links : ℕ) (t : Term) → Reaches values p (more (followed links values t) end) → Reaches values p (more t end)
  unfolding followed all_occurrences
  followed_reaches p zero t r = r
  followed_reaches p (suc links) (constant k) r = r
  followed_reaches p (suc links) (compound m f ts) r = r
  followed_reaches p (suc links) (variable k q) r = go (value values q) refl (λ u. followed_reaches p links u)
    where
      go : (o : Option Term) → value values q ≡ o
          → ((u : Term) → Reaches values p (more (followed links values u) end) → Reaches values p (more u end))
          → Reaches values p (more (variable k q) end)
      go none e further = rw (followed, e) at r
      go (some u) e further =
          through {ts = more (variable k q) end} k q u (omega (arith, occurs_itself k q)) e (further u (rw (followed, e) at r))

  -- A reader on which a trial may wait: it is reached, and has no value.
  abbrev pub Waited : Terms → ℕ → Type 0
  Waited ts p = Reaches values p ts × (value values p ≡ none)

  waited_more : (ts us : Terms) → ((h : Half) (n : ℕ) → all_occurrences h n ts ≤ all_occurrences h n us)
      → (readers : List ℕ) → Each (Waited ts) readers → Each (Waited us) readers
  waited_more ts us less readers = each_implies (Waited ts) (Waited us) (λ p (r, e). (reaches_more us less r, e)) readers

  module _ (no_circle : circle values ≡ false) where
    abbrev look : Term → Term
    look = followed (length values) values

    -- A row that waits.
    waiting_row : (z : ℕ) (readers : List ℕ) → value values z ≡ none → waits_on z ≡ waits readers
        → Each (Waited (more (variable reader z) end)) readers
    unfolding waits_on all_occurrences
    waiting_row z readers unassigned e =
        let only : readers ≡ z ∷ [] = cc in
        rw only ((here {ts = more (variable reader z) end} (omega (arith, occurs_itself reader z)), unassigned), tt)

    mutual
      unfolding place places occurrences all_occurrences gives

      place_reaches : (u t : Term) (readers : List ℕ) → ((h : Half) (p : ℕ) → t ≡ variable h p → value values p ≡ none) → place look u t ≡ waits readers
          → Each (Waited (more t end)) readers
      place_reaches (variable writer x) (variable writer z) readers found e = absurd (fails_not_waits e)
      place_reaches (variable writer x) (variable reader z) readers found e = absurd (succeeds_not_waits e)
      place_reaches (variable writer x) (constant k) readers found e = absurd (succeeds_not_waits e)
      place_reaches (variable writer x) (compound m f ts) readers found e = absurd (succeeds_not_waits e)
      place_reaches (variable reader x) (variable writer z) readers found e = absurd (succeeds_not_waits e)
      place_reaches (variable reader x) (variable reader z) readers found e = absurd (fails_not_waits e)
      place_reaches (variable reader x) (constant k) readers found e = absurd (fails_not_waits e)
      place_reaches (variable reader x) (compound m f ts) readers found e = absurd (fails_not_waits e)
      place_reaches (constant c) (variable writer z) readers found e = absurd (succeeds_not_waits e)
      place_reaches (constant c) (variable reader z) readers found e = waiting_row z readers (found reader z refl) e
      place_reaches (constant c) (constant k) readers found e =
          absurd (succeeds_not_waits (behind_test (succeeds []) (waits readers) fails_not_waits (same_constant c k) e))
      place_reaches (constant c) (compound m f ts) readers found e = absurd (fails_not_waits e)
      place_reaches (compound l g us) (variable writer z) readers found e = absurd (succeeds_not_waits e)
      place_reaches (compound l g us) (variable reader z) readers found e = waiting_row z readers (found reader z refl) e
      place_reaches (compound l g us) (constant k) readers found e = absurd (fails_not_waits e)
      place_reaches (compound l g us) (compound m f ts) readers found e =
          waited_more ts (more (compound m f ts) end) (λ h n. omega arith) readers
          (places_reach us ts readers
          (behind_test (places look us ts) (waits readers) fails_not_waits (same_functor g f && eqb (count us) (count ts)) e))

      pub places_reach : (us ts : Terms) (readers : List ℕ) → places look us ts ≡ waits readers → Each (Waited ts) readers
      places_reach end end readers e = absurd (succeeds_not_waits e)
      places_reach end (more t ts) readers e = absurd (fails_not_waits e)
      places_reach (more u us) end readers e = absurd (fails_not_waits e)
      places_reach (more u us) (more t ts) readers e =
          go (either (place look u (look t)) (places look us ts) readers e)
          (λ rs i. each_implies (Waited (more (look t) end)) (Waited (more t end)) (λ p (r, e). (followed_reaches p (length values) t r, e)) rs
          (place_reaches u (look t) rs (λ h p. followed_unassigned values no_circle t h p) i))
          (λ rs i. places_reach us ts rs i)
        where
          go : Either (place look u (look t)) (places look us ts) readers
              → ((rs : List ℕ) → place look u (look t) ≡ waits rs → Each (Waited (more t end)) rs)
              → ((rs : List ℕ) → places look us ts ≡ waits rs → Each (Waited ts) rs)
              → Each (Waited (more t ts)) readers
          go (the_one i) one other = waited_more (more t end) (more t ts) (λ h n. omega arith) readers (one readers i)
          go (the_other i) one other = waited_more ts (more t ts) (λ h n. omega arith) readers (other readers i)
          go (the_two first others i j together) one other =
              rw together
              (each_append (Waited (more t ts)) first others
              (waited_more (more t end) (more t ts) (λ h n. omega arith) first (one first i))
              (waited_more ts (more t ts) (λ h n. omega arith) others (other others j)))

-- A half that stands in replaced terms stands in what some variable was replaced by.
module _ (by : Half → ℕ → Term) (p : ℕ) where
  abbrev Source : Terms → Type 0
  Source ts = (k : Half) × (q : ℕ) × (1 ≤ all_occurrences k q ts) × (1 ≤ occurrences reader p (by k q))

  mutual
    unfolding replaced all_replaced occurrences all_occurrences

    replaced_source : (t : Term) → 1 ≤ occurrences reader p (replaced by t) → Source (more t end)
    replaced_source (variable k q) m = (k, q, omega (arith, occurs_itself k q), m)
    replaced_source (constant k) m = absurd (omega arith)
    replaced_source (compound l f ts) m = let (k, q, at, inside) = all_replaced_source ts m in (k, q, omega arith, inside)

    all_replaced_source : (ts : Terms) → 1 ≤ all_occurrences reader p (all_replaced by ts) → Source ts
    all_replaced_source end m = absurd (omega arith)
    all_replaced_source (more t ts) m =
        go (leb 1 (occurrences reader p (replaced by t))) refl (λ i. replaced_source t i) (λ i. all_replaced_source ts i)
      where
        go : (b : Bool) → leb 1 (occurrences reader p (replaced by t)) ≡ b
            → (1 ≤ occurrences reader p (replaced by t) → Source (more t end)) → (1 ≤ all_occurrences reader p (all_replaced by ts) → Source ts)
            → Source (more t ts)
        go true e one others = let (k, q, at, inside) = one (leb-true 1 (occurrences reader p (replaced by t)) e) in (k, q, omega arith, inside)
        go false e one others = let (k, q, at, inside) = others (omega (arith, leb-false 1 (occurrences reader p (replaced by t)) e)) in (k, q, omega arith, inside)

-- A reader that stands in a term written out is reached from it.
pub applied_reaches : (values : Values) (links p : ℕ) (t : Term) → 1 ≤ occurrences reader p (applied links values t) → Reaches values p (more t end)
unfolding applied all_occurrences
applied_reaches values zero p t m = here {ts = more t end} (omega arith)
applied_reaches values (suc links) p t m =
    let (k, q, at, inside) = replaced_source (λ h p. elim (value values p) [ none ↦ variable h p | some u ↦ applied links values u ]) p t m in
    go k q at inside (value values q) refl (λ u. applied_reaches values links p u)
  where
    go : (k : Half) (q : ℕ) → 1 ≤ all_occurrences k q (more t end)
        → 1 ≤ occurrences reader p (elim (value values q) [ none ↦ variable k q | some u ↦ applied links values u ])
        → (o : Option Term) → value values q ≡ o
        → ((u : Term) → 1 ≤ occurrences reader p (applied links values u) → Reaches values p (more u end))
        → Reaches values p (more t end)
    go k q at inside none e further =
        let its : 1 ≤ occurrences reader p (variable k q) = rw e at inside in
        here {ts = more t end} (omega (arith, occurs_within (in_terms (more t end)) k q at reader p))
    go k q at inside (some u) e further = through {ts = more t end} k q u at e (further u (rw e at inside))

-- What a chain is followed to is in range where all that it passes is.
followed_inside : (values : Values) → ((q : ℕ) (u : Term) → value values q ≡ some u → (h : Half) (n : ℕ) → length values ≤ n → occurrences h n u ≡ 0)
    → (links : ℕ) (t : Term) → ((h : Half) (n : ℕ) → length values ≤ n → occurrences h n t ≡ 0)
    → (h : Half) (n : ℕ) → length values ≤ n → occurrences h n (followed links values t) ≡ 0
unfolding followed
followed_inside values inside zero t below = below
followed_inside values inside (suc links) (constant k) below = below
followed_inside values inside (suc links) (compound m f ts) below = below
followed_inside values inside (suc links) (variable k q) below = go (value values q) refl (λ u. followed_inside values inside links u)
  where
    go : (o : Option Term) → value values q ≡ o
        → ((u : Term) → ((h : Half) (n : ℕ) → length values ≤ n → occurrences h n u ≡ 0)
        → (h : Half) (n : ℕ) → length values ≤ n → occurrences h n (followed links values u) ≡ 0)
        → (h : Half) (n : ℕ) → length values ≤ n → occurrences h n (followed (suc links) values (variable k q)) ≡ 0
    go none e further = rw (e, followed) below
    go (some u) e further = rw (e, followed) (further u (inside q u e))

-- From a new pair that was given nothing no reader is reached.
nothing_reached : (values : Values) (p x : ℕ) → length values ≤ x → Reaches values p (more (variable writer x) end) → ⊥
unfolding all_occurrences occurrences same_half when◌then◌else◌
nothing_reached values p x past (here m) = omega arith
nothing_reached values p x past (through k q u m e further) = go (eqb q x) refl
  where
    go : (b : Bool) → eqb q x ≡ b → ⊥
    go true f =
        let same : q ≡ x = eqb-true q x f in
        let unassigned : value values q ≡ none = rw same (value_beyond values x past) in
        differ (cc)
    go false f = omega (arith, occurs_in_other k writer q x (eqb-false q x f))

given_reached : (values : Values) (p : ℕ) (given : List Assignment) (x : ℕ) → length values ≤ x → Reaches values p (more (given_to given x) end)
    → (a : Assignment) × In a given × (a.pair ≡ x) × Reaches values p (more a.value end)
unfolding given_to
given_reached values p [] x past r = absurd (nothing_reached values p x past r)
given_reached values p (a ∷ given) x past r = go (eqb a.pair x) refl (given_reached values p given x past)
  where
    go : (b : Bool) → eqb a.pair x ≡ b
        → (Reaches values p (more (given_to given x) end) → (c : Assignment) × In c given × (c.pair ≡ x) × Reaches values p (more c.value end))
        → (c : Assignment) × In c (a ∷ given) × (c.pair ≡ x) × Reaches values p (more c.value end)
    go true f further = (a, first_in a given, eqb-true a.pair x f, rw (given_to, f) at r)
    go false f further = let (c, m, q, i) = further (rw (given_to, f) at r) in (c, later_in a m, q, i)

each_argument : (P : Term → Type 0) (ts : Terms) → ((t : Term) → ((h : Half) (n : ℕ) → occurrences h n t ≤ all_occurrences h n ts) → P t) → EachArgument P ts
unfolding EachArgument all_occurrences
each_argument P end all = tt
each_argument P (more t ts) all = (all t (λ h n. omega arith), each_argument P ts (λ u less. all u (λ h n. omega (arith, less h n))))

module _ (unit : QueryUnit) (goal : Named) (no_circle : circle unit.values ≡ false)
    (goal_inside : (h : Half) (n : ℕ) → length unit.values ≤ n → all_occurrences h n goal.arguments ≡ 0)
    (values_inside : (q : ℕ) (u : Term) → value unit.values q ≡ some u → (h : Half) (n : ℕ) → length unit.values ≤ n → occurrences h n u ≡ 0) where
  -- A term of the goal, or found from it: what is reached from it is reached from the goal, and it is in range.
  record Part (t : Term) : Type 0 where
    reached : (p : ℕ) → Reaches unit.values p (more t end) → Reaches unit.values p goal.arguments
    inside : (h : Half) (n : ℕ) → length unit.values ≤ n → occurrences h n t ≡ 0

  -- What is reached from what the head gave a new pair is reached from the goal.
  given_parts : (clause : Clause) (given : List Assignment) → compared clause unit goal ≡ succeeds given
      → Each (λ a. length unit.values ≤ a.pair → (p : ℕ) → Reaches unit.values p (more a.value end) → Reaches unit.values p goal.arguments) given
  unfolding compared occurrences all_occurrences same_half when◌then◌else◌
  given_parts clause given agree =
      table_gives (λ u. Unit {0}) Part Part
      (λ a. length unit.values ≤ a.pair → (p : ℕ) → Reaches unit.values p (more a.value end) → Reaches unit.values p goal.arguments)
      (followed (length unit.values) unit.values)
      (λ m f us h. each_argument (λ u. Unit {0}) us (λ t less. tt))
      (λ m f ts found. each_argument Part ts (λ t less. record {
        reached = λ p r. found.reached p (reaches_more (more (compound m f ts) end) (λ h n. omega (arith, less h n)) r);
        inside = λ h n past. omega (arith, less h n, found.inside h n past);
      }))
      (λ t part. record {
        reached = λ p r. part.reached p (followed_reaches unit.values p (length unit.values) t r);
        inside = followed_inside unit.values values_inside (length unit.values) t part.inside;
      })
      (λ x t head found past p r. found.reached p r)
      (λ z u found head past p r. absurd (omega (arith, found.inside writer z past, occurs_itself writer z)))
      _ goal.arguments
      (each_argument (λ u. Unit {0}) _ (λ t less. tt))
      (each_argument Part goal.arguments (λ t less. record {
        reached = λ p r. reaches_more goal.arguments (λ h n. omega (arith, less h n)) r;
        inside = λ h n past. omega (arith, less h n, goal_inside h n past);
      }))
      given agree

  head_reach : (clause : Clause) (readers : List ℕ) → compared clause unit goal ≡ waits readers → Each (Waited unit.values goal.arguments) readers
  unfolding compared
  head_reach clause readers e = places_reach unit.values no_circle _ goal.arguments readers e

  -- A reader that stands in a guard's argument, written out, is reached from the goal, and has no value.
  waited_in : (clause : Clause) (given : List Assignment) → compared clause unit goal ≡ succeeds given → (ts : Terms) (p : ℕ)
      → 1 ≤ all_occurrences reader p (written_out given unit.values (next_pair unit) ts) → Waited unit.values goal.arguments p
  unfolding written_out next_pair
  waited_in clause given agree ts p m =
      let values = unit.values in
      let (k, x, at, inside) = all_replaced_source (λ h x. applied (length values) values (given_to given (length values + x))) p ts m in
      let r = applied_reaches values (length values) p (given_to given (length values + x)) inside in
      let (a, member, same, reached) = given_reached values p given (length values + x) (omega arith) r in (
        each_in _ (given_parts clause given agree) member (omega (arith, same)) p reached,
        applied_unassigned values no_circle (given_to given (length values + x)) p (occurs_stands _ reader p inside),
      )

  -- The readers on which a guard waits.
  guards_reach : (clause : Clause) (given : List Assignment) → compared clause unit goal ≡ succeeds given → (earlier : List ℕ) (guards : List Guard)
      → EachWaited (Waited unit.values goal.arguments) (in_order earlier given unit.values (next_pair unit) guards)
  unfolding in_order
  guards_reach clause given agree earlier [] readers e = absurd (succeeds_not_waits e)
  guards_reach clause given agree earlier (g ∷ guards) readers e =
      waited_first_of (Waited unit.values goal.arguments)
      (answer g.row.test earlier (written_out given unit.values (next_pair unit) g.arguments))
      (in_order earlier given unit.values (next_pair unit) guards)
      (λ rs i. each_implies _ (Waited unit.values goal.arguments) (λ p m. waited_in clause given agree g.arguments p m) rs
      (answer_held g.row.test earlier (written_out given unit.values (next_pair unit) g.arguments) rs i))
      (λ rs i. guards_reach clause given agree earlier guards rs i) readers e

  -- A goal that joins the waiting goals has a chain to each of its readers, and none of them has a value.
  pub waits_reach : (clauses : List Clause) (readers : List ℕ) → choice clauses unit goal ≡ joins_waiting readers
      → Each (Waited unit.values goal.arguments) readers
  waits_reach = waits_on_each unit goal (Waited unit.values goal.arguments) (λ earlier clause others w. go earlier clause others w)
    where
      go : (earlier : List ℕ) (clause : Clause) (others : List ℕ) → Waits unit goal earlier clause others
          → Each (Waited unit.values goal.arguments) others
      go earlier clause others (by_head e) = head_reach clause others e
      go earlier clause others (by_guard given agree e) = guards_reach clause given agree earlier clause.guards others e
