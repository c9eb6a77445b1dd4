-- No goal waits on a pair of the readers on which the goal in front is to wait: in the next state, where it does, no two goals wait on one pair of a
-- query, and pairs of different queries have different places.
use Prim.Native.Nat.{ℕ, ◌+◌, ◌<◌}
use mathlib.Core.Path.{◌≡◌, refl, ap, sym, ◌∙◌}
use mathlib.Core.Bool.{Bool, true, false}
use mathlib.Core.Logic.{⊎_elim}
use mathlib.Core.List.{List, [], ◌∷◌, ◌++◌, map}
use native.Mathlib.Omega.{arith}
use lib.ListN.{length, get_or}
use borrow.Author.Tests.{eq-eqb}
use Rattle.meaning.specs.Bytes.{Bytes, among}
use Rattle.meaning.specs.Terms.{Job}
use Rattle.meaning.specs.Items.{job, reading}
use Rattle.meaning.specs.State.{Room, QueryUnit, Goal, Waiting, unit_at, of, goals_of, part_of}
use Rattle.meaning.specs.Trial.{joins_waiting}
use Rattle.meaning.specs.Step.{goals_after, without_front, step}
use Rattle.meaning.specs.Run.{run}
use Rattle.laws.proofs.Lists.Among.{In, in_none, among_in, in_among, in_those}
use Rattle.laws.proofs.Lists.EachOf.{Each, each_in}
use Rattle.laws.proofs.Runs.{run_placed}
use Rattle.laws.proofs.Reading.{accepted_keeps_the_occurrence_rules}
use Rattle.laws.proofs.Single.{single_occurrence, no_two_wait_on_one_pair}
use Rattle.term.specs.States.{Atlas, listed, Lies, GoalStands, AllStand}
use Rattle.term.specs.Layout.{readers_region}
use Rattle.run_readers.specs.Readers.{all_met}
use Rattle.run_readers.proofs.AllMet.{in_all_met}
use Rattle.run_readers.proofs.Ranks.{listed_in}
use Rattle.run_asked.specs.Asking.{AllBelow}
use Rattle.run_queues.specs.Log.{Slot, gone, waits, pairs_in, slot, present}
use Rattle.run_between.specs.Running.{slot_of}
use Rattle.run_queues.proofs.Presents.{goal_present, in_mapped, in_split}
use Rattle.run_queues.proofs.Waking.{gathered_among}

-- In every state of a run each waiting goal waits on pairs of its own unit.
pub readers_own : (text : Bytes) (j : Job) → reading text ≡ job j → (limit : ℕ) (figures : Room) (w : Waiting)
    → In w (run j limit figures).state.goals.waiting → (p : ℕ) → In p w.readers
    → p < length (unit_at w.goal.query (run j limit figures).state.units).values
unfolding part_of goals_of of
readers_own text j reads limit figures w m p n =
    let k = w.goal.query in
    let inside : k < length j.queries = each_in _ (run_placed j limit figures).waiting m in
    let its = each_in _ (single_occurrence j (accepted_keeps_the_occurrence_rules text j reads) limit figures k inside).readers_in_range
    (in_those (λ u. of k u.goal) m (eq-eqb k k refl))
    in
    each_in _ its n

-- In the next state the goal waits too, so none of its query waits on a pair of these readers.
pub none_other : (text : Bytes) (j : Job) → reading text ≡ job j → (limit : ℕ) (figures : Room) (g : Goal) (others : List Goal) (readers : List ℕ)
    → (run j (limit + 1) figures).state ≡ step (joins_waiting readers) g others (run j limit figures).state
    → (w : Waiting) → In w (run j limit figures).state.goals.waiting → w.goal.query ≡ g.query
    → (p : ℕ) → In p w.readers → In p readers → ⊥
unfolding step goals_after without_front
none_other text j reads limit figures g others readers next w m same p a b =
    let v : Waiting = record { goal = g; readers = readers } in
    let waiting = (run j limit figures).state.goals.waiting in
    let parts = in_split waiting m in
    let now : (run j (limit + 1) figures).state.goals.waiting ≡ waiting ++ (v ∷ []) = ap (λ x. x.goals.waiting) next in
    let all : (run j (limit + 1) figures).state.goals.waiting ≡ parts.0 ++ w ∷ parts.1 ++ v ∷ [] = now ∙ ap (λ l. l ++ (v ∷ [])) parts.2 in
    no_two_wait_on_one_pair j (accepted_keeps_the_occurrence_rules text j reads) (limit + 1) figures p parts.0 parts.1 [] w v all same
    (in_among a) (in_among b)

pub all_below : (n : ℕ) (l : List ℕ) (p : ℕ) → AllBelow n l → In p l → p < n
all_below n l p b m = each_in (λ q. q < n) (each l b) m
  where
    each : (l : List ℕ) → AllBelow n l → Each (λ q. q < n) l
    each [] b = tt
    each (q ∷ l) b = (b.0, each l b.1)

pub all_stand_in : (s : List ℕ) (figures : Room) (atlas : Atlas) (units : List QueryUnit) (ws : List Waiting) (w : Waiting)
    → AllStand s figures atlas units (map (λ w. w.goal) ws) → In w ws → GoalStands s figures atlas units w.goal
all_stand_in s figures atlas units ws w h m = each_in (λ w. GoalStands s figures atlas units w.goal) (each ws h) m
  where
    each : (ws : List Waiting) → AllStand s figures atlas units (map (λ w. w.goal) ws) → Each (λ w. GoalStands s figures atlas units w.goal) ws
    each [] h = tt
    each (w ∷ ws) h = (h.0, each ws h.1)

not_true : (b : Bool) → (b ≡ true → ⊥) → b ≡ false
not_true true h = absurd (h refl)
not_true false h = refl

-- The pairs of a waiting goal's slot are the places of its readers' pairs.
slot_reader : (atlas : Atlas) (w : Waiting) (p : ℕ) → among p (pairs_in (slot_of atlas w)) ≡ true
    → (r : ℕ) × In r w.readers × (p ≡ (atlas w.goal.query).pair r)
unfolding among
slot_reader atlas w p e =
    let places = map (λ q. (atlas w.goal.query).pair q) w.readers in
    let its : among p places ≡ true = sym (gathered_among p [] places) ∙ e in
    in_mapped (λ q. (atlas w.goal.query).pair q) w.readers (among_in p places its)

-- What is known of the waiting goals and of the readers.
pub record Apart (units : List QueryUnit) (g : Goal) (readers : List ℕ) (waiting : List Waiting) : Type 0 where
  pub own_query : g.query < length units
  pub own_readers : AllBelow (length (unit_at g.query units).values) readers
  pub their_query : (w : Waiting) → In w waiting → w.goal.query < length units
  pub their_readers : (w : Waiting) → In w waiting → (p : ℕ) → In p w.readers → p < length (unit_at w.goal.query units).values
  pub different : (w : Waiting) → In w waiting → w.goal.query ≡ g.query → (p : ℕ) → In p w.readers → In p readers → ⊥

module _ (names : List Bytes) (figures : Room) (atlas : Atlas) (units : List QueryUnit) (pairs compounds cells : ℕ)
    (lies : Lies names figures atlas units pairs compounds cells) (g : Goal) (readers : List ℕ) (waiting : List Waiting)
    (a : Apart units g readers waiting) where
  none_waits : (w : Waiting) → In w waiting → (r : ℕ) → In r readers → among ((atlas g.query).pair r) (pairs_in (slot_of atlas w)) ≡ false
  none_waits w m r n =
      not_true (among ((atlas g.query).pair r) (pairs_in (slot_of atlas w)))
      (λ e.
      let its = slot_reader atlas w ((atlas g.query).pair r) e in
      let same = lies.pair_apart w.goal.query g.query its.0 r (a.their_query w m) a.own_query (a.their_readers w m its.0 its.1)
      (all_below (length (unit_at g.query units).values) readers r a.own_readers n) (sym its.2)
      in
      a.different w m same.0 its.0 its.1 (rw (sym same.1) at n))

  none_in_slot : (v : Slot) → ((goal : ℕ) (ps : List ℕ) → v ≡ waits goal ps → In v (map (slot_of atlas) waiting)) → (r : ℕ) → In r readers
      → among ((atlas g.query).pair r) (pairs_in v) ≡ false
  unfolding among
  none_in_slot gone h r n = refl
  none_in_slot (waits goal ps) h r n =
      let its = in_mapped (slot_of atlas) waiting (h goal ps refl) in
      ap (λ v. among ((atlas g.query).pair r) (pairs_in v)) its.2 ∙ none_waits its.0 its.1 r n

  module _ (s : List ℕ) (n : ℕ) (words : listed s (readers_region figures) n ≡ all_met [] (map (λ p. (atlas g.query).pair p) readers)) where
    pub reader_of : (k : ℕ) → k < n → (r : ℕ) × In r readers × (get_or s (readers_region figures + k) 0 ≡ (atlas g.query).pair r)
    reader_of k h =
        let places = map (λ p. (atlas g.query).pair p) readers in
        let p = get_or s (readers_region figures + k) 0 in
        in_mapped (λ p. (atlas g.query).pair p) readers
        (⊎_elim {C = In p places} (λ m. absurd (in_none m)) (λ m. m)
        (in_all_met [] places p (rw words at (listed_in s (readers_region figures) n k h))))

    pub reader_small : (k : ℕ) → k < n → get_or s (readers_region figures + k) 0 < figures.pairs
    reader_small k h =
        let its = reader_of k h in
        let below = all_below (length (unit_at g.query units).values) readers its.0 a.own_readers its.1 in
        omega (arith, its.2, lies.pair_below g.query its.0 a.own_query below, lies.pairs_fit)

    pub reader_unclaimed : (slots : List Slot) → present slots (length slots) ≡ map (slot_of atlas) waiting → (k : ℕ) → k < n
        → (i : ℕ) → i < length slots → among (get_or s (readers_region figures + k) 0) (pairs_in (slot slots i)) ≡ false
    reader_unclaimed slots e k h i l =
        let its = reader_of k h in
        rw its.2
        (none_in_slot (slot slots i) (λ goal ps f. rw (← e) (rw f (goal_present slots i goal ps l f))) its.0 its.1)
