-- A goal moves with its set to an emptied place before it: its pairs' waiters are the new place, and every other goal keeps its words.
use Prim.Native.Nat.{ℕ, ◌+◌, ◌*◌, ◌≤◌, ◌<◌}
use mathlib.Core.Path.{◌≡◌, refl, ap, sym, ◌∙◌}
use mathlib.Core.Bool.{Bool, true, false, true≢false}
use mathlib.Core.List.{List, [], ◌∷◌}
use native.Mathlib.Omega.{arith}
use lib.ListN.{length, get_or, set, length-set}
use lib.Seq.{get_or-set_same, get_or-set_other}
use Rattle.meaning.specs.Bytes.{among}
use Rattle.run_queues.specs.Log.{Slot, gone, waits, pairs_in, slot, Chain, SlotStands, LogOk, At, LogNow, Turns, Turned, Shifts}
use Rattle.run_queues.proofs.Log.{chain_waiter, slot_still, by_place, begun, among_this, among_behind}

chain_turned : (s s' : List ℕ) (waiters sets pairs from to : ℕ) (ps : List ℕ)
    → ((q : ℕ) → among q ps ≡ true → (get_or s' (waiters + q) 0 ≡ to + 1) × (get_or s' (sets + q) 0 ≡ get_or s (sets + q) 0))
    → Chain s waiters sets pairs from ps → Chain s' waiters sets pairs to ps
unfolding Chain
chain_turned s s' waiters sets pairs from to [] new k = tt
chain_turned s s' waiters sets pairs from to (p ∷ ps) new k =
    let e = new p (among_this p p ps refl) in (
      k.0,
      e.0,
      e.1 ∙ k.2,
      k.3,
      chain_turned s s' waiters sets pairs from to ps (λ q h. new q (among_behind q p ps h)) k.4,
    )

by_among : {A : Type 0} (q : ℕ) (ps : List ℕ) → (among q ps ≡ true → A) → (among q ps ≡ false → A) → A
by_among {A} q ps there not_there = go (among q ps) refl
  where
    go : (b : Bool) → among q ps ≡ b → A
    go true e = there e
    go false e = not_there e

-- The words of the new place and of the old one.
abbrev pub moved : List ℕ → ℕ → ℕ → ℕ → ℕ → ℕ → List ℕ
moved s log from to goal first = begun (set (set s (log + 2 * to) goal) (log + 2 * to + 1) first) log from 0

module _ (s : List ℕ) (log waiters sets pairs : ℕ) (slots : List Slot) (from to goal : ℕ) (ps : List ℕ)
    (a : Shifts s log waiters sets pairs slots from to goal ps) where
  at : At s log waiters sets pairs slots from goal ps
  at = a.at

  ok : LogOk s log waiters sets pairs slots
  ok = at.ok

  stands : SlotStands s log waiters sets pairs from (waits goal ps)
  stands = rw at.it at (ok.stands from at.here)

  pub shift_inside : (log + 2 * from + 1 < length s) × (log + 2 * to + 1 < length s)
  shift_inside = (omega (arith, ok.inside, at.here), omega (arith, ok.inside, at.here, a.before))

  pub goal_word : get_or s (log + 2 * from) 0 ≡ goal
  unfolding SlotStands
  goal_word = stands.1

  pub turns : Turns s waiters sets pairs from (to + 1) (get_or s (log + 2 * from + 1) 0) ps
  unfolding SlotStands
  turns =
      record {
        waiters_first = ok.waiters_first;
        inside = omega (arith, ok.sets_next, ok.inside);
        before = omega (arith, a.before);
        head = stands.2;
        chain = stands.3;
      }

  pairs_small : (q : ℕ) → among q ps ≡ true → (q < pairs) × (get_or s (waiters + q) 0 ≡ from + 1)
  unfolding SlotStands
  pairs_small q h = chain_waiter s waiters sets pairs from q ps stands.3 h

  module _ (s₁ : List ℕ) (t : Turned s s₁ waiters (to + 1) ps) where
    first : ℕ
    first = get_or s (log + 2 * from + 1) 0

    abbrev s₂ : List ℕ
    s₂ = set s₁ (log + 2 * to) goal

    abbrev s₃ : List ℕ
    s₃ = set s₂ (log + 2 * to + 1) (get_or s (log + 2 * from + 1) 0)

    abbrev s₄ : List ℕ
    s₄ = set s₃ (log + 2 * from) 0

    abbrev end : List ℕ
    end = moved s₁ log from to goal (get_or s (log + 2 * from + 1) 0)

    abbrev slots' : List Slot
    slots' = set (set slots to (waits goal ps)) from gone

    size : length end ≡ length s
    size =
        length-set s₄ (log + 2 * from + 1) 0
        ∙ length-set s₃ (log + 2 * from) 0
        ∙ length-set s₂ (log + 2 * to + 1) (get_or s (log + 2 * from + 1) 0)
        ∙ length-set s₁ (log + 2 * to) goal
        ∙ t.size

    -- Words that are neither of the two places' are those that the turning left.
    apart : (x : ℕ) → (x ≡ log + 2 * to → ⊥) → (x ≡ log + 2 * to + 1 → ⊥) → (x ≡ log + 2 * from → ⊥) → (x ≡ log + 2 * from + 1 → ⊥)
        → get_or end x 0 ≡ get_or s₁ x 0
    apart x b c d e =
        get_or-set_other s₄ (log + 2 * from + 1) x 0 0 e
        ∙ get_or-set_other s₃ (log + 2 * from) x 0 0 d
        ∙ get_or-set_other s₂ (log + 2 * to + 1) x (get_or s (log + 2 * from + 1) 0) 0 c
        ∙ get_or-set_other s₁ (log + 2 * to) x goal 0 b

    below : (x : ℕ) → x < log → get_or end x 0 ≡ get_or s₁ x 0
    below x h = apart x (λ e. omega arith) (λ e. omega arith) (λ e. omega arith) (λ e. omega arith)

    -- No waiter: below the waiters, or from the sets on.
    untouched_below : (x : ℕ) → x < waiters → get_or s₁ x 0 ≡ get_or s x 0
    untouched_below x h = t.other x (λ q k e. omega arith)

    untouched : (x : ℕ) → sets ≤ x → get_or s₁ x 0 ≡ get_or s x 0
    untouched x h = t.other x (λ q k e. omega (arith, (pairs_small q k).0, ok.waiters_first))

    pair_set : (q : ℕ) → q < pairs → get_or end (sets + q) 0 ≡ get_or s (sets + q) 0
    pair_set q h = below (sets + q) (omega (arith, ok.sets_next)) ∙ untouched (sets + q) (omega arith)

    own_waiter : (q : ℕ) → among q ps ≡ true → get_or end (waiters + q) 0 ≡ to + 1
    own_waiter q h =
        below (waiters + q) (omega (arith, (pairs_small q h).0, ok.waiters_first, ok.sets_next)) ∙ t.turned q h

    other_waiter : (q : ℕ) → q < pairs → among q ps ≡ false → get_or end (waiters + q) 0 ≡ get_or s (waiters + q) 0
    other_waiter q b h =
        below (waiters + q) (omega (arith, ok.waiters_first, ok.sets_next))
        ∙ t.other (waiters + q) (λ r k e. let z : q ≡ r = omega arith in true≢false (sym k ∙ ap (λ x. among x ps) (sym z) ∙ h))

    not_own : (i q : ℕ) → (i ≡ from → ⊥) → get_or s (waiters + q) 0 ≡ i + 1 → among q ps ≡ false
    not_own i q e w = by_among q ps (λ h. absurd (e (omega (arith, (pairs_small q h).1)))) (λ h. h)

    longer : length slots' ≡ length slots
    longer = length-set (set slots to (waits goal ps)) from gone ∙ length-set slots to (waits goal ps)

    at_from : slot slots' from ≡ gone
    at_from = get_or-set_same (set slots to (waits goal ps)) from gone gone (omega (arith, length-set slots to (waits goal ps), at.here))

    at_to : slot slots' to ≡ waits goal ps
    at_to =
        get_or-set_other (set slots to (waits goal ps)) from to gone gone (λ e. omega (arith, a.before))
        ∙ get_or-set_same slots to (waits goal ps) gone (omega (arith, a.before, at.here))

    at_other : (i : ℕ) → (i ≡ from → ⊥) → (i ≡ to → ⊥) → slot slots' i ≡ slot slots i
    at_other i e f =
        get_or-set_other (set slots to (waits goal ps)) from i gone gone e ∙ get_or-set_other slots to i (waits goal ps) gone f

    stands_from : SlotStands end log waiters sets pairs from gone
    unfolding SlotStands
    stands_from =
        let l₁ = length-set s₁ (log + 2 * to) goal in
        let l₂ = length-set s₂ (log + 2 * to + 1) (get_or s (log + 2 * from + 1) 0) in
        let l₃ = length-set s₃ (log + 2 * from) 0 in
        let inside = shift_inside.0 in (
          get_or-set_other s₄ (log + 2 * from + 1) (log + 2 * from) 0 0 (λ e. omega arith)
              ∙ get_or-set_same s₃ (log + 2 * from) 0 0 (omega (arith, t.size)),
          get_or-set_same s₄ (log + 2 * from + 1) 0 0 (omega (arith, t.size)),
        )

    stands_to : SlotStands end log waiters sets pairs to (waits goal ps)
    unfolding SlotStands
    stands_to =
        let f = get_or s (log + 2 * from + 1) 0 in
        let l₁ = length-set s₁ (log + 2 * to) goal in
        let inside = shift_inside.1 in
        let before = a.before in (
          stands.0,
          get_or-set_other s₄ (log + 2 * from + 1) (log + 2 * to) 0 0 (λ e. omega arith)
              ∙ get_or-set_other s₃ (log + 2 * from) (log + 2 * to) 0 0 (λ e. omega arith)
              ∙ get_or-set_other s₂ (log + 2 * to + 1) (log + 2 * to) f 0 (λ e. omega arith)
              ∙ get_or-set_same s₁ (log + 2 * to) goal 0 (omega (arith, t.size)),
          get_or-set_other s₄ (log + 2 * from + 1) (log + 2 * to + 1) 0 0 (λ e. omega arith)
              ∙ get_or-set_other s₃ (log + 2 * from) (log + 2 * to + 1) 0 0 (λ e. omega arith)
              ∙ get_or-set_same s₂ (log + 2 * to + 1) f 0 (omega (arith, t.size))
              ∙ stands.2,
          chain_turned s end waiters sets pairs from to ps (λ q h. (own_waiter q h, pair_set q (pairs_small q h).0)) stands.3,
        )

    stands_other : (i : ℕ) → i < length slots → (i ≡ from → ⊥) → (i ≡ to → ⊥) → SlotStands end log waiters sets pairs i (slot slots i)
    stands_other i h e f =
        slot_still s end log waiters sets pairs i (λ q b w. (other_waiter q b (not_own i q e w), pair_set q b)) (slot slots i)
        (apart (log + 2 * i) (λ g. f (omega arith)) (λ g. omega arith) (λ g. e (omega arith)) (λ g. omega arith)
        ∙ untouched (log + 2 * i) (omega (arith, ok.sets_next)))
        (apart (log + 2 * i + 1) (λ g. omega arith) (λ g. f (omega arith)) (λ g. omega arith) (λ g. e (omega arith))
        ∙ untouched (log + 2 * i + 1) (omega (arith, ok.sets_next)))
        (ok.stands i h)

    -- A pair that was not turned has the goal that it had, at another place than these two.
    had : (q i : ℕ) → q < pairs → among q ps ≡ false → get_or s (waiters + q) 0 ≡ i + 1
        → (i < length slots) × (among q (pairs_in (slot slots' i)) ≡ true)
    unfolding among
    had q i b out w =
        let c = ok.waiter q i b w in
        let off : i ≡ from → ⊥ =
        λ e. true≢false (sym c.1 ∙ ap (λ x. among q (pairs_in (slot slots x))) e ∙ ap (λ v. among q (pairs_in v)) at.it ∙ out)
        in
        let off' : i ≡ to → ⊥ =
        λ e. true≢false (sym c.1 ∙ ap (λ x. among q (pairs_in (slot slots x))) e ∙ ap (λ v. among q (pairs_in v)) a.empty)
        in
        (c.0, ap (λ v. among q (pairs_in v)) (at_other i off off') ∙ c.1)

    pub shifted : LogNow s end log waiters sets pairs (length slots) slots'
    shifted =
        record {
          ok = record {
            waiters_first = ok.waiters_first;
            sets_next = ok.sets_next;
            inside = omega (arith, ok.inside, size, longer);
            stands = λ i h. by_place i from
                (λ e. rw (e, at_from) stands_from)
                (λ e. by_place i to (λ f. rw (f, at_to) stands_to) (λ f. rw (at_other i e f) (stands_other i (omega (arith, longer)) e f)));
            waiter = λ q i b w. by_among q ps
                (λ h.
                let z : i ≡ to = omega (arith, own_waiter q h) in
                (omega (arith, longer, a.before, at.here), ap (λ x. among q (pairs_in (slot slots' x))) z ∙ ap (λ v. among q (pairs_in v)) at_to ∙ h))
                (λ h.
                let c = had q i b h (sym (other_waiter q b h) ∙ w) in
                (omega (arith, longer, c.0), c.1));
          };
          only = record {
            size = size;
            below = λ x h. below x (omega (arith, ok.waiters_first, ok.sets_next)) ∙ untouched_below x h;
            between = λ x h k. below x k ∙ untouched x (omega arith);
            behind = λ x h.
                apart x (λ e. omega (arith, a.before, at.here)) (λ e. omega (arith, a.before, at.here)) (λ e. omega (arith, at.here)) (λ e. omega (arith, at.here))
                ∙ untouched x (omega (arith, ok.sets_next));
          };
        }
