-- The log closed up place by place: the goals passed stand in order at its beginning, emptied places follow, and the rest is as it was.
use Prim.Native.Nat.{ℕ, zero, suc, ◌+◌, ◌*◌, ◌≤◌, ◌<◌}
use mathlib.Core.Path.{◌≡◌, refl, ap, sym, ◌∙◌}
use mathlib.Core.Bool.{Bool, true, false, true≢false}
use mathlib.Core.List.{List, [], ◌∷◌, ◌++◌}
use native.Mathlib.Omega.{arith}
use native.Mathlib.Numerals.{add-one}
use lib.Dec.{ltb}
use lib.ListN.{length, get_or, set, length-set, length-append, get_or-append}
use lib.Seq.{get_or-set_same, get_or-set_other, get_or_at, set-set, set_comm}
use borrow.Author.Tests.{ltb-true, ltb-false}
use Rattle.meaning.specs.Bytes.{among}
use Rattle.run_queues.specs.Log.{Slot, gone, waits, pairs_in, slot, SlotStands, LogOk, LogNow, Shifts, goal_of, present, Settles, SettledAs, Closed}
use Rattle.run_queues.proofs.Log.{by_place}
use Rattle.run_queues.proofs.LogSteps.{log_only_same, log_only_then, same_slots}

module _ (s : List ℕ) (log waiters sets pairs : ℕ) (slots : List Slot) (place to : ℕ) (a : Settles s log waiters sets pairs slots place to) where
  stands_as : (v : Slot) → slot slots place ≡ v → SlotStands s log waiters sets pairs place v
  stands_as v e = rw e at (a.ok.stands place a.here)

  -- The place is empty.
  settled_none : (v : Slot) → slot slots place ≡ v → get_or s (log + 2 * place) 0 ≡ 0 → SettledAs s s log waiters sets pairs slots place to to v
  unfolding SlotStands
  settled_none gone e z = (refl, record { ok = a.ok; only = log_only_same log waiters sets pairs (length slots) s })
  settled_none (waits goal ps) e z = let k = stands_as (waits goal ps) e in absurd (omega (arith, k.0, k.1))

  pub settle_none : get_or s (log + 2 * place) 0 ≡ 0 → SettledAs s s log waiters sets pairs slots place to to (slot slots place)
  settle_none z = settled_none (slot slots place) refl z

  -- No place before is empty.
  settled_here : (v : Slot) → slot slots place ≡ v → (get_or s (log + 2 * place) 0 ≡ 0 → ⊥) → to ≡ place
      → SettledAs s s log waiters sets pairs slots place to (to + 1) v
  unfolding SlotStands
  settled_here gone e n z = absurd (n (stands_as gone e).0)
  settled_here (waits goal ps) e n z =
      let v = waits goal ps in
      let same : set (set slots place gone) to v ≡ slots = rw z (set-set slots place gone v ∙ same_slots slots place v e) in
      (refl, record { ok = rw same a.ok; only = log_only_same log waiters sets pairs (length slots) s })

  pub settle_here : (get_or s (log + 2 * place) 0 ≡ 0 → ⊥) → to ≡ place → SettledAs s s log waiters sets pairs slots place to (to + 1) (slot slots place)
  settle_here n z = settled_here (slot slots place) refl n z

  -- The goal moves.
  earlier : (to ≡ place → ⊥) → to < place
  earlier n = omega (arith, a.before)

  shifts_as : (goal : ℕ) (ps : List ℕ) → slot slots place ≡ waits goal ps → (to ≡ place → ⊥) → Shifts s log waiters sets pairs slots place to goal ps
  shifts_as goal ps e n =
      record { at = record { ok = a.ok; here = a.here; it = e }; empty = a.empty (earlier n); before = earlier n }

  settled_shifts : (v : Slot) → slot slots place ≡ v → (get_or s (log + 2 * place) 0 ≡ 0 → ⊥) → (to ≡ place → ⊥)
      → (goal : ℕ) × (ps : List ℕ) × Shifts s log waiters sets pairs slots place to goal ps
  unfolding SlotStands
  settled_shifts gone e n o = absurd (n (stands_as gone e).0)
  settled_shifts (waits goal ps) e n o = (goal, ps, shifts_as goal ps e o)

  pub settle_shifts : (get_or s (log + 2 * place) 0 ≡ 0 → ⊥) → (to ≡ place → ⊥)
      → (goal : ℕ) × (ps : List ℕ) × Shifts s log waiters sets pairs slots place to goal ps
  settle_shifts n o = settled_shifts (slot slots place) refl n o

  settled_moved : (s' : List ℕ) (v : Slot) → slot slots place ≡ v → (get_or s (log + 2 * place) 0 ≡ 0 → ⊥) → (to ≡ place → ⊥)
      → ((pairs : ℕ) (slots : List Slot) (goal : ℕ) (ps : List ℕ) → Shifts s log waiters sets pairs slots place to goal ps
      → LogNow s s' log waiters sets pairs (length slots) (set (set slots to (waits goal ps)) place gone))
      → SettledAs s s' log waiters sets pairs slots place to (to + 1) v
  unfolding SlotStands
  settled_moved s' gone e n o told = absurd (n (stands_as gone e).0)
  settled_moved s' (waits goal ps) e n o told =
      let v = waits goal ps in
      let same : set (set slots to v) place gone ≡ set (set slots place gone) to v = set_comm slots to place v gone o in
      (refl, rw same at (told pairs slots goal ps (shifts_as goal ps e o)))

  pub settle_moved : (s' : List ℕ) → (get_or s (log + 2 * place) 0 ≡ 0 → ⊥) → (to ≡ place → ⊥)
      → ((pairs : ℕ) (slots : List Slot) (goal : ℕ) (ps : List ℕ) → Shifts s log waiters sets pairs slots place to goal ps
      → LogNow s s' log waiters sets pairs (length slots) (set (set slots to (waits goal ps)) place gone))
      → SettledAs s s' log waiters sets pairs slots place to (to + 1) (slot slots place)
  settle_moved s' n o told = settled_moved s' (slot slots place) refl n o told

-- The first n places.
unfoldable pub upto : List Slot → ℕ → List Slot
upto slots zero = []
upto slots (suc n) = upto slots n ++ (slot slots n ∷ [])

upto_length : (slots : List Slot) (n : ℕ) → length (upto slots n) ≡ n
unfolding upto
upto_length slots zero = refl
upto_length slots (suc n) = length-append (upto slots n) (slot slots n ∷ []) ∙ omega (arith, upto_length slots n)

upto_slot : (slots : List Slot) (n k : ℕ) → k < n → slot (upto slots n) k ≡ slot slots k
unfolding upto
upto_slot slots zero k h = absurd (omega arith)
upto_slot slots (suc n) k h = go (upto_slot slots n k)
  where
    go : (k < n → slot (upto slots n) k ≡ slot slots k) → slot (upto slots n ++ (slot slots n ∷ [])) k ≡ slot slots k
    go before =
        by_place k n
        (λ e. rw e (get_or_at (upto slots n) (slot slots n) [] gone n (upto_length slots n)))
        (λ e.
        let less : k < n = omega arith in
        get_or-append (upto slots n) (slot slots n ∷ []) gone k (omega (arith, upto_length slots n)) ∙ before less)

upto_same : (slots slots' : List Slot) (n : ℕ) → ((k : ℕ) → k < n → slot slots' k ≡ slot slots k) → upto slots' n ≡ upto slots n
unfolding upto
upto_same slots slots' zero same = refl
upto_same slots slots' (suc n) same =
    rw (upto_same slots slots' n (λ k h. same k (omega arith)), same n (omega arith))

-- How far closing up has come.
pub record Closing (slots now : List Slot) (i to : ℕ) : Type 0 where
  pub size : length now ≡ length slots
  pub before : to ≤ i
  pub later : (k : ℕ) → i ≤ k → slot now k ≡ slot slots k
  pub empty : (k : ℕ) → to ≤ k → k < i → slot now k ≡ gone
  pub kept : upto now to ≡ present slots i

pub closing_begins : (slots : List Slot) → Closing slots slots 0 0
unfolding upto present
closing_begins slots =
    record { size = refl; before = omega arith; later = λ k h. refl; empty = λ k h l. absurd (omega arith); kept = refl }

module _ (slots now : List Slot) (i to : ℕ) (c : Closing slots now i to) (inside : i < length slots) where
  -- An empty place is passed.
  pub closing_none : slot now i ≡ gone → Closing slots now (i + 1) to
  unfolding present
  closing_none e =
      record {
        size = c.size;
        before = omega (arith, c.before);
        later = λ k h. c.later k (omega arith);
        empty = λ k h l. by_place k i (λ f. rw f e) (λ f. c.empty k h (omega arith));
        kept =
            rw (add-one i)
            (c.kept ∙ sym (ap (λ l. present slots i ++ l) (ap goal_of (sym (c.later i (omega arith)) ∙ e)) ∙ no_more (present slots i)));
      }
    where
      no_more : (l : List Slot) → l ++ [] ≡ l
      no_more [] = refl
      no_more (x ∷ xs) = ap (λ r. x ∷ r) (no_more xs)

  -- A goal takes the first empty place.
  pub closing_goal : (goal : ℕ) (ps : List ℕ) → slot now i ≡ waits goal ps → Closing slots (set (set now i gone) to (waits goal ps)) (i + 1) (to + 1)
  unfolding present upto
  closing_goal goal ps e =
      let v = waits goal ps in
      let now' = set (set now i gone) to v in
      let there : to < length (set now i gone) = omega (arith, c.before, c.size, length-set now i gone) in
      let other : (k : ℕ) → (k ≡ to → ⊥) → (k ≡ i → ⊥) → slot now' k ≡ slot now k =
      λ k f g. get_or-set_other (set now i gone) to k v gone f ∙ get_or-set_other now i k gone gone g
      in
      record {
        size = length-set (set now i gone) to v ∙ length-set now i gone ∙ c.size;
        before = omega (arith, c.before);
        later = λ k h. other k (λ f. omega (arith, c.before)) (λ f. omega arith) ∙ c.later k (omega arith);
        empty = λ k h l. by_place k i
            (λ f. rw f (get_or-set_other (set now i gone) to i v gone (λ g. omega arith) ∙ get_or-set_same now i gone gone (omega (arith, c.size))))
            (λ f. other k (λ g. omega arith) f ∙ c.empty k (omega arith) (omega arith));
        kept =
            rw (add-one to, add-one i, upto_same now now' to (λ k h. other k (λ f. omega arith) (λ f. omega (arith, c.before))), get_or-set_same (set now i gone) to v gone there, c.kept)
            (ap (λ l. present slots i ++ l) (sym (ap goal_of (sym (c.later i (omega arith)) ∙ e))));
      }

module _ (s₀ : List ℕ) (log waiters sets pairs used : ℕ) (slots : List Slot) (ok : LogOk s₀ log waiters sets pairs slots) (e : used ≡ length slots) where
  -- The log as it is, and how far closing up has come.
  pub record Halfway (s : List ℕ) (i to : ℕ) (now : List Slot) : Type 0 where
    pub log_now : LogNow s₀ s log waiters sets pairs used now
    pub closing : Closing slots now i to

  pub halfway_begins : Halfway s₀ 0 0 slots
  halfway_begins = record { log_now = record { ok = ok; only = log_only_same log waiters sets pairs used s₀ }; closing = closing_begins slots }

  module _ (s : List ℕ) (i to : ℕ) (now : List Slot) (h : Halfway s i to now) (less : i < used) where
    pub halfway_settles : Settles s log waiters sets pairs now i to
    halfway_settles =
        record {
          ok = h.log_now.ok;
          here = omega (arith, h.closing.size);
          before = h.closing.before;
          empty = λ l. h.closing.empty to (omega arith) l;
        }

    on_as : (s' : List ℕ) (to' : ℕ) (v : Slot) → slot now i ≡ v → SettledAs s s' log waiters sets pairs now i to to' v
        → (now' : List Slot) × Halfway s' (i + 1) to' now'
    on_as s' to' gone f t = (
      now,
      record {
        log_now = record {
          ok = t.1.ok;
          only = log_only_then log waiters sets pairs used s₀ s s' h.log_now.only (rw (h.closing.size ∙ sym e) at t.1.only);
        };
        closing = rw t.0 (closing_none slots now i to h.closing (omega arith) f);
      },
    )
    on_as s' to' (waits goal ps) f t = (
      set (set now i gone) to (waits goal ps),
      record {
        log_now = record {
          ok = t.1.ok;
          only = log_only_then log waiters sets pairs used s₀ s s' h.log_now.only (rw (h.closing.size ∙ sym e) at t.1.only);
        };
        closing = rw t.0 (closing_goal slots now i to h.closing (omega arith) goal ps f);
      },
    )

    pub halfway_on : (s' : List ℕ) (to' : ℕ) → SettledAs s s' log waiters sets pairs now i to to' (slot now i)
        → (now' : List Slot) × Halfway s' (i + 1) to' now'
    halfway_on s' to' t = on_as s' to' (slot now i) refl t

  -- All places are passed: what is left of the log is its first places.
  pub halfway_ends : (s : List ℕ) (i to : ℕ) (now : List Slot) → Halfway s i to now → i ≡ used → Closed s₀ s log waiters sets pairs used slots to
  unfolding among
  halfway_ends s i to now h f =
      let c = h.closing in
      let now_ok = h.log_now.ok in
      let size = upto_length now to in
      let part : LogOk s log waiters sets pairs (upto now to) =
      record {
        waiters_first = now_ok.waiters_first;
        sets_next = now_ok.sets_next;
        inside = omega (arith, now_ok.inside, c.size, c.before);
        stands = λ k l. rw (upto_slot now to k (omega arith)) (now_ok.stands k (omega (arith, c.size, c.before)));
        waiter = λ q k l w.
            let old = now_ok.waiter q k l w in
            let less = within k q c f old.0 old.1 in
            (omega arith, rw (upto_slot now to k less) old.1);
      }
      in
      let same : upto now to ≡ present slots used = rw f at c.kept in
      record { number = sym size ∙ ap length same; now = record { ok = rw same at part; only = h.log_now.only } }
    where
      within : (k q : ℕ) → Closing slots now i to → i ≡ used → k < length now → among q (pairs_in (slot now k)) ≡ true → k < to
      within k q c f l w = go (ltb k to) refl
        where
          go : (b : Bool) → ltb k to ≡ b → k < to
          go true g = ltb-true k to g
          go false g =
              absurd
              (true≢false
              (sym w ∙ ap (λ v. among q (pairs_in v)) (c.empty k (ltb-false k to g) (omega (arith, c.size)))))
