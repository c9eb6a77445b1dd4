-- The log's changes as its functions make them: a pair joins the set of a goal, several do, a goal begins to wait, a goal's pairs leave it.
use Prim.Native.Nat.{ℕ, zero, suc, ◌+◌, ◌*◌, ◌-◌, ◌≤◌, ◌<◌}
use mathlib.Core.Path.{◌≡◌, refl, ap, sym, ◌∙◌}
use mathlib.Core.Bool.{Bool, true, false, true≢false}
use mathlib.Core.List.{List, [], ◌∷◌, ◌++◌}
use native.Mathlib.Omega.{arith}
use native.Mathlib.Numerals.{add-one}
use lib.ListN.{length, get_or, set, length-set, length-append, get_or-append}
use lib.Seq.{get_or-set_same, get_or-set_other, get_or_at, set-get_or, set-set, set_at}
use Rattle.meaning.specs.Bytes.{among, when◌then◌else◌}
use Rattle.term.specs.States.{listed}
use Rattle.run_queues.specs.Log.{Slot, gone, waits, pairs_in, slot, SlotStands, LogOnly, joined, gathered, At, Joins, JoinsAll, Waits, LogNow}
use Rattle.run_queues.proofs.Log.{chain_waiter, by_place, begun, pointed, pointed_size, pointed_other, pair_joins, place_reset, goal_joins}

module _ (log waiters sets pairs : ℕ) where
  pub log_only_same : (used : ℕ) (s : List ℕ) → LogOnly log waiters sets pairs used s s
  log_only_same used s = record { size = refl; below = λ x h. refl; between = λ x h k. refl; behind = λ x h. refl }

  pub log_only_then : (used : ℕ) (s t u : List ℕ) → LogOnly log waiters sets pairs used s t → LogOnly log waiters sets pairs used t u
      → LogOnly log waiters sets pairs used s u
  log_only_then used s t u a b =
      record {
        size = b.size ∙ a.size;
        below = λ x h. b.below x h ∙ a.below x h;
        between = λ x h k. b.between x h k ∙ a.between x h k;
        behind = λ x h. b.behind x h ∙ a.behind x h;
      }

  pub pointed_only : (used : ℕ) (s : List ℕ) (place p waiter next first : ℕ) → waiters + pairs ≤ sets → sets + pairs ≤ log → p < pairs
      → log + 2 * place + 2 ≤ length s → place < used → LogOnly log waiters sets pairs used s (pointed s log waiters sets place p waiter next first)
  pointed_only used s place p waiter next first a b small space h =
      let other = pointed_other s log waiters sets pairs place p waiter next first a b small space in
      record {
        size = pointed_size s log waiters sets pairs place p waiter next first a b small space;
        below = λ x l. other x (λ e. omega arith) (λ e. omega arith) (λ e. omega arith);
        between = λ x l u. other x (λ e. omega arith) (λ e. omega arith) (λ e. omega arith);
        behind = λ x l. other x (λ e. omega arith) (λ e. omega arith) (λ e. omega arith);
      }

  pub begun_only : (used : ℕ) (s : List ℕ) (place goal : ℕ) → waiters + pairs ≤ sets → sets + pairs ≤ log → place < used
      → LogOnly log waiters sets pairs used s (begun s log place goal)
  begun_only used s place goal a b h =
      let s₁ = set s (log + 2 * place) goal in
      let other : (x : ℕ) → (x ≡ log + 2 * place → ⊥) → (x ≡ log + 2 * place + 1 → ⊥) → get_or (begun s log place goal) x 0 ≡ get_or s x 0 =
      λ x c d. get_or-set_other s₁ (log + 2 * place + 1) x 0 0 d ∙ get_or-set_other s (log + 2 * place) x goal 0 c
      in
      record {
        size = length-set s₁ (log + 2 * place + 1) 0 ∙ length-set s (log + 2 * place) goal;
        below = λ x l. other x (λ e. omega arith) (λ e. omega arith);
        between = λ x l u. other x (λ e. omega arith) (λ e. omega arith);
        behind = λ x l. other x (λ e. omega arith) (λ e. omega arith);
      }

joined_new : (p : ℕ) (ps : List ℕ) → among p ps ≡ false → joined p ps ≡ p ∷ ps
unfolding joined when◌then◌else◌
joined_new p ps e = rw e

pub joined_there : (p : ℕ) (ps : List ℕ) → among p ps ≡ true → joined p ps ≡ ps
unfolding joined when◌then◌else◌
joined_there p ps e = rw e

-- The set of the goal at a place stays.
pub same_slots : (slots : List Slot) (place : ℕ) (v : Slot) → slot slots place ≡ v → set slots place v ≡ slots
same_slots slots place v e = rw (← e) (set-get_or slots place gone)

module _ (s : List ℕ) (log waiters sets pairs : ℕ) (slots : List Slot) (place goal : ℕ) (ps : List ℕ) where
  pub at_space : At s log waiters sets pairs slots place goal ps → log + 2 * place + 2 ≤ length s
  at_space a = omega (arith, a.ok.inside, a.here)

  module _ (p : ℕ) (j : Joins s log waiters sets pairs slots place goal ps p) where
    not_in : get_or s (waiters + p) 0 ≡ 0 → (b : Bool) → among p ps ≡ b → b ≡ false
    unfolding SlotStands
    not_in nobody true e =
        let a = j.at in
        let stands : SlotStands s log waiters sets pairs place (waits goal ps) = rw a.it at (a.ok.stands place a.here) in
        absurd (omega (arith, (chain_waiter s waiters sets pairs place p ps stands.3 e).1))
    not_in nobody false e = refl

    pub joins_new : get_or s (waiters + p) 0 ≡ 0
        → LogNow s (pointed s log waiters sets place p (place + 1) (get_or s (log + 2 * place + 1) 0) (p + 1)) log waiters sets pairs (length slots)
        (set slots place (waits goal (joined p ps)))
    joins_new nobody =
        let a = j.at in
        record {
          ok =
              rw (joined_new p ps (not_in nobody (among p ps) refl))
              (pair_joins s log waiters sets pairs slots a.ok place a.here goal p ps a.it j.small nobody);
          only =
              pointed_only log waiters sets pairs (length slots) s place p (place + 1) (get_or s (log + 2 * place + 1) 0) (p + 1)
              a.ok.waiters_first a.ok.sets_next j.small (at_space a) a.here;
        }

    someone : (w : ℕ) → (w ≡ 0 → ⊥) → w ≡ w - 1 + 1
    someone w h = by_place w 0 (λ e. absurd (h e)) (λ e. above w e)
      where
        above : (w : ℕ) → (w ≡ 0 → ⊥) → w ≡ w - 1 + 1
        above w h = omega arith

    its_own : (i : ℕ) → get_or s (waiters + p) 0 ≡ i + 1 → among p ps ≡ true
    its_own i w =
        let a = j.at in
        let c = a.ok.waiter p i j.small w in
        by_place i place
        (λ e. sym (ap (λ v. among p (pairs_in v)) (ap (λ x. slot slots x) e ∙ a.it)) ∙ c.1)
        (λ e. absurd (true≢false (sym c.1 ∙ j.unclaimed i c.0 e)))

    pub joins_there : (get_or s (waiters + p) 0 ≡ 0 → ⊥) → LogNow s s log waiters sets pairs (length slots) (set slots place (waits goal (joined p ps)))
    joins_there somebody =
        let a = j.at in
        let w = get_or s (waiters + p) 0 in
        record {
          ok = rw (joined_there p ps (its_own (w - 1) (someone w somebody)), same_slots slots place (waits goal ps) a.it) a.ok;
          only = log_only_same log waiters sets pairs (length slots) s;
        }

pub gathered_more : (ps rs : List ℕ) (r : ℕ) → gathered ps (rs ++ (r ∷ [])) ≡ joined r (gathered ps rs)
unfolding gathered
gathered_more ps [] r = refl
gathered_more ps (q ∷ rs) r = gathered_more (joined q ps) rs r

-- Several pairs join: after the first i of them.
module _ (s₀ : List ℕ) (log waiters sets pairs : ℕ) (slots : List Slot) (place goal : ℕ) (ps : List ℕ) (readers n : ℕ)
    (a : JoinsAll s₀ log waiters sets pairs slots place goal ps readers n) where
  abbrev pub set_after : ℕ → List ℕ
  set_after i = gathered ps (listed s₀ readers i)

  abbrev pub slots_after : ℕ → List Slot
  slots_after i = set slots place (waits goal (set_after i))

  pub joining_begins : LogNow s₀ s₀ log waiters sets pairs (length slots) (slots_after 0)
  unfolding gathered listed
  joining_begins =
      record {
        ok = rw (same_slots slots place (waits goal ps) a.at.it) a.at.ok;
        only = log_only_same log waiters sets pairs (length slots) s₀;
      }

  module _ (s : List ℕ) (i : ℕ) (now : LogNow s₀ s log waiters sets pairs (length slots) (slots_after i)) (h : i < n) where
    pub reader_inside : readers + i < length s
    reader_inside = omega (arith, a.before_log, a.at.ok.inside, now.only.size)

    same_reader : get_or s (readers + i) 0 ≡ get_or s₀ (readers + i) 0
    same_reader = now.only.between (readers + i) (omega (arith, a.behind_sets)) (omega (arith, a.before_log))

    pub joining : Joins s log waiters sets pairs (slots_after i) place goal (set_after i) (get_or s (readers + i) 0)
    joining =
        let v = waits goal (set_after i) in
        rw same_reader
        (record {
          at = record { ok = now.ok; here = omega (arith, length-set slots place v, a.at.here); it = get_or-set_same slots place v gone a.at.here };
          small = a.small i h;
          unclaimed = λ k b e.
              ap (λ w. among (get_or s₀ (readers + i) 0) (pairs_in w)) (get_or-set_other slots place k v gone e)
              ∙ a.unclaimed i h k (omega (arith, length-set slots place v)) e;
        })

    pub joining_on : (s' : List ℕ)
        → LogNow s s' log waiters sets pairs (length (slots_after i)) (set (slots_after i) place (waits goal (joined (get_or s (readers + i) 0) (set_after i))))
        → LogNow s₀ s' log waiters sets pairs (length slots) (slots_after (i + 1))
    unfolding listed
    joining_on s' on =
        let v = waits goal (set_after i) in
        let r = get_or s₀ (readers + i) 0 in
        let e : set (slots_after i) place (waits goal (joined r (set_after i))) ≡ slots_after (i + 1) =
        set-set slots place v (waits goal (joined r (set_after i)))
        ∙ ap (λ l. set slots place (waits goal l)) (sym (gathered_more ps (listed s₀ readers i) r))
        ∙ ap (λ x. slots_after x) (sym (add-one i))
        in
        record {
          ok = rw e at (rw same_reader at on.ok);
          only =
              log_only_then log waiters sets pairs (length slots) s₀ s s' now.only
              (rw (length-set slots place v) at on.only);
        }

-- A goal begins to wait.
module _ (s : List ℕ) (log waiters sets pairs : ℕ) (slots : List Slot) (place goal readers n : ℕ)
    (w : Waits s log waiters sets pairs slots place goal readers n) where
  abbrev pub with_goal : List ℕ → List Slot
  with_goal ps = slots ++ (waits goal ps ∷ [])

  begun_still : (x : ℕ) → x < log → get_or (begun s log place goal) x 0 ≡ get_or s x 0
  begun_still x h =
      get_or-set_other (set s (log + 2 * place) goal) (log + 2 * place + 1) x 0 0 (λ e. omega arith)
      ∙ get_or-set_other s (log + 2 * place) x goal 0 (λ e. omega arith)

  longer : length (with_goal []) ≡ place + 1
  longer = length-append slots (waits goal [] ∷ []) ∙ omega (arith, w.last)

  before_last : (i : ℕ) → i < length (with_goal []) → (i ≡ place → ⊥) → i < length slots
  before_last i h e = omega (arith, longer, w.last)

  same_word : (k : ℕ) → k < n → get_or (begun s log place goal) (readers + k) 0 ≡ get_or s (readers + k) 0
  same_word k h = begun_still (readers + k) (omega (arith, w.before_log))

  pub waiting_begins : JoinsAll (begun s log place goal) log waiters sets pairs (with_goal []) place goal [] readers n
  waiting_begins =
      record {
        at = record {
          ok = goal_joins s log waiters sets pairs slots place goal w.ok w.last w.some w.space;
          here = omega (arith, longer);
          it = get_or_at slots (waits goal []) [] gone place (sym w.last);
        };
        behind_sets = w.behind_sets;
        before_log = w.before_log;
        small = λ k h. rw (same_word k h) (w.small k h);
        unclaimed = λ k h i b e.
            let inside = before_last i b e in
            rw (same_word k h, get_or-append slots (waits goal [] ∷ []) gone i inside) (w.unclaimed k h i inside);
      }

  listed_still : (m : ℕ) → m ≤ n → listed (begun s log place goal) readers m ≡ listed s readers m
  unfolding listed
  listed_still zero h = refl
  listed_still (suc m) h = rw (listed_still m (omega arith), same_word m (omega arith))

  pub waiting_ends : (s' : List ℕ)
      → LogNow (begun s log place goal) s' log waiters sets pairs (length (with_goal []))
      (set (with_goal []) place (waits goal (gathered [] (listed (begun s log place goal) readers n))))
      → LogNow s s' log waiters sets pairs (place + 1) (with_goal (gathered [] (listed s readers n)))
  waiting_ends s' now =
      let e : set (with_goal []) place (waits goal (gathered [] (listed (begun s log place goal) readers n))) ≡ with_goal (gathered [] (listed s readers n)) =
      set_at slots (waits goal []) [] (waits goal (gathered [] (listed (begun s log place goal) readers n))) place (sym w.last)
      ∙ ap (λ l. with_goal (gathered [] l)) (listed_still n (omega arith))
      in
      record {
        ok = rw e at now.ok;
        only =
            log_only_then log waiters sets pairs (place + 1) s (begun s log place goal) s'
            (begun_only log waiters sets pairs (place + 1) s place goal w.ok.waiters_first w.ok.sets_next (omega arith))
            (rw longer at now.only);
      }

-- The goal at a place that waits on no pair is taken.
pub taken_out : (s : List ℕ) (log waiters sets pairs : ℕ) (slots : List Slot) (place goal : ℕ) → At s log waiters sets pairs slots place goal []
    → (get_or s (log + 2 * place) 0 ≡ goal) × LogNow s (begun s log place 0) log waiters sets pairs (length slots) (set slots place gone)
unfolding SlotStands
taken_out s log waiters sets pairs slots place goal a =
    let stands : SlotStands s log waiters sets pairs place (waits goal []) = rw a.it at (a.ok.stands place a.here) in
    let s₁ = set s (log + 2 * place) 0 in
    let space : log + 2 * place + 2 ≤ length s = at_space s log waiters sets pairs slots place goal [] a in (
      stands.1,
      record {
        ok =
            place_reset s log waiters sets pairs slots a.ok place a.here gone 0 (ap pairs_in a.it) refl (
              get_or-set_other s₁ (log + 2 * place + 1) (log + 2 * place) 0 0 (λ e. omega arith) ∙ get_or-set_same s (log + 2 * place) 0 0 (omega arith),
              get_or-set_same s₁ (log + 2 * place + 1) 0 0 (omega (arith, length-set s (log + 2 * place) 0)),
            );
        only = begun_only log waiters sets pairs (length slots) s place 0 a.ok.waiters_first a.ok.sets_next a.here;
      },
    )
