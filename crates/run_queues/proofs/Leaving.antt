-- A goal's pairs leave its set, the first one each time, until none is left. The sum of all words falls with each.
use Prim.Native.Nat.{ℕ, zero, suc, ◌+◌, ◌*◌, ◌≤◌, ◌<◌}
use mathlib.Core.Path.{◌≡◌, refl, ◌∙◌}
use mathlib.Core.List.{List, [], ◌∷◌}
use native.Mathlib.Omega.{arith}
use lib.ListN.{length, get_or, set, length-set}
use lib.Seq.{get_or-set_same, get_or-set_other, set-set}
use Rattle.run_queues.specs.Log.{Slot, gone, waits, link, Chain, SlotStands, At, LogNow}
use Rattle.run_queues.proofs.Log.{pointed, pair_leaves}
use Rattle.run_queues.proofs.LogSteps.{log_only_same, log_only_then, pointed_only, same_slots}

-- The sum of all words.
unfoldable pub total : List ℕ → ℕ
total [] = 0
total (x ∷ xs) = x + total xs

pub total_set : (l : List ℕ) (i v : ℕ) → i < length l → total (set l i v) + get_or l i 0 ≡ total l + v
unfolding total
total_set [] i v h = absurd (omega arith)
total_set (x ∷ xs) zero v h = omega arith
total_set (x ∷ xs) (suc i) v h = omega (arith, total_set xs i v (omega arith))

-- A pair with a waiter is let go: its waiter and its next become 0, and the first pair of the goal is its next.
pub pointed_less : (s : List ℕ) (log waiters sets pairs place p next : ℕ) → waiters + pairs ≤ sets → sets + pairs ≤ log → p < pairs
    → log + 2 * place + 2 ≤ length s → get_or s (waiters + p) 0 ≡ place + 1 → get_or s (sets + p) 0 ≡ next → get_or s (log + 2 * place + 1) 0 ≡ p + 1
    → total (pointed s log waiters sets place p 0 0 next) < total s
pointed_less s log waiters sets pairs place p next a b small space waiter this first =
    let s₁ = set s (waiters + p) 0 in
    let s₂ = set s₁ (sets + p) 0 in
    let there = log + 2 * place + 1 in
    let size₁ = length-set s (waiters + p) 0 in
    let size₂ = length-set s₁ (sets + p) 0 in
    let next₁ : get_or s₁ (sets + p) 0 ≡ next = get_or-set_other s (waiters + p) (sets + p) 0 0 (λ e. omega arith) ∙ this in
    let first₂ : get_or s₂ there 0 ≡ p + 1 =
    get_or-set_other s₁ (sets + p) there 0 0 (λ e. omega arith) ∙ get_or-set_other s (waiters + p) there 0 0 (λ e. omega arith) ∙ first
    in
    omega (
      arith,
      total_set s (waiters + p) 0 (omega arith),
      total_set s₁ (sets + p) 0 (omega arith),
      total_set s₂ there next (omega arith),
    )

module _ (s₀ : List ℕ) (log waiters sets pairs : ℕ) (slots : List Slot) (place goal : ℕ) (ps : List ℕ)
    (a : At s₀ log waiters sets pairs slots place goal ps) where
  -- The pairs that are left.
  pub record Left (s : List ℕ) (first : ℕ) (rest : List ℕ) : Type 0 where
    pub now : LogNow s₀ s log waiters sets pairs (length slots) (set slots place (waits goal rest))
    pub head : first ≡ link rest

  pub leaving_begins : Left s₀ (get_or s₀ (log + 2 * place + 1) 0) ps
  unfolding SlotStands
  leaving_begins =
      let stands : SlotStands s₀ log waiters sets pairs place (waits goal ps) = rw a.it at (a.ok.stands place a.here) in
      record {
        now = record {
          ok = rw (same_slots slots place (waits goal ps) a.it) a.ok;
          only = log_only_same log waiters sets pairs (length slots) s₀;
        };
        head = stands.2;
      }

  pub leaving_ends : (s : List ℕ) (rest : List ℕ) → Left s 0 rest → LogNow s₀ s log waiters sets pairs (length slots) (set slots place (waits goal []))
  leaving_ends s [] l = l.now
  leaving_ends s (p ∷ rest) l = absurd (omega (arith, l.head))

  -- The first pair that is left, at its place in the scratch.
  module _ (s : List ℕ) (q : ℕ) where
    pub record First (p : ℕ) (rest : List ℕ) : Type 0 where
      pub same : q ≡ p
      pub small : p < pairs
      pub space : log + 2 * place + 2 ≤ length s
      pub waiter : get_or s (waiters + p) 0 ≡ place + 1
      pub next : get_or s (sets + p) 0 ≡ link rest
      pub this : get_or s (log + 2 * place + 1) 0 ≡ p + 1

    first_left : (p : ℕ) (rest : List ℕ) → Left s (q + 1) (p ∷ rest) → First p rest
    unfolding SlotStands Chain
    first_left p rest l =
        let v = waits goal (p ∷ rest) in
        let inside : place < length (set slots place v) = omega (arith, length-set slots place v, a.here) in
        let stands : SlotStands s log waiters sets pairs place v =
        rw (get_or-set_same slots place v gone a.here) at (l.now.ok.stands place inside)
        in
        record {
          same = omega (arith, l.head);
          small = stands.3.0;
          space = omega (arith, l.now.ok.inside);
          waiter = stands.3.1;
          next = stands.3.2;
          this = stands.2;
        }

    pub leaving_inside : (rest : List ℕ) → Left s (q + 1) rest
        → (waiters + q < length s) × (sets + q < length s) × (log + 2 * place + 1 < length s)
    leaving_inside [] l = absurd (omega (arith, l.head))
    leaving_inside (p ∷ rest) l =
        let f = first_left p rest l in
        (omega (arith, a.ok.waiters_first, a.ok.sets_next), omega (arith, a.ok.sets_next), omega arith)

    pub leaving_less : (rest : List ℕ) → Left s (q + 1) rest
        → total (pointed s log waiters sets place q 0 0 (get_or s (sets + q) 0)) < total s
    leaving_less [] l = absurd (omega (arith, l.head))
    leaving_less (p ∷ rest) l =
        let f = first_left p rest l in
        rw f.same (pointed_less s log waiters sets pairs place p (get_or s (sets + p) 0) a.ok.waiters_first a.ok.sets_next f.small f.space f.waiter refl f.this)

    pub leaving_on : (rest : List ℕ) → Left s (q + 1) rest
        → (rest' : List ℕ) × Left (pointed s log waiters sets place q 0 0 (get_or s (sets + q) 0)) (get_or s (sets + q) 0) rest'
    leaving_on [] l = absurd (omega (arith, l.head))
    leaving_on (p ∷ rest) l =
        let v = waits goal (p ∷ rest) in
        let f = first_left p rest l in
        let inside : place < length (set slots place v) = omega (arith, length-set slots place v, a.here) in
        let next = get_or s (sets + p) 0 in
        let s' = pointed s log waiters sets place p 0 0 next in (
          rest,
          rw f.same
              (record {
                now = record {
                  ok =
                      rw (set-set slots place v (waits goal rest)) at
                      (pair_leaves s log waiters sets pairs (set slots place v) l.now.ok place inside goal p rest
                      (get_or-set_same slots place v gone a.here));
                  only =
                      log_only_then log waiters sets pairs (length slots) s₀ s s' l.now.only
                      (pointed_only log waiters sets pairs (length slots) s place p 0 0 next a.ok.waiters_first a.ok.sets_next f.small f.space a.here);
                };
                head = f.next;
              }),
        )
