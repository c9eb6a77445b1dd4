-- From a pair to the goal that waits on it, and what other writes leave of the log: laws for the step.
-- A set holds exactly the pairs of its readers; a pair without a waiter stands in no set.
use Prim.Native.Nat.{ℕ, ◌+◌, ◌*◌, ◌≤◌, ◌<◌}
use mathlib.Core.Path.{◌≡◌, refl, ap, sym, ◌∙◌}
use mathlib.Core.Bool.{Bool, true, false, ◌||◌, true≢false}
use mathlib.Core.List.{List, [], ◌∷◌}
use native.Mathlib.Omega.{arith}
use lib.Dec.{eqb}
use lib.ListN.{length, get_or}
use borrow.Author.Tests.{eqb-true}
use Rattle.meaning.specs.Bytes.{among, when◌then◌else◌}
use Rattle.run_queues.specs.Log.{Slot, gone, waits, pairs_in, slot, SlotStands, LogOk, joined, gathered}
use Rattle.run_queues.proofs.Log.{slot_still, chain_waiter}

-- Only words outside the pairs' waiters and sets and outside the log differ.
pub log_kept : (s s' : List ℕ) (log waiters sets pairs : ℕ) (slots : List Slot) → LogOk s log waiters sets pairs slots → length s' ≡ length s
    → ((x : ℕ) → waiters ≤ x → x < sets + pairs → get_or s' x 0 ≡ get_or s x 0)
    → ((x : ℕ) → log ≤ x → x < log + 2 * length slots → get_or s' x 0 ≡ get_or s x 0)
    → LogOk s' log waiters sets pairs slots
log_kept s s' log waiters sets pairs slots ok size same same_log =
    record {
      waiters_first = ok.waiters_first;
      sets_next = ok.sets_next;
      inside = omega (arith, ok.inside);
      stands = λ i h.
          slot_still s s' log waiters sets pairs i
          (λ q b w. (same (waiters + q) (omega arith) (omega (arith, ok.waiters_first)), same (sets + q) (omega (arith, ok.waiters_first)) (omega arith)))
          (slot slots i) (same_log (log + 2 * i) (omega arith) (omega arith)) (same_log (log + 2 * i + 1) (omega arith) (omega arith)) (ok.stands i h);
      waiter = λ p i h w. ok.waiter p i h (sym (same (waiters + p) (omega arith) (omega (arith, ok.waiters_first))) ∙ w);
    }

in_set : (s : List ℕ) (log waiters sets pairs i q : ℕ) (v : Slot) → SlotStands s log waiters sets pairs i v → among q (pairs_in v) ≡ true
    → get_or s (waiters + q) 0 ≡ i + 1
unfolding SlotStands among
in_set s log waiters sets pairs i q gone k e = absurd (true≢false (sym e))
in_set s log waiters sets pairs i q (waits goal ps) k e = (chain_waiter s waiters sets pairs i q ps k.3 e).1

module _ (s : List ℕ) (log waiters sets pairs : ℕ) (slots : List Slot) (ok : LogOk s log waiters sets pairs slots) where
  -- The goal that waits on a pair is the one at its waiter's place.
  pub set_waiter : (i q : ℕ) → i < length slots → among q (pairs_in (slot slots i)) ≡ true → get_or s (waiters + q) 0 ≡ i + 1
  set_waiter i q h e = in_set s log waiters sets pairs i q (slot slots i) (ok.stands i h) e

  -- So no pair stands in two sets,
  pub one_set : (i j q : ℕ) → i < length slots → j < length slots → among q (pairs_in (slot slots i)) ≡ true
      → among q (pairs_in (slot slots j)) ≡ true → i ≡ j
  one_set i j q h k a b = omega (arith, set_waiter i q h a, set_waiter j q k b)

  -- and a pair without a waiter in none.
  pub nobody_waits : (i q : ℕ) → i < length slots → get_or s (waiters + q) 0 ≡ 0 → among q (pairs_in (slot slots i)) ≡ false
  nobody_waits i q h z = go (among q (pairs_in (slot slots i))) refl
    where
      go : (b : Bool) → among q (pairs_in (slot slots i)) ≡ b → b ≡ false
      go true e = absurd (omega (arith, set_waiter i q h e))
      go false e = refl

-- A set gathered from readers holds their pairs and no other.
or_same : (a b : Bool) → (a ≡ true → b ≡ true) → b ≡ (a || b)
or_same true b h = h refl
or_same false b h = refl

joined_among : (q p : ℕ) (ps : List ℕ) → among q (joined p ps) ≡ (eqb q p || among q ps)
unfolding joined when◌then◌else◌ among
joined_among q p ps = go (among p ps) refl
  where
    go : (b : Bool) → among p ps ≡ b → among q (when b then ps else p ∷ ps) ≡ (eqb q p || among q ps)
    go true e = or_same (eqb q p) (among q ps) (λ f. ap (λ x. among x ps) (eqb-true q p f) ∙ e)
    go false e = refl

or_third : (a b c : Bool) → ((a || b) || c) ≡ (b || (a || c))
or_third true true c = refl
or_third true false c = refl
or_third false b c = refl

pub gathered_among : (q : ℕ) (ps rs : List ℕ) → among q (gathered ps rs) ≡ (among q ps || among q rs)
unfolding gathered among
gathered_among q ps [] = no_more (among q ps)
  where
    no_more : (a : Bool) → a ≡ (a || false)
    no_more true = refl
    no_more false = refl
gathered_among q ps (r ∷ rs) =
    gathered_among q (joined r ps) rs
    ∙ ap (λ b. b || among q rs) (joined_among q r ps)
    ∙ or_third (eqb q r) (among q ps) (among q rs)
