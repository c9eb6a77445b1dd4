-- The ring: a goal stored behind the last one is a goal more at the end, since no place of the ring is used twice.
-- Counting on from the end of the ring is counting from its beginning.
use Prim.Native.Nat.{ℕ, zero, suc, ◌+◌, ◌-◌, ◌≤◌, ◌<◌}
use mathlib.Core.Path.{◌≡◌, refl, ap, sym, ◌∙◌}
use mathlib.Core.Bool.{Bool, true, false}
use mathlib.Core.List.{List, [], ◌∷◌, ◌++◌}
use native.Mathlib.Omega.{arith}
use native.Mathlib.Numerals.{add-one}
use lib.Dec.{ltb}
use lib.ListN.{length, get_or, set}
use lib.Seq.{get_or-set_same, get_or-set_other}
use borrow.Author.Tests.{ltb-true, ltb-false}
use Rattle.term.proofs.Frames.{only_set}
use Rattle.run_queues.specs.Ring.{RingOk, Pushed, Passed}
use Rattle.term.specs.States.{round, ring}
use Rattle.run_queues.proofs.Deciding.{if_below, if_beyond}

pub round_below : (size at : ℕ) → at < size → round size at ≡ at
unfolding round
round_below size at h = if_below at size at (at - size) h

pub round_beyond : (size at : ℕ) → size ≤ at → round size at ≡ at - size
unfolding round
round_beyond size at h = if_beyond at size at (at - size) h

-- Within two turns a place is inside, and two that are less than a turn apart are different.
pub round_inside : (size at : ℕ) → at < size + size → round size at < size
round_inside size at h = go (ltb at size) refl
  where
    go : (b : Bool) → ltb at size ≡ b → round size at < size
    go true e = omega (arith, ltb-true at size e, round_below size at (ltb-true at size e))
    go false e = omega (arith, ltb-false at size e, round_beyond size at (ltb-false at size e))

round_apart : (size at more : ℕ) → 0 < more → more < size → at + more < size + size → round size at ≡ round size (at + more) → ⊥
round_apart size at more some less far same = go (ltb at size) refl (ltb (at + more) size) refl
  where
    go : (b : Bool) → ltb at size ≡ b → (d : Bool) → ltb (at + more) size ≡ d → ⊥
    go true e true f =
        omega (arith, round_below size at (ltb-true at size e), round_below size (at + more) (ltb-true (at + more) size f))
    go true e false f =
        omega (arith, round_below size at (ltb-true at size e), round_beyond size (at + more) (ltb-false (at + more) size f), ltb-true at size e, ltb-false (at + more) size f)
    go false e true f = omega (arith, ltb-false at size e, ltb-true (at + more) size f)
    go false e false f =
        omega (arith, round_beyond size at (ltb-false at size e), round_beyond size (at + more) (ltb-false (at + more) size f), ltb-false at size e, ltb-false (at + more) size f)

module _ (queue size : ℕ) where
  -- A word stored at the place behind n goals.
  pub ring_stored : (s : List ℕ) (g at n : ℕ) → queue + size ≤ length s → n < size → at + n < size + size
      → ring (set s (queue + round size (at + n)) g) queue size at (suc n) ≡ ring s queue size at n ++ (g ∷ [])
  unfolding ring
  ring_stored s g at zero inside less far =
      let e : at + 0 ≡ at = omega arith in
      rw e (ap (λ w. w ∷ []) (get_or-set_same s (queue + round size at) g 0 (omega (arith, round_inside size at (omega arith)))))
  ring_stored s g at (suc n) inside less far =
      let e : at + suc n ≡ at + 1 + n = omega arith in
      let first : get_or (set s (queue + round size (at + suc n)) g) (queue + round size at) 0 ≡ get_or s (queue + round size at) 0 =
      get_or-set_other s (queue + round size (at + suc n)) (queue + round size at) g 0
      (λ same. round_apart size at (suc n) (omega arith) less far (omega arith))
      in
      let later : ring (set s (queue + round size (at + suc n)) g) queue size (at + 1) (suc n) ≡ ring s queue size (at + 1) n ++ (g ∷ []) =
      ap (λ at'. ring (set s (queue + round size at') g) queue size (at + 1) (suc n)) e ∙ ring_stored s g (at + 1) n inside (omega arith) (omega arith)
      in
      cc

  pub ring_pushed : (s : List ℕ) (front active g : ℕ) → RingOk s queue size front → active < size
      → Pushed s (set s (queue + round size (front + active)) g) queue size front active g
  ring_pushed s front active g ok less =
      record {
        words = refl;
        only =
            only_set queue (queue + size) s (queue + round size (front + active)) g (omega arith)
            (omega (arith, round_inside size (front + active) (omega (arith, ok.front_inside))));
        items = rw (add-one active) (ring_stored s g front active ok.inside less (omega (arith, ok.front_inside)));
      }

  -- Past the end the ring begins anew.
  pub ring_anew : (s : List ℕ) (at n : ℕ) → at + n ≤ size → ring s queue size (size + at) n ≡ ring s queue size at n
  unfolding ring
  ring_anew s at zero far = refl
  ring_anew s at (suc n) far =
      let e : round size (size + at) ≡ round size at =
      round_beyond size (size + at) (omega arith) ∙ omega (arith, round_below size at (omega arith))
      in
      let f : size + at + 1 ≡ size + (at + 1) = omega arith in
      rw (e, f) (ap (λ l. get_or s (queue + round size at) 0 ∷ l) (ring_anew s (at + 1) n (omega arith)))

  pub ring_first : (s : List ℕ) (front n : ℕ) → front < size
      → ring s queue size front (n + 1) ≡ get_or s (queue + front) 0 ∷ ring s queue size (front + 1) n
  unfolding ring
  ring_first s front n h = rw (add-one n, round_below size front h)

  -- The ring is what its words are.
  pub ring_kept : (s s' : List ℕ) (at n : ℕ) → at + n ≤ size + size → ((x : ℕ) → queue ≤ x → x < queue + size → get_or s' x 0 ≡ get_or s x 0)
      → ring s' queue size at n ≡ ring s queue size at n
  unfolding ring
  ring_kept s s' at zero far same = refl
  ring_kept s s' at (suc n) far same =
      let first = same (queue + round size at) (omega arith) (omega (arith, round_inside size at (omega arith))) in
      let later = ring_kept s s' (at + 1) n (omega arith) same in
      cc

pub passed_on : (size front : ℕ) → front + 1 < size → Passed size front (front + 1)
passed_on size front h = record { place = sym (round_below size (front + 1) h); front_inside = h; items = λ s queue n less. ring_first queue size s front n (omega arith) }

pub passed_round : (size front : ℕ) → front + 1 ≡ size → Passed size front 0
passed_round size front h = record { place = omega (arith, round_beyond size (front + 1) (omega arith)); front_inside = omega arith; items = λ s queue n less. ring_first queue size s front n (omega arith) ∙ anew s queue n less }
  where
    anew : (s : List ℕ) (queue n : ℕ) → n < size
        → get_or s (queue + front) 0 ∷ ring s queue size (front + 1) n ≡ get_or s (queue + front) 0 ∷ ring s queue size 0 n
    anew s queue n less =
        let e : front + 1 ≡ size + 0 = omega arith in
        rw e (ap (λ l. get_or s (queue + front) 0 ∷ l) (ring_anew queue size s 0 n (omega arith)))
