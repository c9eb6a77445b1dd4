-- The waiting goals' words in the log are those of its slots' goals, in order.
use Prim.Native.Nat.{ℕ, zero, suc, ◌+◌, ◌*◌, ◌≤◌, ◌<◌}
use mathlib.Core.Path.{◌≡◌, refl, ap, sym, ◌∙◌}
use mathlib.Core.List.{List, [], ◌∷◌, ◌++◌, map}
use native.Mathlib.Omega.{arith}
use lib.ListN.{length, get_or}
use Rattle.meaning.specs.State.{Waiting}
use Rattle.term.specs.States.{Atlas, goal_word, standing, logged}
use Rattle.run_queues.specs.Log.{Slot, gone, waits, slot, SlotStands, LogOk, goal_of, present}
use Rattle.run_effects.specs.Reducing.{goal_in}
use Rattle.run_between.specs.Running.{slot_of}

pub map_both : {A B : Type 0} (f : A → B) (xs ys : List A) → map f (xs ++ ys) ≡ map f xs ++ map f ys
map_both f [] ys = refl
map_both f (x ∷ xs) ys = ap (λ l. f x ∷ l) (map_both f xs ys)

standing_goal : (goal : ℕ) → 0 < goal → standing goal ≡ goal ∷ []
standing_goal zero h = absurd (omega arith)
standing_goal (suc goal) h = refl

slot_logged : (s : List ℕ) (log waiters sets pairs i : ℕ) (v : Slot) → SlotStands s log waiters sets pairs i v
    → standing (get_or s (log + 2 * i) 0) ≡ map goal_in (goal_of v)
unfolding SlotStands
slot_logged s log waiters sets pairs i gone k = ap standing k.0
slot_logged s log waiters sets pairs i (waits goal ps) k = ap standing k.1 ∙ standing_goal goal k.0

module _ (s : List ℕ) (log waiters sets pairs : ℕ) (slots : List Slot) (ok : LogOk s log waiters sets pairs slots) where
  first_logged : (n : ℕ) → n ≤ length slots → logged s log n ≡ map goal_in (present slots n)
  unfolding logged present
  first_logged zero h = refl
  first_logged (suc n) h =
      ap (λ l. l ++ standing (get_or s (log + 2 * n) 0)) (first_logged n (omega arith))
      ∙ ap (λ l. map goal_in (present slots n) ++ l) (slot_logged s log waiters sets pairs n (slot slots n) (ok.stands n (omega arith)))
      ∙ sym (map_both goal_in (present slots n) (goal_of (slot slots n)))

  pub logged_present : logged s log (length slots) ≡ map goal_in (present slots (length slots))
  logged_present = first_logged (length slots) (omega arith)

-- So the waiting goals stand in the log.
pub slots_goals : (atlas : Atlas) (ws : List Waiting) → map goal_in (map (slot_of atlas) ws) ≡ map (λ w. goal_word atlas w.goal) ws
slots_goals atlas [] = refl
slots_goals atlas (w ∷ ws) = ap (λ l. goal_word atlas w.goal ∷ l) (slots_goals atlas ws)

pub waiting_logged : (s : List ℕ) (log waiters sets pairs : ℕ) (slots : List Slot) (atlas : Atlas) (ws : List Waiting)
    → LogOk s log waiters sets pairs slots → present slots (length slots) ≡ map (slot_of atlas) ws
    → logged s log (length slots) ≡ map (λ w. goal_word atlas w.goal) ws
waiting_logged s log waiters sets pairs slots atlas ws ok e =
    logged_present s log waiters sets pairs slots ok ∙ ap (map goal_in) e ∙ slots_goals atlas ws
