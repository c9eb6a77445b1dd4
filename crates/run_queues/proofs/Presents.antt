-- The goals of the log by its slots: of a log with a goal more, of a log closed up, and which slots they come from.
use Prim.Native.Nat.{ℕ, zero, suc, ◌<◌}
use mathlib.Core.Path.{◌≡◌, refl, ap, sym, ◌∙◌}
use mathlib.Core.Logic.{⊎_elim}
use mathlib.Core.List.{List, [], ◌∷◌, ◌++◌, map, append-nil, append_assoc}
use native.Mathlib.Omega.{arith}
use lib.ListN.{length}
use Rattle.laws.proofs.Lists.Among.{In, here, there, in_cons_cases, in_none, in_append_right}
use Rattle.run_queues.specs.Log.{Slot, gone, waits, slot, goal_of, present}

-- The goals of a list of slots, from its first on.
abbrev goals_of : List Slot → List Slot
goals_of [] = []
goals_of (v ∷ slots) = goal_of v ++ goals_of slots

present_first : (v : Slot) (slots : List Slot) (n : ℕ) → present (v ∷ slots) (suc n) ≡ goal_of v ++ present slots n
unfolding present
present_first v slots zero = sym (append-nil (goal_of v))
present_first v slots (suc n) =
    ap (λ l. l ++ goal_of (slot slots n)) (present_first v slots n) ∙ append_assoc (goal_of v) (present slots n) (goal_of (slot slots n))

present_goals : (slots : List Slot) → present slots (length slots) ≡ goals_of slots
unfolding present
present_goals [] = refl
present_goals (v ∷ slots) = present_first v slots (length slots) ∙ ap (λ l. goal_of v ++ l) (present_goals slots)

goals_append : (slots more : List Slot) → goals_of (slots ++ more) ≡ goals_of slots ++ goals_of more
goals_append [] more = refl
goals_append (v ∷ slots) more =
    ap (λ l. goal_of v ++ l) (goals_append slots more) ∙ sym (append_assoc (goal_of v) (goals_of slots) (goals_of more))

goals_of_one : (v : Slot) → goals_of (goal_of v) ≡ goal_of v
goals_of_one gone = refl
goals_of_one (waits goal ps) = refl

goals_again : (slots : List Slot) → goals_of (goals_of slots) ≡ goals_of slots
goals_again [] = refl
goals_again (v ∷ slots) =
    goals_append (goal_of v) (goals_of slots)
    ∙ ap (λ l. l ++ goals_of (goals_of slots)) (goals_of_one v)
    ∙ ap (λ l. goal_of v ++ l) (goals_again slots)

-- A log closed up has the goals that it had.
pub present_closed : (slots : List Slot)
    → present (present slots (length slots)) (length (present slots (length slots))) ≡ present slots (length slots)
present_closed slots =
    present_goals (present slots (length slots)) ∙ ap goals_of (present_goals slots) ∙ goals_again slots ∙ sym (present_goals slots)

-- A goal more at its end.
pub present_more : (slots : List Slot) (goal : ℕ) (ps : List ℕ)
    → present (slots ++ (waits goal ps ∷ [])) (length (slots ++ (waits goal ps ∷ []))) ≡ present slots (length slots) ++ (waits goal ps ∷ [])
present_more slots goal ps =
    present_goals (slots ++ (waits goal ps ∷ []))
    ∙ goals_append slots (waits goal ps ∷ [])
    ∙ ap (λ l. l ++ (waits goal ps ∷ [])) (sym (present_goals slots))

-- A goal in a slot is one of them.
goal_in_goals : (slots : List Slot) (i goal : ℕ) (ps : List ℕ) → i < length slots → slot slots i ≡ waits goal ps → In (waits goal ps) (goals_of slots)
goal_in_goals [] i goal ps h e = absurd (omega arith)
goal_in_goals (v ∷ slots) zero goal ps h e = rw e (here refl)
goal_in_goals (v ∷ slots) (suc i) goal ps h e = in_append_right (goal_of v) (goal_in_goals slots i goal ps (omega arith) e)

pub goal_present : (slots : List Slot) (i goal : ℕ) (ps : List ℕ) → i < length slots → slot slots i ≡ waits goal ps
    → In (waits goal ps) (present slots (length slots))
goal_present slots i goal ps h e = rw (present_goals slots) (goal_in_goals slots i goal ps h e)

-- What stands in a mapped list comes from one that stands in the list.
pub in_mapped : {A B : Type 0} (f : A → B) (l : List A) {b : B} → In b (map f l) → (a : A) × In a l × (b ≡ f a)
in_mapped f [] m = absurd (in_none m)
in_mapped {A} {B} f (a ∷ l) {b} m =
    ⊎_elim {C = (a' : A) × In a' (a ∷ l) × (b ≡ f a')} (λ e. (a, here refl, e)) (λ n. later (in_mapped f l n)) (in_cons_cases m)
  where
    later : (a' : A) × In a' l × (b ≡ f a') → (a' : A) × In a' (a ∷ l) × (b ≡ f a')
    later (a', n, e) = (a', there n, e)

-- A list with one of its elements has others before and behind it.
pub in_split : {A : Type 0} {a : A} (l : List A) → In a l → (first : List A) × (behind : List A) × (l ≡ first ++ a ∷ behind)
in_split [] m = absurd (in_none m)
in_split {A} {a} (b ∷ l) m =
    ⊎_elim {C = (first : List A) × (behind : List A) × (b ∷ l ≡ first ++ a ∷ behind)}
    (λ e. ([], l, ap (λ x. x ∷ l) (sym e)))
    (λ n. later (in_split l n))
    (in_cons_cases m)
  where
    later : (first : List A) × (behind : List A) × (l ≡ first ++ a ∷ behind) → (first : List A) × (behind : List A) × (b ∷ l ≡ first ++ a ∷ behind)
    later (first, behind, e) = (b ∷ first, behind, ap (λ x. b ∷ x) e)
