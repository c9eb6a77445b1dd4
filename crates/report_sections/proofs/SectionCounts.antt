-- A section counted: its header, its values, its goals in the three lists, one behind the other.
use Prim.Native.Nat.{ℕ, zero, suc, ◌+◌}
use mathlib.Core.Path.{◌≡◌, refl, ap₂, ◌∙◌}
use mathlib.Core.List.{List, [], ◌∷◌, ◌++◌, append_assoc}
use lib.ListN.{length}
use Rattle.meaning.specs.Bytes.{Bytes, bytes, when◌then◌else◌}
use Rattle.meaning.specs.Terms.{as_term}
use Rattle.meaning.specs.State.{Goal}
use Rattle.term.specs.Setting.{Setting}
use Rattle.report_pairs.specs.Threaded.{shown_values, seen_after_values, shown_goals, seen_after_goals, lines_seen}
use Rattle.report_pairs.specs.Laid.{capped}
use Rattle.report_pairs.specs.Facts.{Readable, Changed}
use Rattle.report_count.specs.Counts.{Counts, Counted}
use Rattle.report_tallies.specs.Groups.{goal_in, own, own_from}
use Rattle.report_tallies.specs.declared.groups.Group.{Group}
use Rattle.report_sections.specs.Sections.{GoalsHeld, Listed}
use Rattle.report_sections.specs.Whole.{lines_shown}
use Rattle.report_count.proofs.Lengths.{counted_bytes, counted_then, counted_as}
use Rattle.report_sections.proofs.GoalLines.{term_kept, goal_kept, inside_kept}

-- A list of goals stays when facts change.
own_kept : (s s' : List ℕ) (g : Group) (q : ℕ) → ((i : ℕ) → goal_in s' g i ≡ goal_in s g i) → (n i : ℕ) → own_from s' g q i n ≡ own_from s g q i n
unfolding own_from
own_kept s s' g q same zero i = refl
own_kept s s' g q same (suc n) i =
    ap₂ (λ (w : ℕ) (l : List ℕ). when own q w then w ∷ l else l) (same i) (own_kept s s' g q same n (i + 1))

held_kept : (s s' : List ℕ) (text : Bytes) (x : Setting) (facts : ℕ) → Readable s text x facts → Changed s s' x facts → (gs : List Goal)
    → GoalsHeld s x gs → GoalsHeld s' x gs
held_kept s s' text x facts r c [] h = tt
held_kept s s' text x facts r c (g ∷ gs) h = (term_kept s s' text x facts r c (as_term g.goal) h.0, h.1, held_kept s s' text x facts r c gs h.2)

pub listed_kept : (s s' : List ℕ) (text : Bytes) (x : Setting) (facts : ℕ) (g : Group) (q : ℕ) (gs : List Goal) → Readable s text x facts → Changed s s' x facts
    → Listed s x facts g q gs → Listed s' x facts g q gs
listed_kept s s' text x facts g q gs r c l =
    record {
      small = l.small;
      inside = inside_kept s s' x facts g c l.inside;
      behind = l.behind;
      low = l.low;
      words = own_kept s s' g q (λ i. goal_kept s s' text x facts g i r c l.behind) g.count 0 ∙ l.words;
      origins = l.origins;
      held = held_kept s s' text x facts r c gs l.held;
    }

pub listed_as : (s : List ℕ) (x : Setting) (facts : ℕ) (g g' : Group) (q : ℕ) (gs : List Goal) → g' ≡ g → Listed s x facts g q gs → Listed s x facts g' q gs
listed_as s x facts g g' q gs e l = rw e l

-- The five pieces.
pub section_counted : (s s₁ s₂ s₃ s₄ : List ℕ) (text : Bytes) (x : Setting) (facts at : ℕ) (head : Bytes) (r₀ r₁ r₂ r₃ r₄ : ℕ) (xs : List Bytes) (actives ws fs : List Goal)
    → Counts s text x facts [] at → r₀ ≡ capped (at + length head)
    → (c₁ : Counted s s₁ text x facts r₀ [] (shown_values x.values [] 0 xs) (seen_after_values x.values [] 0 xs) r₁)
    → (c₂ : Counted s₁ s₂ text x facts r₁ c₁.after (shown_goals x.values c₁.after (bytes "active ") actives) (seen_after_goals x.values c₁.after actives) r₂)
    → (c₃ : Counted s₂ s₃ text x facts r₂ c₂.after (shown_goals x.values c₂.after (bytes "waiting ") ws) (seen_after_goals x.values c₂.after ws) r₃)
    → Counted s₃ s₄ text x facts r₃ c₃.after (shown_goals x.values c₃.after (bytes "failed ") fs) (seen_after_goals x.values c₃.after fs) r₄
    → Counted s s₄ text x facts at [] (head ++ lines_shown x.values xs actives ws fs) (lines_seen x.values xs actives ws fs) r₄
unfolding lines_shown lines_seen counted_bytes counted_then
section_counted s s₁ s₂ s₃ s₄ text x facts at head r₀ r₁ r₂ r₃ r₄ xs actives ws fs c e c₁ c₂ c₃ c₄ =
    let values = x.values in
    let d₀ = counted_bytes s text x facts [] at head r₀ c e in
    let d₁ = counted_then s s s₁ text x facts at [] head [] r₀ r₁ (λ l. shown_values values l 0 xs) (λ l. seen_after_values values l 0 xs) d₀ c₁ in
    let d₂ = counted_then s s₁ s₂ text x facts at [] _ _ r₁ r₂ (λ l. shown_goals values l (bytes "active ") actives) (λ l. seen_after_goals values l actives) d₁ c₂ in
    let d₃ = counted_then s s₂ s₃ text x facts at [] _ _ r₂ r₃ (λ l. shown_goals values l (bytes "waiting ") ws) (λ l. seen_after_goals values l ws) d₂ c₃ in
    let d₄ = counted_then s s₃ s₄ text x facts at [] _ _ r₃ r₄ (λ l. shown_goals values l (bytes "failed ") fs) (λ l. seen_after_goals values l fs) d₃ c₄ in
    counted_as s s₄ text x facts at [] _ _ _ _ r₄ (five head _ _ _ _) refl d₄
  where
    five : (a b c d e : Bytes) → (((a ++ b) ++ c) ++ d) ++ e ≡ a ++ (b ++ (c ++ (d ++ e)))
    five a b c d e = append_assoc ((a ++ b) ++ c) d e ∙ append_assoc (a ++ b) c (d ++ e) ∙ append_assoc a b (c ++ (d ++ e))
