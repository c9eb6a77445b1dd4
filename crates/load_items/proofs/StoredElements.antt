-- Elements in the scratch: words outside of their compounds may be set before or after them, and what they hold they hold.
-- So their words as goals, or as guards, may be set when all are read.
use Prim.Native.Nat.{ℕ, suc, ◌+◌, ◌≤◌, ◌<◌}
use mathlib.Core.Path.{◌≡◌, refl, ap, sym, ◌∙◌}
use mathlib.Core.Logic.{◌≢◌}
use mathlib.Core.Bool.{Bool, true, false, ◌&&◌}
use mathlib.Core.List.{List, [], ◌∷◌}
use mathlib.Core.Option.{Option, none, some}
use native.Mathlib.Omega.{arith}
use lib.Dec.{eqb}
use lib.ListN.{length, set}
use lib.Seq.{set_comm}
use Rattle.meaning.specs.Bytes.{Bytes, bytes, same}
use Rattle.meaning.specs.Terms.{Half, Term, Terms, compound, end, more, Row, Named, named, Guard, as_term, count, occurrences, goals_occurrences}
use Rattle.meaning.specs.Table.{Element, whole, bare, equals, as_goals, row, rows_before, rows_between, rows_alone, in_rows, as_guard, with_guard, as_guards}
use Rattle.laws.proofs.Lists.Tests.{differ, and_left, same_true}
use Rattle.term.specs.Cells.{Places as CellPlaces, term_word, stored, Known}
use Rattle.term.specs.Guards.{guard_word}
use Rattle.term.specs.Jobs.{GoalsKnown}
use Rattle.term.specs.Layout.{item_start, item_place}
use Rattle.term.proofs.Cells.{numbered_order, stored_set}
use Rattle.load_image.specs.Image.{goals_stored, test_stored, guards_stored}
use Rattle.load_elements.specs.Elements.{
  element_stored,
  elements_stored,
  element_occurrences,
  elements_occurrences,
  ElementNumbered,
  ElementsNumbered,
  ElementKnown,
  ElementsKnown,
}
use Rattle.load_guards.specs.Judged.{tests_set}
use Rattle.load_guards.proofs.Held.{element_order, elements_order}
use Rattle.load_items.specs.Rules.{goals_set, TestNamed, GuardsNamed}

-- Words set before or after.
module _ (places : CellPlaces) (base : ℕ) (at : (n : ℕ) → places.compound n ≡ item_place base n) (k v : ℕ) where
  abbrev Apart : ℕ → ℕ → Type 0
  Apart lo hi = (j : ℕ) → item_place base lo ≤ j → j < item_place base hi → k ≢ j

  element_set : (lo hi : ℕ) (e : Element) (s : List ℕ) → ElementNumbered lo hi e → Apart lo hi
      → element_stored places e (set s k v) ≡ set (element_stored places e s) k v
  unfolding ElementNumbered element_stored
  element_set lo hi (whole g) s m outside = stored_set places base at lo hi (as_term g) s k v m outside
  element_set lo hi (bare f) s m outside = refl
  element_set lo hi (equals n t u) s m outside =
      let left : lo ≤ n = numbered_order lo n t m.0 in
      let right : n + 1 ≤ hi = numbered_order (n + 1) hi u m.1 in
      let c = places.compound n in
      let here : c ≡ item_place base n = at n in
      let wt = term_word places t in
      let wu = term_word places u in
      let s₂ = stored places u (stored places t s) in
      ap (λ l. set (set (stored places u l) (c + 1) wt) (c + 2) wu) (stored_set places base at lo n t s k v m.0 (λ j l h. outside j (omega arith) (omega arith)))
      ∙ ap (λ l. set (set l (c + 1) wt) (c + 2) wu)
      (stored_set places base at (n + 1) hi u (stored places t s) k v m.1 (λ j l h. outside j (omega arith) (omega arith)))
      ∙ ap (λ l. set l (c + 2) wu) (set_comm s₂ k (c + 1) v wt (outside (c + 1) (omega arith) (omega arith)))
      ∙ set_comm (set s₂ (c + 1) wt) k (c + 2) v wu (outside (c + 2) (omega arith) (omega arith))

  elements_set : (lo hi : ℕ) (es : List Element) (s : List ℕ) → ElementsNumbered lo hi es → Apart lo hi
      → elements_stored places es (set s k v) ≡ set (elements_stored places es s) k v
  unfolding ElementsNumbered elements_stored
  elements_set lo hi [] s m outside = refl
  elements_set lo hi (e ∷ es) s m outside =
      let mid = m.0 in
      let low : lo ≤ mid = element_order lo mid e m.1 in
      let high : mid ≤ hi = elements_order mid hi es m.2 in
      ap (elements_stored places es) (element_set lo mid e s m.1 (λ j l h. outside j (omega arith) (omega arith)))
      ∙ elements_set mid hi es (element_stored places e s) m.2 (λ j l h. outside j (omega arith) (omega arith))

-- What holds of each of some rows holds of the one that a name finds among them.
RowsHold : (Row → Type 0) → List Row → Type 0
RowsHold P [] = Unit {0}
RowsHold P (r ∷ rows) = P r × RowsHold P rows

record FromRow (P : Row → Type 0) (f : Bytes) (n : ℕ) (ts : Terms) (g : Guard) : Type 0 where
  its_row : Row
  its : P its_row
  called : its_row.name ≡ f
  made : g ≡ record { row = its_row; number = n; arguments = ts }

from_rows : (P : Row → Type 0) (rows : List Row) (f : Bytes) (n : ℕ) (ts : Terms) (g : Guard) → RowsHold P rows → in_rows rows f n ts ≡ some g → FromRow P f n ts g
unfolding in_rows RowsHold
from_rows P [] f n ts g h e = absurd (differ (cc))
from_rows P (r ∷ rows) f n ts g h e = go (same r.name f && eqb r.count (count ts)) refl (from_rows P rows f n ts g h.1)
  where
    go : (b : Bool) → (same r.name f && eqb r.count (count ts)) ≡ b → (in_rows rows f n ts ≡ some g → FromRow P f n ts g) → FromRow P f n ts g
    go true q further =
        let e' : some (record { row = r; number = n; arguments = ts }) ≡ some g = rw (q, in_rows) at e in
        let g_is : g ≡ record { row = r; number = n; arguments = ts } = cc in
        record { its_row = r; its = h.0; called = same_true r.name f (and_left (same r.name f) (eqb r.count (count ts)) q); made = g_is }
    go false q further = further (rw (q, in_rows) at e)

-- What is stored for a guard of each kind, and which names it has.
module _ (names : List Bytes) where
  abbrev Before : Row → Type 0
  Before r =
      ((places : CellPlaces) (g : Guard) (ts : Terms) (s : List ℕ) → test_stored r.test places g ts s ≡ stored places (compound g.number (named g.row.name) ts) s)
      × ((g : Guard) (ts : Terms) → Known names (compound g.number (named g.row.name) ts) → TestNamed r.test names g ts)

  before_hold : RowsHold Before rows_before
  unfolding RowsHold rows_before row test_stored TestNamed
  before_hold = (
    ((λ p g ts s. refl), (λ g ts k. k)),
    (
      ((λ p g ts s. refl), (λ g ts k. k)),
      (
        ((λ p g ts s. refl), (λ g ts k. k)),
        (((λ p g ts s. refl), (λ g ts k. k)), (((λ p g ts s. refl), (λ g ts k. k)), tt)),
      ),
    ),
  )

  abbrev Between : Row → Type 0
  Between r =
      ((places : CellPlaces) (g : Guard) (t u : Term) (s : List ℕ)
      → test_stored r.test places g (more t (more u end)) s
      ≡ set (set (stored places u (stored places t s)) (places.compound g.number + 1) (term_word places t)) (places.compound g.number + 2) (term_word places u))
      × ((g : Guard) (t u : Term) → Known names t × Known names u → TestNamed r.test names g (more t (more u end)))

  between_hold : RowsHold Between rows_between
  unfolding RowsHold rows_between row test_stored TestNamed
  between_hold = (((λ p g t u s. refl), (λ g t u k. k)), tt)

  abbrev Alone : Row → Type 0
  Alone r = ((places : CellPlaces) (g : Guard) (s : List ℕ) → test_stored r.test places g end s ≡ s) × ((g : Guard) → TestNamed r.test names g end)

  alone_hold : RowsHold Alone rows_alone
  unfolding RowsHold rows_alone row test_stored TestNamed
  alone_hold = (((λ p g s. refl), (λ g. tt)), tt)

  abbrev GuardOf : Element → Guard → Type 0
  GuardOf e g =
      ((places : CellPlaces) (s : List ℕ) → test_stored g.row.test places g g.arguments s ≡ element_stored places e s)
      × (ElementKnown names e → TestNamed g.row.test names g g.arguments)

  by_row : (r : Row) → Before r → (f : Bytes) (n : ℕ) (ts : Terms) (g : Guard) → r.name ≡ f → g ≡ record { row = r; number = n; arguments = ts }
      → ((places : CellPlaces) (s : List ℕ) → test_stored g.row.test places g g.arguments s ≡ stored places (compound n (named f) ts) s)
      × (Known names (compound n (named f) ts) → TestNamed g.row.test names g g.arguments)
  by_row r its f n ts g called made = rw (made, ← called) ((λ places s. its.0 places _ ts s), (λ k. its.1 _ ts k))

  guard_of : (e : Element) (g : Guard) → as_guard e ≡ some g → GuardOf e g
  unfolding as_guard element_stored ElementKnown as_term
  guard_of (whole h) g e =
      let found = from_rows Before rows_before h.name h.number h.arguments g before_hold e in
      by_row found.its_row found.its h.name h.number h.arguments g found.called found.made
  guard_of (bare f) g e =
      let found = from_rows Alone rows_alone f 0 end g alone_hold e in
      let g_is : g ≡ record { row = found.its_row; number = 0; arguments = end } = found.made in
      rw g_is ((λ places s. found.its.0 places _ s), (λ k. found.its.1 _))
  guard_of (equals n t u) g e =
      let found = from_rows Between rows_between (bytes "==") n (more t (more u end)) g between_hold e in
      let g_is : g ≡ record { row = found.its_row; number = n; arguments = more t (more u end) } = found.made in
      rw g_is ((λ places s. found.its.0 places _ t u s), (λ k. found.its.1 _ t u k))

-- The elements as guards, one by one.
guards_cons : (e : Element) (es : List Element) (gs : List Guard) → as_guards (e ∷ es) ≡ some gs
    → (g : Guard) × (later : List Guard) × (as_guard e ≡ some g) × (as_guards es ≡ some later) × (gs ≡ g ∷ later)
unfolding as_guards with_guard
guards_cons e es gs h = go (as_guard e) refl (as_guards es) refl
  where
    go : (o : Option Guard) → as_guard e ≡ o → (os : Option (List Guard)) → as_guards es ≡ os
        → (g : Guard) × (later : List Guard) × (as_guard e ≡ some g) × (as_guards es ≡ some later) × (gs ≡ g ∷ later)
    go none p os q = let h' : none ≡ some gs = rw p at h in absurd (differ (cc))
    go (some g) p none q = let h' : none ≡ some gs = rw (p, q) at h in absurd (differ (cc))
    go (some g) p (some later) q =
        let h' : some (g ∷ later) ≡ some gs = rw (p, q) at h in
        let gs_are : gs ≡ g ∷ later = cc in
        (g, later, p, q, gs_are)

goals_later : (g : Named) (es : List Element) (gs : List Named) → as_goals (whole g ∷ es) ≡ some gs
    → (later : List Named) × (as_goals es ≡ some later) × (gs ≡ g ∷ later)
unfolding as_goals
goals_later g es gs h = go (as_goals es) refl
  where
    go : (o : Option (List Named)) → as_goals es ≡ o → (later : List Named) × (as_goals es ≡ some later) × (gs ≡ g ∷ later)
    go none q = let h' : none ≡ some gs = rw (q, as_goals) at h in absurd (differ (cc))
    go (some later) q =
        let h' : some (g ∷ later) ≡ some gs = rw (q, as_goals) at h in
        let gs_are : gs ≡ g ∷ later = cc in
        (later, q, gs_are)

pub guards_named : (names : List Bytes) (es : List Element) (gs : List Guard) → as_guards es ≡ some gs → ElementsKnown names es → GuardsNamed names gs
unfolding as_guards ElementsKnown GuardsNamed
guards_named names [] gs h k = let gs_are : [] ≡ gs = cc in rw (← gs_are) tt
guards_named names (e ∷ es) gs h k =
    let (g, later, p, q, gs_are) = guards_cons e es gs h in
    rw gs_are ((guard_of names e g p).1 k.0, guards_named names es later q k.1)

pub goals_known : (names : List Bytes) (es : List Element) (gs : List Named) → as_goals es ≡ some gs → ElementsKnown names es → GoalsKnown names gs
unfolding as_goals ElementsKnown ElementKnown GoalsKnown
goals_known names [] gs h k = let gs_are : [] ≡ gs = cc in rw (← gs_are) tt
goals_known names (whole g ∷ es) gs h k =
    let (later, q, gs_are) = goals_later g es gs h in
    rw gs_are (k.0, goals_known names es later q k.1)
goals_known names (bare f ∷ es) gs h k = absurd (differ (cc))
goals_known names (equals n t u ∷ es) gs h k = absurd (differ (cc))

pub goals_occur : (h : Half) (n : ℕ) (es : List Element) (gs : List Named) → as_goals es ≡ some gs → elements_occurrences h n es ≡ goals_occurrences h n gs
unfolding as_goals elements_occurrences element_occurrences goals_occurrences occurrences as_term
goals_occur h n [] gs e = let gs_are : [] ≡ gs = cc in rw (← gs_are) refl
goals_occur h n (whole g ∷ es) gs e =
    let (later, q, gs_are) = goals_later g es gs e in
    rw gs_are (ap (λ m. occurrences h n (as_term g) + m) (goals_occur h n es later q))
goals_occur h n (bare f ∷ es) gs e = absurd (differ (cc))
goals_occur h n (equals m t u ∷ es) gs e = absurd (differ (cc))

pub goals_length : (es : List Element) (gs : List Named) → as_goals es ≡ some gs → length gs ≡ length es
unfolding as_goals
goals_length [] gs h = let gs_are : [] ≡ gs = cc in rw (← gs_are) refl
goals_length (whole g ∷ es) gs h =
    let (later, q, gs_are) = goals_later g es gs h in
    rw gs_are (ap suc (goals_length es later q))
goals_length (bare f ∷ es) gs h = absurd (differ (cc))
goals_length (equals n t u ∷ es) gs h = absurd (differ (cc))

-- Stored one by one, or first their compounds and then their words: the same.
module _ (places : CellPlaces) (base : ℕ) (at : (n : ℕ) → places.compound n ≡ item_place base n) where
  pub guards_so : (place lo hi : ℕ) (es : List Element) (gs : List Guard) (s : List ℕ) → place + length es ≤ item_start base → ElementsNumbered lo hi es
      → as_guards es ≡ some gs → tests_set places place gs (elements_stored places es s) ≡ guards_stored places place gs s
  unfolding as_guards ElementsNumbered elements_stored tests_set guards_stored
  guards_so place lo hi [] gs s room m h = let gs_are : [] ≡ gs = cc in rw (← gs_are) refl
  guards_so place lo hi (e ∷ es) gs s room m h =
      let (g, later, p, q, gs_are) = guards_cons e es gs h in
      let w = guard_word places g in
      let s₁ = element_stored places e s in
      let one : test_stored g.row.test places g g.arguments s ≡ s₁ = (guard_of [] e g p).0 places s in
      let first : lo ≤ m.0 = element_order lo m.0 e m.1 in
      rw gs_are (
      ap (tests_set places (place + 1) later) (sym (elements_set places base at place w m.0 hi es s₁ m.2 (λ j l x same. omega arith)))
      ∙ guards_so (place + 1) m.0 hi es later (set s₁ place w) (omega arith) m.2 q
      ∙ ap (λ l. guards_stored places (place + 1) later (set l place w)) (sym one))

  pub goals_so : (place lo hi : ℕ) (es : List Element) (gs : List Named) (s : List ℕ) → place + length es ≤ item_start base → ElementsNumbered lo hi es
      → as_goals es ≡ some gs → goals_set places place gs (elements_stored places es s) ≡ goals_stored places place gs s
  unfolding as_goals ElementsNumbered elements_stored element_stored goals_set goals_stored
  goals_so place lo hi [] gs s room m h = let gs_are : [] ≡ gs = cc in rw (← gs_are) refl
  goals_so place lo hi (whole g ∷ es) gs s room m h =
      let (later, q, gs_are) = goals_later g es gs h in
      let w = term_word places (as_term g) in
      let s₁ = stored places (as_term g) s in
      let first : lo ≤ m.0 = element_order lo m.0 (whole g) m.1 in
      rw gs_are (
      ap (goals_set places (place + 1) later) (sym (elements_set places base at place w m.0 hi es s₁ m.2 (λ j l x same. omega arith)))
      ∙ goals_so (place + 1) m.0 hi es later (set s₁ place w) (omega arith) m.2 q)
  goals_so place lo hi (bare f ∷ es) gs s room m h = absurd (differ (cc))
  goals_so place lo hi (equals n t u ∷ es) gs s room m h = absurd (differ (cc))
