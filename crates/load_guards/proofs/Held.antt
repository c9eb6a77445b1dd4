-- Elements and guards in the scratch: what is held stays held where only words outside of the item change, and guards are held as their elements are.
use Prim.Native.Nat.{ℕ, zero, suc, ◌+◌, ◌≤◌, ◌<◌}
use mathlib.Core.Path.{◌≡◌, refl, ◌∙◌}
use mathlib.Core.List.{List, [], ◌∷◌, ◌++◌, map}
use mathlib.Core.Option.{Option, none, some}
use native.Mathlib.Omega.{arith}
use lib.ListN.{length, get_or, set, length-set}
use lib.Seq.{get_or-set_same}
use Rattle.meaning.specs.Terms.{end, more, equal, Guard, count, as_term}
use Rattle.meaning.specs.Table.{Element, whole, bare, equals, as_guard, as_guards, with_guard}
use Rattle.laws.proofs.Lists.Tests.{differ}
use Rattle.term.specs.Cells.{Places as CellPlaces}
use Rattle.term.specs.Frames.{Only}
use Rattle.term.specs.Guards.{guard_word, TestNumbered, HoldsGuards}
use Rattle.term.specs.Holds.{Holds, HoldsFrom}
use Rattle.term.specs.Layout.{item_place}
use Rattle.term.proofs.Cells.{numbered_order}
use Rattle.term.proofs.Frames.{only_same, only_set, only_then}
use Rattle.term.proofs.Holds.{holds_kept}
use Rattle.term.proofs.KeptGuards.{arguments_kept}
use Rattle.load_names.specs.Places.{Place, item_places}
use Rattle.load_elements.specs.Elements.{ElementNumbered, ElementsNumbered}
use Rattle.load_guards.specs.Judged.{HoldsElement, HoldsElements, tests_set, Tabled}
use Rattle.load_guards.proofs.Rows.{AsIs, as_whole, as_bare, as_equals, as_is, in_table}

pub element_order : (lo hi : ℕ) (e : Element) → ElementNumbered lo hi e → lo ≤ hi
unfolding ElementNumbered
element_order lo hi (whole g) k = numbered_order lo hi (as_term g) k
element_order lo hi (bare f) k = omega arith
element_order lo hi (equals n t u) k = omega (arith, numbered_order lo n t k.0, numbered_order (n + 1) hi u k.1)

pub elements_order : (lo hi : ℕ) (es : List Element) → ElementsNumbered lo hi es → lo ≤ hi
unfolding ElementsNumbered
elements_order lo hi [] k = omega arith
elements_order lo hi (e ∷ es) k = omega (arith, element_order lo k.0 e k.1, elements_order k.0 hi es k.2)

module _ (known : List Place) (base : ℕ) where
  abbrev places : CellPlaces
  places = item_places known base

  pub at_base : (n : ℕ) → places.compound n ≡ item_place base n
  unfolding item_places
  at_base n = refl

  pub eight : (n : ℕ) → places.width n ≡ 8
  unfolding item_places
  eight n = refl

  module _ (s s' : List ℕ) (size : length s ≤ length s') where
    pub element_kept : (lo hi : ℕ) (e : Element) → ((k : ℕ) → item_place base lo ≤ k → k < item_place base hi → get_or s' k 0 ≡ get_or s k 0)
        → ElementNumbered lo hi e → HoldsElement s places e → HoldsElement s' places e
    unfolding ElementNumbered HoldsElement TestNumbered count
    element_kept lo hi (whole g) cells k h = holds_kept places base at_base eight s s' size lo hi (as_term g) cells k h
    element_kept lo hi (bare f) cells k h = tt
    element_kept lo hi (equals n t u) cells k h =
        (omega (arith, h.0), arguments_kept places base at_base eight s s' size equal lo hi n (more t (more u end)) cells (omega arith) k h.1)

    pub elements_kept : (lo hi : ℕ) (es : List Element) → ((k : ℕ) → item_place base lo ≤ k → k < item_place base hi → get_or s' k 0 ≡ get_or s k 0)
        → ElementsNumbered lo hi es → HoldsElements s places es → HoldsElements s' places es
    unfolding ElementsNumbered HoldsElements
    elements_kept lo hi [] cells k h = tt
    elements_kept lo hi (e ∷ es) cells k h =
        let low = element_order lo k.0 e k.1 in
        let high = elements_order k.0 hi es k.2 in (
          element_kept lo k.0 e (λ j l m. cells j l (omega arith)) k.1 h.0,
          elements_kept k.0 hi es (λ j l m. cells j (omega arith) m) k.2 h.1,
        )

  -- The guards' words are set, one more at the end; no other word changes.
  pub tests_more : (place : ℕ) (gs : List Guard) (g : Guard) (s : List ℕ)
      → tests_set places place (gs ++ (g ∷ [])) s ≡ set (tests_set places place gs s) (place + length gs) (guard_word places g)
  unfolding tests_set
  tests_more place [] g s = let e : place + 0 ≡ place = omega arith in rw e refl
  tests_more place (h ∷ gs) g s =
      let e : place + suc (length gs) ≡ place + 1 + length gs = omega arith in
      rw e (tests_more (place + 1) gs g (set s place (guard_word places h)))

  pub tests_only : (lo hi place : ℕ) (gs : List Guard) (s : List ℕ) → lo ≤ place → place + length gs ≤ hi → Only lo hi s (tests_set places place gs s)
  unfolding tests_set
  tests_only lo hi place [] s l h = only_same lo hi s
  tests_only lo hi place (g ∷ gs) s l h =
      only_then lo hi s (set s place (guard_word places g)) (tests_set places (place + 1) gs (set s place (guard_word places g)))
      (only_set lo hi s place (guard_word places g) l (omega arith))
      (tests_only lo hi (place + 1) gs (set s place (guard_word places g)) (omega arith) (omega arith))

  test_at : (place : ℕ) (gs : List Guard) (s : List ℕ) (k : ℕ) → k < length gs → place + length gs ≤ length s
      → get_or (tests_set places place gs s) (place + k) 0 ≡ get_or (map (guard_word places) gs) k 0
  unfolding tests_set
  test_at place [] s k l h = absurd (omega arith)
  test_at place (g ∷ gs) s zero l h =
      let e : place + 0 ≡ place = omega arith in
      let w = guard_word places g in
      rw e ((tests_only (place + 1) (place + 1 + length gs) (place + 1) gs (set s place w) (omega arith) (omega arith)).below place (omega arith)
      ∙ get_or-set_same s place w 0 (omega arith))
  test_at place (g ∷ gs) s (suc k) l h =
      let e : place + suc k ≡ place + 1 + k = omega arith in
      let w = guard_word places g in
      rw e (test_at (place + 1) gs (set s place w) k (omega arith) (omega (arith, length-set s place w)))

  -- The guards that elements are.
  module _ (s : List ℕ) (first : item_place base 1 ≤ length s) where
    guard_held : {e : Element} {g : Guard} → AsIs e g → HoldsElement s places e
        → (places.compound g.number + 8 ≤ length s) × HoldsFrom s places g.number 0 g.arguments
    unfolding HoldsElement Holds HoldsFrom as_term
    guard_held (as_whole g r l c) h = (h.0.inside, h.1)
    guard_held (as_bare f) h = (omega (arith, at_base 0), tt)
    guard_held (as_equals n t u) h = h

    guards_held_from : (place i : ℕ) (es : List Element) (gs : List Guard) → as_guards es ≡ some gs → HoldsElements s places es
        → ((k : ℕ) → k < length gs → get_or s (place + (i + k)) 0 ≡ get_or (map (guard_word places) gs) k 0) → HoldsGuards s places place i gs
    unfolding as_guards with_guard HoldsElements HoldsGuards
    guards_held_from place i [] gs e h words = let none_there : gs ≡ [] = cc in rw none_there tt
    guards_held_from place i (x ∷ es) gs e h words = go (as_guard x) refl (as_guards es) refl e (λ hs r l. guards_held_from place (i + 1) es hs r h.1 l)
      where
        go : (o : Option Guard) → as_guard x ≡ o → (p : Option (List Guard)) → as_guards es ≡ p → with_guard o p ≡ some gs
            → ((hs : List Guard) → as_guards es ≡ some hs → ((k : ℕ) → k < length hs → get_or s (place + (i + 1 + k)) 0 ≡ get_or (map (guard_word places) hs) k 0) → HoldsGuards s places place (i + 1) hs)
            → HoldsGuards s places place i gs
        go none q p r f further = absurd (differ (cc))
        go (some g) q none r f further = absurd (differ (cc))
        go (some g) q (some others) r f further =
            let all_are : gs ≡ g ∷ others = cc in
            let there = rw all_are at words in
            let (room, arguments) = guard_held (as_is x g q) h.0 in
            let here : i + 0 ≡ i = omega arith in
            rw all_are (
              rw here at (there 0 (omega arith)),
              room,
              arguments,
              further others r (λ k l. let e : i + 1 + k ≡ i + suc k = omega arith in rw e (there (suc k) (omega arith))),
            )

  pub guards_held : (place : ℕ) (es : List Element) (gs : List Guard) (s : List ℕ) → item_place base 1 ≤ length s → place + length gs ≤ length s
      → as_guards es ≡ some gs → HoldsElements (tests_set places place gs s) places es → HoldsGuards (tests_set places place gs s) places place 0 gs
  guards_held place es gs s first room e h =
      let size = (tests_only place (place + length gs) place gs s (omega arith) (omega arith)).size in
      guards_held_from (tests_set places place gs s) (omega arith) place 0 es gs e h
      (λ k l. let same_place : 0 + k ≡ k = omega arith in rw same_place (test_at place gs s k l room))

-- Each is in the table.
pub all_tabled : (es : List Element) (gs : List Guard) → as_guards es ≡ some gs → Tabled gs
unfolding as_guards with_guard Tabled
all_tabled [] gs e = let none_there : gs ≡ [] = cc in rw none_there tt
all_tabled (x ∷ es) gs e = go (as_guard x) refl (as_guards es) refl e (all_tabled es)
  where
    go : (o : Option Guard) → as_guard x ≡ o → (p : Option (List Guard)) → as_guards es ≡ p → with_guard o p ≡ some gs
        → ((hs : List Guard) → as_guards es ≡ some hs → Tabled hs) → Tabled gs
    go none q p r f further = absurd (differ (cc))
    go (some g) q none r f further = absurd (differ (cc))
    go (some g) q (some others) r f further =
        let all_are : gs ≡ g ∷ others = cc in
        rw all_are (in_table (as_is x g q), further others r)
