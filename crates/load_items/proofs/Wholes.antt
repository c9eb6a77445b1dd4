-- Elements taken as goals one by one, by their words: a compound's tag tells one that can be.
use Prim.Native.Nat.{ℕ, suc, ◌+◌, ◌%◌, ◌<◌}
use mathlib.Core.Path.{◌≡◌, refl, ap, sym, ◌∙◌}
use mathlib.Core.Logic.{◌≢◌}
use mathlib.Core.List.{List, [], ◌∷◌, ◌++◌, map}
use mathlib.Core.Option.{none, some}
use native.Mathlib.Omega.{arith}
use lib.ListN.{length, get_or, set, length-append, length-map}
use Rattle.std.proofs.lemmas.List.{append-nil}
use Rattle.meaning.specs.Terms.{Named, as_term}
use Rattle.meaning.specs.Table.{Element, whole, bare, equals, as_goals}
use Rattle.term.specs.Cells.{Places as CellPlaces, term_word}
use Rattle.load_elements.specs.Elements.{element_word}
use Rattle.load_items.specs.Rules.{Worded, goals_set}

as_goals_all : (gs : List Named) → as_goals (map whole gs) ≡ some gs
unfolding as_goals
as_goals_all [] = refl
as_goals_all (g ∷ gs) = rw (as_goals_all gs)

as_goals_not : (gs : List Named) (later : List Element) → as_goals later ≡ none → as_goals (map whole gs ++ later) ≡ none
unfolding as_goals
as_goals_not [] later e = e
as_goals_not (g ∷ gs) later e = rw (as_goals_not gs later e)

word_at : (f : Element → ℕ) (gs : List Named) (e : Element) (later : List Element) → get_or (map f (map whole gs ++ (e ∷ later))) (length gs) 0 ≡ f e
word_at f [] e later = refl
word_at f (g ∷ gs) e later = word_at f gs e later

wholes_more : (gs : List Named) (g : Named) (later : List Element) → map whole gs ++ (whole g ∷ later) ≡ map whole (gs ++ (g ∷ [])) ++ later
wholes_more [] g later = refl
wholes_more (f ∷ gs) g later = ap (λ l. whole f ∷ l) (wholes_more gs g later)

set_at : (l : List ℕ) (v i j : ℕ) → i ≡ j → set l i v ≡ set l j v
set_at l v i j e = ap (λ k. set l k v) e

goals_set_more : (places : CellPlaces) (place : ℕ) (gs : List Named) (g : Named) (s : List ℕ)
    → goals_set places place (gs ++ (g ∷ [])) s ≡ set (goals_set places place gs s) (place + length gs) (term_word places (as_term g))
unfolding goals_set
goals_set_more places place [] g s = set_at s (term_word places (as_term g)) place (place + 0) (omega arith)
goals_set_more places place (f ∷ gs) g s =
    let s₁ = set s place (term_word places (as_term f)) in
    goals_set_more places (place + 1) gs g s₁
    ∙ set_at (goals_set places (place + 1) gs s₁) (term_word places (as_term g)) (place + 1 + length gs) (place + suc (length gs)) (omega arith)

-- The first i elements are goals, and their words are set.
pub record Taken (s₀ s : List ℕ) (place : ℕ) (places : CellPlaces) (es : List Element) (i : ℕ) : Type 0 where
  pub goals : List Named
  pub later : List Element
  pub are : es ≡ map whole goals ++ later
  pub count_is : length goals ≡ i
  pub set_is : s ≡ goals_set places place goals s₀

pub taken_none : (s₀ : List ℕ) (place : ℕ) (places : CellPlaces) (es : List Element) → Taken s₀ s₀ place places es 0
unfolding goals_set
taken_none s₀ place places es = record { goals = []; later = es; are = refl; count_is = refl; set_is = refl }

module _ (s₀ s words : List ℕ) (place : ℕ) (places : CellPlaces) (es : List Element) (i : ℕ) (worded : Worded words places es)
    (t : Taken s₀ s place places es i) where
  enough : length es ≡ i + length t.later
  enough = ap length t.are ∙ length-append (map whole t.goals) t.later ∙ omega (arith, length-map t.goals whole, t.count_is)

  pub taken_all : i ≡ length words → as_goals es ≡ some t.goals
  taken_all e = go t.later refl
    where
      go : (l : List Element) → t.later ≡ l → as_goals es ≡ some t.goals
      go [] q =
          let es_are : es ≡ map whole t.goals ++ [] = rw q at t.are in
          let no_more : map whole t.goals ++ [] ≡ map whole t.goals = append-nil (map whole t.goals) in
          rw (es_are, no_more) (as_goals_all t.goals)
      go (d ∷ l) q =
          let more : length t.later ≡ suc (length l) = rw q refl in
          absurd (omega (arith, enough, worded.count_is, more))

  module _ (room : i < length words) where
    here : (d : Element) (l : List Element) → t.later ≡ d ∷ l → get_or words i 0 ≡ element_word places d
    here d l q =
        let es_are : es ≡ map whole t.goals ++ (d ∷ l) = rw q at t.are in
        worded.words_are i room
        ∙ ap (λ m. get_or (map (element_word places) m) i 0) es_are
        ∙ ap (λ k. get_or (map (element_word places) (map whole t.goals ++ (d ∷ l))) k 0) (sym t.count_is)
        ∙ word_at (element_word places) t.goals d l

    some_left : (P : Type 0) → ((d : Element) (l : List Element) → t.later ≡ d ∷ l → P) → P
    some_left P f = go t.later refl
      where
        go : (l : List Element) → t.later ≡ l → P
        go [] q = let none_left : length t.later ≡ 0 = rw q refl in absurd (omega (arith, enough, worded.count_is, none_left))
        go (d ∷ l) q = f d l q

    pub taken_not : (get_or words i 0 % 8 ≢ 6) → as_goals es ≡ none
    unfolding element_word as_goals as_term
    taken_not other = some_left (as_goals es ≡ none) (λ d l q. go d l q)
      where
        so : (d : Element) (l : List Element) → t.later ≡ d ∷ l → as_goals (d ∷ l) ≡ none → as_goals es ≡ none
        so d l q e = let es_are : es ≡ map whole t.goals ++ (d ∷ l) = rw q at t.are in rw es_are (as_goals_not t.goals (d ∷ l) e)

        go : (d : Element) (l : List Element) → t.later ≡ d ∷ l → as_goals es ≡ none
        go (whole g) l q = let w = here (whole g) l q in absurd (other (omega (arith, w)))
        go (bare f) l q = so (bare f) l q refl
        go (equals m x y) l q = so (equals m x y) l q refl

    pub taken_next : get_or words i 0 % 8 ≡ 6 → Taken s₀ (set s (place + i) (get_or words i 0)) place places es (i + 1)
    unfolding element_word as_term
    taken_next is_compound = some_left (Taken s₀ (set s (place + i) (get_or words i 0)) place places es (i + 1)) (λ d l q. go d l q)
      where
        go : (d : Element) (l : List Element) → t.later ≡ d ∷ l → Taken s₀ (set s (place + i) (get_or words i 0)) place places es (i + 1)
        go (whole g) l q =
            let es_are : es ≡ map whole t.goals ++ (whole g ∷ l) = rw q at t.are in
            let w : get_or words i 0 ≡ term_word places (as_term g) = here (whole g) l q in
            record {
              goals = t.goals ++ (g ∷ []);
              later = l;
              are = es_are ∙ wholes_more t.goals g l;
              count_is = length-append t.goals (g ∷ []) ∙ omega (arith, t.count_is);
              set_is = rw (w, goals_set_more places place t.goals g s₀, t.count_is, ← t.set_is) refl;
            }
        go (bare f) l q = let w = here (bare f) l q in absurd (omega (arith, w))
        go (equals m x y) l q = let w = here (equals m x y) l q in absurd (omega (arith, w))
