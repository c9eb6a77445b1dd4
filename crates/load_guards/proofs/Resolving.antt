-- Resolving the elements one after the other: the first i are guards whose words are set, and the rest is left.
use Prim.Native.Nat.{ℕ, suc, ◌+◌, ◌*◌, ◌/◌, ◌≤◌, ◌<◌}
use mathlib.Core.Path.{◌≡◌, refl, sym, ap, ◌∙◌}
use mathlib.Core.Bool.{Bool, true, false}
use mathlib.Core.List.{List, [], ◌∷◌, ◌++◌, map}
use mathlib.Core.Option.{Option, none, some}
use native.Mathlib.Omega.{arith}
use lib.Dec.{eqb, ltb}
use lib.ListN.{length, get_or, take, set, length-append}
use Rattle.std.specs.Prelude.{Option as Told, Some, None}
use Rattle.std.proofs.lemmas.Bool.{ltb-true, lt-ltb}
use Rattle.std.proofs.lemmas.List.{get_or-take, length-take-le}
use Rattle.laws.proofs.Lists.Tests.{differ}
use Rattle.meaning.specs.Bytes.{Bytes, when◌then◌else◌}
use Rattle.meaning.specs.Terms.{Guard}
use Rattle.meaning.specs.Table.{Element, as_guard, as_guards, with_guard}
use Rattle.term.specs.Frames.{Only}
use Rattle.term.specs.Guards.{test_number, guard_word, found_row}
use Rattle.term.specs.Layout.{item_start}
use Rattle.load_names.specs.Places.{Place, spellings, item_places}
use Rattle.load_elements.specs.Elements.{element_word, ElementsNumbered, ElementsKnown}
use Rattle.load_guards.specs.Judged.{HoldsElements, Listed, Alone, row_number, tests_set, Resolved}
use Rattle.load_guards.proofs.Rows.{as_is, in_table, guard_word_is}
use Rattle.load_guards.proofs.Held.{elements_order, element_kept, elements_kept, tests_more, tests_only, guards_held, all_tabled}

-- Guards before others, if those are guards.
unfoldable pub prepended : List Guard → Option (List Guard) → Option (List Guard)
prepended [] others = others
prepended (g ∷ gs) others = with_guard (some g) (prepended gs others)

prepended_more : (gs : List Guard) (g : Guard) (others : Option (List Guard)) → prepended gs (with_guard (some g) others) ≡ prepended (gs ++ (g ∷ [])) others
unfolding prepended
prepended_more [] g others = refl
prepended_more (h ∷ gs) g others = ap (with_guard (some h)) (prepended_more gs g others)

prepended_none : (gs : List Guard) → prepended gs none ≡ none
unfolding prepended with_guard
prepended_none [] = refl
prepended_none (g ∷ gs) = rw (prepended_none gs) refl

prepended_all : (gs : List Guard) → prepended gs (some []) ≡ some gs
unfolding prepended with_guard
prepended_all [] = refl
prepended_all (g ∷ gs) = rw (prepended_all gs) refl

pub record Progress (base place last : ℕ) (known : List Place) (es : List Element) (i : ℕ) (s₀ s : List ℕ) : Type 0 where
  pub done : List Guard
  pub left : List Element
  pub next : ℕ
  pub guards_are : as_guards es ≡ prepended done (as_guards left)
  pub count_is : length done ≡ i
  pub left_is : i + length left ≡ length es
  pub words : (k : ℕ) → get_or (map (element_word (item_places known base)) es) (i + k) 0 ≡ get_or (map (element_word (item_places known base)) left) k 0
  pub set_is : s ≡ tests_set (item_places known base) place done s₀
  pub held : HoldsElements s₀ (item_places known base) left
  pub known_names : ElementsKnown (spellings known) left
  pub numbered : ElementsNumbered next last left

module _ (text : Bytes) (names s₀ words : List ℕ) (n base place : ℕ) (known : List Place) (es : List Element)
    (l : Listed text names s₀ words n base place known es) where
  pub at_first : Progress base place l.to_number known es 0 s₀ s₀
  unfolding prepended tests_set
  at_first =
      record {
        done = [];
        left = es;
        next = l.from_number;
        guards_are = refl;
        count_is = refl;
        left_is = omega arith;
        words = λ k. let e : 0 + k ≡ k = omega arith in rw e refl;
        set_is = refl;
        held = l.held;
        known_names = l.known_names;
        numbered = l.numbered;
      }

  module _ (i : ℕ) (s : List ℕ) (p : Progress base place l.to_number known es i s₀ s) (within : i ≤ n) where
    pub only : Only place (place + 8) s₀ s
    only = rw p.set_is (tests_only known base place (place + 8) place p.done s₀ (omega arith) (omega (arith, p.count_is, l.few)))

    apart_from : (k : ℕ) → item_start base ≤ k → get_or s k 0 ≡ get_or s₀ k 0
    apart_from k h = only.above k (omega (arith, l.apart))

    pub resolved : n ≤ i → Resolved s₀ s n base place known es p.done
    unfolding as_guards
    resolved all_of =
        let many : length p.done ≡ n = omega (arith, p.count_is) in
        let size : length s ≡ length s₀ = only.size in
        let held : HoldsElements s (item_places known base) es = elements_kept known base s₀ s (omega arith) l.from_number l.to_number es
        (λ k a b. apart_from k (omega (arith, a))) l.numbered l.held in
        record {
          guards_are = all_guards;
          set_is = p.set_is;
          tests = record {
            count_is = many;
            few = l.few;
            inside = omega (arith, l.apart, l.inside);
            held = rw p.set_is (guards_held known base place es p.done s₀ (omega (arith, l.inside)) (omega (arith, l.few, l.apart, l.inside)) all_guards (rw p.set_is at held));
            tabled = all_tabled es p.done all_guards;
          };
        }
      where
        none_left : (left : List Element) → length left ≡ 0 → as_guards left ≡ some []
        none_left [] e = refl
        none_left (x ∷ left) e = absurd (omega arith)

        all_guards : as_guards es ≡ some p.done
        all_guards = p.guards_are ∙ rw (none_left p.left (omega (arith, p.left_is, l.count_is))) (prepended_all p.done)

    module _ (further : i < n) where
      pub first : (e : Element) × (others : List Element) × (p.left ≡ e ∷ others)
      first = go p.left refl
        where
          go : (left : List Element) → p.left ≡ left → (e : Element) × (others : List Element) × (p.left ≡ e ∷ others)
          go [] q = let none_there : length p.left ≡ 0 = rw q refl in absurd (omega (arith, p.left_is, l.count_is))
          go (e ∷ others) q = (e, others, q)

      pub alone : Alone text names s base (get_or words i 0) known first.0
      unfolding ElementsKnown HoldsElements ElementsNumbered
      alone =
          let left_is = first.2 in
          let here : i + 0 ≡ i = omega arith in
          let numbers = rw left_is at p.numbered in
          let upper = elements_order numbers.0 l.to_number first.1 numbers.2 in
          let size : length s ≡ length s₀ = only.size in
          record {
            names_in = l.names_in;
            word_is = l.words_are i further ∙ rw (here, left_is) at (p.words 0);
            known_name = (rw left_is at p.known_names).0;
            held = element_kept known base s₀ s (omega arith) p.next numbers.0 first.0 (λ k a b. apart_from k (omega (arith, a))) numbers.1 (rw left_is at p.held).0;
          }

      -- What `row_for` tells of the next element.
      module _ (o : Told ℕ) (told : (b : ℕ) (k : List Place) (e : Element) → Alone text names s b (get_or words i 0) k e → o ≡ found_row (row_number (as_guard e))) where
        row : o ≡ found_row (row_number (as_guard first.0))
        row = told base known first.0 alone

        pub stops : o ≡ None → as_guards es ≡ none
        unfolding row_number as_guards with_guard
        stops h = go (as_guard first.0) refl
          where
            go : (g : Option Guard) → as_guard first.0 ≡ g → as_guards es ≡ none
            go none q = p.guards_are ∙ rw (first.2, q) (prepended_none p.done)
            go (some g) q =
                let number : o ≡ found_row (test_number g.row.test) = rw q at row in
                let found : o ≡ Some (test_number g.row.test) = rw (lt-ltb (test_number g.row.test) 7 (in_table (as_is first.0 g q)).number_few) at number in
                absurd (differ (cc))

        pub row_is : (n : ℕ) → o ≡ Some n → (n ≡ row_number (as_guard first.0)) × (n < 7)
        row_is n h = go (ltb (row_number (as_guard first.0)) 7) refl
          where
            go : (b : Bool) → ltb (row_number (as_guard first.0)) 7 ≡ b → (n ≡ row_number (as_guard first.0)) × (n < 7)
            go true q =
                let found : o ≡ Some (row_number (as_guard first.0)) = rw q at row in
                let same : n ≡ row_number (as_guard first.0) = cc in
                (same, omega (arith, ltb-true (row_number (as_guard first.0)) 7 q))
            go false q = let nothing : o ≡ None = rw q at row in absurd (differ (cc))

        pub goes_on : (n w : ℕ) → o ≡ Some n → w ≡ n + 8 * (when eqb n 6 then 8 * base else get_or words i 0 / 8)
            → Progress base place l.to_number known es (i + 1) s₀ (set s (place + i) w)
        unfolding row_number as_guards HoldsElements ElementsKnown ElementsNumbered
        goes_on n w h v = go (as_guard first.0) refl
          where
            go : (g : Option Guard) → as_guard first.0 ≡ g → Progress base place l.to_number known es (i + 1) s₀ (set s (place + i) w)
            go none q = let none_there : n ≡ 7 = rw q at (row_is n h).0 in absurd (omega (arith, (row_is n h).1))
            go (some g) q =
                let left_is = first.2 in
                let number : n ≡ test_number g.row.test = rw q at (row_is n h).0 in
                let word : w ≡ guard_word (item_places known base) g =
                v ∙ rw (number, alone.word_is) (sym (guard_word_is known base (as_is first.0 g q))) in
                record {
                  done = p.done ++ (g ∷ []);
                  left = first.1;
                  next = (rw left_is at p.numbered).0;
                  guards_are = p.guards_are ∙ ap (λ l. prepended p.done (as_guards l)) left_is ∙ rw q (prepended_more p.done g (as_guards first.1));
                  count_is = omega (arith, length-append p.done (g ∷ []), p.count_is);
                  left_is = omega (arith, p.left_is, ap length left_is);
                  words = λ k.
                      let e : i + 1 + k ≡ i + suc k = omega arith in
                      rw e (rw left_is at (p.words (suc k)));
                  set_is = rw (word, p.set_is, ← p.count_is) (sym (tests_more known base place p.done g s₀));
                  held = (rw left_is at p.held).1;
                  known_names = (rw left_is at p.known_names).1;
                  numbered = (rw left_is at p.numbered).2;
                }

-- The first n words are the elements'.
pub listed_front : (text : Bytes) (names s words : List ℕ) (n base place : ℕ) (known : List Place) (es : List Element) → Listed text names s words n base place known es
    → Listed text names s (take n words) (length (take n words)) base place known es
listed_front text names s words n base place known es l =
    let size : length (take n words) ≡ n = length-take-le n words l.kept in
    rw size (record {
      names_in = l.names_in;
      count_is = l.count_is;
      few = l.few;
      kept = omega (arith, size);
      words_are = λ i h. get_or-take n words i 0 h ∙ l.words_are i h;
      from_number = l.from_number;
      to_number = l.to_number;
      numbered = l.numbered;
      numbers_few = l.numbers_few;
      known_names = l.known_names;
      held = l.held;
      apart = l.apart;
      inside = l.inside;
    })
