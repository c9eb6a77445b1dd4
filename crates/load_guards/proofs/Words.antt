-- What an element's word and a guard's argument say by their tags, and which name stands at a number.
use Prim.Native.Nat.{ℕ, zero, suc, ◌+◌, ◌-◌, ◌*◌, ◌/◌, ◌%◌, ◌≤◌, ◌<◌}
use mathlib.Core.Path.{◌≡◌, refl, sym, ap, ◌∙◌}
use mathlib.Core.Logic.{◌≢◌}
use mathlib.Core.Bool.{Bool, true, false, ◌&&◌}
use mathlib.Core.List.{List, [], ◌∷◌}
use native.Mathlib.Omega.{arith}
use lib.Dec.{eqb}
use lib.ListN.{length, get_or}
use Rattle.meaning.specs.Bytes.{Bytes, same, any, when◌then◌else◌}
use Rattle.meaning.specs.Terms.{writer, reader, Constant, named, Term, Terms, end, more, Named, Guard, count, as_term}
use Rattle.meaning.specs.Table.{Element, whole, bare, equals, guard_table, as_guard, is_reader, table_words}
use Rattle.std.specs.Prelude.{Some}
use Rattle.laws.proofs.Lists.Tests.{same_true, false_not_true}
use Rattle.term.specs.Cells.{term_word, number_of, Known, KnownName}
use Rattle.term.specs.Guards.{test_number, row_at, found_row}
use Rattle.term.specs.Holds.{CellAt, Holds, HoldsFrom}
use Rattle.term.specs.Layout.{item_place}
use Rattle.load_names.specs.Places.{Place, spellings, item_places}
use Rattle.load_names.specs.Tables.{no_place, StandsAt, NamesIn}
use Rattle.load_names.proofs.NameTable.{name_stands}
use Rattle.load_elements.specs.Elements.{element_word, ElementKnown}
use Rattle.load_guards.specs.Judged.{HoldsElement, Alone, NamedAt, TestAt, row_number}
use Rattle.load_guards.proofs.Rows.{equals_found}

tag_of : (tag n : ℕ) → tag < 8 → (tag + 8 * n) % 8 ≡ tag
tag_of tag n h = omega arith

rest_of : (tag n : ℕ) → tag < 8 → (tag + 8 * n) / 8 ≡ n
rest_of tag n h = omega arith

-- A name that is known stands at its number.
number_at : (f : Bytes) (known : List Place) → KnownName (spellings known) f
    → (number_of f (spellings known) < length known) × ((get_or known (number_of f (spellings known)) no_place).spelling ≡ f)
unfolding spellings number_of any when◌then◌else◌
number_at f [] h = absurd (false_not_true false refl h)
number_at f (p ∷ known) h = go (same f p.spelling) refl (number_at f known)
  where
    go : (b : Bool) → same f p.spelling ≡ b
        → (KnownName (spellings known) f → (number_of f (spellings known) < length known) × ((get_or known (number_of f (spellings known)) no_place).spelling ≡ f))
        → (number_of f (spellings (p ∷ known)) < suc (length known)) × ((get_or (p ∷ known) (number_of f (spellings (p ∷ known))) no_place).spelling ≡ f)
    go true e further = rw e (omega arith, sym (same_true f p.spelling e))
    go false e further =
        let rest : any (same f) (spellings known) ≡ true = rw e at h in
        let (below, here) = further rest in
        rw e (omega arith, here)

name_at : (text : Bytes) (names : List ℕ) (known : List Place) (f : Bytes) → NamesIn text known names → KnownName (spellings known) f
    → StandsAt text names (number_of f (spellings known)) f
name_at text names known f kept h =
    let (below, here) = number_at f known h in
    rw here at (name_stands text known names kept (number_of f (spellings known)) below)

-- The three kinds of elements by the tag of their word.
module _ (text : Bytes) (names s : List ℕ) (base w rest : ℕ) (rest_is : rest ≡ w / 8) (known : List Place) where
  pub equals_here : (e : Element) → Alone text names s base w known e → w % 8 ≡ 7 → Some 5 ≡ found_row (row_number (as_guard e))
  unfolding element_word item_places as_term
  equals_here (whole g) a h = absurd (omega (arith, a.word_is, h))
  equals_here (bare f) a h = absurd (omega (arith, a.word_is, h))
  equals_here (equals n t u) a h = equals_found n t u

  pub bare_here : (e : Element) → Alone text names s base w known e → w % 8 ≡ 4 → (f : Bytes) × (e ≡ bare f) × StandsAt text names rest f
  unfolding element_word item_places as_term ElementKnown
  bare_here (whole g) a h = absurd (omega (arith, a.word_is, h))
  bare_here (bare f) a h =
      let number : rest ≡ number_of f (spellings known) = omega (arith, a.word_is) in
      (f, refl, rw number (name_at text names known f a.names_in a.known_name))
  bare_here (equals n t u) a h = absurd (omega (arith, a.word_is, h))

  pub whole_here : (e : Element) → Alone text names s base w known e → w % 8 ≢ 7 → w % 8 ≢ 4 → (g : Named) × (e ≡ whole g) × NamedAt text names s rest g
  unfolding element_word item_places as_term ElementKnown Known HoldsElement Holds
  whole_here (whole g) a h k =
      let place : rest ≡ item_place base g.number = omega (arith, a.word_is) in
      let at : CellAt s (item_places known base) g.number (named g.name) (count g.arguments) = a.held.0 in
      let own : get_or s (item_place base g.number) 0 ≡ count g.arguments + 8 * (number_of g.name (spellings known) + 1) = at.functor in
      let rest : get_or s (item_place base g.number) 0 / 8 - 1 ≡ number_of g.name (spellings known) = omega (arith, own, at.few) in (
        g,
        refl,
        rw place (record {
          inside = omega (arith, at.inside);
          some_name = omega (arith, own, at.few);
          stands = rw rest (name_at text names known g.name a.names_in a.known_name.0);
          count_is = omega (arith, own, at.few);
        }),
      )
  whole_here (bare f) a h k = absurd (k (omega (arith, a.word_is)))
  whole_here (equals n t u) a h k = absurd (h (omega (arith, a.word_is)))

-- An argument that is a reader, by its word.
module _ (known : List Place) (base : ℕ) (ts : Terms) (m : ℕ) where
  reader_tag : (t : Term) → term_word (item_places known base) t % 8 ≡ 2 → is_reader m (more t ts) ≡ eqb m (term_word (item_places known base) t / 8)
  unfolding is_reader item_places
  reader_tag (Term.variable writer n) h = absurd (omega (arith, h))
  reader_tag (Term.variable reader n) h = rw (rest_of 2 n (omega arith)) refl
  reader_tag (Term.constant (Constant.integer i)) h = absurd (omega (arith, h))
  reader_tag (Term.constant (Constant.name f)) h = absurd (omega (arith, h))
  reader_tag (Term.constant Constant.empty) h = absurd (omega (arith, h))
  reader_tag (Term.compound n f us) h = absurd (omega (arith, h))

  other_tag : (t : Term) → term_word (item_places known base) t % 8 ≢ 2 → is_reader m (more t ts) ≡ false
  unfolding is_reader item_places
  other_tag (Term.variable writer n) h = refl
  other_tag (Term.variable reader n) h = absurd (h (tag_of 2 n (omega arith)))
  other_tag (Term.constant k) h = refl
  other_tag (Term.compound n f us) h = refl

-- The guards whose success means ground have one argument.
ground_one : (r : ℕ) → (row_at guard_table r).means_ground ≡ true → (row_at guard_table r).count ≡ 1
unfolding table_words row_at
ground_one zero h = refl
ground_one (suc zero) h = refl
ground_one (suc (suc zero)) h = absurd (false_not_true false refl h)
ground_one (suc (suc (suc zero))) h = refl
ground_one (suc (suc (suc (suc zero)))) h = absurd (false_not_true false refl h)
ground_one (suc (suc (suc (suc (suc zero))))) h = absurd (false_not_true false refl h)
ground_one (suc (suc (suc (suc (suc (suc zero)))))) h = absurd (false_not_true false refl h)
ground_one (suc (suc (suc (suc (suc (suc (suc r))))))) h = absurd (false_not_true false refl h)

module _ (s : List ℕ) (w base : ℕ) (known : List Place) (g : Guard) (t : TestAt s w base known g) where
  pub test_row : w % 8 ≡ test_number g.row.test
  test_row = omega (arith, t.word_is, t.in_table.number_few)

  pub test_place : (w / 8 ≡ (item_places known base).compound g.number) × (w / 8 + 8 ≤ length s)
  test_place =
      let place : w / 8 ≡ (item_places known base).compound g.number = omega (arith, t.word_is, t.in_table.number_few) in
      (place, omega (arith, place, t.inside))

  pub grounds_so : (n : ℕ) (b c : Bool) → n ≡ w % 8 → b ≡ (row_at guard_table n).means_ground → b ≡ c → g.row.means_ground ≡ c
  grounds_so n b c e r q = rw (t.in_table.row_is, ← test_row, ← e) (sym r ∙ q)

  -- The argument of a guard whose success means ground.
  argument : g.row.means_ground ≡ true → (u : Term) × (ts : Terms) × (g.arguments ≡ more u ts) × (get_or s (w / 8 + 1) 0 ≡ term_word (item_places known base) u)
  unfolding HoldsFrom count
  argument e = go g.arguments refl
    where
      one : count g.arguments ≡ 1
      one =
          t.in_table.count_is ∙ rw t.in_table.row_is
          (ground_one (test_number g.row.test) (sym (ap (λ r. r.means_ground) t.in_table.row_is) ∙ e))

      go : (ts : Terms) → g.arguments ≡ ts → (u : Term) × (ts : Terms) × (g.arguments ≡ more u ts) × (get_or s (w / 8 + 1) 0 ≡ term_word (item_places known base) u)
      go end q = let z : ◌≡◌ {A = ℕ} 0 1 = rw q at one in absurd (omega arith)
      go (more u ts) q =
          let held : HoldsFrom s (item_places known base) g.number 0 (more u ts) = rw q at t.held in
          let place : w / 8 + 1 ≡ (item_places known base).compound g.number + 1 + 0 = omega (arith, test_place.0) in
          (u, ts, q, rw place held.0)

  pub licenses_reader : g.row.means_ground ≡ true → get_or s (w / 8 + 1) 0 % 8 ≡ 2
      → (m : ℕ) → (g.row.means_ground && is_reader m g.arguments) ≡ eqb m (get_or s (w / 8 + 1) 0 / 8)
  licenses_reader grounds tag m =
      let (u, ts, arguments, word) = argument grounds in
      rw (grounds, arguments, word) (reader_tag known base ts m u (rw word at tag))

  pub licenses_other : g.row.means_ground ≡ true → get_or s (w / 8 + 1) 0 % 8 ≢ 2 → (m : ℕ) → (g.row.means_ground && is_reader m g.arguments) ≡ false
  licenses_other grounds tag m =
      let (u, ts, arguments, word) = argument grounds in
      rw (grounds, arguments) (other_tag known base ts m u (rw word at tag))
