-- The guards of a clause, from the elements before its bar: each is in the table, fits and is numbered in order, and they are as many.
-- A compound's name is led by a letter, so it is not `==`; a bare name has no arguments, so it is `otherwise`.
use Prim.Native.Nat.{ℕ, ◌+◌, ◌≤◌}
use mathlib.Core.Path.{◌≡◌, refl, sym}
use mathlib.Core.Bool.{Bool, true, false, ◌&&◌}
use mathlib.Core.List.{List, [], ◌∷◌, ◌++◌}
use mathlib.Core.Option.{Option, none, some}
use native.Mathlib.Omega.{arith}
use lib.Dec.{eqb}
use lib.ListN.{length}
use borrow.Author.Tests.{eqb-true}
use Rattle.meaning.specs.Bytes.{Bytes, bytes_words, bytes, same}
use Rattle.meaning.specs.Terms.{Terms, end, more, an_integer, a_constant, a_compound, a_ground, known, equal, otherwise, Row, Guard, count, as_term}
use Rattle.meaning.specs.Tokens.{tokens_words, next_is}
use Rattle.meaning.specs.Table.{Element, whole, bare, equals, row, rows_before, rows_between, rows_alone, guard_table, in_rows, as_guard, with_guard, as_guards}
use Rattle.laws.proofs.Lists.{In, here, there, in_append_left, in_append_right, Each, each_in, and_left, and_right, differ, false_not_true, same_true}
use Rattle.laws.proofs.Reading.Numbering.{AllNumbered, SidesNumbered, TestNumbered, GuardNumbered, GuardsNumbered}
use Rattle.laws.proofs.Reading.Brackets.{Nested, AllNested, behind_first_argument, all_nested_wider}
use Rattle.laws.proofs.Reading.Figures.{Bounds, known_in, letter, SpellingFits, TermsFit, GuardFits}
use Rattle.laws.proofs.Reading.BodyReaders.{ElementFits, ElementNumbered, ElementsNumbered}

-- What holds of each row of the table.
pub each_row : (P : Row → Type 0) → P (row "integer" 1 an_integer true) → P (row "constant" 1 a_constant true) → P (row "compound" 1 a_compound false)
    → P (row "ground" 1 a_ground true) → P (row "known" 1 known false) → P (row "==" 2 equal false) → P (row "otherwise" 0 otherwise false)
    → (r : Row) → In r guard_table → P r
unfolding guard_table rows_before rows_between rows_alone
each_row P a b c d e f g r m = each_in P {l = guard_table} (a, (b, (c, (d, (e, (f, (g, tt))))))) m

-- The table has the rows of each kind.
in_table_before : {r : Row} → In r rows_before → In r guard_table
unfolding guard_table rows_before rows_between rows_alone
in_table_before m = in_append_left (rows_between ++ rows_alone) m

in_table_between : {r : Row} → In r rows_between → In r guard_table
unfolding guard_table rows_before rows_between rows_alone
in_table_between m = in_append_right rows_before (in_append_left rows_alone m)

in_table_alone : {r : Row} → In r rows_alone → In r guard_table
unfolding guard_table rows_before rows_between rows_alone
in_table_alone m = in_append_right rows_before (in_append_right rows_between m)

-- A row of the table, by its name and count.
record RowOf (f : Bytes) (n : ℕ) (r : Row) : Type 0 where
  in_table : In r guard_table
  named : r.name ≡ f
  counted : r.count ≡ n

-- What is made of it.
made : Row → ℕ → Terms → Guard
made r n ts = record { row = r; number = n; arguments = ts }

in_rows_made : (rows : List Row) (f : Bytes) (n : ℕ) (ts : Terms) → ((r : Row) → In r rows → In r guard_table) → (g : Guard) → in_rows rows f n ts ≡ some g
    → (r : Row) × (g ≡ made r n ts) × RowOf f (count ts) r
unfolding in_rows made
in_rows_made [] f n ts inside g e = absurd (differ (cc))
in_rows_made (r ∷ rows) f n ts inside g e =
    go (same r.name f && eqb r.count (count ts)) refl (in_rows_made rows f n ts (λ q m. inside q (there m)) g)
  where
    go : (c : Bool) → (same r.name f && eqb r.count (count ts)) ≡ c
        → (in_rows rows f n ts ≡ some g → (r : Row) × (g ≡ made r n ts) × RowOf f (count ts) r) → (r : Row) × (g ≡ made r n ts) × RowOf f (count ts) r
    go true q further =
        let e' : some (made r n ts) ≡ some g = rw (q, in_rows) at e in (
          r,
          cc,
          record {
            in_table = inside r (here refl);
            named = same_true r.name f (and_left (same r.name f) (eqb r.count (count ts)) q);
            counted = eqb-true r.count (count ts) (and_right (same r.name f) (eqb r.count (count ts)) q);
          },
        )
    go false q further = further (rw (q, in_rows) at e)

-- A guard's compounds are numbered as its element's are.
module _ (low n high : ℕ) (ts : Terms) (f : Bytes) where
  abbrev As : Row → Type 0
  As r = r.name ≡ f → r.count ≡ count ts → TestNumbered r.test low n high ts

  named_numbered : next_is letter f ≡ true → 1 ≤ count ts → n ≡ low → AllNumbered (low + 1) high ts → (r : Row) → In r guard_table → As r
  unfolding row TestNumbered bytes_words tokens_words letter
  named_numbered led some_arguments first all r m =
      each_row As (λ e k. (first, all)) (λ e k. (first, all)) (λ e k. (first, all)) (λ e k. (first, all)) (λ e k. (first, all))
      (λ e k. absurd (false_not_true false refl (rw (← e) at led))) (λ e k. absurd (omega arith)) r m

  bare_numbered : count ts ≡ 0 → low ≡ high → (r : Row) → In r guard_table → As r
  unfolding row TestNumbered
  bare_numbered no_arguments nothing r m =
      each_row As (λ e k. absurd (omega arith)) (λ e k. absurd (omega arith)) (λ e k. absurd (omega arith)) (λ e k. absurd (omega arith)) (λ e k. absurd (omega arith))
      (λ e k. absurd (omega arith)) (λ e k. nothing) r m

  sides_numbered : f ≡ bytes "==" → SidesNumbered low n high ts → (r : Row) → In r guard_table → As r
  unfolding row TestNumbered bytes_words
  sides_numbered is_equal sides r m =
      each_row As (λ e k. absurd (differ (cc))) (λ e k. absurd (differ (cc))) (λ e k. absurd (differ (cc))) (λ e k. absurd (differ (cc))) (λ e k. absurd (differ (cc)))
      (λ e k. sides) (λ e k. absurd (differ (cc))) r m

-- An element's guard, where the item's names are spelled as names are and it has a compound.
module _ (b : Bounds) (spelled : Each SpellingFits b.names) (some_compounds : 1 ≤ b.compounds) where
  abbrev GuardSaid : ℕ → ℕ → Guard → Type 0
  GuardSaid low high g = GuardFits b g × GuardNumbered low high g

  as_guard_said : (low high : ℕ) (e : Element) → ElementFits b e → ElementNumbered low high e → (g : Guard) → as_guard e ≡ some g → GuardSaid low high g
  unfolding as_guard ElementFits ElementNumbered TermsFit Nested AllNested behind_first_argument as_term made SidesNumbered count
  as_guard_said low high (whole h) (fits, (inside, below, all)) numbered g e =
      let (r, g_is, of) = in_rows_made rows_before h.name h.number h.arguments (λ r m. in_table_before m) g e in
      rw g_is (
        record {
          in_table = of.in_table;
          counted = sym of.counted;
          number = fits.number;
          arguments = fits.arguments;
          nested = all_nested_wider (omega arith) (omega arith) h.arguments all;
        },
        named_numbered low h.number high h.arguments h.name (each_in SpellingFits spelled (known_in b h.name fits.known)).led fits.some_arguments
            numbered.number numbered.arguments r of.in_table of.named of.counted,
      )
  as_guard_said low high (bare f) fits numbered g e =
      let (r, g_is, of) = in_rows_made rows_alone f 0 end (λ r m. in_table_alone m) g e in
      rw g_is (
        record { in_table = of.in_table; counted = sym of.counted; number = some_compounds; arguments = tt; nested = tt },
        bare_numbered low 0 high end f refl numbered r of.in_table of.named of.counted,
      )
  as_guard_said low high (equals n t u) (below, (left, left_nested), (right, right_nested)) numbered g e =
      let (r, g_is, of) = in_rows_made rows_between (bytes "==") n (more t (more u end)) (λ r m. in_table_between m) g e in
      rw g_is (
        record { in_table = of.in_table; counted = sym of.counted; number = below; arguments = (left, (right, tt)); nested = (left_nested, (right_nested, tt)) },
        sides_numbered low n high (more t (more u end)) (bytes "==") refl numbered r of.in_table of.named of.counted,
      )

  -- All of them.
  pub record GuardsSaid (low high : ℕ) (es : List Element) (gs : List Guard) : Type 0 where
    pub fit : Each (GuardFits b) gs
    pub numbered : GuardsNumbered low high gs
    pub as_many : length gs ≡ length es

  pub as_guards_said : (low high : ℕ) (es : List Element) → Each (ElementFits b) es → ElementsNumbered low high es → (gs : List Guard) → as_guards es ≡ some gs
      → GuardsSaid low high es gs
  unfolding as_guards with_guard ElementsNumbered GuardsNumbered
  as_guards_said low high [] fits numbered gs e =
      let gs_are : [] ≡ gs = cc in rw (← gs_are) (record { fit = tt; numbered = numbered; as_many = refl })
  as_guards_said low high (d ∷ es) fits (middle, first, others) gs e =
      go (as_guard d) refl (as_guards es) refl (as_guards_said middle high es fits.1 others)
    where
      go : (o : Option Guard) → as_guard d ≡ o → (os : Option (List Guard)) → as_guards es ≡ os
          → ((gs : List Guard) → as_guards es ≡ some gs → GuardsSaid middle high es gs) → GuardsSaid low high (d ∷ es) gs
      go none p os q further = let e' : none ≡ some gs = rw p at e in absurd (differ (cc))
      go (some g) p none q further = let e' : none ≡ some gs = rw (p, q) at e in absurd (differ (cc))
      go (some g) p (some later) q further =
          let e' : some (g ∷ later) ≡ some gs = rw (p, q) at e in
          let gs_are : g ∷ later ≡ gs = cc in
          let it = as_guard_said low middle d fits.0 first g p in
          let all = further later q in
          rw (← gs_are) (record { fit = (it.0, all.fit); numbered = (middle, it.1, all.numbered); as_many = omega (arith, all.as_many) })
