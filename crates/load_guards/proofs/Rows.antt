-- Which row of the table an element is: what searching the whole table by a name and a number of arguments says of those rows that may stand so.
use Prim.Native.Nat.{ℕ, zero, suc, ◌+◌, ◌*◌, ◌/◌, ◌≤◌, ◌<◌}
use mathlib.Core.Path.{◌≡◌, refl, sym, ap, ◌∙◌}
use mathlib.Core.Logic.{◌≢◌}
use mathlib.Core.Bool.{Bool, true, false, not, cond}
use mathlib.Core.List.{List, [], ◌∷◌, ◌++◌}
use mathlib.Core.Option.{none, some}
use native.Mathlib.Nat.{zero-add}
use native.Mathlib.Omega.{arith}
use lib.Dec.{eqb, ltb}
use lib.ListN.{length}
use borrow.Author.Tests.{eqb-true, eqb-false, eq-eqb, ne_eqb, ltb-true, ltb-false, lt-ltb}
use Rattle.meaning.specs.Bytes.{Bytes, bytes_words, same, all, when◌then◌else◌}
use Rattle.meaning.specs.Terms.{Term, Terms, end, more, Named, Row, Guard, count, as_term, terms_words}
use Rattle.meaning.specs.Table.{Element, whole, bare, equals, rows_before, rows_between, rows_alone, guard_table, in_rows, as_guard, table_words}
use Rattle.std.specs.Prelude.{Option as Told, Some, None, nat_eq, nat_lt}
use Rattle.std.specs.Bool.{then_some}
use Rattle.std.specs.Option.{MatchOption}
use Rattle.std.proofs.lemmas.Bool.{and_right as and_right_false}
use Rattle.std.proofs.lemmas.Map.Entries.{option_filter}
use Rattle.laws.proofs.Lists.Tests.{differ, and_left, and_right, false_not_true}
use Rattle.term.specs.Guards.{test_number, guard_word, row_is, row_of, row_at, found_row}
use Rattle.term.specs.Layout.{item_place}
use Rattle.term.proofs.TableOfGuards.{seven}
use Rattle.load_names.specs.Places.{Place, item_places}
use Rattle.load_elements.specs.Elements.{element_word}
use Rattle.load_guards.specs.Judged.{row_number, InTable}

-- The rows before others: the first that fits is found among them, or none of them fits.
in_front : (rows others : List Row) (f : Bytes) (n : ℕ) (ts : Terms) → row_of (rows ++ others) f (count ts) < length rows
    → in_rows rows f n ts ≡ some (record { row = row_at (rows ++ others) (row_of (rows ++ others) f (count ts)); number = n; arguments = ts })
unfolding in_rows row_of row_at when◌then◌else◌
in_front [] others f n ts h = absurd (omega arith)
in_front (r ∷ rows) others f n ts h = go (row_is r f (count ts)) refl (λ l. in_front rows others f n ts l)
  where
    go : (b : Bool) → row_is r f (count ts) ≡ b
        → (row_of (rows ++ others) f (count ts) < length rows
        → in_rows rows f n ts ≡ some (record { row = row_at (rows ++ others) (row_of (rows ++ others) f (count ts)); number = n; arguments = ts }))
        → in_rows (r ∷ rows) f n ts
        ≡ some (record { row = row_at (r ∷ (rows ++ others)) (row_of (r ∷ (rows ++ others)) f (count ts)); number = n; arguments = ts })
    go true e further = rw (e, in_rows) refl
    go false e further = let below : suc (row_of (rows ++ others) f (count ts)) < suc (length rows) = rw e at h in rw (e, in_rows) (further (omega arith))

none_in_front : (rows others : List Row) (f : Bytes) (n : ℕ) (ts : Terms) → length rows ≤ row_of (rows ++ others) f (count ts) → in_rows rows f n ts ≡ none
unfolding in_rows row_of when◌then◌else◌
none_in_front [] others f n ts h = refl
none_in_front (r ∷ rows) others f n ts h = go (row_is r f (count ts)) refl (λ l. none_in_front rows others f n ts l)
  where
    go : (b : Bool) → row_is r f (count ts) ≡ b → (length rows ≤ row_of (rows ++ others) f (count ts) → in_rows rows f n ts ≡ none) → in_rows (r ∷ rows) f n ts ≡ none
    go true e further = let below : suc (length rows) ≤ 0 = rw e at h in absurd (omega arith)
    go false e further = let below : suc (length rows) ≤ suc (row_of (rows ++ others) f (count ts)) = rw e at h in rw (e, in_rows) (further (omega arith))

-- The row that is found has so many arguments.
found_count : (rows : List Row) (f : Bytes) (k : ℕ) → row_of rows f k < length rows → (row_at rows (row_of rows f k)).count ≡ k
unfolding row_of row_at when◌then◌else◌
found_count [] f k h = absurd (omega arith)
found_count (r ∷ rows) f k h = go (row_is r f k) refl (λ l. found_count rows f k l)
  where
    go : (b : Bool) → row_is r f k ≡ b → (row_of rows f k < length rows → (row_at rows (row_of rows f k)).count ≡ k) → (row_at (r ∷ rows) (row_of (r ∷ rows) f k)).count ≡ k
    go true e further = rw e (eqb-true r.count k (and_right (same r.name f) (eqb r.count k) e))
    go false e further = let below : suc (row_of rows f k) < suc (length rows) = rw e at h in rw e (further (omega arith))

-- A row with another number of arguments is not it.
other_count : (r : Row) (f : Bytes) (k : ℕ) → r.count ≢ k → row_is r f k ≡ false
other_count r f k h = and_right_false (same r.name f) (eqb r.count k) (ne_eqb r.count k h)

-- Rows with another number of arguments are passed over.
passed_over : (rows others : List Row) (f : Bytes) (k : ℕ) → all (λ r. not (eqb r.count k)) rows ≡ true → row_of (rows ++ others) f k ≡ length rows + row_of others f k
unfolding row_of all when◌then◌else◌
passed_over [] others f k e = sym (zero-add (row_of others f k))
passed_over (r ∷ rows) others f k e =
    let other : r.count ≢ k = λ q. false_not_true (not (eqb r.count k)) (rw (eq-eqb r.count k q) refl) (and_left (not (eqb r.count k)) (all (λ r. not (eqb r.count k)) rows) e) in
    let rest = passed_over rows others f k (and_right (not (eqb r.count k)) (all (λ r. not (eqb r.count k)) rows) e) in
    rw (other_count r f k other) (omega (arith, rest))

-- The rows' numbers are those of what they ask.
pub row_tests : (r : ℕ) → r < 7 → test_number (row_at guard_table r).test ≡ r
unfolding table_words row_at
row_tests zero h = refl
row_tests (suc zero) h = refl
row_tests (suc (suc zero)) h = refl
row_tests (suc (suc (suc zero))) h = refl
row_tests (suc (suc (suc (suc zero)))) h = refl
row_tests (suc (suc (suc (suc (suc zero))))) h = refl
row_tests (suc (suc (suc (suc (suc (suc zero)))))) h = refl
row_tests (suc (suc (suc (suc (suc (suc (suc r))))))) h = absurd (omega arith)

-- A guard of a row of the table.
abbrev pub guard_of : ℕ → ℕ → Terms → Guard
guard_of r n ts = record { row = row_at guard_table r; number = n; arguments = ts }

-- A compound: only the first five rows stand before their argument.
module _ (g : Named) where
  abbrev sought : ℕ
  sought = row_of guard_table g.name (count g.arguments)

  pub whole_some : sought < 5 → as_guard (whole g) ≡ some (guard_of sought g.number g.arguments)
  unfolding as_guard guard_table rows_before
  whole_some h = in_front rows_before (rows_between ++ rows_alone) g.name g.number g.arguments h

  pub whole_none : 5 ≤ sought → as_guard (whole g) ≡ none
  unfolding as_guard guard_table rows_before
  whole_none h = none_in_front rows_before (rows_between ++ rows_alone) g.name g.number g.arguments h

-- A bare name: only the last row stands alone.
module _ (f : Bytes) where
  before_some : all (λ r. not (eqb r.count 0)) rows_before ≡ true
  unfolding table_words all
  before_some = refl

  between_some : all (λ r. not (eqb r.count 0)) rows_between ≡ true
  unfolding table_words all
  between_some = refl

  row_alone : row_of guard_table f 0 ≡ 5 + (1 + row_of rows_alone f 0)
  unfolding guard_table rows_before rows_between
  row_alone = passed_over rows_before (rows_between ++ rows_alone) f 0 before_some ∙ ap (λ n. 5 + n) (passed_over rows_between rows_alone f 0 between_some)

  pub bare_some : row_of guard_table f 0 ≡ 6 → as_guard (bare f) ≡ some (guard_of 6 0 end)
  unfolding table_words count row_at
  bare_some e =
      let first : row_of rows_alone f 0 ≡ 0 = omega (arith, row_alone) in
      in_front rows_alone [] f 0 end (omega arith) ∙ rw first refl

  pub bare_none : row_of guard_table f 0 ≢ 6 → as_guard (bare f) ≡ none
  unfolding as_guard rows_alone count
  bare_none e = none_in_front rows_alone [] f 0 end (some_there (row_of rows_alone f 0) (λ z. e (row_alone ∙ ap (λ n. 5 + (1 + n)) z)))
    where
      some_there : (x : ℕ) → x ≢ 0 → 1 ≤ x
      some_there zero e = absurd (e refl)
      some_there (suc x) e = omega arith

-- `==` is the row between.
pub equals_some : (n : ℕ) (t u : Term) → as_guard (equals n t u) ≡ some (guard_of 5 n (more t (more u end)))
unfolding table_words bytes_words terms_words row_at
equals_some n t u = refl

-- An element as a guard of the table: the three ways.
pub data AsIs : Element → Guard → Type 0 where
  as_whole : (g : Named) (r : ℕ) → r < 5 → (row_at guard_table r).count ≡ count g.arguments → AsIs (whole g) (guard_of r g.number g.arguments)
  as_bare : (f : Bytes) → AsIs (bare f) (guard_of 6 0 end)
  as_equals : (n : ℕ) (t u : Term) → AsIs (equals n t u) (guard_of 5 n (more t (more u end)))

this_guard : (e : Element) (g h : Guard) → as_guard e ≡ some g → as_guard e ≡ some h → AsIs e g → AsIs e h
this_guard e g h p q a = let same_guard : g ≡ h = cc in rw same_guard at a

pub as_is : (e : Element) (h : Guard) → as_guard e ≡ some h → AsIs e h
as_is (whole g) h e = go (ltb (sought g) 5) refl
  where
    go : (b : Bool) → ltb (sought g) 5 ≡ b → AsIs (whole g) h
    go true q =
        let below : sought g < 5 = ltb-true (sought g) 5 q in
        this_guard (whole g) (guard_of (sought g) g.number g.arguments) h (whole_some g below) e
        (as_whole g (sought g) below (found_count guard_table g.name (count g.arguments) (omega (arith, seven))))
    go false q = let nothing : as_guard (whole g) ≡ none = whole_none g (ltb-false (sought g) 5 q) in absurd (differ (cc))
as_is (bare f) h e = go (eqb (row_of guard_table f 0) 6) refl
  where
    go : (b : Bool) → eqb (row_of guard_table f 0) 6 ≡ b → AsIs (bare f) h
    go true q = this_guard (bare f) (guard_of 6 0 end) h (bare_some f (eqb-true (row_of guard_table f 0) 6 q)) e (as_bare f)
    go false q = let nothing : as_guard (bare f) ≡ none = bare_none f (eqb-false (row_of guard_table f 0) 6 q) in absurd (differ (cc))
as_is (equals n t u) h e = this_guard (equals n t u) (guard_of 5 n (more t (more u end))) h (equals_some n t u) e (as_equals n t u)

-- Of the row that a name has, what the table's ways to stand leave.
pub filtered : (P : ℕ → Bool → Type 0) (test : ℕ → Bool) (o r : Told ℕ) → MatchOption o (r ≡ None) (λ x. (b : Bool) × P x b × (r ≡ then_some b x))
    → ((x : ℕ) (b : Bool) → P x b → b ≡ test x) → r ≡ option_filter test o
filtered P test None r h same = h
filtered P test (Some x) r h same = let e = same x h.0 h.1 in rw (h.2, e) (both (test x))
  where
    both : (b : Bool) → then_some b x ≡ cond b (Some x) None
    both true = refl
    both false = refl

pub whole_kept : (g : Named) → option_filter (λ r. nat_lt r 5) (found_row (sought g)) ≡ found_row (row_number (as_guard (whole g)))
unfolding row_number
whole_kept g = go (ltb (sought g) 5) refl
  where
    go : (b : Bool) → ltb (sought g) 5 ≡ b → option_filter (λ r. nat_lt r 5) (found_row (sought g)) ≡ found_row (row_number (as_guard (whole g)))
    go true q =
        let below : sought g < 5 = ltb-true (sought g) 5 q in
        rw (whole_some g below, row_tests (sought g) (omega arith), lt-ltb (sought g) 7 (omega arith), q) refl
    go false q = rw (whole_none g (ltb-false (sought g) 5 q)) (none_kept (ltb (sought g) 7))
      where
        none_kept : (b : Bool) → option_filter (λ r. nat_lt r 5) (cond b (Some (sought g)) None) ≡ None
        none_kept true = rw q refl
        none_kept false = refl

pub bare_kept : (f : Bytes) → option_filter (λ r. nat_eq r 6) (found_row (row_of guard_table f 0)) ≡ found_row (row_number (as_guard (bare f)))
unfolding row_number
bare_kept f = go (eqb (row_of guard_table f 0) 6) refl
  where
    go : (b : Bool) → eqb (row_of guard_table f 0) 6 ≡ b
        → option_filter (λ r. nat_eq r 6) (found_row (row_of guard_table f 0)) ≡ found_row (row_number (as_guard (bare f)))
    go true q = let six = eqb-true (row_of guard_table f 0) 6 q in rw (bare_some f six, row_tests 6 (omega arith), six) refl
    go false q = rw (bare_none f (eqb-false (row_of guard_table f 0) 6 q)) (none_kept (ltb (row_of guard_table f 0) 7))
      where
        none_kept : (b : Bool) → option_filter (λ r. nat_eq r 6) (cond b (Some (row_of guard_table f 0)) None) ≡ None
        none_kept true = rw q refl
        none_kept false = refl

pub equals_found : (n : ℕ) (t u : Term) → Some 5 ≡ found_row (row_number (as_guard (equals n t u)))
unfolding row_number
equals_found n t u = rw (equals_some n t u, row_tests 5 (omega arith)) refl

-- Such a guard is in the table.
pub in_table : {e : Element} {g : Guard} → AsIs e g → InTable g
unfolding table_words row_at count
in_table (as_whole g r h c) = let test = row_tests r (omega arith) in record { row_is = rw test refl; number_few = omega arith; count_is = sym c }
in_table (as_bare f) = record { row_is = refl; number_few = omega arith; count_is = refl }
in_table (as_equals n t u) = record { row_is = refl; number_few = omega arith; count_is = refl }

-- Its word, by the element's.
tag_off : (tag n : ℕ) → tag < 8 → (tag + 8 * n) / 8 ≡ n
tag_off tag n h = omega arith

pub guard_word_is : (known : List Place) (base : ℕ) {e : Element} {g : Guard} → AsIs e g
    → guard_word (item_places known base) g
    ≡ test_number g.row.test + 8 * (when eqb (test_number g.row.test) 6 then 8 * base else element_word (item_places known base) e / 8)
unfolding element_word item_places when◌then◌else◌ as_term
guard_word_is known base (as_whole g r h c) =
    let test = row_tests r (omega arith) in
    rw (test, ne_eqb r 6 (λ q. omega arith), tag_off 6 (item_place base g.number) (omega arith)) refl
guard_word_is known base (as_bare f) = let test = row_tests 6 (omega arith) in rw test (omega arith)
guard_word_is known base (as_equals n t u) =
    let test = row_tests 5 (omega arith) in rw (test, tag_off 7 (item_place base n) (omega arith)) refl
