-- The kinds and their tests; the table's rows by their numbers; what each guard's arguments are.
use Prim.Native.Nat.{ℕ, zero, suc, ◌≤◌, ◌<◌}
use mathlib.Core.Path.{◌≡◌, refl, sym, ap, ◌∙◌}
use mathlib.Core.Bool.{Bool, true, false, not}
use mathlib.Core.List.{List, [], ◌∷◌}
use native.Mathlib.Omega.{arith}
use Rattle.std.specs.Prelude.{None}
use lib.Dec.{eqb}
use lib.ListN.{length}
use Rattle.meaning.specs.Bytes.{when◌then◌else◌}
use Rattle.meaning.specs.Terms.{
  writer,
  reader,
  Constant,
  Term,
  Terms,
  variable,
  constant,
  compound,
  end,
  more,
  Test,
  an_integer,
  a_constant,
  a_compound,
  a_ground,
  known,
  equal,
  otherwise,
  Row,
  count,
}
use Rattle.meaning.specs.Compare.{Result, succeeds, waits, fails, waits_on}
use Rattle.meaning.specs.Table.{row, rows_before, rows_between, rows_alone, guard_table}
use Rattle.meaning.specs.Guards.{unassigned, succeeds_if, argument_is, is_integer, answer}
use Rattle.laws.proofs.Lists.Among.{In}
use Rattle.laws.proofs.Lists.EachOf.{each_in}
use Rattle.term.specs.Guards.{test_number, row_at}
use Rattle.term.specs.Setting.{Setting}
use Rattle.term.specs.Words.{tag_in, rest_in}
use Rattle.run_guards.specs.Single.{constant_tag, Shows, IsRead, of_kind}
use Rattle.run_guards.specs.declared.guards.Kind.{Kind}
use Rattle.run_guards.specs.declared.guards.Kind.TheVariants as kinds

-- An argument by what a word shows of it.
module _ (x : Setting) (w : ℕ) (kind : Kind) (us : Terms) where
  abbrev pub by_kind : Term → Result
  by_kind u = argument_is (λ k. of_kind kind (constant_tag k)) (of_kind kind 6) (more u us)

  tag_over : (k : Constant) → 2 < constant_tag k
  tag_over (Constant.integer i) = omega arith
  tag_over (Constant.name f) = omega arith
  tag_over Constant.empty = omega arith

  pub read_fails : (u : Term) → IsRead x u None → by_kind u ≡ fails
  unfolding argument_is unassigned
  read_fails u r = rw r.1

  pub shown_fails : (u : Term) → Shows x u w → tag_in w < 2 → by_kind u ≡ fails
  unfolding argument_is unassigned
  shown_fails (variable writer p) s h = refl
  shown_fails (variable reader p) s h = absurd (omega (arith, s.0))
  shown_fails (constant k) s h = absurd (omega (arith, tag_over k))
  shown_fails (compound n f ts) s h = absurd (omega arith)

  pub shown_waits : (u : Term) → Shows x u w → tag_in w ≡ 2
      → (p : ℕ) × (by_kind u ≡ waits (p ∷ [])) × (p < length x.values) × (rest_in w ≡ x.places.pair p)
  unfolding argument_is unassigned waits_on
  shown_waits (variable writer p) s h = absurd (omega arith)
  shown_waits (variable reader p) s h = (p, refl, s.2, s.1)
  shown_waits (constant k) s h = absurd (omega (arith, tag_over k))
  shown_waits (compound n f ts) s h = absurd (omega arith)

  pub shown_kind : (u : Term) → Shows x u w → 2 < tag_in w → by_kind u ≡ succeeds_if (of_kind kind (tag_in w))
  unfolding argument_is
  shown_kind (variable writer p) s h = absurd (omega arith)
  shown_kind (variable reader p) s h = absurd (omega (arith, s.0))
  shown_kind (constant k) s h = rw s
  shown_kind (compound n f ts) s h = rw s

pub succeeds_true : (b : Bool) → b ≡ true → succeeds_if b ≡ succeeds []
unfolding succeeds_if when◌then◌else◌
succeeds_true b e = rw e

pub fails_false : (b : Bool) → b ≡ false → succeeds_if b ≡ fails
unfolding succeeds_if when◌then◌else◌
fails_false b e = rw e

-- Two tests of constants that agree.
argument_alike : (f g : Constant → Bool) (b c : Bool) (ts : Terms) → ((k : Constant) → f k ≡ g k) → b ≡ c → argument_is f b ts ≡ argument_is g c ts
unfolding argument_is
argument_alike f g b c end e h = refl
argument_alike f g b c (more (variable k p) ts) e h = refl
argument_alike f g b c (more (constant k) ts) e h = rw (e k)
argument_alike f g b c (more (compound n k us) ts) e h = rw h

integers : (k : Constant) → eqb (constant_tag k) 3 ≡ is_integer k
unfolding is_integer
integers (Constant.integer i) = refl
integers (Constant.name f) = refl
integers Constant.empty = refl

constants : (k : Constant) → not (eqb (constant_tag k) 6) ≡ true
constants (Constant.integer i) = refl
constants (Constant.name f) = refl
constants Constant.empty = refl

no_compounds : (k : Constant) → eqb (constant_tag k) 6 ≡ false
no_compounds (Constant.integer i) = refl
no_compounds (Constant.name f) = refl
no_compounds Constant.empty = refl

-- The tests that look at the argument itself.
abbrev pub test_of : Kind → Test
test_of kinds.Integer = an_integer
test_of kinds.Constant = a_constant
test_of kinds.Compound = a_compound
test_of kinds.Any = known

pub looks_answer : (kind : Kind) (earlier : List ℕ) (ts : Terms)
    → argument_is (λ k. of_kind kind (constant_tag k)) (of_kind kind 6) ts ≡ answer (test_of kind) earlier ts
unfolding answer
looks_answer kinds.Integer earlier ts = argument_alike _ _ _ _ ts integers refl
looks_answer kinds.Constant earlier ts = argument_alike _ _ _ _ ts constants refl
looks_answer kinds.Compound earlier ts = argument_alike _ _ _ _ ts no_compounds refl
looks_answer kinds.Any earlier ts = refl

-- The tests by their numbers.
numbered : ℕ → Test
numbered zero = an_integer
numbered (suc zero) = a_constant
numbered (suc (suc zero)) = a_compound
numbered (suc (suc (suc zero))) = a_ground
numbered (suc (suc (suc (suc zero)))) = known
numbered (suc (suc (suc (suc (suc zero))))) = equal
numbered (suc (suc (suc (suc (suc (suc n)))))) = otherwise

numbered_back : (t : Test) → numbered (test_number t) ≡ t
unfolding numbered
numbered_back an_integer = refl
numbered_back a_constant = refl
numbered_back a_compound = refl
numbered_back a_ground = refl
numbered_back known = refl
numbered_back equal = refl
numbered_back otherwise = refl

pub same_test : (t u : Test) → test_number t ≡ test_number u → t ≡ u
same_test t u e = sym (numbered_back t) ∙ ap numbered e ∙ numbered_back u

pub test_small : (t : Test) → test_number t ≤ 6
test_small an_integer = omega arith
test_small a_constant = omega arith
test_small a_compound = omega arith
test_small a_ground = omega arith
test_small known = omega arith
test_small equal = omega arith
test_small otherwise = omega arith

-- How many arguments the rows have.
abbrev pub arguments_of : Test → ℕ
arguments_of test = (row_at guard_table (test_number test)).count

pub kind_one : (kind : Kind) → arguments_of (test_of kind) ≡ 1
unfolding guard_table rows_before rows_between rows_alone row row_at
kind_one kinds.Integer = refl
kind_one kinds.Constant = refl
kind_one kinds.Compound = refl
kind_one kinds.Any = refl

pub ground_one : arguments_of a_ground ≡ 1
unfolding guard_table rows_before rows_between rows_alone row row_at
ground_one = refl

pub equal_two : arguments_of equal ≡ 2
unfolding guard_table rows_before rows_between rows_alone row row_at
equal_two = refl

-- A row of the table has as many as its number says.
pub table_counts : (r : Row) → In r guard_table → r.count ≡ arguments_of r.test
unfolding guard_table rows_before rows_between rows_alone row row_at
table_counts r m = each_in (λ q. q.count ≡ arguments_of q.test) {l = guard_table} (refl, (refl, (refl, (refl, (refl, (refl, (refl, tt))))))) m

-- One argument or more; two.
pub some_argument : (ts : Terms) → 0 < count ts → (t : Term) × (us : Terms) × (ts ≡ more t us)
unfolding count
some_argument end h = absurd (omega arith)
some_argument (more t ts) h = (t, ts, refl)

pub two_arguments : (ts : Terms) → count ts ≡ 2 → (t : Term) × (u : Term) × (ts ≡ more t (more u end))
unfolding count
two_arguments end e = absurd (omega arith)
two_arguments (more t end) e = absurd (omega arith)
two_arguments (more t (more u end)) e = (t, u, refl)
two_arguments (more t (more u (more v ts))) e = absurd (omega arith)
