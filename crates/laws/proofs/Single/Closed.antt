-- A pair is closed if it is assigned and its value holds closed pairs only: written out, it holds no variable. Closed pairs stay closed.
-- A ground, integer or constant guard that succeeds says so of every pair that its argument holds; so a licensed reader's pair is closed by the step.
use Prim.Native.Nat.{ℕ, zero, suc, ◌+◌, ◌-◌, ◌≤◌, ◌<◌}
use mathlib.Core.Path.{◌≡◌, refl, sym, ◌∙◌}
use mathlib.Core.Logic.{⊎_elim}
use mathlib.Core.Bool.{Bool, true, false, ◌&&◌}
use mathlib.Core.List.{List, [], ◌∷◌}
use mathlib.Core.Option.{Option, none, some}
use native.Mathlib.Omega.{arith}
use lib.Dec.{eqb}
use lib.ListN.{length}
use borrow.Author.Tests.{eqb-true}
use Rattle.meaning.specs.Bytes.{when◌then◌else◌, any}
use Rattle.meaning.specs.Terms.{
  Half,
  writer,
  reader,
  Constant,
  Term,
  Terms,
  Test,
  an_integer,
  a_constant,
  a_compound,
  a_ground,
  known,
  equal,
  otherwise,
  Row,
  Guard,
  count,
  variable,
  constant,
  compound,
  end,
  more,
  same_half,
  occurrences,
  all_occurrences,
  replaced,
  all_replaced,
}
use Rattle.meaning.specs.State.{Values, value, applied}
use Rattle.meaning.specs.Compare.{Assignment, succeeds, waits_on, and_then}
use Rattle.meaning.specs.Table.{row, rows_before, rows_between, rows_alone, guard_table, is_reader, licensed}
use Rattle.meaning.specs.Guards.{given_to, written_out, unassigned, variables, all_variables, argument_is, is_integer, succeeds_if, answer}
use Rattle.laws.proofs.Lists.{differ, false_not_true, and_left, and_right, or_true, In, here, there, Each, each_in}
use Rattle.laws.proofs.Trial.{fails_not_succeeds, waits_not_succeeds, both, value_beyond, Succeeds}

-- Each pair that a term holds passes a test.
unfoldable mutual
  pub holds_only : (ℕ → Bool) → Term → Bool
  holds_only test (variable h n) = test n
  holds_only test (constant k) = true
  holds_only test (compound m f ts) = all_hold_only test ts

  pub all_hold_only : (ℕ → Bool) → Terms → Bool
  all_hold_only test end = true
  all_hold_only test (more t ts) = holds_only test t && all_hold_only test ts

-- Closed, over no more links than given; and closed.
unfoldable pub closed_within : ℕ → Values → ℕ → Bool
closed_within zero values n = false
closed_within (suc links) values n = elim (value values n) [ none ↦ false | some u ↦ holds_only (closed_within links values) u ]

unfoldable pub closed : Values → ℕ → Bool
closed values n = closed_within (length values) values n

pub both_true : (a b : Bool) → a ≡ true → b ≡ true → (a && b) ≡ true
both_true true b e f = f
both_true false b e f = absurd (false_not_true false refl e)

-- What passes one test passes another.
module _ (test wider : ℕ → Bool) (implied : (n : ℕ) → test n ≡ true → wider n ≡ true) where
  mutual
    unfolding holds_only all_hold_only

    pub holds_only_wider : (t : Term) → holds_only test t ≡ true → holds_only wider t ≡ true
    holds_only_wider (variable h n) e = implied n e
    holds_only_wider (constant k) e = refl
    holds_only_wider (compound m f ts) e = all_hold_only_wider ts e

    all_hold_only_wider : (ts : Terms) → all_hold_only test ts ≡ true → all_hold_only wider ts ≡ true
    all_hold_only_wider end e = refl
    all_hold_only_wider (more t ts) e =
        both_true _ _ (holds_only_wider t (and_left _ _ e)) (all_hold_only_wider ts (and_right (holds_only test t) _ e))

-- A pair that does not pass it occurs nowhere.
module _ (test : ℕ → Bool) (h : Half) (n : ℕ) (not : test n ≡ false) where
  mutual
    unfolding holds_only all_hold_only occurrences all_occurrences when◌then◌else◌

    pub not_held : (t : Term) → holds_only test t ≡ true → occurrences h n t ≡ 0
    not_held (variable k m) e = go (same_half h k) (eqb n m) refl
      where
        go : (a b : Bool) → eqb n m ≡ b → ◌≡◌ {A = ℕ} (when a && b then 1 else 0) 0
        go true true f =
            let same : n ≡ m = eqb-true n m f in
            absurd (false_not_true (test n) not (rw same e))
        go true false f = refl
        go false b f = refl
    not_held (constant k) e = refl
    not_held (compound m f ts) e = all_not_held ts e

    all_not_held : (ts : Terms) → all_hold_only test ts ≡ true → all_occurrences h n ts ≡ 0
    all_not_held end e = refl
    all_not_held (more t ts) e =
        omega (arith, not_held t (and_left _ _ e), all_not_held ts (and_right (holds_only test t) _ e))

-- A closed pair is assigned; its value holds pairs that are closed over one link less.
pub record OpenUp (test : ℕ → Bool) (values : Values) (n : ℕ) : Type 0 where
  pub value_held : Term
  pub assigned : value values n ≡ some value_held
  pub only : holds_only test value_held ≡ true

module _ (values : Values) where
  pub opened : (links n : ℕ) → closed_within (suc links) values n ≡ true → OpenUp (closed_within links values) values n
  unfolding closed_within
  opened links n e = go (value values n) refl
    where
      go : (o : Option Term) → value values n ≡ o → OpenUp (closed_within links values) values n
      go none f = absurd (false_not_true false refl (rw (closed_within, f) at e))
      go (some u) f = record { value_held = u; assigned = f; only = rw (closed_within, f) at e }

  closing : (links n : ℕ) (u : Term) → value values n ≡ some u → holds_only (closed_within links values) u ≡ true
      → closed_within (suc links) values n ≡ true
  unfolding closed_within
  closing links n u e only = rw (e, closed_within) only

  -- More links close no less.
  pub closed_more : (links n : ℕ) → closed_within links values n ≡ true → closed_within (suc links) values n ≡ true
  unfolding closed_within
  closed_more zero n e = absurd (false_not_true false refl e)
  closed_more (suc links) n e =
      let o = opened links n e in
      closing (suc links) n o.value_held o.assigned
      (holds_only_wider (closed_within links values) (closed_within (suc links) values) (λ m. closed_more links m) o.value_held o.only)

  pub closed_further : (others links n : ℕ) → closed_within links values n ≡ true → closed_within (others + links) values n ≡ true
  closed_further zero links n e =
      let same : zero + links ≡ links = omega arith in
      rw same e
  closed_further (suc others) links n e =
      let same : suc others + links ≡ suc (others + links) = omega arith in
      rw same (closed_more (others + links) n (closed_further others links n e))

  -- A closed pair is assigned, and its value holds closed pairs only.
  closed_opens : (links n : ℕ) → closed_within links values n ≡ true → OpenUp (closed_within links values) values n
  unfolding closed_within
  closed_opens zero n e = absurd (false_not_true false refl e)
  closed_opens (suc links) n e =
      let o = opened links n e in
      record {
        value_held = o.value_held;
        assigned = o.assigned;
        only = holds_only_wider (closed_within links values) (closed_within (suc links) values) (λ m. closed_more links m) o.value_held o.only;
      }

  pub opens : (n : ℕ) → closed values n ≡ true → OpenUp (closed values) values n
  unfolding closed
  opens n e = closed_opens (length values) n e

  -- So its value holds nothing of any other pair.
  pub closed_holds_none : (p : ℕ) (u : Term) → closed values p ≡ true → value values p ≡ some u
      → (h : Half) (n : ℕ) → closed values n ≡ false → occurrences h n u ≡ 0
  closed_holds_none p u c e h n apart =
      let o = opens p c in
      let it : some u ≡ some o.value_held = sym e ∙ o.assigned in
      let its : u ≡ o.value_held = cc in
      rw its (not_held (closed values) h n apart o.value_held o.only)

  -- A pair without a value is not closed; nor is one beyond the unit's.
  pub unassigned_open : (n : ℕ) → value values n ≡ none → closed values n ≡ false
  unassigned_open n e = go (closed values n) refl
    where
      go : (b : Bool) → closed values n ≡ b → closed values n ≡ false
      go false f = f
      go true f =
          let o = (opens n f).assigned in
          absurd (differ (cc))

  -- Terms that hold no variable once they are written out hold closed pairs only.
  mutual
    unfolding holds_only all_hold_only variables all_variables unassigned waits_on

    plain : (test : ℕ → Bool) (t : Term) (first : List Assignment) → variables and_then t ≡ succeeds first → holds_only test t ≡ true
    plain test (variable writer p) first e = absurd (fails_not_succeeds e)
    plain test (variable reader p) first e = absurd (waits_not_succeeds e)
    plain test (constant k) first e = refl
    plain test (compound m f ts) first e = all_plain test ts first e

    all_plain : (test : ℕ → Bool) (ts : Terms) (first : List Assignment) → all_variables and_then ts ≡ succeeds first → all_hold_only test ts ≡ true
    all_plain test end first e = refl
    all_plain test (more t ts) first e =
        let b = both (variables and_then t) (all_variables and_then ts) first e in
        both_true _ _ (plain test t b.first b.one_succeeds) (all_plain test ts b.others b.two_succeeds)

  module _ (by : Half → ℕ → Term) (test : ℕ → Bool)
      (each : (h : Half) (p : ℕ) (first : List Assignment) → variables and_then (by h p) ≡ succeeds first → test p ≡ true) where
    mutual
      unfolding holds_only all_hold_only variables all_variables replaced all_replaced

      replaced_plain : (t : Term) (first : List Assignment) → variables and_then (replaced by t) ≡ succeeds first → holds_only test t ≡ true
      replaced_plain (variable h p) first e = each h p first e
      replaced_plain (constant k) first e = refl
      replaced_plain (compound m f ts) first e = all_replaced_plain ts first e

      all_replaced_plain : (ts : Terms) (first : List Assignment) → all_variables and_then (all_replaced by ts) ≡ succeeds first
          → all_hold_only test ts ≡ true
      all_replaced_plain end first e = refl
      all_replaced_plain (more t ts) first e =
          let b = both (variables and_then (replaced by t)) (all_variables and_then (all_replaced by ts)) first e in
          both_true _ _ (replaced_plain t b.first b.one_succeeds) (all_replaced_plain ts b.others b.two_succeeds)

  pub written_closed : (links : ℕ) (t : Term) (first : List Assignment) → variables and_then (applied links values t) ≡ succeeds first
      → holds_only (closed_within links values) t ≡ true
  unfolding applied holds_only
  written_closed zero t first e = plain (closed_within zero values) t first e
  written_closed (suc links) t first e =
      replaced_plain (λ h p. elim (value values p) [ none ↦ variable h p | some u ↦ applied links values u ]) (closed_within (suc links) values)
      (λ h p. go h p (value values p) refl (written_closed links)) t first e
    where
      go : (h : Half) (p : ℕ) (o : Option Term) → value values p ≡ o
          → ((u : Term) (first : List Assignment) → variables and_then (applied links values u) ≡ succeeds first → holds_only (closed_within links values) u ≡ true)
          → (first : List Assignment)
          → variables and_then (elim (value values p) [ none ↦ variable h p | some u ↦ applied links values u ]) ≡ succeeds first
          → closed_within (suc links) values p ≡ true
      go h p none f further first e = absurd (false_not_true false refl (plain (λ n. false) (variable h p) first (rw f at e)))
      go h p (some u) f further first e = closing links p u f (further u first (rw f at e))

-- Values that stay keep closed pairs closed.
pub within_kept : (values after : Values) → ((n : ℕ) (t : Term) → value values n ≡ some t → value after n ≡ some t)
    → (links n : ℕ) → closed_within links values n ≡ true → closed_within links after n ≡ true
unfolding closed_within
within_kept values after kept zero n e = absurd (false_not_true false refl e)
within_kept values after kept (suc links) n e =
    let o = opened values links n e in
    closing after links n o.value_held (kept n o.value_held o.assigned)
    (holds_only_wider (closed_within links values) (closed_within links after) (λ m. within_kept values after kept links m) o.value_held o.only)

pub closed_kept : (values after : Values) → length values ≤ length after → ((n : ℕ) (t : Term) → value values n ≡ some t → value after n ≡ some t)
    → (n : ℕ) → closed values n ≡ true → closed after n ≡ true
unfolding closed
closed_kept values after longer kept n e =
    let enough : (length after - length values) + length values ≡ length after = omega arith in
    rw enough at (closed_further after (length after - length values) (length values) n (within_kept values after kept (length values) n e))

-- So does a new pair whose value held closed pairs only.
pub closed_new : (values after : Values) → length values < length after → ((n : ℕ) (t : Term) → value values n ≡ some t → value after n ≡ some t)
    → (n : ℕ) (t : Term) → value after n ≡ some t → holds_only (closed_within (length values) values) t ≡ true → closed after n ≡ true
unfolding closed
closed_new values after longer kept n t e only =
    let enough : (length after - suc (length values)) + suc (length values) ≡ length after = omega arith in
    rw enough at (closed_further after (length after - suc (length values)) (suc (length values)) n
    (closing after (length values) n t e
    (holds_only_wider (closed_within (length values) values) (closed_within (length values) after) (λ m. within_kept values after kept (length values) m) t only)))

-- What succeeds of such guards: an integer, a constant or a ground term. The table says so of no others.
unfoldable pub grounding : Test → Bool
grounding an_integer = true
grounding a_constant = true
grounding a_compound = false
grounding a_ground = true
grounding known = false
grounding equal = false
grounding otherwise = false

pub table_grounds : (r : Row) → In r guard_table → r.means_ground ≡ true → grounding r.test ≡ true
unfolding guard_table rows_before rows_between rows_alone row grounding
table_grounds r member = each_in (λ r. r.means_ground ≡ true → grounding r.test ≡ true) all member
  where
    all : Each (λ r. r.means_ground ≡ true → grounding r.test ≡ true) guard_table
    all = (λ e. refl, (λ e. refl, (λ e. e, (λ e. refl, (λ e. e, (λ e. e, (λ e. e, tt)))))))

-- Only a constant, or of an argument without a variable.
argument_plain : (constants : Constant → Bool) (t : Term) (ts : Terms) (first : List Assignment) → argument_is constants false (more t ts) ≡ succeeds first
    → variables and_then t ≡ succeeds []
unfolding argument_is variables unassigned waits_on succeeds_if when◌then◌else◌
argument_plain constants (variable writer p) ts first e = absurd (fails_not_succeeds e)
argument_plain constants (variable reader p) ts first e = absurd (waits_not_succeeds e)
argument_plain constants (constant k) ts first e = refl
argument_plain constants (compound m f us) ts first e = absurd (fails_not_succeeds e)

answer_plain : (test : Test) (earlier : List ℕ) (t : Term) (ts : Terms) (first : List Assignment) → grounding test ≡ true
    → answer test earlier (more t ts) ≡ succeeds first → (plainly : List Assignment) × (variables and_then t ≡ succeeds plainly)
unfolding answer grounding all_variables
answer_plain an_integer earlier t ts first g e = ([], argument_plain is_integer t ts first e)
answer_plain a_constant earlier t ts first g e = ([], argument_plain (λ k. true) t ts first e)
answer_plain a_compound earlier t ts first g e = absurd (false_not_true false refl g)
answer_plain a_ground earlier t ts first g e =
    let b = both (variables and_then t) (all_variables and_then ts) first e in
    (b.first, b.one_succeeds)
answer_plain known earlier t ts first g e = absurd (false_not_true false refl g)
answer_plain equal earlier t ts first g e = absurd (false_not_true false refl g)
answer_plain otherwise earlier t ts first g e = absurd (false_not_true false refl g)

-- A guard of these that succeeds says of the reader that is its argument: what the head gave it holds closed pairs only.
module _ (earlier : List ℕ) (given : List Assignment) (values : Values) (next : ℕ) where
  guard_closes : (g : Guard) (n : ℕ) → grounding g.row.test ≡ true → is_reader n g.arguments ≡ true → Succeeds earlier given values next g
      → holds_only (closed_within (length values) values) (given_to given (next + n)) ≡ true
  unfolding written_out all_replaced replaced is_reader
  guard_closes g n grounds alone (first, e) = go g.arguments alone e
    where
      go : (ts : Terms) → is_reader n ts ≡ true → answer g.row.test earlier (written_out given values next ts) ≡ succeeds first
          → holds_only (closed_within (length values) values) (given_to given (next + n)) ≡ true
      go end a e = absurd (false_not_true false refl a)
      go (more (variable writer m) ts) a e = absurd (false_not_true false refl a)
      go (more (variable reader m) ts) a e =
          let same : n ≡ m = eqb-true n m a in
          let p = answer_plain g.row.test earlier _ _ first grounds e in
          rw same (written_closed values (length values) (given_to given (next + m)) p.0 p.1)
      go (more (constant k) ts) a e = absurd (false_not_true false refl a)
      go (more (compound m f us) ts) a e = absurd (false_not_true false refl a)

  -- So of every licensed reader.
  pub licensed_closes : (guards : List Guard) → Each (λ g. In g.row guard_table × (count g.arguments ≡ g.row.count)) guards
      → Each (Succeeds earlier given values next) guards
      → (n : ℕ) → licensed guards n ≡ true → holds_only (closed_within (length values) values) (given_to given (next + n)) ≡ true
  unfolding licensed any
  licensed_closes [] rows all n l = absurd (false_not_true false refl l)
  licensed_closes (g ∷ guards) rows all n l =
      ⊎_elim
      (λ e. guard_closes g n (table_grounds g.row rows.0.0 (and_left _ _ e)) (and_right g.row.means_ground _ e) all.0)
      (λ e. licensed_closes guards rows.1 all.1 n e)
      (or_true _ _ l)

pub first_in : (a : Assignment) (given : List Assignment) → In a (a ∷ given)
first_in a given = here refl

pub later_in : {a : Assignment} {given : List Assignment} (b : Assignment) → In a given → In a (b ∷ given)
later_in b m = there m

-- What the head gave a new pair was given: a pair that was given nothing is not closed.
pub given_found : (given : List Assignment) (values : Values) (x : ℕ) → length values ≤ x
    → holds_only (closed_within (length values) values) (given_to given x) ≡ true
    → (a : Assignment) × In a given × (a.pair ≡ x) × (holds_only (closed_within (length values) values) a.value ≡ true)
unfolding given_to holds_only closed
given_found [] values x past e = absurd (false_not_true (closed values x) (unassigned_open values x (value_beyond values x past)) e)
given_found (a ∷ given) values x past e = go (eqb a.pair x) refl (given_found given values x past)
  where
    go : (b : Bool) → eqb a.pair x ≡ b
        → (holds_only (closed_within (length values) values) (given_to given x) ≡ true
        → (a : Assignment) × In a given × (a.pair ≡ x) × (holds_only (closed_within (length values) values) a.value ≡ true))
        → (c : Assignment) × In c (a ∷ given) × (c.pair ≡ x) × (holds_only (closed_within (length values) values) c.value ≡ true)
    go true f further = (a, here refl, eqb-true a.pair x f, rw (given_to, f) at e)
    go false f further = let (c, m, p, q) = further (rw (given_to, f) at e) in (c, there m, p, q)
