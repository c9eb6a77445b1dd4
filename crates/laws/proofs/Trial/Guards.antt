-- What a guard waits on stands in its arguments, written out; and a guard that waits has a reader to wait on, unless it is `otherwise`, which waits
-- with the earlier clauses. So guards that wait have a reader, or an earlier clause has.
use Prim.Native.Nat.{ℕ, ◌≤◌}
use mathlib.Core.Path.{◌≡◌, refl}
use mathlib.Core.Logic.{◌≢◌}
use mathlib.Core.Bool.{Bool, true, false}
use mathlib.Core.List.{List, [], ◌∷◌, ◌++◌}
use native.Mathlib.Omega.{arith}
use Rattle.meaning.specs.Bytes.{when◌then◌else◌}
use Rattle.meaning.specs.Terms.{
  Half,
  writer,
  reader,
  Constant,
  Term,
  Terms,
  variable,
  constant,
  compound,
  end,
  more,
  Test,
  an_integer,
  a_constant,
  a_compound,
  a_ground,
  known,
  equal,
  otherwise,
  Guard,
  occurrences,
  all_occurrences,
}
use Rattle.meaning.specs.State.{Values}
use Rattle.meaning.specs.Compare.{Assignment, Result, succeeds, waits, fails, waits_on, and_then}
use Rattle.meaning.specs.Guards.{
  written_out,
  first_of,
  succeeds_if,
  unassigned,
  variables,
  all_variables,
  argument_is,
  is_integer,
  two_equal,
  after,
  answer,
  in_order,
}
use Rattle.laws.proofs.Lists.{differ, In, here, there, Each, each_append, each_implies}
use Rattle.laws.proofs.Terms.{occurs_itself}
use Rattle.laws.proofs.Trial.Results.{fails_not_waits, succeeds_not_waits, Either, the_one, the_other, the_two, either}

-- Something holds of each reader on which a result waits, if it waits.
abbrev pub EachWaited : (ℕ → Type 0) → Result → Type 0
EachWaited Q r = (readers : List ℕ) → r ≡ waits readers → Each Q readers

module _ (Q : ℕ → Type 0) where
  waited_and_then : (one two : Result) → EachWaited Q one → EachWaited Q two → EachWaited Q (and_then one two)
  waited_and_then one two f g readers e = go (either one two readers e)
    where
      go : Either one two readers → Each Q readers
      go (the_one i) = f readers i
      go (the_other i) = g readers i
      go (the_two first others i j together) = rw together (each_append Q first others (f first i) (g others j))

  pub waited_first_of : (one two : Result) → EachWaited Q one → EachWaited Q two → EachWaited Q (first_of one two)
  unfolding first_of
  waited_first_of (succeeds given) two f g readers e = g readers e
  waited_first_of (waits rs) two f g readers e = f readers e
  waited_first_of fails two f g readers e = absurd (fails_not_waits e)

  waited_if : (b : Bool) → EachWaited Q (succeeds_if b)
  unfolding succeeds_if when◌then◌else◌
  waited_if true readers e = absurd (succeeds_not_waits e)
  waited_if false readers e = absurd (fails_not_waits e)

-- The terms hold the reader.
abbrev pub Held : Terms → ℕ → Type 0
Held ts p = 1 ≤ all_occurrences reader p ts

unassigned_held : (h : Half) (p : ℕ) → EachWaited (Held (more (variable h p) end)) (unassigned h p)
unfolding unassigned waits_on all_occurrences
unassigned_held writer p readers e = absurd (fails_not_waits e)
unassigned_held reader p readers e =
    let only : readers ≡ p ∷ [] = cc in
    rw only (omega (arith, occurs_itself reader p), tt)

held_more : (ts us : Terms) → ((h : Half) (n : ℕ) → all_occurrences h n ts ≤ all_occurrences h n us) → (r : Result) → EachWaited (Held ts) r → EachWaited (Held us) r
held_more ts us less r f readers e = each_implies (Held ts) (Held us) (λ p m. omega (arith, less reader p)) readers (f readers e)

module _ (together : Result → Result → Result)
    (keeps : (Q : ℕ → Type 0) (one two : Result) → EachWaited Q one → EachWaited Q two → EachWaited Q (together one two)) where
  mutual
    unfolding variables all_variables occurrences all_occurrences

    variables_held : (t : Term) → EachWaited (Held (more t end)) (variables together t)
    variables_held (variable h p) readers e = unassigned_held h p readers e
    variables_held (constant k) readers e = absurd (succeeds_not_waits e)
    variables_held (compound m f ts) readers e =
        held_more ts (more (compound m f ts) end) (λ h n. omega arith) (all_variables together ts) (λ rs i. all_variables_held ts rs i) readers e

    all_variables_held : (ts : Terms) → EachWaited (Held ts) (all_variables together ts)
    all_variables_held end readers e = absurd (succeeds_not_waits e)
    all_variables_held (more t ts) readers e =
        keeps (Held (more t ts)) (variables together t) (all_variables together ts)
        (held_more (more t end) (more t ts) (λ h n. omega arith) (variables together t) (λ rs i. variables_held t rs i))
        (held_more ts (more t ts) (λ h n. omega arith) (all_variables together ts) (λ rs i. all_variables_held ts rs i)) readers e

argument_held : (constants : Constant → Bool) (compounds : Bool) (ts : Terms) → EachWaited (Held ts) (argument_is constants compounds ts)
unfolding argument_is occurrences all_occurrences
argument_held constants compounds end readers e = absurd (fails_not_waits e)
argument_held constants compounds (more (variable h p) ts) readers e =
    held_more (more (variable h p) end) (more (variable h p) ts) (λ k n. omega arith) (unassigned h p) (unassigned_held h p) readers e
argument_held constants compounds (more (constant k) ts) readers e = waited_if (Held (more (constant k) ts)) (constants k) readers e
argument_held constants compounds (more (compound m f us) ts) readers e = waited_if (Held (more (compound m f us) ts)) compounds readers e

-- What a guard waits on, it holds, written out.
pub answer_held : (test : Test) (earlier : List ℕ) (ts : Terms) → EachWaited (Held ts) (answer test earlier ts)
unfolding answer after
answer_held an_integer earlier ts readers e = argument_held is_integer false ts readers e
answer_held a_constant earlier ts readers e = argument_held (λ k. true) false ts readers e
answer_held a_compound earlier ts readers e = argument_held (λ k. false) true ts readers e
answer_held known earlier ts readers e = argument_held (λ k. true) true ts readers e
answer_held a_ground earlier ts readers e = all_variables_held and_then waited_and_then ts readers e
answer_held equal earlier ts readers e =
    waited_first_of (Held ts) (all_variables first_of ts) (succeeds_if (two_equal ts)) (all_variables_held first_of waited_first_of ts)
    (waited_if (Held ts) (two_equal ts)) readers e
answer_held otherwise [] ts readers e = absurd (succeeds_not_waits e)
answer_held otherwise (r ∷ earlier) ts readers e =
    let only : readers ≡ [] = cc in
    rw only tt

-- A result that waits has a reader.
unfoldable pub OnSome : Result → Type 0
OnSome r = (readers : List ℕ) → r ≡ waits readers → readers ≢ []

pub nothing_behind : (l m : List ℕ) → l ++ m ≡ [] → (l ≡ []) × (m ≡ [])
nothing_behind [] m e = (refl, e)
nothing_behind (a ∷ l) m e = absurd (differ (cc))

succeeds_on_some : (given : List Assignment) → OnSome (succeeds given)
unfolding OnSome
succeeds_on_some given readers e none = succeeds_not_waits e

fails_on_some : OnSome fails
unfolding OnSome
fails_on_some readers e none = fails_not_waits e

waits_on_some : (p : ℕ) → OnSome (waits_on p)
unfolding OnSome waits_on
waits_on_some p readers e none =
    let only : readers ≡ p ∷ [] = cc in
    differ (cc)

pub and_then_on_some : (one two : Result) → OnSome one → OnSome two → OnSome (and_then one two)
unfolding OnSome
and_then_on_some one two f g readers e none = go (either one two readers e)
  where
    go : Either one two readers → ⊥
    go (the_one i) = f readers i none
    go (the_other i) = g readers i none
    go (the_two first others i j together) = f first i (nothing_behind first others (rw (← together) none)).0

first_of_on_some : (one two : Result) → OnSome one → OnSome two → OnSome (first_of one two)
unfolding first_of
first_of_on_some (succeeds given) two f g = g
first_of_on_some (waits readers) two f g = f
first_of_on_some fails two f g = f

succeeds_if_on_some : (b : Bool) → OnSome (succeeds_if b)
unfolding succeeds_if when◌then◌else◌
succeeds_if_on_some true = succeeds_on_some []
succeeds_if_on_some false = fails_on_some

unassigned_on_some : (h : Half) (p : ℕ) → OnSome (unassigned h p)
unfolding unassigned
unassigned_on_some writer p = fails_on_some
unassigned_on_some reader p = waits_on_some p

module _ (together : Result → Result → Result) (keeps : (one two : Result) → OnSome one → OnSome two → OnSome (together one two)) where
  mutual
    unfolding variables all_variables

    variables_on_some : (t : Term) → OnSome (variables together t)
    variables_on_some (variable h p) = unassigned_on_some h p
    variables_on_some (constant k) = succeeds_on_some []
    variables_on_some (compound m f ts) = all_variables_on_some ts

    all_variables_on_some : (ts : Terms) → OnSome (all_variables together ts)
    all_variables_on_some end = succeeds_on_some []
    all_variables_on_some (more t ts) = keeps (variables together t) (all_variables together ts) (variables_on_some t) (all_variables_on_some ts)

argument_on_some : (constants : Constant → Bool) (compounds : Bool) (ts : Terms) → OnSome (argument_is constants compounds ts)
unfolding argument_is
argument_on_some constants compounds end = fails_on_some
argument_on_some constants compounds (more (variable h p) ts) = unassigned_on_some h p
argument_on_some constants compounds (more (constant k) ts) = succeeds_if_on_some (constants k)
argument_on_some constants compounds (more (compound m f us) ts) = succeeds_if_on_some compounds

-- A guard that waits where no earlier clause does has a reader to wait on: "otherwise succeeds exactly if every earlier clause of the procedure failed".
answer_on_some : (test : Test) (ts : Terms) → OnSome (answer test [] ts)
unfolding answer after
answer_on_some an_integer ts = argument_on_some is_integer false ts
answer_on_some a_constant ts = argument_on_some (λ k. true) false ts
answer_on_some a_compound ts = argument_on_some (λ k. false) true ts
answer_on_some known ts = argument_on_some (λ k. true) true ts
answer_on_some a_ground ts = all_variables_on_some and_then and_then_on_some ts
answer_on_some equal ts =
    first_of_on_some (all_variables first_of ts) (succeeds_if (two_equal ts)) (all_variables_on_some first_of first_of_on_some ts)
    (succeeds_if_on_some (two_equal ts))
answer_on_some otherwise ts = succeeds_on_some []

module _ (given : List Assignment) (values : Values) (next : ℕ) where
  pub guards_on_some : (guards : List Guard) → OnSome (in_order [] given values next guards)
  unfolding in_order
  guards_on_some [] = succeeds_on_some given
  guards_on_some (g ∷ guards) =
      first_of_on_some (answer g.row.test [] (written_out given values next g.arguments)) (in_order [] given values next guards)
      (answer_on_some g.row.test (written_out given values next g.arguments)) (guards_on_some guards)

  -- The readers on which guards wait stand in one of them, written out.
  pub guards_held : (earlier : List ℕ) (guards : List Guard)
      → EachWaited (λ p. (g : Guard) × In g guards × Held (written_out given values next g.arguments) p) (in_order earlier given values next guards)
  unfolding in_order
  guards_held earlier [] readers e = absurd (succeeds_not_waits e)
  guards_held earlier (g ∷ guards) readers e =
      waited_first_of (λ p. (o : Guard) × In o (g ∷ guards) × Held (written_out given values next o.arguments) p)
      (answer g.row.test earlier (written_out given values next g.arguments)) (in_order earlier given values next guards)
      (λ rs i. each_implies _ _ (λ p m. (g, here refl, m)) rs (answer_held g.row.test earlier (written_out given values next g.arguments) rs i))
      (λ rs i. each_implies _ _ (λ p (o, m, h). (o, there m, h)) rs (guards_held earlier guards rs i)) readers e
