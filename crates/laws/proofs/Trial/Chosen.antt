-- The clause by which a goal is reduced is one of its procedure, and its trial succeeded: all places agreed, the circle test found none, and every
-- guard succeeded. A goal that joins the waiting goals waits on readers on which the comparison or a guard of some clause waits.
use Prim.Native.Nat.{ℕ}
use mathlib.Core.Path.{◌≡◌, refl, ◌∙◌}
use mathlib.Core.Bool.{Bool, true, false}
use mathlib.Core.List.{List, [], ◌∷◌, ◌++◌}
use Rattle.meaning.specs.Bytes.{when◌then◌else◌}
use Rattle.meaning.specs.Terms.{Named, Guard, Clause}
use Rattle.meaning.specs.State.{Values, QueryUnit}
use Rattle.meaning.specs.Compare.{Assignment, Result, succeeds, waits, fails}
use Rattle.meaning.specs.Circle.{circle}
use Rattle.meaning.specs.Guards.{answer, written_out, first_of, in_order}
use Rattle.meaning.specs.Trial.{next_pair, values_after, compared, tested, guarded, trial, procedure, reduces, joins_waiting, none_succeeds, choice_from, choice}
use Rattle.laws.proofs.Lists.{differ, In, here, there, Each, each_append, those_member}
use Rattle.laws.proofs.Trial.Results.{fails_not_succeeds, waits_not_succeeds, fails_not_waits, unless_test}

none_reduces : (readers : List ℕ) (clause : Clause) (given : List Assignment) → none_succeeds readers ≡ reduces clause given → ⊥
unfolding none_succeeds
none_reduces [] clause given e = differ (cc)
none_reduces (r ∷ readers) clause given e = differ (cc)

pub none_waits : (readers joined : List ℕ) → none_succeeds readers ≡ joins_waiting joined → readers ≡ joined
unfolding none_succeeds
none_waits [] joined e = absurd (differ (cc))
none_waits (r ∷ readers) joined e = cc

-- "Up to the first that doesn't succeed": if both succeed, the second is what comes of them.
pub first_of_succeeds : (one two : Result) (given : List Assignment) → first_of one two ≡ succeeds given
    → ((first : List Assignment) × (one ≡ succeeds first)) × (two ≡ succeeds given)
unfolding first_of
first_of_succeeds (succeeds first) two given e = ((first, refl), e)
first_of_succeeds (waits readers) two given e = absurd (waits_not_succeeds e)
first_of_succeeds fails two given e = absurd (fails_not_succeeds e)

-- Guards that all succeed leave what was given.
module _ (earlier : List ℕ) (given : List Assignment) (values : Values) (next : ℕ) where
  -- Each of these guards succeeds.
  abbrev pub Succeeds : Guard → Type 0
  Succeeds g = (first : List Assignment) × (answer g.row.test earlier (written_out given values next g.arguments) ≡ succeeds first)

  pub all_guards_succeed : (guards : List Guard) (after : List Assignment) → in_order earlier given values next guards ≡ succeeds after
      → (succeeds given ≡ succeeds after) × Each Succeeds guards
  unfolding in_order
  all_guards_succeed [] after e = (e, tt)
  all_guards_succeed (g ∷ guards) after e =
      let (one, two) = first_of_succeeds _ _ after e in
      let (same, others) = all_guards_succeed guards after two in
      (same, (one, others))

module _ (unit : QueryUnit) (goal : Named) (clause : Clause) (given : List Assignment) where
  guarded_succeeds : (earlier : List ℕ) (r : Result) → guarded earlier clause unit r ≡ succeeds given
      → (r ≡ succeeds given) × Each (Succeeds earlier given unit.values (next_pair unit)) clause.guards
  unfolding guarded
  guarded_succeeds earlier (succeeds g) e =
      let (same, all) = all_guards_succeed earlier g unit.values (next_pair unit) clause.guards given e in
      let its : g ≡ given = cc in
      (same, rw its at all)
  guarded_succeeds earlier (waits readers) e = absurd (waits_not_succeeds e)
  guarded_succeeds earlier fails e = absurd (fails_not_succeeds e)

  tested_succeeds : (r : Result) → tested clause unit r ≡ succeeds given
      → (r ≡ succeeds given) × (circle (values_after clause given unit) ≡ false)
  unfolding tested when◌then◌else◌
  tested_succeeds (succeeds g) e = go (circle (values_after clause g unit)) refl
    where
      go : (b : Bool) → circle (values_after clause g unit) ≡ b → (succeeds g ≡ succeeds given) × (circle (values_after clause given unit) ≡ false)
      go true f = absurd (fails_not_succeeds (rw (f, tested) at e))
      go false f =
          let same : succeeds g ≡ succeeds given = rw (f, tested) at e in
          (same, cc)
  tested_succeeds (waits readers) e = absurd (waits_not_succeeds e)
  tested_succeeds fails e = absurd (fails_not_succeeds e)

  -- A trial that succeeds: "all places agree", and no pair would lean on itself.
  pub trial_succeeds : (earlier : List ℕ) → trial earlier clause unit goal ≡ succeeds given
      → (compared clause unit goal ≡ succeeds given) × (circle (values_after clause given unit) ≡ false)
  unfolding trial
  trial_succeeds earlier e = tested_succeeds (compared clause unit goal) (guarded_succeeds earlier _ e).0

  -- And every guard succeeded.
  pub trial_guards : (earlier : List ℕ) → trial earlier clause unit goal ≡ succeeds given
      → Each (Succeeds earlier given unit.values (next_pair unit)) clause.guards
  unfolding trial
  trial_guards earlier e = (guarded_succeeds earlier _ e).1

  -- Its trial succeeded, behind some earlier clauses.
  abbrev pub Taken : Type 0
  Taken = (earlier : List ℕ) × (trial earlier clause unit goal ≡ succeeds given)

  choice_from_reduces : (readers : List ℕ) (clauses : List Clause) → choice_from readers clauses unit goal ≡ reduces clause given
      → In clause clauses × Taken
  unfolding choice_from
  choice_from_reduces readers [] e = absurd (none_reduces readers clause given e)
  choice_from_reduces readers (c ∷ cs) e = go (trial readers c unit goal) refl (λ rs. choice_from_reduces rs cs)
    where
      go : (r : Result) → trial readers c unit goal ≡ r
          → ((rs : List ℕ) → choice_from rs cs unit goal ≡ reduces clause given → In clause cs × Taken)
          → In clause (c ∷ cs) × Taken
      go (succeeds g) f further =
          let same : reduces c g ≡ reduces clause given = rw (f, choice_from) at e in
          (here {x = c} (cc), (readers, cc))
      go (waits others) f further =
          let (p, q) = further (readers ++ others) (rw (f, choice_from) at e) in
          (there p, q)
      go fails f further =
          let (p, q) = further readers (rw (f, choice_from) at e) in
          (there p, q)

  -- "The first clause that succeeds is taken": its trial succeeded.
  pub reduces_by_trial : (clauses : List Clause) → choice clauses unit goal ≡ reduces clause given
      → In clause (procedure clauses goal) × Taken
  unfolding choice
  reduces_by_trial clauses e = choice_from_reduces [] (procedure clauses goal) e

  -- It is one of the job's clauses, and its head agreed with the goal.
  pub reduces_agrees : (clauses : List Clause) → choice clauses unit goal ≡ reduces clause given
      → In clause clauses × (compared clause unit goal ≡ succeeds given)
  unfolding procedure
  reduces_agrees clauses e =
      let (member, succeeded) = reduces_by_trial clauses e in
      (those_member _ clauses member, (trial_succeeds succeeded.0 succeeded.1).0)

module _ (unit : QueryUnit) (goal : Named) where
  tested_waits : (clause : Clause) (r : Result) (readers : List ℕ) → tested clause unit r ≡ waits readers → r ≡ waits readers
  unfolding tested
  tested_waits clause (succeeds given) readers e = unless_test (succeeds given) (waits readers) fails_not_waits (circle (values_after clause given unit)) e
  tested_waits clause (waits others) readers e = e
  tested_waits clause fails readers e = e

  -- A trial waits by its head, or by a guard once all places agree.
  pub data Waits (earlier : List ℕ) (clause : Clause) (readers : List ℕ) : Type 0 where
    by_head : compared clause unit goal ≡ waits readers → Waits earlier clause readers
    by_guard : (given : List Assignment) → compared clause unit goal ≡ succeeds given
        → in_order earlier given unit.values (next_pair unit) clause.guards ≡ waits readers
        → Waits earlier clause readers

  pub trial_waits : (earlier : List ℕ) (clause : Clause) (readers : List ℕ) → trial earlier clause unit goal ≡ waits readers → Waits earlier clause readers
  unfolding trial guarded
  trial_waits earlier clause readers e = go (tested clause unit (compared clause unit goal)) refl
    where
      go : (r : Result) → tested clause unit (compared clause unit goal) ≡ r → Waits earlier clause readers
      go (succeeds given) f = by_guard given (tested_succeeds unit goal clause given (compared clause unit goal) f).0 (rw (f, guarded) at e)
      go (waits others) f =
          let same : waits others ≡ waits readers = rw (f, guarded) at e in
          by_head (tested_waits clause (compared clause unit goal) readers (f ∙ same))
      go fails f = absurd (fails_not_waits (rw (f, guarded) at e))

  module _ (P : ℕ → Type 0) (each : (earlier : List ℕ) (clause : Clause) (others : List ℕ) → Waits earlier clause others → Each P others) where
    choice_from_waits : (clauses : List Clause) (readers joined : List ℕ) → Each P readers → choice_from readers clauses unit goal ≡ joins_waiting joined
        → Each P joined
    unfolding choice_from
    choice_from_waits [] readers joined ps e = rw (← none_waits readers joined e) ps
    choice_from_waits (c ∷ clauses) readers joined ps e =
        go (trial readers c unit goal) refl (λ rs qs i. choice_from_waits clauses rs joined qs i)
      where
        go : (r : Result) → trial readers c unit goal ≡ r
            → ((rs : List ℕ) → Each P rs → choice_from rs clauses unit goal ≡ joins_waiting joined → Each P joined)
            → Each P joined
        go (succeeds first) i further =
            let found : reduces c first ≡ joins_waiting joined = rw (choice_from, i) at e in
            absurd (differ (cc))
        go (waits others) i further =
            further (readers ++ others) (each_append P readers others ps (each readers c others (trial_waits readers c others i))) (rw (choice_from, i) at e)
        go fails i further = further readers ps (rw (choice_from, i) at e)

    -- "The set of all those readers": what holds of each reader on which a trial waits holds of each on which the goal waits.
    pub waits_on_each : (clauses : List Clause) (readers : List ℕ) → choice clauses unit goal ≡ joins_waiting readers → Each P readers
    unfolding choice
    waits_on_each clauses readers e = choice_from_waits (procedure clauses goal) [] readers tt e
