-- "The first clause that succeeds is taken, also when an earlier one waits": the clauses of a procedure are tried in turn, each told the readers on
-- which those before it wait. It is told of none exactly if they all failed; so `otherwise` asks that, and a goal fails exactly if every clause does.
use Prim.Native.Nat.{ℕ}
use mathlib.Core.Path.{◌≡◌, refl, sym, ◌∙◌}
use mathlib.Core.Logic.{◌↔◌, ◌≢◌, ◌⊎◌, inl, inr, ⊎_elim}
use mathlib.Core.List.{List, [], ◌∷◌, ◌++◌}
use Rattle.meaning.specs.Terms.{Terms, otherwise, Named, Clause}
use Rattle.meaning.specs.State.{QueryUnit}
use Rattle.meaning.specs.Compare.{Assignment, Result, succeeds, waits, fails}
use Rattle.meaning.specs.Guards.{after, answer}
use Rattle.meaning.specs.Trial.{trial, procedure, Choice, reduces, joins_waiting, joins_failed, none_succeeds, choice_from, choice}
use Rattle.laws.proofs.Lists.{differ, In, here, there, in_none, in_cons_cases, in_append_cases, in_append_left, in_append_right, Each}
use Rattle.laws.proofs.Trial.Results.{fails_not_succeeds, waits_not_succeeds}
use Rattle.laws.proofs.Trial.Chosen.{none_waits}
use Rattle.laws.proofs.Trial.Needed.{trial_waits_on_some_reader}

-- The readers so far, with those on which one more trial waits.
unfoldable pub with_its_readers : List ℕ → Result → List ℕ
with_its_readers readers (succeeds given) = readers
with_its_readers readers (waits others) = readers ++ others
with_its_readers readers fails = readers

-- The trials of these clauses, each told the readers on which those before it wait; and the readers on which they wait, which the next is told.
unfoldable pub trials : List ℕ → List Clause → QueryUnit → Named → List Result
trials readers [] unit goal = []
trials readers (c ∷ clauses) unit goal =
    trial readers c unit goal ∷ trials (with_its_readers readers (trial readers c unit goal)) clauses unit goal

unfoldable pub told : List ℕ → List Clause → QueryUnit → Named → List ℕ
told readers [] unit goal = readers
told readers (c ∷ clauses) unit goal = told (with_its_readers readers (trial readers c unit goal)) clauses unit goal

-- Each of these results is a failure; each is none that succeeds.
abbrev pub AllFail : List Result → Type 0
AllFail rs = Each (λ r. r ≡ fails) rs

abbrev pub NoneSucceeds : List Result → Type 0
NoneSucceeds rs = Each (λ r. (given : List Assignment) → r ≡ succeeds given → ⊥) rs

module _ (unit : QueryUnit) (goal : Named) where
  -- The trials of clauses before, and of those behind them.
  pub trials_in_turn : (readers : List ℕ) (before behind : List Clause)
      → trials readers (before ++ behind) unit goal ≡ trials readers before unit goal ++ trials (told readers before unit goal) behind unit goal
  unfolding trials told
  trials_in_turn readers [] behind = refl
  trials_in_turn readers (c ∷ before) behind = rw (trials_in_turn (with_its_readers readers (trial readers c unit goal)) before behind)

  -- Clauses that all fail tell of no reader.
  all_failed_tell_nothing : (readers : List ℕ) (clauses : List Clause) → AllFail (trials readers clauses unit goal) → told readers clauses unit goal ≡ readers
  unfolding trials told with_its_readers
  all_failed_tell_nothing readers [] all = refl
  all_failed_tell_nothing readers (c ∷ clauses) (e, all) =
      rw (told, e) (all_failed_tell_nothing readers clauses (rw (trials, e) at all))

  -- If they tell of none, and none succeeded, they all failed: a trial that waits has a reader, or an earlier one has.
  nothing_told_all_failed : (readers : List ℕ) (clauses : List Clause) → NoneSucceeds (trials readers clauses unit goal) → told readers clauses unit goal ≡ []
      → (readers ≡ []) × AllFail (trials readers clauses unit goal)
  unfolding trials told with_its_readers
  nothing_told_all_failed readers [] none e = (e, tt)
  nothing_told_all_failed readers (c ∷ clauses) (not_this, none) e =
      go (trial readers c unit goal) refl (λ rs n i. nothing_told_all_failed rs clauses n i)
    where
      go : (r : Result) → trial readers c unit goal ≡ r
          → ((rs : List ℕ) → NoneSucceeds (trials rs clauses unit goal) → told rs clauses unit goal ≡ [] → (rs ≡ []) × AllFail (trials rs clauses unit goal))
          → (readers ≡ []) × AllFail (trials readers (c ∷ clauses) unit goal)
      go (succeeds given) f further = absurd (not_this given f)
      go (waits others) f further =
          let (nobody, all) = further (readers ++ others) (rw f at none) (rw (told, f) at e) in
          absurd (trial_waits_on_some_reader readers c unit goal others f nobody)
      go fails f further =
          let (nobody, all) = further readers (rw f at none) (rw (told, f) at e) in
          (nobody, (f, rw f all))

  -- "Otherwise succeeds exactly if every earlier clause of the procedure failed": the clauses before it, of which none succeeded, failed.
  pub told_nothing_exactly_if_all_failed : (before : List Clause) → NoneSucceeds (trials [] before unit goal)
      → (told [] before unit goal ≡ []) ↔ AllFail (trials [] before unit goal)
  told_nothing_exactly_if_all_failed before none =
      (λ e. (nothing_told_all_failed [] before none e).1, λ all. all_failed_tell_nothing [] before all)

  pub otherwise_exactly_if_all_failed : (before : List Clause) → NoneSucceeds (trials [] before unit goal) → (ts : Terms)
      → (answer otherwise (told [] before unit goal) ts ≡ succeeds []) ↔ AllFail (trials [] before unit goal)
  unfolding answer after
  otherwise_exactly_if_all_failed before none ts =
      (λ e. only_if (told [] before unit goal) refl e, λ all. rw (all_failed_tell_nothing [] before all))
    where
      only_if : (readers : List ℕ) → told [] before unit goal ≡ readers → after readers ≡ succeeds [] → AllFail (trials [] before unit goal)
      only_if [] e f = (nothing_told_all_failed [] before none e).1
      only_if (r ∷ readers) e f = absurd (waits_not_succeeds f)

  -- What becomes of a goal of which no clause succeeds.
  none_waits_on_some : (readers joined : List ℕ) → none_succeeds readers ≡ joins_waiting joined → joined ≢ []
  unfolding none_succeeds
  none_waits_on_some [] joined e none = differ (cc)
  none_waits_on_some (r ∷ readers) joined e none = differ (cc)

  none_failed : (readers : List ℕ) → none_succeeds readers ≡ joins_failed → readers ≡ []
  unfolding none_succeeds
  none_failed [] e = refl
  none_failed (r ∷ readers) e = absurd (differ (cc))

  -- It is tried with every clause, and joins the waiting goals or the failed ones by the readers of all.
  none_taken : (c : Choice) → ((clause : Clause) (given : List Assignment) → c ≡ reduces clause given → ⊥)
      → (clauses : List Clause) (readers : List ℕ) → choice_from readers clauses unit goal ≡ c
      → NoneSucceeds (trials readers clauses unit goal) × (none_succeeds (told readers clauses unit goal) ≡ c)
  unfolding choice_from trials told with_its_readers
  none_taken c not_reduced [] readers e = (tt, e)
  none_taken c not_reduced (clause ∷ clauses) readers e = go (trial readers clause unit goal) refl (none_taken c not_reduced clauses)
    where
      go : (r : Result) → trial readers clause unit goal ≡ r
          → ((rs : List ℕ) → choice_from rs clauses unit goal ≡ c → NoneSucceeds (trials rs clauses unit goal) × (none_succeeds (told rs clauses unit goal) ≡ c))
          → NoneSucceeds (trials readers (clause ∷ clauses) unit goal) × (none_succeeds (told readers (clause ∷ clauses) unit goal) ≡ c)
      go (succeeds given) f further = absurd (not_reduced clause given (sym (rw (choice_from, f) at e)))
      go (waits others) f further =
          let (none, joins) = further (readers ++ others) (rw (choice_from, f) at e) in
          ((λ given i. waits_not_succeeds (sym f ∙ i), rw f none), rw (told, f) joins)
      go fails f further =
          let (none, joins) = further readers (rw (choice_from, f) at e) in
          ((λ given i. fails_not_succeeds (sym f ∙ i), rw f none), rw (told, f) joins)

  all_fail_none_taken : (clauses : List Clause) → AllFail (trials [] clauses unit goal) → choice_from [] clauses unit goal ≡ joins_failed
  unfolding choice_from trials with_its_readers none_succeeds
  all_fail_none_taken [] all = refl
  all_fail_none_taken (c ∷ clauses) (e, all) = rw (choice_from, e) (all_fail_none_taken clauses (rw e at all))

  -- Since none of them tells of a reader, each is tried as if none were before it.
  each_tried_alone : (clauses : List Clause) → AllFail (trials [] clauses unit goal) → Each (λ c. trial [] c unit goal ≡ fails) clauses
  unfolding trials with_its_readers
  each_tried_alone [] all = tt
  each_tried_alone (c ∷ clauses) (e, all) = (e, each_tried_alone clauses (rw e at all))

  -- The readers told are those of all trials.
  module _ (p : ℕ) where
    told_keeps : (readers : List ℕ) (clauses : List Clause) → In p readers → In p (told readers clauses unit goal)
    unfolding told with_its_readers
    told_keeps readers [] m = m
    told_keeps readers (c ∷ clauses) m = told_keeps (with_its_readers readers (trial readers c unit goal)) clauses (kept (trial readers c unit goal))
      where
        kept : (r : Result) → In p (with_its_readers readers r)
        kept (succeeds given) = m
        kept (waits others) = in_append_left others m
        kept fails = m

    told_of_each : (others : List ℕ) → In p others → (readers : List ℕ) (clauses : List Clause) → In (waits others) (trials readers clauses unit goal)
        → In p (told readers clauses unit goal)
    unfolding told trials with_its_readers
    told_of_each others m readers [] k = absurd (in_none k)
    told_of_each others m readers (c ∷ clauses) k =
        go (in_cons_cases k) (told_of_each others m (with_its_readers readers (trial readers c unit goal)) clauses)
      where
        go : (waits others ≡ trial readers c unit goal) ⊎ In (waits others) (trials (with_its_readers readers (trial readers c unit goal)) clauses unit goal)
            → (In (waits others) (trials (with_its_readers readers (trial readers c unit goal)) clauses unit goal)
            → In p (told (with_its_readers readers (trial readers c unit goal)) clauses unit goal))
            → In p (told (with_its_readers readers (trial readers c unit goal)) clauses unit goal)
        go (inl e) further = rw (← e) (told_keeps (readers ++ others) clauses (in_append_right readers m))
        go (inr i) further = further i

    told_of_no_other : (readers : List ℕ) (clauses : List Clause) → In p (told readers clauses unit goal)
        → In p readers ⊎ ((others : List ℕ) × In (waits others) (trials readers clauses unit goal) × In p others)
    unfolding told trials with_its_readers
    told_of_no_other readers [] m = inl m
    told_of_no_other readers (c ∷ clauses) m =
        go (trial readers c unit goal) refl (told_of_no_other (with_its_readers readers (trial readers c unit goal)) clauses m)
      where
        go : (r : Result) → trial readers c unit goal ≡ r
            → In p (with_its_readers readers (trial readers c unit goal))
            ⊎ ((others : List ℕ) × In (waits others) (trials (with_its_readers readers (trial readers c unit goal)) clauses unit goal) × In p others)
            → In p readers ⊎ ((others : List ℕ) × In (waits others) (trials readers (c ∷ clauses) unit goal) × In p others)
        go r f (inr (others, k, i)) = inr (others, there k, i)
        go (succeeds given) f (inl i) = inl (rw f at i)
        go (waits others) f (inl i) = ⊎_elim inl (λ k. inr (others, here (sym f), k)) (in_append_cases readers (rw f at i))
        go fails f (inl i) = inl (rw f at i)

  module _ (clauses : List Clause) where
    module _ (readers : List ℕ) (e : choice clauses unit goal ≡ joins_waiting readers) where
      those_told : NoneSucceeds (trials [] (procedure clauses goal) unit goal) × (told [] (procedure clauses goal) unit goal ≡ readers)
      unfolding choice
      those_told =
          let (none, joins) = none_taken (joins_waiting readers) (λ clause given i. differ (cc)) (procedure clauses goal) [] e in
          (none, none_waits _ readers joins)

      -- "With the set of all those readers": a goal that joins the waiting goals waits on every reader on which one of its clauses waits, and on no other.
      pub choice_waits_on_every_reader : (others : List ℕ) → In (waits others) (trials [] (procedure clauses goal) unit goal)
          → (p : ℕ) → In p others → In p readers
      choice_waits_on_every_reader others k p m = rw (← those_told.1) (told_of_each p others m [] (procedure clauses goal) k)

      pub choice_waits_on_no_other : (p : ℕ) → In p readers
          → (others : List ℕ) × In (waits others) (trials [] (procedure clauses goal) unit goal) × In p others
      choice_waits_on_no_other p m = ⊎_elim (λ k. absurd (in_none k)) (λ found. found) (told_of_no_other p [] (procedure clauses goal) (rw those_told.1 m))

      -- It has a reader to wait on.
      pub choice_waits_on_some_reader : readers ≢ []
      unfolding choice
      choice_waits_on_some_reader =
          none_waits_on_some _ readers (none_taken (joins_waiting readers) (λ clause given i. differ (cc)) (procedure clauses goal) [] e).1

    -- "If all fail, or no clause exists, it joins the end of the failed goals": exactly then, since a clause waits on nothing only if one before it waits.
    pub failed_exactly_if_all_fail : (choice clauses unit goal ≡ joins_failed) ↔ AllFail (trials [] (procedure clauses goal) unit goal)
    unfolding choice
    failed_exactly_if_all_fail = (only_if, all_fail_none_taken (procedure clauses goal))
      where
        only_if : choice_from [] (procedure clauses goal) unit goal ≡ joins_failed → AllFail (trials [] (procedure clauses goal) unit goal)
        only_if e =
            let (none, joins) = none_taken joins_failed (λ clause given i. differ (cc)) (procedure clauses goal) [] e in
            (nothing_told_all_failed [] (procedure clauses goal) none (none_failed _ joins)).1

    pub failed_only_if_all_fail : choice clauses unit goal ≡ joins_failed → Each (λ c. trial [] c unit goal ≡ fails) (procedure clauses goal)
    failed_only_if_all_fail e = each_tried_alone (procedure clauses goal) (failed_exactly_if_all_fail.0 e)
