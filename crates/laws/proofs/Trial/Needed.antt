-- T-03 as it is asked for: any failing place fails the trial, and otherwise it waits on every reader needed; on no other but a guard's, where all agree.
-- By the results at the places that the comparison reaches; so what waits has a reader, or an earlier clause has.
use Prim.Native.Nat.{ℕ, ◌≤◌}
use mathlib.Core.Path.{◌≡◌, refl, sym, ap, subst, ◌∙◌}
use mathlib.Core.Logic.{◌⊎◌, inl, inr, ⊎_elim, ◌≢◌}
use mathlib.Core.List.{List, [], ◌∷◌, ◌++◌}
use lib.ListN.{length}
use Rattle.meaning.specs.Terms.{reader, Term, Terms, Named, Guard, Clause, all_renamed, all_occurrences}
use Rattle.meaning.specs.State.{QueryUnit}
use Rattle.meaning.specs.Compare.{Assignment, Result, succeeds, waits, fails, waits_on, with_assignments, with_readers, and_then, followed, places}
use Rattle.meaning.specs.Guards.{written_out}
use Rattle.meaning.specs.Trial.{next_pair, compared, tested, guarded, trial}
use Rattle.laws.proofs.Lists.{differ, In, here, there, in_append_cases, in_append_left, in_append_right, in_single, Each, each_in}
use Rattle.laws.proofs.Trial.Results.{fails_not_succeeds, fails_not_waits, succeeds_not_waits, Either, the_one, the_other, the_two, either}
use Rattle.laws.proofs.Trial.Chosen.{Waits, by_head, by_guard, trial_waits}
use Rattle.laws.proofs.Trial.Reached.{all_reached, taken_together, places_together, AtMostOne, all_at_most_one}
use Rattle.laws.proofs.Trial.Guards.{OnSome, nothing_behind, guards_on_some, guards_held}

-- A failing place behind others fails them all; two places fail only if one of them does.
pub and_then_failing : (r : Result) → and_then r fails ≡ fails
unfolding and_then with_assignments with_readers
and_then_failing (succeeds given) = refl
and_then_failing (waits readers) = refl
and_then_failing fails = refl

pub and_then_fails : (r s : Result) → and_then r s ≡ fails → (r ≡ fails) ⊎ (s ≡ fails)
unfolding and_then with_assignments with_readers
and_then_fails (succeeds given) (succeeds others) e = absurd (fails_not_succeeds (sym e))
and_then_fails (succeeds given) (waits readers) e = inr e
and_then_fails (succeeds given) fails e = inr refl
and_then_fails (waits readers) (succeeds given) e = inl e
and_then_fails (waits readers) (waits others) e = absurd (fails_not_waits (sym e))
and_then_fails (waits readers) fails e = inr refl
and_then_fails fails s e = inl refl

together_fails : {rs : List Result} → In fails rs → taken_together rs ≡ fails
unfolding taken_together and_then
together_fails (here {x = r} {xs = rs} e) = rw (← e) refl
together_fails (there {x = r} {xs = rs} p) = rw (together_fails p) (and_then_failing r)

together_fails_only : (rs : List Result) → taken_together rs ≡ fails → In fails rs
unfolding taken_together
together_fails_only [] e = absurd (fails_not_succeeds (sym e))
together_fails_only (r ∷ rs) e =
    ⊎_elim (λ f. here (sym f)) (λ f. there (together_fails_only rs f)) (and_then_fails r (taken_together rs) e)

-- It fails, or it waits on readers of which this is one.
unfoldable pub Needs : ℕ → Result → Type 0
Needs p (succeeds given) = ⊥
Needs p (waits readers) = In p readers
Needs p fails = Unit {0}

needs_first : (p : ℕ) (r s : Result) → Needs p r → Needs p (and_then r s)
unfolding Needs and_then with_assignments with_readers
needs_first p (succeeds given) s n = absurd n
needs_first p (waits readers) (succeeds given) n = n
needs_first p (waits readers) (waits others) n = in_append_left others n
needs_first p (waits readers) fails n = tt
needs_first p fails s n = tt

needs_behind : (p : ℕ) (r s : Result) → Needs p s → Needs p (and_then r s)
unfolding Needs and_then with_assignments with_readers
needs_behind p r (succeeds given) n = absurd n
needs_behind p (succeeds given) (waits others) n = n
needs_behind p (waits readers) (waits others) n = in_append_right readers n
needs_behind p fails (waits others) n = tt
needs_behind p (succeeds given) fails n = tt
needs_behind p (waits readers) fails n = tt
needs_behind p fails fails n = tt

together_needs : (p : ℕ) {r : Result} {rs : List Result} → In r rs → Needs p r → Needs p (taken_together rs)
unfolding taken_together
together_needs p (here {x = s} {xs = rs} e) n = needs_first p s (taken_together rs) (subst (Needs p) e n)
together_needs p (there {x = s} {xs = rs} m) n = needs_behind p s (taken_together rs) (together_needs p m n)

together_waits_only : (rs : List Result) (readers : List ℕ) → Each AtMostOne rs → taken_together rs ≡ waits readers
    → (p : ℕ) → In p readers → In (waits_on p) rs
unfolding taken_together waits_on AtMostOne
together_waits_only [] readers ones e p m = absurd (succeeds_not_waits e)
together_waits_only (r ∷ rs) readers ones e p m = go (either r (taken_together rs) readers e) (λ others f. together_waits_only rs others ones.1 f p)
  where
    the_place : (some : List ℕ) → r ≡ waits some → In p some → In (waits (p ∷ [])) (r ∷ rs)
    the_place some f k =
        let (q, only) = subst AtMostOne f ones.0 in
        let same : p ≡ q = in_single (rw only at k) in
        here {x = r} (cc)

    go : Either r (taken_together rs) readers → ((others : List ℕ) → taken_together rs ≡ waits others → In p others → In (waits (p ∷ [])) rs)
        → In (waits (p ∷ [])) (r ∷ rs)
    go (the_one f) further = the_place readers f m
    go (the_other f) further = there (further readers f m)
    go (the_two first others f g together) further =
        ⊎_elim (the_place first f) (λ k. there (further others g k)) (in_append_cases first (rw together at m))

together_waits_on_some : (rs : List Result) (readers : List ℕ) → Each AtMostOne rs → taken_together rs ≡ waits readers → readers ≢ []
unfolding taken_together AtMostOne
together_waits_on_some [] readers ones e none = absurd (succeeds_not_waits e)
together_waits_on_some (r ∷ rs) readers ones e none = go (either r (taken_together rs) readers e) (λ others. together_waits_on_some rs others ones.1)
  where
    not_the_one : (some : List ℕ) → r ≡ waits some → some ≡ [] → ⊥
    not_the_one some f g =
        let (q, only) = subst AtMostOne f ones.0 in
        differ (cc)

    go : Either r (taken_together rs) readers → ((others : List ℕ) → taken_together rs ≡ waits others → others ≢ []) → ⊥
    go (the_one f) further = not_the_one readers f none
    go (the_other f) further = further readers f none
    go (the_two first others f g together) further = not_the_one first f (nothing_behind first others (sym together ∙ none)).0

module _ (look : Term → Term) (us ts : Terms) where
  -- "Any failing place fails the trial", whatever stands before it or behind it; and it fails for no other reason.
  pub fails_by_any_place : In fails (all_reached look us ts) → places look us ts ≡ fails
  fails_by_any_place m = places_together look us ts ∙ together_fails m

  pub fails_only_by_a_place : places look us ts ≡ fails → In fails (all_reached look us ts)
  fails_only_by_a_place e = together_fails_only (all_reached look us ts) (sym (places_together look us ts) ∙ e)

  module _ (readers : List ℕ) (e : places look us ts ≡ waits readers) where
    -- "And otherwise the trial waits on every reader needed": on each, and on no other.
    pub waits_on_every_reader : (p : ℕ) → In (waits_on p) (all_reached look us ts) → In p readers
    unfolding Needs waits_on
    waits_on_every_reader p m =
        subst (Needs p) (sym (places_together look us ts) ∙ e) (together_needs p {r = waits_on p} m (here refl))

    pub waits_on_no_other : (p : ℕ) → In p readers → In (waits_on p) (all_reached look us ts)
    waits_on_no_other =
        together_waits_only (all_reached look us ts) readers (all_at_most_one look us ts) (sym (places_together look us ts) ∙ e)

    -- It waits on at least one reader.
    pub waits_on_some_reader : readers ≢ []
    waits_on_some_reader =
        together_waits_on_some (all_reached look us ts) readers (all_at_most_one look us ts) (sym (places_together look us ts) ∙ e)

  -- Where all places agree, none waits.
  pub succeeds_where_none_waits : (given : List Assignment) → places look us ts ≡ succeeds given → (p : ℕ) → In (waits_on p) (all_reached look us ts) → ⊥
  unfolding Needs waits_on
  succeeds_where_none_waits given e p m =
      subst (Needs p) (sym (places_together look us ts) ∙ e) (together_needs p {r = waits_on p} m (here refl))

-- Of a trial: the places that it reaches.
abbrev pub trial_places : Clause → QueryUnit → Named → List Result
trial_places clause unit goal =
    all_reached (followed (length unit.values) unit.values)
    (all_renamed (next_pair unit) unit.compounds clause.head.arguments) goal.arguments

-- A guard, asked once all places agree, holds this reader, written out.
pub record HeldByGuard (clause : Clause) (unit : QueryUnit) (goal : Named) (p : ℕ) : Type 0 where
  pub given : List Assignment
  pub agree : compared clause unit goal ≡ succeeds given
  pub guard : Guard
  pub of_clause : In guard clause.guards
  pub held : 1 ≤ all_occurrences reader p (written_out given unit.values (next_pair unit) guard.arguments)

module _ (earlier : List ℕ) (clause : Clause) (unit : QueryUnit) (goal : Named) where
  pub trial_fails_by_any_place : In fails (trial_places clause unit goal) → trial earlier clause unit goal ≡ fails
  unfolding trial compared tested guarded
  trial_fails_by_any_place m = ap (λ r. guarded earlier clause unit (tested clause unit r)) (fails_by_any_place _ _ goal.arguments m)

  module _ (readers : List ℕ) (e : trial earlier clause unit goal ≡ waits readers) where
    -- It waits on every reader that a place needs.
    pub trial_waits_on_every_reader : (p : ℕ) → In (waits_on p) (trial_places clause unit goal) → In p readers
    unfolding compared
    trial_waits_on_every_reader p m = go (trial_waits unit goal earlier clause readers e)
      where
        go : Waits unit goal earlier clause readers → In p readers
        go (by_head i) = waits_on_every_reader _ _ goal.arguments readers i p m
        go (by_guard given agree i) = absurd (succeeds_where_none_waits _ _ goal.arguments given agree p m)

    -- On no other but, where all places agree, those that a guard needs.
    pub trial_waits_on_no_other : (p : ℕ) → In p readers → In (waits_on p) (trial_places clause unit goal) ⊎ HeldByGuard clause unit goal p
    unfolding compared
    trial_waits_on_no_other p m = go (trial_waits unit goal earlier clause readers e)
      where
        go : Waits unit goal earlier clause readers → In (waits_on p) (trial_places clause unit goal) ⊎ HeldByGuard clause unit goal p
        go (by_head i) = inl (waits_on_no_other _ _ goal.arguments readers i p m)
        go (by_guard given agree i) =
            let (g, of_clause, held) = each_in _ (guards_held given unit.values (next_pair unit) earlier clause.guards readers i) m in
            inr (record { given = given; agree = agree; guard = g; of_clause = of_clause; held = held })

    -- A trial that waits has a reader to wait on, or an earlier clause has.
    pub trial_waits_on_some_reader : earlier ++ readers ≢ []
    unfolding compared OnSome
    trial_waits_on_some_reader none = go (trial_waits unit goal earlier clause readers e) (nothing_behind earlier readers none)
      where
        go : Waits unit goal earlier clause readers → (earlier ≡ []) × (readers ≡ []) → ⊥
        go (by_head i) (first, own) = waits_on_some_reader _ _ goal.arguments readers i own
        go (by_guard given agree i) (first, own) = guards_on_some given unit.values (next_pair unit) clause.guards readers (rw first at i) own

  -- So it waits on nothing only where an earlier clause waits.
  pub trial_waits_on_none_only_behind_others : trial earlier clause unit goal ≡ waits [] → earlier ≢ []
  trial_waits_on_none_only_behind_others e first = trial_waits_on_some_reader [] e (rw first)
