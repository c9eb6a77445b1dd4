-- What each guard answers, from what the functions that look at its arguments tell.
use Prim.Native.Nat.{ℕ, ◌+◌, ◌*◌, ◌≤◌, ◌<◌}
use mathlib.Core.Path.{◌≡◌, refl, sym, ap, ◌∙◌}
use mathlib.Core.Bool.{Bool, true, false}
use mathlib.Core.List.{List, [], ◌∷◌, map}
use Rattle.std.specs.Prelude.{None, Result as Outcome, Ok, Err}
use native.Mathlib.Omega.{arith}
use lib.ListN.{length, get_or}
use Rattle.meaning.specs.Terms.{Term, Terms, end, more, Test, equal, otherwise, Guard, count, all_replaced}
use Rattle.meaning.specs.Compare.{Assignment, Result, succeeds, waits}
use Rattle.meaning.specs.Guards.{written_out, first_of, succeeds_if, all_variables, argument_is, two_equal, after, answer}
use Rattle.laws.proofs.Lists.Among.{In, here, there}
use Rattle.term.specs.Frames.{Only}
use Rattle.term.specs.Holds.{HoldsFrom}
use Rattle.term.specs.Setting.{Setting}
use Rattle.term.specs.Words.{tag_in, rest_in}
use Rattle.term.proofs.Frames.{only_then, only_wider}
use Rattle.run_compare.specs.Compare.{Template}
use Rattle.run_readers.specs.Readers.{Met}
use Rattle.run_asked.specs.Asking.{EachTemplate, Joined, AllBelow, out}
use Rattle.run_ground.specs.Seeking.{together, Seeks, Sees}
use Rattle.run_equal.specs.Equal.{Equating, Equated}
use Rattle.run_guards.specs.Guarding.{GuardsTold}
use Rattle.run_guards.specs.Single.{GuardAt, GuardIs, Argument, written, constant_tag, Shows, IsRead, of_kind}
use Rattle.run_guards.specs.declared.guards.Kind.{Kind}
use Rattle.run_asked.specs.declared.asking.Hindered.{Hindered}
use Rattle.run_asked.specs.declared.asking.Hindered.TheVariants.{Waits, Fails}
use Rattle.run_guards.proofs.Kept.{grounds_same, grounds_then, joined_none, joined_then, nothing_changed, asking_kept, arguments_kept}
use Rattle.run_guards.proofs.Rows.{
  arguments_of,
  equal_two,
  some_argument,
  two_arguments,
  by_kind,
  read_fails,
  shown_fails,
  shown_waits,
  shown_kind,
  succeeds_true,
  fails_false,
}

all_below : (n : ℕ) (rs : List ℕ) → ((p : ℕ) → In p rs → p < n) → AllBelow n rs
all_below n [] h = tt
all_below n (r ∷ rs) h = (h r (here refl), all_below n rs (λ p m. h p (there m)))

-- The same guard, answer or stamp said in another way.
module _ {s s' : List ℕ} {x : Setting} {marks links met : ℕ} {r : Outcome Unit Hindered} where
  pub as_test : {stamp : ℕ} {test test' : Test} (earlier : List ℕ) (ts : Terms) → test' ≡ test
      → GuardIs s s' x marks links met stamp (answer test earlier ts) r → GuardIs s s' x marks links met stamp (answer test' earlier ts) r
  as_test earlier ts e h = rw e h

  pub as_answer : {stamp : ℕ} {o o' : Result} → o ≡ o' → GuardIs s s' x marks links met stamp o r → GuardIs s s' x marks links met stamp o' r
  as_answer e h = rw e at h

  pub is_stamp : (stamp : ℕ) {i j : ℕ} {o : Result} → j ≡ i → GuardIs s s' x marks links met (stamp + j) o r → GuardIs s s' x marks links met (stamp + i) o r
  is_stamp stamp e h = rw e at h

module _ {s : List ℕ} {x : Setting} {y : Template} {given : List Assignment} {values marks links met : ℕ} {g : Guard} where
  pub at_stamp : (stamp : ℕ) {i j place : ℕ} → j ≡ i → GuardAt s x y given values marks links met (stamp + i) g place
      → GuardAt s x y given values marks links met (stamp + j) g place
  at_stamp stamp e h = rw e h

  pub at_place : {stamp p q : ℕ} → q ≡ p → GuardAt s x y given values marks links met stamp g p → GuardAt s x y given values marks links met stamp g q
  at_place e h = rw e h

-- Otherwise, by what the earlier clauses gave.
after_none : (earlier : List ℕ) → earlier ≡ [] → after earlier ≡ succeeds []
unfolding after
after_none earlier e = rw e refl

after_some : (earlier : List ℕ) → (earlier ≡ [] → ⊥) → after earlier ≡ waits []
unfolding after
after_some [] h = absurd (h refl)
after_some (r ∷ rs) h = refl

module _ {s : List ℕ} {x : Setting} {y : Template} {given : List Assignment} {values marks links met stamp : ℕ} {g : Guard} {place : ℕ}
    (at : GuardAt s x y given values marks links met stamp g place) where
  pairs_are : links ≡ x.pairs
  pairs_are = at.asking.chained.links_are

  -- "Otherwise succeeds exactly if every earlier clause of the procedure failed, and else waits with the earlier ones."
  pub otherwise_succeeds : (earlier : List ℕ) (ts : Terms) → earlier ≡ [] → GuardIs s s x marks links met stamp (answer otherwise earlier ts) (Ok tt)
  unfolding answer
  otherwise_succeeds earlier ts e =
      nothing_changed s x marks links met stamp (after earlier) (Ok tt) at.stamps
      (after_none earlier e, joined_none s (marks + links) links met at.readers)

  pub otherwise_waits : (earlier : List ℕ) (ts : Terms) → (earlier ≡ [] → ⊥) → GuardIs s s x marks links met stamp (answer otherwise earlier ts) (Err (Waits met))
  unfolding answer
  otherwise_waits earlier ts h =
      nothing_changed s x marks links met stamp (after earlier) (Err (Waits met)) at.stamps
      ([], after_some earlier h, tt, joined_none s (marks + links) links met at.readers)

  -- Looking at the first argument itself.
  pub first_argument : 0 < count g.arguments → (w : ℕ) → w ≡ get_or s (place + 1) 0
      → (t : Term) × (us : Terms) × (g.arguments ≡ more t us) × Argument s x y given values marks links t w
  unfolding HoldsFrom EachTemplate
  first_argument some_here w e =
      let (t, us, is) = some_argument g.arguments some_here in
      let held = rw is at at.arguments.held in
      let terms = rw is at at.arguments.terms in
      let first : place + 1 ≡ place + 1 + 0 = omega arith in (
        t,
        us,
        is,
        record { asking = at.asking; word = e ∙ rw (first, at.arguments.place) held.0; within = terms.0.2.within },
      )

  module _ (kind : Kind) (t : Term) (us : Terms) (is : g.arguments ≡ more t us) where
    abbrev answered : Result
    answered = argument_is (λ k. of_kind kind (constant_tag k)) (of_kind kind 6) (out x given g.arguments)

    looked : (w : ℕ) → answered ≡ by_kind x w kind (out x given us) (written x given t)
    unfolding written_out all_replaced
    looked w = rw is refl

    pub look_nothing : IsRead x (written x given t) None → GuardIs s s x marks links met stamp answered (Err Fails)
    look_nothing r =
        nothing_changed s x marks links met stamp answered (Err Fails) at.stamps
        (looked 0 ∙ read_fails x 0 kind (out x given us) (written x given t) r, joined_none s (marks + links) links met at.readers)

    module _ (w : ℕ) (shows : Shows x (written x given t) w) where
      pub look_fails : tag_in w < 2 → GuardIs s s x marks links met stamp answered (Err Fails)
      look_fails h =
          nothing_changed s x marks links met stamp answered (Err Fails) at.stamps
          (looked w ∙ shown_fails x w kind (out x given us) (written x given t) shows h, joined_none s (marks + links) links met at.readers)

      pub look_pair : tag_in w ≡ 2 → rest_in w < links
      look_pair h =
          let (p, e, low, same) = shown_waits x w kind (out x given us) (written x given t) shows h in
          omega (arith, at.asking.chained.stands.held.place p low, pairs_are, same)

      pub look_waits : tag_in w ≡ 2 → (s' : List ℕ) (m : ℕ) → Met s s' (marks + links) links met (rest_in w ∷ []) m
          → GuardIs s s' x marks links met stamp answered (Err (Waits m))
      look_waits h s' m joins =
          let (p, e, low, same) = shown_waits x w kind (out x given us) (written x given t) shows h in
          let marks_same : (k : ℕ) → k < marks + links → get_or s' k 0 ≡ get_or s k 0 = λ k l. joins.only.below k l in
          let wide : marks + links + 2 * links ≤ marks + 3 * links = omega arith in
          record {
            only = only_wider (marks + links) (marks + links + 2 * links) marks (marks + 3 * links) s s' (omega arith) wide joins.only;
            stamps = λ k l u. rw (marks_same k (omega (arith, pairs_are))) (omega (arith, at.stamps k l u));
            grounds = grounds_same x.places x.values marks x.pairs s s' (λ k l u. marks_same k (omega (arith, pairs_are)));
            told = (p ∷ [], looked w ∙ e, (low, tt), record { ok = joins.ok; list = rw same at joins.list });
          }

      pub look_kind : 2 < tag_in w → (b : Bool) → b ≡ of_kind kind (tag_in w) → answered ≡ succeeds_if b
      look_kind h b e = looked w ∙ shown_kind x w kind (out x given us) (written x given t) shows h ∙ ap succeeds_if (sym e)

      pub look_succeeds : 2 < tag_in w → (b : Bool) → b ≡ of_kind kind (tag_in w) → b ≡ true → GuardIs s s x marks links met stamp answered (Ok tt)
      look_succeeds h b e f =
          nothing_changed s x marks links met stamp answered (Ok tt) at.stamps
          (look_kind h b e ∙ succeeds_true b f, joined_none s (marks + links) links met at.readers)

      pub look_other : 2 < tag_in w → (b : Bool) → b ≡ of_kind kind (tag_in w) → b ≡ false → GuardIs s s x marks links met stamp answered (Err Fails)
      look_other h b e f =
          nothing_changed s x marks links met stamp answered (Err Fails) at.stamps
          (look_kind h b e ∙ fails_false b f, joined_none s (marks + links) links met at.readers)

  -- Looking through all arguments.
  pub seeks : (test : Test) → g.row.test ≡ test → 0 < arguments_of test → arguments_of test ≤ 6 → (k : ℕ) → k ≡ arguments_of test
      → Seeks s x y given g.number g.arguments values marks links met place k stamp
  seeks test e some_here few k counted =
      let number : count g.arguments ≡ arguments_of test = at.counted ∙ ap arguments_of e in
      record {
        asking = at.asking;
        arguments = at.arguments;
        number = at.number (omega arith);
        counted = counted ∙ sym number;
        few = omega arith;
        readers = at.readers;
        stamps = at.stamps;
        above = at.above;
        fits = at.below;
      }

  module _ {s' : List ℕ} {first : Bool} {r : Outcome Unit Hindered} (sees : Sees s s' x given g.arguments marks links met first stamp r) where
    abbrev pub found : Result
    found = all_variables (together first) (out x given g.arguments)

    pub seen_only : Only marks (marks + 3 * links) s s'
    seen_only = rw pairs_are sees.only

    told_so : (o : Result) (q : Outcome Unit Hindered) → GuardsTold s s' x [] (marks + links) links met o q → GuardIs s s' x marks links met stamp o q
    told_so o q told = record { only = seen_only; stamps = sees.stamps; grounds = sees.grounds; told = told }

    pub seen_ground : r ≡ Ok tt → (found ≡ succeeds []) × Joined s s' (marks + links) links met [] met
    seen_ground e = rw e at sees.answer

    waiting : (m : ℕ) → r ≡ Err (Waits m)
        → (readers : List ℕ) × (found ≡ waits readers) × AllBelow (length x.values) readers
        × Joined s s' (marks + links) links met (map (λ p. x.places.pair p) readers) m
    waiting m e = let (readers, is, some_here, low, joins) = rw e at sees.answer in (readers, is, all_below (length x.values) readers low, joins)

    -- Whatever it found.
    pub sought : (q : Outcome Unit Hindered) → r ≡ q → GuardIs s s' x marks links met stamp found q
    sought (Ok none) e = told_so found (Ok tt) (seen_ground e)
    sought (Err (Waits m)) e = told_so found (Err (Waits m)) (waiting m e)
    sought (Err Fails) e = told_so found (Err Fails) (rw e at sees.answer)

    -- Where the first unassigned variable decides, what comes behind it does not matter.
    pub first_hindered : (other : Result) (h : Hindered) → r ≡ Err h → GuardIs s s' x marks links met stamp (first_of found other) (Err h)
    unfolding first_of
    first_hindered other (Waits m) e =
        let (readers, is, low, joins) = waiting m e in
        told_so (first_of found other) (Err (Waits m)) (readers, ap (λ (o : Result). first_of o other) is, low, joins)
    first_hindered other Fails e =
        let (is, joins) = rw e at sees.answer in
        told_so (first_of found other) (Err Fails) (ap (λ (o : Result). first_of o other) is, joins)

  -- Both arguments are ground and are compared.
  module _ {s₁ : List ℕ} {r : Outcome Unit Hindered} (same_test : g.row.test ≡ equal) (sees : Sees s s₁ x given g.arguments marks links met true stamp r) (none_left : r ≡ Ok tt) where
    pub two : (t : Term) × (u : Term) × (g.arguments ≡ more t (more u end))
    two = two_arguments g.arguments (at.counted ∙ ap arguments_of same_test ∙ equal_two)

    abbrev pub left_side : Term
    left_side = two.0

    abbrev pub right_side : Term
    right_side = two.1

    pub equating : Equating s₁ x y given values marks links met g.number place left_side right_side
    equating =
        let ended = seen_ground sees none_left in
        let number : count g.arguments ≡ 2 = at.counted ∙ ap arguments_of same_test ∙ equal_two in
        record {
          asking = asking_kept s s₁ x y given values marks links at.asking (seen_only sees) sees.grounds;
          arguments = rw two.2 at (arguments_kept s s₁ x y given values marks links at.asking (seen_only sees) g.number place g.arguments
              (at.number (omega arith)) (omega arith) at.arguments);
          readers = ended.1.ok;
          few = at.few_links;
          near = at.near;
          a_ground = rw two.2 at ended.0;
        }

    module _ {s₂ : List ℕ} {b : Bool} (equated : Equated s₁ s₂ x given marks links met left_side right_side b) where
      compared : (earlier : List ℕ) → answer equal earlier (out x given g.arguments) ≡ succeeds_if b
      unfolding answer first_of
      compared earlier =
          let ended = seen_ground sees none_left in
          ap (λ (o : Result). first_of o (succeeds_if (two_equal (out x given g.arguments)))) ended.0
          ∙ ap succeeds_if (rw two.2 (sym equated.answer))

      is_compared : (o : Result) (q : Outcome Unit Hindered) → GuardsTold s s₂ x [] (marks + links) links met o q → GuardIs s s₂ x marks links met stamp o q
      is_compared o q told =
          let marks_same : (k : ℕ) → k < marks + links → get_or s₂ k 0 ≡ get_or s₁ k 0 = λ k l. equated.only.below k l in
          record {
            only = only_then marks (marks + 3 * links) s s₁ s₂ (seen_only sees)
                (only_wider (marks + links) (marks + 3 * links) marks (marks + 3 * links) s₁ s₂ (omega arith) (omega arith) equated.only);
            stamps = λ k l u. rw (marks_same k (omega (arith, pairs_are))) (sees.stamps k l u);
            grounds = grounds_then x.places x.values marks x.pairs s s₁ s₂ sees.grounds
                (grounds_same x.places x.values marks x.pairs s₁ s₂ (λ k l u. marks_same k (omega (arith, pairs_are))));
            told = told;
          }

      joins : Joined s s₂ (marks + links) links met [] met
      joins = joined_then s s₁ s₂ (marks + links) links met [] met (seen_ground sees none_left).1 equated.joined

      pub equal_succeeds : (earlier : List ℕ) → b ≡ true → GuardIs s s₂ x marks links met stamp (answer equal earlier (out x given g.arguments)) (Ok tt)
      equal_succeeds earlier e = is_compared (answer equal earlier (out x given g.arguments)) (Ok tt) (compared earlier ∙ succeeds_true b e, joins)

      pub equal_fails : (earlier : List ℕ) → b ≡ false → GuardIs s s₂ x marks links met stamp (answer equal earlier (out x given g.arguments)) (Err Fails)
      equal_fails earlier e = is_compared (answer equal earlier (out x given g.arguments)) (Err Fails) (compared earlier ∙ fails_false b e, joins)
