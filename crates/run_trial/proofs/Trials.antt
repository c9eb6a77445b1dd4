-- The trial of a clause: what its comparison asks; what the circle test asks where all places agree; and what is given behind it. Each pair of the goal is
-- given a term at most once, and had none before.
use Prim.Native.Nat.{ℕ, ◌+◌, ◌*◌, ◌≤◌, ◌<◌}
use mathlib.Core.Path.{◌≡◌, refl, sym, subst, ap, ◌∙◌}
use mathlib.Core.Bool.{Bool, true, false}
use mathlib.Core.Logic.{◌⊎◌, inl, inr, ◌≢◌}
use mathlib.Core.List.{List, [], map}
use mathlib.Core.Option.{none, some}
use native.Mathlib.Omega.{arith}
use lib.ListN.{length, get_or}
use Rattle.meaning.specs.Bytes.{Bytes, when◌then◌else◌}
use Rattle.meaning.specs.Terms.{writer, Functor, Term, Terms, Clause, Job, count, named, renamed}
use Rattle.meaning.specs.State.{Room, Goal, value}
use Rattle.meaning.specs.Compare.{Assignment, succeeds, fails}
use Rattle.meaning.specs.Guards.{given_to}
use Rattle.meaning.specs.Trial.{with_pairs, values_after, compared, tested, guarded, trial}
use Rattle.laws.proofs.Circle.{run_no_circle}
use Rattle.laws.proofs.Lists.Among.{In}
use Rattle.laws.proofs.Lists.EachOf.{each_in}
use Rattle.laws.proofs.Single.{AssignedOnce, trial_assigns_once}
use Rattle.laws.proofs.Trial.Values.{
  length_with_pairs,
  length_values_after,
  value_after_cases,
  value_assigned_other,
  value_with_pairs,
  value_beyond,
  assigned_below,
}
use Rattle.term.specs.Cells.{Places, term_word}
use Rattle.term.specs.Frames.{Only}
use Rattle.term.specs.Holds.{value_word}
use Rattle.term.specs.Setting.{Setting, UnitTerm}
use Rattle.term.specs.States.{setting}
use Rattle.term.proofs.Cells.{word_positive}
use Rattle.term.specs.Layout.{trial_region, compounds_region, gifts_part, woken_part, clause_head}
use Rattle.std.specs.Prelude.{Option, Some}
use Rattle.run_compare.specs.Gifts.{Gift, assignments, entries, recorded, Entry as GiftEntry, entries_of, EntriesAt}
use Rattle.run_compare.specs.Notes.{Note, gifts_in, asks_in, noted, written}
use Rattle.run_circle.specs.Circle.{Trial, Entry, Tried, Tested, entry_pair}
use Rattle.run_circle.specs.Ground.{NewGrounds}
use Rattle.run_circle.proofs.Grounds.{new_then}
use Rattle.run_compare.specs.Compare.{Template, item, HeadAgainst, AllGiven, AllEntries, Answers, Gave, places_outcome}
use Rattle.run_asked.specs.Asking.{GaveAt}
use Rattle.run_trial.specs.Choosing.{unit_of, Trying, ArgumentsStand, TrialOnly, MarksBelow, template, Candidate, Succeeded}
use Rattle.run_compare.proofs.Given.{entries_length, entries_at, entries_held, gave}
use Rattle.run_compare.proofs.Notes.{outcome_succeeds, gifts_held, gifts_counted, gifts_recorded}
use Rattle.run_readers.specs.Readers.{asked_in, is_some}
use Rattle.run_readers.proofs.AllMet.{none_is_empty, some_not_none}
use Rattle.run_trial.proofs.Asked.{asked_are, none_mapped}
use Rattle.run_trial.proofs.Heads.{rules_kept, one_of_the_job, head_end, body_start, body_behind, body_numbered, against, compared_is}
use Rattle.run_trial.proofs.Once.{once_apart, assigned_is, given_to_is, no_entry, entry_assigned, entries_differ, to_clause, to_unit, entry_words, entry_held}
use Rattle.run_trial.proofs.Staying.{
  trial_only_then,
  trial_only_wider,
  trial_only_more,
  trial_only_region,
  trial_only_marks,
  compounds_apart,
  grounds_stay,
  trying_tried,
  arguments_stay,
  candidate_stays,
  unit_term_stays,
  head_term_stays,
  all_entries_stay,
  all_given_stay,
  entries_stay,
  marks_stay,
}

module _ {s s₁ : List ℕ} {text : Bytes} {names : List Bytes} {j : Job} {limit : ℕ} {figures : Room} {at : Places} {g : Goal} {others : List Goal}
    {values marks links goal k : ℕ} {c : Clause}
    (t : Trying s text names j limit figures at g others values marks links goal) (f : ArgumentsStand s j limit figures at g links)
    (m : Candidate s names j g k c) (begun : Only trial_region gifts_part s s₁) where
  pub begun_frame : TrialOnly compounds_region marks figures.pairs s s₁
  begun_frame = trial_only_region compounds_region marks figures.pairs (omega arith) begun

  pub marks_high : woken_part ≤ marks
  marks_high = omega (arith, t.values_behind, t.marks_behind)

  pub begun_grounds : NewGrounds at (unit_of j limit figures g).values marks s s₁
  begun_grounds = grounds_stay at (unit_of j limit figures g).values marks (omega (arith, marks_high)) begun

  pub begun_trying : Trying s₁ text names j limit figures at g others values marks links goal
  begun_trying = trying_tried begun_frame begun_grounds t

  pub begun_candidate : Candidate s₁ names j g k c
  begun_candidate = candidate_stays begun_frame (omega (arith, t.values_behind, t.marks_behind)) m

  -- How far the head's compounds are numbered.
  abbrev pub to : ℕ
  to = head_end begun_trying begun_candidate

  pub comparing : HeadAgainst s₁ (setting figures at (unit_of j limit figures g)) (template k c) values links
      c.head.number (named c.head.name) c.head.arguments 1 to g.goal.arguments (clause_head k)
  comparing =
      against begun_trying begun_candidate
      (arguments_stay t (trial_only_region woken_part marks (3 * figures.pairs) (omega arith) begun) f)

  -- What comparing tells.
  abbrev pub Comparison : List ℕ → Option ℕ → Type 0
  Comparison s₂ r =
      Answers s₁ s₂ (setting figures at (unit_of j limit figures g)) (template k c) 0 1 to (count c.head.arguments)
      (places_outcome (setting figures at (unit_of j limit figures g)) links c.head.arguments g.goal.arguments) r

  pub comparison : (s₂ : List ℕ) (r r' : Option ℕ)
      → ((x : Setting) (y : Template) (h : ℕ) (f : Functor) (us : Terms) (lo hi : ℕ) (ts : Terms)
      → HeadAgainst s₁ x y values links h f us lo hi ts (clause_head k)
      → Answers s₁ s₂ x y 0 lo hi (count us) (places_outcome x links us ts) r)
      → r ≡ r' → Comparison s₂ r'
  comparison s₂ r r' tells e =
      subst (λ o. Comparison s₂ o) e
      (tells (setting figures at (unit_of j limit figures g)) (template k c) c.head.number (named c.head.name) c.head.arguments 1 to
      g.goal.arguments comparing)

  -- The head's writers are given nothing before it.
  pub cleared_all : ((a : ℕ) → a < 16 → get_or s₁ (trial_region + a) 0 ≡ 0) → (a : ℕ) → a < c.pairs → get_or s₁ (trial_region + a) 0 ≡ 0
  cleared_all cleared a h = cleared a (omega (arith, m.at.held.laid.few_pairs))

  -- Where no place fails.
  module _ {s₂ : List ℕ} {n : ℕ} (told : Comparison s₂ (Some n)) where
    abbrev pub notes : List Note
    notes = told.told.1.notes

    pub few_noted : n ≤ 192
    few_noted = omega (arith, told.told.0, comparing.head.room)

    pub large_noted : woken_part ≤ length s₂
    large_noted = omega (arith, comparing.head.trial.large, told.only.size)

    pub asked_noted : asked_in s₂ n ≡ map (λ p. at.pair p) (asks_in notes)
    unfolding asked_in
    asked_noted =
        let x = setting figures at (unit_of j limit figures g) in
        let y = template k c in
        let counted : n ≡ 0 + noted notes = told.told.1.counted in
        ap (λ u. asked_in u n) told.told.1.scratch
        ∙ ap (asked_in (written (item x y) at 0 notes s₁)) counted
        ∙ asked_are (item x y) at notes s₁ x y 1 to 0 s₁ m.at.held.laid.few_pairs told.told.1.held comparing.head.trial.large
        (omega (arith, few_noted, counted))

    -- No reader is waited on; or some is.
    pub quiet : {b : Bool} → b ≡ is_some (asked_in s₂ n) → b ≡ false → asks_in notes ≡ []
    quiet is e = none_mapped (λ p. at.pair p) (asks_in notes) (sym asked_noted ∙ none_is_empty (asked_in s₂ n) (sym is ∙ e))

    pub waiting : {b : Bool} → b ≡ is_some (asked_in s₂ n) → b ≡ true → asks_in notes ≢ []
    waiting is e empty =
        some_not_none (asked_in s₂ n) (sym is ∙ e) (asked_noted ∙ ap (map (λ p. at.pair p)) empty)

  -- Before the circle test, where all places agree.
  module _ {s₂ : List ℕ} {n stamp : ℕ} (new : MarksBelow s marks figures.pairs stamp) (fit : (1 < stamp) × (stamp + 256 < 1099511627776))
      (cleared : (a : ℕ) → a < c.pairs → get_or s₁ (trial_region + a) 0 ≡ 0)
      (told : Comparison s₂ (Some n)) (none_asked : asks_in told.told.1.notes ≡ []) where
    abbrev pub x : Setting
    x = setting figures at (unit_of j limit figures g)

    abbrev pub y : Template
    y = template k c

    abbrev pub gifts : List Gift
    gifts = gifts_in told.told.1.notes

    abbrev pub list : List GiftEntry
    list = entries_of (gifts_in told.told.1.notes)

    abbrev pub given : List Assignment
    given = assignments (length (unit_of j limit figures g).values) (unit_of j limit figures g).compounds (gifts_in told.told.1.notes)

    pub agrees : compared c (unit_of j limit figures g) g.goal ≡ succeeds given
    agrees = compared_is t m ∙ told.told.1.outcome ∙ outcome_succeeds (length x.values) x.compounds (notes told) none_asked

    gifts_there : AllGiven s₁ x y 1 to gifts
    gifts_there = gifts_held s₁ x y 1 to (notes told) told.told.1.held

    as_recorded : s₂ ≡ recorded (item x y) at 0 gifts s₁
    as_recorded = told.told.1.scratch ∙ gifts_recorded (item x y) at 0 (notes told) s₁ none_asked

    as_counted : n ≡ entries gifts
    as_counted = omega (arith, told.told.1.counted, gifts_counted (notes told) none_asked)

    once : AssignedOnce (unit_of j limit figures g).values c.pairs given
    once = trial_assigns_once j (rules_kept t m) limit figures g others t.front c (one_of_the_job m) given agrees

    few_entries : n ≤ 192
    few_entries = few_noted told

    large : woken_part ≤ length s₁
    large = comparing.head.trial.large

    few : c.pairs ≤ 16
    few = m.at.held.laid.few_pairs

    counted : n ≡ length list
    counted = omega (arith, as_counted, entries_length gifts)

    stand : EntriesAt s₂ (item x y) at 0 list
    stand =
        subst (λ u. EntriesAt u (item x y) at 0 list) (sym as_recorded)
        (entries_at (item x y) at gifts s₁ x y 1 to 0 s₁ few gifts_there large (omega (arith, few_entries, as_counted)))

    held : AllEntries s₁ x y 1 to list
    held = entries_held gifts s₁ x y 1 to gifts_there

    agreed_frame : TrialOnly compounds_region marks figures.pairs s₁ s₂
    agreed_frame = trial_only_region compounds_region marks figures.pairs (omega arith) told.only

    agreed_grounds : NewGrounds at (unit_of j limit figures g).values marks s₁ s₂
    agreed_grounds = grounds_stay at (unit_of j limit figures g).values marks marks_high told.only

    agreed_trying : Trying s₂ text names j limit figures at g others values marks links goal
    agreed_trying = trying_tried agreed_frame agreed_grounds begun_trying

    given_then : (all : Gave s₁ s₂ x y given n) × (all.high ≡ to)
    given_then = gave s₁ s₂ x y 1 to gifts n gifts_there as_recorded as_counted large few_entries few cleared

    abbrev pub tried_as : Trial
    tried_as = record {
      unit = x;
      after = values_after c given (unit_of j limit figures g);
      item = item x y;
      pairs = c.pairs;
      compounds = c.compounds;
    }

    base_long : length (with_pairs c.pairs x.values) ≡ length x.values + c.pairs
    base_long = length_with_pairs c.pairs x.values

    entry : (i : ℕ) → i < n → Entry s₂ tried_as i
    unfolding values_after
    entry i h =
        let e = get_or list i no_entry in
        let inside : i < length list = omega (arith, counted) in
        let own = entry_held s₁ x y 1 to list i inside held in
        let words = entry_words s₂ (item x y) at 0 list i inside stand in
        let is : 0 + i ≡ i = omega arith in
        let one = entry_assigned (length x.values) x.compounds gifts i inside in
        let term = head_term_stays marks figures.pairs s₁ s₂ agreed_frame (omega (arith, t.values_behind, t.marks_behind)) x y
        m.at.number m.at.held.laid.few_compounds own.1 own.2 e.term own.3 in
        record {
          pair = e.pair;
          term = e.term;
          of_unit = own.0;
          place = rw is at words.0;
          word = rw is at words.1;
          held = term.held;
          within = term.within;
          unassigned = each_in (λ a. value x.values a.pair ≡ none) once.unassigned_before one;
          given = assigned_is given (with_pairs c.pairs x.values)
              (record { pair = e.pair; value = renamed (length x.values) x.compounds e.term })
              (once_apart once) one (omega (arith, base_long, own.0));
        }

    apart_entries : (i l : ℕ) → i < n → l < n → entry_pair s₂ i ≡ entry_pair s₂ l → i ≡ l
    apart_entries i l h q same =
        let inside : i < length list = omega (arith, counted) in
        let inside' : l < length list = omega (arith, counted) in
        let is : 0 + i ≡ i = omega arith in
        let is' : 0 + l ≡ l = omega arith in
        let words = rw is at (entry_words s₂ (item x y) at 0 list i inside stand).0 in
        let words' = rw is' at (entry_words s₂ (item x y) at 0 list l inside' stand).0 in
        entries_differ (length x.values) x.compounds gifts i l (once_apart once) inside inside'
        (t.apart (get_or list i no_entry).pair (get_or list l no_entry).pair
        (entry_held s₁ x y 1 to list i inside held).0 (entry_held s₁ x y 1 to list l inside' held).0
        (sym words ∙ same ∙ words'))

    -- What the clause's pairs are given.
    to_pair : (a : ℕ) (u : Term) → value (values_after c given (unit_of j limit figures g)) (length x.values + a) ≡ some u → UnitTerm s₂ x u
    to_pair a u e = go (value_after_cases c given (unit_of j limit figures g) (length x.values + a) u e)
      where
        go : ((b : Assignment) × In b given × (b.pair ≡ length x.values + a) × (b.value ≡ u))
            ⊎ (value x.values (length x.values + a) ≡ some u)
            → UnitTerm s₂ x u
        go (inl (b, one, place, is)) =
            unit_term_stays marks figures.pairs s₁ s₂ agreed_frame (omega (arith, t.values_behind, t.marks_behind)) x (compounds_apart t) u
            (subst (λ v. UnitTerm s₁ x v) is
            (each_in (λ d. length x.values ≤ d.pair → UnitTerm s₁ x d.value)
            (to_clause (length x.values) x.compounds s₁ x y 1 to gifts gifts_there refl) one (omega arith)))
        go (inr q) = absurd (omega (arith, assigned_below x.values (length x.values + a) u q))

    pub tried : Tried s₂ tried_as values marks n stamp
    unfolding values_after
    tried = record {
      unit = agreed_trying.unit;
      unit_apart = t.apart;
      unit_before = t.compound_before;
      item_before = λ a h. omega (arith, m.at.number, m.at.held.laid.few_compounds, t.values_behind);
      item_pair = λ a. refl;
      few = few;
      few_pairs = omega (arith, t.few_links, t.links_are);
      entries_before = omega (arith, few_entries, t.values_behind);
      marks_behind = t.marks_behind;
      room = omega (arith, agreed_trying.inside);
      entry = entry;
      entries_apart = apart_entries;
      given = λ a h. record {
        word = given_then.0.clause_values a h;
        held = λ u e. (to_pair a u e).held;
        within = λ u e. (to_pair a u e).of.within;
      };
      after_length = length_values_after c given (unit_of j limit figures g);
      others = λ a h none_here.
          value_assigned_other given (with_pairs c.pairs x.values) a
          (λ b one e.
          let low : b.pair < length x.values = omega arith in
          let r = to_unit (length x.values) x.compounds s₂ (item x y) at gifts 0 b stand one low in
          none_here r.0 (omega (arith, r.1, counted)) (ap at.pair e ∙ r.2))
          ∙ value_with_pairs c.pairs x.values a;
      no_circle = run_no_circle j limit figures g.query;
      stamps_fit = omega (arith, few_entries, fit.1);
      stamps_new =
          marks_stay marks figures.pairs stamp (omega (arith, t.values_behind, t.marks_behind)) told.only
          (marks_stay marks figures.pairs stamp (omega (arith, t.values_behind, t.marks_behind)) begun new);
      stamp_above = fit.0;
      grounds = agreed_trying.grounds;
    }

    -- After the circle test.
    module _ {s₃ : List ℕ} {found : Bool} (answer : Tested s₂ s₃ tried_as marks n stamp found) where
      tested_frame : TrialOnly woken_part marks figures.pairs s₂ s₃
      tested_frame = trial_only_marks woken_part answer.only

      pub whole_frame : TrialOnly woken_part marks figures.pairs s s₃
      whole_frame =
          trial_only_then (trial_only_region woken_part marks figures.pairs (omega arith) begun)
          (trial_only_then (trial_only_region woken_part marks figures.pairs (omega arith) told.only) tested_frame)

      pub grounds_after : NewGrounds at (unit_of j limit figures g).values marks s s₃
      grounds_after =
          new_then at (unit_of j limit figures g).values marks s s₁ s₃ begun_grounds
          (new_then at (unit_of j limit figures g).values marks s₁ s₂ s₃ agreed_grounds answer.grounds)

      pub marks_after : MarksBelow s₃ marks figures.pairs (stamp + 192)
      marks_after a l h = omega (arith, answer.stamps_new a l h, few_entries)

      pub tested_is : (earlier : List ℕ)
          → trial earlier c (unit_of j limit figures g) g.goal ≡ guarded earlier c (unit_of j limit figures g) (when found then fails else succeeds given)
      unfolding trial tested
      tested_is earlier = rw (agrees, tested, answer.answer) refl

      before_marks : (a : ℕ) → a < woken_part → get_or s₃ a 0 ≡ get_or s₂ a 0
      before_marks a h = answer.only.below a (omega (arith, t.values_behind, t.marks_behind))

      whole : TrialOnly compounds_region marks figures.pairs s s₃
      whole = trial_only_wider compounds_region (omega arith) whole_frame

      behind : compounds_region ≤ marks
      behind = omega (arith, t.values_behind, t.marks_behind)

      pub tested_trying : Trying s₃ text names j limit figures at g others values marks links goal
      tested_trying = trying_tried whole grounds_after t

      pub tested_candidate : Candidate s₃ names j g k c
      tested_candidate = candidate_stays whole behind m

      -- What the guards read of the clause's pairs.
      pub gave_at : (a : ℕ) → a < c.pairs → GaveAt s₃ x given a
      unfolding values_after
      gave_at a h =
          let p = length x.values + a in
          let base = with_pairs c.pairs x.values in
          let nothing : value base p ≡ none = value_with_pairs c.pairs x.values p ∙ value_beyond x.values p (omega arith) in
          go (given_to_is given base p (once_apart once) (omega (arith, base_long)) nothing)
        where
          there : get_or s₃ (trial_region + a) 0 ≡ value_word at (value (values_after c given (unit_of j limit figures g)) (length x.values + a))
          there = before_marks (trial_region + a) (omega (arith, few)) ∙ given_then.0.clause_values a h

          go : ((value (values_after c given (unit_of j limit figures g)) (length x.values + a) ≡ none)
              × (given_to given (length x.values + a) ≡ Term.variable writer (length x.values + a)))
              ⊎ (value (values_after c given (unit_of j limit figures g)) (length x.values + a) ≡ some (given_to given (length x.values + a)))
              → GaveAt s₃ x given a
          go (inl (e, own)) =
              let none_there : get_or s₃ (trial_region + a) 0 ≡ 0 = there ∙ ap (value_word at) e in
              record { nothing = λ q. own; word = λ d. absurd (d none_there); term = λ d. absurd (d none_there) }
          go (inr e) =
              let u = given_to given (length x.values + a) in
              let some_there : get_or s₃ (trial_region + a) 0 ≡ term_word at u = there ∙ ap (value_word at) e in
              record {
                nothing = λ q. absurd (omega (arith, word_positive at u));
                word = λ d. some_there;
                term = λ d.
                    unit_term_stays marks figures.pairs s₂ s₃ (trial_only_wider compounds_region (omega arith) tested_frame) behind x (compounds_apart t) u
                    (to_pair a u e);
              }

      -- What is given stands still behind the guards, which change marks and the step's readers alone.
      pub succeeded : (s₄ : List ℕ) → Only marks (marks + 3 * figures.pairs) s₃ s₄ → Succeeded s₄ x k c given n
      succeeded s₄ o =
          let all = given_then.0 in
          let still : TrialOnly compounds_region marks (3 * figures.pairs) s₁ s₄ =
          trial_only_then
          (trial_only_more (3 * figures.pairs) (omega arith) (trial_only_then agreed_frame (trial_only_wider compounds_region (omega arith) tested_frame)))
          (trial_only_marks compounds_region o) in
          let low : (a : ℕ) → a < woken_part → get_or s₄ a 0 ≡ get_or s₂ a 0 = λ a h. o.below a (omega (arith, behind)) ∙ before_marks a h in
          record {
            few = few_entries;
            gave = record {
              list = all.list;
              size = all.size;
              stand = entries_stay s₂ s₄ (item x y) at 0 all.list (λ a l h. low a (omega (arith, all.size, few_entries))) all.stand;
              held = all_entries_stay marks (3 * figures.pairs) s₁ s₄ still behind x y m.at.number m.at.held.laid.few_compounds
                  all.low all.high all.list all.held;
              unit_values = all.unit_values;
              clause_values = λ a h. low (trial_region + a) (omega (arith, few)) ∙ all.clause_values a h;
              gifts = all.gifts;
              given_are = all.given_are;
              low = all.low;
              high = all.high;
              list_is = all.list_is;
              gifts_held = all_given_stay marks (3 * figures.pairs) s₁ s₄ still behind x y m.at.number m.at.held.laid.few_compounds (compounds_apart t)
                  all.low all.high all.gifts all.gifts_held;
              pairs_are = all.pairs_are;
            };
            body_from = body_start begun_trying begun_candidate;
            body_behind = rw given_then.1 (body_behind begun_trying begun_candidate);
            body = body_numbered begun_trying begun_candidate;
          }
