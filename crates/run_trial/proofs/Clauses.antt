-- The walk over the clauses of a procedure: the clauses passed, those left, and the readers that they wait on so far, a set in the region of the
-- readers.
use Prim.Native.Nat.{ℕ, ◌+◌, ◌*◌, ◌≤◌, ◌<◌}
use mathlib.Core.Path.{◌≡◌, refl, sym, subst, ap, ◌∙◌}
use mathlib.Core.Bool.{Bool, ◌&&◌}
use mathlib.Core.Logic.{◌⊎◌, inl, inr, ◌≢◌}
use mathlib.Core.List.{List, [], ◌∷◌, ◌++◌, map, map-append, append_assoc, append-nil}
use native.Mathlib.Omega.{arith}
use lib.Dec.{eqb}
use lib.ListN.{length, get_or, length-append}
use Rattle.meaning.specs.Bytes.{Bytes, same}
use Rattle.meaning.specs.Terms.{Clause, Job, count}
use Rattle.meaning.specs.State.{Room, Goal}
use Rattle.meaning.specs.Compare.{Assignment, succeeds}
use Rattle.meaning.specs.Trial.{reduces, joins_waiting, joins_failed, procedure, trial, none_succeeds, choice_from, choice}
use Rattle.laws.proofs.Lists.Filters.{length_those}
use Rattle.term.specs.Cells.{Places}
use Rattle.term.specs.Jobs.{ClauseAt}
use Rattle.term.specs.States.{listed}
use Rattle.term.specs.Layout.{compounds_region, woken_part, clause_stride, clause_record}
use Rattle.run_readers.specs.Readers.{all_met}
use Rattle.run_readers.proofs.AllMet.{all_met_append, all_met_not_none}
use Rattle.run_readers.proofs.Ranks.{listed_length, readers_none}
use Rattle.run_asked.specs.Asking.{AllBelow}
use Rattle.run_index.specs.declared.leads.Leads.{Leads}
use Rattle.run_index.specs.Left.{Idle, AllOut, Nearest, LeftFor, LeadsAre, InOrder, FurtherIs}
use Rattle.run_index.proofs.Left.{NextLeft, left_none, left_next, left_further}
use Rattle.std.specs.Prelude.{Some, None, Ok, Err}
use Rattle.term.specs.Words.{link_to}
use Rattle.run_trial.specs.declared.choice.TrialResult.{TrialResult}
use Rattle.run_trial.specs.declared.choice.TrialResult.TheVariants as results
use Rattle.run_asked.specs.declared.asking.Hindered.TheVariants.{Waits, Fails}
use Rattle.run_trial.specs.Choosing.{unit_of, Trying, ArgumentsStand, MarksBelow, NewMarks, TrialOnly, Gathered, Candidate, TrialIs, ChoiceIs}
use Rattle.run_trial.proofs.Asked.{below_both}
use Rattle.run_trial.proofs.Following.{Ready}
use Rattle.run_trial.proofs.Idle.{first_word, idle_skipped}
use Rattle.run_trial.proofs.Results.{from_succeeds, from_waits, from_fails}
use Rattle.run_trial.proofs.Staying.{
  trial_only_same,
  trial_only_then,
  trial_only_wider,
  new_marks_none,
  new_marks_then,
  low_stays,
  clause_stays,
  trying_stays,
  arguments_stay,
}

none_long : (l : List ℕ) → length l ≡ 0 → l ≡ []
none_long [] e = refl
none_long (p ∷ l) e = absurd (omega arith)

-- The third of three results.
pub else_fails : (r : TrialResult) → ((n : ℕ) → r ≡ results.Succeeds n → ⊥) → ((n : ℕ) → r ≡ results.Waits n → ⊥) → r ≡ results.Fails
else_fails (results.Succeeds n) s w = absurd (s n refl)
else_fails (results.Waits n) s w = absurd (w n refl)
else_fails results.Fails s w = refl

-- A trial that does not succeed: it waits, and the step has met so many readers now; or it fails, and the step has met as many as before.
abbrev pub Passed : ℕ → TrialResult → ℕ → Type 0
Passed readers r readers' = ((n : ℕ) × (r ≡ results.Waits n) × (readers' ≡ n)) ⊎ ((r ≡ results.Fails) × (readers' ≡ readers))

-- How far the choice has come. Behind the clauses that were passed, tried or idle, those that are left are as they were before the first.
pub record Walk (s₀ s : List ℕ) (names : List Bytes) (j : Job) (limit : ℕ) (figures : Room) (at : Places) (g : Goal)
    (marks goal first readers stamp : ℕ) (l : Leads) : Type 0 where
  pub waiting : List ℕ
  pub passed : List Clause
  pub rest : List Clause
  pub whole : procedure j.clauses g.goal ≡ passed ++ rest
  pub only : TrialOnly woken_part marks (3 * figures.pairs) s₀ s
  pub from : ℕ
  pub nearest : Nearest l
  pub left : LeftFor s₀ names (get_or s₀ goal 0) from rest l
  pub stamp_from : first ≤ stamp
  pub stamp_to : stamp ≤ first + 256 * length passed
  pub marks_now : MarksBelow s marks figures.pairs stamp
  pub gathered : Gathered s at (marks + figures.pairs) figures.pairs readers waiting
  pub below : AllBelow (length (unit_of j limit figures g).values) waiting
  pub same_choice : choice_from waiting rest (unit_of j limit figures g) g.goal ≡ choice j.clauses (unit_of j limit figures g) g.goal
  pub grounds : NewMarks at (unit_of j limit figures g).values marks figures.pairs s₀ s

-- For whatever the goal is in front of.
abbrev pub Walking : List ℕ → ℕ → ℕ → ℕ → ℕ → ℕ → List ℕ → ℕ → ℕ → Leads → Type 0
Walking s₀ values marks links goal first s readers stamp l =
    (text : Bytes) (names : List Bytes) (j : Job) (limit : ℕ) (figures : Room) (at : Places) (g : Goal) (others : List Goal)
    → Trying s₀ text names j limit figures at g others values marks links goal
    → ArgumentsStand s₀ j limit figures at g links
    → MarksBelow s₀ marks figures.pairs first
    → Walk s₀ s names j limit figures at g marks goal first readers stamp l

-- Before the first clause.
pub walk_first : {s : List ℕ} {text : Bytes} {names : List Bytes} {j : Job} {limit : ℕ} {figures : Room} {at : Places} {g : Goal} {others : List Goal}
    {values marks links goal : ℕ} → Trying s text names j limit figures at g others values marks links goal
    → (first : ℕ) (l : Leads) → MarksBelow s marks figures.pairs first → {functor : ℕ} → functor ≡ get_or s (goal + 0) 0
    → LeadsAre s names j g.goal functor l
    → Walk s s names j limit figures at g marks goal first 0 first l
unfolding choice listed all_met
walk_first {s} {names = names} {j} {limit} {figures} {at} {g} {marks = marks} {goal = goal} t first l new e leads = record {
  waiting = [];
  passed = [];
  rest = procedure j.clauses g.goal;
  whole = refl;
  only = trial_only_same woken_part marks (3 * figures.pairs) s;
  from = 0;
  nearest = leads.nearest;
  left = subst (λ f. LeftFor s names f 0 (procedure j.clauses g.goal) l) (e ∙ first_word s goal) leads.left;
  stamp_from = omega arith;
  stamp_to = omega arith;
  marks_now = new;
  gathered = record { ok = readers_none s (marks + figures.pairs) figures.pairs (omega (arith, t.inside)); words = refl };
  below = tt;
  same_choice = refl;
  grounds = new_marks_none at (unit_of j limit figures g).values marks figures.pairs s;
}

-- At most 128 clauses.
module _ {s₀ s : List ℕ} {text : Bytes} {names : List Bytes} {j : Job} {limit : ℕ} {figures : Room} {at : Places} {g : Goal} {others : List Goal}
    {values marks links goal first readers stamp : ℕ} {l : Leads}
    (t : Trying s₀ text names j limit figures at g others values marks links goal)
    (stand : ArgumentsStand s₀ j limit figures at g links)
    (w : Walk s₀ s names j limit figures at g marks goal first readers stamp l) where
  pub few_clauses : length w.passed + length w.rest ≤ 128
  unfolding procedure
  few_clauses =
      let test : Clause → Bool = λ d. same d.head.name g.goal.name && eqb (count d.head.arguments) (count g.goal.arguments) in
      omega (arith, length_those test j.clauses, ap length w.whole, length-append w.passed w.rest, t.held.few_clauses)

  walked : TrialOnly compounds_region marks (3 * figures.pairs) s₀ s
  walked = trial_only_wider compounds_region (omega arith) w.only

  pub walk_trying : Trying s text names j limit figures at g others values marks links goal
  walk_trying = trying_stays walked w.grounds t

  pub walk_stand : ArgumentsStand s j limit figures at g links
  walk_stand = arguments_stay t w.only stand

  behind : compounds_region ≤ marks
  behind = omega (arith, t.values_behind, t.marks_behind)

  -- A clause is left to try, behind some that are idle.
  module _ {k : ℕ} (some_left : l.next ≡ Some k) where
    abbrev pub Turn : Type 0
    Turn = NextLeft s₀ (Idle s₀ (get_or s₀ goal 0)) (ClauseAt s₀ names) w.rest l k

    pub turn : Turn
    turn = left_next s₀ (Idle s₀ (get_or s₀ goal 0)) (ClauseAt s₀ names) w.from w.rest l k w.nearest (ap link_to some_left) w.left

    abbrev pub turn_clause : Clause
    turn_clause = turn.1

    -- Those passed before it, and those behind it.
    abbrev before : List Clause
    before = w.passed ++ turn.0

    abbrev rest_then : List Clause
    rest_then = turn.2

    whole_then : procedure j.clauses g.goal ≡ before ++ turn_clause ∷ rest_then
    whole_then = w.whole ∙ ap (λ cs. w.passed ++ cs) turn.3 ∙ sym (append_assoc w.passed turn.0 (turn_clause ∷ rest_then))

    same_then : choice_from w.waiting (turn_clause ∷ rest_then) (unit_of j limit figures g) g.goal
        ≡ choice j.clauses (unit_of j limit figures g) g.goal
    same_then =
        sym (ap (λ cs. choice_from w.waiting cs (unit_of j limit figures g) g.goal) turn.3
        ∙ idle_skipped t stand w.waiting w.passed turn.0 (turn_clause ∷ rest_then) (w.whole ∙ ap (λ cs. w.passed ++ cs) turn.3) turn.4)
        ∙ w.same_choice

    pub turn_candidate : Candidate s names j g k turn_clause
    turn_candidate = record {
      at = clause_stays marks (3 * figures.pairs) s₀ s walked behind names k turn_clause turn.5;
      before = before;
      after = rest_then;
      in_procedure = whole_then;
    }

    turn_few : length before + 1 ≤ 128
    turn_few =
        omega (arith, few_clauses, ap length turn.3, length-append w.passed turn.0, length-append turn.0 (turn_clause ∷ rest_then))

    passed_few : length w.passed ≤ length before
    passed_few = omega (arith, length-append w.passed turn.0)

    pub turn_stamp : stamp + 256 ≤ first + 32768
    turn_stamp = omega (arith, turn_few, passed_few, w.stamp_to)

    module _ {s₃ : List ℕ} {r : TrialResult}
        (told : TrialIs s s₃ j limit figures at g marks readers stamp k turn_clause w.waiting r) where
      tried_frame : TrialOnly woken_part marks (3 * figures.pairs) s₀ s₃
      tried_frame = trial_only_then w.only told.only

      grounds_tried : NewMarks at (unit_of j limit figures g).values marks figures.pairs s₀ s₃
      grounds_tried = new_marks_then at (unit_of j limit figures g).values marks figures.pairs s₀ s s₃ w.grounds told.grounds

      marks_tried : MarksBelow s₃ marks figures.pairs (first + 32768)
      marks_tried a l h = omega (arith, told.marks_now a l h, turn_stamp)

      -- It succeeds: the goal is reduced.
      pub turn_succeeds : (n : ℕ) → r ≡ results.Succeeds n → ChoiceIs s₀ s₃ names j limit figures at g marks first (Ok (k, n))
      turn_succeeds n e = go (rw e at told)
        where
          taken : (given : List Assignment) → trial w.waiting turn_clause (unit_of j limit figures g) g.goal ≡ succeeds given
              → choice j.clauses (unit_of j limit figures g) g.goal ≡ reduces turn_clause given
          taken given q = sym same_then ∙ from_succeeds w.waiting turn_clause rest_then (unit_of j limit figures g) g.goal given q

          go : TrialIs s s₃ j limit figures at g marks readers stamp k turn_clause w.waiting (results.Succeeds n)
              → ChoiceIs s₀ s₃ names j limit figures at g marks first (Ok (k, n))
          go is = record {
            only = trial_only_wider compounds_region (omega arith) tried_frame;
            marks_now = marks_tried;
            told = (
              turn_clause,
              is.told.0,
              taken is.told.0 is.told.1,
              clause_stays marks (3 * figures.pairs) s₀ s₃ (trial_only_wider compounds_region (omega arith) tried_frame) behind names k turn_clause
                  turn.5,
              is.told.2,
            );
            grounds = grounds_tried;
          }

      -- It fails or waits: the next clause is tried, with the readers that the step has met then.
      one_more : length (before ++ (turn_clause ∷ [])) ≡ length before + 1
      one_more = length-append before (turn_clause ∷ [])

      whole_more : procedure j.clauses g.goal ≡ (before ++ (turn_clause ∷ [])) ++ rest_then
      whole_more = whole_then ∙ sym (append_assoc before (turn_clause ∷ []) rest_then)

      -- The clauses' words are those before the first trial.
      further_before : (l' : Leads) → FurtherIs s₃ k l l' → FurtherIs s₀ k l l'
      further_before l' f =
          let o : TrialOnly compounds_region marks (3 * figures.pairs) s₀ s₃ = trial_only_wider compounds_region (omega arith) tried_frame in
          subst (λ v. InOrder v l.link (link_to l.other) l.onward l')
          (low_stays marks (3 * figures.pairs) s₀ s₃ o behind (clause_record k + l.link) (omega (arith, turn.5.number, w.nearest.link_inside)))
          f

      further_left : (l' : Leads) → FurtherIs s₃ k l l' → Nearest l' × LeftFor s₀ names (get_or s₀ goal 0) (k + 1) rest_then l'
      further_left l' f =
          left_further s₀ (Idle s₀ (get_or s₀ goal 0)) (ClauseAt s₀ names) (k + 1) rest_then l l' k w.nearest (further_before l' f) turn.6

      module _ {l' : Leads} (further : FurtherIs s₃ k l l') where
        onward : (waiting : List ℕ) (readers' : ℕ) → Gathered s₃ at (marks + figures.pairs) figures.pairs readers' waiting
            → AllBelow (length (unit_of j limit figures g).values) waiting
            → choice_from w.waiting (turn_clause ∷ rest_then) (unit_of j limit figures g) g.goal
            ≡ choice_from waiting rest_then (unit_of j limit figures g) g.goal
            → Walk s₀ s₃ names j limit figures at g marks goal first readers' (stamp + 256) l'
        onward waiting readers' gathered below e =
            let left = further_left l' further in
            record {
              waiting = waiting;
              passed = before ++ (turn_clause ∷ []);
              rest = rest_then;
              whole = whole_more;
              only = tried_frame;
              from = k + 1;
              nearest = left.0;
              left = left.1;
              stamp_from = omega (arith, w.stamp_from);
              stamp_to = omega (arith, w.stamp_to, one_more, passed_few);
              marks_now = told.marks_now;
              gathered = gathered;
              below = below;
              same_choice = sym e ∙ same_then;
              grounds = grounds_tried;
            }

        turn_fails : r ≡ results.Fails → Walk s₀ s₃ names j limit figures at g marks goal first readers (stamp + 256) l'
        unfolding all_met
        turn_fails e =
            let is : TrialIs s s₃ j limit figures at g marks readers stamp k turn_clause w.waiting results.Fails = rw e at told in
            onward w.waiting readers (record { ok = is.told.1.ok; words = is.told.1.list ∙ w.gathered.words }) w.below
            (from_fails w.waiting turn_clause rest_then (unit_of j limit figures g) g.goal is.told.0)

        turn_waits : (n : ℕ) → r ≡ results.Waits n → Walk s₀ s₃ names j limit figures at g marks goal first n (stamp + 256) l'
        turn_waits n e =
            let is : TrialIs s s₃ j limit figures at g marks readers stamp k turn_clause w.waiting (results.Waits n) = rw e at told in
            let others = is.told.0 in
            onward (w.waiting ++ others) n
            (record {
              ok = is.told.3.ok;
              words =
                  is.told.3.list
                  ∙ ap (λ q. all_met q (map (λ p. at.pair p) others)) w.gathered.words
                  ∙ sym (all_met_append [] (map (λ p. at.pair p) w.waiting) (map (λ p. at.pair p) others))
                  ∙ ap (all_met []) (sym (map-append (λ p. at.pair p) w.waiting others));
            })
            (below_both (length (unit_of j limit figures g).values) w.waiting others w.below is.told.2)
            (from_waits w.waiting turn_clause rest_then (unit_of j limit figures g) g.goal others is.told.1)

        -- Either way.
        pub turn_passed : (readers' : ℕ) → Passed readers r readers' → Walk s₀ s₃ names j limit figures at g marks goal first readers' (stamp + 256) l'
        turn_passed readers' (inl (n, e, is)) = rw is (turn_waits n e)
        turn_passed readers' (inr (e, is)) = rw is (turn_fails e)

  -- No clause is left to try: all that were not passed are idle.
  module _ (none_left : l.next ≡ None) where
    all_idle : AllOut (Idle s₀ (get_or s₀ goal 0)) (ClauseAt s₀ names) w.rest
    all_idle =
        left_none s₀ (Idle s₀ (get_or s₀ goal 0)) (ClauseAt s₀ names) w.from w.rest l.link l.onward
        (rw (ap link_to none_left, w.nearest.none (ap link_to none_left)) at w.left)

    all_passed : none_succeeds w.waiting ≡ choice j.clauses (unit_of j limit figures g) g.goal
    unfolding choice_from
    all_passed =
        let alone : w.rest ++ [] ≡ w.rest = append-nil w.rest in
        sym (sym (ap (λ cs. choice_from w.waiting cs (unit_of j limit figures g) g.goal) alone)
        ∙ idle_skipped t stand w.waiting w.passed w.rest [] (w.whole ∙ sym (ap (λ cs. w.passed ++ cs) alone)) all_idle)
        ∙ w.same_choice

    marks_passed : MarksBelow s marks figures.pairs (first + 32768)
    marks_passed k a b = omega (arith, w.marks_now k a b, w.stamp_to, few_clauses)

    -- Readers are met exactly if some are waited on.
    as_many : length (all_met [] (map (λ p. at.pair p) w.waiting)) ≡ readers
    as_many = sym (ap length w.gathered.words) ∙ listed_length s (marks + figures.pairs) readers

    pub all_fail : readers ≡ 0 → ChoiceIs s₀ s names j limit figures at g marks first (Err Fails)
    unfolding none_succeeds
    all_fail e = record { only = walked; marks_now = marks_passed; told = go w.waiting as_many all_passed; grounds = w.grounds }
      where
        go : (l : List ℕ) → length (all_met [] (map (λ p. at.pair p) l)) ≡ readers
            → none_succeeds l ≡ choice j.clauses (unit_of j limit figures g) g.goal
            → choice j.clauses (unit_of j limit figures g) g.goal ≡ joins_failed
        go [] q is = sym is
        go (p ∷ l) q is = absurd (all_met_not_none [] (at.pair p) (map (λ p. at.pair p) l) (none_long _ (q ∙ e)))

    pub some_wait : readers ≢ 0 → ChoiceIs s₀ s names j limit figures at g marks first (Err (Waits readers))
    unfolding none_succeeds all_met
    some_wait e = record {
      only = walked;
      marks_now = marks_passed;
      told = (w.waiting, go w.waiting as_many all_passed, w.gathered.ok.few, w.gathered.words, w.below);
      grounds = w.grounds;
    }
      where
        go : (l : List ℕ) → length (all_met [] (map (λ p. at.pair p) l)) ≡ readers
            → none_succeeds l ≡ choice j.clauses (unit_of j limit figures g) g.goal
            → choice j.clauses (unit_of j limit figures g) g.goal ≡ joins_waiting l
        go [] q is = absurd (e (sym q))
        go (p ∷ l) q is = sym is

-- The numbers of a turn.
pub record Turning (s₀ s : List ℕ) (marks links first stamp k : ℕ) (l : Leads) : Type 0 where
  pub large : compounds_region ≤ length s
  pub size : length s ≡ length s₀
  pub room : marks + 3 * links ≤ length s
  pub number : k < 128
  pub link : l.link < clause_stride
  pub stamps : stamp + 256 ≤ first + 32768
  pub stamps_fit : first + 32768 < 1099511627776

pub turning : {s₀ s : List ℕ} {values marks links goal first readers stamp k : ℕ} {l : Leads}
    → Walking s₀ values marks links goal first s readers stamp l → Ready s₀ values marks links goal first → l.next ≡ Some k
    → Turning s₀ s marks links first stamp k l
turning inv (text, names, j, limit, figures, at, g, others, t, stand, new, fit) left =
    let w = inv text names j limit figures at g others t stand new in
    record {
      large = (walk_trying t stand w).held.inside;
      size = w.only.size;
      room = rw t.links_are (walk_trying t stand w).inside;
      number = (turn_candidate t stand w left).at.number;
      link = w.nearest.link_inside;
      stamps = turn_stamp t stand w left;
      stamps_fit = fit.1;
    }
