-- What a change of the trial's region, of marks and of the readers met alone leaves as it was: the job, the goal and its unit, a clause's head, what a trial gave.
use Prim.Native.Nat.{ℕ, ◌+◌, ◌*◌, ◌≤◌, ◌<◌}
use mathlib.Core.Path.{◌≡◌, refl, subst, ap, ◌∙◌}
use mathlib.Core.Logic.{◌⊎◌, inl, inr, ⊎_elim}
use mathlib.Core.List.{List, [], ◌∷◌}
use native.Mathlib.Omega.{arith}
use lib.ListN.{length, get_or}
use Rattle.meaning.specs.Bytes.{Bytes}
use Rattle.meaning.specs.Terms.{Term, Clause, Job, as_term}
use Rattle.meaning.specs.State.{Room, Goal, Values}
use Rattle.term.specs.Cells.{Places}
use Rattle.term.specs.Chains.{end_place, EndsStand}
use Rattle.term.specs.Frames.{Only}
use Rattle.term.specs.Holds.{Holds}
use Rattle.term.specs.Jobs.{ClauseAt, HoldsJob, JobKept}
use Rattle.term.specs.Setting.{Setting, Within, UnitTerm, UnitStands}
use Rattle.term.specs.States.{setting}
use Rattle.term.proofs.Holds.{holds_alike}
use Rattle.term.proofs.Jobs.{holds_clause_kept, holds_job_kept}
use Rattle.term.proofs.Units.{within_every, unit_stands_alike, ends_stand_alike}
use Rattle.term.specs.Layout.{trial_region, compounds_region, gifts_part, gift_pair, gift_term, woken_part, clause_record, query_record, ends_after}
use Rattle.run_circle.specs.Ground.{Tells, Grounds, NewGrounds}
use Rattle.run_circle.proofs.Grounds.{new_same}
use Rattle.run_compare.specs.Gifts.{Gift, to_head, to_goal, Entry, EntriesAt}
use Rattle.run_compare.specs.Compare.{Template, item, HeadTerm, AllEntries, AllGiven}
use Rattle.run_chains.proofs.Followed.{followed_alike}
use Rattle.run_readers.specs.Readers.{all_met, Readers}
use Rattle.run_readers.proofs.Ranks.{listed_kept, readers_kept}
use Rattle.run_asked.specs.Asking.{Joined}
use Rattle.run_index.proofs.Kept.{indexed_kept}
use Rattle.run_trial.specs.Choosing.{unit_of, Trying, ArgumentsStand, TrialOnly, NewMarks, MarksBelow, Candidate}

-- Frames: nothing changed, one change after another, a wider region, more words behind the marks, a change of the trial's region, of marks.
pub trial_only_same : (top marks pairs : ℕ) (s : List ℕ) → TrialOnly top marks pairs s s
trial_only_same top marks pairs s = record { size = refl; same = λ k a b. refl }

pub trial_only_then : {top marks pairs : ℕ} {s t u : List ℕ} → TrialOnly top marks pairs s t → TrialOnly top marks pairs t u
    → TrialOnly top marks pairs s u
trial_only_then f g = record { size = g.size ∙ f.size; same = λ k a b. g.same k a b ∙ f.same k a b }

above : (low high k : ℕ) → low ≤ high → (k < trial_region) ⊎ (high ≤ k) → (k < trial_region) ⊎ (low ≤ k)
above low high k h (inl a) = inl a
above low high k h (inr a) = inr (omega arith)

pub trial_only_wider : {top marks pairs : ℕ} {s t : List ℕ} (top' : ℕ) → top ≤ top' → TrialOnly top marks pairs s t → TrialOnly top' marks pairs s t
trial_only_wider {top} top' h f = record { size = f.size; same = λ k a b. f.same k (above top top' k h a) b }

pub trial_only_more : {top marks wide : ℕ} {s t : List ℕ} (wide' : ℕ) → wide ≤ wide' → TrialOnly top marks wide s t → TrialOnly top marks wide' s t
trial_only_more {top} {marks} {wide} {s} {t} wide' h f = record { size = f.size; same = λ k a b. f.same k a (go k b) }
  where
    go : (k : ℕ) → (k < marks) ⊎ (marks + wide' ≤ k) → (k < marks) ⊎ (marks + wide ≤ k)
    go k (inl a) = inl a
    go k (inr a) = inr (omega arith)

pub trial_only_region : {hi : ℕ} {s t : List ℕ} (top marks pairs : ℕ) → hi ≤ top → Only trial_region hi s t → TrialOnly top marks pairs s t
trial_only_region {hi} {s} {t} top marks pairs h f = record { size = f.size; same = λ k a b. go k a }
  where
    go : (k : ℕ) → (k < trial_region) ⊎ (top ≤ k) → get_or t k 0 ≡ get_or s k 0
    go k (inl a) = f.below k a
    go k (inr a) = f.above k (omega arith)

pub trial_only_marks : {marks pairs : ℕ} {s t : List ℕ} (top : ℕ) → Only marks (marks + pairs) s t → TrialOnly top marks pairs s t
trial_only_marks {marks} {pairs} {s} {t} top f = record { size = f.size; same = λ k a b. go k b }
  where
    go : (k : ℕ) → (k < marks) ⊎ (marks + pairs ≤ k) → get_or t k 0 ≡ get_or s k 0
    go k (inl a) = f.below k a
    go k (inr a) = f.above k a

-- A change of the readers met, which stand behind the marks.
pub trial_only_readers : {s t : List ℕ} (top marks pairs : ℕ) → Only (marks + pairs) (marks + pairs + 2 * pairs) s t
    → TrialOnly top marks (3 * pairs) s t
trial_only_readers {s} {t} top marks pairs f = record { size = f.size; same = λ k a b. go k b }
  where
    go : (k : ℕ) → (k < marks) ⊎ (marks + 3 * pairs ≤ k) → get_or t k 0 ≡ get_or s k 0
    go k (inl a) = f.below k (omega arith)
    go k (inr a) = f.above k (omega arith)

-- The step's set of readers, which stands behind the marks, where it is left alone; and what joins it after that.
pub set_stays : {s t : List ℕ} {marks pairs n : ℕ} → compounds_region ≤ marks → TrialOnly compounds_region marks pairs s t
    → Readers s (marks + pairs) pairs n → Joined s t (marks + pairs) pairs n [] n
unfolding all_met
set_stays {s} {t} {marks} {pairs} {n} behind o r = record {
  ok = readers_kept s t (marks + pairs) pairs n o.size (λ k a b. there k a) r;
  list = listed_kept s t (marks + pairs) n (λ k a b. there k a);
}
  where
    there : (k : ℕ) → marks + pairs ≤ k → get_or t k 0 ≡ get_or s k 0
    there k a = o.same k (inr (omega arith)) (inr a)

pub joined_then : {s t u : List ℕ} {list pairs n m : ℕ} {ps : List ℕ} → Joined s t list pairs n [] n → Joined t u list pairs n ps m
    → Joined s u list pairs n ps m
unfolding all_met
joined_then {ps = ps} a b = record { ok = b.ok; list = b.list ∙ ap (λ l. all_met l ps) a.list }

-- A compound's own words are below the trial's region, or behind it and before the marks.
abbrev pub Apart : ℕ → Places → ℕ → Type 0
Apart marks at n = (at.compound n + at.width n ≤ trial_region) ⊎ ((compounds_region ≤ at.compound n) × (at.compound n + at.width n ≤ marks))

module _ (marks pairs : ℕ) (s s' : List ℕ) (o : TrialOnly compounds_region marks pairs s s') (behind : compounds_region ≤ marks) where
  pub low_stays : (k : ℕ) → k < trial_region → get_or s' k 0 ≡ get_or s k 0
  low_stays k h = o.same k (inl h) (inl (omega arith))

  pub high_stays : (k : ℕ) → compounds_region ≤ k → k < marks → get_or s' k 0 ≡ get_or s k 0
  high_stays k a b = o.same k (inr a) (inl b)

  place_stays : (at : Places) (n k : ℕ) → Apart marks at n → at.compound n ≤ k → k < at.compound n + at.width n → get_or s' k 0 ≡ get_or s k 0
  place_stays at n k (inl low) a b = low_stays k (omega arith)
  place_stays at n k (inr high) a b = high_stays k (omega (arith, high.0)) (omega (arith, high.1))

  module _ (places : Places) (p c : ℕ) (apart : (n : ℕ) → n < c → Apart marks places n) where
    pub holds_stays : (t : Term) → Within p c t → Holds s places t → Holds s' places t
    holds_stays t w h =
        holds_alike s s' places (λ n. n < c) (omega (arith, o.size)) (λ n l k. place_stays places n k (apart n l)) t
        (within_every p c t w) h

  module _ (x : Setting) (apart : (n : ℕ) → n < x.compounds → Apart marks x.places n) where
    pub unit_term_stays : (t : Term) → UnitTerm s x t → UnitTerm s' x t
    unit_term_stays t k = record {
      held = holds_stays x.places (length x.values) x.compounds apart t k.of.within k.held;
      of = k.of;
    }

    words_stay : (n : ℕ) → n < x.compounds → (k : ℕ) → x.places.compound n ≤ k → k < x.places.compound n + x.places.width n → get_or s' k 0 ≡ get_or s k 0
    words_stay n l k = place_stays x.places n k (apart n l)

    pub unit_stays : (from : ℕ) → compounds_region ≤ from → from + x.pairs ≤ marks → UnitStands s x from → UnitStands s' x from
    unit_stays from a b u =
        unit_stands_alike s s' x (omega (arith, o.size)) words_stay from (λ k l h. high_stays k (omega arith) (omega arith)) u

    pub ends_stay : (from : ℕ) → marks + pairs ≤ from + ends_after * x.pairs → EndsStand s x from → EndsStand s' x from
    ends_stay from a e =
        ends_stand_alike s s' x (omega (arith, o.size)) words_stay from
        (λ n h. o.same (end_place x from n) (inr (omega arith)) (inr (omega arith))) e

  module _ (x : Setting) (y : Template) (small : y.number < 128) (few : y.compounds ≤ 32) where
    head_apart : (n : ℕ) → n < y.compounds → Apart marks (item x y) n
    head_apart n h = inl (omega arith)

    pub head_term_stays : (lo hi : ℕ) (t : Term) → HeadTerm s x y lo hi t → HeadTerm s' x y lo hi t
    head_term_stays lo hi t k = record {
      held = holds_stays (item x y) y.pairs y.compounds head_apart t k.within k.held;
      within = k.within;
      known = k.known;
      ranged = k.ranged;
      numbered = k.numbered;
      high = k.high;
    }

    pub all_entries_stay : (lo hi : ℕ) (es : List Entry) → AllEntries s x y lo hi es → AllEntries s' x y lo hi es
    unfolding AllEntries
    all_entries_stay lo hi [] k = k
    all_entries_stay lo hi (e ∷ es) k =
        (k.0, k.1, k.2, k.3, head_term_stays k.1 k.2 e.term k.4, all_entries_stay k.2 hi es k.5)

    pub all_given_stay : ((n : ℕ) → n < x.compounds → Apart marks x.places n) → (lo hi : ℕ) (gs : List Gift) → AllGiven s x y lo hi gs
        → AllGiven s' x y lo hi gs
    unfolding AllGiven
    all_given_stay apart lo hi [] k = k
    all_given_stay apart lo hi (to_head n u ∷ gs) k = ((k.0.0, unit_term_stays x apart u k.0.1), all_given_stay apart lo hi gs k.1)
    all_given_stay apart lo hi (to_goal z t ∷ gs) k =
        (k.0, k.1, k.2, k.3, head_term_stays k.1 k.2 t k.4, all_given_stay apart k.2 hi gs k.5)

  -- The job, and a clause of it.
  pub job_stays : JobKept s s'
  job_stays = record {
    size = omega (arith, o.size);
    before = λ k h. low_stays k (omega arith);
    records = λ q i h m a b. low_stays (query_record q + i) (omega arith);
    items = λ k l h. low_stays k h;
  }

  pub clause_stays : (names : List Bytes) (k : ℕ) (c : Clause) → ClauseAt s names k c → ClauseAt s' names k c
  clause_stays names k c a =
      let number : k < 128 = a.number in
      record {
        number = number;
        nth = a.nth;
        held = holds_clause_kept s s' names k (omega (arith, o.size)) c (λ i l m. low_stays (clause_record k + i) (omega arith))
            (λ i l m. low_stays i (omega arith)) a.held;
      }

-- A clause of the goal's procedure.
pub candidate_stays : {marks pairs : ℕ} {s s' : List ℕ} {names : List Bytes} {j : Job} {g : Goal} {k : ℕ} {c : Clause}
    → TrialOnly compounds_region marks pairs s s' → compounds_region ≤ marks → Candidate s names j g k c → Candidate s' names j g k c
candidate_stays {marks} {pairs} {s} {s'} {names} {k = k} {c} o behind m = record {
  at = clause_stays marks pairs s s' o behind names k c m.at;
  before = m.before;
  after = m.after;
  in_procedure = m.in_procedure;
}

-- Where the goal's unit has its compounds.
pub compounds_apart : {s : List ℕ} {text : Bytes} {names : List Bytes} {j : Job} {limit : ℕ} {figures : Room} {at : Places}
    {g : Goal} {others : List Goal} {values marks links goal : ℕ}
    → Trying s text names j limit figures at g others values marks links goal
    → (n : ℕ) → n < (unit_of j limit figures g).compounds → Apart marks at n
compounds_apart t n h = inr (t.compound_behind n h, omega (arith, t.compound_before n h, t.marks_behind))

-- New marks: none, one change after another, none where the marks are the same; those of a trial.
module _ (places : Places) (values : Values) (marks pairs : ℕ) where
  pub new_marks_none : (s : List ℕ) → NewMarks places values marks pairs s s
  new_marks_none s o p h e = inl e

  pub new_marks_then : (s t u : List ℕ) → NewMarks places values marks pairs s t → NewMarks places values marks pairs t u → NewMarks places values marks pairs s u
  new_marks_then s t u a b o p h e = ⊎_elim (a o p h) inr (b o p h e)

  pub new_marks_same : (s t : List ℕ) → ((p : ℕ) → p < pairs → get_or t (marks + p) 0 ≡ get_or s (marks + p) 0) → NewMarks places values marks pairs s t
  new_marks_same s t same o p h e = inl (subst (Tells o) (same p h) e)

  pub new_marks_of : (s t : List ℕ) → NewGrounds places values marks s t → NewMarks places values marks pairs s t
  new_marks_of s t new o p h = new o p

  grounds_below : ((n : ℕ) → n < length values → places.pair n < pairs)
      → (s t : List ℕ) → NewMarks places values marks pairs s t → Grounds places values marks s → Grounds places values marks t
  grounds_below below s t new was o n h e = ⊎_elim (was o n h) (λ g. g) (new o (places.pair n) (below n h) e)

-- All that a trial leans on.
pub trying_stays : {s s' : List ℕ} {text : Bytes} {names : List Bytes} {j : Job} {limit : ℕ} {figures : Room} {at : Places}
    {g : Goal} {others : List Goal} {values marks links goal : ℕ}
    → TrialOnly compounds_region marks (3 * figures.pairs) s s'
    → NewMarks at (unit_of j limit figures g).values marks figures.pairs s s'
    → Trying s text names j limit figures at g others values marks links goal
    → Trying s' text names j limit figures at g others values marks links goal
trying_stays {s} {s'} {names = names} {j} {limit} {figures} {at} {g} {values = values} {marks} o new t =
    let x = setting figures at (unit_of j limit figures g) in
    let behind : compounds_region ≤ marks = omega (arith, t.values_behind, t.marks_behind) in
    let held : HoldsJob s' names j = holds_job_kept s s' names (job_stays marks (3 * figures.pairs) s s' o behind) j t.held in
    record {
      reads = t.reads;
      front = t.front;
      held = held;
      indexed = indexed_kept s s' names j t.held held (λ k h. low_stays marks (3 * figures.pairs) s s' o behind k (omega arith)) 0 t.indexed;
      names_are = t.names_are;
      unit = unit_stays marks (3 * figures.pairs) s s' o behind x (compounds_apart t) values t.values_behind t.marks_behind t.unit;
      goal_held = unit_term_stays marks (3 * figures.pairs) s s' o behind x (compounds_apart t)
          (as_term g.goal) t.goal_held;
      goal_place = t.goal_place;
      apart = t.apart;
      compound_behind = t.compound_behind;
      compound_before = t.compound_before;
      values_behind = t.values_behind;
      marks_behind = t.marks_behind;
      inside = omega (arith, t.inside, o.size);
      enough = t.enough;
      links_are = t.links_are;
      few_links = t.few_links;
      near = t.near;
      ends_behind = t.ends_behind;
      ends = ends_stay marks (3 * figures.pairs) s s' o behind x (compounds_apart t) values t.ends_behind t.ends;
      grounds = grounds_below at (unit_of j limit figures g).values marks figures.pairs t.unit.held.place s s' new t.grounds;
    }

-- The same behind a change of a trial's.
pub trying_tried : {s s' : List ℕ} {text : Bytes} {names : List Bytes} {j : Job} {limit : ℕ} {figures : Room} {at : Places}
    {g : Goal} {others : List Goal} {values marks links goal : ℕ}
    → TrialOnly compounds_region marks figures.pairs s s'
    → NewGrounds at (unit_of j limit figures g).values marks s s'
    → Trying s text names j limit figures at g others values marks links goal
    → Trying s' text names j limit figures at g others values marks links goal
trying_tried {s} {s'} {j = j} {limit} {figures} {at} {g} {marks = marks} o new t =
    trying_stays (trial_only_more (3 * figures.pairs) (omega arith) o)
    (new_marks_of at (unit_of j limit figures g).values marks figures.pairs s s' new) t

-- The goal's arguments, followed, which stand behind what a trial notes.
pub arguments_stay : {s s' : List ℕ} {text : Bytes} {names : List Bytes} {j : Job} {limit : ℕ} {figures : Room} {at : Places}
    {g : Goal} {others : List Goal} {values marks links goal : ℕ}
    → Trying s text names j limit figures at g others values marks links goal
    → TrialOnly woken_part marks (3 * figures.pairs) s s'
    → ArgumentsStand s j limit figures at g links → ArgumentsStand s' j limit figures at g links
unfolding Holds as_term
arguments_stay {s} {s'} {j = j} {limit} {figures} {at} {g} {marks = marks} {links} t o =
    let behind : compounds_region ≤ marks = omega (arith, t.values_behind, t.marks_behind) in
    followed_alike s s' (setting figures at (unit_of j limit figures g)) (omega (arith, o.size))
    (words_stay marks (3 * figures.pairs) s s' (trial_only_wider compounds_region (omega arith) o) behind (setting figures at (unit_of j limit figures g)) (compounds_apart t))
    links 0 g.goal.arguments (λ k l h. o.same k (inr (omega arith)) (inl (omega (arith, t.goal_held.held.0.few))))

-- The marks, where only the trial's region has changed.
pub grounds_stay : {hi : ℕ} {s s' : List ℕ} (places : Places) (values : Values) (marks : ℕ) → hi ≤ marks → Only trial_region hi s s'
    → NewGrounds places values marks s s'
grounds_stay {s = s} {s'} places values marks h o = new_same places values marks s s' (λ p. o.above (marks + p) (omega arith))

pub marks_stay : {hi : ℕ} {s s' : List ℕ} (marks pairs stamp : ℕ) → hi ≤ marks → Only trial_region hi s s'
    → MarksBelow s marks pairs stamp → MarksBelow s' marks pairs stamp
marks_stay marks pairs stamp h o m k a b = rw (o.above k (omega arith)) (m k a b)

-- The entries, where the words from the first to the last stay.
pub entries_stay : (s s' : List ℕ) (item unit : Places) (n : ℕ) (es : List Entry)
    → ((k : ℕ) → gifts_part ≤ k → k < gift_pair (n + length es) → get_or s' k 0 ≡ get_or s k 0)
    → EntriesAt s item unit n es → EntriesAt s' item unit n es
unfolding EntriesAt
entries_stay s s' item unit n [] same k = tt
entries_stay s s' item unit n (e ∷ es) same k = (
  same (gift_pair n) (omega arith) (omega arith) ∙ k.0,
  same (gift_term n) (omega arith) (omega arith) ∙ k.1,
  entries_stay s s' item unit (n + 1) es (λ m a b. same m a (omega arith)) k.2,
)
