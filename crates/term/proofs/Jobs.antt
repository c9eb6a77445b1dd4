-- What holds a job reads only its own words: a change of any others keeps it. So does a change at or above the trial's region, and of the
-- words 3 and 4 of a query's record.
use Prim.Native.Nat.{ℕ, zero, suc, ◌+◌, ◌≤◌, ◌<◌}
use mathlib.Core.Path.{◌≡◌, refl, ◌∙◌}
use mathlib.Core.List.{List, [], ◌∷◌}
use mathlib.Core.Logic.{◌≢◌}
use native.Mathlib.Omega.{arith}
use lib.ListN.{length, get_or, set, length-set}
use lib.Seq.{get_or-set_other}
use Rattle.meaning.specs.Bytes.{Bytes}
use Rattle.meaning.specs.Terms.{Named, Clause, Query, Job, as_term, count}
use Rattle.meaning.specs.Trial.{procedure}
use Rattle.term.specs.Cells.{Places, KnownName, number_of}
use Rattle.term.specs.Frames.{Only}
use Rattle.term.specs.Jobs.{places_from, GoalsNumbered, HoldsGoals, HoldsClause, HoldsQuery, EachFrom, Linked, procedure_place, ClauseAt, HoldsJob, JobKept, KeptButIndex}
use Rattle.term.proofs.Cells.{numbered_order}
use Rattle.term.proofs.Frames.{only_set}
use Rattle.term.proofs.Holds.{holds_kept}
use Rattle.term.proofs.KeptGuards.{guards_numbered_order, holds_guards_kept}
use Rattle.term.proofs.Numbers.{number_below}
use Rattle.term.specs.Layout.{trial_region, item_start, item_end, item_place, clause_record, clause_base, query_record, query_base, query_goals_from, clause_goals_from, clause_tests_from, index_from}

-- Each of a list, one by one; a condition that follows for those below a bound.
pub each_at : {A : Type 0} (P : ℕ → A → Type 0) (k i : ℕ) (l : List A) (d : A) → i < length l → EachFrom P k l → P (k + i) (get_or l i d)
unfolding EachFrom
each_at P k i [] d h e = absurd (omega arith)
each_at P k zero (a ∷ l) d h e = let same : k + 0 ≡ k = omega arith in rw same e.0
each_at P k (suc i) (a ∷ l) d h e =
    let same : k + suc i ≡ (k + 1) + i = omega arith in
    rw same (each_at P (k + 1) i l d (omega arith) e.1)

pub each_map : {A : Type 0} (P Q : ℕ → A → Type 0) (k : ℕ) (l : List A) → ((i : ℕ) (a : A) → k ≤ i → i < k + length l → P i a → Q i a)
    → EachFrom P k l → EachFrom Q k l
unfolding EachFrom
each_map P Q k [] h e = tt
each_map P Q k (a ∷ l) h e =
    (h k a (omega arith) (omega arith) e.0, each_map P Q (k + 1) l (λ i b l' m. h i b (omega arith) (omega arith)) e.1)

-- Clauses stay linked where the links of their records stay.
pub linked_map : (s s' : List ℕ) (P Q : ℕ → Clause → Type 0) (w : ℕ) (cs : List Clause)
    → ((k : ℕ) (c : Clause) → P k c → Q k c × (get_or s' (clause_record k) 0 ≡ get_or s (clause_record k) 0))
    → Linked s P w cs → Linked s' Q w cs
unfolding Linked
linked_map s s' P Q w [] h l = l
linked_map s s' P Q w (c ∷ cs) h l =
    let step = h l.0 c l.2 in
    (l.0, l.1, step.0, rw step.1 (linked_map s s' P Q (get_or s (clause_record l.0) 0) cs h l.3))

-- The numbers of goals one behind the other.
pub goals_numbered_order : (lo hi : ℕ) (gs : List Named) → GoalsNumbered lo hi gs → lo ≤ hi
unfolding GoalsNumbered
goals_numbered_order lo hi [] k = k
goals_numbered_order lo hi (g ∷ gs) k =
    omega (arith, numbered_order lo k.0 (as_term g) k.1, goals_numbered_order k.0 hi gs k.2)

-- Goals stay held where their words and the words of their compounds stay.
module _ (places : Places) (base : ℕ) (at : (n : ℕ) → places.compound n ≡ item_place base n) (wide : (n : ℕ) → places.width n ≡ 8) (s s' : List ℕ) (size : length s ≤ length s') where
  pub holds_goals_kept : (place i lo hi : ℕ) (gs : List Named)
      → ((k : ℕ) → i ≤ k → k < i + length gs → get_or s' (place + k) 0 ≡ get_or s (place + k) 0)
      → ((k : ℕ) → item_place base lo ≤ k → k < item_place base hi → get_or s' k 0 ≡ get_or s k 0)
      → GoalsNumbered lo hi gs → HoldsGoals s places place i gs → HoldsGoals s' places place i gs
  unfolding GoalsNumbered HoldsGoals
  holds_goals_kept place i lo hi [] own cells k h = tt
  holds_goals_kept place i lo hi (g ∷ gs) own cells k h =
      let mid = k.0 in
      let low : lo ≤ mid = numbered_order lo mid (as_term g) k.1 in
      let high : mid ≤ hi = goals_numbered_order mid hi gs k.2 in (
        own i (omega arith) (omega arith) ∙ h.0,
        holds_kept places base at wide s s' size lo mid (as_term g) (λ j l m. cells j l (omega arith)) k.1 h.1,
        holds_goals_kept place (i + 1) mid hi gs (λ j l m. own j (omega arith) (omega arith)) (λ j l m. cells j (omega arith) m) k.2 h.2,
      )

-- A clause stays held where the words of its record behind the first and before the index stay, and those of its compounds.
module _ (s s' : List ℕ) (names : List Bytes) (k : ℕ) (size : length s ≤ length s') where
  pub holds_clause_kept : (c : Clause) → ((i : ℕ) → 1 ≤ i → i < index_from → get_or s' (clause_record k + i) 0 ≡ get_or s (clause_record k + i) 0)
      → ((i : ℕ) → item_start (clause_base k) ≤ i → i < item_end (clause_base k) → get_or s' i 0 ≡ get_or s i 0)
      → HoldsClause s names k c → HoldsClause s' names k c
  unfolding GoalsNumbered
  holds_clause_kept c own cells h =
      let places = places_from names (clause_base k) in
      let mid = h.laid.behind_head in
      let guarded = h.laid.behind_guards in
      let hi = c.compounds in
      let low : mid ≤ guarded = guards_numbered_order mid guarded c.guards h.laid.guards_numbered in
      let high : guarded ≤ hi = goals_numbered_order guarded hi c.body h.laid.body_numbered in
      let few : hi ≤ 32 = h.laid.few_compounds in
      let goals : length c.body ≤ 8 = h.laid.few_goals in
      let guards : length c.guards ≤ 8 = h.laid.few_guards in
      record {
        laid = h.laid;
        pairs = own 1 (omega arith) (omega arith) ∙ h.pairs;
        compounds = own 2 (omega arith) (omega arith) ∙ h.compounds;
        goals = own 3 (omega arith) (omega arith) ∙ h.goals;
        head = holds_kept places (clause_base k) (λ n. refl) (λ n. refl) s s' size 0 mid (as_term c.head)
            (λ j l m. cells j (omega arith) (omega arith)) h.laid.head_numbered h.head;
        body = holds_goals_kept places (clause_base k) (λ n. refl) (λ n. refl) s s' size (clause_goals_from k) 0 guarded hi c.body
            (λ j l m. let e : clause_goals_from k + j ≡ clause_record k + (4 + j) = omega arith in rw e (own (4 + j) (omega arith) (omega arith)))
            (λ j l m. cells j (omega arith) (omega arith)) h.laid.body_numbered h.body;
        guards = own 12 (omega arith) (omega arith) ∙ h.guards;
        tests = holds_guards_kept places (clause_base k) (λ n. refl) (λ n. refl) s s' size (clause_tests_from k) 0 mid guarded names c.guards
            (λ j l m. let e : clause_tests_from k + j ≡ clause_record k + (16 + j) = omega arith in rw e (own (16 + j) (omega arith) (omega arith)))
            (λ j l m. cells j (omega arith) (omega arith)) h.laid.guards_numbered h.laid.guards_known h.tests;
      }

  -- A query, where the words of its record but 3 and 4 stay.
  pub holds_query_kept : (q : Query)
      → ((i : ℕ) → i < 16 → i ≢ 3 → i ≢ 4 → get_or s' (query_record k + i) 0 ≡ get_or s (query_record k + i) 0)
      → ((i : ℕ) → item_start (query_base k) ≤ i → i < item_end (query_base k) → get_or s' i 0 ≡ get_or s i 0)
      → HoldsQuery s names k q → HoldsQuery s' names k q
  holds_query_kept q own cells h =
      let hi = q.compounds in
      let few : hi ≤ 32 = h.laid.few_compounds in
      let goals : length q.goals ≤ 8 = h.laid.few_goals in
      let first : query_record k + 0 ≡ query_record k = omega arith in
      record {
        laid = h.laid;
        goals = (rw first at (own 0 (omega arith) (omega arith) (omega arith))) ∙ h.goals;
        pairs = own 1 (omega arith) (omega arith) (omega arith) ∙ h.pairs;
        compounds = own 2 (omega arith) (omega arith) (omega arith) ∙ h.compounds;
        words = holds_goals_kept (places_from names (query_base k)) (query_base k) (λ n. refl) (λ n. refl) s s' size (query_goals_from k) 0 0 hi q.goals
            (λ j l m. let e : query_goals_from k + j ≡ query_record k + (8 + j) = omega arith in
            rw e (own (8 + j) (omega arith) (omega arith) (omega arith)))
            (λ j l m. cells j (omega arith) (omega arith)) h.laid.numbered h.words;
      }

-- The whole job.
module _ (s s' : List ℕ) (names : List Bytes) (kept : KeptButIndex s s') where
  clause_stays : (k : ℕ) (c : Clause) → k < 128 → HoldsClause s names k c → HoldsClause s' names k c
  clause_stays k c few h =
      holds_clause_kept s s' names k kept.size c (λ i l m. kept.clauses k i few m)
      (λ i l m. kept.items i (omega arith) (omega arith)) h

  query_stays : (k : ℕ) (q : Query) → k < 8 → HoldsQuery s names k q → HoldsQuery s' names k q
  query_stays k q few h =
      holds_query_kept s s' names k kept.size q (λ i m a b. kept.records k i few (omega arith) a b)
      (λ i l m. kept.items i (omega arith) (omega arith)) h

  link_stays : (k : ℕ) → k < 128 → get_or s' (clause_record k) 0 ≡ get_or s (clause_record k) 0
  link_stays k few =
      let first : clause_record k + 0 ≡ clause_record k = omega arith in
      rw first at (kept.clauses k 0 few (omega arith))

  procedure_stays : (job : Job) → HoldsJob s names job → (goal : Named) → KnownName names goal.name → count goal.arguments ≤ 6
      → Linked s' (ClauseAt s' names) (get_or s' (procedure_place names goal) 0) (procedure job.clauses goal)
  procedure_stays job h goal known few =
      let number : number_of goal.name names < length names = number_below goal.name names known in
      rw (kept.before (procedure_place names goal) (omega (arith, h.few_names)))
      (linked_map s s' (ClauseAt s names) (ClauseAt s' names) (get_or s (procedure_place names goal) 0) (procedure job.clauses goal)
      (λ k c a. (record { number = a.number; nth = a.nth; held = clause_stays k c a.number a.held }, link_stays k a.number))
      (h.procedures goal known few))

  pub holds_job_but_index : (job : Job) → HoldsJob s names job → HoldsJob s' names job
  holds_job_but_index job h =
      let clauses : length job.clauses ≤ 128 = h.few_clauses in
      let queries : length job.queries ≤ 8 = h.few_queries in
      record {
        inside = omega (arith, h.inside, kept.size);
        few_names = h.few_names;
        distinct = h.distinct;
        few_clauses = h.few_clauses;
        few_queries = h.few_queries;
        clauses = each_map (HoldsClause s names) (HoldsClause s' names) 0 job.clauses (λ k c l m. clause_stays k c (omega arith)) h.clauses;
        procedures = λ goal known few. procedure_stays job h goal known few;
        queries = each_map (HoldsQuery s names) (HoldsQuery s' names) 0 job.queries (λ k q l m. query_stays k q (omega arith)) h.queries;
      }

pub but_index : (s s' : List ℕ) → JobKept s s' → KeptButIndex s s'
but_index s s' kept = record {
  size = kept.size;
  before = λ k h. kept.before k (omega arith);
  clauses = λ c i h m. kept.before (clause_record c + i) (omega arith);
  records = kept.records;
  items = kept.items;
}

pub holds_job_kept : (s s' : List ℕ) (names : List Bytes) → JobKept s s' → (job : Job) → HoldsJob s names job → HoldsJob s' names job
holds_job_kept s s' names kept = holds_job_but_index s s' names (but_index s s' kept)

-- Which changes keep it: none; one after another; those at or above the trial's region; of the words 3 and 4 of a query's record.
pub job_kept_same : (s : List ℕ) → JobKept s s
job_kept_same s = record { size = omega arith; before = λ k h. refl; records = λ q i h m a b. refl; items = λ k l h. refl }

pub job_kept_then : (s t u : List ℕ) → JobKept s t → JobKept t u → JobKept s u
job_kept_then s t u a b = record {
  size = omega (arith, a.size, b.size);
  before = λ k h. b.before k h ∙ a.before k h;
  records = λ q i h m x y. b.records q i h m x y ∙ a.records q i h m x y;
  items = λ k l h. b.items k l h ∙ a.items k l h;
}

pub job_kept_above : (lo hi : ℕ) (s s' : List ℕ) → trial_region ≤ lo → Only lo hi s s' → JobKept s s'
job_kept_above lo hi s s' above only = record {
  size = omega (arith, only.size);
  before = λ k h. only.below k (omega arith);
  records = λ q i h m x y. only.below (query_record q + i) (omega arith);
  items = λ k l h. only.below k (omega arith);
}

pub job_kept_set : (s : List ℕ) (k v : ℕ) → trial_region ≤ k → JobKept s (set s k v)
job_kept_set s k v above = job_kept_above k (k + 1) s (set s k v) above (only_set k (k + 1) s k v (omega arith) (omega arith))

module _ (s : List ℕ) (p w v : ℕ) (query : p < 8) (low : 3 ≤ w) (high : w ≤ 4) where
  pub job_kept_own_words : JobKept s (set s (query_record p + w) v)
  job_kept_own_words = record {
    size = omega (arith, length-set s (query_record p + w) v);
    before = λ k h. get_or-set_other s (query_record p + w) k v 0 (λ e. omega arith);
    records = λ q i h m x y. get_or-set_other s (query_record p + w) (query_record q + i) v 0 (λ e. elsewhere q i m x y e);
    items = λ k l h. get_or-set_other s (query_record p + w) k v 0 (λ e. omega arith);
  }
    where
      elsewhere : (q i : ℕ) → i < 64 → i ≢ 3 → i ≢ 4 → query_record q + i ≢ query_record p + w
      elsewhere q i m x y e = omega arith
