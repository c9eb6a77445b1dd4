-- A clause that is idle for the goal fails: its head has another kind of term than the goal, followed, at an argument. So clauses that are all idle leave the
-- choice as it is. What the index asks of a goal whose arguments stand followed.
use Prim.Native.Nat.{ℕ, ◌+◌, ◌-◌, ◌≤◌, ◌<◌}
use mathlib.Core.Path.{◌≡◌, refl, sym, ap, subst, ◌∙◌}
use mathlib.Core.Bool.{Bool, true, false}
use mathlib.Core.Logic.{◌≢◌}
use mathlib.Core.List.{List, [], ◌∷◌, ◌++◌, append_assoc}
use native.Mathlib.Omega.{arith}
use lib.Dec.{eqb}
use lib.ListN.{length, get_or}
use borrow.Author.Tests.{eqb-true, eqb-false}
use Rattle.meaning.specs.Bytes.{Bytes}
use Rattle.meaning.specs.Terms.{writer, reader, Constant, Functor, cell, named, Term, Terms, end, more, Clause, Job, count, as_term}
use Rattle.meaning.specs.State.{Room, Goal}
use Rattle.meaning.specs.Compare.{fails, followed}
use Rattle.meaning.specs.Trial.{procedure, compared, tested, guarded, trial, choice_from}
use Rattle.term.specs.Words.{packed, tag_in, rest_in}
use Rattle.term.specs.Cells.{Places, number_of, term_word, functor_word, KnownName, KnownFunctor, Known}
use Rattle.term.specs.Holds.{Holds}
use Rattle.term.specs.Jobs.{places_from, ClauseAt}
use Rattle.term.specs.Setting.{Setting, UnitTerm}
use Rattle.term.specs.States.{setting}
use Rattle.term.specs.Layout.{followed_part, followed_from, procedure_slot, clause_head}
use Rattle.term.proofs.Held.{head_first}
use Rattle.term.proofs.Numbers.{number_below}
use Rattle.run_chains.specs.Follow.{FollowedAt}
use Rattle.run_compare.specs.Compare.{item}
use Rattle.run_index.specs.Index.{KindReads}
use Rattle.run_index.specs.Left.{Idle, AllOut, Sought}
use Rattle.run_index.proofs.Procedures.{job_numbered}
use Rattle.run_trial.specs.Choosing.{unit_of, Trying, ArgumentsStand, Candidate, template}
use Rattle.run_trial.proofs.Heads.{clause_held, against, compared_is}
use Rattle.run_trial.proofs.OtherKind.{Beside, OtherAt, others_fail}
use Rattle.run_trial.proofs.Results.{from_fails}

-- A term's word has a tag; the functor of a unit's compound can be read, by the compound's word.
term_tagged : (places : Places) (t : Term) → tag_in (term_word places t) ≢ 0
term_tagged places (Term.variable writer n) e = omega arith
term_tagged places (Term.variable reader n) e = omega arith
term_tagged places (Term.constant (Constant.integer i)) e = omega arith
term_tagged places (Term.constant (Constant.name f)) e = omega arith
term_tagged places (Term.constant Constant.empty) e = omega arith
term_tagged places (Term.compound n f ts) e = omega arith

module _ (s : List ℕ) (x : Setting) (few : length x.places.names ≤ 256) where
  functor_below : (f : Functor) (k : ℕ) → k ≤ 6 → KnownFunctor x.places.names f → functor_word x.places f k ≤ 2054
  functor_below cell k h known = omega arith
  functor_below (named f) k h known = omega (arith, number_below f x.places.names known)

  term_reads : (t : Term) → UnitTerm s x t → KindReads s (term_word x.places t)
  unfolding Holds Known
  term_reads (Term.variable writer n) u e = absurd (omega arith)
  term_reads (Term.variable reader n) u e = absurd (omega arith)
  term_reads (Term.constant (Constant.integer i)) u e = absurd (omega arith)
  term_reads (Term.constant (Constant.name f)) u e = absurd (omega arith)
  term_reads (Term.constant Constant.empty) u e = absurd (omega arith)
  term_reads (Term.compound n f ts) u e =
      let CellAt = u.held.0 in
      let place : rest_in (term_word x.places (Term.compound n f ts)) ≡ x.places.compound n = omega arith in
      let first : get_or s (rest_in (term_word x.places (Term.compound n f ts))) 0 ≡ functor_word x.places f (count ts) =
      ap (λ p. get_or s p 0) place ∙ CellAt.functor in
      (omega (arith, place, CellAt.inside), omega (arith, first, functor_below f (count ts) CellAt.few u.of.known.0))

  -- So of arguments that stand followed.
  abbrev Told : ℕ → Type 0
  Told w = KindReads s w × (tag_in w ≢ 0)

  followed_told : (links i : ℕ) (ts : Terms) → FollowedAt s x links i ts → (n : ℕ) → i ≤ n → n < i + count ts → Told (get_or s (followed_from + n) 0)
  unfolding FollowedAt count
  followed_told links i end f n low high = absurd (omega arith)
  followed_told links i (more t ts) f n low high = go (eqb n i) refl (λ l. followed_told links (i + 1) ts f.2 n l (omega arith))
    where
      go : (r : Bool) → eqb n i ≡ r → (i + 1 ≤ n → Told (get_or s (followed_from + n) 0)) → Told (get_or s (followed_from + n) 0)
      go true e behind =
          let here : n ≡ i = eqb-true n i e in
          let u = followed links x.values t in
          rw (here, f.0) (term_reads u f.1, term_tagged x.places u)
      go false e behind = behind (omega (arith, eqb-false n i e))

-- The goal's first word.
pub first_word : (s : List ℕ) (goal : ℕ) → get_or s (goal + 0) 0 ≡ get_or s goal 0
first_word s goal = let same : goal + 0 ≡ goal = omega arith in rw same refl

module _ {s : List ℕ} {text : Bytes} {names : List Bytes} {j : Job} {limit : ℕ} {figures : Room} {at : Places} {g : Goal} {others : List Goal}
    {values marks links goal : ℕ} (t : Trying s text names j limit figures at g others values marks links goal) where
  pub goal_known : KnownName names g.goal.name
  unfolding Known as_term
  goal_known = subst (λ l. KnownName l g.goal.name) t.names_are t.goal_held.of.known.0

  pub goal_few : count g.goal.arguments ≤ 6
  unfolding Holds as_term
  goal_few = t.goal_held.held.0.few

  pub goal_inside : goal < length s
  unfolding Holds as_term
  goal_inside = omega (arith, t.goal_held.held.0.inside, t.goal_place)

  pub goal_functor : get_or s goal 0 ≡ functor_word (places_from names 0) (named g.goal.name) (count g.goal.arguments)
  unfolding Holds as_term
  goal_functor =
      ap (λ p. get_or s p 0) t.goal_place ∙ t.goal_held.held.0.functor
      ∙ ap (λ l. packed (count g.goal.arguments) (number_of g.goal.name l + 1)) t.names_are

  goal_number : number_of g.goal.name names < 256
  goal_number = omega (arith, number_below g.goal.name names goal_known, t.held.few_names)

  pub procedure_inside : procedure_slot (get_or s goal 0) < length s
  procedure_inside = omega (arith, goal_functor, goal_few, goal_number, t.held.inside)

  goal_tag : tag_in (get_or s goal 0) ≡ count g.goal.arguments
  goal_tag = omega (arith, goal_functor, goal_few)

  -- An idle clause fails.
  module _ (stand : ArgumentsStand s j limit figures at g links) where
    module _ {k : ℕ} {c : Clause} (m : Candidate s names j g k c) (idle : Idle s (get_or s goal 0) k) where
      idle_place : (item (setting figures at (unit_of j limit figures g)) (template k c)).compound c.head.number + 1 + (idle.argument - 1)
          ≡ clause_head k + idle.argument
      idle_place = omega (arith, head_first at.names c (clause_held t m).held.laid, idle.from_one)

      goal_place : followed_from + (idle.argument - 1) ≡ followed_part + idle.argument
      goal_place = omega (arith, idle.from_one)

      beside : Beside s (item (setting figures at (unit_of j limit figures g)) (template k c)) (setting figures at (unit_of j limit figures g)) refl links
          c.head.number 0 c.head.arguments g.goal.arguments
      beside =
          let terms = (against t m stand).head.terms in
          record { held = terms.held; known = terms.known; ranged = terms.ranged; stand = stand; counts = (against t m stand).counts }

      other_at : OtherAt s (item (setting figures at (unit_of j limit figures g)) (template k c)) (setting figures at (unit_of j limit figures g)) refl links
          c.head.number (idle.argument - 1)
      other_at = record {
        closed = rw goal_place idle.goal_closed;
        no_writer = rw idle_place idle.no_writer;
        other = rw (idle_place, goal_place) idle.other;
      }

      idle_compared : compared c (unit_of j limit figures g) g.goal ≡ fails
      idle_compared =
          let x = setting figures at (unit_of j limit figures g) in
          compared_is t m
          ∙ others_fail s (item x (template k c)) x refl links c.head.number (length x.values) x.compounds 0 c.head.arguments g.goal.arguments
          beside (idle.argument - 1) (omega arith) (omega (arith, idle.from_one, idle.inside, goal_tag, beside.counts)) other_at

      pub idle_fails : (readers : List ℕ) → trial readers c (unit_of j limit figures g) g.goal ≡ fails
      unfolding trial tested guarded
      idle_fails readers = rw idle_compared refl

    -- Clauses that are all idle are skipped.
    pub idle_skipped : (readers : List ℕ) (before cs after : List Clause) → procedure j.clauses g.goal ≡ before ++ (cs ++ after)
        → AllOut (Idle s (get_or s goal 0)) (ClauseAt s names) cs
        → choice_from readers (cs ++ after) (unit_of j limit figures g) g.goal ≡ choice_from readers after (unit_of j limit figures g) g.goal
    unfolding AllOut
    idle_skipped readers before [] after e o = refl
    idle_skipped readers before (c ∷ cs) after e o =
        let m : Candidate s names j g o.0.0 c = record { at = o.0.1; before = before; after = cs ++ after; in_procedure = e } in
        from_fails readers c (cs ++ after) (unit_of j limit figures g) g.goal (idle_fails m o.0.2 readers)
        ∙ idle_skipped readers (before ++ (c ∷ [])) cs after (e ∙ sym (append_assoc before (c ∷ []) (cs ++ after))) o.1

    -- What the index asks, by the goal's first word.
    goal_told : (i : ℕ) → 1 ≤ i → i ≤ count g.goal.arguments
        → KindReads s (get_or s (followed_part + i) 0) × (tag_in (get_or s (followed_part + i) 0) ≢ 0)
    goal_told i low high =
        let at_i : followed_from + (i - 1) ≡ followed_part + i = omega arith in
        rw at_i at (followed_told s (setting figures at (unit_of j limit figures g)) (omega (arith, ap length t.names_are, t.held.few_names)) links 0
        g.goal.arguments stand (i - 1) (omega arith) (omega arith))

    pub goal_sought : {functor first : ℕ} → functor ≡ get_or s (goal + 0) 0 → first ≡ get_or s (procedure_slot (get_or s goal 0)) 0
        → Sought s names j g.goal functor first
    goal_sought {functor} d e =
        let own : functor ≡ get_or s goal 0 = d ∙ first_word s goal in
        let tag : tag_in functor ≡ count g.goal.arguments = ap tag_in own ∙ goal_tag in
        record {
          held = t.held;
          indexed = t.indexed;
          known = goal_known;
          few = goal_few;
          functor_is = own ∙ goal_functor;
          first_is = e ∙ sym (ap (λ f. get_or s (procedure_slot f) 0) own);
          reads = λ i low high. (goal_told i low (omega (arith, tag))).0;
          tagged = λ i low high. (goal_told i low (omega (arith, tag))).1;
          numbered = job_numbered text j t.reads;
        }
