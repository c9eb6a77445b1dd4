-- A clause of the goal's procedure meets what comparing asks: its head's terms are those of an accepted text, numbered behind the head, and it has as
-- many arguments as the goal. Comparing over more links than the unit has pairs tells the same.
use Prim.Native.Nat.{ℕ, ◌≤◌}
use mathlib.Core.Path.{◌≡◌, refl, sym, subst, ap, fun_ext, ◌∙◌}
use mathlib.Core.Bool.{Bool, true, ◌&&◌}
use mathlib.Core.Logic.{inr}
use mathlib.Core.List.{List, [], ◌∷◌}
use native.Mathlib.Omega.{arith}
use lib.Dec.{eqb}
use lib.ListN.{length}
use borrow.Author.Tests.{eqb-true}
use Rattle.meaning.specs.Bytes.{Bytes, same}
use Rattle.meaning.specs.Terms.{plus, minus, Constant, Term, Terms, end, more, named, Guard, Clause, Job, count, all_renamed, as_term}
use Rattle.meaning.specs.State.{Room, Goal}
use Rattle.meaning.specs.Compare.{followed, places}
use Rattle.meaning.specs.Trial.{procedure, compared}
use Rattle.laws.proofs.Lists.Among.{In, here, in_append_right}
use Rattle.laws.proofs.Lists.EachOf.{Each, each_in, each_all, each_those, those_member}
use Rattle.laws.proofs.Lists.Tests.{and_right}
use Rattle.laws.proofs.Reading.{JobOk, accepted_keeps_the_occurrence_rules, accepted_keeps_the_figures, names_of}
use Rattle.laws.proofs.Reading.Figures.{Bounds, IntegerFits, ConstantFits, TermFits, TermsFit, GuardFits, ClauseFits}
use Rattle.laws.proofs.Circle.{run_followed_within}
use Rattle.term.specs.Cells.{Places, Known, Numbered}
use Rattle.term.specs.Holds.{Holds}
use Rattle.term.specs.Jobs.{GoalsNumbered, GoalsKnown, ClauseAt}
use Rattle.term.specs.Setting.{Within, AllWithin, Ranged, AllRanged, RangedConstant}
use Rattle.term.specs.States.{setting}
use Rattle.term.proofs.Held.{head_first}
use Rattle.term.proofs.Jobs.{goals_numbered_order}
use Rattle.term.proofs.KeptGuards.{guards_numbered_order}
use Rattle.term.specs.Layout.{clause_head}
use Rattle.run_compare.specs.Compare.{HeadAgainst, TrialStands, places_outcome}
use Rattle.run_guards.specs.Guarding.{GuardsFit}
use Rattle.run_trial.specs.Choosing.{unit_of, Trying, ArgumentsStand, Candidate, template}
use Rattle.run_compare.proofs.Given.{compared_outcome}

-- What fits is within the clause's pairs and compounds, and its integers are in range.
constant_ranged : (b : Bounds) (k : Constant) → ConstantFits b k → RangedConstant k
unfolding ConstantFits IntegerFits
constant_ranged b (Constant.integer (plus n)) f = f
constant_ranged b (Constant.integer (minus n)) f = f
constant_ranged b (Constant.name g) f = tt
constant_ranged b Constant.empty f = tt

module _ (b : Bounds) where
  mutual
    unfolding TermFits TermsFit Within AllWithin

    fits_within : (t : Term) → TermFits b t → Within b.pairs b.compounds t
    fits_within (Term.variable h n) f = f
    fits_within (Term.constant k) f = tt
    fits_within (Term.compound n g ts) f = (f.0, all_fit_within ts f.2)

    pub all_fit_within : (ts : Terms) → TermsFit b ts → AllWithin b.pairs b.compounds ts
    all_fit_within end f = tt
    all_fit_within (more t ts) f = (fits_within t f.0, all_fit_within ts f.1)

  mutual
    unfolding TermFits TermsFit Ranged AllRanged

    fits_ranged : (t : Term) → TermFits b t → Ranged t
    fits_ranged (Term.variable h n) f = tt
    fits_ranged (Term.constant k) f = constant_ranged b k f
    fits_ranged (Term.compound n g ts) f = all_fit_ranged ts f.2

    pub all_fit_ranged : (ts : Terms) → TermsFit b ts → AllRanged ts
    all_fit_ranged end f = tt
    all_fit_ranged (more t ts) f = (fits_ranged t f.0, all_fit_ranged ts f.1)

  pub all_guards_fit : (gs : List Guard) → Each (GuardFits b) gs → GuardsFit b.pairs b.compounds gs
  unfolding GuardsFit
  all_guards_fit [] f = tt
  all_guards_fit (g ∷ gs) f = (
    (all_fit_within g.arguments f.0.arguments, all_fit_ranged g.arguments f.0.arguments, f.0.in_table),
    all_guards_fit gs f.1,
  )

-- A clause of a procedure is one of the job's, and has as many arguments as the goal.
module _ {s : List ℕ} {names : List Bytes} {j : Job} {g : Goal} {k : ℕ} {c : Clause} (m : Candidate s names j g k c) where
  in_its_procedure : In c (procedure j.clauses g.goal)
  in_its_procedure = subst (λ l. In c l) (sym m.in_procedure) (in_append_right m.before (here refl))

  pub one_of_the_job : In c j.clauses
  unfolding procedure
  one_of_the_job = those_member _ j.clauses in_its_procedure

  pub as_many_arguments : count c.head.arguments ≡ count g.goal.arguments
  unfolding procedure
  as_many_arguments =
      let test : Clause → Bool = λ d. same d.head.name g.goal.name && eqb (count d.head.arguments) (count g.goal.arguments) in
      let passes : test c ≡ true = each_in (λ d. test d ≡ true)
      (each_those (λ d. test d ≡ true) test j.clauses (each_all (λ d. test d ≡ true → test d ≡ true) (λ d h. h) j.clauses))
      in_its_procedure in
      eqb-true (count c.head.arguments) (count g.goal.arguments)
      (and_right (same c.head.name g.goal.name) (eqb (count c.head.arguments) (count g.goal.arguments)) passes)

module _ {s : List ℕ} {text : Bytes} {names : List Bytes} {j : Job} {limit : ℕ} {figures : Room} {at : Places} {g : Goal} {others : List Goal}
    {values marks links goal k : ℕ} {c : Clause}
    (t : Trying s text names j limit figures at g others values marks links goal) (m : Candidate s names j g k c) where
  pub rules_kept : JobOk j
  rules_kept = accepted_keeps_the_occurrence_rules text j t.reads

  fits : ClauseFits (names_of text) c
  fits = each_in (ClauseFits (names_of text)) (accepted_keeps_the_figures text j t.reads).clauses (one_of_the_job m)

  pub clause_held : ClauseAt s at.names k c
  clause_held = subst (λ l. ClauseAt s l k c) (sym t.names_are) m.at

  stands : TrialStands s (setting figures at (unit_of j limit figures g)) (template k c) values links
  stands = record {
    large = omega (arith, t.held.inside);
    unit = record { stands = t.unit; links_are = t.links_are; ends = t.ends };
    behind = omega (arith, t.values_behind);
    outside = λ n h. inr (omega (arith, t.compound_behind n h));
    number = m.at.number;
    pairs = m.at.held.laid.few_pairs;
    compounds = m.at.held.laid.few_compounds;
  }

  -- How far the head's compounds are numbered; those of the body behind the guards', which are behind them.
  abbrev pub head_end : ℕ
  head_end = m.at.held.laid.behind_head

  abbrev pub body_start : ℕ
  body_start = m.at.held.laid.behind_guards

  pub body_behind : head_end ≤ body_start
  body_behind = guards_numbered_order head_end body_start c.guards m.at.held.laid.guards_numbered

  pub body_numbered : GoalsNumbered body_start c.compounds c.body
  body_numbered = m.at.held.laid.body_numbered

  -- The guards' arguments are terms of the clause, and their rows are the table's.
  pub guards_fit : GuardsFit c.pairs c.compounds c.guards
  guards_fit = all_guards_fit (record { pairs = c.pairs; compounds = c.compounds; names = names_of text }) c.guards fits.guards

  pub against : ArgumentsStand s j limit figures at g links
      → HeadAgainst s (setting figures at (unit_of j limit figures g)) (template k c) values links
      c.head.number (named c.head.name) c.head.arguments 1 head_end g.goal.arguments (clause_head k)
  unfolding GoalsKnown Numbered Known Holds as_term
  against stand =
      let laid = clause_held.held.laid in
      let first : c.head.number ≡ 0 = head_first at.names c laid in
      let end : head_end ≤ c.compounds = omega (arith, body_behind, goals_numbered_order body_start c.compounds c.body body_numbered) in
      let few : c.compounds ≤ 32 = laid.few_compounds in
      let bounds : Bounds = record { pairs = c.pairs; compounds = c.compounds; names = names_of text } in
      let size : count c.head.arguments ≤ 6 = m.at.held.laid.head_numbered.1 in
      record {
        large = omega (arith, t.held.inside);
        head = record {
          trial = stands;
          cell = clause_held.held.head.0;
          terms = record {
            held = clause_held.held.head.1;
            within = all_fit_within bounds c.head.arguments fits.head.arguments;
            known = laid.known.0.1;
            ranged = all_fit_ranged bounds c.head.arguments fits.head.arguments;
            numbered = m.at.held.laid.head_numbered.2;
            high = end;
            rising = omega arith;
          };
          place = omega arith;
          room = omega arith;
        };
        goal = stand;
        counts = as_many_arguments m;
      }

  -- "Compares the arguments, reading the values as they were before the step", over so many links or more.
  pub compared_is : compared c (unit_of j limit figures g) g.goal
      ≡ places_outcome (setting figures at (unit_of j limit figures g)) links c.head.arguments g.goal.arguments
  compared_is =
      let x = setting figures at (unit_of j limit figures g) in
      let same_look : followed links x.values ≡ followed (length x.values) x.values
      = fun_ext (λ u. run_followed_within j limit figures g.query links t.enough u) in
      compared_outcome c (unit_of j limit figures g) g.goal x refl refl
      ∙ ap (λ look. places look
      (all_renamed (length x.values) x.compounds c.head.arguments) g.goal.arguments) (sym same_look)
