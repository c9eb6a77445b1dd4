-- The guards of a clause one after the other: what is known when so many have succeeded, at the next one, behind it, and at the end.
use Prim.Native.Nat.{ℕ, zero, suc, ◌+◌, ◌*◌, ◌≤◌, ◌<◌}
use mathlib.Core.Path.{◌≡◌, refl, ap, ◌∙◌}
use mathlib.Core.List.{List, [], ◌∷◌, map}
use native.Mathlib.Omega.{arith}
use lib.ListN.{length, get_or}
use Rattle.meaning.specs.Terms.{Terms, end, more, Test, an_integer, a_constant, a_compound, a_ground, known, equal, otherwise, Guard, Clause}
use Rattle.meaning.specs.Compare.{Assignment, Result, succeeds}
use Rattle.meaning.specs.Guards.{first_of, answer, in_order}
use Rattle.term.specs.Cells.{AllNumbered, AllKnown}
use Rattle.term.specs.Frames.{Only}
use Rattle.term.specs.Guards.{test_number, guard_word, TestNumbered, GuardsNumbered, GuardsKnown, HoldsGuards}
use Rattle.term.specs.Holds.{HoldsFrom}
use Rattle.term.specs.Layout.{clause_base, clause_record, clause_guards_word, clause_tests_from}
use Rattle.term.specs.Setting.{Setting, AllWithin, AllRanged}
use Rattle.term.specs.Words.{tag_in, rest_in}
use Rattle.term.proofs.Cells.{numbered_order, all_numbered_order}
use Rattle.term.proofs.Frames.{only_same, only_then}
use Rattle.term.proofs.Jobs.{goals_numbered_order}
use Rattle.term.proofs.KeptGuards.{test_own, guards_numbered_order, holds_guards_kept}
use Rattle.run_compare.specs.Compare.{Template, item}
use Rattle.run_asked.specs.Asking.{Asking, EachTemplate, out, StampsFrom, Joined}
use Rattle.run_ground.specs.Seeking.{GroundsAdded}
use Rattle.run_guards.specs.Guarding.{GuardsFit, Guarded, Earlier, GuardsAre}
use Rattle.run_guards.specs.Single.{GuardAt, GuardIs}
use Rattle.run_asked.specs.declared.asking.Hindered.{Hindered}
use Rattle.run_asked.specs.declared.asking.Hindered.TheVariants.{Waits, Fails}
use Rattle.run_guards.proofs.Kept.{grounds_same, grounds_then, joined_none, joined_then, asking_kept}
use Rattle.run_guards.proofs.Rows.{test_small, table_counts}
use Rattle.std.specs.Prelude.{Result as Outcome, Ok, Err}

-- Some readers that the earlier clauses may have given.
pub some_earlier : (met : ℕ) → (earlier : List ℕ) × Earlier earlier met
some_earlier zero = ([], record { none_met = λ e. refl; none = λ e. refl })
some_earlier (suc met) = (0 ∷ [], record { none_met = λ e. absurd (omega arith); none = λ e. let z : ◌≡◌ {A = ℕ} 0 1 = cc in absurd (omega arith) })

-- The arguments of a guard are terms of the clause.
module _ (s : List ℕ) (x : Setting) (y : Template) where
  each_template : (n i lo hi : ℕ) (ts : Terms) → hi ≤ y.compounds → HoldsFrom s (item x y) n i ts → AllWithin y.pairs y.compounds ts
      → AllKnown x.places.names ts → AllRanged ts → AllNumbered lo hi ts → EachTemplate s x y ts
  unfolding HoldsFrom AllWithin AllKnown AllRanged AllNumbered EachTemplate
  each_template n i lo hi end high h w k r b = tt
  each_template n i lo hi (more t ts) high h w k r b = (
    (
      lo,
      b.0,
      record {
        held = h.1;
        within = w.0;
        known = k.0;
        ranged = r.0;
        numbered = b.1;
        high = omega (arith, all_numbered_order b.0 hi ts b.2);
      },
    ),
    each_template n (i + 1) b.0 hi ts high h.2 w.1 k.1 r.1 b.2,
  )

  test_template : (test : Test) (lo hi n : ℕ) (ts : Terms) → hi ≤ y.compounds → HoldsFrom s (item x y) n 0 ts → AllWithin y.pairs y.compounds ts
      → AllKnown x.places.names ts → AllRanged ts → TestNumbered test lo hi n ts → EachTemplate s x y ts
  unfolding TestNumbered HoldsFrom AllWithin AllKnown AllRanged EachTemplate
  test_template an_integer lo hi n ts high h w k r b = each_template n 0 (lo + 1) hi ts high h w k r b.1
  test_template a_constant lo hi n ts high h w k r b = each_template n 0 (lo + 1) hi ts high h w k r b.1
  test_template a_compound lo hi n ts high h w k r b = each_template n 0 (lo + 1) hi ts high h w k r b.1
  test_template a_ground lo hi n ts high h w k r b = each_template n 0 (lo + 1) hi ts high h w k r b.1
  test_template known lo hi n ts high h w k r b = each_template n 0 (lo + 1) hi ts high h w k r b.1
  test_template equal lo hi n end high h w k r b = absurd b
  test_template equal lo hi n (more t end) high h w k r b = absurd b
  test_template equal lo hi n (more t (more u end)) high h w k r b = (
    (
      lo,
      n,
      record {
        held = h.1;
        within = w.0;
        known = k.0;
        ranged = r.0;
        numbered = b.0;
        high = omega (arith, numbered_order (n + 1) hi u b.1);
      },
    ),
    (
      (n + 1, hi, record { held = h.2.1; within = w.1.0; known = k.1.0; ranged = r.1.0; numbered = b.1; high = high }),
      tt,
    ),
  )
  test_template equal lo hi n (more t (more u (more v ts))) high h w k r b = absurd b
  test_template otherwise lo hi n end high h w k r b = tt
  test_template otherwise lo hi n (more t ts) high h w k r b = absurd b

-- The first i of n guards have succeeded; these are left.
pub record Going (s₀ s : List ℕ) (x : Setting) (y : Template) (c : Clause) (given : List Assignment) (earlier : List ℕ)
    (values marks links met stamp n i : ℕ) : Type 0 where
  pub only : Only marks (marks + 3 * links) s₀ s
  pub stamps : StampsFrom s marks x.pairs (stamp + i)
  pub grounds : GroundsAdded x.places x.values marks x.pairs s₀ s
  pub joined : Joined s₀ s (marks + links) links met [] met
  pub asking : Asking s x y given values marks links
  pub left : List Guard
  pub number : i + length left ≡ n
  pub lo : ℕ
  pub hi : ℕ
  pub high : hi ≤ y.compounds
  pub numbered : GuardsNumbered lo hi left
  pub known_names : GuardsKnown x.places.names left
  pub fit : GuardsFit y.pairs y.compounds left
  pub held : HoldsGuards s (item x y) (clause_tests_from y.number) i left
  pub same : in_order earlier given x.values (length x.values) c.guards ≡ in_order earlier given x.values (length x.values) left

module _ (s₀ : List ℕ) (x : Setting) (y : Template) (c : Clause) (given : List Assignment) (earlier : List ℕ) (values marks links met stamp : ℕ)
    (g : Guarded s₀ x y c given values marks links met stamp) where
  -- How many guards there are.
  pub few_guards : length c.guards ≤ 8
  few_guards = g.at.held.laid.few_guards

  pub record_inside : (i : ℕ) → i < 32 → clause_record y.number + i < length s₀
  record_inside i h = omega (arith, g.asking.number, g.asking.values_behind, g.asking.marks_behind, g.asking.inside)

  pub begins : (n : ℕ) → n ≡ get_or s₀ (clause_guards_word y.number) 0 → Going s₀ s₀ x y c given earlier values marks links met stamp n 0
  begins n e =
      let h = g.at.held in
      record {
        only = only_same marks (marks + 3 * links) s₀;
        stamps = λ k l m. omega (arith, g.stamps k l m);
        grounds = grounds_same x.places x.values marks x.pairs s₀ s₀ (λ k l m. refl);
        joined = joined_none s₀ (marks + links) links met g.readers;
        asking = g.asking;
        left = c.guards;
        number = omega (arith, h.guards);
        lo = h.laid.behind_head;
        hi = h.laid.behind_guards;
        high = omega (arith, goals_numbered_order h.laid.behind_guards c.compounds c.body h.laid.body_numbered, g.compounds_are);
        numbered = h.laid.guards_numbered;
        known_names = h.laid.guards_known;
        fit = rw (g.pairs_are, g.compounds_are) g.fit;
        held = h.tests;
        same = refl;
      }

  -- The next guard and its word.
  pub record Next (s : List ℕ) (i n w : ℕ) : Type 0 where
    pub guard : Guard
    pub others : List Guard
    pub at : GuardAt s x y given values marks links met (stamp + i) guard (rest_in w)
    pub row : tag_in w ≡ test_number guard.row.test
    pub first : in_order earlier given x.values (length x.values) c.guards
        ≡ first_of (answer guard.row.test earlier (out x given guard.arguments)) (in_order earlier given x.values (length x.values) others)
    pub on : (s' : List ℕ) → GuardIs s s' x marks links met (stamp + i) (succeeds []) (Ok tt)
        → in_order earlier given x.values (length x.values) c.guards ≡ in_order earlier given x.values (length x.values) others
        → Going s₀ s' x y c given earlier values marks links met stamp n (i + 1)

  module _ (s : List ℕ) (n i w : ℕ) (counted : n ≡ length c.guards) (word : w ≡ get_or s (clause_record y.number + (16 + i)) 0) where
    next_of : (go : Going s₀ s x y c given earlier values marks links met stamp n i) (left : List Guard) → go.left ≡ left → i < n → Next s i n w
    unfolding GuardsNumbered GuardsKnown GuardsFit HoldsGuards in_order
    next_of go [] e h = absurd (omega (arith, go.number, ap length e))
    next_of go (g₁ ∷ gs) e h =
        let numbered : GuardsNumbered go.lo go.hi (g₁ ∷ gs) = rw e at go.numbered in
        let spelled : GuardsKnown x.places.names (g₁ ∷ gs) = rw e at go.known_names in
        let fit : GuardsFit y.pairs y.compounds (g₁ ∷ gs) = rw e at go.fit in
        let held : HoldsGuards s (item x y) (clause_tests_from y.number) i (g₁ ∷ gs) = rw e at go.held in
        let mid = numbered.0 in
        let above : mid ≤ go.hi = guards_numbered_order mid go.hi gs numbered.2 in
        let place : clause_record y.number + (16 + i) ≡ clause_tests_from y.number + i = omega arith in
        let is : w ≡ guard_word (item x y) g₁ = word ∙ rw place held.0 in
        let small = test_small g₁.row.test in
        record {
          guard = g₁;
          others = gs;
          at = record {
            asking = go.asking;
            counted = spelled.0.1 ∙ table_counts g₁.row fit.0.2;
            number = λ some_here. omega (arith, (test_own g₁.row.test go.lo mid g₁.number g₁.arguments numbered.1 some_here).1, go.high);
            arguments = record {
              place = omega arith;
              inside = omega (arith, held.1);
              held = held.2;
              terms = test_template s x y g₁.row.test go.lo mid g₁.number g₁.arguments (omega (arith, go.high)) held.2 fit.0.0 spelled.0.0
                  fit.0.1 numbered.1;
            };
            readers = go.joined.ok;
            few_links = g.few_links;
            near = g.near;
            stamps = go.stamps;
            above = omega (arith, g.above);
            below = omega (arith, g.below, few_guards);
          };
          row = omega arith;
          first = go.same ∙ ap (in_order earlier given x.values (length x.values)) e;
          on = λ s' is_so rest. record {
            only = only_then marks (marks + 3 * links) s₀ s s' go.only is_so.only;
            stamps = λ k l m. omega (arith, is_so.stamps k l m);
            grounds = grounds_then x.places x.values marks x.pairs s₀ s s' go.grounds is_so.grounds;
            joined = joined_then s₀ s s' (marks + links) links met [] met go.joined is_so.told.1;
            asking = asking_kept s s' x y given values marks links go.asking is_so.only is_so.grounds;
            left = gs;
            number = omega (arith, go.number, ap length e);
            lo = mid;
            hi = go.hi;
            high = go.high;
            numbered = numbered.2;
            known_names = spelled.1;
            fit = fit.1;
            held = holds_guards_kept (item x y) (clause_base y.number) (λ m. refl) (λ m. refl) s s' (omega (arith, is_so.only.size))
                (clause_tests_from y.number) (i + 1) mid go.hi x.places.names gs
                (λ k l m. is_so.only.below (clause_tests_from y.number + k)
                (omega (arith, few_guards, go.number, ap length e, go.asking.number, go.asking.values_behind, go.asking.marks_behind)))
                (λ k l m. is_so.only.below k (omega (arith, go.high, go.asking.few_compounds, go.asking.number, go.asking.values_behind, go.asking.marks_behind)))
                numbered.2 spelled.1 held.3;
            same = rest;
          };
        }

    pub next : Going s₀ s x y c given earlier values marks links met stamp n i → i < n → Next s i n w
    next go h = next_of go go.left refl h

  -- All have succeeded; or the next one did not.
  module _ (s : List ℕ) (n i : ℕ) (counted : n ≡ length c.guards) (go : Going s₀ s x y c given earlier values marks links met stamp n i) where
    all_done : (left : List Guard) → go.left ≡ left → n ≤ i → in_order earlier given x.values (length x.values) c.guards ≡ succeeds given
    unfolding in_order
    all_done [] e h = go.same ∙ ap (in_order earlier given x.values (length x.values)) e
    all_done (g₁ ∷ gs) e h = absurd (omega (arith, go.number, ap length e))

    pub all_succeed : n ≤ i → i ≤ n → GuardsAre s₀ s x c earlier given marks links met stamp (Ok tt)
    all_succeed h l = record {
      only = go.only;
      stamps = λ k a b. omega (arith, go.stamps k a b, few_guards);
      grounds = go.grounds;
      told = (all_done go.left refl h, go.joined);
    }

    module _ (w : ℕ) (next : Next s i n w) (s' : List ℕ) (h : i < n) where
      abbrev asked : Result
      asked = answer next.guard.row.test earlier (out x given next.guard.arguments)

      module _ (r : Outcome Unit Hindered) (is_so : GuardIs s s' x marks links met (stamp + i) asked r) where
        pub succeeded : r ≡ Ok tt → Going s₀ s' x y c given earlier values marks links met stamp n (i + 1)
        unfolding first_of
        succeeded e =
            let so : GuardIs s s' x marks links met (stamp + i) asked (Ok tt) = rw e at is_so in
            let is : asked ≡ succeeds [] = so.told.0 in
            next.on s' (rw is at so) (rw is at next.first)

        frame : Only marks (marks + 3 * links) s₀ s'
        frame = only_then marks (marks + 3 * links) s₀ s s' go.only is_so.only

        later : StampsFrom s' marks x.pairs (stamp + 16)
        later k a b = omega (arith, is_so.stamps k a b, few_guards)

        new : GroundsAdded x.places x.values marks x.pairs s₀ s'
        new = grounds_then x.places x.values marks x.pairs s₀ s s' go.grounds is_so.grounds

        -- The next one does not succeed.
        pub hindered : (h : Hindered) → r ≡ Err h → GuardsAre s₀ s' x c earlier given marks links met stamp (Err h)
        unfolding first_of
        hindered (Waits m) e =
            let so : GuardIs s s' x marks links met (stamp + i) asked (Err (Waits m)) = rw e at is_so in
            let readers = so.told.0 in
            record {
              only = frame;
              stamps = later;
              grounds = new;
              told = (
                readers,
                rw so.told.1 at next.first,
                so.told.2,
                joined_then s₀ s s' (marks + links) links met (map (λ p. x.places.pair p) readers) m go.joined so.told.3,
              );
            }
        hindered Fails e =
            let so : GuardIs s s' x marks links met (stamp + i) asked (Err Fails) = rw e at is_so in
            record {
              only = frame;
              stamps = later;
              grounds = new;
              told = (rw so.told.0 at next.first, joined_then s₀ s s' (marks + links) links met [] met go.joined so.told.1);
            }
