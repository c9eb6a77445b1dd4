-- Two compounds: their first words decide whether they differ; if not, their arguments are compared, deeper in the head.
use Rattle.std.specs.Prelude.{Option, Some, None}
use Prim.Native.Nat.{ℕ, suc, ◌+◌, ◌*◌, ◌≤◌}
use mathlib.Core.Path.{◌≡◌, refl, ap}
use mathlib.Core.Bool.{Bool, true, false, ◌&&◌, not}
use mathlib.Core.List.{List}
use native.Mathlib.Omega.{arith}
use lib.Dec.{eqb}
use lib.ListN.{length, get_or}
use borrow.Author.Tests.{eqb-true}
use Rattle.meaning.specs.Bytes.{when◌then◌else◌}
use Rattle.meaning.specs.Terms.{Functor, Term, Terms, end, more, count, renamed, all_renamed, same_functor}
use Rattle.meaning.specs.Compare.{Result, fails, place}
use Rattle.laws.proofs.Lists.Tests.{and_right}
use Rattle.term.specs.Cells.{Known, Numbered}
use Rattle.term.specs.Holds.{Holds}
use Rattle.term.specs.Setting.{Setting, Within, Ranged}
use Rattle.term.specs.Layout.{item_place, clause_base}
use Rattle.run_compare.specs.Compare.{Template, item, Against, AllAgainst, Answers, place_outcome, places_outcome}
use Rattle.run_compare.proofs.Notes.{noted_wider}
use Rattle.run_compare.proofs.Equal.{functors_equal}

count_renamed : (p c : ℕ) (ts : Terms) → count (all_renamed p c ts) ≡ count ts
unfolding count all_renamed
count_renamed p c end = refl
count_renamed p c (more t ts) = ap suc (count_renamed p c ts)

-- The answer to an outcome is the answer to an equal one from a lower number on, where the bound on the entries allows it.
pub answers_as : (s s' : List ℕ) (x : Setting) (y : Template) (n lo hi k lo' k' : ℕ) (o o' : Result) (r : Option ℕ)
    → o' ≡ o → lo' ≤ lo → k + 6 * lo' ≤ k' + 6 * lo
    → Answers s s' x y n lo hi k o r → Answers s s' x y n lo' hi k' o' r
answers_as s s' x y n lo hi k lo' k' o o' (Some m) e low f a =
    let told = a.told.1 in
    rw e (
    record {
      only = a.only;
      told = (
        omega (arith, a.told.0),
        record {
          notes = told.notes;
          outcome = told.outcome;
          scratch = told.scratch;
          counted = told.counted;
          held = noted_wider s x y lo hi lo' hi told.notes low (omega arith) told.held;
        },
      );
    }
    )
answers_as s s' x y n lo hi k lo' k' o o' None e low f a = rw e (record { only = a.only; told = a.told })

module _ (s : List ℕ) (x : Setting) (y : Template) (from lo hi h w n links m : ℕ) (g : Functor) (us : Terms) (l : ℕ) (f : Functor) (ts : Terms)
    (k : Against s x y from links lo hi (Term.compound m g us) (Term.compound l f ts) h w n) where
  unfoldable test : Bool
  test = same_functor g f && eqb (count us) (count ts)

  pub cells_inside : (item_place (clause_base y.number) m + 8 ≤ length s) × (x.places.compound l + 8 ≤ length s)
  unfolding Holds
  cells_inside = (k.head.held.0.inside, k.goal.held.0.inside)

  first_words : eqb (get_or s (item_place (clause_base y.number) m) 0) (get_or s (x.places.compound l) 0) ≡ test
  unfolding Holds Known test
  first_words =
      rw (k.head.held.0.functor, k.goal.held.0.functor)
      (functors_equal x.places (item x y) refl g f (count us) (count ts) k.head.held.0.few k.goal.held.0.few
      k.head.known.0 k.goal.of.known.0)

  tested : place_outcome x links (Term.compound m g us) (Term.compound l f ts) ≡ (when test then places_outcome x links us ts else fails)
  unfolding place renamed test
  tested = rw (count_renamed (length x.values) x.compounds us)

  pub differing : (b : Bool) → b ≡ not (eqb (get_or s (item_place (clause_base y.number) m) 0) (get_or s (x.places.compound l) 0)) → b ≡ true
      → place_outcome x links (Term.compound m g us) (Term.compound l f ts) ≡ fails
  unfolding when◌then◌else◌
  differing b e c = go test refl
    where
      go : (a : Bool) → test ≡ a → place_outcome x links (Term.compound m g us) (Term.compound l f ts) ≡ fails
      go true q =
          let wrong : b ≡ not true = rw (first_words, q) at e in
          let z : ◌≡◌ {A = ℕ} 0 1 = cc in
          absurd (omega arith)
      go false q = rw q at tested

  agreeing : (b : Bool) → b ≡ not (eqb (get_or s (item_place (clause_base y.number) m) 0) (get_or s (x.places.compound l) 0)) → b ≡ false
      → test ≡ true
  agreeing b e c = go test refl
    where
      go : (a : Bool) → test ≡ a → test ≡ true
      go true q = q
      go false q =
          let wrong : b ≡ not false = rw (first_words, q) at e in
          let z : ◌≡◌ {A = ℕ} 0 1 = cc in
          absurd (omega arith)

  pub deeper : (b : Bool) → b ≡ not (eqb (get_or s (item_place (clause_base y.number) m) 0) (get_or s (x.places.compound l) 0)) → b ≡ false
      → AllAgainst s x y from links m g us (lo + 1) hi l f ts (item_place (clause_base y.number) m) (x.places.compound l) n
  unfolding Holds Within Known Ranged Numbered test
  deeper b e c = record {
    head = record {
      trial = k.trial;
      cell = k.head.held.0;
      terms = record {
        held = k.head.held.1;
        within = k.head.within.1;
        known = k.head.known.1;
        ranged = k.head.ranged;
        numbered = k.head.numbered.2;
        high = k.head.high;
        rising = omega (arith, k.head.numbered.0);
      };
      place = refl;
      room = omega (arith, k.room, k.head.held.0.few);
    };
    goal_cell = k.goal.held.0;
    goal = record {
      held = k.goal.held.1;
      within = k.goal.of.within.1;
      known = k.goal.of.known.1;
      ranged = k.goal.of.ranged;
    };
    goal_number = k.goal.of.within.0;
    counts = eqb-true (count us) (count ts) (and_right (same_functor g f) (eqb (count us) (count ts)) (agreeing b e c));
    goal_place = refl;
  }

  pub deeper_answers : (b : Bool) → b ≡ not (eqb (get_or s (item_place (clause_base y.number) m) 0) (get_or s (x.places.compound l) 0)) → b ≡ false
      → (s' : List ℕ) (r : Option ℕ) → Answers s s' x y n (lo + 1) hi (count us) (places_outcome x links us ts) r
      → Answers s s' x y n lo hi 1 (place_outcome x links (Term.compound m g us) (Term.compound l f ts)) r
  unfolding Holds when◌then◌else◌
  deeper_answers b e c s' r a =
      answers_as s s' x y n (lo + 1) hi (count us) lo 1 (places_outcome x links us ts)
      (place_outcome x links (Term.compound m g us) (Term.compound l f ts)) r
      (go (agreeing b e c)) (omega arith) (omega (arith, k.head.held.0.few)) a
    where
      go : test ≡ true → place_outcome x links (Term.compound m g us) (Term.compound l f ts) ≡ places_outcome x links us ts
      go q = rw q at tested
