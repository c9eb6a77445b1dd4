-- One place, in the form in which the code asks and tells it: the table's answer, and behind two compounds that agree their arguments.
use Rattle.std.specs.Prelude.{Option, Some, None}
use Prim.Native.Nat.{ℕ, ◌+◌, ◌<◌}
use mathlib.Core.Path.{◌≡◌, refl, ap}
use mathlib.Core.Bool.{Bool, true, false, not}
use mathlib.Core.List.{List}
use native.Mathlib.Omega.{arith}
use lib.Dec.{eqb}
use lib.ListN.{length, get_or}
use Rattle.meaning.specs.Terms.{Functor, Term, Terms, count}
use Rattle.meaning.specs.Compare.{followed, fails}
use Rattle.term.specs.Cells.{Numbered}
use Rattle.term.specs.Frames.{Only}
use Rattle.term.proofs.Cells.{numbered_order, all_numbered_order}
use Rattle.term.proofs.Frames.{only_same}
use Rattle.run_table.specs.declared.table.PlaceResult.{PlaceResult}
use Rattle.run_table.specs.declared.table.PlaceResult.TheVariants as met
use Rattle.term.specs.Setting.{Setting}
use Rattle.term.specs.Layout.{trial_region, woken_part, item_place, clause_base}
use Rattle.term.specs.Words.{compound_word}
use Rattle.run_table.specs.Rows.{row, Done}
use Rattle.run_compare.specs.Compare.{Template, Against, AllAgainst, Answers, place_outcome, places_outcome}
use Rattle.run_table.proofs.Seen.{seen}
use Rattle.run_compare.proofs.Table.{Descends, Found, table_found}
use Rattle.run_compare.proofs.Descent.{cells_inside, differing, deeper, deeper_answers}

-- Two compounds that agree: their arguments are compared, and that answer is the place's.
pub record Deeper (s s' : List ℕ) (x : Setting) (y : Template) (from links lo hi n : ℕ) (t u : Term) (p q : ℕ) : Type 0 where
  pub m : ℕ
  pub g : Functor
  pub us : Terms
  pub l : ℕ
  pub f : Functor
  pub ts : Terms
  pub against : AllAgainst s' x y from links m g us (lo + 1) hi l f ts p q n
  pub back : (s₂ : List ℕ) (r : Option ℕ) → Answers s' s₂ x y n (lo + 1) hi (count us) (places_outcome x links us ts) r
      → Answers s s₂ x y n lo hi 1 (place_outcome x links t u) r

-- Two compounds, not yet compared: their answer is the place's.
pub record Compounds (s s' : List ℕ) (x : Setting) (y : Template) (from links lo hi n : ℕ) (t u : Term) (p q : ℕ) : Type 0 where
  pub m : ℕ
  pub g : Functor
  pub us : Terms
  pub l : ℕ
  pub f : Functor
  pub ts : Terms
  pub against : Against s' x y from links lo hi (Term.compound m g us) (Term.compound l f ts) (compound_word p) (compound_word q) n
  pub back : (s₂ : List ℕ) (r : Option ℕ) → Answers s' s₂ x y n lo hi 1 (place_outcome x links (Term.compound m g us) (Term.compound l f ts)) r
      → Answers s s₂ x y n lo hi 1 (place_outcome x links t u) r

-- The two compounds known.
module _ (s s' : List ℕ) (x : Setting) (y : Template) (from links lo hi n h w : ℕ) (t u : Term) (p q : ℕ)
    (k : Against s x y from links lo hi t u h w n) (D : Descends x y t u p q) (same : s' ≡ s) where
  terms : Against s x y from links lo hi (Term.compound D.m D.g D.us) (Term.compound D.l D.f D.ts) h w n
  terms = rw (D.head, D.goal) at k

  two_cells : (p < length s') × (q < length s')
  two_cells =
      let c = cells_inside s x y from lo hi h w n links D.m D.g D.us D.l D.f D.ts terms in
      (omega (arith, c.0, D.head_place, ap length same), omega (arith, c.1, D.goal_place, ap length same))

  -- The head's compound has the number lo.
  two_lower : (p ≡ item_place (clause_base y.number) lo) × (lo < hi)
  unfolding Numbered
  two_lower =
      let numbered = terms.head.numbered in
      (omega (arith, D.head_place, numbered.0), omega (arith, all_numbered_order (lo + 1) hi D.us numbered.2))

  two_compounds : Compounds s s' x y from links lo hi n t u p q
  two_compounds = record {
    m = D.m;
    g = D.g;
    us = D.us;
    l = D.l;
    f = D.f;
    ts = D.ts;
    against =
        rw same
        (record {
          trial = terms.trial;
          head = terms.head;
          goal = terms.goal;
          head_word = omega (arith, D.head_place);
          goal_word = omega (arith, D.goal_place);
          room = terms.room;
        });
    back = λ s₂ r ans. rw (D.head, D.goal) (rw same at ans);
  }

  module _ (b : Bool) (c : b ≡ not (eqb (get_or s' p 0) (get_or s' q 0))) where
    words : b ≡ not (eqb (get_or s (item_place (clause_base y.number) D.m) 0) (get_or s (x.places.compound D.l) 0))
    words = rw (same, D.head_place, D.goal_place) at c

    two_differ : b ≡ true → place_outcome x links t u ≡ fails
    two_differ v =
        rw (D.head, D.goal)
        (differing s x y from lo hi h w n links D.m D.g D.us D.l D.f D.ts terms b words v)

    two_deeper : b ≡ false → Deeper s s' x y from links lo hi n t u p q
    two_deeper v = record {
      m = D.m;
      g = D.g;
      us = D.us;
      l = D.l;
      f = D.f;
      ts = D.ts;
      against =
          rw (same, D.head_place, D.goal_place)
          (deeper s x y from lo hi h w n links D.m D.g D.us D.l D.f D.ts terms b words v);
      back = λ s₂ r ans.
          rw (D.head, D.goal)
          (deeper_answers s x y from lo hi h w n links D.m D.g D.us D.l D.f D.ts terms b words v s₂ r (rw same at ans));
    }

module _ (links : ℕ) {s s' : List ℕ} {x : Setting} {y : Template} {from lo hi n h w : ℕ} {t u : Term} {a : PlaceResult}
    (k : Against s x y from links lo hi t u h w n) (d : Done s s' n h w (row (eqb h w) (seen h) (seen w)) a) where
  found : Found s s' x y n lo hi (place_outcome x links t u) t u a
  found = table_found s s' x y from links lo hi n h w (followed links x.values) a t u k d

  pub place_only : Only trial_region woken_part s s'
  place_only = found.0

  pub place_noted : {m : ℕ} → a ≡ met.Noted m → Answers s s' x y n lo hi 1 (place_outcome x links t u) (Some m)
  place_noted {m} e =
      let it = rw e at found in
      record { only = it.0; told = (omega (arith, it.1.0, numbered_order lo hi t k.head.numbered), it.1.1) }

  pub place_fails : a ≡ met.Fails → Answers s s' x y n lo hi 1 (place_outcome x links t u) None
  place_fails e =
      let it = rw e at found in
      record { only = it.0; told = it.1 }

  module _ {p q : ℕ} (e : a ≡ met.Below p q) where
    two : Descends x y t u p q × (s' ≡ s)
    two = (rw e at found).1

    pub place_cells : (p < length s') × (q < length s')
    place_cells = two_cells s s' x y from links lo hi n h w t u p q k two.0 two.1

    pub place_lower : (p ≡ item_place (clause_base y.number) lo) × (lo < hi)
    place_lower = two_lower s s' x y from links lo hi n h w t u p q k two.0 two.1

    pub place_compounds : Compounds s s' x y from links lo hi n t u p q
    place_compounds = two_compounds s s' x y from links lo hi n h w t u p q k two.0 two.1

    module _ (b : Bool) (c : b ≡ not (eqb (get_or s' p 0) (get_or s' q 0))) where
      pub place_differs : b ≡ true → Answers s s' x y n lo hi 1 (place_outcome x links t u) None
      place_differs v =
          record { only = found.0; told = two_differ s s' x y from links lo hi n h w t u p q k two.0 two.1 b c v }

      pub place_deeper : b ≡ false → Deeper s s' x y from links lo hi n t u p q
      place_deeper v = two_deeper s s' x y from links lo hi n h w t u p q k two.0 two.1 b c v

-- Two compounds by themselves.
module _ (links : ℕ) {s : List ℕ} {x : Setting} {y : Template} {from lo hi m : ℕ} {g : Functor} {us : Terms} {l : ℕ} {f : Functor} {ts : Terms} {n : ℕ}
    (p q : ℕ) (k : Against s x y from links lo hi (Term.compound m g us) (Term.compound l f ts) (compound_word p) (compound_word q) n) where
  itself : Descends x y (Term.compound m g us) (Term.compound l f ts) p q
  itself = record {
    m = m;
    g = g;
    us = us;
    l = l;
    f = f;
    ts = ts;
    head = refl;
    goal = refl;
    head_place = omega (arith, k.head_word);
    goal_place = omega (arith, k.goal_word);
  }

  pub compounds_cells : (p < length s) × (q < length s)
  compounds_cells = two_cells s s x y from links lo hi n (compound_word p) (compound_word q) _ _ p q k itself refl

  module _ (b : Bool) (c : b ≡ not (eqb (get_or s p 0) (get_or s q 0))) where
    pub compounds_differ : b ≡ true → Answers s s x y n lo hi 1 (place_outcome x links (Term.compound m g us) (Term.compound l f ts)) None
    compounds_differ v =
        record { only = only_same trial_region woken_part s; told = two_differ s s x y from links lo hi n (compound_word p) (compound_word q) _ _ p q k itself refl b c v }

    pub compounds_deeper : b ≡ false → Deeper s s x y from links lo hi n (Term.compound m g us) (Term.compound l f ts) p q
    compounds_deeper v = two_deeper s s x y from links lo hi n (compound_word p) (compound_word q) _ _ p q k itself refl b c v
