-- The state before the first step, with one query more: its unit comes last, its goals join the queue, and its pairs and compounds are charged.
use Prim.Native.Nat.{ℕ, zero, suc, ◌+◌, ◌≤◌, ◌<◌}
use mathlib.Core.Path.{◌≡◌, refl, sym, ap, ◌∙◌}
use mathlib.Core.Bool.{true}
use mathlib.Core.List.{List, [], ◌∷◌, ◌++◌, map, append-nil, append_assoc}
use native.Mathlib.Omega.{arith}
use lib.ListN.{length, length-append, length-map}
use Rattle.meaning.specs.Terms.{Named, Query}
use Rattle.meaning.specs.State.{Room, Goal, unit_at, number_of, first_unit, goals_at, from_query, all_goals, query_pairs, query_compounds, start}
use Rattle.meaning.specs.Run.{queries_fit}
use Rattle.laws.proofs.Runs.Counts.{within_says}

pub units_number : (done : List Query) (x : Query) → length (map first_unit (done ++ x ∷ [])) ≡ length done + 1
units_number [] x = refl
units_number (q ∷ done) x = omega (arith, units_number done x)

pub unit_older : (done : List Query) (x : Query) (k : ℕ) → k < length done
    → unit_at k (map first_unit (done ++ x ∷ [])) ≡ unit_at k (map first_unit done)
unfolding unit_at
unit_older [] x k h = absurd (omega arith)
unit_older (q ∷ done) x zero h = refl
unit_older (q ∷ done) x (suc k) h = unit_older done x k (omega arith)

pub unit_newest : (done : List Query) (x : Query) → unit_at (length done) (map first_unit (done ++ x ∷ [])) ≡ first_unit x
unfolding unit_at
unit_newest [] x = refl
unit_newest (q ∷ done) x = unit_newest done x

pub pairs_more : (done : List Query) (x : Query) (rest : List Query)
    → query_pairs (done ++ x ∷ rest) ≡ query_pairs done + length x.variables + query_pairs rest
unfolding query_pairs
pairs_more [] x rest = omega arith
pairs_more (q ∷ done) x rest = omega (arith, pairs_more done x rest)

pub compounds_more : (done : List Query) (x : Query) (rest : List Query)
    → query_compounds (done ++ x ∷ rest) ≡ query_compounds done + x.compounds + query_compounds rest
unfolding query_compounds
compounds_more [] x rest = omega arith
compounds_more (q ∷ done) x rest = omega (arith, compounds_more done x rest)

pub goals_more : (place : ℕ) (done : List Query) (x : Query) (rest : List Query)
    → all_goals place (done ++ x ∷ rest)
    ≡ all_goals place done ++ (goals_at from_query (place + length done) x.goals ++ all_goals (suc (place + length done)) rest)
unfolding all_goals
goals_more place [] x rest = let e : place + 0 ≡ place = omega arith in rw e
goals_more place (q ∷ done) x rest =
    let e : place + suc (length done) ≡ suc place + length done = omega arith in
    rw (e, goals_more (suc place) done x rest)
    (sym (append_assoc (goals_at from_query place q.goals) (all_goals (suc place) done)
    (goals_at from_query (suc place + length done) x.goals ++ all_goals (suc (suc place + length done)) rest)))

pub goals_one_more : (done : List Query) (x : Query) → all_goals 0 (done ++ x ∷ []) ≡ all_goals 0 done ++ goals_at from_query (length done) x.goals
unfolding all_goals
goals_one_more done x =
    let e : 0 + length done ≡ length done = omega arith in
    (rw e at (goals_more 0 done x [])) ∙ ap (λ gs. all_goals 0 done ++ gs) (append-nil (goals_at from_query (length done) x.goals))

pub goals_at_number : (place : ℕ) (gs : List Named) → length (goals_at from_query place gs) ≡ length gs
unfolding goals_at
goals_at_number place gs = length-map gs (λ g. record { query = place; goal = g; origin = from_query })

-- What all of them charge fits, so what some of them charge does.
pub record Fits (figures : Room) (done : List Query) (x : Query) : Type 0 where
  pub pairs : query_pairs done + length x.variables ≤ figures.pairs
  pub compounds : query_compounds done + x.compounds ≤ figures.compounds
  pub goals : length (all_goals 0 done) + length x.goals ≤ figures.goals

pub fits_so_far : (figures : Room) (queries done : List Query) (x : Query) (rest : List Query) → queries ≡ done ++ x ∷ rest
    → queries_fit figures queries ≡ true → Fits figures done x
unfolding queries_fit start number_of
fits_so_far figures queries done x rest is fit =
    let (pairs, compounds, goals) = within_says figures (query_pairs queries) (query_compounds queries) (length (all_goals 0 queries) + 0 + 0) fit in
    let p = ap query_pairs is ∙ pairs_more done x rest in
    let c = ap query_compounds is ∙ compounds_more done x rest in
    let own = goals_at from_query (0 + length done) x.goals in
    let later = all_goals (suc (0 + length done)) rest in
    let g = ap (λ qs. length (all_goals 0 qs)) is ∙ ap (length {A = Goal}) (goals_more 0 done x rest) in
    record {
      pairs = omega (arith, p);
      compounds = omega (arith, c);
      goals =
          omega (arith, g, length-append (all_goals 0 done) (own ++ later), length-append own later, goals_at_number (0 + length done) x.goals);
    }
