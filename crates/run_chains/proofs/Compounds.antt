-- A compound of the unit at a place: how many arguments it has, and one argument after another.
use Prim.Native.Nat.{ℕ, ◌+◌, ◌≤◌, ◌<◌}
use mathlib.Core.Path.{◌≡◌, refl, ap, ◌∙◌}
use mathlib.Core.List.{List}
use native.Mathlib.Omega.{arith}
use lib.ListN.{length, get_or}
use Rattle.meaning.specs.Terms.{Functor, cell, named, Term, Terms, end, more, count}
use Rattle.term.specs.Cells.{Places, functor_word, Known, AllKnown}
use Rattle.term.specs.Holds.{Holds, HoldsFrom}
use Rattle.term.specs.Setting.{Setting, Within, AllWithin, Ranged, AllRanged, UnitTerm, UnitTerms}
use Rattle.term.specs.Words.{tag_in}
use Rattle.run_chains.specs.Follow.{Chained, Reads}

-- A functor's word has the number of arguments.
pub first_count : (places : Places) (f : Functor) (k : ℕ) → k ≤ 6 → tag_in (functor_word places f k) ≡ k
first_count places cell k few = omega arith
first_count places (named f) k few = omega arith

module _ {s : List ℕ} {x : Setting} {l : ℕ} {f : Functor} {ts : Terms} {place : ℕ} (t : UnitTerm s x (Term.compound l f ts))
    (at : place ≡ x.places.compound l) where
  pub compound_inside : place + 8 ≤ length s
  unfolding Holds
  compound_inside = omega (arith, t.held.0.inside)

  pub compound_number : l < x.compounds
  unfolding Within
  compound_number = t.of.within.0

  pub compound_few : count ts ≤ 6
  unfolding Holds
  compound_few = t.held.0.few

  pub compound_wide : count ts < x.places.width l
  unfolding Holds
  compound_wide = t.held.0.wide

  pub compound_count : {k : ℕ} → k ≡ tag_in (get_or s place 0) → k ≡ count ts
  unfolding Holds
  compound_count e = e ∙ rw (at, t.held.0.functor) (first_count x.places f (count ts) compound_few)

  pub compound_arguments : UnitTerms s x l 0 ts
  unfolding Holds Within Known Ranged
  compound_arguments = record { held = t.held.1; within = t.of.within.1; known = t.of.known.1; ranged = t.of.ranged }

-- The first of the arguments that are left, from the j-th on, and those behind it; w is its word.
pub record Next (s : List ℕ) (x : Setting) (from links l j : ℕ) (rest : Terms) (w : ℕ) : Type 0 where
  pub u : Term
  pub us : Terms
  pub rest_is : rest ≡ more u us
  pub reads : Reads s x from links u w
  pub behind : UnitTerms s x l (j + 1) us
  pub fewer : count rest ≡ 1 + count us

pub next_argument : {s : List ℕ} {x : Setting} {from links : ℕ} → Chained s x from links → (l j : ℕ) (rest : Terms) → UnitTerms s x l j rest → 0 < count rest
    → {w at : ℕ} → at ≡ x.places.compound l + 1 + j → w ≡ get_or s at 0 → Next s x from links l j rest w
unfolding HoldsFrom AllWithin AllKnown AllRanged count
next_argument c l j end t some same e = absurd (omega arith)
next_argument {s} c l j (more u us) t some same e = record {
  u = u;
  us = us;
  rest_is = refl;
  reads = record {
    chained = c;
    term = record { held = t.held.1; of = record { within = t.within.0; known = t.known.0; ranged = t.ranged.0 } };
    word = e ∙ ap (λ i. get_or s i 0) same ∙ t.held.0;
  };
  behind = record { held = t.held.2; within = t.within.1; known = t.known.1; ranged = t.ranged.1 };
  fewer = omega arith;
}
