-- What the word of an argument shows of it, written out: a chain ends in a term that is the same on top, however many links are followed.
use Prim.Native.Nat.{ℕ, zero, suc, ◌+◌, ◌≤◌, ◌<◌}
use mathlib.Core.Path.{◌≡◌, refl, ◌∙◌}
use mathlib.Core.List.{List}
use Rattle.std.specs.Prelude.{None}
use mathlib.Core.Option.{Option, none, some}
use native.Mathlib.Omega.{arith}
use lib.ListN.{length, get_or}
use Rattle.meaning.specs.Terms.{Half, writer, reader, Constant, Term, Terms, variable, constant, compound, replaced}
use Rattle.meaning.specs.State.{Values, value, applied}
use Rattle.meaning.specs.Compare.{Assignment, followed}
use Rattle.meaning.specs.Guards.{given_to}
use Rattle.laws.proofs.Trial.Values.{value_beyond}
use Rattle.term.specs.Cells.{term_word}
use Rattle.term.specs.Chains.{value_of}
use Rattle.term.specs.Layout.{trial_region}
use Rattle.term.specs.Setting.{Setting, Within}
use Rattle.term.specs.Words.{tag_in, rest_in}
use Rattle.term.proofs.Chains.{followed_none, chains_end}
use Rattle.run_chains.specs.Follow.{Reads, FollowedTo}
use Rattle.run_compare.specs.Compare.{Template, item}
use Rattle.run_asked.specs.Asking.{GaveAt}
use Rattle.run_guards.specs.Single.{Argument, written, Shows, IsRead}

-- Two terms that are the same on top.
abbrev Top : Term → Term → Type 0
Top (variable h p) u = u ≡ variable h p
Top (constant k) u = u ≡ constant k
Top (compound n f ts) u = (us : Terms) × (u ≡ compound n f us)

top_same : (t : Term) → Top t t
top_same (variable h p) = refl
top_same (constant k) = refl
top_same (compound n f ts) = (ts, refl)

top_by : (v w u z : Term) → v ≡ w → u ≡ z → Top w z → Top v u
top_by v w u z e f h = rw (e, f) h

module _ (values : Values) where
  abbrev written_as : ℕ → Half → ℕ → Term
  written_as links h p = elim (value values p) [ none ↦ variable h p | some u ↦ applied links values u ]

  as_unassigned : (links : ℕ) (h : Half) (p : ℕ) → value values p ≡ none → written_as links h p ≡ variable h p
  as_unassigned links h p e = rw (e, written_as)

  as_assigned : (links : ℕ) (h : Half) (p : ℕ) (u : Term) → value values p ≡ some u → written_as links h p ≡ applied links values u
  as_assigned links h p u e = rw (e, written_as)

  -- What is no assigned variable stays on top.
  written_top : (links : ℕ) (t : Term) → value_of values t ≡ none → Top t (applied links values t)
  unfolding applied replaced
  written_top zero t e = top_same t
  written_top (suc links) (variable h p) e = as_unassigned links h p e
  written_top (suc links) (constant k) e = refl
  written_top (suc links) (compound n f ts) e = (_, refl)

  module _ (h : Half) (p : ℕ) (u : Term) (e : value values p ≡ some u) where
    followed_on : (links : ℕ) → followed (suc links) values (variable h p) ≡ followed links values u
    unfolding followed
    followed_on links = rw (e, followed)

    written_on : (links : ℕ) → applied (suc links) values (variable h p) ≡ applied links values u
    unfolding applied replaced
    written_on links = as_assigned links h p u e

  same_top : (a b : ℕ) (t : Term) → value_of values (followed a values t) ≡ none → value_of values (followed b values t) ≡ none
      → Top (followed a values t) (applied b values t)
  unfolding followed
  same_top zero b t e f = written_top b t e
  same_top (suc a) zero t e f = top_by (followed (suc a) values t) t (applied 0 values t) (applied 0 values t) (followed_none values (suc a) t f) refl (written_top 0 t f)
  same_top (suc a) (suc b) (variable h p) e f = go (value values p) refl (same_top a b)
    where
      go : (v : Option Term) → value values p ≡ v
          → ((u : Term) → value_of values (followed a values u) ≡ none → value_of values (followed b values u) ≡ none
          → Top (followed a values u) (applied b values u))
          → Top (followed (suc a) values (variable h p)) (applied (suc b) values (variable h p))
      go none q further = top_by (followed (suc a) values (variable h p)) (variable h p) (applied (suc b) values (variable h p)) (applied (suc b) values (variable h p))
          (followed_none values (suc a) (variable h p) q) refl (written_top (suc b) (variable h p) q)
      go (some u) q further = top_by (followed (suc a) values (variable h p)) (followed a values u) (applied (suc b) values (variable h p)) (applied b values u)
          (followed_on h p u q a) (written_on h p u q b) (further u (rw (followed_on h p u q a) at e) (rw (followed_on h p u q b) at f))
  same_top (suc a) (suc b) (constant k) e f = written_top (suc b) (constant k) refl
  same_top (suc a) (suc b) (compound n g ts) e f = written_top (suc b) (compound n g ts) refl

module _ (x : Setting) (w : ℕ) where
  -- The word of a term of the unit shows it, and what is the same on top.
  shows_word : (v : Term) → w ≡ term_word x.places v → Within (length x.values) x.compounds v → Shows x v w
  unfolding Within
  shows_word (variable writer p) e h = omega arith
  shows_word (variable reader p) e h = (omega arith, omega arith, h)
  shows_word (constant (Constant.integer i)) e h = omega arith
  shows_word (constant (Constant.name f)) e h = omega arith
  shows_word (constant Constant.empty) e h = omega arith
  shows_word (compound n f ts) e h = omega arith

  shows_top : (v u : Term) → Top v u → Shows x v w → Shows x u w
  shows_top (variable h p) u e s = rw e s
  shows_top (constant k) u e s = rw e s
  shows_top (compound n f ts) u e s = rw e.1 s

  module _ (y : Template) (given : List Assignment) where
    -- A constant or a compound of the clause.
    pub shows_own : (t : Term) → w ≡ term_word (item x y) t → 2 < tag_in w → Shows x (written x given t) w
    unfolding replaced
    shows_own (variable writer m) e h = absurd (omega arith)
    shows_own (variable reader m) e h = absurd (omega arith)
    shows_own (constant (Constant.integer i)) e h = omega arith
    shows_own (constant (Constant.name f)) e h = omega arith
    shows_own (constant Constant.empty) e h = omega arith
    shows_own (compound n f ts) e h = omega arith

    -- A variable of the clause, by its number.
    pub own_variable : (t : Term) → w ≡ term_word (item x y) t → tag_in w ≤ 2 → Within y.pairs y.compounds t
        → (rest_in w < y.pairs) × (written x given t ≡ applied (length x.values) x.values (given_to given (length x.values + rest_in w)))
    unfolding replaced Within
    own_variable (variable writer m) e h l = let same : rest_in w ≡ m = omega arith in (omega arith, rw same refl)
    own_variable (variable reader m) e h l = let same : rest_in w ≡ m = omega arith in (omega arith, rw same refl)
    own_variable (constant (Constant.integer i)) e h l = absurd (omega arith)
    own_variable (constant (Constant.name f)) e h l = absurd (omega arith)
    own_variable (constant Constant.empty) e h l = absurd (omega arith)
    own_variable (compound n f ts) e h l = absurd (omega arith)

-- What the head gave a variable: nothing counts as a writer; else it is followed.
module _ (s : List ℕ) (x : Setting) (y : Template) (given : List Assignment) (values marks links : ℕ) (t : Term) (w : ℕ)
    (a : Argument s x y given values marks links t w) (low : tag_in w ≤ 2) where
  abbrev pub gift : Term
  gift = given_to given (length x.values + rest_in w)

  own : (rest_in w < y.pairs) × (written x given t ≡ applied (length x.values) x.values gift)
  own = own_variable x w y given t a.word low a.within

  gave : GaveAt s x given (rest_in w)
  gave = a.asking.gave (rest_in w) own.0

  pub given_inside : trial_region + rest_in w < length s
  given_inside = omega (arith, own.0, a.asking.few_pairs, a.asking.values_behind, a.asking.marks_behind, a.asking.inside)

  pub shows_nothing : get_or s (trial_region + rest_in w) 0 ≡ 0 → IsRead x (written x given t) None
  shows_nothing e =
      let top = written_top x.values (length x.values) (variable writer (length x.values + rest_in w))
      (value_beyond x.values (length x.values + rest_in w) (omega arith)) in
      (length x.values + rest_in w, own.1 ∙ rw (gave.nothing e) top)

  pub gift_reads : (v : ℕ) → v ≡ get_or s (trial_region + rest_in w) 0 → (v ≡ 0 → ⊥) → Reads s x values links gift v
  gift_reads v e h =
      let some_there : get_or s (trial_region + rest_in w) 0 ≡ 0 → ⊥ = λ z. h (e ∙ z) in
      record { chained = a.asking.chained; term = gave.term some_there; word = e ∙ gave.word some_there }

  pub shows_gift : (r : ℕ) → FollowedTo s x values links gift r → Shows x (written x given t) r
  shows_gift r f =
      let v = x.values in
      let ended : value_of v (followed links v gift) ≡ none = rw a.asking.chained.links_are (a.asking.chained.ends.ended gift) in
      let top = same_top v links (length v) gift ended (chains_end v a.asking.no_circle (length v) (omega arith) gift) in
      rw own.1
      (shows_top x r (followed links v gift) (applied (length v) v gift) top (shows_word x r (followed links v gift) f.word f.term.of.within))
