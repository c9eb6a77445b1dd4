-- The guard's comparison as a whole: its arguments are ground, so they mean what they are written out as; there is no link yet; and what is found is
-- whether they are equal.
use Prim.Native.Nat.{ℕ, ◌+◌, ◌-◌, ◌*◌, ◌^◌, ◌≤◌, ◌<◌}
use mathlib.Core.Path.{◌≡◌, refl, sym, ap, subst, ◌∙◌}
use mathlib.Core.Bool.{Bool, true, false, not}
use mathlib.Core.List.{List, []}
use native.Mathlib.Nat.{mul-le-mul_right}
use native.Mathlib.Omega.{arith}
use lib.Dec.{eqb}
use lib.ListN.{length, get_or}
use borrow.Author.Tests.{eqb-true, eqb-false}
use Rattle.meaning.specs.Terms.{writer, reader, Term, Terms, variable, constant, compound, end, more, all_replaced}
use Rattle.meaning.specs.Compare.{Assignment, Result, succeeds, waits, fails, waits_on}
use Rattle.meaning.specs.Guards.{first_of, unassigned, variables, all_variables, written_out, same_term, two_equal}
use Rattle.laws.proofs.Lists.Tests.{differ, not_true_is_false}
use Rattle.term.specs.Holds.{HoldsFrom}
use Rattle.term.specs.Setting.{Setting}
use Rattle.term.proofs.Frames.{only_same, only_wider}
use Rattle.run_compare.specs.Compare.{Template, HeadTerm}
use Rattle.run_readers.proofs.AllMet.{all_met_none}
use Rattle.run_readers.proofs.Ranks.{listed_kept}
use Rattle.run_asked.specs.Asking.{EachTemplate, out}
use Rattle.run_equal.specs.Equal.{
  Bare,
  AllBare,
  Scene,
  filled,
  ClauseTerm,
  Means,
  GivenIs,
  ReadableGiven,
  Agrees,
  Working,
  Compared,
  Equating,
  Equated,
}
use Rattle.run_equal.proofs.Cuts.{agree_same, same_agree}
use Rattle.run_equal.proofs.Depths.{filled_depth}
use Rattle.run_equal.proofs.Meanings.{Given, clause_given}

-- A term in which no variable is found has none.
first_succeeds : (r o : Result) (gs : List Assignment) → first_of r o ≡ succeeds gs → ((hs : List Assignment) × (r ≡ succeeds hs)) × (o ≡ succeeds gs)
unfolding first_of
first_succeeds (succeeds hs) o gs e = ((hs, refl), e)
first_succeeds (waits rs) o gs e = absurd (differ (cc))
first_succeeds fails o gs e = absurd (differ (cc))

mutual
  unfolding variables all_variables unassigned waits_on Bare AllBare

  bare_term : (t : Term) (gs : List Assignment) → variables first_of t ≡ succeeds gs → Bare t
  bare_term (variable writer p) gs e = absurd (differ (cc))
  bare_term (variable reader p) gs e = absurd (differ (cc))
  bare_term (constant k) gs e = tt
  bare_term (compound n f ts) gs e = bare_terms ts gs e

  bare_terms : (ts : Terms) (gs : List Assignment) → all_variables first_of ts ≡ succeeds gs → AllBare ts
  bare_terms end gs e = tt
  bare_terms (more t ts) gs e =
      let both = first_succeeds (variables first_of t) (all_variables first_of ts) gs e in
      (bare_term t both.0.0 both.0.1, bare_terms ts gs both.1)

module _ (s : List ℕ) (x : Setting) (y : Template) (given : List Assignment) (values marks links met n place : ℕ) (t u : Term)
    (a : Equating s x y given values marks links met n place t u) where
  abbrev pub scene : Scene
  scene = record { front = s; unit = x; clause = y; given = given; marks = marks; met = met }

  bare_both : AllBare (out x given (more t (more u end)))
  bare_both = bare_terms (out x given (more t (more u end))) [] a.a_ground

  bare_first : Bare (filled scene t)
  unfolding written_out all_replaced AllBare
  bare_first = bare_both.0

  bare_second : Bare (filled scene u)
  unfolding written_out all_replaced AllBare
  bare_second = bare_both.1.0

  as_clause : (lo hi : ℕ) (v : Term) → HeadTerm s x y lo hi v → ClauseTerm s x y v
  as_clause lo hi v h = record { held = h.held; within = h.within; known = h.known; ranged = h.ranged }

  first_term : ClauseTerm s x y t
  unfolding EachTemplate
  first_term = let (lo, hi, h) = a.arguments.terms.0 in as_clause lo hi t h

  second_term : ClauseTerm s x y u
  unfolding EachTemplate
  second_term = let (lo, hi, h) = a.arguments.terms.1.0 in as_clause lo hi u h

  first_given : Given scene values (place + 1) (filled scene t)
  unfolding HoldsFrom
  first_given =
      let at : place + 1 ≡ place + 1 + 0 = omega arith in
      clause_given scene values links a.asking (place + 1) t first_term
      (ap (λ k. get_or s k 0) at ∙ ap (λ k. get_or s (k + 1 + 0) 0) a.arguments.place ∙ a.arguments.held.0) bare_first

  second_given : Given scene values (place + 2) (filled scene u)
  unfolding HoldsFrom
  second_given =
      let at : place + 2 ≡ place + 1 + (0 + 1) = omega arith in
      clause_given scene values links a.asking (place + 2) u second_term
      (ap (λ k. get_or s k 0) at ∙ ap (λ k. get_or s (k + 1 + (0 + 1)) 0) a.arguments.place ∙ a.arguments.held.2.0) bare_second

  given_readable : (j : ℕ) (v : Term) → j < length s → Given scene values j v → ReadableGiven s j
  given_readable j v h g = record { inside = h; given = λ is. omega (arith, g.low is, a.asking.marks_behind, a.asking.inside) }

  pub first_readable : ReadableGiven s (place + 1)
  first_readable = given_readable (place + 1) (filled scene t) (omega (arith, a.arguments.inside)) first_given

  pub second_readable : ReadableGiven s (place + 2)
  second_readable = given_readable (place + 2) (filled scene u) (omega (arith, a.arguments.inside)) second_given

  pub first_means : (r : ℕ) → GivenIs s (place + 1) r → Means scene r (filled scene t)
  first_means r is = first_given.means r is

  pub second_means : (r : ℕ) → GivenIs s (place + 2) r → Means scene r (filled scene u)
  second_means r is = second_given.means r is

  -- No link is made yet.
  pub begins : Working s scene values (marks + links) links met
  begins = record {
    asking = a.asking;
    few = a.few;
    near = a.near;
    lists_at = refl;
    only = only_same (marks + links) (marks + links + 2 * links) s;
    readers = a.readers;
    firsts = λ i h. refl;
    low = omega arith;
    high = a.readers.few;
    linked = λ i l h. absurd (omega arith);
  }

  -- The depth fits a word.
  product_fits : (links + 2) * (values + 8) ≤ 65538 * 268435464
  product_fits =
      omega (arith, mul-le-mul_right (values + 8) few, a.near)
    where
      few : links + 2 ≤ 65538
      few = omega (arith, a.few)

  pub depth_fits : (links + 2) * (values + 8) + 1 < 2 ^ 64
  depth_fits = omega (arith, product_fits)

  none_linked : (m : ℕ) → Agrees scene s (marks + links) met m
  none_linked m i l h = absurd (omega arith)

  module _ (s' : List ℕ) (r : ℕ)
      (c : Compared s s' scene values (marks + links) links met ((links + 2) * (values + 8) + 1) (filled scene t) (filled scene u) r) where
    leaves : (b : Bool) → b ≡ two_equal (out x given (more t (more u end))) → Equated s s' x given marks links met t u b
    leaves b e = record {
      answer = e;
      only = only_wider (marks + links) (marks + links + 2 * links) (marks + links) (marks + 3 * links) s s' (omega arith) (omega arith) c.stands.only;
      joined = record {
        ok = c.stands.readers;
        list =
            listed_kept s s' (marks + links) met (λ k l h. go k l h)
            ∙ sym (all_met_none _);
      };
    }
      where
        go : (k : ℕ) → marks + links ≤ k → k < marks + links + met → get_or s' k 0 ≡ get_or s k 0
        go k l h =
            let at : marks + links + (k - (marks + links)) ≡ k = omega arith in
            subst (λ j. get_or s' j 0 ≡ get_or s j 0) at (c.stands.firsts (k - (marks + links)) (omega arith))

    -- They are equal, since all links are true.
    says_equal : (r ≡ 65537 → ⊥) → Equated s s' x given marks links met t u true
    unfolding written_out all_replaced two_equal
    says_equal d =
        leaves true (sym (agree_same (filled scene t) (filled scene u) bare_first bare_second (λ m. (c.found d m (none_linked m)).0)))

    -- They are not: the comparison would have found them equal.
    says_unequal : r ≡ 65537 → Equated s s' x given marks links met t u false
    unfolding written_out all_replaced two_equal
    says_unequal d =
        leaves false (sym (not_true_is_false (same_term (filled scene t) (filled scene u)) (λ e.
        c.unequal d (record {
          links = none_linked;
          equal = same_agree (filled scene t) (filled scene u) e;
          low = filled_depth scene values links a.asking t first_term;
        }))))

    pub says : (b : Bool) → eqb r 65537 ≡ b → Equated s s' x given marks links met t u (not b)
    says true e = says_unequal (eqb-true r 65537 e)
    says false e = says_equal (eqb-false r 65537 e)
