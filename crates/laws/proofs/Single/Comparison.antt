-- The table as arithmetic: where a head agrees with a goal, what both hold goes into the values given, and each pair given a value is one writer.
-- Each agreeing row is an equality of counts; the goal's terms are followed by flows.
use Prim.Native.Nat.{ℕ, ◌+◌, ◌≤◌}
use mathlib.Core.Path.{◌≡◌}
use mathlib.Core.Bool.{◌&&◌}
use mathlib.Core.List.{List, [], ◌∷◌, ◌++◌}
use native.Mathlib.Omega.{arith}
use lib.Dec.{eqb}
use Rattle.meaning.specs.Terms.{
  Half,
  writer,
  reader,
  Term,
  Terms,
  variable,
  constant,
  compound,
  end,
  more,
  count,
  same_constant,
  same_functor,
  occurrences,
  all_occurrences,
}
use Rattle.meaning.specs.State.{Values}
use Rattle.meaning.specs.Compare.{Assignment, succeeds, followed, gives, waits_on, place, places}
use Rattle.laws.proofs.Lists.{sum_append}
use Rattle.laws.proofs.Trial.{fails_not_succeeds, waits_not_succeeds, behind_test, both}
use Rattle.laws.proofs.Single.LiveValues.{in_term, Count, held, marks, Flows, flows_to_less, flows_then, flows_both, followed_flows}

-- What assignments hold, with a writer for each pair that is given a value.
abbrev pub worth : List Assignment → Count
worth given h n = held h n given + marks writer h n given

worth_together : (first others : List Assignment) (h : Half) (n : ℕ) → worth (first ++ others) h n ≡ worth first h n + worth others h n
worth_together first others h n =
    omega (
      arith,
      sum_append (λ a. occurrences h n a.value) first others,
      sum_append (λ a. occurrences h n (variable writer a.pair)) first others,
    )

module _ (values : Values) (links : ℕ) where
  -- A row that gives a value.
  row : (x : ℕ) (v : Term) (given : List Assignment) {c : Count} → gives x v ≡ succeeds given
      → ((h : Half) (n : ℕ) → occurrences h n v + occurrences h n (variable writer x) ≤ c h n)
      → Flows values c (worth given)
  unfolding gives
  row x v given e less =
      let only : given ≡ record { pair = x; value = v } ∷ [] = cc in
      rw only (flows_to_less (λ h n. omega (arith, less h n)))

  -- A row that gives nothing.
  empty_row : (given : List Assignment) {c : Count} → succeeds [] ≡ succeeds given → Flows values c (worth given)
  empty_row given e =
      let only : given ≡ [] = cc in
      rw only (flows_to_less (λ h n. omega arith))

  mutual
    unfolding place places occurrences all_occurrences waits_on

    place_flows : (u t : Term) (given : List Assignment) → place (followed links values) u t ≡ succeeds given
        → Flows values (λ h n. occurrences h n u + occurrences h n t) (worth given)
    place_flows (variable writer x) (variable writer z) given e = absurd (fails_not_succeeds e)
    place_flows (variable writer x) (variable reader z) given e = row x _ given e (λ h n. omega arith)
    place_flows (variable writer x) (constant k) given e = row x _ given e (λ h n. omega arith)
    place_flows (variable writer x) (compound m f ts) given e = row x _ given e (λ h n. omega arith)
    place_flows (variable reader x) (variable writer z) given e = row z _ given e (λ h n. omega arith)
    place_flows (variable reader x) (variable reader z) given e = absurd (fails_not_succeeds e)
    place_flows (variable reader x) (constant k) given e = absurd (fails_not_succeeds e)
    place_flows (variable reader x) (compound m f ts) given e = absurd (fails_not_succeeds e)
    place_flows (constant c) (variable writer z) given e = row z _ given e (λ h n. omega arith)
    place_flows (constant c) (variable reader z) given e = absurd (waits_not_succeeds e)
    place_flows (constant c) (constant k) given e =
        empty_row given (behind_test (succeeds []) (succeeds given) fails_not_succeeds (same_constant c k) e)
    place_flows (constant c) (compound m f ts) given e = absurd (fails_not_succeeds e)
    place_flows (compound l g us) (variable writer z) given e = row z _ given e (λ h n. omega arith)
    place_flows (compound l g us) (variable reader z) given e = absurd (waits_not_succeeds e)
    place_flows (compound l g us) (constant k) given e = absurd (fails_not_succeeds e)
    place_flows (compound l g us) (compound m f ts) given e =
        let agree = same_functor g f && eqb (count us) (count ts) in
        places_flow us ts given (behind_test (places (followed links values) us ts) (succeeds given) fails_not_succeeds agree e)

    -- Where a head agrees with a goal, both together become the values given, with a writer for each.
    pub places_flow : (us ts : Terms) (given : List Assignment) → places (followed links values) us ts ≡ succeeds given
        → Flows values (λ h n. all_occurrences h n us + all_occurrences h n ts) (worth given)
    places_flow end end given e = empty_row given e
    places_flow end (more t ts) given e = absurd (fails_not_succeeds e)
    places_flow (more u us) end given e = absurd (fails_not_succeeds e)
    places_flow (more u us) (more t ts) given e =
        let b = both (place (followed links values) u (followed links values t)) (places (followed links values) us ts) given e in
        let head : Flows values (in_term u) (in_term u) = flows_to_less (λ h n. omega arith) in
        let agreed = place_flows u (followed links values t) b.first b.one_succeeds in
        let first = flows_then (flows_both head (followed_flows values links t)) agreed in
        let others = places_flow us ts b.others b.two_succeeds in
        rw b.together
        (flows_then (flows_to_less (λ h n. omega arith))
        (flows_then (flows_both first others) (flows_to_less (λ h n. omega (arith, worth_together b.first b.others h n)))))
