-- The places that a comparison reaches, at every depth, each with its result; the comparison comes to all of them taken together.
-- So it fails exactly if one of them does, and waits on exactly those readers on which one of them waits.
use Prim.Native.Nat.{ℕ}
use mathlib.Core.Path.{◌≡◌, refl, sym, ap, ◌∙◌}
use mathlib.Core.Bool.{Bool, true, false, ◌&&◌}
use mathlib.Core.List.{List, [], ◌∷◌, ◌++◌}
use lib.Dec.{eqb}
use Rattle.meaning.specs.Bytes.{when◌then◌else◌}
use Rattle.meaning.specs.Terms.{
  writer,
  reader,
  Term,
  Terms,
  variable,
  constant,
  compound,
  end,
  more,
  count,
  same_constant,
  same_functor,
}
use Rattle.meaning.specs.Compare.{Result, succeeds, waits, fails, gives, waits_on, and_then, place, places}
use Rattle.laws.proofs.Lists.{if_holds, Each, each_append, Rearranged, nothing, behind, swapped, after}
use Rattle.laws.proofs.Trial.Places.{
  and_then_nothing_before,
  and_then_nothing_behind,
  and_then_associative,
  SameButOrder,
  same_itself,
  same_then,
  and_then_keeps,
  swap_two,
}

-- "From left to right and depth first": under an unassigned variable, a constant or another functor there is nothing more to reach.
unfoldable mutual
  pub reached : (Term → Term) → Term → Term → List Result
  reached look (variable h x) t = place look (variable h x) t ∷ []
  reached look (constant c) t = place look (constant c) t ∷ []
  reached look (compound m g us) (variable h z) = place look (compound m g us) (variable h z) ∷ []
  reached look (compound m g us) (constant k) = place look (compound m g us) (constant k) ∷ []
  reached look (compound m g us) (compound n f ts) =
      when same_functor g f && eqb (count us) (count ts) then all_reached look us ts else fails ∷ []

  pub all_reached : (Term → Term) → Terms → Terms → List Result
  all_reached look end end = []
  all_reached look end (more t ts) = fails ∷ []
  all_reached look (more u us) end = fails ∷ []
  all_reached look (more u us) (more t ts) = reached look u (look t) ++ all_reached look us ts

unfoldable pub taken_together : List Result → Result
taken_together [] = succeeds []
taken_together (r ∷ rs) = and_then r (taken_together rs)

together_append : (rs ss : List Result) → taken_together (rs ++ ss) ≡ and_then (taken_together rs) (taken_together ss)
unfolding taken_together
together_append [] ss = sym (and_then_nothing_before (taken_together ss))
together_append (r ∷ rs) ss =
    ap (and_then r) (together_append rs ss) ∙ sym (and_then_associative r (taken_together rs) (taken_together ss))

-- The comparison comes to all places that it reaches, taken together.
module _ (look : Term → Term) where
  mutual
    unfolding place places reached all_reached taken_together when◌then◌else◌

    place_together : (u t : Term) → place look u t ≡ taken_together (reached look u t)
    place_together (variable h x) t = sym (and_then_nothing_behind (place look (variable h x) t))
    place_together (constant c) t = sym (and_then_nothing_behind (place look (constant c) t))
    place_together (compound m g us) (variable h z) = sym (and_then_nothing_behind (place look (compound m g us) (variable h z)))
    place_together (compound m g us) (constant k) = sym (and_then_nothing_behind (place look (compound m g us) (constant k)))
    place_together (compound m g us) (compound n f ts) = go (same_functor g f && eqb (count us) (count ts)) (places_together us ts)
      where
        go : (b : Bool) → places look us ts ≡ taken_together (all_reached look us ts)
            → (when b then places look us ts else fails) ≡ taken_together (when b then all_reached look us ts else fails ∷ [])
        go true e = e
        go false e = sym (and_then_nothing_behind fails)

    pub places_together : (us ts : Terms) → places look us ts ≡ taken_together (all_reached look us ts)
    places_together end end = refl
    places_together end (more t ts) = sym (and_then_nothing_behind fails)
    places_together (more u us) end = sym (and_then_nothing_behind fails)
    places_together (more u us) (more t ts) =
        rw (place_together u (look t), places_together us ts)
        (sym (together_append (reached look u (look t)) (all_reached look us ts)))

-- Places taken together in whatever order come to the same.
pub together_in_any_order : {rs ss : List Result} → Rearranged rs ss → SameButOrder (taken_together rs) (taken_together ss)
unfolding taken_together
together_in_any_order nothing = same_itself (succeeds [])
together_in_any_order (behind {a = r} e) = and_then_keeps (same_itself r) (together_in_any_order e)
together_in_any_order (swapped {a = r} {b = s} {l = rs}) = swap_two r s (taken_together rs)
together_in_any_order (after e f) = same_then (together_in_any_order e) (together_in_any_order f)

-- At one place there is at most one reader to wait on.
unfoldable pub AtMostOne : Result → Type 0
AtMostOne (succeeds given) = Unit {0}
AtMostOne (waits readers) = (p : ℕ) × (readers ≡ p ∷ [])
AtMostOne fails = Unit {0}

one_failing : Each AtMostOne (fails ∷ [])
unfolding AtMostOne
one_failing = (tt, tt)

module _ (look : Term → Term) where
  mutual
    unfolding place reached all_reached gives waits_on AtMostOne

    each_at_most_one : (u t : Term) → Each AtMostOne (reached look u t)
    each_at_most_one (variable writer x) (variable writer z) = (tt, tt)
    each_at_most_one (variable writer x) (variable reader z) = (tt, tt)
    each_at_most_one (variable writer x) (constant k) = (tt, tt)
    each_at_most_one (variable writer x) (compound n f ts) = (tt, tt)
    each_at_most_one (variable reader x) (variable writer z) = (tt, tt)
    each_at_most_one (variable reader x) (variable reader z) = (tt, tt)
    each_at_most_one (variable reader x) (constant k) = (tt, tt)
    each_at_most_one (variable reader x) (compound n f ts) = (tt, tt)
    each_at_most_one (constant c) (variable writer z) = (tt, tt)
    each_at_most_one (constant c) (variable reader z) = ((z, refl), tt)
    each_at_most_one (constant c) (constant k) = (if_holds AtMostOne (same_constant c k) (succeeds []) fails (λ e. tt) (λ e. tt), tt)
    each_at_most_one (constant c) (compound n f ts) = (tt, tt)
    each_at_most_one (compound m g us) (variable writer z) = (tt, tt)
    each_at_most_one (compound m g us) (variable reader z) = ((z, refl), tt)
    each_at_most_one (compound m g us) (constant k) = (tt, tt)
    each_at_most_one (compound m g us) (compound n f ts) =
        if_holds (Each AtMostOne) (same_functor g f && eqb (count us) (count ts)) (all_reached look us ts) (fails ∷ [])
        (λ e. all_at_most_one us ts) (λ e. one_failing)

    pub all_at_most_one : (us ts : Terms) → Each AtMostOne (all_reached look us ts)
    all_at_most_one end end = tt
    all_at_most_one end (more t ts) = (tt, tt)
    all_at_most_one (more u us) end = (tt, tt)
    all_at_most_one (more u us) (more t ts) =
        each_append AtMostOne (reached look u (look t)) (all_reached look us ts) (each_at_most_one u (look t)) (all_at_most_one us ts)
