-- A comparison that agreed agrees later too, wherever what is found in the goal only grew: a new pair of the head gets what was found, followed further,
-- and a writer of the goal gets the same term of the head, renamed apart anew.
use Prim.Native.Nat.{ℕ, ◌+◌}
use mathlib.Core.Path.{◌≡◌, refl, sym, ◌∙◌}
use mathlib.Core.Bool.{Bool, true, false, ◌&&◌}
use mathlib.Core.List.{List, [], ◌∷◌, ◌++◌}
use lib.Dec.{eqb}
use Rattle.meaning.specs.Bytes.{when◌then◌else◌}
use Rattle.meaning.specs.Terms.{
  writer,
  reader,
  Functor,
  Term,
  Terms,
  variable,
  constant,
  compound,
  end,
  more,
  count,
  same_constant,
  same_functor,
  renamed,
  all_renamed,
}
use Rattle.meaning.specs.Compare.{Assignment, Result, succeeds, fails, gives, waits_on, with_assignments, and_then, place, places}
use Rattle.laws.proofs.Lists.{differ, Paired, done, pair, paired_append}
use Rattle.laws.proofs.Trial.Results.{fails_not_succeeds, waits_not_succeeds, both}
use Rattle.laws.proofs.Trial.Table.{EachArgument, ◌:=◌}
use Rattle.laws.proofs.Trial.Later.{FoundLater, count_renamed}

-- An assignment, and what it is later: the head's pairs begin at p, and later at q; its compounds at c, and later at d.
pub data Again (Found : Term → Type 0) (look_later : Term → Term) (p c q d : ℕ) : Assignment → Assignment → Type 0 where
  to_head : (x : ℕ) (t : Term) → Found t → Again Found look_later p c q d (p + x := t) (q + x := look_later t)
  to_goal : (z : ℕ) (u : Term) → Found (variable writer z) → Again Found look_later p c q d (z := renamed p c u) (z := renamed q d u)

-- A head's writer agrees with anything but a writer.
writer_agrees : (look : Term → Term) (x : ℕ) (t : Term) → ((z : ℕ) → t ≡ variable writer z → ⊥) → place look (variable writer x) t ≡ gives x t
unfolding place
writer_agrees look x (variable writer z) d = absurd (d z refl)
writer_agrees look x (variable reader z) d = refl
writer_agrees look x (constant k) d = refl
writer_agrees look x (compound n f ts) d = refl

no_writer_later : (t s : Term) → FoundLater t s → ((z : ℕ) → t ≡ variable writer z → ⊥) → (z : ℕ) → s ≡ variable writer z → ⊥
unfolding FoundLater
no_writer_later (variable writer y) s l d z e = d y refl
no_writer_later (variable reader y) s l d z e = l z e
no_writer_later (constant k) s l d z e = differ (cc)
no_writer_later (compound n f ts) s l d z e = differ (cc)

module _ (Goal Found : Term → Type 0) (look look_later : Term → Term)
    (inside_found : (n : ℕ) (f : Functor) (ts : Terms) → Found (compound n f ts) → EachArgument Goal ts)
    (finds : (t : Term) → Goal t → Found (look t))
    (later : (t : Term) → Found t → FoundLater t (look_later t))
    (further : (t : Term) → Goal t → look_later (look t) ≡ look_later t)
    (p c q d : ℕ) where
  -- A result that succeeds, with what corresponds to these assignments.
  pub record AgreesLater (r : Result) (given : List Assignment) : Type 0 where
    pub given_later : List Assignment
    pub agrees : r ≡ succeeds given_later
    pub paired : Paired (Again Found look_later p c q d) given given_later

  nothing_given : (given : List Assignment) → succeeds [] ≡ succeeds given → AgreesLater (succeeds []) given
  nothing_given given e =
      let none : given ≡ [] = cc in
      rw none (record { given_later = []; agrees = refl; paired = done })

  head_agrees : (x : ℕ) (t : Term) → Found t → ((z : ℕ) → t ≡ variable writer z → ⊥) → (given : List Assignment)
      → place look (variable writer (p + x)) t ≡ succeeds given → AgreesLater (place look_later (variable writer (q + x)) (look_later t)) given
  unfolding gives
  head_agrees x t found no_writer given e =
      let its : succeeds ((p + x := t) ∷ []) ≡ succeeds given = sym (writer_agrees look (p + x) t no_writer) ∙ e in
      let only : given ≡ (p + x := t) ∷ [] = cc in
      rw only
      (record {
        given_later = (q + x := look_later t) ∷ [];
        agrees = writer_agrees look_later (q + x) (look_later t) (no_writer_later t (look_later t) (later t found) no_writer);
        paired = pair (to_head x t found) done;
      })

  goal_agrees : (z : ℕ) (u : Term) → Found (variable writer z) → (given : List Assignment) → gives z (renamed p c u) ≡ succeeds given
      → AgreesLater (gives z (renamed q d u)) given
  unfolding gives
  goal_agrees z u found given e =
      let only : given ≡ (z := renamed p c u) ∷ [] = cc in
      rw only (record { given_later = (z := renamed q d u) ∷ []; agrees = refl; paired = pair (to_goal z u found) done })

  together_agree : (r s : Result) (given first others : List Assignment) → given ≡ first ++ others → AgreesLater r first → AgreesLater s others
      → AgreesLater (and_then r s) given
  unfolding and_then with_assignments
  together_agree r s given first others e one two =
      rw (e, one.agrees, two.agrees)
      (record { given_later = one.given_later ++ two.given_later; agrees = refl; paired = paired_append one.paired two.paired })

  mutual
    unfolding EachArgument FoundLater place places renamed all_renamed waits_on when◌then◌else◌

    place_agrees_later : (u t : Term) → Found t → (given : List Assignment) → place look (renamed p c u) t ≡ succeeds given
        → AgreesLater (place look_later (renamed q d u) (look_later t)) given
    place_agrees_later (variable writer x) (variable writer z) found given e = absurd (fails_not_succeeds e)
    place_agrees_later (variable writer x) (variable reader z) found given e = head_agrees x (variable reader z) found (λ y i. differ (cc)) given e
    place_agrees_later (variable writer x) (constant k) found given e = head_agrees x (constant k) found (λ y i. differ (cc)) given e
    place_agrees_later (variable writer x) (compound n f ts) found given e = head_agrees x (compound n f ts) found (λ y i. differ (cc)) given e
    place_agrees_later (variable reader x) (variable writer z) found given e =
        rw (later (variable writer z) found) (goal_agrees z (variable reader x) found given e)
    place_agrees_later (variable reader x) (variable reader z) found given e = absurd (fails_not_succeeds e)
    place_agrees_later (variable reader x) (constant k) found given e = absurd (fails_not_succeeds e)
    place_agrees_later (variable reader x) (compound n f ts) found given e = absurd (fails_not_succeeds e)
    place_agrees_later (constant a) (variable writer z) found given e =
        rw (later (variable writer z) found) (goal_agrees z (constant a) found given e)
    place_agrees_later (constant a) (variable reader z) found given e = absurd (waits_not_succeeds e)
    place_agrees_later (constant a) (constant k) found given e = rw (later (constant k) found) (go (same_constant a k) e)
      where
        go : (b : Bool) → (when b then succeeds [] else fails) ≡ succeeds given → AgreesLater (when b then succeeds [] else fails) given
        go true i = nothing_given given i
        go false i = absurd (fails_not_succeeds i)
    place_agrees_later (constant a) (compound n f ts) found given e = absurd (fails_not_succeeds e)
    place_agrees_later (compound m g us) (variable writer z) found given e =
        rw (later (variable writer z) found) (goal_agrees z (compound m g us) found given e)
    place_agrees_later (compound m g us) (variable reader z) found given e = absurd (waits_not_succeeds e)
    place_agrees_later (compound m g us) (constant k) found given e = absurd (fails_not_succeeds e)
    place_agrees_later (compound m g us) (compound n f ts) found given e =
        rw (later (compound n f ts) found, count_renamed q d us)
        (go (same_functor g f && eqb (count us) (count ts)) (rw (count_renamed p c us) at e)
        (λ i. places_agree_later us ts (inside_found n f ts found) given i))
      where
        go : (b : Bool) → (when b then places look (all_renamed p c us) ts else fails) ≡ succeeds given
            → (places look (all_renamed p c us) ts ≡ succeeds given → AgreesLater (places look_later (all_renamed q d us) ts) given)
            → AgreesLater (when b then places look_later (all_renamed q d us) ts else fails) given
        go true i deeper = deeper i
        go false i deeper = absurd (fails_not_succeeds i)

    pub places_agree_later : (us ts : Terms) → EachArgument Goal ts → (given : List Assignment) → places look (all_renamed p c us) ts ≡ succeeds given
        → AgreesLater (places look_later (all_renamed q d us) ts) given
    places_agree_later end end goals given e = nothing_given given e
    places_agree_later end (more t ts) goals given e = absurd (fails_not_succeeds e)
    places_agree_later (more u us) end goals given e = absurd (fails_not_succeeds e)
    places_agree_later (more u us) (more t ts) goals given e =
        let b = both (place look (renamed p c u) (look t)) (places look (all_renamed p c us) ts) given e in
        together_agree (place look_later (renamed q d u) (look_later t)) (places look_later (all_renamed q d us) ts) given b.first b.others b.together
        (rw (further t goals.0) at (place_agrees_later u (look t) (finds t goals.0) b.first b.one_succeeds))
        (places_agree_later us ts goals.1 b.others b.two_succeeds)
