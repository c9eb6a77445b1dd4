-- A pair is visited: its mark gets the search's stamp and keeps what it tells, and the search goes on from the pair through which all ways go, if the
-- mark tells one, or from its value. And the first pair visited since may get a mark that tells the pair at hand.
use Prim.Native.Nat.{ℕ, ◌+◌, ◌*◌, ◌-◌, ◌/◌, ◌<◌}
use mathlib.Core.Path.{◌≡◌, sym, ap, subst, ◌∙◌}
use mathlib.Core.Logic.{◌⊎◌, inl, inr}
use mathlib.Core.List.{List}
use mathlib.Core.Option.{Option, none, some}
use native.Mathlib.Decide.{ℕ_discrete}
use native.Mathlib.Omega.{arith}
use lib.ListN.{length, get_or, set, length-set}
use lib.Seq.{get_or-set_same, get_or-set_other}
use Rattle.meaning.specs.Terms.{writer, Term}
use Rattle.meaning.specs.State.{value}
use Rattle.laws.proofs.Terms.Standing.{Stands}
use Rattle.laws.proofs.Circle.Leaning.{Links}
use Rattle.term.specs.Holds.{Holds}
use Rattle.run_circle.specs.Ground.{LeadsVia, ViaAt, stamp_in, end_in, Tells, IsSo}
use Rattle.run_circle.specs.Search.{Scene, Searching, visited, Visited, Stamped, Settled, Leading, Visiting, Visits}
use Rattle.run_circle.proofs.Stamps.{visited_stamp, stamped_then, stamped_set, searching_on}
use Rattle.run_circle.proofs.Visit.{mark_inside, value_inside, value_stems, via_stems, unit_told, head_given, unit_same, value_answer, via_answer}

-- A mark with a stamp, and what it tells besides.
abbrev pub mark_of : ℕ → ℕ → ℕ
mark_of end stamp = 1099511627776 * end + stamp

pub stamp_of : (end stamp : ℕ) → stamp < 1099511627776 → stamp_in (mark_of end stamp) ≡ stamp
stamp_of end stamp l = omega arith

pub end_of : (end stamp : ℕ) → stamp < 1099511627776 → end_in (mark_of end stamp) ≡ end
end_of end stamp l = omega arith

-- The first pair visited since gets a mark that tells the pair at place p.
module _ (s : List ℕ) (x : Scene) (values marks place stamp z state p : ℕ) (h : Searching s x values marks place stamp z) (leading : Leading x state p)
    (q : ℕ) (named : state / 2 ≡ q + 1) where
  first_below : q < x.pairs
  first_below = let f = leading q named in omega (arith, f.place, h.shown.place f.pair (omega (arith, f.below, h.shown.old_is)))

  pub first_inside : marks + q < length s
  first_inside = omega (arith, first_below, h.room)

  pub note_settled : stamp_in (get_or s (marks + q) 0) ≡ stamp → Settled x marks stamp s (set s (marks + q) (mark_of (p + 1) stamp))
  note_settled m = record {
    stamped = stamped_set x marks stamp s q (mark_of (p + 1) stamp) first_below first_inside
        (visited_stamp stamp (mark_of (p + 1) stamp) (stamp_of (p + 1) stamp h.stamp_below)) so;
    same = λ k. go k (ℕ_discrete k (marks + q));
  }
    where
      so : (o : Option ℕ) → Tells o (mark_of (p + 1) stamp) → Tells o (get_or s (marks + q) 0) ⊎ IsSo x.unit x.before o q
      so none e = absurd (omega (arith, h.stamp_above, h.stamp_below))
      so (some r) e =
          let is : p ≡ r = omega (arith, end_of (p + 1) stamp h.stamp_below) in
          inr (subst (λ n. ViaAt x.unit x.before n q) is (leading q named))

      go : (k : ℕ) → Dec (k ≡ marks + q) → visited stamp (get_or (set s (marks + q) (mark_of (p + 1) stamp)) k 0) ≡ visited stamp (get_or s k 0)
      go k (yes e) =
          rw (e, get_or-set_same s (marks + q) (mark_of (p + 1) stamp) 0 first_inside)
          (visited_stamp stamp (mark_of (p + 1) stamp) (stamp_of (p + 1) stamp h.stamp_below) ∙ sym (visited_stamp stamp (get_or s (marks + q) 0) m))
      go k (no d) = ap (visited stamp) (get_or-set_other s (marks + q) k (mark_of (p + 1) stamp) 0 d)

module _ (s : List ℕ) (x : Scene) (values marks place stamp z state p m n : ℕ) (v : Visiting s x values marks place stamp z state p m n) where
  pub visit_mark : marks + p < length s
  visit_mark = mark_inside x values marks place stamp z s v.searching n p v.of_unit v.at

  pub visit_fits : (stamp < 1099511627776) × (p < x.pairs)
  visit_fits = (v.searching.stamp_below, omega (arith, v.at, v.searching.shown.place n v.of_unit))

  abbrev pub new_mark : ℕ
  new_mark = mark_of (end_in m) stamp

  pub visit_stamped : Stamped x marks stamp s (set s (marks + p) new_mark)
  visit_stamped =
      stamped_set x marks stamp s p new_mark visit_fits.1 visit_mark (visited_stamp stamp new_mark (stamp_of (end_in m) stamp visit_fits.0)) so
    where
      so : (o : Option ℕ) → Tells o new_mark → Tells o (get_or s (marks + p) 0) ⊎ IsSo x.unit x.before o p
      so none e = absurd (omega (arith, v.searching.stamp_above, v.searching.stamp_below))
      so (some q) e = inl (ap (λ a. end_in a) (sym v.mark) ∙ sym (end_of (end_in m) stamp visit_fits.0) ∙ e)

  marked_first : Visited stamp (get_or (set s (marks + p) new_mark) (marks + p) 0)
  marked_first =
      rw (get_or-set_same s (marks + p) new_mark 0 visit_mark) (visited_stamp stamp new_mark (stamp_of (end_in m) stamp visit_fits.0))

  others_same : (k : ℕ) → (k ≡ marks + p → ⊥) → visited stamp (get_or (set s (marks + p) new_mark) k 0) ≡ visited stamp (get_or s k 0)
  others_same k d = ap (visited stamp) (get_or-set_other s (marks + p) k new_mark 0 d)

  pub visit_value : (s₁ : List ℕ) → s₁ ≡ set s (marks + p) new_mark → values + p < length s₁
  visit_value s₁ e =
      omega (
        arith,
        value_inside x values marks place stamp z s v.searching n p v.of_unit v.at,
        ap length e ∙ length-set s (marks + p) new_mark,
      )

  pub visit_searching : (s₁ : List ℕ) → s₁ ≡ set s (marks + p) new_mark → Searching s₁ x values marks place stamp z
  visit_searching s₁ e = rw e (searching_on x marks stamp z s (set s (marks + p) new_mark) visit_stamped values place v.searching)

  -- The mark tells a pair through which all ways go.
  module _ (some_end : end_in m ≡ 0 → ⊥) where
    told_via : ViaAt x.unit x.before (end_in m - 1) (x.unit.pair n)
    told_via =
        v.searching.grounds (some (end_in m - 1)) n (omega (arith, v.of_unit, v.searching.shown.old_is))
        (ap (λ k. end_in (get_or s (marks + k) 0)) (sym v.at) ∙ ap (λ a. end_in a) (sym v.mark) ∙ omega arith)

    same_pair : told_via.pair ≡ n
    same_pair =
        v.searching.shown.apart told_via.pair n (omega (arith, told_via.below, v.searching.shown.old_is)) v.of_unit told_via.place

    leads_on : LeadsVia x.before told_via.end n
    leads_on = subst (LeadsVia x.before told_via.end) same_pair told_via.leads

    path_on : Links x.before n told_via.end
    path_on = subst (λ k. Links x.before k told_via.end) same_pair told_via.path

    end_of_unit : told_via.end < x.old
    end_of_unit = omega (arith, told_via.end_below, v.searching.shown.old_is)

    pub visits_via : (s₁ : List ℕ) (r : ℕ) → s₁ ≡ set s (marks + p) new_mark → r ≡ 8 * (end_in m - 1) + 1 → Visits s s₁ x marks stamp z n r
    unfolding Holds Stands
    visits_via s₁ r set_now is = rw set_now (record {
      stamped = visit_stamped;
      marked = subst (λ q. Visited stamp (get_or (set s (marks + p) new_mark) (marks + q) 0)) v.at marked_first;
      now = some (Term.variable writer told_via.end);
      given = λ e. absurd (omega arith);
      told = λ d. record { word = omega (arith, told_via.end_place); held = tt; pairs = λ j e. rw e end_of_unit };
      stems = λ d. via_stems x n told_via.end leads_on path_on;
      answer = via_answer x values marks place stamp z s v.searching n p v.of_unit v.at (set s (marks + p) new_mark) visit_stamped v.other
          marked_first others_same told_via.end end_of_unit leads_on path_on;
    })

  -- Or the search goes on from its value.
  pub visits_value : (s₁ s₂ : List ℕ) (r : ℕ) → s₁ ≡ set s (marks + p) new_mark → Settled x marks stamp s₁ s₂ → r ≡ get_or s₁ (values + p) 0
      → Visits s s₂ x marks stamp z n r
  visits_value s₁ s₂ r set_now settled reads = record {
    stamped = whole;
    marked = subst (λ q. Visited stamp (get_or s₂ (marks + q) 0)) v.at marked_still;
    now = value x.after n;
    given = head_given x values marks place stamp z s v.searching n p v.of_unit v.at s₁ first r reads;
    told = unit_told x values marks place stamp z s v.searching n p v.of_unit v.at s₁ first r reads;
    stems = λ d. value_stems x n (unit_same x values marks place stamp z s v.searching n p v.of_unit v.at s₁ first r reads d);
    answer = value_answer x values marks place stamp z s v.searching n p v.of_unit v.at s₂ whole v.other marked_still
        (λ k d. settled.same k ∙ ap (λ l. visited stamp (get_or l k 0)) set_now ∙ others_same k d);
  }
    where
      first : Stamped x marks stamp s s₁
      first = rw set_now visit_stamped

      whole : Stamped x marks stamp s s₂
      whole = stamped_then x marks stamp s s₁ s₂ first settled.stamped

      marked_still : Visited stamp (get_or s₂ (marks + p) 0)
      marked_still = settled.same (marks + p) ∙ ap (λ l. visited stamp (get_or l (marks + p) 0)) set_now ∙ marked_first
