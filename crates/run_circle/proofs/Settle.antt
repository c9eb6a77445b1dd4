-- Marks of visited pairs are turned into those of ground pairs: what a search has told stays true.
use Prim.Native.Nat.{ℕ, ◌+◌, ◌*◌, ◌<◌}
use mathlib.Core.Path.{◌≡◌, refl, sym, ap, ◌∙◌}
use mathlib.Core.Bool.{Bool, true, false, true≢false}
use mathlib.Core.List.{List}
use mathlib.Core.Logic.{◌⊎◌, inr, ⊎_elim}
use mathlib.Core.Option.{Option, none, some}
use native.Mathlib.Decide.{ℕ_discrete}
use native.Mathlib.Omega.{arith}
use lib.Dec.{eqb}
use lib.ListN.{length, get_or, set, length-set}
use lib.Seq.{get_or-set_same, get_or-set_other}
use borrow.Author.Tests.{ne_eqb}
use Rattle.meaning.specs.Terms.{writer, Term}
use Rattle.meaning.specs.State.{value}
use Rattle.laws.proofs.Terms.Standing.{Stands}
use Rattle.term.specs.Holds.{Holds}
use Rattle.term.specs.Words.{tag_in, rest_in}
use Rattle.run_circle.specs.Ground.{Ground, GroundAt, stamp_in, Tells, IsSo}
use Rattle.run_circle.specs.Search.{Scene, Told, StandsAt, LeadsIs, LastLeads, Searching, visited, Searched, Settled}
use Rattle.run_circle.proofs.Grounds.{ground_value, ground_leans}
use Rattle.run_circle.proofs.Measure.{term_weight, falls_to_pair, falls_to_value, falls_to_argument}
use Rattle.run_circle.proofs.Stamps.{
  visited_stamp,
  visited_ground,
  stamped_same,
  stamped_then,
  stamped_set,
  searching_on,
  seen_on,
  front_word,
  whole_length,
}
use Rattle.run_circle.proofs.Visit.{Variable, variable_of, mark_inside, value_inside, leans_of}
use Rattle.run_circle.proofs.Walk.{Argument, Rest, enter, argument_of}

module _ (x : Scene) (marks stamp : ℕ) where
  pub settled_same : (s : List ℕ) → Settled x marks stamp s s
  settled_same s = record { stamped = stamped_same x marks stamp s; same = λ k. refl }

  pub settled_then : (s t u : List ℕ) → Settled x marks stamp s t → Settled x marks stamp t u → Settled x marks stamp s u
  settled_then s t u a b = record {
    stamped = stamped_then x marks stamp s t u a.stamped b.stamped;
    same = λ k. b.same k ∙ a.same k;
  }

  settled_set : (s : List ℕ) (p : ℕ) → p < x.pairs → marks + p < length s → stamp_in (get_or s (marks + p) 0) ≡ stamp → GroundAt x.unit x.before p
      → Settled x marks stamp s (set s (marks + p) 1)
  settled_set s p h inside m known = record {
    stamped = stamped_set x marks stamp s p 1 h inside (visited_ground stamp) so;
    same = λ k. go k (ℕ_discrete k (marks + p));
  }
    where
      so : (o : Option ℕ) → Tells o 1 → Tells o (get_or s (marks + p) 0) ⊎ IsSo x.unit x.before o p
      so none e = inr known
      so (some q) e = absurd (omega arith)

      go : (k : ℕ) → Dec (k ≡ marks + p) → visited stamp (get_or (set s (marks + p) 1) k 0) ≡ visited stamp (get_or s k 0)
      go k (yes e) =
          rw (e, get_or-set_same s (marks + p) 1 0 inside) (visited_ground stamp ∙ sym (visited_stamp stamp (get_or s (marks + p) 0) m))
      go k (no d) = ap (visited stamp) (get_or-set_other s (marks + p) k 1 0 d)

  -- What a search that did not find its pair has told.
  pub settled_answer : (z : ℕ) (From : ℕ → Type 0) (s t u : List ℕ) → Searched s t x marks stamp z From false → Settled x marks stamp t u
      → Searched s u x marks stamp z From false
  settled_answer z From s t u a b = record {
    stamped = stamped_then x marks stamp s t u a.stamped b.stamped;
    found = λ f. absurd (true≢false (sym f));
    visited = λ f j r. seen_on x marks stamp z t u b.stamped j (a.visited f j r);
    closed = λ f. record {
      new = λ j h d e i l. seen_on x marks stamp z t u b.stamped i
          ((a.closed f).new j h d (sym (b.same (marks + x.unit.pair j)) ∙ e) i l);
    };
  }

-- On the way from a ground pair: the value at hand has ground pairs only.
pub record Settles (s₀ s : List ℕ) (x : Scene) (marks stamp t : ℕ) : Type 0 where
  pub now : Option Term
  pub told : Told x false t now
  pub all : (j : ℕ) → StandsAt j now → Ground x.before j
  pub settled : Settled x marks stamp s₀ s

abbrev pub is_one : ℕ → Bool
is_one m = eqb m 1

module _ (s₀ : List ℕ) (values marks stamp pair : ℕ) where
  abbrev pub SettleAsks : Type 0
  SettleAsks = (x : Scene) × (place : ℕ) × (goal : ℕ) × Searching s₀ x values marks place stamp goal × GroundAt x.unit x.before pair

  pub settle_small : SettleAsks → pair < length s₀
  settle_small (x, place, goal, h, g) = omega (arith, g.place, g.below, h.shown.old_is, h.shown.place g.pair (omega (arith, g.below, h.shown.old_is)), h.room)

  abbrev pub Settling : List ℕ → ℕ → Type 0
  Settling s t = (x : Scene) (place goal : ℕ) → Searching s₀ x values marks place stamp goal → GroundAt x.unit x.before pair
      → Settles s₀ s x marks stamp t

  pub settling_first : (t : ℕ) → t ≡ 8 * pair + 1 → Settling s₀ t
  unfolding Holds Stands
  settling_first t e x place goal h g = record {
    now = some (Term.variable writer g.pair);
    told = record {
      word = omega (arith, g.place);
      held = tt;
      pairs = λ j r. rw r (omega (arith, g.below, h.shown.old_is));
    };
    all = λ j r. rw r g.a_ground;
    settled = settled_same x marks stamp s₀;
  }

  module _ (s : List ℕ) (t : ℕ) (settling : Settling s t) where
    pub settling_last : (x : Scene) (place goal : ℕ) → Searching s₀ x values marks place stamp goal → GroundAt x.unit x.before pair
        → Settled x marks stamp s₀ s
    settling_last x place goal h g = (settling x place goal h g).settled

    module _ (x : Scene) (place goal : ℕ) (h : Searching s₀ x values marks place stamp goal) (g : GroundAt x.unit x.before pair) where
      abbrev at_hand : Settles s₀ s x marks stamp t
      at_hand = settling x place goal h g

      pub here : Searching s x values marks place stamp goal
      here = searching_on x marks stamp goal s₀ s at_hand.settled.stamped values place h

    -- At a compound: on to the last argument that leads on.
    module _ (six : tag_in t ≡ 6) (q : ℕ) (at : q ≡ rest_in t) where
      settle_rest : (x : Scene) (place goal : ℕ) (h : Searching s₀ x values marks place stamp goal) (g : GroundAt x.unit x.before pair)
          → Rest x false q (tag_in (get_or s q 0)) 1 (settling x place goal h g).now
      settle_rest x place goal h g =
          (enter x values marks place stamp goal false s t (settling x place goal h g).now (here x place goal h g) (settling x place goal h g).told six q
          (tag_in (get_or s q 0)) at refl).0

      pub settle_count : SettleAsks → q + 7 < length s
      settle_count (x, place, goal, h, g) =
          omega (arith, (settle_rest x place goal h g).inside, whole_length s x values marks place stamp goal (here x place goal h g))

      module _ (k : ℕ) (last : LastLeads s q k) (some_left : k ≡ 0 → ⊥) (a : ℕ) (reads : a ≡ get_or s (q + k) 0) where
        settle_argument : (x : Scene) (place goal : ℕ) (h : Searching s₀ x values marks place stamp goal) (g : GroundAt x.unit x.before pair)
            → Argument x false a (settling x place goal h g).now
        settle_argument x place goal h g =
            argument_of x values marks place stamp goal false t (settling x place goal h g).now (settling x place goal h g).told q (tag_in (get_or s q 0)) 1
            (settle_rest x place goal h g) s (here x place goal h g) k a (omega arith) last.among reads

        pub settling_argument : Settling s a
        settling_argument x place goal h g =
            let u = settle_argument x place goal h g in
            record {
              now = u.value;
              told = u.told;
              all = λ j r. (settling x place goal h g).all j (u.within j r);
              settled = (settling x place goal h g).settled;
            }

        pub argument_lighter : SettleAsks → term_weight s marks is_one false a < term_weight s marks is_one false t
        argument_lighter (x, place, goal, h, g) =
            let u = settle_argument x place goal h g in
            falls_to_argument x values marks place stamp goal s s (here x place goal h g) (stamped_same x marks stamp s) is_one (omega arith) false t a
            (settling x place goal h g).now u.value (settling x place goal h g).told u.told u.lower

    -- At a variable: its pair is marked as ground, and on to its value.
    module _ (six : tag_in t ≡ 6 → ⊥) (leads : LeadsIs t true) (p : ℕ) (at : p ≡ rest_in t) where
      settle_pair : (x : Scene) (place goal : ℕ) (h : Searching s₀ x values marks place stamp goal) (g : GroundAt x.unit x.before pair)
          → Variable x marks stamp goal false t (settling x place goal h g).now
      settle_pair x place goal h g =
          variable_of x marks stamp goal false t (settling x place goal h g).now (settling x place goal h g).told six
          (⊎_elim (λ e. absurd (six e)) (λ (d, l). d) leads) (⊎_elim (λ e. absurd (six e)) (λ (d, l). l) leads)

      pub settle_mark : SettleAsks → marks + p < length s
      settle_mark (x, place, goal, h, g) =
          let u = settle_pair x place goal h g in
          mark_inside x values marks place stamp goal s (here x place goal h g) u.pair p u.on (at ∙ u.place)

      module _ (m : stamp_in (get_or s (marks + p) 0) ≡ stamp) (s₁ : List ℕ) (set_now : s₁ ≡ set s (marks + p) 1) where
        pub settle_value : SettleAsks → values + p < length s₁
        settle_value (x, place, goal, h, g) =
            let u = settle_pair x place goal h g in
            omega (
              arith,
              value_inside x values marks place stamp goal s (here x place goal h g) u.pair p u.on (at ∙ u.place),
              ap length set_now ∙ length-set s (marks + p) 1,
            )

        pub value_lighter : SettleAsks → (w : ℕ) → term_weight s₁ marks is_one false w < term_weight s marks is_one false t
        value_lighter (x, place, goal, h, g) w =
            let not_one : is_one (get_or s (marks + p) 0) ≡ false = ne_eqb (get_or s (marks + p) 0) 1 (λ e. omega (arith, h.stamp_above)) in
            rw set_now (omega (
              arith,
              falls_to_value x values marks place stamp goal s (here x place goal h g) is_one p 1 (settle_mark (x, place, goal, h, g)) not_one refl false w,
              falls_to_pair s marks is_one false t,
            ))

        pub settling_value : (w : ℕ) → w ≡ get_or s₁ (values + p) 0 → Settling s₁ w
        settling_value w reads x place goal h g =
            let u = settle_pair x place goal h g in
            let known = (settling x place goal h g).all u.pair u.stands in
            record {
              now = value x.after u.pair;
              told = ⊎_elim (λ (same, t). rw (reads ∙ word) t) (λ (nothing, t). absurd (ground_value x.before x.after h.shown.stays known nothing))
                  (h.shown.unit_value u.pair u.on);
              all = λ j r. ground_leans x.before x.after h.shown.stays known j (leans_of x.after j u.pair r);
              settled = now_settled;
            }
          where
            now_settled : Settled x marks stamp s₀ s₁
            now_settled =
                let u = settle_pair x place goal h g in
                settled_then x marks stamp s₀ s s₁ (settling x place goal h g).settled
                (rw set_now (settled_set x marks stamp s p (omega (arith, at, u.place, h.shown.place u.pair u.on))
                (settle_mark (x, place, goal, h, g)) m (record {
                  pair = u.pair;
                  below = omega (arith, u.on, h.shown.old_is);
                  place = sym (at ∙ u.place);
                  a_ground = (settling x place goal h g).all u.pair u.stands;
                })))

            word : get_or s₁ (values + p) 0 ≡ get_or x.front (x.values + x.unit.pair (settle_pair x place goal h g).pair) 0
            word =
                let u = settle_pair x place goal h g in
                front_word s₁ x values marks place stamp goal (searching_on x marks stamp goal s₀ s₁ now_settled.stamped values place h) (values + p)
                (omega (arith, h.shown.room, h.shown.place u.pair u.on, h.values_at, at, u.place))
                ∙ ap (λ k. get_or x.front k 0) (omega (arith, h.values_at, at, u.place))
