-- The searches from the entries' terms, one after the other, each with a stamp of its own: no circle through the entries passed.
use Prim.Native.Nat.{ℕ, ◌+◌, ◌≤◌, ◌<◌, ◌^◌}
use mathlib.Core.Path.{◌≡◌, refl, sym, ap, subst, ◌∙◌}
use mathlib.Core.Bool.{Bool, true, false, true≢false}
use mathlib.Core.List.{List}
use native.Mathlib.Decide.{ℕ_discrete}
use native.Mathlib.Omega.{arith}
use lib.Dec.{eqb}
use lib.ListN.{length, get_or, take}
use lib.Seq.{get_or-take}
use borrow.Author.Tests.{eq-eqb, ne_eqb}
use Rattle.meaning.specs.State.{value}
use Rattle.laws.proofs.Circle.Leaning.{Links}
use Rattle.laws.proofs.Circle.Search.{circle_says, no_circle_says}
use Rattle.term.specs.Frames.{Only}
use Rattle.term.specs.Layout.{gift_pair, gift_term}
use Rattle.run_circle.specs.Circle.{entry_pair, entry_term, Held, Trial, old, Tried, Answered}
use Rattle.run_circle.specs.Ground.{Ground, stamp_in, Grounds, NewGrounds}
use Rattle.run_circle.specs.Search.{Scene, Told, StandsAt, Searching, Visited, Stamped, Searched}
use Rattle.run_circle.proofs.Calls.{TermAsks, TermTells}
use Rattle.run_circle.proofs.Grounds.{new_none, new_then, new_same, grounds_on, marked_ground}
use Rattle.run_circle.proofs.Stamps.{not_visited, visited_below}
use Rattle.run_circle.proofs.Scenes.{scene, shown, entry_told, before_same}
use Rattle.run_circle.proofs.Through.{circle_on_entry, not_around}
use Rattle.run_circle.proofs.Visit.{link}

-- Before the i-th entry, s₁ being the scratch with the entries' pairs held.
pub record Passed (s₀ s₁ s : List ℕ) (y : Trial) (marks stamp i : ℕ) : Type 0 where
  pub size : length s ≡ length s₁
  pub front : take marks s ≡ take marks s₁
  pub above : (k : ℕ) → marks + y.unit.pairs ≤ k → get_or s k 0 ≡ get_or s₁ k 0
  pub stamps : (k : ℕ) → marks ≤ k → k < marks + y.unit.pairs → stamp_in (get_or s k 0) < stamp + i
  pub grounds : NewGrounds y.unit.places y.unit.values marks s₁ s
  pub clear : (j z : ℕ) → j < i → z < old y → y.unit.places.pair z ≡ entry_pair s₀ j → Links y.after z z → ⊥

module _ (s₀ s₁ : List ℕ) (y : Trial) (values marks n stamp : ℕ) (tried : Tried s₀ y values marks n stamp) (held : Held s₀ s₁ values n true) where
  abbrev x : Scene
  x = scene y values (take marks s₁) (length s₁)

  pub passed_none : Passed s₀ s₁ s₁ y marks stamp 0
  passed_none = record {
    size = refl;
    front = refl;
    above = λ k h. refl;
    stamps = λ k l h.
        omega (
          arith,
          tried.stamps_new k l h,
          ap (λ m. stamp_in m) (held.others k (λ i m e.
              omega (arith, (tried.entry i m).place, tried.unit.held.place (tried.entry i m).pair (tried.entry i m).of_unit, tried.marks_behind))),
        );
    grounds = new_none y.unit.places y.unit.values marks s₁;
    clear = λ j z h. absurd (omega arith);
  }

  -- The scratch with the entries' pairs held has the marks that it had.
  held_grounds : Grounds y.unit.places y.unit.values marks s₁
  held_grounds =
      grounds_on y.unit.places y.unit.values marks s₀ s₁
      (new_same y.unit.places y.unit.values marks s₀ s₁ (λ p. held.others (marks + p) (λ i m e.
      omega (arith, (tried.entry i m).place, tried.unit.held.place (tried.entry i m).pair (tried.entry i m).of_unit, tried.marks_behind))))
      tried.grounds

  module _ (s : List ℕ) (i : ℕ) (passed : Passed s₀ s₁ s y marks stamp i) where
    only : Only marks (marks + y.unit.pairs) s₁ s
    only = record {
      size = passed.size;
      below = λ k h. sym (get_or-take marks s k 0 h) ∙ ap (λ l. get_or l k 0) passed.front ∙ get_or-take marks s₁ k 0 h;
      above = passed.above;
    }

    -- After the last entry there is no circle.
    pub passed_all : n ≤ i → i ≤ n → Answered s₀ s₁ s y marks n stamp false
    passed_all l m = record {
      answer = sym ((no_circle_says y.after).1 (λ a c. none_left (circle_on_entry s₀ y values marks n stamp tried a c)));
      only = only;
      stamps_new = λ k b h. omega (arith, passed.stamps k b h);
      grounds = passed.grounds;
    }
      where
        none_left : (j : ℕ) × (h : j < n) × Links y.after (tried.entry j h).pair (tried.entry j h).pair → ⊥
        none_left (j, h, c) =
            passed.clear j (tried.entry j h).pair (omega arith) (tried.entry j h).of_unit (sym (tried.entry j h).place) c

    module _ (h : i < n) where
      abbrev goal : ℕ
      goal = (tried.entry i h).pair

      region : (k : ℕ) → k < values → get_or s k 0 ≡ get_or s₀ k 0
      region k l =
          sym (get_or-take marks s k 0 (omega (arith, tried.marks_behind))) ∙ ap (λ l. get_or l k 0) passed.front
          ∙ before_same s₀ s₁ y values marks n stamp tried held k l

      pub entry_inside : gift_term i < length s
      entry_inside = omega (arith, tried.entries_before, tried.marks_behind, tried.room, held.size, passed.size)

      grounds_now : Grounds y.unit.places y.unit.values marks s
      grounds_now = grounds_on y.unit.places y.unit.values marks s₁ s passed.grounds held_grounds

      pub searching : Searching s x values marks (entry_pair s i) (stamp + i) goal
      searching = record {
        shown = shown s₀ s₁ y values marks n stamp tried held;
        front = passed.front;
        size = passed.size;
        values_at = refl;
        room = omega (arith, tried.room, held.size, passed.size);
        unit_pair = (tried.entry i h).of_unit;
        place_at = region (gift_pair i) (omega (arith, tried.entries_before)) ∙ (tried.entry i h).place;
        unassigned = (tried.entry i h).unassigned;
        stamp_above = omega (arith, tried.stamp_above);
        stamp_below = omega (arith, tried.stamps_fit);
        few = tried.few_pairs;
        grounds = grounds_now;
      }

      pub told : Told x true (entry_term s i) (value y.after goal)
      told =
          let words : entry_term s i ≡ entry_term (take marks s₁) i =
          region (gift_term i) (omega (arith, tried.entries_before))
          ∙ sym (before_same s₀ s₁ y values marks n stamp tried held (gift_term i) (omega (arith, tried.entries_before))) in
          rw words (entry_told s₀ s₁ y values marks n stamp tried held i h)

      module _ (s' : List ℕ) (stamped : Stamped x marks (stamp + i) s s') where
        new_stamp : (k : ℕ) → marks ≤ k → k < marks + y.unit.pairs → stamp_in (get_or s' k 0) < stamp + (i + 1)
        new_stamp k b l = go (ℕ_discrete (stamp_in (get_or s' k 0)) (stamp + i)) (ℕ_discrete (get_or s' k 0) 1)
          where
            go : Dec (stamp_in (get_or s' k 0) ≡ stamp + i) → Dec (get_or s' k 0 ≡ 1) → stamp_in (get_or s' k 0) < stamp + (i + 1)
            go (yes e) f = omega arith
            go (no d) (yes e) = omega (arith, tried.stamp_above)
            go (no d) (no e) =
                omega (
                  arith,
                  ap (λ m. stamp_in m) (stamped.others k (λ v. true≢false (sym v ∙ not_visited (stamp + i) (get_or s' k 0) e d))),
                  passed.stamps k b l,
                )

      pub entry_found : (s' : List ℕ) → Searched s s' x marks (stamp + i) goal (λ j. StandsAt j (value y.after goal)) true
          → Answered s₀ s₁ s' y marks n stamp true
      entry_found s' r =
          let (j, q, l) = r.found refl in
          record {
            answer = sym ((circle_says y.after).1 (goal, link x goal j goal q l));
            only = record {
              size = r.stamped.size ∙ passed.size;
              below = λ k b.
                  sym (get_or-take marks s' k 0 b) ∙ ap (λ l. get_or l k 0) (r.stamped.front ∙ passed.front) ∙ get_or-take marks s₁ k 0 b;
              above = λ k b. r.stamped.above k b ∙ passed.above k b;
            };
            stamps_new = λ k b m. omega (arith, new_stamp s' r.stamped k b m);
            grounds = new_then y.unit.places y.unit.values marks s₁ s s' passed.grounds r.stamped.grounds;
          }

      pub passed_next : (s' : List ℕ) → Searched s s' x marks (stamp + i) goal (λ j. StandsAt j (value y.after goal)) false
          → Passed s₀ s₁ s' y marks stamp (i + 1)
      passed_next s' r = record {
        size = r.stamped.size ∙ passed.size;
        front = r.stamped.front ∙ passed.front;
        above = λ k b. r.stamped.above k b ∙ passed.above k b;
        stamps = new_stamp s' r.stamped;
        grounds = new_then y.unit.places y.unit.values marks s₁ s s' passed.grounds r.stamped.grounds;
        clear = λ j z l b e c. go j z l b e c (ℕ_discrete j i);
      }
        where
          fresh : (j : ℕ) → j < old y → Visited (stamp + i) (get_or s (marks + y.unit.places.pair j) 0) → Ground y.unit.values j
          fresh j l v =
              let low = passed.stamps (marks + y.unit.places.pair j) (omega arith) (omega (arith, tried.unit.held.place j l)) in
              marked_ground y.unit.places y.unit.values marks tried.unit_apart s grounds_now j l (visited_below (stamp + i) (get_or s (marks + y.unit.places.pair j) 0) low v)

          not_here : Links y.after goal goal → ⊥
          not_here = not_around x marks (stamp + i) goal s s' (shown s₀ s₁ y values marks n stamp tried held) (tried.entry i h).of_unit
              (tried.entry i h).unassigned fresh r

          lower : (j : ℕ) → j < i + 1 → (j ≡ i → ⊥) → j < i
          lower j l d = omega arith

          go : (j z : ℕ) → j < i + 1 → z < old y → y.unit.places.pair z ≡ entry_pair s₀ j → Links y.after z z → Dec (j ≡ i) → ⊥
          go j z l b e c (no d) = passed.clear j z (lower j l d) b e c
          go j z l b e c (yes f) =
              let is : z ≡ goal = tried.unit_apart z goal b (tried.entry i h).of_unit (e ∙ ap (entry_pair s₀) f ∙ (tried.entry i h).place) in
              not_here (subst (λ k. Links y.after k k) is c)

-- The same in the form in which the calls have it.
module _ (s₁ : List ℕ) (values marks n stamp : ℕ) where
  abbrev pub Asks : Type 0
  Asks = (y : Trial) × (s₀ : List ℕ) × Tried s₀ y values marks n stamp × Held s₀ s₁ values n true

  abbrev pub Passing : List ℕ → ℕ → Type 0
  Passing s i = (y : Trial) (s₀ : List ℕ) → Tried s₀ y values marks n stamp → Held s₀ s₁ values n true → Passed s₀ s₁ s y marks stamp i

  abbrev pub Tells : List ℕ → Bool → Type 0
  Tells s' r = (y : Trial) (s₀ : List ℕ) → Tried s₀ y values marks n stamp → Held s₀ s₁ values n true → Answered s₀ s₁ s' y marks n stamp r

  module _ (s : List ℕ) (i : ℕ) (passing : Passing s i) (h : i < n) where
    pub entry_at : Asks → gift_term i < length s
    entry_at (y, s₀, tried, held) = entry_inside s₀ s₁ y values marks n stamp tried held s i (passing y s₀ tried held) h

    pub stamp_fits : Asks → stamp + i < 2 ^ 64
    stamp_fits (y, s₀, tried, held) = omega (arith, tried.stamps_fit)

    module _ (place a w : ℕ) (at : place ≡ entry_pair s i) (number : a ≡ i) (word : w ≡ entry_term s i) where
      pub entry_call : Asks → TermAsks s values marks place (stamp + a) true w
      entry_call (y, s₀, tried, held) =
          let p = passing y s₀ tried held in
          rw (at, number, word) (
            scene y values (take marks s₁) (length s₁),
            (tried.entry i h).pair,
            value y.after (tried.entry i h).pair,
            searching s₀ s₁ y values marks n stamp tried held s i p h,
            told s₀ s₁ y values marks n stamp tried held s i p h,
          )

      module _ (s' : List ℕ) (r : ℕ) (tell : TermTells s values marks place (stamp + a) true w s' r) where
        searched : (y : Trial) (s₀ : List ℕ) (tried : Tried s₀ y values marks n stamp) (held : Held s₀ s₁ values n true)
            → Searched s s' (scene y values (take marks s₁) (length s₁)) marks (stamp + i) (tried.entry i h).pair
            (λ j. StandsAt j (value y.after (tried.entry i h).pair)) (eqb r 2)
        searched y s₀ tried held =
            let p = passing y s₀ tried held in
            let tell' : TermTells s values marks (entry_pair s i) (stamp + i) true (entry_term s i) s' r = rw (at, number, word) at tell in
            (tell' (scene y values (take marks s₁) (length s₁)) (tried.entry i h).pair (value y.after (tried.entry i h).pair)
            (searching s₀ s₁ y values marks n stamp tried held s i p h)
            (told s₀ s₁ y values marks n stamp tried held s i p h)).searched

        pub entry_tells : r ≡ 2 → Tells s' true
        entry_tells e y s₀ tried held =
            entry_found s₀ s₁ y values marks n stamp tried held s i (passing y s₀ tried held) h s' (rw (eq-eqb r 2 e) at (searched y s₀ tried held))

        pub passing_next : (r ≡ 2 → ⊥) → Passing s' (i + 1)
        passing_next e y s₀ tried held =
            passed_next s₀ s₁ y values marks n stamp tried held s i (passing y s₀ tried held) h s' (rw (ne_eqb r 2 e) at (searched y s₀ tried held))
