-- The search from a term, turn by turn, in the form in which the code asks and tells: each turn goes on from one term to another, so that an answer
-- to the one is an answer to the other, and the weight falls.
use Prim.Native.Nat.{ℕ, ◌+◌, ◌%◌, ◌≤◌, ◌<◌}
use mathlib.Core.Path.{◌≡◌, refl, sym, ap, subst, ◌∙◌}
use mathlib.Core.Logic.{inl, ⊎_elim}
use mathlib.Core.Bool.{Bool, true, false, true≢false}
use mathlib.Core.List.{List}
use mathlib.Core.Option.{Option}
use native.Mathlib.Omega.{arith}
use lib.Dec.{eqb}
use lib.ListN.{length, get_or}
use borrow.Author.Tests.{ne_eqb}
use Rattle.meaning.specs.Terms.{Term}
use Rattle.meaning.specs.State.{value}
use Rattle.term.specs.Layout.{trial_region, gift_term}
use Rattle.term.specs.Words.{tag_in, rest_in}
use Rattle.laws.proofs.Circle.Leaning.{links_join}
use Rattle.run_circle.specs.Ground.{Ground, there, stamp_in}
use Rattle.run_circle.specs.Search.{
  Scene,
  side,
  Told,
  StandsAt,
  LeadsIs,
  Searching,
  visited,
  Visited,
  Stamped,
  Searched,
  Firm,
  SearchedFrom,
  Keeps,
  begun_state,
  JoinedIs,
  SinceIs,
  Names,
  Settled,
  Visiting,
  Visits,
}
use Rattle.run_circle.proofs.Grounds.{marked_ground, leads_via}
use Rattle.run_circle.proofs.Stamps.{
  visited_stamp,
  visited_ground,
  not_visited,
  stamped_same,
  stamped_then,
  searching_on,
  front_length,
  front_word,
  whole_length,
}
use Rattle.run_circle.proofs.Unseen.{unseen_new}
use Rattle.run_circle.proofs.Keeping.{keeps_first, keeps_open, keeps_on, since_keeps}
use Rattle.run_circle.proofs.Measure.{term_weight, falls_to_pair, falls_to_given, falls_to_visited, falls_to_argument, fewer_unseen}
use Rattle.run_circle.proofs.Settle.{settled_answer}
use Rattle.run_circle.proofs.Visit.{
  given_inside,
  given_told,
  given_answer,
  goal_answer,
  mark_inside,
  marked_answer,
  Variable,
  variable_of,
}
use Rattle.run_circle.proofs.Walk.{
  Walked,
  none_at,
  all_at,
  all_stand,
  enter,
  no_pairs,
  idle_firm,
  walk_first,
  walk_over,
  walk_next,
  walk_found,
  walk_last,
  walk_firm,
  walk_idle,
  idle_found,
}

-- What a search from a term asks, and what it tells: whether the pair is found, whether the term is firm.
module _ (s : List ℕ) (values marks place stamp : ℕ) where
  abbrev pub TermAsks : Bool → ℕ → Type 0
  TermAsks b w = (x : Scene) × (goal : ℕ) × (v : Option Term) × Searching s x values marks place stamp goal × Told x b w v

  abbrev pub TermFinds : Bool → ℕ → List ℕ → Bool → Type 0
  TermFinds b w s' r = (x : Scene) (goal : ℕ) (v : Option Term) → Searching s x values marks place stamp goal → Told x b w v
      → Searched s s' x marks stamp goal (λ j. StandsAt j v) r

  abbrev pub TermFirm : Bool → ℕ → Type 0
  TermFirm b w = (x : Scene) (goal : ℕ) (v : Option Term) → Searching s x values marks place stamp goal → Told x b w v → Firm x v

  abbrev pub TermTells : Bool → ℕ → List ℕ → ℕ → Type 0
  TermTells b w s' r = (x : Scene) (goal : ℕ) (v : Option Term) → Searching s x values marks place stamp goal → Told x b w v
      → SearchedFrom s s' x marks stamp goal v r

-- The same with the state of the search, which has come there from a value.
abbrev pub StateAsks : List ℕ → ℕ → ℕ → ℕ → ℕ → Bool → ℕ → ℕ → Type 0
StateAsks s values marks place stamp b w state =
    (x : Scene) × (goal : ℕ) × (v : Option Term) × (o : Option Term) × Searching s x values marks place stamp goal × Told x b w v × Keeps x state b o v

-- The answers 1 (OPEN) and 2 (REACHED) do not tell that the term is firm.
pub open_not_firm : ◌≡◌ {A = ℕ} 1 0 → ⊥
open_not_firm e = omega arith

pub reached_not_firm : ◌≡◌ {A = ℕ} 2 0 → ⊥
reached_not_firm e = omega arith

-- The search has gone on from a value to another.
pub record GoneOn (s s' : List ℕ) (x : Scene) (marks stamp z : ℕ) (v o : Option Term) (b' : Bool) (w' state' : ℕ) : Type 0 where
  pub now : Option Term
  pub told : Told x b' w' now
  pub stamped : Stamped x marks stamp s s'
  pub answer : (s'' : List ℕ) (r : Bool) → Searched s' s'' x marks stamp z (λ j. StandsAt j now) r
      → Searched s s'' x marks stamp z (λ j. StandsAt j v) r
  pub keeps : Keeps x state' b' o now

module _ (s : List ℕ) (values marks place stamp : ℕ) (b : Bool) (w state : ℕ) where
  abbrev pub Going : List ℕ → Bool → ℕ → ℕ → Type 0
  Going s' b' w' state' = (x : Scene) (z : ℕ) (v o : Option Term) → Searching s x values marks place stamp z → Told x b w v → Keeps x state b o v
      → GoneOn s s' x marks stamp z v o b' w' state'

  pub going_first : Going s b w state
  going_first x z v o h told k =
      record { now = v; told = told; stamped = stamped_same x marks stamp s; answer = λ s'' r a. a; keeps = k }

  module _ (s' : List ℕ) (b' : Bool) (w' state' : ℕ) (going : Going s' b' w' state') (begun : state ≡ begun_state b) where
    gone : (x : Scene) (z : ℕ) (v : Option Term) → Searching s x values marks place stamp z → Told x b w v
        → GoneOn s s' x marks stamp z v v b' w' state'
    gone x z v h told = going x z v v h told (subst (λ n. Keeps x n b v v) (sym begun) (keeps_first x b v))

    pub going_asks : TermAsks s values marks place stamp b w → TermAsks s' values marks place stamp b' w'
    going_asks (x, z, v, h, told) =
        let g = gone x z v h told in
        (x, z, g.now, searching_on x marks stamp z s s' g.stamped values place h, g.told)

    pub going_keeps : TermAsks s values marks place stamp b w → StateAsks s' values marks place stamp b' w' state'
    going_keeps (x, z, v, h, told) =
        let g = gone x z v h told in
        (x, z, g.now, v, searching_on x marks stamp z s s' g.stamped values place h, g.told, g.keeps)

    -- It ends: found, or not all is ground.
    pub going_tells : (s'' : List ℕ) (r : ℕ) (f : Bool) → eqb r 2 ≡ f → (r ≡ 0 → ⊥) → TermFinds s' values marks place stamp b' w' s'' f
        → TermTells s values marks place stamp b w s'' r
    going_tells s'' r f e unfirm tell x z v h told =
        let g = gone x z v h told in
        let a = g.answer s'' f (tell x z g.now (searching_on x marks stamp z s s' g.stamped values place h) g.told) in
        record {
          searched = rw e a;
          firm = λ o. absurd (unfirm o);
        }

    -- Or all that was left is ground.
    module _ (firm : TermFirm s' values marks place stamp b' w') where
      left : (x : Scene) (z : ℕ) (v : Option Term) (h : Searching s x values marks place stamp z) (told : Told x b w v) → Firm x (gone x z v h told).now
      left x z v h told =
          let g = gone x z v h told in
          firm x z g.now (searching_on x marks stamp z s s' g.stamped values place h) g.told

      names : (x : Scene) (z : ℕ) (v : Option Term) (h : Searching s x values marks place stamp z) (told : Told x b w v) → Names x state'
      names x z v h told p e =
          let f = ((gone x z v h told).keeps.since p e).1 in
          record { pair = f.pair; below = f.below; place = f.place; a_ground = f.stems.firm (left x z v h told) }

      pub ended_asks : TermAsks s values marks place stamp b w
          → (x : Scene) × (at : ℕ) × (goal : ℕ) × Searching s' x values marks at stamp goal × Names x state'
      ended_asks (x, z, v, h, told) =
          (x, place, z, searching_on x marks stamp z s s' (gone x z v h told).stamped values place h, names x z v h told)

      pub ended_tells : TermFinds s' values marks place stamp b' w' s' false → (s'' : List ℕ) (r : ℕ)
          → ((x : Scene) (at goal : ℕ) → Searching s' x values marks at stamp goal → Names x state' → Settled x marks stamp s' s'')
          → r ≡ state' % 2 → TermTells s values marks place stamp b w s'' r
      ended_tells finds s'' r settle parity x z v h told =
          let g = gone x z v h told in
          let here = searching_on x marks stamp z s s' g.stamped values place h in
          let all = settled_answer x marks stamp z (λ j. StandsAt j g.now) s' s' s'' (finds x z g.now here g.told)
          (settle x place z here (names x z v h told)) in
          record {
            searched = rw (ne_eqb r 2 (λ e. omega arith)) (g.answer s'' false all);
            firm = λ o. ((gone x z v h told).keeps.firm (sym parity ∙ o)).1 (left x z v h told);
          }

pub going_on : (s : List ℕ) (values marks place stamp : ℕ) (b : Bool) (w state : ℕ) (s' : List ℕ) (b' : Bool) (w' state' : ℕ)
    → Going s values marks place stamp b w state s' b' w' state' → (s'' : List ℕ) (b'' : Bool) (w'' state'' : ℕ)
    → Going s' values marks place stamp b' w' state' s'' b'' w'' state'' → Going s values marks place stamp b w state s'' b'' w'' state''
going_on s values marks place stamp b w state s' b' w' state' first s'' b'' w'' state'' next x z v o h told k =
    let g = first x z v o h told k in
    let g' = next x z g.now o (searching_on x marks stamp z s s' g.stamped values place h) g.told g.keeps in
    record {
      now = g'.now;
      told = g'.told;
      stamped = stamped_then x marks stamp s s' s'' g.stamped g'.stamped;
      answer = λ u r a. g.answer u r (g'.answer u r a);
      keeps = g'.keeps;
    }

-- At a compound: its arguments from left to right.
module _ (s₀ : List ℕ) (values marks place stamp : ℕ) (b : Bool) (w first : ℕ) where
  abbrev pub Walking : List ℕ → ℕ → ℕ → ℕ → ℕ → ℕ → Type 0
  Walking s q k i later state = (x : Scene) (z : ℕ) (v : Option Term) → Searching s₀ x values marks place stamp z → Told x b w v
      → Walked s₀ s x marks stamp z b q k i later v first state

  module _ (q : ℕ) (at : q ≡ rest_in w) (six : tag_in w ≡ 6) where
    pub count_at : TermAsks s₀ values marks place stamp b w → q < length s₀
    count_at (x, z, v, h, told) =
        let (c, all) = enter x values marks place stamp z b s₀ w v h told six q (tag_in (get_or s₀ q 0)) at refl in
        omega (arith, c.inside, whole_length s₀ x values marks place stamp z h)

    pub walking_first : (k : ℕ) → k ≡ tag_in (get_or s₀ q 0) → Walking s₀ q k 1 0 first
    walking_first k counted x z v h told = walk_first x values marks place stamp z b s₀ w v h told six q k at counted first

  module _ (s : List ℕ) (q k i later state : ℕ) (walking : Walking s q k i later state) where
    pub few_of : TermAsks s₀ values marks place stamp b w → k ≤ 6
    few_of (x, z, v, h, told) = (walking x z v h told).rest.few

    pub argument_at : i ≤ k → TermAsks s₀ values marks place stamp b w → q + i < length s
    argument_at le (x, z, v, h, told) =
        let c = walking x z v h told in
        omega (arith, c.rest.inside, c.rest.few, whole_length s₀ x values marks place stamp z h, c.stamped.size)

    -- The argument that is searched later.
    pub later_asks : TermAsks s₀ values marks place stamp b w → TermAsks s values marks place stamp b later
    later_asks (x, z, v, h, told) =
        let c = walking x z v h told in
        (x, z, c.argument.value, searching_on x marks stamp z s₀ s c.stamped values place h, c.argument.told)

    pub later_lighter : TermAsks s₀ values marks place stamp b w
        → term_weight s marks (visited stamp) b later < term_weight s₀ marks (visited stamp) b w
    later_lighter (x, z, v, h, told) =
        let c = walking x z v h told in
        falls_to_argument x values marks place stamp z s₀ s h c.stamped (visited stamp) (fewer_unseen x marks stamp s₀ s c.stamped) b w later v
        c.argument.value told c.argument.told c.argument.lower

    later_tells : (s' : List ℕ) (r : ℕ) → TermTells s values marks place stamp b later s' r
        → (x : Scene) (z : ℕ) (v : Option Term) (h : Searching s₀ x values marks place stamp z) (told : Told x b w v)
        → SearchedFrom s s' x marks stamp z (walking x z v h told).argument.value r
    later_tells s' r tell x z v h told =
        let c = walking x z v h told in
        tell x z c.argument.value (searching_on x marks stamp z s₀ s c.stamped values place h) c.argument.told

    pub later_found : (s' : List ℕ) → TermTells s values marks place stamp b later s' 2 → TermFinds s₀ values marks place stamp b w s' true
    later_found s' tell x z v h told =
        walk_found x values marks place stamp z b s₀ s w v h told q k i later first state (walking x z v h told) s'
        (later_tells s' 2 tell x z v h told).searched

    module _ (a : ℕ) (reads : a ≡ get_or s (q + i) 0) (le : i ≤ k) where
      -- An argument that does not lead on is passed over.
      pub walking_over : LeadsIs a false → Walking s q k (i + 1) later state
      walking_over idle x z v h told =
          walk_over x values marks place stamp z b s₀ s w v h told q k i later first state (walking x z v h told) a reads le idle

      -- One that does is searched later: the first, or one behind another that was searched now.
      pub walking_on : LeadsIs a true → later ≡ 0 → Walking s q k (i + 1) a state
      walking_on leads e x z v h told =
          let c = walking x z v h told in
          let searched = no_pairs x values marks place stamp z b s later c.argument.value c.argument.told ((λ f. omega arith), inl (omega arith)) in
          walk_next x values marks place stamp z b s₀ s w v h told q k i later first state c a reads le leads s 0 state searched
          (λ f j r. absurd (none_at (side x b) c.argument.value later c.argument.told.word ((λ f. omega arith), inl (omega arith)) j r))
          (record { kept = λ e. refl; new = λ d. absurd (d refl) })

      pub walking_next : LeadsIs a true → (s' : List ℕ) (r out : ℕ) → TermTells s values marks place stamp b later s' r → (r ≡ 2 → ⊥)
          → JoinedIs state r out → Walking s' q k (i + 1) a out
      walking_next leads s' r out tell found joined x z v h told =
          let c = walking x z v h told in
          let t = later_tells s' r tell x z v h told in
          walk_next x values marks place stamp z b s₀ s w v h told q k i later first state c a reads le leads s' r out
          (rw (ne_eqb r 2 found) at t.searched) (λ e. all_at (Ground x.before) c.argument.value (t.firm e)) joined

    -- Behind all arguments the search goes on to that one.
    module _ (done : k < i) where
      pub later_going : Going s₀ values marks place stamp b w first s b later state
      later_going x z v o h told k' =
          let c = walking x z v h told in
          let now = c.argument.value in
          record {
            now = now;
            told = c.argument.told;
            stamped = c.stamped;
            answer = walk_last x values marks place stamp z b s₀ s w v h told q k i later first state c done;
            keeps = ⊎_elim (keeps_open x state b o now) (λ (same, on). keeps_on x first state b o v now same on k')
                (walk_firm x values marks place stamp z b s₀ s w v h told q k i later first state c done);
          }

      -- Or none leads on, and nothing was searched.
      module _ (e : later ≡ 0) (asks : TermAsks s₀ values marks place stamp b w) where
        idle_same : (s ≡ s₀) × (state ≡ first)
        idle_same =
            let (x, z, v, h, told) = asks in
            let (scratch, same, all) = (walking x z v h told).idle e in
            (scratch, same)

        pub idle_going : Going s₀ values marks place stamp b w first s b w state
        idle_going = rw (idle_same.0, idle_same.1) (going_first s₀ values marks place stamp b w first)

        pub idle_finds : TermFinds s values marks place stamp b w s false
        idle_finds = rw idle_same.0 (λ x z v h told.
            idle_found x values marks place stamp z b s₀ s w v h told q k i later first state (walking x z v h told) done e)

        pub idle_is_firm : TermFirm s values marks place stamp b w
        idle_is_firm = rw idle_same.0 (λ x z v h told.
            let c = walking x z v h told in
            all_stand (Ground x.before) v c.rest.assigned
            (λ j r. absurd (walk_idle x values marks place stamp z b s₀ s w v h told q k i later first state c done e j r)))

  pub nothing_finds : LeadsIs w false → TermFinds s₀ values marks place stamp b w s₀ false
  nothing_finds idle x z v h told = no_pairs x values marks place stamp z b s₀ w v told idle

  pub nothing_is_firm : LeadsIs w false → (tag_in w ≡ 0 → ⊥) → TermFirm s₀ values marks place stamp b w
  nothing_is_firm idle d x z v h told = idle_firm x values marks place stamp z b w v told idle d

-- At a variable of pair p.
module _ (s : List ℕ) (values marks place stamp w p : ℕ) (at : p ≡ rest_in w) (c : tag_in w ≡ 6 → ⊥) (d : tag_in w ≡ 0 → ⊥) (le : tag_in w ≤ 2) where
  pair_of : (x : Scene) (z : ℕ) (b : Bool) (v : Option Term) → Told x b w v → Variable x marks stamp z b w v
  pair_of x z b v told = variable_of x marks stamp z b w v told c d le

  -- The head's: on to what it is given.
  pub given_at : TermAsks s values marks place stamp true w → trial_region + p < length s
  given_at (x, z, v, h, told) =
      let u = pair_of x z true v told in
      given_inside x values marks place stamp z s h u.pair p u.on (at ∙ u.place)

  pub given_lighter : TermAsks s values marks place stamp true w → (w' : ℕ)
      → term_weight s marks (visited stamp) false w' < term_weight s marks (visited stamp) true w
  given_lighter (x, z, v, h, told) w' =
      omega (arith, falls_to_given x values marks place stamp z s h (visited stamp) w', falls_to_pair s marks (visited stamp) true w)

  pub given_going : (w' state : ℕ) → w' ≡ get_or s (trial_region + p) 0 → Going s values marks place stamp true w state s false w' state
  given_going w' state reads x z v o h told k =
      let u = pair_of x z true v told in
      record {
        now = value x.after u.pair;
        told = rw reads (given_told x values marks place stamp z s h u.pair p u.on (at ∙ u.place));
        stamped = stamped_same x marks stamp s;
        answer = λ s'' r a. u.answer s s'' r (given_answer x values marks place stamp z s h u.pair u.on s'' r a);
        keeps = record {
          firm = λ e. absurd (true≢false (k.firm e).0);
          since = λ q e. absurd (true≢false (k.since q e).0);
        };
      }

  -- The unit's: the goal pair, a visited one, or a new one.
  pub goal_finds : p ≡ place → TermFinds s values marks place stamp false w s true
  goal_finds same x z v h told =
      let u = pair_of x z false v told in
      u.answer s s true (goal_answer x values marks place stamp z s h u.pair p u.on (at ∙ u.place) same)

  pub mark_at : TermAsks s values marks place stamp false w → marks + p < length s
  mark_at (x, z, v, h, told) =
      let u = pair_of x z false v told in
      mark_inside x values marks place stamp z s h u.pair p u.on (at ∙ u.place)

  pub marked_finds : (p ≡ place → ⊥) → Visited stamp (get_or s (marks + p) 0) → TermFinds s values marks place stamp false w s false
  marked_finds other m x z v h told =
      let u = pair_of x z false v told in
      u.answer s s false (marked_answer x values marks place stamp z s h u.pair p u.on (at ∙ u.place) other m)

  pub stamp_finds : (p ≡ place → ⊥) → stamp_in (get_or s (marks + p) 0) ≡ stamp → TermFinds s values marks place stamp false w s false
  stamp_finds other m = marked_finds other (visited_stamp stamp (get_or s (marks + p) 0) m)

  pub ground_finds : (p ≡ place → ⊥) → get_or s (marks + p) 0 ≡ 1 → TermFinds s values marks place stamp false w s false
  ground_finds other m = marked_finds other (rw m (visited_ground stamp))

  pub ground_is_firm : get_or s (marks + p) 0 ≡ 1 → TermFirm s values marks place stamp false w
  ground_is_firm m x z v h told =
      let u = pair_of x z false v told in
      u.firm (marked_ground x.unit x.before marks (λ i j a b. h.shown.apart i j (rw h.shown.old_is a) (rw h.shown.old_is b)) s h.grounds
      u.pair (omega (arith, u.on, h.shown.old_is)) (ap (λ k. get_or s (marks + k) 0) (sym (at ∙ u.place)) ∙ m))

  -- A new one is visited.
  module _ (m state : ℕ) (mark : m ≡ get_or s (marks + p) 0) (other : p ≡ place → ⊥) (unfirm : m ≡ 1 → ⊥) (fresh : stamp_in m ≡ stamp → ⊥) where
    visiting : (x : Scene) (z : ℕ) (v o : Option Term) → Searching s x values marks place stamp z → (told : Told x false w v) → Keeps x state false o v
        → Visiting s x values marks place stamp z state p m (pair_of x z false v told).pair
    visiting x z v o h told k =
        let u = pair_of x z false v told in
        record {
          searching = h;
          of_unit = u.on;
          at = at ∙ u.place;
          other = other;
          mark = mark;
          unfirm = unfirm;
          fresh = fresh;
          leading = λ q e.
              let f = (k.since q e).1 in
              record {
                pair = f.pair;
                below = f.below;
                place = f.place;
                end = u.pair;
                end_below = omega (arith, u.on, h.shown.old_is);
                end_place = sym (at ∙ u.place);
                leads = f.stems.via u.pair (u.via u.pair (there refl));
                path = f.stems.reaches u.pair u.stands;
              };
        }

    pub visit_asks : StateAsks s values marks place stamp false w state
        → (x : Scene) × (at' : ℕ) × (goal : ℕ) × (n : ℕ) × Visiting s x values marks at' stamp goal state p m n
    visit_asks (x, z, v, o, h, told, k) = (x, place, z, (pair_of x z false v told).pair, visiting x z v o h told k)

    module _ (s₁ : List ℕ) (r : ℕ)
        (visits : (x : Scene) (at' goal n : ℕ) → Visiting s x values marks at' stamp goal state p m n → Visits s s₁ x marks stamp goal n r) where
      visited_now : (x : Scene) (z : ℕ) (v o : Option Term) → Searching s x values marks place stamp z → (told : Told x false w v)
          → Keeps x state false o v → Visits s s₁ x marks stamp z (pair_of x z false v told).pair r
      visited_now x z v o h told k = visits x place z (pair_of x z false v told).pair (visiting x z v o h told k)

      pub visit_lighter : StateAsks s values marks place stamp false w state
          → (b' : Bool) (w' : ℕ) → term_weight s₁ marks (visited stamp) b' w' < term_weight s marks (visited stamp) false w
      visit_lighter (x, z, v, o, h, told, k) b' w' =
          let u = pair_of x z false v told in
          let c = visited_now x z v o h told k in
          let inside = mark_inside x values marks place stamp z s h u.pair p u.on (at ∙ u.place) in
          let now_visited : Visited stamp (get_or s₁ (marks + p) 0) = subst (λ q. Visited stamp (get_or s₁ (marks + q) 0)) (sym (at ∙ u.place)) c.marked in
          let not_yet : visited stamp (get_or s (marks + p) 0) ≡ false =
          not_visited stamp (get_or s (marks + p) 0) (λ e. unfirm (mark ∙ e)) (λ e. fresh (ap (λ a. stamp_in a) mark ∙ e)) in
          omega (
            arith,
            falls_to_visited x values marks place stamp z s h (visited stamp) s₁ c.stamped.front c.stamped.size
                (unseen_new (visited stamp) s s₁ (marks + p) c.stamped.size inside not_yet now_visited c.stamped.others) b' w',
            falls_to_pair s marks (visited stamp) false w,
          )

      -- On from a value of the unit, its own or that of the pair through which all ways go.
      pub unit_going : (tag_in r ≡ 7 → ⊥) → (state' : ℕ) → SinceIs state p state' → Going s values marks place stamp false w state s₁ false r state'
      unit_going seven state' since x z v o h told k =
          let u = pair_of x z false v told in
          let c = visited_now x z v o h told k in
          let st = c.stems seven in
          record {
            now = c.now;
            told = c.told seven;
            stamped = c.stamped;
            answer = λ s'' f a. u.answer s s'' f (c.answer s'' f a);
            keeps = since_keeps x state state' p o v c.now since (record {
              firm = λ f. u.firm (st.firm f);
              stems = λ n before. record {
                reaches = λ j q. links_join (before.reaches u.pair u.stands) (st.reaches j q);
                firm = λ f. before.firm (u.firm (st.firm f));
                via = λ e f. before.via e (u.via e (leads_via x.before e u.pair (st.via e f)));
              };
            }) (record {
              pair = u.pair;
              below = omega (arith, u.on, h.shown.old_is);
              place = sym (at ∙ u.place);
              stems = st;
            }) k;
          }

      -- Or from the head's term that the trial gives it.
      module _ (i : ℕ) (number : i ≡ rest_in r) (seven : tag_in r ≡ 7) where
        pub head_at : StateAsks s values marks place stamp false w state → gift_term i < length s₁
        head_at (x, z, v, o, h, told, k) =
            let c = visited_now x z v o h told k in
            let g = c.given seven in
            omega (arith, g.word, g.inside, front_length s x values marks place stamp z h, h.room, c.stamped.size)

        pub head_going : (w' : ℕ) → w' ≡ get_or s₁ (gift_term i) 0 → Going s values marks place stamp false w state s₁ true w' 1
        head_going w' gives x z v o h told k =
            let u = pair_of x z false v told in
            let c = visited_now x z v o h told k in
            let g = c.given seven in
            let is : i ≡ g.number = omega (arith, g.word) in
            let words : get_or s₁ (gift_term g.number) 0 ≡ get_or x.front (gift_term g.number) 0 =
            front_word s₁ x values marks place stamp z (searching_on x marks stamp z s s₁ c.stamped values place h) (gift_term g.number) g.inside in
            record {
              now = c.now;
              told = rw (gives ∙ ap (λ n. get_or s₁ (gift_term n) 0) is ∙ words) g.told;
              stamped = c.stamped;
              answer = λ s'' f a. u.answer s s'' f (c.answer s'' f a);
              keeps = keeps_open x 1 true o c.now refl;
            }
