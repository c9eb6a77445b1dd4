-- The goals of a query, as the scratch has them in each of the three lists: the words of those of its goals, in order.
use Prim.Native.Nat.{ℕ, zero, suc, ◌+◌, ◌*◌, ◌≤◌, ◌<◌}
use mathlib.Core.Path.{◌≡◌, refl, sym, ap, ap₂, ◌∙◌}
use mathlib.Core.Bool.{Bool, true, false}
use mathlib.Core.List.{List, [], ◌∷◌, ◌++◌, map, append_assoc, append-nil}
use native.Mathlib.Decide.{dec_lt}
use native.Mathlib.Omega.{arith}
use lib.Dec.{eqb}
use lib.ListN.{length, get_or}
use borrow.Author.Tests.{ne_eqb}
use Rattle.meaning.specs.Bytes.{Bytes, when◌then◌else◌, those}
use Rattle.meaning.specs.Terms.{Query, as_term}
use Rattle.meaning.specs.State.{Room, QueryUnit, Goal, Waiting, State, number_of, of}
use Rattle.laws.proofs.Lists.EachOf.{Each, each_split}
use Rattle.laws.proofs.Lists.Filters.{those_append}
use Rattle.term.specs.Setting.{Within}
use Rattle.term.specs.Layout.{queue_region, need_of, InRange}
use Rattle.term.specs.States.{
  Atlas,
  goal_word,
  Lies,
  GoalStands,
  AllStand,
  round,
  ring,
  listed,
  standing,
  logged,
  HoldsState,
}
use Rattle.term.specs.declared.state.Standing.{Standing}
use Rattle.term.specs.Goals.{origin_word}
use Rattle.term.specs.Words.{packed, tag_in}
use Rattle.report_tallies.specs.Groups.{goal_in, GroupInside, own, goals_from, own_from, active_group, waiting_group, failed_group}
use Rattle.report_tallies.specs.declared.groups.Group.{Group}
use Rattle.report_tallies.proofs.GoalPlaces.{round_below, round_beyond}

-- A query's word among words.
abbrev rests : ℕ → ℕ → Bool
rests q w = eqb (tag_in w) q

-- A query's goals from a place on are those of the goals there.
own_one : (q w : ℕ) (l : List ℕ) → (when own q w then w ∷ l else l) ≡ those (rests q) (standing w) ++ l
unfolding own when◌then◌else◌ those
own_one q zero l = refl
own_one q (suc w) l = go (rests q (suc w)) refl
  where
    go : (b : Bool) → rests q (suc w) ≡ b → (when own q (suc w) then suc w ∷ l else l) ≡ those (rests q) (standing (suc w)) ++ l
    go true e = rw (ne_eqb (suc w) 0 (λ z. omega arith), e)
    go false e = rw (ne_eqb (suc w) 0 (λ z. omega arith), e)

pub own_those : (s : List ℕ) (g : Group) (q i n : ℕ) → own_from s g q i n ≡ those (rests q) (goals_from s g i n)
unfolding own_from goals_from those
own_those s g q i zero = refl
own_those s g q i (suc n) =
    ap (λ (l : List ℕ). when own q (goal_in s g i) then goal_in s g i ∷ l else l) (own_those s g q (i + 1) n)
    ∙ own_one q (goal_in s g i) (those (rests q) (goals_from s g (i + 1) n))
    ∙ sym (those_append (rests q) (standing (goal_in s g i)) (goals_from s g (i + 1) n))

-- A word that is not 0 stands.
standing_positive : (w : ℕ) → 0 < w → standing w ≡ w ∷ []
standing_positive zero h = absurd (omega arith)
standing_positive (suc w) h = refl

-- The queue: round the ring from its front on.
ring_goals : (s : List ℕ) (g : Group) (size at : ℕ) → g.step ≡ 1 → g.size ≡ size → (n i : ℕ) → at + i ≡ g.first + i
    → Each (λ w. 0 < w) (ring s g.from size (at + i) n) → goals_from s g i n ≡ ring s g.from size (at + i) n
unfolding goals_from ring
ring_goals s g size at one same zero i e p = refl
ring_goals s g size at one same (suc n) i e p =
    let place : g.from + g.step * round g.size (g.first + i) ≡ g.from + round size (at + i) =
    ap₂ (λ (k m : ℕ). g.from + k * round m (g.first + i)) one same ∙ ap (λ (k : ℕ). g.from + 1 * round size k) (sym e) ∙ (omega arith) in
    let word : goal_in s g i ≡ get_or s (g.from + round size (at + i)) 0 = ap (λ (k : ℕ). get_or s k 0) place in
    let next : at + i + 1 ≡ at + (i + 1) = omega arith in
    let rest : Each (λ w. 0 < w) (ring s g.from size (at + (i + 1)) n) = rw next at p.1 in
    ap₂ (◌++◌ {A = ℕ}) (ap standing word ∙ standing_positive (get_or s (g.from + round size (at + i)) 0) p.0)
    (ring_goals s g size at one same n (i + 1) (omega arith) rest ∙ ap (λ (k : ℕ). ring s g.from size k n) (sym next))

-- One place more behind so many.
goals_last : (s : List ℕ) (g : Group) (n i : ℕ) → goals_from s g i (suc n) ≡ goals_from s g i n ++ standing (goal_in s g (i + n))
unfolding goals_from
goals_last s g zero i =
    let none : i + 0 ≡ i = omega arith in
    append-nil (standing (goal_in s g i)) ∙ ap (λ (k : ℕ). standing (goal_in s g k)) (sym none)
goals_last s g (suc n) i =
    let next : i + 1 + n ≡ i + suc n = omega arith in
    ap (◌++◌ (standing (goal_in s g i))) (goals_last s g n (i + 1) ∙ ap (λ (k : ℕ). goals_from s g (i + 1) n ++ standing (goal_in s g k)) next)
    ∙ sym (append_assoc (standing (goal_in s g i)) (goals_from s g (i + 1) n) (standing (goal_in s g (i + suc n))))

-- The waiting goals: two words a place, in the log's first places.
log_goals : (s : List ℕ) (g : Group) → g.step ≡ 2 → g.first ≡ 0 → (n : ℕ) → n ≤ g.size → goals_from s g 0 n ≡ logged s g.from n
unfolding goals_from logged
log_goals s g two zeroth zero h = refl
log_goals s g two zeroth (suc n) h =
    let none : 0 + n ≡ n = omega arith in
    let at : g.first + n ≡ n = omega arith in
    let place : g.from + g.step * round g.size (g.first + (0 + n)) ≡ g.from + 2 * n =
    ap₂ (λ (k m : ℕ). g.from + k * round g.size (g.first + m)) two none
    ∙ ap (λ (k : ℕ). g.from + 2 * round g.size k) at ∙ ap (λ (k : ℕ). g.from + 2 * k) (round_below g.size n (omega arith)) in
    goals_last s g n 0
    ∙ ap₂ (λ (l : List ℕ) (k : ℕ). l ++ standing (get_or s k 0)) (log_goals s g two zeroth n (omega arith)) place

-- The failed goals, one behind the other.
list_goals : (s : List ℕ) (g : Group) → g.step ≡ 1 → g.first ≡ 0 → (n : ℕ) → n ≤ g.size → Each (λ w. 0 < w) (listed s g.from n)
    → goals_from s g 0 n ≡ listed s g.from n
unfolding goals_from listed
list_goals s g one zeroth zero h p = refl
list_goals s g one zeroth (suc n) h p =
    let none : 0 + n ≡ n = omega arith in
    let at : g.first + n ≡ n = omega arith in
    let place : g.from + g.step * round g.size (g.first + (0 + n)) ≡ g.from + n =
    ap₂ (λ (k m : ℕ). g.from + k * round g.size (g.first + m)) one none
    ∙ ap (λ (k : ℕ). g.from + 1 * round g.size k) at ∙ ap (λ (k : ℕ). g.from + 1 * k) (round_below g.size n (omega arith)) ∙ (omega arith) in
    let (front, last) = each_split (λ w. 0 < w) (listed s g.from n) (get_or s (g.from + n) 0 ∷ []) p in
    goals_last s g n 0
    ∙ ap₂ (◌++◌ {A = ℕ}) (list_goals s g one zeroth n (omega arith) front)
    (ap (λ (k : ℕ). standing (get_or s k 0)) place ∙ standing_positive (get_or s (g.from + n) 0) last.0)

-- Goals that stand have words, and their query's place for a remainder.
module _ (s : List ℕ) (names : List Bytes) (figures : Room) (atlas : Atlas) (units : List QueryUnit) (pairs compounds cells : ℕ)
    (lies : Lies names figures atlas units pairs compounds cells) (few : length units ≤ 8) where
  goal_positive : (g : Goal) → GoalStands s figures atlas units g → 0 < goal_word atlas g
  unfolding Within as_term
  goal_positive g stands = omega (arith, lies.compound_behind g.query g.goal.number stands.query stands.term.of.within.0)

  goal_rests : (g : Goal) → GoalStands s figures atlas units g → tag_in (goal_word atlas g) ≡ g.query
  goal_rests g stands =
      let small : g.query < 8 = omega (arith, stands.query) in
      remainder g.query ((atlas g.query).compound g.goal.number + 1048576 * origin_word g.origin) small
    where
      remainder : (q rest : ℕ) → q < 8 → tag_in (packed q rest) ≡ q
      remainder q rest h = omega arith

  pub goal_words_positive : (gs : List Goal) → AllStand s figures atlas units gs → Each (λ w. 0 < w) (map (goal_word atlas) gs)
  goal_words_positive [] all = tt
  goal_words_positive (g ∷ gs) all = (goal_positive g all.0, goal_words_positive gs all.1)

  pub own_words : (q : ℕ) (gs : List Goal) → AllStand s figures atlas units gs
      → those (rests q) (map (goal_word atlas) gs) ≡ map (goal_word atlas) (those (of q) gs)
  unfolding those when◌then◌else◌ of
  own_words q [] all = refl
  own_words q (g ∷ gs) all = go (of q g) refl (own_words q gs all.1)
    where
      same : rests q (goal_word atlas g) ≡ of q g
      same = ap (λ (n : ℕ). eqb n q) (goal_rests g all.0)

      go : (b : Bool) → of q g ≡ b → those (rests q) (map (goal_word atlas) gs) ≡ map (goal_word atlas) (those (of q) gs)
          → those (rests q) (map (goal_word atlas) (g ∷ gs)) ≡ map (goal_word atlas) (those (of q) (g ∷ gs))
      go true e further = rw (same, e, further)
      go false e further = rw (same, e, further)

-- A place counted past the ring's end is in the ring.
round_inside : (size at : ℕ) → at < size + size → round size at < size
round_inside size at h = go (dec_lt at size)
  where
    go : Dec (at < size) → round size at < size
    go (yes b) = rw (round_below size at b) b
    go (no b) = rw (round_beyond size at (omega arith)) (omega arith)

-- The three lists of a state that the scratch holds.
module _ (s : List ℕ) (names : List Bytes) (figures : Room) (queries : List Query) (atlas : Atlas) (state : State) (t : Standing)
    (held : HoldsState s names figures queries atlas state t) (few : length state.units ≤ 8) where
  own_map : (q : ℕ) (gs : List Goal) (ws : List ℕ) → AllStand s figures atlas state.units gs → ws ≡ map (goal_word atlas) gs
      → those (rests q) ws ≡ map (goal_word atlas) (those (of q) gs)
  own_map q gs ws all e =
      ap (those (rests q)) e ∙ own_words s names figures atlas state.units state.pairs state.compounds t.cells held.lies few q gs all

  positive : (gs : List Goal) (ws : List ℕ) → AllStand s figures atlas state.units gs → ws ≡ map (goal_word atlas) gs → Each (λ w. 0 < w) ws
  positive gs ws all e =
      rw e (goal_words_positive s names figures atlas state.units state.pairs state.compounds t.cells held.lies few gs all)

  pub own_active : (q : ℕ)
      → own_from s (active_group figures t) q 0 t.active ≡ map (goal_word atlas) (those (of q) state.goals.queue)
  own_active q =
      let none : t.front + 0 ≡ t.front = omega arith in
      let g = active_group figures t in
      let words : ring s g.from figures.goals (t.front + 0) t.active ≡ map (goal_word atlas) state.goals.queue =
      ap (λ (k : ℕ). ring s g.from figures.goals k t.active) none ∙ held.queue.words in
      own_those s g q 0 t.active
      ∙ own_map q state.goals.queue (goals_from s g 0 t.active) held.queue_held
      (ring_goals s g figures.goals t.front refl refl t.active 0 refl (positive state.goals.queue _ held.queue_held words) ∙ words)

  pub own_waiting : (q : ℕ)
      → own_from s (waiting_group figures t) q 0 t.log ≡ map (goal_word atlas) (those (of q) (map (λ w. w.goal) state.goals.waiting))
  own_waiting q =
      let g = waiting_group figures t in
      own_those s g q 0 t.log
      ∙ own_map q (map (λ w. w.goal) state.goals.waiting) (goals_from s g 0 t.log) held.waiting_held
      (log_goals s g refl refl t.log (omega arith) ∙ held.waiting.words ∙ twice state.goals.waiting)
    where
      twice : (ws : List Waiting) → map (λ w. goal_word atlas w.goal) ws ≡ map (goal_word atlas) (map (λ w. w.goal) ws)
      twice [] = refl
      twice (w ∷ ws) = ap (◌∷◌ (goal_word atlas w.goal)) (twice ws)

  pub own_failed : (q : ℕ)
      → own_from s (failed_group figures t) q 0 t.failed ≡ map (goal_word atlas) (those (of q) state.goals.failed)
  own_failed q =
      let g = failed_group figures t in
      own_those s g q 0 t.failed
      ∙ own_map q state.goals.failed (goals_from s g 0 t.failed) held.failed_held
      (list_goals s g refl refl t.failed (omega arith) (positive state.goals.failed _ held.failed_held held.failed.words) ∙ held.failed.words)

  -- They lie in the scratch.
  module _ (in_range : InRange figures) (inside : need_of figures ≤ length s) where
    pub active_inside : GroupInside s (active_group figures t)
    unfolding number_of
    active_inside = record { few = omega (arith, held.queue.number, held.queue.front_inside, held.fits, in_range.goals); inside = λ i h. go i h }
      where
        go : (i : ℕ) → i < t.active → queue_region figures + 1 * round figures.goals (t.front + i) < length s
        go i h =
            let round_in = round_inside figures.goals (t.front + i) (omega (arith, held.queue.number, held.queue.front_inside, held.fits)) in
            omega (arith, round_in)

    pub waiting_inside : GroupInside s (waiting_group figures t)
    waiting_inside =
        record {
          few = omega (arith, held.waiting.fits, in_range.goals);
          inside = λ i h. rw (round_below t.log (0 + i) (omega arith)) (omega (arith, held.waiting.fits));
        }

    pub failed_inside : GroupInside s (failed_group figures t)
    unfolding number_of
    failed_inside =
        record {
          few = omega (arith, held.failed.number, held.fits, in_range.goals);
          inside = λ i h. rw (round_below t.failed (0 + i) (omega arith)) (omega (arith, held.failed.number, held.fits));
        }
