-- The loop of `places`: it stands in two compounds, whose arguments are compared in turn, and whatever answers these answers the whole call too,
-- since each compound that it left had no argument to compare behind the one that it went on to.
use Rattle.std.specs.Prelude.{Option, Some, None}
use Prim.Native.Nat.{ℕ, ◌+◌, ◌≤◌, ◌<◌}
use mathlib.Core.Path.{◌≡◌, sym, ap, ◌∙◌}
use mathlib.Core.Bool.{Bool, true, false, not}
use mathlib.Core.List.{List}
use native.Mathlib.Omega.{arith}
use lib.Dec.{eqb}
use lib.ListN.{length, get_or}
use Rattle.meaning.specs.Terms.{Functor, Term, Terms, count}
use Rattle.meaning.specs.Compare.{Result, followed}
use Rattle.run_table.specs.declared.table.PlaceResult.{PlaceResult}
use Rattle.run_table.specs.declared.table.PlaceResult.TheVariants as met
use Rattle.run_table.specs.Rows.{row, Done}
use Rattle.run_table.proofs.Seen.{seen}
use Rattle.term.specs.Setting.{Setting}
use Rattle.term.proofs.Cells.{all_numbered_order}
use Rattle.term.specs.Layout.{trial_region, item_place, clause_base}
use Rattle.term.specs.Words.{tag_in}
use Rattle.run_chains.specs.Follow.{Reads}
use Rattle.run_compare.specs.Compare.{Template, Against, AllAgainst, Answers, place_outcome, places_outcome}
use Rattle.run_compare.specs.Same.{SameConstant, SameBehind}
use Rattle.run_compare.proofs.Kept.{words_kept}
use Rattle.run_compare.proofs.Place.{
  Deeper,
  Compounds,
  place_only,
  place_noted,
  place_fails,
  place_cells,
  place_lower,
  place_compounds,
  place_differs,
  place_deeper,
}
use Rattle.run_compare.proofs.Arguments.{
  Facing,
  Partly,
  head_inside,
  head_count,
  first_partly,
  head_argument_inside,
  next,
  next_against,
  one_more,
  fails_here,
  rest_agrees,
}
use Rattle.run_compare.proofs.Goals.{InCompound, goal_argument_inside, goal_read, goals_left}
use Rattle.run_compare.proofs.Same.{ends_agree}

-- It went on to the compounds at p and q with the scratch begun and so many entries made, and stands before their i-th argument; those behind the
-- k-th are the same constants.
pub record Going (s₀ s : List ℕ) (x : Setting) (y : Template) (from links first n lo hi size : ℕ) (o : Result) (p q k given i : ℕ) : Type 0 where
  pub begun : List ℕ
  pub made : ℕ
  pub m : ℕ
  pub g : Functor
  pub us : Terms
  pub low : ℕ
  pub high : ℕ
  pub l : ℕ
  pub f : Functor
  pub ts : Terms
  pub against : AllAgainst begun x y from links m g us low high l f ts p q made
  pub partly : Partly (InCompound x l) begun s x y from links m us low high ts made (count us) given i
  pub behind : SameBehind begun p q (count us) k
  pub long : length begun ≡ length s₀
  pub later : first ≤ p
  pub back : (s' : List ℕ) (r : Option ℕ) → Answers begun s' x y made low high (count us) (places_outcome x links us ts) r
      → Answers s₀ s' x y n lo hi size o r

module _ (links : ℕ) {s : List ℕ} {x : Setting} {y : Template} {from m : ℕ} {g : Functor} {us : Terms} {lo hi l : ℕ} {f : Functor} {ts : Terms} {p q n : ℕ}
    (a : AllAgainst s x y from links m g us lo hi l f ts p q n) where
  -- What `open` asks.
  pub both_inside : (p + 8 ≤ length s) × (q + 8 ≤ length s)
  both_inside = (head_inside links a.head, omega (arith, a.goal_cell.inside, a.goal_place))

  -- It begins with two compounds.
  pub begins : {k : ℕ} → SameBehind s p q (tag_in (get_or s p 0)) k → {s₀ : List ℕ} {first n₀ lo₀ hi₀ size : ℕ} {o : Result} → length s ≡ length s₀ → first ≤ p
      → ((s' : List ℕ) (r : Option ℕ) → Answers s s' x y n lo hi (count us) (places_outcome x links us ts) r → Answers s₀ s' x y n₀ lo₀ hi₀ size o r)
      → Going s₀ s x y from links first n₀ lo₀ hi₀ size o p q k n 1
  begins b long later back = record {
    begun = s;
    made = n;
    m = m;
    g = g;
    us = us;
    low = lo;
    high = hi;
    l = l;
    f = f;
    ts = ts;
    against = a;
    partly = first_partly links a.head (InCompound x l) ts a.goal a.counts (count us) (sym (head_count links a.head));
    behind = rw (head_count links a.head) at b;
    long = long;
    later = later;
    back = back;
  }

module _ (links : ℕ) {s₀ s : List ℕ} {x : Setting} {y : Template} {from first n lo hi size : ℕ} {o : Result} {p q k given i : ℕ}
    (G : Going s₀ s x y from links first n lo hi size o p q k given i) where
  pub same_size : length s ≡ length s₀
  same_size = G.partly.only.size ∙ G.long

  pub few_left : k ≤ 6
  few_left = omega (arith, G.behind.few, G.against.head.cell.few)

  inside : i ≤ k → i ≤ count G.us
  inside h = omega (arith, G.behind.few)

  pub head_word_inside : i ≤ k → p + i < length s
  head_word_inside h = head_argument_inside links G.against.head G.partly (inside h)

  pub goal_word_inside : i ≤ k → q + i < length s
  goal_word_inside h = goal_argument_inside links G.against G.partly (inside h)

  -- The arguments that are left are the same constants.
  rest_same : k < i → (j : ℕ) → G.partly.j ≤ j → j < G.partly.j + count G.partly.heads
      → SameConstant (get_or s (item_place (clause_base y.number) G.m + 1 + j) 0) (get_or s (x.places.compound G.l + 1 + j) 0)
  rest_same h j a b =
      let A = G.against in
      let P = G.partly in
      let at_head = item_place (clause_base y.number) G.m + 1 + j in
      let at_goal = x.places.compound G.l + 1 + j in
      let up_to : j + 1 ≤ count G.us = omega (arith, P.left) in
      let ordered = all_numbered_order G.low G.high G.us A.head.terms.numbered in
      let head_there : at_head ≡ p + (j + 1) = omega (arith, A.head.place) in
      let goal_there : at_goal ≡ q + (j + 1) = omega (arith, A.goal_place) in
      let head_kept : get_or s at_head 0 ≡ get_or G.begun (p + (j + 1)) 0 =
      P.only.below at_head
      (omega (arith, A.head.trial.number, A.head.trial.compounds, A.head.terms.rising, A.head.terms.high, A.head.cell.few))
      ∙ ap (λ c. get_or G.begun c 0) head_there
      in
      let goal_kept : get_or s at_goal 0 ≡ get_or G.begun (q + (j + 1)) 0 =
      words_kept G.begun s P.only x A.head.trial.outside G.l A.goal_number at_goal (omega arith)
      (omega (arith, A.goal_cell.wide, A.counts))
      ∙ ap (λ c. get_or G.begun c 0) goal_there
      in
      rw (head_kept, goal_kept) (G.behind.same (j + 1) (omega (arith, P.at)) up_to)

  pub ends : k < i → Answers s₀ s x y n lo hi size o (Some given)
  ends h =
      let P = G.partly in
      G.back s (Some given)
      (rest_agrees links G.against.head P
      (ends_agree x y links s G.m G.l P.j P.heads P.goals P.head.held P.goal.held P.head.known P.goal.known
      P.head.ranged P.goal.ranged P.counts (rest_same h)))

  module _ (F : Facing s x y G.m G.partly.j G.partly.low G.high G.partly.heads G.partly.goals) where
    abbrev one : Result
    one = place_outcome x links F.t (followed links x.values F.u)

    fails_one : {s' : List ℕ} → Answers s s' x y given G.partly.low F.mid 1 one None → Answers s₀ s' x y n lo hi size o None
    fails_one {s'} r = G.back s' None (fails_here links G.against.head G.partly F r)

    noted_one : {s' : List ℕ} {m' : ℕ} → Answers s s' x y given G.partly.low F.mid 1 one (Some m')
        → Going s₀ s' x y from links first n lo hi size o p q k m' (i + 1)
    noted_one r = record {
      begun = G.begun;
      made = G.made;
      m = G.m;
      g = G.g;
      us = G.us;
      low = G.low;
      high = G.high;
      l = G.l;
      f = G.f;
      ts = G.ts;
      against = G.against;
      partly = one_more links G.against.head G.partly F r (goals_left links G.against G.partly F r.only);
      behind = G.behind;
      long = G.long;
      later = G.later;
      back = G.back;
    }

-- The last argument to be compared answers for the whole.
last_one : (links : ℕ) {s₀ s : List ℕ} {x : Setting} {y : Template} {from first n lo hi size : ℕ} {o : Result} {p q k given i : ℕ}
    (G : Going s₀ s x y from links first n lo hi size o p q k given i)
    (F : Facing s x y G.m G.partly.j G.partly.low G.high G.partly.heads G.partly.goals)
    → i ≡ k → (s' : List ℕ) (r : Option ℕ)
    → Answers s s' x y given G.partly.low F.mid 1 (place_outcome x links F.t (followed links x.values F.u)) r
    → Answers s₀ s' x y n lo hi size o r
last_one links G F e s' (Some m) r = ends links (noted_one links G F r) (omega arith)
last_one links G F e s' None r = fails_one links G F r

-- One turn: the words of the next argument of both, the goal's followed.
module _ (links : ℕ) {s₀ s : List ℕ} {x : Setting} {y : Template} {from first n lo hi size : ℕ} {o : Result} {p q k given i : ℕ}
    (G : Going s₀ s x y from links first n lo hi size o p q k given i) (left : i ≤ k) where
  pub facing : Facing s x y G.m G.partly.j G.partly.low G.high G.partly.heads G.partly.goals
  facing = next links G.against.head G.partly (inside links G left)

  pub turn_reads : {a : ℕ} → a ≡ get_or s (q + i) 0 → Reads s x from links facing.u a
  turn_reads e = goal_read links G.against G.partly facing e

  module _ {h a w : ℕ} (head : h ≡ get_or s (p + i) 0) (goal : a ≡ get_or s (q + i) 0)
      (leads : (x : Setting) (t : Term) → Reads s x from links t a → Reads s x from links (followed links x.values t) w) where
    pub turn_against : Against s x y from links G.partly.low facing.mid facing.t (followed links x.values facing.u) h w given
    turn_against = next_against links G.against.head G.partly facing head (leads x facing.u (turn_reads goal))

    -- What the table answers.
    module _ {s' : List ℕ} {answer : PlaceResult} (done : Done s s' given h w (row (eqb h w) (seen h) (seen w)) answer) where
      pub turn_noted : {m : ℕ} → answer ≡ met.Noted m → Going s₀ s' x y from links first n lo hi size o p q k m (i + 1)
      turn_noted e = noted_one links G facing (place_noted links turn_against done e)

      pub turn_fails : answer ≡ met.Fails → Answers s₀ s' x y n lo hi size o None
      turn_fails e = fails_one links G facing (place_fails links turn_against done e)

      module _ {b c : ℕ} (e : answer ≡ met.Below b c) where
        pub turn_cells : (b < length s') × (c < length s')
        turn_cells = place_cells links turn_against done e

        -- The head's compound lies behind the one that it is an argument of.
        pub turn_later : (p < b) × (b < trial_region)
        turn_later =
            let lower = place_lower links turn_against done e in
            let A = G.against.head in (
              omega (arith, lower.0, A.place, G.partly.head.rising),
              omega (arith, lower.0, lower.1, facing.head.high, A.trial.number, A.trial.compounds),
            )

        pub turn_compounds : Compounds s s' x y from links G.partly.low facing.mid given facing.t (followed links x.values facing.u) b c
        turn_compounds = place_compounds links turn_against done e

        module _ {s₂ : List ℕ} {r : Option ℕ}
            (answers : Answers s' s₂ x y given G.partly.low facing.mid 1
            (place_outcome x links (Term.compound turn_compounds.m turn_compounds.g turn_compounds.us)
            (Term.compound turn_compounds.l turn_compounds.f turn_compounds.ts)) r) where
          pub both_noted : {m : ℕ} → r ≡ Some m → Going s₀ s₂ x y from links first n lo hi size o p q k m (i + 1)
          both_noted v = noted_one links G facing (rw v at (turn_compounds.back s₂ r answers))

          pub both_fail : r ≡ None → Answers s₀ s₂ x y n lo hi size o None
          both_fail v = fails_one links G facing (rw v at (turn_compounds.back s₂ r answers))

        -- It goes on to two compounds that stand last.
        module _ {differ : Bool} (told : differ ≡ not (eqb (get_or s' b 0) (get_or s' c 0))) where
          pub turn_differs : differ ≡ true → Answers s₀ s' x y n lo hi size o None
          turn_differs v = fails_one links G facing (place_differs links turn_against done e differ told v)

          turn_deeper : differ ≡ false
              → Deeper s s' x y from links G.partly.low facing.mid given facing.t (followed links x.values facing.u) b c
          turn_deeper v = place_deeper links turn_against done e differ told v

          pub turn_inside : differ ≡ false → (b + 8 ≤ length s') × (c + 8 ≤ length s')
          turn_inside v = both_inside links (turn_deeper v).against

          pub turn_on : differ ≡ false → i ≡ k → {k' : ℕ} → SameBehind s' b c (tag_in (get_or s' b 0)) k'
              → Going s₀ s' x y from links first n lo hi size o b c k' given 1
          turn_on v last behind =
              begins links (turn_deeper v).against behind ((place_only links turn_against done).size ∙ same_size links G)
              (omega (arith, G.later, turn_later.0))
              (λ s₂ r ans. last_one links G facing last s₂ r ((turn_deeper v).back s₂ r ans))
