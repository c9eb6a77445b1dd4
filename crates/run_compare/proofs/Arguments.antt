-- Argument by argument: what was noted so far, and what is left of both lists; the outcome of the whole is that of what was noted, and then of what is
-- left.
-- How the goal's arguments stand in the scratch is left open: G says it of those that are left.
use Rattle.std.specs.Prelude.{Some, None}
use Prim.Native.Nat.{ℕ, ◌+◌, ◌*◌, ◌≤◌, ◌<◌}
use mathlib.Core.Path.{◌≡◌, refl, sym, subst, ap, ◌∙◌}
use mathlib.Core.List.{List, [], ◌++◌}
use native.Mathlib.Omega.{arith}
use lib.ListN.{length, get_or}
use Rattle.meaning.specs.Terms.{Functor, Term, Terms, end, more, count, all_renamed}
use Rattle.laws.proofs.Trial.Places.{and_then_nothing_before, and_then_nothing_behind, and_then_associative}
use Rattle.meaning.specs.Compare.{Result, succeeds, followed, and_then, places}
use Rattle.term.specs.Cells.{term_word, AllKnown, AllNumbered}
use Rattle.term.specs.Holds.{HoldsFrom}
use Rattle.term.specs.Frames.{Only}
use Rattle.term.proofs.Cells.{numbered_order, all_numbered_order}
use Rattle.term.proofs.Frames.{only_same, only_then}
use Rattle.term.specs.Setting.{Setting, AllWithin, AllRanged}
use Rattle.term.specs.Layout.{trial_region, woken_part, item_place, clause_base}
use Rattle.term.specs.Words.{tag_in}
use Rattle.run_chains.specs.Follow.{Reads}
use Rattle.run_chains.proofs.Compounds.{first_count}
use Rattle.run_compare.specs.Gifts.{assignments}
use Rattle.run_compare.specs.Notes.{Note, gifts_in, asks_in, judged, outcome_of, noted, written}
use Rattle.run_compare.specs.Compare.{Template, item, HeadTerm, HeadTerms, TrialStands, Against, HeadArguments, AllNoted, Answers, place_outcome, places_outcome}
use Rattle.run_compare.proofs.Kept.{only_back, trial_kept, head_terms_kept, all_noted_kept}
use Rattle.run_compare.proofs.Notes.{then_fails, outcome_append, noted_append, written_append, noted_wider, all_noted_append}

-- The next argument of both, where one is left.
pub record Facing (s : List ℕ) (x : Setting) (y : Template) (m j lo hi : ℕ) (heads goals : Terms) : Type 0 where
  pub t : Term
  pub u : Term
  pub us : Terms
  pub ts : Terms
  pub mid : ℕ
  pub heads_are : heads ≡ more t us
  pub goals_are : goals ≡ more u ts
  pub head_word : get_or s (item_place (clause_base y.number) m + 1 + j) 0 ≡ term_word (item x y) t
  pub head : HeadTerm s x y lo mid t
  pub heads_left : HeadTerms s x y m (j + 1) mid hi us
  pub low : lo ≤ mid
  pub mid_high : mid ≤ hi

facing : (s : List ℕ) (x : Setting) (y : Template) (m j lo hi : ℕ) (heads goals : Terms) → HeadTerms s x y m j lo hi heads
    → count heads ≡ count goals → 0 < count heads → Facing s x y m j lo hi heads goals
unfolding count HoldsFrom AllWithin AllRanged AllKnown AllNumbered
facing s x y m j lo hi end goals a e p = absurd (omega arith)
facing s x y m j lo hi (more t us) end a e p = absurd (omega arith)
facing s x y m j lo hi (more t us) (more u ts) a e p =
    let mid = a.numbered.0 in
    let low : lo ≤ mid = numbered_order lo mid t a.numbered.1 in
    let high : mid ≤ hi = all_numbered_order mid hi us a.numbered.2 in
    record {
      t = t;
      u = u;
      us = us;
      ts = ts;
      mid = mid;
      heads_are = refl;
      goals_are = refl;
      head_word = a.held.0;
      head =
          record {
            held = a.held.1;
            within = a.within.0;
            known = a.known.0;
            ranged = a.ranged.0;
            numbered = a.numbered.1;
            high = omega (arith, a.high);
          };
      heads_left =
          record {
            held = a.held.2;
            within = a.within.1;
            known = a.known.1;
            ranged = a.ranged.1;
            numbered = a.numbered.2;
            high = a.high;
            rising = omega (arith, a.rising);
          };
      low = low;
      mid_high = high;
    }

-- So far, before the i-th argument: s₀ was the scratch at first, made the entries made.
pub record Partly (G : List ℕ → ℕ → Terms → Type 0) (s₀ s : List ℕ) (x : Setting) (y : Template) (from links m : ℕ) (us : Terms) (lo hi : ℕ)
    (ts : Terms) (n k given i : ℕ) : Type 0 where
  pub whole : k ≡ count us
  pub j : ℕ
  pub at : i ≡ j + 1
  pub heads : Terms
  pub goals : Terms
  pub low : ℕ
  pub notes : List Note
  pub only : Only trial_region woken_part s₀ s
  pub scratch : s ≡ written (item x y) x.places n notes s₀
  pub counted : given ≡ n + noted notes
  pub held : AllNoted s₀ x y lo low notes
  pub trial : TrialStands s x y from links
  pub head : HeadTerms s x y m j low hi heads
  pub goal : G s j goals
  pub counts : count heads ≡ count goals
  pub left : j + count heads ≡ count us
  pub fits : given + count heads + 6 * lo ≤ n + count us + 6 * low
  pub outcome : places_outcome x links us ts ≡ and_then (outcome_of (length x.values) x.compounds notes) (places_outcome x links heads goals)

module _ (links : ℕ) {s₀ : List ℕ} {x : Setting} {y : Template} {from m : ℕ} {g : Functor} {us : Terms} {lo hi p n : ℕ}
    (a : HeadArguments s₀ x y from links m g us lo hi p n) where
  pub head_inside : p + 8 ≤ length s₀
  head_inside = omega (arith, a.cell.inside, a.place)

  pub head_count : tag_in (get_or s₀ p 0) ≡ count us
  head_count = rw (a.place, a.cell.functor) (first_count (item x y) g (count us) a.cell.few)

  pub first_partly : (G : List ℕ → ℕ → Terms → Type 0) (ts : Terms) → G s₀ 0 ts → count us ≡ count ts → (k : ℕ) → k ≡ tag_in (get_or s₀ p 0)
      → Partly G s₀ s₀ x y from links m us lo hi ts n k n 1
  unfolding assignments gifts_in asks_in judged noted written AllNoted
  first_partly G ts goals counts k e = record {
    whole = e ∙ head_count;
    j = 0;
    at = refl;
    heads = us;
    goals = ts;
    low = lo;
    notes = [];
    only = only_same trial_region woken_part s₀;
    scratch = refl;
    counted = omega arith;
    held = omega arith;
    trial = a.trial;
    head = a.terms;
    goal = goals;
    counts = counts;
    left = omega arith;
    fits = omega arith;
    outcome = sym (and_then_nothing_before (places_outcome x links us ts));
  }

  module _ {G : List ℕ → ℕ → Terms → Type 0} {ts : Terms} {s : List ℕ} {k given i : ℕ} (P : Partly G s₀ s x y from links m us lo hi ts n k given i) where
    pub count_small : k ≤ 6
    count_small = omega (arith, P.whole, a.cell.few)

    -- Within the compound's place, while an argument is left.
    pub head_argument_inside : i ≤ k → p + i < length s
    head_argument_inside h = omega (arith, head_inside, P.only.size, count_small)

    pub next : i ≤ k → Facing s x y m P.j P.low hi P.heads P.goals
    next h =
        facing s x y m P.j P.low hi P.heads P.goals P.head P.counts
        (omega (arith, P.at, P.left, P.whole))

    module _ (F : Facing s x y m P.j P.low hi P.heads P.goals) where
      pub head_read : {h : ℕ} → h ≡ get_or s (p + i) 0 → h ≡ term_word (item x y) F.t
      head_read e =
          let same : p + i ≡ item_place (clause_base y.number) m + 1 + P.j = omega (arith, a.place, P.at) in
          e ∙ ap (λ c. get_or s c 0) same ∙ F.head_word

      pub goals_here : G s P.j (more F.u F.ts)
      goals_here = subst (λ goals. G s P.j goals) F.goals_are P.goal

      pub next_against : {h w : ℕ} → h ≡ get_or s (p + i) 0 → Reads s x from links (followed links x.values F.u) w
          → Against s x y from links P.low F.mid F.t (followed links x.values F.u) h w given
      unfolding count
      next_against e r = record {
        trial = P.trial;
        head = F.head;
        goal = r.term;
        head_word = head_read e;
        goal_word = r.word;
        room =
            omega (
              arith,
              a.room,
              P.fits,
              F.low,
              F.mid_high,
              counted_left,
            );
      }
        where
          counted_left : 1 ≤ count P.heads
          counted_left = rw F.heads_are (omega arith)

    module _ (F : Facing s x y m P.j P.low hi P.heads P.goals) where
      abbrev pub one : Result
      one = place_outcome x links F.t (followed links x.values F.u)

      split : places_outcome x links us ts
          ≡ and_then (outcome_of (length x.values) x.compounds P.notes) (and_then one (places_outcome x links F.us F.ts))
      unfolding places all_renamed
      split = rw (F.heads_are, F.goals_are) at P.outcome

      counted_heads : count P.heads ≡ count F.us + 1
      unfolding count
      counted_heads = rw F.heads_are (omega arith)

      counted_goals : count P.goals ≡ count F.ts + 1
      unfolding count
      counted_goals = rw F.goals_are (omega arith)

      -- How many goal's arguments are left.
      pub goals_few : P.j + 1 + count F.ts ≡ count us
      goals_few = omega (arith, counted_heads, counted_goals, P.counts, P.left)

      -- One argument more does not fail.
      module _ {s' : List ℕ} {m' : ℕ} (r : Answers s s' x y given P.low F.mid 1 one (Some m')) (goals_on : G s' (P.j + 1) F.ts) where
        pub one_more : Partly G s₀ s' x y from links m us lo hi ts n k m' (i + 1)
        one_more = record {
          whole = P.whole;
          j = P.j + 1;
          at = omega (arith, P.at);
          heads = F.us;
          goals = F.ts;
          low = F.mid;
          notes = P.notes ++ more_notes;
          only = only_then trial_region woken_part s₀ s s' P.only r.only;
          scratch = written_on;
          counted = omega (arith, P.counted, r.told.1.counted, noted_append P.notes more_notes);
          held =
              all_noted_append s₀ x y lo P.low F.mid P.notes more_notes P.held
              (all_noted_kept s s₀ (only_back trial_region woken_part s₀ s P.only) x y from links P.trial P.low F.mid more_notes r.told.1.held);
          trial = trial_kept s s' r.only x y from links P.trial;
          head =
              head_terms_kept s s' r.only x y a.trial.number a.trial.compounds m (P.j + 1) F.mid hi F.us
              (omega (arith, F.heads_left.rising, F.mid_high, F.heads_left.high))
              (omega (arith, P.left, a.cell.few, counted_heads))
              F.heads_left;
          goal = goals_on;
          counts = omega (arith, counted_heads, counted_goals, P.counts);
          left = omega (arith, P.left, counted_heads);
          fits = omega (arith, P.fits, r.told.0, counted_heads);
          outcome = outcome_on;
        }
          where
            more_notes : List Note
            more_notes = r.told.1.notes

            written_on : s' ≡ written (item x y) x.places n (P.notes ++ more_notes) s₀
            written_on =
                let there : s' ≡ written (item x y) x.places given more_notes s = r.told.1.scratch in
                let back = written_append (item x y) x.places n P.notes more_notes s₀ in
                let onward : written (item x y) x.places given more_notes s
                ≡ written (item x y) x.places (n + noted P.notes) more_notes (written (item x y) x.places n P.notes s₀) =
                ap (λ e. written (item x y) x.places e more_notes s) P.counted
                ∙ ap (λ e. written (item x y) x.places (n + noted P.notes) more_notes e) P.scratch
                in
                there ∙ onward ∙ sym back

            outcome_on : places_outcome x links us ts
                ≡ and_then (outcome_of (length x.values) x.compounds (P.notes ++ more_notes)) (places_outcome x links F.us F.ts)
            outcome_on =
                let b = length x.values in
                let c = x.compounds in
                let rest = places_outcome x links F.us F.ts in
                let first = rw r.told.1.outcome at split in
                first
                ∙ sym (and_then_associative (outcome_of b c P.notes) (outcome_of b c more_notes) rest)
                ∙ ap (λ e. and_then e rest) (outcome_append b c P.notes more_notes)

      -- It fails at the first argument that does.
      pub fails_here : {s' : List ℕ} → Answers s s' x y given P.low F.mid 1 one None
          → Answers s₀ s' x y n lo hi (count us) (places_outcome x links us ts) None
      unfolding and_then
      fails_here {s'} r = record {
        only = only_then trial_region woken_part s₀ s s' P.only r.only;
        told = (rw r.told at split) ∙ then_fails (outcome_of (length x.values) x.compounds P.notes);
      }

    -- What is left agrees and gives nothing.
    pub rest_agrees : places_outcome x links P.heads P.goals ≡ succeeds []
        → Answers s₀ s x y n lo hi (count us) (places_outcome x links us ts) (Some given)
    rest_agrees rest = record {
      only = P.only;
      told = (
        omega (arith, P.fits, all_numbered_order P.low hi P.heads P.head.numbered),
        record {
          notes = P.notes;
          outcome = (rw rest at P.outcome) ∙ and_then_nothing_behind (outcome_of (length x.values) x.compounds P.notes);
          scratch = P.scratch;
          counted = P.counted;
          held = noted_wider s₀ x y lo P.low lo hi P.notes (omega arith) (all_numbered_order P.low hi P.heads P.head.numbered) P.held;
        },
      );
    }

    -- No argument is left.
    none_left : (heads goals : Terms) → count heads ≡ count goals → count heads ≡ 0 → places_outcome x links heads goals ≡ succeeds []
    unfolding places all_renamed count
    none_left end end e z = refl
    none_left end (more u ts') e z = absurd (omega arith)
    none_left (more t us') goals e z = absurd (omega arith)

    pub all_agree : k < i → Answers s₀ s x y n lo hi (count us) (places_outcome x links us ts) (Some given)
    all_agree h = rest_agrees (none_left P.heads P.goals P.counts (omega (arith, P.at, P.left, P.whole)))
