-- What a trial answers: where a place fails, where some wait, where the circle test finds a circle, and what its guards make of it. The readers that it waits on
-- join those that the step has met; a trial that fails leaves them.
use Prim.Native.Nat.{ℕ, ◌+◌, ◌*◌, ◌≤◌, ◌<◌}
use mathlib.Core.Path.{◌≡◌, refl, sym, subst, ap, ◌∙◌}
use mathlib.Core.Bool.{Bool, true, false}
use mathlib.Core.Logic.{◌≢◌}
use mathlib.Core.List.{List, [], ◌∷◌, map}
use native.Mathlib.Omega.{arith}
use lib.ListN.{length, get_or}
use Rattle.meaning.specs.Bytes.{Bytes, when◌then◌else◌}
use Rattle.meaning.specs.Terms.{Clause, Job}
use Rattle.meaning.specs.State.{Room, Goal}
use Rattle.meaning.specs.Compare.{waits, fails}
use Rattle.meaning.specs.Guards.{in_order}
use Rattle.meaning.specs.Trial.{next_pair, compared, tested, guarded, trial}
use Rattle.laws.proofs.Circle.{run_no_circle}
use Rattle.laws.proofs.Lists.Among.{In}
use Rattle.term.specs.Cells.{Places}
use Rattle.term.specs.Frames.{Only}
use Rattle.term.specs.States.{setting, listed}
use Rattle.term.specs.Layout.{trial_region, compounds_region, gifts_part, gift_pair, gift_term, woken_part}
use Rattle.std.specs.Prelude.{Option, Some, None, Result as Outcome, Ok, Err}
use Rattle.run_compare.specs.Notes.{asks_in}
use Rattle.run_compare.proofs.Notes.{outcome_waits}
use Rattle.run_circle.specs.Circle.{Tested}
use Rattle.run_circle.specs.Ground.{NewGrounds}
use Rattle.run_circle.proofs.Grounds.{new_then}
use Rattle.run_readers.specs.Readers.{asked_in, all_met, Readers, Met}
use Rattle.run_readers.proofs.AllMet.{all_met_not_none}
use Rattle.run_readers.proofs.Ranks.{listed_length}
use Rattle.run_asked.specs.Asking.{Asking, Joined}
use Rattle.run_trial.specs.declared.choice.TrialResult.TheVariants as results
use Rattle.run_asked.specs.declared.asking.Hindered.{Hindered}
use Rattle.run_asked.specs.declared.asking.Hindered.TheVariants.{Waits, Fails}
use Rattle.run_guards.specs.Guarding.{Guarded, Earlier, GuardsAre}
use Rattle.run_trial.specs.Choosing.{unit_of, Trying, ArgumentsStand, TrialOnly, NewMarks, MarksBelow, Gathered, template, Candidate, TrialIs}
use Rattle.run_trial.proofs.Asked.{asks_below, asked_at, mapped_below}
use Rattle.run_trial.proofs.Heads.{clause_held, guards_fit, compared_is}
use Rattle.run_trial.proofs.Trials as trials
use Rattle.run_trial.proofs.Staying.{
  trial_only_then,
  trial_only_wider,
  trial_only_more,
  trial_only_region,
  trial_only_marks,
  trial_only_readers,
  set_stays,
  joined_then,
  new_marks_then,
  new_marks_same,
  new_marks_of,
  grounds_stay,
  marks_stay,
}

-- The step has met a reader exactly if an earlier clause waits on one.
pub gathered_earlier : {s : List ℕ} {at : Places} {list pairs n : ℕ} {earlier : List ℕ} → Gathered s at list pairs n earlier → Earlier earlier n
unfolding all_met
gathered_earlier {s} {at} {list} {pairs} {n} {earlier} w = go earlier (sym (ap length w.words) ∙ listed_length s list n)
  where
    none_long : (l : List ℕ) → length l ≡ 0 → l ≡ []
    none_long [] e = refl
    none_long (p ∷ l) e = absurd (omega arith)

    go : (l : List ℕ) → length (all_met [] (map (λ p. at.pair p) l)) ≡ n → Earlier l n
    go [] e = record { none_met = λ q. refl; none = λ q. sym e }
    go (p ∷ l) e = record {
      none_met = λ q. absurd (all_met_not_none [] (at.pair p) (map (λ p. at.pair p) l) (none_long _ (e ∙ q)));
      none = λ q. let wrong : ◌≡◌ {A = ℕ} 0 1 = cc in absurd (omega arith);
    }

module _ {s s₁ : List ℕ} {text : Bytes} {names : List Bytes} {j : Job} {limit : ℕ} {figures : Room} {at : Places} {g : Goal} {others : List Goal}
    {values marks links goal k readers : ℕ} {c : Clause}
    (t : Trying s text names j limit figures at g others values marks links goal) (f : ArgumentsStand s j limit figures at g links)
    (m : Candidate s names j g k c) (begun : Only trial_region gifts_part s s₁) (met : Readers s (marks + figures.pairs) figures.pairs readers) where
  behind : compounds_region ≤ marks
  behind = omega (arith, t.values_behind, t.marks_behind)

  -- Behind the comparison: what `meet_all` asks, where no place fails.
  compared_frame : {s₂ : List ℕ} (r : Option ℕ) → trials.Comparison t f m begun s₂ r → TrialOnly woken_part marks figures.pairs s s₂
  compared_frame r told =
      trial_only_then (trial_only_region woken_part marks figures.pairs (omega arith) begun)
      (trial_only_region woken_part marks figures.pairs (omega arith) told.only)

  compared_set : {s₂ : List ℕ} (r : Option ℕ) → trials.Comparison t f m begun s₂ r
      → Joined s s₂ (marks + figures.pairs) figures.pairs readers [] readers
  compared_set r told = set_stays behind (trial_only_wider compounds_region (omega arith) (compared_frame r told)) met

  pub meets : {s₂ : List ℕ} {n : ℕ} → trials.Comparison t f m begun s₂ (Some n)
      → Readers s₂ (marks + links) links readers × (woken_part ≤ marks + links) × (n ≤ 192)
      × ((i : ℕ) → i < n → get_or s₂ (gift_term i) 0 ≡ 0 → get_or s₂ (gift_pair i) 0 < links)
  meets {s₂} {n} told =
      let x = setting figures at (unit_of j limit figures g) in
      let small : (i : ℕ) → i < n → get_or s₂ (gift_term i) 0 ≡ 0 → get_or s₂ (gift_pair i) 0 < figures.pairs = λ i h z.
      mapped_below (length x.values) figures.pairs (λ p. at.pair p) t.unit.held.place (asks_in (trials.notes t f m begun told))
      (asks_below (trials.notes t f m begun told) s₁ x (template k c) 1 (trials.to t f m begun) told.told.1.held)
      (subst (λ l. In (get_or s₂ (gift_pair i) 0) l) (trials.asked_noted t f m begun told) (asked_at s₂ n i h z)) in
      rw t.links_are ((compared_set (Some n) told).ok, omega (arith, behind), trials.few_noted t f m begun told, small)

  -- What `guards` asks, where the circle test finds none.
  module _ {s₂ s₃ : List ℕ} {n stamp : ℕ} {found : Bool} (new : MarksBelow s marks figures.pairs stamp) (fit : (1 < stamp) × (stamp + 256 < 1099511627776))
      (cleared : (a : ℕ) → a < c.pairs → get_or s₁ (trial_region + a) 0 ≡ 0)
      (told : trials.Comparison t f m begun s₂ (Some n)) (none_asked : asks_in told.told.1.notes ≡ [])
      (answer : Tested s₂ s₃ (trials.tried_as t f m begun new fit cleared told none_asked) marks n stamp found) where
    now : Trying s₃ text names j limit figures at g others values marks links goal
    now = trials.tested_trying t f m begun new fit cleared told none_asked answer

    tested_set : Joined s s₃ (marks + figures.pairs) figures.pairs readers [] readers
    tested_set =
        set_stays behind (trial_only_wider compounds_region (omega arith) (trials.whole_frame t f m begun new fit cleared told none_asked answer)) met

    asking : Asking s₃ (setting figures at (unit_of j limit figures g)) (template k c) (trials.given t f m begun new fit cleared told none_asked) values marks links
    asking = record {
      chained = record { stands = now.unit; links_are = now.links_are; ends = now.ends };
      apart = t.apart;
      compound_behind = t.compound_behind;
      compound_before = t.compound_before;
      values_behind = t.values_behind;
      marks_behind = t.marks_behind;
      inside = now.inside;
      ends_behind = t.ends_behind;
      number = m.at.number;
      few_pairs = m.at.held.laid.few_pairs;
      few_compounds = m.at.held.laid.few_compounds;
      gave = trials.gave_at t f m begun new fit cleared told none_asked answer;
      grounds = now.grounds;
      no_circle = run_no_circle j limit figures g.query;
    }

    pub guarding : Guarded s₃ (setting figures at (unit_of j limit figures g)) (template k c) c (trials.given t f m begun new fit cleared told none_asked)
        values marks links readers (stamp + 192)
    guarding = record {
      asking = asking;
      at = clause_held now (trials.tested_candidate t f m begun new fit cleared told none_asked answer);
      pairs_are = refl;
      compounds_are = refl;
      fit = guards_fit t m;
      readers = subst (λ l. Readers s₃ (marks + l) l readers) (sym t.links_are) tested_set.ok;
      few_links = t.few_links;
      near = t.near;
      stamps = trials.marks_after t f m begun new fit cleared told none_asked answer;
      above = omega (arith, fit.0);
      below = omega (arith, fit.1);
    }

    -- "If the circle test fails it": there is a circle.
    pub circle_fails : {earlier : List ℕ} → found ≡ true → TrialIs s s₃ j limit figures at g marks readers stamp k c earlier results.Fails
    unfolding when◌then◌else◌ guarded
    circle_fails {earlier} e = record {
      only = trial_only_more (3 * figures.pairs) (omega arith) (trials.whole_frame t f m begun new fit cleared told none_asked answer);
      marks_now = λ a l h. omega (arith, trials.marks_after t f m begun new fit cleared told none_asked answer a l h);
      told = (rw e at (trials.tested_is t f m begun new fit cleared told none_asked answer earlier), tested_set);
      grounds = new_marks_of at (unit_of j limit figures g).values marks figures.pairs s s₃
          (trials.grounds_after t f m begun new fit cleared told none_asked answer);
    }

    -- "After the circle test, each guard in order."
    module _ {s₄ : List ℕ} {earlier : List ℕ} {r : Outcome Unit Hindered} (no_circle : found ≡ false)
        (asked : GuardsAre s₃ s₄ (setting figures at (unit_of j limit figures g)) c earlier (trials.given t f m begun new fit cleared told none_asked)
        marks links readers (stamp + 192) r) where
      changed : Only marks (marks + 3 * figures.pairs) s₃ s₄
      changed = subst (λ l. Only marks (marks + 3 * l) s₃ s₄) t.links_are asked.only

      frame : TrialOnly woken_part marks (3 * figures.pairs) s s₄
      frame =
          trial_only_then (trial_only_more (3 * figures.pairs) (omega arith) (trials.whole_frame t f m begun new fit cleared told none_asked answer))
          (trial_only_marks woken_part changed)

      marks_then : MarksBelow s₄ marks figures.pairs (stamp + 256)
      marks_then a l h = omega (arith, asked.stamps a l h)

      grounds_then : NewMarks at (unit_of j limit figures g).values marks figures.pairs s s₄
      grounds_then =
          new_marks_then at (unit_of j limit figures g).values marks figures.pairs s s₃ s₄
          (new_marks_of at (unit_of j limit figures g).values marks figures.pairs s s₃
          (trials.grounds_after t f m begun new fit cleared told none_asked answer))
          asked.grounds

      by_guards : trial earlier c (unit_of j limit figures g) g.goal
          ≡ in_order earlier (trials.given t f m begun new fit cleared told none_asked) (unit_of j limit figures g).values
          (length (unit_of j limit figures g).values) c.guards
      unfolding when◌then◌else◌ guarded next_pair
      by_guards = rw no_circle at (trials.tested_is t f m begun new fit cleared told none_asked answer earlier)

      joined : (ps : List ℕ) (l : ℕ) → Joined s₃ s₄ (marks + links) links readers ps l
          → Joined s s₄ (marks + figures.pairs) figures.pairs readers ps l
      joined ps l h = joined_then tested_set (subst (λ n. Joined s₃ s₄ (marks + n) n readers ps l) t.links_are h)

      pub guards_succeed : r ≡ Ok tt → TrialIs s s₄ j limit figures at g marks readers stamp k c earlier (results.Succeeds n)
      guards_succeed e =
          let is = rw e at asked.told in
          record {
            only = frame;
            marks_now = marks_then;
            told = (
              trials.given t f m begun new fit cleared told none_asked,
              by_guards ∙ is.0,
              trials.succeeded t f m begun new fit cleared told none_asked answer s₄ changed,
            );
            grounds = grounds_then;
          }

      pub guards_wait : (l : ℕ) → r ≡ Err (Waits l) → TrialIs s s₄ j limit figures at g marks readers stamp k c earlier (results.Waits l)
      guards_wait l e =
          let is = rw e at asked.told in
          record {
            only = frame;
            marks_now = marks_then;
            told = (is.0, by_guards ∙ is.1, is.2, joined (map (λ p. at.pair p) is.0) l is.3);
            grounds = grounds_then;
          }

      pub guards_fail : r ≡ Err Fails → TrialIs s s₄ j limit figures at g marks readers stamp k c earlier results.Fails
      guards_fail e =
          let is = rw e at asked.told in
          record { only = frame; marks_now = marks_then; told = (by_guards ∙ is.0, joined [] readers is.1); grounds = grounds_then }

  -- Where places wait, or one fails.
  module _ {s₂ : List ℕ} {stamp : ℕ} (new : MarksBelow s marks figures.pairs stamp) where
    grounds_still : (r : Option ℕ) → trials.Comparison t f m begun s₂ r → NewGrounds at (unit_of j limit figures g).values marks s s₂
    grounds_still r told =
        new_then at (unit_of j limit figures g).values marks s s₁ s₂ (trials.begun_grounds t f m begun)
        (grounds_stay at (unit_of j limit figures g).values marks (trials.marks_high t f m begun) told.only)

    marks_still : (r : Option ℕ) → trials.Comparison t f m begun s₂ r → MarksBelow s₂ marks figures.pairs (stamp + 256)
    marks_still r told a l h =
        let still =
        marks_stay marks figures.pairs stamp (omega (arith, behind)) told.only
        (marks_stay marks figures.pairs stamp (omega (arith, behind)) begun new) a l h in
        omega (arith, still)

    pub some_wait : (n : ℕ) (told : trials.Comparison t f m begun s₂ (Some n)) → asks_in told.told.1.notes ≢ [] → {s₃ : List ℕ} {earlier : List ℕ} (l : ℕ)
        → Met s₂ s₃ (marks + links) links readers (asked_in s₂ n) l → TrialIs s s₃ j limit figures at g marks readers stamp k c earlier (results.Waits l)
    unfolding trial tested guarded
    some_wait n told asked {s₃} l met_now =
        let x = setting figures at (unit_of j limit figures g) in
        let more : Met s₂ s₃ (marks + figures.pairs) figures.pairs readers (asked_in s₂ n) l =
        subst (λ n'. Met s₂ s₃ (marks + n') n' readers (asked_in s₂ n) l) t.links_are met_now in
        let waits_is : compared c (unit_of j limit figures g) g.goal ≡ waits (asks_in (trials.notes t f m begun told)) =
        compared_is t m ∙ told.told.1.outcome ∙ outcome_waits (length x.values) x.compounds (trials.notes t f m begun told) asked
        in
        record {
          only =
              trial_only_then (trial_only_more (3 * figures.pairs) (omega arith) (compared_frame (Some n) told))
              (trial_only_readers woken_part marks figures.pairs more.only);
          marks_now = λ a l h. rw (more.only.below a (omega arith)) (marks_still (Some n) told a l h);
          told = (
            asks_in (trials.notes t f m begun told),
            rw (waits_is, tested, guarded) refl,
            asks_below (trials.notes t f m begun told) s₁ x (template k c) 1 (trials.to t f m begun) told.told.1.held,
            joined_then (compared_set (Some n) told)
                (record {
                  ok = more.ok;
                  list = more.list ∙ ap (all_met (listed s₂ (marks + figures.pairs) readers)) (trials.asked_noted t f m begun told);
                }),
          );
          grounds =
              new_marks_then at (unit_of j limit figures g).values marks figures.pairs s s₂ s₃
              (new_marks_of at (unit_of j limit figures g).values marks figures.pairs s s₂ (grounds_still (Some n) told))
              (new_marks_same at (unit_of j limit figures g).values marks figures.pairs s₂ s₃
              (λ q h. more.only.below (marks + q) (omega arith)));
        }

    pub place_fails : {earlier : List ℕ} → trials.Comparison t f m begun s₂ None → TrialIs s s₂ j limit figures at g marks readers stamp k c earlier results.Fails
    unfolding trial tested guarded
    place_fails told =
        let fails_is : compared c (unit_of j limit figures g) g.goal ≡ fails = compared_is t m ∙ told.told in
        record {
          only = trial_only_more (3 * figures.pairs) (omega arith) (compared_frame None told);
          marks_now = marks_still None told;
          told = (rw (fails_is, tested, guarded) refl, compared_set None told);
          grounds = new_marks_of at (unit_of j limit figures g).values marks figures.pairs s s₂ (grounds_still None told);
        }
