-- The goals that wait on the trial's pairs, entry by entry: those found wait on nothing any more, and their places stand in a rising list.
use Prim.Native.Nat.{ℕ, ◌+◌, ◌≤◌, ◌<◌}
use mathlib.Core.Path.{◌≡◌, refl, ap, sym, ◌∙◌}
use mathlib.Core.Bool.{Bool, true, false, true≢false}
use mathlib.Core.Logic.{inl, inr, ⊎_elim}
use mathlib.Core.List.{List, [], ◌∷◌, ◌++◌}
use native.Mathlib.Omega.{arith}
use native.Mathlib.Numerals.{add-one}
use lib.ListN.{length, get_or, set}
use Rattle.meaning.specs.Bytes.{among, any, when◌then◌else◌}
use Rattle.term.specs.States.{listed}
use Rattle.term.specs.Layout.{gift_pair, woken_part, followed_part}
use Rattle.run_queues.specs.Log.{Slot, gone, waits, pairs_in, slot, LogOk, LogOnly, At, LogNow}
use Rattle.run_effects.specs.Reducing.{Apart, KeptWhere, NotLogged, entry_places, hit, hits, quieted, inserted, Inserts, Inserted, Wakes, Waked}
use Rattle.run_queues.proofs.Listed.{listed_kept}
use Rattle.run_queues.proofs.Waking.{log_kept, one_set, nobody_waits}
use Rattle.run_effects.proofs.Inserting.{listed_length}
use Rattle.run_effects.proofs.Hits.{quieted_length, untouched_quieted, untouched_hits, Touched, touched_quieted, touched_hits, listed_rises}

-- What a change of the log alone leaves as it was.
pub log_only_kept : (log waiters sets pairs used : ℕ) (s s' : List ℕ) → LogOnly log waiters sets pairs used s s'
    → (k : ℕ) → NotLogged log waiters sets pairs used k → get_or s' k 0 ≡ get_or s k 0
log_only_kept log waiters sets pairs used s s' o k h =
    ⊎_elim (o.below k) (λ u. ⊎_elim (o.between k u) (o.behind k) h.1) h.0

abbrev pub Elsewhere : ℕ → ℕ → ℕ → ℕ → List Slot → ℕ → Type 0
Elsewhere log waiters sets pairs slots k = Apart woken_part followed_part k × NotLogged log waiters sets pairs (length slots) k

-- After the first i entries.
pub record Awake (s₀ s : List ℕ) (log waiters sets pairs : ℕ) (slots : List Slot) (i woken : ℕ) : Type 0 where
  pub ok : LogOk s log waiters sets pairs (quieted (entry_places s₀ i) slots)
  pub number : woken ≡ length (hits (entry_places s₀ i) 0 slots)
  pub places : listed s woken_part woken ≡ hits (entry_places s₀ i) 0 slots
  pub few : woken ≤ i
  pub kept : KeptWhere (Elsewhere log waiters sets pairs slots) s₀ s

quieted_none : (vs : List Slot) → quieted [] vs ≡ vs
unfolding quieted hit any when◌then◌else◌
quieted_none [] = refl
quieted_none (v ∷ vs) = ap (λ l. v ∷ l) (quieted_none vs)

hits_none : (b : ℕ) (vs : List Slot) → hits [] b vs ≡ []
unfolding hits hit any when◌then◌else◌
hits_none b [] = refl
hits_none b (v ∷ vs) = hits_none (b + 1) vs

pub awake_begins : (s : List ℕ) (log waiters sets pairs : ℕ) (slots : List Slot) → LogOk s log waiters sets pairs slots
    → Awake s s log waiters sets pairs slots 0 0
unfolding entry_places listed
awake_begins s log waiters sets pairs slots ok =
    record {
      ok = rw (quieted_none slots) ok;
      number = sym (ap length (hits_none 0 slots));
      places = sym (hits_none 0 slots);
      few = omega arith;
      kept = record { size = refl; same = λ k h. refl };
    }

module _ (s₀ : List ℕ) (log waiters sets pairs : ℕ) (slots : List Slot) (n : ℕ) (w : Wakes s₀ log waiters sets pairs slots n)
    (s : List ℕ) (i woken : ℕ) (a : Awake s₀ s log waiters sets pairs slots i woken) (less : i < n) where
  abbrev pub zs : List ℕ
  zs = entry_places s₀ i

  low_kept : (k : ℕ) → k < woken_part → get_or s k 0 ≡ get_or s₀ k 0
  low_kept k h =
      a.kept.same k
      (inl h, (inl (omega (arith, w.behind)), inl (omega (arith, w.behind, a.ok.waiters_first, a.ok.sets_next))))

  module _ (z : ℕ) (read : z ≡ get_or s (gift_pair i) 0) where
    first_read : z ≡ get_or s₀ (gift_pair i) 0
    first_read = read ∙ low_kept (gift_pair i) (omega (arith, w.few))

    small : z < pairs
    small = rw first_read (w.small i less)

    pub waiter_inside : waiters + z < length s
    waiter_inside = omega (arith, small, a.ok.waiters_first, a.ok.sets_next, a.ok.inside)

    more_places : entry_places s₀ (i + 1) ≡ zs ++ (z ∷ [])
    unfolding entry_places
    more_places = rw (add-one i, first_read)

    -- No goal waits on the pair.
    untouched : get_or s (waiters + z) 0 ≡ 0 → (k : ℕ) → k < length slots → among z (pairs_in (slot (quieted zs slots) k)) ≡ false
    untouched none k h =
        nobody_waits s log waiters sets pairs (quieted zs slots) a.ok k z (omega (arith, quieted_length zs slots)) none

    pub awake_none : get_or s (waiters + z) 0 ≡ 0 → Awake s₀ s log waiters sets pairs slots (i + 1) woken
    awake_none none =
        let u = untouched none in
        let q = untouched_quieted zs z slots u in
        let h = untouched_hits zs z 0 slots u in
        record {
          ok = rw (more_places, q) a.ok;
          number = rw (more_places, h) a.number;
          places = rw (more_places, h) a.places;
          few = omega (arith, a.few);
          kept = a.kept;
        }

    -- The goal at a place waits on it.
    module _ (j : ℕ) (waiter : get_or s (waiters + z) 0 ≡ j + 1) where
      place_inside : j < length slots
      place_inside = omega (arith, (a.ok.waiter z j small waiter).0, quieted_length zs slots)

      finds : (v : Slot) → slot (quieted zs slots) j ≡ v → among z (pairs_in v) ≡ true → (goal : ℕ) × (ps : List ℕ) × Touched zs z slots j goal ps
      unfolding among
      finds gone e h = absurd (true≢false (sym h))
      finds (waits goal ps) e h = (
        goal,
        ps,
        record {
          here = place_inside;
          it = e;
          has = h;
          others = λ k l apart. other k l apart (among z (pairs_in (slot (quieted zs slots) k))) refl;
        },
      )
        where
          other : (k : ℕ) → k < length slots → (k ≡ j → ⊥) → (b : Bool) → among z (pairs_in (slot (quieted zs slots) k)) ≡ b → b ≡ false
          other k l apart true f =
              absurd
              (apart
              (one_set s log waiters sets pairs (quieted zs slots) a.ok k j z (omega (arith, quieted_length zs slots))
              (omega (arith, place_inside, quieted_length zs slots)) f (ap (λ u. among z (pairs_in u)) e ∙ h)))
          other k l apart false f = refl

      pub found : (goal : ℕ) × (ps : List ℕ) × Touched zs z slots j goal ps
      found = finds (slot (quieted zs slots) j) refl (a.ok.waiter z j small waiter).1

      pub waits_at : At s log waiters sets pairs (quieted zs slots) j found.0 found.1
      waits_at = record { ok = a.ok; here = omega (arith, place_inside, quieted_length zs slots); it = found.2.it }

      -- It leaves its pairs,
      module _ (s₁ : List ℕ)
          (now : LogNow s s₁ log waiters sets pairs (length (quieted zs slots)) (set (quieted zs slots) j (waits found.0 []))) where
        left : LogOk s₁ log waiters sets pairs (quieted (zs ++ (z ∷ [])) slots)
        left = rw (touched_quieted zs z slots j found.0 found.1 found.2) at now.ok

        size₁ : length s₁ ≡ length s
        size₁ = now.only.size

        below₁ : (k : ℕ) → k < waiters → get_or s₁ k 0 ≡ get_or s k 0
        below₁ k h = now.only.below k h

        listed₁ : listed s₁ woken_part woken ≡ hits zs 0 slots
        listed₁ =
            listed_kept s s₁ woken_part woken (λ x l u. below₁ x (omega (arith, a.few, w.few, w.behind))) ∙ a.places

        pub inserting : Inserts s₁ j woken
        inserting =
            record {
              few = omega (arith, a.few, w.few);
              inside = omega (arith, size₁, w.behind, a.ok.waiters_first, a.ok.sets_next, a.ok.inside);
              rises = listed_rises zs s₁ woken_part woken slots listed₁;
            }

        -- and its place is listed.
        pub awake_one : (s₂ : List ℕ) → Inserted s₁ s₂ j woken → Awake s₀ s₂ log waiters sets pairs slots (i + 1) (woken + 1)
        awake_one s₂ d =
            let few₂ : woken_part + woken + 1 ≤ followed_part = omega (arith, a.few, w.few) in
            let e : 0 + j ≡ j = omega arith in
            let listed₂ : listed s₂ woken_part (woken + 1) ≡ hits (zs ++ (z ∷ [])) 0 slots =
            d.places
            ∙ ap (inserted j) listed₁
            ∙ ap (λ p. inserted p (hits zs 0 slots)) (sym e)
            ∙ touched_hits zs z 0 slots j found.0 found.1 found.2
            in
            record {
              ok =
                  rw more_places
                  (log_kept s₁ s₂ log waiters sets pairs (quieted (zs ++ (z ∷ [])) slots) left d.kept.size
                  (λ x l u. d.kept.same x (inr (omega (arith, w.behind))))
                  (λ x l u. d.kept.same x (inr (omega (arith, w.behind, a.ok.waiters_first, a.ok.sets_next)))));
              number = rw more_places (sym (listed_length s₂ woken_part (woken + 1)) ∙ ap length listed₂);
              places = rw more_places listed₂;
              few = omega (arith, a.few);
              kept = record {
                size = d.kept.size ∙ size₁ ∙ a.kept.size;
                same = λ k h.
                    d.kept.same k (⊎_elim (λ l. inl l) (λ u. inr (omega arith)) h.0)
                    ∙ log_only_kept log waiters sets pairs (length slots) s s₁ (rw (quieted_length zs slots) at now.only) k h.1
                    ∙ a.kept.same k h;
              };
            }

-- After all entries.
pub awake_ends : (s₀ s : List ℕ) (log waiters sets pairs : ℕ) (slots : List Slot) (n i woken : ℕ) → Wakes s₀ log waiters sets pairs slots n
    → Awake s₀ s log waiters sets pairs slots i woken → i ≡ n → Waked s₀ s log waiters sets pairs slots n woken
awake_ends s₀ s log waiters sets pairs slots n i woken w a e =
    let b : Awake s₀ s log waiters sets pairs slots n woken = rw e at a in
    record { ok = b.ok; number = b.number; places = b.places; few = omega (arith, b.few, w.few); kept = b.kept }
