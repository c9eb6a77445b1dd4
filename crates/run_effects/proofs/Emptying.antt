-- The woken goals join the queue one by one: the first i places that are hit are empty, and the others that are hit wait on nothing.
use Prim.Native.Nat.{ℕ, zero, suc, ◌+◌, ◌*◌, ◌<◌}
use mathlib.Core.Path.{◌≡◌, refl, ap, sym, ◌∙◌}
use mathlib.Core.Bool.{Bool, true, false, true≢false}
use mathlib.Core.Logic.{inl, ⊎_elim}
use mathlib.Core.List.{List, [], ◌∷◌, ◌++◌, append-nil, append_assoc}
use native.Mathlib.Omega.{arith}
use native.Mathlib.Numerals.{add-one}
use lib.ListN.{length, get_or, set, take}
use lib.Seq.{take-suc, take_all}
use Rattle.meaning.specs.Bytes.{when◌then◌else◌}
use Rattle.term.specs.States.{ring}
use Rattle.term.specs.Layout.{woken_part}
use Rattle.run_queues.specs.Ring.{RingOk, Pushed}
use Rattle.run_queues.specs.Log.{Slot, gone, waits, slot, LogOk, LogOnly, At, LogNow}
use Rattle.run_effects.specs.Reducing.{Apart, KeptWhere, NotLogged, hit, hits, goal_in, woken, quiet, quieted, emptied, AddsWoken, WokenAdded}
use Rattle.run_queues.proofs.Ring.{ring_kept}
use Rattle.run_queues.proofs.Waking.{log_kept}
use Rattle.run_effects.proofs.Inserting.{listed_at}
use Rattle.run_effects.proofs.Hits.{quieted_length}
use Rattle.run_effects.proofs.HitSlots.{hit_gone}
use Rattle.run_effects.proofs.Awaking.{log_only_kept}

-- The log when i of the goals that are hit have been taken.
unfoldable pub partly : List ℕ → ℕ → List Slot → List Slot
partly zs zero vs = quieted zs vs
partly zs (suc i) [] = []
partly zs (suc i) (v ∷ vs) = when hit zs v then gone ∷ partly zs i vs else v ∷ partly zs (suc i) vs

module _ (zs : List ℕ) where
  partly_here : (i : ℕ) (v : Slot) (vs : List Slot) → hit zs v ≡ true → partly zs (suc i) (v ∷ vs) ≡ gone ∷ partly zs i vs
  unfolding partly when◌then◌else◌
  partly_here i v vs e = rw e

  partly_over : (i : ℕ) (v : Slot) (vs : List Slot) → hit zs v ≡ false → partly zs i (v ∷ vs) ≡ v ∷ partly zs i vs
  unfolding partly quieted when◌then◌else◌
  partly_over zero v vs e = rw e
  partly_over (suc i) v vs e = rw e

  hits_here : (b : ℕ) (v : Slot) (vs : List Slot) → hit zs v ≡ true → hits zs b (v ∷ vs) ≡ b ∷ hits zs (b + 1) vs
  unfolding hits when◌then◌else◌
  hits_here b v vs e = rw e

  hits_over : (b : ℕ) (v : Slot) (vs : List Slot) → hit zs v ≡ false → hits zs b (v ∷ vs) ≡ hits zs (b + 1) vs
  unfolding hits when◌then◌else◌
  hits_over b v vs e = rw e

  woken_here : (v : Slot) (vs : List Slot) → hit zs v ≡ true → woken zs (v ∷ vs) ≡ goal_in v ∷ woken zs vs
  unfolding woken when◌then◌else◌
  woken_here v vs e = rw e

  woken_over : (v : Slot) (vs : List Slot) → hit zs v ≡ false → woken zs (v ∷ vs) ≡ woken zs vs
  unfolding woken when◌then◌else◌
  woken_over v vs e = rw e

  emptied_here : (v : Slot) (vs : List Slot) → hit zs v ≡ true → emptied zs (v ∷ vs) ≡ gone ∷ emptied zs vs
  unfolding emptied when◌then◌else◌
  emptied_here v vs e = rw e

  emptied_over : (v : Slot) (vs : List Slot) → hit zs v ≡ false → emptied zs (v ∷ vs) ≡ v ∷ emptied zs vs
  unfolding emptied when◌then◌else◌
  emptied_over v vs e = rw e

  -- A slot that is hit has a goal.
  quiet_goal : (v : Slot) → hit zs v ≡ true → quiet v ≡ waits (goal_in v) []
  quiet_goal gone e = absurd (true≢false (sym e ∙ hit_gone zs))
  quiet_goal (waits goal ps) e = refl

  by_hit : {A : Type 0} (v : Slot) → (hit zs v ≡ true → A) → (hit zs v ≡ false → A) → A
  by_hit {A} v is_hit not_hit = go (hit zs v) refl
    where
      go : (b : Bool) → hit zs v ≡ b → A
      go true e = is_hit e
      go false e = not_hit e

  pub partly_length : (i : ℕ) (vs : List Slot) → length (partly zs i vs) ≡ length vs
  unfolding partly
  partly_length zero vs = quieted_length zs vs
  partly_length (suc i) [] = refl
  partly_length (suc i) (v ∷ vs) = go (partly_length i vs) (partly_length (suc i) vs)
    where
      go : length (partly zs i vs) ≡ length vs → length (partly zs (suc i) vs) ≡ length vs
          → length (partly zs (suc i) (v ∷ vs)) ≡ length (v ∷ vs)
      go here over =
          by_hit v
          (λ e. ap length (partly_here i v vs e) ∙ ap suc here)
          (λ e. ap length (partly_over (suc i) v vs e) ∙ ap suc over)

  pub woken_length : (b : ℕ) (vs : List Slot) → length (woken zs vs) ≡ length (hits zs b vs)
  unfolding woken hits
  woken_length b [] = refl
  woken_length b (v ∷ vs) = go (woken_length (b + 1) vs)
    where
      go : length (woken zs vs) ≡ length (hits zs (b + 1) vs) → length (woken zs (v ∷ vs)) ≡ length (hits zs b (v ∷ vs))
      go later =
          by_hit v
          (λ e. ap length (woken_here v vs e) ∙ ap suc later ∙ sym (ap length (hits_here b v vs e)))
          (λ e. ap length (woken_over v vs e) ∙ later ∙ sym (ap length (hits_over b v vs e)))

  -- All that are hit are taken.
  pub partly_all : (b : ℕ) (vs : List Slot) → partly zs (length (hits zs b vs)) vs ≡ emptied zs vs
  unfolding hits partly quieted emptied
  partly_all b [] = refl
  partly_all b (v ∷ vs) = go (partly_all (b + 1) vs)
    where
      go : partly zs (length (hits zs (b + 1) vs)) vs ≡ emptied zs vs → partly zs (length (hits zs b (v ∷ vs))) (v ∷ vs) ≡ emptied zs (v ∷ vs)
      go later =
          by_hit v
          (λ e.
          ap (λ l. partly zs (length l) (v ∷ vs)) (hits_here b v vs e)
          ∙ partly_here (length (hits zs (b + 1) vs)) v vs e
          ∙ ap (λ l. gone ∷ l) later
          ∙ sym (emptied_here v vs e))
          (λ e.
          ap (λ l. partly zs (length l) (v ∷ vs)) (hits_over b v vs e)
          ∙ partly_over (length (hits zs (b + 1) vs)) v vs e
          ∙ ap (λ l. v ∷ l) later
          ∙ sym (emptied_over v vs e))

  -- The next place that is hit, counted from the first of these.
  pub record NextAt (vs : List Slot) (b i j : ℕ) : Type 0 where
    pub at : get_or (hits zs b vs) i 0 ≡ b + j
    pub here : j < length vs
    pub it : slot (partly zs i vs) j ≡ waits (get_or (woken zs vs) i 0) []
    pub after : set (partly zs i vs) j gone ≡ partly zs (suc i) vs

  next_first : (v : Slot) (vs : List Slot) (b : ℕ) → hit zs v ≡ true → NextAt (v ∷ vs) b 0 0
  unfolding partly quieted when◌then◌else◌
  next_first v vs b e =
      record {
        at = ap (λ l. get_or l 0 0) (hits_here b v vs e) ∙ omega arith;
        here = omega arith;
        it =
            ap (λ t. when t then quiet v else v) e
            ∙ quiet_goal v e
            ∙ ap (λ l. waits (get_or l 0 0) []) (sym (woken_here v vs e));
        after = sym (partly_here 0 v vs e);
      }

  next_later : (v : Slot) (vs : List Slot) (b i j : ℕ) → hit zs v ≡ true → NextAt vs (b + 1) i j → NextAt (v ∷ vs) b (suc i) (suc j)
  next_later v vs b i j e n =
      record {
        at = ap (λ l. get_or l (suc i) 0) (hits_here b v vs e) ∙ n.at ∙ omega arith;
        here = omega (arith, n.here);
        it =
            ap (λ l. slot l (suc j)) (partly_here i v vs e)
            ∙ n.it
            ∙ ap (λ l. waits (get_or l (suc i) 0) []) (sym (woken_here v vs e));
        after =
            ap (λ l. set l (suc j) gone) (partly_here i v vs e)
            ∙ ap (λ l. gone ∷ l) n.after
            ∙ sym (partly_here (suc i) v vs e);
      }

  next_over : (v : Slot) (vs : List Slot) (b i j : ℕ) → hit zs v ≡ false → NextAt vs (b + 1) i j → NextAt (v ∷ vs) b i (suc j)
  next_over v vs b i j e n =
      record {
        at = ap (λ l. get_or l i 0) (hits_over b v vs e) ∙ n.at ∙ omega arith;
        here = omega (arith, n.here);
        it = ap (λ l. slot l (suc j)) (partly_over i v vs e) ∙ n.it ∙ ap (λ l. waits (get_or l i 0) []) (sym (woken_over v vs e));
        after =
            ap (λ l. set l (suc j) gone) (partly_over i v vs e)
            ∙ ap (λ l. v ∷ l) n.after
            ∙ sym (partly_over (suc i) v vs e);
      }

  pub next : (b : ℕ) (vs : List Slot) (i : ℕ) → i < length (hits zs b vs) → (j : ℕ) × NextAt vs b i j
  unfolding hits
  next b [] i h = absurd (omega arith)
  next b (v ∷ vs) i h = go i h (λ m. next (b + 1) vs m)
    where
      go : (i : ℕ) → i < length (hits zs b (v ∷ vs)) → ((m : ℕ) → m < length (hits zs (b + 1) vs) → (j : ℕ) × NextAt vs (b + 1) m j)
          → (j : ℕ) × NextAt (v ∷ vs) b i j
      go zero h later =
          by_hit v
          (λ e. (0, next_first v vs b e))
          (λ e.
          let n = later 0 (omega (arith, ap length (hits_over b v vs e))) in
          (suc n.0, next_over v vs b 0 n.0 e n.1))
      go (suc i) h later =
          by_hit v
          (λ e.
          let n = later i (omega (arith, ap length (hits_here b v vs e))) in
          (suc n.0, next_later v vs b i n.0 e n.1))
          (λ e.
          let n = later (suc i) (omega (arith, ap length (hits_over b v vs e))) in
          (suc n.0, next_over v vs b (suc i) n.0 e n.1))

abbrev pub Beside : ℕ → ℕ → ℕ → ℕ → ℕ → ℕ → List Slot → ℕ → Type 0
Beside queue size log waiters sets pairs slots k = Apart queue (queue + size) k × NotLogged log waiters sets pairs (length slots) k

-- After the first i goals.
pub record Rejoined (s₀ s : List ℕ) (log waiters sets pairs : ℕ) (slots : List Slot) (zs : List ℕ) (queue size front active i : ℕ) : Type 0 where
  pub ok : LogOk s log waiters sets pairs (partly zs i slots)
  pub items : ring s queue size front (active + i) ≡ ring s₀ queue size front active ++ take i (woken zs slots)
  pub kept : KeptWhere (Beside queue size log waiters sets pairs slots) s₀ s

module _ (s₀ : List ℕ) (log waiters sets pairs : ℕ) (slots : List Slot) (zs : List ℕ) (n queue size front active : ℕ)
    (a : AddsWoken s₀ log waiters sets pairs slots zs n queue size front active) where
  pub rejoining_begins : Rejoined s₀ s₀ log waiters sets pairs slots zs queue size front active 0
  unfolding partly
  rejoining_begins =
      let e : active + 0 ≡ active = omega arith in
      record {
        ok = a.ok;
        items = rw e (sym (append-nil (ring s₀ queue size front active)));
        kept = record { size = refl; same = λ k h. refl };
      }

  module _ (s : List ℕ) (i : ℕ) (r : Rejoined s₀ s log waiters sets pairs slots zs queue size front active i) (less : i < n) where
    pub place_inside : woken_part + i < length s
    place_inside = omega (arith, a.few, a.behind, r.ok.waiters_first, r.ok.sets_next, r.ok.inside)

    the_next : (j : ℕ) × NextAt zs slots 0 i j
    the_next = next zs 0 slots i (omega (arith, a.number))

    module _ (p : ℕ) (read : p ≡ get_or s (woken_part + i) 0) where
      is_next : p ≡ the_next.0
      is_next =
          let same : get_or s (woken_part + i) 0 ≡ get_or s₀ (woken_part + i) 0 =
          r.kept.same (woken_part + i) (
            inl (omega (arith, a.few, a.behind, r.ok.waiters_first, a.queue_behind)),
            (inl (omega (arith, a.few, a.behind)), inl (omega (arith, a.few, a.behind, r.ok.waiters_first, r.ok.sets_next))),
          )
          in
          let listed_is : get_or (hits zs 0 slots) i 0 ≡ get_or s₀ (woken_part + i) 0 =
          ap (λ l. get_or l i 0) (sym a.places) ∙ listed_at s₀ woken_part n i less
          in
          omega (arith, the_next.1.at)

      pub goal_there : At s log waiters sets pairs (partly zs i slots) p (get_or (woken zs slots) i 0) []
      goal_there =
          rw is_next
          (record { ok = r.ok; here = omega (arith, the_next.1.here, partly_length zs i slots); it = the_next.1.it })

      pub slot_inside : log + 2 * p + 1 < length s
      slot_inside = omega (arith, is_next, the_next.1.here, r.ok.inside, partly_length zs i slots)

      -- The goal is taken,
      module _ (s₁ : List ℕ) (g : ℕ)
          (took : (g ≡ get_or (woken zs slots) i 0) × LogNow s s₁ log waiters sets pairs (length (partly zs i slots)) (set (partly zs i slots) p gone)) where
        only : LogOnly log waiters sets pairs (length slots) s s₁
        only = rw (partly_length zs i slots) at took.1.only

        pub room : RingOk s₁ queue size front × (active + i < size)
        room = (
          record { inside = omega (arith, a.ring_ok.inside, only.size, r.kept.size); front_inside = a.ring_ok.front_inside },
          omega (arith, a.space),
        )

        emptied_now : LogOk s₁ log waiters sets pairs (partly zs (i + 1) slots)
        emptied_now =
            let e : set (partly zs i slots) p gone ≡ partly zs (i + 1) slots =
            ap (λ j. set (partly zs i slots) j gone) is_next ∙ the_next.1.after ∙ ap (λ m. partly zs m slots) (sym (add-one i))
            in
            rw e at took.1.ok

        ring_same : ring s₁ queue size front (active + i) ≡ ring s queue size front (active + i)
        ring_same =
            ring_kept queue size s s₁ front (active + i) (omega (arith, a.ring_ok.front_inside, a.space))
            (λ x l u. only.between x (omega (arith, a.queue_behind)) (omega (arith, a.queue_before)))

        -- and joins the queue.
        pub rejoining_on : (s₂ : List ℕ) → Pushed s₁ s₂ queue size front (active + i) g
            → Rejoined s₀ s₂ log waiters sets pairs slots zs queue size front active (i + 1)
        rejoining_on s₂ d =
            let w = woken zs slots in
            let e : active + (i + 1) ≡ active + i + 1 = omega arith in
            let more : take (i + 1) w ≡ take i w ++ (g ∷ []) =
            ap (λ m. take m w) (add-one i) ∙ take-suc w i 0 (omega (arith, a.number, woken_length zs 0 slots)) ∙ ap (λ v. take i w ++ (v ∷ [])) (sym took.0)
            in
            record {
              ok =
                  log_kept s₁ s₂ log waiters sets pairs (partly zs (i + 1) slots) emptied_now d.only.size
                  (λ x l u. d.only.below x (omega (arith, a.queue_behind)))
                  (λ x l u. d.only.above x (omega (arith, a.queue_before)));
              items =
                  rw (e, more)
                  (d.items
                  ∙ ap (λ l. l ++ (g ∷ [])) (ring_same ∙ r.items)
                  ∙ append_assoc (ring s₀ queue size front active) (take i w) (g ∷ []));
              kept = record {
                size = d.only.size ∙ only.size ∙ r.kept.size;
                same = λ k h.
                    ⊎_elim (d.only.below k) (d.only.above k) h.0
                    ∙ log_only_kept log waiters sets pairs (length slots) s s₁ only k h.1
                    ∙ r.kept.same k h;
              };
            }

  -- All have joined it.
  pub rejoining_ends : (s : List ℕ) (i : ℕ) → Rejoined s₀ s log waiters sets pairs slots zs queue size front active i → i ≡ n
      → WokenAdded s₀ s log waiters sets pairs slots zs n queue size front active
  rejoining_ends s i r e =
      let q : Rejoined s₀ s log waiters sets pairs slots zs queue size front active n = rw e at r in
      let all : partly zs n slots ≡ emptied zs slots = ap (λ m. partly zs m slots) a.number ∙ partly_all zs 0 slots in
      let whole : take n (woken zs slots) ≡ woken zs slots =
      take_all n (woken zs slots) (omega (arith, a.number, woken_length zs 0 slots))
      in
      record { ok = rw all at q.ok; items = rw whole at q.items; kept = q.kept }
