-- One place of the log changed: every other goal keeps its words, for its pairs are its own.
-- Each small change of the log keeps it in order: a goal joins, a pair joins a goal's set or leaves it, a place is emptied.
use Prim.Native.Nat.{ℕ, ◌+◌, ◌*◌, ◌≤◌, ◌<◌}
use mathlib.Core.Path.{◌≡◌, refl, sym, ◌∙◌}
use mathlib.Core.Bool.{Bool, true, false, ◌||◌, true≢false}
use mathlib.Core.List.{List, [], ◌∷◌, ◌++◌}
use native.Mathlib.Omega.{arith}
use lib.Dec.{eqb}
use lib.ListN.{length, get_or, set, length-set, length-append, get_or-append}
use lib.Seq.{get_or-set_same, get_or-set_other, get_or_at}
use borrow.Author.Tests.{eqb-true, eqb-false, eq-eqb}
use Rattle.meaning.specs.Bytes.{among}
use Rattle.run_queues.specs.Log.{Slot, gone, waits, pairs_in, slot, Chain, SlotStands, LogOk}

module _ (s s' : List ℕ) (log waiters sets pairs i : ℕ)
    (same : (q : ℕ) → q < pairs → get_or s (waiters + q) 0 ≡ i + 1
    → (get_or s' (waiters + q) 0 ≡ get_or s (waiters + q) 0) × (get_or s' (sets + q) 0 ≡ get_or s (sets + q) 0)) where
  pub chain_still : (ps : List ℕ) → Chain s waiters sets pairs i ps → Chain s' waiters sets pairs i ps
  unfolding Chain
  chain_still [] k = tt
  chain_still (p ∷ ps) k =
      let e = same p k.0 k.1 in (k.0, e.0 ∙ k.1, e.1 ∙ k.2, k.3, chain_still ps k.4)

  pub slot_still : (v : Slot) → get_or s' (log + 2 * i) 0 ≡ get_or s (log + 2 * i) 0 → get_or s' (log + 2 * i + 1) 0 ≡ get_or s (log + 2 * i + 1) 0
      → SlotStands s log waiters sets pairs i v → SlotStands s' log waiters sets pairs i v
  unfolding SlotStands
  slot_still gone a b k = (a ∙ k.0, b ∙ k.1)
  slot_still (waits goal ps) a b k = (k.0, a ∙ k.1, b ∙ k.2, chain_still ps k.3)

-- The pairs of a chain have its goal's place, and are pairs.
pub chain_waiter : (s : List ℕ) (waiters sets pairs i q : ℕ) (ps : List ℕ) → Chain s waiters sets pairs i ps → among q ps ≡ true
    → (q < pairs) × (get_or s (waiters + q) 0 ≡ i + 1)
unfolding Chain among
chain_waiter s waiters sets pairs i q [] k e = absurd (true≢false (sym e))
chain_waiter s waiters sets pairs i q (p ∷ ps) k e = go (eqb q p) refl (chain_waiter s waiters sets pairs i q ps k.4)
  where
    go : (b : Bool) → eqb q p ≡ b → (among q ps ≡ true → (q < pairs) × (get_or s (waiters + q) 0 ≡ i + 1))
        → (q < pairs) × (get_or s (waiters + q) 0 ≡ i + 1)
    go true f later = rw (eqb-true q p f) (k.0, k.1)
    go false f later = later (rw f at e)

-- A place is the changed one or another.
pub by_place : {A : Type 0} (i place : ℕ) → (i ≡ place → A) → ((i ≡ place → ⊥) → A) → A
by_place {A} i place this other = go (eqb i place) refl
  where
    go : (b : Bool) → eqb i place ≡ b → A
    go true e = this (eqb-true i place e)
    go false e = other (eqb-false i place e)

-- The words that say something of a goal at another place.
pub record Elsewhere (s s' : List ℕ) (log waiters sets pairs place : ℕ) : Type 0 where
  pub goal : (i : ℕ) → (i ≡ place → ⊥) → get_or s' (log + 2 * i) 0 ≡ get_or s (log + 2 * i) 0
  pub first : (i : ℕ) → (i ≡ place → ⊥) → get_or s' (log + 2 * i + 1) 0 ≡ get_or s (log + 2 * i + 1) 0
  pub pair : (i : ℕ) → (i ≡ place → ⊥) → (q : ℕ) → q < pairs → get_or s (waiters + q) 0 ≡ i + 1
      → (get_or s' (waiters + q) 0 ≡ get_or s (waiters + q) 0) × (get_or s' (sets + q) 0 ≡ get_or s (sets + q) 0)

module _ (s s' : List ℕ) (log waiters sets pairs : ℕ) (slots : List Slot) (place : ℕ) (v : Slot) where
  pub log_changed : LogOk s log waiters sets pairs slots → place < length slots → length s' ≡ length s
      → Elsewhere s s' log waiters sets pairs place
      → SlotStands s' log waiters sets pairs place v
      → ((q : ℕ) → q < pairs → get_or s' (waiters + q) 0 ≡ place + 1 → among q (pairs_in v) ≡ true)
      → ((q i : ℕ) → q < pairs → (i ≡ place → ⊥) → get_or s' (waiters + q) 0 ≡ i + 1 → get_or s (waiters + q) 0 ≡ i + 1)
      → LogOk s' log waiters sets pairs (set slots place v)
  log_changed ok inside size away here own others =
      record {
        waiters_first = ok.waiters_first;
        sets_next = ok.sets_next;
        inside = omega (arith, ok.inside, length-set slots place v, size);
        stands = λ i h. by_place i place
            (λ e. rw (e, get_or-set_same slots place v gone inside) here)
            (λ e. rw (get_or-set_other slots place i v gone e)
            (slot_still s s' log waiters sets pairs i (away.pair i e) (slot slots i) (away.goal i e) (away.first i e)
            (ok.stands i (omega (arith, length-set slots place v)))));
        waiter = λ p i h w. by_place i place
            (λ e. (
              omega (arith, length-set slots place v),
              rw (e, get_or-set_same slots place v gone inside) (own p h (rw e at w)),
            ))
            (λ e.
            let old = ok.waiter p i h (others p i h e w) in
            (omega (arith, length-set slots place v, old.0), rw (get_or-set_other slots place i v gone e) old.1));
      }

-- The words after a change at one place of the log, and at one pair.
abbrev pub begun : List ℕ → ℕ → ℕ → ℕ → List ℕ
begun s log place goal = set (set s (log + 2 * place) goal) (log + 2 * place + 1) 0

abbrev pub pointed : List ℕ → ℕ → ℕ → ℕ → ℕ → ℕ → ℕ → ℕ → ℕ → List ℕ
pointed s log waiters sets place p waiter next first =
    set (set (set s (waiters + p) waiter) (sets + p) next) (log + 2 * place + 1) first

module _ (s : List ℕ) (log waiters sets pairs place p waiter next first : ℕ) (order₁ : waiters + pairs ≤ sets) (order₂ : sets + pairs ≤ log)
    (small : p < pairs) (inside : log + 2 * place + 2 ≤ length s) where
  abbrev s₁ : List ℕ
  s₁ = set s (waiters + p) waiter

  abbrev s₂ : List ℕ
  s₂ = set s₁ (sets + p) next

  pub pointed_size : length (pointed s log waiters sets place p waiter next first) ≡ length s
  pointed_size =
      length-set s₂ (log + 2 * place + 1) first ∙ length-set s₁ (sets + p) next ∙ length-set s (waiters + p) waiter

  -- All other words are the same.
  pub pointed_other : (x : ℕ) → (x ≡ waiters + p → ⊥) → (x ≡ sets + p → ⊥) → (x ≡ log + 2 * place + 1 → ⊥)
      → get_or (pointed s log waiters sets place p waiter next first) x 0 ≡ get_or s x 0
  pointed_other x a b c =
      get_or-set_other s₂ (log + 2 * place + 1) x first 0 c
      ∙ get_or-set_other s₁ (sets + p) x next 0 b
      ∙ get_or-set_other s (waiters + p) x waiter 0 a

  pub pointed_waiter : get_or (pointed s log waiters sets place p waiter next first) (waiters + p) 0 ≡ waiter
  pointed_waiter =
      get_or-set_other s₂ (log + 2 * place + 1) (waiters + p) first 0 (λ e. omega arith)
      ∙ get_or-set_other s₁ (sets + p) (waiters + p) next 0 (λ e. omega arith)
      ∙ get_or-set_same s (waiters + p) waiter 0 (omega arith)

  pub pointed_next : get_or (pointed s log waiters sets place p waiter next first) (sets + p) 0 ≡ next
  pointed_next =
      get_or-set_other s₂ (log + 2 * place + 1) (sets + p) first 0 (λ e. omega arith)
      ∙ get_or-set_same s₁ (sets + p) next 0 (omega (arith, length-set s (waiters + p) waiter))

  pub pointed_first : get_or (pointed s log waiters sets place p waiter next first) (log + 2 * place + 1) 0 ≡ first
  pointed_first =
      get_or-set_same s₂ (log + 2 * place + 1) first 0
      (omega (arith, length-set s₁ (sets + p) next, length-set s (waiters + p) waiter))

  -- Goals at other places do not notice, if the pair was none of theirs.
  pub pointed_elsewhere : ((i : ℕ) → (i ≡ place → ⊥) → get_or s (waiters + p) 0 ≡ i + 1 → ⊥)
      → Elsewhere s (pointed s log waiters sets place p waiter next first) log waiters sets pairs place
  pointed_elsewhere theirs =
      record {
        goal = λ i e. pointed_other (log + 2 * i) (λ f. omega arith) (λ f. omega arith) (λ f. omega arith);
        first = λ i e. pointed_other (log + 2 * i + 1) (λ f. omega arith) (λ f. omega arith) (λ f. e (omega arith));
        pair = λ i e q b w.
            let apart : q ≡ p → ⊥ = λ f. theirs i e (rw f at w) in (
              pointed_other (waiters + q) (λ f. apart (omega arith)) (λ f. omega arith) (λ f. omega arith),
              pointed_other (sets + q) (λ f. omega arith) (λ f. apart (omega arith)) (λ f. omega arith),
            );
      }

or_left : (a b : Bool) → (a || b) ≡ false → a ≡ false
or_left true b e = absurd (true≢false e)
or_left false b e = refl

or_right : (a b : Bool) → (a || b) ≡ false → b ≡ false
or_right true b e = absurd (true≢false e)
or_right false b e = e

or_true_there : (a b : Bool) → b ≡ true → (a || b) ≡ true
or_true_there true b e = refl
or_true_there false b e = e

-- A chain whose pairs are other than p.
pub chain_without : (s s' : List ℕ) (waiters sets pairs i p : ℕ) (ps : List ℕ)
    → ((q : ℕ) → q < pairs → (q ≡ p → ⊥) → (get_or s' (waiters + q) 0 ≡ get_or s (waiters + q) 0) × (get_or s' (sets + q) 0 ≡ get_or s (sets + q) 0))
    → among p ps ≡ false → Chain s waiters sets pairs i ps → Chain s' waiters sets pairs i ps
unfolding Chain among
chain_without s s' waiters sets pairs i p [] same out k = tt
chain_without s s' waiters sets pairs i p (q ∷ qs) same out k =
    let e = same q k.0 (λ f. eqb-false p q (or_left (eqb p q) (among p qs) out) (sym f)) in (
      k.0,
      e.0 ∙ k.1,
      e.1 ∙ k.2,
      k.3,
      chain_without s s' waiters sets pairs i p qs same (or_right (eqb p q) (among p qs) out) k.4,
    )

pub among_other : (q p : ℕ) (ps : List ℕ) → (q ≡ p → ⊥) → among q (p ∷ ps) ≡ true → among q ps ≡ true
unfolding among
among_other q p ps apart e = go (eqb q p) refl
  where
    go : (b : Bool) → eqb q p ≡ b → among q ps ≡ true
    go true f = absurd (apart (eqb-true q p f))
    go false f = rw f at e

pub among_this : (q p : ℕ) (ps : List ℕ) → q ≡ p → among q (p ∷ ps) ≡ true
unfolding among
among_this q p ps e = rw (eq-eqb q p e)

pub among_behind : (q p : ℕ) (ps : List ℕ) → among q ps ≡ true → among q (p ∷ ps) ≡ true
unfolding among
among_behind q p ps e = or_true_there (eqb q p) (among q ps) e

module _ (s : List ℕ) (log waiters sets pairs : ℕ) (slots : List Slot) (ok : LogOk s log waiters sets pairs slots)
    (place : ℕ) (here : place < length slots) where
  -- A pair on which no goal waits joins the set of the goal at a place.
  module _ (goal p : ℕ) (ps : List ℕ) (it : slot slots place ≡ waits goal ps) (small : p < pairs) where
    room : log + 2 * place + 2 ≤ length s
    room = omega (arith, ok.inside)

    old : SlotStands s log waiters sets pairs place (waits goal ps)
    old = rw it at (ok.stands place here)

    old_pair : (q : ℕ) → q < pairs → get_or s (waiters + q) 0 ≡ place + 1 → among q ps ≡ true
    old_pair q h w = rw it at (ok.waiter q place h w).1

    not_there : get_or s (waiters + p) 0 ≡ 0 → (b : Bool) → among p ps ≡ b → b ≡ false
    unfolding SlotStands
    not_there nobody true e = absurd (omega (arith, (chain_waiter s waiters sets pairs place p ps old.3 e).1))
    not_there nobody false e = refl

    pub pair_joins : get_or s (waiters + p) 0 ≡ 0
        → LogOk (pointed s log waiters sets place p (place + 1) (get_or s (log + 2 * place + 1) 0) (p + 1)) log waiters sets pairs
        (set slots place (waits goal (p ∷ ps)))
    unfolding SlotStands Chain
    pair_joins nobody =
        let f = get_or s (log + 2 * place + 1) 0 in
        let s' = pointed s log waiters sets place p (place + 1) f (p + 1) in
        let other = pointed_other s log waiters sets pairs place p (place + 1) f (p + 1) ok.waiters_first ok.sets_next small room in
        let waiter = pointed_waiter s log waiters sets pairs place p (place + 1) f (p + 1) ok.waiters_first ok.sets_next small room in
        let still : (q : ℕ) → q < pairs → (q ≡ p → ⊥) → (get_or s' (waiters + q) 0 ≡ get_or s (waiters + q) 0) × (get_or s' (sets + q) 0 ≡ get_or s (sets + q) 0) =
        λ q b a. (
          other (waiters + q) (λ e. a (omega arith)) (λ e. omega (arith, ok.waiters_first)) (λ e. omega (arith, ok.waiters_first, ok.sets_next)),
          other (sets + q) (λ e. omega (arith, ok.waiters_first)) (λ e. a (omega arith)) (λ e. omega (arith, ok.sets_next)),
        )
        in
        let apart : among p ps ≡ false = not_there nobody (among p ps) refl in
        log_changed s s' log waiters sets pairs slots place (waits goal (p ∷ ps)) ok here
        (pointed_size s log waiters sets pairs place p (place + 1) f (p + 1) ok.waiters_first ok.sets_next small room)
        (pointed_elsewhere s log waiters sets pairs place p (place + 1) f (p + 1) ok.waiters_first ok.sets_next small room (λ i e w. omega arith)) (
          old.0,
          other (log + 2 * place) (λ e. omega (arith, ok.waiters_first, ok.sets_next)) (λ e. omega (arith, ok.sets_next)) (λ e. omega arith) ∙ old.1,
          pointed_first s log waiters sets pairs place p (place + 1) f (p + 1) ok.waiters_first ok.sets_next small room,
          (
            small,
            waiter,
            pointed_next s log waiters sets pairs place p (place + 1) f (p + 1) ok.waiters_first ok.sets_next small room ∙ old.2,
            apart,
            chain_without s s' waiters sets pairs place p ps still apart old.3,
          ),
        )
        (λ q b w. by_place q p (λ e. among_this q p ps e) (λ e. among_behind q p ps (old_pair q b (sym (still q b e).0 ∙ w))))
        (λ q i b e w. by_place q p (λ f. let z : get_or s' (waiters + q) 0 ≡ place + 1 = rw f waiter in absurd (e (omega arith))) (λ f. sym (still q b f).0 ∙ w))

  -- The first pair of the set of the goal at a place leaves it.
  module _ (goal p : ℕ) (ps : List ℕ) (it : slot slots place ≡ waits goal (p ∷ ps)) where
    full : SlotStands s log waiters sets pairs place (waits goal (p ∷ ps))
    full = rw it at (ok.stands place here)

    pub pair_leaves : LogOk (pointed s log waiters sets place p 0 0 (get_or s (sets + p) 0)) log waiters sets pairs (set slots place (waits goal ps))
    unfolding SlotStands Chain
    pair_leaves =
        let f = get_or s (sets + p) 0 in
        let s' = pointed s log waiters sets place p 0 0 f in
        let chain = full.3 in
        let space : log + 2 * place + 2 ≤ length s = omega (arith, ok.inside) in
        let other = pointed_other s log waiters sets pairs place p 0 0 f ok.waiters_first ok.sets_next chain.0 space in
        let waiter = pointed_waiter s log waiters sets pairs place p 0 0 f ok.waiters_first ok.sets_next chain.0 space in
        let still : (q : ℕ) → q < pairs → (q ≡ p → ⊥) → (get_or s' (waiters + q) 0 ≡ get_or s (waiters + q) 0) × (get_or s' (sets + q) 0 ≡ get_or s (sets + q) 0) =
        λ q b a. (
          other (waiters + q) (λ e. a (omega arith)) (λ e. omega (arith, ok.waiters_first)) (λ e. omega (arith, ok.waiters_first, ok.sets_next)),
          other (sets + q) (λ e. omega (arith, ok.waiters_first, chain.0)) (λ e. a (omega arith)) (λ e. omega (arith, ok.sets_next)),
        )
        in
        log_changed s s' log waiters sets pairs slots place (waits goal ps) ok here
        (pointed_size s log waiters sets pairs place p 0 0 f ok.waiters_first ok.sets_next chain.0 space)
        (pointed_elsewhere s log waiters sets pairs place p 0 0 f ok.waiters_first ok.sets_next chain.0 space
        (λ i e w. e (omega (arith, chain.1)))) (
          full.0,
          other (log + 2 * place) (λ e. omega (arith, ok.waiters_first, ok.sets_next, chain.0)) (λ e. omega (arith, ok.sets_next, chain.0)) (λ e. omega arith)
              ∙ full.1,
          pointed_first s log waiters sets pairs place p 0 0 f ok.waiters_first ok.sets_next chain.0 space ∙ chain.2,
          chain_without s s' waiters sets pairs place p ps still chain.3 chain.4,
        )
        (λ q b w. by_place q p
        (λ e. let z : get_or s' (waiters + q) 0 ≡ 0 = rw e waiter in absurd (omega arith))
        (λ e. among_other q p ps e (rw it at (ok.waiter q place b (sym (still q b e).0 ∙ w)).1)))
        (λ q i b e w. by_place q p
        (λ g. let z : get_or s' (waiters + q) 0 ≡ 0 = rw g waiter in absurd (omega arith))
        (λ g. sym (still q b g).0 ∙ w))

  -- A place without pairs is given a goal, or emptied.
  pub place_reset : (v : Slot) (goal : ℕ) → pairs_in (slot slots place) ≡ [] → pairs_in v ≡ []
      → SlotStands (begun s log place goal) log waiters sets pairs place v
      → LogOk (begun s log place goal) log waiters sets pairs (set slots place v)
  place_reset v goal before now stands =
      let s' = begun s log place goal in
      let other : (x : ℕ) → (x ≡ log + 2 * place → ⊥) → (x ≡ log + 2 * place + 1 → ⊥) → get_or s' x 0 ≡ get_or s x 0 =
      λ x a b.
      get_or-set_other (set s (log + 2 * place) goal) (log + 2 * place + 1) x 0 0 b ∙ get_or-set_other s (log + 2 * place) x goal 0 a
      in
      let below : (q : ℕ) → q < pairs → (get_or s' (waiters + q) 0 ≡ get_or s (waiters + q) 0) × (get_or s' (sets + q) 0 ≡ get_or s (sets + q) 0) =
      λ q b. (
        other (waiters + q) (λ e. omega (arith, ok.waiters_first, ok.sets_next)) (λ e. omega (arith, ok.waiters_first, ok.sets_next)),
        other (sets + q) (λ e. omega (arith, ok.sets_next)) (λ e. omega (arith, ok.sets_next)),
      )
      in
      log_changed s s' log waiters sets pairs slots place v ok here
      (length-set (set s (log + 2 * place) goal) (log + 2 * place + 1) 0 ∙ length-set s (log + 2 * place) goal)
      (record {
        goal = λ i e. other (log + 2 * i) (λ f. e (omega arith)) (λ f. omega arith);
        first = λ i e. other (log + 2 * i + 1) (λ f. omega arith) (λ f. e (omega arith));
        pair = λ i e q b w. below q b;
      })
      stands
      (λ q b w. rw now (rw before at (ok.waiter q place b (sym (below q b).0 ∙ w)).1))
      (λ q i b e w. sym (below q b).0 ∙ w)

-- A goal that waits on nothing yet joins behind the log's last place.
pub goal_joins : (s : List ℕ) (log waiters sets pairs : ℕ) (slots : List Slot) (place goal : ℕ) → LogOk s log waiters sets pairs slots
    → place ≡ length slots → 0 < goal → log + 2 * place + 2 ≤ length s
    → LogOk (begun s log place goal) log waiters sets pairs (slots ++ (waits goal [] ∷ []))
unfolding SlotStands Chain
goal_joins s log waiters sets pairs slots place goal ok last some space =
    let new = slots ++ (waits goal [] ∷ []) in
    let s₁ = set s (log + 2 * place) goal in
    let s' = begun s log place goal in
    let more : length new ≡ length slots + 1 = length-append slots (waits goal [] ∷ []) in
    let other : (x : ℕ) → (x < log + 2 * place) → get_or s' x 0 ≡ get_or s x 0 =
    λ x a. get_or-set_other s₁ (log + 2 * place + 1) x 0 0 (λ e. omega arith) ∙ get_or-set_other s (log + 2 * place) x goal 0 (λ e. omega arith)
    in
    let newest : slot new place ≡ waits goal [] = get_or_at slots (waits goal []) [] gone place (sym last) in
    record {
      waiters_first = ok.waiters_first;
      sets_next = ok.sets_next;
      inside = omega (arith, length-set s₁ (log + 2 * place + 1) 0, length-set s (log + 2 * place) goal);
      stands = λ i h. by_place i place
          (λ e.
          rw (e, newest) (
            some,
            get_or-set_other s₁ (log + 2 * place + 1) (log + 2 * place) 0 0 (λ f. omega arith) ∙ get_or-set_same s (log + 2 * place) goal 0 (omega arith),
            get_or-set_same s₁ (log + 2 * place + 1) 0 0 (omega (arith, length-set s (log + 2 * place) goal)),
            tt,
          ))
          (λ e.
          let inside : i < length slots = before i e (rw more at h) in
          rw (get_or-append slots (waits goal [] ∷ []) gone i inside)
          (slot_still s s' log waiters sets pairs i
          (λ q b w. (other (waiters + q) (omega (arith, ok.waiters_first, ok.sets_next)), other (sets + q) (omega (arith, ok.sets_next))))
          (slot slots i) (other (log + 2 * i) (omega arith)) (other (log + 2 * i + 1) (omega arith)) (ok.stands i inside)));
      waiter = λ p i h w.
          let was = ok.waiter p i h (sym (other (waiters + p) (omega (arith, ok.waiters_first, ok.sets_next))) ∙ w) in
          (omega (arith, was.0), rw (get_or-append slots (waits goal [] ∷ []) gone i was.0) was.1);
    }
  where
    before : (i : ℕ) → (i ≡ place → ⊥) → i < length slots + 1 → i < length slots
    before i e h = by_place i (length slots) (λ f. absurd (e (omega arith))) (λ f. smaller i f h)
      where
        smaller : (i : ℕ) → (i ≡ length slots → ⊥) → i < length slots + 1 → i < length slots
        smaller i f h = omega arith
