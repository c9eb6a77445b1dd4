-- Goals of an item copied into the queue one behind the other: each copy's word joins the end, and the copies before it stay held.
use Prim.Native.Nat.{ℕ, ◌+◌, ◌≤◌, ◌<◌}
use mathlib.Core.Path.{◌≡◌, refl, ap, sym, ◌∙◌}
use mathlib.Core.Logic.{inl}
use mathlib.Core.List.{List, [], ◌∷◌, ◌++◌, map, append_assoc, append-nil}
use native.Mathlib.Omega.{arith}
use lib.ListN.{length, get_or}
use Rattle.meaning.specs.Terms.{Functor, Terms, Named, compound, named, as_term}
use Rattle.term.specs.Cells.{Places}
use Rattle.term.specs.Jobs.{HoldsGoals}
use Rattle.term.specs.Setting.{Within}
use Rattle.term.specs.States.{ring}
use Rattle.term.specs.Layout.{trial_region, compounds_region}
use Rattle.term.specs.Words.{compound_word, packed, rest_in}
use Rattle.run_effects.specs.Build as Build
use Rattle.run_effects.specs.Build.{Item, Copies, Spread, total, ListSpread, Original, Moved, Laid}
use Rattle.run_queues.specs.Ring.{Pushed}
use Rattle.run_effects.specs.Reducing.{KeptWhere, GoalsWithin, goal_terms, Adding, GoalsHeld, Added}
use Rattle.run_effects.proofs.Copies.{item_term_on}
use Rattle.run_effects.proofs.Keeping.{apart_inside, kept_same, kept_then, kept_only}
use Rattle.run_effects.proofs.Spreading.{copy_stays}
use Rattle.run_effects.proofs.Assigned.{Elsewhere}
use Rattle.run_queues.proofs.Ring.{ring_kept}

-- The word of a goal's copy.
abbrev pub copy_word : ℕ → Places → ℕ → Named → ℕ
copy_word mark places c g = packed mark (places.compound (c + g.number))

-- The first i goals have joined, the rest is left.
pub record Partly (s₀ s : List ℕ) (x : Item) (from n pair to mark queue size front active : ℕ) (goals : List Named) (i free : ℕ) (rest : List Named)
    : Type 0 where
  pub left : i + length rest ≡ n
  pub beyond : to ≤ free
  pub ends : free + total (goal_terms rest) ≡ to + total (goal_terms goals)
  pub kept : KeptWhere (Elsewhere queue size to (to + total (goal_terms goals))) s₀ s
  pub words : HoldsGoals s₀ x.places from i rest
  pub within : GoalsWithin x.pairs x.compounds rest
  pub spread : (y : Copies) → ListSpread y to (goal_terms goals) → ListSpread y free (goal_terms rest)
  pub items : (places : Places) (y : Copies) (p c : ℕ) → Moved x places pair y p c → ListSpread y to (goal_terms goals)
      → ring s queue size front (active + i) ++ map (copy_word mark places c) rest ≡ ring s₀ queue size front active ++ map (copy_word mark places c) goals
  pub whole : (places : Places) (y : Copies) (p c : ℕ) → Moved x places pair y p c → ListSpread y to (goal_terms goals)
      → (s' : List ℕ) → length s ≤ length s' → ((k : ℕ) → to ≤ k → k < free → get_or s' k 0 ≡ get_or s k 0)
      → GoalsHeld s' places p c rest → GoalsHeld s' places p c goals

module _ (s₀ : List ℕ) (x : Item) (from n pair to mark queue size front active : ℕ) (goals : List Named)
    (a : Adding s₀ x from n pair to mark queue size front active goals) where
  P : ℕ → Type 0
  P = Elsewhere queue size to (to + total (goal_terms goals))

  pub none_added : Partly s₀ s₀ x from n pair to mark queue size front active goals 0 to goals
  unfolding P
  none_added =
      let same : active + 0 ≡ active = omega arith in
      record {
        left = omega (arith, a.number);
        beyond = omega arith;
        ends = refl;
        kept = kept_same P s₀;
        words = a.words;
        within = a.within;
        spread = λ y all. all;
        items = λ places y p c moved all. rw same refl;
        whole = λ places y p c moved all s' more same rest. rest;
      }

  module _ (s : List ℕ) (i free : ℕ) where
    -- All goals have joined.
    pub all_added : (rest : List Named) → Partly s₀ s x from n pair to mark queue size front active goals i free rest → n ≤ i
        → Added s₀ s x n pair to mark queue size front active goals free
    unfolding GoalsHeld total
    all_added [] g h =
        let done : i ≡ n = omega (arith, g.left) in
        record {
          behind = omega (arith, g.ends);
          kept = g.kept;
          items = λ places y p c moved all. sym (append-nil (ring s queue size front (active + n))) ∙ (rw done at (g.items places y p c moved all));
          held = λ places y p c moved all. g.whole places y p c moved all s (omega arith) (λ k l u. refl) tt;
        }
    all_added (d ∷ rest) g h = absurd (omega (arith, g.left))

    -- The words before the copies stay as they were.
    below : (rest : List Named) → Partly s₀ s x from n pair to mark queue size front active goals i free rest → (k : ℕ) → k < trial_region
        → get_or s k 0 ≡ get_or s₀ k 0
    below rest g k h = g.kept.same k (inl (omega (arith, a.behind)), inl (omega (arith, a.behind, a.before)))

    pub inside : (rest : List Named) → Partly s₀ s x from n pair to mark queue size front active goals i free rest → i < n
        → (from + i < length s) × (free ≤ length s)
    inside rest g h = (
      omega (arith, a.from_before, a.behind, a.before, a.ring_ok.inside, g.kept.size),
      omega (arith, g.ends, a.before, a.ring_ok.inside, g.kept.size),
    )

    -- A goal of the item has joined; it is still there, to be copied.
    pub next_goal : (rest : List Named) → Partly s₀ s x from n pair to mark queue size front active goals i free rest → i < n
        → (s₁ : List ℕ) (v : ℕ) → Pushed s s₁ queue size front (active + i) v → (q : ℕ) → q ≡ rest_in (get_or s (from + i) 0)
        → (d : Named) × (others : List Named) × (rest ≡ d ∷ others)
        × Original s₁ x pair free (compound_word q) (compound d.number (named d.name) d.arguments)
    unfolding HoldsGoals GoalsWithin as_term total
    next_goal [] g h s₁ v f q e = absurd (omega (arith, g.left))
    next_goal (d ∷ others) g h s₁ v f q e =
        let word : get_or s (from + i) 0 ≡ compound_word (x.places.compound d.number) =
        below (d ∷ others) g (from + i) (omega (arith, a.from_before)) ∙ g.words.0 in
        let behind_low : compounds_region ≤ queue = omega (arith, a.behind, a.before) in (
          d,
          others,
          refl,
          record {
            goes = a.goes;
            word = omega arith;
            term =
                item_term_on x pair a.goes s₀ s₁ (omega (arith, g.kept.size, f.only.size))
                (λ k l. f.only.below k (omega arith) ∙ below (d ∷ others) g k l) (as_term d) (record { held = g.words.1; within = g.within.0 });
            behind = omega (arith, a.behind, g.beyond);
            inside = omega (arith, a.before, a.ring_ok.inside, g.ends, g.kept.size, f.only.size);
            room = λ some. omega (arith, a.room (omega (arith, g.ends, g.beyond)), g.ends, g.kept.size, f.only.size);
          },
        )

    module _ (d : Named) (others : List Named) (g : Partly s₀ s x from n pair to mark queue size front active goals i free (d ∷ others)) (h : i < n)
        (s₁ : List ℕ) (v : ℕ) (v_is : v ≡ packed mark free) (f : Pushed s s₁ queue size front (active + i) v)
        (s₂ : List ℕ) (r : ℕ) (e : Laid s₁ s₂ x pair free (as_term d) r) where
      -- Where the copy ends.
      last : free + Build.size (as_term d) ≤ to + total (goal_terms goals)
      unfolding total
      last = omega (arith, g.ends)

      ends : r ≡ free + Build.size (as_term d)
      ends = e.behind

      pushed_kept : KeptWhere P s s₁
      unfolding P
      pushed_kept = kept_only P queue (queue + size) s s₁ (λ k q. q.1) f.only

      copied_kept : KeptWhere P s₁ s₂
      unfolding P
      copied_kept =
          kept_only P free (free + Build.size (as_term d)) s₁ s₂
          (λ k q. apart_inside to (to + total (goal_terms goals)) free (free + Build.size (as_term d)) k g.beyond last q.0) e.only

      -- A word of an earlier copy.
      earlier : (k : ℕ) → k < free → get_or s₂ k 0 ≡ get_or s k 0
      earlier k l = e.only.below k l ∙ f.only.below k (omega (arith, last, a.before))

      one_item : (places : Places) (y : Copies) (p c : ℕ) → Moved x places pair y p c → ListSpread y to (goal_terms goals)
          → ring s₂ queue size front (active + (i + 1)) ++ map (copy_word mark places c) others
          ≡ ring s₀ queue size front active ++ map (copy_word mark places c) goals
      unfolding ListSpread Spread GoalsWithin Within as_term
      one_item places y p c moved all =
          let one : active + (i + 1) ≡ active + i + 1 = omega arith in
          let place : places.compound (c + d.number) ≡ free = moved.compound_at d.number g.within.0.0 ∙ (g.spread y all).0.0 in
          let goal_is : v ≡ copy_word mark places c d = omega arith in
          let same : ring s₂ queue size front (active + i + 1) ≡ ring s₁ queue size front (active + i + 1) =
          ring_kept queue size s₁ s₂ front (active + i + 1) (omega (arith, a.space, a.ring_ok.front_inside))
          (λ k l u. e.only.above k (omega (arith, a.before, last))) in
          let joined : ring s₂ queue size front (active + (i + 1)) ≡ ring s queue size front (active + i) ++ (copy_word mark places c d ∷ []) =
          rw one (same ∙ rw (sym goal_is) f.items) in
          ap (λ l. l ++ map (copy_word mark places c) others) joined
          ∙ append_assoc (ring s queue size front (active + i)) (copy_word mark places c d ∷ []) (map (copy_word mark places c) others)
          ∙ g.items places y p c moved all

      one_held : (places : Places) (y : Copies) (p c : ℕ) → Moved x places pair y p c → ListSpread y to (goal_terms goals)
          → (s' : List ℕ) → length s₂ ≤ length s' → ((k : ℕ) → to ≤ k → k < r → get_or s' k 0 ≡ get_or s₂ k 0)
          → GoalsHeld s' places p c others → GoalsHeld s' places p c goals
      unfolding GoalsHeld GoalsWithin ListSpread
      one_held places y p c moved all s' more same rest =
          let own = (g.spread y all).0 in
          let low : to ≤ free = g.beyond in
          g.whole places y p c moved all s' (omega (arith, e.only.size, f.only.size)) (λ k l u. same k l (omega (arith, ends)) ∙ earlier k u) (
            copy_stays x places pair y p c moved s₂ s' more free (as_term d) (λ k l u. same k (omega arith) (omega (arith, ends))) g.within.0 own
                (e.held places y p c moved own),
            rest,
          )

      pub one_added : Partly s₀ s₂ x from n pair to mark queue size front active goals (i + 1) r others
      unfolding HoldsGoals GoalsWithin ListSpread total P
      one_added = record {
        left = omega (arith, g.left);
        beyond = omega (arith, g.beyond, ends);
        ends = omega (arith, g.ends, ends);
        kept = kept_then P s₀ s s₂ g.kept (kept_then P s s₁ s₂ pushed_kept copied_kept);
        words = g.words.2;
        within = g.within.1;
        spread = λ y all. rw ends (g.spread y all).1;
        items = one_item;
        whole = one_held;
      }

    -- The next goal pushed and copied, as the code reads and writes it.
    pub again : (rest : List Named) → Partly s₀ s x from n pair to mark queue size front active goals i free rest → i < n → (s₁ : List ℕ) (v : ℕ)
        → v ≡ packed mark free → Pushed s s₁ queue size front (active + i) v → (q : ℕ) → q ≡ rest_in (get_or s (from + i) 0) → (s₂ : List ℕ) (r : ℕ)
        → ((x : Item) (m : ℕ) (f : Functor) (ts : Terms) → Original s₁ x pair free (compound_word q) (compound m f ts)
        → Laid s₁ s₂ x pair free (compound m f ts) r)
        → (rest' : List Named) × Partly s₀ s₂ x from n pair to mark queue size front active goals (i + 1) r rest'
    unfolding as_term
    again rest g h s₁ v v_is f q read s₂ r told =
        let (d, others, is, b) = next_goal rest g h s₁ v f q read in
        (others, one_added d others (rw is at g) h s₁ v v_is f s₂ r (told x d.number (named d.name) d.arguments b))
