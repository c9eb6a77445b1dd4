-- The pairs of a goal that moves learn its new place one by one along their chain; the sum of all words falls, as the new place is before the old.
use Prim.Native.Nat.{ℕ, ◌+◌, ◌<◌}
use mathlib.Core.Path.{◌≡◌, refl, sym, ◌∙◌}
use mathlib.Core.Bool.{Bool, true, false, true≢false}
use mathlib.Core.List.{List, [], ◌∷◌}
use native.Mathlib.Omega.{arith}
use lib.ListN.{length, get_or, set, length-set}
use lib.Seq.{get_or-set_same, get_or-set_other}
use Rattle.meaning.specs.Bytes.{among}
use Rattle.run_queues.specs.Log.{link, Chain, Turns, Turned}
use Rattle.run_queues.proofs.Log.{by_place, chain_without, among_this, among_other, among_behind}
use Rattle.run_queues.proofs.Leaving.{total, total_set}

module _ (s₀ : List ℕ) (waiters sets pairs from waiter start : ℕ) (ps : List ℕ) (t : Turns s₀ waiters sets pairs from waiter start ps) where
  -- The pairs that are left to turn.
  pub record Turning (s : List ℕ) (first : ℕ) (rest : List ℕ) : Type 0 where
    pub size : length s ≡ length s₀
    pub head : first ≡ link rest
    pub chain : Chain s waiters sets pairs from rest
    pub within : (q : ℕ) → among q rest ≡ true → among q ps ≡ true
    pub turned : (q : ℕ) → among q ps ≡ true → among q rest ≡ false → get_or s (waiters + q) 0 ≡ waiter
    pub other : (x : ℕ) → ((q : ℕ) → among q ps ≡ true → x ≡ waiters + q → ⊥) → get_or s x 0 ≡ get_or s₀ x 0

  pub turning_begins : Turning s₀ start ps
  turning_begins =
      record {
        size = refl;
        head = t.head;
        chain = t.chain;
        within = λ q h. h;
        turned = λ q h k. absurd (true≢false (sym h ∙ k));
        other = λ x h. refl;
      }

  pub turning_ends : (s : List ℕ) (rest : List ℕ) → Turning s 0 rest → Turned s₀ s waiters waiter ps
  unfolding among
  turning_ends s [] u = record { size = u.size; turned = λ q h. u.turned q h refl; other = u.other }
  turning_ends s (p ∷ rest) u = absurd (omega (arith, u.head))

  pub turning_inside : (s : List ℕ) (r : ℕ) (rest : List ℕ) → Turning s (r + 1) rest
      → (waiters + r < length s) × (sets + r < length s)
  unfolding Chain
  turning_inside s r [] u = absurd (omega (arith, u.head))
  turning_inside s r (p ∷ rest) u =
      (omega (arith, u.head, u.chain.0, t.waiters_first, t.inside, u.size), omega (arith, u.head, u.chain.0, t.inside, u.size))

  pub turning_less : (s : List ℕ) (r : ℕ) (rest : List ℕ) → Turning s (r + 1) rest
      → total (set s (waiters + r) waiter) < total s
  unfolding Chain
  turning_less s r [] u = absurd (omega (arith, u.head))
  turning_less s r (p ∷ rest) u =
      let e : r ≡ p = omega (arith, u.head) in
      rw e
      (omega (
        arith,
        total_set s (waiters + p) waiter (omega (arith, u.chain.0, t.waiters_first, t.inside, u.size)),
        u.chain.1,
        t.before,
      ))

  pub turning_on : (s : List ℕ) (r : ℕ) (rest : List ℕ) → Turning s (r + 1) rest
      → (rest' : List ℕ) × Turning (set s (waiters + r) waiter) (get_or s (sets + r) 0) rest'
  unfolding Chain
  turning_on s r [] u = absurd (omega (arith, u.head))
  turning_on s r (p ∷ rest) u =
      let e : r ≡ p = omega (arith, u.head) in
      let s' = set s (waiters + p) waiter in
      let k = u.chain in
      let inside : waiters + p < length s = omega (arith, k.0, t.waiters_first, t.inside, u.size) in (
        rest,
        rw e
            (record {
              size = length-set s (waiters + p) waiter ∙ u.size;
              head = k.2;
              chain =
                  chain_without s s' waiters sets pairs from p rest
                  (λ q b apart. (
                    get_or-set_other s (waiters + p) (waiters + q) waiter 0 (λ f. apart (omega arith)),
                    get_or-set_other s (waiters + p) (sets + q) waiter 0 (λ f. omega (arith, k.0, t.waiters_first)),
                  ))
                  k.3 k.4;
              within = λ q b. u.within q (among_behind q p rest b);
              turned = λ q b c. by_place q p
                  (λ f. rw f (get_or-set_same s (waiters + p) waiter 0 inside))
                  (λ f.
                  get_or-set_other s (waiters + p) (waiters + q) waiter 0 (λ g. f (omega arith))
                  ∙ u.turned q b (neither q f c));
              other = λ x b.
                  get_or-set_other s (waiters + p) x waiter 0 (b p (u.within p (among_this p p rest refl)))
                  ∙ u.other x b;
            }),
      )
    where
      neither : (q : ℕ) → (q ≡ p → ⊥) → among q rest ≡ false → among q (p ∷ rest) ≡ false
      neither q apart out = go (among q (p ∷ rest)) refl
        where
          go : (b : Bool) → among q (p ∷ rest) ≡ b → b ≡ false
          go true e = absurd (true≢false (sym (among_other q p rest apart e) ∙ out))
          go false e = refl
