-- How deep compounds stand in each other, as a term tells it and as the words of the scratch tell it.
-- On the way down no place is met twice, since terms at one place have one depth; so a term held is no deeper than the scratch is long.
use Prim.Native.Nat.{ℕ, zero, suc, ◌+◌, ◌≤◌, ◌<◌, max}
use mathlib.Core.Path.{◌≡◌, refl, sym, ap, ◌∙◌}
use mathlib.Core.Logic.{⊎_elim}
use mathlib.Core.Bool.{Bool, true, false}
use mathlib.Core.List.{List, [], ◌∷◌}
use native.Mathlib.Omega.{arith}
use lib.Dec.{eqb}
use lib.ListN.{length, get_or}
use borrow.Author.Tests.{eq-eqb, ne_eqb}
use Rattle.meaning.specs.Bytes.{when◌then◌else◌}
use Rattle.meaning.specs.Terms.{Half, writer, reader, Constant, Term, Terms, end, more, count}
use Rattle.laws.proofs.Lists.Among.{In, in_cons_cases, in_none}
use Rattle.laws.proofs.Lists.Pigeonhole.{Distinct, pigeonhole}
use Rattle.term.specs.Cells.{Places, term_word, constant_content}
use Rattle.term.specs.Words.{word, compound_word, tag_in, rest_in}
use Rattle.term.specs.Holds.{Holds, HoldsFrom}

unfoldable mutual
  pub depth : Term → ℕ
  depth (Term.variable h n) = 0
  depth (Term.constant k) = 0
  depth (Term.compound n f ts) = suc (depths ts)

  pub depths : Terms → ℕ
  depths end = 0
  depths (more t ts) = max (depth t) (depths ts)

-- The greatest of some words' heights.
unfoldable pub highest : (ℕ → ℕ) → List ℕ → ℕ → ℕ → ℕ
highest of front at zero = 0
highest of front at (suc k) = max (of (get_or front at 0)) (highest of front (at + 1) k)

-- The depth of the term that a word stands for, over no more compounds than given.
unfoldable pub height : ℕ → List ℕ → ℕ → ℕ
height zero front w = 0
height (suc f) front w =
    when eqb (tag_in w) 6 then suc (highest (height f front) front (rest_in w + 1) (tag_in (get_or front (rest_in w) 0))) else 0

highest_within : (of : ℕ → ℕ) (m : ℕ) → ((w : ℕ) → of w ≤ m) → (front : List ℕ) (at k : ℕ) → highest of front at k ≤ m
unfolding highest
highest_within of m le front at zero = omega arith
highest_within of m le front at (suc k) = omega (arith, le (get_or front at 0), highest_within of m le front (at + 1) k)

pub height_within : (f : ℕ) (front : List ℕ) (w : ℕ) → height f front w ≤ f
unfolding height when◌then◌else◌
height_within zero front w = omega arith
height_within (suc f) front w = go (eqb (tag_in w) 6) (height_within f front)
  where
    go : (b : Bool) → ((u : ℕ) → height f front u ≤ f)
        → (when b then suc (highest (height f front) front (rest_in w + 1) (tag_in (get_or front (rest_in w) 0))) else 0) ≤ suc f
    go true le =
        omega (arith, highest_within (height f front) f le front (rest_in w + 1) (tag_in (get_or front (rest_in w) 0)))
    go false le = omega arith

pub flat : (f : ℕ) (front : List ℕ) (w : ℕ) → (tag_in w ≡ 6 → ⊥) → height f front w ≡ 0
unfolding height when◌then◌else◌
flat zero front w d = refl
flat (suc f) front w d = rw (ne_eqb (tag_in w) 6 d) refl

tall : (f : ℕ) (front : List ℕ) (w : ℕ) → tag_in w ≡ 6
    → height (suc f) front w ≡ suc (highest (height f front) front (rest_in w + 1) (tag_in (get_or front (rest_in w) 0)))
unfolding height when◌then◌else◌
tall f front w e = rw (eq-eqb (tag_in w) 6 e) refl

constant_flat : (places : Places) (k : Constant) → tag_in (word (constant_content places k)) ≡ 6 → ⊥
constant_flat places (Constant.integer i) e = omega arith
constant_flat places (Constant.name f) e = omega arith
constant_flat places Constant.empty e = omega arith

variable_flat : (places : Places) (h : Half) (n : ℕ) → tag_in (term_word places (Term.variable h n)) ≡ 6 → ⊥
variable_flat places writer n e = omega arith
variable_flat places reader n e = omega arith

module _ (front : List ℕ) (places : Places) where
  mutual
    unfolding Holds HoldsFrom depth depths highest count

    -- A term held is as deep as its word tells.
    pub height_is : (f : ℕ) (t : Term) → Holds front places t → depth t ≤ f → height f front (term_word places t) ≡ depth t
    height_is f (Term.variable h n) held le = flat f front (term_word places (Term.variable h n)) (variable_flat places h n)
    height_is f (Term.constant k) held le = flat f front (term_word places (Term.constant k)) (constant_flat places k)
    height_is zero (Term.compound n g ts) held le = absurd (omega arith)
    height_is (suc f) (Term.compound n g ts) held le =
        let w = term_word places (Term.compound n g ts) in
        let at : rest_in w ≡ places.compound n = omega arith in
        let k : tag_in (get_or front (places.compound n) 0) ≡ count ts = omega (arith, held.0.functor, held.0.few) in
        let all = heights_are f n 0 ts held.1 (omega arith) in
        let first : places.compound n + 1 ≡ places.compound n + 1 + 0 = omega arith in
        tall f front w (omega arith)
        ∙ rw (at, k, first) (ap suc all)

    pub heights_are : (f n i : ℕ) (ts : Terms) → HoldsFrom front places n i ts → depths ts ≤ f
        → highest (height f front) front (places.compound n + 1 + i) (count ts) ≡ depths ts
    heights_are f n i end held le = refl
    heights_are f n i (more t ts) held le =
        let next : places.compound n + 1 + i + 1 ≡ places.compound n + 1 + (i + 1) = omega arith in
        rw (held.0, height_is f t held.1 (omega arith), next, heights_are f n (i + 1) ts held.2 (omega arith)) refl

  same_depth : (t u : Term) → Holds front places t → Holds front places u → term_word places t ≡ term_word places u → depth t ≡ depth u
  same_depth t u ht hu e =
      sym (height_is (depth t + depth u) t ht (omega arith)) ∙ ap (height (depth t + depth u) front) e
      ∙ height_is (depth t + depth u) u hu (omega arith)

  -- The places met above a term: at each stands a deeper term.
  Above : List ℕ → ℕ → Type 0
  Above met d = (m : ℕ) → In m met → (u : Term) × Holds front places u × (term_word places u ≡ compound_word m) × (d < depth u)

  mutual
    unfolding Holds HoldsFrom depth depths Distinct Above

    deep : (t : Term) → Holds front places t → (met : List ℕ) → Distinct met → ((m : ℕ) → In m met → m < length front) → Above met (depth t)
        → length met + depth t ≤ length front
    deep (Term.variable h n) held met d below above = omega (arith, pigeonhole (length front) met d below)
    deep (Term.constant k) held met d below above = omega (arith, pigeonhole (length front) met d below)
    deep (Term.compound n f ts) held met d below above =
        let p = places.compound n in
        let new : In p met → ⊥ = λ q.
        let (u, hu, e, l) = above p q in
        let same : depth (Term.compound n f ts) ≡ depth u = same_depth (Term.compound n f ts) u held hu (sym e) in
        omega arith in
        let all : length (p ∷ met) + depths ts ≤ length front =
        all_deep n 0 ts held.1 (p ∷ met) (new, d)
        (λ m q. ⊎_elim (λ e. omega (arith, held.0.inside)) (below m) (in_cons_cases q))
        (λ m q. ⊎_elim (λ e. (Term.compound n f ts, held, ap (λ i. compound_word i) (sym e), omega arith))
        (λ r. let (u, hu, e, l) = above m r in (u, hu, e, omega arith)) (in_cons_cases q)) in
        omega arith

    all_deep : (n i : ℕ) (ts : Terms) → HoldsFrom front places n i ts → (met : List ℕ) → Distinct met
        → ((m : ℕ) → In m met → m < length front) → Above met (depths ts) → length met + depths ts ≤ length front
    all_deep n i end held met d below above = omega (arith, pigeonhole (length front) met d below)
    all_deep n i (more t ts) held met d below above =
        let one = deep t held.1 met d below (λ m q. let (u, hu, e, l) = above m q in (u, hu, e, omega arith)) in
        let others = all_deep n (i + 1) ts held.2 met d below (λ m q. let (u, hu, e, l) = above m q in (u, hu, e, omega arith)) in
        omega arith

  -- A term held is no deeper than the scratch is long.
  pub shallow : (t : Term) → Holds front places t → depth t ≤ length front
  unfolding Distinct Above
  shallow t held = omega (arith, deep t held [] tt (λ m q. absurd (in_none q)) (λ m q. absurd (in_none q)))
