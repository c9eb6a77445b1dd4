-- A place joins a list of words that rise: the greater ones move on by a word, and it takes the word before them.
use Prim.Native.Nat.{ℕ, zero, suc, ◌+◌, ◌-◌, ◌≤◌, ◌<◌}
use mathlib.Core.Path.{◌≡◌, refl, ap, sym, ◌∙◌}
use mathlib.Core.Logic.{⊎_elim}
use mathlib.Core.List.{List, [], ◌∷◌, ◌++◌, append-nil, append_assoc}
use native.Mathlib.Omega.{arith}
use lib.ListN.{length, get_or, set, length-set, length-append, get_or-append}
use lib.Seq.{get_or-set_same, get_or-set_other, get_or_at}
use Rattle.term.specs.States.{listed}
use Rattle.term.specs.Layout.{woken_part}
use Rattle.run_effects.specs.Reducing.{inserted, Inserts, Inserted}
use Rattle.run_queues.proofs.Deciding.{if_below, if_beyond}
use Rattle.run_queues.proofs.Log.{by_place}

pub listed_length : (s : List ℕ) (from n : ℕ) → length (listed s from n) ≡ n
unfolding listed
listed_length s from zero = refl
listed_length s from (suc n) = length-append (listed s from n) (get_or s (from + n) 0 ∷ []) ∙ omega (arith, listed_length s from n)

pub listed_at : (s : List ℕ) (from n k : ℕ) → k < n → get_or (listed s from n) k 0 ≡ get_or s (from + k) 0
unfolding listed
listed_at s from zero k h = absurd (omega arith)
listed_at s from (suc n) k h = go (listed_at s from n k)
  where
    go : (k < n → get_or (listed s from n) k 0 ≡ get_or s (from + k) 0)
        → get_or (listed s from n ++ (get_or s (from + n) 0 ∷ [])) k 0 ≡ get_or s (from + k) 0
    go earlier =
        by_place k n
        (λ e. rw e (get_or_at (listed s from n) (get_or s (from + n) 0) [] 0 n (listed_length s from n)))
        (λ e.
        let less : k < n = omega arith in
        get_or-append (listed s from n) (get_or s (from + n) 0 ∷ []) 0 k (omega (arith, listed_length s from n)) ∙ earlier less)

listed_split : (s : List ℕ) (from i m : ℕ) → listed s from (i + m) ≡ listed s from i ++ listed s (from + i) m
unfolding listed
listed_split s from i zero = let e : i + 0 ≡ i = omega arith in rw e (sym (append-nil (listed s from i)))
listed_split s from i (suc m) =
    let e : i + suc m ≡ suc (i + m) = omega arith in
    let f : from + (i + m) ≡ from + i + m = omega arith in
    rw (e, f)
    (ap (λ l. l ++ (get_or s (from + i + m) 0 ∷ [])) (listed_split s from i m)
    ∙ append_assoc (listed s from i) (listed s (from + i) m) (get_or s (from + i + m) 0 ∷ []))

one_listed : (s : List ℕ) (from : ℕ) → listed s from 1 ≡ get_or s from 0 ∷ []
unfolding listed
one_listed s from = let z : from + 0 ≡ from = omega arith in rw z

listed_alike : (s s' : List ℕ) (from from' m : ℕ) → ((k : ℕ) → k < m → get_or s' (from' + k) 0 ≡ get_or s (from + k) 0)
    → listed s' from' m ≡ listed s from m
unfolding listed
listed_alike s s' from from' zero same = refl
listed_alike s s' from from' (suc m) same =
    rw (listed_alike s s' from from' m (λ k h. same k (omega arith)), same m (omega arith))

pub inserted_first : (p : ℕ) (ys : List ℕ) → (0 < length ys → p ≤ get_or ys 0 0) → inserted p ys ≡ p ∷ ys
unfolding inserted
inserted_first p [] h = refl
inserted_first p (y ∷ ys) h = if_beyond y p (y ∷ inserted p ys) (p ∷ y ∷ ys) (h (omega arith))

pub inserted_behind : (x p : ℕ) (ys : List ℕ) → x < p → inserted p (x ∷ ys) ≡ x ∷ inserted p ys
unfolding inserted
inserted_behind x p ys h = if_below x p (x ∷ inserted p ys) (p ∷ x ∷ ys) h

inserted_between : (p : ℕ) (xs ys : List ℕ) → ((k : ℕ) → k < length xs → get_or xs k 0 < p) → (0 < length ys → p ≤ get_or ys 0 0)
    → inserted p (xs ++ ys) ≡ xs ++ (p ∷ ys)
inserted_between p [] ys low high = inserted_first p ys high
inserted_between p (x ∷ xs) ys low high =
    inserted_behind x p (xs ++ ys) (low 0 (omega arith))
    ∙ ap (λ l. x ∷ l) (inserted_between p xs ys (λ k h. low (suc k) (omega arith)) high)

-- The words from the i-th on have moved on by one; none of them is less than the place.
pub record Opened (s₀ s : List ℕ) (place n i : ℕ) : Type 0 where
  pub size : length s ≡ length s₀
  pub before : i ≤ n
  pub below : (k : ℕ) → k < woken_part + i → get_or s k 0 ≡ get_or s₀ k 0
  pub above : (k : ℕ) → woken_part + n + 1 ≤ k → get_or s k 0 ≡ get_or s₀ k 0
  pub moved : (k : ℕ) → i ≤ k → k < n → get_or s (woken_part + k + 1) 0 ≡ get_or s₀ (woken_part + k) 0
  pub greater : (k : ℕ) → i ≤ k → k < n → place ≤ get_or s₀ (woken_part + k) 0

pub opened_begins : (s : List ℕ) (place n : ℕ) → Opened s s place n n
opened_begins s place n =
    record {
      size = refl;
      before = omega arith;
      below = λ k h. refl;
      above = λ k h. refl;
      moved = λ k a b. absurd (omega arith);
      greater = λ k a b. absurd (omega arith);
    }

module _ (s₀ s : List ℕ) (place n i : ℕ) (a : Inserts s₀ place n) (o : Opened s₀ s place n i) where
  pub opened_on : (j : ℕ) → i ≡ j + 1 → place ≤ get_or s (woken_part + j) 0 → Opened s₀ (set s (woken_part + i) (get_or s (woken_part + j) 0)) place n j
  opened_on j e h =
      let v = get_or s (woken_part + j) 0 in
      let was : v ≡ get_or s₀ (woken_part + j) 0 = o.below (woken_part + j) (omega arith) in
      record {
        size = length-set s (woken_part + i) v ∙ o.size;
        before = omega (arith, o.before);
        below = λ k l. get_or-set_other s (woken_part + i) k v 0 (λ f. omega arith) ∙ o.below k (omega arith);
        above = λ k l. get_or-set_other s (woken_part + i) k v 0 (λ f. omega (arith, o.before)) ∙ o.above k l;
        moved = λ k l u. by_place k j
            (λ f.
            let same : woken_part + k + 1 ≡ woken_part + i = omega arith in
            rw (same, f) (get_or-set_same s (woken_part + i) v 0 (omega (arith, o.size, o.before, a.few, a.inside)) ∙ was))
            (λ f. get_or-set_other s (woken_part + i) (woken_part + k + 1) v 0 (λ g. omega arith) ∙ o.moved k (omega arith) u);
        greater = λ k l u. by_place k j
            (λ f. rw f (omega arith))
            (λ f. o.greater k (omega arith) u);
      }

  -- All before are less: the place takes the word that is free.
  module _ (low : (k : ℕ) → k < i → get_or s₀ (woken_part + k) 0 < place) where
    abbrev last : List ℕ
    last = set s (woken_part + i) place

    other : (k : ℕ) → (k ≡ woken_part + i → ⊥) → get_or last k 0 ≡ get_or s k 0
    other k h = get_or-set_other s (woken_part + i) k place 0 h

    places_after : (m : ℕ) → n ≡ i + m → listed last woken_part (n + 1) ≡ inserted place (listed s₀ woken_part n)
    places_after m e =
        let f : n + 1 ≡ i + (1 + m) = omega arith in
        let rest = listed s₀ (woken_part + i) m in
        let first : listed last woken_part i ≡ listed s₀ woken_part i =
        listed_alike s₀ last woken_part woken_part i (λ k h. other (woken_part + k) (λ g. omega arith) ∙ o.below (woken_part + k) (omega arith))
        in
        let it : get_or last (woken_part + i) 0 ≡ place = get_or-set_same s (woken_part + i) place 0 (omega (arith, o.size, o.before, a.few, a.inside)) in
        let later : listed last (woken_part + i + 1) m ≡ rest =
        listed_alike s₀ last (woken_part + i) (woken_part + i + 1) m
        (λ k h.
        let g : woken_part + i + 1 + k ≡ woken_part + (i + k) + 1 = omega arith in
        let g₂ : woken_part + i + k ≡ woken_part + (i + k) = omega arith in
        rw (g, g₂) (other (woken_part + (i + k) + 1) (λ q. omega arith) ∙ o.moved (i + k) (omega arith) (omega arith)))
        in
        let one : listed last (woken_part + i) 1 ≡ place ∷ [] = one_listed last (woken_part + i) ∙ ap (λ w. w ∷ []) it in
        let high : 0 < length rest → place ≤ get_or rest 0 0 = λ h.
        let h₂ : 0 < m = omega (arith, listed_length s₀ (woken_part + i) m) in
        let w : get_or rest 0 0 ≡ get_or s₀ (woken_part + i + 0) 0 = listed_at s₀ (woken_part + i) m 0 h₂ in
        let z : woken_part + i + 0 ≡ woken_part + i = omega arith in
        rw (w, z) (o.greater i (omega arith) (omega arith))
        in
        rw (f, listed_split last woken_part i (1 + m), listed_split last (woken_part + i) 1 m, first, one, later, e, listed_split s₀ woken_part i m)
        (sym
        (inserted_between place (listed s₀ woken_part i) rest
        (λ k h.
        let h₂ : k < i = omega (arith, listed_length s₀ woken_part i) in
        rw (listed_at s₀ woken_part i k h₂) (low k h₂))
        high))

    pub opened_ends : Inserted s₀ last place n
    opened_ends =
        record {
          kept = record {
            size = length-set s (woken_part + i) place ∙ o.size;
            same = λ k h.
                ⊎_elim
                (λ l. other k (λ g. omega arith) ∙ o.below k (omega arith))
                (λ u. other k (λ g. omega (arith, o.before)) ∙ o.above k u)
                h;
          };
          places = places_after (n - i) (omega (arith, o.before));
        }

  -- Those before are less if the last of them is.
  pub lower : (i ≡ 0) → (k : ℕ) → k < i → get_or s₀ (woken_part + k) 0 < place
  lower e k h = absurd (omega arith)

  pub lower_than : (j : ℕ) → i ≡ j + 1 → get_or s (woken_part + j) 0 < place → (k : ℕ) → k < i → get_or s₀ (woken_part + k) 0 < place
  lower_than j e h k l =
      let last_less : get_or s₀ (woken_part + j) 0 < place = rw (o.below (woken_part + j) (omega arith)) at h in
      by_place k j
      (λ f. rw f last_less)
      (λ f. omega (arith, a.rises k j (omega arith) (omega (arith, o.before)), last_less))
