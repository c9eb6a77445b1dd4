-- The circle test says what it says: a pair is reached from itself exactly if it leans on itself through one or more links.
-- What is reached has a path; a path of at most `length values` links is found; and any path can be cut to so few, for it need not leave a pair twice.
use Prim.Native.Nat.{ℕ, zero, suc, ◌≤◌, ◌<◌}
use mathlib.Core.Path.{◌≡◌, refl, sym, subst, ◌∙◌}
use mathlib.Core.Logic.{◌↔◌, ◌⊎◌, inl, inr, ⊎_elim}
use mathlib.Core.Bool.{true, false, true≢false}
use mathlib.Core.List.{List, [], ◌∷◌, ◌++◌}
use native.Mathlib.Omega.{arith}
use lib.ListN.{length}
use Rattle.meaning.specs.Bytes.{among, any, each_once, up_to}
use Rattle.meaning.specs.State.{Values}
use Rattle.meaning.specs.Circle.{leans_on, reach, circle_at, circle}
use Rattle.laws.proofs.Lists.{
  Distinct,
  In,
  among_in,
  any_in,
  below_in_up_to,
  each_once_covers,
  each_once_in,
  here,
  in_among,
  in_any,
  in_append_cases,
  in_append_left,
  in_append_right,
  in_none,
  in_or_not,
  in_single,
  not_true_is_false,
  pigeonhole,
  there,
}
use Rattle.laws.proofs.Trial.{assigned_below}
use Rattle.laws.proofs.Circle.Leaning.{Leans, Links, one, first, in_leans_on, leaning_in_leans_on}

-- A pair that leans on another has a value, so it is below the number of pairs.
pub leaning_below : (values : Values) (i j : ℕ) → Leans values i j → i < length values
unfolding Leans
leaning_below values i j (t, v, s) = assigned_below values i t v

pub linked_below : (values : Values) {i j : ℕ} → Links values i j → i < length values
linked_below values {i} {j} (one l) = leaning_below values i j l
linked_below values {i} (first {j = k} l c) = leaning_below values i k l

-- A path to j with the pairs that it leaves, in order.
data Way (values : Values) (j : ℕ) : ℕ → List ℕ → Type 0 where
  arrives : {i : ℕ} → Leans values i j → Way values j i (i ∷ [])
  leaves : {i k : ℕ} {left : List ℕ} → Leans values i k → Way values j k left → Way values j i (i ∷ left)

module _ (values : Values) where
  -- The next layer of the search.
  abbrev layer : List ℕ → List ℕ → List ℕ
  layer reached last = each_once reached (leans_on values last)

  -- What is reached was reached before, or has a path from the last of the pairs reached.
  reach_has_path : (links : ℕ) (reached last : List ℕ) (j : ℕ) → In j (reach links values reached last)
      → In j reached ⊎ ((i : ℕ) × In i last × Links values i j)
  unfolding reach
  reach_has_path zero reached last j q = inl q
  reach_has_path (suc links) reached [] j q = inl q
  reach_has_path (suc links) reached (i ∷ is) j q = go (reach_has_path links (new ++ reached) new j q)
    where
      new : List ℕ
      new = layer reached (i ∷ is)

      from_last : (k : ℕ) → In k new → (h : ℕ) × In h (i ∷ is) × Leans values h k
      from_last k p = in_leans_on values (i ∷ is) k (each_once_in reached (leans_on values (i ∷ is)) k p)

      go : In j (new ++ reached) ⊎ ((k : ℕ) × In k new × Links values k j)
          → In j reached ⊎ ((h : ℕ) × In h (i ∷ is) × Links values h j)
      go (inl p) = ⊎_elim (λ n. let (h, r, l) = from_last j n in inr (h, r, one l)) inl (in_append_cases new p)
      go (inr (k, p, c)) = let (h, r, l) = from_last k p in inr (h, r, first l c)

  -- What was reached stays reached.
  reach_keeps : (links : ℕ) (reached last : List ℕ) (j : ℕ) → In j reached → In j (reach links values reached last)
  unfolding reach
  reach_keeps zero reached last j q = q
  reach_keeps (suc links) reached [] j q = q
  reach_keeps (suc links) reached (i ∷ is) j q =
      reach_keeps links (layer reached (i ∷ is) ++ reached) (layer reached (i ∷ is)) j (in_append_right (layer reached (i ∷ is)) q)

  -- Every pair on which a pair reached leans is reached too, unless that is one of the last.
  abbrev Closed : List ℕ → List ℕ → Type 0
  Closed reached last = (i j : ℕ) → In i reached → Leans values i j → In i last ⊎ In j reached

  -- A layer later every pair on which one of these leans is reached, and what is reached is closed again.
  next_reached : (reached last : List ℕ) → Closed reached last → (i j : ℕ) → In i reached ⊎ In i last → Leans values i j
      → In j (layer reached last ++ reached)
  next_reached reached last c i j p l = ⊎_elim (λ q. ⊎_elim from_last earlier (c i j q l)) from_last p
    where
      earlier : In j reached → In j (layer reached last ++ reached)
      earlier q = in_append_right (layer reached last) q

      from_last : In i last → In j (layer reached last ++ reached)
      from_last q =
          ⊎_elim (in_append_left reached) earlier
          (each_once_covers reached (leans_on values last) j (leaning_in_leans_on values j q l))

  next_closed : (reached last : List ℕ) → Closed reached last → Closed (layer reached last ++ reached) (layer reached last)
  next_closed reached last c i j p l =
      ⊎_elim inl (λ q. inr (next_reached reached last c i j (inl q) l)) (in_append_cases (layer reached last) p)

  -- Where there is no pair to go on from, the paths from what is reached stay in it.
  closed_has_ways : (reached : List ℕ) → Closed reached [] → {j i : ℕ} {left : List ℕ} → Way values j i left → In i reached → In j reached
  closed_has_ways reached c {j} {i} (arrives l) p = ⊎_elim (λ q. absurd (in_none q)) (λ q. q) (c i j p l)
  closed_has_ways reached c {j} {i} (leaves {k = k} l w) p =
      closed_has_ways reached c w (⊎_elim (λ q. absurd (in_none q)) (λ q. q) (c i k p l))

  -- Every path from a pair reached has its end reached, if it has no more links than the search.
  reach_has_ways : (links : ℕ) (reached last : List ℕ) → Closed reached last → {i j : ℕ} {left : List ℕ} → Way values j i left
      → length left ≤ links → In i reached ⊎ In i last → In j (reach links values reached last)
  unfolding reach
  reach_has_ways zero reached last c (arrives l) few p = absurd (omega arith)
  reach_has_ways zero reached last c (leaves l w) few p = absurd (omega arith)
  reach_has_ways (suc links) reached [] c w few p = closed_has_ways reached c w (⊎_elim (λ q. q) (λ q. absurd (in_none q)) p)
  reach_has_ways (suc links) reached (h ∷ hs) c {i} {j} (arrives l) few p =
      reach_keeps links (layer reached (h ∷ hs) ++ reached) (layer reached (h ∷ hs)) j (next_reached reached (h ∷ hs) c i j p l)
  reach_has_ways (suc links) reached (h ∷ hs) c {i} {j} (leaves {k = k} l w) few p =
      reach_has_ways links (layer reached (h ∷ hs) ++ reached) (layer reached (h ∷ hs)) (next_closed reached (h ∷ hs) c) w (omega arith)
      (inl (next_reached reached (h ∷ hs) c i k p l))

  -- A path that leaves a pair has an end piece that begins there.
  way_from : {i j k : ℕ} {left : List ℕ} → Way values j k left → Distinct left → In i left
      → (others : List ℕ) × Way values j i others × Distinct others
  unfolding Distinct
  way_from {i} {j} (arrives {i = k} l) d p =
      subst (λ x. (others : List ℕ) × Way values j x others × Distinct others) (sym (in_single p)) (k ∷ [], arrives l, d)
  way_from {i} {j} (leaves {i = k} {left = left} l w) d (here e) =
      subst (λ x. (others : List ℕ) × Way values j x others × Distinct others) (sym e) (k ∷ left, leaves l w, d)
  way_from (leaves l w) d (there p) = way_from w d.1 p

  -- A path need not leave a pair twice.
  way_of : {i j : ℕ} → Links values i j → (left : List ℕ) × Way values j i left × Distinct left
  unfolding Distinct
  way_of {i} (one l) = (i ∷ [], arrives l, (in_none, tt))
  way_of {i} {j} (first {j = k} l c) = go (way_of c)
    where
      go : (left : List ℕ) × Way values j k left × Distinct left → (left : List ℕ) × Way values j i left × Distinct left
      go (left, w, d) = ⊎_elim (way_from w d) (λ new. (i ∷ left, leaves l w, (new, d))) (in_or_not i left)

  -- It leaves only pairs that have a value.
  way_below : {j i : ℕ} {left : List ℕ} → Way values j i left → (m : ℕ) → In m left → m < length values
  way_below {j} {i} (arrives l) m p = rw (in_single p) (leaning_below values i j l)
  way_below {j} {i} (leaves {k = k} l w) m (here e) = rw e (leaning_below values i k l)
  way_below (leaves l w) m (there p) = way_below w m p

-- The test at one pair: it is reached from itself exactly if it leans on itself through one or more links.
pub circle_at_says : (values : Values) (i : ℕ) → (circle_at values i ≡ true) ↔ Links values i i
unfolding circle_at
circle_at_says values i = (λ e. has_path (among_in i (reach (length values) values [] (i ∷ [])) e), λ c. is_found (way_of values c))
  where
    has_path : In i (reach (length values) values [] (i ∷ [])) → Links values i i
    has_path p = ⊎_elim (λ q. absurd (in_none q)) from (reach_has_path values (length values) [] (i ∷ []) i p)
      where
        from : (h : ℕ) × In h (i ∷ []) × Links values h i → Links values i i
        from (h, q, c) = rw (in_single q) at c

    is_found : (left : List ℕ) × Way values i i left × Distinct left → among i (reach (length values) values [] (i ∷ [])) ≡ true
    is_found (left, w, d) =
        let few : length left ≤ length values = pigeonhole (length values) left d (way_below values w) in
        in_among (reach_has_ways values (length values) [] (i ∷ []) (λ h j p l. absurd (in_none p)) w few (inr (here refl)))

-- The circle test says what it says: "if any pair would lean on itself through one or more links".
pub circle_says : (values : Values) → (circle values ≡ true) ↔ ((i : ℕ) × Links values i i)
unfolding circle
circle_says values = (some_circle, λ (i, c). is_found i c)
  where
    some_circle : any (circle_at values) (up_to (length values)) ≡ true → (i : ℕ) × Links values i i
    some_circle e = let (i, p, q) = any_in (circle_at values) (up_to (length values)) e in (i, (circle_at_says values i).0 q)

    is_found : (i : ℕ) → Links values i i → any (circle_at values) (up_to (length values)) ≡ true
    is_found i c =
        in_any (circle_at values) (below_in_up_to (length values) i (linked_below values c)) ((circle_at_says values i).1 c)

-- The same, for where there is none.
pub no_circle_says : (values : Values) → (circle values ≡ false) ↔ ((i : ℕ) → ¬ Links values i i)
no_circle_says values = (
  λ e i c. true≢false (sym ((circle_says values).1 (i, c)) ∙ e),
  λ h. not_true_is_false (circle values) (λ e. let (i, c) = (circle_says values).0 e in h i c),
)
