-- Where there was no circle before, one that a trial makes passes through a pair of the goal that the trial gives a term.
-- And a search from such a pair's term that visits all it can reach without meeting the pair shows that the pair lies on no circle.
use Prim.Native.Nat.{ℕ, zero, suc, ◌+◌, ◌-◌, ◌≤◌, ◌<◌}
use mathlib.Core.Path.{◌≡◌, refl, sym, ap, subst, ◌∙◌}
use mathlib.Core.Logic.{◌⊎◌, inl, inr, ⊎_elim}
use mathlib.Core.Bool.{true, false}
use mathlib.Core.List.{List}
use mathlib.Core.Option.{none, some}
use native.Mathlib.Decide.{ℕ_discrete, dec_lt}
use native.Mathlib.Omega.{arith}
use lib.ListN.{length, get_or}
use Rattle.meaning.specs.State.{value}
use Rattle.laws.proofs.Circle.Leaning.{Leans, Links, one, first, links_join}
use Rattle.laws.proofs.Circle.Search.{no_circle_says, leaning_below}
use Rattle.laws.proofs.Trial.Values.{assigned_below}
use Rattle.run_circle.specs.Circle.{entry_pair, Trial, old, Tried}
use Rattle.run_circle.specs.Ground.{Ground, Via, there, through}
use Rattle.run_circle.specs.Search.{Scene, On, StandsAt, Shown, Visited, Marked, Seen, Searched}
use Rattle.run_circle.proofs.Grounds.{ground_reaches, via_leans, via_unassigned}
use Rattle.run_circle.proofs.Stamps.{or_visited}
use Rattle.run_circle.proofs.Visit.{stands_of}
use Rattle.run_circle.proofs.Parts.{within_stands}

-- A number is one of the first n that a function gives, or none of them.
pub one_or_none : (f : ℕ → ℕ) (n q : ℕ) → ((i : ℕ) × (i < n) × (q ≡ f i)) ⊎ ((i : ℕ) → i < n → q ≡ f i → ⊥)
one_or_none f zero q = inr (λ i h. absurd (omega arith))
one_or_none f (suc n) q = go (ℕ_discrete q (f n)) (one_or_none f n q)
  where
    lower : (i : ℕ) → i < suc n → (i ≡ n → ⊥) → i < n
    lower i h d = omega arith

    go : Dec (q ≡ f n) → ((i : ℕ) × (i < n) × (q ≡ f i)) ⊎ ((i : ℕ) → i < n → q ≡ f i → ⊥)
        → ((i : ℕ) × (i < suc n) × (q ≡ f i)) ⊎ ((i : ℕ) → i < suc n → q ≡ f i → ⊥)
    go (yes e) others = inl (n, omega arith, e)
    go (no d) (inl (i, h, e)) = inl (i, omega arith, e)
    go (no d) (inr none_of) = inr (λ i h e. last i h e (ℕ_discrete i n))
      where
        last : (i : ℕ) → i < suc n → q ≡ f i → Dec (i ≡ n) → ⊥
        last i h e (yes g) = d (e ∙ ap f g)
        last i h e (no g) = none_of i (lower i h g) e

-- A place is that of an entry's pair, or of none.
pub entry_or_not : (s : List ℕ) (n q : ℕ)
    → ((i : ℕ) × (i < n) × (q ≡ entry_pair s i)) ⊎ ((i : ℕ) → i < n → q ≡ entry_pair s i → ⊥)
entry_or_not s n q = one_or_none (entry_pair s) n q

module _ (s : List ℕ) (y : Trial) (values marks n stamp : ℕ) (tried : Tried s y values marks n stamp) where
  -- An entry's pair that leans on itself.
  abbrev pub OnEntry : Type 0
  OnEntry = (i : ℕ) × (h : i < n) × Links y.after (tried.entry i h).pair (tried.entry i h).pair

  -- A path from a pair of the unit passes through an entry's pair, or was there before.
  Passes : ℕ → ℕ → Type 0
  Passes a b = (i : ℕ) × (h : i < n) × ((a ≡ (tried.entry i h).pair) ⊎ Links y.after a (tried.entry i h).pair)
      × Links y.after (tried.entry i h).pair b

  is_entry : (a i : ℕ) (h : i < n) → a < old y → y.unit.places.pair a ≡ entry_pair s i → a ≡ (tried.entry i h).pair
  is_entry a i h l e = tried.unit_apart a (tried.entry i h).pair l (tried.entry i h).of_unit (e ∙ (tried.entry i h).place)

  before_leans : (a b : ℕ) → a < old y → ((i : ℕ) → i < n → y.unit.places.pair a ≡ entry_pair s i → ⊥) → Leans y.after a b
      → Leans y.unit.values a b × (b < old y)
  unfolding Leans
  before_leans a b l d (t, e, r) =
      let was : value y.unit.values a ≡ some t = sym (tried.others a l d) ∙ e in
      ((t, was, r), within_stands (old y) y.unit.compounds t (tried.unit.of a t l was).within b r)

  passes_or_was : {a b : ℕ} → Links y.after a b → a < old y → (Links y.unit.values a b × (b < old y)) ⊎ Passes a b
  unfolding Passes
  passes_or_was {a} {b} (one l) h = go (entry_or_not s n (y.unit.places.pair a))
    where
      go : ((i : ℕ) × (i < n) × (y.unit.places.pair a ≡ entry_pair s i)) ⊎ ((i : ℕ) → i < n → y.unit.places.pair a ≡ entry_pair s i → ⊥)
          → (Links y.unit.values a b × (b < old y)) ⊎ Passes a b
      go (inl (i, m, e)) =
          let is = is_entry a i m h e in
          inr (i, m, inl is, subst (λ k. Links y.after k b) is (one l))
      go (inr d) = let (was, k) = before_leans a b h d l in inl (one was, k)
  passes_or_was {a} {b} (first {j = k} l c) h = go (entry_or_not s n (y.unit.places.pair a)) (passes_or_was c)
    where
      further : Leans y.unit.values a k → (Links y.unit.values k b × (b < old y)) ⊎ Passes k b
          → (Links y.unit.values a b × (b < old y)) ⊎ Passes a b
      further was (inl (p, m)) = inl (first was p, m)
      further was (inr (i, m, to, from)) =
          inr (i, m, inr (⊎_elim (λ e. one (subst (Leans y.after a) e l)) (λ p. first l p) to), from)

      go : ((i : ℕ) × (i < n) × (y.unit.places.pair a ≡ entry_pair s i)) ⊎ ((i : ℕ) → i < n → y.unit.places.pair a ≡ entry_pair s i → ⊥)
          → (k < old y → (Links y.unit.values k b × (b < old y)) ⊎ Passes k b)
          → (Links y.unit.values a b × (b < old y)) ⊎ Passes a b
      go (inl (i, m, e)) rest =
          let is = is_entry a i m h e in
          inr (i, m, inl is, subst (λ j. Links y.after j b) is (first l c))
      go (inr d) rest = let (was, m) = before_leans a k h d l in further was (rest m)

  unit_circle : (a : ℕ) → a < old y → Links y.after a a → OnEntry
  unfolding Passes
  unit_circle a l c = go (passes_or_was c l)
    where
      go : (Links y.unit.values a a × (a < old y)) ⊎ Passes a a → OnEntry
      go (inl (was, m)) = absurd ((no_circle_says y.unit.values).0 tried.no_circle a was)
      go (inr (i, m, to, from)) =
          (i, m, ⊎_elim (λ e. subst (Links y.after (tried.entry i m).pair) e from) (λ p. links_join from p) to)

  -- A pair of the clause leans on pairs of the unit only.
  clause_leans : (a b : ℕ) → old y ≤ a → Leans y.after a b → b < old y
  unfolding Leans
  clause_leans a b l (t, e, r) =
      let m : a < length y.after = leaning_below y.after a b (t, e, r) in
      let is : old y + (a - old y) ≡ a = omega arith in
      let e' : value y.after (old y + (a - old y)) ≡ some t = rw is e in
      within_stands (old y) y.unit.compounds t
      ((tried.given (a - old y) (omega (arith, tried.after_length))).within t e') b r

  -- A circle passes through an entry's pair.
  pub circle_on_entry : (a : ℕ) → Links y.after a a → OnEntry
  circle_on_entry a c = go (dec_lt a (old y)) c
    where
      go : Dec (a < old y) → Links y.after a a → OnEntry
      go (yes l) p = unit_circle a l p
      go (no d) (one l) = absurd (d (clause_leans a a (omega arith) l))
      go (no d) (first {j = k} l p) = unit_circle k (clause_leans a k (omega arith) l) (links_join p (one l))

-- After a search before which the marked pairs were ground, and which did not meet pair z, no path leads from z to z.
module _ (x : Scene) (marks stamp z : ℕ) (s s' : List ℕ) (shown : Shown x) (unit_pair : z < x.old) (unassigned : value x.before z ≡ none)
    (fresh : (j : ℕ) → j < x.old → Visited stamp (get_or s (marks + x.unit.pair j) 0) → Ground x.before j)
    (searched : Searched s s' x marks stamp z (λ j. StandsAt j (value x.after z)) false) where
  via_below : {u n : ℕ} → Via x.before u n → u < x.old → n < x.old
  via_below (there e) b = rw e b
  via_below (through {n = n} t e all) b = omega (arith, assigned_below x.before n t e, shown.old_is)

  -- A pair from which all ways go through a marked one leans on such pairs, on visited ones, or is ground.
  marked_leans : (j k : ℕ) → j < x.old → Marked s' x marks stamp z j → Leans x.after j k → Ground x.before j ⊎ Seen s' x marks stamp z k
  marked_leans j k h m l = go (via_leans x.before x.after shown.stays m.via)
    where
      unit : (e : j ≡ m.end) → Dec (Visited stamp (get_or s (marks + x.unit.pair j) 0)) → Ground x.before j ⊎ Seen s' x marks stamp z k
      unit e (yes v) = inl (fresh j h v)
      unit e (no d) =
          inr ((searched.closed refl).new j h d
          (subst (λ n. Visited stamp (get_or s' (marks + x.unit.pair n) 0)) (sym e) m.stamped) k l)

      further : Via x.before m.end k → Ground x.before j ⊎ Seen s' x marks stamp z k
      further v = inr (record {
        unit = λ b. record { end = m.end; of_unit = m.of_unit; via = v; stamped = m.stamped; other = m.other };
        clause = λ b. absurd (omega (arith, via_below v m.of_unit));
      })

      go : (j ≡ m.end) ⊎ ((i : ℕ) → Leans x.after j i → Via x.before m.end i) → Ground x.before j ⊎ Seen s' x marks stamp z k
      go (inl e) = unit e (or_visited stamp (get_or s (marks + x.unit.pair j) 0))
      go (inr all) = further (all k l)

  seen_on_seen : (j k : ℕ) → Seen s' x marks stamp z j → Leans x.after j k → Ground x.before j ⊎ Seen s' x marks stamp z k
  seen_on_seen j k seen l = go (dec_lt j x.old)
    where
      go : Dec (j < x.old) → Ground x.before j ⊎ Seen s' x marks stamp z k
      go (yes h) = marked_leans j k h (seen.unit h) l
      go (no d) =
          let on : On x true j = (omega arith, leaning_below x.after j k l) in
          let low : k < x.old = (shown.clause_value j on).pairs k (stands_of x.after k j l) in
          inr (record { unit = λ h. seen.clause (omega arith) k l; clause = λ h. absurd (omega arith) })

  from_ground : {j : ℕ} → Ground x.before j → Links x.after j z → ⊥
  from_ground g p = ground_reaches x.before x.after shown.stays g p unassigned

  not_seen : Seen s' x marks stamp z z → ⊥
  not_seen seen = let m = seen.unit unit_pair in m.other (sym (via_unassigned x.before m.via unassigned))

  not_from_seen : {j : ℕ} → Seen s' x marks stamp z j → Links x.after j z → ⊥
  not_from_seen {j} seen (one l) = ⊎_elim (λ g. from_ground g (one l)) not_seen (seen_on_seen j z seen l)
  not_from_seen {j} seen (first {j = k} l p) = further (seen_on_seen j k seen l) (λ next. not_from_seen next p)
    where
      further : Ground x.before j ⊎ Seen s' x marks stamp z k → (Seen s' x marks stamp z k → ⊥) → ⊥
      further (inl g) rest = from_ground g (first l p)
      further (inr next) rest = rest next

  pub not_around : Links x.after z z → ⊥
  not_around (one l) = not_seen (searched.visited refl z (stands_of x.after z z l))
  not_around (first {j = k} l p) = not_from_seen (searched.visited refl k (stands_of x.after k z l)) p
