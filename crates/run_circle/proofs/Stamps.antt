-- Marks only grow: what one part of a search visited and closed stays so in the next.
use Prim.Native.Nat.{ℕ, ◌+◌, ◌-◌, ◌<◌}
use mathlib.Core.Path.{◌≡◌, refl, sym, ap, subst, ◌∙◌}
use mathlib.Core.Logic.{◌⊎◌, inl}
use mathlib.Core.Bool.{Bool, true, false, true≢false}
use mathlib.Core.List.{List}
use mathlib.Core.Option.{Option}
use native.Mathlib.Decide.{ℕ_discrete, dec_lt}
use native.Mathlib.Omega.{arith}
use lib.Dec.{eqb}
use lib.ListN.{length, get_or, set, take, replicate, length-set, length-append, length-replicate, get_or-replicate, get_or-append}
use lib.Seq.{get_or-set_same, get_or-set_other, get_or-append-add, take-set-le, get_or-take, length-take-le}
use borrow.Author.Tests.{eq-eqb, ne_eqb}
use Rattle.meaning.specs.Bytes.{when◌then◌else◌}
use Rattle.laws.proofs.Circle.Leaning.{Leans}
use Rattle.run_circle.specs.Ground.{stamp_in, Tells, IsSo}
use Rattle.run_circle.specs.Search.{Scene, whole, Searching, visited, Visited, Stamped, Marked, Seen, Closed}
use Rattle.run_circle.proofs.Grounds.{new_none, new_then, grounds_on}

-- The marks of visited pairs.
pub visited_stamp : (stamp m : ℕ) → stamp_in m ≡ stamp → Visited stamp m
unfolding visited when◌then◌else◌
visited_stamp stamp m e = go (eqb m 1)
  where
    go : (b : Bool) → (when b then true else eqb (stamp_in m) stamp) ≡ true
    go true = refl
    go false = eq-eqb (stamp_in m) stamp e

pub visited_ground : (stamp : ℕ) → Visited stamp 1
unfolding visited when◌then◌else◌
visited_ground stamp = refl

pub not_visited : (stamp m : ℕ) → (m ≡ 1 → ⊥) → (stamp_in m ≡ stamp → ⊥) → visited stamp m ≡ false
unfolding visited when◌then◌else◌
not_visited stamp m d e = rw (ne_eqb m 1 d) (ne_eqb (stamp_in m) stamp e)

pub visited_below : (stamp m : ℕ) → stamp_in m < stamp → Visited stamp m → m ≡ 1
visited_below stamp m l v = go (ℕ_discrete m 1)
  where
    go : Dec (m ≡ 1) → m ≡ 1
    go (yes e) = e
    go (no d) = absurd (true≢false (sym v ∙ not_visited stamp m d (λ e. omega arith)))

pub or_visited : (stamp m : ℕ) → Dec (Visited stamp m)
or_visited stamp m = go (visited stamp m) refl
  where
    go : (b : Bool) → visited stamp m ≡ b → Dec (Visited stamp m)
    go true e = yes e
    go false e = no (λ f. true≢false (sym f ∙ e))

module _ (x : Scene) (marks stamp : ℕ) where
  pub stamped_same : (s : List ℕ) → Stamped x marks stamp s s
  stamped_same s =
      record { size = refl; front = refl; above = λ k h. refl; others = λ k d. refl; grounds = new_none x.unit x.before marks s }

  pub stamped_then : (s t u : List ℕ) → Stamped x marks stamp s t → Stamped x marks stamp t u → Stamped x marks stamp s u
  stamped_then s t u a b = record {
    size = b.size ∙ a.size;
    front = b.front ∙ a.front;
    above = λ k h. b.above k h ∙ a.above k h;
    others = λ k d. b.others k d ∙ a.others k (λ e. d (ap (visited stamp) (b.others k d) ∙ e));
    grounds = new_then x.unit x.before marks s t u a.grounds b.grounds;
  }

  -- A mark is set to one of a visited pair, and what it tells was told or is so.
  pub stamped_set : (s : List ℕ) (p w : ℕ) → p < x.pairs → marks + p < length s → Visited stamp w
      → ((o : Option ℕ) → Tells o w → Tells o (get_or s (marks + p) 0) ⊎ IsSo x.unit x.before o p) → Stamped x marks stamp s (set s (marks + p) w)
  stamped_set s p w h inside v known = record {
    size = length-set s (marks + p) w;
    front = take-set-le marks s (marks + p) w (omega arith);
    above = λ k l. get_or-set_other s (marks + p) k w 0 (λ e. omega arith);
    others = λ k d. go k d (ℕ_discrete k (marks + p));
    grounds = λ o q e. new o q e (ℕ_discrete q p);
  }
    where
      go : (k : ℕ) → (Visited stamp (get_or (set s (marks + p) w) k 0) → ⊥) → Dec (k ≡ marks + p)
          → get_or (set s (marks + p) w) k 0 ≡ get_or s k 0
      go k d (yes e) = absurd (d (rw (e, get_or-set_same s (marks + p) w 0 inside) v))
      go k d (no e) = get_or-set_other s (marks + p) k w 0 e

      here : (q : ℕ) → q ≡ p → get_or (set s (marks + p) w) (marks + q) 0 ≡ w
      here q f = ap (λ k. get_or (set s (marks + p) w) (marks + k) 0) f ∙ get_or-set_same s (marks + p) w 0 inside

      new : (o : Option ℕ) (q : ℕ) → Tells o (get_or (set s (marks + p) w) (marks + q) 0) → Dec (q ≡ p)
          → Tells o (get_or s (marks + q) 0) ⊎ IsSo x.unit x.before o q
      new o q e (yes f) =
          subst (λ k. Tells o (get_or s (marks + k) 0) ⊎ IsSo x.unit x.before o k) (sym f) (known o (subst (Tells o) (here q f) e))
      new o q e (no d) = inl (subst (Tells o) (get_or-set_other s (marks + p) (marks + q) w 0 (λ f. d (omega arith))) e)

  -- A mark stays.
  pub stamp_stays : (s t : List ℕ) → Stamped x marks stamp s t → (k : ℕ) → Visited stamp (get_or s k 0) → Visited stamp (get_or t k 0)
  stamp_stays s t a k e = go (or_visited stamp (get_or t k 0))
    where
      go : Dec (Visited stamp (get_or t k 0)) → Visited stamp (get_or t k 0)
      go (yes f) = f
      go (no f) = ap (visited stamp) (a.others k f) ∙ e

module _ (x : Scene) (marks stamp z : ℕ) (s t : List ℕ) (a : Stamped x marks stamp s t) where
  pub searching_on : (values place : ℕ) → Searching s x values marks place stamp z → Searching t x values marks place stamp z
  searching_on values place h = record {
    shown = h.shown;
    front = a.front ∙ h.front;
    size = a.size ∙ h.size;
    values_at = h.values_at;
    room = omega (arith, a.size, h.room);
    unit_pair = h.unit_pair;
    place_at = h.place_at;
    unassigned = h.unassigned;
    stamp_above = h.stamp_above;
    stamp_below = h.stamp_below;
    few = h.few;
    grounds = grounds_on x.unit x.before marks s t a.grounds h.grounds;
  }

  pub marked_on : (j : ℕ) → Marked s x marks stamp z j → Marked t x marks stamp z j
  marked_on j m = record {
    end = m.end;
    of_unit = m.of_unit;
    via = m.via;
    stamped = stamp_stays x marks stamp s t a (marks + x.unit.pair m.end) m.stamped;
    other = m.other;
  }

  pub seen_on : (j : ℕ) → Seen s x marks stamp z j → Seen t x marks stamp z j
  seen_on j h = record { unit = λ l. marked_on j (h.unit l); clause = λ l i r. marked_on i (h.clause l i r) }

  pub closed_then : (r : List ℕ) → Closed r s x marks stamp z → Closed s t x marks stamp z → Closed r t x marks stamp z
  closed_then r b c = record { new = λ j h d e i l. go j h d e i l (or_visited stamp (get_or s (marks + x.unit.pair j) 0)) }
    where
      go : (j : ℕ) → j < x.old → (Visited stamp (get_or r (marks + x.unit.pair j) 0) → ⊥)
          → Visited stamp (get_or t (marks + x.unit.pair j) 0) → (i : ℕ) → Leans x.after j i
          → Dec (Visited stamp (get_or s (marks + x.unit.pair j) 0)) → Seen t x marks stamp z i
      go j h d e i l (yes f) = seen_on i (b.new j h d f i l)
      go j h d e i l (no f) = c.new j h f e i l

pub closed_same : (x : Scene) (marks stamp z : ℕ) (s : List ℕ) → Closed s s x marks stamp z
closed_same x marks stamp z s = record { new = λ j h d e i l. absurd (d e) }

-- A word before the marks is the scene's.
pub front_length : (s : List ℕ) (x : Scene) (values marks place stamp z : ℕ) → Searching s x values marks place stamp z
    → length x.front ≡ marks
front_length s x values marks place stamp z h =
    let e : length (take marks s) ≡ marks = length-take-le marks s (omega (arith, h.room)) in
    rw h.front at e

pub front_word : (s : List ℕ) (x : Scene) (values marks place stamp z : ℕ) → Searching s x values marks place stamp z
    → (k : ℕ) → k < length x.front → get_or s k 0 ≡ get_or x.front k 0
front_word s x values marks place stamp z h k l =
    let e : get_or (take marks s) k 0 ≡ get_or s k 0 = get_or-take marks s k 0 (omega (arith, front_length s x values marks place stamp z h)) in
    sym e ∙ rw h.front refl

-- The front, filled up, is as long as the scratch; a word in it that is not one of those that fill it up is the scratch's.
pub whole_length : (s : List ℕ) (x : Scene) (values marks place stamp z : ℕ) → Searching s x values marks place stamp z
    → length (whole x) ≡ length s
whole_length s x values marks place stamp z h =
    length-append x.front (replicate (x.size - length x.front) 7)
    ∙ omega (
      arith,
      length-replicate {A = ℕ} (x.size - length x.front) 7,
      front_length s x values marks place stamp z h,
      h.size,
      h.room,
    )

pub whole_word : (s : List ℕ) (x : Scene) (values marks place stamp z : ℕ) → Searching s x values marks place stamp z
    → (k : ℕ) → k < length (whole x) → (get_or (whole x) k 0 ≡ 7 → ⊥) → get_or s k 0 ≡ get_or (whole x) k 0
whole_word s x values marks place stamp z h k l other = go (dec_lt k (length x.front))
  where
    rest : List ℕ
    rest = replicate (x.size - length x.front) 7

    go : Dec (k < length x.front) → get_or s k 0 ≡ get_or (whole x) k 0
    go (yes b) = front_word s x values marks place stamp z h k b ∙ sym (get_or-append x.front rest 0 k b)
    go (no d) =
        let far = k - length x.front in
        let at : k ≡ length x.front + far = omega arith in
        let seven : get_or (whole x) k 0 ≡ 7 =
        ap (λ i. get_or (whole x) i 0) at ∙ get_or-append-add x.front rest far 0
        ∙ get_or-replicate (x.size - length x.front) far 7 0
        (omega (arith, h.size, whole_length s x values marks place stamp z h))
        in
        absurd (other seven)
