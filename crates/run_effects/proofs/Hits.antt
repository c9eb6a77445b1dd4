-- Slots that are hit by one pair more: at most one, which had its pairs until then; its place joins the rising list of places.
use Prim.Native.Nat.{ℕ, zero, suc, ◌+◌, ◌≤◌, ◌<◌}
use mathlib.Core.Path.{◌≡◌, refl, ap, sym, ◌∙◌}
use mathlib.Core.Bool.{Bool, true, false, ◌||◌, true≢false}
use mathlib.Core.List.{List, [], ◌∷◌, ◌++◌}
use native.Mathlib.Omega.{arith}
use lib.ListN.{length, get_or, set}
use Rattle.meaning.specs.Bytes.{among, any, when◌then◌else◌}
use Rattle.term.specs.States.{listed}
use Rattle.run_queues.specs.Log.{Slot, gone, waits, pairs_in, slot}
use Rattle.run_effects.specs.Reducing.{hit, hits, quiet, quieted, inserted, Rises}
use Rattle.run_effects.proofs.Inserting.{inserted_first, inserted_behind, listed_at, listed_length}

-- A slot that waits on nothing any more if it was hit.
abbrev pub calmed : List ℕ → Slot → Slot
calmed zs v = when hit zs v then quiet v else v

pub quieted_length : (zs : List ℕ) (vs : List Slot) → length (quieted zs vs) ≡ length vs
unfolding quieted
quieted_length zs [] = refl
quieted_length zs (v ∷ vs) = ap suc (quieted_length zs vs)

no_other : (a : Bool) → (a || false) ≡ a
no_other true = refl
no_other false = refl

or_again : (a b c : Bool) → (a || (b || c)) ≡ ((a || b) || c)
or_again true b c = refl
or_again false b c = refl

hit_more : (zs : List ℕ) (z : ℕ) (v : Slot) → hit (zs ++ (z ∷ [])) v ≡ (hit zs v || among z (pairs_in v))
unfolding hit any
hit_more [] z v = no_other (among z (pairs_in v))
hit_more (y ∷ zs) z v =
    ap (λ b. among y (pairs_in v) || b) (hit_more zs z v) ∙ or_again (among y (pairs_in v)) (hit zs v) (among z (pairs_in v))

quiet_none : (z : ℕ) (v : Slot) → among z (pairs_in (quiet v)) ≡ false
unfolding among
quiet_none z gone = refl
quiet_none z (waits goal ps) = refl

module _ (zs : List ℕ) (z : ℕ) where
  abbrev pub zs+ : List ℕ
  zs+ = zs ++ (z ∷ [])

  -- The new pair is none of the slot's that are left: the slot is hit if it was.
  hit_same : (v : Slot) → among z (pairs_in (calmed zs v)) ≡ false → hit zs+ v ≡ hit zs v
  unfolding when◌then◌else◌
  hit_same v h = hit_more zs z v ∙ go (hit zs v) h
    where
      go : (b : Bool) → among z (pairs_in (when b then quiet v else v)) ≡ false → (b || among z (pairs_in v)) ≡ b
      go true h = refl
      go false h = h

  -- It is one of them: the slot was not hit.
  hit_first : (v : Slot) → among z (pairs_in (calmed zs v)) ≡ true → hit zs v ≡ false
  unfolding when◌then◌else◌
  hit_first v h = go (hit zs v) h
    where
      go : (b : Bool) → among z (pairs_in (when b then quiet v else v)) ≡ true → b ≡ false
      go true h = absurd (true≢false (sym h ∙ quiet_none z v))
      go false h = refl

  hit_now : (v : Slot) → among z (pairs_in (calmed zs v)) ≡ true → hit zs+ v ≡ true
  unfolding when◌then◌else◌
  hit_now v h = hit_more zs z v ∙ go (hit zs v) h
    where
      go : (b : Bool) → among z (pairs_in (when b then quiet v else v)) ≡ true → (b || among z (pairs_in v)) ≡ true
      go true h = refl
      go false h = h

  calmed_first : (v : Slot) → hit zs v ≡ false → calmed zs v ≡ v
  unfolding when◌then◌else◌
  calmed_first v h = rw h

  abbrev pub Untouched : List Slot → Type 0
  Untouched vs = (k : ℕ) → k < length vs → among z (pairs_in (slot (quieted zs vs) k)) ≡ false

  behind : (v : Slot) (vs : List Slot) → Untouched (v ∷ vs) → Untouched vs
  unfolding quieted
  behind v vs h k l = h (suc k) (omega arith)

  pub untouched_quieted : (vs : List Slot) → Untouched vs → quieted zs+ vs ≡ quieted zs vs
  unfolding quieted
  untouched_quieted [] h = refl
  untouched_quieted (v ∷ vs) h = rw (hit_same v (h 0 (omega arith)), untouched_quieted vs (behind v vs h))

  pub untouched_hits : (b : ℕ) (vs : List Slot) → Untouched vs → hits zs+ b vs ≡ hits zs b vs
  unfolding quieted hits
  untouched_hits b [] h = refl
  untouched_hits b (v ∷ vs) h = rw (hit_same v (h 0 (omega arith)), untouched_hits (b + 1) vs (behind v vs h))

  -- The slot at a place has the pair, and no other.
  pub record Touched (vs : List Slot) (j goal : ℕ) (ps : List ℕ) : Type 0 where
    pub here : j < length vs
    pub it : slot (quieted zs vs) j ≡ waits goal ps
    pub has : among z ps ≡ true
    pub others : (k : ℕ) → k < length vs → (k ≡ j → ⊥) → among z (pairs_in (slot (quieted zs vs) k)) ≡ false

  touched_behind : (v : Slot) (vs : List Slot) (j goal : ℕ) (ps : List ℕ) → Touched (v ∷ vs) (suc j) goal ps → Touched vs j goal ps
  unfolding quieted
  touched_behind v vs j goal ps t =
      record { here = omega (arith, t.here); it = t.it; has = t.has; others = λ k l n. t.others (suc k) (omega arith) (λ e. n (omega arith)) }

  touched_rest : (v : Slot) (vs : List Slot) (goal : ℕ) (ps : List ℕ) → Touched (v ∷ vs) 0 goal ps → Untouched vs
  unfolding quieted
  touched_rest v vs goal ps t k l = t.others (suc k) (omega arith) (λ e. omega arith)

  head_has : (v : Slot) (vs : List Slot) (goal : ℕ) (ps : List ℕ) → Touched (v ∷ vs) 0 goal ps → among z (pairs_in (calmed zs v)) ≡ true
  unfolding quieted
  head_has v vs goal ps t = ap (λ u. among z (pairs_in u)) t.it ∙ t.has

  head_quiet : (v : Slot) (vs : List Slot) (goal : ℕ) (ps : List ℕ) → Touched (v ∷ vs) 0 goal ps → quiet v ≡ waits goal []
  unfolding quieted
  head_quiet v vs goal ps t = ap quiet (sym (calmed_first v (hit_first v (head_has v vs goal ps t))) ∙ t.it)

  pub touched_quieted : (vs : List Slot) (j goal : ℕ) (ps : List ℕ) → Touched vs j goal ps
      → set (quieted zs vs) j (waits goal []) ≡ quieted zs+ vs
  unfolding quieted when◌then◌else◌
  touched_quieted [] j goal ps t = absurd (omega (arith, t.here))
  touched_quieted (v ∷ vs) zero goal ps t =
      rw (hit_now v (head_has v vs goal ps t), head_quiet v vs goal ps t, untouched_quieted vs (touched_rest v vs goal ps t))
  touched_quieted (v ∷ vs) (suc j) goal ps t =
      rw (hit_same v (t.others 0 (omega arith) (λ e. omega arith)), touched_quieted vs j goal ps (touched_behind v vs j goal ps t))

-- Places from b on, rising.
module _ (zs : List ℕ) where
  pub hits_above : (b : ℕ) (vs : List Slot) (k : ℕ) → k < length (hits zs b vs) → b ≤ get_or (hits zs b vs) k 0
  unfolding hits when◌then◌else◌
  hits_above b [] k h = absurd (omega arith)
  hits_above b (v ∷ vs) k h = go (hit zs v) k h (λ m. hits_above (b + 1) vs m)
    where
      go : (t : Bool) (k : ℕ) → k < length (when t then b ∷ hits zs (b + 1) vs else hits zs (b + 1) vs)
          → ((m : ℕ) → m < length (hits zs (b + 1) vs) → b + 1 ≤ get_or (hits zs (b + 1) vs) m 0)
          → b ≤ get_or (when t then b ∷ hits zs (b + 1) vs else hits zs (b + 1) vs) k 0
      go true zero h later = omega arith
      go true (suc k) h later = omega (arith, later k (omega arith))
      go false k h later = omega (arith, later k h)

  pub hits_rise : (b : ℕ) (vs : List Slot) (i k : ℕ) → i < k → k < length (hits zs b vs) → get_or (hits zs b vs) i 0 < get_or (hits zs b vs) k 0
  unfolding hits when◌then◌else◌
  hits_rise b [] i k l h = absurd (omega arith)
  hits_rise b (v ∷ vs) i k l h = go (hit zs v) i k l h (λ m n. hits_rise (b + 1) vs m n)
    where
      go : (t : Bool) (i k : ℕ) → i < k → k < length (when t then b ∷ hits zs (b + 1) vs else hits zs (b + 1) vs)
          → ((m n : ℕ) → m < n → n < length (hits zs (b + 1) vs) → get_or (hits zs (b + 1) vs) m 0 < get_or (hits zs (b + 1) vs) n 0)
          → get_or (when t then b ∷ hits zs (b + 1) vs else hits zs (b + 1) vs) i 0
          < get_or (when t then b ∷ hits zs (b + 1) vs else hits zs (b + 1) vs) k 0
      go true i zero l h later = absurd (omega arith)
      go true zero (suc k) l h later = omega (arith, hits_above (b + 1) vs k (omega arith))
      go true (suc i) (suc k) l h later = later i k (omega arith) (omega arith)
      go false i k l h later = later i k l h

  pub listed_rises : (s : List ℕ) (from n : ℕ) (vs : List Slot) → listed s from n ≡ hits zs 0 vs → Rises s from n
  listed_rises s from n vs e i k l h =
      let long : length (hits zs 0 vs) ≡ n = sym (ap length e) ∙ listed_length s from n in
      let at_i : get_or (hits zs 0 vs) i 0 ≡ get_or s (from + i) 0 = ap (λ q. get_or q i 0) (sym e) ∙ listed_at s from n i (omega arith) in
      let at_k : get_or (hits zs 0 vs) k 0 ≡ get_or s (from + k) 0 = ap (λ q. get_or q k 0) (sym e) ∙ listed_at s from n k h in
      omega (arith, hits_rise 0 vs i k l (omega arith), at_i, at_k)

module _ (zs : List ℕ) (z : ℕ) where
  pub touched_hits : (b : ℕ) (vs : List Slot) (j goal : ℕ) (ps : List ℕ) → Touched zs z vs j goal ps
      → inserted (b + j) (hits zs b vs) ≡ hits (zs ++ (z ∷ [])) b vs
  unfolding hits quieted when◌then◌else◌
  touched_hits b [] j goal ps t = absurd (omega (arith, t.here))
  touched_hits b (v ∷ vs) zero goal ps t =
      let has = head_has zs z v vs goal ps t in
      let e : b + 0 ≡ b = omega arith in
      rw (e, hit_first zs z v has, hit_now zs z v has, untouched_hits zs z (b + 1) vs (touched_rest zs z v vs goal ps t))
      (inserted_first b (hits zs (b + 1) vs) (λ h. omega (arith, hits_above zs (b + 1) vs 0 h)))
  touched_hits b (v ∷ vs) (suc j) goal ps t =
      rw (hit_same zs z v (t.others 0 (omega arith) (λ e. omega arith)))
      (go (hit zs v) (touched_hits (b + 1) vs j goal ps (touched_behind zs z v vs j goal ps t)))
    where
      more : b + suc j ≡ b + 1 + j
      more = omega arith

      go : (u : Bool) → inserted (b + 1 + j) (hits zs (b + 1) vs) ≡ hits (zs ++ (z ∷ [])) (b + 1) vs
          → inserted (b + suc j) (when u then b ∷ hits zs (b + 1) vs else hits zs (b + 1) vs)
          ≡ (when u then b ∷ hits (zs ++ (z ∷ [])) (b + 1) vs else hits (zs ++ (z ∷ [])) (b + 1) vs)
      go true later =
          inserted_behind b (b + suc j) (hits zs (b + 1) vs) (omega arith) ∙ ap (λ l. b ∷ l) (ap (λ p. inserted p (hits zs (b + 1) vs)) more ∙ later)
      go false later = ap (λ p. inserted p (hits zs (b + 1) vs)) more ∙ later
