-- The goals that are hit in the log are the waiting goals that wait on a pair assigned in this step: woken in their order, the others left.
use Prim.Native.Nat.{ℕ, zero, suc, ◌+◌, ◌<◌}
use mathlib.Core.Path.{◌≡◌, refl, ap, sym, ◌∙◌}
use mathlib.Core.Bool.{Bool, true, false, not, ◌&&◌, ◌||◌}
use mathlib.Core.List.{List, [], ◌∷◌, ◌++◌, map, append-nil, append_assoc}
use native.Mathlib.Omega.{arith}
use native.Mathlib.Numerals.{add-one}
use lib.Dec.{eqb}
use lib.ListN.{length}
use borrow.Author.Tests.{eqb-true, eq-eqb}
use Rattle.meaning.specs.Bytes.{among, any, those, when◌then◌else◌}
use Rattle.meaning.specs.State.{QueryUnit, Waiting, unit_at, of}
use Rattle.meaning.specs.Compare.{Assignment}
use Rattle.meaning.specs.Step.{wakes}
use Rattle.laws.proofs.Lists.Among.{In, among_in, in_among, any_in, in_any, in_map, in_same}
use Rattle.laws.proofs.Lists.Tests.{same_answer, and_left, and_right}
use Rattle.laws.proofs.Lists.Filters.{those_map}
use Rattle.laws.proofs.Lists.EachOf.{Each, each_in}
use Rattle.term.specs.Cells.{Places}
use Rattle.term.specs.Setting.{Setting}
use Rattle.term.specs.States.{Atlas, goal_word}
use Rattle.run_compare.specs.Gifts.{Entry, EntriesAt}
use Rattle.run_compare.specs.Compare.{Template, AllEntries}
use Rattle.run_queues.specs.Log.{Slot, gone, waits, slot, gathered, goal_of, present}
use Rattle.run_effects.specs.Reducing.{entry_places, hit, hits, goal_in, woken, emptied}
use Rattle.run_between.specs.Running.{slot_of}
use Rattle.run_queues.proofs.Waking.{gathered_among}
use Rattle.run_effects.proofs.HitSlots.{hit_gone}
use Rattle.run_between.proofs.Logged.{slots_goals}

-- The log's goals, place by place from the first.
unfoldable pub goals_in : List Slot → List Slot
goals_in [] = []
goals_in (v ∷ vs) = goal_of v ++ goals_in vs

present_behind : (v : Slot) (vs : List Slot) (n : ℕ) → present (v ∷ vs) (suc n) ≡ goal_of v ++ present vs n
unfolding present
present_behind v vs zero = sym (append-nil (goal_of v))
present_behind v vs (suc n) =
    ap (λ l. l ++ goal_of (slot vs n)) (present_behind v vs n)
    ∙ append_assoc (goal_of v) (present vs n) (goal_of (slot vs n))

pub present_all : (vs : List Slot) → present vs (length vs) ≡ goals_in vs
unfolding present goals_in
present_all [] = refl
present_all (v ∷ vs) = present_behind v vs (length vs) ∙ ap (λ l. goal_of v ++ l) (present_all vs)

pub emptied_length : (zs : List ℕ) (vs : List Slot) → length (emptied zs vs) ≡ length vs
unfolding emptied
emptied_length zs [] = refl
emptied_length zs (v ∷ vs) = ap suc (emptied_length zs vs)

module _ (zs : List ℕ) where
  woken_in : (vs : List Slot) → woken zs vs ≡ map goal_in (those (hit zs) (goals_in vs))
  unfolding woken those goals_in when◌then◌else◌
  woken_in [] = refl
  woken_in (gone ∷ vs) = rw (hit_gone zs) (woken_in vs)
  woken_in (waits g ps ∷ vs) = go (hit zs (waits g ps)) (woken_in vs)
    where
      go : (b : Bool) → woken zs vs ≡ map goal_in (those (hit zs) (goals_in vs))
          → (when b then g ∷ woken zs vs else woken zs vs)
          ≡ map goal_in (when b then waits g ps ∷ those (hit zs) (goals_in vs) else those (hit zs) (goals_in vs))
      go true later = ap (λ l. g ∷ l) later
      go false later = later

  emptied_in : (vs : List Slot) → goals_in (emptied zs vs) ≡ those (λ v. not (hit zs v)) (goals_in vs)
  unfolding emptied those goals_in when◌then◌else◌
  emptied_in [] = refl
  emptied_in (gone ∷ vs) = rw (hit_gone zs) (emptied_in vs)
  emptied_in (waits g ps ∷ vs) = go (hit zs (waits g ps)) (emptied_in vs)
    where
      go : (b : Bool) → goals_in (emptied zs vs) ≡ those (λ v. not (hit zs v)) (goals_in vs)
          → goal_of (when b then gone else waits g ps) ++ goals_in (emptied zs vs)
          ≡ (when not b then waits g ps ∷ those (λ v. not (hit zs v)) (goals_in vs) else those (λ v. not (hit zs v)) (goals_in vs))
      go true later = later
      go false later = ap (λ l. waits g ps ∷ l) later

  hits_in : (b : ℕ) (vs : List Slot) → length (hits zs b vs) ≡ length (those (hit zs) (goals_in vs))
  unfolding hits those goals_in when◌then◌else◌
  hits_in b [] = refl
  hits_in b (gone ∷ vs) = rw (hit_gone zs) (hits_in (b + 1) vs)
  hits_in b (waits g ps ∷ vs) = go (hit zs (waits g ps)) (hits_in (b + 1) vs)
    where
      go : (t : Bool) → length (hits zs (b + 1) vs) ≡ length (those (hit zs) (goals_in vs))
          → length (when t then b ∷ hits zs (b + 1) vs else hits zs (b + 1) vs)
          ≡ length (when t then waits g ps ∷ those (hit zs) (goals_in vs) else those (hit zs) (goals_in vs))
      go true later = ap suc later
      go false later = later

those_same : {A : Type 0} (t u : A → Bool) (l : List A) → Each (λ a. t a ≡ u a) l → those t l ≡ those u l
unfolding those
those_same t u [] same = refl
those_same t u (a ∷ l) same = rw (same.0, those_same t u l same.1)

others_same : {A : Type 0} (t u : A → Bool) (l : List A) → Each (λ a. t a ≡ u a) l → those (λ a. not (t a)) l ≡ those (λ a. not (u a)) l
unfolding those
others_same t u [] same = refl
others_same t u (a ∷ l) same = rw (same.0, others_same t u l same.1)

length_map : {A B : Type 0} (f : A → B) (l : List A) → length (map f l) ≡ length l
length_map f [] = refl
length_map f (a ∷ l) = ap suc (length_map f l)

-- The log holds the waiting goals, of which exactly those are hit that are woken.
module _ (atlas : Atlas) (query : ℕ) (given : List Assignment) (zs : List ℕ) (slots : List Slot) (waiting : List Waiting)
    (held : present slots (length slots) ≡ map (slot_of atlas) waiting)
    (same : Each (λ w. hit zs (slot_of atlas w) ≡ wakes query given w) waiting) where
  goals_are : goals_in slots ≡ map (slot_of atlas) waiting
  goals_are = sym (present_all slots) ∙ held

  those_hit : those (hit zs) (goals_in slots) ≡ map (slot_of atlas) (those (wakes query given) waiting)
  those_hit =
      ap (those (hit zs)) goals_are
      ∙ those_map (hit zs) (slot_of atlas) waiting
      ∙ ap (map (slot_of atlas)) (those_same (λ w. hit zs (slot_of atlas w)) (wakes query given) waiting same)

  pub woken_are : woken zs slots ≡ map (λ w. goal_word atlas w.goal) (those (wakes query given) waiting)
  woken_are = woken_in zs slots ∙ ap (map goal_in) those_hit ∙ slots_goals atlas (those (wakes query given) waiting)

  pub others_wait : present (emptied zs slots) (length (emptied zs slots))
      ≡ map (slot_of atlas) (those (λ w. not (wakes query given w)) waiting)
  others_wait =
      present_all (emptied zs slots)
      ∙ emptied_in zs slots
      ∙ ap (those (λ v. not (hit zs v))) goals_are
      ∙ those_map (λ v. not (hit zs v)) (slot_of atlas) waiting
      ∙ ap (map (slot_of atlas)) (others_same (λ w. hit zs (slot_of atlas w)) (wakes query given) waiting same)

  pub woken_number : length (hits zs 0 slots) ≡ length (those (wakes query given) waiting)
  woken_number = hits_in zs 0 slots ∙ ap length those_hit ∙ length_map (slot_of atlas) (those (wakes query given) waiting)

-- The places of the entries' pairs.
places_on : (s : List ℕ) (item unit : Places) (n : ℕ) (list : List Entry) → EntriesAt s item unit n list
    → entry_places s (n + length list) ≡ entry_places s n ++ map (λ e. unit.pair e.pair) list
unfolding EntriesAt entry_places
places_on s item unit n [] k = let e : n + 0 ≡ n = omega arith in rw e (sym (append-nil (entry_places s n)))
places_on s item unit n (x ∷ xs) k =
    let e : n + suc (length xs) ≡ n + 1 + length xs = omega arith in
    rw e
    (places_on s item unit (n + 1) xs k.2
    ∙ ap (λ l. l ++ map (λ e. unit.pair e.pair) xs) (ap (entry_places s) (add-one n) ∙ ap (λ z. entry_places s n ++ (z ∷ [])) k.0)
    ∙ append_assoc (entry_places s n) (unit.pair x.pair ∷ []) (map (λ e. unit.pair e.pair) xs))

pub entry_places_are : (s : List ℕ) (item unit : Places) (n : ℕ) (list : List Entry) → length list ≡ n → EntriesAt s item unit 0 list
    → entry_places s n ≡ map (λ e. unit.pair e.pair) list
unfolding entry_places
entry_places_are s item unit n list size k =
    let e : n ≡ 0 + length list = omega arith in rw e (places_on s item unit 0 list k)

pub entries_below : (s : List ℕ) (x : Setting) (y : Template) (low high : ℕ) (list : List Entry) → AllEntries s x y low high list
    → Each (λ e. e.pair < length x.values) list
unfolding AllEntries
entries_below s x y low high [] k = tt
entries_below s x y low high (e ∷ es) k = (k.0, entries_below s x y k.2 high es k.5)

any_map : {A B : Type 0} (t : B → Bool) (f : A → B) (l : List A) → any t (map f l) ≡ any (λ a. t (f a)) l
unfolding any
any_map t f [] = refl
any_map t f (a ∷ l) = ap (λ b. t (f a) || b) (any_map t f l)

among_map : (z : ℕ) (f : ℕ → ℕ) (l : List ℕ) → among z (map f l) ≡ any (λ p. eqb z (f p)) l
unfolding among any
among_map z f [] = refl
among_map z f (p ∷ l) = ap (λ b. eqb z (f p) || b) (among_map z f l)

gathered_from_none : (z : ℕ) (rs : List ℕ) → among z (gathered [] rs) ≡ among z rs
unfolding among
gathered_from_none z rs = gathered_among z [] rs

and_true : (a b : Bool) → a ≡ true → b ≡ true → (a && b) ≡ true
and_true a b p q = rw (p, q)

-- A goal is hit by the entries' pairs exactly if it is woken: of its query, and it waits on a pair that is assigned.
module _ (atlas : Atlas) (units : List QueryUnit) (query : ℕ) (given : List Assignment) (list : List Entry)
    (inside : query < length units)
    (apart : (k l n m : ℕ) → k < length units → l < length units → n < length (unit_at k units).values → m < length (unit_at l units).values
    → (atlas k).pair n ≡ (atlas l).pair m → (k ≡ l) × (n ≡ m))
    (below : Each (λ e. e.pair < length (unit_at query units).values) list)
    (pairs_are : (z : ℕ) → z < length (unit_at query units).values → any (λ a. eqb z a.pair) given ≡ any (λ e. eqb z e.pair) list)
    (w : Waiting) (known : w.goal.query < length units)
    (readers : Each (λ p. p < length (unit_at w.goal.query units).values) w.readers) where
  abbrev lies : ℕ → ℕ
  lies p = (atlas w.goal.query).pair p

  -- The entry's pair is one of the goal's readers.
  found : (e : Entry) → among ((atlas query).pair e.pair) (gathered [] (map lies w.readers)) ≡ true
      → (p : ℕ) × In p w.readers × ((atlas query).pair e.pair ≡ lies p)
  found e h =
      let z = (atlas query).pair e.pair in
      let a : any (λ p. eqb z (lies p)) w.readers ≡ true =
      sym (among_map z lies w.readers) ∙ sym (gathered_from_none z (map lies w.readers)) ∙ h
      in
      let p = any_in (λ p. eqb z (lies p)) w.readers a in
      (p.0, p.1, eqb-true z (lies p.0) p.2)

  abbrev zs : List ℕ
  zs = map (λ e. (atlas query).pair e.pair) list

  hit_as : hit zs (slot_of atlas w) ≡ any (λ e. among ((atlas query).pair e.pair) (gathered [] (map lies w.readers))) list
  unfolding hit
  hit_as = any_map (λ z. among z (gathered [] (map lies w.readers))) (λ e. (atlas query).pair e.pair) list

  -- A pair of an entry that is one of its readers is assigned, so the goal is woken.
  waits_on : (a : Assignment) → In a given → In a.pair w.readers → w.goal.query ≡ query → wakes query given w ≡ true
  unfolding wakes of
  waits_on a i r its =
      and_true (eqb w.goal.query query) (any (λ a. among a.pair w.readers) given) (eq-eqb w.goal.query query its)
      (in_any (λ a. among a.pair w.readers) i (in_among r))

  assigned_too : (e : Entry) → In e list → e.pair < length (unit_at query units).values → any (λ a. eqb e.pair a.pair) given ≡ true
  assigned_too e i small = pairs_are e.pair small ∙ in_any (λ f. eqb e.pair f.pair) i (eq-eqb e.pair e.pair refl)

  entry_wakes : (e : Entry) (p : ℕ) → In e list → In p w.readers → query ≡ w.goal.query → e.pair ≡ p
      → (a : Assignment) × In a given × (eqb e.pair a.pair ≡ true) → wakes query given w ≡ true
  entry_wakes e p i r q same a = waits_on a.0 a.1 (in_same (sym (eqb-true e.pair a.0.pair a.2) ∙ same) r) (sym q)

  entry_hits : (e : Entry) → In e list → (p : ℕ) → In p w.readers → (atlas query).pair e.pair ≡ lies p → wakes query given w ≡ true
  entry_hits e i p r same =
      let small : e.pair < length (unit_at query units).values = each_in (λ e. e.pair < length (unit_at query units).values) below i in
      let one = apart query w.goal.query e.pair p inside known small
      (each_in (λ p. p < length (unit_at w.goal.query units).values) readers r) same
      in
      entry_wakes e p i r one.0 one.1 (any_in (λ a. eqb e.pair a.pair) given (assigned_too e i small))

  if_hit : hit zs (slot_of atlas w) ≡ true → wakes query given w ≡ true
  if_hit h =
      let x = any_in (λ e. among ((atlas query).pair e.pair) (gathered [] (map lies w.readers))) list (sym hit_as ∙ h) in
      let p = found x.0 x.2 in
      entry_hits x.0 x.1 p.0 p.1 p.2

  -- A reader's pair that is assigned has an entry.
  reader_hit : (n : ℕ) → In n w.readers → w.goal.query ≡ query → (e : Entry) → In e list → eqb n e.pair ≡ true
      → hit zs (slot_of atlas w) ≡ true
  reader_hit n r its e i same =
      let place : (atlas query).pair e.pair ≡ lies n =
      ap (λ p. (atlas query).pair p) (sym (eqb-true n e.pair same)) ∙ ap (λ q. (atlas q).pair n) (sym its)
      in
      hit_as
      ∙ in_any (λ e. among ((atlas query).pair e.pair) (gathered [] (map lies w.readers))) i
      (gathered_from_none ((atlas query).pair e.pair) (map lies w.readers) ∙ in_among (in_same place (in_map lies r)))

  assigned_hit : (a : Assignment) → In a given → In a.pair w.readers → w.goal.query ≡ query → hit zs (slot_of atlas w) ≡ true
  assigned_hit a i r its =
      let small : a.pair < length (unit_at query units).values =
      in_unit w.goal.query query a.pair its (each_in (λ p. p < length (unit_at w.goal.query units).values) readers r)
      in
      let x = any_in (λ e. eqb a.pair e.pair) list
      (sym (pairs_are a.pair small) ∙ in_any (λ b. eqb a.pair b.pair) i (eq-eqb a.pair a.pair refl))
      in
      reader_hit a.pair r its x.0 x.1 x.2
    where
      in_unit : (k l n : ℕ) → k ≡ l → n < length (unit_at k units).values → n < length (unit_at l units).values
      in_unit k l n e h = rw e at h

  if_wakes : wakes query given w ≡ true → hit zs (slot_of atlas w) ≡ true
  unfolding wakes of
  if_wakes h =
      let its = eqb-true w.goal.query query (and_left (eqb w.goal.query query) (any (λ a. among a.pair w.readers) given) h) in
      let a = any_in (λ a. among a.pair w.readers) given
      (and_right (eqb w.goal.query query) (any (λ a. among a.pair w.readers) given) h)
      in
      assigned_hit a.0 a.1 (among_in a.0.pair w.readers a.2) its

  pub hit_wakes : hit zs (slot_of atlas w) ≡ wakes query given w
  hit_wakes = same_answer (hit zs (slot_of atlas w)) (wakes query given w) if_hit if_wakes
