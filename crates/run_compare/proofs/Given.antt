-- Reading the trial's region: the entries stand in order, and the word of a head's writer is what it is assigned; the values after the trial are
-- those of the entries assigned over those that the head's writers were given.
use Prim.Native.Nat.{ℕ, ◌+◌, ◌≤◌, ◌<◌}
use mathlib.Core.Path.{◌≡◌, refl, sym, ap, ◌∙◌}
use mathlib.Core.Bool.{Bool, true, false, ◌||◌}
use mathlib.Core.List.{List, [], ◌∷◌}
use mathlib.Core.Option.{Option, none, some}
use native.Mathlib.Omega.{arith}
use lib.Dec.{eqb}
use lib.ListN.{length, get_or, set, replicate, length-set, length-append, length-replicate, get_or-replicate}
use lib.Seq.{get_or-set_same, get_or-set_other, get_or-append-add}
use borrow.Author.Tests.{eqb-true, eqb-false}
use Rattle.meaning.specs.Bytes.{any, when◌then◌else◌}
use Rattle.meaning.specs.Terms.{Term, Named, Clause, renamed}
use Rattle.meaning.specs.State.{Values, value, QueryUnit}
use Rattle.meaning.specs.Trial.{with_pairs, assigned, next_pair, compared}
use Rattle.laws.proofs.Lists.Tests.{eqb_raised}
use Rattle.term.specs.Cells.{Places, term_word}
use Rattle.term.specs.Holds.{value_word}
use Rattle.term.specs.Setting.{Setting}
use Rattle.term.specs.Layout.{trial_region, gifts_part, gift_pair, gift_term, woken_part}
use Rattle.run_table.specs.Rows.{head_written, goal_written}
use Rattle.run_compare.specs.Gifts.{Gift, to_head, to_goal, assignments, entries, recorded, entries_of, EntriesAt, renamed_entries, head_gift}
use Rattle.run_compare.specs.Compare.{Template, item, AllGiven, AllEntries, Gave, places_outcome}

pub entries_length : (gs : List Gift) → length (entries_of gs) ≡ entries gs
unfolding entries entries_of
entries_length [] = refl
entries_length (to_head n u ∷ gs) = entries_length gs
entries_length (to_goal z t ∷ gs) = omega (arith, entries_length gs)

module _ (item unit : Places) where
  -- Gifts to come leave the entries before them as they are, and head's words that they do not give.
  recorded_below : (gs : List Gift) (s : List ℕ) (x : Setting) (y : Template) (lo hi : ℕ) (n k : ℕ) (s₀ : List ℕ) → y.pairs ≤ 16 → AllGiven s₀ x y lo hi gs
      → gifts_part ≤ k → k < gift_pair n → get_or (recorded item unit n gs s) k 0 ≡ get_or s k 0
  unfolding recorded AllGiven
  recorded_below [] s x y lo hi n k s₀ few g low h = refl
  recorded_below (to_head a u ∷ gs) s x y lo hi n k s₀ few g low h =
      recorded_below gs (head_written a (term_word unit u) s) x y lo hi n k s₀ few g.1 low h
      ∙ get_or-set_other s (trial_region + a) k (term_word unit u) 0 (λ e. omega (arith, g.0.0))
  recorded_below (to_goal z t ∷ gs) s x y lo hi n k s₀ few g low h =
      let mid = set s (gift_pair n) (unit.pair z) in
      recorded_below gs (goal_written n (unit.pair z) (term_word item t) s) x y g.2 hi (n + 1) k s₀ few g.5 low (omega arith)
      ∙ get_or-set_other mid (gift_term n) k (term_word item t) 0 (λ e. omega arith)
      ∙ get_or-set_other s (gift_pair n) k (unit.pair z) 0 (λ e. omega arith)

  -- The entries stand in order.
  pub entries_at : (gs : List Gift) (s : List ℕ) (x : Setting) (y : Template) (lo hi : ℕ) (n : ℕ) (s₀ : List ℕ) → y.pairs ≤ 16 → AllGiven s₀ x y lo hi gs
      → woken_part ≤ length s → n + entries gs ≤ 192 → EntriesAt (recorded item unit n gs s) item unit n (entries_of gs)
  unfolding recorded AllGiven entries entries_of EntriesAt
  entries_at [] s x y lo hi n s₀ few g large room = tt
  entries_at (to_head a u ∷ gs) s x y lo hi n s₀ few g large room =
      entries_at gs (head_written a (term_word unit u) s) x y lo hi n s₀ few g.1
      (omega (arith, length-set s (trial_region + a) (term_word unit u))) room
  entries_at (to_goal z t ∷ gs) s x y lo hi n s₀ few g large room =
      let p = unit.pair z in
      let w = term_word item t in
      let mid = set s (gift_pair n) p in
      let after = goal_written n p w s in
      let long : length mid ≡ length s = length-set s (gift_pair n) p in
      let longer : length after ≡ length mid = length-set mid (gift_term n) w in (
        recorded_below gs after x y g.2 hi (n + 1) (gift_pair n) s₀ few g.5 (omega arith) (omega arith)
            ∙ get_or-set_other mid (gift_term n) (gift_pair n) w 0 (λ e. omega arith)
            ∙ get_or-set_same s (gift_pair n) p 0 (omega arith),
        recorded_below gs after x y g.2 hi (n + 1) (gift_term n) s₀ few g.5 (omega arith) (omega arith)
            ∙ get_or-set_same mid (gift_term n) w 0 (omega arith),
        entries_at gs after x y g.2 hi (n + 1) s₀ few g.5 (omega arith) (omega arith),
      )

  one_head : (s : List ℕ) (a n : ℕ) (u : Term) (o : Option Term) → a < 16 → n < 16 → woken_part ≤ length s
      → get_or s (trial_region + a) 0 ≡ value_word unit o
      → get_or (head_written n (term_word unit u) s) (trial_region + a) 0 ≡ value_word unit (when eqb a n then some u else o)
  unfolding when◌then◌else◌
  one_head s a n u o small few large e = go (eqb a n) refl
    where
      go : (b : Bool) → eqb a n ≡ b → get_or (head_written n (term_word unit u) s) (trial_region + a) 0 ≡ value_word unit (when b then some u else o)
      go true q =
          let same : a ≡ n = eqb-true a n q in
          rw same (get_or-set_same s (trial_region + n) (term_word unit u) 0 (omega arith))
      go false q =
          get_or-set_other s (trial_region + n) (trial_region + a) (term_word unit u) 0 (λ k. eqb-false a n q (omega arith)) ∙ e

  -- The word of a head's writer.
  pub head_word_at : (gs : List Gift) (s : List ℕ) (x : Setting) (y : Template) (lo hi : ℕ) (n a : ℕ) (o : Option Term) (s₀ : List ℕ) → y.pairs ≤ 16
      → AllGiven s₀ x y lo hi gs → woken_part ≤ length s → a < 16 → get_or s (trial_region + a) 0 ≡ value_word unit o
      → get_or (recorded item unit n gs s) (trial_region + a) 0 ≡ value_word unit (head_gift gs a o)
  unfolding recorded AllGiven head_gift
  head_word_at [] s x y lo hi n a o s₀ few g large small e = e
  head_word_at (to_head b u ∷ gs) s x y lo hi n a o s₀ few g large small e =
      head_word_at gs (head_written b (term_word unit u) s) x y lo hi n a (when eqb a b then some u else o) s₀ few g.1
      (omega (arith, length-set s (trial_region + b) (term_word unit u))) small
      (one_head s a b u o small (omega (arith, g.0.0)) large e)
  head_word_at (to_goal z t ∷ gs) s x y lo hi n a o s₀ few g large small e =
      let p = unit.pair z in
      let w = term_word item t in
      let mid = set s (gift_pair n) p in
      head_word_at gs (goal_written n p w s) x y g.2 hi (n + 1) a o s₀ few g.5
      (omega (arith, length-set mid (gift_term n) w, length-set s (gift_pair n) p)) small
      (get_or-set_other mid (gift_term n) (trial_region + a) w 0 (λ k. omega arith)
      ∙ get_or-set_other s (gift_pair n) (trial_region + a) p 0 (λ k. omega arith)
      ∙ e)

not_eqb : (a b : ℕ) → (a ≡ b → ⊥) → eqb a b ≡ false
not_eqb a b h = go (eqb a b) refl
  where
    go : (t : Bool) → eqb a b ≡ t → t ≡ false
    go true e = absurd (h (eqb-true a b e))
    go false e = refl

set_value : (vs : Values) (i z : ℕ) (t : Term) → i < length vs → value (set vs i (some t)) z ≡ (when eqb z i then some t else value vs z)
unfolding value when◌then◌else◌
set_value vs i z t h = go (eqb z i) refl
  where
    go : (b : Bool) → eqb z i ≡ b → get_or (set vs i (some t)) z none ≡ (when b then some t else get_or vs z none)
    go true q =
        let same : z ≡ i = eqb-true z i q in
        rw same (get_or-set_same vs i (some t) none h)
    go false q = get_or-set_other vs i z (some t) none (λ k. eqb-false z i q k)

other_value : (vs : Values) (i z : ℕ) (t : Term) → (z ≡ i → ⊥) → value (set vs i (some t)) z ≡ value vs z
unfolding value
other_value vs i z t h = get_or-set_other vs i z (some t) none h

module _ (p c : ℕ) where
  -- The value of one of the clause's pairs.
  pub head_value : (gs : List Gift) (vs : Values) (a : ℕ) (s₀ : List ℕ) (x : Setting) (y : Template) (lo hi : ℕ) → AllGiven s₀ x y lo hi gs
      → p ≡ length x.values → p + y.pairs ≤ length vs
      → value (assigned (assignments p c gs) vs) (p + a) ≡ head_gift gs a (value vs (p + a))
  unfolding assigned assignments head_gift AllGiven
  head_value [] vs a s₀ x y lo hi g e long = refl
  head_value (to_head n u ∷ gs) vs a s₀ x y lo hi g e long =
      let next = set vs (p + n) (some u) in
      head_value gs next a s₀ x y lo hi g.1 e (omega (arith, length-set vs (p + n) (some u)))
      ∙ ap (head_gift gs a) (set_value vs (p + n) (p + a) u (omega (arith, g.0.0)) ∙ ap (λ b. when b then some u else value vs (p + a)) (eqb_raised p a n))
  head_value (to_goal z t ∷ gs) vs a s₀ x y lo hi g e long =
      let next = set vs z (some (renamed p c t)) in
      head_value gs next a s₀ x y g.2 hi g.5 e (omega (arith, length-set vs z (some (renamed p c t))))
      ∙ ap (head_gift gs a) (other_value vs z (p + a) (renamed p c t) (λ k. omega (arith, g.0)))

  -- The values of the unit's own pairs are those of the entries.
  pub entry_values : (gs : List Gift) (vs ws : Values) (s₀ : List ℕ) (x : Setting) (y : Template) (lo hi : ℕ) → AllGiven s₀ x y lo hi gs
      → p ≡ length x.values → p ≤ length vs → p ≤ length ws
      → ((z : ℕ) → z < p → value vs z ≡ value ws z)
      → (z : ℕ) → z < p
      → value (assigned (assignments p c gs) vs) z ≡ value (assigned (renamed_entries p c (entries_of gs)) ws) z
  unfolding assigned assignments entries_of renamed_entries AllGiven
  entry_values [] vs ws s₀ x y lo hi g e long wide alike z h = alike z h
  entry_values (to_head n u ∷ gs) vs ws s₀ x y lo hi g e long wide alike z h =
      entry_values gs (set vs (p + n) (some u)) ws s₀ x y lo hi g.1 e (omega (arith, length-set vs (p + n) (some u))) wide
      (λ i q. other_value vs (p + n) i u (λ k. omega arith) ∙ alike i q) z h
  entry_values (to_goal j t ∷ gs) vs ws s₀ x y lo hi g e long wide alike z h =
      let v = renamed p c t in
      entry_values gs (set vs j (some v)) (set ws j (some v)) s₀ x y g.2 hi g.5 e
      (omega (arith, length-set vs j (some v)))
      (omega (arith, length-set ws j (some v)))
      (λ i q.
      set_value vs j i v (omega (arith, g.0)) ∙ ap (λ o. when eqb i j then some v else o) (alike i q)
      ∙ sym (set_value ws j i v (omega (arith, g.0))))
      z h

-- Of the unit's own pairs those of the entries and no other are assigned.
entry_pairs : (p c : ℕ) (gs : List Gift) (s : List ℕ) (x : Setting) (y : Template) (lo hi : ℕ) → AllGiven s x y lo hi gs → (z : ℕ) → z < p
    → any (λ a. eqb z a.pair) (assignments p c gs) ≡ any (λ e. eqb z e.pair) (entries_of gs)
unfolding any assignments entries_of AllGiven
entry_pairs p c [] s x y lo hi g z h = refl
entry_pairs p c (to_head n u ∷ gs) s x y lo hi g z h =
    let other : eqb z (p + n) ≡ false = not_eqb z (p + n) (λ e. omega arith) in
    rw other (entry_pairs p c gs s x y lo hi g.1 z h)
entry_pairs p c (to_goal j t ∷ gs) s x y lo hi g z h = ap (λ b. eqb z j || b) (entry_pairs p c gs s x y g.2 hi g.5 z h)

pub entries_held : (gs : List Gift) (s : List ℕ) (x : Setting) (y : Template) (lo hi : ℕ) → AllGiven s x y lo hi gs → AllEntries s x y lo hi (entries_of gs)
unfolding AllGiven AllEntries entries_of
entries_held [] s x y lo hi g = g
entries_held (to_head n u ∷ gs) s x y lo hi g = entries_held gs s x y lo hi g.1
entries_held (to_goal z t ∷ gs) s x y lo hi g = (g.0, g.1, g.2, g.3, g.4, entries_held gs s x y g.2 hi g.5)

-- What a trial gave that waits on no reader can be read from its region, where the clause's words were 0 before it. Its highest number is that of the
-- head's terms compared.
pub gave : (s s' : List ℕ) (x : Setting) (y : Template) (lo hi : ℕ) (gs : List Gift) (m : ℕ) → AllGiven s x y lo hi gs
    → s' ≡ recorded (item x y) x.places 0 gs s → m ≡ entries gs
    → woken_part ≤ length s → m ≤ 192 → y.pairs ≤ 16 → ((a : ℕ) → a < y.pairs → get_or s (trial_region + a) 0 ≡ 0)
    → (g : Gave s s' x y (assignments (length x.values) x.compounds gs) m) × (g.high ≡ hi)
unfolding with_pairs value
gave s s' x y lo hi gs m held scratch counted large room few cleared = (
  record {
    gifts = gs;
    given_are = refl;
    low = lo;
    high = hi;
    gifts_held = held;
    list = entries_of gs;
    list_is = refl;
    size = entries_length gs ∙ sym counted;
    stand = rw scratch (entries_at (item x y) x.places gs s x y lo hi 0 s few held large (omega arith));
    held = entries_held gs s x y lo hi held;
    unit_values = λ z h.
        entry_values p x.compounds gs base base s x y lo hi held refl (omega (arith, long)) (omega (arith, long)) (λ i q. refl) z h;
    clause_values = λ a h.
        rw scratch
        (head_word_at (item x y) x.places gs s x y lo hi 0 a none s few held large (omega arith) (cleared a h)
        ∙ ap (λ o. value_word x.places (head_gift gs a o)) (sym (free a h))
        ∙ ap (value_word x.places) (sym (head_value p x.compounds gs base a s x y lo hi held refl (omega (arith, long)))));
    pairs_are = λ z h. entry_pairs p x.compounds gs s x y lo hi held z h;
  },
  refl,
)
  where
    p : ℕ
    p = length x.values

    base : Values
    base = with_pairs y.pairs x.values

    long : length base ≡ p + y.pairs
    long = length-append x.values (replicate y.pairs none) ∙ ap (λ n. p + n) (length-replicate y.pairs none)

    free : (a : ℕ) → a < y.pairs → value base (p + a) ≡ none
    free a h = get_or-append-add x.values (replicate y.pairs none) a none ∙ get_or-replicate y.pairs a none none h

-- A trial's comparison is the table on the arguments of the head and the goal, over as many links as the unit has pairs.
pub compared_outcome : (clause : Clause) (unit : QueryUnit) (goal : Named) (x : Setting) → x.values ≡ unit.values → x.compounds ≡ unit.compounds
    → compared clause unit goal ≡ places_outcome x (length unit.values) clause.head.arguments goal.arguments
unfolding compared next_pair
compared_outcome clause unit goal x v c = rw (v, c)
