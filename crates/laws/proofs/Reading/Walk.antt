-- The least fault of an item is the first token in text order at which a rule is broken: one walk finds it, with what was seen so far.
-- Up to each token no fault lies behind; a half seen before is there a second time, and one whose other half is nowhere in the item is alone.
use Prim.Native.Nat.{ℕ, ◌+◌, ◌≤◌}
use mathlib.Core.Path.{◌≡◌, refl, sym, ◌∙◌}
use mathlib.Core.Logic.{◌⊎◌, inl, inr}
use mathlib.Core.Bool.{Bool, true, false, ◌&&◌, ◌||◌}
use mathlib.Core.List.{List, [], ◌∷◌, ◌++◌, append_assoc}
use mathlib.Core.Option.{Option, none, some}
use native.Mathlib.Omega.{arith}
use Rattle.meaning.specs.Bytes.{Bytes, same, when◌then◌else◌}
use Rattle.meaning.specs.Terms.{Half, writer, reader, same_half}
use Rattle.meaning.specs.Tokens.{Token, name, variable, integer, sign, bad, Tokens, ends, token, is}
use Rattle.meaning.specs.Faults.{Broken, twice, Fault, is_half, occurs_at, up_to_implied, head_tokens, least}
use Rattle.laws.proofs.Lists.{In, here, there, in_none, in_single, in_append_cases, in_append_left, in_append_right, and_left, and_right, false_not_true, same_refl}
use Rattle.laws.proofs.Reading.Faultless.{least_none}
use Rattle.laws.proofs.Reading.Rising.{Rising, occurs_behind, half_is}
use Rattle.laws.proofs.Reading.Pairing.{head_among}
use Rattle.laws.proofs.Reading.Broken.{other, alone, pardoned, judged_in, TwiceAt, AloneAt, FaultOf, fault_occurs, one_fault_at, least_is}

-- Which halves of which variables were seen so far.
abbrev pub Seen : Type 0
Seen = Half → Bytes → Bool

unfoldable pub with_seen : Token → Seen → Seen
with_seen t seen h x = is_half h x t || seen h x

unfoldable pub nowhere : List ℕ → Bool
nowhere [] = true
nowhere (p ∷ ps) = false

-- The rule that this token breaks, if any: of a query 5 alone; of a reader that is free 5 only in the head, before the `:-`.
unfoldable pub broken_by : Bool → (Bytes → Bool) → Tokens → Bool → Seen → Token → Option Broken
broken_by both free piece implied seen (name f) = none
broken_by both free piece implied seen (variable h x) =
    when seen h x then (when implied && pardoned free h x then none else some twice)
    else when both && nowhere (occurs_at (other h) x piece) then some (alone h) else none
broken_by both free piece implied seen (integer i) = none
broken_by both free piece implied seen (sign b) = none
broken_by both free piece implied seen bad = none

unfoldable pub here_or : ℕ → Option Broken → Option Fault → Option Fault
here_or place none later = later
here_or place (some b) later = some (record { rule = b; offset = place })

-- The first fault from these tokens of an item on, before or behind its `:-`.
unfoldable pub first_from : Bool → (Bytes → Bool) → Tokens → Bool → Seen → Tokens → Option Fault
first_from both free piece implied seen (ends place) = none
first_from both free piece implied seen (token place t rest) =
    here_or place (broken_by both free piece implied seen t) (first_from both free piece (implied || is ":" t) (with_seen t seen) rest)

-- Of a clause (both) whose readers are free so, over the tokens that count for the pairing; of a query (not both) no reader is free.
unfoldable pub first_fault : Bool → (Bytes → Bool) → Tokens → Option Fault
first_fault both free piece = first_from both free piece false (λ h x. false) piece

unfoldable some_of : List ℕ → Bool
some_of [] = false
some_of (p ∷ ps) = true

some_of_last : (l : List ℕ) (p : ℕ) → some_of (l ++ (p ∷ [])) ≡ true
unfolding some_of
some_of_last [] p = refl
some_of_last (q ∷ l) p = refl

or_false_left : (a b : Bool) → (a || b) ≡ false → a ≡ false
or_false_left true b e = e
or_false_left false b e = refl

or_false_right : (a b : Bool) → (a || b) ≡ false → b ≡ false
or_false_right true b e = absurd (false_not_true true e refl)
or_false_right false b e = e

module _ (both : Bool) (free : Bytes → Bool) (piece : Tokens) (xs : List Bytes)
    (known : (h : Half) (x : Bytes) (p : ℕ) → In p (occurs_at h x piece) → In x xs) where
  -- What is known when a token is reached: where each half occurred before, and that no fault is there; behind the `:-` that the head lies before.
  record Before (implied : Bool) (seen : Seen) (s : Tokens) : Type 0 where
    earlier : Half → Bytes → List ℕ
    splits : (h : Half) (x : Bytes) → occurs_at h x piece ≡ earlier h x ++ occurs_at h x s
    in_head : implied ≡ false → (h : Half) (x : Bytes) → occurs_at h x (head_tokens piece) ≡ earlier h x ++ occurs_at h x (head_tokens s)
    head_passed : implied ≡ true → (h : Half) (x : Bytes) (p : ℕ) → In p (occurs_at h x (head_tokens piece)) → In p (earlier h x)
    seen_is : (h : Half) (x : Bytes) → seen h x ≡ some_of (earlier h x)
    clean : (f : Fault) (o : FaultOf both free piece xs f) → In f.offset (earlier o.half o.spelling) → ⊥

  -- What the walk finds.
  unfoldable Finds : Option Fault → Type 0
  Finds none = (f : Fault) → FaultOf both free piece xs f → ⊥
  Finds (some f) = FaultOf both free piece xs f × ((g : Fault) → FaultOf both free piece xs g → f.offset ≤ g.offset)

  -- Every fault lies at or behind the token that is reached.
  ahead : (implied : Bool) (seen : Seen) (s : Tokens) → Before implied seen s
      → (f : Fault) (o : FaultOf both free piece xs f) → In f.offset (occurs_at o.half o.spelling s)
  ahead implied seen s b f o =
      go (in_append_cases (b.earlier o.half o.spelling) (rw (b.splits o.half o.spelling) at (fault_occurs both free piece xs f o)))
    where
      go : In f.offset (b.earlier o.half o.spelling) ⊎ In f.offset (occurs_at o.half o.spelling s) → In f.offset (occurs_at o.half o.spelling s)
      go (inl m) = absurd (b.clean f o m)
      go (inr m) = m

  module _ (place : ℕ) (t : Token) (rest : Tokens) (rising : Rising (place + 1) rest) (implied : Bool) (seen : Seen) (b : Before implied seen (token place t rest)) where
    found : (r : Broken) → FaultOf both free piece xs (record { rule = r; offset = place }) → Finds (some (record { rule = r; offset = place }))
    unfolding Finds Rising
    found r o = (o, λ g p. occurs_behind p.half p.spelling place g.offset (token place t rest) (omega arith, rising) (ahead implied seen (token place t rest) b g p))

    -- The token is no half of a variable; it may be the `:-`.
    passed_by : ((h : Half) (x : Bytes) → is_half h x t ≡ false) → Before (implied || is ":" t) (with_seen t seen) rest
    unfolding occurs_at when◌then◌else◌ with_seen head_tokens up_to_implied
    passed_by none_here =
        record {
          earlier = b.earlier;
          splits = λ h x. rw (none_here h x) at (b.splits h x);
          in_head = λ e h x. rw (none_here h x, or_false_right implied (is ":" t) e) at (b.in_head (or_false_left implied (is ":" t) e) h x);
          head_passed = λ e. passed_now implied refl e;
          seen_is = λ h x. rw (none_here h x) (b.seen_is h x);
          clean = b.clean;
        }
      where
        passed_now : (i : Bool) → implied ≡ i → (implied || is ":" t) ≡ true → (h : Half) (x : Bytes) (p : ℕ) → In p (occurs_at h x (head_tokens piece)) → In p (b.earlier h x)
        passed_now true i e h x p m = b.head_passed i h x p m
        passed_now false i e h x p m =
            let neck : is ":" t ≡ true = rw i at e in
            let all : occurs_at h x (head_tokens piece) ≡ b.earlier h x ++ [] = rw (none_here h x, neck) at (b.in_head i h x) in
            in_either (in_append_cases (b.earlier h x) (rw all at m))
          where
            in_either : In p (b.earlier h x) ⊎ In p [] → In p (b.earlier h x)
            in_either (inl j) = j
            in_either (inr j) = absurd (in_none j)

  module _ (place : ℕ) (h : Half) (x : Bytes) (rest : Tokens) (rising : Rising (place + 1) rest) (implied : Bool) (seen : Seen)
      (b : Before implied seen (token place (variable h x) rest)) where
    itself : is_half h x (variable h x) ≡ true
    unfolding is_half same_half
    itself = go h
      where
        go : (h : Half) → same_half h h && same x x ≡ true
        go writer = same_refl x
        go reader = same_refl x

    places_are : occurs_at h x piece ≡ b.earlier h x ++ (place ∷ occurs_at h x rest)
    unfolding occurs_at when◌then◌else◌
    places_are = rw itself at (b.splits h x)

    its : In x xs
    its = known h x place (rw places_are (in_append_right (b.earlier h x) (here refl)))

    -- Unless it is pardoned here, its place is the next among those by which it is judged.
    judged_here : (implied && pardoned free h x) ≡ false
        → (others : List ℕ) × (occurs_at h x (judged_in free h x piece) ≡ b.earlier h x ++ (place ∷ others)) × ((p : ℕ) → In p others → place + 1 ≤ p)
    unfolding judged_in when◌then◌else◌ occurs_at head_tokens up_to_implied is
    judged_here e = go (pardoned free h x) refl implied refl
      where
        go : (pardon : Bool) → pardoned free h x ≡ pardon → (i : Bool) → implied ≡ i
            → (others : List ℕ) × (occurs_at h x (judged_in free h x piece) ≡ b.earlier h x ++ (place ∷ others)) × ((p : ℕ) → In p others → place + 1 ≤ p)
        go false q i r = (occurs_at h x rest, rw q places_are, λ p m. occurs_behind h x (place + 1) p rest rising m)
        go true q false r =
            (occurs_at h x (head_tokens rest), rw q (rw itself at (b.in_head r h x)), λ p m. occurs_behind h x (place + 1) p rest rising (head_among h x rest p m))
        go true q true r = let e' : ◌≡◌ {A = Bool} true false = rw (q, r) at e in absurd (false_not_true true e' refl)

    second_time : seen h x ≡ true → (implied && pardoned free h x) ≡ false → FaultOf both free piece xs (record { rule = twice; offset = place })
    unfolding some_of
    second_time e strict = let (others, all, later) = judged_here strict in go others all (b.earlier h x) refl (sym (b.seen_is h x) ∙ e)
      where
        go : (others : List ℕ) → occurs_at h x (judged_in free h x piece) ≡ b.earlier h x ++ (place ∷ others)
            → (l : List ℕ) → b.earlier h x ≡ l → some_of l ≡ true → FaultOf both free piece xs (record { rule = twice; offset = place })
        go others all [] p q = absurd (false_not_true false refl q)
        go others all (first ∷ []) p q =
            record {
              half = h;
              spelling = x;
              its_variable = its;
              shown = inl (record { rule_is = refl; first = first; others = others; places = all ∙ rw p refl });
            }
        go others all (first ∷ second ∷ more) p q =
            let earlier_fault : FaultOf both free piece xs (record { rule = twice; offset = second }) = record {
              half = h;
              spelling = x;
              its_variable = its;
              shown = inl (record { rule_is = refl; first = first; others = more ++ (place ∷ others); places = all ∙ rw p refl });
            } in
            absurd (b.clean (record { rule = twice; offset = second }) earlier_fault (rw p (there (here refl))))

    -- Behind the `:-` no reader that is free is there twice: the head's places lie before.
    pardoned_here : (implied && pardoned free h x) ≡ true → (f : Fault) → TwiceAt (judged_in free h x piece) h x f → In f.offset (b.earlier h x)
    unfolding judged_in when◌then◌else◌
    pardoned_here e f t =
        let in_head : TwiceAt (head_tokens piece) h x f = rw (and_right implied (pardoned free h x) e) at t in
        b.head_passed (and_left implied (pardoned free h x) e) h x f.offset (rw in_head.places (there (here refl)))

    -- Where no fault is at this place, the walk goes on.
    onward : ((f : Fault) (o : FaultOf both free piece xs f) → o.half ≡ h → o.spelling ≡ x → f.offset ≡ place → ⊥)
        → Before (implied || is ":" (variable h x)) (with_seen (variable h x) seen) rest
    unfolding occurs_at when◌then◌else◌ with_seen head_tokens up_to_implied is
    onward unbroken =
        record {
          earlier = now;
          splits = λ k y. split_so piece rest b.splits k y (is_half k y (variable h x)) refl;
          in_head = λ e k y. split_so (head_tokens piece) (head_tokens rest) (b.in_head (or_false_left implied false e)) k y (is_half k y (variable h x)) refl;
          head_passed = λ e k y p m. passed_so k y p (b.head_passed (before_this implied e) k y p m) (is_half k y (variable h x)) refl;
          seen_is = λ k y. seen_so k y (is_half k y (variable h x)) refl;
          clean = clean_so;
        }
      where
        now : Half → Bytes → List ℕ
        now k y = when is_half k y (variable h x) then b.earlier k y ++ (place ∷ []) else b.earlier k y

        before_this : (i : Bool) → (i || false) ≡ true → i ≡ true
        before_this true e = refl
        before_this false e = e

        split_so : (all left : Tokens) → ((k : Half) (y : Bytes) → occurs_at k y all ≡ b.earlier k y ++ occurs_at k y (token place (variable h x) left))
            → (k : Half) (y : Bytes) (c : Bool) → is_half k y (variable h x) ≡ c
            → occurs_at k y all ≡ (when is_half k y (variable h x) then b.earlier k y ++ (place ∷ []) else b.earlier k y) ++ occurs_at k y left
        split_so all left split k y true q = rw (q, append_assoc (b.earlier k y) (place ∷ []) (occurs_at k y left)) (rw q at (split k y))
        split_so all left split k y false q = rw q (rw q at (split k y))

        passed_so : (k : Half) (y : Bytes) (p : ℕ) → In p (b.earlier k y) → (c : Bool) → is_half k y (variable h x) ≡ c
            → In p (when is_half k y (variable h x) then b.earlier k y ++ (place ∷ []) else b.earlier k y)
        passed_so k y p m true q = rw q (in_append_left (place ∷ []) m)
        passed_so k y p m false q = rw q m

        seen_so : (k : Half) (y : Bytes) (c : Bool) → is_half k y (variable h x) ≡ c
            → (is_half k y (variable h x) || seen k y) ≡ some_of (when is_half k y (variable h x) then b.earlier k y ++ (place ∷ []) else b.earlier k y)
        seen_so k y true q = rw q (sym (some_of_last (b.earlier k y) place))
        seen_so k y false q = rw q (b.seen_is k y)

        clean_so : (f : Fault) (o : FaultOf both free piece xs f)
            → In f.offset (when is_half o.half o.spelling (variable h x) then b.earlier o.half o.spelling ++ (place ∷ []) else b.earlier o.half o.spelling) → ⊥
        clean_so f o m = by (is_half o.half o.spelling (variable h x)) refl
          where
            by : (c : Bool) → is_half o.half o.spelling (variable h x) ≡ c → ⊥
            by true q = at_last (in_append_cases (b.earlier o.half o.spelling) (rw q at m))
              where
                at_last : In f.offset (b.earlier o.half o.spelling) ⊎ In f.offset (place ∷ []) → ⊥
                at_last (inl i) = b.clean f o i
                at_last (inr i) =
                    let t_is : variable h x ≡ variable o.half o.spelling = half_is o.half o.spelling (variable h x) q in
                    unbroken f o (cc) (cc) (in_single i)
            by false q = b.clean f o (rw q at m)

    -- It was seen, and is pardoned here.
    seen_and_pardoned : seen h x ≡ true → (implied && pardoned free h x) ≡ true → (f : Fault) (o : FaultOf both free piece xs f) → o.half ≡ h → o.spelling ≡ x → f.offset ≡ place → ⊥
    unfolding some_of
    seen_and_pardoned e pardon f o h_is x_is p = b.clean f o (rw (h_is, x_is) (go (rw (h_is, x_is) at o.shown)))
      where
        first_earlier : (l : List ℕ) → b.earlier h x ≡ l → some_of l ≡ true → AloneAt piece h x f → In f.offset (b.earlier h x)
        first_earlier [] q s a = absurd (false_not_true false refl s)
        first_earlier (first ∷ l) q s a =
            let all : first ∷ (l ++ (place ∷ occurs_at h x rest)) ≡ f.offset ∷ a.others = sym (places_are ∙ rw q refl) ∙ a.places in
            let first_is : f.offset ≡ first = cc in
            rw q (here first_is)

        go : TwiceAt (judged_in free h x piece) h x f ⊎ ((both ≡ true) × AloneAt piece h x f) → In f.offset (b.earlier h x)
        go (inl t) = pardoned_here pardon f t
        go (inr (q, a)) = first_earlier (b.earlier h x) refl (sym (b.seen_is h x) ∙ e) a

    module _ (unseen : seen h x ≡ false) where
      none_earlier : b.earlier h x ≡ []
      unfolding some_of
      none_earlier = go (b.earlier h x) (sym (b.seen_is h x) ∙ unseen)
        where
          go : (l : List ℕ) → some_of l ≡ false → l ≡ []
          go [] q = refl
          go (p ∷ l) q = absurd (false_not_true true q refl)

      first_place : occurs_at h x piece ≡ place ∷ occurs_at h x rest
      first_place = places_are ∙ rw none_earlier refl

      lone : (both && nowhere (occurs_at (other h) x piece)) ≡ true → FaultOf both free piece xs (record { rule = alone h; offset = place })
      unfolding nowhere
      lone e =
          record {
            half = h;
            spelling = x;
            its_variable = its;
            shown = inr (
              and_left both (nowhere (occurs_at (other h) x piece)) e,
              record { rule_is = refl; others = occurs_at h x rest; places = first_place; missing = go (occurs_at (other h) x piece) (and_right both (nowhere (occurs_at (other h) x piece)) e) },
            );
          }
        where
          go : (l : List ℕ) → nowhere l ≡ true → l ≡ []
          go [] q = refl
          go (p ∷ l) q = absurd (false_not_true false refl q)

      -- No rule is broken here: it is neither seen before nor alone.
      not_twice : (f : Fault) → f.offset ≡ place → (o : FaultOf both free piece xs f) → o.half ≡ h → o.spelling ≡ x → TwiceAt (judged_in free h x piece) h x f → ⊥
      not_twice f p o h_is x_is t = go (implied && pardoned free h x) refl
        where
          go : (pardon : Bool) → (implied && pardoned free h x) ≡ pardon → ⊥
          go true e = b.clean f o (rw (h_is, x_is) (pardoned_here e f t))
          go false e =
              let (others, all, later) = judged_here e in
              let l : place ∷ others ≡ t.first ∷ f.offset ∷ t.others = sym (all ∙ rw none_earlier refl) ∙ t.places in
              let others_are : others ≡ f.offset ∷ t.others = cc in
              omega (arith, later f.offset (rw others_are (here refl)))

      unbroken : (both && nowhere (occurs_at (other h) x piece)) ≡ false → (f : Fault) (o : FaultOf both free piece xs f) → o.half ≡ h → o.spelling ≡ x → f.offset ≡ place → ⊥
      unfolding nowhere
      unbroken e f o h_is x_is p = go (rw (h_is, x_is) at o.shown)
        where
          go : TwiceAt (judged_in free h x piece) h x f ⊎ ((both ≡ true) × AloneAt piece h x f) → ⊥
          go (inl t) = not_twice f p o h_is x_is t
          go (inr (q, a)) = false_not_true (both && nowhere (occurs_at (other h) x piece)) e (rw (q, a.missing) refl)

  finds : (low : ℕ) (s : Tokens) → Rising low s → (implied : Bool) (seen : Seen) → Before implied seen s → Finds (first_from both free piece implied seen s)
  unfolding Finds Rising first_from broken_by here_or is_half when◌then◌else◌ occurs_at
  finds low (ends place) r implied seen b = λ f o. in_none (ahead implied seen (ends place) b f o)
  finds low (token place (name f) rest) r implied seen b =
      finds (place + 1) rest r.1 (implied || is ":" (name f)) (with_seen (name f) seen) (passed_by place (name f) rest r.1 implied seen b (λ h x. refl))
  finds low (token place (variable h x) rest) r implied seen b =
      go (seen h x) refl (implied && pardoned free h x) refl (both && nowhere (occurs_at (other h) x piece)) refl
      (λ c. finds (place + 1) rest r.1 (implied || is ":" (variable h x)) (with_seen (variable h x) seen) c)
    where
      go : (was : Bool) → seen h x ≡ was → (pardon : Bool) → (implied && pardoned free h x) ≡ pardon
          → (broken : Bool) → (both && nowhere (occurs_at (other h) x piece)) ≡ broken
          → (Before (implied || is ":" (variable h x)) (with_seen (variable h x) seen) rest
          → Finds (first_from both free piece (implied || is ":" (variable h x)) (with_seen (variable h x) seen) rest))
          → Finds (here_or place (when was then (when pardon then none else some twice) else when broken then some (alone h) else none)
          (first_from both free piece (implied || is ":" (variable h x)) (with_seen (variable h x) seen) rest))
      go true e true p broken e' further =
          further (onward place h x rest r.1 implied seen b (seen_and_pardoned place h x rest r.1 implied seen b e p))
      go true e false p broken e' further =
          found place (variable h x) rest r.1 implied seen b twice (second_time place h x rest r.1 implied seen b e p)
      go false e pardon p true e' further = found place (variable h x) rest r.1 implied seen b (alone h) (lone place h x rest r.1 implied seen b e e')
      go false e pardon p false e' further = further (onward place h x rest r.1 implied seen b (unbroken place h x rest r.1 implied seen b e e'))
  finds low (token place (integer i) rest) r implied seen b =
      finds (place + 1) rest r.1 (implied || is ":" (integer i)) (with_seen (integer i) seen) (passed_by place (integer i) rest r.1 implied seen b (λ h x. refl))
  finds low (token place (sign c) rest) r implied seen b =
      finds (place + 1) rest r.1 (implied || is ":" (sign c)) (with_seen (sign c) seen) (passed_by place (sign c) rest r.1 implied seen b (λ h x. refl))
  finds low (token place bad rest) r implied seen b =
      finds (place + 1) rest r.1 (implied || is ":" bad) (with_seen bad seen) (passed_by place bad rest r.1 implied seen b (λ h x. refl))

  -- The walk over the whole item finds the least of its faults.
  module _ (low : ℕ) (rising : Rising low piece) (l : List Fault)
      (is_fault : (f : Fault) → In f l → FaultOf both free piece xs f) (has_fault : (f : Fault) → FaultOf both free piece xs f → In f l) where
    pub first_is_least : first_fault both free piece ≡ least l
    unfolding first_fault Finds some_of
    first_is_least = go (first_from both free piece false (λ h x. false) piece) refl (finds low piece rising false (λ h x. false) at_first) (least l) refl
      where
        at_first : Before false (λ h x. false) piece
        at_first =
            record {
              earlier = λ h x. [];
              splits = λ h x. refl;
              in_head = λ e h x. refl;
              head_passed = λ e. absurd (false_not_true false refl e);
              seen_is = λ h x. refl;
              clean = λ f o m. in_none m;
            }

        go : (a : Option Fault) → first_from both free piece false (λ h x. false) piece ≡ a → Finds (first_from both free piece false (λ h x. false) piece)
            → (c : Option Fault) → least l ≡ c → first_from both free piece false (λ h x. false) piece ≡ least l
        go none e found none e' = e ∙ sym e'
        go none e found (some g) e' = absurd ((rw e at found) g (is_fault g (least_is l g e').0))
        go (some f) e found none e' = absurd (in_none (rw (least_none l e') at (has_fault f (rw e at found).0)))
        go (some f) e found (some g) e' =
            let f_in : In f l = has_fault f (rw e at found).0 in
            let g_of : FaultOf both free piece xs g = is_fault g (least_is l g e').0 in
            let one : f.offset ≤ g.offset = (rw e at found).1 g g_of in
            let other_way : g.offset ≤ f.offset = (least_is l g e').1 f f_in in
            let f_is : f ≡ g = one_fault_at both free piece low rising xs f g (rw e at found).0 g_of (omega arith) in
            e ∙ rw f_is (sym e')
