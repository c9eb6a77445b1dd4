-- What each token does to the walk: a variable's half breaks a rule, which is then the fault, or is noted; every other token is passed.
use Prim.Native.Nat.{ℕ, ◌+◌, ◌-◌, ◌≤◌, ◌<◌, min}
use mathlib.Core.Path.{◌≡◌, refl, sym, ◌∙◌}
use mathlib.Core.Logic.{◌≢◌}
use mathlib.Core.Bool.{Bool, true, false, not, ◌&&◌, ◌||◌, or-true, or-false, and-false}
use mathlib.Core.List.{List, [], ◌∷◌}
use mathlib.Core.Option.{Option, none, some}
use native.Mathlib.Omega.{arith}
use lib.Dec.{eqb}
use lib.ListN.{length, get_or, set, replicate, length-replicate, get_or-replicate, length-set}
use lib.Seq.{slice, get_or-set_same, get_or-set_other}
use borrow.Author.Tests.{ne_eqb, eqb-true}
use Rattle.std.specs.Prelude.{Option as Perhaps, Some, None, slice_range}
use Rattle.std.proofs.lemmas.Slice.{between_is}
use Rattle.meaning.specs.Bytes.{Bytes, byte, when◌then◌else◌}
use Rattle.meaning.specs.Terms.{Half, writer, reader, Integer, same_half}
use Rattle.meaning.specs.Tokens.{Token, name, variable, integer, sign, bad, Tokens, ends, token}
use Rattle.meaning.specs.Faults.{Broken, twice, Fault, is_half, occurs_at, up_to_implied, pairing}
use Rattle.meaning.specs.Items.{is, place_of}
use Rattle.laws.proofs.Lists.Tests.{differ, false_not_true}
use Rattle.laws.proofs.Lists.Tests.{same_refl}
use Rattle.laws.proofs.Reading.Taken.{place_tells}
use Rattle.laws.proofs.Reading.Rising.{half_is}
use Rattle.laws.proofs.Reading.Broken.{other, alone, pardoned}
use Rattle.laws.proofs.Reading.Walk.{Seen, with_seen, nowhere, broken_by, here_or, first_from, first_fault}
use Rattle.load_tokens.specs.Fronts.{tokens_in, double_sign, behind}
use Rattle.load_names.specs.Places.{Place, spellings}
use Rattle.load_names.proofs.Spellings.{has_place}
use Rattle.load_openings.specs.Reading.{piece, half_place}
use Rattle.load_openings.proofs.Expected.{piece_open, piece_stop}
use Rattle.load_faults.specs.Finding.{Passable, Walkable, Searched, BarIs, half_from, on_at, pardons, Reached}

half_few : (h : Half) (n : ℕ) → n < 16 → half_from h + n < 32
unfolding half_from
half_few writer n l = omega arith
half_few reader n l = omega arith

pub half_small : (h : Half) → half_from h < 17
unfolding half_from
half_small writer = omega arith
half_small reader = omega arith

-- Two halves of two variables are noted at two places.
half_apart : (h k : Half) (m n : ℕ) → m < 16 → n < 16 → half_from h + m ≡ half_from k + n → (h ≡ k) × (m ≡ n)
unfolding half_from
half_apart writer writer m n l l' e = (refl, omega arith)
half_apart writer reader m n l l' e = absurd (omega arith)
half_apart reader writer m n l l' e = absurd (omega arith)
half_apart reader reader m n l l' e = (refl, omega arith)

-- Where the item's table counts the other half.
pub other_place : (h : Half) (n : ℕ) → 48 - half_from h + n ≡ half_place (other h) n
unfolding half_from half_place other
other_place writer n = refl
other_place reader n = refl

nowhere_none : (l : List ℕ) → nowhere l ≡ eqb (min 2 (length l)) 0
unfolding nowhere
nowhere_none [] = refl
nowhere_none (p ∷ l) = sym (ne_eqb (min 2 (length (p ∷ l))) 0 (λ e. absurd (omega arith)))

itself : (h : Half) (x : Bytes) → is_half h x (variable h x) ≡ true
unfolding is_half same_half
itself writer x = same_refl x
itself reader x = same_refl x

-- What is left of the tokens that count for the pairing: up to the `:-` and then behind the bar; behind the `:-` all of them.
unfoldable pub left_at : Bool → Option Tokens → Tokens → Tokens
left_at true after ts = ts
left_at false after ts = pairing after ts

pub open_token : (implied : Bool) (after : Option Tokens) (p : ℕ) (t : Token) (ts : Tokens) → is "." t ≡ false → is ":" t ≡ false
    → left_at implied after (piece (token p t ts)) ≡ token p t (left_at implied after (piece ts))
unfolding left_at pairing up_to_implied when◌then◌else◌
open_token true after p t ts e n = piece_open p t ts e
open_token false none p t ts e n = piece_open p t ts e
open_token false (some ahead) p t ts e n = rw (piece_open p t ts e, n) refl

stop_token : (implied : Bool) (after : Option Tokens) (p : ℕ) (t : Token) (ts : Tokens) → is "." t ≡ true → is ":" t ≡ false
    → left_at implied after (piece (token p t ts)) ≡ token p t (ends p)
unfolding left_at pairing up_to_implied when◌then◌else◌
stop_token true after p t ts e n = piece_stop p t ts e
stop_token false none p t ts e n = piece_stop p t ts e
stop_token false (some ahead) p t ts e n = rw (piece_stop p t ts e, n) refl

-- Behind the first `:-` the tokens behind the bar come next, if there is one.
neck_token : (rest : Bytes) (from : ℕ) (bar : Perhaps ℕ) (p c a : ℕ) (implied : Bool) (after : Option Tokens) → is ":" (sign c) ≡ true → is "." (sign c) ≡ false → BarIs rest from bar after
    → left_at implied after (piece (token p (sign c) (tokens_in from rest (behind c a))))
    ≡ token p (sign c) (left_at true after (piece (tokens_in from rest (on_at c a implied bar))))
unfolding left_at pairing up_to_implied when◌then◌else◌ on_at is
neck_token rest from None p c a true after n e b = piece_open p (sign c) (tokens_in from rest (behind c a)) e
neck_token rest from (Some bar) p c a true after n e b = rw (n, piece_open p (sign c) (tokens_in from rest (behind c a)) e) refl
neck_token rest from None p c a false none n e b = piece_open p (sign c) (tokens_in from rest (behind c a)) e
neck_token rest from None p c a false (some ahead) n e b = absurd b
neck_token rest from (Some bar) p c a false none n e b = absurd b
neck_token rest from (Some bar) p c a false (some ahead) n e b = rw (n, piece_open p (sign c) (tokens_in from rest (behind c a)) e, b.0, n) refl

-- Any other sign leaves the walk as it is.
other_sign : (c a : ℕ) (bar : Perhaps ℕ) (implied : Bool) → is ":" (sign c) ≡ false → on_at c a implied bar ≡ behind c a
unfolding on_at is when◌then◌else◌
other_sign c a None implied n = refl
other_sign c a (Some bar) implied n = rw n refl

neck_no_stop : (c : ℕ) → is ":" (sign c) ≡ true → is "." (sign c) ≡ false
unfolding is byte
neck_no_stop c n = let colon : c ≡ byte ":" = eqb-true c (byte ":") n in rw colon refl

module _ (both : Bool) (places : List Place) (free : Bytes → Bool) (whole : Tokens) where
  module _ (few : length places ≤ 16) where
    number_few : (x : Bytes) (n : ℕ) → place_of x (spellings places) ≡ some n → n < 16
    number_few x n e = omega (arith, has_place x places n e)

    pub at_first : (f : Fault) → first_fault both free whole ≡ some f → Walkable (spellings places) whole → Reached both places free whole false (replicate 32 0) whole f
    unfolding first_fault
    at_first f e w =
        record {
          size = length-replicate {A = ℕ} 32 0;
          was = λ h x. false;
          noted = λ h x n here.
              let zero : ◌≡◌ {A = ℕ} (get_or (replicate 32 0) (half_from h + n) 0) 0 = get_or-replicate {A = ℕ} 32 (half_from h + n) 0 0 (half_few h n (number_few x n here)) in
              rw zero refl;
          finds = e;
          walkable = w;
        }

  no_end_here : (implied : Bool) (seen : List ℕ) (f : Fault) (p : ℕ) → Reached both places free whole implied seen (ends p) f → ⊥
  unfolding first_from
  no_end_here implied seen f p r = let e = r.finds in differ (cc)

  module _ (implied : Bool) (seen : List ℕ) (f : Fault) where
    pub no_end : (after : Option Tokens) (p : ℕ) → Reached both places free whole implied seen (left_at implied after (piece (ends p))) f → ⊥
    unfolding left_at pairing up_to_implied piece
    no_end after p r = go implied refl after r
      where
        go : (i : Bool) → implied ≡ i → (o : Option Tokens) → Reached both places free whole implied seen (left_at i o (ends p)) f → ⊥
        go true e o r = no_end_here implied seen f p r
        go false e none r = no_end_here implied seen f p r
        go false e (some ahead) r = no_end_here implied seen f p r

    pub no_bad : (after : Option Tokens) (p : ℕ) (ts : Tokens) → Reached both places free whole implied seen (left_at implied after (piece (token p bad ts))) f → ⊥
    unfolding Walkable Passable is
    no_bad after p ts r = (rw (open_token implied after p bad ts refl refl) at r).walkable.0

    pub no_place_here : (p : ℕ) (h : Half) (x : Bytes) (s : Tokens) → place_of x (spellings places) ≡ none
        → Reached both places free whole implied seen (token p (variable h x) s) f → ⊥
    unfolding Walkable Passable
    no_place_here p h x s e r = let e' = r.walkable.0.1 in differ (cc)

    over_other : (p : ℕ) (t : Token) (s : Tokens) → ((h : Half) (x : Bytes) → is_half h x t ≡ false) → ((w : Seen) → broken_by both free whole implied w t ≡ none)
        → Reached both places free whole implied seen (token p t s) f → Reached both places free whole (implied || is ":" t) seen s f
    unfolding first_from here_or with_seen Walkable
    over_other p t s none_here clear r =
        record {
          size = r.size;
          was = with_seen t r.was;
          noted = λ h x n here. rw (none_here h x) (r.noted h x n here);
          finds = rw (clear r.was) at r.finds;
          walkable = r.walkable.1;
        }

    pub over_name : (after : Option Tokens) (p : ℕ) (g : Bytes) (ts : Tokens) → Reached both places free whole implied seen (left_at implied after (piece (token p (name g) ts))) f
        → Reached both places free whole implied seen (left_at implied after (piece ts)) f
    unfolding is_half broken_by is
    over_name after p g ts r =
        rw (or-false implied) at (over_other p (name g) (left_at implied after (piece ts)) (λ h x. refl) (λ w. refl) (rw (open_token implied after p (name g) ts refl refl) at r))

    pub over_integer : (after : Option Tokens) (p : ℕ) (i : Integer) (ts : Tokens) → Reached both places free whole implied seen (left_at implied after (piece (token p (integer i) ts))) f
        → Reached both places free whole implied seen (left_at implied after (piece ts)) f
    unfolding is_half broken_by is
    over_integer after p i ts r =
        rw (or-false implied) at (over_other p (integer i) (left_at implied after (piece ts)) (λ h x. refl) (λ w. refl) (rw (open_token implied after p (integer i) ts refl refl) at r))

    -- Behind the full stop nothing is left.
    pub over_sign : (rest : Bytes) (from : ℕ) (bar : Perhaps ℕ) (after : Option Tokens) → BarIs rest from bar after → (p c a : ℕ)
        → Reached both places free whole implied seen (left_at implied after (piece (token p (sign c) (tokens_in from rest (behind c a))))) f
        → Reached both places free whole (implied || is ":" (sign c)) seen
        (left_at (implied || is ":" (sign c)) after (piece (tokens_in from rest (on_at c a implied bar)))) f
    unfolding is_half broken_by
    over_sign rest from bar after b p c a r = go (is ":" (sign c)) refl (is "." (sign c)) refl
      where
        go : (n : Bool) → is ":" (sign c) ≡ n → (e : Bool) → is "." (sign c) ≡ e
            → Reached both places free whole (implied || is ":" (sign c)) seen
            (left_at (implied || is ":" (sign c)) after (piece (tokens_in from rest (on_at c a implied bar)))) f
        go true n e q =
            let on = over_other p (sign c) (left_at true after (piece (tokens_in from rest (on_at c a implied bar)))) (λ h x. refl) (λ w. refl)
            (rw (neck_token rest from bar p c a implied after n (neck_no_stop c n) b) at r) in
            rw (n, or-true implied) (rw (n, or-true implied) at on)
        go false n true q =
            absurd (no_end_here (implied || is ":" (sign c)) seen f p
            (over_other p (sign c) (ends p) (λ h x. refl) (λ w. refl) (rw (stop_token implied after p (sign c) (tokens_in from rest (behind c a)) q n) at r)))
        go false n false q =
            let on = over_other p (sign c) (left_at implied after (piece (tokens_in from rest (behind c a)))) (λ h x. refl) (λ w. refl)
            (rw (open_token implied after p (sign c) (tokens_in from rest (behind c a)) q n) at r) in
            rw (n, or-false implied, other_sign c a bar implied n) (rw (n, or-false implied) at on)

    -- A variable is no full stop and no `:-`.
    pub at_variable : (after : Option Tokens) (p : ℕ) (h : Half) (x : Bytes) (ts : Tokens) → Reached both places free whole implied seen (left_at implied after (piece (token p (variable h x) ts))) f
        → Reached both places free whole implied seen (token p (variable h x) (left_at implied after (piece ts))) f
    unfolding is
    at_variable after p h x ts r = rw (open_token implied after p (variable h x) ts refl refl) at r

    -- As the code reads its spelling.
    pub at_spelled : (after : Option Tokens) (rest : Bytes) (from at a e m : ℕ) (h : Half)
        → tokens_in from rest at ≡ token (from + a) (variable h (slice a e rest)) (tokens_in from rest m)
        → Reached both places free whole implied seen (left_at implied after (piece (tokens_in from rest at))) f
        → Reached both places free whole implied seen (token (from + a) (variable h (slice_range rest a e)) (left_at implied after (piece (tokens_in from rest m)))) f
    at_spelled after rest from at a e m h t r =
        rw (between_is rest a e) (at_variable after (from + a) h (slice a e rest) (tokens_in from rest m) (rw t at r))

    module _ (rest : Bytes) (item : List ℕ) (count : ℕ) (licensed : List ℕ) (searched : Searched rest item count licensed places free whole)
        (h : Half) (x : Bytes) (n : ℕ) (here : place_of x (spellings places) ≡ some n)
        (p : ℕ) (s : Tokens) (r : Reached both places free whole implied seen (token p (variable h x) s) f) where
      -- Where it is pardoned.
      pub pardoned_is : (pardons implied h && not (eqb (get_or licensed n 0) 0)) ≡ (implied && pardoned free h x)
      unfolding pardons pardoned
      pardoned_is = go h
        where
          go : (h : Half) → (pardons implied h && not (eqb (get_or licensed n 0) 0)) ≡ (implied && pardoned free h x)
          go writer = sym (and-false implied)
          go reader = rw (searched.frees x n here) refl

      module _ (again : get_or seen (half_from h + n) 0 ≢ 0) where
        seen_before : r.was h x ≡ true
        seen_before = rw (r.noted h x n here, ne_eqb (get_or seen (half_from h + n) 0) 0 again) refl

        pub second_time : (pardons implied h && not (eqb (get_or licensed n 0) 0)) ≡ false → f ≡ record { rule = twice; offset = p }
        unfolding first_from broken_by here_or when◌then◌else◌
        second_time e =
            let strict : (implied && pardoned free h x) ≡ false = sym pardoned_is ∙ e in
            let q : some (record { rule = twice; offset = p }) ≡ some f = rw (seen_before, strict) at r.finds in
            cc

        -- It was noted already.
        noted_still : (k : Half) (y : Bytes) (m : ℕ) → place_of y (spellings places) ≡ some m
            → (is_half k y (variable h x) || r.was k y) ≡ not (eqb (get_or seen (half_from k + m) 0) 0)
        noted_still k y m there = go (is_half k y (variable h x)) refl
          where
            go : (b : Bool) → is_half k y (variable h x) ≡ b → (is_half k y (variable h x) || r.was k y) ≡ not (eqb (get_or seen (half_from k + m) 0) 0)
            go true q =
                let t : variable h x ≡ variable k y = half_is k y (variable h x) q in
                let k_is : k ≡ h = cc in
                let y_is : y ≡ x = cc in
                rw q (sym (sym (r.noted k y m there) ∙ rw (k_is, y_is) seen_before))
            go false q = rw q (r.noted k y m there)

        pub seen_again : (pardons implied h && not (eqb (get_or licensed n 0) 0)) ≡ true → Reached both places free whole implied seen s f
        unfolding first_from broken_by here_or when◌then◌else◌ with_seen Walkable is
        seen_again e =
            let pardon : (implied && pardoned free h x) ≡ true = sym pardoned_is ∙ e in
            record {
              size = r.size;
              was = with_seen (variable h x) r.was;
              noted = noted_still;
              finds = rw (seen_before, pardon, or-false implied) at r.finds;
              walkable = r.walkable.1;
            }

      missing : nowhere (occurs_at (other h) x whole) ≡ eqb (get_or item (48 - half_from h + n) 0) 0
      missing = nowhere_none (occurs_at (other h) x whole) ∙ rw (other_place h n, searched.counted (other h) x n here) refl

      module _ (first : get_or seen (half_from h + n) 0 ≡ 0) where
        unseen : r.was h x ≡ false
        unseen = rw (r.noted h x n here, first) refl

        pub is_lone : (both && eqb (get_or item (48 - half_from h + n) 0) 0) ≡ true → f ≡ record { rule = alone h; offset = p }
        unfolding first_from broken_by here_or when◌then◌else◌
        is_lone e =
            let q : some (record { rule = alone h; offset = p }) ≡ some f = rw (unseen, missing, e) at r.finds in
            cc

        noted_now : (k : Half) (y : Bytes) (m : ℕ) → place_of y (spellings places) ≡ some m
            → (is_half k y (variable h x) || r.was k y) ≡ not (eqb (get_or (set seen (half_from h + n) 1) (half_from k + m) 0) 0)
        noted_now k y m there = go (is_half k y (variable h x)) refl
          where
            few : length places ≤ 16
            few = searched.table.few

            go : (b : Bool) → is_half k y (variable h x) ≡ b
                → (is_half k y (variable h x) || r.was k y) ≡ not (eqb (get_or (set seen (half_from h + n) 1) (half_from k + m) 0) 0)
            go true q =
                let t : variable h x ≡ variable k y = half_is k y (variable h x) q in
                let k_is : k ≡ h = cc in
                let y_is : y ≡ x = cc in
                let numbers : some m ≡ some n = sym there ∙ rw y_is here in
                let m_is : m ≡ n = cc in
                let now : get_or (set seen (half_from h + n) 1) (half_from h + n) 0 ≡ 1 = get_or-set_same seen (half_from h + n) 1 0 (omega (arith, half_few h n (number_few few x n here), r.size)) in
                rw (q, k_is, m_is, now) refl
            go false q =
                let apart : half_from k + m ≢ half_from h + n = λ e.
                let (k_is, m_is) = half_apart k h m n (number_few few y m there) (number_few few x n here) e in
                let y_is : y ≡ x = place_tells y x (spellings places) n (rw m_is at there) here in
                false_not_true (is_half k y (variable h x)) q (rw (k_is, y_is) (itself h x)) in
                rw (q, get_or-set_other seen (half_from h + n) (half_from k + m) 1 0 apart) (r.noted k y m there)

        pub noted_on : (both && eqb (get_or item (48 - half_from h + n) 0) 0) ≡ false
            → Reached both places free whole implied (set seen (half_from h + n) 1) s f
        unfolding first_from broken_by here_or when◌then◌else◌ with_seen Walkable is
        noted_on e =
            record {
              size = length-set seen (half_from h + n) 1 ∙ r.size;
              was = with_seen (variable h x) r.was;
              noted = noted_now;
              finds = rw (unseen, missing, e, or-false implied) at r.finds;
              walkable = r.walkable.1;
            }

-- What a fault says.
pub says : (b : Broken) (from a size : ℕ) (f : Fault) → a ≤ size → f ≡ record { rule = b; offset = from + a } → (b ≡ f.rule) × (from + a ≡ f.offset) × (a ≤ size)
says b from a size f l e = rw e (refl, refl, l)

-- A sign ends behind where it begins.
pub behind_more : (c a : ℕ) → a + 1 ≤ behind c a
unfolding behind when◌then◌else◌
behind_more c a = go (double_sign c)
  where
    go : (b : Bool) → a + 1 ≤ (when b then a + 2 else a + 1)
    go true = omega arith
    go false = omega arith

-- What is left to walk falls: behind a sign, or once, behind the first `:-`, to the bar.
unfoldable pub weight : Bool → ℕ → ℕ
weight true size = 0
weight false size = size + 1

abbrev pub Inside : ℕ → Perhaps ℕ → Type 0
Inside size None = Unit {0}
Inside size (Some bar) = bar ≤ size

pub bar_inside : (rest : Bytes) (from : ℕ) (bar : Perhaps ℕ) (after : Option Tokens) → BarIs rest from bar after → Inside (length rest) bar
bar_inside rest from None after b = tt
bar_inside rest from (Some bar) none b = absurd b
bar_inside rest from (Some bar) (some ahead) b = b.1

either_inside : (b : Bool) (m n size : ℕ) → m ≤ size → n ≤ size → (when b then m else n) ≤ size
unfolding when◌then◌else◌
either_inside true m n size h l = h
either_inside false m n size h l = l

pub sign_inside : (size c a : ℕ) (bar : Perhaps ℕ) (implied : Bool) → behind c a ≤ size → Inside size bar → on_at c a implied bar ≤ size
unfolding on_at
sign_inside size c a None implied h l = h
sign_inside size c a (Some bar) implied h l = either_inside (eqb c (byte ":") && not implied) bar (behind c a) size l h

lighter : (implied b : Bool) (size : ℕ) → weight (implied || b) size ≤ weight implied size
unfolding weight
lighter true b size = omega arith
lighter false true size = omega arith
lighter false false size = omega arith

less : (w w' size at b : ℕ) → w ≤ w' → at < b → b ≤ size → w + (size - b) < w' + (size - at)
less w w' size at b k l h = omega arith

not_less : (w size at bar b : ℕ) → at < b → b ≤ size → w + (size - (when false then bar else b)) < w + (size - at)
unfolding when◌then◌else◌
not_less w size at bar b l h = omega arith

either_less : (n : Bool) (size at bar b : ℕ) → at < b → b ≤ size → weight n size + (size - (when n && true then bar else b)) < weight false size + (size - at)
unfolding weight when◌then◌else◌
either_less true size at bar b l h = omega arith
either_less false size at bar b l h = omega arith

pub sign_less : (size at c a : ℕ) (bar : Perhaps ℕ) (implied : Bool) → at ≤ a → behind c a ≤ size
    → weight (implied || eqb c (byte ":")) size + (size - on_at c a implied bar) < weight implied size + (size - at)
unfolding on_at
sign_less size at c a None implied forward h =
    less (weight (implied || eqb c (byte ":")) size) (weight implied size) size at (behind c a) (lighter implied (eqb c (byte ":")) size) (omega (arith, behind_more c a)) h
sign_less size at c a (Some bar) true forward h =
    let l : at < behind c a = omega (arith, behind_more c a) in
    rw (and-false (eqb c (byte ":"))) (not_less (weight true size) size at bar (behind c a) l h)
sign_less size at c a (Some bar) false forward h = either_less (eqb c (byte ":")) size at bar (behind c a) (omega (arith, behind_more c a)) h
