-- The tokens that count for the pairing: a clause's up to its `:-`, and behind that sign those behind its bar.
-- Where some tokens stand behind others with no `:-` between, both go through the same up to there.
use Prim.Native.Nat.{ℕ, ◌+◌}
use mathlib.Core.Path.{◌≡◌, refl}
use mathlib.Core.Logic.{inl, inr}
use mathlib.Core.Bool.{Bool, true, false}
use mathlib.Core.List.{List, [], ◌++◌}
use native.Mathlib.Omega.{arith}
use lib.ListN.{length}
use Rattle.meaning.specs.Bytes.{Bytes, when◌then◌else◌}
use Rattle.meaning.specs.Terms.{Half}
use Rattle.meaning.specs.Tokens.{Token, Tokens, ends, token, is}
use Rattle.meaning.specs.Faults.{is_half, occurs_at, up_to_implied, head_tokens}
use Rattle.laws.proofs.Lists.{In, in_append_left}
use Rattle.laws.proofs.Reading.Rising.{Rising, rising_from, StandsAt}

-- The latter tokens stand behind the former, and no `:-` between.
pub data Past : Tokens → Tokens → Type 0 where
  at_once : {s : Tokens} → Past s s
  over : {place : ℕ} {t : Token} {s rest : Tokens} → is ":" t ≡ false → Past s rest → Past (token place t s) rest

pub past_trans : {s middle rest : Tokens} → Past s middle → Past middle rest → Past s rest
past_trans at_once q = q
past_trans (over n p) q = over n (past_trans p q)

pub past_rising : {s rest : Tokens} (low : ℕ) → Past s rest → Rising low s → Rising low rest
unfolding Rising
past_rising low at_once r = r
past_rising low (over {place = place} {rest = rest} n p) r = rising_from (place + 1) low rest (omega (arith, r.0)) (past_rising (place + 1) p r.1)

pub past_stands : {s rest : Tokens} (p : ℕ) (u : Token) → Past s rest → StandsAt p u rest → StandsAt p u s
unfolding StandsAt
past_stands p u at_once m = m
past_stands p u (over n q) m = inr (past_stands p u q m)

-- Behind its `:-` a clause's head does not go on.
pub up_to_implied_twice : (s behind others : Tokens) → up_to_implied (up_to_implied s behind) others ≡ up_to_implied s others
unfolding up_to_implied when◌then◌else◌
up_to_implied_twice (ends place) behind others = refl
up_to_implied_twice (token place t rest) behind others = go (is ":" t) refl (up_to_implied_twice rest behind others)
  where
    go : (b : Bool) → is ":" t ≡ b → up_to_implied (up_to_implied rest behind) others ≡ up_to_implied rest others
        → up_to_implied (token place t (when is ":" t then behind else up_to_implied rest behind)) others ≡ up_to_implied (token place t rest) others
    go true e further = rw e refl
    go false e further = rw (e, further) refl

-- What occurs in the head occurs in the item, first of all.
pub head_first : (h : Half) (x : Bytes) (s : Tokens) → (later : List ℕ) × (occurs_at h x s ≡ occurs_at h x (head_tokens s) ++ later)
unfolding occurs_at head_tokens up_to_implied when◌then◌else◌
head_first h x (ends place) = ([], refl)
head_first h x (token place t rest) = go (is ":" t) refl (is_half h x t) refl (head_first h x rest)
  where
    go : (b : Bool) → is ":" t ≡ b → (c : Bool) → is_half h x t ≡ c → (later : List ℕ) × (occurs_at h x rest ≡ occurs_at h x (up_to_implied rest (ends 0)) ++ later)
        → (later : List ℕ) × (occurs_at h x (token place t rest) ≡ occurs_at h x (token place t (when is ":" t then ends 0 else up_to_implied rest (ends 0))) ++ later)
    go true e true f further = (occurs_at h x rest, rw (e, f) refl)
    go true e false f further = (occurs_at h x rest, rw (e, f) refl)
    go false e true f (later, q) = (later, rw (e, f) (cc q))
    go false e false f (later, q) = (later, rw (e, f) q)

pub head_among : (h : Half) (x : Bytes) (s : Tokens) (p : ℕ) → In p (occurs_at h x (head_tokens s)) → In p (occurs_at h x s)
head_among h x s p m = let (later, e) = head_first h x s in rw e (in_append_left later m)

-- What occurs up to the `:-`, with others behind it: what is passed over, and then what is left up to it.
pub past_occurs : {s rest : Tokens} → Past s rest → (behind : Tokens) (h : Half) (x : Bytes)
    → length (occurs_at h x (up_to_implied s behind)) + length (occurs_at h x rest) ≡ length (occurs_at h x s) + length (occurs_at h x (up_to_implied rest behind))
unfolding occurs_at up_to_implied when◌then◌else◌
past_occurs at_once behind h x = omega arith
past_occurs (over {place = place} {t = t} {s = s} {rest = rest} n p) behind h x = go (is_half h x t) refl (past_occurs p behind h x)
  where
    go : (b : Bool) → is_half h x t ≡ b
        → length (occurs_at h x (up_to_implied s behind)) + length (occurs_at h x rest) ≡ length (occurs_at h x s) + length (occurs_at h x (up_to_implied rest behind))
        → length (occurs_at h x (token place t (when is ":" t then behind else up_to_implied s behind))) + length (occurs_at h x rest)
        ≡ length (occurs_at h x (token place t s)) + length (occurs_at h x (up_to_implied rest behind))
    go true e further = rw (n, e) (omega arith)
    go false e further = rw (n, e) further

-- The places rise, and what stands there stands in the item.
pub past_implied_rising : {s rest : Tokens} (low place : ℕ) (t : Token) (behind : Tokens) → Past s (token place t rest) → is ":" t ≡ true
    → Rising low s → Rising (place + 1) behind → Rising low (up_to_implied s behind)
unfolding Rising up_to_implied when◌then◌else◌
past_implied_rising low place t behind at_once implied r b = (r.0, rw implied b)
past_implied_rising low place t behind (over {place = first} n p) implied r b = (r.0, rw n (past_implied_rising (first + 1) place t behind p implied r.1 b))

pub implied_stands : {s rest : Tokens} (place : ℕ) (t : Token) (behind : Tokens) → Past s (token place t rest) → is ":" t ≡ true
    → (p : ℕ) (u : Token) → (StandsAt p u behind → StandsAt p u rest) → StandsAt p u (up_to_implied s behind) → StandsAt p u s
unfolding StandsAt up_to_implied when◌then◌else◌
implied_stands place t behind at_once implied p u later (inl e) = inl e
implied_stands place t behind at_once implied p u later (inr m) = inr (later (rw implied at m))
implied_stands place t behind (over n q) implied p u later (inl e) = inl e
implied_stands place t behind (over n q) implied p u later (inr m) = inr (implied_stands place t behind q implied p u later (rw n at m))
