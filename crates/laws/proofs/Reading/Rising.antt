-- The places of a text's tokens rise, in each of its pieces too: so a place holds one token, and each occurrence stands before the next.
-- By induction over the text, and over the tokens of a piece.
use Prim.Native.Nat.{ℕ, zero, suc, ◌+◌, ◌≤◌, ◌<◌}
use mathlib.Core.Path.{◌≡◌, refl, sym, ◌∙◌}
use mathlib.Core.Logic.{◌⊎◌, inl, inr}
use mathlib.Core.Bool.{Bool, true, false}
use mathlib.Core.List.{List, [], ◌∷◌}
use native.Mathlib.Omega.{arith}
use Rattle.meaning.specs.Bytes.{Bytes, same, when◌then◌else◌}
use Rattle.meaning.specs.Terms.{Half, writer, reader, same_half}
use Rattle.meaning.specs.Tokens.{Token, name, variable, integer, sign, bad, Tokens, ends, token, Front, blank, front, placed, tokens_from, tokens}
use Rattle.meaning.specs.Faults.{is_half, occurs_at}
use Rattle.meaning.specs.Items.{is, onto, pieces}
use Rattle.laws.proofs.Lists.{In, in_none, in_cons_cases, Each, each_implies, if_holds, and_left, and_right, differ, false_not_true, same_true}

-- Places rise from token to token, from this one on.
unfoldable pub Rising : ℕ → Tokens → Type 0
Rising low (ends place) = Unit {0}
Rising low (token place t rest) = (low ≤ place) × Rising (place + 1) rest

pub rising_from : (low m : ℕ) (s : Tokens) → m ≤ low → Rising low s → Rising m s
unfolding Rising
rising_from low m (ends place) e h = tt
rising_from low m (token place t rest) e h = (omega (arith, h.0), h.1)

-- So an occurrence stands at or behind it.
pub occurs_behind : (h : Half) (x : Bytes) (low p : ℕ) (s : Tokens) → Rising low s → In p (occurs_at h x s) → low ≤ p
unfolding Rising occurs_at when◌then◌else◌
occurs_behind h x low p (ends place) r m = absurd (in_none m)
occurs_behind h x low p (token place t rest) r m = go (is_half h x t) refl (λ i. occurs_behind h x (place + 1) p rest r.1 i)
  where
    go : (b : Bool) → is_half h x t ≡ b → (In p (occurs_at h x rest) → place + 1 ≤ p) → low ≤ p
    go true e further = by (in_cons_cases (rw e at m))
      where
        by : (p ≡ place) ⊎ In p (occurs_at h x rest) → low ≤ p
        by (inl q) = rw q r.0
        by (inr q) = omega (arith, further q, r.0)
    go false e further = omega (arith, further (rw e at m), r.0)

same_half_true : (h k : Half) → same_half h k ≡ true → h ≡ k
unfolding same_half
same_half_true writer writer e = refl
same_half_true writer reader e = absurd (false_not_true false refl e)
same_half_true reader writer e = absurd (false_not_true false refl e)
same_half_true reader reader e = refl

-- A token is one half of one variable.
pub half_is : (h : Half) (x : Bytes) (t : Token) → is_half h x t ≡ true → t ≡ variable h x
unfolding is_half
half_is h x (name f) e = absurd (false_not_true false refl e)
half_is h x (variable k y) e =
    let k_is : h ≡ k = same_half_true h k (and_left (same_half h k) (same x y) e) in
    let y_is : x ≡ y = same_true x y (and_right (same_half h k) (same x y) e) in
    rw (k_is, y_is) refl
half_is h x (integer i) e = absurd (false_not_true false refl e)
half_is h x (sign b) e = absurd (false_not_true false refl e)
half_is h x bad e = absurd (false_not_true false refl e)

-- What stands at an occurrence's place is that half of that variable, and nothing else.
unfoldable pub StandsAt : ℕ → Token → Tokens → Type 0
StandsAt p u (ends place) = ⊥
StandsAt p u (token place t rest) = ((p ≡ place) × (u ≡ t)) ⊎ StandsAt p u rest

pub occurs_stands_at : (h : Half) (x : Bytes) (p : ℕ) (s : Tokens) → In p (occurs_at h x s) → StandsAt p (variable h x) s
unfolding StandsAt occurs_at when◌then◌else◌
occurs_stands_at h x p (ends place) m = in_none m
occurs_stands_at h x p (token place t rest) m = go (is_half h x t) refl (occurs_stands_at h x p rest)
  where
    go : (b : Bool) → is_half h x t ≡ b → (In p (occurs_at h x rest) → StandsAt p (variable h x) rest)
        → ((p ≡ place) × (variable h x ≡ t)) ⊎ StandsAt p (variable h x) rest
    go true e further = by (in_cons_cases (rw e at m))
      where
        by : (p ≡ place) ⊎ In p (occurs_at h x rest) → ((p ≡ place) × (variable h x ≡ t)) ⊎ StandsAt p (variable h x) rest
        by (inl q) = inl (q, sym (half_is h x t e))
        by (inr q) = inr (further q)
    go false e further = inr (further (rw e at m))

stands_behind : (u : Token) (low p : ℕ) (s : Tokens) → Rising low s → StandsAt p u s → low ≤ p
unfolding Rising StandsAt
stands_behind u low p (ends place) r m = absurd m
stands_behind u low p (token place t rest) r (inl (e, q)) = omega (arith, r.0)
stands_behind u low p (token place t rest) r (inr m) = omega (arith, r.0, stands_behind u (place + 1) p rest r.1 m)

pub one_token_at : (u v : Token) (low p : ℕ) (s : Tokens) → Rising low s → StandsAt p u s → StandsAt p v s → u ≡ v
unfolding Rising StandsAt
one_token_at u v low p (ends place) r m n = absurd m
one_token_at u v low p (token place t rest) r (inl (e, q)) (inl (e', q')) = q ∙ sym q'
one_token_at u v low p (token place t rest) r (inl (e, q)) (inr n) = absurd (omega (arith, stands_behind v (place + 1) p rest r.1 n))
one_token_at u v low p (token place t rest) r (inr m) (inl (e, q)) = absurd (omega (arith, stands_behind u (place + 1) p rest r.1 m))
one_token_at u v low p (token place t rest) r (inr m) (inr n) = one_token_at u v (place + 1) p rest r.1 m n

-- An occurrence's later ones stand behind it.
pub first_before : (h : Half) (x : Bytes) (low : ℕ) (s : Tokens) → Rising low s → (first : ℕ) (others : List ℕ) → occurs_at h x s ≡ first ∷ others
    → (p : ℕ) → In p others → first < p
unfolding Rising occurs_at when◌then◌else◌
first_before h x low (ends place) r first others e p m = absurd (differ (cc))
first_before h x low (token place t rest) r first others e p m = go (is_half h x t) refl (λ q. first_before h x (place + 1) rest r.1 first others q p m)
  where
    go : (b : Bool) → is_half h x t ≡ b → (occurs_at h x rest ≡ first ∷ others → first < p) → first < p
    go true q further =
        let e' : place ∷ occurs_at h x rest ≡ first ∷ others = rw q at e in
        let first_is : place ≡ first = cc in
        let others_are : occurs_at h x rest ≡ others = cc in
        omega (arith, occurs_behind h x (place + 1) p rest r.1 (rw (← others_are) at m))
    go false q further = further (rw q at e)

-- The tokens of a text, and its pieces.
placed_rising : (low at : ℕ) (f : Front) (behind : ℕ → Tokens) → low ≤ at → ((n : ℕ) → Rising (at + 1) (behind n)) → Rising low (placed at f behind)
unfolding placed Rising
placed_rising low at (blank n) behind e h = rising_from (at + 1) low (behind n) (omega arith) (h n)
placed_rising low at (Front.token n t) behind e h = (e, h n)

pub tokens_from_rising : (low at skip : ℕ) (cs : Bytes) → low ≤ at → Rising low (tokens_from at skip cs)
unfolding tokens_from Rising
tokens_from_rising low at skip [] e = tt
tokens_from_rising low at zero (c ∷ cs) e = placed_rising low at (front c cs) _ e (λ n. tokens_from_rising (at + 1) (at + 1) n cs (omega arith))
tokens_from_rising low at (suc skip) (c ∷ cs) e = tokens_from_rising low (at + 1) skip cs (omega arith)

onto_rising : (low place : ℕ) (t : Token) (ps : List Tokens) → low ≤ place → Each (Rising (place + 1)) ps → Each (Rising low) (onto place t ps)
unfolding onto Rising
onto_rising low place t [] e h = tt
onto_rising low place t (piece ∷ ps) e h =
    ((e, h.0), each_implies (Rising (place + 1)) (Rising low) (λ s r. rising_from (place + 1) low s (omega arith) r) ps h.1)

pub pieces_rise : (low : ℕ) (ts : Tokens) → Rising low ts → Each (Rising low) (pieces ts)
unfolding pieces Rising
pieces_rise low (ends place) h = (tt, tt)
pieces_rise low (token place t rest) h =
    if_holds (Each (Rising low)) (is "." t) (token place t (ends place) ∷ pieces rest) (onto place t (pieces rest))
    (λ e. ((h.0, tt), each_implies (Rising (place + 1)) (Rising low) (λ s r. rising_from (place + 1) low s (omega (arith, h.0)) r) (pieces rest) (pieces_rise (place + 1) rest h.1)))
    (λ e. onto_rising low place t (pieces rest) h.0 (pieces_rise (place + 1) rest h.1))

-- In each piece of a text the places rise.
pub pieces_rising : (text : Bytes) → Each (Rising 0) (pieces (tokens text))
unfolding tokens
pieces_rising text = pieces_rise 0 (tokens text) (tokens_from_rising 0 0 0 text (omega arith))
