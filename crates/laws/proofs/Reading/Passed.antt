-- What a reader passes over: each half of each variable stands there as often as in what is read, no `:-`, and the variables counted only grow.
-- A mark says how often each half has occurred so far, and whether the full stop was taken; one law for each combinator, as in Alike.
use Prim.Native.Char.{Char}
use Prim.Native.Nat.{ℕ, ◌+◌}
use mathlib.Core.Path.{◌≡◌, refl, sym, ◌∙◌}
use mathlib.Core.Bool.{Bool, true, false}
use mathlib.Core.List.{List, [], ◌++◌, append_assoc, append-nil}
use mathlib.Core.Option.{Option, none, some}
use native.Mathlib.Omega.{arith}
use lib.ListN.{length}
use Rattle.meaning.specs.Bytes.{Bytes, when◌then◌else◌}
use Rattle.meaning.specs.Terms.{Half}
use Rattle.meaning.specs.Tokens.{Token, Tokens, ends, token}
use Rattle.meaning.specs.Faults.{is_half, occurs_at}
use Rattle.meaning.specs.Items.{Counted, Read, read, malformed, passed, Reader, read_on, ◌>>=◌, ◌>>◌, give, cannot_stand, passes, next, is, if_next, place_of}
use Rattle.laws.proofs.Lists.{differ}
use Rattle.laws.proofs.Reading.Pairing.{Past, at_once, over, past_trans}

-- One list of spellings begins another.
abbrev pub Extends : List Bytes → List Bytes → Type 0
Extends l w = (m : List Bytes) × (w ≡ l ++ m)

pub extends_refl : (l : List Bytes) → Extends l l
extends_refl l = ([], sym (append-nil l))

pub extends_trans : (k l w : List Bytes) → Extends k l → Extends l w → Extends k w
extends_trans k l w (m, e) (n, f) = (m ++ n, f ∙ rw e (append_assoc k m n))

-- The tokens of a piece: a full stop stands at their end, if at all.
abbrev pub Ended : Tokens → Type 0
Ended s = (place : ℕ) × (s ≡ ends place)

unfoldable pub Cut : Tokens → Type 0
Cut (ends place) = Unit {0}
Cut (token place t rest) = when is "." t then Ended rest else Cut rest

cut_ended : (s : Tokens) → Ended s → Cut s
unfolding Cut
cut_ended s (place, e) = rw e tt

pub cut_behind : (place : ℕ) (t : Token) (rest : Tokens) → Cut (token place t rest) → Cut rest
unfolding Cut when◌then◌else◌
cut_behind place t rest h = go (is "." t) refl
  where
    go : (b : Bool) → is "." t ≡ b → Cut rest
    go true e = cut_ended rest (rw e at h)
    go false e = rw e at h

pub stop_ends : (place : ℕ) (t : Token) (rest : Tokens) → is "." t ≡ true → Cut (token place t rest) → Ended rest
unfolding Cut when◌then◌else◌
stop_ends place t rest e h = rw e at h

-- How often each half of each pair has occurred so far, and whether the full stop was taken.
pub record Mark : Type 0 where
  pub stopped : Bool
  pub often : Half → ℕ → ℕ

abbrev pub before_stop : (Half → ℕ → ℕ) → Mark
before_stop f = record { stopped = false; often = f }

abbrev pub behind_stop : (Half → ℕ → ℕ) → Mark
behind_stop f = record { stopped = true; often = f }

abbrev pub never : Half → ℕ → ℕ
never h n = 0

abbrev pub Shape : Bool → Tokens → Type 0
Shape false s = Cut s
Shape true s = Ended s

-- A count by a variable's number, if it has one.
unfoldable pub by_number : Option ℕ → (ℕ → ℕ) → ℕ
by_number none f = 0
by_number (some n) f = f n

-- From c and these tokens a reader went on to d and the rest; what it passed over makes the one mark the other, whatever is counted later.
pub record Over (from to : Mark) (c : Counted) (s : Tokens) (d : Counted) (rest : Tokens) : Type 0 where
  pub grows : Extends c.variables d.variables
  pub past : Past s rest
  pub shape : Shape from.stopped s → Shape to.stopped rest
  pub counts : (w : List Bytes) → Extends d.variables w → (h : Half) (x : Bytes)
      → by_number (place_of x w) (from.often h) + length (occurs_at h x s) ≡ by_number (place_of x w) (to.often h) + length (occurs_at h x rest)

-- Whatever a reader has read, it went over.
pub record Counts {A : Type 0} (from : Mark) (to : A → Mark) (r : Reader A) : Type 0 where
  pub over : (c : Counted) (s : Tokens) (a : A) (d : Counted) (rest : Tokens) → r c s ≡ read a d rest → Over from (to a) c s d rest

-- The same behind a token.
pub record CountsBehind {A : Type 0} (from : Mark) (to : A → Mark) (t : Token) (r : Reader A) : Type 0 where
  pub over : (place : ℕ) (c : Counted) (s : Tokens) (a : A) (d : Counted) (rest : Tokens) → r c s ≡ read a d rest
      → Over from (to a) c (token place t s) d rest

pub by_number_both : (o : Option ℕ) (f g : ℕ → ℕ) → by_number o (λ n. f n + g n) ≡ by_number o f + by_number o g
unfolding by_number
by_number_both none f g = refl
by_number_both (some n) f g = refl

by_number_same : (o : Option ℕ) (f g : ℕ → ℕ) → ((n : ℕ) → f n ≡ g n) → by_number o f ≡ by_number o g
unfolding by_number
by_number_same none f g e = refl
by_number_same (some n) f g e = e n

pub over_then : (from mid to : Mark) (c d e : Counted) (s middle rest : Tokens) → Over from mid c s d middle → Over mid to d middle e rest → Over from to c s e rest
over_then from mid to c d e s middle rest o p =
    record {
      grows = extends_trans c.variables d.variables e.variables o.grows p.grows;
      past = past_trans o.past p.past;
      shape = λ h. p.shape (o.shape h);
      counts = λ w later h x.
          o.counts w (extends_trans d.variables e.variables w p.grows later) h x ∙ p.counts w later h x;
    }

-- Nothing is passed over.
pub over_nothing : (from to : Mark) (c : Counted) (s : Tokens) → (Shape from.stopped s → Shape to.stopped s)
    → ((h : Half) (n : ℕ) → from.often h n ≡ to.often h n) → Over from to c s c s
over_nothing from to c s shape often =
    record {
      grows = extends_refl c.variables;
      past = at_once;
      shape = shape;
      counts = λ w later h x. omega (arith, by_number_same (place_of x w) (from.often h) (to.often h) (often h));
    }

module _ {A : Type 0} {from : Mark} {to : A → Mark} where
  pub give_counts : (a : A) → ((s : Tokens) → Shape from.stopped s → Shape (to a).stopped s) → ((h : Half) (n : ℕ) → from.often h n ≡ (to a).often h n)
      → Counts from to (give a)
  unfolding give
  give_counts a shape often =
      record {
        over = λ c s b d rest e.
            let e₁ : a ≡ b = cc in
            let e₂ : c ≡ d = cc in
            let e₃ : s ≡ rest = cc in
            rw (← e₁, ← e₂, ← e₃) (over_nothing from (to a) c s (shape s) often);
      }

  pub cannot_stand_counts : (place : ℕ) → Counts from to (cannot_stand place)
  unfolding cannot_stand
  cannot_stand_counts place = record { over = λ c s a d rest e. absurd (differ (cc)) }

  pub passes_counts : Counts from to passes
  unfolding passes
  passes_counts = record { over = λ c s a d rest e. absurd (differ (cc)) }

  pub if_counts : (test : Bool) {r₁ r₂ : Reader A} → (test ≡ true → Counts from to r₁) → (test ≡ false → Counts from to r₂) → Counts from to (when test then r₁ else r₂)
  unfolding when◌then◌else◌
  if_counts true first second = first refl
  if_counts false first second = second refl

-- One reader behind another.
module _ {A B : Type 0} {from : Mark} {mid : A → Mark} {to : B → Mark} where
  read_on_over : (k : A → Reader B) → ((a : A) → Counts (mid a) to (k a)) → (c : Counted) (s : Tokens) (x : Read A)
      → ((a : A) (d : Counted) (middle : Tokens) → x ≡ read a d middle → Over from (mid a) c s d middle)
      → (b : B) (e : Counted) (rest : Tokens) → read_on x k ≡ read b e rest → Over from (to b) c s e rest
  unfolding read_on
  read_on_over k on c s (read a d middle) first b e rest q =
      over_then from (mid a) (to b) c d e s middle rest (first a d middle refl) ((on a).over d middle b e rest q)
  read_on_over k on c s (malformed place) first b e rest q = absurd (differ (cc))
  read_on_over k on c s passed first b e rest q = absurd (differ (cc))

  pub then_counts : {r : Reader A} {k : A → Reader B} → Counts from mid r → ((a : A) → Counts (mid a) to (k a)) → Counts from to (r >>= k)
  unfolding ◌>>=◌
  then_counts {r} {k} first on =
      record { over = λ c s b e rest q. read_on_over k on c s (r c s) (λ a d middle p. first.over c s a d middle p) b e rest q }

  pub behind_counts : {r : Reader A} {q : Reader B} → Counts from mid r → ((a : A) → Counts (mid a) to q) → Counts from to (r >> q)
  unfolding ◌>>◌
  behind_counts {r} {q} first on =
      record { over = λ c s b e rest p. read_on_over (λ a. q) on c s (r c s) (λ a d middle p. first.over c s a d middle p) b e rest p }

-- One token is passed over, which is no variable and no `:-`.
pub one_token : (from : Mark) (stopped : Bool) (c : Counted) (place : ℕ) (t : Token) (s : Tokens) → ((h : Half) (x : Bytes) → is_half h x t ≡ false)
    → is ":" t ≡ false → (Shape from.stopped (token place t s) → Shape stopped s)
    → Over from (record { stopped = stopped; often = from.often }) c (token place t s) c s
unfolding occurs_at when◌then◌else◌
one_token from stopped c place t s none_here unimplied shape =
    record {
      grows = extends_refl c.variables;
      past = over unimplied at_once;
      shape = shape;
      counts = λ w later h x. rw (none_here h x) refl;
    }

-- Behind a token that is no variable; one of those that may come next.
module _ {A : Type 0} {from : Mark} {to : A → Mark} where
  pub over_token : (stopped : Bool) (t : Token) {r : Reader A}
      → ((h : Half) (x : Bytes) → is_half h x t ≡ false) → is ":" t ≡ false
      → ((place : ℕ) (s : Tokens) → Shape from.stopped (token place t s) → Shape stopped s)
      → Counts (record { stopped = stopped; often = from.often }) to r → CountsBehind from to t r
  over_token stopped t {r} none_here unimplied shape rest_counts =
      record {
        over = λ place c s a d rest e.
            over_then from (record { stopped = stopped; often = from.often }) (to a) c c d (token place t s) s rest
            (one_token from stopped c place t s none_here unimplied (shape place s)) (rest_counts.over c s a d rest e);
      }

  pub cannot_stand_behind : (place : ℕ) (t : Token) → CountsBehind from to t (cannot_stand place)
  unfolding cannot_stand
  cannot_stand_behind place t = record { over = λ place c s a d rest e. absurd (differ (cc)) }

  pub if_behind : (test : Bool) (t : Token) {r₁ r₂ : Reader A} → (test ≡ true → CountsBehind from to t r₁) → (test ≡ false → CountsBehind from to t r₂)
      → CountsBehind from to t (when test then r₁ else r₂)
  unfolding when◌then◌else◌
  if_behind true t first second = first refl
  if_behind false t first second = second refl

  pub next_counts : {on : ℕ → Token → Reader A} → ((place : ℕ) (t : Token) → CountsBehind from to t (on place t)) → Counts from to (next on)
  unfolding next
  next_counts {on} behind = record { over = go }
    where
      go : (c : Counted) (s : Tokens) (a : A) (d : Counted) (rest : Tokens) → next on c s ≡ read a d rest → Over from (to a) c s d rest
      go c (ends place) a d rest e = absurd (differ (cc))
      go c (token place t s) a d rest e = (behind place t).over place c s a d rest e

  pub if_next_counts : (first_sign : Char) {r₁ r₂ : Reader A} → ((t : Token) → is first_sign t ≡ true → CountsBehind from to t r₁) → Counts from to r₂ → Counts from to (if_next first_sign r₁ r₂)
  unfolding if_next when◌then◌else◌
  if_next_counts first_sign {r₁} {r₂} first second = record { over = go }
    where
      go : (c : Counted) (s : Tokens) (a : A) (d : Counted) (rest : Tokens) → if_next first_sign r₁ r₂ c s ≡ read a d rest → Over from (to a) c s d rest
      go c (ends place) a d rest e = second.over c (ends place) a d rest e
      go c (token place t s) a d rest e = by (is first_sign t) refl
        where
          by : (b : Bool) → is first_sign t ≡ b → Over from (to a) c (token place t s) d rest
          by true q = (first t q).over place c s a d rest (rw q at e)
          by false q = second.over c (token place t s) a d rest (rw q at e)

-- What occurred before stands before what is passed over.
abbrev pub plus : (Half → ℕ → ℕ) → Mark → Mark
plus f m = record { stopped = m.stopped; often = λ h n. f h n + m.often h n }

pub by_number_never : (o : Option ℕ) → by_number o (λ n. 0) ≡ 0
unfolding by_number
by_number_never none = refl
by_number_never (some n) = refl

pub after : {A : Type 0} {to : A → Mark} {r : Reader A} (f : Half → ℕ → ℕ) → Counts (before_stop never) to r → Counts (before_stop f) (λ a. plus f (to a)) r
after {to = to} f counts =
    record {
      over = λ c s a d rest e.
          let o = counts.over c s a d rest e in
          record {
            grows = o.grows;
            past = o.past;
            shape = o.shape;
            counts = λ w later h x. omega (
              arith,
              o.counts w later h x,
              by_number_never (place_of x w),
              by_number_both (place_of x w) (f h) ((to a).often h),
            );
          };
    }
