-- The readers that look at a token, take a sign or a variable, or count: what they pass over, by each half of each variable.
-- A variable's number is its place among those counted, so its token is one occurrence of its half under that number.
use Prim.Native.Char.{Char}
use Prim.Native.Nat.{ℕ, suc, ◌+◌}
use mathlib.Core.Path.{◌≡◌, refl, sym, ◌∙◌}
use mathlib.Core.Bool.{Bool, true, false, not}
use mathlib.Core.List.{List, [], ◌∷◌, ◌++◌}
use mathlib.Core.Option.{Option, none, some}
use native.Mathlib.Omega.{arith}
use lib.Dec.{ltb, eqb}
use lib.ListN.{length}
use borrow.Author.Tests.{eqb-true, eq-eqb}
use Rattle.meaning.specs.Bytes.{Bytes, byte, when◌then◌else◌, same, any}
use Rattle.meaning.specs.Terms.{Half, Term, same_half, occurrences}
use Rattle.meaning.specs.Tokens.{Token, name, variable, integer, sign, bad, Tokens, ends, token}
use Rattle.meaning.specs.Faults.{is_half, occurs_at}
use Rattle.meaning.specs.Items.{Counted, read, malformed, passed, Reader, read_on, ◌>>=◌, give, is, standing, expect, either, count_name, place_of, new_variable, count_variable, count_compound}
use Rattle.laws.proofs.Lists.{differ, false_not_true, same_refl, same_true}
use Rattle.laws.proofs.Reading.Pairing.{at_once, over}
use Rattle.laws.proofs.Reading.Passed.{
  Extends,
  extends_refl,
  cut_behind,
  stop_ends,
  Mark,
  before_stop,
  behind_stop,
  never,
  by_number,
  by_number_never,
  Over,
  over_nothing,
  Counts,
  CountsBehind,
  give_counts,
  over_token,
  cannot_stand_behind,
  if_behind,
  next_counts,
}

-- A spelling keeps its place when others are counted; a new one has the next place; and a place has one spelling.
pub place_stays : (x : Bytes) (l m : List Bytes) (n : ℕ) → place_of x l ≡ some n → place_of x (l ++ m) ≡ some n
unfolding place_of
place_stays x [] m n e = absurd (differ (cc))
place_stays x (y ∷ l) m n e = go (same x y) refl (place_of x l) refl (place_stays x l m)
  where
    go : (b : Bool) → same x y ≡ b → (o : Option ℕ) → place_of x l ≡ o → ((k : ℕ) → place_of x l ≡ some k → place_of x (l ++ m) ≡ some k)
        → place_of x (y ∷ (l ++ m)) ≡ some n
    go true t o e' further = rw (t, place_of) (rw (t, place_of) at e)
    go false t none e' further = let e'' : none ≡ some n = rw (t, e', place_of) at e in absurd (differ (cc))
    go false t (some k) e' further = rw (t, further k e', place_of) (rw (t, e', place_of) at e)

pub place_new : (x : Bytes) (l : List Bytes) → place_of x l ≡ none → place_of x (l ++ (x ∷ [])) ≡ some (length l)
unfolding place_of
place_new x [] e = rw (same_refl x, place_of)
place_new x (y ∷ l) e = go (same x y) refl (place_of x l) refl (place_new x l)
  where
    go : (b : Bool) → same x y ≡ b → (o : Option ℕ) → place_of x l ≡ o → (place_of x l ≡ none → place_of x (l ++ (x ∷ [])) ≡ some (length l))
        → place_of x (y ∷ (l ++ (x ∷ []))) ≡ some (suc (length l))
    go true t o e' further = let e'' : ◌≡◌ {A = Option ℕ} (some 0) none = rw (t, place_of) at e in absurd (differ (cc))
    go false t none e' further = rw (t, further e', place_of)
    go false t (some k) e' further = let e'' : some (suc k) ≡ none = rw (t, e', place_of) at e in absurd (differ (cc))

pub place_tells : (x y : Bytes) (l : List Bytes) (n : ℕ) → place_of x l ≡ some n → place_of y l ≡ some n → x ≡ y
unfolding place_of
place_tells x y [] n e f = absurd (differ (cc))
place_tells x y (z ∷ l) n e f = go (same x z) refl (same y z) refl (place_of x l) refl (place_of y l) refl (place_tells x y l)
  where
    go : (a : Bool) → same x z ≡ a → (b : Bool) → same y z ≡ b → (o : Option ℕ) → place_of x l ≡ o → (p : Option ℕ) → place_of y l ≡ p
        → ((k : ℕ) → place_of x l ≡ some k → place_of y l ≡ some k → x ≡ y) → x ≡ y
    go true s true t o e' p f' further = same_true x z s ∙ sym (same_true y z t)
    go true s false t o e' none f' further = let f'' : none ≡ some n = rw (t, f', place_of) at f in absurd (differ (cc))
    go true s false t o e' (some k) f' further =
        let e'' : some 0 ≡ some n = rw (s, place_of) at e in
        let f'' : some (suc k) ≡ some n = rw (t, f', place_of) at f in
        let z : suc k ≡ 0 = cc in absurd (omega arith)
    go false s true t none e' p f' further = let e'' : none ≡ some n = rw (s, e', place_of) at e in absurd (differ (cc))
    go false s true t (some k) e' p f' further =
        let e'' : some (suc k) ≡ some n = rw (s, e', place_of) at e in
        let f'' : some 0 ≡ some n = rw (t, place_of) at f in
        let z : suc k ≡ 0 = cc in absurd (omega arith)
    go false s false t none e' p f' further = let e'' : none ≡ some n = rw (s, e', place_of) at e in absurd (differ (cc))
    go false s false t (some k) e' none f' further = let f'' : none ≡ some n = rw (t, f', place_of) at f in absurd (differ (cc))
    go false s false t (some k) e' (some m) f' further =
        let e'' : some (suc k) ≡ some n = rw (s, e', place_of) at e in
        let f'' : some (suc m) ≡ some n = rw (t, f', place_of) at f in
        let z : suc k ≡ suc m = cc in
        let z' : m ≡ k = omega arith in
        further k e' (rw z' at f')

-- A variable's token is one occurrence of its half, under its number.
module _ (x : Bytes) (w : List Bytes) (n : ℕ) (e : place_of x w ≡ some n) (h k : Half) (y : Bytes) (place : ℕ) (s : Tokens) where
  pub variable_occurs : length (occurs_at h y (token place (variable k x) s))
      ≡ by_number (place_of y w) (λ m. occurrences h m (Term.variable k n)) + length (occurs_at h y s)
  unfolding occurs_at is_half occurrences when◌then◌else◌ by_number
  variable_occurs = go (same_half h k) refl (same y x) refl (place_of y w) refl
    where
      go : (a : Bool) → same_half h k ≡ a → (b : Bool) → same y x ≡ b → (o : Option ℕ) → place_of y w ≡ o
          → length (occurs_at h y (token place (variable k x) s))
          ≡ by_number (place_of y w) (λ m. occurrences h m (Term.variable k n)) + length (occurs_at h y s)
      go false p b q o r = rw (p, by_number_never (place_of y w)) (omega arith)
      go true p false q none r = rw (p, q, r) (omega arith)
      go true p false q (some m) r = rw (p, q, r, other (eqb m n) refl) (omega arith)
        where
          other : (c : Bool) → eqb m n ≡ c → eqb m n ≡ false
          other true c =
              let m_is : m ≡ n = eqb-true m n c in
              let y_is : y ≡ x = place_tells y x w n (rw m_is at r) e in
              absurd (false_not_true (same y x) q (rw y_is (same_refl x)))
          other false c = c
      go true p true q o r =
          let y_is : y ≡ x = same_true y x q in
          let r' : place_of y w ≡ some n = rw y_is e in
          rw (p, q, r', eq-eqb n n refl) (omega arith)

-- What is looked at or counted without a token taken.
pub standing_counts : {from : Mark} (can : Token → Bool) → Counts from (λ u. from) (standing can)
unfolding standing when◌then◌else◌
standing_counts {from} can = record { over = go }
  where
    go : (c : Counted) (s : Tokens) (a : Unit {0}) (d : Counted) (rest : Tokens) → standing can c s ≡ read a d rest → Over from from c s d rest
    go c (ends place) a d rest e = absurd (differ (cc))
    go c (token place t s) a d rest e = by (can t) refl
      where
        by : (b : Bool) → can t ≡ b → Over from from c (token place t s) d rest
        by true q =
            let e' : read (tt {0}) c (token place t s) ≡ read a d rest = rw q at e in
            let d_is : c ≡ d = cc in
            let rest_is : token place t s ≡ rest = cc in
            rw (← d_is, ← rest_is) (over_nothing from from c (token place t s) (λ h. h) (λ h n. refl))
        by false q = let e' : malformed place ≡ read a d rest = rw q at e in absurd (differ (cc))

-- Nothing is passed over and no variable counted.
same_variables : (from : Mark) (c d : Counted) (s rest : Tokens) → rest ≡ s → d.variables ≡ c.variables → Over from from c s d rest
same_variables from c d s rest e v =
    rw e (record { grows = rw v (extends_refl c.variables); past = at_once; shape = λ h. h; counts = λ w later h x. refl })

abbrev with_name : Bytes → Counted → Counted
with_name f c = record { names = c.names ++ (f ∷ []); variables = c.variables; compounds = c.compounds }

abbrev with_compound : Counted → Counted
with_compound c = record { names = c.names; variables = c.variables; compounds = c.compounds + 1 }

pub count_name_counts : {from : Mark} (f : Bytes) → Counts from (λ u. from) (count_name f)
unfolding count_name when◌then◌else◌
count_name_counts {from} f = record { over = go }
  where
    go : (c : Counted) (s : Tokens) (a : Unit {0}) (d : Counted) (rest : Tokens) → count_name f c s ≡ read a d rest → Over from from c s d rest
    go c s a d rest e = by (any (same f) c.names) refl (ltb (length c.names) 256) refl
      where
        by : (there : Bool) → any (same f) c.names ≡ there → (room : Bool) → ltb (length c.names) 256 ≡ room → Over from from c s d rest
        by true p room q =
            let e' : read (tt {0}) c s ≡ read a d rest = rw (p, count_name) at e in
            let d_is : c ≡ d = cc in
            same_variables from c d s rest (cc) (rw (← d_is))
        by false p true q =
            let e' : read (tt {0}) (with_name f c) s ≡ read a d rest = rw (p, q, count_name) at e in
            let d_is : with_name f c ≡ d = cc in
            same_variables from c d s rest (cc) (rw (← d_is))
        by false p false q = let e' : passed ≡ read a d rest = rw (p, q, count_name) at e in absurd (differ (cc))

pub count_compound_counts : {from : Mark} → Counts from (λ n. from) count_compound
unfolding count_compound when◌then◌else◌
count_compound_counts {from} = record { over = go }
  where
    go : (c : Counted) (s : Tokens) (a : ℕ) (d : Counted) (rest : Tokens) → count_compound c s ≡ read a d rest → Over from from c s d rest
    go c s a d rest e = by (ltb c.compounds 32) refl
      where
        by : (room : Bool) → ltb c.compounds 32 ≡ room → Over from from c s d rest
        by true q =
            let e' : read c.compounds (with_compound c) s ≡ read a d rest = rw (q, count_compound) at e in
            let d_is : with_compound c ≡ d = cc in
            same_variables from c d s rest (cc) (rw (← d_is))
        by false q = let e' : passed ≡ read a d rest = rw (q, count_compound) at e in absurd (differ (cc))

-- One of the signs is taken.
pub sign_no_half : (c : Char) (t : Token) → is c t ≡ true → (h : Half) (x : Bytes) → is_half h x t ≡ false
unfolding is is_half
sign_no_half c (name f) e h x = refl
sign_no_half c (variable k y) e h x = absurd (false_not_true false refl e)
sign_no_half c (integer i) e h x = refl
sign_no_half c (sign b) e h x = refl
sign_no_half c bad e h x = refl

-- A sign other than `:-`.
abbrev pub NotImplied : Char → Type 0
NotImplied c = eqb (byte c) (byte ":") ≡ false

pub sign_not_implied : (c : Char) (t : Token) → NotImplied c → is c t ≡ true → is ":" t ≡ false
unfolding is
sign_not_implied c (name f) n e = refl
sign_not_implied c (variable h x) n e = refl
sign_not_implied c (integer i) n e = refl
sign_not_implied c (sign b) n e = rw (eqb-true b (byte c) e) n
sign_not_implied c bad n e = refl

pub taken : {A : Type 0} {f : Half → ℕ → ℕ} {to : A → Mark} {r : Reader A} (c : Char) (t : Token) → NotImplied c → is c t ≡ true → Counts (before_stop f) to r
    → CountsBehind (before_stop f) to t r
taken c t n e counts = over_token false t (sign_no_half c t e) (sign_not_implied c t n e) (λ place s h. cut_behind place t s h) counts

pub stop_taken : {A : Type 0} {f : Half → ℕ → ℕ} {to : A → Mark} {r : Reader A} (t : Token) → is "." t ≡ true → Counts (behind_stop f) to r
    → CountsBehind (before_stop f) to t r
unfolding byte
stop_taken t e counts = over_token true t (sign_no_half "." t e) (sign_not_implied "." t refl e) (λ place s h. stop_ends place t s e h) counts

pub expect_counts : {f : Half → ℕ → ℕ} (c : Char) → NotImplied c → Counts (before_stop f) (λ u. before_stop f) (expect c)
unfolding expect
expect_counts c n =
    next_counts (λ place t. if_behind (is c t) t
    (λ e. taken c t n e (give_counts tt (λ s h. h) (λ h n. refl)))
    (λ e. cannot_stand_behind place t))

pub either_counts : {f : Half → ℕ → ℕ} (c d : Char) → NotImplied c → NotImplied d → Counts (before_stop f) (λ b. before_stop f) (either c d)
unfolding either
either_counts c d n m =
    next_counts (λ place t. if_behind (is c t) t
    (λ e. taken c t n e (give_counts true (λ s h. h) (λ h n. refl)))
    (λ e. if_behind (is d t) t
    (λ e. taken d t m e (give_counts false (λ s h. h) (λ h n. refl)))
    (λ e. cannot_stand_behind place t)))

-- The full stop is one of the two.
abbrev pub stop_unless : (Half → ℕ → ℕ) → Bool → Mark
stop_unless f b = record { stopped = not b; often = f }

pub either_stop_counts : {f : Half → ℕ → ℕ} (c : Char) → NotImplied c → Counts (before_stop f) (stop_unless f) (either c ".")
unfolding either
either_stop_counts c n =
    next_counts (λ place t. if_behind (is c t) t
    (λ e. taken c t n e (give_counts true (λ s h. h) (λ h n. refl)))
    (λ e. if_behind (is "." t) t
    (λ e. stop_taken t e (give_counts false (λ s h. h) (λ h n. refl)))
    (λ e. cannot_stand_behind place t)))

-- A variable is counted, unless it is there, and its token is passed over.
abbrev with_variable : Bytes → Counted → Counted
with_variable x c = record { names = c.names; variables = c.variables ++ (x ∷ []); compounds = c.compounds }

abbrev pub term_often : Term → Mark
term_often t = before_stop (λ h n. occurrences h n t)

module _ (k : Half) (x : Bytes) where
  variable_over : (place : ℕ) (c : Counted) (s : Tokens) (d : Counted) (n : ℕ) → Extends c.variables d.variables → place_of x d.variables ≡ some n
      → Over (before_stop never) (term_often (Term.variable k n)) c (token place (variable k x) s) d s
  unfolding is
  variable_over place c s d n grows here =
      record {
        grows = grows;
        past = over refl at_once;
        shape = λ h. cut_behind place (variable k x) s h;
        counts = λ w later h y.
            let there : place_of x w ≡ some n = rw later.1 (place_stays x d.variables later.0 n here) in
            omega (arith, by_number_never (place_of y w), variable_occurs x w n there h k y place s);
      }

  counted_over : (place : ℕ) (c : Counted) (s : Tokens) (o : Option ℕ) → place_of x c.variables ≡ o → (a : Term) (d : Counted) (rest : Tokens)
      → read_on (new_variable x o c s) (λ n. give (Term.variable k n)) ≡ read a d rest
      → Over (before_stop never) (term_often a) c (token place (variable k x) s) d rest
  unfolding read_on new_variable give when◌then◌else◌
  counted_over place c s (some n) here a d rest e =
      let a_is : Term.variable k n ≡ a = cc in
      let d_is : c ≡ d = cc in
      let rest_is : s ≡ rest = cc in
      rw (← a_is, ← d_is, ← rest_is) (variable_over place c s c n (extends_refl c.variables) here)
  counted_over place c s none new a d rest e = by (ltb (length c.variables) 16) refl
    where
      by : (room : Bool) → ltb (length c.variables) 16 ≡ room → Over (before_stop never) (term_often a) c (token place (variable k x) s) d rest
      by true q =
          let e' : read (Term.variable k (length c.variables)) (with_variable x c) s ≡ read a d rest = rw q at e in
          let a_is : Term.variable k (length c.variables) ≡ a = cc in
          let d_is : with_variable x c ≡ d = cc in
          let rest_is : s ≡ rest = cc in
          rw (← a_is, ← d_is, ← rest_is)
          (variable_over place c s (with_variable x c) (length c.variables) (x ∷ [], refl) (place_new x c.variables new))
      by false q = let e' : passed ≡ read a d rest = rw q at e in absurd (differ (cc))

  pub variable_counts : CountsBehind (before_stop never) term_often (variable k x) (count_variable x >>= λ n. give (Term.variable k n))
  unfolding count_variable ◌>>=◌
  variable_counts = record { over = λ place c s a d rest e. counted_over place c s (place_of x c.variables) refl a d rest e }
