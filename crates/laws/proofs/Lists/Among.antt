-- Membership: a number is among others, each once, some pass a test, the numbers below n.
-- `In` is a place in the list; `among` decides it.
use Prim.Native.Nat.{ℕ, zero, suc, ◌<◌}
use mathlib.Core.Path.{◌≡◌, refl, sym, ap, ◌∙◌}
use mathlib.Core.Logic.{◌⊎◌, inl, inr, ⊎_elim}
use mathlib.Core.Bool.{Bool, true, false, false≢true, true≢false}
use mathlib.Core.List.{List, [], ◌∷◌, ◌++◌}
use native.Mathlib.Decide.{ℕ_discrete}
use native.Mathlib.Numerals.{add-one}
use native.Mathlib.Omega.{arith}
use lib.Dec.{eqb}
use lib.ListN.{length, length-append}
use borrow.Author.Tests.{eqb-true, eq-eqb}
use Rattle.meaning.specs.Bytes.{among, any, those, each_once, up_to, when◌then◌else◌}
use Rattle.laws.proofs.Lists.Tests.{or_true, or_true_right}
pub use mathlib.Core.List.Memᴰ.{append_cases as in_append_cases}
pub use mathlib.Core.List.Memᴰ.{append_left as in_append_left}
pub use mathlib.Core.List.Memᴰ.{append_right as in_append_right}
pub use mathlib.Core.List.Memᴰ.{cases_cons as in_cons_cases}
pub use mathlib.Core.List.Memᴰ.{cast as in_same}
pub use mathlib.Core.List.Memᴰ.{eq_of_singleton as in_single}
pub use mathlib.Core.List.Memᴰ.{head as here}
pub use mathlib.Core.List.Memᴰ.{map as in_map}
pub use mathlib.Core.List.Memᴰ.{not-nil as in_none}
pub use mathlib.Core.List.Memᴰ.{tail as there}
pub use mathlib.Core.List.{
  Memᴰ as In,
}

-- A number is among these exactly if it stands in the list.
pub among_in : (n : ℕ) (l : List ℕ) → among n l ≡ true → In n l
unfolding among
among_in n [] e = absurd (false≢true e)
among_in n (m ∷ ms) e = go (or_true (eqb n m) (among n ms) e) (among_in n ms)
  where
    go : (eqb n m ≡ true) ⊎ (among n ms ≡ true) → (among n ms ≡ true → In n ms) → In n (m ∷ ms)
    go (inl same) further = here (eqb-true n m same)
    go (inr later) further = there (further later)

pub in_among : {n : ℕ} {l : List ℕ} → In n l → among n l ≡ true
unfolding among
in_among {n} (here {x = m} e) = rw (eq-eqb n m e)
in_among {n} (there {x = m} {xs = ms} p) = or_true_right (eqb n m) (among n ms) (in_among p)

pub not_among : (n : ℕ) (l : List ℕ) → among n l ≡ false → In n l → ⊥
not_among n l e p = true≢false (sym (in_among p) ∙ e)

pub in_or_not : (n : ℕ) (l : List ℕ) → In n l ⊎ (In n l → ⊥)
in_or_not n l = go (among n l) refl
  where
    go : (b : Bool) → among n l ≡ b → In n l ⊎ (In n l → ⊥)
    go true e = inl (among_in n l e)
    go false e = inr (not_among n l e)

-- What `each_once` keeps stood in the list; what it leaves out was seen.
pub each_once_in : (seen ns : List ℕ) (m : ℕ) → In m (each_once seen ns) → In m ns
unfolding each_once
each_once_in seen [] m p = p
each_once_in seen (n ∷ ns) m p = go (among n seen) refl (each_once_in seen ns m) (each_once_in (n ∷ seen) ns m)
  where
    go : (b : Bool) → among n seen ≡ b
        → (In m (each_once seen ns) → In m ns) → (In m (each_once (n ∷ seen) ns) → In m ns)
        → In m (n ∷ ns)
    go true e f g = there (f (rw (e, each_once) at p))
    go false e f g = ⊎_elim here (λ q. there (g q)) (in_cons_cases (rw (e, each_once) at p))

pub each_once_covers : (seen ns : List ℕ) (m : ℕ) → In m ns → In m (each_once seen ns) ⊎ In m seen
unfolding each_once
each_once_covers seen [] m p = inl p
each_once_covers seen (n ∷ ns) m p = go (among n seen) refl (each_once_covers seen ns m) (each_once_covers (n ∷ seen) ns m) (in_cons_cases p)
  where
    go : (b : Bool) → among n seen ≡ b
        → (In m ns → In m (each_once seen ns) ⊎ In m seen) → (In m ns → In m (each_once (n ∷ seen) ns) ⊎ In m (n ∷ seen))
        → (m ≡ n) ⊎ In m ns
        → In m (each_once seen (n ∷ ns)) ⊎ In m seen
    go true e f g (inl q) = inr (in_same q (among_in n seen e))
    go true e f g (inr q) = rw (e, each_once) (f q)
    go false e f g (inl q) = rw (e, each_once) (inl (here q))
    go false e f g (inr q) = rw (e, each_once) (seen_or_new (g q))
      where
        seen_or_new : In m (each_once (n ∷ seen) ns) ⊎ In m (n ∷ seen) → In m (n ∷ each_once (n ∷ seen) ns) ⊎ In m seen
        seen_or_new (inl r) = inl (there r)
        seen_or_new (inr r) = ⊎_elim (λ s. inl (here s)) inr (in_cons_cases r)

-- Some element of a list passes a test exactly if one in it does.
pub any_in : {A : Type 0} (test : A → Bool) (l : List A) → any test l ≡ true → (a : A) × In a l × (test a ≡ true)
unfolding any
any_in test [] e = absurd (false≢true e)
any_in {A} test (a ∷ rest) e = go (or_true (test a) (any test rest) e) (any_in test rest)
  where
    go : (test a ≡ true) ⊎ (any test rest ≡ true) → (any test rest ≡ true → (b : A) × In b rest × (test b ≡ true))
        → (b : A) × In b (a ∷ rest) × (test b ≡ true)
    go (inl now) further = (a, here refl, now)
    go (inr later) further = let (b, p, q) = further later in (b, there p, q)

pub in_any : {A : Type 0} (test : A → Bool) {a : A} {l : List A} → In a l → test a ≡ true → any test l ≡ true
unfolding any
in_any test {a = a} (here {x = b} {xs = rest} e) q = rw (← e, q)
in_any test (there {x = b} {xs = rest} p) q = or_true_right (test b) (any test rest) (in_any test p q)

-- A test of some of a list, with more behind it, and of the last.
pub any_append_left : {A : Type 0} (test : A → Bool) (l r : List A) → any test l ≡ true → any test (l ++ r) ≡ true
any_append_left test l r e = let (a, m, q) = any_in test l e in in_any test (in_append_left r m) q

pub any_append_last : {A : Type 0} (test : A → Bool) (l : List A) (a : A) → test a ≡ true → any test (l ++ (a ∷ [])) ≡ true
any_append_last test l a e = in_any test (in_append_right l (here refl)) e

-- Those of a list that pass a test.
pub in_those : {A : Type 0} (test : A → Bool) {a : A} {l : List A} → In a l → test a ≡ true → In a (those test l)
unfolding those when◌then◌else◌
in_those test {a = a} (here {x = b} {xs = rest} e) q = rw (ap test (sym e) ∙ q) (here e)
in_those {A} test {a = a} (there {x = b} {xs = rest} p) q = go (test b) (in_those test p q)
  where
    go : (c : Bool) → In a (those test rest) → In a (when c then b ∷ those test rest else those test rest)
    go true r = there r
    go false r = r

-- The numbers up to n are those below n.
pub up_to_length : (n : ℕ) → length (up_to n) ≡ n
unfolding up_to
up_to_length zero = refl
up_to_length (suc n) = length-append (up_to n) (n ∷ []) ∙ rw (up_to_length n) (add-one n)

pub below_in_up_to : (n i : ℕ) → i < n → In i (up_to n)
unfolding up_to
below_in_up_to zero i h = absurd (omega arith)
below_in_up_to (suc n) i h = go (ℕ_discrete i n) (below_in_up_to n i)
  where
    go : Dec (i ≡ n) → (i < n → In i (up_to n)) → In i (up_to n ++ (n ∷ []))
    go (yes e) further = in_append_right (up_to n) (here e)
    go (no d) further = in_append_left (n ∷ []) (further (omega arith))
