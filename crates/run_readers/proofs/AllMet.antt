-- Lists into which pairs join, each once: what stands in them, how long they are, and that nothing stands in them twice.
-- Each law is one on a pair that joins, and then an induction on those that join.
use Prim.Native.Nat.{ℕ, ◌≤◌}
use mathlib.Core.Path.{◌≡◌, refl, sym, ap, ◌∙◌}
use mathlib.Core.Bool.{Bool, true, false, ◌||◌, true≢false}
use mathlib.Core.Logic.{◌⊎◌, inl, inr, ⊎_elim}
use mathlib.Core.List.{List, [], ◌∷◌, ◌++◌}
use native.Mathlib.Omega.{arith}
use lib.ListN.{length, length-append}
use Rattle.meaning.specs.Bytes.{among, when◌then◌else◌}
use Rattle.laws.proofs.Lists.Among.{
  In,
  here,
  there,
  in_none,
  in_single,
  in_cons_cases,
  in_append_cases,
  in_append_left,
  in_append_right,
  in_same,
  among_in,
  in_among,
  not_among,
}
use Rattle.laws.proofs.Lists.Pigeonhole.{Distinct, distinct_last}
use Rattle.run_readers.specs.Readers.{is_some, met_with, all_met}

-- A pair that is in the list, and one that is not.
pub met_there : (ps : List ℕ) (p : ℕ) → among p ps ≡ true → met_with ps p ≡ ps
unfolding met_with when◌then◌else◌
met_there ps p e = rw e

pub met_new : (ps : List ℕ) (p : ℕ) → among p ps ≡ false → met_with ps p ≡ ps ++ (p ∷ [])
unfolding met_with when◌then◌else◌
met_new ps p e = rw e

-- What holds of the list whether the pair is new or not.
met_either : (P : List ℕ → Type 0) (ps : List ℕ) (p : ℕ) → (among p ps ≡ true → P ps) → (among p ps ≡ false → P (ps ++ (p ∷ [])))
    → P (met_with ps p)
met_either P ps p old new = go (among p ps) refl
  where
    go : (b : Bool) → among p ps ≡ b → P (met_with ps p)
    go true e = rw (met_there ps p e) (old e)
    go false e = rw (met_new ps p e) (new e)

-- Those that join after others.
pub all_met_append : (ps ms rs : List ℕ) → all_met ps (ms ++ rs) ≡ all_met (all_met ps ms) rs
unfolding all_met
all_met_append ps [] rs = refl
all_met_append ps (m ∷ ms) rs = all_met_append (met_with ps m) ms rs

pub all_met_none : (ps : List ℕ) → all_met ps [] ≡ ps
unfolding all_met
all_met_none ps = refl

pub all_met_one : (ps : List ℕ) (p : ℕ) → all_met ps (p ∷ []) ≡ met_with ps p
unfolding all_met
all_met_one ps p = refl

-- Whether a list has a pair at all.
pub some_append : (ps qs : List ℕ) → is_some (ps ++ qs) ≡ is_some ps || is_some qs
unfolding is_some
some_append [] qs = refl
some_append (p ∷ ps) qs = refl

pub some_not_none : (ps : List ℕ) → is_some ps ≡ true → ps ≡ [] → ⊥
unfolding is_some
some_not_none ps some none = true≢false (sym some ∙ ap is_some none)

pub none_is_empty : (ps : List ℕ) → is_some ps ≡ false → ps ≡ []
unfolding is_some
none_is_empty [] e = refl
none_is_empty (p ∷ ps) e = absurd (true≢false e)

pub not_none_some : (ps : List ℕ) → (ps ≡ [] → ⊥) → is_some ps ≡ true
unfolding is_some
not_none_some [] h = absurd (h refl)
not_none_some (p ∷ ps) h = refl

met_some : (ps : List ℕ) (p : ℕ) → is_some (met_with ps p) ≡ true
unfolding is_some among
met_some [] p = met_either (λ l. is_some l ≡ true) [] p (λ e. absurd (true≢false (sym e))) (λ e. refl)
met_some (q ∷ ps) p = met_either (λ l. is_some l ≡ true) (q ∷ ps) p (λ e. refl) (λ e. refl)

pub all_met_some : (ps rs : List ℕ) → is_some ps ≡ true → is_some (all_met ps rs) ≡ true
unfolding all_met
all_met_some ps [] e = e
all_met_some ps (r ∷ rs) e = all_met_some (met_with ps r) rs (met_some ps r)

pub all_met_of_some : (ps rs : List ℕ) → is_some rs ≡ true → is_some (all_met ps rs) ≡ true
unfolding all_met is_some
all_met_of_some ps [] e = absurd (true≢false (sym e))
all_met_of_some ps (r ∷ rs) e = all_met_some (met_with ps r) rs (met_some ps r)

pub all_met_not_none : (ps : List ℕ) (r : ℕ) (rs : List ℕ) → all_met ps (r ∷ rs) ≡ [] → ⊥
unfolding is_some
all_met_not_none ps r rs = some_not_none (all_met ps (r ∷ rs)) (all_met_of_some ps (r ∷ rs) refl)

-- Its length only grows.
met_longer : (ps : List ℕ) (p : ℕ) → length ps ≤ length (met_with ps p)
met_longer ps p = met_either (λ l. length ps ≤ length l) ps p (λ e. omega arith) (λ e. simp length-append (omega arith))

pub all_met_longer : (ps rs : List ℕ) → length ps ≤ length (all_met ps rs)
unfolding all_met
all_met_longer ps [] = omega arith
all_met_longer ps (r ∷ rs) = omega (arith, met_longer ps r, all_met_longer (met_with ps r) rs)

-- What stands in it stood in it or has joined; and what stood in it or has joined stands in it.
in_met : (ps : List ℕ) (p q : ℕ) → In q (met_with ps p) → In q ps ⊎ (q ≡ p)
in_met ps p q =
    met_either (λ l. In q l → In q ps ⊎ (q ≡ p)) ps p (λ e m. inl m) (λ e m. ⊎_elim inl (λ o. inr (in_single o)) (in_append_cases ps m))

met_in_old : (ps : List ℕ) (p q : ℕ) → In q ps → In q (met_with ps p)
met_in_old ps p q m = met_either (λ l. In q l) ps p (λ e. m) (λ e. in_append_left (p ∷ []) m)

met_in_new : (ps : List ℕ) (p : ℕ) → In p (met_with ps p)
met_in_new ps p = met_either (λ l. In p l) ps p (λ e. among_in p ps e) (λ e. in_append_right ps (here refl))

pub in_all_met : (ps rs : List ℕ) (q : ℕ) → In q (all_met ps rs) → In q ps ⊎ In q rs
unfolding all_met
in_all_met ps [] q m = inl m
in_all_met ps (r ∷ rs) q m =
    ⊎_elim (λ o. ⊎_elim inl (λ e. inr (here e)) (in_met ps r q o)) (λ n. inr (there n)) (in_all_met (met_with ps r) rs q m)

pub all_met_in_old : (ps rs : List ℕ) (q : ℕ) → In q ps → In q (all_met ps rs)
unfolding all_met
all_met_in_old ps [] q m = m
all_met_in_old ps (r ∷ rs) q m = all_met_in_old (met_with ps r) rs q (met_in_old ps r q m)

pub all_met_in_new : (ps rs : List ℕ) (q : ℕ) → In q rs → In q (all_met ps rs)
unfolding all_met
all_met_in_new ps [] q m = absurd (in_none m)
all_met_in_new ps (r ∷ rs) q m =
    ⊎_elim (λ e. all_met_in_old (met_with ps r) rs q (in_same e (met_in_new ps r))) (λ n. all_met_in_new (met_with ps r) rs q n) (in_cons_cases m)

-- The same of a list that was empty, by the test.
pub among_all_met : (rs : List ℕ) (q : ℕ) → among q (all_met [] rs) ≡ true → among q rs ≡ true
among_all_met rs q e = ⊎_elim (λ m. absurd (in_none m)) in_among (in_all_met [] rs q (among_in q (all_met [] rs) e))

pub all_met_among : (rs : List ℕ) (q : ℕ) → among q rs ≡ true → among q (all_met [] rs) ≡ true
all_met_among rs q e = in_among (all_met_in_new [] rs q (among_in q rs e))

-- Nothing stands in it twice.
met_distinct : (ps : List ℕ) (p : ℕ) → Distinct ps → Distinct (met_with ps p)
met_distinct ps p d = met_either (λ l. Distinct l) ps p (λ e. d) (λ e. distinct_last ps p d (not_among p ps e))

pub all_met_distinct : (ps rs : List ℕ) → Distinct ps → Distinct (all_met ps rs)
unfolding all_met
all_met_distinct ps [] d = d
all_met_distinct ps (r ∷ rs) d = all_met_distinct (met_with ps r) rs (met_distinct ps r d)
