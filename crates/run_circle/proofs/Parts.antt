-- A term held by a scratch is held by another one that has its compounds, and so is a term of an item renamed apart, by the item's places raised.
use Prim.Native.Nat.{ℕ, suc, ◌+◌, ◌-◌, ◌≤◌, ◌<◌}
use mathlib.Core.Path.{◌≡◌, refl, sym, ap, ◌∙◌}
use mathlib.Core.Logic.{inl, inr}
use mathlib.Core.List.{List}
use native.Mathlib.Omega.{arith}
use lib.ListN.{length, get_or}
use Rattle.meaning.specs.Terms.{Constant, Functor, cell, named, Term, Terms, end, more, count, renamed, all_renamed}
use Rattle.laws.proofs.Terms.Standing.{Stands, StandsIn}
use Rattle.term.specs.Cells.{Places, term_word, functor_word}
use Rattle.term.specs.Words.{Content, word}
use Rattle.term.specs.Holds.{Holds, HoldsFrom}
use Rattle.term.specs.Setting.{Within, AllWithin}

-- The places of terms renamed apart by p and c.
abbrev pub raised : Places → ℕ → ℕ → Places
raised places p c =
    record { names = places.names; pair = λ n. places.pair (n - p); compound = λ n. places.compound (n - c); width = λ n. places.width (n - c) }

-- The pairs of a term are in its range, before and after renaming.
mutual
  unfolding Stands StandsIn Within AllWithin

  pub within_stands : (p c : ℕ) (t : Term) → Within p c t → (j : ℕ) → Stands j t → j < p
  within_stands p c (Term.variable h n) w j s = rw s w
  within_stands p c (Term.constant k) w j s = absurd s
  within_stands p c (Term.compound n f ts) w j s = within_all_stand p c ts w.1 j s

  within_all_stand : (p c : ℕ) (ts : Terms) → AllWithin p c ts → (j : ℕ) → StandsIn j ts → j < p
  within_all_stand p c end w j s = absurd s
  within_all_stand p c (more t ts) w j (inl s) = within_stands p c t w.0 j s
  within_all_stand p c (more t ts) w j (inr s) = within_all_stand p c ts w.1 j s

mutual
  unfolding Stands StandsIn Within AllWithin renamed all_renamed

  pub renamed_stands : (n m p c : ℕ) (t : Term) → Within p c t → (j : ℕ) → Stands j (renamed n m t) → (n ≤ j) × (j < n + p)
  renamed_stands n m p c (Term.variable h i) w j s = (omega arith, omega arith)
  renamed_stands n m p c (Term.constant k) w j s = absurd s
  renamed_stands n m p c (Term.compound i f ts) w j s = all_renamed_stand n m p c ts w.1 j s

  all_renamed_stand : (n m p c : ℕ) (ts : Terms) → AllWithin p c ts → (j : ℕ) → StandsIn j (all_renamed n m ts) → (n ≤ j) × (j < n + p)
  all_renamed_stand n m p c end w j s = absurd s
  all_renamed_stand n m p c (more t ts) w j (inl s) = renamed_stands n m p c t w.0 j s
  all_renamed_stand n m p c (more t ts) w j (inr s) = all_renamed_stand n m p c ts w.1 j s

count_renamed : (n m : ℕ) (ts : Terms) → count (all_renamed n m ts) ≡ count ts
unfolding all_renamed count
count_renamed n m end = refl
count_renamed n m (more t ts) = ap suc (count_renamed n m ts)

raised_functor : (places : Places) (p c : ℕ) (f : Functor) (k : ℕ) → functor_word (raised places p c) f k ≡ functor_word places f k
raised_functor places p c cell k = refl
raised_functor places p c (named f) k = refl

back : (p n : ℕ) → p + n - p ≡ n
back p n = omega arith

pub raised_word : (places : Places) (p c : ℕ) (t : Term) → term_word (raised places p c) (renamed p c t) ≡ term_word places t
unfolding renamed
raised_word places p c (Term.variable h n) = ap (λ k. word (Content.variable h (places.pair k))) (back p n)
raised_word places p c (Term.constant (Constant.integer i)) = refl
raised_word places p c (Term.constant (Constant.name f)) = refl
raised_word places p c (Term.constant Constant.empty) = refl
raised_word places p c (Term.compound n f ts) = ap (λ k. word (Content.compound (places.compound k))) (back c n)

-- The other scratch is as long and has the same words up to a limit, and the compounds lie before it.
module _ (s front : List ℕ) (limit : ℕ) (long : length s ≤ length front) (same : (k : ℕ) → k < limit → get_or front k 0 ≡ get_or s k 0)
    (places : Places) (pairs compounds : ℕ) (before : (m : ℕ) → m < compounds → places.compound m + places.width m ≤ limit) where
  mutual
    unfolding Holds HoldsFrom Within AllWithin count

    pub holds_part : (t : Term) → Holds s places t → Within pairs compounds t → Holds front places t
    holds_part (Term.variable h n) held w = tt
    holds_part (Term.constant k) held w = tt
    holds_part (Term.compound n f ts) held w =
        let b = before n w.0 in (
          record {
            inside = omega (arith, held.0.inside);
            few = held.0.few;
            wide = held.0.wide;
            functor = same (places.compound n) (omega (arith, held.0.wide)) ∙ held.0.functor;
          },
          all_hold_part n 0 ts w.0 (omega (arith, held.0.wide)) held.1 w.1,
        )

    all_hold_part : (n i : ℕ) (ts : Terms) → n < compounds → i + count ts < places.width n → HoldsFrom s places n i ts → AllWithin pairs compounds ts
        → HoldsFrom front places n i ts
    all_hold_part n i end l wide held w = tt
    all_hold_part n i (more t ts) l wide held w =
        let b = before n l in (
          same (places.compound n + 1 + i) (omega arith) ∙ held.0,
          holds_part t held.1 w.0,
          all_hold_part n (i + 1) ts l (omega arith) held.2 w.1,
        )

  module _ (p c : ℕ) where
    mutual
      unfolding Holds HoldsFrom Within AllWithin count renamed all_renamed

      pub holds_renamed : (t : Term) → Holds s places t → Within pairs compounds t → Holds front (raised places p c) (renamed p c t)
      holds_renamed (Term.variable h n) held w = tt
      holds_renamed (Term.constant k) held w = tt
      holds_renamed (Term.compound n f ts) held w =
          let b = before n w.0 in
          let at : places.compound (c + n - c) ≡ places.compound n = ap (λ k. places.compound k) (back c n) in (
            record {
              inside = omega (arith, held.0.inside);
              few = rw (count_renamed p c ts) held.0.few;
              wide = omega (arith, held.0.wide, count_renamed p c ts, ap (λ k. places.width k) (back c n));
              functor =
                  ap (λ k. get_or front k 0) at ∙ same (places.compound n) (omega (arith, held.0.wide)) ∙ held.0.functor
                  ∙ ap (functor_word places f) (sym (count_renamed p c ts)) ∙ sym (raised_functor places p c f (count (all_renamed p c ts)));
            },
            all_hold_renamed n 0 ts w.0 (omega (arith, held.0.wide)) held.1 w.1,
          )

      all_hold_renamed : (n i : ℕ) (ts : Terms) → n < compounds → i + count ts < places.width n → HoldsFrom s places n i ts → AllWithin pairs compounds ts
          → HoldsFrom front (raised places p c) (c + n) i (all_renamed p c ts)
      all_hold_renamed n i end l wide held w = tt
      all_hold_renamed n i (more t ts) l wide held w =
          let b = before n l in
          let at : places.compound (c + n - c) ≡ places.compound n = ap (λ k. places.compound k) (back c n) in (
            ap (λ k. get_or front (k + 1 + i) 0) at ∙ same (places.compound n + 1 + i) (omega arith) ∙ held.0
                ∙ sym (raised_word places p c t),
            holds_renamed t held.1 w.0,
            all_hold_renamed n (i + 1) ts l (omega arith) held.2 w.1,
          )
