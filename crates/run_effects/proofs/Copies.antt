-- Copies keep a term's number of arguments and the words of names; and the item's own terms stay held, since all that is written lies behind them.
use Prim.Native.Nat.{ℕ, suc, ◌+◌, ◌≤◌, ◌<◌}
use mathlib.Core.Path.{◌≡◌, refl, ap, sym, ◌∙◌}
use mathlib.Core.List.{List}
use native.Mathlib.Omega.{arith}
use lib.ListN.{length, get_or}
use Rattle.meaning.specs.Terms.{Constant, Functor, cell, named, Term, Terms, variable, constant, compound, end, more, count, all_renamed}
use Rattle.term.specs.Cells.{Places, term_word, functor_word, number_of}
use Rattle.term.specs.Holds.{Holds, HoldsFrom}
use Rattle.term.specs.Setting.{Within, AllWithin}
use Rattle.term.specs.Layout.{trial_region}
use Rattle.term.specs.Words.{name_word, packed}
use Rattle.run_effects.specs.Build.{Item, Goes, ItemTerm}

pub count_renamed : (p c : ℕ) (ts : Terms) → count (all_renamed p c ts) ≡ count ts
unfolding count all_renamed
count_renamed p c end = refl
count_renamed p c (more t ts) = ap suc (count_renamed p c ts)

pub same_constant_word : (item places : Places) (k : Constant) → places.names ≡ item.names
    → term_word item (constant k) ≡ term_word places (constant k)
same_constant_word item places (Constant.integer i) e = refl
same_constant_word item places (Constant.name f) e = ap (λ names. name_word (number_of f names)) (sym e)
same_constant_word item places Constant.empty e = refl

pub same_functor_word : (item places : Places) (f : Functor) (k : ℕ) → places.names ≡ item.names → functor_word item f k ≡ functor_word places f k
same_functor_word item places cell k e = refl
same_functor_word item places (named f) k e = ap (λ names. packed k (number_of f names + 1)) (sym e)

-- The item's terms stay where they are.
module _ (x : Item) (pair : ℕ) (goes : Goes x pair) (s s' : List ℕ) (size_kept : length s ≤ length s')
    (same : (k : ℕ) → k < trial_region → get_or s' k 0 ≡ get_or s k 0) where
  mutual
    unfolding Holds HoldsFrom Within AllWithin count

    held_on : (t : Term) → Within x.pairs x.compounds t → Holds s x.places t → Holds s' x.places t
    held_on (variable h n) w d = tt
    held_on (constant k) w d = tt
    held_on (compound n f ts) w d =
        let b = goes.before n w.0 in (
          record {
            inside = omega (arith, d.0.inside);
            few = d.0.few;
            wide = d.0.wide;
            functor = same (x.places.compound n) (omega arith) ∙ d.0.functor;
          },
          held_from_on n 0 ts w.0 (omega (arith, d.0.few)) w.1 d.1,
        )

    held_from_on : (n i : ℕ) (ts : Terms) → n < x.compounds → i + count ts ≤ 6 → AllWithin x.pairs x.compounds ts
        → HoldsFrom s x.places n i ts → HoldsFrom s' x.places n i ts
    held_from_on n i end below few w d = tt
    held_from_on n i (more t ts) below few w d = (
      same (x.places.compound n + 1 + i) (omega (arith, goes.before n below)) ∙ d.0,
      held_on t w.0 d.1,
      held_from_on n (i + 1) ts below (omega arith) w.1 d.2,
    )

  pub item_term_on : (t : Term) → ItemTerm s x t → ItemTerm s' x t
  item_term_on t d = record { held = held_on t d.within d.held; within = d.within }
