-- The trial's entries one by one: what is said of all of them, or of none, and which pairs they are of.
use Prim.Native.Nat.{ℕ, ◌+◌, ◌<◌}
use mathlib.Core.Path.{◌≡◌, refl, sym, ap, ◌∙◌}
use mathlib.Core.Logic.{◌⊎◌, inl, inr}
use mathlib.Core.List.{List, [], ◌∷◌}
use native.Mathlib.Decide.{ℕ_discrete}
use lib.ListN.{length, get_or}
use Rattle.meaning.specs.Terms.{renamed}
use Rattle.meaning.specs.State.{Values, value}
use Rattle.meaning.specs.Compare.{Assignment}
use Rattle.meaning.specs.Trial.{assigned}
use Rattle.laws.proofs.Lists.Among.{In, here, there, in_cons_cases, in_none}
use Rattle.laws.proofs.Trial.Values.{value_assigned_other}
use Rattle.term.specs.Cells.{Places, term_word}
use Rattle.term.specs.Holds.{Holds}
use Rattle.term.specs.Setting.{Setting}
use Rattle.run_compare.specs.Gifts.{Gift, to_head, to_goal, assignments, Entry, entries_of, renamed_entries}
use Rattle.run_compare.specs.Compare.{Template, HeadTerm, AllEntries}
use Rattle.run_effects.specs.Reducing.{EntriesGiven, NoEntry}

-- An entry of a pair, or none.
pub find_entry : (z : ℕ) (es : List Entry) → ((e : Entry) × In e es × (e.pair ≡ z)) ⊎ ((e : Entry) → In e es → z ≡ e.pair → ⊥)
find_entry z [] = inr (λ e m. absurd (in_none m))
find_entry z (d ∷ es) = go (ℕ_discrete d.pair z) (find_entry z es)
  where
    go : Dec (d.pair ≡ z) → ((e : Entry) × In e es × (e.pair ≡ z)) ⊎ ((e : Entry) → In e es → z ≡ e.pair → ⊥)
        → ((e : Entry) × In e (d ∷ es) × (e.pair ≡ z)) ⊎ ((e : Entry) → In e (d ∷ es) → z ≡ e.pair → ⊥)
    go (yes h) later = inl (d, here refl, h)
    go (no h) (inl (e, m, q)) = inl (e, there m, q)
    go (no h) (inr other) = inr (λ e m q. never e (in_cons_cases m) q)
      where
        never : (e : Entry) → (e ≡ d) ⊎ In e es → z ≡ e.pair → ⊥
        never e (inl same) q = h (sym (q ∙ ap (λ (x : Entry). x.pair) same))
        never e (inr m) q = other e m q

pub entry_given : (s : List ℕ) (unit places : Places) (values p c : ℕ) (es : List Entry) (e : Entry) → In e es → EntriesGiven s unit places values p c es
    → (get_or s (values + unit.pair e.pair) 0 ≡ term_word places (renamed p c e.term)) × Holds s places (renamed p c e.term)
unfolding EntriesGiven
entry_given s unit places values p c [] e m g = absurd (in_none m)
entry_given s unit places values p c (d ∷ es) e m g = go (in_cons_cases m) (λ n. entry_given s unit places values p c es e n g.1)
  where
    go : (e ≡ d) ⊎ In e es
        → (In e es → (get_or s (values + unit.pair e.pair) 0 ≡ term_word places (renamed p c e.term)) × Holds s places (renamed p c e.term))
        → (get_or s (values + unit.pair e.pair) 0 ≡ term_word places (renamed p c e.term)) × Holds s places (renamed p c e.term)
    go (inl same) later = rw same g.0
    go (inr n) later = later n

pub entry_stands : (s : List ℕ) (x : Setting) (y : Template) (low high : ℕ) (es : List Entry) (e : Entry) → In e es → AllEntries s x y low high es
    → (e.pair < length x.values) × (lo : ℕ) × (hi : ℕ) × HeadTerm s x y lo hi e.term
unfolding AllEntries
entry_stands s x y low high [] e m g = absurd (in_none m)
entry_stands s x y low high (d ∷ es) e m g = go (in_cons_cases m) (λ n. entry_stands s x y g.2 high es e n g.5)
  where
    go : (e ≡ d) ⊎ In e es
        → (In e es → (e.pair < length x.values) × (lo : ℕ) × (hi : ℕ) × HeadTerm s x y lo hi e.term)
        → (e.pair < length x.values) × (lo : ℕ) × (hi : ℕ) × HeadTerm s x y lo hi e.term
    go (inl same) later = rw same (g.0, g.1, g.2, g.4)
    go (inr n) later = later n

pub no_entry_of : (unit : Places) (z : ℕ) (es : List Entry) → ((e : Entry) → In e es → z ≡ unit.pair e.pair → ⊥) → NoEntry unit z es
unfolding NoEntry
no_entry_of unit z [] other = tt
no_entry_of unit z (e ∷ es) other = (other e (here refl), no_entry_of unit z es (λ d m. other d (there m)))

module _ (p c : ℕ) where
  pub entry_is_given : (gs : List Gift) (e : Entry) → In e (entries_of gs) → In (record { pair = e.pair; value = renamed p c e.term }) (assignments p c gs)
  unfolding entries_of assignments
  entry_is_given [] e m = absurd (in_none m)
  entry_is_given (to_head n u ∷ gs) e m = there (entry_is_given gs e m)
  entry_is_given (to_goal z t ∷ gs) e m = go (in_cons_cases m) (entry_is_given gs e)
    where
      go : (e ≡ record { pair = z; term = t }) ⊎ In e (entries_of gs)
          → (In e (entries_of gs) → In (record { pair = e.pair; value = renamed p c e.term }) (assignments p c gs))
          → In (record { pair = e.pair; value = renamed p c e.term }) (record { pair = z; value = renamed p c t } ∷ assignments p c gs)
      go (inl same) later = here (ap (λ (d : Entry). record { pair = d.pair; value = renamed p c d.term }) same)
      go (inr n) later = there (later n)

  in_renamed : (es : List Entry) (a : Assignment) → In a (renamed_entries p c es) → (e : Entry) × In e es × (a.pair ≡ e.pair)
  unfolding renamed_entries
  in_renamed [] a m = absurd (in_none m)
  in_renamed (e ∷ es) a m = go (in_cons_cases m) (in_renamed es a)
    where
      go : (a ≡ record { pair = e.pair; value = renamed p c e.term }) ⊎ In a (renamed_entries p c es)
          → (In a (renamed_entries p c es) → (d : Entry) × In d es × (a.pair ≡ d.pair))
          → (d : Entry) × In d (e ∷ es) × (a.pair ≡ d.pair)
      go (inl same) later = (e, here refl, ap (λ (b : Assignment). b.pair) same)
      go (inr n) later = let (d, k, q) = later n in (d, there k, q)

  -- A pair of which there is no entry keeps its value.
  pub value_without_entry : (es : List Entry) (values : Values) (z : ℕ) → ((e : Entry) → In e es → z ≡ e.pair → ⊥)
      → value (assigned (renamed_entries p c es) values) z ≡ value values z
  value_without_entry es values z other =
      value_assigned_other (renamed_entries p c es) values z
      (λ a m same. let (e, k, q) = in_renamed es a m in other e k (same ∙ q))
