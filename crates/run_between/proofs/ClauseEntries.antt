-- The trial's entries as terms of the clause: they stand and are held where the words before the trial's region and their own stay, and their
-- compounds' numbers rise.
use Prim.Native.Nat.{ℕ, ◌+◌, ◌≤◌, ◌<◌}
use mathlib.Core.Path.{◌≡◌, ◌∙◌}
use mathlib.Core.List.{List, [], ◌∷◌}
use native.Mathlib.Omega.{arith}
use lib.ListN.{length, get_or}
use Rattle.meaning.specs.Bytes.{Bytes}
use Rattle.meaning.specs.Terms.{Term, Clause}
use Rattle.meaning.specs.State.{Room, QueryUnit}
use Rattle.term.specs.Cells.{Places}
use Rattle.term.specs.Holds.{Holds}
use Rattle.term.specs.Setting.{Setting, Within}
use Rattle.term.specs.States.{setting}
use Rattle.term.proofs.Holds.{holds_alike}
use Rattle.term.proofs.Units.{within_every}
use Rattle.term.specs.Layout.{trial_region, gifts_part, gift_pair, gift_term}
use Rattle.run_compare.specs.Gifts.{Entry, EntriesAt}
use Rattle.run_compare.specs.Compare.{Template, item_places, AllEntries}
use Rattle.run_trial.specs.Choosing.{template}
use Rattle.run_effects.specs.Build.{Item, Rising}
use Rattle.run_effects.specs.Reducing.{entry_terms, EntryTerms}

-- The clause as an item.
abbrev pub clause_item : List Bytes → ℕ → Clause → Item
clause_item names k c = record { places = item_places names k; pairs = c.pairs; compounds = c.compounds }

-- The terms of a clause stay held where the words below the trial's region stay.
item_stays : (s s' : List ℕ) (names : List Bytes) (k pairs compounds : ℕ) → k < 128 → compounds ≤ 32 → length s' ≡ length s
    → ((w : ℕ) → w < trial_region → get_or s' w 0 ≡ get_or s w 0) → (t : Term) → Within pairs compounds t → Holds s (item_places names k) t → Holds s' (item_places names k) t
item_stays s s' names k pairs compounds small few size same t w h =
    holds_alike s s' (item_places names k) (λ n. n < compounds) (omega arith) (λ n l v a b. same v (omega arith)) t (within_every pairs compounds t w) h

pub entries_still : (s s' : List ℕ) (item unit : Places) (n : ℕ) (es : List Entry)
    → ((k : ℕ) → gifts_part ≤ k → k < gift_pair (n + length es) → get_or s' k 0 ≡ get_or s k 0)
    → EntriesAt s item unit n es → EntriesAt s' item unit n es
unfolding EntriesAt
entries_still s s' item unit n [] same k = tt
entries_still s s' item unit n (e ∷ es) same k = (
  same (gift_pair n) (omega arith) (omega arith) ∙ k.0,
  same (gift_term n) (omega arith) (omega arith) ∙ k.1,
  entries_still s s' item unit (n + 1) es (λ m a b. same m a (omega arith)) k.2,
)

pub entries_held : (s s' : List ℕ) (figures : Room) (unit : QueryUnit) (at : Places) (P k : ℕ) (c : Clause) (low high : ℕ) (es : List Entry) → k < 128
    → c.compounds ≤ 32 → length s' ≡ length s → ((w : ℕ) → w < trial_region → get_or s' w 0 ≡ get_or s w 0) → ((m : ℕ) → m < length unit.values → at.pair m < P)
    → AllEntries s (setting figures at unit) (template k c) low high es → EntryTerms s' (clause_item at.names k c) at P es
unfolding AllEntries EntryTerms
entries_held s s' figures unit at P k c low high [] small few size same below h = tt
entries_held s s' figures unit at P k c low high (e ∷ es) small few size same below h = (
  (
    below e.pair h.0,
    record {
      held = item_stays s s' at.names k c.pairs c.compounds small few size same e.term h.4.within h.4.held;
      within = h.4.within;
    },
  ),
  entries_held s s' figures unit at P k c h.2 high es small few size same below h.5,
)

pub entries_rising : (s : List ℕ) (x : Setting) (y : Template) (low high : ℕ) (es : List Entry) → AllEntries s x y low high es
    → Rising low high (entry_terms es)
unfolding AllEntries Rising
entries_rising s x y low high [] h = h
entries_rising s x y low high (e ∷ es) h = (h.1, h.2, h.3, h.4.numbered, entries_rising s x y h.2 high es h.5)
