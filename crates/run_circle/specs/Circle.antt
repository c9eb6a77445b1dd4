-- What the circle test asks of a trial that has agreed, and what it tells: the answer, and that only marks are changed afterwards.
use Rattle.std.specs.Prelude.{ℕ, ◌+◌, ◌≤◌, ◌<◌, ◌≡◌, Bool, true, false, List, length, get_or}
use Rattle.std.proofs.Math.Option.{none, some}
use Rattle.meaning.specs.Terms.{Term, renamed}
use Rattle.meaning.specs.State.{Values, value}
use Rattle.meaning.specs.Circle.{circle}
use Rattle.term.specs.Cells.{Places, term_word}
use Rattle.term.specs.Holds.{Holds, value_word}
use Rattle.term.specs.Frames.{Only}
use Rattle.term.specs.Setting.{Setting, Within, UnitStands}
use Rattle.term.specs.Layout.{trial_region, gift_pair, gift_term}
use Rattle.term.specs.Words.{probe_word}
use Rattle.run_circle.specs.Ground.{stamp_in, Grounds, NewGrounds}

-- The place of the pair of the i-th entry, and the word of its term of the head.
abbrev pub entry_pair : List ℕ → ℕ → ℕ
entry_pair s i = get_or s (gift_pair i) 0

abbrev pub entry_term : List ℕ → ℕ → ℕ
entry_term s i = get_or s (gift_term i) 0

-- The n entries stand before the values, and their pairs are among them and all different.
pub record Entries (s : List ℕ) (values n : ℕ) : Type 0 where
  pub before : gift_pair n ≤ values
  pub inside : (i : ℕ) → i < n → values + entry_pair s i < length s
  pub apart : (i j : ℕ) → i < n → j < n → entry_pair s i ≡ entry_pair s j → i ≡ j

-- What an entry's pair holds while the trial is tested: 7 and eight times its number; and before and after: nothing.
abbrev pub held_word : Bool → ℕ → ℕ
held_word true i = probe_word i
held_word false i = 0

-- The values of the entries' pairs are set, and all else is as it was.
pub record Held (s s' : List ℕ) (values n : ℕ) (testing : Bool) : Type 0 where
  pub size : length s' ≡ length s
  pub entry : (i : ℕ) → i < n → get_or s' (values + entry_pair s i) 0 ≡ held_word testing i
  pub others : (k : ℕ) → ((i : ℕ) → i < n → k ≡ values + entry_pair s i → ⊥) → get_or s' k 0 ≡ get_or s k 0

-- A trial that has agreed: the unit before it, the values after it, the clause's pairs and compounds and where its own terms lie.
pub record Trial : Type 0 where
  pub unit : Setting
  pub after : Values
  pub item : Places
  pub pairs : ℕ
  pub compounds : ℕ

abbrev pub old : Trial → ℕ
old y = length y.unit.values

-- The i-th entry: a pair of the goal that had no value, and the term of the head that it is given.
pub record Entry (s : List ℕ) (y : Trial) (i : ℕ) : Type 0 where
  pub pair : ℕ
  pub term : Term
  pub of_unit : pair < old y
  pub place : entry_pair s i ≡ y.unit.places.pair pair
  pub word : entry_term s i ≡ term_word y.item term
  pub held : Holds s y.item term
  pub within : Within y.pairs y.compounds term
  pub unassigned : value y.unit.values pair ≡ none
  pub given : value y.after pair ≡ some (renamed (old y) y.unit.compounds term)

-- What a variable of the head is given: nothing, or a term of the unit.
pub record GivenTo (s : List ℕ) (y : Trial) (m : ℕ) : Type 0 where
  pub word : get_or s (trial_region + m) 0 ≡ value_word y.unit.places (value y.after (old y + m))
  pub held : (t : Term) → value y.after (old y + m) ≡ some t → Holds s y.unit.places t
  pub within : (t : Term) → value y.after (old y + m) ≡ some t → Within (old y) y.unit.compounds t

-- The scratch before the test of a trial with n entries.
pub record Tried (s : List ℕ) (y : Trial) (values marks n stamp : ℕ) : Type 0 where
  pub unit : UnitStands s y.unit values
  pub unit_apart : (i j : ℕ) → i < old y → j < old y → y.unit.places.pair i ≡ y.unit.places.pair j → i ≡ j
  pub unit_before : (m : ℕ) → m < y.unit.compounds → y.unit.places.compound m + y.unit.places.width m ≤ values
  pub item_before : (m : ℕ) → m < y.compounds → y.item.compound m + y.item.width m ≤ values
  pub item_pair : (m : ℕ) → y.item.pair m ≡ m
  pub few : y.pairs ≤ 16
  pub few_pairs : y.unit.pairs ≤ 65536
  pub entries_before : gift_pair n ≤ values
  pub marks_behind : values + y.unit.pairs ≤ marks
  pub room : marks + y.unit.pairs ≤ length s
  pub entry : (i : ℕ) → i < n → Entry s y i
  pub entries_apart : (i j : ℕ) → i < n → j < n → entry_pair s i ≡ entry_pair s j → i ≡ j
  pub given : (m : ℕ) → m < y.pairs → GivenTo s y m
  pub after_length : length y.after ≡ old y + y.pairs
  pub others : (j : ℕ) → j < old y → ((i : ℕ) → i < n → y.unit.places.pair j ≡ entry_pair s i → ⊥)
      → value y.after j ≡ value y.unit.values j
  pub no_circle : circle y.unit.values ≡ false
  pub stamps_fit : stamp + n < 1099511627776
  pub stamps_new : (k : ℕ) → marks ≤ k → k < marks + y.unit.pairs → stamp_in (get_or s k 0) < stamp
  pub stamp_above : 1 < stamp
  pub grounds : Grounds y.unit.places y.unit.values marks s

-- After the test: its answer; only marks differ, stamps from stamp + n on are unused, and what marks tell is so.
pub record Tested (s s' : List ℕ) (y : Trial) (marks n stamp : ℕ) (r : Bool) : Type 0 where
  pub answer : r ≡ circle y.after
  pub only : Only marks (marks + y.unit.pairs) s s'
  pub stamps_new : (k : ℕ) → marks ≤ k → k < marks + y.unit.pairs → stamp_in (get_or s' k 0) < stamp + n
  pub grounds : NewGrounds y.unit.places y.unit.values marks s s'

-- After the search from the entries' own terms, before their pairs are set back.
pub record Answered (s₀ s s' : List ℕ) (y : Trial) (marks n stamp : ℕ) (r : Bool) : Type 0 where
  pub answer : r ≡ circle y.after
  pub only : Only marks (marks + y.unit.pairs) s s'
  pub stamps_new : (k : ℕ) → marks ≤ k → k < marks + y.unit.pairs → stamp_in (get_or s' k 0) < stamp + n
  pub grounds : NewGrounds y.unit.places y.unit.values marks s s'
