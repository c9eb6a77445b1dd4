-- What comparing a clause's head with a goal asks and gives: the head's terms as the clause has them, the goal's terms of the unit, and the
-- outcome of document 01's table with what the trial's region records of it.
use Rattle.std.specs.Prelude.{ℕ, ◌+◌, ◌*◌, ◌≤◌, ◌<◌, ◌≡◌, ◌⊎◌, List, [], ◌∷◌, eqb, length, get_or, Option, Some, None}
use Rattle.meaning.specs.Bytes.{Bytes, any}
use Rattle.meaning.specs.Terms.{Functor, Term, Terms, count, renamed, all_renamed}
use Rattle.meaning.specs.State.{value}
use Rattle.meaning.specs.Trial.{with_pairs, assigned}
use Rattle.meaning.specs.Compare.{Assignment, Result, fails, followed, place, places}
use Rattle.term.specs.Cells.{Places, Known, AllKnown, Numbered, AllNumbered, term_word}
use Rattle.term.specs.Holds.{CellAt, Holds, HoldsFrom, value_word}
use Rattle.term.specs.Frames.{Only}
use Rattle.run_compare.specs.Gifts.{Gift, to_head, to_goal, assignments, Entry, entries_of, EntriesAt, renamed_entries}
use Rattle.run_compare.specs.Notes.{Note, given, asked, outcome_of, noted, written}
use Rattle.term.specs.Setting.{Setting, Within, AllWithin, Ranged, AllRanged, UnitTerm, UnitTerms}
use Rattle.term.specs.Layout.{trial_region, woken_part, followed_end, item_place, clause_base}
use Rattle.run_chains.specs.Follow.{Chained, FollowedAt}

-- Where the terms of clause k lie: pairs by their own numbers, compounds 32 a clause, each with eight words.
abbrev pub item_places : List Bytes → ℕ → Places
item_places names k = record { names = names; pair = λ n. n; compound = λ n. item_place (clause_base k) n; width = λ n. 8 }

-- A clause: its number, and how many pairs and compounds it has.
pub record Template : Type 0 where
  pub number : ℕ
  pub pairs : ℕ
  pub compounds : ℕ

abbrev pub item : Setting → Template → Places
item x y = item_places x.places.names y.number

-- A term of the head, its compounds numbered from lo up to hi; and the arguments of the head's compound m from the i-th on.
pub record HeadTerm (s : List ℕ) (x : Setting) (y : Template) (lo hi : ℕ) (t : Term) : Type 0 where
  pub held : Holds s (item x y) t
  pub within : Within y.pairs y.compounds t
  pub known : Known x.places.names t
  pub ranged : Ranged t
  pub numbered : Numbered lo hi t
  pub high : hi ≤ y.compounds

pub record HeadTerms (s : List ℕ) (x : Setting) (y : Template) (m i lo hi : ℕ) (ts : Terms) : Type 0 where
  pub held : HoldsFrom s (item x y) m i ts
  pub within : AllWithin y.pairs y.compounds ts
  pub known : AllKnown x.places.names ts
  pub ranged : AllRanged ts
  pub numbered : AllNumbered lo hi ts
  pub high : hi ≤ y.compounds
  pub rising : m < lo

-- A compound's own words are none of the trial's region.
abbrev pub Outside : Places → ℕ → Type 0
Outside at n = (at.compound n + at.width n ≤ trial_region) ⊎ (woken_part ≤ at.compound n)

-- The scratch of a trial: the unit's values and ends stand behind the trial's region, and its compounds outside it.
pub record TrialStands (s : List ℕ) (x : Setting) (y : Template) (from links : ℕ) : Type 0 where
  pub large : woken_part ≤ length s
  pub unit : Chained s x from links
  pub behind : woken_part ≤ from
  pub outside : (n : ℕ) → n < x.compounds → Outside x.places n
  pub number : y.number < 128
  pub pairs : y.pairs ≤ 16
  pub compounds : y.compounds ≤ 32

-- One place: h is the word of the head's term t, w that of the goal's term u, already followed; n entries are made, and there is room for as
-- many more as t can need.
pub record Against (s : List ℕ) (x : Setting) (y : Template) (from links lo hi : ℕ) (t u : Term) (h w n : ℕ) : Type 0 where
  pub trial : TrialStands s x y from links
  pub head : HeadTerm s x y lo hi t
  pub goal : UnitTerm s x u
  pub head_word : h ≡ term_word (item x y) t
  pub goal_word : w ≡ term_word x.places u
  pub room : n + 6 * hi + 1 ≤ 192 + 6 * lo

-- The arguments of the head's compound m at p; n entries are made, and there is room for as many more as they can need.
pub record HeadArguments (s : List ℕ) (x : Setting) (y : Template) (from links m : ℕ) (g : Functor) (us : Terms) (lo hi p n : ℕ) : Type 0 where
  pub trial : TrialStands s x y from links
  pub cell : CellAt s (item x y) m g (count us)
  pub terms : HeadTerms s x y m 0 lo hi us
  pub place : p ≡ item_place (clause_base y.number) m
  pub room : n + 6 * hi + count us ≤ 192 + 6 * lo

-- The arguments of two compounds, m of the head at p and l of the goal at q, of the same number.
pub record AllAgainst (s : List ℕ) (x : Setting) (y : Template) (from links m : ℕ) (g : Functor) (us : Terms) (lo hi l : ℕ) (f : Functor) (ts : Terms)
    (p q n : ℕ) : Type 0 where
  pub head : HeadArguments s x y from links m g us lo hi p n
  pub goal_cell : CellAt s x.places l f (count ts)
  pub goal : UnitTerms s x l 0 ts
  pub goal_number : l < x.compounds
  pub counts : count us ≡ count ts
  pub goal_place : q ≡ x.places.compound l

-- The arguments of the head's compound m at p, and as many of a goal, which stand followed; no entry is made.
pub record HeadAgainst (s : List ℕ) (x : Setting) (y : Template) (from links m : ℕ) (g : Functor) (us : Terms) (lo hi : ℕ) (ts : Terms) (p : ℕ)
    : Type 0 where
  pub large : followed_end ≤ length s
  pub head : HeadArguments s x y from links m g us lo hi p 0
  pub goal : FollowedAt s x links 0 ts
  pub counts : count us ≡ count ts

-- What is given is held, in the order of the head: the head's terms that are given have compounds numbered from lo up to hi, each behind those
-- before it.
unfoldable pub AllGiven : List ℕ → Setting → Template → ℕ → ℕ → List Gift → Type 0
AllGiven s x y lo hi [] = lo ≤ hi
AllGiven s x y lo hi (to_head n u ∷ gs) = ((n < y.pairs) × UnitTerm s x u) × AllGiven s x y lo hi gs
AllGiven s x y lo hi (to_goal z t ∷ gs) =
    (z < length x.values) × (a : ℕ) × (b : ℕ) × (lo ≤ a) × HeadTerm s x y a b t × AllGiven s x y b hi gs

-- The same of notes.
unfoldable pub AllNoted : List ℕ → Setting → Template → ℕ → ℕ → List Note → Type 0
AllNoted s x y lo hi [] = lo ≤ hi
AllNoted s x y lo hi (given (to_head n u) ∷ ns) = ((n < y.pairs) × UnitTerm s x u) × AllNoted s x y lo hi ns
AllNoted s x y lo hi (given (to_goal z t) ∷ ns) =
    (z < length x.values) × (a : ℕ) × (b : ℕ) × (lo ≤ a) × HeadTerm s x y a b t × AllNoted s x y b hi ns
AllNoted s x y lo hi (asked z ∷ ns) = (z < length x.values) × AllNoted s x y lo hi ns

-- No place fails: the outcome is that of notes which the scratch has from the n-th entry up to the m-th; the head's compounds that were compared are
-- numbered from lo up to hi.
pub record Notes (s s' : List ℕ) (x : Setting) (y : Template) (n lo hi : ℕ) (o : Result) (m : ℕ) : Type 0 where
  pub notes : List Note
  pub outcome : o ≡ outcome_of (length x.values) x.compounds notes
  pub scratch : s' ≡ written (item x y) x.places n notes s
  pub counted : m ≡ n + noted notes
  pub held : AllNoted s x y lo hi notes

abbrev pub Told : List ℕ → List ℕ → Setting → Template → ℕ → ℕ → ℕ → ℕ → Result → Option ℕ → Type 0
Told s s' x y n lo hi k o (Some m) = (m + 6 * lo ≤ n + 6 * hi + k) × Notes s s' x y n lo hi o m
Told s s' x y n lo hi k o None = o ≡ fails

-- The answer r to the outcome o of k terms of the head, their compounds numbered from lo up to hi: only the trial's region has changed.
pub record Answers (s s' : List ℕ) (x : Setting) (y : Template) (n lo hi k : ℕ) (o : Result) (r : Option ℕ) : Type 0 where
  pub only : Only trial_region woken_part s s'
  pub told : Told s s' x y n lo hi k o r

-- The outcome of the table on the clause renamed apart.
abbrev pub place_outcome : Setting → ℕ → Term → Term → Result
place_outcome x links t u = place (followed links x.values) (renamed (length x.values) x.compounds t) u

abbrev pub places_outcome : Setting → ℕ → Terms → Terms → Result
places_outcome x links us ts = places (followed links x.values) (all_renamed (length x.values) x.compounds us) ts

-- The entries' terms are held, in the order of the head.
unfoldable pub AllEntries : List ℕ → Setting → Template → ℕ → ℕ → List Entry → Type 0
AllEntries s x y lo hi [] = lo ≤ hi
AllEntries s x y lo hi (e ∷ es) =
    (e.pair < length x.values) × (a : ℕ) × (b : ℕ) × (lo ≤ a) × HeadTerm s x y a b e.term × AllEntries s x y b hi es

-- What a trial gave that waits on no reader, read from its region: m entries in order, and a word for each of the clause's pairs. The head's terms that were given have
-- compounds numbered from low up to high. The values after the trial are those of the entries assigned, in order, for the unit's own pairs, and
-- those of the words for the clause's; of the unit's own pairs those of the entries and no other are assigned.
pub record Gave (s s' : List ℕ) (x : Setting) (y : Template) (given : List Assignment) (m : ℕ) : Type 0 where
  pub gifts : List Gift
  pub given_are : given ≡ assignments (length x.values) x.compounds gifts
  pub low : ℕ
  pub high : ℕ
  pub gifts_held : AllGiven s x y low high gifts
  pub list : List Entry
  pub list_is : list ≡ entries_of gifts
  pub size : length list ≡ m
  pub stand : EntriesAt s' (item x y) x.places 0 list
  pub held : AllEntries s x y low high list
  pub unit_values : (z : ℕ) → z < length x.values
      → value (assigned given (with_pairs y.pairs x.values)) z
      ≡ value (assigned (renamed_entries (length x.values) x.compounds list) (with_pairs y.pairs x.values)) z
  pub clause_values : (a : ℕ) → a < y.pairs
      → get_or s' (trial_region + a) 0
      ≡ value_word x.places (value (assigned given (with_pairs y.pairs x.values)) (length x.values + a))
  pub pairs_are : (z : ℕ) → z < length x.values → any (λ a. eqb z a.pair) given ≡ any (λ e. eqb z e.pair) list
