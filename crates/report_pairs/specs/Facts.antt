-- What the report keeps of each pair, four words a pair from a place on: the word of the end of its chain, or 0; the length of its value where it was
-- counted in the section, or 0; its number in the section, or 0; where its value begins in the report, if its length is kept. The trial's first word
-- has how many numbers were given.
use Rattle.std.specs.Prelude.{ℕ, ◌+◌, ◌-◌, ◌*◌, ◌≤◌, ◌<◌, ◌≡◌, false, ◌≢◌, List, length, get_or, Option as Told, Some, None}
use Rattle.std.proofs.Math.Option.{Option, none, some}
use Rattle.meaning.specs.Bytes.{Bytes, among, when◌then◌else◌}
use Rattle.meaning.specs.Terms.{Term}
use Rattle.meaning.specs.State.{value}
use Rattle.meaning.specs.Circle.{circle}
use Rattle.meaning.specs.Compare.{followed}
use Rattle.meaning.specs.Report.{alone, number_in}
use Rattle.term.specs.Cells.{term_word}
use Rattle.term.specs.Chains.{value_of}
use Rattle.term.specs.Frames.{Only}
use Rattle.term.specs.Setting.{Setting, UnitTerm, UnitStands}
use Rattle.term.specs.Spellings.{HoldsSpellings}
use Rattle.term.specs.Layout.{trial_region, compounds_region, pairs_told, pair_facts}
use Rattle.report_pairs.specs.Threaded.{full, seen_after, shown}
use Rattle.report_pairs.specs.Laid.{Has}
use Rattle.report_pairs.specs.Sound.{Sound, SoundValues}

abbrev pub fact_place : Setting → ℕ → ℕ → ℕ
fact_place x facts n = facts + pair_facts * x.places.pair n

-- A term has its chain's end in the word w: a term of the unit that is no assigned variable, with the same values applied.
pub record Led (s : List ℕ) (x : Setting) (t : Term) (w : ℕ) : Type 0 where
  pub last : Term
  pub word : w ≡ term_word x.places last
  pub term : UnitTerm s x last
  pub sound : Sound last
  pub ended : value_of x.values last ≡ none
  pub same : full x.values t ≡ full x.values last

-- The end that is kept of a pair with this value, if one is.
abbrev pub EndAt : List ℕ → Setting → ℕ → ℕ → Option Term → Type 0
EndAt s x facts n none = get_or s (fact_place x facts n) 0 ≡ 0
EndAt s x facts n (some u) = get_or s (fact_place x facts n) 0 ≢ 0 → Led s x u (get_or s (fact_place x facts n) 0)

-- What both the counting and the writing of a section read: the unit's values and the ends kept, the spellings of the names. The facts stand behind the
-- values of all pairs of the room, whose number is the trial's second word.
pub record Readable (s : List ℕ) (text : Bytes) (x : Setting) (facts : ℕ) : Type 0 where
  pub inside : facts + pair_facts * x.pairs ≤ length s
  pub behind : compounds_region + x.pairs ≤ facts
  pub room : get_or s pairs_told 0 ≡ x.pairs
  pub links : length x.values ≤ x.pairs
  pub apart : (n m : ℕ) → n < length x.values → m < length x.values → x.places.pair n ≡ x.places.pair m → n ≡ m
  pub compound_behind : (n : ℕ) → n < x.compounds → compounds_region ≤ x.places.compound n
  pub compound_before : (n : ℕ) → n < x.compounds → x.places.compound n + x.places.width n + x.pairs ≤ facts
  pub no_circle : circle x.values ≡ false
  pub sound : SoundValues x.values
  pub stands : UnitStands s x (facts - x.pairs)
  pub ends : (n : ℕ) → n < length x.values → EndAt s x facts n (value x.values n)
  pub few_names : length x.places.names ≤ 256
  pub names : HoldsSpellings s text 0 x.places.names
  pub short : length text ≤ 16384

-- w is the word of a term of the unit.
pub record Shows (s : List ℕ) (x : Setting) (t : Term) (w : ℕ) : Type 0 where
  pub term : UnitTerm s x t
  pub sound : Sound t
  pub word : w ≡ term_word x.places t

-- A term leads on to the word r: the value of a variable, or the end of its chain.
pub record To (s : List ℕ) (x : Setting) (t : Term) (r : ℕ) : Type 0 where
  pub next : Term
  pub shows : Shows s x next r
  pub same : full x.values t ≡ full x.values next
  pub nearer : (links : ℕ) → value_of x.values (followed links x.values t) ≡ none → value_of x.values (followed (links - 1) x.values next) ≡ none
  pub assigned : (u : Term) × (value_of x.values t ≡ some u)

-- It does, or it is no assigned variable.
abbrev pub LeadsOn : List ℕ → Setting → Term → Told ℕ → Type 0
LeadsOn s x t None = value_of x.values t ≡ none
LeadsOn s x t (Some r) = To s x t r

-- The length that is kept of a pair with this value: 0, or its length, and all its pairs were seen.
abbrev pub LengthAt : List ℕ → Setting → ℕ → List ℕ → ℕ → Option Term → Type 0
LengthAt s x facts seen n none = get_or s (fact_place x facts n + 1) 0 ≡ 0
LengthAt s x facts seen n (some u) = get_or s (fact_place x facts n + 1) 0 ≢ 0
    → (seen_after seen (full x.values u) ≡ seen) × (get_or s (fact_place x facts n + 1) 0 ≡ length (shown seen alone (full x.values u)))

-- The section's pairs seen so far have their numbers, in order; the others have none.
abbrev pub number_seen : ℕ → List ℕ → ℕ
number_seen n seen = when among n seen then number_in n seen else 0

pub record Counting (s : List ℕ) (x : Setting) (facts : ℕ) (seen : List ℕ) : Type 0 where
  pub given : get_or s trial_region 0 ≡ length seen
  pub numbers : (n : ℕ) → n < length x.values → get_or s (fact_place x facts n + 2) 0 ≡ number_seen n seen
  pub lengths : (n : ℕ) → n < length x.values → LengthAt s x facts seen n (value x.values n)

-- A whole has the value of a pair whose length is kept from the place on that is kept of it.
abbrev pub PlaceAt : List ℕ → Setting → ℕ → List ℕ → Bytes → ℕ → Option Term → Type 0
PlaceAt s x facts seen whole n none = Unit {0}
PlaceAt s x facts seen whole n (some u) = get_or s (fact_place x facts n + 1) 0 ≢ 0 → Has whole (get_or s (fact_place x facts n + 3) 0) (shown seen alone (full x.values u))

abbrev pub Placed : List ℕ → Setting → ℕ → List ℕ → Bytes → Type 0
Placed s x facts seen whole = (n : ℕ) → n < length x.values → PlaceAt s x facts seen whole n (value x.values n)

-- Only what is kept of the unit's pairs has changed, and how many numbers were given.
pub record Changed (s s' : List ℕ) (x : Setting) (facts : ℕ) : Type 0 where
  pub size : length s' ≡ length s
  pub others : (k : ℕ) → k ≢ trial_region
      → ((n : ℕ) → n < length x.values
      → (k ≢ fact_place x facts n) × (k ≢ fact_place x facts n + 1) × (k ≢ fact_place x facts n + 2) × (k ≢ fact_place x facts n + 3))
      → get_or s' k 0 ≡ get_or s k 0

-- A term led to its end, which is kept.
pub record Leads (s s' : List ℕ) (text : Bytes) (x : Setting) (facts : ℕ) (t : Term) (r : ℕ) : Type 0 where
  pub changed : Changed s s' x facts
  pub readable : Readable s' text x facts
  pub counting : (seen : List ℕ) → Counting s x facts seen → Counting s' x facts seen
  pub placed : (seen : List ℕ) (whole : Bytes) → Placed s x facts seen whole → Placed s' x facts seen whole
  pub led : Led s' x t r

-- So many pairs have nothing kept: all four words of each are 0.
pub record Cleared (s s' : List ℕ) (facts pairs : ℕ) : Type 0 where
  pub only : Only facts (facts + pair_facts * pairs) s s'
  pub zero : (p i : ℕ) → p < pairs → i < pair_facts → get_or s' (facts + pair_facts * p + i) 0 ≡ 0
