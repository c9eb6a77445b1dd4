-- What a guard is asked in: "`X?` is read as what the head gave X, all else as before the step". The unit's values, marks, readers with their ranks and ends
-- stand behind its compounds; the clause's own terms are the item's.
use Rattle.std.specs.Prelude.{ℕ, ◌+◌, ◌*◌, ◌≤◌, ◌<◌, ◌≡◌, ◌≢◌, false, List, [], ◌∷◌, length, get_or}
use Rattle.meaning.specs.Terms.{writer, Term, Terms, variable, end, more}
use Rattle.meaning.specs.Compare.{Assignment}
use Rattle.meaning.specs.Circle.{circle}
use Rattle.meaning.specs.Guards.{given_to, written_out}
use Rattle.term.specs.Cells.{term_word}
use Rattle.term.specs.Holds.{HoldsFrom}
use Rattle.term.specs.Setting.{Setting, UnitTerm}
use Rattle.term.specs.States.{listed}
use Rattle.term.specs.Layout.{trial_region, compounds_region, ends_after}
use Rattle.run_chains.specs.Follow.{Chained}
use Rattle.run_compare.specs.Compare.{Template, HeadTerm, item}
use Rattle.run_circle.specs.Ground.{stamp_in, Grounds}
use Rattle.run_readers.specs.Readers.{Readers, all_met}

-- What the head gave the clause's variable m: its word among those of the head's writers, 0 for nothing.
pub record GaveAt (s : List ℕ) (x : Setting) (given : List Assignment) (m : ℕ) : Type 0 where
  pub nothing : get_or s (trial_region + m) 0 ≡ 0 → given_to given (length x.values + m) ≡ variable writer (length x.values + m)
  pub word : get_or s (trial_region + m) 0 ≢ 0 → get_or s (trial_region + m) 0 ≡ term_word x.places (given_to given (length x.values + m))
  pub term : get_or s (trial_region + m) 0 ≢ 0 → UnitTerm s x (given_to given (length x.values + m))

-- The scratch when the places agree and there is no circle. The readers that the step has met stand from marks + links on, their ranks behind them.
pub record Asking (s : List ℕ) (x : Setting) (y : Template) (given : List Assignment) (values marks links : ℕ) : Type 0 where
  pub chained : Chained s x values links
  pub apart : (n m : ℕ) → n < length x.values → m < length x.values → x.places.pair n ≡ x.places.pair m → n ≡ m
  pub compound_behind : (n : ℕ) → n < x.compounds → compounds_region ≤ x.places.compound n
  pub compound_before : (n : ℕ) → n < x.compounds → x.places.compound n + x.places.width n ≤ values
  pub values_behind : compounds_region ≤ values
  pub marks_behind : values + x.pairs ≤ marks
  pub inside : marks + 3 * x.pairs ≤ length s
  pub ends_behind : marks + 3 * x.pairs ≤ values + ends_after * x.pairs
  pub number : y.number < 128
  pub few_pairs : y.pairs ≤ 16
  pub few_compounds : y.compounds ≤ 32
  pub gave : (m : ℕ) → m < y.pairs → GaveAt s x given m
  pub grounds : Grounds x.places x.values marks s
  pub no_circle : circle x.values ≡ false

-- Each of a guard's arguments is a term of the clause.
unfoldable pub EachTemplate : List ℕ → Setting → Template → Terms → Type 0
EachTemplate s x y end = Unit {0}
EachTemplate s x y (more t ts) = ((lo : ℕ) × (hi : ℕ) × HeadTerm s x y lo hi t) × EachTemplate s x y ts

-- The arguments of a guard: their words stand behind the place p of its compound n.
pub record Arguments (s : List ℕ) (x : Setting) (y : Template) (n p : ℕ) (ts : Terms) : Type 0 where
  pub place : p ≡ (item x y).compound n
  pub inside : p + 8 ≤ length s
  pub held : HoldsFrom s (item x y) n 0 ts
  pub terms : EachTemplate s x y ts

-- They written out.
abbrev pub out : Setting → List Assignment → Terms → Terms
out x given ts = written_out given x.values (length x.values) ts

-- Stamps from this one on are unused.
abbrev pub StampsFrom : List ℕ → ℕ → ℕ → ℕ → Type 0
StampsFrom s marks pairs stamp = (k : ℕ) → marks ≤ k → k < marks + pairs → stamp_in (get_or s k 0) < stamp

-- The pairs ps have joined the set of readers that had n: it has m now.
pub record Joined (s s' : List ℕ) (at pairs n : ℕ) (ps : List ℕ) (m : ℕ) : Type 0 where
  pub ok : Readers s' at pairs m
  pub list : listed s' at m ≡ all_met (listed s at n) ps

abbrev pub AllBelow : ℕ → List ℕ → Type 0
AllBelow n [] = Unit {0}
AllBelow n (r ∷ rs) = (r < n) × AllBelow n rs
