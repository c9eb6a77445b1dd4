-- A query's section in the scratch: the spellings and pairs of its variables, and its goals in a list.
use Rattle.std.specs.Prelude.{ℕ, ◌+◌, ◌*◌, ◌≤◌, ◌<◌, ◌≡◌, List, [], ◌∷◌, map, length, get_or}
use Rattle.meaning.specs.Bytes.{Bytes}
use Rattle.meaning.specs.Terms.{as_term}
use Rattle.meaning.specs.State.{Room, Goal}
use Rattle.laws.proofs.Lists.EachOf.{Each}
use Rattle.term.specs.Layout.{InRange, pair_facts, query_pairs_word, query_first_pair_word, query_variables_from}
use Rattle.term.specs.declared.state.Standing.{Standing}
use Rattle.term.specs.Setting.{Setting, UnitTerm}
use Rattle.term.specs.Spellings.{HoldsSpellings}
use Rattle.term.specs.Goals.{origin_word, packed_goal, OriginFits}
use Rattle.report_pairs.specs.Sound.{Sound}
use Rattle.report_tallies.specs.Groups.{GroupInside, own_from, active_group, waiting_group, failed_group}
use Rattle.report_tallies.specs.declared.groups.Group.{Group}

-- The query q has these variables: how many, where each is spelled, and its pair.
pub record Variables (s : List ℕ) (text : Bytes) (x : Setting) (q : ℕ) (xs : List Bytes) : Type 0 where
  pub small : q < 8
  pub few : length xs ≤ 16
  pub number : get_or s (query_pairs_word q) 0 ≡ length xs
  pub spelled : HoldsSpellings s text (query_variables_from q) xs
  pub pair : (n : ℕ) → n < length xs → x.places.pair n ≡ get_or s (query_first_pair_word q) 0 + n
  pub low : (n : ℕ) → n < length xs → x.places.pair n ≤ 65535
  pub within : length xs ≤ length x.values

-- These goals of the query q stand in a list.
abbrev pub GoalsHeld : List ℕ → Setting → List Goal → Type 0
GoalsHeld s x [] = Unit {0}
GoalsHeld s x (g ∷ gs) = UnitTerm s x (as_term g.goal) × Sound (as_term g.goal) × GoalsHeld s x gs

-- Their words, which have room for their compounds' places and their origins.
pub record Listed (s : List ℕ) (x : Setting) (facts : ℕ) (g : Group) (q : ℕ) (gs : List Goal) : Type 0 where
  pub small : q < 8
  pub inside : GroupInside s g
  pub behind : facts + pair_facts * x.pairs ≤ g.from
  pub low : facts < 1048576
  pub words : own_from s g q 0 g.count ≡ map (λ h. packed_goal q (x.places.compound h.goal.number) (origin_word h.origin)) gs
  pub origins : Each (λ h. OriginFits h.origin) gs
  pub held : GoalsHeld s x gs

-- A query's section: its variables, and its goals in the three lists.
pub record SectionAt (s : List ℕ) (text : Bytes) (x : Setting) (facts : ℕ) (figures : Room) (t : Standing) (q : ℕ) (xs : List Bytes) (actives ws fs : List Goal) : Type 0 where
  pub in_range : InRange figures
  pub variables : Variables s text x q xs
  pub active : Listed s x facts (active_group figures t) q actives
  pub waiting : Listed s x facts (waiting_group figures t) q ws
  pub failed : Listed s x facts (failed_group figures t) q fs
