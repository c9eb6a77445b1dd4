-- What reading a clause answers, up to its full stop, against the definitions' `body` and `rule`.
use Rattle.std.specs.Prelude.{ℕ, ◌+◌, ◌≤◌, ◌<◌, min, ◌≡◌, Bool, true, false, List, [], ◌∷◌, map, length, get_or, set, Option, Some, Result, Ok, Err, IfSome}
use Rattle.std.proofs.Math.Option.{none, some}
use Rattle.meaning.specs.Bytes.{Bytes}
use Rattle.meaning.specs.Terms.{
  Half,
  Test,
  Terms,
  compound,
  end,
  more,
  named,
  Named,
  Guard,
  as_term,
  count,
  all_occurrences,
}
use Rattle.meaning.specs.Tokens.{Tokens}
use Rattle.meaning.specs.Table.{Element, as_goals, as_guards}
use Rattle.meaning.specs.Items.{Counted, Reader, Body, Rule, read, malformed, passed, give, if_next, goals, body, rule}
use Rattle.term.specs.Cells.{Places as CellPlaces, term_word, stored, Known}
use Rattle.term.specs.Frames.{Only}
use Rattle.term.specs.Layout.{trial_region, clause_base, clause_goals_from, clause_tests_from}
use Rattle.load_tokens.specs.Fronts.{tokens_in}
use Rattle.load_names.specs.Places.{Place, Placed, spellings, names_over, item_places}
use Rattle.load_openings.specs.Reading.{piece, counted_at, half_place}
use Rattle.load_openings.specs.declared.cursor.Cursor.{Cursor}
use Rattle.load_image.specs.Image.{goals_stored, guards_stored, head_word}
use Rattle.load_goals.specs.Endings.{Part, goals_part, Ended}
use Rattle.load_faults.specs.Finding.{BarIs}
use Rattle.load_elements.specs.Elements.{element_word, elements_occurrences}
use Rattle.load_guards.specs.Judged.{tests_set, Licences}
use Rattle.load_items.specs.declared.refused.Refused.{Refused}
use Rattle.load_items.specs.declared.refused.Refused.TheVariants.{Malformed, Unknown, Broken, Exceeded}
use Rattle.load_items.specs.declared.rule.Ruled.{Ruled}

-- The words of elements.
pub record Worded (words : List ℕ) (places : CellPlaces) (es : List Element) : Type 0 where
  pub count_is : length es ≡ length words
  pub words_are : (i : ℕ) → i < length words → get_or words i 0 ≡ get_or (map (element_word places) es) i 0

-- Goals' words, one behind the other.
unfoldable pub goals_set : CellPlaces → ℕ → List Named → List ℕ → List ℕ
goals_set places place [] s = s
goals_set places place (g ∷ gs) s = goals_set places (place + 1) gs (set s place (term_word places (as_term g)))

-- All of the elements are goals, and their words are set; or one is none.
abbrev pub SetIs : (s s' : List ℕ) (place : ℕ) (places : CellPlaces) (es : List Element) → Bool → Type 0
SetIs s s' place places es true = (gs : List Named) × (as_goals es ≡ some gs) × (s' ≡ goals_set places place gs s) × Only place (place + 8) s s'
SetIs s s' place places es false = (as_goals es ≡ none) × Only place (place + 8) s s'

-- All of them are guards, their words are set, and the readers that they license noted; or one is none.
abbrev pub TestedIs : (s s' licensed : List ℕ) (n base place : ℕ) (known : List Place) (es : List Element) → Bool → Type 0
TestedIs s s' licensed n base place known es true =
    (gs : List Guard) × (as_guards es ≡ some gs) × (length gs ≡ n) × (s' ≡ tests_set (item_places known base) place gs s) × Licences licensed gs
    × Only place (place + 8) s s'
TestedIs s s' licensed n base place known es false = (as_guards es ≡ none) × Only place (place + 8) s s'

-- The names of a guard's compounds are among these: its own, if it has one, and its arguments'.
unfoldable pub TestNamed : Test → List Bytes → Guard → Terms → Type 0
TestNamed Test.an_integer names g ts = Known names (compound g.number (named g.row.name) ts)
TestNamed Test.a_constant names g ts = Known names (compound g.number (named g.row.name) ts)
TestNamed Test.a_compound names g ts = Known names (compound g.number (named g.row.name) ts)
TestNamed Test.a_ground names g ts = Known names (compound g.number (named g.row.name) ts)
TestNamed Test.known names g ts = Known names (compound g.number (named g.row.name) ts)
TestNamed Test.equal names g end = Unit {0}
TestNamed Test.equal names g (more t end) = Unit {0}
TestNamed Test.equal names g (more t (more u ts)) = Known names t × Known names u
TestNamed Test.otherwise names g ts = Unit {0}

unfoldable pub GuardsNamed : List Bytes → List Guard → Type 0
GuardsNamed names [] = Unit {0}
GuardsNamed names (g ∷ gs) = TestNamed g.row.test names g g.arguments × GuardsNamed names gs

-- The goals behind the bar, if there are any.
unfoldable pub perhaps_goals : Reader (List Named)
perhaps_goals = if_next "." (give []) (goals 8)

-- What stands behind the bar of the clause k, whose n guards the table has, or not.
abbrev pub GuardedIs : (k n : ℕ) (found : Bool) (text rest : Bytes) (from : ℕ) (known vars : List Place) (c : Cursor)
    (s item s' names' item' : List ℕ) → Result Ruled Refused → Type 0
GuardedIs k n found text rest from known vars c s item s' names' item' (Ok r) =
    (found ≡ true) × (r.guards ≡ n) × (r.bar ≡ Some c.at)
    × (gs : List Named) × (passed : List Placed) × (stop : ℕ)
    × Ended (goals_part (clause_goals_from k)) perhaps_goals text rest from (clause_base k) known vars c s item s' names' item' r.goals r.cursor gs passed stop
GuardedIs k n found text rest from known vars c s item s' names' item' (Err Unknown) =
    (found ≡ false)
    × (gs : List Named) × (d : Counted) × (left : Tokens)
    × (perhaps_goals (counted_at known vars c.compounds) (piece (tokens_in from rest c.at)) ≡ read gs d left)
    × Only 0 trial_region s s'
GuardedIs k n found text rest from known vars c s item s' names' item' (Err (Malformed a)) =
    (perhaps_goals (counted_at known vars c.compounds) (piece (tokens_in from rest c.at)) ≡ malformed (from + a))
    × (a ≤ length rest) × Only 0 trial_region s s'
GuardedIs k n found text rest from known vars c s item s' names' item' (Err Exceeded) =
    (perhaps_goals (counted_at known vars c.compounds) (piece (tokens_in from rest c.at)) ≡ passed) × Only 0 trial_region s s'
GuardedIs k n found text rest from known vars c s item s' names' item' (Err (Broken fault)) = ⊥

-- A clause's body and the whole clause, with these guards: their words and those of the goals stand from two places on.
unfoldable pub body_part : ℕ → List Guard → Part Body
body_part k gs = record {
  kept = λ p b s. goals_stored p (clause_goals_from k) b.goals (guards_stored p (clause_tests_from k) gs s);
  goals = λ b. b.goals;
  size = λ b. length b.goals;
}

unfoldable pub rule_part : ℕ → List Guard → Part Rule
rule_part k gs = record {
  kept = λ p r s. goals_stored p (clause_goals_from k) r.body.goals (guards_stored p (clause_tests_from k) gs (stored p (as_term r.head) s));
  goals = λ r. r.head ∷ r.body.goals;
  size = λ r. length r.body.goals;
}

-- The guards of a clause that was read, as the table has them: the elements' halves are counted, and the readers that they license noted.
pub record GuardsAre (rest : Bytes) (from : ℕ) (names : List Bytes) (in_guards licensed : List ℕ) (guards : ℕ) (bar : Option ℕ) (b : Body) (gs : List Guard) : Type 0 where
  pub in_table : as_guards b.guards ≡ some gs
  pub count_is : length gs ≡ guards
  pub few : guards ≤ 8
  pub bar_is : BarIs rest from bar b.behind
  pub bar_behind : IfSome bar (λ place. 0 < place)
  pub named : GuardsNamed names gs
  pub table_size : length in_guards ≡ 64
  pub counted : (h : Half) (m : ℕ) → m < 16 → get_or in_guards (half_place h m) 0 ≡ min 2 (elements_occurrences h m b.guards)
  pub licences : Licences licensed gs

abbrev pub BodyIs : (k : ℕ) (text rest : Bytes) (from : ℕ) (known vars : List Place) (c : Cursor)
    (s item s' names' item' in_guards' licensed' : List ℕ) → Result Ruled Refused → Type 0
BodyIs k text rest from known vars c s item s' names' item' in_guards' licensed' (Ok r) =
    (b : Body) × (gs : List Guard) × (passed : List Placed) × (stop : ℕ)
    × Ended (body_part k gs) (body 8 []) text rest from (clause_base k) known vars c s item s' names' item' r.goals r.cursor b passed stop
    × GuardsAre rest from (spellings (names_over passed known)) in_guards' licensed' r.guards r.bar b gs
BodyIs k text rest from known vars c s item s' names' item' in_guards' licensed' (Err Unknown) =
    (b : Body) × (d : Counted) × (left : Tokens)
    × (body 8 [] (counted_at known vars c.compounds) (piece (tokens_in from rest c.at)) ≡ read b d left)
    × (as_guards b.guards ≡ none) × Only 0 trial_region s s'
BodyIs k text rest from known vars c s item s' names' item' in_guards' licensed' (Err (Malformed a)) =
    (body 8 [] (counted_at known vars c.compounds) (piece (tokens_in from rest c.at)) ≡ malformed (from + a))
    × (a ≤ length rest) × Only 0 trial_region s s'
BodyIs k text rest from known vars c s item s' names' item' in_guards' licensed' (Err Exceeded) =
    (body 8 [] (counted_at known vars c.compounds) (piece (tokens_in from rest c.at)) ≡ passed) × Only 0 trial_region s s'
BodyIs k text rest from known vars c s item s' names' item' in_guards' licensed' (Err (Broken fault)) = ⊥

-- A clause read whole, with its head's word noted, and its head's halves counted.
pub record RuleRead (k : ℕ) (text rest : Bytes) (from : ℕ) (known vars : List Place) (c : Cursor) (s item heads s' names' item' heads' in_head' in_guards' licensed' : List ℕ)
    (guards : ℕ) (bar : Option ℕ) (w : ℕ) (c' : Cursor) (r : Rule) (gs : List Guard) (passed : List Placed) (stop : ℕ) : Type 0 where
  pub ended : Ended (rule_part k gs) rule text rest from (clause_base k) known vars c s item s' names' item' w c' r passed stop
  pub guards_are : GuardsAre rest from (spellings (names_over passed known)) in_guards' licensed' guards bar r.body gs
  pub noted : heads' ≡ set heads k (head_word (names_over passed known) r.head)
  pub arguments_few : count r.head.arguments ≤ 6
  pub head_size : length in_head' ≡ 64
  pub in_head : (h : Half) (m : ℕ) → m < 16 → get_or in_head' (half_place h m) 0 ≡ min 2 (get_or item (half_place h m) 0 + all_occurrences h m r.head.arguments)

abbrev pub RuledIs : (k : ℕ) (text rest : Bytes) (from : ℕ) (known vars : List Place) (c : Cursor)
    (s item heads s' names' item' heads' in_head' in_guards' licensed' : List ℕ) → Result Ruled Refused → Type 0
RuledIs k text rest from known vars c s item heads s' names' item' heads' in_head' in_guards' licensed' (Ok r) =
    (whole : Rule) × (gs : List Guard) × (passed : List Placed) × (stop : ℕ)
    × RuleRead k text rest from known vars c s item heads s' names' item' heads' in_head' in_guards' licensed' r.guards r.bar r.goals r.cursor
    whole gs passed stop
RuledIs k text rest from known vars c s item heads s' names' item' heads' in_head' in_guards' licensed' (Err Unknown) =
    (r : Rule) × (d : Counted) × (left : Tokens)
    × (rule (counted_at known vars c.compounds) (piece (tokens_in from rest c.at)) ≡ read r d left)
    × (as_guards r.body.guards ≡ none) × Only 0 trial_region s s'
RuledIs k text rest from known vars c s item heads s' names' item' heads' in_head' in_guards' licensed' (Err (Malformed a)) =
    (rule (counted_at known vars c.compounds) (piece (tokens_in from rest c.at)) ≡ malformed (from + a))
    × (a ≤ length rest) × Only 0 trial_region s s'
RuledIs k text rest from known vars c s item heads s' names' item' heads' in_head' in_guards' licensed' (Err Exceeded) =
    (rule (counted_at known vars c.compounds) (piece (tokens_in from rest c.at)) ≡ passed) × Only 0 trial_region s s'
RuledIs k text rest from known vars c s item heads s' names' item' heads' in_head' in_guards' licensed' (Err (Broken fault)) = ⊥
