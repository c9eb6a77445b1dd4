-- A section's lines: no LF stands inside a line, and only the first line begins with `q`, if the names have no LF and no variable begins with `q`.
-- So the bytes of a section are cut from a report by its bytes alone.
use Prim.Native.Nat.{ℕ, zero, suc, ◌+◌, ◌/◌, ◌%◌}
use mathlib.Core.Path.{◌≡◌, refl}
use mathlib.Core.Bool.{Bool, true, false, not, ◌&&◌}
use mathlib.Core.List.{List, [], ◌∷◌, ◌++◌, map, append_assoc}
use native.Mathlib.Omega.{arith}
use lib.Dec.{eqb, ltb}
use lib.ListN.{length}
use borrow.Author.Tests.{ne_eqb}
use Rattle.meaning.specs.Bytes.{Bytes, byte, bytes, digits, decimal, joined}
use Rattle.meaning.specs.Terms.{
  Half,
  writer,
  reader,
  Integer,
  plus,
  minus,
  Constant,
  integer,
  name,
  empty,
  cell,
  named,
  Term,
  Terms,
  variable,
  constant,
  compound,
  end,
  more,
  Query,
  as_term,
}
use Rattle.meaning.specs.State.{Values, Origin, Goal, Waiting, Part}
use Rattle.meaning.specs.Report.{
  variable_bytes,
  origin_bytes,
  number_in,
  integer_bytes,
  Role,
  alone,
  tail,
  behind_bar,
  empty_bytes,
  before_element,
  constant_bytes,
  written,
  element_and_tail,
  tail_bytes,
  first_argument,
  other_arguments,
  Line,
  value_lines,
  goal_lines,
  part_lines,
  lines_applied,
  unassigned_pairs,
  line_bytes,
  lines_bytes,
  header,
  section,
}
use Rattle.laws.proofs.Lists.{Each, each_append, each_map}
use Rattle.laws.proofs.Report.Spelled.{
  Spelled,
  AllSpelled,
  ConstantSpelled,
  FunctorSpelled,
  GoalSpelled,
  ValueSpelled,
  applied_spelled,
}
use Rattle.laws.proofs.Report.SpelledRun.{UnitSpelled, GoalsSpelled}
use Rattle.laws.proofs.Report.Cut.{begins_q, no_break, Plain, ended_by_break, Inner, SectionLines}

pub plain_append : (a b : Bytes) → Plain a → Plain b → Plain (a ++ b)
unfolding no_break
plain_append [] b p q = q
plain_append (c ∷ cs) b p q = go (not (eqb c (byte "\n"))) p (λ r. plain_append cs b r q)
  where
    go : (t : Bool) → (t && no_break cs) ≡ true → (Plain cs → Plain (cs ++ b)) → (t && no_break (cs ++ b)) ≡ true
    go true r further = further r
    go false r further = r

-- Numbers.
digit_plain : (n : ℕ) (behind : Bytes) → Plain behind → Plain ((48 + n) ∷ behind)
unfolding no_break byte
digit_plain n behind p = rw (ne_eqb (48 + n) 10 (λ e. omega arith)) p

digits_plain : (fuel n : ℕ) (behind : Bytes) → Plain behind → Plain (digits fuel n behind)
unfolding digits
digits_plain zero n behind p = digit_plain n behind p
digits_plain (suc fuel) n behind p =
    go (ltb n 10) refl (digits_plain fuel (n / 10) ((48 + n % 10) ∷ behind) (digit_plain (n % 10) behind p))
  where
    go : (b : Bool) → ltb n 10 ≡ b → Plain (digits fuel (n / 10) ((48 + n % 10) ∷ behind)) → Plain (digits (suc fuel) n behind)
    go true e further = rw (e, digits) (digit_plain n behind p)
    go false e further = rw (e, digits) further

decimal_plain : (n : ℕ) → Plain (decimal n)
unfolding decimal no_break
decimal_plain n = digits_plain n n [] refl

-- Terms.
variable_plain : (pairs : List ℕ) (h : Half) (p : ℕ) → Plain (variable_bytes pairs h p)
unfolding variable_bytes no_break bytes byte
variable_plain pairs writer p = plain_append (bytes "_") (decimal (number_in p pairs)) refl (decimal_plain (number_in p pairs))
variable_plain pairs reader p =
    plain_append (bytes "_" ++ decimal (number_in p pairs)) (bytes "?") (plain_append (bytes "_") (decimal (number_in p pairs)) refl (decimal_plain (number_in p pairs))) refl

integer_plain : (i : Integer) → Plain (integer_bytes i)
unfolding integer_bytes no_break bytes byte
integer_plain (plus n) = decimal_plain n
integer_plain (minus n) = plain_append (bytes "-") (decimal n) refl (decimal_plain n)

behind_bar_plain : (standing : Role) (cs : Bytes) → Plain cs → Plain (behind_bar standing cs)
unfolding behind_bar no_break bytes byte
behind_bar_plain alone cs p = p
behind_bar_plain tail cs p = plain_append (bytes "|" ++ cs) (bytes "]") (plain_append (bytes "|") cs refl p) refl

constant_plain : (standing : Role) (k : Constant) → ConstantSpelled Plain k → Plain (constant_bytes standing k)
unfolding constant_bytes empty_bytes ConstantSpelled no_break bytes byte
constant_plain standing (integer i) s = behind_bar_plain standing (integer_bytes i) (integer_plain i)
constant_plain standing (name f) s = behind_bar_plain standing f s
constant_plain alone empty s = refl
constant_plain tail empty s = refl

before_element_plain : (standing : Role) → Plain (before_element standing)
unfolding before_element no_break bytes byte
before_element_plain alone = refl
before_element_plain tail = refl

named_plain : (f arguments : Bytes) → Plain f → Plain arguments → Plain (f ++ bytes "(" ++ arguments ++ bytes ")")
unfolding no_break bytes byte
named_plain f arguments p q =
    plain_append (f ++ bytes "(" ++ arguments) (bytes ")") (plain_append (f ++ bytes "(") arguments (plain_append f (bytes "(") p refl) q) refl

comma_plain : (argument others : Bytes) → Plain argument → Plain others → Plain (bytes "," ++ argument ++ others)
unfolding no_break bytes byte
comma_plain argument others p q = plain_append (bytes "," ++ argument) others (plain_append (bytes ",") argument refl p) q

module _ (pairs : List ℕ) where
  mutual
    unfolding written element_and_tail tail_bytes first_argument other_arguments Spelled AllSpelled FunctorSpelled no_break

    pub written_plain : (standing : Role) (t : Term) → Spelled Plain t → Plain (written pairs standing t)
    written_plain standing (variable h p) s = behind_bar_plain standing (variable_bytes pairs h p) (variable_plain pairs h p)
    written_plain standing (constant k) s = constant_plain standing k s
    written_plain standing (compound n cell ts) s =
        plain_append (before_element standing) (element_and_tail pairs ts) (before_element_plain standing) (element_plain ts s.1)
    written_plain standing (compound n (named f) ts) s =
        behind_bar_plain standing (f ++ bytes "(" ++ first_argument pairs ts ++ bytes ")")
        (named_plain f (first_argument pairs ts) s.0 (first_argument_plain ts s.1))

    element_plain : (ts : Terms) → AllSpelled Plain ts → Plain (element_and_tail pairs ts)
    element_plain end s = refl
    element_plain (more t ts) s = plain_append (written pairs alone t) (tail_bytes pairs ts) (written_plain alone t s.0) (tail_plain ts s.1)

    tail_plain : (ts : Terms) → AllSpelled Plain ts → Plain (tail_bytes pairs ts)
    tail_plain end s = refl
    tail_plain (more t ts) s = written_plain tail t s.0

    first_argument_plain : (ts : Terms) → AllSpelled Plain ts → Plain (first_argument pairs ts)
    first_argument_plain end s = refl
    first_argument_plain (more t ts) s =
        plain_append (written pairs alone t) (other_arguments pairs ts) (written_plain alone t s.0) (other_arguments_plain ts s.1)

    other_arguments_plain : (ts : Terms) → AllSpelled Plain ts → Plain (other_arguments pairs ts)
    other_arguments_plain end s = refl
    other_arguments_plain (more t ts) s =
        comma_plain (written pairs alone t) (other_arguments pairs ts) (written_plain alone t s.0) (other_arguments_plain ts s.1)

-- Lines: what stands before the term, and what stands behind it, has no LF; the line begins with something other than `q`.
pub record LineInner (line : Line) : Type 0 where
  pub plain : Plain line.words
  pub begins : (behind : Bytes) → begins_q (line.words ++ behind) ≡ false
  pub spelled : Spelled Plain line.shown
  pub ends : Plain line.ending

variable_words_begin : (x behind : Bytes) → begins_q x ≡ false → begins_q (x ++ bytes " = " ++ behind) ≡ false
unfolding begins_q bytes byte
variable_words_begin [] behind b = refl
variable_words_begin (c ∷ cs) behind b = b

value_lines_inner : (p : ℕ) (xs : List Bytes) → Each Inner xs → Each LineInner (value_lines p xs)
unfolding value_lines Spelled no_break bytes byte
value_lines_inner p [] i = tt
value_lines_inner p (x ∷ xs) i = (
  record {
    plain = plain_append x (bytes " = ") i.0.plain refl;
    begins = λ behind. variable_words_begin x behind i.0.begins;
    spelled = tt;
    ends = refl;
  },
  value_lines_inner (suc p) xs i.1,
)

origin_plain : (o : Origin) → Plain (origin_bytes o)
unfolding origin_bytes no_break bytes byte
origin_plain o =
    plain_append (bytes " from " ++ decimal o.clause ++ bytes " at ") (decimal o.tries)
    (plain_append (bytes " from " ++ decimal o.clause) (bytes " at ") (plain_append (bytes " from ") (decimal o.clause) refl (decimal_plain o.clause)) refl)
    (decimal_plain o.tries)

goal_lines_inner : (word : Bytes) (gs : List Goal) → Plain word → ((behind : Bytes) → begins_q (word ++ behind) ≡ false)
    → Each (λ g. GoalSpelled Plain g.goal) gs → Each LineInner (goal_lines word gs)
unfolding goal_lines as_term Spelled FunctorSpelled GoalSpelled
goal_lines_inner word [] p b s = tt
goal_lines_inner word (g ∷ gs) p b s = (record { plain = p; begins = b; spelled = s.0; ends = origin_plain g.origin }, goal_lines_inner word gs p b s.1)

-- What is needed of a query and its part: names without LF, variables that do not begin with `q`.
pub record PartSpelled (query : Query) (part : Part) : Type 0 where
  pub variables : Each Inner query.variables
  pub unit : UnitSpelled Plain part.unit
  pub goals : GoalsSpelled Plain part.goals

waiting_goals : (ws : List Waiting) → Each (λ w. GoalSpelled Plain w.goal.goal) ws
    → Each (λ g. GoalSpelled Plain g.goal) (map (λ w. w.goal) ws)
waiting_goals ws s = each_map (λ (g : Goal). GoalSpelled Plain g.goal) (λ (w : Waiting). w.goal) ws s

part_lines_inner : (query : Query) (part : Part) → PartSpelled query part → Each LineInner (part_lines query part)
unfolding part_lines no_break bytes byte begins_q
part_lines_inner query part s =
    let active = goal_lines (bytes "active ") part.goals.queue in
    let waiting = goal_lines (bytes "waiting ") (map (λ w. w.goal) part.goals.waiting) in
    let failed = goal_lines (bytes "failed ") part.goals.failed in
    let values = value_lines 0 query.variables in
    each_append LineInner ((values ++ active) ++ waiting) failed
    (each_append LineInner (values ++ active) waiting
    (each_append LineInner values active (value_lines_inner 0 query.variables s.variables)
    (goal_lines_inner (bytes "active ") part.goals.queue refl (λ behind. refl) s.goals.queue))
    (goal_lines_inner (bytes "waiting ") (map (λ w. w.goal) part.goals.waiting) refl (λ behind. refl)
    (waiting_goals part.goals.waiting s.goals.waiting)))
    (goal_lines_inner (bytes "failed ") part.goals.failed refl (λ behind. refl) s.goals.failed)

lines_applied_inner : (values : Values) (ls : List Line) → Each (ValueSpelled Plain) values → Each LineInner ls
    → Each LineInner (lines_applied values ls)
unfolding lines_applied
lines_applied_inner values [] v i = tt
lines_applied_inner values (l ∷ ls) v i = (
  record {
    plain = i.0.plain;
    begins = i.0.begins;
    spelled = applied_spelled Plain (length values) values v l.shown i.0.spelled;
    ends = i.0.ends;
  },
  lines_applied_inner values ls v i.1,
)

-- A line without its LF.
line_body : List ℕ → Line → Bytes
line_body pairs l = l.words ++ written pairs alone l.shown ++ l.ending

lines_inner : (pairs : List ℕ) (ls : List Line) → Each LineInner ls → Each Inner (map (line_body pairs) ls)
unfolding line_body
lines_inner pairs [] i = tt
lines_inner pairs (l ∷ ls) i = (
  record {
    plain =
        plain_append (l.words ++ written pairs alone l.shown) l.ending
        (plain_append l.words (written pairs alone l.shown) i.0.plain (written_plain pairs alone l.shown i.0.spelled)) i.0.ends;
    begins = rw append_assoc (i.0.begins (written pairs alone l.shown ++ l.ending));
  },
  lines_inner pairs ls i.1,
)

lines_ended : (pairs : List ℕ) (ls : List Line) → joined (map (line_bytes pairs) ls) ≡ ended_by_break (map (line_body pairs) ls)
unfolding line_body line_bytes joined ended_by_break
lines_ended pairs [] = refl
lines_ended pairs (l ∷ ls) = rw (lines_ended pairs ls)

-- The first line.
header_body : ℕ → Part → Bytes
header_body place part =
    bytes "query " ++ decimal (place + 1)
    ++ bytes " tries " ++ decimal part.unit.tries
    ++ bytes " active " ++ decimal (length part.goals.queue)
    ++ bytes " waiting " ++ decimal (length part.goals.waiting)
    ++ bytes " failed " ++ decimal (length part.goals.failed)

pub word_and_number : (before word : Bytes) (n : ℕ) → Plain before → Plain word → Plain (before ++ word ++ decimal n)
word_and_number before word n p q = plain_append (before ++ word) (decimal n) (plain_append before word p q) (decimal_plain n)

header_plain : (place : ℕ) (part : Part) → Plain (header_body place part)
unfolding header_body no_break bytes byte
header_plain place part =
    let query = bytes "query " ++ decimal (place + 1) in
    let tries = query ++ bytes " tries " ++ decimal part.unit.tries in
    let active = tries ++ bytes " active " ++ decimal (length part.goals.queue) in
    let waiting = active ++ bytes " waiting " ++ decimal (length part.goals.waiting) in
    word_and_number waiting (bytes " failed ") (length part.goals.failed)
    (word_and_number active (bytes " waiting ") (length part.goals.waiting)
    (word_and_number tries (bytes " active ") (length part.goals.queue)
    (word_and_number query (bytes " tries ") part.unit.tries
    (plain_append (bytes "query ") (decimal (place + 1)) refl (decimal_plain (place + 1))) refl) refl) refl) refl

-- A section is its lines: the first begins with `q`, no other does, and no LF stands inside a line.
pub section_lines : (place : ℕ) (query : Query) (part : Part) → PartSpelled query part → SectionLines (section place query part)
unfolding section header header_body lines_bytes ended_by_break begins_q bytes byte
section_lines place query part s =
    let shown = lines_applied part.unit.values (part_lines query part) in
    let inner = lines_applied_inner part.unit.values (part_lines query part) s.unit.values (part_lines_inner query part s) in
    record {
      first = header_body place part;
      others = map (line_body (unassigned_pairs shown)) shown;
      plain = header_plain place part;
      begins = refl;
      inner = lines_inner (unassigned_pairs shown) shown inner;
      same = rw (lines_ended (unassigned_pairs shown) shown);
    }
