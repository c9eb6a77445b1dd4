-- How many terms a term with every assignment applied is made of: following does not change it, an argument has fewer than its compound,
-- and no term is written in fewer bytes, if every name has at least one.
use Prim.Native.Nat.{ℕ, zero, suc, ◌+◌, ◌≤◌}
use mathlib.Core.Path.{◌≡◌, refl, ap}
use mathlib.Core.Bool.{Bool, true, false}
use mathlib.Core.List.{List, [], ◌∷◌, ◌++◌}
use native.Mathlib.Omega.{arith}
use lib.Dec.{ltb}
use lib.ListN.{length, length-append}
use Prim.Native.Nat.{◌/◌, ◌%◌}
use Rattle.meaning.specs.Bytes.{Bytes, bytes, digits, decimal}
use Rattle.meaning.specs.Terms.{
  Half,
  writer,
  reader,
  Integer,
  plus,
  minus,
  Constant,
  integer,
  name,
  empty,
  Functor,
  cell,
  named,
  Term,
  Terms,
  variable,
  constant,
  compound,
  end,
  more,
  count,
}
use Rattle.meaning.specs.State.{Values}
use Rattle.meaning.specs.Report.{
  number_in,
  variable_bytes,
  integer_bytes,
  Role,
  alone,
  tail,
  behind_bar,
  empty_bytes,
  before_element,
  constant_bytes,
  written,
  element_and_tail,
  tail_bytes,
  first_argument,
  other_arguments,
}
use Rattle.report_pairs.specs.Threaded.{full, all_full, seen_after, shown, nodes, all_nodes}
use Rattle.report_pairs.specs.Sound.{SoundConstant, Sound, AllSound}
use Rattle.report_pairs.proofs.Full.{full_compound}

pub nodes_positive : (t : Term) → 1 ≤ nodes t
unfolding nodes
nodes_positive (variable h p) = omega arith
nodes_positive (constant k) = omega arith
nodes_positive (compound n f ts) = omega arith

-- A compound has one more than its arguments together; arguments are counted one by one.
pub nodes_compound : (values : Values) (n : ℕ) (f : Functor) (ts : Terms)
    → nodes (full values (compound n f ts)) ≡ suc (all_nodes (all_full values ts))
unfolding nodes
nodes_compound values n f ts = ap nodes (full_compound values n f ts)

pub nodes_more : (values : Values) (t : Term) (ts : Terms)
    → all_nodes (all_full values (more t ts)) ≡ nodes (full values t) + all_nodes (all_full values ts)
unfolding all_nodes all_full
nodes_more values t ts = refl

pub nodes_end : (values : Values) → all_nodes (all_full values end) ≡ 0
unfolding all_nodes all_full
nodes_end values = refl

-- A number has at least one digit.
pub digits_positive : (fuel n : ℕ) (behind : Bytes) → suc (length behind) ≤ length (digits fuel n behind)
unfolding digits
digits_positive zero n behind = omega arith
digits_positive (suc fuel) n behind = go (ltb n 10) refl (digits_positive fuel (n / 10) ((48 + n % 10) ∷ behind))
  where
    go : (b : Bool) → ltb n 10 ≡ b → suc (length ((48 + n % 10) ∷ behind)) ≤ length (digits fuel (n / 10) ((48 + n % 10) ∷ behind))
        → suc (length behind) ≤ length (digits (suc fuel) n behind)
    go true e further = rw (e, digits) (omega arith)
    go false e further = rw (e, digits) (omega arith)

pub decimal_positive : (n : ℕ) → 1 ≤ length (decimal n)
unfolding decimal
decimal_positive n = digits_positive n n []

bar_longer : (standing : Role) (b : Bytes) → length b ≤ length (behind_bar standing b)
unfolding behind_bar bytes
bar_longer alone b = omega arith
bar_longer tail b = simp length-append (omega arith)

before_positive : (standing : Role) → length (before_element standing) ≡ 1
unfolding before_element bytes
before_positive alone = refl
before_positive tail = refl

variable_positive : (l : List ℕ) (h : Half) (p : ℕ) → 2 ≤ length (variable_bytes l h p)
unfolding variable_bytes bytes
variable_positive l writer p = omega (arith, decimal_positive (number_in p l))
variable_positive l reader p = simp length-append (omega (arith, decimal_positive (number_in p l)))

integer_positive : (i : Integer) → 1 ≤ length (integer_bytes i)
unfolding integer_bytes bytes
integer_positive (plus n) = decimal_positive n
integer_positive (minus n) = omega arith

constant_positive : (standing : Role) (k : Constant) → SoundConstant k → 1 ≤ length (constant_bytes standing k)
unfolding constant_bytes empty_bytes bytes
constant_positive standing (integer i) s = omega (arith, bar_longer standing (integer_bytes i), integer_positive i)
constant_positive standing (name f) s = omega (arith, bar_longer standing f)
constant_positive alone empty s = omega arith
constant_positive tail empty s = omega arith

named_longer : (f arguments : Bytes) → suc (length arguments) ≤ length (f ++ bytes "(" ++ arguments ++ bytes ")")
unfolding bytes
named_longer f arguments = simp length-append (omega arith)

-- No term is written in fewer bytes than it has terms in it.
module _ (l : List ℕ) where
  mutual
    unfolding written element_and_tail tail_bytes first_argument other_arguments nodes all_nodes Sound AllSound count bytes

    pub nodes_written : (t : Term) → Sound t → (standing : Role) → nodes t ≤ length (written l standing t)
    nodes_written (variable h p) s standing = omega (arith, bar_longer standing (variable_bytes l h p), variable_positive l h p)
    nodes_written (constant k) s standing = constant_positive standing k s
    nodes_written (compound n cell ts) s standing =
        simp length-append (omega (arith, before_positive standing, nodes_element ts s.0 s.1))
    nodes_written (compound n (named f) ts) s standing =
        omega (arith, bar_longer standing (f ++ bytes "(" ++ first_argument l ts ++ bytes ")"), named_longer f (first_argument l ts), nodes_first ts s.1)

    nodes_element : (ts : Terms) → count ts ≡ 2 → AllSound ts → all_nodes ts ≤ length (element_and_tail l ts)
    nodes_element end two s = omega arith
    nodes_element (more t ts) two s = simp length-append (omega (arith, nodes_written t s.0 alone, nodes_tail ts (omega arith) s.1))

    nodes_tail : (ts : Terms) → count ts ≡ 1 → AllSound ts → all_nodes ts ≤ length (tail_bytes l ts)
    nodes_tail end one s = omega arith
    nodes_tail (more t ts) one s = omega (arith, nodes_written t s.0 tail, no_nodes ts (omega arith))

    no_nodes : (ts : Terms) → count ts ≡ 0 → all_nodes ts ≡ 0
    no_nodes end none = refl
    no_nodes (more t ts) none = absurd (omega arith)

    nodes_first : (ts : Terms) → AllSound ts → all_nodes ts ≤ length (first_argument l ts)
    nodes_first end s = omega arith
    nodes_first (more t ts) s = simp length-append (omega (arith, nodes_written t s.0 alone, nodes_others ts s.1))

    nodes_others : (ts : Terms) → AllSound ts → all_nodes ts ≤ length (other_arguments l ts)
    nodes_others end s = omega arith
    nodes_others (more t ts) s = simp length-append (omega (arith, nodes_written t s.0 alone, nodes_others ts s.1))

pub nodes_shown : (seen : List ℕ) (standing : Role) (t : Term) → Sound t → nodes t ≤ length (shown seen standing t)
unfolding shown
nodes_shown seen standing t s = nodes_written (seen_after seen t) t s standing

pub shown_positive : (seen : List ℕ) (standing : Role) (t : Term) → Sound t → 1 ≤ length (shown seen standing t)
shown_positive seen standing t s = omega (arith, nodes_positive t, nodes_shown seen standing t s)
