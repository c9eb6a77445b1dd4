-- Two terms compared when written out, over links between pairs that are taken to be equal. What a link says is taken level by level: terms are equal if
-- they are so cut off any number of levels down; so links may be made before what they say is seen to be true.
use Rattle.std.specs.Prelude.{ℕ, zero, suc, ◌+◌, ◌*◌, ◌/◌, ◌%◌, ◌≤◌, ◌<◌, ◌≡◌, ◌≢◌, Bool, true, false, ◌⊎◌, List, [], length, get_or, Option, Some, None}
use Rattle.meaning.specs.Terms.{Half, Constant, Functor, Term, Terms, variable, constant, compound, end, more, replaced}
use Rattle.meaning.specs.State.{applied}
use Rattle.meaning.specs.Compare.{Assignment, succeeds}
use Rattle.meaning.specs.Guards.{given_to, first_of, all_variables, two_equal}
use Rattle.run_circle.proofs.Depth.{depth}
use Rattle.term.specs.Cells.{Known, term_word}
use Rattle.term.specs.Holds.{Holds}
use Rattle.term.specs.Frames.{Only}
use Rattle.term.specs.Layout.{trial_region}
use Rattle.term.specs.Setting.{Setting, Within, Ranged, UnitTerm}
use Rattle.term.specs.Words.{tag_in, rest_in, reader_word}
use Rattle.run_compare.specs.Compare.{Template, item}
use Rattle.run_readers.specs.Readers.{Readers}
use Rattle.run_asked.specs.Asking.{Asking, Arguments, Joined, out}

unfoldable pub each : (Term → Term) → Terms → Terms
each f end = end
each f (more t ts) = more (f t) (each f ts)

-- A term without its compounds' numbers, cut off so many levels down.
unfoldable pub cut : ℕ → Term → Term
cut zero t = constant Constant.empty
cut (suc n) (variable h p) = variable h p
cut (suc n) (constant k) = constant k
cut (suc n) (compound m f ts) = compound 0 f (each (cut n) ts)

-- No variable stands in a term.
unfoldable mutual
  pub Bare : Term → Type 0
  Bare (variable h p) = ⊥
  Bare (constant k) = Unit {0}
  Bare (compound m f ts) = AllBare ts

  pub AllBare : Terms → Type 0
  AllBare end = Unit {0}
  AllBare (more t ts) = Bare t × AllBare ts

-- What a guard is asked in, which stays: the scratch before the links were made, the unit and the clause, what the head gave, where the marks stand, how
-- many readers the step has met.
pub record Scene : Type 0 where
  pub front : List ℕ
  pub unit : Setting
  pub clause : Template
  pub given : List Assignment
  pub marks : ℕ
  pub met : ℕ

-- A term of the unit written out, and one of the clause.
abbrev pub plain : Scene → Term → Term
plain x t = applied (suc (length x.unit.values)) x.unit.values t

abbrev pub filled_by : Scene → Half → ℕ → Term
filled_by x h m = applied (length x.unit.values) x.unit.values (given_to x.given (length x.unit.values + m))

abbrev pub filled : Scene → Term → Term
filled x t = replaced (filled_by x) t

-- A term of the clause that the scratch holds.
pub record ClauseTerm (s : List ℕ) (x : Setting) (y : Template) (t : Term) : Type 0 where
  pub held : Holds s (item x y) t
  pub within : Within y.pairs y.compounds t
  pub known : Known x.places.names t
  pub ranged : Ranged t

-- A word is that of a term which is v written out, and ground: a term of the unit, or a compound of the clause.
pub data Means (x : Scene) (w : ℕ) (v : Term) : Type 0 where
  of_unit : (t : Term) → UnitTerm x.front x.unit t → w ≡ term_word x.unit.places t → v ≡ plain x t → Bare v → Means x w v
  of_clause : (n : ℕ) (f : Functor) (ts : Terms) → ClauseTerm x.front x.unit x.clause (compound n f ts)
      → w ≡ term_word (item x.unit x.clause) (compound n f ts) → v ≡ filled x (compound n f ts) → Bare v → Means x w v

-- A variable's word has the tag 1 or 2.
abbrev pub VariableIs : ℕ → Bool → Type 0
VariableIs w true = (0 < tag_in w) × (tag_in w ≤ 2)
VariableIs w false = 0 < tag_in w → 2 < tag_in w

-- The word at a place of a clause's compound: a variable stands for what the head gave it.
pub record GivenIs (s : List ℕ) (at r : ℕ) : Type 0 where
  pub given : VariableIs (get_or s at 0) true → r ≡ get_or s (trial_region + rest_in (get_or s at 0)) 0
  pub other : VariableIs (get_or s at 0) false → r ≡ get_or s at 0

pub record ReadableGiven (s : List ℕ) (at : ℕ) : Type 0 where
  pub inside : at < length s
  pub given : VariableIs (get_or s at 0) true → trial_region + rest_in (get_or s at 0) < length s

-- The word at a place of a compound: the clause's stand before the trial's region, the unit's behind it.
pub record PartIs (s : List ℕ) (at r : ℕ) : Type 0 where
  pub clause : at < trial_region → GivenIs s at r
  pub unit : trial_region ≤ at → r ≡ get_or s at 0

pub record Readable (s : List ℕ) (at : ℕ) : Type 0 where
  pub inside : at < length s
  pub clause : at < trial_region → ReadableGiven s at

-- A link: the place of a pair, and 65536 times the word that it is linked to.
abbrev pub linked_pair : ℕ → ℕ
linked_pair e = e % 65536

abbrev pub linked_word : ℕ → ℕ
linked_word e = e / 65536

-- What stands on its two sides; and it agrees so many levels down.
pub record Link (x : Scene) (e : ℕ) : Type 0 where
  pub left : Term
  pub right : Term
  pub pair : Means x (reader_word (linked_pair e)) left
  pub word : Means x (linked_word e) right

abbrev pub LinkAgrees : Scene → ℕ → ℕ → Type 0
LinkAgrees x n e = (t u : Term) → Means x (reader_word (linked_pair e)) t → Means x (linked_word e) u → cut n t ≡ cut n u

abbrev pub Agrees : Scene → List ℕ → ℕ → ℕ → ℕ → Type 0
Agrees x s lists taken n = (i : ℕ) → x.met ≤ i → i < taken → LinkAgrees x n (get_or s (lists + i) 0)

-- The scratch while terms are compared: the list of the step's readers has links behind them, up to the place taken.
pub record Working (s : List ℕ) (x : Scene) (values lists links taken : ℕ) : Type 0 where
  pub asking : Asking x.front x.unit x.clause x.given values x.marks links
  pub few : links ≤ 65536
  pub near : values ≤ 268435456
  pub lists_at : lists ≡ x.marks + links
  pub only : Only lists (lists + 2 * links) x.front s
  pub readers : Readers s lists links x.met
  pub firsts : (i : ℕ) → i < x.met → get_or s (lists + i) 0 ≡ get_or x.front (lists + i) 0
  pub low : x.met ≤ taken
  pub high : taken ≤ links
  pub linked : (i : ℕ) → x.met ≤ i → i < taken → Link x (get_or s (lists + i) 0)

-- The word that a pair is linked to, if it is.
abbrev pub LinkIs : List ℕ → ℕ → ℕ → ℕ → Option ℕ → Type 0
LinkIs s lists taken p None = Unit {0}
LinkIs s lists taken p (Some r) =
    (r ≢ 0) × (i : ℕ) × (i < taken) × (linked_pair (get_or s (lists + i) 0) ≡ p) × (linked_word (get_or s (lists + i) 0) ≡ r)

-- A link from p to w fits, and the list may have room.
pub record Puts (links taken met p w : ℕ) : Type 0 where
  pub low : met ≤ taken
  pub high : taken ≤ links
  pub few : links ≤ 65536
  pub pair : p < links
  pub word : w < 4294967296

-- Only a link from p to w was made, or none.
pub record Put (s s' : List ℕ) (lists links taken met p w r : ℕ) : Type 0 where
  pub only : Only lists (lists + 2 * links) s s'
  pub readers : Readers s' lists links met
  pub firsts : (i : ℕ) → i < met → get_or s' (lists + i) 0 ≡ get_or s (lists + i) 0
  pub low : taken ≤ r
  pub high : r ≤ links
  pub new : (i : ℕ) → met ≤ i → i < r
      → (get_or s' (lists + i) 0 ≡ p + 65536 * w) ⊎ ((i < taken) × (get_or s' (lists + i) 0 ≡ get_or s (lists + i) 0))

-- A word that stands for the same as another with the meaning v, as far as the links agree.
pub record Alike (s : List ℕ) (x : Scene) (lists taken : ℕ) (v : Term) (r : ℕ) : Type 0 where
  pub meaning : Term
  pub means : Means x r meaning
  pub same : (n : ℕ) → Agrees x s lists taken n → cut n v ≡ cut n meaning

-- And is no variable's.
pub record Opened (s : List ℕ) (x : Scene) (lists taken : ℕ) (v : Term) (r : ℕ) : Type 0 where
  pub alike : Alike s x lists taken v r
  pub ended : VariableIs r false

-- Links between the meanings v and u were made, or none.
pub record Linked (s s' : List ℕ) (x : Scene) (values lists links taken : ℕ) (v u : Term) (r : ℕ) : Type 0 where
  pub working : Working s' x values lists links r
  pub agrees : (n : ℕ) → cut n v ≡ cut n u → Agrees x s lists taken n → Agrees x s' lists r n

-- Equal, as far as the links before agree; and so far those afterwards agree.
abbrev pub Found : List ℕ → List ℕ → Scene → ℕ → ℕ → Term → Term → ℕ → Type 0
Found s s' x lists taken v u r = (n : ℕ) → Agrees x s lists taken n → (cut n v ≡ cut n u) × Agrees x s' lists r n

-- All links are true, the two are equal, and no deeper than so much.
pub record Truly (s : List ℕ) (x : Scene) (lists taken : ℕ) (v u : Term) (deep : ℕ) : Type 0 where
  pub links : (n : ℕ) → Agrees x s lists taken n
  pub equal : (n : ℕ) → cut n v ≡ cut n u
  pub low : depth v < deep

-- Compared: 65537 for a difference, else the place in the list that is taken now.
pub record Compared (s s' : List ℕ) (x : Scene) (values lists links taken deep : ℕ) (v u : Term) (r : ℕ) : Type 0 where
  pub stands : Working s' x values lists links x.met
  pub working : (r ≡ 65537 → ⊥) → Working s' x values lists links r
  pub found : (r ≡ 65537 → ⊥) → Found s s' x lists taken v u r
  pub unequal : r ≡ 65537 → Truly s x lists taken v u deep → ⊥

-- The same word, or words of the two halves of a pair.
abbrev pub SameRoot : ℕ → ℕ → Bool → Type 0
SameRoot c d true = (c ≡ d) ⊎ (VariableIs c true × VariableIs d true × (rest_in c ≡ rest_in d))
SameRoot c d false = Unit {0}

-- Two compounds of the same first word.
abbrev pub MatchIs : List ℕ → ℕ → ℕ → Bool → Type 0
MatchIs s e f true = (tag_in e ≡ 6) × (tag_in f ≡ 6) × (get_or s (rest_in e) 0 ≡ get_or s (rest_in f) 0)
MatchIs s e f false = (tag_in e ≡ 6 → tag_in f ≡ 6 → get_or s (rest_in e) 0 ≡ get_or s (rest_in f) 0 → ⊥)

-- What the guard's comparison asks: its two arguments t and u at a place, both ground when written out.
pub record Equating (s : List ℕ) (x : Setting) (y : Template) (given : List Assignment) (values marks links met n place : ℕ) (t u : Term) : Type 0 where
  pub asking : Asking s x y given values marks links
  pub arguments : Arguments s x y n place (more t (more u end))
  pub readers : Readers s (marks + links) links met
  pub few : links ≤ 65536
  pub near : values ≤ 268435456
  pub a_ground : all_variables first_of (out x given (more t (more u end))) ≡ succeeds []

-- The answer, and the step's readers as before.
pub record Equated (s s' : List ℕ) (x : Setting) (given : List Assignment) (marks links met : ℕ) (t u : Term) (r : Bool) : Type 0 where
  pub answer : r ≡ two_equal (out x given (more t (more u end)))
  pub only : Only (marks + links) (marks + 3 * links) s s'
  pub joined : Joined s s' (marks + links) links met [] met
