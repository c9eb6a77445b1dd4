-- A term's bytes are settled once it was written: pairs that are seen later change nothing.
-- So a compound is written part by part, each part with what was seen before it.
use Prim.Native.Nat.{ℕ}
use mathlib.Core.Path.{◌≡◌, refl, sym, ap, ap₂, ◌∙◌}
use mathlib.Core.Logic.{inl, inr}
use mathlib.Core.List.{List, [], ◌++◌, append_assoc, append-nil}
use Rattle.meaning.specs.Bytes.{Bytes, bytes, decimal}
use Rattle.meaning.specs.Terms.{
  Half,
  writer,
  reader,
  Constant,
  cell,
  named,
  Term,
  Terms,
  variable,
  constant,
  compound,
  end,
  more,
}
use Rattle.meaning.specs.Report.{
  number_in,
  variable_bytes,
  Role,
  alone,
  tail,
  behind_bar,
  before_element,
  constant_bytes,
  written,
  element_and_tail,
  tail_bytes,
  first_argument,
  other_arguments,
}
use Rattle.laws.proofs.Lists.Among.{in_among}
use Rattle.laws.proofs.Terms.Standing.{Stands, StandsIn}
use Rattle.report_pairs.specs.Threaded.{seen_after, seen_after_all, shown, shown_others, shown_arguments}
use Rattle.report_pairs.proofs.Once.{seen_after_compound, seen_after_more, seen_after_all_keeps, in_seen_after, number_in_more}

variable_alike : (l m : List ℕ) (h : Half) (p : ℕ) → number_in p l ≡ number_in p m → variable_bytes l h p ≡ variable_bytes m h p
unfolding variable_bytes
variable_alike l m writer p e = ap (λ (n : ℕ). bytes "_" ++ decimal n) e
variable_alike l m reader p e = ap (λ (n : ℕ). bytes "_" ++ decimal n ++ bytes "?") e

-- A term is written alike in two orders that give its pairs the same numbers.
module _ (l m : List ℕ) where
  mutual
    unfolding Stands StandsIn written element_and_tail tail_bytes first_argument other_arguments

    pub written_alike : (t : Term) → ((p : ℕ) → Stands p t → number_in p l ≡ number_in p m) → (standing : Role)
        → written l standing t ≡ written m standing t
    written_alike (variable h p) alike standing = ap (behind_bar standing) (variable_alike l m h p (alike p refl))
    written_alike (constant k) alike standing = refl
    written_alike (compound n cell ts) alike standing = ap (◌++◌ (before_element standing)) (element_alike ts alike)
    written_alike (compound n (named f) ts) alike standing =
        ap (λ (b : Bytes). behind_bar standing (f ++ bytes "(" ++ b ++ bytes ")")) (first_alike ts alike)

    element_alike : (ts : Terms) → ((p : ℕ) → StandsIn p ts → number_in p l ≡ number_in p m) → element_and_tail l ts ≡ element_and_tail m ts
    element_alike end alike = refl
    element_alike (more t ts) alike =
        ap₂ (◌++◌ {A = ℕ}) (written_alike t (λ p s. alike p (inl s)) alone) (tail_alike ts (λ p s. alike p (inr s)))

    tail_alike : (ts : Terms) → ((p : ℕ) → StandsIn p ts → number_in p l ≡ number_in p m) → tail_bytes l ts ≡ tail_bytes m ts
    tail_alike end alike = refl
    tail_alike (more t ts) alike = written_alike t (λ p s. alike p (inl s)) tail

    first_alike : (ts : Terms) → ((p : ℕ) → StandsIn p ts → number_in p l ≡ number_in p m) → first_argument l ts ≡ first_argument m ts
    first_alike end alike = refl
    first_alike (more t ts) alike =
        ap₂ (◌++◌ {A = ℕ}) (written_alike t (λ p s. alike p (inl s)) alone) (others_alike ts (λ p s. alike p (inr s)))

    others_alike : (ts : Terms) → ((p : ℕ) → StandsIn p ts → number_in p l ≡ number_in p m) → other_arguments l ts ≡ other_arguments m ts
    others_alike end alike = refl
    others_alike (more t ts) alike =
        ap₂ (λ (b c : Bytes). bytes "," ++ b ++ c) (written_alike t (λ p s. alike p (inl s)) alone) (others_alike ts (λ p s. alike p (inr s)))

-- What is seen behind a term does not change its bytes.
pub settled : (seen behind : List ℕ) (standing : Role) (t : Term)
    → written (seen_after seen t ++ behind) standing t ≡ shown seen standing t
unfolding shown
settled seen behind standing t =
    written_alike (seen_after seen t ++ behind) (seen_after seen t) t
    (λ p s. number_in_more p (seen_after seen t) behind (in_among (in_seen_after seen t p s)))
    standing

-- The same, where an order is known to begin with what was seen after the term.
pub settled_in : (seen order : List ℕ) (standing : Role) (t : Term) → (behind : List ℕ) × (order ≡ seen_after seen t ++ behind)
    → written order standing t ≡ shown seen standing t
settled_in seen order standing t (behind, e) = ap (λ (l : List ℕ). written l standing t) e ∙ settled seen behind standing t

-- An order that begins with what was seen after some arguments begins with what was seen after the first of them.
first_of : (seen order : List ℕ) (t : Term) (ts : Terms) → (behind : List ℕ) × (order ≡ seen_after_all seen (more t ts) ++ behind)
    → (behind : List ℕ) × (order ≡ seen_after seen t ++ behind)
first_of seen order t ts (behind, e) =
    let (new, f) = seen_after_all_keeps (seen_after seen t) ts in (
      new ++ behind,
      e ∙ ap (λ (l : List ℕ). l ++ behind) (seen_after_more seen t ts ∙ f) ∙ append_assoc (seen_after seen t) new behind,
    )

others_of : (seen order : List ℕ) (t : Term) (ts : Terms) → (behind : List ℕ) × (order ≡ seen_after_all seen (more t ts) ++ behind)
    → (behind : List ℕ) × (order ≡ seen_after_all (seen_after seen t) ts ++ behind)
others_of seen order t ts (behind, e) = (behind, e ∙ ap (λ (l : List ℕ). l ++ behind) (seen_after_more seen t ts))

-- Arguments in an order that begins with what was seen after them.
pub others_threaded : (ts : Terms) (seen order : List ℕ) → (behind : List ℕ) × (order ≡ seen_after_all seen ts ++ behind)
    → other_arguments order ts ≡ shown_others seen ts
unfolding other_arguments shown_others
others_threaded end seen order begins = refl
others_threaded (more t ts) seen order begins =
    append_assoc (bytes ",") (written order alone t) (other_arguments order ts)
    ∙ ap₂ (λ (b c : Bytes). bytes "," ++ (b ++ c)) (settled_in seen order alone t (first_of seen order t ts begins))
    (others_threaded ts (seen_after seen t) order (others_of seen order t ts begins))

pub arguments_threaded : (ts : Terms) (seen order : List ℕ) → (behind : List ℕ) × (order ≡ seen_after_all seen ts ++ behind)
    → first_argument order ts ≡ shown_arguments seen ts
unfolding first_argument shown_arguments
arguments_threaded end seen order begins = refl
arguments_threaded (more t ts) seen order begins =
    ap₂ (◌++◌ {A = ℕ}) (settled_in seen order alone t (first_of seen order t ts begins))
    (others_threaded ts (seen_after seen t) order (others_of seen order t ts begins))

-- A term by its parts: a constant; a variable; a compound with a name; a list cell with an element and a tail.
pub shown_constant : (seen : List ℕ) (standing : Role) (k : Constant) → shown seen standing (constant k) ≡ constant_bytes standing k
unfolding shown written
shown_constant seen standing k = refl

pub shown_variable : (seen : List ℕ) (standing : Role) (h : Half) (p : ℕ)
    → shown seen standing (variable h p) ≡ behind_bar standing (variable_bytes (seen_after seen (variable h p)) h p)
unfolding shown written
shown_variable seen standing h p = refl

own_order : (seen : List ℕ) (ts : Terms) → (behind : List ℕ) × (seen_after_all seen ts ≡ seen_after_all seen ts ++ behind)
own_order seen ts = ([], sym (append-nil (seen_after_all seen ts)))

pub shown_named : (seen : List ℕ) (standing : Role) (n : ℕ) (f : Bytes) (ts : Terms)
    → shown seen standing (compound n (named f) ts) ≡ behind_bar standing (f ++ (bytes "(" ++ (shown_arguments seen ts ++ bytes ")")))
unfolding shown written
shown_named seen standing n f ts =
    ap (λ (l : List ℕ). behind_bar standing (f ++ bytes "(" ++ first_argument l ts ++ bytes ")")) (seen_after_compound seen n (named f) ts)
    ∙ ap (λ (b : Bytes). behind_bar standing (f ++ bytes "(" ++ b ++ bytes ")"))
    (arguments_threaded ts seen (seen_after_all seen ts) (own_order seen ts))
    ∙ ap (behind_bar standing) (append_assoc (f ++ bytes "(") (shown_arguments seen ts) (bytes ")") ∙ append_assoc f (bytes "(") (shown_arguments seen ts ++ bytes ")"))

pub shown_cell : (seen : List ℕ) (standing : Role) (n : ℕ) (t u : Term) (ts : Terms)
    → shown seen standing (compound n cell (more t (more u ts)))
    ≡ before_element standing ++ (shown seen alone t ++ shown (seen_after seen t) tail u)
unfolding shown written element_and_tail tail_bytes
shown_cell seen standing n t u ts =
    let own = own_order seen (more t (more u ts)) in
    let order = seen_after_all seen (more t (more u ts)) in
    ap (λ (l : List ℕ). before_element standing ++ (written l alone t ++ written l tail u)) (seen_after_compound seen n cell (more t (more u ts)))
    ∙ ap (◌++◌ (before_element standing))
    (ap₂ (◌++◌ {A = ℕ}) (settled_in seen order alone t (first_of seen order t (more u ts) own))
    (settled_in (seen_after seen t) order tail u (first_of (seen_after seen t) order u ts (others_of seen order t (more u ts) own))))
