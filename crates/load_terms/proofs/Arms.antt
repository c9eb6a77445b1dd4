-- The readers of terms, arguments and lists, over what their parts read: each lemma is one arm of the code.
use Prim.Native.Nat.{ℕ, suc, ◌+◌, ◌≤◌, ◌<◌}
use mathlib.Core.Path.{◌≡◌, refl, ap, sym, ◌∙◌}
use mathlib.Core.Bool.{Bool, true, false}
use mathlib.Core.List.{List, [], ◌∷◌}
use Rattle.meaning.specs.Bytes.{Bytes, byte, when◌then◌else◌}
use Rattle.meaning.specs.Terms.{empty, cell, Term, Terms, compound, end, more}
use Rattle.meaning.specs.Tokens.{Token, Tokens, ends, token, name, variable, integer, sign, bad}
use Rattle.meaning.specs.Items.{Counted, Read, Reader, read, malformed, passed, read_on, ◌>>=◌, ◌>>◌, give, passes, next, is, begins_term, expect, either, arguments, compound_of, tail_of, elements, term}
use Rattle.load_names.specs.Places.{Place}
use Rattle.load_tokens.specs.Nexts.{one_of, Stops, Goes}
use Rattle.load_openings.specs.Reading.{counted_at, closed}
use Rattle.load_openings.proofs.Begins.{term_end, term_bad, term_sign}
use Rattle.load_openings.proofs.Expected.{either_stops, expect_stops}
use Rattle.load_openings.proofs.Readers.{count_compound_with, count_compound_passed, standing_goes, standing_stops}

-- Arguments: the next one stops, is followed by another, is the last, or by neither sign.
module _ (argument : Reader Term) (left : ℕ) (counted : Counted) (ts : Tokens) where
  pub arguments_malformed : (place : ℕ) → argument counted ts ≡ malformed place → arguments argument (suc left) counted ts ≡ malformed place
  unfolding arguments ◌>>=◌ read_on
  arguments_malformed place e = rw e

  pub arguments_passed : argument counted ts ≡ passed → arguments argument (suc left) counted ts ≡ passed
  unfolding arguments ◌>>=◌ read_on
  arguments_passed e = rw e

  pub arguments_more : (t : Term) (counted' : Counted) (p : ℕ) (behind : Tokens)
      → argument counted ts ≡ read t counted' (token p (sign 44) behind)
      → arguments argument (suc left) counted ts ≡ read_on (arguments argument left counted' behind) (λ (others : Terms). give (more t others))
  unfolding arguments ◌>>=◌ read_on either next is byte when◌then◌else◌ give
  arguments_more t counted' p behind e = rw e

  pub arguments_last : (t : Term) (counted' : Counted) (p : ℕ) (behind : Tokens)
      → argument counted ts ≡ read t counted' (token p (sign 41) behind)
      → arguments argument (suc left) counted ts ≡ read (more t end) counted' behind
  unfolding arguments ◌>>=◌ read_on either next is byte when◌then◌else◌ give
  arguments_last t counted' p behind e = rw e

  pub arguments_stop : (t : Term) (counted' : Counted) (place : ℕ) (behind : Tokens) → argument counted ts ≡ read t counted' behind
      → Stops (one_of (44 ∷ 41 ∷ [])) place behind → arguments argument (suc left) counted ts ≡ malformed place
  unfolding arguments ◌>>=◌ read_on byte
  arguments_stop t counted' place behind e h = rw (e, either_stops counted' "," ")" place behind h)

-- The seventh argument's first token.
pub arguments_many : (argument : Reader Term) (counted : Counted) (ts : Tokens) → Goes begins_term ts
    → arguments argument 0 counted ts ≡ passed
unfolding arguments ◌>>◌ read_on passes
arguments_many argument counted ts h = rw (standing_goes counted ts h)

pub arguments_cannot : (argument : Reader Term) (place : ℕ) (counted : Counted) (ts : Tokens) → Stops begins_term place ts
    → arguments argument 0 counted ts ≡ malformed place
unfolding arguments ◌>>◌ read_on passes
arguments_cannot argument place counted ts h = rw (standing_stops place counted ts h)

-- A compound, over its arguments.
module _ (argument : Reader Term) (f : Bytes) (known vars : List Place) (k : ℕ) (ts : Tokens) where
  pub compound_many : 32 ≤ k → compound_of argument f (counted_at known vars k) ts ≡ passed
  unfolding compound_of ◌>>=◌ read_on
  compound_many h = rw (count_compound_passed known vars k ts h)

  pub compound_over : k < 32 → compound_of argument f (counted_at known vars k) ts
      ≡ read_on (arguments argument 6 (counted_at known vars (k + 1)) ts) (λ (os : Terms). give (record { number = k; name = f; arguments = os }))
  unfolding compound_of ◌>>=◌ read_on
  compound_over h = rw (count_compound_with known vars k ts h)

-- Elements of a list.
module _ (element : Reader Term) (left : ℕ) (known vars : List Place) (k : ℕ) (ts : Tokens) where
  pub elements_cannot : (place : ℕ) → Stops begins_term place ts → elements element (suc left) (counted_at known vars k) ts ≡ malformed place
  unfolding elements ◌>>=◌ ◌>>◌ read_on
  elements_cannot place h = rw (standing_stops place (counted_at known vars k) ts h)

  pub elements_many : Goes begins_term ts → 32 ≤ k → elements element (suc left) (counted_at known vars k) ts ≡ passed
  unfolding elements ◌>>=◌ ◌>>◌ read_on
  elements_many g h = rw (standing_goes (counted_at known vars k) ts g, count_compound_passed known vars k ts h)

  -- An element and its tail make a list cell.
  abbrev pub cell_of : Term → Term → Term
  cell_of t tail = compound k cell (more t (more tail end))

  pub elements_over : Goes begins_term ts → k < 32 → elements element (suc left) (counted_at known vars k) ts
      ≡ read_on (element (counted_at known vars (k + 1)) ts)
      (λ (t : Term) (counted : Counted) (behind : Tokens). read_on (next (tail_of element (elements element left)) counted behind) (λ (tail : Term). give (cell_of t tail)))
  unfolding elements ◌>>=◌ ◌>>◌ read_on
  elements_over g h = rw (standing_goes (counted_at known vars k) ts g, count_compound_with known vars k ts h)

-- Where the element is a term, it need not be asked first whether the token can begin one.
term_cannot : (depth : ℕ) (counted : Counted) (p : ℕ) (t : Token) (ts : Tokens) → begins_term t ≡ false → term depth counted (token p t ts) ≡ malformed p
unfolding begins_term byte
term_cannot depth counted p (name f) ts h = cc
term_cannot depth counted p (variable k x) ts h = cc
term_cannot depth counted p (integer i) ts h = cc
term_cannot depth counted p (sign b) ts h = term_sign depth counted p b ts h
term_cannot depth counted p bad ts h = term_bad depth counted p ts

module _ (depth left : ℕ) (known vars : List Place) (k : ℕ) (few : k < 32) where
  abbrev and_tail : Term → Counted → Tokens → Read Term
  and_tail t counted behind = read_on (next (tail_of (term depth) (elements (term depth) left)) counted behind) (λ (tail : Term). give (compound k cell (more t (more tail end))))

  pub elements_term : (ts : Tokens) → elements (term depth) (suc left) (counted_at known vars k) ts ≡ read_on (term depth (counted_at known vars (k + 1)) ts) and_tail
  unfolding read_on
  elements_term (ends p) =
      elements_cannot (term depth) left known vars k (ends p) p refl
      ∙ ap (λ r. read_on r and_tail) (sym (term_end depth (counted_at known vars (k + 1)) p))
  elements_term (token p t ts) = by (begins_term t) refl
    where
      by : (b : Bool) → begins_term t ≡ b
          → elements (term depth) (suc left) (counted_at known vars k) (token p t ts) ≡ read_on (term depth (counted_at known vars (k + 1)) (token p t ts)) and_tail
      by true e = elements_over (term depth) left known vars k (token p t ts) e few
      by false e =
          elements_cannot (term depth) left known vars k (token p t ts) p (refl, e)
          ∙ ap (λ r. read_on r and_tail) (sym (term_cannot depth (counted_at known vars (k + 1)) p t ts e))

pub elements_none_cannot : (element : Reader Term) (place : ℕ) (counted : Counted) (ts : Tokens) → Stops begins_term place ts
    → elements element 0 counted ts ≡ malformed place
unfolding elements ◌>>◌ read_on passes
elements_none_cannot element place counted ts h = rw (standing_stops place counted ts h)

pub elements_none : (element : Reader Term) (counted : Counted) (ts : Tokens) → Goes begins_term ts → elements element 0 counted ts ≡ passed
unfolding elements ◌>>◌ read_on passes
elements_none element counted ts h = rw (standing_goes counted ts h)

-- The tail behind an element.
module _ (element others : Reader Term) (counted : Counted) (p : ℕ) (behind : Tokens) where
  pub tail_more : next (tail_of element others) counted (token p (sign 44) behind) ≡ others counted behind
  unfolding next tail_of is byte when◌then◌else◌
  tail_more = refl

  pub tail_closed : next (tail_of element others) counted (token p (sign 124) behind) ≡ closed element counted behind
  unfolding next tail_of is byte when◌then◌else◌ closed
  tail_closed = refl

  pub tail_empty : next (tail_of element others) counted (token p (sign 93) behind) ≡ read (Term.constant empty) counted behind
  unfolding next tail_of is byte when◌then◌else◌ give
  tail_empty = refl

module _ (element : Reader Term) (counted : Counted) (ts : Tokens) where
  pub closed_malformed : (place : ℕ) → element counted ts ≡ malformed place → closed element counted ts ≡ malformed place
  unfolding closed ◌>>=◌ read_on
  closed_malformed place e = rw e

  pub closed_passed : element counted ts ≡ passed → closed element counted ts ≡ passed
  unfolding closed ◌>>=◌ read_on
  closed_passed e = rw e

  pub closed_read : (t : Term) (counted' : Counted) (p : ℕ) (behind : Tokens) → element counted ts ≡ read t counted' (token p (sign 93) behind)
      → closed element counted ts ≡ read t counted' behind
  unfolding closed ◌>>=◌ ◌>>◌ read_on expect next is byte when◌then◌else◌ give
  closed_read t counted' p behind e = rw e

  pub closed_stop : (t : Term) (counted' : Counted) (place : ℕ) (behind : Tokens) → element counted ts ≡ read t counted' behind
      → Stops (one_of (93 ∷ [])) place behind → closed element counted ts ≡ malformed place
  unfolding closed ◌>>=◌ ◌>>◌ read_on byte
  closed_stop t counted' place behind e h = rw (e, expect_stops counted' "]" place behind h)
