-- The definitions' `element_behind` and `body` at the tokens where the code branches: each lemma is one arm of the code.
use Prim.Native.Nat.{ℕ, suc, ◌+◌, ◌≤◌, ◌<◌}
use mathlib.Core.Path.{◌≡◌, refl, ap}
use mathlib.Core.Bool.{Bool, true, false, ◌||◌}
use mathlib.Core.List.{List, [], ◌∷◌, ◌++◌}
use lib.Dec.{eqb}
use Rattle.meaning.specs.Bytes.{byte, among, when◌then◌else◌}
use Rattle.meaning.specs.Terms.{Constant, cell, named, Term}
use Rattle.meaning.specs.Tokens.{Token, name, variable, integer, sign, bad, Tokens, ends, token}
use Rattle.meaning.specs.Table.{Element, equals, as_goals}
use Rattle.meaning.specs.Items.{Counted, read, malformed, passed, read_on, ◌>>=◌, ◌>>◌, give, cannot_stand, passes, next, is, begins_term, if_next, term, by_itself, equals_behind, element_behind, unguarded, guarded, behind_element, body}
use Rattle.load_names.specs.Places.{Place}
use Rattle.load_tokens.specs.Nexts.{one_of, Stops, Goes}
use Rattle.load_openings.specs.Reading.{counted_at}
use Rattle.load_openings.proofs.Expected.{never, if_next_other}
use Rattle.load_openings.proofs.Readers.{count_compound_with, count_compound_passed, standing_goes, standing_stops}
use Rattle.load_elements.specs.Sides.{alone}

-- None of three.
or_parts : (a b c : Bool) → (a || (b || (c || false))) ≡ false → (a ≡ false) × (b ≡ false) × (c ≡ false)
or_parts true b c h = never h
or_parts false true c h = never h
or_parts false false true h = never h
or_parts false false false h = (refl, refl, refl)

module _ (counted : Counted) (ts : Tokens) where
  pub element_malformed : (place : ℕ) → term 16 counted ts ≡ malformed place → element_behind counted ts ≡ malformed place
  unfolding element_behind ◌>>=◌ read_on
  element_malformed place e = rw e

  pub element_passed : term 16 counted ts ≡ passed → element_behind counted ts ≡ passed
  unfolding element_behind ◌>>=◌ read_on
  element_passed e = rw e

  pub element_equals : (t : Term) (counted' : Counted) (p : ℕ) (behind : Tokens) → term 16 counted ts ≡ read t counted' (token p (sign 61) behind)
      → element_behind counted ts ≡ equals_behind t counted' behind
  unfolding element_behind ◌>>=◌ read_on if_next is byte when◌then◌else◌
  element_equals t counted' p behind e = rw e

  pub element_other : (t : Term) (counted' : Counted) (place : ℕ) (behind : Tokens) → term 16 counted ts ≡ read t counted' behind
      → Stops (one_of (61 ∷ [])) place behind → element_behind counted ts ≡ by_itself t counted' behind
  unfolding element_behind ◌>>=◌ read_on byte
  element_other t counted' place behind e h = rw (e, if_next_other counted' "=" (equals_behind t) (by_itself t) place behind h)

-- Behind a term that is no element the next token cannot stand, whatever it is.
no_token : (can : Token → Bool) (place : ℕ) (counted : Counted) (ts : Tokens) → Stops can place ts
    → next (λ (p : ℕ) (t : Token). cannot_stand {A = Element} p) counted ts ≡ malformed place
unfolding next cannot_stand
no_token can place counted (ends p) h = ap malformed h
no_token can place counted (token p t ts) h = ap malformed h.0

pub not_alone : (t : Term) (place : ℕ) (counted : Counted) (ts : Tokens) → alone t ≡ false → Stops (one_of (61 ∷ [])) place ts
    → by_itself t counted ts ≡ malformed place
unfolding by_itself alone
not_alone (Term.variable h n) place counted ts a s = no_token (one_of (61 ∷ [])) place counted ts s
not_alone (Term.constant (Constant.integer i)) place counted ts a s = no_token (one_of (61 ∷ [])) place counted ts s
not_alone (Term.constant (Constant.name f)) place counted ts a s = never a
not_alone (Term.constant Constant.empty) place counted ts a s = no_token (one_of (61 ∷ [])) place counted ts s
not_alone (Term.compound n cell us) place counted ts a s = no_token (one_of (61 ∷ [])) place counted ts s
not_alone (Term.compound n (named f) us) place counted ts a s = never a

-- Behind `==`, which is counted as a compound.
module _ (t : Term) (known vars : List Place) (k : ℕ) (ts : Tokens) where
  pub equals_many : 32 ≤ k → equals_behind t (counted_at known vars k) ts ≡ passed
  unfolding equals_behind ◌>>=◌ read_on
  equals_many h = rw (count_compound_passed known vars k ts h)

  module _ (few : k < 32) where
    pub equals_malformed : (place : ℕ) → term 16 (counted_at known vars (k + 1)) ts ≡ malformed place
        → equals_behind t (counted_at known vars k) ts ≡ malformed place
    unfolding equals_behind ◌>>=◌ read_on
    equals_malformed place e = rw (count_compound_with known vars k ts few, e)

    pub equals_passed : term 16 (counted_at known vars (k + 1)) ts ≡ passed → equals_behind t (counted_at known vars k) ts ≡ passed
    unfolding equals_behind ◌>>=◌ read_on
    equals_passed e = rw (count_compound_with known vars k ts few, e)

    pub equals_read : (u : Term) (counted' : Counted) (behind : Tokens) → term 16 (counted_at known vars (k + 1)) ts ≡ read u counted' behind
        → equals_behind t (counted_at known vars k) ts ≡ read (equals k t u) counted' behind
    unfolding equals_behind ◌>>=◌ read_on give
    equals_read u counted' behind e = rw (count_compound_with known vars k ts few, e)

-- The body, over the next element.
module _ (left : ℕ) (es : List Element) (counted : Counted) (ts : Tokens) where
  pub body_malformed : (place : ℕ) → element_behind counted ts ≡ malformed place → body (suc left) es counted ts ≡ malformed place
  unfolding body ◌>>=◌ read_on
  body_malformed place h = rw h

  pub body_passed : element_behind counted ts ≡ passed → body (suc left) es counted ts ≡ passed
  unfolding body ◌>>=◌ read_on
  body_passed h = rw h

  module _ (e : Element) (counted' : Counted) where
    pub body_comma : (p : ℕ) (behind : Tokens) → element_behind counted ts ≡ read e counted' (token p (sign 44) behind)
        → body (suc left) es counted ts ≡ body left (es ++ (e ∷ [])) counted' behind
    unfolding body ◌>>=◌ read_on next behind_element is byte when◌then◌else◌
    body_comma p behind h = rw h

    pub body_bar : (p : ℕ) (behind : Tokens) → element_behind counted ts ≡ read e counted' (token p (sign 124) behind)
        → body (suc left) es counted ts ≡ guarded (es ++ (e ∷ [])) counted' behind
    unfolding body ◌>>=◌ read_on next behind_element is byte when◌then◌else◌
    body_bar p behind h = rw h

    pub body_stop : (p : ℕ) (behind : Tokens) → element_behind counted ts ≡ read e counted' (token p (sign 46) behind)
        → body (suc left) es counted ts ≡ unguarded p (as_goals (es ++ (e ∷ []))) counted' behind
    unfolding body ◌>>=◌ read_on next behind_element is byte when◌then◌else◌
    body_stop p behind h = rw h

    none_of : (place : ℕ) (us : Tokens) → Stops (one_of (44 ∷ 124 ∷ 46 ∷ [])) place us
        → next (behind_element (body left) (es ++ (e ∷ []))) counted' us ≡ malformed place
    unfolding next behind_element one_of among is cannot_stand byte when◌then◌else◌
    none_of place (ends p) h = ap malformed h
    none_of place (token p (name f) us) h = ap malformed h.0
    none_of place (token p (variable g f) us) h = ap malformed h.0
    none_of place (token p (integer i) us) h = ap malformed h.0
    none_of place (token p (sign b) us) h =
        let none = or_parts (eqb b 44) (eqb b 124) (eqb b 46) h.1 in
        rw (none.0, none.1, none.2) (ap malformed h.0)
    none_of place (token p bad us) h = ap malformed h.0

    pub body_other : (place : ℕ) (us : Tokens) → element_behind counted ts ≡ read e counted' us → Stops (one_of (44 ∷ 124 ∷ 46 ∷ [])) place us
        → body (suc left) es counted ts ≡ malformed place
    unfolding body ◌>>=◌ read_on
    body_other place us h stops = rw h (none_of place us stops)

-- The ninth element's first token.
pub body_many : (es : List Element) (counted : Counted) (ts : Tokens) → Goes begins_term ts → body 0 es counted ts ≡ passed
unfolding body ◌>>◌ read_on passes
body_many es counted ts h = rw (standing_goes counted ts h)

pub body_cannot : (es : List Element) (place : ℕ) (counted : Counted) (ts : Tokens) → Stops begins_term place ts → body 0 es counted ts ≡ malformed place
unfolding body ◌>>◌ read_on passes
body_cannot es place counted ts h = rw (standing_stops place counted ts h)
