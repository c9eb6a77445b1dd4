-- The reader of a term by its first token, and by the next where that is a name or `[`: each lemma is one arm of the code.
use Prim.Native.Nat.{ℕ, zero, suc}
use mathlib.Core.Path.{◌≡◌, refl, ◌∙◌}
use mathlib.Core.Bool.{false}
use mathlib.Core.List.{[], ◌∷◌}
use lib.Dec.{eqb}
use Rattle.meaning.specs.Bytes.{Bytes, byte, when◌then◌else◌}
use Rattle.meaning.specs.Terms.{Half, Integer, Constant, empty, Term}
use Rattle.meaning.specs.Tokens.{Tokens, ends, token, name, variable, integer, sign, bad}
use Rattle.meaning.specs.Items.{Counted, Reader, read, malformed, passed, read_on, ◌>>=◌, ◌>>◌, give, cannot_stand, passes, next, is, if_next, count_name, count_variable, elements, list_of, term_from, term}
use Rattle.load_tokens.specs.Nexts.{one_of, Stops}
use Rattle.load_openings.specs.Reading.{round_of}
use Rattle.load_openings.proofs.Expected.{if_next_other}

-- What may stand in a round or a square bracket.
abbrev round : ℕ → Bytes → Reader Term
round zero f = passes
round (suc left) f = round_of (term left) f

abbrev square : ℕ → Reader Term
square zero = passes
square (suc left) = list_of (term left)

term_is : (left : ℕ) (counted : Counted) (ts : Tokens) → term left counted ts ≡ next (term_from (round left) (square left)) counted ts
unfolding term round_of passes
term_is zero counted ts = refl
term_is (suc left) counted ts = refl

module _ (left : ℕ) (counted : Counted) (p : ℕ) where
  pub term_end : term left counted (ends p) ≡ malformed p
  unfolding next
  term_end = term_is left counted (ends p)

  pub term_bad : (behind : Tokens) → term left counted (token p bad behind) ≡ malformed p
  unfolding next term_from cannot_stand
  term_bad behind = term_is left counted (token p bad behind)

  pub term_sign : (b : ℕ) (behind : Tokens) → eqb b 91 ≡ false → term left counted (token p (sign b) behind) ≡ malformed p
  unfolding next term_from cannot_stand byte when◌then◌else◌
  term_sign b behind e =
      let at : (when eqb b 91 then square left else cannot_stand p) counted behind ≡ malformed p = rw e in
      term_is left counted (token p (sign b) behind) ∙ at

  pub term_integer : (i : Integer) (behind : Tokens)
      → term left counted (token p (integer i) behind) ≡ read (Term.constant (Constant.integer i)) counted behind
  unfolding next term_from give
  term_integer i behind = term_is left counted (token p (integer i) behind)

  module _ (h : Half) (x : Bytes) (behind : Tokens) where
    pub term_variable : (n : ℕ) (counted' : Counted) → count_variable x counted behind ≡ read n counted' behind
        → term left counted (token p (variable h x) behind) ≡ read (Term.variable h n) counted' behind
    unfolding next term_from ◌>>=◌ read_on give
    term_variable n counted' e = term_is left counted (token p (variable h x) behind) ∙ rw e

    pub term_variable_passed : count_variable x counted behind ≡ passed → term left counted (token p (variable h x) behind) ≡ passed
    unfolding next term_from ◌>>=◌ read_on give
    term_variable_passed e = term_is left counted (token p (variable h x) behind) ∙ rw e

  module _ (f : Bytes) (behind : Tokens) where
    pub term_name_passed : count_name f counted behind ≡ passed → term left counted (token p (name f) behind) ≡ passed
    unfolding next term_from ◌>>◌ read_on give
    term_name_passed e = term_is left counted (token p (name f) behind) ∙ rw e

    pub term_name : (counted' : Counted) (place : ℕ) → count_name f counted behind ≡ read tt counted' behind → Stops (one_of (40 ∷ [])) place behind
        → term left counted (token p (name f) behind) ≡ read (Term.constant (Constant.name f)) counted' behind
    unfolding next term_from ◌>>◌ read_on give byte
    term_name counted' place e h =
        term_is left counted (token p (name f) behind)
        ∙ rw (e, if_next_other counted' "(" (round left f) (give (Term.constant (Constant.name f))) place behind h)

  -- A round bracket behind a name.
  module _ (f : Bytes) (q : ℕ) (behind : Tokens) (counted' : Counted)
      (e : count_name f counted (token q (sign 40) behind) ≡ read tt counted' (token q (sign 40) behind)) where
    term_open : term left counted (token p (name f) (token q (sign 40) behind)) ≡ round left f counted' behind
    unfolding next term_from ◌>>◌ read_on if_next is byte when◌then◌else◌
    term_open = term_is left counted (token p (name f) (token q (sign 40) behind)) ∙ rw e

    pub term_round_passed : left ≡ 0 → term left counted (token p (name f) (token q (sign 40) behind)) ≡ passed
    unfolding passes
    term_round_passed z = term_open ∙ rw z

    pub term_round : (l : ℕ) → left ≡ suc l → term left counted (token p (name f) (token q (sign 40) behind)) ≡ round_of (term l) f counted' behind
    term_round l z = term_open ∙ rw z

  -- A square bracket.
  module _ (behind : Tokens) where
    term_list : term left counted (token p (sign 91) behind) ≡ square left counted behind
    unfolding next term_from byte when◌then◌else◌
    term_list = term_is left counted (token p (sign 91) behind)

    pub term_square_passed : left ≡ 0 → term left counted (token p (sign 91) behind) ≡ passed
    unfolding passes
    term_square_passed z = term_list ∙ rw z

    pub term_square : (l place : ℕ) → left ≡ suc l → Stops (one_of (93 ∷ [])) place behind
        → term left counted (token p (sign 91) behind) ≡ elements (term l) 32 counted behind
    unfolding list_of byte
    term_square l place z h =
        term_list ∙ rw (z, if_next_other counted "]" (give (Term.constant empty)) (elements (term l) 32) place behind h)

  pub term_empty : (l q : ℕ) (behind : Tokens) → left ≡ suc l
      → term left counted (token p (sign 91) (token q (sign 93) behind)) ≡ read (Term.constant empty) counted behind
  unfolding list_of if_next is byte when◌then◌else◌ give
  term_empty l q behind z = term_list (token q (sign 93) behind) ∙ rw z
