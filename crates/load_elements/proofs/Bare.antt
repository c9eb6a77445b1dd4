-- A bare name counts no compound: a term that is read as one begins with the name and nothing follows in brackets.
use Prim.Native.Nat.{ℕ, suc}
use mathlib.Core.Path.{◌≡◌, refl, ap}
use mathlib.Core.Bool.{Bool, true, false}
use mathlib.Core.List.{[], ◌∷◌, ◌++◌}
use native.Mathlib.Omega.{arith}
use lib.Dec.{ltb, eqb}
use lib.ListN.{length}
use Rattle.meaning.specs.Bytes.{Bytes, same, any, byte, when◌then◌else◌}
use Rattle.meaning.specs.Terms.{Half, Integer, Constant, empty, Functor, cell, Term, Terms, end, more, Named, as_term}
use Rattle.meaning.specs.Tokens.{Token, name, variable, integer, sign, bad, Tokens, ends, token}
use Rattle.meaning.specs.Items.{
  Counted,
  Read,
  Reader,
  read,
  malformed,
  passed,
  read_on,
  ◌>>=◌,
  ◌>>◌,
  give,
  cannot_stand,
  next,
  is,
  begins_term,
  standing,
  if_next,
  count_name,
  count_variable,
  count_compound,
  compound_of,
  tail_of,
  elements,
  list_of,
  term_from,
  term,
}

-- Where this answer is a bare name, so many compounds are counted then.
abbrev Counts : ℕ → Bytes → Read Term → Type 0
Counts k f r = (counted : Counted) (us : Tokens) → r ≡ read (Term.constant (Constant.name f)) counted us → k ≡ counted.compounds

module _ (k : ℕ) (f : Bytes) where
  no_malformed : (p : ℕ) → Counts k f (malformed p)
  no_malformed p counted us e = let z : ◌≡◌ {A = ℕ} 0 1 = cc in absurd (omega arith)

  no_passed : Counts k f passed
  no_passed counted us e = let z : ◌≡◌ {A = ℕ} 0 1 = cc in absurd (omega arith)

  no_compound : (n : ℕ) (g : Functor) (ts : Terms) (c : Counted) (vs : Tokens) → Counts k f (read (Term.compound n g ts) c vs)
  no_compound n g ts c vs counted us e = let z : ◌≡◌ {A = ℕ} 0 1 = cc in absurd (omega arith)

  no_variable : (h : Half) (n : ℕ) (c : Counted) (vs : Tokens) → Counts k f (read (Term.variable h n) c vs)
  no_variable h n c vs counted us e = let z : ◌≡◌ {A = ℕ} 0 1 = cc in absurd (omega arith)

  no_integer : (i : Integer) (c : Counted) (vs : Tokens) → Counts k f (read (Term.constant (Constant.integer i)) c vs)
  no_integer i c vs counted us e = let z : ◌≡◌ {A = ℕ} 0 1 = cc in absurd (omega arith)

  no_empty : (c : Counted) (vs : Tokens) → Counts k f (read (Term.constant empty) c vs)
  no_empty c vs counted us e = let z : ◌≡◌ {A = ℕ} 0 1 = cc in absurd (omega arith)

  -- First the one, then the other.
  then_counts : {A : Type 0} (r : Read A) (on : A → Reader Term) → ((a : A) (c : Counted) (vs : Tokens) → Counts k f (on a c vs)) → Counts k f (read_on r on)
  unfolding read_on
  then_counts (read a c vs) on h = h a c vs
  then_counts (malformed p) on h = no_malformed p
  then_counts passed on h = no_passed

  no_cells : (element : Reader Term) (left : ℕ) (c : Counted) (vs : Tokens) → Counts k f (elements element (suc left) c vs)
  unfolding elements ◌>>=◌ ◌>>◌ give
  no_cells element left c vs =
      then_counts (standing begins_term c vs) _
      (λ a c₁ vs₁. then_counts (count_compound c₁ vs₁) _
      (λ n c₂ vs₂. then_counts (element c₂ vs₂) _
      (λ t c₃ vs₃. then_counts (next (tail_of element (elements element left)) c₃ vs₃) _
      (λ tail c₄ vs₄. no_compound n cell (more t (more tail end)) c₄ vs₄))))

  no_list : (left : ℕ) (c : Counted) (vs : Tokens) → Counts k f (list_of (term left) c vs)
  unfolding list_of if_next give when◌then◌else◌
  no_list left c (ends p) = no_cells (term left) 31 c (ends p)
  no_list left c (token p t vs) = by (is "]" t)
    where
      by : (b : Bool) → Counts k f ((when b then give (Term.constant empty) c vs else elements (term left) 32 c (token p t vs)))
      by true = no_empty c vs
      by false = no_cells (term left) 31 c (token p t vs)

  no_round : (left : ℕ) (g : Bytes) (c : Counted) (vs : Tokens) → Counts k f ((compound_of (term left) g >>= λ (x : Named). give (as_term x)) c vs)
  unfolding ◌>>=◌ give as_term
  no_round left g c vs = then_counts (compound_of (term left) g c vs) _ (λ x c₁ vs₁. no_compound x.number _ x.arguments c₁ vs₁)

-- Behind a name.
module _ (f g : Bytes) (left : ℕ) where
  plain_name : (c : Counted) (vs : Tokens) → Counts c.compounds f (read (Term.constant (Constant.name g)) c vs)
  plain_name c vs counted us e =
      let z : c ≡ counted = cc in
      ap (λ (x : Counted). x.compounds) z

  abbrev round : Reader Term
  round = compound_of (term left) g >>= λ (x : Named). give (as_term x)

  name_then : (c : Counted) (vs : Tokens) → Counts c.compounds f (if_next "(" round (give (Term.constant (Constant.name g))) c vs)
  unfolding if_next give when◌then◌else◌
  name_then c (ends p) = plain_name c (ends p)
  name_then c (token p t vs) = by (is "(" t)
    where
      by : (b : Bool) → Counts c.compounds f ((when b then round c vs else give (Term.constant (Constant.name g)) c (token p t vs)))
      by true = no_round c.compounds f left g c vs
      by false = plain_name c (token p t vs)

  counted_then : (c : Counted) (vs : Tokens) (a b : Bool) → any (same g) c.names ≡ a → ltb (length c.names) 256 ≡ b
      → Counts c.compounds f ((count_name g >> if_next "(" round (give (Term.constant (Constant.name g)))) c vs)
  unfolding count_name ◌>>◌ read_on when◌then◌else◌
  counted_then c vs true b h i = rw h (name_then c vs)
  counted_then c vs false true h i =
      rw (h, i) (name_then (record { names = c.names ++ (g ∷ []); variables = c.variables; compounds = c.compounds }) vs)
  counted_then c vs false false h i = rw (h, i) (no_passed c.compounds f)

module _ (f : Bytes) (left : ℕ) where
  by_token : (c : Counted) (p : ℕ) (t : Token) (vs : Tokens) → Counts c.compounds f (term (suc left) c (token p t vs))
  unfolding term next term_from ◌>>=◌ give when◌then◌else◌ cannot_stand
  by_token c p (name g) vs = counted_then f g left c vs (any (same g) c.names) (ltb (length c.names) 256) refl refl
  by_token c p (variable h x) vs = then_counts c.compounds f (count_variable x c vs) _ (λ n c₁ vs₁. no_variable c.compounds f h n c₁ vs₁)
  by_token c p (integer i) vs = no_integer c.compounds f i c vs
  by_token c p (sign b) vs = square (eqb b (byte "["))
    where
      square : (x : Bool) → Counts c.compounds f ((when x then list_of (term left) else cannot_stand p) c vs)
      square true = no_list c.compounds f left c vs
      square false = no_malformed c.compounds f p
  by_token c p bad vs = no_malformed c.compounds f p

  pub bare_counts : (c : Counted) (vs : Tokens) → Counts c.compounds f (term (suc left) c vs)
  unfolding term next
  bare_counts c (ends p) = no_malformed c.compounds f p
  bare_counts c (token p t vs) = by_token c p t vs
