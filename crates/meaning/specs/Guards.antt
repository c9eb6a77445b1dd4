-- Document 02, T-02: what each guard answers, over its arguments written out. "Each guard in order succeeds, waits on the readers it needs, or fails."
use Rattle.std.specs.Prelude.{ℕ, zero, suc, ◌+◌, Bool, true, false, ◌&&◌, List, [], ◌∷◌, eqb, length}
use Rattle.meaning.specs.Bytes.{when◌then◌else◌}
use Rattle.meaning.specs.Terms.{
  Half,
  writer,
  reader,
  Constant,
  integer,
  name,
  empty,
  Term,
  Terms,
  variable,
  constant,
  compound,
  end,
  more,
  Test,
  an_integer,
  a_constant,
  a_compound,
  a_ground,
  known,
  equal,
  otherwise,
  Guard,
  same_constant,
  same_functor,
  all_replaced,
}
use Rattle.meaning.specs.State.{Values, applied}
use Rattle.meaning.specs.Compare.{Assignment, Result, succeeds, waits, fails, waits_on, and_then, compare_words}

-- "`X?` is read as what the head gave X"; "where the head gave X nothing, `X?` counts as an unassigned writer".
unfoldable pub given_to : List Assignment → ℕ → Term
given_to [] x = variable writer x
given_to (a ∷ given) x = elim (eqb a.pair x) [ true ↦ a.value | false ↦ given_to given x ]

-- The arguments written out: "all else as before the step". The clause's pairs come behind the others, as its head's do.
unfoldable pub written_out : List Assignment → Values → ℕ → Terms → Terms
written_out given values next ts = all_replaced (λ h x. applied (length values) values (given_to given (next + x))) ts

-- "Up to the first that doesn't succeed."
unfoldable pub first_of : Result → Result → Result
first_of (succeeds given) others = others
first_of (waits readers) others = waits readers
first_of fails others = fails

unfoldable pub succeeds_if : Bool → Result
succeeds_if b = when b then succeeds [] else fails

-- "A reader waits and a writer fails."
unfoldable pub unassigned : Half → ℕ → Result
unassigned writer p = fails
unassigned reader p = waits_on p

-- The unassigned variables, from the left, taken together in some way.
unfoldable mutual
  pub variables : (Result → Result → Result) → Term → Result
  variables together (variable h p) = unassigned h p
  variables together (constant k) = succeeds []
  variables together (compound n f ts) = all_variables together ts

  pub all_variables : (Result → Result → Result) → Terms → Result
  all_variables together end = succeeds []
  all_variables together (more t ts) = together (variables together t) (all_variables together ts)

-- Integer, constant, compound and known look at the argument itself.
unfoldable pub argument_is : (Constant → Bool) → Bool → Terms → Result
argument_is constants compounds end = fails
argument_is constants compounds (more (variable h p) ts) = unassigned h p
argument_is constants compounds (more (constant k) ts) = succeeds_if (constants k)
argument_is constants compounds (more (compound n f us) ts) = succeeds_if compounds

unfoldable pub is_integer : Constant → Bool
is_integer (integer i) = true
is_integer (name f) = false
is_integer empty = false

-- Two ground terms are equal; compounds' own numbers play no part.
unfoldable mutual
  pub same_term : Term → Term → Bool
  same_term (variable h p) u = false
  same_term (constant k) (variable h p) = false
  same_term (constant k) (constant c) = same_constant k c
  same_term (constant k) (compound n f ts) = false
  same_term (compound m g us) (variable h p) = false
  same_term (compound m g us) (constant c) = false
  same_term (compound m g us) (compound n f ts) = same_functor g f && same_terms us ts

  pub same_terms : Terms → Terms → Bool
  same_terms end end = true
  same_terms end (more t ts) = false
  same_terms (more u us) end = false
  same_terms (more u us) (more t ts) = same_term u t && same_terms us ts

unfoldable pub two_equal : Terms → Bool
two_equal end = false
two_equal (more t end) = false
two_equal (more t (more u us)) = same_term t u

-- "Otherwise succeeds exactly if every earlier clause of the procedure failed, and else waits with the earlier ones": it adds no reader to theirs.
unfoldable pub after : List ℕ → Result
after [] = succeeds []
after (r ∷ readers) = waits []

-- What a test answers of its arguments written out. "Ground fails on an unassigned writer, else waits on every unassigned reader. `==` compares two
-- written-out ground terms; else the first unassigned variable from the left decides."
unfoldable pub answer : Test → List ℕ → Terms → Result
answer an_integer earlier ts = argument_is is_integer false ts
answer a_constant earlier ts = argument_is (λ k. true) false ts
answer a_compound earlier ts = argument_is (λ k. false) true ts
answer known earlier ts = argument_is (λ k. true) true ts
answer a_ground earlier ts = all_variables and_then ts
answer equal earlier ts = first_of (all_variables first_of ts) (succeeds_if (two_equal ts))
answer otherwise earlier ts = after earlier

-- The guards of a clause that was given this; `next` is its first pair.
unfoldable pub in_order : List ℕ → List Assignment → Values → ℕ → List Guard → Result
in_order earlier given values next [] = succeeds given
in_order earlier given values next (g ∷ gs) =
    first_of (answer g.row.test earlier (written_out given values next g.arguments)) (in_order earlier given values next gs)

unfoldable pub guards_words : Unit {0}
unfolding compare_words given_to written_out first_of succeeds_if unassigned variables all_variables argument_is is_integer same_term same_terms two_equal after answer in_order
guards_words = tt
