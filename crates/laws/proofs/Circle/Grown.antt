-- What a trial that agreed gives its guards to read, and what it would give them later: written out, the arguments only grew.
-- The goal's writers are unassigned still, values stayed, and the head's pairs are new both times.
use Prim.Native.Nat.{ℕ, zero, suc, ◌+◌, ◌≤◌}
use mathlib.Core.Path.{◌≡◌, refl, sym, subst, ◌∙◌}
use mathlib.Core.Bool.{Bool, true, false}
use mathlib.Core.List.{List, ◌∷◌}
use mathlib.Core.Option.{Option, none, some}
use native.Mathlib.Omega.{arith}
use lib.Dec.{eqb}
use lib.ListN.{length}
use borrow.Author.Tests.{eqb-true, eqb-false, eq-eqb, ne_eqb}
use Rattle.meaning.specs.Terms.{
  Half,
  writer,
  reader,
  Term,
  Terms,
  variable,
  constant,
  compound,
  end,
  more,
  renamed,
  occurrences,
  all_occurrences,
  replaced,
  all_replaced,
}
use Rattle.meaning.specs.State.{Values, value, applied}
use Rattle.meaning.specs.Compare.{Assignment, followed}
use Rattle.meaning.specs.Guards.{given_to, written_out}
use Rattle.laws.proofs.Lists.{Paired, done, pair}
use Rattle.laws.proofs.Terms.{occurs_itself, occurs_stands, Stands, Below}
use Rattle.laws.proofs.Trial.{
  ◌:=◌,
  value_beyond,
  Again,
  to_head,
  to_goal,
  Grew,
  writer_still,
  reader_became,
  constant_still,
  inside,
  AllGrew,
  no_more,
  one_more,
}
use Rattle.laws.proofs.Circle.Chains.{EndsWithin, AllEndWithin, chains_end}
use Rattle.laws.proofs.Circle.Written.{replaced_same, written_as, written_unassigned, written_assigned, applied_within}
use Rattle.laws.proofs.Circle.FailsLater.{itself, through, ValuesGrew, StillOpen}

-- Terms whose variables are replaced by terms that grew.
module _ (by by_later : Half → ℕ → Term) where
  mutual
    unfolding replaced all_replaced occurrences all_occurrences

    pub replaced_grew : (t : Term) → ((h : Half) (p : ℕ) → 1 ≤ occurrences h p t → Grew (by h p) (by_later h p))
        → Grew (replaced by t) (replaced by_later t)
    replaced_grew (variable h p) each = each h p (omega (arith, occurs_itself h p))
    replaced_grew (constant k) each = constant_still
    replaced_grew (compound n f ts) each = inside (all_replaced_grew ts each)

    pub all_replaced_grew : (ts : Terms) → ((h : Half) (p : ℕ) → 1 ≤ all_occurrences h p ts → Grew (by h p) (by_later h p))
        → AllGrew (all_replaced by ts) (all_replaced by_later ts)
    all_replaced_grew end each = no_more
    all_replaced_grew (more t ts) each =
        one_more (replaced_grew t (λ h p m. each h p (omega arith))) (all_replaced_grew ts (λ h p m. each h p (omega arith)))

-- An unassigned variable is written out as itself.
applied_itself : (values : Values) (links : ℕ) (h : Half) (n : ℕ) → value values n ≡ none → applied links values (variable h n) ≡ variable h n
unfolding applied replaced
applied_itself values zero h n e = refl
applied_itself values (suc links) h n e = written_unassigned values links h n e

module _ (values after : Values) (grew : ValuesGrew values after) where
  -- What a variable is written out as later.
  abbrev written_later : Half → ℕ → Term
  written_later = written_as after (length after)

  applied_later : (t : Term) → applied (length after) after t ≡ replaced written_later t
  unfolding applied
  applied_later t = sym (applied_within after grew.no_circle_after (suc (length after)) (omega arith) t)

  passed_later : (h : Half) (p : ℕ) (u : Term) → value after p ≡ some u → applied (length after) after (variable h p) ≡ applied (length after) after u
  unfolding replaced
  passed_later h p u e = applied_later (variable h p) ∙ written_assigned after (length after) h p u e

  -- To follow a term and write that out is to write it out.
  pub applied_followed : (links : ℕ) (t : Term) → applied (length after) after (followed links after t) ≡ applied (length after) after t
  unfolding followed
  applied_followed zero t = refl
  applied_followed (suc links) (constant k) = refl
  applied_followed (suc links) (compound n f ts) = refl
  applied_followed (suc links) (variable h p) = go (value after p) refl (applied_followed links)
    where
      go : (v : Option Term) → value after p ≡ v
          → ((t : Term) → applied (length after) after (followed links after t) ≡ applied (length after) after t)
          → applied (length after) after (followed (suc links) after (variable h p)) ≡ applied (length after) after (variable h p)
      go none e further = rw (followed, e)
      go (some u) e further = rw (followed, e) (further u ∙ sym (passed_later h p u e))

  unassigned_grew : (h : Half) (p : ℕ) (t : Term) → 1 ≤ occurrences h p t → StillOpen values after (more t end) → value values p ≡ none
      → Grew (variable h p) (written_later h p)
  unfolding all_occurrences
  unassigned_grew writer p t m own e =
      let unassigned : value after p ≡ none = own p (itself {ts = more t end} (omega arith)) e in
      rw (written_unassigned after (length after) writer p unassigned) writer_still
  unassigned_grew reader p t m own e = reader_became

  -- A term of the goal, or found from it, written out.
  applied_grew_within : (links : ℕ) (t : Term) → AllEndWithin links values t → StillOpen values after (more t end)
      → Grew (applied links values t) (applied (length after) after t)
  unfolding applied EndsWithin all_occurrences
  applied_grew_within zero t ends own =
      rw (applied_later t)
      (subst (λ s. Grew s (replaced written_later t)) (replaced_same t)
      (replaced_grew variable written_later t (λ h p m. unassigned_grew h p t m own (ends p (occurs_stands t h p m)))))
  applied_grew_within (suc links) t ends own =
      rw (applied_later t)
      (replaced_grew (written_as values links) written_later t
      (λ h p m. go h p m (value values p) refl (applied_grew_within links)))
    where
      go : (h : Half) (p : ℕ) → 1 ≤ occurrences h p t → (v : Option Term) → value values p ≡ v
          → ((u : Term) → AllEndWithin links values u → StillOpen values after (more u end) → Grew (applied links values u) (applied (length after) after u))
          → Grew (written_as values links h p) (written_later h p)
      go h p m none e further = rw (written_unassigned values links h p e) (unassigned_grew h p t m own e)
      go h p m (some u) e further =
          rw (written_assigned values links h p u e, written_assigned after (length after) h p u (grew.stays p u e))
          (further u (ends p (occurs_stands t h p m) u e) (λ z held. own z (through {ts = more t end} h p u (omega arith) e held)))

  pub applied_grew : (t : Term) → StillOpen values after (more t end) → Grew (applied (length values) values t) (applied (length after) after t)
  applied_grew t = applied_grew_within (length values) t (λ p s. chains_end values grew.no_circle p)

-- A term that was found in the goal: no writer that it holds was assigned since, its pairs were there, and it is no assigned variable.
pub record FoundNow (values after : Values) (t : Term) : Type 0 where
  pub still_open : StillOpen values after (more t end)
  pub below : Below (length values) t
  pub unassigned : (h : Half) (z : ℕ) → t ≡ variable h z → value values z ≡ none

-- The assignment that gives the pair its value, and one that does not.
given_to_it : (a : Assignment) (given : List Assignment) (x : ℕ) → a.pair ≡ x → given_to (a ∷ given) x ≡ a.value
unfolding given_to
given_to_it a given x e = rw (given_to, eq-eqb a.pair x e)

given_to_other : (a : Assignment) (given : List Assignment) (x : ℕ) → (a.pair ≡ x → ⊥) → given_to (a ∷ given) x ≡ given_to given x
unfolding given_to
given_to_other a given x d = rw (given_to, ne_eqb a.pair x d)

module _ (values after : Values) (grew : ValuesGrew values after) (longer : length values ≤ length after) (c d : ℕ) where
  -- The assignments of a comparison that agreed, and the later ones.
  abbrev pub GivenLater : List Assignment → List Assignment → Type 0
  GivenLater = Paired (Again (FoundNow values after) (followed (length after) after) (length values) c (length after) d)

  -- What `X?` is read as.
  given_to_grew : (x : ℕ) {given given_later : List Assignment} → GivenLater given given_later
      → Grew (applied (length values) values (given_to given (length values + x))) (applied (length after) after (given_to given_later (length after + x)))
  unfolding given_to Stands
  given_to_grew x done =
      rw (
        applied_itself values (length values) writer (length values + x) (value_beyond values (length values + x) (omega arith)),
        applied_itself after (length after) writer (length after + x) (value_beyond after (length after + x) (omega arith)),
      ) writer_still
  given_to_grew x (pair {l = given} {r = given_later} (to_head y t found) others) = go (eqb y x) refl (given_to_grew x others)
    where
      go : (b : Bool) → eqb y x ≡ b
          → Grew (applied (length values) values (given_to given (length values + x))) (applied (length after) after (given_to given_later (length after + x)))
          → Grew (applied (length values) values (given_to ((length values + y := t) ∷ given) (length values + x)))
          (applied (length after) after (given_to ((length after + y := followed (length after) after t) ∷ given_later) (length after + x)))
      go true e further =
          let same : y ≡ x = eqb-true y x e in
          rw (
            given_to_it (length values + y := t) given (length values + x) (omega arith),
            given_to_it (length after + y := followed (length after) after t) given_later (length after + x) (omega arith),
            applied_followed values after grew (length after) t,
          ) (applied_grew values after grew t found.still_open)
      go false e further =
          rw (
            given_to_other (length values + y := t) given (length values + x) (λ i. eqb-false y x e (omega arith)),
            given_to_other (length after + y := followed (length after) after t) given_later (length after + x) (λ i. eqb-false y x e (omega arith)),
          ) further
  given_to_grew x (pair {l = given} {r = given_later} (to_goal z u found) others) =
      rw (
        given_to_other (z := renamed (length values) c u) given (length values + x) (λ i. omega (arith, found.below z refl)),
        given_to_other (z := renamed (length after) d u) given_later (length after + x) (λ i. omega (arith, found.below z refl)),
      ) (given_to_grew x others)

  -- A guard's arguments, written out.
  pub written_out_grew : {given given_later : List Assignment} → GivenLater given given_later → (ts : Terms)
      → AllGrew (written_out given values (length values) ts) (written_out given_later after (length after) ts)
  unfolding written_out
  written_out_grew {given} {given_later} paired ts =
      all_replaced_grew (λ h x. applied (length values) values (given_to given (length values + x)))
      (λ h x. applied (length after) after (given_to given_later (length after + x))) ts (λ h x m. given_to_grew x paired)
