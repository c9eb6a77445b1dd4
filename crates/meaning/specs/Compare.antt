-- Document 01, 'One step', with document 02, T-03: following a goal's term, and the table by which a head is compared with a goal.
use Rattle.std.specs.Prelude.{ℕ, zero, suc, Bool, true, false, ◌&&◌, List, [], ◌∷◌, ◌++◌, eqb}
use Rattle.std.proofs.Math.Option.{Option, none, some}
use Rattle.meaning.specs.Bytes.{when◌then◌else◌}
use Rattle.meaning.specs.Terms.{
  Half,
  writer,
  reader,
  Constant,
  Functor,
  Term,
  Terms,
  variable,
  constant,
  compound,
  end,
  more,
  count,
  same_constant,
  same_functor,
}
use Rattle.meaning.specs.State.{Values, value, state_words}

-- "A goal term that is an assigned variable is followed to its value, again and again", over no more links than given.
unfoldable pub followed : ℕ → Values → Term → Term
followed zero values t = t
followed (suc links) values (variable h p) =
    elim (value values p) [ none ↦ variable h p | some t ↦ followed links values t ]
followed (suc links) values (constant k) = constant k
followed (suc links) values (compound n f ts) = compound n f ts

-- `X := value`.
pub record Assignment : Type 0 where
  pub pair : ℕ
  pub value : Term

-- "It succeeds, it waits on a reader, or it fails": with what is assigned, or the pairs of the readers needed.
pub data Result : Type 0 where
  succeeds : List Assignment → Result
  waits : List ℕ → Result
  fails : Result

unfoldable pub gives : ℕ → Term → Result
gives pair value = succeeds (record { pair = pair; value = value } ∷ [])

unfoldable pub waits_on : ℕ → Result
waits_on pair = waits (pair ∷ [])

-- "The comparison shall go through all places: any failing place fails the trial, and otherwise the trial waits on every reader needed" (02, T-03):
-- behind places that agree, and behind places that wait.
unfoldable pub with_assignments : List Assignment → Result → Result
with_assignments first (succeeds others) = succeeds (first ++ others)
with_assignments first (waits readers) = waits readers
with_assignments first fails = fails

unfoldable pub with_readers : List ℕ → Result → Result
with_readers first (succeeds given) = waits first
with_readers first (waits others) = waits (first ++ others)
with_readers first fails = fails

unfoldable pub and_then : Result → Result → Result
and_then (succeeds first) others = with_assignments first others
and_then (waits readers) others = with_readers readers others
and_then fails others = fails

-- The table: the head's term against the goal's, which was followed; `look` follows the goal's arguments.
unfoldable mutual
  pub place : (Term → Term) → Term → Term → Result
  place look (variable writer x) (variable writer z) = fails
  place look (variable writer x) (variable reader z) = gives x (variable reader z)
  place look (variable writer x) (constant k) = gives x (constant k)
  place look (variable writer x) (compound n f ts) = gives x (compound n f ts)
  place look (variable reader x) (variable writer z) = gives z (variable reader x)
  place look (variable reader x) (variable reader z) = fails
  place look (variable reader x) (constant k) = fails
  place look (variable reader x) (compound n f ts) = fails
  place look (constant c) (variable writer z) = gives z (constant c)
  place look (constant c) (variable reader z) = waits_on z
  place look (constant c) (constant k) = when same_constant c k then succeeds [] else fails
  place look (constant c) (compound n f ts) = fails
  place look (compound m g us) (variable writer z) = gives z (compound m g us)
  place look (compound m g us) (variable reader z) = waits_on z
  place look (compound m g us) (constant k) = fails
  place look (compound m g us) (compound n f ts) =
      when same_functor g f && eqb (count us) (count ts) then places look us ts else fails

  -- "From left to right and depth first."
  pub places : (Term → Term) → Terms → Terms → Result
  places look end end = succeeds []
  places look end (more t ts) = fails
  places look (more u us) end = fails
  places look (more u us) (more t ts) = and_then (place look u (look t)) (places look us ts)

unfoldable pub compare_words : Unit {0}
unfolding state_words followed gives waits_on with_assignments with_readers and_then place places
compare_words = tt
