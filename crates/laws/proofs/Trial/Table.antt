-- What the table assigns: a writer of the head gets the term found in the goal, a writer found in the goal gets the term of the head.
-- So what holds of those two kinds of assignments holds of every assignment of a comparison that succeeds.
use Prim.Native.Nat.{ℕ}
use mathlib.Core.Path.{◌≡◌, subst}
use mathlib.Core.Logic.{inl, inr}
use mathlib.Core.Bool.{Bool, true, false, ◌&&◌}
use mathlib.Core.List.{List, []}
use lib.Dec.{eqb}
use Rattle.meaning.specs.Bytes.{when◌then◌else◌}
use Rattle.meaning.specs.Terms.{
  writer,
  reader,
  Functor,
  Term,
  Terms,
  variable,
  constant,
  compound,
  end,
  more,
  count,
  same_constant,
  same_functor,
}
use Rattle.meaning.specs.Compare.{Assignment, Result, succeeds, waits, fails, gives, waits_on, with_assignments, with_readers, and_then, place, places}
use Rattle.laws.proofs.Lists.{differ, Each, each_append}
use Rattle.laws.proofs.Terms.{Stands, StandsIn}

-- Something holds of each argument.
unfoldable pub EachArgument : (Term → Type 0) → Terms → Type 0
EachArgument P end = Unit {0}
EachArgument P (more t ts) = P t × EachArgument P ts

-- What holds of every pair of the arguments holds of every pair of each.
pub each_pair : (P : ℕ → Type 0) (ts : Terms) → ((p : ℕ) → StandsIn p ts → P p) → EachArgument (λ t. (p : ℕ) → Stands p t → P p) ts
unfolding EachArgument StandsIn
each_pair P end all = tt
each_pair P (more t ts) all = (λ p s. all p (inl s), each_pair P ts (λ p s. all p (inr s)))

-- Something holds of each assignment of a success.
unfoldable pub EachGiven : (Assignment → Type 0) → Result → Type 0
EachGiven P (succeeds given) = Each P given
EachGiven P (waits readers) = Unit {0}
EachGiven P fails = Unit {0}

infix 20 ◌:=◌
abbrev pub ◌:=◌ : ℕ → Term → Assignment
p := t = record { pair = p; value = t }

module _ (P : Assignment → Type 0) where
  each_gives : (p : ℕ) (t : Term) → P (p := t) → EachGiven P (gives p t)
  unfolding gives EachGiven
  each_gives p t h = (h, tt)

  each_and_then : (r s : Result) → EachGiven P r → EachGiven P s → EachGiven P (and_then r s)
  unfolding EachGiven and_then with_assignments with_readers
  each_and_then (succeeds given) (succeeds others) f g = each_append P given others f g
  each_and_then (succeeds given) (waits readers) f g = tt
  each_and_then (succeeds given) fails f g = tt
  each_and_then (waits readers) (succeeds others) f g = tt
  each_and_then (waits readers) (waits others) f g = tt
  each_and_then (waits readers) fails f g = tt
  each_and_then fails s f g = tt

  each_if : (b : Bool) (r : Result) → EachGiven P r → EachGiven P (when b then r else fails)
  unfolding EachGiven when◌then◌else◌
  each_if true r f = f
  each_if false r f = tt

-- `Head` holds of the head's terms, `Goal` of the goal's terms, `Found` of what they are followed to.
module _ (Head Goal Found : Term → Type 0) (P : Assignment → Type 0) (look : Term → Term)
    (inside_head : (n : ℕ) (f : Functor) (us : Terms) → Head (compound n f us) → EachArgument Head us)
    (inside_found : (n : ℕ) (f : Functor) (ts : Terms) → Found (compound n f ts) → EachArgument Goal ts)
    (finds : (t : Term) → Goal t → Found (look t))
    (to_head : (x : ℕ) (t : Term) → Head (variable writer x) → Found t → P (x := t))
    (to_goal : (z : ℕ) (u : Term) → Found (variable writer z) → Head u → P (z := u)) where
  mutual
    unfolding EachGiven EachArgument place places waits_on

    place_gives : (u t : Term) → Head u → Found t → EachGiven P (place look u t)
    place_gives (variable writer x) (variable writer z) head found = tt
    place_gives (variable writer x) (variable reader z) head found = each_gives P x (variable reader z) (to_head x (variable reader z) head found)
    place_gives (variable writer x) (constant k) head found = each_gives P x (constant k) (to_head x (constant k) head found)
    place_gives (variable writer x) (compound n f ts) head found = each_gives P x (compound n f ts) (to_head x (compound n f ts) head found)
    place_gives (variable reader x) (variable writer z) head found = each_gives P z (variable reader x) (to_goal z (variable reader x) found head)
    place_gives (variable reader x) (variable reader z) head found = tt
    place_gives (variable reader x) (constant k) head found = tt
    place_gives (variable reader x) (compound n f ts) head found = tt
    place_gives (constant c) (variable writer z) head found = each_gives P z (constant c) (to_goal z (constant c) found head)
    place_gives (constant c) (variable reader z) head found = tt
    place_gives (constant c) (constant k) head found = each_if P (same_constant c k) (succeeds []) tt
    place_gives (constant c) (compound n f ts) head found = tt
    place_gives (compound m g us) (variable writer z) head found = each_gives P z (compound m g us) (to_goal z (compound m g us) found head)
    place_gives (compound m g us) (variable reader z) head found = tt
    place_gives (compound m g us) (constant k) head found = tt
    place_gives (compound m g us) (compound n f ts) head found =
        each_if P (same_functor g f && eqb (count us) (count ts)) (places look us ts)
        (places_give us ts (inside_head m g us head) (inside_found n f ts found))

    places_give : (us ts : Terms) → EachArgument Head us → EachArgument Goal ts → EachGiven P (places look us ts)
    places_give end end heads goals = tt
    places_give end (more t ts) heads goals = tt
    places_give (more u us) end heads goals = tt
    places_give (more u us) (more t ts) heads goals =
        each_and_then P (place look u (look t)) (places look us ts)
        (place_gives u (look t) heads.0 (finds t goals.0))
        (places_give us ts heads.1 goals.1)

  -- Every assignment of a comparison that succeeds is of one of the two kinds.
  pub table_gives : (us ts : Terms) → EachArgument Head us → EachArgument Goal ts → (given : List Assignment) → places look us ts ≡ succeeds given
      → Each P given
  unfolding EachGiven
  table_gives us ts heads goals given agree = subst (EachGiven P) agree (places_give us ts heads goals)

-- No value that is given is a writer: against a writer of the goal a writer of the head fails.
abbrev pub NoWriter : Assignment → Type 0
NoWriter a = (q : ℕ) → a.value ≡ variable writer q → ⊥

module _ (look : Term → Term) where
  mutual
    unfolding EachGiven place places waits_on

    place_gives_no_writer : (u t : Term) → EachGiven NoWriter (place look u t)
    place_gives_no_writer (variable writer x) (variable writer z) = tt
    place_gives_no_writer (variable writer x) (variable reader z) = each_gives NoWriter x (variable reader z) (λ q e. differ (cc))
    place_gives_no_writer (variable writer x) (constant k) = each_gives NoWriter x (constant k) (λ q e. differ (cc))
    place_gives_no_writer (variable writer x) (compound n f ts) = each_gives NoWriter x (compound n f ts) (λ q e. differ (cc))
    place_gives_no_writer (variable reader x) (variable writer z) = each_gives NoWriter z (variable reader x) (λ q e. differ (cc))
    place_gives_no_writer (variable reader x) (variable reader z) = tt
    place_gives_no_writer (variable reader x) (constant k) = tt
    place_gives_no_writer (variable reader x) (compound n f ts) = tt
    place_gives_no_writer (constant c) (variable writer z) = each_gives NoWriter z (constant c) (λ q e. differ (cc))
    place_gives_no_writer (constant c) (variable reader z) = tt
    place_gives_no_writer (constant c) (constant k) = each_if NoWriter (same_constant c k) (succeeds []) tt
    place_gives_no_writer (constant c) (compound n f ts) = tt
    place_gives_no_writer (compound m g us) (variable writer z) = each_gives NoWriter z (compound m g us) (λ q e. differ (cc))
    place_gives_no_writer (compound m g us) (variable reader z) = tt
    place_gives_no_writer (compound m g us) (constant k) = tt
    place_gives_no_writer (compound m g us) (compound n f ts) =
        each_if NoWriter (same_functor g f && eqb (count us) (count ts)) (places look us ts) (places_give_no_writer us ts)

    places_give_no_writer : (us ts : Terms) → EachGiven NoWriter (places look us ts)
    places_give_no_writer end end = tt
    places_give_no_writer end (more t ts) = tt
    places_give_no_writer (more u us) end = tt
    places_give_no_writer (more u us) (more t ts) =
        each_and_then NoWriter (place look u (look t)) (places look us ts) (place_gives_no_writer u (look t)) (places_give_no_writer us ts)

  pub table_gives_no_writer : (us ts : Terms) (given : List Assignment) → places look us ts ≡ succeeds given → Each NoWriter given
  unfolding EachGiven
  table_gives_no_writer us ts given agree = subst (EachGiven NoWriter) agree (places_give_no_writer us ts)
