-- A comparison that fails, fails later too: a place that failed does, wherever what is found in the goal only grew.
-- A constant, a compound and the goal's own writer are found again; where a reader was found, a value may be, and no value is a writer.
use Prim.Native.Nat.{ℕ, suc}
use mathlib.Core.Path.{◌≡◌, refl, sym, ap}
use mathlib.Core.Logic.{◌⊎◌, inl, inr}
use mathlib.Core.Bool.{Bool, true, false, ◌&&◌}
use lib.Dec.{eqb}
use Rattle.meaning.specs.Bytes.{when◌then◌else◌}
use Rattle.meaning.specs.Terms.{
  writer,
  reader,
  Functor,
  Term,
  Terms,
  variable,
  constant,
  compound,
  end,
  more,
  count,
  same_functor,
  renamed,
  all_renamed,
}
use Rattle.meaning.specs.Compare.{fails, gives, waits_on, and_then, place, places}
use Rattle.laws.proofs.Trial.Results.{fails_not_succeeds, fails_not_waits}
use Rattle.laws.proofs.Trial.Table.{EachArgument}
use Rattle.laws.proofs.Trial.Needed.{and_then_failing, and_then_fails}

-- What was found in the goal, and what is found there later.
unfoldable pub FoundLater : Term → Term → Type 0
FoundLater (variable writer z) t = t ≡ variable writer z
FoundLater (variable reader z) t = (q : ℕ) → t ≡ variable writer q → ⊥
FoundLater (constant k) t = t ≡ constant k
FoundLater (compound n f ts) t = t ≡ compound n f ts

pub count_renamed : (p c : ℕ) (ts : Terms) → count (all_renamed p c ts) ≡ count ts
unfolding count all_renamed
count_renamed p c end = refl
count_renamed p c (more t ts) = ap suc (count_renamed p c ts)

-- A reader of the head fails against anything but a writer.
reader_fails : (look : Term → Term) (x : ℕ) (t : Term) → ((q : ℕ) → t ≡ variable writer q → ⊥) → place look (variable reader x) t ≡ fails
unfolding place
reader_fails look x (variable writer z) d = absurd (d z refl)
reader_fails look x (variable reader z) d = refl
reader_fails look x (constant k) d = refl
reader_fails look x (compound n f ts) d = refl

-- `Goal` holds of the goal's terms, `Found` of what they are followed to; the head is renamed apart anew.
module _ (Goal Found : Term → Type 0) (look look_later : Term → Term)
    (inside_found : (n : ℕ) (f : Functor) (ts : Terms) → Found (compound n f ts) → EachArgument Goal ts)
    (finds : (t : Term) → Goal t → Found (look t))
    (later : (t : Term) → Goal t → FoundLater (look t) (look_later t))
    (p c q d : ℕ) where
  mutual
    unfolding EachArgument FoundLater place places renamed all_renamed gives waits_on and_then when◌then◌else◌

    place_fails_later : (u t s : Term) → Found t → FoundLater t s → place look (renamed p c u) t ≡ fails → place look_later (renamed q d u) s ≡ fails
    place_fails_later (variable writer x) (variable writer z) s found l e = rw l
    place_fails_later (variable writer x) (variable reader z) s found l e = absurd (fails_not_succeeds (sym e))
    place_fails_later (variable writer x) (constant k) s found l e = absurd (fails_not_succeeds (sym e))
    place_fails_later (variable writer x) (compound n f ts) s found l e = absurd (fails_not_succeeds (sym e))
    place_fails_later (variable reader x) (variable writer z) s found l e = absurd (fails_not_succeeds (sym e))
    place_fails_later (variable reader x) (variable reader z) s found l e = reader_fails look_later _ s l
    place_fails_later (variable reader x) (constant k) s found l e = rw l
    place_fails_later (variable reader x) (compound n f ts) s found l e = rw l
    place_fails_later (constant a) (variable writer z) s found l e = absurd (fails_not_succeeds (sym e))
    place_fails_later (constant a) (variable reader z) s found l e = absurd (fails_not_waits (sym e))
    place_fails_later (constant a) (constant k) s found l e = rw l e
    place_fails_later (constant a) (compound n f ts) s found l e = rw l
    place_fails_later (compound m g us) (variable writer z) s found l e = absurd (fails_not_succeeds (sym e))
    place_fails_later (compound m g us) (variable reader z) s found l e = absurd (fails_not_waits (sym e))
    place_fails_later (compound m g us) (constant k) s found l e = rw l
    place_fails_later (compound m g us) (compound n f ts) s found l e =
        rw (l, count_renamed q d us)
        (behind (same_functor g f && eqb (count us) (count ts)) (rw (count_renamed p c us) at e)
        (λ i. places_fail_later us ts (inside_found n f ts found) i))
      where
        behind : (b : Bool) → (when b then places look (all_renamed p c us) ts else fails) ≡ fails
            → (places look (all_renamed p c us) ts ≡ fails → places look_later (all_renamed q d us) ts ≡ fails)
            → (when b then places look_later (all_renamed q d us) ts else fails) ≡ fails
        behind true e further = further e
        behind false e further = refl

    pub places_fail_later : (us ts : Terms) → EachArgument Goal ts → places look (all_renamed p c us) ts ≡ fails
        → places look_later (all_renamed q d us) ts ≡ fails
    places_fail_later end end goals e = absurd (fails_not_succeeds (sym e))
    places_fail_later end (more t ts) goals e = refl
    places_fail_later (more u us) end goals e = refl
    places_fail_later (more u us) (more t ts) goals e =
        go (and_then_fails (place look (renamed p c u) (look t)) (places look (all_renamed p c us) ts) e)
        (λ i. place_fails_later u (look t) (look_later t) (finds t goals.0) (later t goals.0) i)
        (λ i. places_fail_later us ts goals.1 i)
      where
        go : (place look (renamed p c u) (look t) ≡ fails) ⊎ (places look (all_renamed p c us) ts ≡ fails)
            → (place look (renamed p c u) (look t) ≡ fails → place look_later (renamed q d u) (look_later t) ≡ fails)
            → (places look (all_renamed p c us) ts ≡ fails → places look_later (all_renamed q d us) ts ≡ fails)
            → and_then (place look_later (renamed q d u) (look_later t)) (places look_later (all_renamed q d us) ts) ≡ fails
        go (inl f) one other = rw (one f)
        go (inr f) one other = rw (other f) (and_then_failing (place look_later (renamed q d u) (look_later t)))
