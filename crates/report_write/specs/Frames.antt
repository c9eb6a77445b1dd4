-- Where a walk stands among compounds that are not yet written to their end, and what is still to be written there.
use Rattle.std.specs.Prelude.{ℕ, zero, suc, ◌+◌, ◌/◌, ◌%◌, ◌≤◌, ◌<◌, ◌≡◌, List, [], ◌++◌, length, get_or, Option, Some, None}
use Rattle.meaning.specs.Bytes.{Bytes}
use Rattle.meaning.specs.Terms.{Functor, Term, Terms, more}
use Rattle.meaning.specs.Report.{number_in}
use Rattle.laws.proofs.Terms.Standing.{StandsIn}
use Rattle.term.specs.Setting.{Setting}
use Rattle.report_pairs.specs.Threaded.{all_full}
use Rattle.report_pairs.specs.Laid.{Puts}
use Rattle.report_pairs.specs.Facts.{fact_place}
use Rattle.report_pairs.specs.Walk.{Position, after, rest}

-- Each pair of these arguments has its number.
abbrev pub NumberedIn : List ℕ → Setting → ℕ → List ℕ → Terms → Type 0
NumberedIn s x facts order us = (m : ℕ) → m < length x.values → StandsIn m (all_full x.values us) → get_or s (fact_place x facts m + 2) 0 ≡ number_in m order

-- The walk stands behind the i-th argument of the compound at p. These bytes are still to be written, the last of them outside that compound.
pub record Behind (Outside : Bytes → Type 0) (s : List ℕ) (x : Setting) (facts : ℕ) (order : List ℕ) (p i : ℕ) (bs : Bytes) : Type 0 where
  pub f : Functor
  pub j : ℕ
  pub u : Term
  pub us : Terms
  pub position : Position s x p i j f u us
  pub numbered : NumberedIn s x facts order us
  pub outer : Bytes
  pub outside : Outside outer
  pub is : after x.values order f j us ++ outer ≡ bs

-- It stands before that argument.
pub record Before (Outside : Bytes → Type 0) (s : List ℕ) (x : Setting) (facts : ℕ) (order : List ℕ) (p i : ℕ) (bs : Bytes) : Type 0 where
  pub f : Functor
  pub j : ℕ
  pub u : Term
  pub us : Terms
  pub position : Position s x p i j f u us
  pub numbered : NumberedIn s x facts order (more u us)
  pub outer : Bytes
  pub outside : Outside outer
  pub is : rest x.values order f j u us ++ outer ≡ bs

-- Nothing stands outside.
abbrev pub Nothing : Bytes → Type 0
Nothing bs = bs ≡ []

-- So many compounds are not yet at their end, the innermost last. Of each the frames have 8 times its place and the number of its argument.
unfoldable pub Frames : List ℕ → List ℕ → Setting → ℕ → List ℕ → ℕ → Bytes → Type 0
Frames frames s x facts order zero bs = Nothing bs
Frames frames s x facts order (suc d) bs = Behind (Frames frames s x facts order d) s x facts order (get_or frames d 0 / 8) (get_or frames d 0 % 8) bs

-- Some of these bytes were put, and the walk stands before an argument; or all of them were.
abbrev pub Rose : List ℕ → List ℕ → Setting → ℕ → List ℕ → List ℕ → List ℕ → ℕ → ℕ → Bytes → ℕ × Option (ℕ × ℕ × ℕ) → Type 0
Rose frames s x facts order b b' at deep bs (to, None) = Puts b b' at to bs
Rose frames s x facts order b b' at deep bs (to, Some (p, i, d)) = (done : Bytes) × (left : Bytes) × Puts b b' at to done × (done ++ left ≡ bs)
    × Before (Frames frames s x facts order d) s x facts order p i left × (at < to) × (d ≤ deep)
