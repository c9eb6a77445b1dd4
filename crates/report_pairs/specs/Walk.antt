-- A walk over the arguments of a compound, and on over the tails of a list: where it stands, what is still to be written there, and what stands behind
-- an argument.
use Rattle.std.specs.Prelude.{ℕ, zero, suc, ◌+◌, ◌*◌, ◌<◌, ◌≡◌, List, [], ◌∷◌, ◌++◌, length, get_or, Option, Some, None}
use Rattle.meaning.specs.Bytes.{Bytes}
use Rattle.meaning.specs.Terms.{Functor, cell, named, Term, Terms, more, count}
use Rattle.meaning.specs.State.{Values}
use Rattle.meaning.specs.Report.{alone, written, tail_bytes, other_arguments}
use Rattle.laws.proofs.Terms.Standing.{StandsIn}
use Rattle.term.specs.Holds.{CellAt}
use Rattle.term.specs.Setting.{Setting, UnitTerm, UnitTerms}
use Rattle.term.specs.Spellings.{SpelledAt}
use Rattle.report_pairs.specs.Threaded.{full, all_full, seen_after_all}
use Rattle.report_pairs.specs.Sound.{Sound, SoundFunctor, AllSound}

-- What stands before the first argument.
abbrev pub opening_bytes : Functor → Bytes
opening_bytes cell = 91 ∷ []
opening_bytes (named f) = f ++ (40 ∷ [])

-- The functor in the upper part of a compound's first word: 0 for a list cell, else the name's number and one, and where it is spelled.
abbrev pub Opens : List ℕ → Bytes → ℕ → Functor → Type 0
Opens s text w cell = w ≡ 0
Opens s text w (named f) = (k : ℕ) × (w ≡ k + 1) × (2 * k + 1 < length s) × SpelledAt text (get_or s (2 * k) 0) (get_or s (2 * k + 1) 0) f

-- A compound of the unit at its place.
pub record StandsAt (s : List ℕ) (x : Setting) (n : ℕ) (f : Functor) (ts : Terms) (p : ℕ) : Type 0 where
  pub term : UnitTerm s x (Term.compound n f ts)
  pub sound : Sound (Term.compound n f ts)
  pub place : p ≡ x.places.compound n

-- What stands behind the argument before these, the j-th of its compound, counted from 0.
abbrev pub after : Values → List ℕ → Functor → ℕ → Terms → Bytes
after values order (named f) j us = other_arguments order (all_full values us) ++ (41 ∷ [])
after values order cell zero us = tail_bytes order (all_full values us)
after values order cell (suc j) us = 93 ∷ []

-- What is still to be written from the j-th argument u on, with these behind it.
abbrev pub rest : Values → List ℕ → Functor → ℕ → Term → Terms → Bytes
rest values order f j u us = written order alone (full values u) ++ after values order f j us

-- The walk stands before the j-th argument u of the compound at p, whose i-th word it is, with these behind it.
pub record Position (s : List ℕ) (x : Setting) (p i j : ℕ) (f : Functor) (u : Term) (us : Terms) : Type 0 where
  pub number : ℕ
  pub index : i ≡ j + 1
  pub place : p ≡ x.places.compound number
  pub of_unit : number < x.compounds
  pub cell_at : CellAt s x.places number f (j + count (more u us))
  pub sound_functor : SoundFunctor f (j + count (more u us))
  pub terms : UnitTerms s x number j (more u us)
  pub sound : AllSound (more u us)

-- What was found behind an argument is what stands there.
abbrev pub Found : List ℕ → Setting → Functor → ℕ → Terms → ℕ × Option (ℕ × ℕ) → Type 0
Found s x f j us (b, None) = ((order : List ℕ) → after x.values order f j us ≡ b ∷ []) × ((seen : List ℕ) → seen_after_all seen (all_full x.values us) ≡ seen)
Found s x f j us (b, Some (q, i)) = (k : ℕ) × (g : Functor) × (v : Term) × (vs : Terms) × Position s x q i k g v vs
    × ((order : List ℕ) → after x.values order f j us ≡ b ∷ rest x.values order g k v vs)
    × ((seen : List ℕ) → seen_after_all seen (all_full x.values us) ≡ seen_after_all seen (all_full x.values (more v vs)))
    × ((m : ℕ) → StandsIn m (all_full x.values (more v vs)) → StandsIn m (all_full x.values us))
