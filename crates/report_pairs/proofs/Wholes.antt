-- A compound's bytes: its opening, then the rest from its first argument on.
use Prim.Native.Nat.{ℕ, ◌<◌}
use mathlib.Core.Path.{◌≡◌, refl, ◌∙◌, ap}
use mathlib.Core.List.{List, [], ◌∷◌, ◌++◌, append_assoc}
use native.Mathlib.Omega.{arith}
use lib.ListN.{length, get_or}
use Rattle.meaning.specs.Bytes.{Bytes, bytes}
use Rattle.meaning.specs.Terms.{Functor, cell, named, Term, Terms, end, more, count}
use Rattle.meaning.specs.Report.{alone, written, element_and_tail, first_argument, other_arguments, behind_bar, before_element}
use Rattle.term.specs.Cells.{number_of, Known}
use Rattle.term.specs.Holds.{Holds}
use Rattle.term.specs.Setting.{Setting}
use Rattle.term.specs.Words.{rest_in}
use Rattle.report_pairs.specs.Threaded.{full, all_full}
use Rattle.report_pairs.specs.Sound.{Sound}
use Rattle.report_pairs.specs.Facts.{Readable}
use Rattle.report_pairs.specs.Walk.{opening_bytes, Opens, StandsAt, rest}
use Rattle.report_pairs.proofs.Full.{full_compound}
use Rattle.report_pairs.proofs.Walking.{functor_parts}
use Rattle.report_pairs.proofs.Leaves.{name_spelled}

-- A compound is its opening, and the rest from its first argument on.
pub whole_is : (x : Setting) (order : List ℕ) (n : ℕ) (f : Functor) (u : Term) (us : Terms)
    → written order alone (full x.values (Term.compound n f (more u us))) ≡ opening_bytes f ++ rest x.values order f 0 u us
unfolding written all_full element_and_tail first_argument before_element behind_bar bytes
whole_is x order n cell u us = ap (written order alone) (full_compound x.values n cell (more u us))
whole_is x order n (named f) u us =
    let first = written order alone (full x.values u) in
    let others = other_arguments order (all_full x.values us) in
    let one : written order alone (Term.compound n (named f) (all_full x.values (more u us))) ≡ ((f ++ (40 ∷ [])) ++ (first ++ others)) ++ (41 ∷ []) = refl in
    let two : ((f ++ (40 ∷ [])) ++ (first ++ others)) ++ (41 ∷ []) ≡ (f ++ (40 ∷ [])) ++ ((first ++ others) ++ (41 ∷ [])) =
    append_assoc (f ++ (40 ∷ [])) (first ++ others) (41 ∷ []) in
    let three : (f ++ (40 ∷ [])) ++ ((first ++ others) ++ (41 ∷ [])) ≡ (f ++ (40 ∷ [])) ++ (first ++ (others ++ (41 ∷ []))) =
    ap (λ (l : Bytes). (f ++ (40 ∷ [])) ++ l) (append_assoc first others (41 ∷ [])) in
    ap (written order alone) (full_compound x.values n (named f) (more u us)) ∙ one ∙ two ∙ three

-- There is a first argument.
pub some_argument : (n : ℕ) (f : Functor) (ts : Terms) → Sound (Term.compound n f ts) → (u : Term) × (us : Terms) × (ts ≡ more u us)
unfolding Sound count
some_argument n cell end k = absurd (omega (arith, k.0))
some_argument n (named f) end k = absurd (omega (arith, k.0))
some_argument n f (more u us) k = (u, us, refl)

-- The functor's word.
pub stands_opens : (s : List ℕ) (text : Bytes) (x : Setting) (facts : ℕ) → Readable s text x facts → (n : ℕ) (f : Functor) (ts : Terms) (p : ℕ)
    → StandsAt s x n f ts p → (p < length s) × Opens s text (rest_in (get_or s p 0)) f
unfolding Holds Known
stands_opens s text x facts r n cell ts p a =
    let c = a.term.held.0 in
    (omega (arith, c.inside, a.place), rw a.place (functor_parts s x.places n cell (count ts) c).0)
stands_opens s text x facts r n (named f) ts p a =
    let c = a.term.held.0 in
    let k = name_spelled s text x facts r f a.term.of.known.0 in
    (omega (arith, c.inside, a.place), (number_of f x.places.names, rw a.place (functor_parts s x.places n (named f) (count ts) c).0, k.0, k.1))
