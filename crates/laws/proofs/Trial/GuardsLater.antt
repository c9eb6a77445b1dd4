-- A guard that failed fails later too, and one that succeeded succeeds: wherever its arguments, written out, only grew. An unassigned writer is one still,
-- a constant and a compound are found again, and where an unassigned reader was anything may be; but such a guard waited, or it failed by a writer.
use Prim.Native.Nat.{ℕ}
use mathlib.Core.Path.{◌≡◌, refl, sym, ap, ap₂}
use mathlib.Core.Logic.{◌⊎◌, inl, inr}
use mathlib.Core.Bool.{Bool, true, false}
use mathlib.Core.List.{List, [], ◌∷◌}
use Rattle.meaning.specs.Terms.{
  writer,
  reader,
  Constant,
  Functor,
  Term,
  Terms,
  variable,
  constant,
  compound,
  end,
  more,
  Test,
  an_integer,
  a_constant,
  a_compound,
  a_ground,
  known,
  equal,
  otherwise,
  Guard,
}
use Rattle.meaning.specs.State.{Values}
use Rattle.meaning.specs.Compare.{Assignment, Result, succeeds, waits, fails, waits_on, and_then}
use Rattle.meaning.specs.Guards.{
  written_out,
  first_of,
  succeeds_if,
  unassigned,
  variables,
  all_variables,
  argument_is,
  is_integer,
  two_equal,
  after,
  answer,
  in_order,
}
use Rattle.laws.proofs.Trial.Results.{fails_not_succeeds, fails_not_waits, waits_not_succeeds, both}
use Rattle.laws.proofs.Trial.Chosen.{first_of_succeeds}
use Rattle.laws.proofs.Trial.Needed.{and_then_failing, and_then_fails}

-- A term written out, and the same later.
mutual
  pub data Grew : Term → Term → Type 0 where
    writer_still : {n m : ℕ} → Grew (variable writer n) (variable writer m)
    reader_became : {n : ℕ} {t : Term} → Grew (variable reader n) t
    constant_still : {k : Constant} → Grew (constant k) (constant k)
    inside : {n : ℕ} {f : Functor} {ts us : Terms} → AllGrew ts us → Grew (compound n f ts) (compound n f us)

  pub data AllGrew : Terms → Terms → Type 0 where
    no_more : AllGrew end end
    one_more : {t u : Term} {ts us : Terms} → Grew t u → AllGrew ts us → AllGrew (more t ts) (more u us)

-- Two results taken together succeed only if both do.
abbrev pub BothSucceed : (Result → Result → Result) → Type 0
BothSucceed together = (one two : Result) (given : List Assignment) → together one two ≡ succeeds given
    → ((first : List Assignment) × (one ≡ succeeds first)) × ((others : List Assignment) × (two ≡ succeeds others))

and_then_both : BothSucceed and_then
and_then_both one two given e = let b = both one two given e in ((b.first, b.one_succeeds), (b.others, b.two_succeeds))

first_of_both : BothSucceed first_of
first_of_both one two given e = let (one_succeeds, two_succeeds) = first_of_succeeds one two given e in (one_succeeds, (given, two_succeeds))

-- What holds no variable stays as it is.
module _ (together : Result → Result → Result) (succeed : BothSucceed together) where
  mutual
    unfolding variables all_variables unassigned waits_on

    plain_stays : {t u : Term} → Grew t u → (given : List Assignment) → variables together t ≡ succeeds given → u ≡ t
    plain_stays writer_still given e = absurd (fails_not_succeeds e)
    plain_stays reader_became given e = absurd (waits_not_succeeds e)
    plain_stays constant_still given e = refl
    plain_stays (inside {n = n} {f = f} g) given e = ap (compound n f) (all_plain_stay g given e)

    all_plain_stay : {ts us : Terms} → AllGrew ts us → (given : List Assignment) → all_variables together ts ≡ succeeds given → us ≡ ts
    all_plain_stay no_more given e = refl
    all_plain_stay (one_more {t = t} {ts = ts} g gs) given e =
        let ((first, i), (others, j)) = succeed (variables together t) (all_variables together ts) given e in
        ap₂ more (plain_stays g first i) (all_plain_stay gs others j)

-- `ground` fails on an unassigned writer anywhere, which is one still.
mutual
  unfolding variables all_variables unassigned waits_on and_then

  writer_anywhere : {t u : Term} → Grew t u → variables and_then t ≡ fails → variables and_then u ≡ fails
  writer_anywhere writer_still e = refl
  writer_anywhere reader_became e = absurd (fails_not_waits (sym e))
  writer_anywhere constant_still e = e
  writer_anywhere (inside g) e = all_writer_anywhere g e

  all_writer_anywhere : {ts us : Terms} → AllGrew ts us → all_variables and_then ts ≡ fails → all_variables and_then us ≡ fails
  all_writer_anywhere no_more e = e
  all_writer_anywhere (one_more {t = t} {u = u} {ts = ts} {us = us} g gs) e =
      go (and_then_fails (variables and_then t) (all_variables and_then ts) e) (λ i. writer_anywhere g i) (λ i. all_writer_anywhere gs i)
    where
      go : (variables and_then t ≡ fails) ⊎ (all_variables and_then ts ≡ fails) → (variables and_then t ≡ fails → variables and_then u ≡ fails)
          → (all_variables and_then ts ≡ fails → all_variables and_then us ≡ fails)
          → and_then (variables and_then u) (all_variables and_then us) ≡ fails
      go (inl i) one others = rw (one i)
      go (inr i) one others = rw (others i) (and_then_failing (variables and_then u))

-- The first of two that does not succeed fails.
first_of_fails : (one two : Result) → first_of one two ≡ fails → (one ≡ fails) ⊎ (((given : List Assignment) × (one ≡ succeeds given)) × (two ≡ fails))
unfolding first_of
first_of_fails (succeeds given) two e = inr ((given, refl), e)
first_of_fails (waits readers) two e = absurd (fails_not_waits (sym e))
first_of_fails fails two e = inl refl

-- `==` fails if the first unassigned variable is a writer: so it is still, behind what holds none.
mutual
  unfolding variables all_variables unassigned waits_on first_of

  writer_first : {t u : Term} → Grew t u → variables first_of t ≡ fails → variables first_of u ≡ fails
  writer_first writer_still e = refl
  writer_first reader_became e = absurd (fails_not_waits (sym e))
  writer_first constant_still e = e
  writer_first (inside g) e = all_writer_first g e

  all_writer_first : {ts us : Terms} → AllGrew ts us → all_variables first_of ts ≡ fails → all_variables first_of us ≡ fails
  all_writer_first no_more e = e
  all_writer_first (one_more {t = t} {u = u} {ts = ts} {us = us} g gs) e =
      go (first_of_fails (variables first_of t) (all_variables first_of ts) e) (λ i. writer_first g i) (λ i. all_writer_first gs i)
    where
      go : (variables first_of t ≡ fails) ⊎ (((given : List Assignment) × (variables first_of t ≡ succeeds given)) × (all_variables first_of ts ≡ fails))
          → (variables first_of t ≡ fails → variables first_of u ≡ fails) → (all_variables first_of ts ≡ fails → all_variables first_of us ≡ fails)
          → first_of (variables first_of u) (all_variables first_of us) ≡ fails
      go (inl i) one others = rw (one i)
      go (inr ((given, i), j)) one others =
          let same : u ≡ t = plain_stays first_of first_of_both g given i in
          rw (same, i) (others j)

module _ (constants : Constant → Bool) (compounds : Bool) where
  argument_fails_later : {ts us : Terms} → AllGrew ts us → argument_is constants compounds ts ≡ fails → argument_is constants compounds us ≡ fails
  unfolding argument_is unassigned waits_on
  argument_fails_later no_more e = e
  argument_fails_later (one_more writer_still gs) e = refl
  argument_fails_later (one_more reader_became gs) e = absurd (fails_not_waits (sym e))
  argument_fails_later (one_more constant_still gs) e = e
  argument_fails_later (one_more (inside g) gs) e = e

  argument_succeeds_later : (given : List Assignment) {ts us : Terms} → AllGrew ts us → argument_is constants compounds ts ≡ succeeds given
      → argument_is constants compounds us ≡ succeeds given
  unfolding argument_is unassigned waits_on
  argument_succeeds_later given no_more e = e
  argument_succeeds_later given (one_more writer_still gs) e = e
  argument_succeeds_later given (one_more reader_became gs) e = absurd (waits_not_succeeds e)
  argument_succeeds_later given (one_more constant_still gs) e = e
  argument_succeeds_later given (one_more (inside g) gs) e = e

module _ (earlier later : List ℕ) where
  -- A guard that fails; `otherwise` never does.
  pub answer_fails_later : (test : Test) {ts us : Terms} → AllGrew ts us → answer test earlier ts ≡ fails → answer test later us ≡ fails
  unfolding answer first_of after
  answer_fails_later an_integer g e = argument_fails_later is_integer false g e
  answer_fails_later a_constant g e = argument_fails_later (λ k. true) false g e
  answer_fails_later a_compound g e = argument_fails_later (λ k. false) true g e
  answer_fails_later known g e = argument_fails_later (λ k. true) true g e
  answer_fails_later a_ground g e = all_writer_anywhere g e
  answer_fails_later equal {ts = ts} {us = us} g e = go (first_of_fails (all_variables first_of ts) (succeeds_if (two_equal ts)) e)
    where
      go : (all_variables first_of ts ≡ fails)
          ⊎ (((given : List Assignment) × (all_variables first_of ts ≡ succeeds given)) × (succeeds_if (two_equal ts) ≡ fails))
          → first_of (all_variables first_of us) (succeeds_if (two_equal us)) ≡ fails
      go (inl i) = rw (all_writer_first g i) refl
      go (inr ((given, i), j)) =
          let same : us ≡ ts = all_plain_stay first_of first_of_both g given i in
          rw same e
  answer_fails_later otherwise g e = absurd (after_not_fails earlier e)
    where
      after_not_fails : (readers : List ℕ) → after readers ≡ fails → ⊥
      after_not_fails [] i = fails_not_succeeds (sym i)
      after_not_fails (r ∷ readers) i = fails_not_waits (sym i)

  -- A guard that succeeds: for `otherwise`, as long as no earlier clause waits that failed.
  pub answer_succeeds_later : (earlier ≡ [] → later ≡ []) → (test : Test) (given : List Assignment) {ts us : Terms} → AllGrew ts us
      → answer test earlier ts ≡ succeeds given → answer test later us ≡ succeeds given
  unfolding answer after
  answer_succeeds_later still an_integer given g e = argument_succeeds_later is_integer false given g e
  answer_succeeds_later still a_constant given g e = argument_succeeds_later (λ k. true) false given g e
  answer_succeeds_later still a_compound given g e = argument_succeeds_later (λ k. false) true given g e
  answer_succeeds_later still known given g e = argument_succeeds_later (λ k. true) true given g e
  answer_succeeds_later still a_ground given {ts = ts} {us = us} g e =
      let same : us ≡ ts = all_plain_stay and_then and_then_both g given e in
      rw same e
  answer_succeeds_later still equal given {ts = ts} {us = us} g e =
      let ((first, i), j) = first_of_succeeds (all_variables first_of ts) (succeeds_if (two_equal ts)) given e in
      let same : us ≡ ts = all_plain_stay first_of first_of_both g first i in
      rw same e
  answer_succeeds_later still otherwise given g e = go earlier refl e
    where
      go : (readers : List ℕ) → earlier ≡ readers → after readers ≡ succeeds given → after later ≡ succeeds given
      go [] i j = rw (still i) j
      go (r ∷ readers) i j = absurd (waits_not_succeeds j)

  -- Guards in order, up to the first that does not succeed: if that failed, it fails later.
  module _ (still : earlier ≡ [] → later ≡ []) (given given_later : List Assignment) (values values_later : Values) (next next_later : ℕ)
      (grew : (ts : Terms) → AllGrew (written_out given values next ts) (written_out given_later values_later next_later ts)) where
    pub guards_fail_later : (guards : List Guard) → in_order earlier given values next guards ≡ fails
        → in_order later given_later values_later next_later guards ≡ fails
    unfolding in_order first_of
    guards_fail_later [] e = absurd (fails_not_succeeds (sym e))
    guards_fail_later (g ∷ guards) e =
        go (first_of_fails (answer g.row.test earlier (written_out given values next g.arguments)) (in_order earlier given values next guards) e)
        (guards_fail_later guards)
      where
        go : (answer g.row.test earlier (written_out given values next g.arguments) ≡ fails)
            ⊎ (((first : List Assignment) × (answer g.row.test earlier (written_out given values next g.arguments) ≡ succeeds first))
            × (in_order earlier given values next guards ≡ fails))
            → (in_order earlier given values next guards ≡ fails → in_order later given_later values_later next_later guards ≡ fails)
            → first_of (answer g.row.test later (written_out given_later values_later next_later g.arguments))
            (in_order later given_later values_later next_later guards) ≡ fails
        go (inl i) others = rw (answer_fails_later g.row.test (grew g.arguments) i)
        go (inr ((first, i), j)) others =
            rw (answer_succeeds_later still g.row.test first (grew g.arguments) i) (others j)
