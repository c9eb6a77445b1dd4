-- The law of each reader of an item: each half of each variable occurs among the tokens passed as often as in the term or goals read.
-- Each law is put together like the reader itself; a term is read by induction on how many more brackets may open inside it.
use Prim.Native.Nat.{ℕ, zero, suc}
use mathlib.Core.Path.{◌≡◌, refl}
use mathlib.Core.Bool.{Bool, true, false}
use mathlib.Core.List.{List, [], ◌∷◌}
use native.Mathlib.Omega.{arith}
use lib.Dec.{eqb}
use Rattle.meaning.specs.Bytes.{Bytes, byte, when◌then◌else◌}
use Rattle.meaning.specs.Terms.{
  Half,
  Constant,
  empty,
  cell,
  Term,
  Terms,
  compound,
  end,
  more,
  Named,
  occurrences,
  all_occurrences,
  goals_occurrences,
  as_term,
}
use Rattle.meaning.specs.Tokens.{Token, name, variable, integer, sign, bad}
use Rattle.meaning.specs.Faults.{is_half}
use Rattle.meaning.specs.Items.{
  Reader,
  ◌>>=◌,
  give,
  passes,
  is,
  is_name,
  begins_term,
  arguments,
  compound_of,
  tail_of,
  elements,
  list_of,
  term_from,
  term,
  goal_from,
  goal,
  goals,
}
use Rattle.laws.proofs.Reading.Passed.{
  cut_behind,
  Mark,
  before_stop,
  behind_stop,
  never,
  Counts,
  CountsBehind,
  give_counts,
  passes_counts,
  if_counts,
  then_counts,
  behind_counts,
  over_token,
  cannot_stand_behind,
  if_behind,
  next_counts,
  if_next_counts,
  after,
}
use Rattle.laws.proofs.Reading.Taken.{
  standing_counts,
  count_name_counts,
  count_compound_counts,
  taken,
  expect_counts,
  either_counts,
  stop_unless,
  either_stop_counts,
  term_often,
  variable_counts,
}

abbrev pub terms_often : Terms → Mark
terms_often ts = before_stop (λ h n. all_occurrences h n ts)

abbrev pub goal_often : Named → Mark
goal_often g = before_stop (λ h n. all_occurrences h n g.arguments)

abbrev pub goals_often : List Named → Mark
goals_often gs = behind_stop (λ h n. goals_occurrences h n gs)

-- A reader of terms counts from nothing.
abbrev pub OfTerms : Reader Term → Type 0
OfTerms r = Counts (before_stop never) term_often r

constant_counts : (k : Constant) → OfTerms (give (Term.constant k))
unfolding occurrences
constant_counts k = give_counts (Term.constant k) (λ s h. h) (λ h n. refl)

module _ (argument : Reader Term) (counts : OfTerms argument) where
  pub arguments_counts : (left : ℕ) → Counts (before_stop never) terms_often (arguments argument left)
  unfolding arguments all_occurrences byte
  arguments_counts zero = behind_counts (standing_counts begins_term) (λ u. passes_counts)
  arguments_counts (suc left) =
      then_counts counts (λ t.
      then_counts (either_counts "," ")" refl refl) (λ another.
      if_counts another
      (λ e. then_counts (after (λ h n. occurrences h n t) (arguments_counts left)) (λ ts. give_counts (more t ts) (λ s h. h) (λ h n. refl)))
      (λ e. give_counts (more t end) (λ s h. h) (λ h n. omega arith))))

  pub compound_of_counts : (f : Bytes) → Counts (before_stop never) goal_often (compound_of argument f)
  unfolding compound_of
  compound_of_counts f =
      then_counts count_compound_counts (λ n.
      then_counts (arguments_counts 6) (λ ts.
      give_counts (record { number = n; name = f; arguments = ts }) (λ s h. h) (λ h n. refl)))

  tail_of_counts : (elements : Reader Term) → OfTerms elements → (place : ℕ) (t : Token)
      → CountsBehind (before_stop never) term_often t (tail_of argument elements place t)
  unfolding tail_of byte
  tail_of_counts elements others place t =
      if_behind (is "," t) t (λ e. taken "," t refl e others)
      (λ e. if_behind (is "|" t) t
      (λ e. taken "|" t refl e (then_counts counts (λ tail. behind_counts (expect_counts "]" refl) (λ u. give_counts tail (λ s h. h) (λ h n. refl)))))
      (λ e. if_behind (is "]" t) t (λ e. taken "]" t refl e (constant_counts empty)) (λ e. cannot_stand_behind place t)))

  elements_counts : (left : ℕ) → OfTerms (elements argument left)
  unfolding elements occurrences all_occurrences
  elements_counts zero = behind_counts (standing_counts begins_term) (λ u. passes_counts)
  elements_counts (suc left) =
      behind_counts (standing_counts begins_term) (λ u.
      then_counts count_compound_counts (λ n.
      then_counts counts (λ t.
      then_counts (after (λ h n. occurrences h n t) (next_counts (λ place s. tail_of_counts (elements argument left) (elements_counts left) place s))) (λ tail.
      give_counts (compound n cell (more t (more tail end))) (λ s h. h) (λ h n. omega arith)))))

  list_of_counts : OfTerms (list_of argument)
  unfolding list_of byte
  list_of_counts = if_next_counts "]" (λ t e. taken "]" t refl e (constant_counts empty)) (elements_counts 32)

-- A first token that is no variable.
behind_other : {A : Type 0} {f : Half → ℕ → ℕ} {to : A → Mark} {r : Reader A} (t : Token) → ((h : Half) (x : Bytes) → is_half h x t ≡ false)
    → is ":" t ≡ false → Counts (before_stop f) to r → CountsBehind (before_stop f) to t r
behind_other t none_here unimplied counts = over_token false t none_here unimplied (λ place s h. cut_behind place t s h) counts

module _ (round : Bytes → Reader Term) (square : Reader Term) (rounds : (f : Bytes) → OfTerms (round f)) (squares : OfTerms square) where
  term_from_counts : (place : ℕ) (t : Token) → CountsBehind (before_stop never) term_often t (term_from round square place t)
  unfolding term_from is_half is byte
  term_from_counts place (name f) =
      behind_other (name f) (λ h x. refl) refl (behind_counts (count_name_counts f) (λ u.
      if_next_counts "(" (λ t e. taken "(" t refl e (rounds f)) (constant_counts (Constant.name f))))
  term_from_counts place (variable h x) = variable_counts h x
  term_from_counts place (integer i) = behind_other (integer i) (λ h x. refl) refl (constant_counts (Constant.integer i))
  term_from_counts place (sign b) =
      if_behind (eqb b (byte "[")) (sign b) (λ e. taken "[" (sign b) refl e squares) (λ e. cannot_stand_behind place (sign b))
  term_from_counts place bad = cannot_stand_behind place bad

-- A term's variables, one by one.
pub term_counts : (left : ℕ) → OfTerms (term left)
unfolding term as_term occurrences
term_counts zero = next_counts (λ place t. term_from_counts (λ f. passes) passes (λ f. passes_counts) passes_counts place t)
term_counts (suc left) =
    next_counts (λ place t.
    term_from_counts (λ f. compound_of (term left) f >>= λ g. give (as_term g)) (list_of (term left))
    (λ f. then_counts (compound_of_counts (term left) (term_counts left) f) (λ g. give_counts (as_term g) (λ s h. h) (λ h n. refl)))
    (list_of_counts (term left) (term_counts left)) place t)

goal_from_counts : (place : ℕ) (t : Token) → CountsBehind (before_stop never) goal_often t (goal_from place t)
unfolding goal_from is_half is byte
goal_from_counts place (name f) =
    behind_other (name f) (λ h x. refl) refl (behind_counts (count_name_counts f) (λ u.
    behind_counts (expect_counts "(" refl) (λ u. compound_of_counts (term 15) (term_counts 15) f)))
goal_from_counts place (variable h x) = cannot_stand_behind place (variable h x)
goal_from_counts place (integer i) = cannot_stand_behind place (integer i)
goal_from_counts place (sign b) = cannot_stand_behind place (sign b)
goal_from_counts place bad = cannot_stand_behind place bad

pub goal_counts : Counts (before_stop never) goal_often goal
unfolding goal
goal_counts = next_counts goal_from_counts

-- Goals up to their full stop.
pub goals_counts : (left : ℕ) → Counts (before_stop never) goals_often (goals left)
unfolding goals goals_occurrences when◌then◌else◌ byte
goals_counts zero = behind_counts (standing_counts is_name) (λ u. passes_counts)
goals_counts (suc left) = then_counts goal_counts (λ g. then_counts (either_stop_counts "," refl) (λ another. go g another (goals_counts left)))
  where
    go : (g : Named) (another : Bool) → Counts (before_stop never) goals_often (goals left)
        → Counts (stop_unless (λ h n. all_occurrences h n g.arguments) another) goals_often
        (when another then (goals left >>= λ gs. give (g ∷ gs)) else give (g ∷ []))
    go g true others =
        then_counts (after (λ h n. all_occurrences h n g.arguments) others) (λ gs. give_counts (g ∷ gs) (λ s h. h) (λ h n. refl))
    go g false others = give_counts (g ∷ []) (λ s h. h) (λ h n. omega arith)
