-- What the definitions' small readers leave: signs that are taken, names, variables and compounds that are counted.
use Prim.Native.Nat.{ℕ, suc, ◌+◌}
use Prim.Native.Char.{Char}
use mathlib.Core.Path.{◌≡◌, refl}
use mathlib.Core.Bool.{Bool, true, false, ◌||◌}
use mathlib.Core.List.{List, [], ◌∷◌, ◌++◌}
use mathlib.Core.Option.{Option, none, some}
use native.Mathlib.Omega.{arith}
use lib.Dec.{ltb}
use lib.ListN.{length, length-append}
use borrow.Author.Tests.{ltb-true}
use Rattle.meaning.specs.Bytes.{Bytes, same, any, when◌then◌else◌}
use Rattle.meaning.specs.Tokens.{Token, Tokens, ends, token}
use Rattle.meaning.specs.Items.{
  Counted,
  read,
  malformed,
  passed,
  give,
  cannot_stand,
  next,
  is,
  standing,
  expect,
  either,
  count_name,
  place_of,
  new_variable,
  count_variable,
  count_compound,
}
use Rattle.term.specs.Cells.{KnownName}
use Rattle.term.proofs.Names.{known_name_more}
use Rattle.term.proofs.Numbers.{same_refl}
use Rattle.load_image.proofs.Steps.{added, Ends, Cut, Onward, Good, Steps, StepsFrom, onward_same, onward_sign}

-- The small readers.
module _ (c : Counted) (ts : Tokens) where
  pub standing_steps : (can : Token → Bool) → StepsFrom c ts (λ d s u. d ≡ c) (standing can)
  unfolding standing when◌then◌else◌ Good
  standing_steps can = record { go = by ts }
    where
      test : (place : ℕ) (t : Token) (s : Tokens) → Cut (token place t s) → (b : Bool)
          → Good (λ a d u. Onward c.names c.variables c (token place t s) d u × (d ≡ c)) (when b then read (tt {0}) c (token place t s) else malformed place)
      test place t s cut true = (onward_same c (token place t s) cut, refl)
      test place t s cut false = tt

      by : (ts : Tokens) → Cut ts → Good (λ a d s. Onward c.names c.variables c ts d s × (d ≡ c)) (standing can c ts)
      by (ends place) cut = tt
      by (token place t s) cut = test place t s cut (can t)

  pub expect_steps : (ch : Char) → StepsFrom c ts (λ d s u. d ≡ c) (expect ch)
  unfolding expect next give cannot_stand when◌then◌else◌ Good Cut
  expect_steps ch = record { go = by ts }
    where
      test : (place : ℕ) (t : Token) (s : Tokens) → Cut (token place t s) → (b : Bool) → is ch t ≡ b
          → Good (λ a d u. Onward c.names c.variables c (token place t s) d u × (d ≡ c)) ((when b then give (tt {0}) else cannot_stand place) c s)
      test place t s cut true h = (onward_sign ch c place t s h cut.1, refl)
      test place t s cut false h = tt

      by : (ts : Tokens) → Cut ts → Good (λ a d s. Onward c.names c.variables c ts d s × (d ≡ c)) (expect ch c ts)
      by (ends place) cut = tt
      by (token place t s) cut = test place t s cut (is ch t) refl

  -- Behind a full stop nothing comes.
  pub either_steps : (ch dh : Char)
      → StepsFrom c ts (λ d s b. (d ≡ c) × (b ≡ false → ((t : Token) → is dh t ≡ true → is "." t ≡ true) → Ends s)) (either ch dh)
  unfolding either next give cannot_stand when◌then◌else◌ Good Cut
  either_steps ch dh = record { go = by ts }
    where
      Q : Tokens → Bool → Counted → Tokens → Type 0
      Q ts b d u =
          Onward c.names c.variables c ts d u × ((d ≡ c) × (b ≡ false → ((t : Token) → is dh t ≡ true → is "." t ≡ true) → Ends u))

      second : (place : ℕ) (t : Token) (s : Tokens) → Cut (token place t s) → (b : Bool) → is dh t ≡ b
          → Good (Q (token place t s)) ((when b then give false else cannot_stand place) c s)
      second place t s cut true h = (onward_sign dh c place t s h cut.1, (refl, λ e stop. cut.0 (stop t h)))
      second place t s cut false h = tt

      test : (place : ℕ) (t : Token) (s : Tokens) → Cut (token place t s) → (b : Bool) → is ch t ≡ b
          → Good (Q (token place t s)) ((when b then give true else when is dh t then give false else cannot_stand place) c s)
      test place t s cut true h = (onward_sign ch c place t s h cut.1, (refl, λ e stop. let z : ◌≡◌ {A = ℕ} 0 1 = cc in absurd (omega arith)))
      test place t s cut false h = second place t s cut (is dh t) refl

      by : (ts : Tokens) → Cut ts → Good (Q ts) (either ch dh c ts)
      by (ends place) cut = tt
      by (token place t s) cut = test place t s cut (is ch t) refl

  -- A compound's number is its place.
  pub count_compound_steps : StepsFrom c ts (λ d s n. (n ≡ c.compounds) × (d.compounds ≡ c.compounds + 1)) count_compound
  unfolding count_compound when◌then◌else◌ Good
  count_compound_steps = record { go = λ cut. by cut (ltb c.compounds 32) refl }
    where
      by : Cut ts → (b : Bool) → ltb c.compounds 32 ≡ b
          → Good (λ n d s. Onward c.names c.variables c ts d s × ((n ≡ c.compounds) × (d.compounds ≡ c.compounds + 1)))
          (when b then read c.compounds (record { names = c.names; variables = c.variables; compounds = c.compounds + 1 }) ts else passed)
      by cut true h = (
        record {
          names = refl;
          variables = refl;
          order = omega arith;
          few_compounds = λ l. omega (arith, ltb-true c.compounds 32 h);
          few_variables = λ l. l;
          few_names = λ l. l;
          wider = λ f l. l;
          cut = cut;
        },
        (refl, refl),
      )
      by cut false h = tt

-- A name is known once it is counted.
known_last : (f : Bytes) (known : List Bytes) → any (same f) (known ++ (f ∷ [])) ≡ true
unfolding any
known_last f [] = rw (same_refl f)
known_last f (g ∷ known) = rw (known_last f known) (or_true (same f g))
  where
    or_true : (b : Bool) → (b || true) ≡ true
    or_true true = refl
    or_true false = refl

module _ (f : Bytes) (c : Counted) (ts : Tokens) where
  pub count_name_steps : Steps (added f c.names) c.variables c ts (λ d s u. KnownName d.names f × (d.compounds ≡ c.compounds)) (count_name f)
  unfolding count_name added when◌then◌else◌ Good
  count_name_steps = record { go = λ cut. known cut (any (same f) c.names) refl }
    where
      Q : List Bytes → Unit {0} → Counted → Tokens → Type 0
      Q names u d s = Onward names c.variables c ts d s × (KnownName d.names f × (d.compounds ≡ c.compounds))

      more : Counted
      more = record { names = c.names ++ (f ∷ []); variables = c.variables; compounds = c.compounds }

      room : Cut ts → any (same f) c.names ≡ false → (b : Bool) → ltb (length c.names) 256 ≡ b
          → Good (Q (c.names ++ (f ∷ []))) (when b then read (tt {0}) more ts else passed)
      room cut e true h = (
        record {
          names = refl;
          variables = refl;
          order = omega arith;
          few_compounds = λ l. l;
          few_variables = λ l. l;
          few_names = λ l. omega (arith, ltb-true (length c.names) 256 h, length-append c.names (f ∷ []));
          wider = λ g l. known_name_more g c.names (f ∷ []) l;
          cut = cut;
        },
        (known_last f c.names, refl),
      )
      room cut e false h = tt

      known : Cut ts → (b : Bool) → any (same f) c.names ≡ b
          → Good (Q (when b then c.names else c.names ++ (f ∷ [])))
          (when b then read (tt {0}) c ts else when ltb (length c.names) 256 then read (tt {0}) more ts else passed)
      known cut true e = (onward_same c ts cut, (e, refl))
      known cut false e = room cut e (ltb (length c.names) 256) refl

-- A variable has a place among those counted exactly if it is one of them.
is_some : Option ℕ → Bool
is_some none = false
is_some (some n) = true

place_step : (b a : Bool) (o : Option ℕ) → a ≡ is_some o
    → (b || a) ≡ is_some (elim b [ true ↦ some 0 | false ↦ elim o [ none ↦ none | some n ↦ some (suc n) ] ])
unfolding is_some
place_step true a o h = refl
place_step false a none h = h
place_step false a (some n) h = h

place_any : (x : Bytes) (known : List Bytes) → any (same x) known ≡ is_some (place_of x known)
unfolding any place_of is_some
place_any x [] = refl
place_any x (y ∷ known) = place_step (same x y) (any (same x) known) (place_of x known) (place_any x known)

module _ (x : Bytes) (c : Counted) (ts : Tokens) where
  pub count_variable_steps : Steps c.names (added x c.variables) c ts (λ d s n. d.compounds ≡ c.compounds) (count_variable x)
  unfolding count_variable new_variable added when◌then◌else◌ Good is_some
  count_variable_steps =
      record { go = λ cut. known cut (place_of x c.variables) (any (same x) c.variables) refl (place_any x c.variables) }
    where
      Q : List Bytes → ℕ → Counted → Tokens → Type 0
      Q variables n d s = Onward c.names variables c ts d s × (d.compounds ≡ c.compounds)

      more : Counted
      more = record { names = c.names; variables = c.variables ++ (x ∷ []); compounds = c.compounds }

      room : Cut ts → (b : Bool) → ltb (length c.variables) 16 ≡ b
          → Good (Q (c.variables ++ (x ∷ []))) (when b then read (length c.variables) more ts else passed)
      room cut true h = (
        record {
          names = refl;
          variables = refl;
          order = omega arith;
          few_compounds = λ l. l;
          few_variables = λ l. omega (arith, ltb-true (length c.variables) 16 h, length-append c.variables (x ∷ []));
          few_names = λ l. l;
          wider = λ g l. l;
          cut = cut;
        },
        refl,
      )
      room cut false h = tt

      known : Cut ts → (o : Option ℕ) (b : Bool) → any (same x) c.variables ≡ b → any (same x) c.variables ≡ is_some o
          → Good (Q (when b then c.variables else c.variables ++ (x ∷ []))) (new_variable x o c ts)
      known cut (some n) true e h = (onward_same c ts cut, refl)
      known cut none false e h = room cut (ltb (length c.variables) 16) refl
      known cut (some n) false e h = let z : ◌≡◌ {A = ℕ} 0 1 = cc in absurd (omega arith)
      known cut none true e h = let z : ◌≡◌ {A = ℕ} 0 1 = cc in absurd (omega arith)
