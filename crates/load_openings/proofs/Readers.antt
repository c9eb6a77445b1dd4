-- The definitions' readers at the tokens where the code branches: each lemma is one arm of the code.
use Prim.Native.Nat.{ℕ, ◌+◌, ◌≤◌, ◌<◌}
use mathlib.Core.Path.{◌≡◌, refl, ap, sym, ◌∙◌}
use mathlib.Core.Bool.{Bool, true, false}
use mathlib.Core.List.{List, [], ◌∷◌, ◌++◌}
use mathlib.Core.Option.{none, some}
use native.Mathlib.Omega.{arith}
use lib.Dec.{ltb}
use lib.ListN.{length, length-append}
use borrow.Author.Tests.{lt-ltb, le-ltb}
use Rattle.meaning.specs.Bytes.{Bytes, same, any, when◌then◌else◌}
use Rattle.meaning.specs.Tokens.{Tokens, ends, token}
use Rattle.meaning.specs.Items.{Counted, read, malformed, passed, begins_term, standing, count_name, place_of, new_variable, count_variable, count_compound}
use Rattle.load_names.specs.Places.{Place, spellings, with_place}
use Rattle.load_tokens.specs.Nexts.{Stops, Goes}
use Rattle.load_openings.specs.Reading.{counted_at}
use Rattle.load_names.proofs.Numbering.{place_none, place_last, spellings_append, spellings_length, with_known, with_new}

-- Counting a name, at the places so far.
count_name_known : (at : ℕ) (f : Bytes) (known vars : List Place) (k : ℕ) (ts : Tokens) → any (same f) (spellings known) ≡ true
    → count_name f (counted_at known vars k) ts ≡ read tt (counted_at (with_place at f known) vars k) ts
unfolding count_name counted_at when◌then◌else◌
count_name_known at f known vars k ts e = rw (e, with_known at f known e)

count_name_new : (at : ℕ) (f : Bytes) (known vars : List Place) (k : ℕ) (ts : Tokens) → any (same f) (spellings known) ≡ false
    → length known < 256 → count_name f (counted_at known vars k) ts ≡ read tt (counted_at (with_place at f known) vars k) ts
unfolding count_name counted_at when◌then◌else◌ spellings
count_name_new at f known vars k ts e few =
    let l : ltb (length (spellings known)) 256 ≡ true = lt-ltb (length (spellings known)) 256 (omega (arith, spellings_length known)) in
    rw (e, l, with_new at f known e, spellings_append known (record { at = at; spelling = f } ∷ []))

count_name_by : (at : ℕ) (f : Bytes) (known vars : List Place) (k : ℕ) (ts : Tokens) (b : Bool) → any (same f) (spellings known) ≡ b
    → length (with_place at f known) ≤ 256
    → count_name f (counted_at known vars k) ts ≡ read tt (counted_at (with_place at f known) vars k) ts
count_name_by at f known vars k ts true e few = count_name_known at f known vars k ts e
count_name_by at f known vars k ts false e few =
    let l : length (known ++ (record { at = at; spelling = f } ∷ [])) ≤ 256 = rw (with_new at f known e) at few in
    count_name_new at f known vars k ts e (omega (arith, length-append known (record { at = at; spelling = f } ∷ [])))

pub count_name_with : (at : ℕ) (f : Bytes) (known vars : List Place) (k : ℕ) (ts : Tokens) → length (with_place at f known) ≤ 256
    → count_name f (counted_at known vars k) ts ≡ read tt (counted_at (with_place at f known) vars k) ts
count_name_with at f known vars k ts few = count_name_by at f known vars k ts (any (same f) (spellings known)) refl few

pub count_name_passed : (f : Bytes) (known vars : List Place) (k : ℕ) (ts : Tokens) → any (same f) (spellings known) ≡ false
    → 256 ≤ length known → count_name f (counted_at known vars k) ts ≡ passed
unfolding count_name counted_at when◌then◌else◌
count_name_passed f known vars k ts e many =
    let l : ltb (length (spellings known)) 256 ≡ false = le-ltb (length (spellings known)) 256 (omega (arith, spellings_length known)) in
    rw (e, l)

-- Counting a variable likewise: its number is its place.
variable_known : (at : ℕ) (x : Bytes) (known vars : List Place) (k n : ℕ) (ts : Tokens) → any (same x) (spellings vars) ≡ true
    → place_of x (spellings (with_place at x vars)) ≡ some n
    → count_variable x (counted_at known vars k) ts ≡ read n (counted_at known (with_place at x vars) k) ts
unfolding count_variable new_variable counted_at
variable_known at x known vars k n ts e p =
    let same_places = with_known at x vars e in
    let here : place_of x (spellings vars) ≡ some n = rw same_places at p in
    rw (here, same_places)

variable_new : (at : ℕ) (x : Bytes) (known vars : List Place) (k n : ℕ) (ts : Tokens) → any (same x) (spellings vars) ≡ false
    → length vars < 16 → place_of x (spellings (with_place at x vars)) ≡ some n
    → count_variable x (counted_at known vars k) ts ≡ read n (counted_at known (with_place at x vars) k) ts
unfolding count_variable new_variable counted_at when◌then◌else◌ spellings
variable_new at x known vars k n ts e few p =
    let one : List Place = record { at = at; spelling = x } ∷ [] in
    let l : ltb (length (spellings vars)) 16 ≡ true = lt-ltb (length (spellings vars)) 16 (omega (arith, spellings_length vars)) in
    let nowhere : place_of x (spellings vars) ≡ none = place_none x (spellings vars) e in
    let last : place_of x (spellings vars ++ (x ∷ [])) ≡ some (length (spellings vars)) = place_last x (spellings vars) e in
    let grown : spellings (with_place at x vars) ≡ spellings vars ++ (x ∷ []) = ap spellings (with_new at x vars e) ∙ spellings_append vars one in
    let here : place_of x (spellings vars ++ (x ∷ [])) ≡ some n = ap (place_of x) (sym grown) ∙ p in
    let number : length (spellings vars) ≡ n = cc in
    rw (nowhere, l, number, grown)

variable_by : (at : ℕ) (x : Bytes) (known vars : List Place) (k n : ℕ) (ts : Tokens) (b : Bool) → any (same x) (spellings vars) ≡ b
    → length (with_place at x vars) ≤ 16 → place_of x (spellings (with_place at x vars)) ≡ some n
    → count_variable x (counted_at known vars k) ts ≡ read n (counted_at known (with_place at x vars) k) ts
variable_by at x known vars k n ts true e few p = variable_known at x known vars k n ts e p
variable_by at x known vars k n ts false e few p =
    let one : List Place = record { at = at; spelling = x } ∷ [] in
    let l : length (vars ++ one) ≤ 16 = rw (with_new at x vars e) at few in
    variable_new at x known vars k n ts e (omega (arith, length-append vars one)) p

pub count_variable_with : (at : ℕ) (x : Bytes) (known vars : List Place) (k n : ℕ) (ts : Tokens) → length (with_place at x vars) ≤ 16
    → place_of x (spellings (with_place at x vars)) ≡ some n
    → count_variable x (counted_at known vars k) ts ≡ read n (counted_at known (with_place at x vars) k) ts
count_variable_with at x known vars k n ts few p = variable_by at x known vars k n ts (any (same x) (spellings vars)) refl few p

pub count_variable_passed : (x : Bytes) (known vars : List Place) (k : ℕ) (ts : Tokens) → any (same x) (spellings vars) ≡ false
    → 16 ≤ length vars → count_variable x (counted_at known vars k) ts ≡ passed
unfolding count_variable new_variable counted_at when◌then◌else◌
count_variable_passed x known vars k ts e many =
    let l : ltb (length (spellings vars)) 16 ≡ false = le-ltb (length (spellings vars)) 16 (omega (arith, spellings_length vars)) in
    rw (place_none x (spellings vars) e, l)

-- Counting a compound.
pub count_compound_with : (known vars : List Place) (k : ℕ) (ts : Tokens) → k < 32
    → count_compound (counted_at known vars k) ts ≡ read k (counted_at known vars (k + 1)) ts
unfolding count_compound counted_at when◌then◌else◌
count_compound_with known vars k ts few = rw (lt-ltb k 32 few)

pub count_compound_passed : (known vars : List Place) (k : ℕ) (ts : Tokens) → 32 ≤ k → count_compound (counted_at known vars k) ts ≡ passed
unfolding count_compound counted_at when◌then◌else◌
count_compound_passed known vars k ts many = rw (le-ltb k 32 many)

-- What can begin a term, and what cannot.
pub standing_goes : (counted : Counted) (ts : Tokens) → Goes begins_term ts → standing begins_term counted ts ≡ read tt counted ts
unfolding standing when◌then◌else◌
standing_goes counted (ends p) h = absurd h
standing_goes counted (token p t ts) h = rw h

pub standing_stops : (place : ℕ) (counted : Counted) (ts : Tokens) → Stops begins_term place ts → standing begins_term counted ts ≡ malformed place
unfolding standing when◌then◌else◌
standing_stops place counted (ends p) h = ap malformed h
standing_stops place counted (token p t ts) h = rw h.1 (ap malformed h.0)
