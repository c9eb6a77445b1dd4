-- Runs and remarks, a byte at a time: a byte that belongs to one moves its beginning and not its end, and any other byte is its end.
-- A run is the part of the text up to its end.
use Prim.Native.Nat.{ℕ, suc, ◌+◌, ◌≤◌, ◌<◌}
use mathlib.Core.Path.{◌≡◌, refl, sym, ap, ◌∙◌}
use mathlib.Core.Bool.{Bool, true, false, cond}
use mathlib.Core.List.{[], ◌∷◌}
use native.Mathlib.Omega.{arith}
use lib.Dec.{eqb}
use lib.ListN.{length, take, drop, get_or, length-drop}
use lib.Seq.{drop-length, slice}
use Rattle.meaning.specs.Bytes.{Bytes, byte}
use Rattle.meaning.specs.Tokens.{digit, in_run, run, remark}
use Rattle.load_tokens.specs.Ends.{end_of_run, end_of_remark}
use Rattle.std.specs.List.{prefix_len}
use Rattle.std.proofs.lemmas.List.Recursion.{same_from_clauses}
use Rattle.load_tokens.proofs.Parts.{drop_next, slice_next, take_drop}

run_in : (c : ℕ) (cs : Bytes) → in_run c ≡ true → run (c ∷ cs) ≡ c ∷ run cs
unfolding run
run_in c cs e = rw (e, run)

run_out : (c : ℕ) (cs : Bytes) → in_run c ≡ false → run (c ∷ cs) ≡ []
unfolding run
run_out c cs e = rw (e, run)

remark_in : (c : ℕ) (cs : Bytes) → eqb c (byte "\n") ≡ false → remark (c ∷ cs) ≡ suc (remark cs)
unfolding remark
remark_in c cs e = rw (e, remark)

remark_out : (c : ℕ) (cs : Bytes) → eqb c (byte "\n") ≡ true → remark (c ∷ cs) ≡ 0
unfolding remark
remark_out c cs e = rw (e, remark)

module _ (rest : Bytes) (i : ℕ) (h : i < length rest) where
  pub remark_goes_on : eqb (get_or rest i 0) (byte "\n") ≡ false → end_of_remark rest i ≡ end_of_remark rest (i + 1)
  remark_goes_on e = rw (drop_next rest i h, remark_in (get_or rest i 0) (drop (i + 1) rest) e) (omega arith)

  pub remark_stops : eqb (get_or rest i 0) (byte "\n") ≡ true → end_of_remark rest i ≡ i
  remark_stops e = rw (drop_next rest i h, remark_out (get_or rest i 0) (drop (i + 1) rest) e) (omega arith)

pub remark_at_end : (rest : Bytes) → end_of_remark rest (length rest) ≡ length rest
unfolding remark
remark_at_end rest = rw (drop-length rest) (omega arith)

-- As the library counts a run.
run_step : (c : ℕ) (cs : Bytes) (b : Bool) → in_run c ≡ b → length (run (c ∷ cs)) ≡ cond b (1 + length (run cs)) 0
run_step c cs true e = rw (run_in c cs e) (omega arith)
run_step c cs false e = rw (run_out c cs e)

pub run_counted : (cs : Bytes) → length (run cs) ≡ prefix_len in_run cs
unfolding run
run_counted = same_from_clauses (λ cs. length (run cs)) (prefix_len in_run) (λ c n. cond (in_run c) (1 + n) 0) refl (λ c cs. run_step c cs (in_run c) refl) (λ c cs. refl)

-- A run is as many of the first bytes as it has.
first_bytes : (c : ℕ) (cs : Bytes) → run cs ≡ take (length (run cs)) cs → (b : Bool) → in_run c ≡ b → run (c ∷ cs) ≡ take (length (run (c ∷ cs))) (c ∷ cs)
first_bytes c cs ih true e = rw (run_in c cs e) (ap (λ l. c ∷ l) ih)
first_bytes c cs ih false e = rw (run_out c cs e)

run_take : (cs : Bytes) → run cs ≡ take (length (run cs)) cs
unfolding run
run_take [] = refl
run_take (c ∷ cs) = first_bytes c cs (run_take cs) (in_run c) refl

pub run_part : (rest : Bytes) (i : ℕ) → run (drop i rest) ≡ slice i (end_of_run rest i) rest
run_part rest i = run_take (drop i rest) ∙ take_drop i (length (run (drop i rest))) rest

fewer_than : (c : ℕ) (cs : Bytes) → length (run cs) ≤ length cs → (b : Bool) → in_run c ≡ b → length (run (c ∷ cs)) ≤ suc (length cs)
fewer_than c cs ih true e = rw (run_in c cs e) (omega arith)
fewer_than c cs ih false e = rw (run_out c cs e) (omega arith)

run_length : (cs : Bytes) → length (run cs) ≤ length cs
unfolding run
run_length [] = omega arith
run_length (c ∷ cs) = fewer_than c cs (run_length cs) (in_run c) refl

pub run_inside : (rest : Bytes) (i : ℕ) → i ≤ length rest → end_of_run rest i ≤ length rest
run_inside rest i h = omega (arith, run_length (drop i rest), length-drop i rest)

-- A run behind a digit.
digit_in_run : (c : ℕ) → digit c ≡ true → in_run c ≡ true
unfolding in_run digit
digit_in_run c d = rw d

pub run_of_digit : (rest : Bytes) (i : ℕ) → i < length rest → digit (get_or rest i 0) ≡ true → run (drop i rest) ≡ get_or rest i 0 ∷ run (drop (i + 1) rest)
run_of_digit rest i h d = rw (drop_next rest i h) (run_in (get_or rest i 0) (drop (i + 1) rest) (digit_in_run (get_or rest i 0) d))

-- A run with the byte that leads it.
module _ (rest : Bytes) (a e : ℕ) (h : a < length rest) (q : e ≡ end_of_run rest (a + 1)) where
  pub led_inside : e ≤ length rest
  led_inside = rw q (run_inside rest (a + 1) (omega arith))

  pub led : slice a e rest ≡ get_or rest a 0 ∷ run (drop (a + 1) rest)
  led =
      let before : a < e = omega arith in
      slice_next a e rest before led_inside ∙ rw q (ap (λ l. get_or rest a 0 ∷ l) (sym (run_part rest (a + 1))))
