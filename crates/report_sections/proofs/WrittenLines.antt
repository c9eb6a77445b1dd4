-- The `NAME = value` lines in the section's whole order, one more behind so many.
use Prim.Native.Nat.{ℕ, suc, ◌+◌, ◌<◌}
use mathlib.Core.Path.{◌≡◌, refl, sym, ap, ◌∙◌}
use mathlib.Core.List.{List, [], ◌∷◌, ◌++◌, append_assoc, append-nil}
use native.Mathlib.Numerals.{add-one}
use native.Mathlib.Omega.{arith}
use lib.ListN.{length, get_or, take, drop, length-take, length-append, take-append-drop}
use lib.Seq.{take-suc}
use Rattle.meaning.specs.Bytes.{Bytes, bytes}
use Rattle.meaning.specs.Terms.{writer, Term}
use Rattle.meaning.specs.State.{Values}
use Rattle.meaning.specs.Report.{alone, written}
use Rattle.report_pairs.specs.Threaded.{full, written_values}
use Rattle.report_pairs.specs.Laid.{Puts}
use Rattle.term.specs.Setting.{Setting}
use Rattle.report_leaves.specs.Fits.{Fits}
use Rattle.report_leaves.proofs.Copying.{fits_front, fits_behind, fits_as}

pub written_values_append : (values : Values) (order : List ℕ) (xs ys : List Bytes) (p : ℕ)
    → written_values values order p (xs ++ ys) ≡ written_values values order p xs ++ written_values values order (p + length xs) ys
unfolding written_values
written_values_append values order [] ys p =
    let none : p + 0 ≡ p = omega arith in ap (λ (n : ℕ). written_values values order n ys) (sym none)
written_values_append values order (x ∷ xs) ys p =
    let line = (x ++ bytes " = ") ++ (written order alone (full values (Term.variable writer p)) ++ bytes "\n") in
    let next : suc p + length xs ≡ p + suc (length xs) = omega arith in
    ap (◌++◌ line) (written_values_append values order xs ys (suc p))
    ∙ ap (λ (n : ℕ). line ++ (written_values values order (suc p) xs ++ written_values values order n ys)) next
    ∙ sym (append_assoc line (written_values values order (suc p) xs) (written_values values order (p + suc (length xs)) ys))

module _ (values : Values) (order : List ℕ) (xs : List Bytes) (v : ℕ) (h : v < length xs) where
  abbrev pub value_line : Bytes
  value_line = (get_or xs v [] ++ bytes " = ") ++ (written order alone (full values (Term.variable writer v)) ++ bytes "\n")

  last_line : (p : ℕ) → written_values values order p (get_or xs v [] ∷ [])
      ≡ (get_or xs v [] ++ bytes " = ") ++ (written order alone (full values (Term.variable writer p)) ++ bytes "\n")
  unfolding written_values
  last_line p = append-nil _

  pub values_more : written_values values order 0 (take v xs) ++ value_line ≡ written_values values order 0 (take (v + 1) xs)
  values_more =
      let place : 0 + length (take v xs) ≡ v = simp length-take (omega arith) in
      sym (ap (written_values values order 0) (ap (λ (n : ℕ). take n xs) (add-one v) ∙ take-suc xs v [] h)
      ∙ written_values_append values order (take v xs) (get_or xs v [] ∷ []) 0
      ∙ ap (λ (p : ℕ). written_values values order 0 (take v xs) ++ written_values values order p (get_or xs v [] ∷ [])) place
      ∙ ap (◌++◌ (written_values values order 0 (take v xs))) (last_line v))

  -- The lines before this one, this one, and those behind it.
  pub others : Bytes
  others = written_values values order (0 + length (take (v + 1) xs)) (drop (v + 1) xs)

  pub values_split : written_values values order 0 xs ≡ written_values values order 0 (take v xs) ++ (value_line ++ others)
  unfolding others
  values_split =
      ap (written_values values order 0) (sym (take-append-drop (v + 1) xs))
      ∙ written_values_append values order (take (v + 1) xs) (drop (v + 1) xs) 0
      ∙ ap (λ (l : Bytes). l ++ others) (sym values_more)
      ∙ append_assoc (written_values values order 0 (take v xs)) value_line others

  -- So this one fits where those before it were put.
  pub value_fits : {s : List ℕ} {x : Setting} {facts at to : ℕ} {b b' : List ℕ} → Fits s x facts order at b (written_values values order 0 xs)
      → Puts b b' at to (written_values values order 0 (take v xs)) → Fits s x facts order to b' value_line
  value_fits F p =
      fits_front value_line others (fits_behind (written_values values order 0 (take v xs)) (value_line ++ others) (fits_as values_split F) p)

  pub value_line_size : length value_line ≡ length (get_or xs v []) + 3 + length (written order alone (full values (Term.variable writer v))) + 1
  unfolding bytes
  value_line_size = simp length-append (omega arith)

pub no_values_written : (values : Values) (order : List ℕ) (xs : List Bytes) → [] ≡ written_values values order 0 (take 0 xs)
unfolding written_values
no_values_written values order xs = refl

-- There is room for a line's end.
pub line_room : {s : List ℕ} {x : Setting} {facts : ℕ} {order : List ℕ} {at : ℕ} {b : List ℕ} → Fits s x facts order at b (bytes "\n") → at < length b
unfolding bytes
line_room F = omega (arith, F.room)
