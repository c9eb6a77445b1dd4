-- The table of guards: the rows of the code's table are those of the definitions', and what searching for a row finds.
use Prim.Native.Nat.{ℕ, zero, suc, ◌+◌, ◌<◌}
use mathlib.Core.Path.{◌≡◌, refl, sym, ap, ◌∙◌}
use mathlib.Core.Bool.{Bool, true, false}
use mathlib.Core.List.{List, [], ◌∷◌, map}
use native.Mathlib.Omega.{arith}
use lib.ListN.{length, get_or}
use Rattle.std.specs.List.{position, position_or_len}
use Rattle.std.specs.Prelude.{cond, not, not}
use Rattle.std.proofs.lemmas.List.{length-map}
use Rattle.laws.proofs.Lists.Tests.{differ}
use Rattle.term.proofs.Compared.{bytes_eq_same}
use Rattle.meaning.specs.Bytes.{Bytes, when◌then◌else◌}
use Rattle.meaning.specs.Terms.{Row}
use Rattle.meaning.specs.Table.{rows_before, rows_between, rows_alone, guard_table}
use Rattle.term.specs.declared.guards.Row.{Row as Coded}
use Rattle.term.specs.Guards.{row_is, row_of, row_at, coded, written, has, found_row}

pub seven : length guard_table ≡ 7
unfolding guard_table rows_before rows_between rows_alone
seven = refl

-- A row of the code's table.
pub coded_at : (cs : List Coded) (rows : List Row) (d : Coded) (n : ℕ) → map coded cs ≡ map written rows → n < length rows
    → coded (get_or cs n d) ≡ written (row_at rows n)
unfolding row_at
coded_at [] [] d n e h = absurd (omega arith)
coded_at [] (r ∷ rows) d n e h = absurd (differ (cc e))
coded_at (c ∷ cs) [] d n e h = absurd (omega arith)
coded_at (c ∷ cs) (r ∷ rows) d zero e h = cc e
coded_at (c ∷ cs) (r ∷ rows) d (suc n) e h = coded_at cs rows d n (cc e) (omega arith)

-- The first row that has the name and so many arguments is the definitions'.
module _ (f : Bytes) (count : ℕ) where
  here : (c : Coded) (r : Row) → coded c ≡ written r → has f count c ≡ row_is r f count
  here c r e = rw (ap (λ p. p.0) e, ap (λ p. p.1) e, bytes_eq_same r.name f) refl

  first : (cs : List Coded) (rows : List Row) → map coded cs ≡ map written rows → position_or_len (has f count) cs ≡ row_of rows f count
  unfolding row_of when◌then◌else◌
  first [] [] e = refl
  first [] (r ∷ rows) e = absurd (differ (cc e))
  first (c ∷ cs) [] e = absurd (differ (cc e))
  first (c ∷ cs) (r ∷ rows) e = rw (here c r (cc e), first cs rows (cc e)) (go (row_is r f count))
    where
      go : (t : Bool) → cond (not t) (1 + row_of rows f count) 0 ≡ (when t then 0 else suc (row_of rows f count))
      go true = refl
      go false = omega arith

  pub found_first : (cs : List Coded) → map coded cs ≡ map written guard_table → position (has f count) cs ≡ found_row (row_of guard_table f count)
  found_first cs e =
      let sizes : length cs ≡ 7 = sym (length-map cs coded) ∙ ap length e ∙ length-map guard_table written ∙ seven in
      rw (first cs guard_table e, sizes) refl
