-- The rows that several views share: where what is seen is none of the views that have rows of their own, the row is the same.
use Prim.Native.Nat.{ℕ}
use mathlib.Core.Path.{◌≡◌, refl}
use mathlib.Core.Bool.{Bool}
use mathlib.Core.List.{List}
use Rattle.term.specs.declared.word.View.{View}
use Rattle.term.specs.declared.word.View.TheVariants.{Nothing, Writer, Reader, Integer, Name, Empty, Compound}
use Rattle.run_table.specs.declared.table.PlaceResult.{PlaceResult}
use Rattle.run_table.specs.Rows.{Row, gives_head, fails, writer_row, reader_row, constant_row, compound_row, equal_row, row, answer, behind, Done}

pub writer_row_other : (x : ℕ) (v : View) → ((z : ℕ) → v ≡ Writer z → ⊥) → writer_row x v ≡ gives_head x
unfolding writer_row
writer_row_other x Nothing w = refl
writer_row_other x (Writer z) w = absurd (w z refl)
writer_row_other x (Reader z) w = refl
writer_row_other x (Integer n) w = refl
writer_row_other x (Name n) w = refl
writer_row_other x Empty w = refl
writer_row_other x (Compound q) w = refl

pub reader_row_other : (v : View) → ((z : ℕ) → v ≡ Writer z → ⊥) → reader_row v ≡ fails
unfolding reader_row
reader_row_other Nothing w = refl
reader_row_other (Writer z) w = absurd (w z refl)
reader_row_other (Reader z) w = refl
reader_row_other (Integer n) w = refl
reader_row_other (Name n) w = refl
reader_row_other Empty w = refl
reader_row_other (Compound q) w = refl

pub constant_row_other : (same : Bool) (v : View) → ((z : ℕ) → v ≡ Writer z → ⊥) → ((z : ℕ) → v ≡ Reader z → ⊥) → constant_row same v ≡ equal_row same
unfolding constant_row
constant_row_other same Nothing w r = refl
constant_row_other same (Writer z) w r = absurd (w z refl)
constant_row_other same (Reader z) w r = absurd (r z refl)
constant_row_other same (Integer n) w r = refl
constant_row_other same (Name n) w r = refl
constant_row_other same Empty w r = refl
constant_row_other same (Compound q) w r = refl

pub compound_row_other : (p : ℕ) (v : View) → ((z : ℕ) → v ≡ Writer z → ⊥) → ((z : ℕ) → v ≡ Reader z → ⊥) → ((q : ℕ) → v ≡ Compound q → ⊥)
    → compound_row p v ≡ fails
unfolding compound_row
compound_row_other p Nothing w r c = refl
compound_row_other p (Writer z) w r c = absurd (w z refl)
compound_row_other p (Reader z) w r c = absurd (r z refl)
compound_row_other p (Integer n) w r c = refl
compound_row_other p (Name n) w r c = refl
compound_row_other p Empty w r c = refl
compound_row_other p (Compound q) w r c = absurd (c q refl)

pub row_other : (same : Bool) (v u : View) → ((z : ℕ) → v ≡ Writer z → ⊥) → ((z : ℕ) → v ≡ Reader z → ⊥) → ((q : ℕ) → v ≡ Compound q → ⊥)
    → row same v u ≡ constant_row same u
unfolding row
row_other same Nothing u w r c = refl
row_other same (Writer z) u w r c = absurd (w z refl)
row_other same (Reader z) u w r c = absurd (r z refl)
row_other same (Integer n) u w r c = refl
row_other same (Name n) u w r c = refl
row_other same Empty u w r c = refl
row_other same (Compound q) u w r c = absurd (c q refl)

-- What a row has done, by the row's own name.
pub done_by : (s s' : List ℕ) (n h w : ℕ) (r k : Row) (met : PlaceResult) → r ≡ k → met ≡ answer n k → s' ≡ behind n h w k s
    → Done s s' n h w r met
done_by s s' n h w r k met e a b = rw e (record { answers = a; scratch = b })
