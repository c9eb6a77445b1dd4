-- Document 01's table on words: what is seen of a head's word against what is seen of a goal's word.
use Rattle.std.specs.Prelude.{ℕ, ◌+◌, Bool, true, false, ◌≡◌, List, set}
use Rattle.term.specs.declared.word.View.{View}
use Rattle.term.specs.declared.word.View.TheVariants.{Nothing, Writer, Reader, Integer, Name, Empty, Compound}
use Rattle.term.specs.Layout.{trial_region, gift_pair, gift_term}
use Rattle.run_table.specs.declared.table.PlaceResult.{PlaceResult}
use Rattle.run_table.specs.declared.table.PlaceResult.TheVariants.{Noted, Fails, Below}

-- Nothing is given, a head's writer or a goal's pair is, it waits on the reader of a pair, it fails, or two compounds are compared.
pub data Row : Type 0 where
  agrees : Row
  gives_head : ℕ → Row
  gives_goal : ℕ → Row
  waits : ℕ → Row
  fails : Row
  below : ℕ → ℕ → Row

unfoldable pub writer_row : ℕ → View → Row
writer_row x Nothing = gives_head x
writer_row x (Writer z) = fails
writer_row x (Reader z) = gives_head x
writer_row x (Integer n) = gives_head x
writer_row x (Name n) = gives_head x
writer_row x Empty = gives_head x
writer_row x (Compound q) = gives_head x

unfoldable pub reader_row : View → Row
reader_row Nothing = fails
reader_row (Writer z) = gives_goal z
reader_row (Reader z) = fails
reader_row (Integer n) = fails
reader_row (Name n) = fails
reader_row Empty = fails
reader_row (Compound q) = fails

unfoldable pub equal_row : Bool → Row
equal_row true = agrees
equal_row false = fails

unfoldable pub constant_row : Bool → View → Row
constant_row same Nothing = equal_row same
constant_row same (Writer z) = gives_goal z
constant_row same (Reader z) = waits z
constant_row same (Integer n) = equal_row same
constant_row same (Name n) = equal_row same
constant_row same Empty = equal_row same
constant_row same (Compound q) = equal_row same

unfoldable pub compound_row : ℕ → View → Row
compound_row p Nothing = fails
compound_row p (Writer z) = gives_goal z
compound_row p (Reader z) = waits z
compound_row p (Integer n) = fails
compound_row p (Name n) = fails
compound_row p Empty = fails
compound_row p (Compound q) = below p q

-- The row by what is seen of the head's word, and whether the words are equal.
unfoldable pub row : Bool → View → View → Row
row same Nothing v = constant_row same v
row same (Writer x) v = writer_row x v
row same (Reader x) v = reader_row v
row same (Integer n) v = constant_row same v
row same (Name n) v = constant_row same v
row same Empty v = constant_row same v
row same (Compound p) v = compound_row p v

-- What is noted, written into the trial's region: a word of a head's writer; or the n-th entry, a goal's pair with the word of a head's term, or with 0
-- where the trial waits on its reader.
abbrev pub head_written : ℕ → ℕ → List ℕ → List ℕ
head_written n w s = set s (trial_region + n) w

abbrev pub goal_written : ℕ → ℕ → ℕ → List ℕ → List ℕ
goal_written n z h s = set (set s (gift_pair n) z) (gift_term n) h

abbrev pub asked_written : ℕ → ℕ → List ℕ → List ℕ
asked_written n z s = goal_written n z 0 s

-- What a row answers, n entries being made, and the scratch behind it.
unfoldable pub answer : ℕ → Row → PlaceResult
answer n agrees = Noted n
answer n (gives_head x) = Noted n
answer n (gives_goal z) = Noted (n + 1)
answer n (waits z) = Noted (n + 1)
answer n fails = Fails
answer n (below p q) = Below p q

unfoldable pub behind : ℕ → ℕ → ℕ → Row → List ℕ → List ℕ
behind n h w agrees s = s
behind n h w (gives_head x) s = head_written x w s
behind n h w (gives_goal z) s = goal_written n z h s
behind n h w (waits z) s = asked_written n z s
behind n h w fails s = s
behind n h w (below p q) s = s

-- What a row has done.
pub record Done (s s' : List ℕ) (n h w : ℕ) (r : Row) (met : PlaceResult) : Type 0 where
  pub answers : met ≡ answer n r
  pub scratch : s' ≡ behind n h w r s
