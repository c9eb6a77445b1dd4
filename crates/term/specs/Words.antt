-- The words of terms: a tag below 8, and what it is a term of, eight times over. 0 is the word of a pair that has no value.
use Rattle.std.specs.Prelude.{ℕ, zero, suc, ◌+◌, ◌*◌, ◌/◌, ◌%◌, Option, None, Some}
use Rattle.meaning.specs.Terms.{Half, writer, reader}
use Rattle.term.specs.declared.word.View.{View}
use Rattle.term.specs.declared.word.View.TheVariants.{Nothing, Writer, Reader, Integer, Name, Empty, Compound}

-- What a word can say: nothing, one half of the pair at a place, an integer by its 32 bits, a name by its number, `[]`, the compound at a place.
pub data Content : Type 0 where
  nothing : Content
  variable : Half → ℕ → Content
  integer : ℕ → Content
  name : ℕ → Content
  empty : Content
  compound : ℕ → Content

-- A tag and the rest in one word, and a word taken apart. A functor's word and a goal's word are packed alike.
abbrev pub packed : ℕ → ℕ → ℕ
packed tag rest = tag + 8 * rest

abbrev pub tag_in : ℕ → ℕ
tag_in w = w % 8

abbrev pub rest_in : ℕ → ℕ
rest_in w = w / 8

-- The words by their tags.
abbrev pub writer_word : ℕ → ℕ
writer_word place = packed 1 place

abbrev pub reader_word : ℕ → ℕ
reader_word place = packed 2 place

abbrev pub integer_word : ℕ → ℕ
integer_word bits = packed 3 bits

abbrev pub name_word : ℕ → ℕ
name_word number = packed 4 number

abbrev pub compound_word : ℕ → ℕ
compound_word place = packed 6 place

-- No term has the tag 7: it stands before a number of the code's own among words of terms.
abbrev pub probe_word : ℕ → ℕ
probe_word number = packed 7 number

abbrev pub word : Content → ℕ
word nothing = 0
word (variable writer place) = writer_word place
word (variable reader place) = reader_word place
word (integer bits) = integer_word bits
word (name number) = name_word number
word empty = 5
word (compound place) = compound_word place

abbrev pub view_of : Content → View
view_of nothing = Nothing
view_of (variable writer place) = Writer place
view_of (variable reader place) = Reader place
view_of (integer bits) = Integer bits
view_of (name number) = Name number
view_of empty = Empty
view_of (compound place) = Compound place

-- A word taken apart by its tag and the rest; that this undoes `word` is a law.
unfoldable pub view : ℕ → ℕ → View
view zero rest = Nothing
view (suc zero) rest = Writer rest
view (suc (suc zero)) rest = Reader rest
view (suc (suc (suc zero))) rest = Integer rest
view (suc (suc (suc (suc zero)))) rest = Name rest
view (suc (suc (suc (suc (suc zero))))) rest = Empty
view (suc (suc (suc (suc (suc (suc tag)))))) rest = Compound rest

-- The word that leads to something by its number, one more than that; 0 leads to nothing.
abbrev pub link_to : Option ℕ → ℕ
link_to None = 0
link_to (Some n) = n + 1
