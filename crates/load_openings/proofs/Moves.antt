-- A reading that moves from one place to another over some tokens, and what is then known: the tables grow as the tokens say.
use Prim.Native.Nat.{ℕ, ◌+◌, ◌-◌, ◌≤◌, ◌<◌, min}
use mathlib.Core.Path.{◌≡◌, refl, ap, sym, ◌∙◌}
use mathlib.Core.Bool.{false}
use mathlib.Core.List.{List, [], ◌∷◌, ◌++◌}
use native.Mathlib.Omega.{arith}
use lib.Dec.{eqb}
use lib.ListN.{length, get_or}
use Rattle.meaning.specs.Bytes.{Bytes, byte}
use Rattle.meaning.specs.Terms.{Half, writer, reader, Term}
use Rattle.meaning.specs.Tokens.{Token, token, sign}
use Rattle.meaning.specs.Items.{is}
use Rattle.term.specs.Cells.{term_word, stored, Numbered, Known}
use Rattle.term.specs.Frames.{Only}
use Rattle.term.proofs.Names.{known_more, term_word_more, stored_more}
use Rattle.term.proofs.Frames.{only_wider}
use Rattle.term.proofs.Cells.{stored_only}
use Rattle.term.specs.Layout.{item_start, item_end, item_place}
use Rattle.load_tokens.specs.Fronts.{tokens_in}
use Rattle.load_names.specs.Places.{Place, Placed, spellings, with_name, with_variable, before, names_over, variables_over, item_places}
use Rattle.load_names.specs.Tables.{VariablesIn}
use Rattle.load_tokens.specs.Nexts.{SignAt}
use Rattle.load_openings.specs.Reading.{piece, Open, half_place, Stands}
use Rattle.load_openings.specs.declared.cursor.Cursor.{Cursor}
use Rattle.load_openings.proofs.Expected.{piece_open}
use Rattle.load_openings.proofs.Passing.{before_append, open_append, names_append, variables_append, names_more}

-- From one place to another over these tokens, and from the known places to those with what the tokens add.
pub record Moves (from : ℕ) (rest : Bytes) (at at' : ℕ) (known vars known' vars' : List Place) (passed : List Placed) : Type 0 where
  pub follows : tokens_in from rest at ≡ before passed (tokens_in from rest at')
  pub names : names_over passed known ≡ known'
  pub variables : variables_over from passed vars ≡ vars'
  pub no_stop : Open passed

module _ (from : ℕ) (rest : Bytes) where
  pub moves_then : (a b c : ℕ) (known vars known' vars' known'' vars'' : List Place) (p q : List Placed)
      → Moves from rest a b known vars known' vars' p → Moves from rest b c known' vars' known'' vars'' q
      → Moves from rest a c known vars known'' vars'' (p ++ q)
  moves_then a b c known vars known' vars' known'' vars'' p q m n = record {
    follows = m.follows ∙ ap (before p) n.follows ∙ sym (before_append p q (tokens_in from rest c));
    names = names_append p q known ∙ ap (names_over q) m.names ∙ n.names;
    variables = variables_append from p q vars ∙ ap (variables_over from q) m.variables ∙ n.variables;
    no_stop = open_append p q m.no_stop n.no_stop;
  }

  -- Over one token.
  pub moves_token : (a b place : ℕ) (t : Token) (known vars : List Place) → tokens_in from rest a ≡ token (from + place) t (tokens_in from rest b)
      → is "." t ≡ false
      → Moves from rest a b known vars (with_name (from + place) t known) (with_variable (from + place - from) t vars)
      (record { at = from + place; token = t } ∷ [])
  unfolding before names_over variables_over Open
  moves_token a b place t known vars e dot = record { follows = e; names = refl; variables = refl; no_stop = (dot, tt) }

  -- Over one sign, which adds nothing.
  pub sign_placed : {a x b : ℕ} → SignAt rest a x b → Placed
  sign_placed {a} {x} {b} s = record { at = from + s.place; token = sign x }

  pub moves_sign : (a x b : ℕ) (known vars : List Place) (s : SignAt rest a x b) → eqb x 46 ≡ false → Moves from rest a b known vars known vars (sign_placed s ∷ [])
  unfolding before names_over variables_over with_name with_variable sign_placed Open is byte
  moves_sign a x b known vars s dot = record { follows = s.follows from; names = refl; variables = refl; no_stop = (dot, tt) }

  pub piece_sign : (a x b : ℕ) (s : SignAt rest a x b) → eqb x 46 ≡ false
      → piece (tokens_in from rest a) ≡ token (from + s.place) (sign x) (piece (tokens_in from rest b))
  unfolding is byte
  piece_sign a x b s e = ap piece (s.follows from) ∙ piece_open (from + s.place) (sign x) (tokens_in from rest b) e

-- The cursor at another place.
abbrev pub moved_to : Cursor → ℕ → Cursor
moved_to c at = record { at = at; names = c.names; variables = c.variables; compounds = c.compounds }

pub stands_moved : {text rest : Bytes} {from : ℕ} {names item : List ℕ} {c : Cursor} {known vars : List Place} (at : ℕ)
    → Stands text rest from names item c known vars → at ≤ length rest → Stands text rest from names item (moved_to c at) known vars
stands_moved at s h = record {
  part = s.part;
  inside = h;
  names_in = s.names_in;
  names_count = s.names_count;
  variables_in = s.variables_in;
  variables_count = s.variables_count;
  compounds_few = s.compounds_few;
}

-- One compound more.
abbrev pub counted_one : Cursor → Cursor
counted_one c = record { at = c.at; names = c.names; variables = c.variables; compounds = c.compounds + 1 }

pub stands_counted : {text rest : Bytes} {from : ℕ} {names item : List ℕ} {c : Cursor} {known vars : List Place}
    → Stands text rest from names item c known vars → c.compounds < 32 → Stands text rest from names item (counted_one c) known vars
stands_counted {c = c} s h = record {
  part = s.part;
  inside = s.inside;
  names_in = s.names_in;
  names_count = s.names_count;
  variables_in = s.variables_in;
  variables_count = s.variables_count;
  compounds_few = omega arith;
}

-- A term keeps its words, and the scratch with it, when more names are passed.
module _ (known : List Place) (passed : List Placed) (base : ℕ) where
  pub word_later : (t : Term) → Known (spellings known) t → term_word (item_places (names_over passed known) base) t ≡ term_word (item_places known base) t
  unfolding item_places
  word_later t k =
      let l = names_more passed known in
      rw l.1 (term_word_more (item_places known base) l.0 t k)

  pub stored_later : (t : Term) (s : List ℕ) → Known (spellings known) t
      → stored (item_places (names_over passed known) base) t s ≡ stored (item_places known base) t s
  unfolding item_places
  stored_later t s k =
      let l = names_more passed known in
      rw l.1 (stored_more (item_places known base) l.0 t s k)

  pub known_later : (t : Term) → Known (spellings known) t → Known (spellings (names_over passed known)) t
  known_later t k =
      let l = names_more passed known in
      rw l.1 (known_more t (spellings known) l.0 k)

-- A term's compounds stored, all of the item's 32.
pub stored_in_item : (known : List Place) (base lo hi : ℕ) (t : Term) (s : List ℕ) → Numbered lo hi t → hi ≤ 32
    → Only (item_start base) (item_end base) s (stored (item_places known base) t s)
unfolding item_places
stored_in_item known base lo hi t s n h =
    only_wider (item_place base lo) (item_place base hi) (item_start base) (item_end base) s (stored (item_places known base) t s) (omega arith) (omega arith)
    (stored_only (item_places known base) base (λ k. refl) lo hi t s n)

-- Counts up to 2, one part after the other.
pub twice : (x a b : ℕ) → min 2 (min 2 (x + a) + b) ≡ min 2 (x + (a + b))
twice x a b = omega arith

pub once : (x : ℕ) → x ≤ 2 → x ≡ min 2 (x + 0)
once x h = omega arith

pub half_small : {rest : Bytes} {vars : List Place} {item : List ℕ} → VariablesIn rest vars item → (h : Half) (n : ℕ) → n < 16
    → get_or item (half_place h n) 0 ≤ 2
unfolding half_place
half_small {item = item} v writer n few = v.counted n (omega arith)
half_small {item = item} v reader n few =
    let e : 32 + (16 + n) ≡ 48 + n = omega arith in
    rw e at (v.counted (16 + n) (omega arith))
