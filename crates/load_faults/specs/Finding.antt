-- What is known of an item in which a fault is looked for, how far the walk has come, and what it finds.
use Rattle.std.specs.Prelude.{ℕ, ◌+◌, ◌≤◌, min, ◌≡◌, Bool, false, not, ◌&&◌, List, eqb, length, get_or, Option as Perhaps, Some, None, Result, Ok, Err}
use Rattle.std.proofs.Math.Option.{Option, none, some}
use Rattle.meaning.specs.Bytes.{Bytes, byte, when◌then◌else◌}
use Rattle.meaning.specs.Terms.{Half, writer, reader}
use Rattle.meaning.specs.Tokens.{Token, name, variable, integer, sign, bad, Tokens, ends, token}
use Rattle.meaning.specs.Faults.{twice, writer_alone, reader_alone, Broken as Rule, Fault, occurs_at, pairing}
use Rattle.meaning.specs.Items.{place_of}
use Rattle.laws.proofs.Reading.Walk.{Seen, first_from, first_fault}
use Rattle.load_tokens.specs.Fronts.{tokens_in, behind}
use Rattle.load_names.specs.Places.{Place, spellings}
use Rattle.load_names.specs.Tables.{VariablesIn}
use Rattle.load_openings.specs.Reading.{piece, half_place}
use Rattle.load_openings.specs.declared.begin.Half.{Half as CodeHalf}
use Rattle.load_openings.specs.declared.begin.Half.TheVariants.{Writer, Reader}
use Rattle.load_faults.specs.declared.faults.Broken.{Broken}
use Rattle.load_faults.specs.declared.faults.Broken.TheVariants.{Twice, WriterAlone, ReaderAlone}
use Rattle.load_faults.specs.declared.faults.Fault.{Fault as Found}

-- The code's half and rule as the definition's.
abbrev pub half_of : CodeHalf → Half
half_of Writer = writer
half_of Reader = reader

abbrev pub rule_of : Broken → Rule
rule_of Twice = twice
rule_of WriterAlone = writer_alone
rule_of ReaderAlone = reader_alone

-- The code's fault, in a rest of so many bytes that begins at an offset of the text, as the definition's over the whole text.
abbrev pub FaultIs : ℕ → ℕ → Found → Fault → Type 0
FaultIs size from r f = (rule_of r.rule ≡ f.rule) × (from + r.offset ≡ f.offset) × (r.offset ≤ size)

-- Tokens of an item that was read: none is bad, and each variable has a place in the item's table.
unfoldable pub Passable : List Bytes → Token → Type 0
Passable xs (name f) = Unit {0}
Passable xs (variable h x) = (n : ℕ) × (place_of x xs ≡ some n)
Passable xs (integer i) = Unit {0}
Passable xs (sign b) = Unit {0}
Passable xs bad = ⊥

unfoldable pub Walkable : List Bytes → Tokens → Type 0
Walkable xs (ends place) = Unit {0}
Walkable xs (token place t rest) = Passable xs t × Walkable xs rest

-- The item's table holds its variables, and how often each half of them occurs among the tokens that count for the pairing; another table says which
-- readers are free.
pub record Searched (rest : Bytes) (item : List ℕ) (count : ℕ) (licensed : List ℕ) (places : List Place) (free : Bytes → Bool) (whole : Tokens) : Type 0 where
  pub table : VariablesIn rest places item
  pub count_is : count ≡ length places
  pub counted : (h : Half) (x : Bytes) (n : ℕ) → place_of x (spellings places) ≡ some n
      → get_or item (half_place h n) 0 ≡ min 2 (length (occurs_at h x whole))
  pub frees_size : length licensed ≡ 16
  pub frees : (x : Bytes) (n : ℕ) → place_of x (spellings places) ≡ some n → free x ≡ not (eqb (get_or licensed n 0) 0)

-- The tokens behind a clause's bar, if there is one, stand from an offset of the rest on.
abbrev pub BarIs : Bytes → ℕ → Perhaps ℕ → Option Tokens → Type 0
BarIs rest from None none = Unit {0}
BarIs rest from None (some behind) = ⊥
BarIs rest from (Some bar) none = ⊥
BarIs rest from (Some bar) (some behind) = (behind ≡ piece (tokens_in from rest bar)) × (bar ≤ length rest)

-- The same of the item whose tokens stand from an offset of the rest on, with its first fault.
pub record Searches (rest : Bytes) (from : ℕ) (item : List ℕ) (count : ℕ) (both : Bool) (begins : ℕ) (bar : Perhaps ℕ) (licensed : List ℕ)
    (places : List Place) (free : Bytes → Bool) (behind : Option Tokens) (f : Fault) : Type 0 where
  pub searched : Searched rest item count licensed places free (pairing behind (piece (tokens_in from rest begins)))
  pub walkable : Walkable (spellings places) (pairing behind (piece (tokens_in from rest begins)))
  pub bar_is : BarIs rest from bar behind
  pub found : first_fault both free (pairing behind (piece (tokens_in from rest begins))) ≡ some f

-- Where the halves seen so far are noted: writers from 0 on, readers from 16 on.
unfoldable pub half_from : Half → ℕ
half_from writer = 0
half_from reader = 16

-- The walk stands before these tokens, before or behind the `:-`: what it has seen is noted, and what is left has the fault.
pub record Reached (both : Bool) (places : List Place) (free : Bytes → Bool) (whole : Tokens) (implied : Bool) (seen : List ℕ) (left : Tokens) (f : Fault) : Type 0 where
  pub size : length seen ≡ 32
  pub was : Seen
  pub noted : (h : Half) (x : Bytes) (n : ℕ) → place_of x (spellings places) ≡ some n → was h x ≡ not (eqb (get_or seen (half_from h + n) 0) 0)
  pub finds : first_from both free whole implied was left ≡ some f
  pub walkable : Walkable (spellings places) left

-- Where the walk goes on behind a sign: behind the first `:-` at the first byte behind the bar, if there is one.
unfoldable pub on_at : ℕ → ℕ → Bool → Perhaps ℕ → ℕ
on_at c a implied None = behind c a
on_at c a implied (Some bar) = when eqb c (byte ":") && not implied then bar else behind c a

-- Whether a half is pardoned where the walk stands: no writer is.
unfoldable pub pardons : Bool → Half → Bool
pardons implied writer = false
pardons implied reader = implied

-- A half that stands at a place: it breaks a rule there, and that is the fault; or the walk goes on behind it.
abbrev pub JudgedIs : (both : Bool) (places : List Place) (free : Bytes → Bool) (whole : Tokens) (implied : Bool) (seen' : List ℕ) (at : ℕ) (ts : Tokens) (f : Fault)
    → Result Unit Broken → Type 0
JudgedIs both places free whole implied seen' at ts f (Ok u) = Reached both places free whole implied seen' ts f
JudgedIs both places free whole implied seen' at ts f (Err rule) = f ≡ record { rule = rule_of rule; offset = at }
