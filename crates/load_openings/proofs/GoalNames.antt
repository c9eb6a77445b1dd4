-- A goal at its first tokens: a name, its parenthesis, and behind it what `compound` reads.
use Rattle.std.specs.Prelude.{Ok, Err, Some, None}
use Prim.Native.Nat.{ℕ, ◌+◌, ◌≤◌}
use mathlib.Core.Path.{◌≡◌, refl, ap, ◌∙◌}
use mathlib.Core.Bool.{Bool, true, false}
use mathlib.Core.List.{List, [], ◌∷◌}
use native.Mathlib.Omega.{arith}
use lib.ListN.{length}
use lib.Seq.{slice}
use Rattle.meaning.specs.Bytes.{Bytes, byte, same, any, when◌then◌else◌}
use Rattle.meaning.specs.Terms.{Half, writer, reader, Integer}
use Rattle.meaning.specs.Tokens.{name, variable, integer, sign, bad, Tokens, ends, token}
use Rattle.meaning.specs.Items.{Counted, malformed, passed, read_on, ◌>>◌, cannot_stand, next, is, expect, count_name, compound_of, term, goal_from, goal}
use Rattle.load_tokens.specs.Fronts.{tokens_in, double_sign, behind, FrontIs}
use Rattle.load_names.specs.Answers.{NameIs}
use Rattle.load_openings.specs.Openings.{OpeningIs}
use Rattle.load_names.specs.Places.{Place, spellings, with_place}
use Rattle.load_openings.specs.Reading.{piece, counted_at, Stands}
use Rattle.load_tokens.specs.Nexts.{one_of, Stops, SignAt}
use Rattle.load_tokens.specs.declared.token.Token.TheVariants.{End, Name, Writer, Reader, Integer as AnInteger, Sign, Bad}
use Rattle.load_openings.specs.declared.cursor.Cursor.{Cursor}
use Rattle.load_openings.specs.declared.cursor.Unread.TheVariants.{Malformed, Exceeded}
use Rattle.load_openings.proofs.Expected.{piece_open, expect_this, expect_stops}
use Rattle.load_openings.proofs.Passing.{piece_stops}
use Rattle.load_openings.proofs.Readers.{count_name_with, count_name_passed}

goal_named : (counted : Counted) (p : ℕ) (f : Bytes) (ts : Tokens)
    → goal counted (piece (token p (name f) ts)) ≡ read_on (count_name f counted (piece ts)) (λ u. expect "(" >> compound_of (term 15) f)
unfolding goal goal_from next ◌>>◌ is
goal_named counted p f ts = rw (piece_open p (name f) ts refl)

-- A name, counted, and then its parenthesis.
module _ (p at : ℕ) (f : Bytes) (known vars : List Place) (n : ℕ) (ts : Tokens) where
  pub goal_passed : any (same f) (spellings known) ≡ false → 256 ≤ length known
      → goal (counted_at known vars n) (piece (token p (name f) ts)) ≡ passed
  unfolding read_on
  goal_passed h many = rw (goal_named (counted_at known vars n) p f ts, count_name_passed f known vars n (piece ts) h many)

  goal_counted : length (with_place at f known) ≤ 256
      → goal (counted_at known vars n) (piece (token p (name f) ts))
      ≡ read_on (expect "(" (counted_at (with_place at f known) vars n) (piece ts)) (λ u. compound_of (term 15) f)
  unfolding read_on ◌>>◌
  goal_counted few = rw (goal_named (counted_at known vars n) p f ts, count_name_with at f known vars n (piece ts) few)

  pub goal_lacks : length (with_place at f known) ≤ 256 → (place : ℕ) → Stops (one_of (byte "(" ∷ [])) place ts
      → goal (counted_at known vars n) (piece (token p (name f) ts)) ≡ malformed place
  unfolding read_on
  goal_lacks few place h =
      rw (goal_counted few, expect_stops (counted_at (with_place at f known) vars n) "(" place (piece ts) (piece_stops (one_of (byte "(" ∷ [])) place ts h))

  pub goal_opens : length (with_place at f known) ≤ 256 → (q : ℕ) (us : Tokens) → ts ≡ token q (sign 40) us
      → goal (counted_at known vars n) (piece (token p (name f) ts)) ≡ compound_of (term 15) f (counted_at (with_place at f known) vars n) (piece us)
  unfolding read_on is byte
  goal_opens few q us e =
      rw (goal_counted few, e, piece_open q (sign 40) us refl, expect_this (counted_at (with_place at f known) vars n) "(" q (sign 40) (piece us) refl)

-- Any other token is no goal's first.
module _ (counted : Counted) (p : ℕ) (ts : Tokens) where
  pub goal_variable : (h : Half) (x : Bytes) → goal counted (piece (token p (variable h x) ts)) ≡ malformed p
  unfolding goal goal_from next cannot_stand piece
  goal_variable h x = refl

  pub goal_integer : (i : Integer) → goal counted (piece (token p (integer i) ts)) ≡ malformed p
  unfolding goal goal_from next cannot_stand piece
  goal_integer i = refl

  pub goal_sign : (b : ℕ) → goal counted (piece (token p (sign b) ts)) ≡ malformed p
  unfolding goal goal_from next cannot_stand piece
  goal_sign b = refl

  pub goal_bad : goal counted (piece (token p bad ts)) ≡ malformed p
  unfolding goal goal_from next cannot_stand piece
  goal_bad = refl

pub goal_ends : (counted : Counted) (n : ℕ) → goal counted (piece (ends n)) ≡ malformed n
unfolding goal next piece
goal_ends counted n = refl

pub behind_after : (b a : ℕ) → a ≤ behind b a
unfolding behind when◌then◌else◌
behind_after b a = after (double_sign b) where
  after : (t : Bool) → a ≤ (when t then a + 2 else a + 1)
  after true = omega arith
  after false = omega arith

-- What the code finds in front decides what it answers.
module _ (text rest : Bytes) (from : ℕ) (names names' item : List ℕ) (c : Cursor) (known vars : List Place)
    (st : Stands text rest from names item c known vars) where
  named_tokens : (a e : ℕ) → FrontIs rest c.at (Name a e)
      → tokens_in from rest c.at ≡ token (from + a) (name (slice a e rest)) (tokens_in from rest e)
  named_tokens a e h = h.4 from

  pub opening_named : (a e n count behind : ℕ) → FrontIs rest c.at (Name a e)
      → NameIs text known (from + a) (slice a e rest) names names' (Some (n, count)) → SignAt rest e 40 behind
      → OpeningIs text rest from names' item known vars c
      (Ok (n, record { at = behind; names = count; variables = c.variables; compounds = c.compounds }))
  opening_named a e n count behind h k opens =
      let f = slice a e rest in
      let there = opens.follows from in (
        f,
        from + a,
        from + opens.place,
        record {
          reads =
              rw (named_tokens a e h)
              (goal_opens (from + a) (from + a) f known vars c.compounds (tokens_in from rest e) k.0.few (from + opens.place) (tokens_in from rest behind) there);
          follows = named_tokens a e h ∙ ap (λ ts. token (from + a) (name f) ts) there;
          number_is = k.3;
          compounds_same = refl;
          stands = record {
            part = st.part;
            inside = opens.inside;
            names_in = k.0;
            names_count = k.1;
            variables_in = st.variables_in;
            variables_count = st.variables_count;
            compounds_few = st.compounds_few;
          };
        },
      )

  pub opening_lacks : (a e n count place : ℕ) → FrontIs rest c.at (Name a e)
      → NameIs text known (from + a) (slice a e rest) names names' (Some (n, count))
      → place ≤ length rest → ((from : ℕ) → Stops (one_of (40 ∷ [])) (from + place) (tokens_in from rest e))
      → OpeningIs text rest from names' item known vars c (Err (Malformed place))
  unfolding byte
  opening_lacks a e n count place h k inside stops = (
    rw (named_tokens a e h)
        (goal_lacks (from + a) (from + a) (slice a e rest) known vars c.compounds (tokens_in from rest e) k.0.few (from + place) (stops from)),
    inside,
  )

  pub opening_passed : (a e : ℕ) → FrontIs rest c.at (Name a e) → NameIs text known (from + a) (slice a e rest) names names' None
      → OpeningIs text rest from names' item known vars c (Err Exceeded)
  opening_passed a e h k =
      rw (named_tokens a e h)
      (goal_passed (from + a) (from + a) (slice a e rest) known vars c.compounds (tokens_in from rest e) k.0 k.1)

  -- Any other token is no goal's first.
  pub opening_writer : (a e : ℕ) → FrontIs rest c.at (Writer a e) → OpeningIs text rest from names' item known vars c (Err (Malformed a))
  opening_writer a e h =
      (rw (h.4 from) (goal_variable (counted_at known vars c.compounds) (from + a) (tokens_in from rest e) writer (slice a e rest)), omega arith)

  pub opening_reader : (a e : ℕ) → FrontIs rest c.at (Reader a e) → OpeningIs text rest from names' item known vars c (Err (Malformed a))
  opening_reader a e h =
      (rw (h.4 from) (goal_variable (counted_at known vars c.compounds) (from + a) (tokens_in from rest (e + 1)) reader (slice a e rest)), omega arith)

  pub opening_integer : (w a e : ℕ) → FrontIs rest c.at (AnInteger w a e) → OpeningIs text rest from names' item known vars c (Err (Malformed a))
  opening_integer w a e h =
      (rw (h.6 from) (goal_integer (counted_at known vars c.compounds) (from + a) (tokens_in from rest e) h.4), omega arith)

  pub opening_sign : (b a : ℕ) → FrontIs rest c.at (Sign b a) → OpeningIs text rest from names' item known vars c (Err (Malformed a))
  opening_sign b a h =
      (rw (h.2 from) (goal_sign (counted_at known vars c.compounds) (from + a) (tokens_in from rest (behind b a)) b), omega (arith, behind_after b a))

  pub opening_bad : (a : ℕ) → FrontIs rest c.at (Bad a) → OpeningIs text rest from names' item known vars c (Err (Malformed a))
  opening_bad a h =
      (rw (h.2 from).1 (goal_bad (counted_at known vars c.compounds) (from + a) (h.2 from).0), omega arith)

  pub opening_ends : FrontIs rest c.at End → OpeningIs text rest from names' item known vars c (Err (Malformed (length rest)))
  opening_ends h = (rw (h from) (goal_ends (counted_at known vars c.compounds) (from + length rest)), omega arith)
