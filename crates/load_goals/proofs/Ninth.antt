-- Before the first goal nothing has been read; behind the eighth a ninth cannot be.
use Rattle.std.specs.Prelude.{Err}
use Prim.Native.Nat.{ℕ, ◌+◌, ◌-◌}
use mathlib.Core.Path.{◌≡◌, refl, sym}
use mathlib.Core.Bool.{false}
use mathlib.Core.List.{List, [], ◌++◌}
use native.Mathlib.Omega.{arith}
use lib.ListN.{length, get_or}
use lib.Seq.{slice}
use Rattle.meaning.specs.Bytes.{Bytes, when◌then◌else◌}
use Rattle.meaning.specs.Terms.{writer, reader, Named, goals_occurrences}
use Rattle.meaning.specs.Tokens.{Token, variable, integer, sign, bad, Tokens, token}
use Rattle.meaning.specs.Items.{Counted, Read, read, malformed, passed, read_on, give, ◌>>◌, passes, standing, is_name, goals}
use Rattle.term.proofs.Frames.{only_same}
use Rattle.term.specs.Jobs.{GoalsKnown}
use Rattle.term.specs.Layout.{trial_region}
use Rattle.load_tokens.specs.Fronts.{tokens_in, behind, FrontIs}
use Rattle.load_names.specs.Places.{Place, Placed, before, names_over, variables_over}
use Rattle.load_openings.specs.Reading.{piece, counted_at, half_place, Stands, Open}
use Rattle.load_image.specs.Image.{goals_stored}
use Rattle.load_goals.specs.Endings.{goals_part, EndIs, NinthIs, Partly}
use Rattle.load_tokens.specs.declared.token.Token.TheVariants.{End, Name, Writer, Reader, Integer as AnInteger, Sign, Bad}
use Rattle.load_openings.specs.declared.cursor.Cursor.{Cursor}
use Rattle.load_openings.specs.declared.cursor.Unread.{Unread}
use Rattle.load_openings.specs.declared.cursor.Unread.TheVariants.{Malformed, Exceeded}
use Rattle.load_openings.proofs.GoalNames.{behind_after}
use Rattle.load_openings.proofs.Moves.{once, half_small}

read_give : (r : Read (List Named)) → read_on r (λ hs. give ([] ++ hs)) ≡ r
unfolding read_on give
read_give (read hs counted ts) = refl
read_give (malformed p) = refl
read_give passed = refl

pub partly_none : (text rest : Bytes) (from base place : ℕ) (known vars : List Place) (c : Cursor) (s names item : List ℕ)
    → Stands text rest from names item c known vars → Partly text rest from base place known vars c s item s names item c [] []
unfolding before names_over variables_over goals_stored goals_occurrences GoalsKnown Open
partly_none text rest from base place known vars c s names item st = record {
  reads = sym (read_give (goals 8 (counted_at known vars c.compounds) (piece (tokens_in from rest c.at))));
  follows = refl;
  no_stop = tt;
  stands = st;
  stored_is = refl;
  known_names = tt;
  halves = λ h n few. once (get_or item (half_place h n) 0) (half_small st.variables_in h n few);
  only = only_same 0 trial_region s;
}

-- A name passes the figure, anything else cannot stand.
module _ (rest : Bytes) (at : ℕ) where
  ninth_token : (from : ℕ) (counted : Counted) (p : ℕ) (t : Token) (ts : Tokens) → tokens_in from rest at ≡ token p t ts → is_name t ≡ false
      → goals 0 counted (piece (tokens_in from rest at)) ≡ malformed p
  unfolding goals ◌>>◌ read_on standing piece when◌then◌else◌
  ninth_token from counted p t ts e h = rw (e, h)

  pub ninth_name : (a e : ℕ) → FrontIs rest at (Name a e) → NinthIs rest at Exceeded
  unfolding goals ◌>>◌ read_on standing piece is_name when◌then◌else◌ passes
  ninth_name a e h from counted = rw (h.4 from)

  pub ninth_writer : (a e : ℕ) → FrontIs rest at (Writer a e) → NinthIs rest at (Malformed a)
  unfolding is_name
  ninth_writer a e h =
      (omega arith, λ from counted. ninth_token from counted (from + a) (variable writer (slice a e rest)) (tokens_in from rest e) (h.4 from) refl)

  pub ninth_reader : (a e : ℕ) → FrontIs rest at (Reader a e) → NinthIs rest at (Malformed a)
  unfolding is_name
  ninth_reader a e h =
      (omega arith, λ from counted. ninth_token from counted (from + a) (variable reader (slice a e rest)) (tokens_in from rest (e + 1)) (h.4 from) refl)

  pub ninth_integer : (w a e : ℕ) → FrontIs rest at (AnInteger w a e) → NinthIs rest at (Malformed a)
  unfolding is_name
  ninth_integer w a e h =
      (omega arith, λ from counted. ninth_token from counted (from + a) (integer h.4) (tokens_in from rest e) (h.6 from) refl)

  pub ninth_sign : (b a : ℕ) → FrontIs rest at (Sign b a) → NinthIs rest at (Malformed a)
  unfolding is_name
  ninth_sign b a h =
      (omega (arith, behind_after b a), λ from counted. ninth_token from counted (from + a) (sign b) (tokens_in from rest (behind b a)) (h.2 from) refl)

  pub ninth_bad : (a : ℕ) → FrontIs rest at (Bad a) → NinthIs rest at (Malformed a)
  unfolding is_name
  ninth_bad a h = (omega arith, λ from counted. ninth_token from counted (from + a) bad (h.2 from).0 (h.2 from).1 refl)

  pub ninth_ends : FrontIs rest at End → NinthIs rest at (Malformed (length rest))
  unfolding goals ◌>>◌ read_on standing piece
  ninth_ends h = (omega arith, λ from counted. rw (h from))

-- Eight goals have been read, and a ninth comes.
module _ (text rest : Bytes) (from base place : ℕ) (known vars : List Place) (c : Cursor) (s₀ item₀ s names item : List ℕ) (d : Cursor)
    (gs : List Named) (ps : List Placed) (t : Partly text rest from base place known vars c s₀ item₀ s names item d gs ps)
    (full : length gs ≡ 8) where
  pub partly_ninth : (u : Unread) → NinthIs rest d.at u
      → EndIs (goals_part place) (goals 8) text rest from base known vars c s₀ item₀ s names item (Err u)
  unfolding read_on
  partly_ninth (Malformed p) h =
      let e : 8 - length gs ≡ 0 = omega arith in
      let reads = rw e at t.reads in
      (rw (reads, h.1 from (counted_at (names_over ps known) (variables_over from ps vars) d.compounds)), h.0, t.only)
  partly_ninth Exceeded h =
      let e : 8 - length gs ≡ 0 = omega arith in
      let reads = rw e at t.reads in
      (rw (reads, h from (counted_at (names_over ps known) (variables_over from ps vars) d.compounds)), t.only)
