-- Behind a clause's bar: its full stop, or goals up to it.
use Prim.Native.Nat.{ℕ, ◌+◌}
use mathlib.Core.Path.{◌≡◌, refl, ◌∙◌}
use mathlib.Core.Bool.{Bool}
use mathlib.Core.List.{List, [], ◌∷◌}
use native.Mathlib.Omega.{arith}
use Rattle.std.specs.Prelude.{Result, Ok, Err}
use Rattle.meaning.specs.Bytes.{Bytes, byte, when◌then◌else◌}
use Rattle.meaning.specs.Terms.{goals_occurrences}
use Rattle.meaning.specs.Tokens.{sign, Tokens, ends, token}
use Rattle.meaning.specs.Items.{Counted, read, give, is, if_next, goals}
use Rattle.term.specs.Jobs.{GoalsKnown}
use Rattle.term.specs.Layout.{trial_region, clause_base, clause_goals_from}
use Rattle.term.proofs.Frames.{only_same}
use Rattle.load_tokens.specs.Fronts.{tokens_in}
use Rattle.load_tokens.specs.Nexts.{SignAt, one_of, Stops}
use Rattle.load_names.specs.Places.{Place, before, names_over, variables_over}
use Rattle.load_image.specs.Image.{goals_stored}
use Rattle.load_openings.specs.Reading.{piece, counted_at, Stands, Open}
use Rattle.load_openings.specs.declared.cursor.Cursor.{Cursor}
use Rattle.load_openings.specs.declared.cursor.Unread.{Unread}
use Rattle.load_openings.specs.declared.cursor.Unread.TheVariants as unread
use Rattle.load_openings.proofs.Expected.{piece_stop, if_next_other}
use Rattle.load_openings.proofs.Passing.{piece_stops}
use Rattle.load_goals.specs.Endings.{goals_part, EndIs}
use Rattle.load_openings.proofs.Moves.{moved_to, stands_moved}
use Rattle.load_items.proofs.Counted.{half_few}
use Rattle.load_items.specs.Rules.{perhaps_goals, GuardedIs}
use Rattle.load_items.specs.Refusing.{refused_as}

perhaps_stop : (counted : Counted) (p : ℕ) (ts us : Tokens) → ts ≡ token p (sign 46) us → perhaps_goals counted (piece ts) ≡ read [] counted (ends p)
unfolding perhaps_goals if_next is byte when◌then◌else◌ give
perhaps_stop counted p ts us e = rw (e, piece_stop p (sign 46) us refl)

perhaps_other : (counted : Counted) (place : ℕ) (ts : Tokens) → Stops (one_of (46 ∷ [])) place ts → perhaps_goals counted (piece ts) ≡ goals 8 counted (piece ts)
unfolding perhaps_goals byte
perhaps_other counted place ts h = if_next_other counted "." (give []) (goals 8) place (piece ts) (piece_stops (one_of (46 ∷ [])) place ts h)

module _ (k : ℕ) (text rest : Bytes) (from : ℕ) (known vars : List Place) (c : Cursor) (s names item : List ℕ)
    (st : Stands text rest from names item c known vars) where
  abbrev counted : Counted
  counted = counted_at known vars c.compounds

  -- No goal.
  pub none_behind : (behind : ℕ) (next : SignAt rest c.at 46 behind)
      → EndIs (goals_part (clause_goals_from k)) perhaps_goals text rest from (clause_base k) known vars c s item s names item (Ok (0, moved_to c behind))
  unfolding goals_part goals_stored goals_occurrences before names_over variables_over Open GoalsKnown
  none_behind behind next = (
    [],
    [],
    from + next.place,
    record {
      reads = perhaps_stop counted (from + next.place) (tokens_in from rest c.at) (tokens_in from rest behind) (next.follows from);
      follows = next.follows from;
      no_stop = tt;
      forward = omega (arith, next.forward);
      stands = stands_moved behind st next.inside;
      size_is = refl;
      stored_is = refl;
      known_names = tt;
      halves = λ h m l. omega (arith, half_few rest vars item st.variables_in h m l);
      only = only_same 0 trial_region s;
    },
  )

  -- Goals.
  module _ (a : ℕ) (other : Stops (one_of (46 ∷ [])) (from + a) (tokens_in from rest c.at)) (s' names' item' : List ℕ) where
    goals_read : perhaps_goals counted (piece (tokens_in from rest c.at)) ≡ goals 8 counted (piece (tokens_in from rest c.at))
    goals_read = perhaps_other counted (from + a) (tokens_in from rest c.at) other

    pub some_behind : (r : Result (ℕ × Cursor) Unread)
        → EndIs (goals_part (clause_goals_from k)) (goals 8) text rest from (clause_base k) known vars c s item s' names' item' r
        → EndIs (goals_part (clause_goals_from k)) perhaps_goals text rest from (clause_base k) known vars c s item s' names' item' r
    some_behind (Ok (w, d)) (gs, ps, stop, t) = (
      gs,
      ps,
      stop,
      record {
        reads = goals_read ∙ t.reads;
        follows = t.follows;
        no_stop = t.no_stop;
        forward = t.forward;
        stands = t.stands;
        size_is = t.size_is;
        stored_is = t.stored_is;
        known_names = t.known_names;
        halves = t.halves;
        only = t.only;
      },
    )
    some_behind (Err (unread.Malformed p)) (h, inside, only) = (goals_read ∙ h, inside, only)
    some_behind (Err unread.Exceeded) (h, only) = (goals_read ∙ h, only)

pub bar_unread : (k n : ℕ) (found : Bool) (text rest : Bytes) (from : ℕ) (known vars : List Place) (c : Cursor) (s item s' names' item' : List ℕ) (why : Unread)
    → EndIs (goals_part (clause_goals_from k)) perhaps_goals text rest from (clause_base k) known vars c s item s' names' item' (Err why)
    → GuardedIs k n found text rest from known vars c s item s' names' item' (Err (refused_as why))
bar_unread k n found text rest from known vars c s item s' names' item' (unread.Malformed p) h = h
bar_unread k n found text rest from known vars c s item s' names' item' unread.Exceeded h = h
