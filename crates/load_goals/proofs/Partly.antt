-- One goal more behind those that have been read: its comma, its full stop, or what stops the reading.
use Rattle.std.specs.Prelude.{Err}
use Prim.Native.Nat.{ℕ, suc, ◌+◌, ◌-◌, ◌≤◌, ◌<◌, min}
use mathlib.Core.Path.{◌≡◌, refl, ap, sym, ◌∙◌}
use mathlib.Core.List.{List, [], ◌∷◌, ◌++◌}
use native.Mathlib.Omega.{arith}
use lib.ListN.{length, get_or, set}
use Rattle.meaning.specs.Bytes.{Bytes, byte}
use Rattle.meaning.specs.Terms.{Half, Named, as_term, goals_occurrences}
use Rattle.meaning.specs.Tokens.{sign, token}
use Rattle.meaning.specs.Items.{Counted, read_on, give, is, goal, goals}
use Rattle.term.specs.Frames.{Only}
use Rattle.term.proofs.Frames.{only_set, only_then, only_wider}
use Rattle.term.specs.Jobs.{GoalsKnown}
use Rattle.term.specs.Layout.{trial_region, trial_base, item_start, item_end, item_compounds}
use Rattle.load_tokens.specs.Fronts.{tokens_in}
use Rattle.load_names.specs.Places.{Place, Placed, spellings, before, with_name, with_variable, names_over, variables_over, item_places}
use Rattle.load_openings.specs.Reading.{piece, counted_at, half_place, Open, Gave, ReadIs}
use Rattle.load_tokens.specs.Nexts.{SignAt, one_of, StopsAt}
use Rattle.load_tokens.specs.declared.next.Misplaced.{Misplaced}
use Rattle.load_image.specs.Image.{goals_stored}
use Rattle.load_goals.specs.Endings.{goals_part, Ended, EndIs, Partly}
use Rattle.load_openings.specs.declared.cursor.Cursor.{Cursor}
use Rattle.load_openings.specs.declared.cursor.Unread.{Unread}
use Rattle.load_openings.specs.declared.cursor.Unread.TheVariants.{Malformed, Exceeded}
use Rattle.load_openings.proofs.Given.{gave_only}
use Rattle.load_openings.proofs.Moves.{moved_to, stands_moved}
use Rattle.load_openings.proofs.Passing.{names_append, variables_append, before_append, open_append, names_more}
use Rattle.load_goals.proofs.GoalLists.{goals_snoc, occurrences_snoc, known_snoc, length_snoc, still_known, still_goals}
use Rattle.load_goals.proofs.Commas.{goals_comma, goals_stop, goals_other, goals_malformed, goals_passed, behind_goals}

module _ (text rest : Bytes) (from base place : ℕ) (known vars : List Place) (c : Cursor) (s₀ item₀ s names item : List ℕ) (d : Cursor)
    (gs : List Named) (ps : List Placed) (t : Partly text rest from base place known vars c s₀ item₀ s names item d gs ps)
    (room : length gs < 8) where
  abbrev now_counted : Counted
  now_counted = counted_at (names_over ps known) (variables_over from ps vars) d.compounds

  -- Seven less than those read may follow this one.
  reads_next : goals 8 (counted_at known vars c.compounds) (piece (tokens_in from rest c.at))
      ≡ read_on (goals (suc (7 - length gs)) now_counted (piece (tokens_in from rest d.at))) (λ hs. give (gs ++ hs))
  reads_next =
      let e : 8 - length gs ≡ suc (7 - length gs) = omega arith in
      rw e at t.reads

  -- The goal is not read: what it changed lies in its item's compounds.
  within : (s' : List ℕ) → base + item_compounds ≤ trial_base → Only (item_start base) (item_end base) s s' → Only 0 trial_region s₀ s'
  within s' small only =
      only_then 0 trial_region s₀ s s' t.only (only_wider (item_start base) (item_end base) 0 trial_region s s' (omega arith) (omega arith) only)

  pub partly_unread : (u : Unread) (s' names' item' : List ℕ) → base + item_compounds ≤ trial_base
      → ReadIs as_term goal text rest from base (names_over ps known) (variables_over from ps vars) d s item s' names' item' (Err u)
      → EndIs (goals_part place) (goals 8) text rest from base known vars c s₀ item₀ s' names' item' (Err u)
  unfolding read_on
  partly_unread (Malformed p) s' names' item' small bad = (
    rw (reads_next, goals_malformed (7 - length gs) now_counted (piece (tokens_in from rest d.at)) (from + p) bad.0),
    bad.1,
    within s' small bad.2,
  )
  partly_unread Exceeded s' names' item' small bad = (
    rw (reads_next, goals_passed (7 - length gs) now_counted (piece (tokens_in from rest d.at)) bad.0),
    within s' small bad.1,
  )

  module _ (s' names' item' : List ℕ) (w : ℕ) (e : Cursor) (g : Named) (qs : List Placed)
      (gave : Gave as_term goal text rest from base (names_over ps known) (variables_over from ps vars) d s item s' names' item' w e g qs)
      (small : base + item_compounds ≤ trial_base) (low : place + 8 ≤ trial_region) where
    abbrev known'' : List Place
    known'' = names_over qs (names_over ps known)

    abbrev vars'' : List Place
    vars'' = variables_over from qs (variables_over from ps vars)

    grown_stored : set s' (place + length gs) w ≡ goals_stored (item_places known'' base) place (gs ++ (g ∷ [])) s₀
    grown_stored =
        rw (
          gave.word_is,
          gave.stored_is,
          t.stored_is,
          goals_snoc (item_places known'' base) place gs g s₀,
          still_goals (names_over ps known) known'' base (names_more qs (names_over ps known)) place gs s₀ t.known_names,
        )

    grown_known : GoalsKnown (spellings known'') (gs ++ (g ∷ []))
    grown_known =
        known_snoc (spellings known'') gs g
        (still_known (names_over ps known) known'' base (names_more qs (names_over ps known)) gs t.known_names)
        gave.known_names

    grown_halves : (h : Half) (n : ℕ) → n < 16
        → get_or item' (half_place h n) 0 ≡ min 2 (get_or item₀ (half_place h n) 0 + goals_occurrences h n (gs ++ (g ∷ [])))
    grown_halves h n few = omega (arith, gave.halves h n few, t.halves h n few, occurrences_snoc h n gs g)

    grown_only : Only 0 trial_region s₀ (set s' (place + length gs) w)
    grown_only =
        only_then 0 trial_region s₀ s' (set s' (place + length gs) w) (within s' small (gave_only gave))
        (only_set 0 trial_region s' (place + length gs) w (omega arith) (omega arith))

    pub partly_other : (m : Misplaced) → StopsAt (one_of (44 ∷ 46 ∷ [])) rest e.at m
        → EndIs (goals_part place) (goals 8) text rest from base known vars c s₀ item₀ (set s' (place + length gs) w) names' item' (Err (Malformed m.0))
    unfolding read_on
    partly_other m stops = (
      rw (
        reads_next,
        goals_other (7 - length gs) now_counted (counted_at known'' vars'' e.compounds) (piece (tokens_in from rest d.at)) (tokens_in from rest e.at) g
            gave.reads (from + m.0) (stops.1 from),
      ),
      stops.0,
      grown_only,
    )

    -- A comma: more goals follow.
    pub partly_comma : (behind : ℕ) (next : SignAt rest e.at 44 behind)
        → Partly text rest from base place known vars c s₀ item₀ (set s' (place + length gs) w) names' item' (moved_to e behind)
        (gs ++ (g ∷ [])) (ps ++ (qs ++ (record { at = from + next.place; token = sign 44 } ∷ [])))
    unfolding read_on before names_over variables_over with_name with_variable Open is byte
    partly_comma behind next =
        let comma : List Placed = record { at = from + next.place; token = sign 44 } ∷ [] in
        let eN : names_over (ps ++ (qs ++ comma)) known ≡ known'' = names_append ps (qs ++ comma) known ∙ names_append qs comma (names_over ps known) in
        let eV : variables_over from (ps ++ (qs ++ comma)) vars ≡ vars'' =
        variables_append from ps (qs ++ comma) vars ∙ variables_append from qs comma (variables_over from ps vars) in
        let eL : 8 - length (gs ++ (g ∷ [])) ≡ 7 - length gs = omega (arith, length_snoc gs g) in
        let there : tokens_in from rest e.at ≡ token (from + next.place) (sign 44) (tokens_in from rest behind) = next.follows from in
        record {
          reads =
              rw (
                eN,
                eV,
                eL,
                reads_next,
                goals_comma (7 - length gs) now_counted (counted_at known'' vars'' e.compounds) (piece (tokens_in from rest d.at)) (tokens_in from rest e.at) g
                    gave.reads (from + next.place) (tokens_in from rest behind) there,
              )
              (behind_goals gs g (goals (7 - length gs) (counted_at known'' vars'' e.compounds) (piece (tokens_in from rest behind))));
          follows =
              t.follows ∙ ap (before ps) (gave.follows ∙ ap (before qs) there ∙ sym (before_append qs comma (tokens_in from rest behind)))
              ∙ sym (before_append ps (qs ++ comma) (tokens_in from rest behind));
          no_stop = open_append ps (qs ++ comma) t.no_stop (open_append qs comma gave.no_stop (refl, tt));
          stands = rw (eN, eV) (stands_moved behind gave.stands next.inside);
          stored_is = rw eN grown_stored;
          known_names = rw eN grown_known;
          halves = grown_halves;
          only = grown_only;
        }

    -- The full stop: all goals have been read.
    pub partly_stop : (behind i : ℕ) → i ≡ length gs + 1 → (next : SignAt rest e.at 46 behind)
        → Ended (goals_part place) (goals 8) text rest from base known vars c s₀ item₀ (set s' (place + length gs) w) names' item' i (moved_to e behind)
        (gs ++ (g ∷ [])) (ps ++ qs) (from + next.place)
    unfolding read_on goals_part give
    partly_stop behind i count next =
        let eN : names_over (ps ++ qs) known ≡ known'' = names_append ps qs known in
        let eV : variables_over from (ps ++ qs) vars ≡ vars'' = variables_append from ps qs vars in
        let there : tokens_in from rest e.at ≡ token (from + next.place) (sign 46) (tokens_in from rest behind) = next.follows from in
        record {
          reads =
              rw (
                eN,
                eV,
                reads_next,
                goals_stop (7 - length gs) now_counted (counted_at known'' vars'' e.compounds) (piece (tokens_in from rest d.at)) (tokens_in from rest e.at) g
                    gave.reads (from + next.place) (tokens_in from rest behind) there,
              );
          follows =
              t.follows ∙ ap (before ps) (gave.follows ∙ ap (before qs) there)
              ∙ sym (before_append ps qs (token (from + next.place) (sign 46) (tokens_in from rest behind)));
          no_stop = open_append ps qs t.no_stop gave.no_stop;
          forward = omega (arith, next.forward);
          stands = rw (eN, eV) (stands_moved behind gave.stands next.inside);
          size_is = omega (arith, length_snoc gs g);
          stored_is = rw eN grown_stored;
          known_names = rw eN grown_known;
          halves = grown_halves;
          only = grown_only;
        }
