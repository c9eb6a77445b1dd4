-- A query read: nothing occurs twice in it, and its words are the definitions', with where its variables first stand.
use Prim.Native.Nat.{ℕ, zero, suc, ◌+◌, ◌≤◌, ◌<◌}
use mathlib.Core.Path.{◌≡◌, refl, ap, sym, ◌∙◌}
use mathlib.Core.Bool.{true, false}
use mathlib.Core.List.{List, [], ◌∷◌, map}
use mathlib.Core.Option.{none, some}
use native.Mathlib.Omega.{arith}
use lib.ListN.{length, get_or, set, replicate, length-replicate}
use Rattle.std.specs.Prelude.{None, Err}
use Rattle.meaning.specs.Bytes.{Bytes, byte}
use Rattle.meaning.specs.Terms.{Half, Named, Query, goals_occurrences}
use Rattle.meaning.specs.Tokens.{sign, Tokens, ends, token}
use Rattle.meaning.specs.Faults.{Fault, occurs_at, pairing, query_faults, least}
use Rattle.meaning.specs.Items.{query, refused, no_item, occurrence_rule, figure, read, malformed, passed, is, goals, place_of, unless_broken, query_piece, item}
use Rattle.term.specs.Frames.{Only}
use Rattle.term.proofs.Frames.{only_set, only_then}
use Rattle.term.specs.Layout.{trial_region, query_record, query_base, query_pairs_word, query_compounds_word, query_goals_from, query_variables_from}
use Rattle.load_tokens.specs.Fronts.{tokens_in}
use Rattle.load_names.specs.Places.{Place, Placed, spellings, before, names_over, variables_over, with_name, with_variable}
use Rattle.load_openings.specs.Reading.{piece, counted_at, Open}
use Rattle.load_names.specs.Rules.{none_twice}
use Rattle.load_image.specs.Kept.{pairs_kept}
use Rattle.load_image.specs.Image.{so_far, query_stored, places_stored}
use Rattle.load_goals.specs.Endings.{goals_part, Ended, EndIs}
use Rattle.load_items.specs.Outcomes.{Begins, TookQuery, RefusedIs, shifted}
use Rattle.load_items.specs.Refusing.{refused_as}
use Rattle.load_openings.specs.declared.cursor.Cursor.{Cursor}
use Rattle.load_openings.specs.declared.cursor.Unread.{Unread}
use Rattle.load_openings.specs.declared.cursor.Unread.TheVariants as unread
use Rattle.load_names.proofs.Numbering.{spellings_length}
use Rattle.load_faults.specs.Finding.{Searches}
use Rattle.load_faults.proofs.Sound.{goals_sound}
use Rattle.laws.proofs.Lists.Pigeonhole.{Distinct}
use Rattle.laws.proofs.Reading.Rules.{nothing_twice}
use Rattle.laws.proofs.Reading.Broken.{none_free}
use Rattle.laws.proofs.Reading.Passed.{by_number}
use Rattle.laws.proofs.Reading.Occurring.{goals_counts}
use Rattle.laws.proofs.Reading.Faultless.{item_counts}
use Rattle.load_items.proofs.Occurrence.{twice_is}
use Rattle.load_items.proofs.Faulty.{variables_distinct, piece_cut, item_rising, query_clean, query_fault, searches, searches_from}
use Rattle.load_items.proofs.PlacesKept.{kept_places, kept_only}
use Rattle.load_items.proofs.Starts.{halves_from_none, query_many, query_reads}

-- The same words at the same places.
three_words : (l l' : List ℕ) (i j k v v' n n' w w' : ℕ) → l ≡ l' → v ≡ v' → n ≡ n' → w ≡ w'
    → set (set (set l i v) j n) k w ≡ set (set (set l' i v') j n') k w'
three_words l l' i j k v v' n n' w w' a b c d = rw (a, b, c, d)

-- In a query no reader is free.
zeros : (k n : ℕ) → ◌≡◌ {A = ℕ} (get_or (replicate k 0) n 0) 0
zeros zero n = refl
zeros (suc k) zero = refl
zeros (suc k) (suc n) = zeros k n

none_licensed : (n : ℕ) → ◌≡◌ {A = ℕ} (get_or (replicate 16 0) n 0) 0
none_licensed n = zeros 16 n

module _ (p : ℕ) (whole : Tokens) (gs : List Named) (names vars : List Place) (compounds : ℕ) (ts : Tokens) where
  judged_kept : least (query_faults whole (spellings vars)) ≡ none
      → query_piece p whole (read gs (counted_at names vars compounds) ts)
      ≡ query (record { goals = gs; variables = spellings vars; compounds = compounds }) (spellings names)
  unfolding query_piece counted_at unless_broken
  judged_kept h = rw h

  judged_broken : (f : Fault) → least (query_faults whole (spellings vars)) ≡ some f
      → query_piece p whole (read gs (counted_at names vars compounds) ts) ≡ refused (occurrence_rule p f)
  unfolding query_piece counted_at unless_broken
  judged_broken f h = rw h

module _ (text rest : Bytes) (from : ℕ) (names item₀ : List ℕ) (count₀ : ℕ) (known : List Place) (b : Begins text rest from names item₀ count₀ known)
    (clauses k begins : ℕ) (s heads : List ℕ)
    (tokens : tokens_in from rest 0 ≡ token (from + begins) (sign 63) (tokens_in from rest (begins + 2))) where
  pub query_passes : 8 ≤ k → item (so_far known clauses k) (piece (tokens_in from rest 0)) ≡ refused (figure (from + begins))
  query_passes h = rw tokens (query_many known clauses k (from + begins) (tokens_in from rest (begins + 2)) h)

  module _ (few : k < 8) (c : Cursor) (at_first : c.at ≡ begins + 2) (none_yet : c.compounds ≡ 0) where
    reads_goals : item (so_far known clauses k) (piece (tokens_in from rest 0))
        ≡ query_piece (from + begins) (piece (tokens_in from rest c.at)) (goals 8 (counted_at known [] c.compounds) (piece (tokens_in from rest c.at)))
    reads_goals = rw (at_first, none_yet, tokens) (query_reads known clauses k (from + begins) (tokens_in from rest (begins + 2)) few)

    query_malformed : (a : ℕ) → goals 8 (counted_at known [] c.compounds) (piece (tokens_in from rest c.at)) ≡ malformed (from + a)
        → item (so_far known clauses k) (piece (tokens_in from rest 0)) ≡ refused (no_item (from + a))
    unfolding query_piece
    query_malformed a h = rw (reads_goals, h)

    query_passed : goals 8 (counted_at known [] c.compounds) (piece (tokens_in from rest c.at)) ≡ passed
        → item (so_far known clauses k) (piece (tokens_in from rest 0)) ≡ refused (figure (from + begins))
    unfolding query_piece
    query_passed h = rw (reads_goals, h)

    pub query_unread : (s' names' item' : List ℕ) (why : Unread)
        → EndIs (goals_part (query_goals_from k)) (goals 8) text rest from (query_base k) known [] c s item₀ s' names' item' (Err why)
        → RefusedIs rest from known clauses k begins s s' (refused_as why)
    query_unread s' names' item' (unread.Malformed a) (h, inside, only) = (query_malformed a h, inside, only)
    query_unread s' names' item' unread.Exceeded (h, only) = (query_passed h, only)

    module _ (s' names' item' : List ℕ) (w : ℕ) (c' : Cursor) (gs : List Named) (ps : List Placed) (stop : ℕ)
        (t : Ended (goals_part (query_goals_from k)) (goals 8) text rest from (query_base k) known [] c s item₀ s' names' item' w c' gs ps stop) where
      abbrev known' : List Place
      known' = names_over ps known

      abbrev vars' : List Place
      vars' = variables_over from ps []

      pub many : c'.variables ≤ 16
      many = omega (arith, t.stands.variables_count, t.stands.variables_in.few)

      twice : none_twice item' c'.variables ≡ nothing_twice c'.variables gs
      unfolding goals_part
      twice = twice_is item' gs c'.variables many (halves_from_none item₀ item' gs b.empty t.halves)

      reads_all : item (so_far known clauses k) (piece (tokens_in from rest 0))
          ≡ query_piece (from + begins) (piece (tokens_in from rest c.at)) (read gs (counted_at known' vars' c'.compounds) (ends stop))
      reads_all = reads_goals ∙ ap (query_piece (from + begins) (piece (tokens_in from rest c.at))) t.reads

      whole : Tokens
      whole = piece (tokens_in from rest c.at)

      distinct : Distinct (spellings vars')
      unfolding Distinct spellings
      distinct = variables_distinct from ps [] tt

      counts : (h : Half) (x : Bytes) → length (occurs_at h x whole) ≡ by_number (place_of x (spellings vars')) (λ n. goals_occurrences h n gs)
      unfolding whole counted_at
      counts =
          item_counts (λ h n. goals_occurrences h n gs) (counted_at known [] c.compounds) (counted_at known' vars' c'.compounds) whole (ends stop)
          ((goals_counts 8).over (counted_at known [] c.compounds) whole gs (counted_at known' vars' c'.compounds) (ends stop) t.reads) (piece_cut (tokens_in from rest c.at))

      -- Something occurs twice: there is a least fault, and the search for it has what it asks.
      pub query_broken : none_twice item' c'.variables ≡ false
          → (f : Fault) × (item (so_far known clauses k) (piece (tokens_in from rest 0)) ≡ refused (occurrence_rule (from + begins) f))
          × Searches rest from item' c'.variables false (begins + 2) None (replicate 16 0) vars' none_free none f
      unfolding whole goals_part pairing
      query_broken h =
          let size : length (spellings vars') ≡ c'.variables = spellings_length vars' ∙ sym t.stands.variables_count in
          let once : nothing_twice c'.variables gs ≡ false = sym twice ∙ h in
          let (f, is_least, is_first) = query_fault whole (spellings vars') gs distinct (item_rising from rest c.at) counts (rw size once) in (
            f,
            reads_all ∙ judged_broken (from + begins) whole gs known' vars' c'.compounds (ends stop) f is_least,
            searches_from rest from item' (replicate 16 0) c'.variables false c.at (begins + 2) None vars' none_free none f at_first
                (searches rest from c.at None item' (replicate 16 0) c'.variables vars' gs none_free none t.stands.variables_in t.stands.variables_count tt
                (halves_from_none item₀ item' gs b.empty t.halves)
                (goals_sound (counted_at known [] c.compounds) (counted_at known' vars' c'.compounds) whole gs stop t.reads) counts (length-replicate {A = ℕ} 16 0)
                (λ x n e. rw (none_licensed n) refl) false f is_first),
          )

      the_query : Query
      the_query = record { goals = gs; variables = spellings vars'; compounds = c'.compounds }

      query_kept : none_twice item' c'.variables ≡ true
          → item (so_far known clauses k) (piece (tokens_in from rest 0)) ≡ query the_query (spellings known')
      unfolding the_query whole
      query_kept h =
          let size : length (spellings vars') ≡ c'.variables = spellings_length vars' ∙ sym t.stands.variables_count in
          let once = sym twice ∙ h in
          reads_all ∙ judged_kept (from + begins) whole gs known' vars' c'.compounds (ends stop)
          (query_clean whole (spellings vars') gs distinct (item_rising from rest c.at) counts (rw size once))

      abbrev counted_words : ℕ → ℕ → List ℕ
      counted_words v n = set (set (set s' (query_record k) w) (query_pairs_word k) v) (query_compounds_word k) n

      kept_words : (v n : ℕ) → v ≡ c'.variables → n ≡ c'.compounds
          → pairs_kept item' from (query_variables_from k) c'.variables (counted_words v n)
          ≡ query_stored known' k the_query (map (shifted from) vars') s
      unfolding the_query goals_part query_stored
      kept_words v n ev en =
          let counts = t.stands.variables_count in
          rw counts
          (kept_places item' from (query_variables_from k) vars' (counted_words v n) t.stands.variables_in.starts t.stands.variables_in.lengths)
          ∙ ap (places_stored (query_variables_from k) (map (shifted from) vars'))
          (three_words s' _ (query_record k) (query_pairs_word k) (query_compounds_word k) w (length gs) v (length (spellings vars')) n c'.compounds
          t.stored_is t.size_is (ev ∙ counts ∙ sym (spellings_length vars')) en)

      pub query_took : (s'' : List ℕ) (v n : ℕ) → none_twice item' c'.variables ≡ true → v ≡ c'.variables → n ≡ c'.compounds
          → s'' ≡ pairs_kept item' from (query_variables_from k) c'.variables (counted_words v n)
          → (q : Query) × (ps : List Placed) × (stop : ℕ)
          × TookQuery text rest from known clauses k s heads s'' names' heads c'.at c'.names q ps stop
          × Only 0 trial_region s s''
      unfolding the_query goals_part before names_over variables_over with_name with_variable Open is byte
      query_took s'' v n h ev en e =
          let s₁ = set s' (query_record k) w in
          let s₂ = set s₁ (query_pairs_word k) v in
          let s₃ = set s₂ (query_compounds_word k) n in (
            the_query,
            record { at = from + begins; token = sign 63 } ∷ ps,
            stop,
            record {
              took = record {
                follows = tokens ∙ ap (λ ts. token (from + begins) (sign 63) ts) (rw at_first at t.follows);
                no_stop = (refl, t.no_stop);
                forward = t.forward;
                inside = t.stands.inside;
                names_in = t.stands.names_in;
                count_is = t.stands.names_count;
              };
              reads = query_kept h;
              stored_is = e ∙ kept_words v n ev en;
              noted = refl;
              known_names = t.known_names;
              few = few;
            },
            rw e
                (only_then 0 trial_region s s₃ (pairs_kept item' from (query_variables_from k) c'.variables s₃)
                (only_then 0 trial_region s s₂ s₃
                (only_then 0 trial_region s s₁ s₂ (only_then 0 trial_region s s' s₁ t.only (only_set 0 trial_region s' (query_record k) w (omega arith) (omega arith)))
                (only_set 0 trial_region s₁ (query_pairs_word k) v (omega arith) (omega arith)))
                (only_set 0 trial_region s₂ (query_compounds_word k) n (omega arith) (omega arith)))
                (kept_only item' from (query_variables_from k) c'.variables trial_region s₃ (omega (arith, many)))),
          )
