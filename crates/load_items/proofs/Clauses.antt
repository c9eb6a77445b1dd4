-- A clause read: its guards and the rules are judged after its full stop, and its words are the definitions'.
use Prim.Native.Nat.{ℕ, ◌+◌, ◌≤◌, ◌<◌, min}
use mathlib.Core.Path.{◌≡◌, refl, ap, sym, ◌∙◌}
use mathlib.Core.Bool.{Bool, true, false, not, ◌&&◌}
use mathlib.Core.List.{List, [], ◌∷◌}
use mathlib.Core.Option.{none, some}
use native.Mathlib.Omega.{arith}
use lib.Dec.{eqb}
use lib.ListN.{length, get_or, set, take, drop, length-drop}
use lib.Seq.{get_or-drop, take_all}
use Rattle.std.specs.Prelude.{Err}
use Rattle.meaning.specs.Bytes.{Bytes, all, when◌then◌else◌}
use Rattle.meaning.specs.Terms.{Half, writer, reader, Guard, Clause, all_occurrences, goals_occurrences}
use Rattle.meaning.specs.Tokens.{name, Tokens, ends, token}
use Rattle.meaning.specs.Faults.{Fault, occurs_at, pairing, head_tokens, clause_faults, least}
use Rattle.meaning.specs.Table.{as_guards, of_the_head, licensed}
use Rattle.meaning.specs.Items.{
  Counted,
  Rule,
  Piece,
  clause,
  refused,
  no_item,
  guard_rule,
  occurrence_rule,
  figure,
  read,
  malformed,
  passed,
  rule,
  place_of,
  unless_broken,
  free,
  with_guards,
  unless_unknown,
  clause_piece,
  item,
}
use Rattle.term.specs.Frames.{Only}
use Rattle.term.proofs.Frames.{only_set, only_then}
use Rattle.term.specs.Layout.{trial_region, clause_base, clause_pairs_word, clause_compounds_word, clause_goals_word, clause_guards_word}
use Rattle.load_tokens.specs.Fronts.{tokens_in}
use Rattle.load_names.specs.Places.{Place, Placed, spellings, names_over, variables_over}
use Rattle.load_openings.specs.Reading.{piece, counted_at, half_place}
use Rattle.load_names.specs.Rules.{clause_kept}
use Rattle.load_image.specs.Image.{so_far, clause_stored}
use Rattle.load_goals.specs.Endings.{Ended}
use Rattle.load_guards.specs.Judged.{head_place, Counts}
use Rattle.load_items.specs.Rules.{rule_part, RuledIs}
use Rattle.load_items.specs.Outcomes.{TookClause, RefusedIs}
use Rattle.load_items.specs.declared.refused.Refused.{Refused}
use Rattle.load_items.specs.declared.refused.Refused.TheVariants.{Malformed, Unknown, Broken, Exceeded}
use Rattle.load_items.specs.Judging.{Whole, Judging}
use Rattle.load_items.specs.declared.rule.Ruled.{Ruled}
use Rattle.load_openings.specs.declared.cursor.Cursor.{Cursor}
use Rattle.load_names.proofs.Numbering.{spellings_length}
use Rattle.load_faults.specs.Finding.{Searches}
use Rattle.load_faults.proofs.Sound.{rule_sound, sound_among}
use Rattle.laws.proofs.Lists.Pigeonhole.{Distinct}
use Rattle.laws.proofs.Reading.Rules.{nothing_twice_but, both_halves}
use Rattle.laws.proofs.Reading.Passed.{Cut, by_number}
use Rattle.laws.proofs.Reading.Rising.{Rising}
use Rattle.laws.proofs.Reading.Bodies.{OverRule, rule_counts}
use Rattle.laws.proofs.Reading.RuleTokens.{head_of_pairing, head_counts, paired_counts, paired_rising, paired_stands}
use Rattle.laws.proofs.Reading.Counting.{place_below}
use Rattle.laws.proofs.Reading.Items.{free_licensed}
use Rattle.load_items.proofs.Occurrence.{clause_kept_is}
use Rattle.load_items.proofs.Faulty.{variables_distinct, piece_cut, item_rising, clause_clean, clause_fault, searches, searches_from}
use Rattle.load_items.proofs.Starts.{no_halves, halves_from_none, clause_many, clause_reads}

-- The same words at the same places.
pub four_words : (l l' : List ℕ) (i j k m v v' n n' w w' u u' : ℕ) → l ≡ l' → v ≡ v' → n ≡ n' → w ≡ w' → u ≡ u'
    → set (set (set (set l i v) j n) k w) m u ≡ set (set (set (set l' i v') j n') k w') m u'
four_words l l' i j k m v v' n n' w w' u u' a b c d e = rw (a, b, c, d, e)

module _ (nth p : ℕ) (whole : Tokens) (r : Rule) (names vars : List Place) (compounds : ℕ) (ts : Tokens) where
  judged_unknown : as_guards r.body.guards ≡ none → clause_piece nth p whole (read r (counted_at names vars compounds) ts) ≡ refused (guard_rule p)
  unfolding clause_piece unless_unknown
  judged_unknown e = rw e

  module _ (gs : List Guard) (known : as_guards r.body.guards ≡ some gs) where
    judged_strange : all (of_the_head (length vars) r.head) gs ≡ false
        → clause_piece nth p whole (read r (counted_at names vars compounds) ts) ≡ refused (guard_rule p)
    unfolding clause_piece unless_unknown with_guards counted_at when◌then◌else◌
    judged_strange h = rw (known, spellings_length vars, h)

    abbrev faults : List Fault
    faults = clause_faults (free gs (spellings vars)) (pairing r.body.behind whole) (spellings vars)

    judged_kept : all (of_the_head (length vars) r.head) gs ≡ true → least faults ≡ none
        → clause_piece nth p whole (read r (counted_at names vars compounds) ts)
        ≡ clause (record { place = nth; head = r.head; guards = gs; body = r.body.goals; pairs = length vars; compounds = compounds }) (spellings names)
    unfolding clause_piece unless_unknown with_guards counted_at unless_broken when◌then◌else◌
    judged_kept h k = rw (known, spellings_length vars, h, k)

    judged_broken : all (of_the_head (length vars) r.head) gs ≡ true → (f : Fault) → least faults ≡ some f
        → clause_piece nth p whole (read r (counted_at names vars compounds) ts) ≡ refused (occurrence_rule p f)
    unfolding clause_piece unless_unknown with_guards counted_at unless_broken when◌then◌else◌
    judged_broken h f k = rw (known, spellings_length vars, h, k)

-- By what the reading of its head and body answered.
module _ (rest : Bytes) (from : ℕ) (known : List Place) (k queries begins : ℕ) (f : Bytes) (ts : Tokens)
    (tokens : tokens_in from rest 0 ≡ token (from + begins) (name f) ts) where
  pub clause_passes : 128 ≤ k → item (so_far known k queries) (piece (tokens_in from rest 0)) ≡ refused (figure (from + begins))
  clause_passes h = rw tokens (clause_many known k queries (from + begins) ts f h)

  module _ (few : k < 128) (c : Cursor) (at_first : c.at ≡ 0) (none_yet : c.compounds ≡ 0) where
    pub reads_rule : item (so_far known k queries) (piece (tokens_in from rest 0))
        ≡ clause_piece (k + 1) (from + begins) (piece (tokens_in from rest c.at)) (rule (counted_at known [] c.compounds) (piece (tokens_in from rest c.at)))
    reads_rule = rw (at_first, none_yet, tokens) (clause_reads known k queries (from + begins) ts f few)

    clause_malformed : (a : ℕ) → rule (counted_at known [] c.compounds) (piece (tokens_in from rest c.at)) ≡ malformed (from + a)
        → item (so_far known k queries) (piece (tokens_in from rest 0)) ≡ refused (no_item (from + a))
    unfolding clause_piece
    clause_malformed a h = rw (reads_rule, h)

    clause_passed : rule (counted_at known [] c.compounds) (piece (tokens_in from rest c.at)) ≡ passed
        → item (so_far known k queries) (piece (tokens_in from rest 0)) ≡ refused (figure (from + begins))
    unfolding clause_piece
    clause_passed h = rw (reads_rule, h)

    clause_unknown : (r : Rule) (d : Counted) (left : Tokens) → rule (counted_at known [] c.compounds) (piece (tokens_in from rest c.at)) ≡ read r d left
        → as_guards r.body.guards ≡ none → item (so_far known k queries) (piece (tokens_in from rest 0)) ≡ refused (guard_rule (from + begins))
    unfolding clause_piece unless_unknown
    clause_unknown r d left h e = rw (reads_rule, h, e)

    pub clause_refused : (text : Bytes) (s item heads s' names' item' heads' h₁ g₁ l₁ : List ℕ) (why : Refused)
        → RuledIs k text rest from known [] c s item heads s' names' item' heads' h₁ g₁ l₁ (Err why) → RefusedIs rest from known k queries begins s s' why
    clause_refused text s item heads s' names' item' heads' h₁ g₁ l₁ (Malformed a) (h, inside, only) = (clause_malformed a h, inside, only)
    clause_refused text s item heads s' names' item' heads' h₁ g₁ l₁ Unknown (r, d, left, h, e, only) = (clause_unknown r d left h e, only)
    clause_refused text s item heads s' names' item' heads' h₁ g₁ l₁ Exceeded (h, only) = (clause_passed h, only)
    clause_refused text s item heads s' names' item' heads' h₁ g₁ l₁ (Broken fault) told = absurd told

-- The head's counts are the last part of their table.
pub part_counts : (l : List ℕ) (n : ℕ) → length l ≤ 32 + n → (i : ℕ) → get_or (take n (drop 32 l)) i 0 ≡ get_or l (32 + i) 0
part_counts l n enough i = ap (λ m. get_or m i 0) (take_all n (drop 32 l) (omega (arith, length-drop 32 l))) ∙ get_or-drop 32 l i 0

-- Judged behind its full stop.
module _ (rest : Bytes) (s table in_head in_guards licences : List ℕ) (k : ℕ) (ruled : Ruled) (w : Whole) (few : k < 128)
    (j : Judging rest s table in_head in_guards licences k ruled w)
    (part : List ℕ) (part_is : (i : ℕ) → get_or part i 0 ≡ get_or in_head (32 + i) 0) where
  abbrev c : Cursor
  c = ruled.cursor

  abbrev begins : ℕ
  begins = w.begins

  abbrev from : ℕ
  from = w.from

  abbrev r : Rule
  r = w.rule

  abbrev gs : List Guard
  gs = w.guards

  abbrev known' : List Place
  known' = names_over w.passed w.known

  abbrev vars' : List Place
  vars' = variables_over from w.passed []

  abbrev before : Counted
  before = counted_at w.known [] w.start.compounds

  abbrev after : Counted
  after = counted_at known' vars' c.compounds

  abbrev ended : Ended (rule_part k gs) rule w.text rest from (clause_base k) w.known [] w.start w.scratch w.item s w.names' table ruled.goals c r w.passed w.stop
  ended = j.was_read.ended

  whole : Tokens
  whole = piece (tokens_in from rest w.start.at)

  pairs_are : length vars' ≡ c.variables
  pairs_are = sym ended.stands.variables_count

  pub many : c.variables ≤ 16
  many = omega (arith, ended.stands.variables_count, ended.stands.variables_in.few)

  in_head_so : (h : Half) (m : ℕ) → m < 16 → get_or part (head_place h m) 0 ≡ min 2 (all_occurrences h m r.head.arguments)
  unfolding head_place half_place
  in_head_so h m l = moved h ∙ counted_so
    where
      moved : (h : Half) → get_or part (head_place h m) 0 ≡ get_or in_head (half_place h m) 0
      moved writer = part_is m
      moved reader =
          let at : 32 + (16 + m) ≡ 48 + m = omega arith in
          part_is (16 + m) ∙ ap (λ i. get_or in_head i 0) at

      counted_so : get_or in_head (half_place h m) 0 ≡ min 2 (all_occurrences h m r.head.arguments)
      counted_so =
          let zero_there : get_or w.item (half_place h m) 0 ≡ 0 = rw j.empty (no_halves h m l) in
          omega (arith, j.was_read.in_head h m l, zero_there)

  pub counts_are : Counts in_guards part r.head r.body.guards
  counts_are = record { in_elements = j.was_read.guards_are.counted; in_head = in_head_so }

  halves : (h : Half) (m : ℕ) → m < 16 → get_or table (half_place h m) 0 ≡ min 2 (goals_occurrences h m (r.head ∷ r.body.goals))
  unfolding rule_part
  halves = halves_from_none w.item table (r.head ∷ r.body.goals) j.empty ended.halves

  abbrev rules : Bool
  rules = nothing_twice_but (licensed gs) c.variables r.head r.body.goals && both_halves c.variables (r.head ∷ r.body.goals)

  kept_is : clause_kept table part licences c.variables ≡ rules
  kept_is =
      clause_kept_is table part licences r.head r.body.goals (licensed gs) c.variables many halves in_head_so j.was_read.guards_are.licences.licences

  over : OverRule before whole r after (ends w.stop)
  unfolding whole
  over = rule_counts before whole r after (ends w.stop) ended.reads

  cut : Cut whole
  unfolding whole
  cut = piece_cut (tokens_in from rest w.start.at)

  abbrev paired : Tokens
  paired = pairing r.body.behind whole

  counts : (h : Half) (x : Bytes) → length (occurs_at h x paired) ≡ by_number (place_of x (spellings vars')) (λ n. goals_occurrences h n (r.head ∷ r.body.goals))
  unfolding counted_at
  counts h x = paired_counts over cut h x

  head_tokens_so : (h : Half) (x : Bytes) → length (occurs_at h x (head_tokens paired)) ≡ by_number (place_of x (spellings vars')) (λ n. all_occurrences h n r.head.arguments)
  unfolding counted_at
  head_tokens_so h x = rw (head_of_pairing r.body.behind whole) (head_counts over cut h x)

  distinct : Distinct (spellings vars')
  unfolding Distinct spellings
  distinct = variables_distinct from w.passed [] tt

  rising : Rising 0 paired
  unfolding whole
  rising = paired_rising over cut 0 (item_rising from rest w.start.at)

  abbrev freed : Bytes → Bool
  freed = free gs (spellings vars')

  size : length (spellings vars') ≡ c.variables
  size = spellings_length vars' ∙ pairs_are

  module _ (queries : ℕ) where
    abbrev reading : Piece
    reading = item (so_far w.known k queries) (piece (tokens_in from rest 0))

    reads_all : reading ≡ clause_piece (k + 1) (from + begins) whole (read r after (ends w.stop))
    unfolding whole
    reads_all =
        reads_rule rest from w.known k queries begins w.first w.behind j.tokens few w.start j.at_first.0 j.at_first.1
        ∙ ap (clause_piece (k + 1) (from + begins) whole) ended.reads

    pub clause_strange : (strange : Bool) → strange ≡ not (all (of_the_head c.variables r.head) gs) → strange ≡ true → reading ≡ refused (guard_rule (from + begins))
    clause_strange strange e h =
        reads_all ∙ judged_strange (k + 1) (from + begins) whole r known' vars' c.compounds (ends w.stop) gs j.was_read.guards_are.in_table
        (rw pairs_are (other_way (all (of_the_head c.variables r.head) gs) (sym e ∙ h)))
      where
        other_way : (b : Bool) → not b ≡ true → b ≡ false
        other_way true q = sym q
        other_way false q = refl

    module _ (strange : Bool) (e : strange ≡ not (all (of_the_head c.variables r.head) gs)) (of_head : strange ≡ false) where
      heads_only : all (of_the_head (length vars') r.head) gs ≡ true
      heads_only = rw pairs_are (other_way (all (of_the_head c.variables r.head) gs) (sym e ∙ of_head))
        where
          other_way : (b : Bool) → not b ≡ false → b ≡ true
          other_way true q = refl
          other_way false q = sym q

      -- A rule is broken: there is a least fault, and the search for it has what it asks.
      pub broken : clause_kept table part licences c.variables ≡ false
          → (f : Fault) × (reading ≡ refused (occurrence_rule (from + begins) f))
          × Searches rest from table c.variables true 0 ruled.bar licences vars' freed r.body.behind f
      unfolding whole when◌then◌else◌
      broken h =
          let (f, is_least, is_first) = clause_fault freed paired (spellings vars') r.head r.body.goals distinct rising counts head_tokens_so (licensed gs)
          (free_licensed gs (spellings vars')) (rw size (sym kept_is ∙ h)) in (
            f,
            reads_all ∙ judged_broken (k + 1) (from + begins) whole r known' vars' c.compounds (ends w.stop) gs j.was_read.guards_are.in_table heads_only f is_least,
            searches_from rest from table licences c.variables true w.start.at 0 ruled.bar vars' freed r.body.behind f j.at_first.0
                (searches rest from w.start.at ruled.bar table licences c.variables vars' (r.head ∷ r.body.goals) freed r.body.behind ended.stands.variables_in
                ended.stands.variables_count j.was_read.guards_are.bar_is halves
                (sound_among whole paired (rule_sound before after whole r w.stop ended.reads) (paired_stands over cut)) counts
                j.was_read.guards_are.licences.size frees true f is_first),
          )
        where
          flag : (b : Bool) (x : ℕ) → x ≡ (when b then 1 else 0) → b ≡ not (eqb x 0)
          flag true x q = rw q refl
          flag false x q = rw q refl

          frees : (x : Bytes) (n : ℕ) → place_of x (spellings vars') ≡ some n → freed x ≡ not (eqb (get_or licences n 0) 0)
          frees x n q =
              let below : n < 16 = omega (arith, place_below x (spellings vars') n q, size, many) in
              free_licensed gs (spellings vars') x n q ∙ flag (licensed gs n) (get_or licences n 0) (j.was_read.guards_are.licences.licences n below)

      the_clause : Clause
      the_clause = record { place = k + 1; head = r.head; guards = gs; body = r.body.goals; pairs = length vars'; compounds = c.compounds }

      clause_accepted : clause_kept table part licences c.variables ≡ true → reading ≡ clause the_clause (spellings known')
      unfolding the_clause
      clause_accepted h =
          reads_all ∙ judged_kept (k + 1) (from + begins) whole r known' vars' c.compounds (ends w.stop) gs j.was_read.guards_are.in_table heads_only
          (clause_clean freed paired (spellings vars') r.head r.body.goals distinct rising counts head_tokens_so (licensed gs) (free_licensed gs (spellings vars'))
          (rw size (sym kept_is ∙ h)))

      pub clause_took : (v n u : ℕ) → clause_kept table part licences c.variables ≡ true → v ≡ c.variables → n ≡ c.compounds → u ≡ ruled.guards
          → (cl : Clause) × (ps : List Placed) × (stop : ℕ)
          × TookClause w.text rest from w.known k queries w.scratch w.heads
          (set (set (set (set s (clause_pairs_word k) v) (clause_compounds_word k) n) (clause_goals_word k) ruled.goals) (clause_guards_word k) u) w.names' w.heads' c.at c.names cl ps stop
          × Only 0 trial_region w.scratch (set (set (set (set s (clause_pairs_word k) v) (clause_compounds_word k) n) (clause_goals_word k) ruled.goals) (clause_guards_word k) u)
      unfolding the_clause rule_part clause_stored
      clause_took v n u h ev en eu =
          let s₁ = set s (clause_pairs_word k) v in
          let s₂ = set s₁ (clause_compounds_word k) n in
          let s₃ = set s₂ (clause_goals_word k) ruled.goals in (
            the_clause,
            w.passed,
            w.stop,
            record {
              took = record {
                follows = rw j.at_first.0 at ended.follows;
                no_stop = ended.no_stop;
                forward = ended.forward;
                inside = ended.stands.inside;
                names_in = ended.stands.names_in;
                count_is = ended.stands.names_count;
              };
              reads = clause_accepted h;
              stored_is = four_words s _ (clause_pairs_word k) (clause_compounds_word k) (clause_goals_word k) (clause_guards_word k) v (length vars') n c.compounds
                  ruled.goals (length r.body.goals) u (length gs) ended.stored_is (ev ∙ sym pairs_are) en ended.size_is (eu ∙ sym j.was_read.guards_are.count_is);
              noted = j.was_read.noted;
              known_names = ended.known_names;
              guards_named = j.was_read.guards_are.named;
              few = (few, j.was_read.arguments_few);
            },
            only_then 0 trial_region w.scratch s₃ (set s₃ (clause_guards_word k) u)
                (only_then 0 trial_region w.scratch s₂ s₃
                (only_then 0 trial_region w.scratch s₁ s₂
                (only_then 0 trial_region w.scratch s s₁ ended.only (only_set 0 trial_region s (clause_pairs_word k) v (omega arith) (omega arith)))
                (only_set 0 trial_region s₁ (clause_compounds_word k) n (omega arith) (omega arith)))
                (only_set 0 trial_region s₂ (clause_goals_word k) ruled.goals (omega arith) (omega arith)))
                (only_set 0 trial_region s₃ (clause_guards_word k) u (omega arith) (omega arith)),
          )
