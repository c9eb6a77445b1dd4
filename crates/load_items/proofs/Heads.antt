-- A clause's head, and behind it its body, a full stop, or something that cannot stand.
use Prim.Native.Nat.{ℕ, ◌+◌, ◌≤◌, ◌<◌, min}
use mathlib.Core.Path.{◌≡◌, refl, ap, sym, ◌∙◌, subst}
use mathlib.Core.List.{List, [], ◌∷◌, ◌++◌}
use mathlib.Core.Option.{none}
use native.Mathlib.Omega.{arith}
use lib.ListN.{length, get_or, set, replicate}
use lib.Seq.{get_or-set_same}
use Rattle.std.specs.Prelude.{None, Result, Ok, Err}
use Rattle.meaning.specs.Bytes.{Bytes, byte, when◌then◌else◌}
use Rattle.meaning.specs.Terms.{Half, Named, Guard, named, as_term, count, goals_occurrences, occurrences, all_occurrences}
use Rattle.meaning.specs.Tokens.{sign, Tokens, ends, token}
use Rattle.meaning.specs.Items.{Counted, Body, read, malformed, passed, read_on, ◌>>=◌, give, is, either, goal, body, rule}
use Rattle.term.specs.Cells.{functor_word, stored, arguments_stored, Known, Numbered}
use Rattle.term.specs.Frames.{Only}
use Rattle.term.proofs.Frames.{only_then, only_wider}
use Rattle.term.proofs.Cells.{arguments_stored_only}
use Rattle.term.proofs.Names.{functor_word_more}
use Rattle.term.specs.Jobs.{GoalsKnown}
use Rattle.term.specs.Layout.{trial_region, item_start, item_end, item_place, clause_base}
use Rattle.load_tokens.specs.Fronts.{tokens_in}
use Rattle.load_names.specs.Places.{Place, Placed, spellings, before, with_name, with_variable, names_over, variables_over, item_places}
use Rattle.load_openings.specs.Reading.{piece, counted_at, half_place, Open, Gave, ReadIs}
use Rattle.load_tokens.specs.Nexts.{SignAt, one_of, Stops}
use Rattle.load_image.specs.Image.{goals_stored, guards_stored, head_word}
use Rattle.load_goals.specs.Endings.{Ended}
use Rattle.load_openings.specs.declared.cursor.Cursor.{Cursor}
use Rattle.load_openings.specs.declared.cursor.Unread.{Unread}
use Rattle.load_openings.specs.declared.cursor.Unread.TheVariants as unread
use Rattle.load_openings.proofs.Expected.{piece_open, piece_stop, either_first, either_second, either_stops}
use Rattle.load_openings.proofs.Passing.{More, names_append, variables_append, before_append, open_append, names_more, piece_stops}
use Rattle.load_goals.proofs.GoalLists.{places_more, still_stored, still_named}
use Rattle.load_openings.proofs.Given.{gave_only}
use Rattle.load_openings.proofs.Moves.{moved_to, stands_moved}
use Rattle.load_items.specs.Counts.{Copied}
use Rattle.load_items.specs.Rules.{body_part, rule_part, BodyIs, RuledIs}
use Rattle.load_items.specs.Refusing.{refused_as}
use Rattle.load_items.specs.declared.rule.Ruled.{Ruled}
use Rattle.load_items.specs.declared.refused.Refused.{Refused}
use Rattle.load_items.specs.declared.refused.Refused.TheVariants.{Malformed, Unknown, Broken, Exceeded}
use Rattle.load_items.proofs.Counted.{by_half, no_guards}

abbrev no_body : Body
no_body = record { guards = []; goals = []; behind = none }

rule_suc : (counted counted' : Counted) (ts us : Tokens) (g : Named) → goal counted ts ≡ read g counted' us
    → rule counted ts
    ≡ read_on (either ":" "." counted' us) (λ implied. (when implied then body 8 [] else give no_body) >>= λ b. give (record { head = g; body = b }))
unfolding rule ◌>>=◌ read_on
rule_suc counted counted' ts us g h = rw h

module _ (counted counted' : Counted) (ts us : Tokens) (g : Named) (h : goal counted ts ≡ read g counted' (piece us)) where
  rule_body : (p : ℕ) (vs : Tokens) → us ≡ token p (sign 58) vs
      → rule counted ts ≡ read_on (body 8 [] counted' (piece vs)) (λ b. give (record { head = g; body = b }))
  unfolding read_on is byte when◌then◌else◌ ◌>>=◌
  rule_body p vs e =
      rw (
        rule_suc counted counted' ts (piece us) g h,
        e,
        piece_open p (sign 58) vs refl,
        either_first counted' ":" "." p (sign 58) (piece vs) refl,
      )

  rule_fact : (p : ℕ) (vs : Tokens) → us ≡ token p (sign 46) vs → rule counted ts ≡ read (record { head = g; body = no_body }) counted' (ends p)
  unfolding read_on is byte when◌then◌else◌ ◌>>=◌ give
  rule_fact p vs e =
      rw (
        rule_suc counted counted' ts (piece us) g h,
        e,
        piece_stop p (sign 46) vs refl,
        either_second counted' ":" "." p (sign 46) (ends p) refl refl,
      )

  rule_other : (place : ℕ) → Stops (one_of (58 ∷ 46 ∷ [])) place us → rule counted ts ≡ malformed place
  unfolding read_on byte
  rule_other place s = rw (rule_suc counted counted' ts (piece us) g h, either_stops counted' ":" "." place (piece us) (piece_stops (one_of (58 ∷ 46 ∷ [])) place us s))

rule_malformed : (counted : Counted) (ts : Tokens) (place : ℕ) → goal counted ts ≡ malformed place → rule counted ts ≡ malformed place
unfolding rule ◌>>=◌ read_on
rule_malformed counted ts place h = rw h

rule_passed : (counted : Counted) (ts : Tokens) → goal counted ts ≡ passed → rule counted ts ≡ passed
unfolding rule ◌>>=◌ read_on
rule_passed counted ts h = rw h

-- The first word of the head's compound says its procedure, whatever names come later.
pub still_head : (known known' : List Place) → More known known' → (g : Named) → Known (spellings known) (as_term g) → head_word known' g ≡ head_word known g
unfolding head_word Known as_term item_places
still_head known known' m g k =
    ap (λ p. functor_word p (named g.name) (count g.arguments)) (places_more known known' 0 m)
    ∙ functor_word_more (item_places known 0) m.0 (named g.name) (count g.arguments) k.0

few_arguments : (lo hi : ℕ) (g : Named) → Numbered lo hi (as_term g) → count g.arguments ≤ 6
unfolding Numbered as_term
few_arguments lo hi g h = h.1

head_stored : (known : List Place) (base hi : ℕ) (g : Named) (s : List ℕ) → Numbered 0 hi (as_term g) → item_start base < length s
    → get_or (stored (item_places known base) (as_term g) s) (item_start base) 0 ≡ head_word known g
unfolding Numbered as_term stored head_word item_places
head_stored known base hi g s h inside =
    let p = item_places known base in
    let s₁ = arguments_stored p g.number 0 g.arguments s in
    let w = functor_word p (named g.name) (count g.arguments) in
    let kept = arguments_stored_only p base (λ n. refl) 0 hi g.number 0 1 g.arguments s h.0 (omega arith) (omega (arith, h.1)) h.2 in
    let here : item_place base g.number ≡ item_start base = omega (arith, h.0) in
    let still : item_start base < length s₁ = omega (arith, kept.size) in
    rw here (get_or-set_same s₁ (item_start base) w 0 still)

module _ (k : ℕ) (text rest : Bytes) (from : ℕ) (known vars : List Place) (c : Cursor) (s item heads : List ℕ) (small : k < 128) where
  abbrev base : ℕ
  base = clause_base k

  pub head_unread : (s' names' item' heads' h₁ g₁ l₁ : List ℕ) (why : Unread)
      → ReadIs as_term goal text rest from base known vars c s item s' names' item' (Err why)
      → RuledIs k text rest from known vars c s item heads s' names' item' heads' h₁ g₁ l₁ (Err (refused_as why))
  head_unread s' names' item' heads' h₁ g₁ l₁ (unread.Malformed p) (h, inside, only) = (
    rule_malformed (counted_at known vars c.compounds) (piece (tokens_in from rest c.at)) (from + p) h,
    inside,
    only_wider (item_start base) (item_end base) 0 trial_region s s' (omega arith) (omega arith) only,
  )
  head_unread s' names' item' heads' h₁ g₁ l₁ unread.Exceeded (h, only) = (
    rule_passed (counted_at known vars c.compounds) (piece (tokens_in from rest c.at)) h,
    only_wider (item_start base) (item_end base) 0 trial_region s s' (omega arith) (omega arith) only,
  )

  module _ (s' names' item' : List ℕ) (w : ℕ) (e : Cursor) (g : Named) (qs : List Placed)
      (gave : Gave as_term goal text rest from base known vars c s item s' names' item' w e g qs)
      (none_yet : c.compounds ≡ 0) (inside : item_start base < length s)
      (h₀ h₁ : List ℕ) (size_h : length h₁ ≡ 64) (counts_kept : Copied item' h₀ h₁) where
    abbrev known' : List Place
    known' = names_over qs known

    abbrev vars' : List Place
    vars' = variables_over from qs vars

    abbrev counted : Counted
    counted = counted_at known vars c.compounds

    noted : get_or s' (item_start base) 0 ≡ head_word known' g
    noted = rw gave.stored_is (head_stored known' base e.compounds g s (rw none_yet at gave.numbered) inside)

    few : count g.arguments ≤ 6
    few = few_arguments c.compounds e.compounds g gave.numbered

    head_only : Only 0 trial_region s s'
    head_only = only_wider (item_start base) (item_end base) 0 trial_region s s' (omega arith) (omega arith) (gave_only gave)

    in_head : (h : Half) (m : ℕ) → m < 16 → get_or h₁ (half_place h m) 0 ≡ min 2 (get_or item (half_place h m) 0 + all_occurrences h m g.arguments)
    unfolding occurrences as_term
    in_head h m l = by_half (λ i. get_or h₁ i 0) (λ i. get_or item' i 0) counts_kept.counts h m l ∙ gave.halves h m l

    pub same_counts : (i : ℕ) → i < 32 → get_or h₁ (32 + i) 0 ≡ get_or item' (32 + i) 0
    same_counts = counts_kept.counts

    pub head_other : (g₁ l₁ : List ℕ) (p : ℕ) → Stops (one_of (58 ∷ 46 ∷ [])) (from + p) (tokens_in from rest e.at) → p ≤ length rest
        → RuledIs k text rest from known vars c s item heads s' names' item' (set heads k (get_or s' (item_start base) 0)) h₁ g₁ l₁ (Err (Malformed p))
    head_other g₁ l₁ p h inside' = (
      rule_other counted (counted_at known' vars' e.compounds) (piece (tokens_in from rest c.at)) (tokens_in from rest e.at) g gave.reads (from + p) h,
      inside',
      head_only,
    )

    -- A fact: `head.`
    pub head_stop : (g₁ l₁ : List ℕ) → g₁ ≡ replicate 64 0 → l₁ ≡ replicate 16 0 → (behind : ℕ) (next : SignAt rest e.at 46 behind)
        → RuledIs k text rest from known vars c s item heads s' names' item' (set heads k (get_or s' (item_start base) 0)) h₁ g₁ l₁
        (Ok (record { guards = 0; bar = None; goals = 0; cursor = moved_to e behind }))
    unfolding rule_part goals_stored guards_stored goals_occurrences occurrences as_term GoalsKnown
    head_stop g₁ l₁ no_counts no_licences behind next =
        let there : tokens_in from rest e.at ≡ token (from + next.place) (sign 46) (tokens_in from rest behind) = next.follows from in (
          record { head = g; body = no_body },
          [],
          qs,
          from + next.place,
          record {
            ended = record {
              reads =
                  rule_fact counted (counted_at known' vars' e.compounds) (piece (tokens_in from rest c.at)) (tokens_in from rest e.at) g gave.reads
                  (from + next.place) (tokens_in from rest behind) there;
              follows = gave.follows ∙ ap (before qs) there;
              no_stop = gave.no_stop;
              forward = omega (arith, next.forward);
              stands = stands_moved behind gave.stands next.inside;
              size_is = refl;
              stored_is = gave.stored_is;
              known_names = (gave.known_names, tt);
              halves = λ h n l. omega (arith, gave.halves h n l);
              only = head_only;
            };
            guards_are = no_guards rest from (spellings known') g₁ l₁ no_body no_counts no_licences refl refl;
            noted = ap (set heads k) noted;
            arguments_few = few;
            head_size = size_h;
            in_head = in_head;
          },
        )

    -- A body behind `:-`.
    module _ (behind : ℕ) (next : SignAt rest e.at 58 behind) (s'' names'' item'' g₁ l₁ : List ℕ) where
      abbrev d : Cursor
      d = moved_to e behind

      there : tokens_in from rest e.at ≡ token (from + next.place) (sign 58) (tokens_in from rest behind)
      there = next.follows from

      body_reads : rule counted (piece (tokens_in from rest c.at))
          ≡ read_on (body 8 [] (counted_at known' vars' e.compounds) (piece (tokens_in from rest behind))) (λ b. give (record { head = g; body = b }))
      body_reads =
          rule_body counted (counted_at known' vars' e.compounds) (piece (tokens_in from rest c.at)) (tokens_in from rest e.at) g gave.reads
          (from + next.place) (tokens_in from rest behind) there

      then_only : Only 0 trial_region s' s'' → Only 0 trial_region s s''
      then_only o = only_then 0 trial_region s s' s'' head_only o

      body_ended : (n : ℕ) (c'' : Cursor) (b : Body) (gs : List Guard) (ps : List Placed) (stop : ℕ)
          → Ended (body_part k gs) (body 8 []) text rest from base known' vars' d s' item' s'' names'' item'' n c'' b ps stop
          → Ended (rule_part k gs) rule text rest from base known vars c s item s'' names'' item'' n c'' (record { head = g; body = b })
          (qs ++ (record { at = from + next.place; token = sign 58 } ∷ ps)) stop
      unfolding body_part rule_part read_on give before names_over variables_over with_name with_variable Open is byte GoalsKnown goals_occurrences occurrences as_term
      body_ended n c'' b gs ps stop t =
          let colon : List Placed = record { at = from + next.place; token = sign 58 } ∷ ps in
          let eN : names_over (qs ++ colon) known ≡ names_over ps known' = names_append qs colon known in
          let eV : variables_over from (qs ++ colon) vars ≡ variables_over from ps vars' = variables_append from qs colon vars in
          let m = names_more ps known' in
          record {
            reads = rw (eN, eV, body_reads, t.reads);
            follows =
                gave.follows ∙ ap (before qs) (there ∙ ap (λ ts. token (from + next.place) (sign 58) ts) t.follows)
                ∙ sym (before_append qs colon (token stop (sign 46) (tokens_in from rest c''.at)));
            no_stop = open_append qs colon gave.no_stop (refl, t.no_stop);
            forward = t.forward;
            stands = rw (eN, eV) t.stands;
            size_is = t.size_is;
            stored_is = rw (eN, still_stored known' (names_over ps known') base m g s gave.known_names, ← gave.stored_is) t.stored_is;
            known_names = subst (λ names. GoalsKnown (spellings names) (g ∷ b.goals)) (sym eN)
                (still_named known' (names_over ps known') base m g gave.known_names, t.known_names);
            halves = λ h j l. omega (arith, gave.halves h j l, t.halves h j l);
            only = then_only t.only;
          }

      pub head_body : (r : Result Ruled Refused) → BodyIs k text rest from known' vars' d s' item' s'' names'' item'' g₁ l₁ r
          → RuledIs k text rest from known vars c s item heads s'' names'' item'' (set heads k (get_or s' (item_start base) 0)) h₁ g₁ l₁ r
      unfolding read_on give names_over with_name
      head_body (Ok r) (b, gs, ps, stop, t, guards_are) =
          let colon : List Placed = record { at = from + next.place; token = sign 58 } ∷ ps in
          let eN : names_over (qs ++ colon) known ≡ names_over ps known' = names_append qs colon known in (
            record { head = g; body = b },
            gs,
            qs ++ colon,
            stop,
            record {
              ended = body_ended r.goals r.cursor b gs ps stop t;
              guards_are = rw eN guards_are;
              noted = ap (set heads k) (rw eN (noted ∙ sym (still_head known' (names_over ps known') (names_more ps known') g gave.known_names)));
              arguments_few = few;
              head_size = size_h;
              in_head = in_head;
            },
          )
      head_body (Err Unknown) (b, counted₁, left, h, unknown, only) = (record { head = g; body = b }, counted₁, left, rw (body_reads, h), unknown, then_only only)
      head_body (Err (Malformed p)) (h, inside', only) = (rw (body_reads, h), inside', then_only only)
      head_body (Err Exceeded) (h, only) = (rw (body_reads, h), then_only only)
      head_body (Err (Broken f)) told = absurd told
