-- What stands behind a clause's `:-`: elements up to the full stop, which are its goals; or up to the bar, and its goals behind that.
use Prim.Native.Nat.{ℕ, ◌+◌, ◌≤◌, ◌<◌, min}
use mathlib.Core.Path.{◌≡◌, refl, ap, sym, ◌∙◌}
use mathlib.Core.Bool.{Bool, true, false}
use mathlib.Core.List.{List, [], ◌∷◌, ◌++◌}
use mathlib.Core.Option.{Option, none, some}
use native.Mathlib.Omega.{arith}
use lib.ListN.{length, get_or, replicate, take, get_or-replicate, length-take}
use lib.Seq.{get_or-take}
use Rattle.std.specs.Prelude.{Some, None, Result, Ok, Err}
use Rattle.meaning.specs.Bytes.{Bytes, byte}
use Rattle.meaning.specs.Terms.{Half, Named, Guard, goals_occurrences}
use Rattle.meaning.specs.Tokens.{sign, Tokens, ends, token}
use Rattle.meaning.specs.Table.{Element, as_goals, as_guards}
use Rattle.meaning.specs.Items.{Counted, Body, read, malformed, passed, read_on, ◌>>=◌, give, cannot_stand, is, unguarded, here, guarded}
use Rattle.term.specs.Frames.{Only}
use Rattle.term.specs.Layout.{trial_region, item_start, item_end, clause_base, clause_goals_from, clause_tests_from}
use Rattle.term.proofs.Frames.{only_then, only_wider}
use Rattle.load_tokens.specs.Fronts.{tokens_in}
use Rattle.load_names.specs.Places.{Place, Placed, spellings, before, with_name, with_variable, names_over, variables_over, item_places}
use Rattle.load_image.specs.Image.{goals_stored, guards_stored}
use Rattle.load_openings.specs.Reading.{piece, counted_at, half_place, Stands, Open}
use Rattle.load_openings.specs.declared.cursor.Cursor.{Cursor}
use Rattle.load_openings.specs.declared.cursor.Unread.{Unread}
use Rattle.load_openings.specs.declared.cursor.Unread.TheVariants as unread
use Rattle.load_openings.proofs.Expected.{never}
use Rattle.load_openings.proofs.Passing.{names_append, variables_append, before_append, open_append, names_more}
use Rattle.load_goals.specs.Endings.{goals_part, Ended}
use Rattle.load_elements.specs.Elements.{elements_occurrences}
use Rattle.load_elements.specs.Listed.{GaveElements, AtBar, AtStop, ElementsAre}
use Rattle.load_guards.specs.Judged.{Listed, tests_set, Licences}
use Rattle.load_guards.proofs.Stored.{elements_stored_hold}
use Rattle.load_guards.proofs.Resolving.{listed_front}
use Rattle.load_items.specs.Counts.{Copied, Added}
use Rattle.load_items.specs.Rules.{Worded, goals_set, SetIs, TestedIs, perhaps_goals, GuardedIs, body_part, BodyIs}
use Rattle.load_items.specs.Refusing.{refused_as}
use Rattle.load_items.specs.declared.rule.Ruled.{Ruled}
use Rattle.load_items.specs.declared.refused.Refused.{Refused}
use Rattle.load_items.specs.declared.refused.Refused.TheVariants.{Malformed, Unknown, Broken, Exceeded}
use Rattle.load_items.proofs.Counted.{counts_stand, by_half, none_at, no_guards}
use Rattle.load_items.proofs.StoredElements.{guards_named, goals_known, goals_occur, goals_length, guards_so, goals_so}
use Rattle.load_items.proofs.MoreNames.{still_guards, still_named_guards}

-- What the elements are at their full stop, and at their bar.
stop_goals : (place : ℕ) (o : Option (List Named)) (gs : List Named) (counted : Counted) (ts : Tokens) → o ≡ some gs
    → unguarded place o counted ts ≡ read (record { guards = []; goals = gs; behind = none }) counted ts
unfolding unguarded give
stop_goals place o gs counted ts e = rw e

stop_none : (place : ℕ) (o : Option (List Named)) (counted : Counted) (ts : Tokens) → o ≡ none → unguarded place o counted ts ≡ malformed place
unfolding unguarded cannot_stand
stop_none place o counted ts e = rw e

abbrev barred : List Element → Tokens → List Named → Body
barred es behind gs = record { guards = es; goals = gs; behind = some behind }

bar_reads : (es : List Element) (counted : Counted) (ts : Tokens)
    → guarded es counted ts ≡ read_on (perhaps_goals counted ts) (λ gs. give (barred es ts gs))
unfolding guarded here perhaps_goals ◌>>=◌ read_on give
bar_reads es counted ts = refl

bar_read : (es : List Element) (counted d : Counted) (ts us : Tokens) (gs : List Named) → perhaps_goals counted ts ≡ read gs d us
    → guarded es counted ts ≡ read (barred es ts gs) d us
unfolding read_on give
bar_read es counted d ts us gs h = bar_reads es counted ts ∙ rw h

bar_malformed : (es : List Element) (counted : Counted) (ts : Tokens) (p : ℕ) → perhaps_goals counted ts ≡ malformed p → guarded es counted ts ≡ malformed p
unfolding read_on
bar_malformed es counted ts p h = bar_reads es counted ts ∙ rw h

bar_passed : (es : List Element) (counted : Counted) (ts : Tokens) → perhaps_goals counted ts ≡ passed → guarded es counted ts ≡ passed
unfolding read_on
bar_passed es counted ts h = bar_reads es counted ts ∙ rw h

module _ (k : ℕ) (few : k < 128) (text rest : Bytes) (from : ℕ) (known vars : List Place) (c : Cursor) (s names item in_head : List ℕ)
    (same_head : (i : ℕ) → i < 32 → get_or in_head (32 + i) 0 ≡ get_or item (32 + i) 0) (st : Stands text rest from names item c known vars)
    (item₁ : List ℕ) (size₁ : length item₁ ≡ length item) (fresh : Copied (replicate 64 0) item item₁) where
  abbrev base : ℕ
  base = clause_base k

  -- The table counts from nothing again.
  none_there : (h : Half) (m : ℕ) → m < 16 → get_or item₁ (half_place h m) 0 ≡ 0
  none_there h m l = by_half (λ i. get_or item₁ i 0) (λ i. get_or (replicate 64 0) i 0) fresh.counts h m l ∙ none_at h m l

  none_counted : (i : ℕ) → i < 32 → get_or item₁ (32 + i) 0 ≤ 2
  none_counted i l = let e = get_or-replicate {A = ℕ} 64 (32 + i) 0 0 (omega arith) in omega (arith, fresh.counts i l, e)

  pub fresh_stands : Stands text rest from names item₁ c known vars
  fresh_stands =
      counts_stand text rest from names item item₁ c known vars st (size₁ ∙ st.variables_in.size) fresh.places none_counted

  in_region : (x y : List ℕ) → Only (item_start base) (item_end base) x y → Only 0 trial_region x y
  in_region x y o = only_wider (item_start base) (item_end base) 0 trial_region x y (omega arith) (omega arith) o

  pub behind_unread : (words s₂ names₂ item₂ words₂ g₂ l₂ : List ℕ) (why : Unread)
      → ElementsAre text rest from base known vars c s item₁ words s₂ names₂ item₂ words₂ (Err why)
      → BodyIs k text rest from known vars c s item s₂ names₂ item₂ g₂ l₂ (Err (refused_as why))
  behind_unread words s₂ names₂ item₂ words₂ g₂ l₂ (unread.Malformed p) (h, inside, o) = (h, inside, in_region s s₂ o)
  behind_unread words s₂ names₂ item₂ words₂ g₂ l₂ unread.Exceeded (h, o) = (h, in_region s s₂ o)

  module _ (words s₂ names₂ item₂ words₂ : List ℕ) (n : ℕ) (d : Cursor) (es : List Element) (ps : List Placed) where
    abbrev known₂ : List Place
    known₂ = names_over ps known

    abbrev vars₂ : List Place
    vars₂ = variables_over from ps vars

    module _ (gave : GaveElements text rest from base known vars c s item₁ words s₂ names₂ item₂ words₂ n d es ps) where
      pub worded : (part : List ℕ) → part ≡ take n words₂ → 8 ≤ length words₂ → Worded part (item_places known₂ base) es
      worded part is many =
          let size : length part ≡ n = ap length is ∙ omega (arith, length-take n words₂, gave.few) in
          record {
            count_is = gave.count_is ∙ sym size;
            words_are = λ i l. ap (λ ws. get_or ws i 0) is ∙ get_or-take n words₂ i 0 (omega arith) ∙ gave.words_are i (omega arith);
          }

      counted_so : (h : Half) (m : ℕ) → m < 16 → get_or item₂ (half_place h m) 0 ≡ min 2 (elements_occurrences h m es)
      counted_so h m l = omega (arith, gave.halves h m l, none_there h m l)

    -- At the full stop.
    module _ (a : ℕ) (t : AtStop text rest from base known vars c s item₁ words s₂ names₂ item₂ words₂ n a d es ps) where
      pub stop_not : (s₃ : List ℕ) (g₂ l₂ : List ℕ) → SetIs s₂ s₃ (clause_goals_from k) (item_places known₂ base) es false
          → BodyIs k text rest from known vars c s item s₃ names₂ item₂ g₂ l₂ (Err (Malformed a))
      stop_not s₃ g₂ l₂ (e, o) = (
        t.reads ∙ stop_none (from + a) (as_goals es) (counted_at known₂ vars₂ d.compounds) (ends (from + a)) e,
        t.inside,
        only_then 0 trial_region s s₂ s₃ (in_region s s₂ t.gave.only)
            (only_wider (clause_goals_from k) (clause_goals_from k + 8) 0 trial_region s₂ s₃ (omega arith) (omega arith) o),
      )

      module _ (s₃ item₃ g₂ l₂ : List ℕ) (w : ℕ) (size₃ : length item₃ ≡ length item₂) (added : Added in_head item₂ item₃) (w_is : w ≡ n)
          (no_counts : g₂ ≡ replicate 64 0) (no_licences : l₂ ≡ replicate 16 0) where
        stop_halves : (gs : List Named) → as_goals es ≡ some gs → (h : Half) (m : ℕ) → m < 16
            → get_or item₃ (half_place h m) 0 ≡ min 2 (get_or item (half_place h m) 0 + goals_occurrences h m gs)
        stop_halves gs e h m l =
            let sum = by_half (λ i. get_or item₃ i 0) (λ i. min 2 (get_or item₂ i 0 + get_or in_head i 0)) added.counts h m l in
            let head = by_half (λ i. get_or in_head i 0) (λ i. get_or item i 0) same_head h m l in
            omega (arith, sum, head, counted_so t.gave h m l, goals_occur h m es gs e)

        pub stop_got : SetIs s₂ s₃ (clause_goals_from k) (item_places known₂ base) es true
            → BodyIs k text rest from known vars c s item s₃ names₂ item₃ g₂ l₂ (Ok (record { guards = 0; bar = None; goals = w; cursor = d }))
        unfolding body_part guards_stored item_places
        stop_got (gs, e, set_is, o) =
            let gave = t.gave in
            let b : Body = record { guards = []; goals = gs; behind = none } in
            let stored_so : s₃ ≡ goals_stored (item_places known₂ base) (clause_goals_from k) gs s
            = set_is ∙ ap (goals_set (item_places known₂ base) (clause_goals_from k) gs) gave.stored_is
            ∙ goals_so (item_places known₂ base) base (λ i. refl) (clause_goals_from k) c.compounds d.compounds es gs s (omega (arith, gave.count_is, gave.few))
            gave.numbered e in (
              b,
              [],
              ps,
              from + a,
              record {
                reads = t.reads ∙ stop_goals (from + a) (as_goals es) gs (counted_at known₂ vars₂ d.compounds) (ends (from + a)) e;
                follows = t.follows;
                no_stop = gave.no_stop;
                forward = gave.forward;
                stands = counts_stand text rest from names₂ item₂ item₃ d known₂ vars₂ gave.stands (size₃ ∙ gave.stands.variables_in.size) added.places
                    (λ i l. omega (arith, added.counts i l));
                size_is = w_is ∙ sym gave.count_is ∙ sym (goals_length es gs e);
                stored_is = stored_so;
                known_names = goals_known (spellings known₂) es gs e gave.known_names;
                halves = stop_halves gs e;
                only = only_then 0 trial_region s s₂ s₃ (in_region s s₂ gave.only)
                    (only_wider (clause_goals_from k) (clause_goals_from k + 8) 0 trial_region s₂ s₃ (omega arith) (omega arith) o);
              },
              no_guards rest from (spellings known₂) g₂ l₂ b no_counts no_licences refl refl,
            )

    -- At the bar.
    module _ (bar : ℕ) (t : AtBar text rest from base known vars c s item₁ words s₂ names₂ item₂ words₂ n d es ps bar) (large : trial_region ≤ length s) where
      pub listed : 8 ≤ length words₂ → Listed text names₂ s₂ (take n words₂) (length (take n words₂)) base (clause_tests_from k) known₂ es
      listed many =
          let gave = t.gave in
          listed_front text names₂ s₂ words₂ n base (clause_tests_from k) known₂ es (record {
            names_in = gave.stands.names_in;
            count_is = gave.count_is;
            few = gave.few;
            kept = omega (arith, gave.few);
            words_are = gave.words_are;
            from_number = c.compounds;
            to_number = d.compounds;
            numbered = gave.numbered;
            numbers_few = gave.stands.compounds_few;
            known_names = gave.known_names;
            held = rw gave.stored_is (elements_stored_hold known₂ base c.compounds d.compounds es s gave.numbered (omega (arith, gave.stands.compounds_few)));
            apart = omega arith;
            inside = omega (arith, gave.only.size);
          })

      module _ (in_guards item₃ item₄ : List ℕ) (size_g : length in_guards ≡ 64) (kept_guards : Copied item₂ (replicate 64 0) in_guards)
          (size₄ : length item₄ ≡ length item₂) (back : Copied in_head item₂ item₄) where
        pub bar_stands : Stands text rest from names₂ item₄ d known₂ vars₂
        bar_stands =
            counts_stand text rest from names₂ item₂ item₄ d known₂ vars₂ t.gave.stands (size₄ ∙ t.gave.stands.variables_in.size) back.places
            (λ i l. omega (arith, back.counts i l, same_head i l, st.variables_in.counted i l))

        in_guards_so : (h : Half) (m : ℕ) → m < 16 → get_or in_guards (half_place h m) 0 ≡ min 2 (elements_occurrences h m es)
        in_guards_so h m l = by_half (λ i. get_or in_guards i 0) (λ i. get_or item₂ i 0) kept_guards.counts h m l ∙ counted_so t.gave h m l

        back_so : (h : Half) (m : ℕ) → m < 16 → get_or item₄ (half_place h m) 0 ≡ get_or item (half_place h m) 0
        back_so h m l =
            by_half (λ i. get_or item₄ i 0) (λ i. get_or in_head i 0) back.counts h m l ∙ by_half (λ i. get_or in_head i 0) (λ i. get_or item i 0) same_head h m l

        only_tests : (s₃ : List ℕ) → Only (clause_tests_from k) (clause_tests_from k + 8) s₂ s₃ → Only 0 trial_region s s₃
        only_tests s₃ o =
            only_then 0 trial_region s s₂ s₃ (in_region s s₂ t.gave.only)
            (only_wider (clause_tests_from k) (clause_tests_from k + 8) 0 trial_region s₂ s₃ (omega arith) (omega arith) o)

        tested_only : (s₃ l₃ : List ℕ) (found : Bool) → TestedIs s₂ s₃ l₃ n base (clause_tests_from k) known₂ es found → Only 0 trial_region s s₃
        tested_only s₃ l₃ true (gs, in_table, many, set_is, licences, o) = only_tests s₃ o
        tested_only s₃ l₃ false (e, o) = only_tests s₃ o

        module _ (s₃ l₃ s₄ names₄ item₅ : List ℕ) where
          abbrev after : Tokens
          after = piece (tokens_in from rest d.at)

          abbrev bar_counted : Counted
          bar_counted = counted_at known₂ vars₂ d.compounds

          bar_got : (gs : List Guard) → as_guards es ≡ some gs → length gs ≡ n → s₃ ≡ tests_set (item_places known₂ base) (clause_tests_from k) gs s₂ → Licences l₃ gs
              → Only 0 trial_region s s₃ → (r : Ruled) → r.guards ≡ n → r.bar ≡ Some d.at → (hs : List Named) (qs : List Placed) (stop : ℕ)
              → Ended (goals_part (clause_goals_from k)) perhaps_goals text rest from base known₂ vars₂ d s₃ item₄ s₄ names₄ item₅ r.goals r.cursor hs qs stop
              → BodyIs k text rest from known vars c s item s₄ names₄ item₅ in_guards l₃ (Ok r)
          unfolding body_part goals_part item_places before names_over variables_over with_name with_variable Open is byte
          bar_got gs in_table many set_is licences o₃ r guards_are bar_so hs qs stop u =
              let gave = t.gave in
              let line : List Placed = record { at = bar; token = sign 124 } ∷ qs in
              let eN : names_over (ps ++ line) known ≡ names_over qs known₂ = names_append ps line known in
              let eV : variables_over from (ps ++ line) vars ≡ variables_over from qs vars₂ = variables_append from ps line vars in
              let m = names_more qs known₂ in
              let named_so = guards_named (spellings known₂) es gs in_table gave.known_names in
              let stored_so : s₃ ≡ guards_stored (item_places (names_over qs known₂) base) (clause_tests_from k) gs s
              = set_is ∙ ap (tests_set (item_places known₂ base) (clause_tests_from k) gs) gave.stored_is
              ∙ guards_so (item_places known₂ base) base (λ i. refl) (clause_tests_from k) c.compounds d.compounds es gs s (omega (arith, gave.count_is, gave.few))
              gave.numbered in_table
              ∙ sym (still_guards known₂ (names_over qs known₂) base m (clause_tests_from k) gs s named_so) in (
                barred es after hs,
                gs,
                ps ++ line,
                stop,
                record {
                  reads = rw (eN, eV) (t.reads ∙ bar_read es bar_counted (counted_at (names_over qs known₂) (variables_over from qs vars₂) r.cursor.compounds) after (ends stop) hs u.reads);
                  follows = t.follows ∙ ap (λ ts. before ps (token bar (sign 124) ts)) u.follows
                      ∙ sym (before_append ps line (token stop (sign 46) (tokens_in from rest r.cursor.at)));
                  no_stop = open_append ps line gave.no_stop (refl, u.no_stop);
                  forward = u.forward;
                  stands = rw (eN, eV) u.stands;
                  size_is = u.size_is;
                  stored_is = rw eN (u.stored_is ∙ ap (goals_stored (item_places (names_over qs known₂) base) (clause_goals_from k) hs) stored_so);
                  known_names = rw eN u.known_names;
                  halves = λ h j l. omega (arith, u.halves h j l, back_so h j l);
                  only = only_then 0 trial_region s s₃ s₄ o₃ u.only;
                },
                record {
                  in_table = in_table;
                  count_is = many ∙ sym guards_are;
                  few = omega (arith, gave.few);
                  bar_is = rw bar_so (refl, gave.stands.inside);
                  bar_behind = rw bar_so gave.forward;
                  named = rw eN (still_named_guards known₂ (names_over qs known₂) base m gs named_so);
                  table_size = size_g;
                  counted = in_guards_so;
                  licences = licences;
                },
              )

          pub at_bar : (found : Bool) → TestedIs s₂ s₃ l₃ n base (clause_tests_from k) known₂ es found → (r : Result Ruled Refused)
              → GuardedIs k n found text rest from known₂ vars₂ d s₃ item₄ s₄ names₄ item₅ r
              → BodyIs k text rest from known vars c s item s₄ names₄ item₅ in_guards l₃ r
          at_bar true (gs, in_table, many, set_is, licences, o) (Ok r) (found_so, guards_are, bar_so, hs, qs, stop, u) =
              bar_got gs in_table many set_is licences (only_tests s₃ o) r guards_are bar_so hs qs stop u
          at_bar false tested (Ok r) told = never (sym told.0)
          at_bar true tested (Err Unknown) told = never told.0
          at_bar false (e, o) (Err Unknown) (found_so, hs, counted, left, h, o₄) =
              (barred es after hs, counted, left, t.reads ∙ bar_read es bar_counted counted after left hs h, e, only_then 0 trial_region s s₃ s₄ (only_tests s₃ o) o₄)
          at_bar true tested (Err (Malformed p)) (h, inside, o₄) =
              (t.reads ∙ bar_malformed es bar_counted after (from + p) h, inside, only_then 0 trial_region s s₃ s₄ (tested_only s₃ l₃ true tested) o₄)
          at_bar false tested (Err (Malformed p)) (h, inside, o₄) =
              (t.reads ∙ bar_malformed es bar_counted after (from + p) h, inside, only_then 0 trial_region s s₃ s₄ (tested_only s₃ l₃ false tested) o₄)
          at_bar true tested (Err Exceeded) (h, o₄) = (t.reads ∙ bar_passed es bar_counted after h, only_then 0 trial_region s s₃ s₄ (tested_only s₃ l₃ true tested) o₄)
          at_bar false tested (Err Exceeded) (h, o₄) = (t.reads ∙ bar_passed es bar_counted after h, only_then 0 trial_region s s₃ s₄ (tested_only s₃ l₃ false tested) o₄)
          at_bar true tested (Err (Broken f)) told = absurd told
          at_bar false tested (Err (Broken f)) told = absurd told
