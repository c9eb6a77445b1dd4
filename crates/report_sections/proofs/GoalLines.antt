-- The goals' lines, one more behind so many: those of a query in one of the lists.
use Prim.Native.Nat.{ℕ, ◌+◌, ◌*◌, ◌-◌, ◌≤◌, ◌<◌}
use mathlib.Core.Path.{◌≡◌, refl, sym, ap, ap₂, ◌∙◌}
use mathlib.Core.Bool.{Bool, true, false}
use mathlib.Core.List.{List, [], ◌∷◌, ◌++◌, map, append_assoc, append-nil}
use native.Mathlib.Omega.{arith}
use lib.ListN.{length}
use Rattle.meaning.specs.Bytes.{Bytes, bytes}
use Rattle.meaning.specs.Terms.{writer, Term, as_term}
use Rattle.meaning.specs.State.{Values, Goal}
use Rattle.meaning.specs.Report.{alone, origin_bytes}
use Rattle.laws.proofs.Lists.EachOf.{Each, each_split}
use Rattle.term.specs.Setting.{Setting, Within, UnitTerm}
use Rattle.term.proofs.Holds.{holds_alike}
use Rattle.term.proofs.Units.{within_every}
use Rattle.term.specs.Layout.{pair_facts}
use Rattle.term.specs.Words.{compound_word}
use Rattle.term.specs.Goals.{origin_word, packed_goal, place_in, OriginFits}
use Rattle.term.proofs.Goals.{goal_place, goal_clause, goal_tries}
use Rattle.laws.proofs.Lists.Tests.{false_not_true}
use Rattle.report_pairs.specs.Threaded.{full, seen_after, shown, shown_goals, seen_after_goals}
use Rattle.report_pairs.specs.Sound.{Sound}
use Rattle.report_pairs.specs.Facts.{Readable, Shows, Changed}
use Rattle.report_count.specs.Counts.{Counts, Counted}
use Rattle.report_tallies.specs.Groups.{goal_place as place_of_goal, goal_in, GroupInside, own, own_from}
use Rattle.report_tallies.specs.declared.groups.Group.{Group}
use Rattle.report_tallies.specs.Origins.{origin_of}
use Rattle.report_sections.specs.Sections.{GoalsHeld, Listed}
use Rattle.report_sections.proofs.Lines.{shown_goals_append, seen_after_goals_append}
use Rattle.report_count.proofs.Lengths.{changed_below, changed_behind, counts_on, counted_none, counted_then, counted_as}
use Rattle.report_tallies.proofs.GoalPlaces.{own_in, own_out, own_end}

-- A goal's word.
abbrev pub word_of : Setting → ℕ → Goal → ℕ
word_of x q h = packed_goal q (x.places.compound h.goal.number) (origin_word h.origin)

-- What a goal's word says: the compound's place, and the origin.
pub record Said (x : Setting) (h : Goal) (goal : ℕ) : Type 0 where
  pub place : compound_word (place_in goal) ≡ compound_word (x.places.compound h.goal.number)
  pub origin : origin_of goal ≡ origin_bytes h.origin

pub word_said : (s : List ℕ) (text : Bytes) (x : Setting) (facts q : ℕ) (h : Goal) (goal : ℕ) → Readable s text x facts → q < 8 → facts < 1048576
    → UnitTerm s x (as_term h.goal) → OriginFits h.origin → goal ≡ word_of x q h → Said x h goal
unfolding Within as_term
word_said s text x facts q h goal r small low u fits e =
    let place = x.places.compound h.goal.number in
    let inside : place < 1048576 = omega (arith, r.compound_before h.goal.number u.of.within.0) in
    let origin = origin_word h.origin in
    record {
      place = ap (λ (w : ℕ). compound_word (place_in w)) e ∙ ap (λ (k : ℕ). compound_word k) (goal_place q place small inside origin);
      origin = ap (λ (w : ℕ). origin_of w) e
          ∙ ap₂ (λ (c t : ℕ). origin_bytes (record { clause = c; tries = t })) (goal_clause q place small inside h.origin fits) (goal_tries q place small inside h.origin fits);
    }

-- A term of the unit stays held when facts change.
pub term_kept : (s s' : List ℕ) (text : Bytes) (x : Setting) (facts : ℕ) → Readable s text x facts → Changed s s' x facts → (t : Term) → UnitTerm s x t → UnitTerm s' x t
term_kept s s' text x facts r c t u =
    record {
      held =
          holds_alike s s' x.places (λ n. n < x.compounds) (omega (arith, c.size))
          (λ n h k l m. changed_below s s' text x facts c k (omega (arith, r.compound_before n h)) (λ e. omega (arith, r.compound_behind n h)))
          t (within_every (length x.values) x.compounds t u.of.within) u.held;
      of = u.of;
    }

-- The list's words stay, and it lies in the scratch still.
pub goal_kept : (s s' : List ℕ) (text : Bytes) (x : Setting) (facts : ℕ) (g : Group) (i : ℕ) → Readable s text x facts → Changed s s' x facts
    → facts + pair_facts * x.pairs ≤ g.from → goal_in s' g i ≡ goal_in s g i
goal_kept s s' text x facts g i r c b = changed_behind s s' text x facts r c (place_of_goal g i) (omega arith)

pub inside_kept : (s s' : List ℕ) (x : Setting) (facts : ℕ) (g : Group) → Changed s s' x facts → GroupInside s g → GroupInside s' g
inside_kept s s' x facts g c h = record { few = h.few; inside = λ i l. rw c.size (h.inside i l) }

-- The goals counted, and those left.
pub record Progress (s₀ s : List ℕ) (text : Bytes) (x : Setting) (facts at : ℕ) (seen : List ℕ) (g : Group) (q : ℕ) (gs : List Goal) (word : Bytes) (to i : ℕ) : Type 0 where
  pub done : List Goal
  pub left : List Goal
  pub split : gs ≡ done ++ left
  pub words : own_from s₀ g q i (g.count - i) ≡ map (word_of x q) left
  pub counted : Counted s₀ s text x facts at seen (shown_goals x.values seen word done) (seen_after_goals x.values seen done) to

-- The goal that is left first.
pub first_fits : (done : List Goal) (h : Goal) (left : List Goal) → Each (λ g. OriginFits g.origin) (done ++ (h ∷ left)) → OriginFits h.origin
first_fits done h left k = (each_split (λ g. OriginFits g.origin) done (h ∷ left) k).1.0

pub first_held : (s : List ℕ) (x : Setting) (done : List Goal) (h : Goal) (left : List Goal) → GoalsHeld s x (done ++ (h ∷ left))
    → UnitTerm s x (as_term h.goal) × Sound (as_term h.goal)
first_held s x [] h left k = (k.0, k.1)
first_held s x (d ∷ done) h left k = first_held s x done h left k.2

pub record Next (s₀ s : List ℕ) (text : Bytes) (x : Setting) (facts at : ℕ) (seen : List ℕ) (g : Group) (q : ℕ) (gs : List Goal) (word : Bytes) (to i goal : ℕ) : Type 0 where
  pub done : List Goal
  pub goal_is : Goal
  pub left : List Goal
  pub split : gs ≡ done ++ (goal_is ∷ left)
  pub words : own_from s₀ g q (i + 1) (g.count - (i + 1)) ≡ map (word_of x q) left
  pub counted : Counted s₀ s text x facts at seen (shown_goals x.values seen word done) (seen_after_goals x.values seen done) to
  pub shows : Shows s x (as_term goal_is.goal) (compound_word (place_in goal))
  pub origin : origin_of goal ≡ origin_bytes goal_is.origin

module _ (s₀ s : List ℕ) (text : Bytes) (x : Setting) (facts at : ℕ) (seen : List ℕ) (g : Group) (q : ℕ) (gs : List Goal) (word : Bytes) where
  pub progress_start : Counts s₀ text x facts seen at → Listed s₀ x facts g q gs → Progress s₀ s₀ text x facts at seen g q gs word at 0
  unfolding shown_goals seen_after_goals
  progress_start c l =
      let none : g.count - 0 ≡ g.count = omega arith in
      record {
        done = [];
        left = gs;
        split = refl;
        words = ap (own_from s₀ g q 0) none ∙ l.words;
        counted = counted_none s₀ text x facts seen at c;
      }

  pub progress_skip : (to i : ℕ) → i < g.count → own q (goal_in s₀ g i) ≡ false → Progress s₀ s text x facts at seen g q gs word to i
      → Progress s₀ s text x facts at seen g q gs word to (i + 1)
  progress_skip to i h o p =
      record {
        done = p.done;
        left = p.left;
        split = p.split;
        words = sym (own_out s₀ g q i g.count h o) ∙ p.words;
        counted = p.counted;
      }

  pub progress_end : (to i : ℕ) → g.count ≤ i → Progress s₀ s text x facts at seen g q gs word to i
      → Counted s₀ s text x facts at seen (shown_goals x.values seen word gs) (seen_after_goals x.values seen gs) to
  progress_end to i h p = go p.left p.split (sym p.words ∙ own_end s₀ g q i g.count h)
    where
      go : (left : List Goal) → gs ≡ p.done ++ left → map (word_of x q) left ≡ []
          → Counted s₀ s text x facts at seen (shown_goals x.values seen word gs) (seen_after_goals x.values seen gs) to
      go [] e f =
          let same : p.done ≡ gs = sym (e ∙ append-nil p.done) in
          counted_as s₀ s text x facts at seen _ _ _ _ to (ap (shown_goals x.values seen word) same)
          (ap (seen_after_goals x.values seen) same) p.counted
      go (a ∷ left) e f = let z : ◌≡◌ {A = ℕ} 0 1 = cc in absurd (omega arith)

  -- The list's next goal of the query is the first that is left.
  pub progress_next : (to i goal : ℕ) → i < g.count → Readable s₀ text x facts → Listed s₀ x facts g q gs → goal ≡ goal_in s₀ g i → own q (goal_in s₀ g i) ≡ true
      → Progress s₀ s text x facts at seen g q gs word to i → Next s₀ s text x facts at seen g q gs word to i goal
  unfolding as_term
  progress_next to i goal h r l e o p = go p.left p.split (sym (own_in s₀ g q i g.count h o) ∙ p.words)
    where
      go : (left : List Goal) → gs ≡ p.done ++ left → goal_in s₀ g i ∷ own_from s₀ g q (i + 1) (g.count - (i + 1)) ≡ map (word_of x q) left
          → Next s₀ s text x facts at seen g q gs word to i goal
      go [] f w = let z : ◌≡◌ {A = ℕ} 0 1 = cc in absurd (omega arith)
      go (a ∷ left) f w =
          let head : goal_in s₀ g i ≡ word_of x q a = cc in
          let tail : own_from s₀ g q (i + 1) (g.count - (i + 1)) ≡ map (word_of x q) left = cc in
          let (held, sound) = first_held s₀ x p.done a left (rw f at l.held) in
          let said = word_said s₀ text x facts q a goal r l.small l.low held (first_fits p.done a left (rw f at l.origins)) (e ∙ head) in
          record {
            done = p.done;
            goal_is = a;
            left = left;
            split = f;
            words = tail;
            counted = p.counted;
            shows = record {
              term = term_kept s₀ s text x facts r p.counted.changed (as_term a.goal) held;
              sound = sound;
              word = said.place;
            };
            origin = said.origin;
          }

-- One goal's line more.
module _ (values : Values) (seen : List ℕ) (word : Bytes) (done : List Goal) (a : Goal) where
  abbrev seen_done : List ℕ
  seen_done = seen_after_goals values seen done

  abbrev pub line : List ℕ → Bytes
  line l = word ++ (shown l alone (full values (as_term a.goal)) ++ (origin_bytes a.origin ++ bytes "\n"))

  last_line : (l : List ℕ) → shown_goals values l word (a ∷ []) ≡ line l
  unfolding shown_goals
  last_line l = append-nil (line l)

  pub goals_bytes : shown_goals values seen word (done ++ (a ∷ [])) ≡ shown_goals values seen word done ++ line seen_done
  goals_bytes =
      shown_goals_append values word done (a ∷ []) seen ∙ ap (◌++◌ (shown_goals values seen word done)) (last_line seen_done)

  last_seen : (l : List ℕ) → seen_after_goals values l (a ∷ []) ≡ seen_after l (full values (as_term a.goal))
  unfolding seen_after_goals
  last_seen l = refl

  pub goals_seen_more : seen_after_goals values seen (done ++ (a ∷ [])) ≡ seen_after seen_done (full values (as_term a.goal))
  goals_seen_more = seen_after_goals_append values done (a ∷ []) seen ∙ last_seen seen_done

pub progress_taken : (s₀ s s' : List ℕ) (text : Bytes) (x : Setting) (facts at : ℕ) (seen : List ℕ) (g : Group) (q : ℕ) (gs : List Goal) (word : Bytes) (to i goal r : ℕ)
    → (n : Next s₀ s text x facts at seen g q gs word to i goal)
    → Counted s s' text x facts to n.counted.after
    (word ++ (shown n.counted.after alone (full x.values (as_term n.goal_is.goal)) ++ (origin_bytes n.goal_is.origin ++ bytes "\n")))
    (seen_after n.counted.after (full x.values (as_term n.goal_is.goal))) r
    → Progress s₀ s' text x facts at seen g q gs word r (i + 1)
progress_taken s₀ s s' text x facts at seen g q gs word to i goal r n d =
    record {
      done = n.done ++ (n.goal_is ∷ []);
      left = n.left;
      split = n.split ∙ sym (append_assoc n.done (n.goal_is ∷ []) n.left);
      words = n.words;
      counted =
          counted_as s₀ s' text x facts at seen _ _ _ _ r (sym (goals_bytes x.values seen word n.done n.goal_is))
          (sym (goals_seen_more x.values seen word n.done n.goal_is))
          (counted_then s₀ s s' text x facts at seen _ _ to r
          (λ l. word ++ (shown l alone (full x.values (as_term n.goal_is.goal)) ++ (origin_bytes n.goal_is.origin ++ bytes "\n")))
          (λ l. seen_after l (full x.values (as_term n.goal_is.goal))) n.counted d);
    }

-- What counting the next goal asks, whether it is the query's or not.
pub goal_asks : (s₀ s : List ℕ) (text : Bytes) (x : Setting) (facts at : ℕ) (seen : List ℕ) (g : Group) (q : ℕ) (gs : List Goal) (word : Bytes) (to i : ℕ) → i < g.count
    → Counts s₀ text x facts seen at → Listed s₀ x facts g q gs → (p : Progress s₀ s text x facts at seen g q gs word to i)
    → (t : Term) × Counts s text x facts p.counted.after to × GroupInside s g
    × (own q (goal_in s g i) ≡ true → Shows s x t (compound_word (place_in (goal_in s g i))))
goal_asks s₀ s text x facts at seen g q gs word to i h c l p = go (own q (goal_in s g i)) refl
  where
    same : goal_in s g i ≡ goal_in s₀ g i
    same = goal_kept s₀ s text x facts g i c.readable p.counted.changed l.behind

    ready : Counts s text x facts p.counted.after to
    ready = counts_on s₀ s text x facts at seen _ _ to p.counted

    inside : GroupInside s g
    inside = inside_kept s₀ s x facts g p.counted.changed l.inside

    go : (b : Bool) → own q (goal_in s g i) ≡ b
        → (t : Term) × Counts s text x facts p.counted.after to × GroupInside s g
        × (own q (goal_in s g i) ≡ true → Shows s x t (compound_word (place_in (goal_in s g i))))
    go true e =
        let n = progress_next s₀ s text x facts at seen g q gs word to i (goal_in s g i) h c.readable l same (ap (own q) (sym same) ∙ e) p in
        (as_term n.goal_is.goal, ready, inside, λ f. n.shows)
    go false e = (Term.variable writer 0, ready, inside, λ f. absurd (false_not_true _ e f))

-- What it tells.
pub goal_told : (s₀ s s' : List ℕ) (text : Bytes) (x : Setting) (facts at : ℕ) (seen : List ℕ) (g : Group) (q : ℕ) (gs : List Goal) (word : Bytes) (to i r : ℕ) → i < g.count
    → Counts s₀ text x facts seen at → Listed s₀ x facts g q gs → Progress s₀ s text x facts at seen g q gs word to i
    → (own q (goal_in s g i) ≡ false → (r ≡ to) × (s' ≡ s))
    → ((seen' : List ℕ) (t : Term) → own q (goal_in s g i) ≡ true → Counts s text x facts seen' to → Shows s x t (compound_word (place_in (goal_in s g i)))
    → Counted s s' text x facts to seen' (word ++ (shown seen' alone (full x.values t) ++ (origin_of (goal_in s g i) ++ bytes "\n")))
    (seen_after seen' (full x.values t)) r)
    → Progress s₀ s' text x facts at seen g q gs word r (i + 1)
goal_told s₀ s s' text x facts at seen g q gs word to i r h c l p out into = go (own q (goal_in s g i)) refl
  where
    same : goal_in s g i ≡ goal_in s₀ g i
    same = goal_kept s₀ s text x facts g i c.readable p.counted.changed l.behind

    go : (b : Bool) → own q (goal_in s g i) ≡ b → Progress s₀ s' text x facts at seen g q gs word r (i + 1)
    go true f =
        let n = progress_next s₀ s text x facts at seen g q gs word to i (goal_in s g i) h c.readable l same (ap (own q) (sym same) ∙ f) p in
        let d = into n.counted.after (as_term n.goal_is.goal) f (counts_on s₀ s text x facts at seen _ _ to n.counted) n.shows in
        progress_taken s₀ s s' text x facts at seen g q gs word to i (goal_in s g i) r n (rw n.origin at d)
    go false f =
        let (a, b) = out f in
        rw (a, b) (progress_skip s₀ s text x facts at seen g q gs word to i h (ap (own q) (sym same) ∙ f) p)
