-- The goals' lines in the section's whole order, one more behind so many: those of a query in one of the lists.
use Prim.Native.Nat.{ℕ, ◌+◌, ◌-◌, ◌≤◌, ◌<◌}
use mathlib.Core.Path.{◌≡◌, refl, sym, ap, ◌∙◌}
use mathlib.Core.Bool.{Bool, true, false}
use mathlib.Core.List.{List, [], ◌∷◌, ◌++◌, map, append_assoc, append-nil}
use native.Mathlib.Omega.{arith}
use lib.ListN.{length, length-append}
use Rattle.meaning.specs.Bytes.{Bytes, bytes, among, when◌then◌else◌}
use Rattle.meaning.specs.Terms.{Term, as_term}
use Rattle.meaning.specs.State.{Values, Goal}
use Rattle.meaning.specs.Report.{alone, written, number_in, origin_bytes}
use Rattle.laws.proofs.Terms.Standing.{Stands}
use Rattle.term.specs.Setting.{Setting}
use Rattle.term.specs.Words.{compound_word}
use Rattle.term.specs.Goals.{place_in}
use Rattle.report_pairs.specs.Threaded.{full, written_goals}
use Rattle.report_pairs.specs.Laid.{Puts}
use Rattle.report_pairs.specs.Facts.{Readable, Shows}
use Rattle.report_leaves.specs.Fits.{Fits}
use Rattle.report_leaves.specs.Writes.{Numbered, Writes}
use Rattle.report_leaves.proofs.Copying.{fits_front, fits_behind, fits_as}
use Rattle.report_tallies.specs.Groups.{goal_in, own, own_from}
use Rattle.report_tallies.specs.declared.groups.Group.{Group}
use Rattle.report_tallies.specs.Origins.{origin_of}
use Rattle.report_sections.specs.Sections.{Listed}
use Rattle.report_sections.specs.Whole.{Numbers, AllIn}
use Rattle.report_pairs.proofs.Laid.{puts_none, puts_behind, puts_as}
use Rattle.report_tallies.proofs.GoalPlaces.{own_in, own_out, own_end}
use Rattle.report_sections.proofs.GoalLines.{word_of, word_said, first_held, first_fits}

pub written_goals_append : (values : Values) (order : List ℕ) (word : Bytes) (gs hs : List Goal)
    → written_goals values order word (gs ++ hs) ≡ written_goals values order word gs ++ written_goals values order word hs
unfolding written_goals
written_goals_append values order word [] hs = refl
written_goals_append values order word (g ∷ gs) hs =
    let line = word ++ (written order alone (full values (as_term g.goal)) ++ (origin_bytes g.origin ++ bytes "\n")) in
    ap (◌++◌ line) (written_goals_append values order word gs hs)
    ∙ sym (append_assoc line (written_goals values order word gs) (written_goals values order word hs))

-- Pairs that are among the order have their numbers in it.
pub numbered_in : (s : List ℕ) (x : Setting) (facts : ℕ) (order : List ℕ) (t : Term) → Numbers s x facts order
    → ((n : ℕ) → Stands n t → among n order ≡ true) → Numbered s x facts order t
unfolding when◌then◌else◌
numbered_in s x facts order t numbers all n h stands =
    numbers n h ∙ ap (λ (b : Bool). when b then number_in n order else 0) (all n stands)

-- The line of a goal, alone and in its list.
abbrev pub goal_line : Values → List ℕ → Bytes → Goal → Bytes
goal_line values order word a = word ++ (written order alone (full values (as_term a.goal)) ++ (origin_bytes a.origin ++ bytes "\n"))

pub goal_line_size : (values : Values) (order : List ℕ) (word : Bytes) (a : Goal)
    → length (goal_line values order word a) ≡ length word + length (written order alone (full values (as_term a.goal))) + length (origin_bytes a.origin) + 1
unfolding bytes
goal_line_size values order word a = simp length-append (omega arith)

one_goal : (values : Values) (order : List ℕ) (word : Bytes) (a : Goal) → written_goals values order word (a ∷ []) ≡ goal_line values order word a
unfolding written_goals
one_goal values order word a = append-nil (goal_line values order word a)

pub goals_more : (values : Values) (order : List ℕ) (word : Bytes) (done : List Goal) (a : Goal)
    → written_goals values order word done ++ goal_line values order word a ≡ written_goals values order word (done ++ (a ∷ []))
goals_more values order word done a =
    sym (written_goals_append values order word done (a ∷ []) ∙ ap (◌++◌ (written_goals values order word done)) (one_goal values order word a))

-- The lines before this one, this one, and those behind it.
goals_split : (values : Values) (order : List ℕ) (word : Bytes) (gs done left : List Goal) (a : Goal) → gs ≡ done ++ (a ∷ left)
    → written_goals values order word gs ≡ written_goals values order word done ++ (goal_line values order word a ++ written_goals values order word left)
goals_split values order word gs done left a e =
    ap (written_goals values order word) (e ∙ sym (append_assoc done (a ∷ []) left))
    ∙ written_goals_append values order word (done ++ (a ∷ [])) left
    ∙ ap (λ (l : Bytes). l ++ written_goals values order word left) (sym (goals_more values order word done a))
    ∙ append_assoc (written_goals values order word done) (goal_line values order word a) (written_goals values order word left)

-- So this one fits where those before it were put.
goal_fits : {s : List ℕ} {x : Setting} {facts at to : ℕ} {b b' : List ℕ} (values : Values) (order : List ℕ) (word : Bytes) (gs done left : List Goal) (a : Goal)
    → gs ≡ done ++ (a ∷ left) → Fits s x facts order at b (written_goals values order word gs) → Puts b b' at to (written_goals values order word done)
    → Fits s x facts order to b' (goal_line values order word a)
goal_fits values order word gs done left a e F p =
    fits_front (goal_line values order word a) (written_goals values order word left)
    (fits_behind (written_goals values order word done) (goal_line values order word a ++ written_goals values order word left)
    (fits_as (goals_split values order word gs done left a e) F) p)

-- The goals written, and those left.
pub record Wrote (s : List ℕ) (x : Setting) (order : List ℕ) (buffer₀ buffer : List ℕ) (at : ℕ) (g : Group) (q : ℕ) (gs : List Goal) (word : Bytes) (to i : ℕ) : Type 0 where
  pub done : List Goal
  pub left : List Goal
  pub split : gs ≡ done ++ left
  pub words : own_from s g q i (g.count - i) ≡ map (word_of x q) left
  pub puts : Puts buffer₀ buffer at to (written_goals x.values order word done)

pub wrote_as : (s : List ℕ) (x : Setting) (order : List ℕ) (buffer₀ buffer buffer' : List ℕ) (at : ℕ) (g : Group) (q : ℕ) (gs : List Goal) (word : Bytes) (to to' i : ℕ) → buffer' ≡ buffer
    → to' ≡ to → Wrote s x order buffer₀ buffer at g q gs word to i → Wrote s x order buffer₀ buffer' at g q gs word to' i
wrote_as s x order buffer₀ buffer buffer' at g q gs word to to' i e f p = rw (e, f) p

-- The next goal's line: what it asks, and what it gives.
pub record NextLine (s : List ℕ) (text : Bytes) (x : Setting) (facts : ℕ) (order : List ℕ) (buffer₀ buffer : List ℕ) (at : ℕ) (g : Group) (q : ℕ) (gs : List Goal) (word : Bytes) (to i goal : ℕ) : Type 0 where
  pub term : Term
  pub writes : Writes s text x facts order term (to + length word) (length buffer)
  pub shows : Shows s x term (compound_word (place_in goal))
  pub fits : Fits s x facts order to buffer (word ++ (written order alone (full x.values term) ++ (origin_of goal ++ bytes "\n")))
  pub gives : (c : List ℕ) (r : ℕ) → Puts buffer c to r (word ++ (written order alone (full x.values term) ++ (origin_of goal ++ bytes "\n")))
      → Wrote s x order buffer₀ c at g q gs word r (i + 1)

-- The goal that is left first has its pairs among the order.
first_in : (values : Values) (order : List ℕ) (done : List Goal) (h : Goal) (left : List Goal) → AllIn values order (done ++ (h ∷ left))
    → (n : ℕ) → Stands n (full values (as_term h.goal)) → among n order ≡ true
first_in values order [] h left k = k.0
first_in values order (d ∷ done) h left k = first_in values order done h left k.1

none_written : (values : Values) (order : List ℕ) (word : Bytes) → [] ≡ written_goals values order word []
unfolding written_goals
none_written values order word = refl

module _ (s : List ℕ) (text : Bytes) (x : Setting) (facts : ℕ) (order : List ℕ) (buffer₀ buffer : List ℕ) (at : ℕ) (g : Group) (q : ℕ) (gs : List Goal) (word : Bytes) where
  pub wrote_none : Listed s x facts g q gs → Wrote s x order buffer₀ buffer₀ at g q gs word at 0
  wrote_none l =
      let none : g.count - 0 ≡ g.count = omega arith in
      record {
        done = [];
        left = gs;
        split = refl;
        words = ap (own_from s g q 0) none ∙ l.words;
        puts = puts_as [] _ buffer₀ buffer₀ at at (none_written x.values order word) (puts_none buffer₀ at);
      }

  pub wrote_skip : (to i : ℕ) → i < g.count → own q (goal_in s g i) ≡ false → Wrote s x order buffer₀ buffer at g q gs word to i
      → Wrote s x order buffer₀ buffer at g q gs word to (i + 1)
  wrote_skip to i h o p =
      record {
        done = p.done;
        left = p.left;
        split = p.split;
        words = sym (own_out s g q i g.count h o) ∙ p.words;
        puts = p.puts;
      }

  pub wrote_all : (to i : ℕ) → g.count ≤ i → Wrote s x order buffer₀ buffer at g q gs word to i → Puts buffer₀ buffer at to (written_goals x.values order word gs)
  wrote_all to i h p = go p.left p.split (sym p.words ∙ own_end s g q i g.count h)
    where
      go : (left : List Goal) → gs ≡ p.done ++ left → map (word_of x q) left ≡ [] → Puts buffer₀ buffer at to (written_goals x.values order word gs)
      go [] e f =
          let same : p.done ≡ gs = sym (e ∙ append-nil p.done) in
          puts_as _ _ buffer₀ buffer at to (ap (written_goals x.values order word) same) p.puts
      go (a ∷ left) e f = let z : ◌≡◌ {A = ℕ} 0 1 = cc in absurd (omega arith)

  -- The list's next goal of the query is the first that is left.
  pub next_line : (to i goal : ℕ) → i < g.count → Readable s text x facts → Listed s x facts g q gs → Numbers s x facts order → AllIn x.values order gs
      → Fits s x facts order at buffer₀ (written_goals x.values order word gs)
      → goal ≡ goal_in s g i → own q (goal_in s g i) ≡ true
      → Wrote s x order buffer₀ buffer at g q gs word to i → NextLine s text x facts order buffer₀ buffer at g q gs word to i goal
  unfolding as_term
  next_line to i goal h r l numbers all fits e o p = go p.left p.split (sym (own_in s g q i g.count h o) ∙ p.words)
    where
      go : (left : List Goal) → gs ≡ p.done ++ left → goal_in s g i ∷ own_from s g q (i + 1) (g.count - (i + 1)) ≡ map (word_of x q) left
          → NextLine s text x facts order buffer₀ buffer at g q gs word to i goal
      go [] f w = let z : ◌≡◌ {A = ℕ} 0 1 = cc in absurd (omega arith)
      go (a ∷ left) f w =
          let head : goal_in s g i ≡ word_of x q a = cc in
          let tail : own_from s g q (i + 1) (g.count - (i + 1)) ≡ map (word_of x q) left = cc in
          let (held, sound) = first_held s x p.done a left (rw f at l.held) in
          let said = word_said s text x facts q a goal r l.small l.low held (first_fits p.done a left (rw f at l.origins)) (e ∙ head) in
          let fit = goal_fits x.values order word gs p.done left a f fits p.puts in
          let size = goal_line_size x.values order word a in
          record {
            term = as_term a.goal;
            writes = record {
              readable = r;
              numbered = numbered_in s x facts order (full x.values (as_term a.goal)) numbers (first_in x.values order p.done a left (rw f at all));
              fits = omega (arith, fit.room, size);
            };
            shows = record { term = held; sound = sound; word = said.place };
            fits = rw said.origin fit;
            gives = λ c to' more. record {
              done = p.done ++ (a ∷ []);
              left = left;
              split = f ∙ sym (append_assoc p.done (a ∷ []) left);
              words = tail;
              puts = puts_as _ _ buffer₀ c at to' (goals_more x.values order word p.done a) (puts_behind _ _ buffer₀ buffer c at to to' p.puts (rw said.origin at more));
            };
          }
