-- A section's lines one behind the other, each written with what was seen before it; the section by its groups of lines.
use Prim.Native.Nat.{ℕ, suc, ◌+◌}
use mathlib.Core.Path.{◌≡◌, refl, sym, ap, ap₂, ◌∙◌}
use mathlib.Core.List.{List, [], ◌∷◌, ◌++◌, map, append_assoc, append-nil}
use native.Mathlib.Omega.{arith}
use lib.ListN.{length}
use Rattle.meaning.specs.Bytes.{Bytes, bytes, joined}
use Rattle.meaning.specs.Terms.{writer, variable, Query, as_term}
use Rattle.meaning.specs.State.{Values, Goal, Part}
use Rattle.meaning.specs.Report.{
  applied,
  alone,
  written,
  Line,
  origin_bytes,
  value_lines,
  goal_lines,
  part_lines,
  lines_applied,
  line_bytes,
  lines_bytes,
  unassigned_pairs,
  header,
  section,
}
use Rattle.report_pairs.specs.Threaded.{
  full,
  seen_after,
  seen_after_lines,
  shown,
  shown_line,
  shown_lines,
  shown_values,
  seen_after_values,
  shown_goals,
  seen_after_goals,
  shown_groups,
}
use Rattle.report_pairs.proofs.Once.{seen_after_lines_keeps, unassigned_pairs_seen}
use Rattle.report_pairs.proofs.Settled.{settled_in}

-- An order that begins with what was seen after some lines begins with what was seen after the first of them.
line_threaded : (seen order : List ℕ) (l : Line) → (behind : List ℕ) × (order ≡ seen_after seen l.shown ++ behind) → line_bytes order l ≡ shown_line seen l
unfolding line_bytes shown_line
line_threaded seen order l begins =
    append_assoc (l.words ++ written order alone l.shown) l.ending (bytes "\n")
    ∙ append_assoc l.words (written order alone l.shown) (l.ending ++ bytes "\n")
    ∙ ap (λ (b : Bytes). l.words ++ (b ++ (l.ending ++ bytes "\n"))) (settled_in seen order alone l.shown begins)

first_of : (seen order : List ℕ) (l : Line) (ls : List Line) → (behind : List ℕ) × (order ≡ seen_after_lines seen (l ∷ ls) ++ behind)
    → (behind : List ℕ) × (order ≡ seen_after seen l.shown ++ behind)
unfolding seen_after_lines
first_of seen order l ls (behind, e) =
    let (new, f) = seen_after_lines_keeps (seen_after seen l.shown) ls in
    (new ++ behind, e ∙ ap (λ (o : List ℕ). o ++ behind) f ∙ append_assoc (seen_after seen l.shown) new behind)

pub lines_threaded : (ls : List Line) (seen order : List ℕ) → (behind : List ℕ) × (order ≡ seen_after_lines seen ls ++ behind)
    → joined (map (line_bytes order) ls) ≡ shown_lines seen ls
unfolding joined shown_lines seen_after_lines
lines_threaded [] seen order begins = refl
lines_threaded (l ∷ ls) seen order begins =
    ap₂ (◌++◌ {A = ℕ}) (line_threaded seen order l (first_of seen order l ls begins)) (lines_threaded ls (seen_after seen l.shown) order begins)

-- "Numbering anew in each section": the lines' bytes, the first line's where nothing was seen.
pub lines_bytes_threaded : (ls : List Line) → lines_bytes ls ≡ shown_lines [] ls
unfolding lines_bytes
lines_bytes_threaded ls =
    lines_threaded ls [] (unassigned_pairs ls)
    ([], unassigned_pairs_seen ls ∙ sym (append-nil (seen_after_lines [] ls)))

-- Lines behind lines.
pub seen_after_lines_append : (ls ms : List Line) (seen : List ℕ) → seen_after_lines seen (ls ++ ms) ≡ seen_after_lines (seen_after_lines seen ls) ms
unfolding seen_after_lines
seen_after_lines_append [] ms seen = refl
seen_after_lines_append (l ∷ ls) ms seen = seen_after_lines_append ls ms (seen_after seen l.shown)

pub shown_lines_append : (ls ms : List Line) (seen : List ℕ) → shown_lines seen (ls ++ ms) ≡ shown_lines seen ls ++ shown_lines (seen_after_lines seen ls) ms
unfolding shown_lines seen_after_lines
shown_lines_append [] ms seen = refl
shown_lines_append (l ∷ ls) ms seen =
    ap (◌++◌ (shown_line seen l)) (shown_lines_append ls ms (seen_after seen l.shown))
    ∙ sym (append_assoc (shown_line seen l) (shown_lines (seen_after seen l.shown) ls) (shown_lines (seen_after_lines (seen_after seen l.shown) ls) ms))

pub lines_applied_append : (values : Values) (ls ms : List Line) → lines_applied values (ls ++ ms) ≡ lines_applied values ls ++ lines_applied values ms
unfolding lines_applied
lines_applied_append values [] ms = refl
lines_applied_append values (l ∷ ls) ms =
    ap (◌∷◌ (record { words = l.words; shown = applied (length values) values l.shown; ending = l.ending })) (lines_applied_append values ls ms)

-- The two kinds of lines, with every assignment applied.
pub values_shown : (values : Values) (xs : List Bytes) (p : ℕ) (seen : List ℕ)
    → shown_lines seen (lines_applied values (value_lines p xs)) ≡ shown_values values seen p xs
unfolding shown_lines shown_line lines_applied value_lines shown_values full
values_shown values [] p seen = refl
values_shown values (x ∷ xs) p seen =
    ap (◌++◌ ((x ++ bytes " = ") ++ (shown seen alone (full values (variable writer p)) ++ bytes "\n")))
    (values_shown values xs (suc p) (seen_after seen (full values (variable writer p))))

pub values_seen : (values : Values) (xs : List Bytes) (p : ℕ) (seen : List ℕ)
    → seen_after_lines seen (lines_applied values (value_lines p xs)) ≡ seen_after_values values seen p xs
unfolding seen_after_lines lines_applied value_lines seen_after_values full
values_seen values [] p seen = refl
values_seen values (x ∷ xs) p seen = values_seen values xs (suc p) (seen_after seen (full values (variable writer p)))

pub goals_shown : (values : Values) (word : Bytes) (gs : List Goal) (seen : List ℕ)
    → shown_lines seen (lines_applied values (goal_lines word gs)) ≡ shown_goals values seen word gs
unfolding shown_lines shown_line lines_applied goal_lines shown_goals full
goals_shown values word [] seen = refl
goals_shown values word (g ∷ gs) seen =
    ap (◌++◌ (word ++ (shown seen alone (full values (as_term g.goal)) ++ (origin_bytes g.origin ++ bytes "\n"))))
    (goals_shown values word gs (seen_after seen (full values (as_term g.goal))))

pub goals_seen : (values : Values) (word : Bytes) (gs : List Goal) (seen : List ℕ)
    → seen_after_lines seen (lines_applied values (goal_lines word gs)) ≡ seen_after_goals values seen gs
unfolding seen_after_lines lines_applied goal_lines seen_after_goals full
goals_seen values word [] seen = refl
goals_seen values word (g ∷ gs) seen = goals_seen values word gs (seen_after seen (full values (as_term g.goal)))

-- One more goal behind others: its line comes behind theirs.
pub shown_goals_append : (values : Values) (word : Bytes) (gs hs : List Goal) (seen : List ℕ)
    → shown_goals values seen word (gs ++ hs) ≡ shown_goals values seen word gs ++ shown_goals values (seen_after_goals values seen gs) word hs
unfolding shown_goals seen_after_goals
shown_goals_append values word [] hs seen = refl
shown_goals_append values word (g ∷ gs) hs seen =
    let line = word ++ (shown seen alone (full values (as_term g.goal)) ++ (origin_bytes g.origin ++ bytes "\n")) in
    let seen' = seen_after seen (full values (as_term g.goal)) in
    ap (◌++◌ line) (shown_goals_append values word gs hs seen')
    ∙ sym (append_assoc line (shown_goals values seen' word gs) (shown_goals values (seen_after_goals values seen' gs) word hs))

pub seen_after_goals_append : (values : Values) (gs hs : List Goal) (seen : List ℕ)
    → seen_after_goals values seen (gs ++ hs) ≡ seen_after_goals values (seen_after_goals values seen gs) hs
unfolding seen_after_goals
seen_after_goals_append values [] hs seen = refl
seen_after_goals_append values (g ∷ gs) hs seen = seen_after_goals_append values gs hs (seen_after seen (full values (as_term g.goal)))

-- Four groups of lines, each written with what was seen after those before it.
four_groups : (vals bs cs ds : List Line)
    → shown_lines [] (vals ++ bs ++ cs ++ ds)
    ≡ shown_lines [] vals
    ++ (shown_lines (seen_after_lines [] vals) bs
    ++ (shown_lines (seen_after_lines (seen_after_lines [] vals) bs) cs
    ++ shown_lines (seen_after_lines (seen_after_lines (seen_after_lines [] vals) bs) cs) ds))
four_groups vals bs cs ds =
    shown_lines_append (vals ++ bs ++ cs) ds []
    ∙ ap₂ (◌++◌ {A = ℕ})
    (shown_lines_append (vals ++ bs) cs [] ∙ ap₂ (◌++◌ {A = ℕ}) (shown_lines_append vals bs []) (ap (λ (o : List ℕ). shown_lines o cs) (seen_after_lines_append vals bs [])))
    (ap (λ (o : List ℕ). shown_lines o ds)
    (seen_after_lines_append (vals ++ bs) cs [] ∙ ap (λ (o : List ℕ). seen_after_lines o cs) (seen_after_lines_append vals bs [])))
    ∙ append_assoc (shown_lines [] vals ++ shown_lines (seen_after_lines [] vals) bs) _ _
    ∙ append_assoc (shown_lines [] vals) (shown_lines (seen_after_lines [] vals) bs) _

applied_groups : (values : Values) (vals bs cs ds : List Line)
    → lines_applied values (vals ++ bs ++ cs ++ ds)
    ≡ lines_applied values vals ++ lines_applied values bs ++ lines_applied values cs ++ lines_applied values ds
applied_groups values vals bs cs ds =
    lines_applied_append values (vals ++ bs ++ cs) ds
    ∙ ap (λ (ls : List Line). ls ++ lines_applied values ds)
    (lines_applied_append values (vals ++ bs) cs ∙ ap (λ (ls : List Line). ls ++ lines_applied values cs) (lines_applied_append values vals bs))

groups_alike : (values : Values) (vs : List Bytes) (qs ws fs : List Goal)
    → shown_lines [] (lines_applied values (value_lines 0 vs))
    ++ (shown_lines (seen_after_lines [] (lines_applied values (value_lines 0 vs))) (lines_applied values (goal_lines (bytes "active ") qs)) ++ (
    shown_lines (seen_after_lines (seen_after_lines [] (lines_applied values (value_lines 0 vs))) (lines_applied values (goal_lines (bytes "active ") qs))) (lines_applied values (goal_lines (bytes "waiting ") ws))
    ++ shown_lines (seen_after_lines (seen_after_lines (seen_after_lines [] (lines_applied values (value_lines 0 vs))) (lines_applied values (goal_lines (bytes "active ") qs))) (lines_applied values (goal_lines (bytes "waiting ") ws))) (lines_applied values (goal_lines (bytes "failed ") fs))))
    ≡ shown_values values [] 0 vs
    ++ (shown_goals values (seen_after_values values [] 0 vs) (bytes "active ") qs
    ++ (shown_goals values (seen_after_goals values (seen_after_values values [] 0 vs) qs) (bytes "waiting ") ws
    ++ shown_goals values (seen_after_goals values (seen_after_goals values (seen_after_values values [] 0 vs) qs) ws) (bytes "failed ") fs))
groups_alike values vs qs ws fs =
    rw (values_seen values vs 0 [], values_shown values vs 0 [], goals_seen values (bytes "active ") qs (seen_after_values values [] 0 vs), goals_shown values (bytes "active ") qs (seen_after_values values [] 0 vs), goals_seen values (bytes "waiting ") ws (seen_after_goals values (seen_after_values values [] 0 vs) qs), goals_shown values (bytes "waiting ") ws (seen_after_goals values (seen_after_values values [] 0 vs) qs), goals_shown values (bytes "failed ") fs (seen_after_goals values (seen_after_goals values (seen_after_values values [] 0 vs) qs) ws))

-- A section by its groups: its header, the values, the active goals, the waiting ones, the failed ones.
pub section_shown : (place : ℕ) (query : Query) (part : Part) → section place query part ≡ header place part ++ shown_groups query part
unfolding section part_lines shown_groups
section_shown place query part =
    let values = part.unit.values in
    let vs = query.variables in
    let qs = part.goals.queue in
    let ws = map (λ w. w.goal) part.goals.waiting in
    let fs = part.goals.failed in
    let vals = value_lines 0 vs in
    let bs = goal_lines (bytes "active ") qs in
    let cs = goal_lines (bytes "waiting ") ws in
    let ds = goal_lines (bytes "failed ") fs in
    ap (◌++◌ (header place part))
    (lines_bytes_threaded (lines_applied values (vals ++ bs ++ cs ++ ds))
    ∙ ap (shown_lines []) (applied_groups values vals bs cs ds)
    ∙ four_groups (lines_applied values vals) (lines_applied values bs) (lines_applied values cs) (lines_applied values ds)
    ∙ groups_alike values vs qs ws fs)

-- Values behind values.
pub shown_values_append : (values : Values) (xs ys : List Bytes) (p : ℕ) (seen : List ℕ)
    → shown_values values seen p (xs ++ ys) ≡ shown_values values seen p xs ++ shown_values values (seen_after_values values seen p xs) (p + length xs) ys
unfolding shown_values seen_after_values
shown_values_append values [] ys p seen =
    let none : p + 0 ≡ p = omega arith in ap (λ (n : ℕ). shown_values values seen n ys) (sym none)
shown_values_append values (x ∷ xs) ys p seen =
    let line = (x ++ bytes " = ") ++ (shown seen alone (full values (variable writer p)) ++ bytes "\n") in
    let seen' = seen_after seen (full values (variable writer p)) in
    let next : suc p + length xs ≡ p + suc (length xs) = omega arith in
    ap (◌++◌ line) (shown_values_append values xs ys (suc p) seen')
    ∙ ap (λ (n : ℕ). line ++ (shown_values values seen' (suc p) xs ++ shown_values values (seen_after_values values seen' (suc p) xs) n ys)) next
    ∙ sym (append_assoc line (shown_values values seen' (suc p) xs) (shown_values values (seen_after_values values seen' (suc p) xs) (p + suc (length xs)) ys))

pub seen_after_values_append : (values : Values) (xs ys : List Bytes) (p : ℕ) (seen : List ℕ)
    → seen_after_values values seen p (xs ++ ys) ≡ seen_after_values values (seen_after_values values seen p xs) (p + length xs) ys
unfolding seen_after_values
seen_after_values_append values [] ys p seen =
    let none : p + 0 ≡ p = omega arith in ap (λ (n : ℕ). seen_after_values values seen n ys) (sym none)
seen_after_values_append values (x ∷ xs) ys p seen =
    let next : suc p + length xs ≡ p + suc (length xs) = omega arith in
    seen_after_values_append values xs ys (suc p) (seen_after seen (full values (variable writer p)))
    ∙ ap (λ (n : ℕ). seen_after_values values (seen_after_values values (seen_after seen (full values (variable writer p))) (suc p) xs) n ys) next
