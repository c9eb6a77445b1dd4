-- Notes, one list behind the other: what they come to, how many they are and what the region has of them compose. "The comparison shall go through all
-- places": `and_then` of two outcomes is the outcome of the notes of both.
use Prim.Native.Nat.{ℕ, ◌+◌, ◌≤◌}
use mathlib.Core.Path.{◌≡◌, refl, sym, ap}
use mathlib.Core.List.{List, [], ◌∷◌, ◌++◌, append-nil}
use mathlib.Core.Logic.{◌≢◌}
use native.Mathlib.Omega.{arith}
use Rattle.meaning.specs.Compare.{Assignment, Result, succeeds, waits, fails, with_assignments, with_readers, and_then}
use Rattle.term.specs.Cells.{Places, term_word}
use Rattle.term.specs.Setting.{Setting}
use Rattle.run_table.specs.Rows.{head_written, goal_written, asked_written}
use Rattle.run_compare.specs.Gifts.{Gift, to_head, to_goal, assignment, assignments, entries, recorded}
use Rattle.run_compare.specs.Notes.{Note, given, asked, gifts_in, asks_in, judged, outcome_of, noted, written}
use Rattle.run_compare.specs.Compare.{Template, AllGiven, AllNoted}

assignments_append : (p c : ℕ) (a b : List Gift) → assignments p c (a ++ b) ≡ assignments p c a ++ assignments p c b
unfolding assignments
assignments_append p c [] b = refl
assignments_append p c (g ∷ a) b = ap (λ l. assignment p c g ∷ l) (assignments_append p c a b)

gifts_append : (a b : List Note) → gifts_in (a ++ b) ≡ gifts_in a ++ gifts_in b
unfolding gifts_in
gifts_append [] b = refl
gifts_append (given g ∷ a) b = ap (λ l. g ∷ l) (gifts_append a b)
gifts_append (asked z ∷ a) b = gifts_append a b

asks_append : (a b : List Note) → asks_in (a ++ b) ≡ asks_in a ++ asks_in b
unfolding asks_in
asks_append [] b = refl
asks_append (given g ∷ a) b = asks_append a b
asks_append (asked z ∷ a) b = ap (λ l. z ∷ l) (asks_append a b)

-- Outcomes one behind the other.
both_judged : (zs ys : List ℕ) (first others : List Assignment)
    → and_then (judged zs first) (judged ys others) ≡ judged (zs ++ ys) (first ++ others)
unfolding judged and_then with_assignments with_readers
both_judged [] [] first others = refl
both_judged [] (y ∷ ys) first others = refl
both_judged (z ∷ zs) [] first others = ap (λ l. waits (z ∷ l)) (sym (append-nil zs))
both_judged (z ∷ zs) (y ∷ ys) first others = refl

pub outcome_append : (p c : ℕ) (a b : List Note) → and_then (outcome_of p c a) (outcome_of p c b) ≡ outcome_of p c (a ++ b)
outcome_append p c a b =
    rw (gifts_append a b, asks_append a b, assignments_append p c (gifts_in a) (gifts_in b))
    (both_judged (asks_in a) (asks_in b) (assignments p c (gifts_in a)) (assignments p c (gifts_in b)))

pub then_fails : (r : Result) → and_then r fails ≡ fails
unfolding and_then with_assignments with_readers
then_fails (succeeds first) = refl
then_fails (waits readers) = refl
then_fails fails = refl

pub noted_append : (a b : List Note) → noted (a ++ b) ≡ noted a + noted b
unfolding noted
noted_append [] b = omega arith
noted_append (given (to_head n u) ∷ a) b = noted_append a b
noted_append (given (to_goal z t) ∷ a) b = omega (arith, noted_append a b)
noted_append (asked z ∷ a) b = omega (arith, noted_append a b)

pub written_append : (item unit : Places) (n : ℕ) (a b : List Note) (s : List ℕ)
    → written item unit n (a ++ b) s ≡ written item unit (n + noted a) b (written item unit n a s)
unfolding written noted
written_append item unit n [] b s =
    let same : n + 0 ≡ n = omega arith in
    rw same
written_append item unit n (given (to_head x u) ∷ a) b s = written_append item unit n a b (head_written x (term_word unit u) s)
written_append item unit n (given (to_goal z t) ∷ a) b s =
    let same : n + (noted a + 1) ≡ n + 1 + noted a = omega arith in
    rw same (written_append item unit (n + 1) a b (goal_written n (unit.pair z) (term_word item t) s))
written_append item unit n (asked z ∷ a) b s =
    let same : n + (noted a + 1) ≡ n + 1 + noted a = omega arith in
    rw same (written_append item unit (n + 1) a b (asked_written n (unit.pair z) s))

-- What is noted from lo up to hi is noted from lower up to higher.
pub noted_wider : (s : List ℕ) (x : Setting) (y : Template) (lo hi lo' hi' : ℕ) (a : List Note) → lo' ≤ lo → hi ≤ hi'
    → AllNoted s x y lo hi a → AllNoted s x y lo' hi' a
unfolding AllNoted
noted_wider s x y lo hi lo' hi' [] low high k = omega (arith, k)
noted_wider s x y lo hi lo' hi' (given (to_head n u) ∷ a) low high k = (k.0, noted_wider s x y lo hi lo' hi' a low high k.1)
noted_wider s x y lo hi lo' hi' (given (to_goal z t) ∷ a) low high k =
    (k.0, k.1, k.2, omega (arith, k.3), k.4, noted_wider s x y k.2 hi k.2 hi' a (omega arith) high k.5)
noted_wider s x y lo hi lo' hi' (asked z ∷ a) low high k = (k.0, noted_wider s x y lo hi lo' hi' a low high k.1)

pub all_noted_append : (s : List ℕ) (x : Setting) (y : Template) (lo mid hi : ℕ) (a b : List Note) → AllNoted s x y lo mid a → AllNoted s x y mid hi b
    → AllNoted s x y lo hi (a ++ b)
unfolding AllNoted
all_noted_append s x y lo mid hi [] b k l = noted_wider s x y mid hi lo hi b k (omega arith) l
all_noted_append s x y lo mid hi (given (to_head n u) ∷ a) b k l = (k.0, all_noted_append s x y lo mid hi a b k.1 l)
all_noted_append s x y lo mid hi (given (to_goal z t) ∷ a) b k l =
    (k.0, k.1, k.2, k.3, k.4, all_noted_append s x y k.2 mid hi a b k.5 l)
all_noted_append s x y lo mid hi (asked z ∷ a) b k l = (k.0, all_noted_append s x y lo mid hi a b k.1 l)

-- Where no reader is waited on, the notes are gifts.
pub gifts_held : (s : List ℕ) (x : Setting) (y : Template) (lo hi : ℕ) (ns : List Note) → AllNoted s x y lo hi ns → AllGiven s x y lo hi (gifts_in ns)
unfolding AllNoted AllGiven gifts_in
gifts_held s x y lo hi [] k = k
gifts_held s x y lo hi (given (to_head n u) ∷ ns) k = (k.0, gifts_held s x y lo hi ns k.1)
gifts_held s x y lo hi (given (to_goal z t) ∷ ns) k = (k.0, k.1, k.2, k.3, k.4, gifts_held s x y k.2 hi ns k.5)
gifts_held s x y lo hi (asked z ∷ ns) k = gifts_held s x y lo hi ns k.1

no_first : (z : ℕ) (zs : List ℕ) → (z ∷ zs) ≡ [] → ⊥
no_first z zs e =
    let wrong : ◌≡◌ {A = ℕ} 0 1 = cc in
    absurd (omega arith)

-- What they come to: they succeed, or they wait on some reader.
pub outcome_succeeds : (p c : ℕ) (ns : List Note) → asks_in ns ≡ [] → outcome_of p c ns ≡ succeeds (assignments p c (gifts_in ns))
unfolding judged
outcome_succeeds p c ns e = rw e

pub outcome_waits : (p c : ℕ) (ns : List Note) → asks_in ns ≢ [] → outcome_of p c ns ≡ waits (asks_in ns)
unfolding judged
outcome_waits p c ns some = go (asks_in ns) some
  where
    go : (zs : List ℕ) → zs ≢ [] → judged zs (assignments p c (gifts_in ns)) ≡ waits zs
    go [] some = absurd (some refl)
    go (z ∷ zs) some = refl

pub gifts_counted : (ns : List Note) → asks_in ns ≡ [] → noted ns ≡ entries (gifts_in ns)
unfolding asks_in noted entries gifts_in
gifts_counted [] e = refl
gifts_counted (given (to_head n u) ∷ ns) e = gifts_counted ns e
gifts_counted (given (to_goal z t) ∷ ns) e = ap (λ k. k + 1) (gifts_counted ns e)
gifts_counted (asked z ∷ ns) e = absurd (no_first z (asks_in ns) e)

pub gifts_recorded : (item unit : Places) (n : ℕ) (ns : List Note) (s : List ℕ) → asks_in ns ≡ []
    → written item unit n ns s ≡ recorded item unit n (gifts_in ns) s
unfolding asks_in written recorded gifts_in
gifts_recorded item unit n [] s e = refl
gifts_recorded item unit n (given (to_head x u) ∷ ns) s e = gifts_recorded item unit n ns (head_written x (term_word unit u) s) e
gifts_recorded item unit n (given (to_goal z t) ∷ ns) s e =
    gifts_recorded item unit (n + 1) ns (goal_written n (unit.pair z) (term_word item t) s) e
gifts_recorded item unit n (asked z ∷ ns) s e = absurd (no_first z (asks_in ns) e)
