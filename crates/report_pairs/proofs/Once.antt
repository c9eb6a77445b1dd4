-- Pairs in order of first appearance, part by part: what was seen before counts as seen, in whatever order.
-- So a section's numbers grow from left to right, and a number once given stays.
use Prim.Native.Nat.{ℕ, suc, ◌+◌, ◌≤◌}
use mathlib.Core.Path.{◌≡◌, refl, sym, ap, ◌∙◌}
use mathlib.Core.Logic.{inl, inr, ⊎_elim}
use mathlib.Core.Bool.{Bool, true, false, ◌||◌}
use mathlib.Core.List.{List, [], ◌∷◌, ◌++◌, append_assoc, append-nil}
use native.Mathlib.Omega.{arith}
use lib.Dec.{eqb}
use lib.ListN.{length, length-append}
use borrow.Author.Tests.{eq-eqb}
use Rattle.meaning.specs.Bytes.{among, each_once}
use Rattle.meaning.specs.Terms.{Half, Constant, Functor, Term, Terms, variable, constant, compound, end, more, pairs_of, pairs_of_all}
use Rattle.meaning.specs.Report.{number_in, Line, pairs_shown, unassigned_pairs}
use Rattle.laws.proofs.Lists.Among.{In, here, in_append_left, in_append_right, each_once_covers}
use Rattle.laws.proofs.Terms.Standing.{Stands, StandsIn}
use Rattle.report_pairs.specs.Threaded.{seen_after, seen_after_all, seen_after_lines}

pub among_append : (n : ℕ) (l m : List ℕ) → among n (l ++ m) ≡ among n l || among n m
unfolding among
among_append n [] m = refl
among_append n (k ∷ l) m = go (eqb n k) (among_append n l m)
  where
    go : (b : Bool) → among n (l ++ m) ≡ among n l || among n m → b || among n (l ++ m) ≡ (b || among n l) || among n m
    go true further = refl
    go false further = further

-- What is kept depends only on which numbers were seen.
pub each_once_alike : (seen other ns : List ℕ) → ((n : ℕ) → among n seen ≡ among n other) → each_once seen ns ≡ each_once other ns
unfolding each_once among
each_once_alike seen other [] alike = refl
each_once_alike seen other (n ∷ ns) alike =
    go (among n seen) refl (each_once_alike seen other ns alike) (each_once_alike (n ∷ seen) (n ∷ other) ns (both alike n))
  where
    both : ((k : ℕ) → among k seen ≡ among k other) → (n k : ℕ) → among k (n ∷ seen) ≡ among k (n ∷ other)
    both alike n k = ap (λ (b : Bool). eqb k n || b) (alike k)

    go : (b : Bool) → among n seen ≡ b → each_once seen ns ≡ each_once other ns → each_once (n ∷ seen) ns ≡ each_once (n ∷ other) ns
        → each_once seen (n ∷ ns) ≡ each_once other (n ∷ ns)
    go true e f g = let e' : among n other ≡ true = sym (alike n) ∙ e in rw (e, e', each_once) f
    go false e f g = let e' : among n other ≡ false = sym (alike n) ∙ e in rw (e, e', each_once) (ap (◌∷◌ n) g)

-- A number seen in front or behind is seen.
moved : (n : ℕ) (seen behind : List ℕ) (k : ℕ) → among k ((n ∷ seen) ++ behind) ≡ among k (seen ++ (n ∷ behind))
unfolding among
moved n seen behind k =
    ap (λ (b : Bool). eqb k n || b) (among_append k seen behind) ∙ sym (turned (eqb k n) (among k seen) (among k behind)) ∙ sym (among_append k seen (n ∷ behind))
  where
    turned : (a b c : Bool) → b || (a || c) ≡ a || (b || c)
    turned true true c = refl
    turned true false c = refl
    turned false b c = refl

-- Of two lists one behind the other: the first one's numbers are seen when the second's turn comes.
pub each_once_append : (seen xs ys : List ℕ) → each_once seen (xs ++ ys) ≡ each_once seen xs ++ each_once (seen ++ each_once seen xs) ys
unfolding each_once
each_once_append seen [] ys = rw append-nil
each_once_append seen (n ∷ xs) ys = go (among n seen) refl (each_once_append seen xs ys) (each_once_append (n ∷ seen) xs ys)
  where
    go : (b : Bool) → among n seen ≡ b
        → each_once seen (xs ++ ys) ≡ each_once seen xs ++ each_once (seen ++ each_once seen xs) ys
        → each_once (n ∷ seen) (xs ++ ys) ≡ each_once (n ∷ seen) xs ++ each_once ((n ∷ seen) ++ each_once (n ∷ seen) xs) ys
        → each_once seen ((n ∷ xs) ++ ys) ≡ each_once seen (n ∷ xs) ++ each_once (seen ++ each_once seen (n ∷ xs)) ys
    go true e f g = rw (e, each_once) f
    go false e f g =
        rw (e, each_once)
        (ap (◌∷◌ n) (g ∙ ap (◌++◌ (each_once (n ∷ seen) xs)) (each_once_alike ((n ∷ seen) ++ each_once (n ∷ seen) xs) (seen ++ (n ∷ each_once (n ∷ seen) xs)) ys (moved n seen (each_once (n ∷ seen) xs)))))

-- The pairs of a term before others are those of the term alone, and then the others.
mutual
  unfolding pairs_of pairs_of_all

  pub pairs_before : (t : Term) (behind : List ℕ) → pairs_of t behind ≡ pairs_of t [] ++ behind
  pairs_before (variable h n) behind = refl
  pairs_before (constant k) behind = refl
  pairs_before (compound n f ts) behind = all_pairs_before ts behind

  pub all_pairs_before : (ts : Terms) (behind : List ℕ) → pairs_of_all ts behind ≡ pairs_of_all ts [] ++ behind
  all_pairs_before end behind = refl
  all_pairs_before (more t ts) behind =
      pairs_before t (pairs_of_all ts behind)
      ∙ ap (◌++◌ (pairs_of t [])) (all_pairs_before ts behind)
      ∙ sym (append_assoc (pairs_of t []) (pairs_of_all ts []) behind)
      ∙ ap (λ (l : List ℕ). l ++ behind) (sym (pairs_before t (pairs_of_all ts [])))

-- Seen after a list of pairs and then others.
abbrev after_pairs : List ℕ → List ℕ → List ℕ
after_pairs seen ns = seen ++ each_once seen ns

after_pairs_append : (seen xs ys : List ℕ) → after_pairs seen (xs ++ ys) ≡ after_pairs (after_pairs seen xs) ys
after_pairs_append seen xs ys =
    ap (◌++◌ seen) (each_once_append seen xs ys) ∙ sym (append_assoc seen (each_once seen xs) (each_once (after_pairs seen xs) ys))

-- Seen after a constant, a variable, a compound; after no argument, and after one and then the others.
pub seen_after_constant : (seen : List ℕ) (k : Constant) → seen_after seen (constant k) ≡ seen
unfolding seen_after pairs_of each_once
seen_after_constant seen k = append-nil seen

pub seen_after_known : (seen : List ℕ) (h : Half) (p : ℕ) → among p seen ≡ true → seen_after seen (variable h p) ≡ seen
unfolding seen_after pairs_of each_once
seen_after_known seen h p e = rw (e, each_once) (append-nil seen)

pub seen_after_new : (seen : List ℕ) (h : Half) (p : ℕ) → among p seen ≡ false → seen_after seen (variable h p) ≡ seen ++ (p ∷ [])
unfolding seen_after pairs_of each_once
seen_after_new seen h p e = rw (e, each_once)

pub seen_after_compound : (seen : List ℕ) (n : ℕ) (f : Functor) (ts : Terms) → seen_after seen (compound n f ts) ≡ seen_after_all seen ts
unfolding seen_after seen_after_all pairs_of
seen_after_compound seen n f ts = refl

pub seen_after_end : (seen : List ℕ) → seen_after_all seen end ≡ seen
unfolding seen_after_all pairs_of_all each_once
seen_after_end seen = append-nil seen

pub seen_after_more : (seen : List ℕ) (t : Term) (ts : Terms) → seen_after_all seen (more t ts) ≡ seen_after_all (seen_after seen t) ts
unfolding seen_after seen_after_all pairs_of_all
seen_after_more seen t ts =
    ap (after_pairs seen) (pairs_before t (pairs_of_all ts [])) ∙ after_pairs_append seen (pairs_of t []) (pairs_of_all ts [])

-- Each keeps what was seen in front.
pub seen_after_keeps : (seen : List ℕ) (t : Term) → (new : List ℕ) × (seen_after seen t ≡ seen ++ new)
unfolding seen_after
seen_after_keeps seen t = (each_once seen (pairs_of t []), refl)

pub seen_after_all_keeps : (seen : List ℕ) (ts : Terms) → (new : List ℕ) × (seen_after_all seen ts ≡ seen ++ new)
unfolding seen_after_all
seen_after_all_keeps seen ts = (each_once seen (pairs_of_all ts []), refl)

joined_keeps : (a b c : List ℕ) → (new : List ℕ) × (b ≡ a ++ new) → (new : List ℕ) × (c ≡ b ++ new) → (new : List ℕ) × (c ≡ a ++ new)
joined_keeps a b c (first, e) (others, f) = (first ++ others, f ∙ ap (λ (l : List ℕ). l ++ others) e ∙ append_assoc a first others)

pub seen_after_lines_keeps : (seen : List ℕ) (ls : List Line) → (new : List ℕ) × (seen_after_lines seen ls ≡ seen ++ new)
unfolding seen_after_lines
seen_after_lines_keeps seen [] = ([], sym (append-nil seen))
seen_after_lines_keeps seen (l ∷ ls) =
    joined_keeps seen (seen_after seen l.shown) (seen_after_lines (seen_after seen l.shown) ls) (seen_after_keeps seen l.shown)
    (seen_after_lines_keeps (seen_after seen l.shown) ls)

pub seen_after_longer : (seen : List ℕ) (t : Term) → length seen ≤ length (seen_after seen t)
unfolding seen_after
seen_after_longer seen t = simp length-append (omega arith)

-- A pair of a term is seen after it.
mutual
  unfolding Stands StandsIn pairs_of pairs_of_all

  pub stands_in_pairs : (t : Term) (behind : List ℕ) (p : ℕ) → Stands p t → In p (pairs_of t behind)
  stands_in_pairs (variable h n) behind p s = here s
  stands_in_pairs (constant k) behind p s = absurd s
  stands_in_pairs (compound n f ts) behind p s = stands_in_all_pairs ts behind p s

  pub stands_in_all_pairs : (ts : Terms) (behind : List ℕ) (p : ℕ) → StandsIn p ts → In p (pairs_of_all ts behind)
  stands_in_all_pairs end behind p s = absurd s
  stands_in_all_pairs (more t ts) behind p (inl s) = stands_in_pairs t (pairs_of_all ts behind) p s
  stands_in_all_pairs (more t ts) behind p (inr s) =
      let far : In p (pairs_of t [] ++ pairs_of_all ts behind) = in_append_right (pairs_of t []) (stands_in_all_pairs ts behind p s) in
      rw (pairs_before t (pairs_of_all ts behind)) far

in_after_pairs : (seen ns : List ℕ) (p : ℕ) → In p ns → In p (after_pairs seen ns)
in_after_pairs seen ns p m = ⊎_elim (in_append_right seen) (in_append_left (each_once seen ns)) (each_once_covers seen ns p m)

pub in_seen_after : (seen : List ℕ) (t : Term) (p : ℕ) → Stands p t → In p (seen_after seen t)
unfolding seen_after
in_seen_after seen t p s = in_after_pairs seen (pairs_of t []) p (stands_in_pairs t [] p s)

pub in_seen_after_all : (seen : List ℕ) (ts : Terms) (p : ℕ) → StandsIn p ts → In p (seen_after_all seen ts)
unfolding seen_after_all
in_seen_after_all seen ts p s = in_after_pairs seen (pairs_of_all ts []) p (stands_in_all_pairs ts [] p s)

-- A number in the order stays whatever comes behind; a new pair gets the next number.
pub number_in_more : (p : ℕ) (l behind : List ℕ) → among p l ≡ true → number_in p (l ++ behind) ≡ number_in p l
unfolding among number_in
number_in_more p [] behind e = absurd (let z : ◌≡◌ {A = ℕ} 0 1 = cc in omega arith)
number_in_more p (q ∷ qs) behind e = go (eqb p q) refl e (number_in_more p qs behind)
  where
    go : (b : Bool) → eqb p q ≡ b → b || among p qs ≡ true → (among p qs ≡ true → number_in p (qs ++ behind) ≡ number_in p qs)
        → number_in p ((q ∷ qs) ++ behind) ≡ number_in p (q ∷ qs)
    go true f m further = rw (f, number_in)
    go false f m further = rw (f, number_in, further m)

pub number_in_new : (p : ℕ) (l : List ℕ) → among p l ≡ false → number_in p (l ++ (p ∷ [])) ≡ suc (length l)
unfolding among number_in
number_in_new p [] e = rw (eq-eqb p p refl, number_in)
number_in_new p (q ∷ qs) e = go (eqb p q) refl e (number_in_new p qs)
  where
    go : (b : Bool) → eqb p q ≡ b → b || among p qs ≡ false → (among p qs ≡ false → number_in p (qs ++ (p ∷ [])) ≡ suc (length qs))
        → number_in p ((q ∷ qs) ++ (p ∷ [])) ≡ suc (length (q ∷ qs))
    go true f m further = absurd (let z : ◌≡◌ {A = ℕ} 0 1 = cc in omega arith)
    go false f m further = rw (f, number_in, further m)

-- The number of a variable, seen before or new.
pub number_known : (seen : List ℕ) (h : Half) (p : ℕ) → among p seen ≡ true → number_in p (seen_after seen (variable h p)) ≡ number_in p seen
number_known seen h p e = ap (number_in p) (seen_after_known seen h p e)

pub number_new : (seen : List ℕ) (h : Half) (p : ℕ) → among p seen ≡ false → number_in p (seen_after seen (variable h p)) ≡ length seen + 1
number_new seen h p e = ap (number_in p) (seen_after_new seen h p e) ∙ number_in_new p seen e ∙ (omega arith)

-- A number is at least 1, and of a pair in the list at most its length.
pub number_positive : (p : ℕ) (l : List ℕ) → 1 ≤ number_in p l
unfolding number_in
number_positive p [] = omega arith
number_positive p (q ∷ qs) = go (eqb p q) refl
  where
    go : (b : Bool) → eqb p q ≡ b → 1 ≤ number_in p (q ∷ qs)
    go true e = rw (e, number_in) (omega arith)
    go false e = rw (e, number_in) (omega arith)

pub number_at_most : (p : ℕ) (l : List ℕ) → among p l ≡ true → number_in p l ≤ length l
unfolding among number_in
number_at_most p [] e = absurd (let z : ◌≡◌ {A = ℕ} 0 1 = cc in omega arith)
number_at_most p (q ∷ qs) e = go (eqb p q) refl e (number_at_most p qs)
  where
    go : (b : Bool) → eqb p q ≡ b → b || among p qs ≡ true → (among p qs ≡ true → number_in p qs ≤ length qs)
        → number_in p (q ∷ qs) ≤ length (q ∷ qs)
    go true f m further = rw (f, number_in) (omega arith)
    go false f m further = rw (f, number_in) (omega (arith, further m))

-- The section's pairs are those seen after its lines.
pub pairs_of_lines : (seen : List ℕ) (ls : List Line) → after_pairs seen (pairs_shown ls) ≡ seen_after_lines seen ls
unfolding pairs_shown seen_after_lines seen_after each_once
pairs_of_lines seen [] = append-nil seen
pairs_of_lines seen (l ∷ ls) =
    ap (after_pairs seen) (pairs_before l.shown (pairs_shown ls))
    ∙ after_pairs_append seen (pairs_of l.shown []) (pairs_shown ls)
    ∙ pairs_of_lines (after_pairs seen (pairs_of l.shown [])) ls

pub unassigned_pairs_seen : (ls : List Line) → unassigned_pairs ls ≡ seen_after_lines [] ls
unfolding unassigned_pairs
unassigned_pairs_seen ls = pairs_of_lines [] ls
