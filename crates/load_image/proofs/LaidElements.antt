-- What stands behind a clause's `:-` is laid out when it is read: the elements, and what they are as guards and as goals.
use Prim.Native.Nat.{ℕ, suc, ◌+◌, ◌≤◌}
use mathlib.Core.Path.{◌≡◌, refl, sym}
use mathlib.Core.Bool.{Bool, true, false, ◌&&◌}
use mathlib.Core.List.{List, [], ◌∷◌, ◌++◌}
use mathlib.Core.Option.{Option, none, some}
use native.Mathlib.Omega.{arith}
use lib.Dec.{eqb}
use lib.ListN.{length}
use borrow.Author.Tests.{eqb-true}
use Rattle.meaning.specs.Bytes.{Bytes, bytes, same}
use Rattle.meaning.specs.Terms.{Constant, empty, cell, named, Term, Terms, compound, end, more, Named, Row, Guard, count, as_term}
use Rattle.meaning.specs.Tokens.{Tokens}
use Rattle.meaning.specs.Table.{Element, whole, bare, equals, as_goals, row, rows_before, rows_between, rows_alone, in_rows, as_guard, with_guard, as_guards}
use Rattle.meaning.specs.Items.{Counted, by_itself, equals_behind, element_behind}
use Rattle.term.specs.Cells.{Numbered, AllNumbered, KnownName, Known, AllKnown}
use Rattle.term.specs.Jobs.{GoalsNumbered, GoalsKnown}
use Rattle.term.specs.Guards.{TestNumbered, GuardsNumbered, GuardsKnown}
use Rattle.load_image.proofs.Steps.{StepsFrom, then_steps, give_steps, next_steps, cannot_stand_steps, if_next_steps}
use Rattle.load_image.proofs.SmallSteps.{count_compound_steps}
use Rattle.load_image.proofs.Laid.{numbered_wider, known_wider, TermLaid, term_steps}

-- Each row of a list.
unfoldable EachRow : (Row → Type 0) → List Row → Type 0
EachRow P [] = Unit {0}
EachRow P (r ∷ rows) = P r × EachRow P rows

and_second : (a b : Bool) → (a && b) ≡ true → b ≡ true
and_second true b e = e
and_second false b e = let z : ◌≡◌ {A = ℕ} 0 1 = cc in absurd (omega arith)

-- The compounds of an element, from lo up to hi, and its names.
unfoldable pub ElementNumbered : ℕ → ℕ → Element → Type 0
ElementNumbered lo hi (whole g) = Numbered lo hi (as_term g)
ElementNumbered lo hi (bare f) = lo ≤ hi
ElementNumbered lo hi (equals n t u) = Numbered lo n t × Numbered (n + 1) hi u

unfoldable pub ElementKnown : List Bytes → Element → Type 0
ElementKnown names (whole g) = Known names (as_term g)
ElementKnown names (bare f) = KnownName names f
ElementKnown names (equals n t u) = Known names t × Known names u

unfoldable pub ElementsNumbered : ℕ → ℕ → List Element → Type 0
ElementsNumbered lo hi [] = lo ≡ hi
ElementsNumbered lo hi (e ∷ es) = (mid : ℕ) × ElementNumbered lo mid e × ElementsNumbered mid hi es

unfoldable pub ElementsKnown : List Bytes → List Element → Type 0
ElementsKnown names [] = Unit {0}
ElementsKnown names (e ∷ es) = ElementKnown names e × ElementsKnown names es

pub record ElementLaid (from : ℕ) (d : Counted) (e : Element) : Type 0 where
  pub numbered : ElementNumbered from d.compounds e
  pub known : ElementKnown d.names e

pub record ElementsLaid (from : ℕ) (d : Counted) (es : List Element) : Type 0 where
  pub numbered : ElementsNumbered from d.compounds es
  pub known : ElementsKnown d.names es

element_wider : (lo hi hi' : ℕ) (e : Element) → hi ≤ hi' → ElementNumbered lo hi e → ElementNumbered lo hi' e
unfolding ElementNumbered
element_wider lo hi hi' (whole g) w k = numbered_wider lo hi hi' (as_term g) w k
element_wider lo hi hi' (bare f) w k = omega (arith, k)
element_wider lo hi hi' (equals n t u) w k = (k.0, numbered_wider (n + 1) hi hi' u w k.1)

element_known_wider : (n n' : List Bytes) → ((f : Bytes) → KnownName n f → KnownName n' f) → (e : Element) → ElementKnown n e → ElementKnown n' e
unfolding ElementKnown
element_known_wider n n' w (whole g) k = known_wider n n' w (as_term g) k
element_known_wider n n' w (bare f) k = w f k
element_known_wider n n' w (equals m t u) k = (known_wider n n' w t k.0, known_wider n n' w u k.1)

pub elements_known_wider : (n n' : List Bytes) → ((f : Bytes) → KnownName n f → KnownName n' f) → (es : List Element) → ElementsKnown n es → ElementsKnown n' es
unfolding ElementsKnown
elements_known_wider n n' w [] k = tt
elements_known_wider n n' w (e ∷ es) k = (element_known_wider n n' w e k.0, elements_known_wider n n' w es k.1)

-- One element more at the end.
numbered_snoc : (lo mid hi : ℕ) (es : List Element) (e : Element) → ElementsNumbered lo mid es → ElementNumbered mid hi e → ElementsNumbered lo hi (es ++ (e ∷ []))
unfolding ElementsNumbered
numbered_snoc lo mid hi [] e k l = (hi, rw k l, refl)
numbered_snoc lo mid hi (x ∷ es) e k l = (k.0, k.1, numbered_snoc k.0 mid hi es e k.2 l)

known_snoc : (names : List Bytes) (es : List Element) (e : Element) → ElementsKnown names es → ElementKnown names e → ElementsKnown names (es ++ (e ∷ []))
unfolding ElementsKnown
known_snoc names [] e k l = (l, tt)
known_snoc names (x ∷ es) e k l = (k.0, known_snoc names es e k.1 l)

pub laid_snoc : (from : ℕ) (c d : Counted) (es : List Element) (e : Element) → ((f : Bytes) → KnownName c.names f → KnownName d.names f)
    → ElementsLaid from c es → ElementLaid c.compounds d e → ElementsLaid from d (es ++ (e ∷ []))
laid_snoc from c d es e wider l k = record {
  numbered = numbered_snoc from c.compounds d.compounds es e l.numbered k.numbered;
  known = known_snoc d.names es e (elements_known_wider c.names d.names wider es l.known) k.known;
}

-- An element read.
by_itself_steps : (from : ℕ) (t : Term) (c : Counted) (ts : Tokens) → TermLaid from c t → StepsFrom c ts (λ d s e. ElementLaid from d e) (by_itself t)
unfolding by_itself ElementNumbered ElementKnown Numbered Known as_term
by_itself_steps from (compound n (named f) ts) c s laid = give_steps (whole (record { number = n; name = f; arguments = ts })) (record { numbered = laid.numbered; known = laid.known })
by_itself_steps from (compound n cell ts) c s laid = next_steps (λ p t u. cannot_stand_steps p)
by_itself_steps from (Term.constant (Constant.name f)) c s laid = give_steps (bare f) (record { numbered = laid.numbered; known = laid.known })
by_itself_steps from (Term.constant (Constant.integer i)) c s laid = next_steps (λ p t u. cannot_stand_steps p)
by_itself_steps from (Term.constant empty) c s laid = next_steps (λ p t u. cannot_stand_steps p)
by_itself_steps from (Term.variable h n) c s laid = next_steps (λ p t u. cannot_stand_steps p)

equals_steps : (from : ℕ) (t : Term) (c : Counted) (ts : Tokens) → TermLaid from c t → StepsFrom c ts (λ d s e. ElementLaid from d e) (equals_behind t)
unfolding equals_behind ElementNumbered ElementKnown
equals_steps from t c ts laid =
    then_steps (count_compound_steps c ts) (λ d s n o h.
    then_steps (term_steps 16 d s) (λ e u right p last.
    let first : n ≡ c.compounds = h.0 in
    let next : d.compounds ≡ n + 1 = omega (arith, h.0, h.1) in
    give_steps (equals n t right) (record {
      numbered = (rw first laid.numbered, rw next at last.numbered);
      known = (known_wider c.names e.names (λ f k. p.wider f (o.wider f k)) t laid.known, last.known);
    })))

pub element_steps : (c : Counted) (ts : Tokens) → StepsFrom c ts (λ d s e. ElementLaid c.compounds d e) element_behind
unfolding element_behind
element_steps c ts =
    then_steps (term_steps 16 c ts) (λ d s t o laid.
    if_next_steps "=" (λ u. equals_steps c.compounds t d u laid) (by_itself_steps c.compounds t d s laid))

-- The elements as goals.
pub as_goals_laid : (lo hi : ℕ) (names : List Bytes) (es : List Element) (gs : List Named) → as_goals es ≡ some gs → ElementsNumbered lo hi es → ElementsKnown names es
    → GoalsNumbered lo hi gs × GoalsKnown names gs × (length gs ≡ length es)
unfolding as_goals ElementsNumbered ElementNumbered ElementsKnown ElementKnown GoalsNumbered GoalsKnown
as_goals_laid lo hi names [] gs e k l = let none_here : [] ≡ gs = cc in rw (← none_here) (omega (arith, k), tt, refl)
as_goals_laid lo hi names (whole g ∷ es) gs e k l = go (as_goals es) refl (λ hs q. as_goals_laid k.0 hi names es hs q k.2 l.1)
  where
    go : (o : Option (List Named)) → as_goals es ≡ o
        → ((hs : List Named) → as_goals es ≡ some hs → GoalsNumbered k.0 hi hs × GoalsKnown names hs × (length hs ≡ length es))
        → GoalsNumbered lo hi gs × GoalsKnown names gs × (length gs ≡ suc (length es))
    go none q further = let z : none ≡ some gs = rw q at e in let y : ◌≡◌ {A = ℕ} 0 1 = cc in absurd (omega arith)
    go (some hs) q further =
        let z : some (g ∷ hs) ≡ some gs = rw q at e in
        let gs_are : g ∷ hs ≡ gs = cc in
        let rest = further hs q in
        rw (← gs_are) ((k.0, k.1, rest.0), (l.0, rest.1), omega (arith, rest.2))
as_goals_laid lo hi names (bare f ∷ es) gs e k l = let z : ◌≡◌ {A = ℕ} 0 1 = cc in absurd (omega arith)
as_goals_laid lo hi names (equals n t u ∷ es) gs e k l = let z : ◌≡◌ {A = ℕ} 0 1 = cc in absurd (omega arith)

-- A row of a kind, by its name and count, as a guard.
made : Row → ℕ → Terms → Guard
made r n ts = record { row = r; number = n; arguments = ts }

in_rows_made : (P : Row → Type 0) (rows : List Row) (f : Bytes) (n : ℕ) (ts : Terms) → EachRow P rows → (g : Guard) → in_rows rows f n ts ≡ some g
    → (r : Row) × (g ≡ made r n ts) × (r.count ≡ count ts) × P r
unfolding in_rows made EachRow
in_rows_made P [] f n ts each g e = let z : ◌≡◌ {A = ℕ} 0 1 = cc in absurd (omega arith)
in_rows_made P (r ∷ rows) f n ts each g e =
    go (same r.name f && eqb r.count (count ts)) refl (in_rows_made P rows f n ts each.1 g)
  where
    go : (c : Bool) → (same r.name f && eqb r.count (count ts)) ≡ c
        → (in_rows rows f n ts ≡ some g → (r : Row) × (g ≡ made r n ts) × (r.count ≡ count ts) × P r)
        → (r : Row) × (g ≡ made r n ts) × (r.count ≡ count ts) × P r
    go true q further =
        let e' : some (made r n ts) ≡ some g = rw (q, in_rows) at e in
        (r, cc, eqb-true r.count (count ts) (and_second (same r.name f) (eqb r.count (count ts)) q), each.0)
    go false q further = further (rw (q, in_rows) at e)

-- A guard's compounds are numbered as its element's are, and it has at most two arguments.
pub record GuardLaid (lo hi : ℕ) (names : List Bytes) (g : Guard) : Type 0 where
  pub numbered : TestNumbered g.row.test lo hi g.number g.arguments
  pub known : AllKnown names g.arguments
  pub counted : count g.arguments ≡ g.row.count
  pub few : g.row.count ≤ 2

before_rows : (lo hi : ℕ) → EachRow (λ r. ((n : ℕ) (ts : Terms) → (n ≡ lo) × AllNumbered (lo + 1) hi ts → TestNumbered r.test lo hi n ts) × (r.count ≤ 2)) rows_before
unfolding rows_before EachRow TestNumbered row
before_rows lo hi =
    ((λ n ts k. k, omega arith), ((λ n ts k. k, omega arith), ((λ n ts k. k, omega arith), ((λ n ts k. k, omega arith), ((λ n ts k. k, omega arith), tt)))))

alone_rows : (lo hi : ℕ) → lo ≤ hi → EachRow (λ r. TestNumbered r.test lo hi 0 end × (r.count ≤ 2)) rows_alone
unfolding rows_alone EachRow TestNumbered row
alone_rows lo hi k = (((k, refl), omega arith), tt)

between_rows : (lo hi n : ℕ) (t u : Term) → Numbered lo n t × Numbered (n + 1) hi u
    → EachRow (λ r. TestNumbered r.test lo hi n (more t (more u end)) × (r.count ≤ 2)) rows_between
unfolding rows_between EachRow TestNumbered row
between_rows lo hi n t u k = ((k, omega arith), tt)

as_guard_laid : (lo hi : ℕ) (names : List Bytes) (e : Element) (g : Guard) → as_guard e ≡ some g → ElementNumbered lo hi e → ElementKnown names e
    → GuardLaid lo hi names g
unfolding as_guard ElementNumbered ElementKnown Numbered Known AllKnown as_term made
as_guard_laid lo hi names (whole h) g e k l =
    let (r, g_is, counted, row_is) = in_rows_made (λ r. ((n : ℕ) (ts : Terms) → (n ≡ lo) × AllNumbered (lo + 1) hi ts → TestNumbered r.test lo hi n ts) × (r.count ≤ 2))
    rows_before h.name h.number h.arguments (before_rows lo hi) g e in
    rw g_is (record { numbered = row_is.0 h.number h.arguments (k.0, k.2); known = l.1; counted = sym counted; few = row_is.1 })
as_guard_laid lo hi names (bare f) g e k l =
    let (r, g_is, counted, row_is) = in_rows_made (λ r. TestNumbered r.test lo hi 0 end × (r.count ≤ 2)) rows_alone f 0 end (alone_rows lo hi k) g e in
    rw g_is (record { numbered = row_is.0; known = tt; counted = sym counted; few = row_is.1 })
as_guard_laid lo hi names (equals n t u) g e k l =
    let (r, g_is, counted, row_is) = in_rows_made (λ r. TestNumbered r.test lo hi n (more t (more u end)) × (r.count ≤ 2)) rows_between (bytes "==") n (more t (more u end))
    (between_rows lo hi n t u k) g e in
    rw g_is (record { numbered = row_is.0; known = (l.0, (l.1, tt)); counted = sym counted; few = row_is.1 })

pub as_guards_laid : (lo hi : ℕ) (names : List Bytes) (es : List Element) (gs : List Guard) → as_guards es ≡ some gs → ElementsNumbered lo hi es → ElementsKnown names es
    → GuardsNumbered lo hi gs × GuardsKnown names gs × (length gs ≡ length es)
unfolding as_guards with_guard ElementsNumbered ElementsKnown GuardsNumbered GuardsKnown
as_guards_laid lo hi names [] gs e k l = let none_here : [] ≡ gs = cc in rw (← none_here) (omega (arith, k), tt, refl)
as_guards_laid lo hi names (x ∷ es) gs e k l =
    go (as_guard x) refl (as_guards es) refl (λ hs q. as_guards_laid k.0 hi names es hs q k.2 l.1)
  where
    go : (o : Option Guard) → as_guard x ≡ o → (os : Option (List Guard)) → as_guards es ≡ os
        → ((hs : List Guard) → as_guards es ≡ some hs → GuardsNumbered k.0 hi hs × GuardsKnown names hs × (length hs ≡ length es))
        → GuardsNumbered lo hi gs × GuardsKnown names gs × (length gs ≡ suc (length es))
    go none p os q further = let z : none ≡ some gs = rw p at e in let y : ◌≡◌ {A = ℕ} 0 1 = cc in absurd (omega arith)
    go (some g) p none q further = let z : none ≡ some gs = rw (p, q) at e in let y : ◌≡◌ {A = ℕ} 0 1 = cc in absurd (omega arith)
    go (some g) p (some hs) q further =
        let z : some (g ∷ hs) ≡ some gs = rw (p, q) at e in
        let gs_are : g ∷ hs ≡ gs = cc in
        let it = as_guard_laid lo k.0 names x g p k.1 l.0 in
        let rest = further hs q in
        rw (← gs_are) ((k.0, it.numbered, rest.0), ((it.known, it.counted, it.few), rest.1), omega (arith, rest.2))
