-- The law of the readers behind a clause's `:-`: up to the full stop each half occurs as often as in the goals; or up to the bar as often as in
-- the guards, and behind it as often as in the goals. No `:-` is passed over, so a rule's tokens are its head's, and then these.
use Prim.Native.Nat.{ℕ, zero, suc, ◌+◌}
use mathlib.Core.Path.{◌≡◌, refl}
use mathlib.Core.Logic.{◌⊎◌, inl, inr}
use mathlib.Core.Bool.{Bool, true, false}
use mathlib.Core.List.{List, [], ◌∷◌, ◌++◌}
use mathlib.Core.Option.{Option, none, some}
use native.Mathlib.Omega.{arith}
use Rattle.meaning.specs.Bytes.{byte, when◌then◌else◌}
use Rattle.meaning.specs.Terms.{Half, Constant, empty, cell, named, Term, compound, Named, occurrences, all_occurrences, goals_occurrences}
use Rattle.meaning.specs.Tokens.{Token, Tokens, ends, token, is}
use Rattle.meaning.specs.Table.{Element, whole, bare, equals, as_goals}
use Rattle.meaning.specs.Items.{
  Counted,
  Read,
  read,
  malformed,
  passed,
  Reader,
  read_on,
  ◌>>=◌,
  ◌>>◌,
  give,
  cannot_stand,
  passes,
  next,
  begins_term,
  standing,
  either,
  if_next,
  goal,
  goals,
  by_itself,
  equals_behind,
  element_behind,
  Body,
  unguarded,
  here,
  guarded,
  behind_element,
  body,
  Rule,
  rule,
}
use Rattle.laws.proofs.Lists.{differ, false_not_true}
use Rattle.laws.proofs.Reading.Passed.{
  cut_behind,
  stop_ends,
  Mark,
  before_stop,
  behind_stop,
  never,
  Over,
  over_then,
  over_nothing,
  one_token,
  Counts,
  give_counts,
  cannot_stand_behind,
  next_counts,
  if_next_counts,
  then_counts,
  after,
}
use Rattle.laws.proofs.Reading.Taken.{standing_counts, count_compound_counts, sign_no_half, sign_not_implied, taken, stop_taken}
use Rattle.laws.proofs.Reading.Occurring.{term_counts, goal_often, goal_counts, goals_often, goals_counts}

-- How often one half of pair n occurs in an element behind `:-`, and in several.
unfoldable pub element_occurrences : Half → ℕ → Element → ℕ
element_occurrences h n (whole g) = all_occurrences h n g.arguments
element_occurrences h n (bare f) = 0
element_occurrences h n (equals m t u) = occurrences h n t + occurrences h n u

unfoldable pub elements_occurrences : Half → ℕ → List Element → ℕ
elements_occurrences h n [] = 0
elements_occurrences h n (e ∷ es) = element_occurrences h n e + elements_occurrences h n es

abbrev pub element_often : Element → Mark
element_often e = before_stop (λ h n. element_occurrences h n e)

abbrev pub elements_often : List Element → Mark
elements_often es = before_stop (λ h n. elements_occurrences h n es)

one_more_element : (h : Half) (n : ℕ) (es : List Element) (e : Element)
    → elements_occurrences h n es + element_occurrences h n e ≡ elements_occurrences h n (es ++ (e ∷ []))
unfolding elements_occurrences
one_more_element h n [] e = omega arith
one_more_element h n (d ∷ es) e = omega (arith, one_more_element h n es e)

-- As goals they hold the same.
as_goals_occur : (h : Half) (n : ℕ) (es : List Element) (gs : List Named) → as_goals es ≡ some gs → elements_occurrences h n es ≡ goals_occurrences h n gs
unfolding as_goals elements_occurrences element_occurrences goals_occurrences
as_goals_occur h n [] gs e = let gs_are : [] ≡ gs = cc in rw (← gs_are) refl
as_goals_occur h n (whole g ∷ es) gs e = go (as_goals es) refl (as_goals_occur h n es)
  where
    go : (o : Option (List Named)) → as_goals es ≡ o → ((gs : List Named) → as_goals es ≡ some gs → elements_occurrences h n es ≡ goals_occurrences h n gs)
        → all_occurrences h n g.arguments + elements_occurrences h n es ≡ goals_occurrences h n gs
    go none q further = let e' : ◌≡◌ {A = Option (List Named)} none (some gs) = rw (q, as_goals) at e in absurd (differ (cc))
    go (some others) q further =
        let e' : some (g ∷ others) ≡ some gs = rw (q, as_goals) at e in
        let gs_are : g ∷ others ≡ gs = cc in
        rw (← gs_are) (rw (further others q) refl)
as_goals_occur h n (bare f ∷ es) gs e = absurd (differ (cc))
as_goals_occur h n (equals m t u ∷ es) gs e = absurd (differ (cc))

-- One element.
nothing_stands_counts : {A : Type 0} {from : Mark} {to : A → Mark} → Counts from to (next (λ place t. cannot_stand place))
nothing_stands_counts = next_counts (λ place t. cannot_stand_behind place t)

by_itself_counts : (t : Term) → Counts (before_stop (λ h n. occurrences h n t)) element_often (by_itself t)
unfolding by_itself element_occurrences occurrences
by_itself_counts (compound n (named f) ts) = give_counts (whole (record { number = n; name = f; arguments = ts })) (λ s h. h) (λ h n. refl)
by_itself_counts (compound n cell ts) = nothing_stands_counts
by_itself_counts (Term.constant (Constant.name f)) = give_counts (bare f) (λ s h. h) (λ h n. refl)
by_itself_counts (Term.constant (Constant.integer i)) = nothing_stands_counts
by_itself_counts (Term.constant empty) = nothing_stands_counts
by_itself_counts (Term.variable h n) = nothing_stands_counts

pub element_behind_counts : Counts (before_stop never) element_often element_behind
unfolding element_behind equals_behind element_occurrences byte
element_behind_counts =
    then_counts (term_counts 16) (λ t.
    if_next_counts "="
    (λ s e. taken "=" s refl e (then_counts count_compound_counts (λ n.
    then_counts (after (λ h n. occurrences h n t) (term_counts 16)) (λ right.
    give_counts (equals n t right) (λ s h. h) (λ h n. refl)))))
    (by_itself_counts t))

-- What the reader of a body went over: the goals up to the full stop; or the guards up to the bar, and the goals behind it.
unfoldable pub OverBody : Mark → List Element → List Named → Option Tokens → Counted → Tokens → Counted → Tokens → Type 0
OverBody from es gs none c s d rest = Over from (goals_often gs) c s d rest
OverBody from es gs (some behind) c s d rest =
    (m : Counted) × Over from (elements_often es) c s m behind × Over (before_stop never) (goals_often gs) m behind d rest

pub record CountsBody (from : Mark) (r : Reader Body) : Type 0 where
  pub over : (c : Counted) (s : Tokens) (b : Body) (d : Counted) (rest : Tokens) → r c s ≡ read b d rest → OverBody from b.guards b.goals b.behind c s d rest

body_then : (from mid : Mark) (es : List Element) (gs : List Named) (o : Option Tokens) (c d e : Counted) (s middle rest : Tokens)
    → Over from mid c s d middle → OverBody mid es gs o d middle e rest → OverBody from es gs o c s e rest
unfolding OverBody
body_then from mid es gs none c d e s middle rest first others = over_then from mid (goals_often gs) c d e s middle rest first others
body_then from mid es gs (some behind) c d e s middle rest first (m, guards, others) =
    (m, over_then from mid (elements_often es) c d m s middle behind first guards, others)

read_on_body : {A : Type 0} {from : Mark} {mid : A → Mark} (k : A → Reader Body) → ((a : A) → CountsBody (mid a) (k a)) → (c : Counted) (s : Tokens) (x : Read A)
    → ((a : A) (d : Counted) (middle : Tokens) → x ≡ read a d middle → Over from (mid a) c s d middle)
    → (b : Body) (e : Counted) (rest : Tokens) → read_on x k ≡ read b e rest → OverBody from b.guards b.goals b.behind c s e rest
unfolding read_on
read_on_body {from = from} {mid = mid} k on c s (read a d middle) first b e rest q =
    body_then from (mid a) b.guards b.goals b.behind c d e s middle rest (first a d middle refl) ((on a).over d middle b e rest q)
read_on_body k on c s (malformed place) first b e rest q = absurd (differ (cc))
read_on_body k on c s passed first b e rest q = absurd (differ (cc))

then_body : {A : Type 0} {from : Mark} {mid : A → Mark} {r : Reader A} {k : A → Reader Body} → Counts from mid r → ((a : A) → CountsBody (mid a) (k a))
    → CountsBody from (r >>= k)
unfolding ◌>>=◌
then_body {r = r} {k = k} first on =
    record { over = λ c s b e rest q. read_on_body k on c s (r c s) (λ a d middle p. first.over c s a d middle p) b e rest q }

-- At the bar and at the full stop.
module _ (es : List Element) (c : Counted) (place : ℕ) (t : Token) (s : Tokens) (b : Body) (d : Counted) (rest : Tokens) where
  at_bar : is "|" t ≡ true → guarded es c s ≡ read b d rest → OverBody (elements_often es) b.guards b.goals b.behind c (token place t s) d rest
  unfolding guarded here give ◌>>=◌ read_on byte goals_occurrences OverBody
  at_bar e q = go (if_next "." (give []) (goals 8) c s) refl
    where
      some_goals : Counts (before_stop never) goals_often (if_next "." (give []) (goals 8))
      some_goals = if_next_counts "." (λ t e. stop_taken t e (give_counts [] (λ s h. h) (λ h n. refl))) (goals_counts 8)

      go : (x : Read (List Named)) → if_next "." (give []) (goals 8) c s ≡ x → OverBody (elements_often es) b.guards b.goals b.behind c (token place t s) d rest
      go (read gs e' left) p =
          let q' : read (record { guards = es; goals = gs; behind = some s }) e' left ≡ read b d rest = rw p at q in
          let b_is : record { guards = es; goals = gs; behind = some s } ≡ b = cc in
          let d_is : e' ≡ d = cc in
          let rest_is : left ≡ rest = cc in
          rw (← b_is, ← d_is, ← rest_is) (
            c,
            one_token (elements_often es) false c place t s (sign_no_half "|" t e) (sign_not_implied "|" t refl e) (cut_behind place t s),
            some_goals.over c s gs e' left p,
          )
      go (malformed where_at) p = let q' : malformed where_at ≡ read b d rest = rw p at q in absurd (differ (cc))
      go passed p = let q' : passed ≡ read b d rest = rw p at q in absurd (differ (cc))

  at_stop : is "." t ≡ true → (o : Option (List Named)) → as_goals es ≡ o → unguarded place o c s ≡ read b d rest
      → OverBody (elements_often es) b.guards b.goals b.behind c (token place t s) d rest
  unfolding unguarded cannot_stand give OverBody byte
  at_stop e none p q = absurd (differ (cc))
  at_stop e (some gs) p q =
      let b_is : record { guards = []; goals = gs; behind = none } ≡ b = cc in
      let d_is : c ≡ d = cc in
      let rest_is : s ≡ rest = cc in
      rw (← b_is, ← d_is, ← rest_is)
      (over_then (elements_often es) (behind_stop (λ h n. elements_occurrences h n es)) (goals_often gs) c c c (token place t s) s s
      (one_token (elements_often es) true c place t s (sign_no_half "." t e) (sign_not_implied "." t refl e) (stop_ends place t s e))
      (over_nothing (behind_stop (λ h n. elements_occurrences h n es)) (goals_often gs) c s (λ h. h) (λ h n. as_goals_occur h n es gs p)))

-- Behind the elements so far.
module _ (left : ℕ) (es : List Element) (others : CountsBody (elements_often es) (body left es)) where
  behind_counts : (c : Counted) (place : ℕ) (t : Token) (s : Tokens) (b : Body) (d : Counted) (rest : Tokens) → behind_element (body left) es place t c s ≡ read b d rest
      → OverBody (elements_often es) b.guards b.goals b.behind c (token place t s) d rest
  unfolding behind_element when◌then◌else◌ cannot_stand byte
  behind_counts c place t s b d rest q = go (is "," t) refl (is "|" t) refl (is "." t) refl
    where
      go : (comma : Bool) → is "," t ≡ comma → (bar : Bool) → is "|" t ≡ bar → (stop : Bool) → is "." t ≡ stop
          → OverBody (elements_often es) b.guards b.goals b.behind c (token place t s) d rest
      go true e₁ bar e₂ stop e₃ =
          body_then (elements_often es) (elements_often es) b.guards b.goals b.behind c c d (token place t s) s rest
          (one_token (elements_often es) false c place t s (sign_no_half "," t e₁) (sign_not_implied "," t refl e₁) (cut_behind place t s))
          (others.over c s b d rest (rw e₁ at q))
      go false e₁ true e₂ stop e₃ = at_bar es c place t s b d rest e₂ (rw (e₁, e₂) at q)
      go false e₁ false e₂ true e₃ = at_stop es c place t s b d rest e₃ (as_goals es) refl (rw (e₁, e₂, e₃) at q)
      go false e₁ false e₂ false e₃ = let q' : malformed place ≡ read b d rest = rw (e₁, e₂, e₃) at q in absurd (differ (cc))

  next_body : {f : Half → ℕ → ℕ} → ((h : Half) (n : ℕ) → f h n ≡ elements_occurrences h n es) → CountsBody (before_stop f) (next (behind_element (body left) es))
  unfolding next
  next_body {f} same = record { over = go }
    where
      go : (c : Counted) (s : Tokens) (b : Body) (d : Counted) (rest : Tokens) → next (behind_element (body left) es) c s ≡ read b d rest
          → OverBody (before_stop f) b.guards b.goals b.behind c s d rest
      go c (ends place) b d rest e = absurd (differ (cc))
      go c (token place t s) b d rest e =
          body_then (before_stop f) (elements_often es) b.guards b.goals b.behind c c d (token place t s) (token place t s) rest
          (over_nothing (before_stop f) (elements_often es) c (token place t s) (λ h. h) same) (behind_counts c place t s b d rest e)

from_nothing : (es : List Element) (gs : List Named) (o : Option Tokens) (c d : Counted) (s rest : Tokens)
    → OverBody (elements_often []) es gs o c s d rest → OverBody (before_stop never) es gs o c s d rest
unfolding elements_occurrences
from_nothing es gs o c d s rest h =
    body_then (before_stop never) (elements_often []) es gs o c c d s s rest (over_nothing (before_stop never) (elements_often []) c s (λ h. h) (λ h n. refl)) h

pub body_counts : (left : ℕ) (before : List Element) → CountsBody (elements_often before) (body left before)
unfolding body ◌>>◌ passes
body_counts zero before =
    record {
      over = λ c s b d rest e. read_on_body {mid = λ u. elements_often before} (λ u. passes) (λ u. passes_body) c s (standing begins_term c s)
          (λ a d middle p. (standing_counts begins_term).over c s a d middle p) b d rest e;
    }
  where
    passes_body : {from : Mark} → CountsBody from passes
    passes_body = record { over = λ c s b d rest e. absurd (differ (cc)) }
body_counts (suc left) before =
    then_body (after (λ h n. elements_occurrences h n before) element_behind_counts) (λ e.
    next_body left (before ++ (e ∷ [])) (body_counts left (before ++ (e ∷ []))) (λ h n. one_more_element h n before e))

-- A rule: its head, up to the full stop or to the `:-` and what stands behind it.
pub record OverRule (c : Counted) (s : Tokens) (r : Rule) (d : Counted) (rest : Tokens) : Type 0 where
  pub counted : Counted
  pub place : ℕ
  pub sign : Token
  pub behind : Tokens
  pub head_over : Over (before_stop never) (goal_often r.head) c s counted (token place sign behind)
  pub body_over : ((is "." sign ≡ true) × (r.body ≡ record { guards = []; goals = []; behind = none }) × (counted ≡ d) × (behind ≡ rest))
      ⊎ ((is ":" sign ≡ true) × OverBody (before_stop never) r.body.guards r.body.goals r.body.behind counted behind d rest)

module _ (c : Counted) (s : Tokens) (r : Rule) (d : Counted) (rest : Tokens) where
  behind_sign : (head : Named) (mid : Counted) (place : ℕ) (t : Token) (left : Tokens)
      → Over (before_stop never) (goal_often head) c s mid (token place t left)
      → (implied : Bool) → ((implied ≡ true) × (is ":" t ≡ true)) ⊎ ((implied ≡ false) × (is "." t ≡ true))
      → read_on ((when implied then body 8 [] else give (record { guards = []; goals = []; behind = none })) mid left) (λ b. give (record { head = head; body = b })) ≡ read r d rest
      → OverRule c s r d rest
  unfolding when◌then◌else◌ read_on give
  behind_sign head mid place t left first true (inl (e, neck)) q = go (body 8 [] mid left) refl
    where
      go : (x : Read Body) → body 8 [] mid left ≡ x → OverRule c s r d rest
      go (read b e' left') p =
          let q' : read (record { head = head; body = b }) e' left' ≡ read r d rest = rw p at q in
          let r_is : record { head = head; body = b } ≡ r = cc in
          let d_is : e' ≡ d = cc in
          let rest_is : left' ≡ rest = cc in
          rw (← r_is, ← d_is, ← rest_is) (record {
            counted = mid;
            place = place;
            sign = t;
            behind = left;
            head_over = first;
            body_over = inr (neck, from_nothing b.guards b.goals b.behind mid e' left left' ((body_counts 8 []).over mid left b e' left' p));
          })
      go (malformed where_at) p = let q' : malformed where_at ≡ read r d rest = rw p at q in absurd (differ (cc))
      go passed p = let q' : passed ≡ read r d rest = rw p at q in absurd (differ (cc))
  behind_sign head mid place t left first true (inr (e, stop)) q = absurd (false_not_true true e refl)
  behind_sign head mid place t left first false (inl (e, neck)) q = absurd (false_not_true false refl e)
  behind_sign head mid place t left first false (inr (e, stop)) q =
      let r_is : record { head = head; body = record { guards = []; goals = []; behind = none } } ≡ r = cc in
      let d_is : mid ≡ d = cc in
      let rest_is : left ≡ rest = cc in
      rw (← r_is, ← d_is, ← rest_is) (record { counted = mid; place = place; sign = t; behind = left; head_over = first; body_over = inl (stop, refl, refl, refl) })

  behind_head : (head : Named) (mid : Counted) (left : Tokens) → Over (before_stop never) (goal_often head) c s mid left
      → read_on (either ":" "." mid left) (λ implied. (when implied then body 8 [] else give (record { guards = []; goals = []; behind = none })) >>= λ b. give (record { head = head; body = b }))
      ≡ read r d rest → OverRule c s r d rest
  unfolding either next read_on ◌>>=◌ give cannot_stand when◌then◌else◌
  behind_head head mid (ends place) first q = absurd (differ (cc))
  behind_head head mid (token place t left) first q = go (is ":" t) refl (is "." t) refl
    where
      go : (neck : Bool) → is ":" t ≡ neck → (stop : Bool) → is "." t ≡ stop → OverRule c s r d rest
      go true e₁ stop e₂ = behind_sign head mid place t left first true (inl (refl, e₁)) (rw e₁ at q)
      go false e₁ true e₂ = behind_sign head mid place t left first false (inr (refl, e₂)) (rw (e₁, e₂) at q)
      go false e₁ false e₂ = let q' : malformed place ≡ read r d rest = rw (e₁, e₂) at q in absurd (differ (cc))

  pub rule_counts : rule c s ≡ read r d rest → OverRule c s r d rest
  unfolding rule ◌>>=◌ read_on
  rule_counts q = go (goal c s) refl
    where
      go : (x : Read Named) → goal c s ≡ x → OverRule c s r d rest
      go (read head mid left) p = behind_head head mid left (goal_counts.over c s head mid left p) (rw p at q)
      go (malformed where_at) p = let q' : malformed where_at ≡ read r d rest = rw p at q in absurd (differ (cc))
      go passed p = let q' : passed ≡ read r d rest = rw p at q in absurd (differ (cc))
