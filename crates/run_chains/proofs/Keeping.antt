-- Keeping the ends of a goal's arguments: only ends change, and each that stands is one to which its pair leads.
use Prim.Native.Nat.{ℕ, ◌+◌, ◌*◌, ◌≤◌, ◌<◌}
use mathlib.Core.Path.{◌≡◌, refl, ◌∙◌, sym, ap}
use mathlib.Core.Logic.{◌≢◌}
use mathlib.Core.Bool.{Bool, true, false}
use mathlib.Core.List.{List}
use mathlib.Core.Option.{Option, none, some}
use native.Mathlib.Omega.{arith}
use lib.Dec.{eqb}
use lib.ListN.{length, get_or, set, length-set}
use lib.Seq.{get_or-set_same, get_or-set_other}
use borrow.Author.Tests.{eqb-true, eqb-false}
use Rattle.meaning.specs.Terms.{Half, Functor, Term, Terms, count}
use Rattle.meaning.specs.State.{value}
use Rattle.meaning.specs.Compare.{followed}
use Rattle.term.specs.Chains.{EndOf, end_place}
use Rattle.term.specs.Holds.{value_word}
use Rattle.term.specs.Setting.{Setting, UnitTerms}
use Rattle.term.proofs.Chains.{value_leads}
use Rattle.term.proofs.Units.{unit_terms_alike, unit_stands_alike, end_alike}
use Rattle.term.specs.Words.{tag_in}
use Rattle.term.specs.Layout.{ends_after}
use Rattle.run_chains.specs.Follow.{FollowedTo, PairAt, Keepable, KeepsOf, Keeps, EndsKept}
use Rattle.run_chains.proofs.Following.{pair_inside}
use Rattle.run_chains.proofs.Compounds.{
  compound_inside,
  compound_number,
  compound_few,
  compound_wide,
  compound_count,
  compound_arguments,
  Next,
  next_argument,
}

module _ (x : Setting) (from links : ℕ) where
  pub kept_same : (s : List ℕ) → Keepable s x from links → EndsKept s s x from links
  kept_same s k = record { size = refl; others = λ i d. refl; keepable = k }

  pub kept_then : (s s₁ s₂ : List ℕ) → EndsKept s s₁ x from links → EndsKept s₁ s₂ x from links → EndsKept s s₂ x from links
  kept_then s s₁ s₂ a b = record {
    size = b.size ∙ a.size;
    others = λ k d. b.others k d ∙ a.others k d;
    keepable = b.keepable;
  }

  -- The end of an assigned pair, kept.
  module _ (s : List ℕ) (h : Half) (n w p e : ℕ) (k : KeepsOf s x from links (Term.variable h n) w) (a : PairAt s x from links n p)
      (to : FollowedTo s x from links (Term.variable h n) e) (u : Term) (assigned : value x.values n ≡ some u) where
    abbrev place : ℕ
    place = from + ends_after * links + p

    abbrev s' : List ℕ
    s' = set s place e

    is_end : place ≡ end_place x from n
    is_end = omega (arith, a.chained.links_are, a.place)

    behind : (i : ℕ) → i < from + x.pairs → get_or s' i 0 ≡ get_or s i 0
    behind i l =
        get_or-set_other s place i e 0
        (λ z. omega (arith, a.chained.links_are, a.chained.stands.held.place n a.inside))

    size : length s ≤ length s'
    size = omega (arith, length-set s place e)

    cells : (m : ℕ) → m < x.compounds → (i : ℕ) → x.places.compound m ≤ i → i < x.places.compound m + x.places.width m → get_or s' i 0 ≡ get_or s i 0
    cells m l i b c = behind i (omega (arith, k.keepable.before m l))

    own : EndOf s x n e
    own =
        let l = value_leads x.values links (Term.variable h n) u (omega (arith, a.chained.links_are, a.chained.stands.held.place n a.inside)) assigned in record {
          first = u;
          assigned = assigned;
          links = l.0;
          last = followed links x.values (Term.variable h n);
          leads = l.1;
          term = to.term;
          word = to.word;
        }

    end_now : (m : ℕ) → m < length x.values → get_or s' (end_place x from m) 0 ≢ 0 → EndOf s' x m (get_or s' (end_place x from m) 0)
    end_now m b d = go (eqb m n) refl
      where
        go : (t : Bool) → eqb m n ≡ t → EndOf s' x m (get_or s' (end_place x from m) 0)
        go true q =
            let same : m ≡ n = eqb-true m n q in
            let word : get_or s' (end_place x from n) 0 ≡ e =
            ap (λ i. get_or s' i 0) (sym is_end) ∙ get_or-set_same s place e 0 (pair_inside s x from links n p a)
            in
            rw (same, word) (end_alike s s' x size cells n e own)
        go false q =
            let word : get_or s' (end_place x from m) 0 ≡ get_or s (end_place x from m) 0 =
            get_or-set_other s place (end_place x from m) e 0 (λ z. eqb-false m n q (k.keepable.apart m n b a.inside (omega (arith, is_end))))
            in
            rw word (end_alike s s' x size cells m (get_or s (end_place x from m) 0) (a.chained.ends.kept m b (λ z. d (word ∙ z))))

    pub kept_set : EndsKept s s' x from links
    kept_set = record {
      size = length-set s place e;
      others = λ i d. get_or-set_other s place i e 0 (λ z. d n a.inside (z ∙ is_end));
      keepable = record {
        chained = record {
          stands = unit_stands_alike s s' x size cells from (λ i l b. behind i b) a.chained.stands;
          links_are = a.chained.links_are;
          ends = record {
            inside = omega (arith, a.chained.ends.inside, length-set s place e);
            ended = a.chained.ends.ended;
            kept = end_now;
          };
        };
        apart = k.keepable.apart;
        before = k.keepable.before;
      };
    }

  -- A pair whose value is a reader is assigned.
  pub kept_where : (s : List ℕ) (h : Half) (n w p e v : ℕ) → KeepsOf s x from links (Term.variable h n) w → PairAt s x from links n p
      → FollowedTo s x from links (Term.variable h n) e → v ≡ get_or s (from + p) 0 → tag_in v ≡ 2
      → EndsKept s (set s (from + ends_after * links + p) e) x from links
  kept_where s h n w p e v k a to is two =
      by (value x.values n) refl (is ∙ ap (λ m. get_or s (from + m) 0) a.place ∙ a.chained.stands.held.stands n a.inside)
    where
      by : (o : Option Term) → value x.values n ≡ o → v ≡ value_word x.places o → EndsKept s (set s (from + ends_after * links + p) e) x from links
      by none q f = absurd (omega arith)
      by (some u) q f = kept_set s h n w p e k a to u q

-- So far, before the i-th argument of the compound l at a place: s₀ was the scratch at first.
pub record Upto (s₀ s : List ℕ) (x : Setting) (from links l : ℕ) (f : Functor) (ts : Terms) (k i : ℕ) : Type 0 where
  pub whole : k ≡ count ts
  pub kept : EndsKept s₀ s x from links
  pub j : ℕ
  pub at : i ≡ j + 1
  pub rest : Terms
  pub terms : UnitTerms s x l j rest
  pub left : j + count rest ≡ count ts

module _ {s₀ : List ℕ} {x : Setting} {from links l : ℕ} {f : Functor} {ts : Terms} {goal : ℕ} (a : Keeps s₀ x from links l f ts goal) where
  pub first_upto : (k : ℕ) → k ≡ tag_in (get_or s₀ goal 0) → Upto s₀ s₀ x from links l f ts k 1
  first_upto k e = record {
    whole = compound_count a.term a.place e;
    kept = kept_same x from links s₀ a.keepable;
    j = 0;
    at = refl;
    rest = ts;
    terms = compound_arguments a.term a.place;
    left = omega arith;
  }

  module _ {s : List ℕ} {k i : ℕ} (P : Upto s₀ s x from links l f ts k i) where
    pub count_small : k ≤ 6
    count_small = omega (arith, P.whole, compound_few a.term a.place)

    pub argument_inside : i ≤ k → goal + i < length s
    argument_inside h = omega (arith, compound_inside a.term a.place, P.kept.size, count_small)

    -- The argument at hand.
    abbrev pub Now : ℕ → Type 0
    Now w = Next s x from links l P.j P.rest w

    pub now_at : {w : ℕ} → i ≤ k → w ≡ get_or s (goal + i) 0 → Now w
    now_at h e =
        next_argument P.kept.keepable.chained l P.j P.rest P.terms (omega (arith, P.at, P.whole, P.left))
        (omega (arith, a.place, P.at)) e

    pub keeps_of : {w : ℕ} (N : Now w) → KeepsOf s x from links N.u w
    keeps_of N = record { keepable = P.kept.keepable; reads = N.reads }

    pub upto_more : {w : ℕ} {s' : List ℕ} (N : Now w) → EndsKept s s' x from links → Upto s₀ s' x from links l f ts k (i + 1)
    upto_more {s' = s'} N q = record {
      whole = P.whole;
      kept = kept_then x from links s₀ s s' P.kept q;
      j = P.j + 1;
      at = omega (arith, P.at);
      rest = N.us;
      terms = unit_terms_alike s s' x (omega (arith, q.size))
          (λ m b c lo hi. q.others c (λ n g z. omega (arith, q.keepable.before m b)))
          l (P.j + 1) N.us (compound_number a.term a.place) (omega (arith, N.fewer, P.left, compound_wide a.term a.place)) N.behind;
      left = omega (arith, N.fewer, P.left);
    }
