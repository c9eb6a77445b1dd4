-- What walks leave behind, one after the other: their results taken together, their readers in the set in order, the pairs that they looked through.
use Prim.Native.Nat.{ℕ, ◌+◌, ◌*◌, ◌%◌, ◌≤◌, ◌<◌}
use mathlib.Core.Path.{◌≡◌, refl, sym, ap, ap₂, subst, ◌∙◌}
use mathlib.Core.Logic.{◌⊎◌, inl, inr, ⊎_elim}
use mathlib.Core.Bool.{Bool, true, false, true≢false}
use mathlib.Core.List.Memᴰ
use mathlib.Core.List.{List, [], ◌++◌, map, map-append}
use native.Mathlib.Decide.{ℕ_discrete}
use native.Mathlib.Omega.{arith}
use lib.Dec.{eqb}
use lib.ListN.{get_or}
use borrow.Author.Tests.{eq-eqb}
use Rattle.meaning.specs.Compare.{Result, succeeds, fails}
use Rattle.laws.proofs.Lists.Among.{In, in_none, in_append_cases}
use Rattle.term.specs.States.{listed}
use Rattle.term.proofs.Frames.{only_same, only_then, only_wider}
use Rattle.run_circle.specs.Ground.{Grounds}
use Rattle.run_readers.specs.Readers.{all_met}
use Rattle.run_readers.proofs.Ranks.{listed_kept, readers_kept}
use Rattle.run_asked.specs.Asking.{Joined}
use Rattle.run_ground.specs.Seeking.{together, GroundsAdded}
use Rattle.run_ground.specs.Looking.{
  Scene,
  unit_pair,
  pairs_in,
  of_readers,
  kept_as,
  or_some,
  Shown,
  Placed,
  Looking,
  Looked,
  Behind,
  Goes,
  Found,
  Settled,
}
use Rattle.run_ground.proofs.Entered.{was_entered, entered_cases, cases_entered}
use Rattle.run_ground.proofs.Left.{left, left_less}
use Rattle.run_ground.proofs.Results.{then_readers, then_fails, fails_first, first_decides, then_none, or_some_then, or_some_true, or_some_none}
use Rattle.run_ground.proofs.Sets.{joined_then, in_joined, joined_known}

-- What a state says in its last two bits, and the tests of them.
pub even_of : (state : ℕ) → eqb (state % 2) 1 ≡ false → state % 2 ≡ 0
even_of state e = go (ℕ_discrete (state % 2) 1)
  where
    go : Dec (state % 2 ≡ 1) → state % 2 ≡ 0
    go (yes f) = absurd (true≢false (sym (eq-eqb (state % 2) 1 f) ∙ e))
    go (no d) = omega arith

pub not_three : (state : ℕ) → eqb (state % 4) 3 ≡ false → state % 4 ≡ 3 → ⊥
not_three state e f = true≢false (sym (eq-eqb (state % 4) 3 f) ∙ e)

pub state_goes_on : (first : Bool) (m : ℕ) (p : Bool) → (kept_as first m p % 4 ≡ 3 → ⊥) → first ≡ true → p ≡ false
state_goes_on true m true d e = absurd (d (omega arith))
state_goes_on true m false d e = refl
state_goes_on false m p d e = absurd (true≢false (sym e))

pub state_ends : (first : Bool) (m : ℕ) (p : Bool) → kept_as first m p % 4 ≡ 3 → (first ≡ true) × (p ≡ true)
state_ends true m true e = (refl, refl)
state_ends true m false e = absurd (omega arith)
state_ends false m true e = absurd (omega arith)
state_ends false m false e = absurd (omega arith)

pub state_even : (first : Bool) (m : ℕ) (p : Bool) → kept_as first m p % 2 ≡ 0 → p ≡ false
state_even true m true e = absurd (omega arith)
state_even true m false e = refl
state_even false m true e = absurd (omega arith)
state_even false m false e = refl

module _ (x : Scene) (values marks : ℕ) (shown : Shown x values marks) where
  pub place_small : (j : ℕ) → j < pairs_in x → unit_pair x j < x.unit.pairs
  place_small j l = shown.stands.held.place j l

  pub grounds_later : (s t : List ℕ) → Grounds x.unit.places x.unit.values marks s
      → GroundsAdded x.unit.places x.unit.values marks x.unit.pairs s t → Grounds x.unit.places x.unit.values marks t
  grounds_later s t was new o n l e = ⊎_elim (was o n l) (λ g. g) (new o (unit_pair x n) (place_small n l) e)

module _ (x : Scene) (marks links stamp : ℕ) where
  -- A result that is known already.
  module _ (values state m : ℕ) (p : Bool) (s : List ℕ) (h : Looking s x values marks links stamp state m p) (o : Result) where
    pub found_known : (rs : List ℕ) → o ≡ of_readers rs → ((q : ℕ) → In q rs → q < pairs_in x)
        → ((q : ℕ) → In q rs → In (unit_pair x q) (listed s (marks + links) m)) → (rs ≡ []) ⊎ (p ≡ true)
        → Found s s x marks links stamp m p o state
    found_known rs e below known opened = record {
      only = only_same marks (marks + 3 * x.unit.pairs) s;
      stamps = h.placed.stamps;
      grounds = λ o q l f. inl f;
      entered = λ q l f. f;
      size = m;
      pairs = map (λ q. unit_pair x q) rs;
      joined = joined_known s (marks + links) links m h.readers (map (λ q. unit_pair x q) rs)
          (λ q i. let (a, in_rs, f) = Memᴰ.of_map (λ q. unit_pair x q) rs i in subst (λ k. In k (listed s (marks + links) m)) f (known a in_rs));
      answer = inr (record {
        readers = rs;
        result = e;
        below = below;
        added = refl;
        state = h.state_is ∙ ap (kept_as x.first m)
            (⊎_elim (λ f. rw f refl) (λ f. f ∙ sym (or_some_true p rs f)) opened);
        new = λ j l f. inl f;
      });
    }

    pub found_nothing : o ≡ succeeds [] → Found s s x marks links stamp m p o state
    found_nothing e = found_known [] e (λ q i. absurd (in_none i)) (λ q i. absurd (in_none i)) (inl refl)

    pub found_fails : o ≡ fails → Found s s x marks links stamp m p o 3
    found_fails e = record {
      only = only_same marks (marks + 3 * x.unit.pairs) s;
      stamps = h.placed.stamps;
      grounds = λ o q l f. inl f;
      entered = λ q l f. f;
      size = m;
      pairs = [];
      joined = joined_known s (marks + links) links m h.readers [] (λ q i. absurd (in_none i));
      answer = inl (e, refl);
    }

  pub looked_on : (s t : List ℕ) (m m' : ℕ) (p p' : Bool) (ps : List ℕ) (j : ℕ) → Joined s t (marks + links) links m ps m' → (p ≡ true → p' ≡ true)
      → Looked s x (marks + links) m p j → Looked t x (marks + links) m' p' j
  looked_on s t m m' p p' ps j joined still k = record {
    readers = k.readers;
    result = k.result;
    below = k.below;
    met = λ q i. in_joined s t (marks + links) links m ps m' joined (unit_pair x q) (k.met q i);
    opened = ⊎_elim inl (λ e. inr (still e)) k.opened;
  }

  module _ (s t : List ℕ) (m : ℕ) (p : Bool) (o : Result) (r : ℕ) (f : Found s t x marks links stamp m p o r) where
    pub found_as : (o' : Result) → o' ≡ o → Found s t x marks links stamp m p o' r
    found_as o' e = rw e f

    abbrev pub Going : Type 0
    Going = Goes s t x marks links stamp m p o r f.size f.pairs

    pub goes : (r % 4 ≡ 3 → ⊥) → Going
    goes d = ⊎_elim (λ (e, three). absurd (d (omega arith))) (λ g. g) f.answer

    pub found_left : left (was_entered stamp) t marks x.unit.pairs ≤ left (was_entered stamp) s marks x.unit.pairs
    found_left = left_less (was_entered stamp) s t marks x.unit.pairs (λ q l v.
        cases_entered stamp (get_or t (marks + q) 0) (f.entered q l (entered_cases stamp (get_or s (marks + q) 0) v)))

    -- Behind the last term nothing is left; behind one that ends the walk nothing matters.
    pub last_decides : together x.first o (succeeds []) ≡ o
    last_decides = ⊎_elim (λ (e, three). rw e (fails_first x.first (succeeds []))) (λ g. rw g.result (then_none x.first g.readers)) f.answer

    pub ended_decides : (x.first ≡ true → p ≡ false) → r % 4 ≡ 3 → (others : Result) → together x.first o others ≡ o
    ended_decides goes_on e others = ⊎_elim (λ (f, three). rw f (fails_first x.first others)) decided f.answer
      where
        decided : Goes s t x marks links stamp m p o r f.size f.pairs → together x.first o others ≡ o
        decided g =
            let (is_first, waiting) = state_ends x.first f.size (or_some p g.readers) (rw g.state at e) in
            rw (g.result, is_first)
            (first_decides g.readers others (λ none. true≢false (sym waiting ∙ ap (or_some p) none ∙ goes_on is_first)))

    pub placed_on : (values : ℕ) → Placed s x values marks stamp → Placed t x values marks stamp
    placed_on values h = record {
      shown = h.shown;
      only = only_then marks (marks + 3 * x.unit.pairs) x.base s t h.only f.only;
      stamp_above = h.stamp_above;
      stamp_below = h.stamp_below;
      stamps = f.stamps;
    }

    -- The walk goes on.
    module _ (d : r % 4 ≡ 3 → ⊥) where
      abbrev pub pending_then : Bool
      pending_then = or_some p (goes d).readers

      pub goes_further : x.first ≡ true → pending_then ≡ false
      goes_further = state_goes_on x.first f.size pending_then (λ e. d (rw (goes d).state e))

      pub looking_on : (values state : ℕ) → Looking s x values marks links stamp state m p
          → Looking t x values marks links stamp r f.size pending_then
      looking_on values state h = record {
        placed = placed_on values h.placed;
        links_are = h.links_are;
        state_is = (goes d).state;
        readers = f.joined.ok;
        grounds = grounds_later x values marks h.placed.shown s t h.grounds f.grounds;
        goes_on = goes_further;
      }

      pub behind_on : (Ahead : ℕ → Type 0) → Behind s x marks links stamp m p Ahead → Behind t x marks links stamp f.size pending_then Ahead
      behind_on Ahead b j l e =
          ⊎_elim (λ was. ⊎_elim (λ k. inl (looked_on s t m f.size p pending_then f.pairs j f.joined (or_some_true p (goes d).readers) k)) inr (b j l was))
          inl ((goes d).new j l e)

      pub found_then : (u : List ℕ) (others : Result) (r' : ℕ) → Found t u x marks links stamp f.size pending_then others r'
          → Found s u x marks links stamp m p (together x.first o others) r'
      found_then u others r' b = record {
        only = only_then marks (marks + 3 * x.unit.pairs) s t u f.only b.only;
        stamps = b.stamps;
        grounds = λ o q l e. ⊎_elim (f.grounds o q l) inr (b.grounds o q l e);
        entered = λ q l e. b.entered q l (f.entered q l e);
        size = b.size;
        pairs = f.pairs ++ b.pairs;
        joined = joined_then s t (marks + links) links m f.pairs f.size f.joined u b.pairs b.size b.joined;
        answer = ⊎_elim (λ (e, three). inl (ap₂ (together x.first) g.result e ∙ then_fails x.first g.readers none, three)) (λ c. inr (both c)) b.answer;
      }
        where
          g : Goes s t x marks links stamp m p o r f.size f.pairs
          g = goes d

          none : x.first ≡ true → g.readers ≡ []
          none e = or_some_none p g.readers (goes_further e)

          both : Goes t u x marks links stamp f.size (or_some p g.readers) others r' b.size b.pairs
              → Goes s u x marks links stamp m p (together x.first o others) r' b.size (f.pairs ++ b.pairs)
          both c = record {
            readers = g.readers ++ c.readers;
            result = ap₂ (together x.first) g.result c.result ∙ then_readers x.first g.readers c.readers none;
            below = λ q i. ⊎_elim (g.below q) (c.below q) (in_append_cases g.readers i);
            added = ap₂ ◌++◌ g.added c.added ∙ sym (map-append (λ q. unit_pair x q) g.readers c.readers);
            state = c.state ∙ ap (kept_as x.first b.size) (or_some_then p g.readers c.readers);
            new = λ j l e. ⊎_elim (λ was. ⊎_elim inl (λ k. inr (
                looked_on t u f.size b.size (or_some p g.readers) (or_some p (g.readers ++ c.readers)) b.pairs j b.joined
                (λ h. sym (or_some_then p g.readers c.readers) ∙ or_some_true (or_some p g.readers) c.readers h) k)) (g.new j l was))
                (λ k. inr (subst (λ w. Looked u x (marks + links) b.size w j) (or_some_then p g.readers c.readers) k)) (c.new j l e);
          }

    -- Marks were turned into those of ground pairs afterwards.
    module _ (u : List ℕ) (turned : Settled x marks stamp t u) (above : 1 < stamp) (links_are : links ≡ x.unit.pairs) where
      set_same : (k : ℕ) → marks + links ≤ k → get_or u k 0 ≡ get_or t k 0
      set_same k l = turned.only.above k (omega arith)

      set_kept : Joined t u (marks + links) links f.size [] f.size
      unfolding all_met
      set_kept = record {
        ok = readers_kept t u (marks + links) links f.size turned.only.size (λ k l l'. set_same k l) f.joined.ok;
        list = listed_kept t u (marks + links) f.size (λ k l l'. set_same k l);
      }

      pub found_settled : Found s u x marks links stamp m p o r
      found_settled = record {
        only = only_then marks (marks + 3 * x.unit.pairs) s t u f.only
            (only_wider marks (marks + x.unit.pairs) marks (marks + 3 * x.unit.pairs) t u (omega arith) (omega arith) turned.only);
        stamps = λ k l l'. ⊎_elim (λ e. rw e (f.stamps k l l')) (λ (was, is). omega arith) (turned.turned k);
        grounds = λ o q l e. ⊎_elim (f.grounds o q l) inr (turned.grounds o q l e);
        entered = λ q l e. ⊎_elim (λ same. rw same (f.entered q l e)) (λ (was, is). inl is) (turned.turned (marks + q));
        size = f.size;
        pairs = f.pairs;
        joined = record { ok = set_kept.ok; list = listed_kept t u (marks + links) f.size (λ k l l'. set_same k l) ∙ f.joined.list };
        answer = ⊎_elim inl (λ g. inr (record {
          readers = g.readers;
          result = g.result;
          below = g.below;
          added = g.added;
          state = g.state;
          new = λ j l e. ⊎_elim
              (λ same. ⊎_elim inl (λ k. inr (looked_on t u f.size f.size (or_some p g.readers) (or_some p g.readers) [] j set_kept (λ h. h) k))
              (g.new j l (sym same ∙ e)))
              (λ (was, is). absurd (omega arith)) (turned.turned (marks + unit_pair x j));
        })) f.answer;
      }
