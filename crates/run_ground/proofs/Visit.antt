-- A walk at a pair of the unit: one that keeps it out was looked through or is ground, and of a new one the value is left.
-- The stamp on a pair through which the walk came here would make a circle.
use Prim.Native.Nat.{ℕ, ◌+◌, ◌*◌, ◌≤◌, ◌<◌}
use mathlib.Core.Path.{◌≡◌, refl, sym, ap, subst, ◌∙◌}
use mathlib.Core.Logic.{◌⊎◌, inl, inr, ⊎_elim}
use mathlib.Core.Bool.{Bool, true}
use mathlib.Core.List.{List, [], ◌∷◌, map}
use mathlib.Core.Option.{Option, some}
use native.Mathlib.Decide.{ℕ_discrete}
use native.Mathlib.Omega.{arith}
use lib.ListN.{length, get_or, set, length-set}
use lib.Seq.{get_or-set_same, get_or-set_other}
use Rattle.meaning.specs.Terms.{Half, Term, variable}
use Rattle.meaning.specs.State.{value}
use Rattle.laws.proofs.Lists.Among.{in_map}
use Rattle.laws.proofs.Terms.Standing.{Stands}
use Rattle.laws.proofs.Circle.Leaning.{Leans, one, links_join}
use Rattle.laws.proofs.Circle.Search.{no_circle_says}
use Rattle.term.specs.Frames.{Only}
use Rattle.term.specs.States.{listed}
use Rattle.term.proofs.Frames.{only_set, only_then}
use Rattle.run_circle.specs.Ground.{Tells}
use Rattle.run_circle.proofs.Grounds.{marked_ground}
use Rattle.run_readers.specs.Readers.{all_met}
use Rattle.run_readers.proofs.AllMet.{all_met_in_new}
use Rattle.run_readers.proofs.Ranks.{listed_kept, readers_kept}
use Rattle.run_asked.specs.Asking.{Joined}
use Rattle.run_ground.specs.Looking.{
  Scene,
  unit_pair,
  pairs_in,
  or_some,
  result_of,
  Told,
  Looked,
  Before,
  Goes,
  Found,
}
use Rattle.run_ground.proofs.Entered.{stamp_silent}
use Rattle.run_ground.proofs.Found.{found_known, found_nothing, looked_on}
use Rattle.run_ground.proofs.Written.{ground_succeeds, assigned_result}

-- Some readers, or none.
some_opened : (p : Bool) (rs : List ℕ) → (rs ≡ []) ⊎ (or_some p rs ≡ true)
some_opened p [] = inl refl
some_opened p (r ∷ rs) = inr refl

module _ (values marks links stamp : ℕ) (s : List ℕ) (x : Scene) (state m : ℕ) (p : Bool) (w : ℕ) (half : Half) (j : ℕ) (l : j < pairs_in x)
    (b : Before s x values marks links stamp state m p w (variable half j)) where
  -- It is ground, or it has the stamp.
  pub ground_found : get_or s (marks + unit_pair x j) 0 ≡ 1 → Found s s x marks links stamp m p (result_of x (variable half j)) state
  ground_found e =
      found_nothing x marks links stamp values state m p s b.looking (result_of x (variable half j))
      (ground_succeeds x.unit.values b.looking.placed.shown.no_circle x.first (marked_ground x.unit.places x.unit.values marks b.looking.placed.shown.apart s
      b.looking.grounds j l e) half)

  pub stamp_found : get_or s (marks + unit_pair x j) 0 ≡ stamp → Found s s x marks links stamp m p (result_of x (variable half j)) state
  unfolding Stands
  stamp_found e = ⊎_elim
      (λ k. found_known x marks links stamp values state m p s b.looking (result_of x (variable half j)) k.readers (k.result half) k.below k.met k.opened)
      (λ f. absurd ((no_circle_says x.unit.values).0 b.looking.placed.shown.no_circle j (f j refl))) (b.behind j l e)

  -- It is new, and has the value u.
  module _ (u : Term) (assigned : value x.unit.values j ≡ some u) (v : ℕ) (told : Told x v u) (unfirm : get_or s (marks + unit_pair x j) 0 ≡ 1 → ⊥)
      (fresh : get_or s (marks + unit_pair x j) 0 ≡ stamp → ⊥) (s₁ : List ℕ) (stamped : s₁ ≡ set s (marks + unit_pair x j) stamp) where
    small : unit_pair x j < x.unit.pairs
    small = b.looking.placed.shown.stands.held.place j l

    inside : marks + unit_pair x j < length s
    inside = omega (arith, small, b.looking.placed.shown.inside, b.looking.placed.only.size)

    mark_now : get_or s₁ (marks + unit_pair x j) 0 ≡ stamp
    mark_now = rw stamped (get_or-set_same s (marks + unit_pair x j) stamp 0 inside)

    others : (k : ℕ) → (k ≡ marks + unit_pair x j → ⊥) → get_or s₁ k 0 ≡ get_or s k 0
    others k d = rw stamped (get_or-set_other s (marks + unit_pair x j) k stamp 0 d)

    -- What a mark is now, and what it was.
    mark_cases : (k : ℕ) → ((k ≡ marks + unit_pair x j) × (get_or s₁ k 0 ≡ stamp)) ⊎ (get_or s₁ k 0 ≡ get_or s k 0)
    mark_cases k = go (ℕ_discrete k (marks + unit_pair x j))
      where
        go : Dec (k ≡ marks + unit_pair x j) → ((k ≡ marks + unit_pair x j) × (get_or s₁ k 0 ≡ stamp)) ⊎ (get_or s₁ k 0 ≡ get_or s k 0)
        go (yes e) = inl (e, ap (λ i. get_or s₁ i 0) e ∙ mark_now)
        go (no d) = inr (others k d)

    set_same : (k : ℕ) → marks + links ≤ k → get_or s₁ k 0 ≡ get_or s k 0
    set_same k low = others k (λ e. omega (arith, small, b.looking.links_are))

    joined_same : Joined s s₁ (marks + links) links m [] m
    unfolding all_met
    joined_same = record {
      ok = readers_kept s s₁ (marks + links) links m (ap (λ k. length k) stamped ∙ length-set s (marks + unit_pair x j) stamp) (λ k low high. set_same k low)
          b.looking.readers;
      list = listed_kept s s₁ (marks + links) m (λ k low high. set_same k low);
    }

    only_marked : Only marks (marks + 3 * x.unit.pairs) s s₁
    only_marked = rw stamped (only_set marks (marks + 3 * x.unit.pairs) s (marks + unit_pair x j) stamp (omega arith) (omega (arith, small)))

    silent : (o : Option ℕ) → Tells o stamp → ⊥
    silent = stamp_silent stamp b.looking.placed.stamp_above b.looking.placed.stamp_below

    leans : (i : ℕ) → Stands i u → Leans x.unit.values j i
    unfolding Leans
    leans i r = (u, assigned, r)

    pub new_before : Before s₁ x values marks links stamp state m p v u
    unfolding Stands
    new_before = record {
      looking = record {
        placed = record {
          shown = b.looking.placed.shown;
          only = only_then marks (marks + 3 * x.unit.pairs) x.base s s₁ b.looking.placed.only only_marked;
          stamp_above = b.looking.placed.stamp_above;
          stamp_below = b.looking.placed.stamp_below;
          stamps = λ k low high. ⊎_elim (λ (e, now). omega arith) (λ same. rw same (b.looking.placed.stamps k low high)) (mark_cases k);
        };
        links_are = b.looking.links_are;
        state_is = b.looking.state_is;
        readers = joined_same.ok;
        grounds = λ o n low e. ⊎_elim (λ (f, now). absurd (silent o (subst (Tells o) now e)))
            (λ same. b.looking.grounds o n low (subst (Tells o) same e)) (mark_cases (marks + unit_pair x n));
        goes_on = b.looking.goes_on;
      };
      told = told;
      behind = λ i low e. ⊎_elim
          (λ (f, now). inr (λ k r. one (subst (λ n. Leans x.unit.values n k) (b.looking.placed.shown.apart j i l low (omega arith)) (leans k r))))
          (λ same. ⊎_elim (λ k. inl (looked_on x marks links stamp s s₁ m m p p [] i joined_same (λ h. h) k))
          (λ f. inr (λ k r. links_join (f j refl) (one (leans k r)))) (b.behind i low (sym same ∙ e)))
          (mark_cases (marks + unit_pair x i));
    }

    result_same : (h : Half) → result_of x (variable h j) ≡ result_of x u
    result_same h = assigned_result x.unit.values b.looking.placed.shown.no_circle x.first h j u assigned

    pub new_answer : (s' : List ℕ) (r : ℕ) → Found s₁ s' x marks links stamp m p (result_of x u) r
        → Found s s' x marks links stamp m p (result_of x (variable half j)) r
    new_answer s' r f = record {
      only = only_then marks (marks + 3 * x.unit.pairs) s s₁ s' only_marked f.only;
      stamps = f.stamps;
      grounds = λ o q low e. ⊎_elim
          (λ was. ⊎_elim (λ (g, now). absurd (silent o (subst (Tells o) now was))) (λ same. inl (subst (Tells o) same was)) (mark_cases (marks + q)))
          inr (f.grounds o q low e);
      entered = λ q low e. f.entered q low (⊎_elim (λ (g, now). inr now) (λ same. rw same e) (mark_cases (marks + q)));
      size = f.size;
      pairs = f.pairs;
      joined = record { ok = f.joined.ok; list = f.joined.list ∙ ap (λ k. all_met k f.pairs) (listed_kept s s₁ (marks + links) m (λ k low high. set_same k low)) };
      answer = ⊎_elim (λ (e, three). inl (result_same half ∙ e, three)) (λ g. inr (whole g)) f.answer;
    }
      where
        whole : Goes s₁ s' x marks links stamp m p (result_of x u) r f.size f.pairs
            → Goes s s' x marks links stamp m p (result_of x (variable half j)) r f.size f.pairs
        whole g = record {
          readers = g.readers;
          result = result_same half ∙ g.result;
          below = g.below;
          added = g.added;
          state = g.state;
          new = λ i low e. ⊎_elim
              (λ was. ⊎_elim (λ (h, now). inr (subst (Looked s' x (marks + links) f.size (or_some p g.readers))
              (b.looking.placed.shown.apart j i l low (omega arith)) looked)) (λ same. inl (sym same ∙ was)) (mark_cases (marks + unit_pair x i)))
              inr (g.new i low e);
        }
          where
            looked : Looked s' x (marks + links) f.size (or_some p g.readers) j
            looked = record {
              readers = g.readers;
              result = λ h. result_same h ∙ g.result;
              below = g.below;
              met = λ q i. rw (f.joined.list, g.added) (all_met_in_new (listed s₁ (marks + links) m) (map (λ n. unit_pair x n) g.readers) (unit_pair x q)
                  (in_map (λ n. unit_pair x n) i));
              opened = some_opened p g.readers;
            }
