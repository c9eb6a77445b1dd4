-- The walk of `seek` begins where a guard is asked, and its end answers.
use Prim.Native.Nat.{ℕ, ◌+◌, ◌*◌, ◌/◌, ◌%◌, ◌<◌}
use mathlib.Core.Path.{◌≡◌, refl, sym, ap, ◌∙◌}
use mathlib.Core.Logic.{⊎_elim}
use mathlib.Core.Bool.{Bool, true, false, true≢false}
use mathlib.Core.List.{List, [], ◌∷◌}
use Rattle.std.specs.Prelude.{Ok, Err}
use native.Mathlib.Omega.{arith}
use Rattle.meaning.specs.Terms.{Terms, end, more}
use Rattle.meaning.specs.Compare.{Assignment, waits}
use Rattle.meaning.specs.Guards.{written_out}
use Rattle.term.specs.Setting.{Setting, AllWithin}
use Rattle.term.proofs.Frames.{only_same}
use Rattle.run_compare.specs.Compare.{Template}
use Rattle.run_asked.specs.Asking.{EachTemplate}
use Rattle.run_asked.specs.declared.asking.Hindered.TheVariants.{Waits, Fails}
use Rattle.run_ground.specs.Seeking.{Seeks, Sees}
use Rattle.run_ground.specs.Looking.{Scene, Clause, of_readers, or_some, kept_as, args_result, Found, Goes, Args}
use Rattle.run_ground.proofs.Found.{state_even}
use Rattle.run_ground.proofs.Results.{or_some_none}
use Rattle.run_ground.proofs.Sets.{joined_forgotten}
use Rattle.run_ground.proofs.Unassigned.{state_met}

all_within : (s : List ℕ) (x : Setting) (y : Template) (ts : Terms) → EachTemplate s x y ts → AllWithin y.pairs y.compounds ts
unfolding EachTemplate AllWithin
all_within s x y end each = tt
all_within s x y (more t ts) each = let (lo, hi, h) = each.0 in (h.within, all_within s x y ts each.1)

-- A state that is odd has met a reader, one that is even has not; no state of a walk that goes on is below 4.
pub state_large : (first : Bool) (m : ℕ) (p : Bool) → 3 < kept_as first m p
state_large true m true = omega arith
state_large true m false = omega arith
state_large false m true = omega arith
state_large false m false = omega arith

state_odd : (first : Bool) (m : ℕ) (p : Bool) → kept_as first m p % 2 ≡ 1 → p ≡ true
state_odd true m true e = refl
state_odd true m false e = absurd (omega arith)
state_odd false m true e = refl
state_odd false m false e = absurd (omega arith)

some_waits : (readers : List ℕ) → or_some false readers ≡ true → (of_readers readers ≡ waits readers) × (readers ≡ [] → ⊥)
some_waits [] e = absurd (true≢false (sym e))
some_waits (r ∷ rs) e = (refl, λ f. let z : ◌≡◌ {A = ℕ} 0 1 = cc in absurd (omega arith))

module _ (s : List ℕ) (values marks links met : ℕ) (first : Bool) (place k stamp : ℕ) where
  abbrev scene : Setting → Scene
  scene x = record { unit = x; base = s; first = first }

  abbrev its : Template → List Assignment → Clause
  its y given = record { template = y; given = given }

  module _ (state : ℕ) (begun : state ≡ kept_as first met false) where
    begins : (x : Setting) (y : Template) (given : List Assignment) (n : ℕ) (ts : Terms) → Seeks s x y given n ts values marks links met place k stamp
        → Args s (scene x) (its y given) values marks links stamp state met false place k ts
    begins x y given n ts b =
        let a = b.asking in
        record {
          looking = record {
            placed = record {
              shown = record {
                stands = a.chained.stands;
                apart = a.apart;
                compound_before = a.compound_before;
                marks_behind = a.marks_behind;
                inside = a.inside;
                no_circle = a.no_circle;
              };
              only = only_same marks (marks + 3 * x.pairs) s;
              stamp_above = b.above;
              stamp_below = omega (arith, b.fits);
              stamps = λ j low high. omega (arith, b.stamps j low high);
            };
            links_are = a.chained.links_are;
            state_is = begun;
            readers = b.readers;
            grounds = a.grounds;
            goes_on = λ e. refl;
          };
          asked = record {
            behind = a.values_behind;
            number = a.number;
            few_pairs = a.few_pairs;
            few_compounds = a.few_compounds;
            gave = a.gave;
          };
          looked = λ j l e. absurd
              (omega (arith, b.stamps (marks + x.places.pair j) (omega arith) (omega (arith, a.chained.stands.held.place j l)), e));
          number = n;
          place = b.arguments.place;
          low = b.number;
          held = b.arguments.held;
          within = all_within s x y ts b.arguments.terms;
          counted = b.counted;
          few = b.few;
        }

    pub through_asks : (x : Setting) × (y : Template) × (given : List Assignment) × (n : ℕ) × (ts : Terms)
        × Seeks s x y given n ts values marks links met place k stamp
        → (x : Scene) × (y : Clause) × (m : ℕ) × (p : Bool) × (ts : Terms) × Args s x y values marks links stamp state m p place k ts
    through_asks (x, y, given, n, ts, b) = (scene x, its y given, met, false, ts, begins x y given n ts b)

    -- Afterwards.
    module _ (s' : List ℕ) (r : ℕ) (tell : (x : Scene) (y : Clause) (m : ℕ) (p : Bool) (ts : Terms) → Args s x y values marks links stamp state m p place k ts
        → Found s s' x marks links stamp m p (args_result x y ts) r) where
      found : (x : Setting) (y : Template) (given : List Assignment) (n : ℕ) (ts : Terms) → Seeks s x y given n ts values marks links met place k stamp
          → Found s s' (scene x) marks links stamp met false (args_result (scene x) (its y given) ts) r
      found x y given n ts b = tell (scene x) (its y given) met false ts (begins x y given n ts b)

      pub found_large : (r ≡ 3 → ⊥) → (x : Setting) × (y : Template) × (given : List Assignment) × (n : ℕ) × (ts : Terms)
          × Seeks s x y given n ts values marks links met place k stamp → 3 < r
      found_large d (x, y, given, n, ts, b) =
          let f = found x y given n ts b in
          ⊎_elim (λ (e, three). absurd (d three)) (λ g. rw g.state (state_large first f.size (or_some false g.readers))) f.answer

      pub sees_fails : r ≡ 3 → (x : Setting) (y : Template) (given : List Assignment) (n : ℕ) (ts : Terms)
          → Seeks s x y given n ts values marks links met place k stamp → Sees s s' x given ts marks links met first stamp (Err Fails)
      unfolding written_out
      sees_fails three x y given n ts b =
          let f = found x y given n ts b in
          record {
            only = f.only;
            stamps = f.stamps;
            grounds = f.grounds;
            answer = (
              ⊎_elim (λ (e, t). e)
                  (λ g. absurd (omega (arith, three, g.state, state_large first f.size (or_some false g.readers)))) f.answer,
              joined_forgotten s s' (marks + links) links met f.pairs f.size f.joined,
            );
          }

      module _ (d : r ≡ 3 → ⊥) where
        goes : (x : Setting) (y : Template) (given : List Assignment) (n : ℕ) (ts : Terms) (b : Seeks s x y given n ts values marks links met place k stamp)
            → Goes s s' (scene x) marks links stamp met false (args_result (scene x) (its y given) ts) r (found x y given n ts b).size
            (found x y given n ts b).pairs
        goes x y given n ts b = ⊎_elim (λ (e, three). absurd (d three)) (λ g. g) (found x y given n ts b).answer

        pub sees_waits : r % 2 ≡ 1 → (m : ℕ) → r / 4 ≡ m + 1 → (x : Setting) (y : Template) (given : List Assignment) (n : ℕ) (ts : Terms)
            → Seeks s x y given n ts values marks links met place k stamp → Sees s s' x given ts marks links met first stamp (Err (Waits m))
        unfolding written_out
        sees_waits odd m counted x y given n ts b =
            let f = found x y given n ts b in
            let g = goes x y given n ts b in
            let w = some_waits g.readers (state_odd first f.size (or_some false g.readers) (rw g.state at odd)) in
            let size : m ≡ f.size = state_met first f.size (or_some false g.readers) m (rw g.state at counted) in
            record {
              only = f.only;
              stamps = f.stamps;
              grounds = f.grounds;
              answer = (g.readers, g.result ∙ w.0, w.1, g.below, rw (size, ← g.added) f.joined);
            }

        pub sees_ground : r % 2 ≡ 0 → (x : Setting) (y : Template) (given : List Assignment) (n : ℕ) (ts : Terms)
            → Seeks s x y given n ts values marks links met place k stamp → Sees s s' x given ts marks links met first stamp (Ok tt)
        unfolding written_out
        sees_ground even x y given n ts b =
            let f = found x y given n ts b in
            let g = goes x y given n ts b in
            let none : g.readers ≡ [] = or_some_none false g.readers (state_even first f.size (or_some false g.readers) (rw g.state at even)) in
            record {
              only = f.only;
              stamps = f.stamps;
              grounds = f.grounds;
              answer = (g.result ∙ ap of_readers none, joined_forgotten s s' (marks + links) links met f.pairs f.size f.joined);
            }
