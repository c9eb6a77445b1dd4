-- The body's goals, renamed apart, stand as goals of the enlarged unit.
use Prim.Native.Nat.{ℕ, ◌+◌}
use mathlib.Core.Path.{◌≡◌, refl, sym, ap, ◌∙◌}
use mathlib.Core.List.{List, [], ◌∷◌, map}
use native.Mathlib.Omega.{arith}
use lib.ListN.{length}
use Rattle.meaning.specs.Bytes.{Bytes}
use Rattle.meaning.specs.Terms.{plus, minus, Constant, Term, Terms, variable, constant, compound, end, more, Named, Clause, Job, renamed, renamed_goal, as_term}
use Rattle.meaning.specs.Items.{job, reading}
use Rattle.meaning.specs.State.{Room, QueryUnit, unit_at, goals_at, Origin}
use Rattle.meaning.specs.Compare.{Assignment}
use Rattle.meaning.specs.Trial.{next_pair}
use Rattle.meaning.specs.Step.{body_goals, made_by}
use Rattle.laws.proofs.Lists.Among.{In}
use Rattle.laws.proofs.Lists.EachOf.{Each, each_in}
use Rattle.laws.proofs.Trial.Values.{length_values_after}
use Rattle.laws.proofs.Reading.{accepted_keeps_the_figures}
use Rattle.laws.proofs.Reading.Figures.{Bounds, IntegerFits, ConstantFits, TermFits, TermsFit, NamedFits, as_term_fits}
use Rattle.term.specs.Cells.{Places, Known}
use Rattle.term.specs.Holds.{Holds}
use Rattle.term.specs.Jobs.{GoalsKnown}
use Rattle.term.specs.Setting.{Within, AllWithin, Ranged, AllRanged}
use Rattle.term.specs.States.{Atlas, goal_word, GoalStands, AllStand}
use Rattle.term.specs.Words.{packed}
use Rattle.term.specs.Goals.{origin_word, packed_goal, goal_mark, OriginFits}
use Rattle.term.proofs.Goals.{goal_marked}
use Rattle.run_between.specs.Extended.{replaced_at}
use Rattle.run_effects.specs.Build.{Copies}
use Rattle.run_effects.specs.Reducing.{GoalsHeld, GoalsWithin}
use Rattle.run_between.proofs.Enlarging.{replaced_there}
use Rattle.run_between.proofs.NextUnit.{enlarged}
use Rattle.run_between.proofs.NextUnits.{atlas_after, units_after, Enlarges, as_many, setting_here}
use Rattle.run_between.proofs.Renaming.{renamed_within, renamed_known, renamed_ranged}

-- What fits is within its bounds, and its integers are in range.
mutual
  unfolding TermFits TermsFit Within AllWithin

  fits_within : (b : Bounds) (t : Term) → TermFits b t → Within b.pairs b.compounds t
  fits_within b (variable h n) f = f
  fits_within b (constant k) f = tt
  fits_within b (compound n g ts) f = (f.0, all_fit_within b ts f.2)

  all_fit_within : (b : Bounds) (ts : Terms) → TermsFit b ts → AllWithin b.pairs b.compounds ts
  all_fit_within b end f = tt
  all_fit_within b (more t ts) f = (fits_within b t f.0, all_fit_within b ts f.1)

integer_ranged : (b : Bounds) (k : Constant) → ConstantFits b k → Ranged (constant k)
unfolding ConstantFits IntegerFits Ranged
integer_ranged b (Constant.integer (plus n)) f = f
integer_ranged b (Constant.integer (minus n)) f = f
integer_ranged b (Constant.name g) f = tt
integer_ranged b Constant.empty f = tt

mutual
  unfolding TermFits TermsFit Ranged AllRanged

  fits_ranged : (b : Bounds) (t : Term) → TermFits b t → Ranged t
  fits_ranged b (variable h n) f = tt
  fits_ranged b (constant k) f = integer_ranged b k f
  fits_ranged b (compound n g ts) f = all_fit_ranged b ts f.2

  all_fit_ranged : (b : Bounds) (ts : Terms) → TermsFit b ts → AllRanged ts
  all_fit_ranged b end f = tt
  all_fit_ranged b (more t ts) f = (fits_ranged b t f.0, all_fit_ranged b ts f.1)

pub goals_within : (b : Bounds) (gs : List Named) → Each (NamedFits b) gs → GoalsWithin b.pairs b.compounds gs
unfolding GoalsWithin
goals_within b [] f = tt
goals_within b (g ∷ gs) f = (fits_within b (as_term g) (as_term_fits b g f.0), goals_within b gs f.1)

pub goals_ranged : (b : Bounds) (gs : List Named) → Each (NamedFits b) gs → Each (λ g. Ranged (as_term g)) gs
goals_ranged b [] f = tt
goals_ranged b (g ∷ gs) f = (fits_ranged b (as_term g) (as_term_fits b g f.0), goals_ranged b gs f.1)

-- What the figures say of a clause's body.
pub record BodyFits (c : Clause) : Type 0 where
  pub within : GoalsWithin c.pairs c.compounds c.body
  pub ranged : Each (λ g. Ranged (as_term g)) c.body

pub body_fits : (text : Bytes) (j : Job) → reading text ≡ job j → (c : Clause) → In c j.clauses → BodyFits c
body_fits text j e c m =
    let f = each_in _ (accepted_keeps_the_figures text j e).clauses m in
    record { within = goals_within _ c.body f.body; ranged = goals_ranged _ c.body f.body }

module _ (s s' : List ℕ) (names : List Bytes) (figures : Room) (atlas : Atlas) (units : List QueryUnit) (q P C cells cells' : ℕ) (y : Copies) (c : Clause) (given : List Assignment)
    (r : Enlarges s s' names figures atlas units q P C cells cells' y c) where
  abbrev p : ℕ
  p = length (unit_at q units).values

  abbrev c₀ : ℕ
  c₀ = (unit_at q units).compounds

  abbrev places : Places
  places = enlarged (atlas q) (unit_at q units) P y

  body_goal : (o : Origin) → OriginFits o → (g : Named) → Holds s' places (renamed p c₀ (as_term g)) → Within c.pairs c.compounds (as_term g) → Known names (as_term g)
      → Ranged (as_term g)
      → GoalStands s' figures (atlas_after atlas units q P y) (units_after c given units q) (record { query = q; goal = renamed_goal p c₀ g; origin = o })
  unfolding renamed_goal as_term renamed
  body_goal o fits g held within known ranged =
      record {
        query = omega (arith, r.inside, as_many s s' names figures atlas units q P C cells cells' y c given r);
        term = rw (setting_here s s' names figures atlas units q P C cells cells' y c given r)
            (record {
              held = held;
              of = record {
                within = rw (length_values_after c given (unit_at q units)) (renamed_within p c₀ c.pairs c.compounds (as_term g) within);
                known = rw (r.lies.names_are q) (renamed_known p c₀ names (as_term g) known);
                ranged = renamed_ranged p c₀ (as_term g) ranged;
              };
            });
        origin = fits;
      }

  body_stand : (o : Origin) → OriginFits o → (gs : List Named) → GoalsHeld s' places p c₀ gs → GoalsWithin c.pairs c.compounds gs → GoalsKnown names gs
      → Each (λ g. Ranged (as_term g)) gs
      → AllStand s' figures (atlas_after atlas units q P y) (units_after c given units q) (goals_at o q (map (renamed_goal p c₀) gs))
  unfolding GoalsHeld GoalsWithin GoalsKnown goals_at
  body_stand o fits [] h w k i = tt
  body_stand o fits (g ∷ gs) h w k i = (body_goal o fits g h.0 w.0 k.0 i.0, body_stand o fits gs h.1 w.1 k.1 i.1)

  pub body_goals_stand : OriginFits (made_by c (unit_at q units)) → GoalsHeld s' places p c₀ c.body → BodyFits c → GoalsKnown names c.body
      → AllStand s' figures (atlas_after atlas units q P y) (units_after c given units q) (body_goals c (unit_at q units) q)
  unfolding body_goals next_pair
  body_goals_stand fits h f k = body_stand (made_by c (unit_at q units)) fits c.body h f.within k f.ranged

  body_words_of : (o : Origin) (gs : List Named)
      → map (goal_word (atlas_after atlas units q P y)) (goals_at o q (map (renamed_goal p c₀) gs))
      ≡ map (λ g. packed (goal_mark q o) (places.compound (c₀ + g.number))) gs
  unfolding goals_at renamed_goal
  body_words_of o [] = refl
  body_words_of o (g ∷ gs) =
      let e : (replaced_at atlas q places q).compound (c₀ + g.number) ≡ places.compound (c₀ + g.number) =
      ap (λ (x : Places). x.compound (c₀ + g.number)) (replaced_there atlas q places)
      in
      let first : packed_goal q ((replaced_at atlas q places q).compound (c₀ + g.number)) (origin_word o)
      ≡ packed (goal_mark q o) (places.compound (c₀ + g.number)) =
      ap (λ n. packed_goal q n (origin_word o)) e ∙ sym (goal_marked q (places.compound (c₀ + g.number)) o) in
      let later = body_words_of o gs in
      cc

  pub body_words : map (goal_word (atlas_after atlas units q P y)) (body_goals c (unit_at q units) q)
      ≡ map (λ g. packed (goal_mark q (made_by c (unit_at q units))) (places.compound (c₀ + g.number))) c.body
  unfolding body_goals next_pair
  body_words = body_words_of (made_by c (unit_at q units)) c.body
