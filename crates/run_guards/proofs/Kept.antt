-- What a guard is asked in stays where only marks, readers and ranks change, and who is newly marked as ground is so.
use Prim.Native.Nat.{ℕ, ◌+◌, ◌*◌, ◌≤◌, ◌<◌}
use mathlib.Core.Path.{◌≡◌, refl, sym, ◌∙◌, subst}
use mathlib.Core.Logic.{inl, inr, ⊎_elim}
use mathlib.Core.List.{List, []}
use Rattle.std.specs.Prelude.{Result as Outcome}
use native.Mathlib.Omega.{arith}
use lib.ListN.{length, get_or}
use Rattle.meaning.specs.Terms.{Terms, end, more, count}
use Rattle.meaning.specs.State.{Values}
use Rattle.meaning.specs.Compare.{Assignment, Result}
use Rattle.term.specs.Cells.{Places}
use Rattle.term.specs.Chains.{end_place}
use Rattle.term.specs.Every.{EveryOf}
use Rattle.term.specs.Frames.{Only}
use Rattle.term.specs.Layout.{trial_region}
use Rattle.term.specs.Setting.{Setting}
use Rattle.term.proofs.Frames.{only_same}
use Rattle.term.proofs.Holds.{holds_alike, holds_from_alike}
use Rattle.term.proofs.Units.{within_every, unit_term_alike, unit_stands_alike, ends_stand_alike}
use Rattle.run_compare.specs.Compare.{Template, item}
use Rattle.run_circle.specs.Ground.{Tells}
use Rattle.run_readers.specs.Readers.{Readers, all_met}
use Rattle.run_asked.specs.Asking.{GaveAt, Asking, EachTemplate, Arguments, StampsFrom, Joined}
use Rattle.run_asked.specs.declared.asking.Hindered.{Hindered}
use Rattle.run_ground.specs.Seeking.{GroundsAdded}
use Rattle.run_guards.specs.Guarding.{GuardsTold}
use Rattle.run_guards.specs.Single.{GuardIs}

-- Marks of ground pairs: where no mark changed, and after two changes.
module _ (places : Places) (values : Values) (marks pairs : ℕ) where
  pub grounds_same : (s t : List ℕ) → ((k : ℕ) → marks ≤ k → k < marks + pairs → get_or t k 0 ≡ get_or s k 0) → GroundsAdded places values marks pairs s t
  grounds_same s t same o p h e = inl (subst (Tells o) (same (marks + p) (omega arith) (omega arith)) e)

  pub grounds_then : (s t u : List ℕ) → GroundsAdded places values marks pairs s t → GroundsAdded places values marks pairs t u
      → GroundsAdded places values marks pairs s u
  grounds_then s t u a b o p h e = ⊎_elim (a o p h) inr (b o p h e)

-- No pair joined the set; none, and then some.
pub joined_none : (s : List ℕ) (at pairs n : ℕ) → Readers s at pairs n → Joined s s at pairs n [] n
unfolding all_met
joined_none s at pairs n r = record { ok = r; list = refl }

pub joined_then : (s t u : List ℕ) (at pairs n : ℕ) (ps : List ℕ) (m : ℕ) → Joined s t at pairs n [] n → Joined t u at pairs n ps m → Joined s u at pairs n ps m
unfolding all_met
joined_then s t u at pairs n ps m a b = record { ok = b.ok; list = rw a.list at b.list }

-- A guard that changes nothing.
pub nothing_changed : (s : List ℕ) (x : Setting) (marks links met stamp : ℕ) (o : Result) (r : Outcome Unit Hindered) → StampsFrom s marks x.pairs stamp
    → GuardsTold s s x [] (marks + links) links met o r → GuardIs s s x marks links met stamp o r
nothing_changed s x marks links met stamp o r stamps told = record {
  only = only_same marks (marks + 3 * links) s;
  stamps = λ k l h. omega (arith, stamps k l h);
  grounds = grounds_same x.places x.values marks x.pairs s s (λ k l h. refl);
  told = told;
}

module _ (s s' : List ℕ) (x : Setting) (y : Template) (given : List Assignment) (values marks links : ℕ) (a : Asking s x y given values marks links)
    (only : Only marks (marks + 3 * links) s s') where
  size : length s ≤ length s'
  size = omega (arith, only.size)

  unit_same : (n : ℕ) → n < x.compounds → (k : ℕ) → x.places.compound n ≤ k → k < x.places.compound n + x.places.width n → get_or s' k 0 ≡ get_or s k 0
  unit_same n h k l u = only.below k (omega (arith, a.compound_before n h, a.marks_behind))

  gave_kept : (m : ℕ) → m < y.pairs → GaveAt s' x given m
  gave_kept m h =
      let g = a.gave m h in
      let same : get_or s' (trial_region + m) 0 ≡ get_or s (trial_region + m) 0 =
      only.below (trial_region + m) (omega (arith, a.few_pairs, a.values_behind, a.marks_behind)) in
      record {
        nothing = λ e. g.nothing (sym same ∙ e);
        word = λ e. same ∙ g.word (λ z. e (same ∙ z));
        term = λ e. unit_term_alike s s' x size unit_same _ (g.term (λ z. e (same ∙ z)));
      }

  pub asking_kept : GroundsAdded x.places x.values marks x.pairs s s' → Asking s' x y given values marks links
  asking_kept new = record {
    chained = record {
      stands = unit_stands_alike s s' x size unit_same values (λ k l h. only.below k (omega (arith, a.marks_behind))) a.chained.stands;
      links_are = a.chained.links_are;
      ends = ends_stand_alike s s' x size unit_same values
          (λ n h. only.above (end_place x values n) (omega (arith, a.ends_behind, a.chained.links_are))) a.chained.ends;
    };
    apart = a.apart;
    compound_behind = a.compound_behind;
    compound_before = a.compound_before;
    values_behind = a.values_behind;
    marks_behind = a.marks_behind;
    inside = omega (arith, a.inside, only.size);
    ends_behind = a.ends_behind;
    number = a.number;
    few_pairs = a.few_pairs;
    few_compounds = a.few_compounds;
    gave = gave_kept;
    grounds = λ o n h e. ⊎_elim (a.grounds o n h) (λ g. g) (new o (x.places.pair n) (a.chained.stands.held.place n h) e);
    no_circle = a.no_circle;
  }

  -- A guard's arguments.
  item_same : (n : ℕ) → n < y.compounds → (k : ℕ) → (item x y).compound n ≤ k → k < (item x y).compound n + (item x y).width n → get_or s' k 0 ≡ get_or s k 0
  item_same n h k l u = only.below k (omega (arith, a.number, a.few_compounds, a.values_behind, a.marks_behind))

  every_template : (ts : Terms) → EachTemplate s x y ts → EveryOf (λ n. n < y.compounds) ts
  unfolding EachTemplate EveryOf
  every_template end e = tt
  every_template (more t ts) e = (within_every y.pairs y.compounds t e.0.2.within, every_template ts e.1)

  each_kept : (ts : Terms) → EachTemplate s x y ts → EachTemplate s' x y ts
  unfolding EachTemplate
  each_kept end e = tt
  each_kept (more t ts) e =
      let h = e.0.2 in (
        (
          e.0.0,
          e.0.1,
          record {
            held = holds_alike s s' (item x y) (λ n. n < y.compounds) size item_same t (within_every y.pairs y.compounds t h.within) h.held;
            within = h.within;
            known = h.known;
            ranged = h.ranged;
            numbered = h.numbered;
            high = h.high;
          },
        ),
        each_kept ts e.1,
      )

  pub arguments_kept : (n p : ℕ) (ts : Terms) → n < y.compounds → count ts ≤ 6 → Arguments s x y n p ts → Arguments s' x y n p ts
  arguments_kept n p ts low few g = record {
    place = g.place;
    inside = omega (arith, g.inside, only.size);
    held = holds_from_alike s s' (item x y) (λ m. m < y.compounds) size item_same n 0 ts
        (λ k l h. item_same n low k (omega arith) h) (omega arith) (every_template ts g.terms) g.held;
    terms = each_kept ts g.terms;
  }
