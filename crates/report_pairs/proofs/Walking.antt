-- The walk over arguments and tails: what stands behind an argument, by the definitions of the written term.
use Prim.Native.Nat.{ℕ, zero, suc, ◌+◌, ◌≤◌, ◌<◌}
use mathlib.Core.Path.{◌≡◌, refl, ◌∙◌, sym, ap}
use mathlib.Core.Logic.{◌≢◌, inl}
use Rattle.laws.proofs.Terms.Standing.{Stands, StandsIn}
use mathlib.Core.Option.{none}
use mathlib.Core.List.{List, [], ◌∷◌, ◌++◌, append_assoc}
use native.Mathlib.Omega.{arith}
use lib.ListN.{length, get_or}
use Rattle.meaning.specs.Bytes.{Bytes, bytes}
use Rattle.meaning.specs.Terms.{Half, Constant, Functor, cell, named, Term, Terms, end, more, count}
use Rattle.meaning.specs.State.{Values}
use Rattle.meaning.specs.Report.{alone, tail, written, tail_bytes, element_and_tail, other_arguments, behind_bar, empty_bytes, before_element, constant_bytes}
use Rattle.term.specs.Words.{view_of, packed, tag_in, rest_in}
use Rattle.term.specs.Cells.{Places, content, functor_number, Known, AllKnown}
use Rattle.term.specs.Holds.{CellAt, Holds, HoldsFrom}
use Rattle.term.specs.Setting.{Setting, Within, AllWithin, Ranged, AllRanged}
use Rattle.term.specs.declared.word.View.TheVariants.{Empty, Compound}
use Rattle.report_pairs.specs.Threaded.{full, all_full, seen_after, seen_after_all}
use Rattle.report_pairs.specs.Sound.{Sound, AllSound}
use Rattle.term.specs.Chains.{value_of}
use Rattle.report_pairs.specs.Facts.{Led, Shows}
use Rattle.report_pairs.specs.Walk.{StandsAt, Position, Found}
use Rattle.std.specs.Prelude.{Option as Told, Some, None}
use Rattle.report_pairs.proofs.Full.{full_constant, full_compound, full_unassigned}
use Rattle.report_pairs.proofs.Once.{seen_after_constant, seen_after_compound, seen_after_end, seen_after_more}
use Rattle.report_pairs.proofs.Told.{seen, seen_term, empty_told, compound_told}

apart : (tag n : ℕ) → tag < 8 → (tag_in (packed tag n) ≡ tag) × (rest_in (packed tag n) ≡ n)
apart tag n h = (omega arith, omega arith)

-- A compound's first word: its functor above, the number of its arguments below.
pub functor_parts : (s : List ℕ) (places : Places) (n : ℕ) (f : Functor) (k : ℕ) → CellAt s places n f k
    → (rest_in (get_or s (places.compound n) 0) ≡ functor_number places f) × (tag_in (get_or s (places.compound n) 0) ≡ k)
functor_parts s places n f k c =
    let parts = apart k (functor_number places f) (omega (arith, c.few)) in
    (rw c.functor parts.1, rw c.functor parts.0)

module _ (s : List ℕ) (x : Setting) (p i j : ℕ) (f : Functor) (u : Term) (us : Terms) (a : Position s x p i j f u us) where
  pub position_inside : p + i < length s
  unfolding count
  position_inside =
      let c = a.cell_at.inside in
      let few : j + suc (count us) ≤ 6 = a.cell_at.few in
      omega (arith, a.index, a.place)

  pub functor_inside : p < length s
  functor_inside = omega (arith, position_inside)

  pub position_functor : rest_in (get_or s p 0) ≡ functor_number x.places f
  position_functor = rw a.place (functor_parts s x.places a.number f (j + count (more u us)) a.cell_at).0

  pub position_arity : tag_in (get_or s p 0) ≡ j + suc (count us)
  unfolding count
  position_arity = rw a.place (functor_parts s x.places a.number f (j + suc (count us)) a.cell_at).1

  -- The word of the argument.
  pub position_shows : Shows s x u (get_or s (p + i) 0)
  unfolding HoldsFrom AllWithin AllKnown AllRanged AllSound
  position_shows =
      let same : p + i ≡ x.places.compound a.number + 1 + j = omega (arith, a.index, a.place) in record {
        term = record {
          held = a.terms.held.1;
          of = record { within = a.terms.within.0; known = a.terms.known.0; ranged = a.terms.ranged.0 };
        };
        sound = a.sound.0;
        word = rw same a.terms.held.0;
      }

-- A compound's first argument.
pub position_first : (s : List ℕ) (x : Setting) (n : ℕ) (f : Functor) (u : Term) (us : Terms) (p : ℕ) → StandsAt s x n f (more u us) p
    → Position s x p 1 0 f u us
unfolding Holds Within Known Ranged Sound
position_first s x n f u us p a =
    let none_before : 0 + count (more u us) ≡ count (more u us) = omega arith in record {
      number = n;
      index = refl;
      place = a.place;
      of_unit = a.term.of.within.0;
      cell_at = rw none_before a.term.held.0;
      sound_functor = rw none_before a.sound.0;
      terms = record {
        held = a.term.held.1;
        within = a.term.of.within.1;
        known = a.term.of.known.1;
        ranged = a.term.of.ranged;
      };
      sound = a.sound.1;
    }

-- The next argument of the same compound.
position_next : (s : List ℕ) (x : Setting) (p i j : ℕ) (f : Functor) (u v : Term) (vs : Terms) → Position s x p i j f u (more v vs)
    → Position s x p (i + 1) (j + 1) f v vs
unfolding count HoldsFrom AllWithin AllKnown AllRanged AllSound
position_next s x p i j f u v vs a =
    let same : j + 1 + suc (count vs) ≡ j + suc (suc (count vs)) = omega arith in record {
      number = a.number;
      index = ap (λ (m : ℕ). m + 1) a.index;
      place = a.place;
      of_unit = a.of_unit;
      cell_at = rw same a.cell_at;
      sound_functor = rw same a.sound_functor;
      terms = record {
        held = a.terms.held.2;
        within = a.terms.within.1;
        known = a.terms.known.1;
        ranged = a.terms.ranged.1;
      };
      sound = a.sound.1;
    }

-- Behind an argument in parentheses.
others_one : (order : List ℕ) (values : Values) (v : Term) (vs : Terms)
    → other_arguments order (all_full values (more v vs)) ++ (41 ∷ [])
    ≡ 44 ∷ (written order alone (full values v) ++ (other_arguments order (all_full values vs) ++ (41 ∷ [])))
unfolding other_arguments all_full bytes
others_one order values v vs =
    ap (λ (l : Bytes). 44 ∷ l) (append_assoc (written order alone (full values v)) (other_arguments order (all_full values vs)) (41 ∷ []))

pub behind_argument_goes : (s : List ℕ) (x : Setting) (p i j : ℕ) (f : Bytes) (u : Term) (us : Terms) → Position s x p i j (named f) u us
    → i < tag_in (get_or s p 0) → Found s x (named f) j us (44, Some (p, (i + 1)))
unfolding count
behind_argument_goes s x p i j f u end a h = absurd (omega (arith, position_arity s x p i j (named f) u end a, a.index))
behind_argument_goes s x p i j f u (more v vs) a h = (
  j + 1,
  named f,
  v,
  vs,
  position_next s x p i j (named f) u v vs a,
  λ order. others_one order x.values v vs,
  λ seen. refl,
  λ m k. k,
)

pub behind_argument_ends : (s : List ℕ) (x : Setting) (p i j : ℕ) (f : Bytes) (u : Term) (us : Terms) → Position s x p i j (named f) u us
    → tag_in (get_or s p 0) ≤ i → Found s x (named f) j us (41, None)
unfolding count other_arguments all_full
behind_argument_ends s x p i j f u end a h = (λ order. refl, λ seen. seen_after_end seen)
behind_argument_ends s x p i j f u (more v vs) a h = absurd (omega (arith, position_arity s x p i j (named f) u (more v vs) a, a.index))

-- A term behind a bar.
abbrev Barred : Term → Type 0
Barred t = (order : List ℕ) → written order tail t ≡ 124 ∷ (written order alone t ++ (93 ∷ []))

barred_variable : (h : Half) (n : ℕ) → Barred (Term.variable h n)
unfolding written behind_bar bytes
barred_variable h n order = refl

barred_constant : (k : Constant) → k ≢ Constant.empty → Barred (Term.constant k)
unfolding written constant_bytes behind_bar bytes
barred_constant (Constant.integer i) d order = refl
barred_constant (Constant.name f) d order = refl
barred_constant Constant.empty d order = absurd (d refl)

barred_named : (n : ℕ) (f : Bytes) (ts : Terms) → Barred (Term.compound n (named f) ts)
unfolding written behind_bar bytes
barred_named n f ts order = refl

barred_last : (s : List ℕ) (x : Setting) (v : Term) (w : ℕ) (l : Led s x v w) → (l.last ≢ Term.constant Constant.empty)
    → ((n : ℕ) (ts : Terms) → l.last ≡ Term.compound n cell ts → ⊥) → Barred (full x.values v)
barred_last s x v w l d e = rw l.same (by l.last l.ended d e)
  where
    by : (t : Term) → value_of x.values t ≡ none → t ≢ Term.constant Constant.empty → ((n : ℕ) (ts : Terms) → t ≡ Term.compound n cell ts → ⊥)
        → Barred (full x.values t)
    by (Term.variable h n) q d e = rw (full_unassigned x.values h n q) (barred_variable h n)
    by (Term.constant k) q d e = rw (full_constant x.values k) (barred_constant k (λ z. d (ap Term.constant z)))
    by (Term.compound n cell ts) q d e = absurd (e n ts refl)
    by (Term.compound n (named f) ts) q d e = rw (full_compound x.values n (named f) ts) (barred_named n f (all_full x.values ts))

-- Behind an element of a list.
module _ (s : List ℕ) (x : Setting) (p w : ℕ) (u v : Term) (a : Position s x p 1 0 cell u (more v end)) (l : Led s x v w) where
  bar : Barred (full x.values v) → Found s x cell 0 (more v end) (124, Some (p, 2))
  unfolding tail_bytes all_full
  bar b = (1, cell, v, end, position_next s x p 1 0 cell u v end a, λ order. b order, λ seen. refl, λ m k. k)

  pub element_empty : seen w ≡ Empty → Found s x cell 0 (more v end) (93, None)
  unfolding tail_bytes all_full written constant_bytes empty_bytes bytes
  element_empty e =
      let last : l.last ≡ Term.constant Constant.empty = empty_told x.places l.last (sym (seen_term x.places l.last w l.word) ∙ e) in
      let same : full x.values v ≡ Term.constant Constant.empty = l.same ∙ ap (full x.values) last ∙ full_constant x.values Constant.empty in (
        λ order. ap (λ (t : Term). tail_bytes order (more t end)) same,
        λ seen. ap (λ (t : Term). seen_after_all seen (more t end)) same
            ∙ seen_after_more seen (Term.constant Constant.empty) end ∙ seen_after_end (seen_after seen (Term.constant Constant.empty)) ∙ seen_after_constant seen Constant.empty,
      )

  pub element_bar_compound : (q : ℕ) → seen w ≡ Compound q → rest_in (get_or s q 0) ≢ 0 → Found s x cell 0 (more v end) (124, Some (p, 2))
  unfolding Holds
  element_bar_compound q e d =
      bar (barred_last s x v w l (λ z. go_empty z) (λ n ts z. go_cell n ts z))
    where
      told : view_of (content x.places l.last) ≡ Compound q
      told = sym (seen_term x.places l.last w l.word) ∙ e

      go_empty : l.last ≡ Term.constant Constant.empty → ⊥
      go_empty z = let k : view_of (content x.places (Term.constant Constant.empty)) ≡ Compound q = rw z at told in
          let y : ◌≡◌ {A = ℕ} 0 1 = cc in omega arith

      go_cell : (n : ℕ) (ts : Terms) → l.last ≡ Term.compound n cell ts → ⊥
      go_cell n ts z =
          let k : view_of (content x.places (Term.compound n cell ts)) ≡ Compound q = rw z at told in
          let place : x.places.compound n ≡ q = cc in
          let held : Holds s x.places (Term.compound n cell ts) = rw z at l.term.held in
          d (rw (sym place) (functor_parts s x.places n cell (count ts) held.0).0)

  pub element_bar_other : (seen w ≡ Empty → ⊥) → ((q : ℕ) → seen w ≡ Compound q → ⊥) → Found s x cell 0 (more v end) (124, Some (p, 2))
  element_bar_other d e = bar (barred_last s x v w l go_empty go_cell)
    where
      told : seen w ≡ view_of (content x.places l.last)
      told = seen_term x.places l.last w l.word

      go_empty : l.last ≡ Term.constant Constant.empty → ⊥
      go_empty z = d (told ∙ ap (λ (t : Term). view_of (content x.places t)) z)

      go_cell : (n : ℕ) (ts : Terms) → l.last ≡ Term.compound n cell ts → ⊥
      go_cell n ts z = e (x.places.compound n) (told ∙ ap (λ (t : Term). view_of (content x.places t)) z)

  -- The tail is a list again.
  tail_cell : (n : ℕ) (ts : Terms) (q : ℕ) → l.last ≡ Term.compound n cell ts → StandsAt s x n cell ts q → count ts ≡ 2
      → Found s x cell 0 (more v end) (44, Some (q, 1))
  unfolding count tail_bytes all_full written before_element element_and_tail bytes Stands StandsIn
  tail_cell n end q z b two = absurd (omega arith)
  tail_cell n (more c end) q z b two = absurd (omega arith)
  tail_cell n (more c (more d (more e es))) q z b two = absurd (omega arith)
  tail_cell n (more c (more d end)) q z b two =
      let same : full x.values v ≡ Term.compound n cell (all_full x.values (more c (more d end))) =
      l.same ∙ ap (full x.values) z ∙ full_compound x.values n cell (more c (more d end)) in (
        0,
        cell,
        c,
        more d end,
        position_first s x n cell c (more d end) q b,
        λ order. ap (λ (t : Term). tail_bytes order (more t end)) same,
        λ seen. ap (λ (t : Term). seen_after_all seen (more t end)) same
            ∙ seen_after_more seen (Term.compound n cell (all_full x.values (more c (more d end)))) end
            ∙ seen_after_end (seen_after seen (Term.compound n cell (all_full x.values (more c (more d end)))))
            ∙ seen_after_compound seen n cell (all_full x.values (more c (more d end))),
        λ m k. rw same (inl k),
      )

  pub element_cell : (q : ℕ) → seen w ≡ Compound q → rest_in (get_or s q 0) ≡ 0 → Found s x cell 0 (more v end) (44, Some (q, 1))
  unfolding Holds Sound
  element_cell q e zero_functor = go (compound_told x.places l.last q (sym (seen_term x.places l.last w l.word) ∙ e))
    where
      go : (n : ℕ) × (f : Functor) × (ts : Terms) × (l.last ≡ Term.compound n f ts) × (q ≡ x.places.compound n) → Found s x cell 0 (more v end) (44, Some (q, 1))
      go (n, cell, ts, z, b) =
          let sound : Sound (Term.compound n cell ts) = rw z at l.sound in
          tail_cell n ts q z (record { term = rw z at l.term; sound = sound; place = b }) sound.0
      go (n, named f, ts, z, b) =
          let held : Holds s x.places (Term.compound n (named f) ts) = rw z at l.term.held in
          let upper = (functor_parts s x.places n (named f) (count ts) held.0).0 in
          let none : rest_in (get_or s (x.places.compound n) 0) ≡ 0 = rw b at zero_functor in
          absurd (omega (arith, none, upper))

-- Where the compound is seen by its functor's word.
pub position_named : (s : List ℕ) (x : Setting) (p i j : ℕ) (f : Functor) (u : Term) (us : Terms) → Position s x p i j f u us
    → rest_in (get_or s p 0) ≢ 0 → (g : Bytes) × (f ≡ named g)
position_named s x p i j cell u us a d = absurd (d (position_functor s x p i j cell u us a))
position_named s x p i j (named g) u us a d = (g, refl)

pub position_cell : (s : List ℕ) (x : Setting) (p i j : ℕ) (f : Functor) (u : Term) (us : Terms) → Position s x p i j f u us
    → rest_in (get_or s p 0) ≡ 0 → f ≡ cell
position_cell s x p i j cell u us a z = refl
position_cell s x p i j (named g) u us a z = absurd (omega (arith, position_functor s x p i j (named g) u us a))

-- The element of a list has one tail; the tail has nothing behind.
pub position_element : (s : List ℕ) (x : Setting) (p i j : ℕ) (u : Term) (us : Terms) → Position s x p i j cell u us → i ≡ 1
    → (v : Term) × (us ≡ more v end) × (j ≡ 0)
unfolding count
position_element s x p i j u end a e = absurd (omega (arith, a.index, a.sound_functor))
position_element s x p i j u (more v end) a e = (v, refl, omega (arith, a.index))
position_element s x p i j u (more v (more w ws)) a e = absurd (omega (arith, a.index, a.sound_functor))

pub position_tail : (s : List ℕ) (x : Setting) (p i j : ℕ) (u : Term) (us : Terms) → Position s x p i j cell u us → i ≢ 1
    → Found s x cell j us (93, None)
unfolding count all_full
position_tail s x p i zero u us a d = absurd (d a.index)
position_tail s x p i (suc j) u end a d = (λ order. refl, λ seen. seen_after_end seen)
position_tail s x p i (suc j) u (more v vs) a d = absurd (omega (arith, a.sound_functor))

-- The compound that a term of the unit is lies in the scratch.
pub led_inside : (s : List ℕ) (x : Setting) (v : Term) (w q : ℕ) → Led s x v w → seen w ≡ Compound q → q + 8 ≤ length s
unfolding Holds
led_inside s x v w q l e = go (compound_told x.places l.last q (sym (seen_term x.places l.last w l.word) ∙ e))
  where
    go : (n : ℕ) × (f : Functor) × (ts : Terms) × (l.last ≡ Term.compound n f ts) × (q ≡ x.places.compound n) → q + 8 ≤ length s
    go (n, f, ts, z, b) = let held : Holds s x.places (Term.compound n f ts) = rw z at l.term.held in rw b held.0.inside

-- The word of a list's tail.
pub tail_shows : (s : List ℕ) (x : Setting) (p : ℕ) (u v : Term) → Position s x p 1 0 cell u (more v end) → Shows s x v (get_or s (p + 2) 0)
tail_shows s x p u v a = position_shows s x p 2 1 cell v end (position_next s x p 1 0 cell u v end a)

-- What was found, by its parts.
pub found_as : (s : List ℕ) (x : Setting) (f : Functor) (j : ℕ) (us : Terms) (r : ℕ × Told (ℕ × ℕ)) (o : Told (ℕ × ℕ)) → r.1 ≡ o
    → Found s x f j us r → Found s x f j us (r.0, o)
found_as s x f j us (b, n) o e F = rw e at F
