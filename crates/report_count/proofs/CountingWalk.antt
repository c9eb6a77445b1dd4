-- Counting a compound's arguments: the walk has counted some bytes, and what is left of them in the order of the whole brings it to the whole's length.
use Prim.Native.Nat.{ℕ, ◌+◌, ◌≤◌, ◌<◌}
use mathlib.Core.Path.{◌≡◌, refl, ◌∙◌, sym, ap}
use mathlib.Core.Logic.{◌≢◌}
use mathlib.Core.List.{List, [], ◌∷◌, ◌++◌}
use mathlib.Core.Option.{Option, none, some}
use native.Mathlib.Omega.{arith}
use lib.ListN.{length, length-append, get_or}
use Rattle.meaning.specs.Bytes.{Bytes}
use Rattle.meaning.specs.Terms.{Half, Functor, Term, Terms, more}
use Rattle.meaning.specs.State.{value}
use Rattle.meaning.specs.Report.{alone, written}
use Rattle.term.specs.Setting.{Setting}
use Rattle.term.specs.declared.word.View.TheVariants.{Compound}
use Rattle.term.proofs.Holds.{holds_from_alike}
use Rattle.report_pairs.specs.Threaded.{full, all_full, seen_after, seen_after_all, shown}
use Rattle.report_pairs.specs.Laid.{capped, Has}
use Rattle.report_pairs.specs.Facts.{Readable, Shows, Led, Changed, Counting, Placed, Leads}
use Rattle.report_count.specs.Counts.{Counts, Counted, CountedTerm, LeadsTo, LeafCounted, LengthKnown, KnownNow}
use Rattle.report_pairs.specs.Pairs.{NoCompound}
use Rattle.report_pairs.specs.Walk.{opening_bytes, StandsAt, after, rest, Position, Found}
use Rattle.std.specs.Prelude.{Some, None}
use Rattle.report_pairs.proofs.Full.{full_compound, full_unassigned}
use Rattle.report_pairs.proofs.Once.{seen_after_compound, seen_after_more, seen_after_all_keeps}
use Rattle.report_pairs.proofs.Settled.{settled_in}
use Rattle.report_pairs.proofs.Having.{has_front, has_behind, has_as}
use Rattle.report_count.proofs.KeptLengths.{Kept}
use Rattle.report_pairs.proofs.Again.{seen_again, shown_again}
use Rattle.report_pairs.proofs.Told.{seen as look, seen_term, compound_told}
use Rattle.report_pairs.proofs.Leaves.{opening_length, length_more}
use Rattle.report_pairs.proofs.Keeping.{changed_none, changed_then, front_kept, shows_kept}
use Rattle.term.proofs.Units.{all_within_every}
use Rattle.report_pairs.proofs.Walking.{position_first}
use Rattle.report_pairs.proofs.Wholes.{some_argument, whole_is}

-- Where the walk stands it stands after what counting changes.
pub position_kept : (s s' : List ℕ) (text : Bytes) (x : Setting) (facts : ℕ) → Readable s text x facts → Changed s s' x facts
    → (p i j : ℕ) (f : Functor) (u : Term) (us : Terms) → Position s x p i j f u us → Position s' x p i j f u us
position_kept s s' text x facts r c p i j f u us a =
    let own : (n : ℕ) → n < x.compounds → (k : ℕ) → x.places.compound n ≤ k → k < x.places.compound n + x.places.width n → get_or s' k 0 ≡ get_or s k 0 =
    λ n h k l b. front_kept s s' text x facts r c k (omega (arith, r.compound_behind n h)) (omega (arith, r.compound_before n h)) in
    let from = x.places.compound a.number in record {
      number = a.number;
      index = a.index;
      place = a.place;
      of_unit = a.of_unit;
      cell_at = record {
        inside = omega (arith, c.size, a.cell_at.inside);
        few = a.cell_at.few;
        wide = a.cell_at.wide;
        functor = own a.number a.of_unit from (omega arith) (omega (arith, a.cell_at.wide)) ∙ a.cell_at.functor;
      };
      sound_functor = a.sound_functor;
      terms = record {
        held = holds_from_alike s s' x.places (λ n. n < x.compounds) (omega (arith, c.size)) own a.number j (more u us)
            (λ k l b. own a.number a.of_unit k (omega arith) b) a.cell_at.wide
            (all_within_every (length x.values) x.compounds (more u us) a.terms.within) a.terms.held;
        within = a.terms.within;
        known = a.terms.known;
        ranged = a.terms.ranged;
      };
      sound = a.sound;
    }

-- The order of a compound.
abbrev pub order_of : Setting → List ℕ → Term → List ℕ
order_of x seen t = seen_after seen (full x.values t)

abbrev pub whole_of : Setting → List ℕ → Term → Bytes
whole_of x seen t = shown seen alone (full x.values t)

-- The walk: so far it is counted up to a place below the ceiling; in the order of the whole what is left leads to the whole's end. A report that has the
-- whole has there what is left, and the places kept are right in it.
pub record Walked (s₀ s : List ℕ) (text : Bytes) (x : Setting) (facts : ℕ) (from order : List ℕ) (whole : Bytes) (at p i to : ℕ) : Type 0 where
  pub g : Functor
  pub j : ℕ
  pub u : Term
  pub us : Terms
  pub position : Position s x p i j g u us
  pub changed : Changed s₀ s x facts
  pub now : List ℕ
  pub counts : Counts s text x facts now to
  pub low : to < 16777217
  pub above : at < to
  pub place : capped (to + length (rest x.values order g j u us)) ≡ capped (at + length whole)
  pub exact : seen_after_all now (all_full x.values (more u us)) ≡ order
  pub there : (report : Bytes) → Has report at whole → Has report to (rest x.values order g j u us)
  pub placed : (report : Bytes) → Has report at whole → Placed s₀ x facts from report → Placed s x facts now report

-- The same behind the argument where it stood at another place.
pub record Turned (s₀ s : List ℕ) (text : Bytes) (x : Setting) (facts : ℕ) (from order : List ℕ) (whole : Bytes) (at p i to r : ℕ) : Type 0 where
  pub g : Functor
  pub j : ℕ
  pub u : Term
  pub us : Terms
  pub position : Position s x p i j g u us
  pub changed : Changed s₀ s x facts
  pub now : List ℕ
  pub counts : Counts s text x facts now r
  pub above : (at < r) × (to ≤ r)
  pub place : capped (r + length (after x.values order g j us)) ≡ capped (at + length whole)
  pub exact : r < 16777217 → seen_after_all now (all_full x.values us) ≡ order
  pub there : r < 16777217 → (report : Bytes) → Has report at whole → Has report r (after x.values order g j us)
  pub placed : r < 16777217 → (report : Bytes) → Has report at whole → Placed s₀ x facts from report → Placed s x facts now report

-- A compound is what stands before its first argument, and the rest.
opened_is : (x : Setting) (seen : List ℕ) (n : ℕ) (f : Functor) (u : Term) (us : Terms)
    → whole_of x seen (Term.compound n f (more u us)) ≡ opening_bytes f ++ rest x.values (order_of x seen (Term.compound n f (more u us))) f 0 u us
unfolding shown
opened_is x seen n f u us = whole_is x (order_of x seen (Term.compound n f (more u us))) n f u us

opened : (x : Setting) (seen : List ℕ) (n : ℕ) (f : Functor) (u : Term) (us : Terms)
    → length (whole_of x seen (Term.compound n f (more u us)))
    ≡ length (opening_bytes f) + length (rest x.values (order_of x seen (Term.compound n f (more u us))) f 0 u us)
opened x seen n f u us =
    ap length (opened_is x seen n f u us) ∙ length-append (opening_bytes f) (rest x.values (order_of x seen (Term.compound n f (more u us))) f 0 u us)

module _ (s : List ℕ) (text : Bytes) (x : Setting) (facts : ℕ) (seen : List ℕ) (n : ℕ) (f : Functor) (ts : Terms) (at p to : ℕ)
    (C : Counts s text x facts seen at) (low : at < 16777217) (a : StandsAt s x n f ts p) (e : to ≡ capped (at + length (opening_bytes f))) where
  pub walk_first : to ≢ 16777217
      → Walked s s text x facts seen (order_of x seen (Term.compound n f ts)) (whole_of x seen (Term.compound n f ts)) at p 1 to
  walk_first d = go (some_argument n f ts a.sound)
    where
      go : (u : Term) × (us : Terms) × (ts ≡ more u us)
          → Walked s s text x facts seen (order_of x seen (Term.compound n f ts)) (whole_of x seen (Term.compound n f ts)) at p 1 to
      go (u, us, z) =
          let start : Walked s s text x facts seen (order_of x seen (Term.compound n f (more u us))) (whole_of x seen (Term.compound n f (more u us))) at p 1 to = record {
            g = f;
            j = 0;
            u = u;
            us = us;
            position = position_first s x n f u us p (rw z at a);
            changed = changed_none s x facts;
            now = seen;
            counts = record { readable = C.readable; counting = C.counting; low = omega arith; few = omega (arith, C.few, C.low) };
            low = omega arith;
            above = omega (arith, opening_length f);
            place = omega (arith, opened x seen n f u us);
            exact = sym (ap (seen_after seen) (full_compound x.values n f (more u us)) ∙ seen_after_compound seen n f (all_full x.values (more u us)));
            there = λ report h. has_behind (opening_bytes f) (rest x.values (order_of x seen (Term.compound n f (more u us))) f 0 u us) report at to
                (omega arith) (has_as report at (opened_is x seen n f u us) h);
            placed = λ report h p. p;
          } in
          rw z start

  -- What stands before the first argument reaches the ceiling.
  pub walk_none : to ≡ 16777217 → CountedTerm s s text x facts seen (Term.compound n f ts) at to
  walk_none c = record {
    changed = changed_none s x facts;
    readable = C.readable;
    after = seen;
    counting = C.counting;
    few = omega (arith, C.few, C.low);
    place = go (some_argument n f ts a.sound);
    exact = λ h. absurd (omega arith);
    placed = λ h. absurd (omega arith);
  }
    where
      go : (u : Term) × (us : Terms) × (ts ≡ more u us) → to ≡ capped (at + length (whole_of x seen (Term.compound n f ts)))
      go (u, us, z) = let there : to ≡ capped (at + length (whole_of x seen (Term.compound n f (more u us)))) = omega (arith, opened x seen n f u us) in rw z there

-- An argument in the order of the whole.
argument_is : (x : Setting) (now order : List ℕ) (u : Term) (us : Terms) → seen_after_all now (all_full x.values (more u us)) ≡ order
    → written order alone (full x.values u) ≡ shown now alone (full x.values u)
unfolding all_full
argument_is x now order u us e =
    let K = seen_after_all_keeps (seen_after now (full x.values u)) (all_full x.values us) in
    settled_in now order alone (full x.values u) (K.0, sym e ∙ seen_after_more now (full x.values u) (all_full x.values us) ∙ K.1)

argument_seen : (x : Setting) (now order : List ℕ) (u : Term) (us : Terms) → seen_after_all now (all_full x.values (more u us)) ≡ order
    → seen_after_all (seen_after now (full x.values u)) (all_full x.values us) ≡ order
unfolding all_full
argument_seen x now order u us e = sym (seen_after_more now (full x.values u) (all_full x.values us)) ∙ e

-- The argument where the walk stands is counted.
pub walk_turn : (s₀ s : List ℕ) (text : Bytes) (x : Setting) (facts : ℕ) (from order : List ℕ) (whole : Bytes) (at p i to : ℕ)
    (W : Walked s₀ s text x facts from order whole at p i to) (s' : List ℕ) (r : ℕ) → CountedTerm s s' text x facts W.now W.u to r
    → Turned s₀ s' text x facts from order whole at p i to r
walk_turn s₀ s text x facts from order whole at p i to W s' r C = record {
  g = W.g;
  j = W.j;
  u = W.u;
  us = W.us;
  position = position_kept s s' text x facts W.counts.readable C.changed p i W.j W.g W.u W.us W.position;
  changed = changed_then s₀ s s' x facts W.changed C.changed;
  now = C.after;
  counts = record { readable = C.readable; counting = C.counting; low = omega (arith, C.place); few = C.few };
  above = (omega (arith, C.place, W.above, W.low), omega (arith, C.place, W.low));
  place =
      let is = ap length (argument_is x W.now order W.u W.us W.exact) in
      omega (
        arith,
        W.place,
        C.place,
        is,
        length-append (written order alone (full x.values W.u)) (after x.values order W.g W.j W.us),
      );
  exact = λ h.
      ap (λ (l : List ℕ). seen_after_all l (all_full x.values W.us)) (C.exact h)
      ∙ argument_seen x W.now order W.u W.us W.exact;
  there = λ h report R.
      let is = ap length (argument_is x W.now order W.u W.us W.exact) in
      has_behind (written order alone (full x.values W.u)) (after x.values order W.g W.j W.us) report to r (omega (arith, C.place, is)) (W.there report R);
  placed = λ h report R P.
      C.placed h report (has_as report to (argument_is x W.now order W.u W.us W.exact)
      (has_front (written order alone (full x.values W.u)) (after x.values order W.g W.j W.us) report to (W.there report R))) (W.placed report R P);
}

module _ (s₀ s : List ℕ) (text : Bytes) (x : Setting) (facts : ℕ) (from order : List ℕ) (whole : Bytes) (at p i to r : ℕ)
    (T : Turned s₀ s text x facts from order whole at p i to r) where
  -- The next byte reaches the ceiling: the rest does not matter.
  pub walk_stops : (b q k : ℕ) → Found s x T.g T.j T.us (b, Some (q, k)) → 16777216 ≤ r → Counted s₀ s text x facts at from whole order 16777217
  walk_stops b q k (j', g', v, vs, position, bytes_are, seen_are, stands_are) d =
      let size = ap length (bytes_are order) ∙ length_more b (rest x.values order g' j' v vs) in record {
        changed = T.changed;
        readable = T.counts.readable;
        after = T.now;
        counting = T.counts.counting;
        few = omega (arith, T.counts.few, T.counts.low);
        place = omega (arith, T.place, size);
        exact = λ h. absurd (omega arith);
        placed = λ h. absurd (omega arith);
      }

  pub walk_ends : (b r' : ℕ) → Found s x T.g T.j T.us (b, None) → r' ≡ capped (r + 1) → Counted s₀ s text x facts at from whole order r'
  walk_ends b r' F e = record {
    changed = T.changed;
    readable = T.counts.readable;
    after = T.now;
    counting = T.counts.counting;
    few = omega (arith, T.counts.few, T.counts.low);
    place =
        let one = ap length (F.0 order) ∙ length_more b [] in
        let none : length {A = ℕ} [] ≡ 0 = refl in
        omega (arith, T.place, one, none);
    exact = λ h. sym (F.1 T.now) ∙ T.exact (omega arith);
    placed = λ h. T.placed (omega arith);
  }

  pub walk_on : (b q k : ℕ) → Found s x T.g T.j T.us (b, Some (q, k)) → r < 16777216
      → Walked s₀ s text x facts from order whole at q k (r + 1)
  walk_on b q k (j', g', v, vs, position, bytes_are, seen_are, stands_are) low =
      let size = ap length (bytes_are order) ∙ length_more b (rest x.values order g' j' v vs) in record {
        g = g';
        j = j';
        u = v;
        us = vs;
        position = position;
        changed = T.changed;
        now = T.now;
        counts = record { readable = T.counts.readable; counting = T.counts.counting; low = omega arith; few = omega (arith, T.counts.few) };
        low = omega arith;
        above = omega (arith, T.above.0);
        place = omega (arith, T.place, size);
        exact = sym (seen_are T.now) ∙ T.exact (omega arith);
        there = λ report R.
            has_behind (b ∷ []) (rest x.values order g' j' v vs) report r (r + 1) refl (has_as report r (bytes_are order) (T.there (omega arith) report R));
        placed = T.placed (omega arith);
      }

-- A term at the ceiling.
pub count_ceiling : (s : List ℕ) (text : Bytes) (x : Setting) (facts : ℕ) (seen : List ℕ) (t : Term) (at : ℕ) → Counts s text x facts seen at
    → at ≡ 16777217 → CountedTerm s s text x facts seen t at at
count_ceiling s text x facts seen t at C e = record {
  changed = changed_none s x facts;
  readable = C.readable;
  after = seen;
  counting = C.counting;
  few = C.few;
  place = omega arith;
  exact = λ h. absurd (omega arith);
  placed = λ h. absurd (omega arith);
}

-- A term below the ceiling, led to its end: what is asked of a call for a compound or a leaf there, and what the call tells of the term.
module _ (s s₁ : List ℕ) (text : Bytes) (x : Setting) (facts : ℕ) (seen : List ℕ) (t : Term) (at w e : ℕ) (C : Counts s text x facts seen at)
    (low : at < 16777217) (k : Shows s x t w) (L : Leads s s₁ text x facts t e) where
  led_counts : Counts s₁ text x facts seen at
  led_counts = record { readable = L.readable; counting = L.counting seen C.counting; low = C.low; few = C.few }

  led_shows : Shows s₁ x t w
  led_shows = shows_kept s s₁ text x facts C.readable L.changed t w k

  leads_to : (q : ℕ) → look e ≡ Compound q → LeadsTo s₁ x t q
  leads_to q z = go (compound_told x.places L.led.last q (sym (seen_term x.places L.led.last e L.led.word) ∙ z))
    where
      go : (n : ℕ) × (f : Functor) × (ts : Terms) × (L.led.last ≡ Term.compound n f ts) × (q ≡ x.places.compound n) → LeadsTo s₁ x t q
      go (n, f, ts, y, b) = record {
        number = n;
        functor = f;
        terms = ts;
        stands = record { term = rw y at L.led.term; sound = rw y at L.led.sound; place = b };
        same = L.led.same ∙ ap (full x.values) y;
      }

  pub compound_asks : (q : ℕ) → look e ≡ Compound q
      → (text : Bytes) × (x : Setting) × (seen : List ℕ) × (t : Term) × Counts s₁ text x facts seen at × (at < 16777217) × Shows s₁ x t w × LeadsTo s₁ x t q
  compound_asks q z = (text, x, seen, t, led_counts, low, led_shows, leads_to q z)

  pub compound_tells : (q : ℕ) → look e ≡ Compound q → (s₂ : List ℕ) (r : ℕ)
      → (Counts s₁ text x facts seen at → at < 16777217 → Shows s₁ x t w → LeadsTo s₁ x t q → CountedTerm s₁ s₂ text x facts seen t at r)
      → CountedTerm s s₂ text x facts seen t at r
  compound_tells q z s₂ r told =
      let R = told led_counts low led_shows (leads_to q z) in record {
        changed = changed_then s s₁ s₂ x facts L.changed R.changed;
        readable = R.readable;
        after = R.after;
        counting = R.counting;
        few = R.few;
        place = R.place;
        exact = R.exact;
        placed = λ h report has p. R.placed h report has (L.placed seen report p);
      }

  pub leaf_asks : (text : Bytes) × (x : Setting) × (seen : List ℕ) × (t : Term) × Readable s₁ text x facts × Counting s₁ x facts seen
      × (length seen ≤ 16777216) × Led s₁ x t e
  leaf_asks = (text, x, seen, t, L.readable, L.counting seen C.counting, omega (arith, C.few), L.led)

  pub leaf_tells : NoCompound (look e) → (s₂ : List ℕ) (n r : ℕ)
      → (Readable s₁ text x facts → Counting s₁ x facts seen → Led s₁ x t e → NoCompound (look e) → LeafCounted s₁ s₂ text x facts seen t n)
      → r ≡ capped (at + n) → CountedTerm s s₂ text x facts seen t at r
  leaf_tells other s₂ n r told q =
      let F = told L.readable (L.counting seen C.counting) L.led other in record {
        changed = changed_then s s₁ s₂ x facts L.changed F.changed;
        readable = F.readable;
        after = order_of x seen t;
        counting = F.counting;
        few = omega (arith, F.few, C.few);
        place = q ∙ ap (λ (m : ℕ). capped (at + m)) F.size;
        exact = λ h. refl;
        placed = λ h report has p. F.placed report (L.placed seen report p);
      }

-- A compound to which a term leads: its length is known, or it is counted by its arguments and kept.
module _ (s : List ℕ) (text : Bytes) (x : Setting) (facts : ℕ) (seen : List ℕ) (t : Term) (at w q : ℕ) (C : Counts s text x facts seen at)
    (k : Shows s x t w) (D : LeadsTo s x t q) where
  pub count_known : (n r : ℕ) → LengthKnown x seen t (Some n) → r ≡ capped (at + n) → CountedTerm s s text x facts seen t at r
  count_known n r known e =
      record {
        changed = changed_none s x facts;
        readable = C.readable;
        after = seen;
        counting = C.counting;
        few = omega (arith, C.few, C.low);
        place = e ∙ ap (λ (m : ℕ). capped (at + m)) known.1;
        exact = λ h. sym known.0;
        placed = λ h report has p. p;
      }

  module _ (s₁ : List ℕ) (to : ℕ) (R : CountedTerm s s₁ text x facts seen (Term.compound D.number D.functor D.terms) at to) where
    told_place : to ≡ capped (at + length (shown seen alone (full x.values t)))
    told_place = rw D.same R.place

    told_exact : to < 16777217 → R.after ≡ seen_after seen (full x.values t)
    told_exact = rw D.same R.exact

    pub told_shows : Shows s₁ x t w
    told_shows = shows_kept s s₁ text x facts C.readable R.changed t w k

    pub told_low : at ≤ to
    told_low = omega (arith, R.place, C.low)

    assigned : (h : Half) (n : ℕ) (v : Option Term) → t ≡ Term.variable h n → value x.values n ≡ v → (u : Term) × (value x.values n ≡ some u)
    assigned h n none v z =
        let y : Term.variable h n ≡ Term.compound D.number D.functor (all_full x.values D.terms) =
        sym (full_unassigned x.values h n z) ∙ ap (full x.values) (sym v) ∙ D.same ∙ full_compound x.values D.number D.functor D.terms in
        let o : ◌≡◌ {A = ℕ} 0 1 = cc in absurd (omega arith)
    assigned h n (some u) v z = (u, z)

    pub known_now : KnownNow x facts R.after t at to
    known_now = record {
      assigned = λ h n v. assigned h n (value x.values n) v refl;
      seen_all = λ d. let z = told_exact (omega (arith, R.place, d)) in rw z (seen_again seen (full x.values t));
      size = λ d.
          let z = told_exact (omega (arith, R.place, d)) in
          let size : length (shown (seen_after seen (full x.values t)) alone (full x.values t)) ≡ length (shown seen alone (full x.values t)) =
          ap length (shown_again seen alone (full x.values t)) in
          rw z (omega (arith, told_place, size, d));
    }

    again : to < 16777217 → shown R.after alone (full x.values t) ≡ shown seen alone (full x.values t)
    again h = ap (λ (l : List ℕ). shown l alone (full x.values t)) (told_exact h) ∙ shown_again seen alone (full x.values t)

    pub count_kept : (s₂ : List ℕ) → Kept s₁ s₂ text x facts R.after t at → CountedTerm s s₂ text x facts seen t at to
    count_kept s₂ (c, r, o, kept) = record {
      changed = changed_then s s₁ s₂ x facts R.changed c;
      readable = r;
      after = R.after;
      counting = o;
      few = R.few;
      place = told_place;
      exact = told_exact;
      placed = λ h report has p.
          kept report (has_as report at (sym (again h)) has) (R.placed h report (has_as report at (ap (shown seen alone) D.same) has) p);
    }
