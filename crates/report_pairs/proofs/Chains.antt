-- Following a term over the ends that are kept and the values: each link has the same values applied, and no more links are left than the definition has.
use Prim.Native.Nat.{ℕ, ◌+◌, ◌-◌, ◌*◌, ◌<◌}
use mathlib.Core.Path.{◌≡◌, refl, ◌∙◌, sym, ap}
use mathlib.Core.Logic.{◌≢◌}
use mathlib.Core.Bool.{Bool, true, false}
use mathlib.Core.List.{List}
use mathlib.Core.Option.{Option, none, some}
use native.Mathlib.Omega.{arith}
use lib.ListN.{length, get_or, set, length-set}
use lib.Seq.{get_or-set_same, get_or-set_other}
use lib.Dec.{eqb}
use borrow.Author.Tests.{eqb-true, eqb-false}
use Rattle.meaning.specs.Bytes.{Bytes}
use Rattle.meaning.specs.Terms.{Half, Constant, Term}
use Rattle.meaning.specs.State.{Values, value}
use Rattle.meaning.specs.Compare.{followed}
use Rattle.term.specs.Cells.{term_word}
use Rattle.term.specs.Chains.{value_of, Leads as LeadsOver}
use Rattle.term.specs.Holds.{value_word}
use Rattle.term.specs.Setting.{Setting, Within}
use Rattle.term.proofs.Cells.{word_positive}
use Rattle.term.proofs.Chains.{followed_none, chains_end, nearer}
use Rattle.term.specs.Layout.{trial_region, pairs_told, pair_facts}
use Rattle.report_pairs.specs.Threaded.{full}
use Rattle.report_pairs.specs.Pairs.{pair_seen}
use Rattle.std.specs.Prelude.{Option as Told, Some, None, SomeIff}
use Rattle.report_pairs.specs.Facts.{fact_place, Led, EndAt, Readable, Shows, LeadsOn, Changed, Leads, Counting, LengthAt}
use Rattle.report_pairs.proofs.Full.{full_constant, full_compound, full_unassigned, full_assigned}
use Rattle.report_pairs.proofs.Told.{seen, pair_told, no_pair_told, no_variable_value}
use Rattle.report_pairs.proofs.Keeping.{changed_none, readable_kept, ends_kept, led_kept, placed_kept}

some_none : (u : Term) → ◌≡◌ {A = Option Term} (some u) none → ⊥
some_none u e = let z : ◌≡◌ {A = ℕ} 0 1 = cc in omega arith

module _ (s : List ℕ) (text : Bytes) (x : Setting) (facts : ℕ) (r : Readable s text x facts) where
  -- A variable's pair lies among the unit's.
  pub variable_below : (h : Half) (n w : ℕ) → Shows s x (Term.variable h n) w → n < length x.values
  unfolding Within
  variable_below h n w k = k.term.of.within

  pub fact_inside : (n : ℕ) → n < length x.values → fact_place x facts n + 3 < length s
  fact_inside n h = omega (arith, r.inside, r.stands.held.place n h)

  pub value_inside : (n : ℕ) → n < length x.values → facts + x.places.pair n < length s
  value_inside n h = omega (arith, r.inside, r.stands.held.place n h)

  -- The words of a variable's pair lie in the scratch.
  pub pair_inside : (t : Term) (w p : ℕ) → Shows s x t w → Some p ≡ pair_seen (seen w) → facts + pair_facts * p + 3 < length s
  pair_inside t w p k e = go (pair_told x.places t w p k.word e)
    where
      go : (h : Half) × (n : ℕ) × (t ≡ Term.variable h n) × (p ≡ x.places.pair n) → facts + pair_facts * p + 3 < length s
      go (h, n, v, q) = rw q (fact_inside n (variable_below h n w (rw v at k)))

  -- It stops at a term that is no variable.
  pub next_other : (t : Term) (w : ℕ) → Shows s x t w → None ≡ pair_seen (seen w) → LeadsOn s x t None
  next_other t w k e = no_variable_value x.values t (no_pair_told x.places t w k.word e)

  -- It goes to the end that is kept.
  end_leads : (h : Half) (n e : ℕ) → n < length x.values → (v : Option Term) → value x.values n ≡ v → EndAt s x facts n v
      → e ≡ get_or s (fact_place x facts n) 0 → e ≢ 0 → LeadsOn s x (Term.variable h n) (Some e)
  end_leads h n e b none q a i d = absurd (d (i ∙ a))
  end_leads h n e b (some u) q a i d =
      let l : Led s x u e = rw i (a (λ z. d (i ∙ z))) in record {
        next = l.last;
        shows = record { term = l.term; sound = l.sound; word = l.word };
        same = full_assigned x.values r.no_circle h n u q ∙ l.same;
        nearer = λ links k. rw (followed_none x.values (links - 1) l.last l.ended) l.ended;
        assigned = (u, q);
      }

  pub next_end : (t : Term) (w p e : ℕ) → Shows s x t w → Some p ≡ pair_seen (seen w)
      → e ≡ get_or s (facts + pair_facts * p + 0) 0 → e ≢ 0 → LeadsOn s x t (Some e)
  next_end t w p e k q i z = go (pair_told x.places t w p k.word q)
    where
      go : (h : Half) × (n : ℕ) × (t ≡ Term.variable h n) × (p ≡ x.places.pair n) → LeadsOn s x t (Some e)
      go (h, n, v, g) =
          let b = variable_below h n w (rw v at k) in
          let same : facts + pair_facts * p + 0 ≡ fact_place x facts n = omega arith in
          rw v (end_leads h n e b (value x.values n) refl (r.ends n b) (i ∙ ap (λ (m : ℕ). get_or s m 0) same) z)

  -- It goes to the value.
  value_leads : (h : Half) (n : ℕ) → n < length x.values → (v : Option Term) → value x.values n ≡ v
      → (e : Told ℕ) → SomeIff e (value_word x.places v ≢ 0) (value_word x.places v) → LeadsOn s x (Term.variable h n) e
  unfolding LeadsOver
  value_leads h n b none q None i = q
  value_leads h n b none q (Some e) i = absurd (i.0 refl)
  value_leads h n b (some u) q None i = absurd (i (λ z. omega (arith, word_positive x.places u)))
  value_leads h n b (some u) q (Some e) i = record {
    next = u;
    shows = record {
      term = record { held = rw q at (r.stands.held.held n b); of = r.stands.of n u b q };
      sound = r.sound n u q;
      word = i.1;
    };
    same = full_assigned x.values r.no_circle h n u q;
    nearer = λ links k. nearer x.values 1 links (Term.variable h n) u (omega arith) (u, q, refl) k;
    assigned = (u, q);
  }

  pub next_value : (t : Term) (w p : ℕ) (e : Told ℕ) → Shows s x t w → Some p ≡ pair_seen (seen w)
      → SomeIff e (get_or s (facts - get_or s pairs_told 0 + p) 0 ≢ 0) (get_or s (facts - get_or s pairs_told 0 + p) 0) → LeadsOn s x t e
  next_value t w p e k q i = go (pair_told x.places t w p k.word q)
    where
      go : (h : Half) × (n : ℕ) × (t ≡ Term.variable h n) × (p ≡ x.places.pair n) → LeadsOn s x t e
      go (h, n, v, g) =
          let b = variable_below h n w (rw v at k) in
          let same : facts - get_or s pairs_told 0 + p ≡ facts - x.pairs + x.places.pair n = rw (g, r.room) in
          rw v (value_leads h n b (value x.values n) refl e (rw (same, r.stands.held.stands n b) at i))

  -- On the way: the term at hand, with so many links left.
  pub record Way (t : Term) (w left : ℕ) : Type 0 where
    pub here : Term
    pub shows : Shows s x here w
    pub same : full x.values t ≡ full x.values here
    pub ends : value_of x.values (followed left x.values here) ≡ none

  pub way_begins : (t : Term) (w left : ℕ) → Shows s x t w → left ≡ get_or s pairs_told 0 → Way t w left
  way_begins t w left k e = record {
    here = t;
    shows = k;
    same = refl;
    ends = chains_end x.values r.no_circle left (omega (arith, r.links, r.room)) t;
  }

  pub way_stops : (t : Term) (w left : ℕ) (a : Way t w left) → LeadsOn s x a.here None → Led s x t w
  way_stops t w left a l = record {
    last = a.here;
    word = a.shows.word;
    term = a.shows.term;
    sound = a.shows.sound;
    ended = l;
    same = a.same;
  }

  pub way_goes : (t : Term) (w v left : ℕ) (a : Way t w left) → LeadsOn s x a.here (Some v) → Way t v (left - 1)
  way_goes t w v left a g = record { here = g.next; shows = g.shows; same = a.same ∙ g.same; ends = g.nearer left a.ends }

  pub way_ends : (t : Term) (w left : ℕ) → Way t w left → left ≡ 0 → Led s x t w
  unfolding followed
  way_ends t w left a z = record {
    last = a.here;
    word = a.shows.word;
    term = a.shows.term;
    sound = a.shows.sound;
    ended = rw z at a.ends;
    same = a.same;
  }

-- An unassigned variable leads to itself.
full_ended_same : (values : Values) (v : Term) → value_of values v ≡ none → (h : Half) (n : ℕ) → Term.variable h n ≡ full values v → v ≡ Term.variable h n
full_ended_same values (Term.variable g m) e h n q = sym (q ∙ full_unassigned values g m e)
full_ended_same values (Term.constant k) e h n q =
    let z : Term.variable h n ≡ Term.constant k = q ∙ full_constant values k in absurd (kinds h n k z)
  where
    kinds : (h : Half) (n : ℕ) (k : Constant) → Term.variable h n ≡ Term.constant k → ⊥
    kinds h n k z = let y : ◌≡◌ {A = ℕ} 0 1 = cc in omega arith
full_ended_same values (Term.compound m f ts) e h n q =
    let z = q ∙ full_compound values m f ts in let y : ◌≡◌ {A = ℕ} 0 1 = cc in absurd (omega arith)

pub unassigned_leads : (s : List ℕ) (x : Setting) (h : Half) (n w : ℕ) → value x.values n ≡ none → (l : Led s x (Term.variable h n) w)
    → w ≡ term_word x.places (Term.variable h n)
unassigned_leads s x h n w e l =
    l.word ∙ ap (term_word x.places)
    (full_ended_same x.values l.last l.ended h n (sym (full_unassigned x.values h n e) ∙ l.same))

-- Kept for the next time.
module _ (s : List ℕ) (text : Bytes) (x : Setting) (facts : ℕ) (r : Readable s text x facts) where
  pub lead_same : (t : Term) (w : ℕ) → Led s x t w → Leads s s text x facts t w
  lead_same t w l = record { changed = changed_none s x facts; readable = r; counting = λ seen c. c; placed = λ seen whole p. p; led = l }

  abbrev now : ℕ → ℕ → List ℕ
  now n e = set s (fact_place x facts n) e

  now_changed : (n e : ℕ) → n < length x.values → Changed s (now n e) x facts
  now_changed n e b = record {
    size = length-set s (fact_place x facts n) e;
    others = λ k d o. get_or-set_other s (fact_place x facts n) k e 0 (o n b).0;
  }

  -- The words behind an end, and another pair's end, stay.
  now_other : (n e k : ℕ) → k ≢ fact_place x facts n → get_or (now n e) k 0 ≡ get_or s k 0
  now_other n e k d = get_or-set_other s (fact_place x facts n) k e 0 d

  abbrev KeptEnd : ℕ → ℕ → Option Term → Type 0
  KeptEnd n e v = (u : Term) × (v ≡ some u) × Led (now n e) x u e

  kept_end : (n e : ℕ) → fact_place x facts n < length s → (v : Option Term) → KeptEnd n e v → EndAt (now n e) x facts n v
  kept_end n e i none (u, q, l) = absurd (some_none u (sym q))
  kept_end n e i (some v) (u, q, l) =
      let same : get_or (now n e) (fact_place x facts n) 0 ≡ e = get_or-set_same s (fact_place x facts n) e 0 i in
      let v_u : v ≡ u = cc in
      λ d. rw (same, v_u) l

  now_end : (n e : ℕ) → n < length x.values → KeptEnd n e (value x.values n)
      → (m : ℕ) → m < length x.values → EndAt (now n e) x facts m (value x.values m)
  now_end n e b kept m c = go (eqb m n) refl
    where
      go : (t : Bool) → eqb m n ≡ t → EndAt (now n e) x facts m (value x.values m)
      go true q = let same : m ≡ n = eqb-true m n q in rw same (kept_end n e (omega (arith, fact_inside s text x facts r n b)) (value x.values n) kept)
      go false q =
          ends_kept s (now n e) text x facts r (now_changed n e b) m c
          (now_other n e (fact_place x facts m) (λ z. eqb-false m n q (r.apart m n c b (omega arith))))

  now_counting : (n e : ℕ) → n < length x.values → (seen : List ℕ) → Counting s x facts seen → Counting (now n e) x facts seen
  now_counting n e b seen c = record {
    given = now_other n e trial_region (λ z. omega (arith, r.behind)) ∙ c.given;
    numbers = λ m h. now_other n e (fact_place x facts m + 2) (λ z. omega arith) ∙ c.numbers m h;
    lengths = λ m h. length_kept m (value x.values m) (now_other n e (fact_place x facts m + 1) (λ z. omega arith)) (c.lengths m h);
  }
    where
      length_kept : (m : ℕ) (v : Option Term) → get_or (now n e) (fact_place x facts m + 1) 0 ≡ get_or s (fact_place x facts m + 1) 0
          → LengthAt s x facts seen m v → LengthAt (now n e) x facts seen m v
      length_kept m none q l = q ∙ l
      length_kept m (some u) q l = λ d. let k = l (λ z. d (q ∙ z)) in (k.0, q ∙ k.1)

  pub lead_kept : (t : Term) (w p e : ℕ) → Shows s x t w → Some p ≡ pair_seen (seen w) → e ≢ w → Led s x t e
      → Leads s (set s (facts + pair_facts * p + 0) e) text x facts t e
  lead_kept t w p e k q o l = go (pair_told x.places t w p k.word q)
    where
      go : (h : Half) × (n : ℕ) × (t ≡ Term.variable h n) × (p ≡ x.places.pair n) → Leads s (set s (facts + pair_facts * p + 0) e) text x facts t e
      go (h, n, v, g) =
          let k' : Shows s x (Term.variable h n) w = rw v at k in
          let l' : Led s x (Term.variable h n) e = rw v at l in
          let b = variable_below s text x facts r h n w k' in
          let same : facts + pair_facts * p + 0 ≡ fact_place x facts n = omega arith in
          let c = now_changed n e b in
          let there : Led (now n e) x (Term.variable h n) e = led_kept s (now n e) text x facts r c (Term.variable h n) e l' in
          rw (same, v) (record {
            changed = c;
            readable = readable_kept s (now n e) text x facts r c (now_end n e b (from h n b there (λ z. o (unassigned_leads s x h n e z l' ∙ sym k'.word))));
            counting = now_counting n e b;
            placed = placed_kept s (now n e) x facts (λ m h. now_other n e (fact_place x facts m + 1) (λ z. omega arith)) (λ m h. now_other n e (fact_place x facts m + 3) (λ z. omega arith));
            led = there;
          })
        where
          from : (h : Half) (n : ℕ) → n < length x.values → Led (now n e) x (Term.variable h n) e → (value x.values n ≡ none → ⊥) → KeptEnd n e (value x.values n)
          from h n b l not = by (value x.values n) refl
            where
              by : (v : Option Term) → value x.values n ≡ v → KeptEnd n e v
              by none z = absurd (not z)
              by (some u) z = (
                u,
                refl,
                record {
                  last = l.last;
                  word = l.word;
                  term = l.term;
                  sound = l.sound;
                  ended = l.ended;
                  same = sym (full_assigned x.values r.no_circle h n u z) ∙ l.same;
                },
              )
