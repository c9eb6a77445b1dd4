-- The report counted and written section by section.
use Prim.Native.Nat.{ℕ, zero, suc, ◌+◌, ◌-◌, ◌≤◌, ◌<◌}
use mathlib.Core.Path.{◌≡◌, refl, sym, ap, ◌∙◌}
use mathlib.Core.List.{List, [], ◌++◌, append_assoc, append-nil}
use mathlib.Core.Option.{Option, none, some}
use native.Mathlib.Decide.{ℕ_discrete}
use native.Mathlib.Numerals.{add-one}
use native.Mathlib.Omega.{arith}
use lib.ListN.{length, get_or, length-append}
use Rattle.meaning.specs.Bytes.{Bytes, bytes}
use Rattle.meaning.specs.Report.{verdict_bytes}
use Rattle.meaning.specs.Terms.{Term}
use Rattle.meaning.specs.State.{Room, value}
use Rattle.term.specs.Layout.{waiters_region}
use Rattle.term.specs.Setting.{Setting}
use Rattle.term.specs.declared.state.Standing.{Standing}
use Rattle.term.specs.declared.state.Verdict.{Verdict as Told}
use Rattle.term.specs.declared.state.Verdict.TheVariants.{Rest, Budget, Room as NoRoom}
use Rattle.report_pairs.specs.Laid.{capped, Puts, Has}
use Rattle.report_pairs.specs.Facts.{fact_place}
use Rattle.report_leaves.specs.Fits.{StoredAt, Stored, Fits}
use Rattle.report_tallies.specs.Header.{run_line_of}
use Rattle.report_sections.specs.Whole.{Numbers, Uncounted, SectionCounted}
use Rattle.report.specs.All.{Made, Stands, bytes_of, order_of, Sections, sections_bytes, report_bytes, FactsOnly, AllCounted}
use Rattle.report_pairs.proofs.Decimals.{decimal_few}
use Rattle.report_tallies.proofs.FirstLines.{run_line_size}
use Rattle.report.proofs.FactsKept.{facts_none, facts_then, changed_facts, facts_apart, bytes_same, sections_same, readable_still, section_still}
use Rattle.report_pairs.proofs.Laid.{puts_none, puts_behind, puts_as}
use Rattle.report_pairs.proofs.Having.{has_front, has_behind, has_as, puts_agree}
use Rattle.report_put.proofs.Putting.{puts_length}
use Rattle.report_leaves.proofs.Copying.{fits_front, fits_behind, fits_as}

-- The first line is far below the ceiling.
pub run_line_short : (v : Told) (steps : ℕ) → steps ≤ 1000000 → length (run_line_of v steps) ≤ 38
unfolding verdict_bytes bytes
run_line_short Rest steps h = omega (arith, run_line_size Rest steps, decimal_few steps (omega arith))
run_line_short Budget steps h = omega (arith, run_line_size Budget steps, decimal_few steps (omega arith))
run_line_short NoRoom steps h = omega (arith, run_line_size NoRoom steps, decimal_few steps (omega arith))

-- One section more; what is left is no longer than the whole.
pub sections_more : (s : List ℕ) (figures : Room) (t : Standing) (made : ℕ → Made) (q : ℕ)
    → sections_bytes s figures t made q ++ bytes_of s figures t q (made q) ≡ sections_bytes s figures t made (q + 1)
unfolding sections_bytes
sections_more s figures t made q = ap (sections_bytes s figures t made) (sym (add-one q))

sections_size : (s : List ℕ) (figures : Room) (t : Standing) (made : ℕ → Made) (q : ℕ)
    → length (sections_bytes s figures t made (q + 1)) ≡ length (sections_bytes s figures t made q) + length (bytes_of s figures t q (made q))
sections_size s figures t made q = ap length (sym (sections_more s figures t made q)) ∙ length-append (sections_bytes s figures t made q) _

-- The sections before one, that one, and those behind it.
sections_behind : (s : List ℕ) (figures : Room) (t : Standing) (made : ℕ → Made) (q d : ℕ)
    → (rest : Bytes) × (sections_bytes s figures t made (q + d) ≡ sections_bytes s figures t made q ++ rest)
sections_behind s figures t made q zero =
    let none : q + 0 ≡ q = omega arith in
    ([], ap (sections_bytes s figures t made) none ∙ sym (append-nil (sections_bytes s figures t made q)))
sections_behind s figures t made q (suc d) =
    let next : q + suc d ≡ q + d + 1 = omega arith in
    let (rest, e) = sections_behind s figures t made q d in
    let last = bytes_of s figures t (q + d) (made (q + d)) in (
      rest ++ last,
      ap (sections_bytes s figures t made) next
          ∙ sym (sections_more s figures t made (q + d))
          ∙ ap (λ (l : Bytes). l ++ last) e
          ∙ append_assoc (sections_bytes s figures t made q) rest last,
    )

sections_split : (s : List ℕ) (figures : Room) (t : Standing) (made : ℕ → Made) (q n : ℕ) → q < n
    → (rest : Bytes) × (sections_bytes s figures t made n ≡ sections_bytes s figures t made q ++ (bytes_of s figures t q (made q) ++ rest))
sections_split s figures t made q n h =
    let all : n ≡ q + 1 + (n - (q + 1)) = omega arith in
    let (rest, e) = sections_behind s figures t made (q + 1) (n - (q + 1)) in (
      rest,
      ap (sections_bytes s figures t made) all
          ∙ e
          ∙ ap (λ (l : Bytes). l ++ rest) (sym (sections_more s figures t made q))
          ∙ append_assoc (sections_bytes s figures t made q) (bytes_of s figures t q (made q)) rest,
    )

-- The report has each section at its place.
has_itself : (bs : Bytes) → Has bs 0 bs
has_itself bs k h = let same : 0 + k ≡ k = omega arith in ap (λ (n : ℕ). get_or bs n 0) same

report_has : (s : List ℕ) (figures : Room) (v : Told) (t : Standing) (made : ℕ → Made) (q n at : ℕ) → q < n → at ≡ length (run_line_of v t.steps)
    → Has (report_bytes s figures v t made n) (at + length (sections_bytes s figures t made q)) (bytes_of s figures t q (made q))
report_has s figures v t made q n at h e =
    let (rest, split) = sections_split s figures t made q n h in
    let whole = report_bytes s figures v t made n in
    let sections = has_behind (run_line_of v t.steps) (sections_bytes s figures t made n) whole 0 at (omega arith) (has_itself whole) in
    has_front (bytes_of s figures t q (made q)) rest whole (at + length (sections_bytes s figures t made q))
    (has_behind (sections_bytes s figures t made q) (bytes_of s figures t q (made q) ++ rest) whole at (at + length (sections_bytes s figures t made q)) refl
    (has_as whole at split sections))

-- The first q sections are counted behind so many bytes, and nothing is kept of the others yet.
pub record Sofar (s₀ s : List ℕ) (text : Bytes) (figures : Room) (t : Standing) (made : ℕ → Made) (n at q to : ℕ) : Type 0 where
  pub only : FactsOnly figures s₀ s
  pub sections : Sections s text figures t made n
  pub place : to ≡ capped (at + length (sections_bytes s₀ figures t made q))
  pub numbers : to < 16777217 → (k : ℕ) → k < q → Numbers s (made k).unit (waiters_region figures) (order_of (made k))
  pub stored : to < 16777217 → (k : ℕ) → k < q → (whole : Bytes) → Has whole (at + length (sections_bytes s₀ figures t made k)) (bytes_of s₀ figures t k (made k))
      → Stored s (made k).unit (waiters_region figures) (order_of (made k)) whole
  pub uncounted : (k : ℕ) → q ≤ k → k < n → Uncounted s (made k).unit (waiters_region figures)

pub sofar_none : (s : List ℕ) (text : Bytes) (figures : Room) (t : Standing) (made : ℕ → Made) (n at : ℕ) → at ≤ 16777217 → Sections s text figures t made n
    → ((k : ℕ) → k < n → Uncounted s (made k).unit (waiters_region figures)) → Sofar s s text figures t made n at 0 at
unfolding sections_bytes
sofar_none s text figures t made n at low sections free =
    record {
      only = facts_none figures s;
      sections = sections;
      place = omega arith;
      numbers = λ h k b. absurd (omega arith);
      stored = λ h k b. absurd (omega arith);
      uncounted = λ k l h. free k h;
    }

-- What is stored of a pair stays with its length and its place.
stored_kept : (s s' : List ℕ) (x : Setting) (facts : ℕ) (order : List ℕ) (whole : Bytes) (n : ℕ) (v : Option Term)
    → get_or s' (fact_place x facts n + 1) 0 ≡ get_or s (fact_place x facts n + 1) 0 → get_or s' (fact_place x facts n + 3) 0 ≡ get_or s (fact_place x facts n + 3) 0
    → StoredAt s x facts order whole n v → StoredAt s' x facts order whole n v
stored_kept s s' x facts order whole n none e f a = e ∙ a
stored_kept s s' x facts order whole n (some u) e f a = λ d. let k = a (λ z. d (e ∙ z)) in (e ∙ k.0, rw f k.1)

module _ (s₀ s s' : List ℕ) (text : Bytes) (figures : Room) (t : Standing) (made : ℕ → Made) (n at q to r : ℕ) (h : q < n)
    (p : Sofar s₀ s text figures t made n at q to)
    (c : SectionCounted s s' text (made q).unit figures t q (made q).variables (made q).actives (made q).waits (made q).fails to r) where
  abbrev facts : ℕ
  facts = waiters_region figures

  step_only : FactsOnly figures s s'
  step_only = changed_facts figures s s' text (made q).unit (p.sections.stands q h).readable (p.sections.pairs q h) c.changed

  -- The facts of another section.
  others : (k : ℕ) → k < n → (k ≡ q → ⊥) → (m i j : ℕ) → m < length (made k).unit.values → i < 4 → j ≡ fact_place (made k).unit facts m + i
      → get_or s' j 0 ≡ get_or s j 0
  others k b d =
      facts_apart s s' (made q).unit (made k).unit facts (omega arith) c.changed
      (λ a e l g z. d (sym (p.sections.apart q k a e h b l g z)))

  stands_on : (k : ℕ) → k < n → Dec (k ≡ q) → Stands s' text figures t k (made k)
  stands_on k b (yes e) = rw e
      (record {
        readable = c.readable;
        here = section_still figures s s' step_only text (made q).unit (p.sections.stands q h).readable t q _ _ _ _ (p.sections.pairs q h)
            (p.sections.stands q h).here;
      })
  stands_on k b (no d) =
      let old = p.sections.stands k b in
      record {
        readable = readable_still figures s s' step_only text (made k).unit old.readable (λ m l. others k b d m 0 _ l (omega arith) (omega arith));
        here = section_still figures s s' step_only text (made k).unit old.readable t k _ _ _ _ (p.sections.pairs k b) old.here;
      }

  numbers_on : r < 16777217 → (k : ℕ) → k < q + 1 → Dec (k ≡ q) → Numbers s' (made k).unit facts (order_of (made k))
  numbers_on low k b (yes e) = rw e (c.numbers low)
  numbers_on low k b (no d) = λ m l.
      others k (omega arith) d m 2 _ l (omega arith) refl ∙ p.numbers (omega (arith, c.place, p.place)) k (omega arith) m l

  stored_on : r < 16777217 → (k : ℕ) → k < q + 1 → Dec (k ≡ q) → (whole : Bytes)
      → Has whole (at + length (sections_bytes s₀ figures t made k)) (bytes_of s₀ figures t k (made k)) → Stored s' (made k).unit facts (order_of (made k)) whole
  stored_on low k b (yes e) whole has =
      let place : at + length (sections_bytes s₀ figures t made k) ≡ to = ap (λ (m : ℕ). at + length (sections_bytes s₀ figures t made m)) e ∙ omega (arith, c.place, p.place) in
      let same = bytes_same figures s₀ s p.only t q (made q) (omega (arith, p.sections.few)) in
      let there : Has whole to (bytes_of s₀ figures t q (made q)) = rw (place, e) at has in
      rw e (c.stored low whole (has_as whole to (sym same) there))
  stored_on low k b (no d) whole has = λ m l.
      stored_kept s s' (made k).unit facts (order_of (made k)) whole m (value (made k).unit.values m)
      (others k (omega arith) d m 1 _ l (omega arith) refl) (others k (omega arith) d m 3 _ l (omega arith) refl)
      (p.stored (omega (arith, c.place, p.place)) k (omega arith) whole has m l)

  free_on : (k : ℕ) → q + 1 ≤ k → k < n → Uncounted s' (made k).unit facts
  free_on k l b =
      let old = p.uncounted k (omega arith) b in
      let d : k ≡ q → ⊥ = λ e. omega arith in
      record {
        lengths = λ m g. others k b d m 1 _ g (omega arith) refl ∙ old.lengths m g;
        numbers = λ m g. others k b d m 2 _ g (omega arith) refl ∙ old.numbers m g;
      }

  pub sofar_more : Sofar s₀ s' text figures t made n at (q + 1) r
  sofar_more =
      record {
        only = facts_then figures s₀ s s' p.only step_only;
        sections = record {
          few = p.sections.few;
          stands = λ k b. stands_on k b (ℕ_discrete k q);
          apart = p.sections.apart;
          pairs = p.sections.pairs;
        };
        place =
            let same = ap length (bytes_same figures s₀ s p.only t q (made q) (omega (arith, p.sections.few))) in
            omega (arith, c.place, p.place, same, sections_size s₀ figures t made q);
        numbers = λ low k b. numbers_on low k b (ℕ_discrete k q);
        stored = λ low k b. stored_on low k b (ℕ_discrete k q);
        uncounted = free_on;
      }

-- All of them.
pub all_counted : (s₀ s : List ℕ) (text : Bytes) (figures : Room) (v : Told) (t : Standing) (made : ℕ → Made) (n at q to : ℕ) → at ≡ length (run_line_of v t.steps)
    → q ≡ n → Sofar s₀ s text figures t made n at q to → AllCounted s₀ s text figures v t made n to
all_counted s₀ s text figures v t made n at q to e f p =
    let all : Sofar s₀ s text figures t made n at n to = rw f at p in
    record {
      only = all.only;
      sections = all.sections;
      same = sections_same figures s₀ s all.only t made n all.sections.few;
      place = omega (arith, all.place, length-append (run_line_of v t.steps) (sections_bytes s₀ figures t made n));
      numbers = all.numbers;
      stored = λ low k b. all.stored low k b (report_bytes s₀ figures v t made n) (report_has s₀ figures v t made k n at b e);
    }

-- The sections are to be written behind the first line: they fit there, and the whole report has them and every value that is stored.
pub record Ahead (s : List ℕ) (figures : Room) (t : Standing) (made : ℕ → Made) (n at : ℕ) (buffer : List ℕ) : Type 0 where
  pub room : at + length (sections_bytes s figures t made n) ≤ length buffer
  pub whole : Bytes
  pub there : Has whole at (sections_bytes s figures t made n)
  pub agrees : (k : ℕ) → k < at → get_or buffer k 0 ≡ get_or whole k 0
  pub stored : (k : ℕ) → k < n → Stored s (made k).unit (waiters_region figures) (order_of (made k)) whole

pub ahead_first : (s : List ℕ) (figures : Room) (v : Told) (t : Standing) (made : ℕ → Made) (n to : ℕ) (b b' : List ℕ)
    → ((k : ℕ) → k < n → Stored s (made k).unit (waiters_region figures) (order_of (made k)) (report_bytes s figures v t made n))
    → length (report_bytes s figures v t made n) ≤ length b → Puts b b' 0 to (run_line_of v t.steps) → Ahead s figures t made n to b'
ahead_first s figures v t made n to b b' stored fits p =
    let line = run_line_of v t.steps in
    let sections = sections_bytes s figures t made n in
    let whole = report_bytes s figures v t made n in
    let sizes = length-append line sections in
    record {
      room = omega (arith, fits, sizes, p.place, puts_length p);
      whole = whole;
      there = has_behind line sections whole 0 to p.place (has_itself whole);
      agrees = puts_agree line b b' 0 to whole (omega (arith, fits, sizes)) p (has_front line sections whole 0 (has_itself whole)) (λ k h. absurd (omega arith));
      stored = stored;
    }

-- So each section may be written where those before it were put.
pub section_ahead : {s : List ℕ} {figures : Room} {t : Standing} {made : ℕ → Made} {n at to : ℕ} {b b' : List ℕ} → Ahead s figures t made n at b → (q : ℕ) → q < n
    → Puts b b' at to (sections_bytes s figures t made q)
    → Fits s (made q).unit (waiters_region figures) (order_of (made q)) to b' (bytes_of s figures t q (made q))
section_ahead {s} {figures} {t} {made} {n} {at} {to} {b} {b'} A q h p =
    let (rest, split) = sections_split s figures t made q n h in
    let all : Fits s (made q).unit (waiters_region figures) (order_of (made q)) at b (sections_bytes s figures t made n) =
    record { room = A.room; whole = A.whole; there = A.there; agrees = A.agrees; stored = A.stored q h } in
    fits_front (bytes_of s figures t q (made q)) rest
    (fits_behind (sections_bytes s figures t made q) (bytes_of s figures t q (made q) ++ rest) (fits_as split all) p)

-- Written: no section, one more, all of them behind the first line.
pub none_put : (b : List ℕ) (at : ℕ) (s : List ℕ) (figures : Room) (t : Standing) (made : ℕ → Made) → Puts b b at at (sections_bytes s figures t made 0)
unfolding sections_bytes
none_put b at s figures t made = puts_none b at

pub more_put : (b c d : List ℕ) (at to r : ℕ) (s : List ℕ) (figures : Room) (t : Standing) (made : ℕ → Made) (q : ℕ)
    → Puts b c at to (sections_bytes s figures t made q) → Puts c d to r (bytes_of s figures t q (made q))
    → Puts b d at r (sections_bytes s figures t made (q + 1))
more_put b c d at to r s figures t made q p g = puts_as _ _ b d at r (sections_more s figures t made q) (puts_behind _ _ b c d at to r p g)
