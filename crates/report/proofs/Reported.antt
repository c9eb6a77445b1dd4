-- What `report` asks of its parts when the run has finished, and what it tells by theirs.
use Prim.Native.Nat.{ℕ, ◌+◌, ◌*◌, ◌≤◌, ◌<◌, min}
use mathlib.Core.Path.{◌≡◌, refl, sym, ap, subst, ◌∙◌}
use mathlib.Core.Bool.{Bool, true, false, ◌&&◌}
use mathlib.Core.Logic.{◌≢◌}
use mathlib.Core.List.{List, ◌++◌}
use native.Mathlib.Omega.{arith}
use lib.Dec.{leb}
use lib.ListN.{length, get_or, set, drop, length-set}
use lib.Seq.{get_or-set_other}
use borrow.Author.Tests.{le-leb, lt-leb}
use Rattle.meaning.specs.Bytes.{Bytes, when◌then◌else◌}
use Rattle.meaning.specs.Terms.{Job}
use Rattle.meaning.specs.State.{Room}
use Rattle.meaning.specs.Run.{run}
use Rattle.meaning.specs.Report.{report}
use Rattle.laws.proofs.Runs.{steps_within_budget}
use Rattle.term.specs.Layout.{trial_region, waiters_region, pairs_told, pair_facts}
use Rattle.term.specs.States.{Finished}
use Rattle.term.specs.declared.state.Standing.{Standing}
use Rattle.term.specs.declared.state.Verdict.{Verdict as Told}
use Rattle.report_pairs.specs.Laid.{capped, laid, Puts}
use Rattle.report_pairs.specs.Facts.{Cleared}
use Rattle.report_leaves.specs.Fits.{Stored}
use Rattle.report_sections.specs.Whole.{Uncounted, Numbers}
use Rattle.report.specs.All.{Made, Sections, AllCounted, report_bytes, order_of, made_of}
use Rattle.report_tallies.specs.Header.{run_line_of}
use Rattle.report.specs.Promise.{with_report, ReportIs}
use Rattle.report_pairs.proofs.Laid.{laid_whole}
use Rattle.report.proofs.Sectioning.{finished_sections}
use Rattle.report.proofs.ReportIs.{report_is}

-- A report that does not fit the buffer or the ceiling is not written; one that fits stands at the front.
and_false : (b : Bool) → (b && false) ≡ false
and_false true = refl
and_false false = refl

with_none : (bs buffer : Bytes) → length buffer < length bs → buffer ≡ with_report bs buffer
unfolding with_report when◌then◌else◌
with_none bs buffer h = rw (lt-leb (length bs) (length buffer) h)

with_too_long : (bs buffer : Bytes) → 16777216 < length bs → buffer ≡ with_report bs buffer
unfolding with_report when◌then◌else◌
with_too_long bs buffer h = rw (lt-leb (length bs) 16777216 h, and_false (leb (length bs) (length buffer)))

with_all : (bs buffer : Bytes) → length bs ≤ length buffer → length bs ≤ 16777216 → bs ++ drop (length bs) buffer ≡ with_report bs buffer
unfolding with_report when◌then◌else◌
with_all bs buffer h l = rw (le-leb (length bs) (length buffer) h, le-leb (length bs) 16777216 l)

-- Before the counting: nothing is kept of the pairs from `facts` on, and the trial's second word is the room's pairs.
module _ (s s₁ s₂ : List ℕ) (text : Bytes) (names : List Bytes) (figures : Room) (j : Job) (limit : ℕ) (v : Told) (t : Standing) (facts n : ℕ)
    (F : Finished s text names figures j limit v t) (all : n ≡ length j.queries) (short : length text ≤ 16384) (here : facts ≡ waiters_region figures)
    (forgot : Cleared s s₁ facts t.pairs) (noted : s₂ ≡ set s₁ pairs_told figures.pairs) where
  abbrev making : ℕ → Made
  making = made_of figures F.atlas j.queries (run j limit figures).state

  cleared : Cleared s s₁ (waiters_region figures) t.pairs
  cleared = rw here at forgot

  few_steps : t.steps ≤ 1000000
  few_steps = omega (arith, F.state.steps, F.limit_fits, steps_within_budget j limit figures)

  begun : Sections s₂ text figures t making n
  begun = rw (noted, all) (finished_sections s s₁ text names figures j limit v t F short cleared).0

  uncounted : (k : ℕ) → k < n → Uncounted s₂ (making k).unit (waiters_region figures)
  uncounted = rw (noted, all) (finished_sections s s₁ text names figures j limit v t F short cleared).1

  bytes_are : report_bytes s₂ figures v t making n ≡ report j.queries (run j limit figures)
  bytes_are = rw (noted, all) (report_is s s₁ text names figures j limit v t F short cleared)

  pub asked : (text : Bytes) × (made : ℕ → Made) × Sections s₂ text figures t made n × (t.steps ≤ 1000000)
      × ((k : ℕ) → k < n → Uncounted s₂ (made k).unit (waiters_region figures))
  asked = (text, making, begun, few_steps, uncounted)

  -- After it.
  module _ (s₃ : List ℕ) (r : ℕ)
      (told : (text : Bytes) (made : ℕ → Made) → Sections s₂ text figures t made n → t.steps ≤ 1000000
      → ((k : ℕ) → k < n → Uncounted s₂ (made k).unit (waiters_region figures)) → AllCounted s₂ s₃ text figures v t made n r) where
    counted : AllCounted s₂ s₃ text figures v t making n r
    counted = told text making begun few_steps uncounted

    size : length s₃ ≡ length s
    size = counted.only.size ∙ ap length noted ∙ length-set s₁ pairs_told figures.pairs ∙ cleared.only.size

    -- Counting, the number of the pairs and clearing leave a word as it was.
    stays : (k : ℕ) → k ≢ pairs_told → get_or s₃ k 0 ≡ get_or s₂ k 0 → get_or s₁ k 0 ≡ get_or s k 0 → get_or s₃ k 0 ≡ get_or s k 0
    stays k other e f =
        e ∙ ap (λ (l : List ℕ). get_or l k 0) noted ∙ get_or-set_other s₁ pairs_told k figures.pairs 0 other ∙ f

    front : (k : ℕ) → k < trial_region → get_or s₃ k 0 ≡ get_or s k 0
    front k h = stays k (λ e. omega arith) (counted.only.counter k h) (cleared.only.below k (omega arith))

    before : (k : ℕ) → pairs_told < k → k < waiters_region figures → get_or s₃ k 0 ≡ get_or s k 0
    before k l h = stays k (λ e. omega arith) (counted.only.before k (omega arith) h) (cleared.only.below k h)

    behind : (k : ℕ) → waiters_region figures + pair_facts * figures.pairs ≤ k → get_or s₃ k 0 ≡ get_or s k 0
    behind k h =
        stays k (λ e. omega arith) (counted.only.behind k h) (cleared.only.above k (omega (arith, F.state.pairs, F.state.lies.pairs_fit)))

    counted_is : r ≡ min (length (report j.queries (run j limit figures))) 16777217
    counted_is = counted.place ∙ ap (λ (l : Bytes). capped (length l)) bytes_are

    same_bytes : report_bytes s₃ figures v t making n ≡ report j.queries (run j limit figures)
    same_bytes = ap (◌++◌ (run_line_of v t.steps)) counted.same ∙ bytes_are

    pub too_long : (buffer : Bytes) → r ≡ 16777217 → ReportIs s s₃ buffer buffer figures j limit r
    too_long buffer e =
        record {
          size = size;
          front = front;
          before = before;
          behind = behind;
          length_is = counted_is;
          buffer_is = with_too_long (report j.queries (run j limit figures)) buffer (omega (arith, counted_is));
        }

    pub no_place : (buffer : Bytes) → length buffer < r → ReportIs s s₃ buffer buffer figures j limit r
    no_place buffer h =
        record {
          size = size;
          front = front;
          before = before;
          behind = behind;
          length_is = counted_is;
          buffer_is = with_none (report j.queries (run j limit figures)) buffer (omega (arith, counted_is));
        }

    -- Where it fits.
    module _ (buffer : Bytes) (low : r ≢ 16777217) (fits : r ≤ length buffer) where
      exact : length (report j.queries (run j limit figures)) ≡ r
      exact = go (length (report j.queries (run j limit figures))) counted_is
        where
          go : (l : ℕ) → r ≡ min l 16777217 → l ≡ r
          go l e = omega (arith, e)

      below : r < 16777217
      below = go (length (report j.queries (run j limit figures))) counted_is
        where
          go : (l : ℕ) → r ≡ min l 16777217 → r < 16777217
          go l e = omega (arith, e)

      fits_whole : length (report_bytes s₃ figures v t making n) ≤ length buffer
      fits_whole = rw same_bytes (omega (arith, exact))

      numbered : (k : ℕ) → k < n → Numbers s₃ (making k).unit (waiters_region figures) (order_of (making k))
      numbered = counted.numbers below

      places : (k : ℕ) → k < n → Stored s₃ (making k).unit (waiters_region figures) (order_of (making k)) (report_bytes s₃ figures v t making n)
      places k b =
          subst (Stored s₃ (making k).unit (waiters_region figures) (order_of (making k))) (ap (◌++◌ (run_line_of v t.steps)) (sym counted.same))
          (counted.stored below k b)

      pub asked_to_write : (made : ℕ → Made) × Sections s₃ text figures t made n × (t.steps ≤ 1000000)
          × ((k : ℕ) → k < n → Numbers s₃ (made k).unit (waiters_region figures) (order_of (made k)))
          × ((k : ℕ) → k < n → Stored s₃ (made k).unit (waiters_region figures) (order_of (made k)) (report_bytes s₃ figures v t made n))
          × (length (report_bytes s₃ figures v t made n) ≤ length buffer)
      asked_to_write = (making, counted.sections, few_steps, numbered, places, fits_whole)

      pub written_whole : (buffer' : Bytes) (r' : ℕ)
          → ((made : ℕ → Made) → Sections s₃ text figures t made n → t.steps ≤ 1000000
          → ((k : ℕ) → k < n → Numbers s₃ (made k).unit (waiters_region figures) (order_of (made k)))
          → ((k : ℕ) → k < n → Stored s₃ (made k).unit (waiters_region figures) (order_of (made k)) (report_bytes s₃ figures v t made n))
          → length (report_bytes s₃ figures v t made n) ≤ length buffer → Puts buffer buffer' 0 r' (report_bytes s₃ figures v t made n))
          → ReportIs s s₃ buffer buffer' figures j limit r'
      written_whole buffer' r' writes =
          record {
            size = size;
            front = front;
            before = before;
            behind = behind;
            length_is = is_length;
            buffer_is =
                puts.laid_there
                ∙ ap (laid buffer 0) same_bytes
                ∙ laid_whole bs buffer (omega (arith, exact))
                ∙ with_all bs buffer (omega (arith, exact)) (omega (arith, exact, below));
          }
        where
          puts : Puts buffer buffer' 0 r' (report_bytes s₃ figures v t making n)
          puts = writes making counted.sections few_steps numbered places fits_whole

          bs : Bytes
          bs = report j.queries (run j limit figures)

          place : r' ≡ length (report j.queries (run j limit figures))
          place = let front : r' ≡ length (report_bytes s₃ figures v t making n) = omega (arith, puts.place) in front ∙ ap length same_bytes

          is_length : r' ≡ min (length (report j.queries (run j limit figures))) 16777217
          is_length = place ∙ exact ∙ counted_is
