-- Counting piece after piece: bytes alone, and a piece behind another; at the ceiling what comes behind does not matter.
use Prim.Native.Nat.{ℕ, ◌+◌, ◌*◌, ◌≤◌, ◌<◌}
use mathlib.Core.Path.{◌≡◌, refl, sym, ap, ◌∙◌}
use mathlib.Core.Logic.{◌≢◌}
use mathlib.Core.List.{List, [], ◌++◌}
use native.Mathlib.Decide.{dec_lt}
use native.Mathlib.Omega.{arith}
use lib.ListN.{length, length-append, get_or}
use Rattle.meaning.specs.Bytes.{Bytes}
use Rattle.term.specs.Setting.{Setting}
use Rattle.term.specs.Layout.{trial_region, pair_facts}
use Rattle.report_pairs.specs.Laid.{capped, Has}
use Rattle.report_pairs.specs.Facts.{Readable, Placed, Changed}
use Rattle.report_pairs.proofs.Having.{has_front, has_behind, has_as}
use Rattle.report_pairs.proofs.Keeping.{changed_none, changed_then}
use Rattle.report_count.specs.Counts.{Counts, Counted}

-- A word below the facts, but the numbers given, and one behind them is as it was.
pub changed_below : (s s' : List ℕ) (text : Bytes) (x : Setting) (facts : ℕ) → Changed s s' x facts → (k : ℕ) → k < facts → k ≢ trial_region
    → get_or s' k 0 ≡ get_or s k 0
changed_below s s' text x facts c k h d = c.others k d (λ n l. ((λ e. omega arith), (λ e. omega arith), (λ e. omega arith), (λ e. omega arith)))

pub changed_behind : (s s' : List ℕ) (text : Bytes) (x : Setting) (facts : ℕ) → Readable s text x facts → Changed s s' x facts → (k : ℕ) → facts + pair_facts * x.pairs ≤ k
    → get_or s' k 0 ≡ get_or s k 0
changed_behind s s' text x facts r c k h =
    c.others k (λ e. omega (arith, r.behind))
    (λ n l. let inside = r.stands.held.place n l in ((λ e. omega arith), (λ e. omega arith), (λ e. omega arith), (λ e. omega arith)))

-- The same, and bytes alone.
pub counted_none : (s : List ℕ) (text : Bytes) (x : Setting) (facts : ℕ) (seen : List ℕ) (at : ℕ) → Counts s text x facts seen at
    → Counted s s text x facts at seen [] seen at
counted_none s text x facts seen at c =
    record {
      changed = changed_none s x facts;
      readable = c.readable;
      after = seen;
      counting = c.counting;
      few = c.few;
      place = omega (arith, c.low);
      exact = λ h. refl;
      placed = λ h whole has p. p;
    }

unfoldable pub counted_bytes : (s : List ℕ) (text : Bytes) (x : Setting) (facts : ℕ) (seen : List ℕ) (at : ℕ) (bs : Bytes) (r : ℕ) → Counts s text x facts seen at
    → r ≡ capped (at + length bs) → Counted s s text x facts at seen bs seen r
counted_bytes s text x facts seen at bs r c e =
    record {
      changed = changed_none s x facts;
      readable = c.readable;
      after = seen;
      counting = c.counting;
      few = omega (arith, c.few, c.low);
      place = e;
      exact = λ h. refl;
      placed = λ h whole has p. p;
    }

-- What was counted can be gone on with.
pub counts_on : (s s' : List ℕ) (text : Bytes) (x : Setting) (facts at : ℕ) (from : List ℕ) (bs : Bytes) (seen : List ℕ) (r : ℕ)
    → (c : Counted s s' text x facts at from bs seen r)
    → Counts s' text x facts c.after r
counts_on s s' text x facts at from bs seen r c = record { readable = c.readable; counting = c.counting; low = omega (arith, c.place); few = c.few }

-- A piece behind another.
module _ (s s₁ s₂ : List ℕ) (text : Bytes) (x : Setting) (facts at : ℕ) (from : List ℕ) (bs₁ : Bytes) (seen₁ : List ℕ) (r₁ r₂ : ℕ)
    (bs : List ℕ → Bytes) (seen : List ℕ → List ℕ) (c : Counted s s₁ text x facts at from bs₁ seen₁ r₁)
    (d : Counted s₁ s₂ text x facts r₁ c.after (bs c.after) (seen c.after) r₂) where
  pub then_place : Dec (r₁ < 16777217) → r₂ ≡ capped (at + length (bs₁ ++ bs seen₁))
  then_place (yes b) =
      let same : length (bs c.after) ≡ length (bs seen₁) = ap (λ (l : List ℕ). length (bs l)) (c.exact b) in
      omega (arith, c.place, d.place, length-append bs₁ (bs seen₁))
  then_place (no b) = omega (arith, c.place, d.place, length-append bs₁ (bs seen₁))

  pub then_placed : r₂ < 16777217 → (whole : Bytes) → Has whole at (bs₁ ++ bs seen₁) → Placed s x facts from whole → Placed s₂ x facts d.after whole
  then_placed h whole has p =
      let low : r₁ < 16777217 = omega (arith, c.place, d.place) in
      let second : Has whole r₁ (bs seen₁) = has_behind bs₁ (bs seen₁) whole at r₁ (omega (arith, c.place)) has in
      d.placed h whole (has_as whole r₁ (ap bs (sym (c.exact low))) second) (c.placed low whole (has_front bs₁ (bs seen₁) whole at has) p)

  unfoldable pub counted_then : Counted s s₂ text x facts at from (bs₁ ++ bs seen₁) (seen seen₁) r₂
  counted_then =
      record {
        changed = changed_then s s₁ s₂ x facts c.changed d.changed;
        readable = d.readable;
        after = d.after;
        counting = d.counting;
        few = d.few;
        place = then_place (dec_lt r₁ 16777217);
        exact = λ h. d.exact h ∙ ap seen (c.exact (omega (arith, c.place, d.place)));
        placed = then_placed;
      }

-- The same by other bytes and other pairs.
pub counted_as : (s s' : List ℕ) (text : Bytes) (x : Setting) (facts at : ℕ) (from : List ℕ) (xs ys : Bytes) (a b : List ℕ) (r : ℕ) → xs ≡ ys → a ≡ b
    → Counted s s' text x facts at from xs a r → Counted s s' text x facts at from ys b r
counted_as s s' text x facts at from xs ys a b r e f c =
    record {
      changed = c.changed;
      readable = c.readable;
      after = c.after;
      counting = c.counting;
      few = c.few;
      place = c.place ∙ ap (λ (l : Bytes). capped (at + length l)) e;
      exact = λ h. c.exact h ∙ f;
      placed = λ h whole has p. c.placed h whole (has_as whole at (sym e) has) p;
    }

-- So many bytes further on.
pub counts_further : (s : List ℕ) (text : Bytes) (x : Setting) (facts : ℕ) (seen : List ℕ) (at n r : ℕ) → Counts s text x facts seen at → r ≡ capped (at + n)
    → Counts s text x facts seen r
counts_further s text x facts seen at n r c e =
    record { readable = c.readable; counting = c.counting; low = omega arith; few = omega (arith, c.few, c.low) }

-- Bytes before a piece, and behind it.
pub counted_line : (s s' : List ℕ) (text : Bytes) (x : Setting) (facts : ℕ) (from seen : List ℕ) (at start : ℕ) (before bs behind : Bytes) (to r : ℕ) → at ≤ 16777217
    → start ≡ capped (at + length before) → Counted s s' text x facts start from bs seen to → r ≡ capped (to + length behind)
    → Counted s s' text x facts at from (before ++ (bs ++ behind)) seen r
counted_line s s' text x facts from seen at start before bs behind to r low e c f =
    record {
      changed = c.changed;
      readable = c.readable;
      after = c.after;
      counting = c.counting;
      few = omega (arith, c.few, c.place);
      place = omega (arith, c.place, length-append before (bs ++ behind), length-append bs behind);
      exact = λ h. c.exact (omega (arith, c.place));
      placed = λ h whole has p. c.placed (omega (arith, c.place)) whole
          (has_front bs behind whole start (has_behind before (bs ++ behind) whole at start (omega (arith, c.place)) has)) p;
    }
