-- The parts of the call's answer: each case of the code is the definition's.
use Prim.Native.Nat.{ℕ, min, ◌+◌, ◌≤◌, ◌<◌}
use mathlib.Core.Path.{◌≡◌, refl, ap, sym, ◌∙◌}
use mathlib.Core.Bool.{Bool, true, false, ◌&&◌}
use mathlib.Core.List.{List, ◌++◌}
use native.Mathlib.Omega.{arith}
use lib.Dec.{leb}
use lib.ListN.{length, get_or, drop, replicate, length-drop}
use lib.Seq.{get_or-drop, ext_get_or}
use borrow.Author.Tests.{le-leb, lt-leb, lt-ltb, le-ltb, leb-true}
use Rattle.meaning.specs.Bytes.{Bytes, when◌then◌else◌}
use Rattle.meaning.specs.Terms.{Job}
use Rattle.meaning.specs.Items.{Refusal, job, refused, reading}
use Rattle.meaning.specs.State.{Room}
use Rattle.meaning.specs.Run.{run, queries_fit}
use Rattle.meaning.specs.Report.{report}
use Rattle.meaning.specs.Call.{Answer, ran, out_of_range, scratch_short, text_long, queries_pass_room, report_long, Outcome, in_range, refusal, untouched, cleared, refuses, reports, delivered, runs, taken, call}
use Rattle.term.specs.Layout.{need_of}
use Rattle.job.specs.Calling.{room_of, given, told}

abbrev pub made : Answer → Bytes → List ℕ → Outcome
made answer buffer scratch = record { answer = answer; buffer = buffer; scratch = scratch }

-- 1: each figure in its range.
both : (a b : Bool) → (a && b) ≡ true → (a ≡ true) × (b ≡ true)
both true b h = (refl, h)
both false b h = let z : ◌≡◌ {A = ℕ} 0 1 = cc in absurd (omega arith)

pub record Within (b p c g : ℕ) : Type 0 where
  pub budget : b ≤ 1000000
  pub pairs : p ≤ 65535
  pub compounds : c ≤ 65535
  pub goals : g ≤ 65535

pub in_range_within : (b p c g : ℕ) → in_range b (room_of p c g) ≡ true → Within b p c g
unfolding in_range
in_range_within b p c g h =
    let x = leb b 1000000 in
    let y = leb 1 p && leb p 65535 in
    let z = leb 1 c && leb c 65535 in
    let w = leb 1 g && leb g 65535 in
    let first = both ((x && y) && z) w h in
    let second = both (x && y) z first.0 in
    let third = both x y second.0 in
    record {
      budget = leb-true b 1000000 third.0;
      pairs = leb-true p 65535 (both (leb 1 p) (leb p 65535) third.1).1;
      compounds = leb-true c 65535 (both (leb 1 c) (leb c 65535) second.1).1;
      goals = leb-true g 65535 (both (leb 1 g) (leb g 65535) first.1).1;
    }

-- 0 and 8.
and_false : (x : Bool) → (x && false) ≡ false
and_false true = refl
and_false false = refl

module _ (n size long : ℕ) (e : n ≡ min long 16777217) where
  pub too_long_for_buffer : size < n → report_long n ≡ told long size
  unfolding told when◌then◌else◌
  too_long_for_buffer h = rw (lt-leb long size (omega arith)) (ap report_long e)

  pub too_long : 16777216 < n → report_long n ≡ told long size
  unfolding told when◌then◌else◌
  too_long h = rw (lt-leb long 16777216 (omega arith), and_false (leb long size)) (ap report_long e)

  pub fits : n ≤ size → n ≤ 16777216 → ran n ≡ told long size
  unfolding told when◌then◌else◌
  fits h i =
      let same : n ≡ long = omega arith in
      rw (le-leb long size (omega arith), le-leb long 16777216 (omega arith)) (ap ran same)

-- Clearing a scratch that differs in the needed part alone.
pub cleared_same : (need : ℕ) (s t : List ℕ) → length t ≡ length s → ((k : ℕ) → need ≤ k → get_or t k 0 ≡ get_or s k 0) → cleared need t ≡ cleared need s
unfolding cleared
cleared_same need s t size h =
    let same : length (drop need t) ≡ length (drop need s) = omega (arith, length-drop need t, length-drop need s) in
    ap (λ l. replicate need 0 ++ l)
    (ext_get_or 0 (drop need t) (drop need s) same (λ i l. get_or-drop need t i 0 ∙ h (need + i) (omega arith) ∙ sym (get_or-drop need s i 0)))

-- The needed part zero, by a clearing of what a callee left.
pub cleared_by : (need words : ℕ) (s t : List ℕ) {u : List ℕ} → words ≡ need → length t ≡ length s → ((k : ℕ) → need ≤ k → get_or t k 0 ≡ get_or s k 0)
    → u ≡ replicate words 0 ++ drop words t → u ≡ cleared need s
unfolding cleared
cleared_by need words s t e size h v = rw (v, e) (cleared_same need s t size h)

-- A report delivered.
join : (t : Bool) (x y : Answer) (u v : Bytes) (w : List ℕ)
    → made (when t then x else y) (when t then u else v) w ≡ (when t then made x u w else made y v w)
unfolding when◌then◌else◌
join true x y u v w = refl
join false x y u v w = refl

module _ (need : ℕ) (text : Bytes) (limit : ℕ) (figures : Room) where
  pub delivered_is : (written : Bytes) (s : List ℕ) (b : Bytes) {s' : List ℕ} {b' : Bytes} {a : Answer} → a ≡ told (length written) (length b)
      → b' ≡ (when leb (length written) (length b) && leb (length written) 16777216 then written ++ drop (length written) b else b)
      → s' ≡ cleared need s → made a b' s' ≡ delivered need written (given text limit figures s b)
  unfolding delivered reports refuses told
  delivered_is written s b ha hb hs =
      rw (ha, hb, hs)
      (join (leb (length written) (length b) && leb (length written) 16777216) (ran (length written)) (report_long (min (length written) 16777217))
      (written ++ drop (length written) b) b (cleared need s))

  pub delivered_scratch : (written : Bytes) (s t : List ℕ) (b : Bytes) → cleared need t ≡ cleared need s
      → delivered need written (given text limit figures t b) ≡ delivered need written (given text limit figures s b)
  unfolding delivered reports refuses
  delivered_scratch written s t b k = rw k

  pub runs_scratch : (j : Job) (s t : List ℕ) (b : Bytes) → cleared need t ≡ cleared need s
      → runs need j (given text limit figures t b) ≡ runs need j (given text limit figures s b)
  unfolding runs refuses
  runs_scratch j s t b k = rw (delivered_scratch (report j.queries (run j limit figures)) s t b k, k)

  pub ran_is : (j : Job) (s t : List ℕ) (b : Bytes) {o : Outcome} → queries_fit figures j.queries ≡ true → cleared need t ≡ cleared need s
      → o ≡ delivered need (report j.queries (run j limit figures)) (given text limit figures t b) → o ≡ runs need j (given text limit figures s b)
  unfolding runs when◌then◌else◌
  ran_is j s t b f k e = rw f (e ∙ delivered_scratch (report j.queries (run j limit figures)) s t b k)

  pub passed_is : (j : Job) (s : List ℕ) (b : Bytes) {u : List ℕ} → queries_fit figures j.queries ≡ false → u ≡ cleared need s
      → made queries_pass_room b u ≡ runs need j (given text limit figures s b)
  unfolding runs refuses when◌then◌else◌
  passed_is j s b f e = rw (f, e)

  pub taken_job : (j : Job) (s t : List ℕ) (b : Bytes) {o : Outcome} → reading text ≡ job j → cleared need t ≡ cleared need s
      → o ≡ runs need j (given text limit figures t b) → o ≡ taken need (reading text) (given text limit figures s b)
  unfolding taken
  taken_job j s t b h k e = rw h (e ∙ runs_scratch j s t b k)

  pub taken_refused : (r : Refusal) (s t : List ℕ) (b : Bytes) {a : Answer} → reading text ≡ refused r → a ≡ refusal text r → t ≡ cleared need s
      → made a b t ≡ taken need (reading text) (given text limit figures s b)
  unfolding taken refuses
  taken_refused r s t b h e k = rw (h, e, k)

-- 1, 2, 3, and then the text.
module _ (text : Bytes) (limit : ℕ) (figures : Room) (s : List ℕ) (b : Bytes) where
  pub call_1 : in_range limit figures ≡ false → made out_of_range b s ≡ call need_of (given text limit figures s b)
  unfolding call untouched when◌then◌else◌
  call_1 h = rw h

  pub call_2 : in_range limit figures ≡ true → length s < need_of figures → made scratch_short b s ≡ call need_of (given text limit figures s b)
  unfolding call untouched when◌then◌else◌
  call_2 h i = rw (h, lt-ltb (length s) (need_of figures) i)

  pub call_3 : in_range limit figures ≡ true → need_of figures ≤ length s → 16384 < length text
      → made text_long b s ≡ call need_of (given text limit figures s b)
  unfolding call untouched when◌then◌else◌
  call_3 h i j = rw (h, le-ltb (length s) (need_of figures) i, lt-ltb 16384 (length text) j)

  pub call_4 : {o : Outcome} → in_range limit figures ≡ true → need_of figures ≤ length s → length text ≤ 16384
      → o ≡ taken (need_of figures) (reading text) (given text limit figures s b) → o ≡ call need_of (given text limit figures s b)
  unfolding call when◌then◌else◌
  call_4 h i j e = rw (h, le-ltb (length s) (need_of figures) i, le-ltb 16384 (length text) j) e
