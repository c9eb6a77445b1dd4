-- Answer and report buffer do not hang on the need: two calls that are given the same but for need and scratch, and are both past number 2 or both not, agree in them.
-- Need and scratch are read by number 2's test and where scratch is cleared, and nowhere else.
use Prim.Native.Nat.{ℕ, ◌≤◌}
use mathlib.Core.Path.{◌≡◌, refl, sym, ◌∙◌}
use mathlib.Core.Bool.{Bool, true, false, not, ◌&&◌}
use mathlib.Core.List.{List}
use lib.Dec.{leb, ltb}
use lib.ListN.{length, length-replicate}
use borrow.Author.Tests.{le-ltb}
use Rattle.meaning.specs.Bytes.{Bytes, when◌then◌else◌}
use Rattle.meaning.specs.Terms.{Job}
use Rattle.meaning.specs.Items.{Reading, job, refused, reading}
use Rattle.meaning.specs.State.{Room}
use Rattle.meaning.specs.Run.{run, queries_fit}
use Rattle.meaning.specs.Report.{report}
use Rattle.meaning.specs.Call.{Given, Answer, Outcome, in_range, untouched, refuses, reports, delivered, runs, taken, call}
use Rattle.meaning.specs.Case.{Case, need, lent_scratch, lent_buffer, outcome}

-- The same answer and the same report buffer, whatever the scratch.
pub record Agree (o o' : Outcome) : Type 0 where
  pub answers : o.answer ≡ o'.answer
  pub buffers : o.buffer ≡ o'.buffer

-- The same text, budget, room and buffer, with another scratch.
unfoldable pub lending : List ℕ → Given → Given
lending scratch given =
    record { text = given.text; budget = given.budget; room = given.room; scratch = scratch; buffer = given.buffer }

-- Two choices by one test agree where their branches do.
both_branches : (b : Bool) {x y x' y' : Outcome} → Agree x x' → Agree y y' → Agree (when b then x else y) (when b then x' else y')
unfolding when◌then◌else◌
both_branches true first second = first
both_branches false first second = second

untouched_agree : (given : Given) (scratch : List ℕ) (answer : Answer) → Agree (untouched answer given) (untouched answer (lending scratch given))
unfolding lending untouched
untouched_agree given scratch answer = record { answers = refl; buffers = refl }

module _ (need need' : ℕ) (given : Given) (scratch : List ℕ) where
  refuses_agree : (answer : Answer) → Agree (refuses need answer given) (refuses need' answer (lending scratch given))
  unfolding lending refuses
  refuses_agree answer = record { answers = refl; buffers = refl }

  delivered_agree : (written : Bytes) → Agree (delivered need written given) (delivered need' written (lending scratch given))
  unfolding lending delivered reports
  delivered_agree written =
      both_branches (leb (length written) (length given.buffer) && leb (length written) 16777216)
      (record { answers = refl; buffers = refl }) (refuses_agree _)

  taken_agree : (r : Reading) → Agree (taken need r given) (taken need' r (lending scratch given))
  unfolding lending taken runs
  taken_agree (job j) =
      both_branches (queries_fit given.room j.queries)
      (delivered_agree (report j.queries (run j given.budget given.room))) (refuses_agree _)
  taken_agree (refused r) = refuses_agree _

module _ (need need' : Room → ℕ) (given : Given) (scratch : List ℕ) where
  -- Both scratches have their need, or neither has.
  pub answer_does_not_hang_on_the_need : ltb (length given.scratch) (need given.room) ≡ ltb (length scratch) (need' given.room)
      → Agree (call need given) (call need' (lending scratch given))
  unfolding lending call
  answer_does_not_hang_on_the_need e =
      both_branches (not (in_range given.budget given.room)) (untouched_agree given scratch _)
      (rw e (both_branches (ltb (length scratch) (need' given.room)) (untouched_agree given scratch _)
      (both_branches (ltb 16384 (length given.text)) (untouched_agree given scratch _)
      (taken_agree (need given.room) (need' given.room) given scratch (reading given.text)))))

  -- Past number 2 with both.
  pub answer_with_any_need : need given.room ≤ length given.scratch → need' given.room ≤ length scratch
      → Agree (call need given) (call need' (lending scratch given))
  answer_with_any_need h h' =
      answer_does_not_hang_on_the_need
      (le-ltb (length given.scratch) (need given.room) h ∙ sym (le-ltb (length scratch) (need' given.room) h'))

-- So each case, though computed with a need of four words, says what the call with any need answers in any scratch that has it.
pub case_with_any_need : (c : Case) (need' : Room → ℕ) (scratch : List ℕ) → need ≤ c.scratch → need' c.room ≤ length scratch
    → Agree (outcome c)
    (call need' (record { text = c.text; budget = c.budget; room = c.room; scratch = scratch; buffer = lent_buffer c }))
unfolding lending outcome lent_scratch
case_with_any_need c need' scratch h h' =
    answer_with_any_need (λ room. need) need' _ scratch (rw (length-replicate {A = ℕ} c.scratch 7) h) h'
