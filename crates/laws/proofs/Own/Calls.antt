-- Where the bytes of a section stand in the report of a call that ran: behind the run line and the sections before it.
-- The report is the run line followed by all sections, one behind the other.
use Prim.Native.Nat.{ℕ, suc, ◌<◌}
use mathlib.Core.Path.{◌≡◌, refl, ap, ◌∙◌}
use mathlib.Core.List.{List, [], ◌∷◌, ◌++◌, append_assoc}
use lib.ListN.{length, get_or, take, drop}
use Rattle.meaning.specs.Bytes.{joined}
use Rattle.meaning.specs.Terms.{Query, Job}
use Rattle.meaning.specs.State.{State, Room}
use Rattle.meaning.specs.Run.{run}
use Rattle.meaning.specs.Report.{sections, run_line}
use Rattle.meaning.specs.Call.{Given, call}
use Rattle.laws.proofs.Lists.{joined_at}
use Rattle.laws.proofs.Call.{Ran, report_is_run_line_and_sections, ran_shows_the_report}
use Rattle.laws.proofs.Call.Delivered.{sections_for}

length_sections : (place : ℕ) (qs : List Query) (state : State) → length (sections place qs state) ≡ length qs
unfolding sections
length_sections place [] state = refl
length_sections place (q ∷ qs) state = ap suc (length_sections (suc place) qs state)

-- Where a section's bytes stand in the report: behind the run line and the sections before it.
pub section_in_the_report : (need : Room → ℕ) (given : Given) (n : ℕ) (j : Job) → Ran need given n j → (k : ℕ) → k < length j.queries
    → take n (call need given).buffer
    ≡ (run_line (run j given.budget given.room) ++ joined (take k (sections_for given j)))
    ++ get_or (sections_for given j) k []
    ++ joined (drop (suc k) (sections_for given j))
unfolding sections_for
section_in_the_report need given n j r k h =
    let shown = ran_shows_the_report need given n j r ∙ report_is_run_line_and_sections given j in
    shown
    ∙ ap (◌++◌ (run_line (run j given.budget given.room))) (joined_at k (sections_for given j) (rw length_sections h))
    ∙ simp append_assoc
