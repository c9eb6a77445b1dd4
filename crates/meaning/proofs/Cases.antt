-- The cases of document 01, and of T-01, T-02, T-03 and T-09 of document 02, as one computed statement over one list of them. `tests/cases` names those that fail, if any.
-- What no case shows stands in Alone.
use Prim.Native.String.{String}
use mathlib.Core.Path.{◌≡◌, refl}
use mathlib.Core.List.{List, [], ◌∷◌, ◌++◌}
use Rattle.meaning.specs.Case.{Case, failing}
pub mod Words
pub mod Session
pub mod Texts
pub mod Figures
pub mod Calls
pub mod Runs
pub mod Guards
pub mod Alone
use Session.{session, errors, session_words}
use Texts.{tokens_cases, items_cases, rule_cases, several_cases, offset_cases, texts_words}
use Figures.{figures_cases, many_cases, figures_words}
use Calls.{calls_cases, longest_cases, calls_words}
use Runs.{machine_cases, places_cases, report_cases, origins_cases, runs_words}
use Guards.{clauses_cases, guards_cases, guards_words}

-- The long texts last: a wrong definition is then refused by a short case, where one shows it.
unfoldable pub cases : List Case
cases =
    session ++ errors ++ machine_cases ++ places_cases ++ report_cases ++ origins_cases ++ tokens_cases ++ items_cases ++ rule_cases ++ several_cases ++ offset_cases ++ calls_cases ++ figures_cases ++ guards_cases ++ clauses_cases ++ many_cases ++ longest_cases

-- No case fails.
pub all_hold : failing cases ≡ []
unfolding session_words texts_words figures_words calls_words runs_words guards_words cases
all_hold = refl
