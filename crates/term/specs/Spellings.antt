-- Where the spellings of a text's names and of a query's variables are kept: of each the first byte and the length, two words a spelling.
use Rattle.std.specs.Prelude.{ℕ, ◌+◌, ◌≤◌, ◌≡◌, List, [], ◌∷◌, length, get_or}
use Rattle.std.proofs.Math.Seq.{slice}
use Rattle.meaning.specs.Bytes.{Bytes}
use Rattle.meaning.specs.Terms.{Query, Job}
use Rattle.term.specs.Jobs.{EachFrom}
use Rattle.term.specs.Layout.{query_variables_from}

-- So many bytes of the text from an offset on are this spelling.
pub record SpelledAt (text : Bytes) (at size : ℕ) (f : Bytes) : Type 0 where
  pub sized : size ≡ length f
  pub inside : at + size ≤ length text
  pub spelled : slice at (at + size) text ≡ f

unfoldable pub HoldsSpellings : List ℕ → Bytes → ℕ → List Bytes → Type 0
HoldsSpellings s text place [] = Unit {0}
HoldsSpellings s text place (f ∷ fs) = SpelledAt text (get_or s place 0) (get_or s (place + 1) 0) f × HoldsSpellings s text (place + 2) fs

-- The variables of the query k, in its record.
pub record HoldsVariables (s : List ℕ) (text : Bytes) (k : ℕ) (q : Query) : Type 0 where
  pub few : length q.variables ≤ 16
  pub held : HoldsSpellings s text (query_variables_from k) q.variables

-- The names of the text, and the variables of its queries.
pub record HoldsText (s : List ℕ) (text : Bytes) (names : List Bytes) (job : Job) : Type 0 where
  pub names_held : HoldsSpellings s text 0 names
  pub variables_held : EachFrom (HoldsVariables s text) 0 job.queries
