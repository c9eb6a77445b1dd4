-- The readers that the clauses tried in a step wait on, as a set: the places of their pairs in a list, each once; behind it, a word for each pair, the
-- ranks: where a pair stands in the list, if it does. Nothing is asked of the ranks of other pairs, so they need not be cleared.
use Rattle.std.specs.Prelude.{ℕ, zero, suc, ◌+◌, ◌*◌, ◌≤◌, ◌<◌, ◌≡◌, Bool, true, false, List, [], ◌∷◌, ◌++◌, eqb, length, get_or}
use Rattle.meaning.specs.Bytes.{among, when◌then◌else◌}
use Rattle.term.specs.Frames.{Only}
use Rattle.term.specs.Layout.{gift_pair, gift_term}
use Rattle.term.specs.States.{listed}

-- The pairs whose readers a trial waits on, among the first n that it noted: those beside which no term stands.
unfoldable pub asked_in : List ℕ → ℕ → List ℕ
asked_in s zero = []
asked_in s (suc n) = asked_in s n ++ (when eqb (get_or s (gift_term n) 0) 0 then get_or s (gift_pair n) 0 ∷ [] else [])

unfoldable pub is_some : List ℕ → Bool
is_some [] = false
is_some (p ∷ ps) = true

-- A pair joins the end of a list, unless it is in it; several do, one after the other.
unfoldable pub met_with : List ℕ → ℕ → List ℕ
met_with ps p = when among p ps then ps else ps ++ (p ∷ [])

unfoldable pub all_met : List ℕ → List ℕ → List ℕ
all_met ps [] = ps
all_met ps (r ∷ rs) = all_met (met_with ps r) rs

-- The list has n pairs, each of the room's and with its rank.
pub record Readers (s : List ℕ) (readers pairs n : ℕ) : Type 0 where
  pub inside : readers + 2 * pairs ≤ length s
  pub few : n ≤ pairs
  pub small : (i : ℕ) → i < n → get_or s (readers + i) 0 < pairs
  pub ranked : (i : ℕ) → i < n → get_or s (readers + pairs + get_or s (readers + i) 0) 0 ≡ i

-- Pairs have joined it: it has r now.
pub record Met (s s' : List ℕ) (readers pairs n : ℕ) (ps : List ℕ) (r : ℕ) : Type 0 where
  pub ok : Readers s' readers pairs r
  pub list : listed s' readers r ≡ all_met (listed s readers n) ps
  pub only : Only readers (readers + 2 * pairs) s s'
