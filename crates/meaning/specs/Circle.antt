-- Document 01, 'One step': leaning, and the circle test.
use Rattle.std.specs.Prelude.{ℕ, zero, suc, Bool, true, false, List, [], ◌∷◌, ◌++◌, length}
use Rattle.std.proofs.Math.Option.{Option, none, some}
use Rattle.meaning.specs.Bytes.{among, any, each_once, up_to}
use Rattle.meaning.specs.Terms.{Term, pairs_of}
use Rattle.meaning.specs.State.{Values, value, state_words}

-- "Pair i leans on pair j if i's value holds j's writer or reader": the pairs that the value of a pair holds, before some others.
unfoldable pub held : Option Term → List ℕ → List ℕ
held none behind = behind
held (some t) behind = pairs_of t behind

unfoldable pub leans_on : Values → List ℕ → List ℕ
leans_on values [] = []
leans_on values (i ∷ is) = held (value values i) (leans_on values is)

-- "The test follows every pair it can reach": the pairs reached, and then those on which the last of them lean, through so many links more.
unfoldable pub reach : ℕ → Values → List ℕ → List ℕ → List ℕ
reach zero values reached last = reached
reach (suc links) values reached [] = reached
reach (suc links) values reached (i ∷ is) =
    let new = each_once reached (leans_on values (i ∷ is)) in
    reach links values (new ++ reached) new

-- "A pair would lean on itself through one or more links."
unfoldable pub circle_at : Values → ℕ → Bool
circle_at values i = among i (reach (length values) values [] (i ∷ []))

unfoldable pub circle : Values → Bool
circle values = any (circle_at values) (up_to (length values))

unfoldable pub circle_words : Unit {0}
unfolding state_words held leans_on reach circle_at circle
circle_words = tt
