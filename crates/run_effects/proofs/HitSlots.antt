-- An emptied place of the log is hit by nothing.
use Prim.Native.Nat.{ℕ}
use mathlib.Core.Path.{◌≡◌, refl}
use mathlib.Core.Bool.{false}
use mathlib.Core.List.{List, [], ◌∷◌}
use Rattle.meaning.specs.Bytes.{among, any}
use Rattle.run_queues.specs.Log.{gone}
use Rattle.run_effects.specs.Reducing.{hit}

pub hit_gone : (zs : List ℕ) → hit zs gone ≡ false
unfolding hit any among
hit_gone [] = refl
hit_gone (z ∷ zs) = hit_gone zs
