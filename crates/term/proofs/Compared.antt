-- Two spellings compared byte by byte: the library's equality of bytes is the definitions'.
use mathlib.Core.Path.{◌≡◌, refl, ap}
use mathlib.Core.Bool.{◌&&◌}
use mathlib.Core.List.{[], ◌∷◌}
use lib.Dec.{eqb}
use Rattle.std.specs.Prelude.{bytes_eq}
use Rattle.meaning.specs.Bytes.{Bytes, same}

pub bytes_eq_same : (f g : Bytes) → bytes_eq f g ≡ same f g
unfolding same
bytes_eq_same [] [] = refl
bytes_eq_same [] (c ∷ g) = refl
bytes_eq_same (b ∷ f) [] = refl
bytes_eq_same (b ∷ f) (c ∷ g) = ap (λ t. eqb b c && t) (bytes_eq_same f g)
