-- A table's first places in the scratch, as they are stored one after the other.
use Rattle.std.specs.Prelude.{ℕ, zero, suc, ◌+◌, ◌*◌, List, get_or, set}

unfoldable pub pairs_kept : List ℕ → ℕ → ℕ → ℕ → List ℕ → List ℕ
pairs_kept table from place zero s = s
pairs_kept table from place (suc n) s =
    set
    (set (pairs_kept table from place n s) (place + 2 * n) (from + get_or table (2 * n) 0))
    (place + 2 * n + 1)
    (get_or table (2 * n + 1) 0)
