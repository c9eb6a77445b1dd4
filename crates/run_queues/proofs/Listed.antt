-- A list of words: it is what its words are, and a word stored behind it is one more.
use Prim.Native.Nat.{ℕ, zero, suc, ◌+◌, ◌≤◌, ◌<◌}
use mathlib.Core.Path.{◌≡◌, refl}
use mathlib.Core.List.{List, [], ◌∷◌, ◌++◌}
use native.Mathlib.Omega.{arith}
use native.Mathlib.Numerals.{add-one}
use lib.ListN.{length, get_or, set}
use lib.Seq.{get_or-set_same, get_or-set_other}
use Rattle.term.proofs.Frames.{only_set}
use Rattle.run_queues.specs.Log.{Failed}
use Rattle.term.specs.States.{listed}

pub listed_kept : (s s' : List ℕ) (from n : ℕ) → ((x : ℕ) → from ≤ x → x < from + n → get_or s' x 0 ≡ get_or s x 0)
    → listed s' from n ≡ listed s from n
unfolding listed
listed_kept s s' from zero same = refl
listed_kept s s' from (suc n) same =
    rw (listed_kept s s' from n (λ x a b. same x a (omega arith)), same (from + n) (omega arith) (omega arith))

pub listed_stored : (s : List ℕ) (from n v : ℕ) → from + n < length s
    → listed (set s (from + n) v) from (n + 1) ≡ listed s from n ++ (v ∷ [])
unfolding listed
listed_stored s from n v h =
    rw (
      add-one n,
      listed_kept s (set s (from + n) v) from n (λ x a b. get_or-set_other s (from + n) x v 0 (λ e. omega arith)),
      get_or-set_same s (from + n) v 0 h,
    )

pub failed_more : (s : List ℕ) (failed n goal : ℕ) → failed + n < length s → Failed s (set s (failed + n) goal) failed n goal
failed_more s failed n goal h =
    record {
      words = refl;
      only = only_set (failed + n) (failed + n + 1) s (failed + n) goal (omega arith) (omega arith);
      items = listed_stored s failed n goal h;
    }
