-- The least fault variable by variable: what a loop over an item's variables keeps.
-- The least of two lists is the smaller of their least ones, the first where neither is; so it goes with `++`.
use Prim.Native.Nat.{ℕ, ◌≤◌}
use mathlib.Core.Path.{◌≡◌, refl, sym, ap, ◌∙◌}
use mathlib.Core.Bool.{Bool, true, false}
use mathlib.Core.List.{List, [], ◌∷◌, ◌++◌, append_assoc}
use mathlib.Core.Option.{Option, none, some}
use native.Mathlib.Omega.{arith}
use lib.Dec.{leb}
use borrow.Author.Tests.{leb-true, leb-false, le-leb, lt-leb}
use Rattle.meaning.specs.Bytes.{Bytes, when◌then◌else◌}
use Rattle.meaning.specs.Tokens.{Tokens}
use Rattle.meaning.specs.Faults.{Fault, twice_of, alone_of, twice_in_clause, clause_faults, query_faults, smaller, least}

-- The smaller of two, where there are two; the first if they are equal.
unfoldable pub lesser : Option Fault → Option Fault → Option Fault
lesser none o = o
lesser (some f) o = some (smaller f o)

smaller_joins : (f : Fault) (o p : Option Fault) → smaller f (lesser o p) ≡ smaller (smaller f o) p
unfolding smaller lesser when◌then◌else◌
smaller_joins f none p = refl
smaller_joins f (some g) none = refl
smaller_joins f (some g) (some k) = go (leb f.offset g.offset) refl (leb g.offset k.offset) refl
  where
    go : (a : Bool) → leb f.offset g.offset ≡ a → (b : Bool) → leb g.offset k.offset ≡ b
        → smaller f (some (when leb g.offset k.offset then g else k)) ≡ smaller (when leb f.offset g.offset then f else g) (some k)
    go true p true q =
        rw (p, q, p, le-leb f.offset k.offset (omega (arith, leb-true f.offset g.offset p, leb-true g.offset k.offset q))) refl
    go true p false q = rw (p, q) refl
    go false p true q = rw (p, q, p) refl
    go false p false q =
        rw (p, q, lt-leb f.offset k.offset (omega (arith, leb-false f.offset g.offset p, leb-false g.offset k.offset q))) refl

pub least_append : (l m : List Fault) → least (l ++ m) ≡ lesser (least l) (least m)
unfolding least lesser
least_append [] m = refl
least_append (f ∷ l) m = ap some (ap (smaller f) (least_append l m) ∙ smaller_joins f (least l) (least m))

-- One variable more.
pub clause_faults_append : (free : Bytes → Bool) (piece : Tokens) (xs ys : List Bytes)
    → clause_faults free piece (xs ++ ys) ≡ clause_faults free piece xs ++ clause_faults free piece ys
unfolding clause_faults
clause_faults_append free piece [] ys = refl
clause_faults_append free piece (x ∷ xs) ys =
    ap (λ l. (twice_in_clause (free x) piece x ++ alone_of piece x) ++ l) (clause_faults_append free piece xs ys)
    ∙ sym (append_assoc (twice_in_clause (free x) piece x ++ alone_of piece x) (clause_faults free piece xs) (clause_faults free piece ys))

pub query_faults_append : (piece : Tokens) (xs ys : List Bytes) → query_faults piece (xs ++ ys) ≡ query_faults piece xs ++ query_faults piece ys
unfolding query_faults
query_faults_append piece [] ys = refl
query_faults_append piece (x ∷ xs) ys =
    ap (λ l. twice_of piece x ++ l) (query_faults_append piece xs ys) ∙ sym (append_assoc (twice_of piece x) (query_faults piece xs) (query_faults piece ys))
