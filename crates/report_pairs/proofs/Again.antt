-- A term that was written in a section is written again: nothing new is seen, and its bytes are the same, whatever was written in between.
-- So its length, once counted, serves for the rest of the section.
use Prim.Native.Nat.{ℕ, suc, ◌+◌}
use mathlib.Core.Path.{◌≡◌, refl, sym, ap, ◌∙◌}
use mathlib.Core.Logic.{⊎_elim}
use mathlib.Core.Bool.{true}
use mathlib.Core.List.{List, [], ◌∷◌, ◌++◌, append-nil}
use native.Mathlib.Omega.{arith}
use lib.ListN.{length, length-append}
use Rattle.meaning.specs.Bytes.{among, each_once}
use Rattle.meaning.specs.Terms.{Term, pairs_of}
use Rattle.meaning.specs.Report.{Role, written}
use Rattle.laws.proofs.Lists.Among.{In, here, there, in_none, in_among, in_append_left, in_append_right, each_once_covers}
use Rattle.report_pairs.specs.Threaded.{seen_after, shown}
use Rattle.report_pairs.proofs.Settled.{settled}

-- Nothing is kept of what was all seen.
each_once_none : (ns seen : List ℕ) → ((n : ℕ) → In n ns → In n seen) → each_once seen ns ≡ []
unfolding each_once
each_once_none [] seen all = refl
each_once_none (n ∷ ns) seen all =
    let e : among n seen ≡ true = in_among (all n (here refl)) in
    rw (e, each_once) (each_once_none ns seen (λ m p. all m (there p)))

no_more : (l m : List ℕ) → l ++ m ≡ l → m ≡ []
no_more l [] e = refl
no_more l (a ∷ m) e = let z : length l + suc (length m) ≡ length l = sym (length-append l (a ∷ m)) ∙ ap length e in absurd (omega arith)

-- All pairs of the term were seen.
all_seen : (seen : List ℕ) (t : Term) → seen_after seen t ≡ seen → (n : ℕ) → In n (pairs_of t []) → In n seen
unfolding seen_after
all_seen seen t e n m =
    ⊎_elim (λ p. absurd (in_none (none (no_more seen (each_once seen (pairs_of t [])) e) p))) (λ p. p) (each_once_covers seen (pairs_of t []) n m)
  where
    none : each_once seen (pairs_of t []) ≡ [] → In n (each_once seen (pairs_of t [])) → In n []
    none f p = rw f at p

seen_already : (seen : List ℕ) (t : Term) → ((n : ℕ) → In n (pairs_of t []) → In n seen) → seen_after seen t ≡ seen
unfolding seen_after
seen_already seen t all = ap (◌++◌ seen) (each_once_none (pairs_of t []) seen all) ∙ append-nil seen

-- Once it was written, nothing new is seen; and this stays so when more was seen.
covered : (seen : List ℕ) (t : Term) (n : ℕ) → In n (pairs_of t []) → In n (seen_after seen t)
unfolding seen_after
covered seen t n m = ⊎_elim (in_append_right seen) (in_append_left (each_once seen (pairs_of t []))) (each_once_covers seen (pairs_of t []) n m)

pub seen_again : (seen : List ℕ) (t : Term) → seen_after (seen_after seen t) t ≡ seen_after seen t
seen_again seen t = seen_already (seen_after seen t) t (covered seen t)

pub seen_still : (seen behind : List ℕ) (t : Term) → seen_after seen t ≡ seen → seen_after (seen ++ behind) t ≡ seen ++ behind
seen_still seen behind t e = seen_already (seen ++ behind) t (λ n m. in_append_left behind (all_seen seen t e n m))

-- Its bytes are the same again, and stay the same.
pub shown_still : (seen behind : List ℕ) (standing : Role) (t : Term) → seen_after seen t ≡ seen
    → shown (seen ++ behind) standing t ≡ shown seen standing t
unfolding shown
shown_still seen behind standing t e =
    ap (λ (l : List ℕ). written l standing t) (seen_still seen behind t e ∙ ap (λ (l : List ℕ). l ++ behind) (sym e)) ∙ settled seen behind standing t

pub shown_again : (seen : List ℕ) (standing : Role) (t : Term) → shown (seen_after seen t) standing t ≡ shown seen standing t
unfolding shown
shown_again seen standing t = ap (λ (l : List ℕ). written l standing t) (seen_again seen t)
