-- What is left to try: no chain, no clause but those that are out; else the next clause of the first chain, behind clauses that are out; the two chains
-- have no clause in common, and either may stand first; what is left stays where the clauses' records do.
use Prim.Native.Nat.{ℕ, ◌+◌, ◌-◌, ◌<◌}
use mathlib.Core.Path.{◌≡◌, refl, ap, ◌∙◌}
use mathlib.Core.Logic.{◌⊎◌, inl, inr, ◌≢◌}
use mathlib.Core.List.{List, [], ◌∷◌, ◌++◌}
use native.Mathlib.Omega.{arith}
use lib.ListN.{get_or}
use Rattle.meaning.specs.Terms.{Clause}
use Rattle.term.specs.Layout.{clause_stride, clause_record}
use Rattle.term.specs.Words.{link_to}
use Rattle.run_index.specs.Left.{Left, AllOut, Nearest, InOrder, FurtherIs}
use Rattle.run_index.specs.declared.leads.Leads.{Leads}

module _ (s : List ℕ) (Out : ℕ → Type 0) (At : ℕ → Clause → Type 0) where
  -- Either chain may stand first.
  pub left_swap : (from : ℕ) (cs : List Clause) (a link b other : ℕ) → Left s Out At from cs a link b other → Left s Out At from cs b other a link
  unfolding Left
  left_swap from [] a link b other l = (l.1, l.0)
  left_swap from (c ∷ cs) a link b other (k, h, at, inl l) = (k, h, at, inr (inl (l.0, left_swap (k + 1) cs (get_or s (clause_record k + link) 0) link b other l.1)))
  left_swap from (c ∷ cs) a link b other (k, h, at, inr (inl l)) = (k, h, at, inl (l.0, left_swap (k + 1) cs a link (get_or s (clause_record k + other) 0) other l.1))
  left_swap from (c ∷ cs) a link b other (k, h, at, inr (inr l)) = (k, h, at, inr (inr (l.0, left_swap (k + 1) cs a link b other l.1)))

  -- A chain has no clause before the number from which on clauses are left.
  pub left_from : (from : ℕ) (cs : List Clause) (a link b other : ℕ) → a ≢ 0 → Left s Out At from cs a link b other → from < a
  unfolding Left
  left_from from [] a link b other d l = absurd (d l.0)
  left_from from (c ∷ cs) a link b other d (k, h, at, inl l) = omega (arith, l.0)
  left_from from (c ∷ cs) a link b other d (k, h, at, inr (inl l)) =
      omega (arith, left_from (k + 1) cs a link (get_or s (clause_record k + other) 0) other d l.1)
  left_from from (c ∷ cs) a link b other d (k, h, at, inr (inr l)) = omega (arith, left_from (k + 1) cs a link b other d l.1)

  -- The two chains have no clause in common.
  pub left_apart : (from : ℕ) (cs : List Clause) (a link b other : ℕ) → Left s Out At from cs a link b other → a ≢ 0 → a ≢ b
  unfolding Left
  left_apart from [] a link b other l d e = d l.0
  left_apart from (c ∷ cs) a link b other (k, h, at, inl l) d e =
      let rest = left_swap (k + 1) cs (get_or s (clause_record k + link) 0) link b other l.1 in
      omega (arith, l.0, left_from (k + 1) cs b other (get_or s (clause_record k + link) 0) link (λ z. d (e ∙ z)) rest)
  left_apart from (c ∷ cs) a link b other (k, h, at, inr (inl l)) d e =
      omega (arith, l.0, left_from (k + 1) cs a link (get_or s (clause_record k + other) 0) other d l.1)
  left_apart from (c ∷ cs) a link b other (k, h, at, inr (inr l)) d e = left_apart (k + 1) cs a link b other l.1 d e

  -- Where both chains have ended, every clause is out.
  pub left_none : (from : ℕ) (cs : List Clause) (link other : ℕ) → Left s Out At from cs 0 link 0 other → AllOut Out At cs
  unfolding Left AllOut
  left_none from [] link other l = tt
  left_none from (c ∷ cs) link other (k, h, at, inl l) = absurd (omega (arith, l.0))
  left_none from (c ∷ cs) link other (k, h, at, inr (inl l)) = absurd (omega (arith, l.0))
  left_none from (c ∷ cs) link other (k, h, at, inr (inr l)) = ((k, at, l.0), left_none (k + 1) cs link other l.1)

  -- The next clause to try, behind some that are out, and what is left behind it.
  abbrev pub NextLeft : List Clause → Leads → ℕ → Type 0
  NextLeft cs l n =
      (skipped : List Clause) × (c : Clause) × (rest : List Clause) × (cs ≡ skipped ++ c ∷ rest) × AllOut Out At skipped × At n c
      × Left s Out At (n + 1) rest (get_or s (clause_record n + l.link) 0) l.link (link_to l.other) l.onward

  pub left_next : (from : ℕ) (cs : List Clause) (l : Leads) (n : ℕ) → Nearest l → link_to l.next ≡ n + 1
      → Left s Out At from cs (link_to l.next) l.link (link_to l.other) l.onward → NextLeft cs l n
  unfolding Left AllOut
  left_next from [] l n near d left = absurd (omega (arith, left.0))
  left_next from (c ∷ cs) l n near d (k, h, at, inl left) =
      let number : n ≡ k = omega (arith, left.0) in
      ([], c, cs, refl, tt, rw number at, rw number left.1)
  left_next from (c ∷ cs) l n near d (k, h, at, inr (inl left)) =
      let later = left_from (k + 1) cs (link_to l.next) l.link (get_or s (clause_record k + l.onward) 0) l.onward (λ e. omega arith) left.1 in
      absurd (omega (arith, left.0, near.before (λ e. omega (arith, left.0))))
  left_next from (c ∷ cs) l n near d (k, h, at, inr (inr left)) =
      let (skipped, c', rest, e, out, at', left') = left_next (k + 1) cs l n near d left.1 in
      (c ∷ skipped, c', rest, ap (λ cs. c ∷ cs) e, ((k, at, left.0), out), at', left')

  -- Two chains in order.
  pub left_ordered : (from : ℕ) (cs : List Clause) (a link b other : ℕ) (r : Leads) → InOrder a link b other r → Left s Out At from cs a link b other
      → Left s Out At from cs (link_to r.next) r.link (link_to r.other) r.onward
  left_ordered from cs a link b other r order left = go order.are
    where
      go : ((link_to r.next ≡ a) × (r.link ≡ link) × (link_to r.other ≡ b) × (r.onward ≡ other)) ⊎ ((link_to r.next ≡ b) × (r.link ≡ other) × (link_to r.other ≡ a) × (r.onward ≡ link))
          → Left s Out At from cs (link_to r.next) r.link (link_to r.other) r.onward
      go (inl (e, f, g, h)) = rw (e, f, g, h) left
      go (inr (e, f, g, h)) = rw (e, f, g, h) (left_swap from cs a link b other left)

  -- What is left behind the next clause, in order.
  pub left_further : (from : ℕ) (rest : List Clause) (l r : Leads) (n : ℕ) → Nearest l → FurtherIs s n l r
      → Left s Out At from rest (get_or s (clause_record n + l.link) 0) l.link (link_to l.other) l.onward
      → Nearest r × Left s Out At from rest (link_to r.next) r.link (link_to r.other) r.onward
  left_further from rest l r n near further left =
      let a = get_or s (clause_record n + l.link) 0 in (
        further.nearest near.link_inside near.other_inside (left_apart from rest a l.link (link_to l.other) l.onward left),
        left_ordered from rest a l.link (link_to l.other) l.onward r further left,
      )

-- What is left stays so where the clauses do, with their records, and those that were out are out.
module _ (s s' : List ℕ) (Out Out' : ℕ → Type 0) (At At' : ℕ → Clause → Type 0) where
  abbrev pub Stays : Type 0
  Stays = (k : ℕ) (c : Clause) → At k c
      → At' k c × (Out k → Out' k) × ((i : ℕ) → i < clause_stride → get_or s' (clause_record k + i) 0 ≡ get_or s (clause_record k + i) 0)

  pub left_map : Stays → (from : ℕ) (cs : List Clause) (a link b other : ℕ) → link < clause_stride → other < clause_stride
      → Left s Out At from cs a link b other → Left s' Out' At' from cs a link b other
  unfolding Left
  left_map stays from [] a link b other x y l = l
  left_map stays from (c ∷ cs) a link b other x y (k, h, at, inl l) =
      let (at', out, words) = stays k c at in
      (k, h, at', inl (l.0, rw (words link x) (left_map stays (k + 1) cs (get_or s (clause_record k + link) 0) link b other x y l.1)))
  left_map stays from (c ∷ cs) a link b other x y (k, h, at, inr (inl l)) =
      let (at', out, words) = stays k c at in
      (k, h, at', inr (inl (l.0, rw (words other y) (left_map stays (k + 1) cs a link (get_or s (clause_record k + other) 0) other x y l.1))))
  left_map stays from (c ∷ cs) a link b other x y (k, h, at, inr (inr l)) =
      let (at', out, words) = stays k c at in
      (k, h, at', inr (inr (out l.0, left_map stays (k + 1) cs a link b other x y l.1)))

-- So do clauses that are all out.
module _ (Out Out' : ℕ → Type 0) (At At' : ℕ → Clause → Type 0) where
  pub all_out_map : ((k : ℕ) (c : Clause) → At k c → At' k c × (Out k → Out' k)) → (cs : List Clause) → AllOut Out At cs → AllOut Out' At' cs
  unfolding AllOut
  all_out_map stays [] o = tt
  all_out_map stays (c ∷ cs) o =
      let (k, at, out) = o.0 in
      let kept = stays k c at in
      ((k, kept.0, kept.1 out), all_out_map stays cs o.1)
