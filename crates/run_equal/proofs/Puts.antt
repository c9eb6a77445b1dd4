-- A link stored in the list of the step's readers: over the pair's own link, or behind all with its rank. The readers that stand there stay.
use Prim.Native.Nat.{ℕ, ◌+◌, ◌*◌, ◌≤◌, ◌<◌}
use mathlib.Core.Path.{◌≡◌, refl, sym, ap, ◌∙◌}
use mathlib.Core.Logic.{inl, inr, ◌⊎◌}
use mathlib.Core.List.{List}
use native.Mathlib.Decide.{ℕ_discrete, dec_lt}
use native.Mathlib.Omega.{arith}
use lib.ListN.{length, get_or, set, length-set}
use lib.Seq.{get_or-set_same, get_or-set_other}
use Rattle.term.proofs.Frames.{only_same, only_set, only_then}
use Rattle.run_readers.specs.Readers.{Readers}
use Rattle.run_equal.specs.Equal.{linked_pair, Puts, Put}

-- The readers stay where their places in the list and their ranks do.
readers_stay : (s s' : List ℕ) (lists links met : ℕ) → length s' ≡ length s
    → ((i : ℕ) → i < met → get_or s' (lists + i) 0 ≡ get_or s (lists + i) 0)
    → ((i : ℕ) → i < met → get_or s' (lists + links + get_or s (lists + i) 0) 0 ≡ get_or s (lists + links + get_or s (lists + i) 0) 0)
    → Readers s lists links met → Readers s' lists links met
readers_stay s s' lists links met size list ranks r = record {
  inside = omega (arith, r.inside);
  few = r.few;
  small = λ i h. rw (list i h) (r.small i h);
  ranked = λ i h. rw (list i h) (ranks i h ∙ r.ranked i h);
}

module _ (s : List ℕ) (lists links taken met p w : ℕ) (r : Readers s lists links met) (k : Puts links taken met p w) where
  abbrev entry : ℕ
  entry = p + 65536 * w

  pub put_none : Put s s lists links taken met p w taken
  put_none = record {
    only = only_same lists (lists + 2 * links) s;
    readers = r;
    firsts = λ i h. refl;
    low = omega arith;
    high = k.high;
    new = λ i l h. inr (h, refl);
  }

  -- Over its own link.
  module _ (rank : ℕ) (below : rank < taken) (large : 65536 ≤ get_or s (lists + rank) 0) where
    behind : met ≤ rank
    behind = go (dec_lt rank met)
      where
        go : Dec (rank < met) → met ≤ rank
        go (yes h) = absurd (omega (arith, r.small rank h, k.few))
        go (no h) = omega arith

    inside : lists + rank < length s
    inside = omega (arith, r.inside, k.high)

    other : (i : ℕ) → (i ≡ lists + rank → ⊥) → get_or (set s (lists + rank) entry) i 0 ≡ get_or s i 0
    other i d = get_or-set_other s (lists + rank) i entry 0 d

    pub put_over : Put s (set s (lists + rank) entry) lists links taken met p w taken
    put_over = record {
      only = only_set lists (lists + 2 * links) s (lists + rank) entry (omega arith) (omega (arith, k.high));
      readers = readers_stay s (set s (lists + rank) entry) lists links met (length-set s (lists + rank) entry)
          (λ i h. other (lists + i) (λ e. omega (arith, behind)))
          (λ i h. other (lists + links + get_or s (lists + i) 0) (λ e. omega (arith, k.high))) r;
      firsts = λ i h. other (lists + i) (λ e. omega (arith, behind));
      low = omega arith;
      high = k.high;
      new = λ i l h. go i h (ℕ_discrete i rank);
    }
      where
        go : (i : ℕ) → i < taken → Dec (i ≡ rank)
            → (get_or (set s (lists + rank) entry) (lists + i) 0 ≡ entry)
            ⊎ ((i < taken) × (get_or (set s (lists + rank) entry) (lists + i) 0 ≡ get_or s (lists + i) 0))
        go i h (yes e) = inl (rw e (get_or-set_same s (lists + rank) entry 0 inside))
        go i h (no d) = inr (h, other (lists + i) (λ e. d (omega arith)))

  -- Behind all.
  module _ (room : taken < links) (free : get_or s (lists + links + p) 0 < taken → linked_pair (get_or s (lists + get_or s (lists + links + p) 0) 0) ≡ p → ⊥)
    where
      abbrev both : List ℕ
      both = set (set s (lists + taken) entry) (lists + links + p) taken

      unchanged : (i : ℕ) → (i ≡ lists + taken → ⊥) → (i ≡ lists + links + p → ⊥)
          → get_or both i 0 ≡ get_or s i 0
      unchanged i c d =
          get_or-set_other (set s (lists + taken) entry) (lists + links + p) i taken 0 d
          ∙ get_or-set_other s (lists + taken) i entry 0 c

      -- A reader that has been met is none of the pairs that are linked.
      others : (i : ℕ) → i < met → get_or s (lists + i) 0 ≡ p → ⊥
      others i h e =
          let rank : get_or s (lists + links + p) 0 ≡ i = ap (λ q. get_or s (lists + links + q) 0) (sym e) ∙ r.ranked i h in
          let at : get_or s (lists + get_or s (lists + links + p) 0) 0 ≡ p = ap (λ q. get_or s (lists + q) 0) rank ∙ e in
          free (omega (arith, k.low)) (ap (λ q. linked_pair q) at ∙ omega (arith, k.pair, k.few))

      pub put_new : Put s both lists links taken met p w (taken + 1)
      put_new = record {
        only =
            only_then lists (lists + 2 * links) s (set s (lists + taken) entry) both
            (only_set lists (lists + 2 * links) s (lists + taken) entry (omega arith) (omega arith))
            (only_set lists (lists + 2 * links) (set s (lists + taken) entry) (lists + links + p) taken (omega arith) (omega (arith, k.pair)));
        readers = readers_stay s both lists links met
            (length-set (set s (lists + taken) entry) (lists + links + p) taken ∙ length-set s (lists + taken) entry)
            (λ i h. unchanged (lists + i) (λ e. omega (arith, k.low)) (λ e. omega (arith, k.low)))
            (λ i h. unchanged (lists + links + get_or s (lists + i) 0) (λ e. omega arith) (λ e. others i h (omega arith))) r;
        firsts = λ i h. unchanged (lists + i) (λ e. omega (arith, k.low)) (λ e. omega (arith, k.low));
        low = omega arith;
        high = omega arith;
        new = λ i l h. go i h (ℕ_discrete i taken);
      }
        where
          go : (i : ℕ) → i < taken + 1 → Dec (i ≡ taken)
              → (get_or both (lists + i) 0 ≡ entry)
              ⊎ ((i < taken) × (get_or both (lists + i) 0 ≡ get_or s (lists + i) 0))
          go i h (yes e) =
              inl (rw e
              (get_or-set_other (set s (lists + taken) entry) (lists + links + p) (lists + taken) taken 0 (λ f. omega arith)
              ∙ get_or-set_same s (lists + taken) entry 0 (omega (arith, r.inside))))
          go i h (no d) = inr (omega arith, unchanged (lists + i) (λ e. d (omega arith)) (λ e. omega arith))
