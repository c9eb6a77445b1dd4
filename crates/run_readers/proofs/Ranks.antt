-- The set of readers in the scratch: a pair is in the list exactly if at its rank stands this pair, so no pair stands in it twice and a new one has room.
-- Begun empty, kept by what leaves its words alone, and one pair after another joining it.
use Prim.Native.Nat.{ℕ, zero, suc, ◌+◌, ◌*◌, ◌≤◌, ◌<◌}
use mathlib.Core.Path.{◌≡◌, refl, sym, ap, ◌∙◌}
use mathlib.Core.Bool.{true}
use mathlib.Core.Logic.{⊎_elim}
use mathlib.Core.List.{List, [], ◌∷◌, ◌++◌}
use native.Mathlib.Decide.{ℕ_discrete}
use native.Mathlib.Numerals.{add-one}
use native.Mathlib.Omega.{arith}
use lib.ListN.{length, get_or, set, length-append, length-set}
use lib.Seq.{get_or-set_same, get_or-set_other}
use Rattle.meaning.specs.Bytes.{among}
use Rattle.laws.proofs.Lists.Among.{In, here, in_none, in_single, in_append_cases, in_append_left, in_append_right, among_in, in_among}
use Rattle.laws.proofs.Lists.Tests.{not_true_is_false}
use Rattle.laws.proofs.Lists.Pigeonhole.{Distinct, distinct_last, pigeonhole}
use Rattle.term.proofs.Frames.{only_same, only_set, only_then}
use Rattle.term.specs.Layout.{woken_part, gift_pair, gift_term}
use Rattle.term.specs.States.{listed}
use Rattle.run_readers.specs.Readers.{asked_in, all_met, Readers, Met}
use Rattle.run_readers.proofs.AllMet.{met_there, met_new, all_met_append, all_met_none, all_met_one}
use Rattle.run_readers.proofs.Asking.{asked_more, asked_less}

-- A list of words: its length, what stands in it, and what it is read from.
pub listed_length : (s : List ℕ) (from n : ℕ) → length (listed s from n) ≡ n
unfolding listed
listed_length s from zero = refl
listed_length s from (suc n) = length-append (listed s from n) (get_or s (from + n) 0 ∷ []) ∙ rw (listed_length s from n) (add-one n)

in_listed : (s : List ℕ) (from n p : ℕ) → In p (listed s from n) → (i : ℕ) × (i < n) × (p ≡ get_or s (from + i) 0)
unfolding listed
in_listed s from zero p m = absurd (in_none m)
in_listed s from (suc n) p m =
    ⊎_elim {C = (i : ℕ) × (i < suc n) × (p ≡ get_or s (from + i) 0)}
    (λ o. let (i, h, e) = in_listed s from n p o in (i, omega arith, e))
    (λ o. (n, omega arith, in_single o))
    (in_append_cases (listed s from n) m)

pub listed_in : (s : List ℕ) (from n i : ℕ) → i < n → In (get_or s (from + i) 0) (listed s from n)
unfolding listed
listed_in s from zero i h = absurd (omega arith)
listed_in s from (suc n) i h = go (ℕ_discrete i n) (listed_in s from n i)
  where
    go : Dec (i ≡ n) → (i < n → In (get_or s (from + i) 0) (listed s from n)) → In (get_or s (from + i) 0) (listed s from n ++ (get_or s (from + n) 0 ∷ []))
    go (yes e) further = in_append_right (listed s from n) (here (ap (λ k. get_or s (from + k) 0) e))
    go (no d) further = in_append_left (get_or s (from + n) 0 ∷ []) (further (omega arith))

pub listed_kept : (s s' : List ℕ) (from n : ℕ) → ((x : ℕ) → from ≤ x → x < from + n → get_or s' x 0 ≡ get_or s x 0)
    → listed s' from n ≡ listed s from n
unfolding listed
listed_kept s s' from zero same = refl
listed_kept s s' from (suc n) same =
    rw (listed_kept s s' from n (λ x a b. same x a (omega arith)), same (from + n) (omega arith) (omega arith))

-- A set that has no pair yet.
pub readers_none : (s : List ℕ) (readers pairs : ℕ) → readers + 2 * pairs ≤ length s → Readers s readers pairs 0
readers_none s readers pairs inside =
    record { inside = inside; few = omega arith; small = λ i h. absurd (omega arith); ranked = λ i h. absurd (omega arith) }

-- The words of a set stay.
pub readers_kept : (s s' : List ℕ) (readers pairs n : ℕ) → length s' ≡ length s
    → ((x : ℕ) → readers ≤ x → x < readers + 2 * pairs → get_or s' x 0 ≡ get_or s x 0)
    → Readers s readers pairs n → Readers s' readers pairs n
readers_kept s s' readers pairs n size same r =
    record {
      inside = omega (arith, r.inside, size);
      few = r.few;
      small = λ i h. rw (same (readers + i) (omega arith) (omega (arith, r.few))) (r.small i h);
      ranked = λ i h.
          let small = r.small i h in
          rw (same (readers + i) (omega arith) (omega (arith, r.few)), same (readers + pairs + get_or s (readers + i) 0) (omega arith) (omega arith))
          (r.ranked i h);
    }

module _ (s : List ℕ) (readers pairs n : ℕ) (r : Readers s readers pairs n) where
  -- The first pairs of the list, without repetition: the same pair has the same rank.
  first_distinct : (m : ℕ) → m ≤ n → Distinct (listed s readers m)
  unfolding listed Distinct
  first_distinct zero h = tt
  first_distinct (suc m) h =
      distinct_last (listed s readers m) (get_or s (readers + m) 0) (first_distinct m (omega arith)) (λ o.
      let (i, l, e) = in_listed s readers m (get_or s (readers + m) 0) o in
      let same : i ≡ m = sym (r.ranked i (omega arith)) ∙ ap (λ p. get_or s (readers + pairs + p) 0) (sym e) ∙ r.ranked m (omega arith) in
      omega arith)

  pub readers_distinct : Distinct (listed s readers n)
  readers_distinct = first_distinct n (omega arith)

  pub readers_small : (p : ℕ) → In p (listed s readers n) → p < pairs
  readers_small p m = let (i, h, e) = in_listed s readers n p m in rw e (r.small i h)

  module _ (p : ℕ) where
    -- At the rank of a pair that is in the list stands this pair.
    in_at_rank : In p (listed s readers n) → (get_or s (readers + pairs + p) 0 < n) × (get_or s (readers + get_or s (readers + pairs + p) 0) 0 ≡ p)
    in_at_rank m =
        let (i, h, e) = in_listed s readers n p m in
        let rank : get_or s (readers + pairs + p) 0 ≡ i = ap (λ q. get_or s (readers + pairs + q) 0) e ∙ r.ranked i h in
        (rw rank h, ap (λ k. get_or s (readers + k) 0) rank ∙ sym e)

    pub met_already : (rank : ℕ) → rank < n → get_or s (readers + rank) 0 ≡ p → Met s s readers pairs n (p ∷ []) n
    met_already rank h e =
        let there : among p (listed s readers n) ≡ true = rw e at (in_among (listed_in s readers n rank h)) in
        record {
          ok = r;
          list = sym (all_met_one (listed s readers n) p ∙ met_there (listed s readers n) p there);
          only = only_same readers (readers + 2 * pairs) s;
        }

    module _ (small : p < pairs) (new : In p (listed s readers n) → ⊥) where
      last_small : (m : ℕ) → m ≡ p → m < pairs
      last_small m e = omega arith

      -- Pairs without repetition, and one more, are no more than the room has.
      pub room_left : n < pairs
      room_left =
          let l = listed s readers n in
          omega (
            arith,
            pigeonhole pairs (l ++ (p ∷ [])) (distinct_last l p readers_distinct new)
                (λ m o. ⊎_elim (readers_small m) (λ q. last_small m (in_single q)) (in_append_cases l o)),
            length-append l (p ∷ []),
            listed_length s readers n,
          )

      abbrev stored : List ℕ
      stored = set (set s (readers + n) p) (readers + pairs + p) n

      stored_below : (x : ℕ) → x < readers + n → get_or stored x 0 ≡ get_or s x 0
      stored_below x h =
          get_or-set_other (set s (readers + n) p) (readers + pairs + p) x n 0 (λ e. omega (arith, room_left))
          ∙ get_or-set_other s (readers + n) x p 0 (λ e. omega arith)

      stored_last : get_or stored (readers + n) 0 ≡ p
      stored_last =
          get_or-set_other (set s (readers + n) p) (readers + pairs + p) (readers + n) n 0 (λ e. omega (arith, room_left))
          ∙ get_or-set_same s (readers + n) p 0 (omega (arith, r.inside, room_left))

      stored_rank : get_or stored (readers + pairs + p) 0 ≡ n
      stored_rank = get_or-set_same (set s (readers + n) p) (readers + pairs + p) n 0 (omega (arith, r.inside, length-set s (readers + n) p))

      stored_ranks : (q : ℕ) → (q ≡ p → ⊥) → get_or stored (readers + pairs + q) 0 ≡ get_or s (readers + pairs + q) 0
      stored_ranks q d =
          get_or-set_other (set s (readers + n) p) (readers + pairs + p) (readers + pairs + q) n 0 (λ e. d (omega arith))
          ∙ get_or-set_other s (readers + n) (readers + pairs + q) p 0 (λ e. omega (arith, room_left))

      stored_small : (i : ℕ) → i < n + 1 → get_or stored (readers + i) 0 < pairs
      stored_small i h = go (ℕ_discrete i n)
        where
          go : Dec (i ≡ n) → get_or stored (readers + i) 0 < pairs
          go (yes e) = rw (e, stored_last) small
          go (no d) = rw (stored_below (readers + i) (omega arith)) (r.small i (omega arith))

      stored_ranked : (i : ℕ) → i < n + 1 → get_or stored (readers + pairs + get_or stored (readers + i) 0) 0 ≡ i
      stored_ranked i h = go (ℕ_discrete i n)
        where
          go : Dec (i ≡ n) → get_or stored (readers + pairs + get_or stored (readers + i) 0) 0 ≡ i
          go (yes e) = rw (e, stored_last) stored_rank
          go (no d) =
              let l : i < n = omega arith in
              ap (λ q. get_or stored (readers + pairs + q) 0) (stored_below (readers + i) (omega arith))
              ∙ stored_ranks (get_or s (readers + i) 0) (λ e. new (rw e at (listed_in s readers n i l)))
              ∙ r.ranked i l

      stored_listed : listed stored readers (n + 1) ≡ listed s readers n ++ (p ∷ [])
      unfolding listed
      stored_listed = rw (add-one n, listed, listed_kept s stored readers n (λ x a b. stored_below x b), stored_last)

      pub met_stored : Met s stored readers pairs n (p ∷ []) (n + 1)
      met_stored = let l = listed s readers n in record {
        ok = record {
          inside = omega (arith, r.inside, length-set (set s (readers + n) p) (readers + pairs + p) n, length-set s (readers + n) p);
          few = omega (arith, room_left);
          small = stored_small;
          ranked = stored_ranked;
        };
        list =
            stored_listed
            ∙ sym (all_met_one l p ∙ met_new l p (not_true_is_false (among p l) (λ e. new (among_in p l e))));
        only =
            only_then readers (readers + 2 * pairs) s (set s (readers + n) p) stored
            (only_set readers (readers + 2 * pairs) s (readers + n) p (omega arith) (omega (arith, room_left)))
            (only_set readers (readers + 2 * pairs) (set s (readers + n) p) (readers + pairs + p) n (omega arith) (omega arith));
      }

-- A pair is new if its rank is none of the list's, or if another stands at it.
pub not_at_rank : (s : List ℕ) (readers pairs n p : ℕ) → Readers s readers pairs n
    → (get_or s (readers + pairs + p) 0 < n → get_or s (readers + get_or s (readers + pairs + p) 0) 0 ≡ p → ⊥)
    → In p (listed s readers n) → ⊥
not_at_rank s readers pairs n p r other m = let (h, e) = in_at_rank s readers pairs n r p m in other h e

-- Nothing has joined, or some and then others.
pub met_none : (s : List ℕ) (readers pairs n : ℕ) → Readers s readers pairs n → Met s s readers pairs n [] n
met_none s readers pairs n r =
    record { ok = r; list = sym (all_met_none (listed s readers n)); only = only_same readers (readers + 2 * pairs) s }

pub met_then : (s t u : List ℕ) (readers pairs n m k : ℕ) (ps qs : List ℕ) → Met s t readers pairs n ps m → Met t u readers pairs m qs k
    → Met s u readers pairs n (ps ++ qs) k
met_then s t u readers pairs n m k ps qs a b = record {
  ok = b.ok;
  list = b.list ∙ ap (λ l. all_met l qs) a.list ∙ sym (all_met_append (listed s readers n) ps qs);
  only = only_then readers (readers + 2 * pairs) s t u a.only b.only;
}

-- The next of the pairs that a trial noted: its words stand below the list, so that they are what they were.
module _ (s₀ s : List ℕ) (readers pairs first i met : ℕ) (behind : woken_part ≤ readers) (h : i < 192)
    (m : Met s₀ s readers pairs first (asked_in s₀ i) met) where
  pub noted_term : get_or s (gift_term i) 0 ≡ get_or s₀ (gift_term i) 0
  noted_term = m.only.below (gift_term i) (omega arith)

  pub noted_pair : get_or s (gift_pair i) 0 ≡ get_or s₀ (gift_pair i) 0
  noted_pair = m.only.below (gift_pair i) (omega arith)

  pub met_more : (s' : List ℕ) (k : ℕ) → get_or s (gift_term i) 0 ≡ 0 → Met s s' readers pairs met (get_or s (gift_pair i) 0 ∷ []) k
      → Met s₀ s' readers pairs first (asked_in s₀ (i + 1)) k
  met_more s' k e on =
      rw (asked_more s₀ i (sym noted_term ∙ e))
      (met_then s₀ s s' readers pairs first met k (asked_in s₀ i) (get_or s₀ (gift_pair i) 0 ∷ []) m (rw noted_pair at on))

  pub met_less : (get_or s (gift_term i) 0 ≡ 0 → ⊥) → Met s₀ s readers pairs first (asked_in s₀ (i + 1)) met
  met_less d = rw (asked_less s₀ i (λ e. d (noted_term ∙ e))) m
