-- The set of readers while a walk goes on: pairs that are in it already change nothing, and what has joined is forgotten by counting.
use Prim.Native.Nat.{ℕ, zero, suc, ◌+◌, ◌-◌, ◌≤◌, ◌<◌}
use mathlib.Core.Path.{◌≡◌, refl, sym, ap, ◌∙◌}
use mathlib.Core.Bool.{Bool, true, false}
use mathlib.Core.List.{List, [], ◌∷◌, ◌++◌}
use native.Mathlib.Decide.{ℕ_discrete}
use native.Mathlib.Omega.{arith}
use lib.ListN.{length, get_or, length-append, get_or-append}
use lib.Seq.{get_or-append-add}
use Rattle.meaning.specs.Bytes.{among}
use Rattle.laws.proofs.Lists.Among.{In, here, there, in_among}
use Rattle.term.specs.States.{listed}
use Rattle.run_readers.specs.Readers.{met_with, all_met, Readers, Met}
use Rattle.run_readers.proofs.AllMet.{met_there, met_new, all_met_none, all_met_append, all_met_longer, all_met_in_old}
use Rattle.run_readers.proofs.Ranks.{listed_length, listed_kept}
use Rattle.run_asked.specs.Asking.{Joined}

pub all_met_known : (ps rs : List ℕ) → ((p : ℕ) → In p rs → In p ps) → all_met ps rs ≡ ps
unfolding all_met
all_met_known ps [] known = refl
all_met_known ps (r ∷ rs) known =
    rw (met_there ps r (in_among (known r (here refl)))) (all_met_known ps rs (λ p m. known p (there m)))

-- Joining only adds at the end.
met_behind : (ps : List ℕ) (r i : ℕ) → i < length ps → (get_or (met_with ps r) i 0 ≡ get_or ps i 0) × (i < length (met_with ps r))
met_behind ps r i h = go (among r ps) refl
  where
    go : (b : Bool) → among r ps ≡ b → (get_or (met_with ps r) i 0 ≡ get_or ps i 0) × (i < length (met_with ps r))
    go true e = rw (met_there ps r e) (refl, h)
    go false e = rw (met_new ps r e) (get_or-append ps (r ∷ []) 0 i h, omega (arith, length-append ps (r ∷ [])))

all_met_behind : (ps rs : List ℕ) (i : ℕ) → i < length ps → get_or (all_met ps rs) i 0 ≡ get_or ps i 0
unfolding all_met
all_met_behind ps [] i h = refl
all_met_behind ps (r ∷ rs) i h =
    let (same, longer) = met_behind ps r i h in
    all_met_behind (met_with ps r) rs i longer ∙ same

listed_word : (s : List ℕ) (from n i : ℕ) → i < n → get_or (listed s from n) i 0 ≡ get_or s (from + i) 0
unfolding listed
listed_word s from zero i h = absurd (omega arith)
listed_word s from (suc n) i h = go (ℕ_discrete i n) (listed_word s from n i)
  where
    go : Dec (i ≡ n) → (i < n → get_or (listed s from n) i 0 ≡ get_or s (from + i) 0)
        → get_or (listed s from n ++ (get_or s (from + n) 0 ∷ [])) i 0 ≡ get_or s (from + i) 0
    go (yes e) further =
        let at : i ≡ length (listed s from n) + 0 = omega (arith, listed_length s from n) in
        ap (λ k. get_or (listed s from n ++ (get_or s (from + n) 0 ∷ [])) k 0) at
        ∙ get_or-append-add (listed s from n) (get_or s (from + n) 0 ∷ []) 0 0
        ∙ ap (λ k. get_or s (from + k) 0) (sym e)
    go (no d) further =
        get_or-append (listed s from n) (get_or s (from + n) 0 ∷ []) 0 i (omega (arith, listed_length s from n)) ∙ further (omega arith)

module _ (s s' : List ℕ) (at pairs n : ℕ) (ps : List ℕ) (m : ℕ) (j : Joined s s' at pairs n ps m) where
  pub no_fewer : n ≤ m
  no_fewer =
      omega (arith, listed_length s at n, listed_length s' at m, all_met_longer (listed s at n) ps, ap (λ l. length l) j.list)

  first_words : (i : ℕ) → i < n → get_or s' (at + i) 0 ≡ get_or s (at + i) 0
  first_words i h =
      sym (listed_word s' at m i (omega (arith, no_fewer))) ∙ ap (λ l. get_or l i 0) j.list
      ∙ all_met_behind (listed s at n) ps i (omega (arith, listed_length s at n)) ∙ listed_word s at n i h

  first_words_at : (k : ℕ) → at ≤ k → k < at + n → get_or s' k 0 ≡ get_or s k 0
  first_words_at k low high = go (k - at) (omega arith)
    where
      go : (i : ℕ) → k ≡ at + i → get_or s' k 0 ≡ get_or s k 0
      go i e = rw e (first_words i (omega arith))

  -- Those that have joined are forgotten.
  pub joined_forgotten : Joined s s' at pairs n [] n
  joined_forgotten = record {
    ok = record {
      inside = j.ok.inside;
      few = omega (arith, no_fewer, j.ok.few);
      small = λ i h. j.ok.small i (omega (arith, no_fewer));
      ranked = λ i h. j.ok.ranked i (omega (arith, no_fewer));
    };
    list = listed_kept s s' at n first_words_at ∙ sym (all_met_none (listed s at n));
  }

  pub joined_then : (s'' : List ℕ) (qs : List ℕ) (k : ℕ) → Joined s' s'' at pairs m qs k → Joined s s'' at pairs n (ps ++ qs) k
  joined_then s'' qs k b = record {
    ok = b.ok;
    list = b.list ∙ ap (λ l. all_met l qs) j.list ∙ sym (all_met_append (listed s at n) ps qs);
  }

  pub in_joined : (q : ℕ) → In q (listed s at n) → In q (listed s' at m)
  in_joined q i = rw j.list (all_met_in_old (listed s at n) ps q i)

-- Pairs that are in the set join it again.
pub joined_known : (s : List ℕ) (at pairs n : ℕ) → Readers s at pairs n → (ps : List ℕ) → ((p : ℕ) → In p ps → In p (listed s at n))
    → Joined s s at pairs n ps n
joined_known s at pairs n r ps known = record { ok = r; list = sym (all_met_known (listed s at n) ps known) }

pub joined_of_met : (s s' : List ℕ) (at pairs n : ℕ) (ps : List ℕ) (m : ℕ) → Met s s' at pairs n ps m → Joined s s' at pairs n ps m
joined_of_met s s' at pairs n ps m met = record { ok = met.ok; list = met.list }
