-- An item that was read: its tokens hold what its terms hold, so it has a fault exactly if the rules are broken, and then the walk finds the least.
-- Its variables are told apart, its tokens' places rise, none of them is bad: what the search for the fault asks.
use Prim.Native.Nat.{ℕ, ◌+◌, ◌-◌, ◌<◌, min}
use mathlib.Core.Path.{◌≡◌, refl, ap, ◌∙◌}
use mathlib.Core.Bool.{Bool, true, false, not, ◌&&◌}
use mathlib.Core.List.{List, [], ◌∷◌}
use mathlib.Core.Option.{Option, none, some}
use native.Mathlib.Omega.{arith}
use lib.Dec.{eqb}
use lib.ListN.{length, get_or}
use Rattle.std.specs.Prelude.{Option as Maybe}
use Rattle.meaning.specs.Bytes.{Bytes, same, any, when◌then◌else◌}
use Rattle.meaning.specs.Terms.{Half, Named, all_occurrences, goals_occurrences}
use Rattle.meaning.specs.Tokens.{Token, name, variable, integer, sign, bad, Tokens, ends, token}
use Rattle.meaning.specs.Faults.{Fault, occurs_at, pairing, head_tokens, clause_faults, query_faults, least}
use Rattle.meaning.specs.Items.{is, place_of}
use Rattle.laws.proofs.Lists.Tests.{false_not_true, and_left, and_right, same_refl}
use Rattle.laws.proofs.Lists.Among.{In, in_any}
use Rattle.laws.proofs.Lists.Pigeonhole.{Distinct, distinct_last}
use Rattle.laws.proofs.Reading.Rules.{nothing_twice, nothing_twice_but, both_halves}
use Rattle.laws.proofs.Reading.Passed.{Cut, by_number}
use Rattle.laws.proofs.Reading.Faultless.{clause_kept, clause_clear, query_kept, query_clear}
use Rattle.laws.proofs.Reading.Rising.{Rising, tokens_from_rising}
use Rattle.laws.proofs.Reading.Broken.{none_free, clause_fault_is, fault_in_clause, query_fault_is, fault_in_query}
use Rattle.laws.proofs.Reading.Walk.{first_fault, first_is_least}
use Rattle.laws.proofs.Reading.WhichByte.{all_known}
use Rattle.load_tokens.specs.Fronts.{tokens_in}
use Rattle.load_names.specs.Places.{Place, Placed, spellings, with_place, with_variable, variables_over}
use Rattle.load_names.specs.Tables.{VariablesIn}
use Rattle.load_names.proofs.Numbering.{spellings_snoc, with_known, with_new}
use Rattle.load_names.proofs.Spellings.{has_place}
use Rattle.load_openings.specs.Reading.{piece, half_place}
use Rattle.load_faults.specs.Finding.{BarIs, Searches}
use Rattle.load_faults.proofs.Sound.{Sound, walkable}

-- The variables' spellings are told apart.
with_place_distinct : (at : ℕ) (x : Bytes) (places : List Place) → Distinct (spellings places) → Distinct (spellings (with_place at x places))
with_place_distinct at x places d = go (any (same x) (spellings places)) refl
  where
    go : (b : Bool) → any (same x) (spellings places) ≡ b → Distinct (spellings (with_place at x places))
    go true e = rw (with_known at x places e) d
    go false e =
        rw (with_new at x places e, spellings_snoc places at x)
        (distinct_last (spellings places) x d (λ m. false_not_true (any (same x) (spellings places)) e (in_any (same x) m (same_refl x))))

pub variables_distinct : (from : ℕ) (ps : List Placed) (places : List Place) → Distinct (spellings places) → Distinct (spellings (variables_over from ps places))
unfolding variables_over with_variable
variables_distinct from [] places d = d
variables_distinct from (p ∷ ps) places d = variables_distinct from ps (with_variable (p.at - from) p.token places) (go p.token)
  where
    go : (t : Token) → Distinct (spellings (with_variable (p.at - from) t places))
    go (name f) = d
    go (variable h x) = (with_place_distinct (p.at - from) x places d)
    go (integer i) = d
    go (sign b) = d
    go bad = d

-- An item's tokens are cut behind its full stop, and their places rise.
pub piece_cut : (ts : Tokens) → Cut (piece ts)
unfolding Cut piece when◌then◌else◌
piece_cut (ends p) = tt
piece_cut (token p t ts) = go (is "." t) refl (piece_cut ts)
  where
    go : (b : Bool) → is "." t ≡ b → Cut (piece ts) → Cut (piece (token p t ts))
    go true e h = rw e (p, refl)
    go false e h = rw e h

piece_rising : (low : ℕ) (ts : Tokens) → Rising low ts → Rising low (piece ts)
unfolding Rising piece when◌then◌else◌
piece_rising low (ends p) h = tt
piece_rising low (token p t ts) h = (h.0, go (is "." t) (piece_rising (p + 1) ts h.1))
  where
    go : (b : Bool) → Rising (p + 1) (piece ts) → Rising (p + 1) (when b then ends p else piece ts)
    go true r = tt
    go false r = r

pub item_rising : (from : ℕ) (rest : Bytes) (at : ℕ) → Rising 0 (piece (tokens_in from rest at))
item_rising from rest at = piece_rising 0 (tokens_in from rest at) (tokens_from_rising 0 (from + at) 0 _ (omega arith))

-- What was read, by its tokens: the variables are these, and each half occurs among the tokens as often as in the goals.
module _ (whole : Tokens) (xs : List Bytes) (gs : List Named) (distinct : Distinct xs) (rising : Rising 0 whole)
    (counts : (h : Half) (x : Bytes) → length (occurs_at h x whole) ≡ by_number (place_of x xs) (λ n. goals_occurrences h n gs)) where
  known : (h : Half) (x : Bytes) (p : ℕ) → In p (occurs_at h x whole) → In x xs
  known = all_known whole xs (λ h n. goals_occurrences h n gs) counts

  pub query_clean : nothing_twice (length xs) gs ≡ true → least (query_faults whole xs) ≡ none
  unfolding least
  query_clean h = rw (query_clear whole xs gs distinct counts h) refl

  pub query_fault : nothing_twice (length xs) gs ≡ false → (f : Fault) × (least (query_faults whole xs) ≡ some f) × (first_fault false none_free whole ≡ some f)
  unfolding least
  query_fault broken = go (query_faults whole xs) refl
    where
      first : first_fault false none_free whole ≡ least (query_faults whole xs)
      first =
          first_is_least false none_free whole xs known 0 rising (query_faults whole xs)
          (λ f m. query_fault_is whole f xs m) (λ f o. fault_in_query whole f xs o)

      go : (l : List Fault) → query_faults whole xs ≡ l → (f : Fault) × (least (query_faults whole xs) ≡ some f) × (first_fault false none_free whole ≡ some f)
      go [] e = absurd (false_not_true (nothing_twice (length xs) gs) broken (query_kept whole xs gs distinct counts e))
      go (f ∷ l) e = (_, ap least e, first ∙ ap least e)

-- A clause, over the tokens that count, with what its head's hold and the readers that are free by their numbers.
module _ (free : Bytes → Bool) (whole : Tokens) (xs : List Bytes) (head : Named) (gs : List Named) (distinct : Distinct xs) (rising : Rising 0 whole)
    (counts : (h : Half) (x : Bytes) → length (occurs_at h x whole) ≡ by_number (place_of x xs) (λ n. goals_occurrences h n (head ∷ gs)))
    (in_head : (h : Half) (x : Bytes) → length (occurs_at h x (head_tokens whole)) ≡ by_number (place_of x xs) (λ n. all_occurrences h n head.arguments))
    (licence : ℕ → Bool) (licences : (x : Bytes) (n : ℕ) → place_of x xs ≡ some n → free x ≡ licence n) where
  abbrev rules : Bool
  rules = nothing_twice_but licence (length xs) head gs && both_halves (length xs) (head ∷ gs)

  pub clause_clean : rules ≡ true → least (clause_faults free whole xs) ≡ none
  unfolding least
  clause_clean h =
      rw (clause_clear free whole xs head gs distinct counts in_head licence licences (and_left (nothing_twice_but licence (length xs) head gs) _ h)
      (and_right (nothing_twice_but licence (length xs) head gs) _ h)) refl

  pub clause_fault : rules ≡ false → (f : Fault) × (least (clause_faults free whole xs) ≡ some f) × (first_fault true free whole ≡ some f)
  unfolding least
  clause_fault broken = go (clause_faults free whole xs) refl
    where
      first : first_fault true free whole ≡ least (clause_faults free whole xs)
      first =
          first_is_least true free whole xs (all_known whole xs (λ h n. goals_occurrences h n (head ∷ gs)) counts) 0 rising (clause_faults free whole xs)
          (λ f m. clause_fault_is free whole f xs m) (λ f o. fault_in_clause free whole f xs o)

      go : (l : List Fault) → clause_faults free whole xs ≡ l → (f : Fault) × (least (clause_faults free whole xs) ≡ some f) × (first_fault true free whole ≡ some f)
      go [] e =
          let (h, k) = clause_kept free whole xs head gs distinct counts in_head licence licences e in
          absurd (false_not_true rules broken (rw (h, k) refl))
      go (f ∷ l) e = (_, ap least e, first ∙ ap least e)

-- So the search for the fault has what it asks.
module _ (rest : Bytes) (from begins : ℕ) (bar : Maybe ℕ) (item licensed : List ℕ) (count : ℕ) (places : List Place) (gs : List Named) (free : Bytes → Bool) (behind : Option Tokens)
    (table : VariablesIn rest places item) (count_is : count ≡ length places) (bar_is : BarIs rest from bar behind)
    (halves : (h : Half) (n : ℕ) → n < 16 → get_or item (half_place h n) 0 ≡ min 2 (goals_occurrences h n gs))
    (sound : Sound (pairing behind (piece (tokens_in from rest begins))))
    (counts : (h : Half) (x : Bytes)
    → length (occurs_at h x (pairing behind (piece (tokens_in from rest begins)))) ≡ by_number (place_of x (spellings places)) (λ n. goals_occurrences h n gs))
    (frees_size : length licensed ≡ 16) (frees : (x : Bytes) (n : ℕ) → place_of x (spellings places) ≡ some n → free x ≡ not (eqb (get_or licensed n 0) 0)) where
  pub searches : (both : Bool) (f : Fault) → first_fault both free (pairing behind (piece (tokens_in from rest begins))) ≡ some f
      → Searches rest from item count both begins bar licensed places free behind f
  unfolding by_number
  searches both f found =
      let whole = pairing behind (piece (tokens_in from rest begins)) in
      record {
        searched = record {
          table = table;
          count_is = count_is;
          counted = λ h x n e.
              let few : n < 16 = omega (arith, has_place x places n e, table.few) in
              let often : length (occurs_at h x whole) ≡ goals_occurrences h n gs = rw e at (counts h x) in
              rw often (halves h n few);
          frees_size = frees_size;
          frees = frees;
        };
        walkable = walkable (spellings places) whole sound (λ h x e. rw e at (counts h x));
        bar_is = bar_is;
        found = found;
      }

pub searches_from : (rest : Bytes) (from : ℕ) (item licensed : List ℕ) (count : ℕ) (both : Bool) (m n : ℕ) (bar : Maybe ℕ) (places : List Place) (free : Bytes → Bool) (behind : Option Tokens)
    (f : Fault) → m ≡ n → Searches rest from item count both m bar licensed places free behind f → Searches rest from item count both n bar licensed places free behind f
searches_from rest from item licensed count both m n bar places free behind f e s = rw e at s
