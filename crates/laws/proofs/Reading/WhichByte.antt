-- 5, 9 and 10, of every item that is read: given exactly if document 01's rules are broken by its terms, at the first token that breaks one.
-- What its tokens hold is what its terms hold, so the faults of the one are those of the other; the walk finds the least of them.
use Prim.Native.Nat.{ℕ, ◌≤◌}
use mathlib.Core.Path.{◌≡◌, refl, sym}
use mathlib.Core.Logic.{◌⊎◌, inl, inr}
use mathlib.Core.Bool.{Bool, true, false, ◌&&◌}
use mathlib.Core.List.{List, [], ◌∷◌}
use mathlib.Core.Option.{Option, none, some}
use native.Mathlib.Omega.{arith}
use lib.ListN.{length}
use Rattle.meaning.specs.Bytes.{Bytes, when◌then◌else◌, same, all}
use Rattle.meaning.specs.Terms.{Half, Guard, goals_occurrences}
use Rattle.meaning.specs.Tokens.{Tokens}
use Rattle.meaning.specs.Faults.{Fault, occurs_at, query_faults, least}
use Rattle.meaning.specs.Table.{as_guards, of_the_head, licensed}
use Rattle.meaning.specs.Items.{
  read,
  place_of,
  goals,
  rule,
  guard_rule,
  occurrence_rule,
  clause,
  query,
  refused,
  unless_broken,
  free,
  with_guards,
  unless_unknown,
  clause_piece,
  query_piece,
}
use Rattle.laws.proofs.Lists.{In, here, there, in_none, differ, same_true, and_left, and_right, not_true_is_false}
use Rattle.laws.proofs.Reading.Rules.{nothing_twice, nothing_twice_but, both_halves}
use Rattle.laws.proofs.Reading.Passed.{Cut, by_number}
use Rattle.laws.proofs.Reading.Faultless.{query_kept, query_clear}
use Rattle.laws.proofs.Reading.RuleTokens.{paired_rising}
use Rattle.laws.proofs.Reading.Rising.{Rising}
use Rattle.laws.proofs.Reading.Broken.{none_free, clause_fault_is, fault_in_clause, query_fault_is, fault_in_query}
use Rattle.laws.proofs.Reading.Walk.{first_fault, first_is_least}
use Rattle.laws.proofs.Reading.Items.{ItemRead, goals_fit, paired, rule_over, rule_tokens, goals_tokens, faults_of, rule_kept, rule_clear}

-- A spelling that has a place is in the list.
place_in : (x : Bytes) (l : List Bytes) (n : ℕ) → place_of x l ≡ some n → In x l
unfolding place_of
place_in x [] n e = absurd (differ (cc))
place_in x (y ∷ l) n e = go (same x y) refl (place_of x l) refl (place_in x l)
  where
    go : (b : Bool) → same x y ≡ b → (o : Option ℕ) → place_of x l ≡ o → ((m : ℕ) → place_of x l ≡ some m → In x l) → In x (y ∷ l)
    go true q o p further = here (same_true x y q)
    go false q none p further = let e' : none ≡ some n = rw (q, p, place_of) at e in absurd (differ (cc))
    go false q (some m) p further = there (further m p)

in_length : {p : ℕ} (l : List ℕ) → In p l → 1 ≤ length l
in_length [] m = absurd (in_none m)
in_length (q ∷ l) m = omega arith

-- Every variable among an item's tokens was counted.
module _ (piece : Tokens) (xs : List Bytes) (f : Half → ℕ → ℕ)
    (counts : (h : Half) (x : Bytes) → length (occurs_at h x piece) ≡ by_number (place_of x xs) (f h)) where
  pub all_known : (h : Half) (x : Bytes) (p : ℕ) → In p (occurs_at h x piece) → In x xs
  unfolding by_number
  all_known h x p m = go (place_of x xs) refl
    where
      go : (o : Option ℕ) → place_of x xs ≡ o → In x xs
      go none e = let nothing : length (occurs_at h x piece) ≡ 0 = rw e at (counts h x) in absurd (omega (arith, in_length (occurs_at h x piece) m))
      go (some n) e = place_in x xs n e

-- Of an item that was read: the rules hold of its terms and it has no fault, or they do not and this is the least of its faults.
abbrev pub Judged : Bool → Option Fault → Type 0
Judged kept broken = ((kept ≡ true) × (broken ≡ none)) ⊎ ((kept ≡ false) × ((f : Fault) × (broken ≡ some f)))

judged : (kept : Bool) (l : List Fault) → (l ≡ [] → kept ≡ true) → (kept ≡ true → l ≡ []) → Judged kept (least l)
unfolding least
judged kept [] to from = inl (to refl, refl)
judged kept (f ∷ l) to from = inr (not_true_is_false kept (λ e. let empty : f ∷ l ≡ [] = from e in differ (cc)), (_, refl))

-- Document 01's rules, with T-02 for a clause with these guards, judged of the terms read.
abbrev pub clause_rules : {piece : Tokens} → ItemRead rule piece → List Guard → Bool
clause_rules x guards =
    nothing_twice_but (licensed guards) (length x.counted.variables) x.value.head x.value.body.goals
    && both_halves (length x.counted.variables) (x.value.head ∷ x.value.body.goals)

abbrev pub query_rules : {behind : Tokens} → ItemRead (goals 8) behind → Bool
query_rules x = nothing_twice (length x.counted.variables) x.value

-- 11 is judged first: "for a guard not in the table or with another variable".
module _ {piece : Tokens} (x : ItemRead rule piece) (nth begins : ℕ) where
  pub unknown_guard_refused : as_guards x.value.body.guards ≡ none → clause_piece nth begins piece (read x.value x.counted x.rest) ≡ refused (guard_rule begins)
  unfolding clause_piece unless_unknown
  unknown_guard_refused e = rw e refl

  pub other_variable_refused : (guards : List Guard) → as_guards x.value.body.guards ≡ some guards
      → all (of_the_head (length x.counted.variables) x.value.head) guards ≡ false
      → clause_piece nth begins piece (read x.value x.counted x.rest) ≡ refused (guard_rule begins)
  unfolding clause_piece unless_unknown with_guards when◌then◌else◌
  other_variable_refused guards e q = rw (e, q) refl

module _ {piece : Tokens} (x : ItemRead rule piece) (cut : Cut piece) (guards : List Guard) where
  -- 5, 9 or 10 exactly if "no writer and no reader occurs twice, and a writer occurs exactly if its reader does" is broken in the terms read,
  -- but for the readers that a guard licenses.
  pub clause_judged : Judged (clause_rules x guards) (least (faults_of x cut guards))
  clause_judged =
      judged (clause_rules x guards) (faults_of x cut guards)
      (λ e. let (once, halves) = rule_kept x cut guards e in rw (once, halves) refl)
      (λ e. rule_clear x cut guards (and_left _ _ e)
      (and_right (nothing_twice_but (licensed guards) (length x.counted.variables) x.value.head x.value.body.goals) _ e))

  -- So a clause whose guards keep 11 is accepted exactly if the rules hold, and else refused where the same item begins.
  module _ (in_table : as_guards x.value.body.guards ≡ some guards) (of_head : all (of_the_head (length x.counted.variables) x.value.head) guards ≡ true) (nth begins : ℕ) where
    pub clause_as_before :
        ((clause_rules x guards ≡ true) × (clause_piece nth begins piece (read x.value x.counted x.rest)
        ≡ clause (record { place = nth; head = x.value.head; guards = guards; body = x.value.body.goals; pairs = length x.counted.variables; compounds = x.counted.compounds }) x.counted.names))
        ⊎ ((clause_rules x guards ≡ false) × ((f : Fault) × (clause_piece nth begins piece (read x.value x.counted x.rest) ≡ refused (occurrence_rule begins f))))
    unfolding clause_piece unless_unknown with_guards unless_broken when◌then◌else◌
    clause_as_before = go clause_judged
      where
        go : Judged (clause_rules x guards) (least (faults_of x cut guards))
            → ((clause_rules x guards ≡ true) × (clause_piece nth begins piece (read x.value x.counted x.rest)
            ≡ clause (record { place = nth; head = x.value.head; guards = guards; body = x.value.body.goals; pairs = length x.counted.variables; compounds = x.counted.compounds }) x.counted.names))
            ⊎ ((clause_rules x guards ≡ false) × ((f : Fault) × (clause_piece nth begins piece (read x.value x.counted x.rest) ≡ refused (occurrence_rule begins f))))
        go (inl (kept, e)) = inl (kept, rw (in_table, of_head, e) refl)
        go (inr (broken, (f, e))) = inr (broken, (f, rw (in_table, of_head, e) refl))

  -- The least fault is the first token in text order at which a rule is broken, among those that count.
  pub clause_by_walk : Rising 0 piece → least (faults_of x cut guards) ≡ first_fault true (free guards x.counted.variables) (paired x)
  clause_by_walk rising =
      sym (first_is_least true (free guards x.counted.variables) (paired x) x.counted.variables
      (all_known (paired x) x.counted.variables (λ h n. goals_occurrences h n (x.value.head ∷ x.value.body.goals)) (rule_tokens x cut))
      0 (paired_rising (rule_over x) cut 0 rising) (faults_of x cut guards)
      (λ f m. clause_fault_is (free guards x.counted.variables) (paired x) f x.counted.variables m)
      (λ f o. fault_in_clause (free guards x.counted.variables) (paired x) f x.counted.variables o))

module _ {behind : Tokens} (x : ItemRead (goals 8) behind) (cut : Cut behind) where
  -- In a query 5 alone, exactly if something occurs twice.
  pub query_judged : Judged (query_rules x) (least (query_faults behind x.counted.variables))
  query_judged =
      judged (query_rules x) (query_faults behind x.counted.variables)
      (λ e. query_kept behind x.counted.variables x.value (goals_fit x).onward.figures.variables.distinct (goals_tokens x cut) e)
      (λ e. query_clear behind x.counted.variables x.value (goals_fit x).onward.figures.variables.distinct (goals_tokens x cut) e)

  pub query_as_before : (begins : ℕ)
      → ((query_rules x ≡ true) × (query_piece begins behind (read x.value x.counted x.rest)
      ≡ query (record { goals = x.value; variables = x.counted.variables; compounds = x.counted.compounds }) x.counted.names))
      ⊎ ((query_rules x ≡ false) × ((f : Fault) × (query_piece begins behind (read x.value x.counted x.rest) ≡ refused (occurrence_rule begins f))))
  unfolding query_piece unless_broken
  query_as_before begins = go query_judged
    where
      go : Judged (query_rules x) (least (query_faults behind x.counted.variables))
          → ((query_rules x ≡ true) × (query_piece begins behind (read x.value x.counted x.rest)
          ≡ query (record { goals = x.value; variables = x.counted.variables; compounds = x.counted.compounds }) x.counted.names))
          ⊎ ((query_rules x ≡ false) × ((f : Fault) × (query_piece begins behind (read x.value x.counted x.rest) ≡ refused (occurrence_rule begins f))))
      go (inl (kept, e)) = inl (kept, rw e refl)
      go (inr (broken, (f, e))) = inr (broken, (f, rw e refl))

  pub query_by_walk : Rising 0 behind → least (query_faults behind x.counted.variables) ≡ first_fault false none_free behind
  query_by_walk rising =
      sym (first_is_least false none_free behind x.counted.variables
      (all_known behind x.counted.variables (λ h n. goals_occurrences h n x.value) (goals_tokens x cut))
      0 rising (query_faults behind x.counted.variables) (λ f m. query_fault_is behind f x.counted.variables m) (λ f o. fault_in_query behind f x.counted.variables o))
