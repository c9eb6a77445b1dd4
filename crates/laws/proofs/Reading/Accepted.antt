-- Every accepted item keeps the occurrence rules and the figures.
-- Below the item's number of pairs the tests of 5 say so; from there on nothing occurs, since what is read fits what was counted.
use Prim.Native.Nat.{ℕ, ◌≤◌, ◌<◌, min}
use mathlib.Core.Path.{◌≡◌, refl, sym}
use mathlib.Core.Logic.{⊎_elim}
use mathlib.Core.Bool.{Bool, true, false, ◌&&◌, ◌||◌}
use mathlib.Core.List.{List, [], ◌∷◌}
use native.Mathlib.Decide.{dec_lt}
use native.Mathlib.Omega.{arith}
use lib.Dec.{leb, eqb}
use lib.ListN.{length}
use borrow.Author.Tests.{leb-true, eqb-true}
use Rattle.meaning.specs.Bytes.{Bytes, all}
use Rattle.meaning.specs.Terms.{Half, writer, reader, Named, Guard, Clause, Query, all_occurrences, goals_occurrences}
use Rattle.meaning.specs.Tokens.{Tokens}
use Rattle.meaning.specs.Table.{of_the_head, licensed}
use Rattle.meaning.specs.Items.{Counted, goals, rule}
use Rattle.laws.proofs.Lists.{Each, each_implies, all_up_to, and_left, and_right, or_true, false_not_true}
use Rattle.laws.proofs.Reading.Figures.{Bounds, NamedFits, GuardFits, ClauseFits, QueryFits, Widens, guard_widens, named_widens, terms_below, goals_below}
use Rattle.laws.proofs.Reading.Alike.{bounds}
use Rattle.laws.proofs.Reading.Items.{Among, ItemRead, rule_fits, goals_fit, behind_first}
use Rattle.laws.proofs.Reading.GuardsRead.{GuardsSaid, as_guards_said}
use Rattle.laws.proofs.Reading.ItemByItem.{ClauseAmong, QueryAmong}
use Rattle.laws.proofs.Reading.Rules.{nothing_twice, nothing_twice_but, both_halves, ClauseOk, QueryOk}

-- Heads and goals that fit, and that pass the tests of the occurrence rules.
module _ (b : Bounds) (gs : List Named) (fits : Each (NamedFits b) gs) where
  pub once_for_all : nothing_twice b.pairs gs ≡ true → (h : Half) (n : ℕ) → goals_occurrences h n gs ≤ 1
  unfolding nothing_twice
  once_for_all test h n = go h (dec_lt n b.pairs)
    where
      few : Half → Bool
      few h = leb (goals_occurrences h n gs) 1

      tested : n < b.pairs → (few writer && few reader) ≡ true
      tested below = all_up_to (λ n. leb (goals_occurrences writer n gs) 1 && leb (goals_occurrences reader n gs) 1) b.pairs test n below

      go : (h : Half) → Dec (n < b.pairs) → goals_occurrences h n gs ≤ 1
      go writer (yes below) = leb-true (goals_occurrences writer n gs) 1 (and_left (few writer) (few reader) (tested below))
      go reader (yes below) = leb-true (goals_occurrences reader n gs) 1 (and_right (few writer) (few reader) (tested below))
      go writer (no past) = omega (arith, goals_below b writer n (omega arith) gs fits)
      go reader (no past) = omega (arith, goals_below b reader n (omega arith) gs fits)

  pub halves_for_all : both_halves b.pairs gs ≡ true → (n : ℕ) → min 1 (goals_occurrences writer n gs) ≡ min 1 (goals_occurrences reader n gs)
  unfolding both_halves
  halves_for_all test n = go (dec_lt n b.pairs)
    where
      go : Dec (n < b.pairs) → min 1 (goals_occurrences writer n gs) ≡ min 1 (goals_occurrences reader n gs)
      go (yes below) =
          eqb-true (min 1 (goals_occurrences writer n gs)) (min 1 (goals_occurrences reader n gs))
          (all_up_to (λ n. eqb (min 1 (goals_occurrences writer n gs)) (min 1 (goals_occurrences reader n gs))) b.pairs test n below)
      go (no past) = rw (goals_below b writer n (omega arith) gs fits, goals_below b reader n (omega arith) gs fits) refl

-- A clause that passes the tests: its writers stand once, its readers too but for those that are free, and in the head all.
module _ (b : Bounds) (free : ℕ → Bool) (head : Named) (gs : List Named) (fits : Each (NamedFits b) (head ∷ gs))
    (test : nothing_twice_but free b.pairs head gs ≡ true) where
  head_test : nothing_twice b.pairs (head ∷ []) ≡ true
  unfolding nothing_twice_but
  head_test = and_left _ _ test

  pub head_once : (h : Half) (n : ℕ) → all_occurrences h n head.arguments ≤ 1
  unfolding goals_occurrences
  head_once h n = omega (arith, once_for_all b (head ∷ []) (fits.0, tt) head_test h n)

  both_tests : (n : ℕ) → n < b.pairs
      → (leb (goals_occurrences writer n (head ∷ gs)) 1 && (free n || leb (goals_occurrences reader n (head ∷ gs)) 1)) ≡ true
  unfolding nothing_twice_but
  both_tests n below =
      all_up_to (λ n. leb (goals_occurrences writer n (head ∷ gs)) 1 && (free n || leb (goals_occurrences reader n (head ∷ gs)) 1)) b.pairs
      (and_right (nothing_twice b.pairs (head ∷ [])) _ test) n below

  pub writers_once : (n : ℕ) → goals_occurrences writer n (head ∷ gs) ≤ 1
  writers_once n = go (dec_lt n b.pairs)
    where
      go : Dec (n < b.pairs) → goals_occurrences writer n (head ∷ gs) ≤ 1
      go (yes below) = leb-true (goals_occurrences writer n (head ∷ gs)) 1 (and_left _ _ (both_tests n below))
      go (no past) = omega (arith, goals_below b writer n (omega arith) (head ∷ gs) fits)

  pub readers_once : (n : ℕ) → free n ≡ false → goals_occurrences reader n (head ∷ gs) ≤ 1
  readers_once n bound = go (dec_lt n b.pairs)
    where
      go : Dec (n < b.pairs) → goals_occurrences reader n (head ∷ gs) ≤ 1
      go (yes below) =
          ⊎_elim (λ e. absurd (false_not_true (free n) bound e)) (λ e. leb-true (goals_occurrences reader n (head ∷ gs)) 1 e)
          (or_true (free n) _ (and_right (leb (goals_occurrences writer n (head ∷ gs)) 1) _ (both_tests n below)))
      go (no past) = omega (arith, goals_below b reader n (omega arith) (head ∷ gs) fits)

-- A guard's variables are readers of writers in the head.
module _ (b : Bounds) where
  guard_readers : (head : Named) (g : Guard) → GuardFits b g → of_the_head b.pairs head g ≡ true
      → (h : Half) (n : ℕ) → 1 ≤ all_occurrences h n g.arguments → (h ≡ reader) × (1 ≤ all_occurrences writer n head.arguments)
  unfolding of_the_head
  guard_readers head g said test h n m = go h m (dec_lt n b.pairs)
    where
      writers : ℕ
      writers = all_occurrences writer n g.arguments

      readers : ℕ
      readers = all_occurrences reader n g.arguments

      tested : n < b.pairs → (eqb writers 0 && (eqb readers 0 || leb 1 (all_occurrences writer n head.arguments))) ≡ true
      tested below =
          all_up_to (λ n. eqb (all_occurrences writer n g.arguments) 0 && (eqb (all_occurrences reader n g.arguments) 0 || leb 1 (all_occurrences writer n head.arguments)))
          b.pairs test n below

      go : (h : Half) → 1 ≤ all_occurrences h n g.arguments → Dec (n < b.pairs) → (h ≡ reader) × (1 ≤ all_occurrences writer n head.arguments)
      go h m (no past) = absurd (omega (arith, terms_below b h n (omega arith) g.arguments said.arguments))
      go writer m (yes below) = absurd (omega (arith, eqb-true writers 0 (and_left _ _ (tested below))))
      go reader m (yes below) = (
        refl,
        ⊎_elim (λ e. absurd (omega (arith, eqb-true readers 0 e))) (λ e. leb-true 1 (all_occurrences writer n head.arguments) e)
            (or_true (eqb readers 0) _ (and_right (eqb writers 0) _ (tested below))),
      )

  all_guard_readers : (head : Named) (gs : List Guard) → Each (GuardFits b) gs → all (of_the_head b.pairs head) gs ≡ true
      → Each (λ g. (h : Half) (n : ℕ) → 1 ≤ all_occurrences h n g.arguments → (h ≡ reader) × (1 ≤ all_occurrences writer n head.arguments)) gs
  unfolding all
  all_guard_readers head [] said test = tt
  all_guard_readers head (g ∷ gs) said test =
      (guard_readers head g said.0 (and_left _ _ test), all_guard_readers head gs said.1 (and_right (of_the_head b.pairs head g) _ test))

at_least_one : (m n : ℕ) → min 1 m ≡ min 1 n → 1 ≤ m → 1 ≤ n
at_least_one m n e l = omega (arith, e)

-- The same bounds with the names of the whole text.
names_widen : (counted : Counted) (names : List Bytes) → Among counted.names names
    → Widens (bounds counted) (record { pairs = length counted.variables; compounds = counted.compounds; names = names })
names_widen counted names among = record { pairs = omega arith; compounds = omega arith; names = among }

-- What a piece reads as keeps the occurrence rules, and the figures.
module _ (names : List Bytes) (piece : Tokens) (c : Clause) (r : ClauseAmong names piece c) where
  clause_item : ItemRead rule piece
  clause_item = r.0.item

  clause_some : 1 ≤ clause_item.counted.compounds
  clause_some = omega (arith, (rule_fits clause_item).holds.head.number)

  clause_each : Each (NamedFits (bounds clause_item.counted)) (clause_item.value.head ∷ clause_item.value.body.goals)
  clause_each = ((rule_fits clause_item).holds.head, (rule_fits clause_item).holds.body)

  clause_guards : GuardsSaid (bounds clause_item.counted) (rule_fits clause_item).onward.figures.names.spelled clause_some
      (rule_fits clause_item).holds.behind_head (rule_fits clause_item).holds.behind_guards clause_item.value.body.guards r.0.guards
  unfolding clause_item
  clause_guards =
      as_guards_said (bounds clause_item.counted) (rule_fits clause_item).onward.figures.names.spelled clause_some
      (rule_fits clause_item).holds.behind_head (rule_fits clause_item).holds.behind_guards clause_item.value.body.guards
      (rule_fits clause_item).holds.guards (rule_fits clause_item).holds.guards_numbered r.0.guards r.0.in_table

  pub clause_ok : ClauseOk c
  unfolding clause_item clause_some
  clause_ok =
      let b = bounds clause_item.counted in
      let gs = clause_item.value.head ∷ clause_item.value.body.goals in
      rw r.0.made (record {
        below = λ h n past. goals_below b h n past gs clause_each;
        writers_once = writers_once b (licensed r.0.guards) clause_item.value.head clause_item.value.body.goals clause_each r.0.not_twice;
        readers_once = readers_once b (licensed r.0.guards) clause_item.value.head clause_item.value.body.goals clause_each r.0.not_twice;
        head_once = head_once b (licensed r.0.guards) clause_item.value.head clause_item.value.body.goals clause_each r.0.not_twice;
        halves = λ n. (at_least_one _ _ (halves_for_all b gs clause_each r.0.halves n), at_least_one _ _ (sym (halves_for_all b gs clause_each r.0.halves n)));
        guards_in_table = each_implies _ _ (λ g said. (said.in_table, said.counted)) r.0.guards clause_guards.fit;
        guards_readers = all_guard_readers b clause_item.value.head r.0.guards clause_guards.fit r.0.of_head;
      })

  pub clause_fits : ClauseFits names c
  unfolding clause_item clause_some
  clause_fits =
      let fits = rule_fits clause_item in
      let wider = names_widen clause_item.counted names r.1 in
      rw r.0.made (record {
        few_pairs = fits.onward.figures.variables.few;
        few_compounds = fits.onward.figures.compounds;
        few_guards = omega (arith, clause_guards.as_many, fits.holds.few_guards);
        few_goals = fits.holds.few_goals;
        behind_head = fits.holds.behind_head;
        behind_guards = fits.holds.behind_guards;
        head_numbered = fits.holds.head_numbered;
        guards_numbered = clause_guards.numbered;
        body_numbered = fits.holds.body_numbered;
        guards = each_implies _ _ (guard_widens wider) r.0.guards clause_guards.fit;
        nested = fits.holds.nested;
        head = named_widens wider clause_item.value.head fits.holds.head;
        body = each_implies _ _ (named_widens wider) clause_item.value.body.goals fits.holds.body;
      })

module _ (names : List Bytes) (piece : Tokens) (q : Query) (r : QueryAmong names piece q) where
  query_item : ItemRead (goals 8) (behind_first piece)
  query_item = r.0.item

  pub query_ok : QueryOk q
  unfolding query_item
  query_ok =
      let b = bounds query_item.counted in
      let fits = goals_fit query_item in
      rw r.0.made (record {
        below = λ h n past. goals_below b h n past query_item.value fits.holds.fit;
        once = once_for_all b query_item.value fits.holds.fit r.0.not_twice;
      })

  pub query_fits : QueryFits names q
  unfolding query_item
  query_fits =
      let fits = goals_fit query_item in
      let wider = names_widen query_item.counted names r.1 in
      rw r.0.made (record {
        few_pairs = fits.onward.figures.variables.few;
        few_compounds = fits.onward.figures.compounds;
        some_goals = fits.holds.some_goals;
        few_goals = fits.holds.few_goals;
        variables = fits.onward.figures.variables;
        numbered = fits.holds.numbered;
        nested = fits.holds.nested;
        goals = each_implies _ _ (named_widens wider) query_item.value fits.holds.fit;
      })
