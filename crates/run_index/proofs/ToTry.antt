-- The clauses to try for a goal: all of its procedure, by its own chain; or where it is told apart and the goal has no variable there, by the keys.
use Prim.Native.Nat.{ℕ, ◌+◌, ◌-◌, ◌≤◌, ◌<◌}
use mathlib.Core.Path.{◌≡◌, refl, ap, ◌∙◌}
use mathlib.Core.Logic.{◌≢◌}
use mathlib.Core.List.{List}
use Rattle.std.specs.Prelude.{Option, None}
use native.Mathlib.Omega.{arith}
use lib.ListN.{length, get_or}
use Rattle.meaning.specs.Bytes.{Bytes}
use Rattle.meaning.specs.Terms.{Named, Clause, Job}
use Rattle.meaning.specs.Trial.{procedure}
use Rattle.term.specs.Words.{link_to, tag_in}
use Rattle.term.specs.Jobs.{Linked, ClauseAt}
use Rattle.term.specs.Layout.{procedure_slot, told_word, followed_part}
use Rattle.term.proofs.Held.{linked_next}
use Rattle.term.proofs.Numbers.{number_below}
use Rattle.run_index.specs.Index.{kind_of, KindReads, key_of, functor_of, told_by, FirstOf, HasKey}
use Rattle.run_index.specs.Left.{Idle, Left, Sought, LeadsAre, InOrder}
use Rattle.run_index.specs.declared.leads.Leads.{Leads}
use Rattle.run_index.proofs.First.{first_from}
use Rattle.run_index.proofs.Keyed.{Keyed, other_key, keyed_left}
use Rattle.run_index.proofs.TermKinds.{kind_no_writer}
use Rattle.run_index.proofs.Left.{left_apart, left_ordered}
use Rattle.run_index.proofs.Procedures.{FirstChosen, first_chosen, linked_left}

-- The first word of the goal's compound, and the procedure's chain.
module _ {s : List ℕ} {names : List Bytes} {j : Job} {goal : Named} {functor first : ℕ} (sought : Sought s names j goal functor first) where
  pub functor_few : functor ≤ 2054
  functor_few = omega (arith, sought.functor_is, sought.few, sought.held.few_names, number_below goal.name names sought.known)

  chain : Linked s (ClauseAt s names) first (procedure j.clauses goal)
  chain =
      rw (sought.first_is ∙ ap (λ f. get_or s (procedure_slot f) 0) sought.functor_is)
      (sought.held.procedures goal sought.known sought.few)

-- The first clause.
module _ {s : List ℕ} {names : List Bytes} {j : Job} {goal : Named} {functor : ℕ} (k : ℕ) (sought : Sought s names j goal functor (k + 1)) where
  at_first : (c : Clause) × ClauseAt s names k c × FirstChosen s functor 0 j.clauses c
  at_first =
      let (c, rest, e, at, on) = linked_next s (ClauseAt s names) (k + 1) (procedure j.clauses goal) (λ e. omega arith) (chain sought) in
      let number : k + 1 - 1 ≡ k = omega arith in (
        c,
        rw number at at,
        first_chosen s names goal functor sought.known sought.few sought.functor_is 0 j.clauses c rest sought.held.clauses sought.numbered e,
      )

  pub first_few : k < 128
  first_few = at_first.1.number

  pub first_inside : k < length j.clauses
  first_inside = let (c, at, chosen) = at_first in omega (arith, at.nth, chosen.high)

  pub first_functor : functor_of s k ≡ functor
  first_functor =
      let (c, at, chosen) = at_first in
      let number : c.place - 1 ≡ k = omega (arith, at.nth) in
      rw number at chosen.functor_is

  none_before : (i : ℕ) → i < k → functor_of s i ≢ functor
  none_before i h = let (c, at, chosen) = at_first in chosen.none_before i (omega arith) (omega (arith, at.nth))

  -- What its procedure is told apart by.
  module _ (told : ℕ) (told_is : get_or s (told_word k) 0 ≡ told) where
    by : told_by s functor ≡ told
    by =
        let number : get_or s (procedure_slot functor) 0 - 1 ≡ k = omega (arith, sought.first_is) in
        ap (λ f. get_or s (told_word f) 0) number ∙ told_is

    pub told_inside : told ≤ tag_in functor
    told_inside = rw by at (rw first_functor at (sought.indexed.told k first_inside))

    module _ (telling : 1 ≤ told) where
      pub told_reads : KindReads s (get_or s (followed_part + told) 0)
      told_reads = sought.reads told telling told_inside

      -- The chains of the goal's key and of writers, in order.
      pub leads_keyed : (kind a b : ℕ) (r : Leads) → kind ≡ kind_of s (get_or s (followed_part + told) 0) → 2 < kind
          → FirstOf (HasKey s (key_of functor kind)) 0 (length j.clauses) a
          → FirstOf (HasKey s (key_of functor 0)) k (length j.clauses) b
          → InOrder a 25 b 26 r → LeadsAre s names j goal functor r
      leads_keyed kind a b r is closed same behind order = record {
        nearest = order.nearest (omega arith) (omega arith) (left_apart s (Idle s functor) (ClauseAt s names) 0 (procedure j.clauses goal) a 25 b 26 left);
        left = left_ordered s (Idle s functor) (ClauseAt s names) 0 (procedure j.clauses goal) a 25 b 26 r order left;
      }
        where
          keyed : Keyed s functor told kind
          keyed = record {
            by = by;
            some = λ e. omega arith;
            inside = told_inside;
            is = is;
            closed = closed;
            no_writer = rw is (kind_no_writer s (get_or s (followed_part + told) 0) (sought.tagged told telling told_inside) (rw is at closed));
          }

          left : Left s (Idle s functor) (ClauseAt s names) 0 (procedure j.clauses goal) a 25 b 26
          left =
              keyed_left s names goal functor told kind (length j.clauses) sought.known sought.few sought.functor_is sought.indexed keyed
              0 0 a b j.clauses (omega arith) (omega arith) sought.held.clauses sought.numbered same
              (first_from (HasKey s (key_of functor 0)) 0 k (length j.clauses) b (omega arith)
              (λ i low high. other_key s functor 0 i (none_before i high)) behind)

-- The procedure's own chain.
pub leads_all : {s : List ℕ} {names : List Bytes} {j : Job} {goal : Named} {functor : ℕ} (first : Option ℕ)
    → Sought s names j goal functor (link_to first) → LeadsAre s names j goal functor (record { next = first; link = 0; other = None; onward = 0 })
leads_all {s} {names} {j} {goal} {functor} first sought = record {
  nearest = record { none = λ e. refl; before = λ d. absurd (d refl); link_inside = omega arith; other_inside = omega arith };
  left = linked_left s names goal (Idle s functor) 0 0 (link_to first) j.clauses (omega arith) sought.numbered (chain sought);
}
