-- The clauses of a job in text order: which of them are a goal's procedure is told by their functors' words, and they count from 1.
use Prim.Native.Nat.{ℕ, ◌+◌, ◌-◌, ◌≤◌, ◌<◌}
use mathlib.Core.Path.{◌≡◌, refl, sym, ap, ◌∙◌}
use mathlib.Core.Bool.{Bool, true, false, ◌&&◌}
use mathlib.Core.Logic.{inl, ◌≢◌}
use mathlib.Core.List.{List, [], ◌∷◌}
use native.Mathlib.Decide.{ℕ_discrete}
use native.Mathlib.Omega.{arith}
use lib.Dec.{eqb}
use lib.ListN.{length, get_or}
use borrow.Author.Tests.{eqb-true, eq-eqb}
use Rattle.meaning.specs.Bytes.{Bytes, same, those}
use Rattle.meaning.specs.Terms.{Named, named, Clause, Job, count, as_term}
use Rattle.meaning.specs.Items.{job, reading}
use Rattle.meaning.specs.Trial.{procedure}
use Rattle.laws.proofs.Lists.Filters.{those_in, those_out}
use Rattle.laws.proofs.Lists.Tests.{and_left, and_right, differ, false_not_true}
use Rattle.laws.proofs.Reading.{accepted_is_read}
use Rattle.laws.proofs.Reading.ItemByItem.{CountedFrom}
use Rattle.term.specs.Cells.{KnownName, Known, functor_word, number_of}
use Rattle.term.specs.Holds.{Holds}
use Rattle.term.specs.Jobs.{places_from, GoalsKnown, EachFrom, Linked, HoldsClause, ClauseAt}
use Rattle.term.specs.Layout.{item_place, clause_record, clause_base, clause_head}
use Rattle.term.proofs.Held.{head_first, numbers_tell}
use Rattle.term.proofs.Numbers.{same_equal}
use Rattle.run_index.specs.Index.{functor_of}
use Rattle.run_index.specs.Left.{Left}

-- The clauses of an accepted text count from 1.
counted_each : (k : ℕ) (cs : List Clause) → CountedFrom (k + 1) cs → EachFrom (λ i c. c.place ≡ i + 1) k cs
unfolding EachFrom
counted_each k [] h = tt
counted_each k (c ∷ cs) h = (h.0, counted_each (k + 1) cs h.1)

pub job_numbered : (text : Bytes) (j : Job) → reading text ≡ job j → EachFrom (λ i c. c.place ≡ i + 1) 0 j.clauses
job_numbered text j e = counted_each 0 j.clauses (accepted_is_read text j e).nth

-- Whether a clause is one of a goal's procedure.
abbrev pub chosen : Named → Clause → Bool
chosen goal c = same c.head.name goal.name && eqb (count c.head.arguments) (count goal.arguments)

pub procedure_none : (goal : Named) → procedure [] goal ≡ []
unfolding procedure those
procedure_none goal = refl

module _ (goal : Named) (c : Clause) (cs : List Clause) where
  pub procedure_with : chosen goal c ≡ true → procedure (c ∷ cs) goal ≡ c ∷ procedure cs goal
  unfolding procedure
  procedure_with e = those_in (chosen goal) c cs e

  pub procedure_without : chosen goal c ≡ false → procedure (c ∷ cs) goal ≡ procedure cs goal
  unfolding procedure
  procedure_without e = those_out (chosen goal) c cs e

-- A clause's head has its functor's word where the index reads it; by this word the procedure is told from others.
module _ (s : List ℕ) (names : List Bytes) (k : ℕ) (c : Clause) (held : HoldsClause s names k c) where
  pub head_functor : functor_of s k ≡ functor_word (places_from names 0) (named c.head.name) (count c.head.arguments)
  unfolding Holds as_term
  head_functor =
      let place : clause_head k ≡ item_place (clause_base k) c.head.number = omega (arith, head_first names c held.laid) in
      ap (λ i. get_or s i 0) place ∙ held.head.0.functor

  pub head_few : count c.head.arguments ≤ 6
  unfolding Holds as_term
  head_few = held.head.0.few

  pub head_known : KnownName names c.head.name
  unfolding GoalsKnown Known as_term
  head_known = held.laid.known.0.0

  module _ (goal : Named) (functor : ℕ) (known : KnownName names goal.name) (few : count goal.arguments ≤ 6)
      (is : functor ≡ functor_word (places_from names 0) (named goal.name) (count goal.arguments)) where
    pub chosen_functor : chosen goal c ≡ true → functor_of s k ≡ functor
    chosen_functor e =
        let alike = same c.head.name goal.name in
        let as_many = eqb (count c.head.arguments) (count goal.arguments) in
        let name = same_equal c.head.name goal.name (and_left alike as_many e) in
        let arguments = eqb-true (count c.head.arguments) (count goal.arguments) (and_right alike as_many e) in
        head_functor ∙ rw (name, arguments) (sym is)

    pub other_functor : chosen goal c ≡ false → functor_of s k ≢ functor
    other_functor e f =
        let equal = sym head_functor ∙ f ∙ is in
        let name : number_of c.head.name names ≡ number_of goal.name names = omega (arith, head_few) in
        let arguments : count c.head.arguments ≡ count goal.arguments = omega (arith, head_few) in
        let alike : same c.head.name goal.name ≡ true =
        sym (numbers_tell c.head.name goal.name names head_known known) ∙ eq-eqb (number_of c.head.name names) (number_of goal.name names) name in
        false_not_true (chosen goal c) e (rw (alike, eq-eqb (count c.head.arguments) (count goal.arguments) arguments))

-- The first clause of the procedure, among those from clause k on.
pub record FirstChosen (s : List ℕ) (functor k : ℕ) (cs : List Clause) (c : Clause) : Type 0 where
  pub low : k < c.place
  pub high : c.place ≤ k + length cs
  pub none_before : (i : ℕ) → k ≤ i → i + 1 < c.place → functor_of s i ≢ functor
  pub functor_is : functor_of s (c.place - 1) ≡ functor

module _ (s : List ℕ) (names : List Bytes) (goal : Named) (functor : ℕ) (known : KnownName names goal.name) (few : count goal.arguments ≤ 6)
    (is : functor ≡ functor_word (places_from names 0) (named goal.name) (count goal.arguments)) where
  pub first_chosen : (k : ℕ) (cs : List Clause) (c : Clause) (rest : List Clause) → EachFrom (HoldsClause s names) k cs
      → EachFrom (λ i c. c.place ≡ i + 1) k cs → procedure cs goal ≡ c ∷ rest → FirstChosen s functor k cs c
  unfolding EachFrom
  first_chosen k [] c rest held nth e = let z : [] ≡ c ∷ rest = sym (procedure_none goal) ∙ e in absurd (differ (cc))
  first_chosen k (d ∷ cs) c rest held nth e = go (chosen goal d) refl (first_chosen (k + 1) cs c rest held.1 nth.1)
    where
      go : (b : Bool) → chosen goal d ≡ b → (procedure cs goal ≡ c ∷ rest → FirstChosen s functor (k + 1) cs c) → FirstChosen s functor k (d ∷ cs) c
      go true t further =
          let both : d ∷ procedure cs goal ≡ c ∷ rest = sym (procedure_with goal d cs t) ∙ e in
          let this : c ≡ d = cc in
          let number : d.place - 1 ≡ k = omega (arith, nth.0) in
          rw this (record {
            low = omega (arith, nth.0);
            high = omega (arith, nth.0);
            none_before = λ i a b. absurd (omega (arith, nth.0));
            functor_is = rw number (chosen_functor s names k d held.0 goal functor known few is t);
          })
      go false t further =
          let later = further (sym (procedure_without goal d cs t) ∙ e) in
          record {
            low = omega (arith, later.low);
            high = omega (arith, later.high);
            none_before = λ i a b. before later i a b (ℕ_discrete i k);
            functor_is = later.functor_is;
          }
        where
          before : FirstChosen s functor (k + 1) cs c → (i : ℕ) → k ≤ i → i + 1 < c.place → Dec (i ≡ k) → functor_of s i ≢ functor
          before later i a b (yes same) = rw same (other_functor s names k d held.0 goal functor known few is t)
          before later i a b (no other) = later.none_before i (omega arith) b

-- The procedure's own chain, whose clauses stand in text order: they are all left.
module _ (s : List ℕ) (names : List Bytes) (goal : Named) (Out : ℕ → Type 0) where
  pub linked_left : (from k w : ℕ) (cs : List Clause) → from ≤ k → EachFrom (λ i c. c.place ≡ i + 1) k cs
      → Linked s (ClauseAt s names) w (procedure cs goal) → Left s Out (ClauseAt s names) from (procedure cs goal) w 0 0 0
  unfolding EachFrom Linked Left
  linked_left from k w [] low nth l =
      let none : Linked s (ClauseAt s names) w [] = rw (procedure_none goal) at l in
      rw (procedure_none goal) (none, refl)
  linked_left from k w (c ∷ cs) low nth l = go (chosen goal c) refl (λ f v a. linked_left f (k + 1) v cs a nth.1)
    where
      go : (b : Bool) → chosen goal c ≡ b
          → ((f v : ℕ) → f ≤ k + 1 → Linked s (ClauseAt s names) v (procedure cs goal) → Left s Out (ClauseAt s names) f (procedure cs goal) v 0 0 0)
          → Left s Out (ClauseAt s names) from (procedure (c ∷ cs) goal) w 0 0 0
      go true t further =
          let chain : Linked s (ClauseAt s names) w (c ∷ procedure cs goal) = rw (procedure_with goal c cs t) at l in
          let i = chain.0 in
          let own = chain.2 in
          let first : clause_record i + 0 ≡ clause_record i = omega arith in
          rw (procedure_with goal c cs t)
          (i, omega (arith, own.nth, nth.0), own, inl (chain.1, further (i + 1) (get_or s (clause_record i + 0) 0) (omega (arith, own.nth, nth.0)) (rw first chain.3)))
      go false t further = rw (procedure_without goal c cs t) (further from w (omega arith) (rw (procedure_without goal c cs t) at l))
