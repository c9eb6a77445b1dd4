-- The heads of the clauses of a job that is held can be read, and each procedure has a first clause, with the same functor.
use Prim.Native.Nat.{ℕ, zero, suc, ◌+◌, ◌-◌, ◌≤◌, ◌<◌}
use mathlib.Core.Path.{◌≡◌, refl, sym, ap, subst}
use mathlib.Core.Bool.{Bool, true, false}
use mathlib.Core.List.{List, [], ◌∷◌}
use native.Mathlib.Omega.{arith}
use lib.ListN.{length, get_or}
use borrow.Author.Tests.{eq-eqb}
use Rattle.meaning.specs.Bytes.{Bytes, those, when◌then◌else◌}
use Rattle.meaning.specs.Terms.{writer, reader, Constant, Functor, cell, named, Term, Terms, end, more, Clause, Job, count, as_term}
use Rattle.meaning.specs.Trial.{procedure}
use Rattle.term.specs.Words.{tag_in, rest_in}
use Rattle.term.specs.Cells.{Places, term_word, functor_word, Known, AllKnown, KnownFunctor}
use Rattle.term.specs.Holds.{Holds, HoldsFrom}
use Rattle.term.specs.Jobs.{places_from, GoalsKnown, HoldsClause, Linked, procedure_place, ClauseAt, HoldsJob}
use Rattle.term.specs.Layout.{clause_base, clause_head, procedure_slot}
use Rattle.term.proofs.Held.{head_first}
use Rattle.term.proofs.Jobs.{each_at}
use Rattle.term.proofs.Numbers.{same_refl, number_below}
use Rattle.run_index.specs.Index.{functor_of, first_of}
use Rattle.run_index.specs.Building.{ReadsBehind, HeadReads, HeadsRead}
use Rattle.run_index.proofs.Procedures.{chosen, head_functor, head_few, head_known, chosen_functor}

-- The words of a clause's terms.
module _ (s : List ℕ) (names : List Bytes) (k : ℕ) (few_names : length names ≤ 256) where
  abbrev places : Places
  places = places_from names (clause_base k)

  functor_small : (f : Functor) (n : ℕ) → KnownFunctor names f → n ≤ 6 → functor_word places f n ≤ 2054
  functor_small cell n known few = omega arith
  functor_small (named f) n known few = omega (arith, number_below f names known)

  word_reads : (t : Term) → Known names t → Holds s places t → ReadsBehind s (term_word places t)
  unfolding Known Holds
  word_reads (Term.variable writer n) known h e = absurd (omega arith)
  word_reads (Term.variable reader n) known h e = absurd (omega arith)
  word_reads (Term.constant (Constant.integer i)) known h e = absurd (omega arith)
  word_reads (Term.constant (Constant.name f)) known h e = absurd (omega arith)
  word_reads (Term.constant Constant.empty) known h e = absurd (omega arith)
  word_reads (Term.compound n f ts) known h e =
      let place : rest_in (term_word places (Term.compound n f ts)) ≡ places.compound n = omega arith in
      rw place (
        omega arith,
        omega (arith, h.0.inside),
        omega (arith, h.0.functor, functor_small f (count ts) known.0 h.0.few),
      )

  argument_reads : (n i m : ℕ) (ts : Terms) → m < count ts → AllKnown names ts → HoldsFrom s places n i ts
      → ReadsBehind s (get_or s (places.compound n + 1 + (i + m)) 0)
  unfolding count AllKnown HoldsFrom
  argument_reads n i m end high known h = absurd (omega arith)
  argument_reads n i zero (more t ts) high known h = let at : i + 0 ≡ i = omega arith in rw (at, h.0) (word_reads t known.0 h.1)
  argument_reads n i (suc m) (more t ts) high known h =
      let at : i + suc m ≡ (i + 1) + m = omega arith in
      rw at (argument_reads n (i + 1) m ts (omega arith) known.1 h.2)

  -- A clause that is held.
  module _ (c : Clause) (h : HoldsClause s names k c) where
    head_place : places.compound c.head.number ≡ clause_head k
    head_place = let first : c.head.number ≡ 0 = head_first names c h.laid in omega arith

    pub head_small : functor_of s k ≤ 2054
    head_small =
        rw (head_functor s names k c h)
        (functor_small (named c.head.name) (count c.head.arguments) (head_known s names k c h) (head_few s names k c h))

    pub head_arguments : (i : ℕ) → 1 ≤ i → i ≤ tag_in (functor_of s k) → ReadsBehind s (get_or s (clause_head k + i) 0)
    unfolding GoalsKnown Known Holds as_term
    head_arguments i low high =
        let few : count c.head.arguments ≤ 6 = head_few s names k c h in
        let inside : i - 1 < count c.head.arguments = omega (arith, head_functor s names k c h) in
        let at : clause_head k + i ≡ places.compound c.head.number + 1 + (0 + (i - 1)) = omega (arith, head_place) in
        rw at (argument_reads c.head.number 0 (i - 1) c.head.arguments inside h.laid.known.0.1 h.head.1)

-- If one of a list passes a test, there is a first that does.
one_passes : {A : Type 0} (test : A → Bool) (l : List A) (i : ℕ) (d : A) → i < length l → test (get_or l i d) ≡ true
    → (a : A) × (rest : List A) × (those test l ≡ a ∷ rest) × (test a ≡ true)
unfolding those when◌then◌else◌
one_passes test [] i d h e = absurd (omega arith)
one_passes {A} test (a ∷ l) zero d h e = (a, those test l, rw e refl, e)
one_passes {A} test (a ∷ l) (suc i) d h e = go (test a) refl (one_passes test l i d (omega arith) e)
  where
    go : (b : Bool) → test a ≡ b → (x : A) × (rest : List A) × (those test l ≡ x ∷ rest) × (test x ≡ true)
        → (x : A) × (rest : List A) × ((when b then a ∷ those test l else those test l) ≡ x ∷ rest) × (test x ≡ true)
    go true f r = (a, those test l, refl, f)
    go false f r = r

chosen_self : (c : Clause) → chosen c.head c ≡ true
chosen_self c = rw (same_refl c.head.name, eq-eqb (count c.head.arguments) (count c.head.arguments) refl)

-- The first clause of the procedure of clause k, of the job's.
module _ (s : List ℕ) (names : List Bytes) (j : Job) (job : HoldsJob s names j) (k : ℕ) (number : k < length j.clauses) (d : Clause) where
  abbrev c : Clause
  c = get_or j.clauses k d

  held : HoldsClause s names k c
  held =
      let counted : 0 + k ≡ k = omega arith in
      subst (λ n. HoldsClause s names n c) counted (each_at (HoldsClause s names) 0 k j.clauses d number job.clauses)

  abbrev word_is : ℕ → Type 0
  word_is w = (first : ℕ) × (w ≡ first + 1) × (first < 128) × (functor_of s first ≡ functor_of s k)

  own_functor : functor_of s k ≡ functor_word (places_from names 0) (named c.head.name) (count c.head.arguments)
  own_functor = head_functor s names k c held

  first_held : (w : ℕ) (a : Clause) (rest : List Clause) → chosen c.head a ≡ true → Linked s (ClauseAt s names) w (a ∷ rest) → word_is w
  unfolding Linked
  first_held w a rest passes l =
      let known = head_known s names k c held in
      (l.0, l.1, l.2.number, chosen_functor s names l.0 a l.2.held c.head (functor_of s k) known (head_few s names k c held) own_functor passes)

  own_first : word_is (get_or s (procedure_slot (functor_of s k)) 0)
  unfolding procedure
  own_first =
      let (a, rest, first, passes) = one_passes (chosen c.head) j.clauses k d number (chosen_self c) in
      let linked = job.procedures c.head (head_known s names k c held) (head_few s names k c held) in
      subst word_is (ap (λ w. get_or s (procedure_slot w) 0) (sym own_functor))
      (first_held (get_or s (procedure_place names c.head) 0) a rest passes
      (subst (λ l. Linked s (ClauseAt s names) (get_or s (procedure_place names c.head) 0) l) first linked))

  pub head_reads : HeadReads s k
  head_reads =
      let (first, word, below, functor) = own_first in
      let is : first_of s (functor_of s k) ≡ first = omega (arith, word) in
      record {
        functor = head_small s names k job.few_names c held;
        some = omega (arith, word);
        first = omega (arith, word);
        alike = rw is functor;
        arguments = head_arguments s names k job.few_names c held;
      }

-- The clauses of a job that is held.
pub heads_held : (s : List ℕ) (names : List Bytes) (j : Job) (clauses : ℕ) → HoldsJob s names j → clauses ≡ length j.clauses → HeadsRead s clauses
heads_held s names j clauses job e = record {
  inside = job.inside;
  few = omega (arith, job.few_clauses);
  head = λ k l. head_reads s names j job k (omega arith) none;
}
  where
    none : Clause
    none = record {
      place = 0;
      head = record { number = 0; name = []; arguments = end };
      guards = [];
      body = [];
      pairs = 0;
      compounds = 0;
    }
