-- The clauses of a goal's procedure by their keys: each has the goal's kind of term at the argument that tells them apart, or a writer there, or is idle.
use Prim.Native.Nat.{ℕ, ◌+◌, ◌%◌, ◌≤◌, ◌<◌}
use mathlib.Core.Path.{◌≡◌, refl, sym, ap, ◌∙◌}
use mathlib.Core.Bool.{Bool, true, false}
use mathlib.Core.Logic.{inl, inr, ◌≢◌}
use mathlib.Core.List.{List, [], ◌∷◌}
use native.Mathlib.Decide.{ℕ_discrete}
use native.Mathlib.Omega.{arith}
use lib.ListN.{length, get_or}
use borrow.Author.Tests.{ne_eqb}
use Rattle.meaning.specs.Bytes.{Bytes, when◌then◌else◌}
use Rattle.meaning.specs.Terms.{Named, named, Clause, count}
use Rattle.meaning.specs.Trial.{procedure}
use Rattle.term.specs.Words.{tag_in}
use Rattle.term.specs.Cells.{KnownName, functor_word}
use Rattle.term.specs.Jobs.{places_from, EachFrom, HoldsClause, ClauseAt}
use Rattle.term.specs.Layout.{clause_head, clause_same_word, clause_open_word, followed_part}
use Rattle.run_index.specs.Index.{kind_of, keys, key_of, functor_of, told_by, own_key, FirstOf, HasKey, Indexed, ClauseIndexed}
use Rattle.run_index.specs.Left.{Idle, Left}
use Rattle.run_index.proofs.First.{first_none, first_here, first_passed}
use Rattle.run_index.proofs.Procedures.{chosen, procedure_none, procedure_with, procedure_without, chosen_functor, other_functor}

-- A key has its functor, and its kind below the number of keys.
module _ (functor functor' kind kind' : ℕ) (same : key_of functor kind ≡ key_of functor' kind') where
  key_functor : functor ≡ functor'
  key_functor = omega arith

  key_kind : kind % keys ≡ kind' % keys
  key_kind = omega arith

-- The key of a clause whose procedure is told apart by an argument.
module _ (s : List ℕ) (functor told k : ℕ) (by : told_by s functor ≡ told) (some : told ≢ 0) (same : functor_of s k ≡ functor) where
  told_key : own_key s k ≡ key_of functor (kind_of s (get_or s (clause_head k + told) 0))
  unfolding own_key when◌then◌else◌
  told_key = rw (same, by, ne_eqb told 0 some)

-- A clause of another procedure has another key.
pub other_key : (s : List ℕ) (functor kind k : ℕ) → functor_of s k ≢ functor → own_key s k ≢ key_of functor kind
unfolding own_key
other_key s functor kind k other e = other (key_functor (functor_of s k) functor _ kind e)

-- A goal's functor, the argument that tells its procedure apart, and the goal's kind of term there, which is no variable's.
pub record Keyed (s : List ℕ) (functor told sought : ℕ) : Type 0 where
  pub by : told_by s functor ≡ told
  pub some : told ≢ 0
  pub inside : told ≤ tag_in functor
  pub is : sought ≡ kind_of s (get_or s (followed_part + told) 0)
  pub closed : 2 < sought
  pub no_writer : sought % keys ≢ 0

module _ (s : List ℕ) (names : List Bytes) (goal : Named) (functor told sought clauses : ℕ) (known : KnownName names goal.name)
    (few : count goal.arguments ≤ 6) (is : functor ≡ functor_word (places_from names 0) (named goal.name) (count goal.arguments))
    (indexed : Indexed s clauses) (keyed : Keyed s functor told sought) where
  -- What is left of some clauses, by the chain of the goal's key and that of writers.
  abbrev pub KeyedLeft : ℕ → List Clause → ℕ → ℕ → Type 0
  KeyedLeft from cs a b = Left s (Idle s functor) (ClauseAt s names) from cs a 25 b 26

  -- A clause of the procedure with neither key.
  idle : (k : ℕ) → functor_of s k ≡ functor → own_key s k ≢ key_of functor sought → own_key s k ≢ key_of functor 0 → Idle s functor k
  idle k same apart no_writer =
      let told_key_is = told_key s functor told k keyed.by keyed.some same in
      record {
        argument = told;
        from_one = let some = keyed.some in omega arith;
        inside = keyed.inside;
        goal_closed = rw keyed.is at keyed.closed;
        no_writer = λ e. no_writer (told_key_is ∙ ap (key_of functor) e);
        other = λ e. apart (told_key_is ∙ ap (key_of functor) (e ∙ sym keyed.is));
      }

  module _ (k : ℕ) (inside : k < clauses) where
    entry : ClauseIndexed s clauses k
    entry = indexed.clause k (omega arith) inside

    -- One clause, of the procedure or not, in front of those behind it.
    module _ (from : ℕ) (c : Clause) (cs : List Clause) (low : from ≤ k) (few_clauses : k < 128) (held : HoldsClause s names k c) (nth : c.place ≡ k + 1)
        (further : (f a b : ℕ) → f ≤ k + 1 → FirstOf (HasKey s (key_of functor sought)) (k + 1) clauses a
        → FirstOf (HasKey s (key_of functor 0)) (k + 1) clauses b → KeyedLeft f (procedure cs goal) a b)
        (a b : ℕ) (first_same : FirstOf (HasKey s (key_of functor sought)) k clauses a) (first_open : FirstOf (HasKey s (key_of functor 0)) k clauses b) where
      at : ClauseAt s names k c
      at = record { number = few_clauses; nth = nth; held = held }

      with_own : functor_of s k ≡ functor → Dec (own_key s k ≡ key_of functor sought) → Dec (own_key s k ≡ key_of functor 0)
          → KeyedLeft from (c ∷ procedure cs goal) a b
      unfolding Left
      with_own same (yes e) tested = (
        k,
        low,
        at,
        inl (
          first_here (HasKey s (key_of functor sought)) k clauses a inside e first_same,
          further (k + 1) (get_or s (clause_same_word k) 0) b (omega arith) (rw e at entry.same)
              (first_passed (HasKey s (key_of functor 0)) k clauses b
              (λ f. keyed.no_writer (key_kind functor functor sought 0 (sym e ∙ f))) first_open),
        ),
      )
      with_own same (no d) (yes e) = (
        k,
        low,
        at,
        inr (inl (
          first_here (HasKey s (key_of functor 0)) k clauses b inside e first_open,
          further (k + 1) a (get_or s (clause_open_word k) 0) (omega arith) (first_passed (HasKey s (key_of functor sought)) k clauses a d first_same)
              (rw same at entry.with_writer),
        )),
      )
      with_own same (no d) (no e) = (
        k,
        low,
        at,
        inr (inr (
          idle k same d e,
          further (k + 1) a b (omega arith) (first_passed (HasKey s (key_of functor sought)) k clauses a d first_same)
              (first_passed (HasKey s (key_of functor 0)) k clauses b e first_open),
        )),
      )

      one_more : (t : Bool) → chosen goal c ≡ t → KeyedLeft from (procedure (c ∷ cs) goal) a b
      one_more true t =
          rw (procedure_with goal c cs t)
          (with_own (chosen_functor s names k c held goal functor known few is t)
          (ℕ_discrete (own_key s k) (key_of functor sought)) (ℕ_discrete (own_key s k) (key_of functor 0)))
      one_more false t =
          let other = other_functor s names k c held goal functor known few is t in
          rw (procedure_without goal c cs t)
          (further from a b (omega arith)
          (first_passed (HasKey s (key_of functor sought)) k clauses a (other_key s functor sought k other) first_same)
          (first_passed (HasKey s (key_of functor 0)) k clauses b (other_key s functor 0 k other) first_open))

  pub keyed_left : (from k a b : ℕ) (cs : List Clause) → from ≤ k → k + length cs ≡ clauses → EachFrom (HoldsClause s names) k cs
      → EachFrom (λ i c. c.place ≡ i + 1) k cs → FirstOf (HasKey s (key_of functor sought)) k clauses a → FirstOf (HasKey s (key_of functor 0)) k clauses b
      → KeyedLeft from (procedure cs goal) a b
  unfolding EachFrom Left
  keyed_left from k a b [] low size held nth first_same first_open =
      rw (procedure_none goal)
      (first_none (HasKey s (key_of functor sought)) k clauses a (omega arith) first_same, first_none (HasKey s (key_of functor 0)) k clauses b (omega arith) first_open)
  keyed_left from k a b (c ∷ cs) low size held nth first_same first_open =
      one_more k (omega arith) from c cs low (omega (arith, indexed.few)) held.0 nth.0
      (λ f x y l. keyed_left f (k + 1) x y cs l (omega arith) held.1 nth.1) a b first_same first_open (chosen goal c) refl
