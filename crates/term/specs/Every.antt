-- A condition on the numbers of a term's compounds.
use Rattle.std.specs.Prelude.{ℕ}
use Rattle.meaning.specs.Terms.{Term, Terms, end, more}

-- Every compound of the term has a number that meets it.
unfoldable mutual
  pub Every : (ℕ → Type 0) → Term → Type 0
  Every P (Term.variable h n) = Unit {0}
  Every P (Term.constant k) = Unit {0}
  Every P (Term.compound n f ts) = P n × EveryOf P ts

  pub EveryOf : (ℕ → Type 0) → Terms → Type 0
  EveryOf P end = Unit {0}
  EveryOf P (more t ts) = Every P t × EveryOf P ts
