-- A unit's places after a reduction: the clause's pairs come next, from a place on, and its compounds where they are copied to.
use Rattle.std.specs.Prelude.{ℕ, ◌+◌, ◌-◌, ltb, eqb}
use Rattle.meaning.specs.Bytes.{when◌then◌else◌}
use Rattle.term.specs.Cells.{Places}
use Rattle.term.specs.States.{Atlas}
use Rattle.run_effects.specs.Build.{Copies}

-- The unit had p pairs and c compounds.
abbrev pub extended : Places → ℕ → ℕ → ℕ → Copies → Places
extended places p c pair y =
    record {
      names = places.names;
      pair = λ n. when ltb n p then places.pair n else pair + (n - p);
      compound = λ n. when ltb n c then places.compound n else y.at (n - c);
      width = λ n. when ltb n c then places.width n else y.width (n - c);
    }

-- The atlas with one query's places replaced.
abbrev pub replaced_at : Atlas → ℕ → Places → Atlas
replaced_at atlas query places k = when eqb k query then places else atlas k
