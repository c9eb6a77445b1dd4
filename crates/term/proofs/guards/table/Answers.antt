use mathlib.Core.Path.{refl}
use Rattle.meaning.specs.Bytes.{bytes_words}
use Rattle.meaning.specs.Table.{table_words}
use Rattle.term.proofs.guards.table.Goals as goal

pub returns : goal.returns
unfolding table_words bytes_words
returns c = refl
