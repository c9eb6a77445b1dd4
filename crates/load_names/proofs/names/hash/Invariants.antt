-- The hash so far, taken on over what is left, is that of the whole part.
use Rattle.std.proofs.Common.{◌≡◌, ◌<◌, drop}
use Rattle.load_names.specs.Tables.{hash_from}
use Rattle.load_names.proofs.names.hash.Given as goal

abbrev pub invariant-loop-c : goal.invariant-loop-c
invariant-loop-c l = record { small : l.h < 4294967296; same_hash : hash_from l.h (drop l.c-index l.spelling) ≡ hash_from 0 l.spelling }
