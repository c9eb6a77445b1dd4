-- What is left of the item's tokens has the fault. Behind the `:-` the walk goes on behind the bar, wherever that is; that happens once.
use Rattle.std.proofs.Common.{◌≤◌, ◌+◌, ◌-◌, ℕ, List, Bool, length}
use Rattle.std.proofs.Math.Option.{Option}
use Rattle.meaning.specs.Bytes.{Bytes}
use Rattle.meaning.specs.Tokens.{Tokens}
use Rattle.meaning.specs.Faults.{Fault, pairing}
use Rattle.load_tokens.specs.Fronts.{tokens_in}
use Rattle.load_names.specs.Places.{Place}
use Rattle.load_openings.specs.Reading.{piece}
use Rattle.load_faults.specs.Finding.{Searches, Reached}
use Rattle.load_faults.proofs.Walked.{left_at, weight}
use Rattle.load_faults.proofs.faults.first_fault.Given as goal

abbrev pub invariant-loop-e : goal.invariant-loop-e
invariant-loop-e l = record {
  inside : l.at ≤ length l.rest;
  reached : (from : ℕ) (places : List Place) (free : Bytes → Bool) (after : Option Tokens) (f : Fault)
      → Searches l.rest from l.item l.count l.both l.begins l.bar l.licensed places free after f
      → Reached l.both places free (pairing after (piece (tokens_in from l.rest l.begins))) l.implied l.seen (left_at l.implied after (piece (tokens_in from l.rest l.at))) f;
}

abbrev pub decreases-loop-e : goal.decreases-loop-e
decreases-loop-e l = weight l.implied (length l.rest) + (length l.rest - l.at)
