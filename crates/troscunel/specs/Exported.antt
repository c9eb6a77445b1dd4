-- What the exported call promises: the definition's number, line, length and offset, and both buffers.
use Rattle.std.specs.Prelude.{ℕ, ◌≡◌, List}
use Rattle.meaning.specs.Bytes.{Bytes}
use Rattle.meaning.specs.Call.{Outcome, number, line_of, offset_of, length_of}

pub record Exports (o : Outcome) (r line length offset : ℕ) (buffer : Bytes) (scratch : List ℕ) : Type 0 where
  pub number_is : r ≡ number o.answer
  pub line_is : line ≡ line_of o.answer
  pub length_is : length ≡ length_of o.answer
  pub offset_is : offset ≡ offset_of o.answer
  pub buffer_is : buffer ≡ o.buffer
  pub scratch_is : scratch ≡ o.scratch
