-- The contract of `troscunel_call` leaves one answer: two answers to one call have the same number, line, length and offset, and leave the same in both buffers.
use Prim.Native.Nat.{ℕ}
use mathlib.Core.Path.{◌≡◌, sym, ◌∙◌}
use mathlib.Core.List.{List}
use Rattle.meaning.specs.Bytes.{Bytes}
use Rattle.meaning.specs.Call.{Given, call}
use Rattle.term.specs.Layout.{need_of}
use Rattle.troscunel.specs.Exported.{Exports}

module _ (g : Given) (r r' line line' length length' offset offset' : ℕ) (b b' : Bytes) (s s' : List ℕ)
    (e : Exports (call need_of g) r line length offset b s) (e' : Exports (call need_of g) r' line' length' offset' b' s') where
  pub one_number : r ≡ r'
  one_number = e.number_is ∙ sym e'.number_is

  pub one_line : line ≡ line'
  one_line = e.line_is ∙ sym e'.line_is

  pub one_length : length ≡ length'
  one_length = e.length_is ∙ sym e'.length_is

  pub one_offset : offset ≡ offset'
  one_offset = e.offset_is ∙ sym e'.offset_is

  pub one_buffer : b ≡ b'
  one_buffer = e.buffer_is ∙ sym e'.buffer_is

  pub one_scratch : s ≡ s'
  one_scratch = e.scratch_is ∙ sym e'.scratch_is
