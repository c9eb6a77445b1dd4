use mathlib.Core.Path.{refl}
use Rattle.meaning.specs.Call.{number, line_of, offset_of, length_of}
use Rattle.troscunel.proofs.troscunel_call.Goals as goal

pub returns-in-Ok : goal.returns-in-Ok
unfolding number line_of offset_of length_of
returns-in-Ok c =
    let told = rw c.in-Ok.is at c.call.ensures in
    rw (← told) (record { number_is = refl; line_is = refl; length_is = refl; offset_is = refl; buffer_is = refl; scratch_is = refl })
