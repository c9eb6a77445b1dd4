-- By whether the procedure is told apart.
use Rattle.std.proofs.Common.{◌≡◌, get_or, refl, sym, ap, ◌∙◌}
use native.Mathlib.Omega.{arith}
use Rattle.term.specs.Layout.{told_word}
use Rattle.run_index.specs.Index.{key_of, functor_of, told_by}
use Rattle.run_index.proofs.Telling.{key_untold, key_told}
use Rattle.run_index.proofs.build.own_key.Goals as goal

pub returns-in-Some : goal.returns-in-Some
returns-in-Some c =
    let s = c.args.s.now in
    let k = c.args.k in
    let told : c.in-Some.a ≡ told_by s (functor_of s k) = sym c.in-Some.ensures.0 ∙ ap (λ f. get_or s (told_word f) 0) c.first_of.ensures in
    let some = c.in-Some.ensures.1 in
    c.key.ensures ∙ ap (λ w. key_of w c.kind_at.result) c.functor_of-functor.ensures
    ∙ ap (key_of (functor_of s k)) c.kind_at.ensures ∙ sym (key_told s k c.in-Some.a told (λ e. omega arith))

pub returns-in-None : goal.returns-in-None
returns-in-None c =
    let s = c.args.s.now in
    let k = c.args.k in
    let told : 0 ≡ told_by s (functor_of s k) = sym c.in-None.ensures ∙ ap (λ f. get_or s (told_word f) 0) c.first_of.ensures in
    c.key-in-None.ensures ∙ ap (λ w. key_of w 0) c.functor_of-functor.ensures ∙ sym (key_untold s k 0 told refl)
