-- A word taken apart is what it was put together from: each tag is below 8, and division gives the rest.
use Prim.Native.Nat.{ℕ, zero, suc, ◌/◌, ◌%◌, ◌<◌}
use mathlib.Core.Path.{◌≡◌, refl}
use native.Mathlib.Omega.{arith}
use Rattle.meaning.specs.Terms.{writer, reader}
use Rattle.term.specs.Words.{Content, nothing, variable, integer, name, empty, compound, word, view, view_of, packed}
use Rattle.term.specs.declared.word.View.TheVariants.{Compound}

apart : (tag n : ℕ) → tag < 8 → ((packed tag n) % 8 ≡ tag) × ((packed tag n) / 8 ≡ n)
apart tag n h = (omega arith, omega arith)

pub view_word : (t : Content) → view (word t % 8) (word t / 8) ≡ view_of t
unfolding view
view_word nothing = refl
view_word (variable writer n) = rw ((apart 1 n (omega arith)).0, (apart 1 n (omega arith)).1)
view_word (variable reader n) = rw ((apart 2 n (omega arith)).0, (apart 2 n (omega arith)).1)
view_word (integer n) = rw ((apart 3 n (omega arith)).0, (apart 3 n (omega arith)).1)
view_word (name n) = rw ((apart 4 n (omega arith)).0, (apart 4 n (omega arith)).1)
view_word empty = refl
view_word (compound n) = rw ((apart 6 n (omega arith)).0, (apart 6 n (omega arith)).1)

pub view_compound : (tag rest : ℕ) → 5 < tag → view tag rest ≡ Compound rest
unfolding view
view_compound zero rest h = absurd (omega arith)
view_compound (suc zero) rest h = absurd (omega arith)
view_compound (suc (suc zero)) rest h = absurd (omega arith)
view_compound (suc (suc (suc zero))) rest h = absurd (omega arith)
view_compound (suc (suc (suc (suc zero)))) rest h = absurd (omega arith)
view_compound (suc (suc (suc (suc (suc zero))))) rest h = absurd (omega arith)
view_compound (suc (suc (suc (suc (suc (suc tag)))))) rest h = refl
