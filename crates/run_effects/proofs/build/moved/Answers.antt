-- A variable's word by its half, any other as it is.
use Rattle.std.proofs.Common.{ℕ, ◌≡◌, refl, sym, ◌∙◌}
use native.Mathlib.Omega.{arith}
use Rattle.term.specs.Words.{view, tag_in, rest_in}
use Rattle.term.specs.declared.word.View.{View}
use Rattle.term.specs.declared.word.View.TheVariants.{Nothing, Writer, Reader, Integer, Name, Empty, Compound}
use Rattle.run_effects.specs.Build.{moved_word}
use Rattle.run_effects.proofs.build.moved.Goals as goal

-- What is no variable's word stays.
other_stays : (pair h : ℕ) (v : View) → ((m : ℕ) → v ≡ Writer m → ⊥) → ((m : ℕ) → v ≡ Reader m → ⊥) → h ≡ moved_word pair h v
other_stays pair h Nothing a b = refl
other_stays pair h (Writer m) a b = absurd (a m refl)
other_stays pair h (Reader m) a b = absurd (b m refl)
other_stays pair h (Integer bits) a b = refl
other_stays pair h (Name number) a b = refl
other_stays pair h Empty a b = refl
other_stays pair h (Compound place) a b = refl

pub overflow_add-pair : goal.overflow_add-pair
overflow_add-pair c =
    let fits = c.requires.0 _ (sym c.look.ensures ∙ c.in-Writer.is) in
    omega arith

pub placed-requires : goal.placed-requires
placed-requires c =
    let fits = c.requires.0 _ (sym c.look.ensures ∙ c.in-Writer.is) in
    (omega arith, omega arith)

pub overflow_add-pair-in-Reader : goal.overflow_add-pair-in-Reader
overflow_add-pair-in-Reader c =
    let fits = c.requires.1 _ (sym c.look.ensures ∙ c.in-Reader.is) in
    omega arith

pub placed-requires-in-Reader : goal.placed-requires-in-Reader
placed-requires-in-Reader c =
    let fits = c.requires.1 _ (sym c.look.ensures ∙ c.in-Reader.is) in
    (omega arith, omega arith)

pub returns-in-Writer : goal.returns-in-Writer
returns-in-Writer c = rw (sym c.look.ensures ∙ c.in-Writer.is) c.placed.ensures

pub returns-in-Reader : goal.returns-in-Reader
returns-in-Reader c = rw (sym c.look.ensures ∙ c.in-Reader.is) c.placed-in-Reader.ensures

pub returns-in_default : goal.returns-in_default
returns-in_default c =
    other_stays c.args.pair c.args.h (view (tag_in c.args.h) (rest_in c.args.h))
    (λ m e. c.in_default.not-Writer m (c.look.ensures ∙ e)) (λ m e. c.in_default.not-Reader m (c.look.ensures ∙ e))
