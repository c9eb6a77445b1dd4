-- Equal words are equal terms: names that are known have different numbers, integers in range different bits, and a compound's first word
-- tells its functor and the number of its arguments.
use Prim.Native.Nat.{ℕ, suc, ◌+◌, ◌-◌, ◌≤◌}
use mathlib.Core.Path.{◌≡◌, refl, sym, ap, ◌∙◌}
use mathlib.Core.Bool.{Bool, true, false, ◌&&◌, ◌||◌}
use mathlib.Core.List.{List, [], ◌∷◌}
use native.Mathlib.Omega.{arith}
use lib.Dec.{eqb}
use borrow.Author.Tests.{eqb-true, eq-eqb, ne_eqb}
use Rattle.meaning.specs.Bytes.{Bytes, same, any, when◌then◌else◌}
use Rattle.meaning.specs.Terms.{Integer, plus, minus, Constant, Functor, cell, named, Term, same_integer, same_constant, same_functor}
use Rattle.laws.proofs.Lists.Tests.{same_answer, and_left, and_right, same_refl}
use Rattle.term.specs.Cells.{Places, bits, number_of, term_word, functor_word, KnownName, KnownConstant, KnownFunctor}
use Rattle.term.specs.Setting.{RangedInteger, RangedConstant}
use Rattle.term.specs.Words.{integer_word, name_word, compound_word, packed}

-- Two spellings that are the same are equal.
pub same_true : (f g : Bytes) → same f g ≡ true → f ≡ g
unfolding same
same_true [] [] e = refl
same_true [] (c ∷ cs) e = let z : ◌≡◌ {A = ℕ} 0 1 = cc in absurd (omega arith)
same_true (b ∷ bs) [] e = let z : ◌≡◌ {A = ℕ} 0 1 = cc in absurd (omega arith)
same_true (b ∷ bs) (c ∷ cs) e =
    let first : b ≡ c = eqb-true b c (and_left (eqb b c) (same bs cs) e) in
    let others : bs ≡ cs = same_true bs cs (and_right (eqb b c) (same bs cs) e) in
    cc

alike : (f g n : Bytes) (ns : List Bytes) (a b : Bool) → same f n ≡ a → same g n ≡ b
    → (a || any (same f) ns) ≡ true → (b || any (same g) ns) ≡ true
    → (when a then 0 else suc (number_of f ns)) ≡ (when b then 0 else suc (number_of g ns))
    → (KnownName ns f → KnownName ns g → number_of f ns ≡ number_of g ns → same f g ≡ true) → same f g ≡ true
unfolding when◌then◌else◌
alike f g n ns true true p q k l e further =
    let one : f ≡ g = same_true f n p ∙ sym (same_true g n q) in
    rw one (same_refl g)
alike f g n ns true false p q k l e further = absurd (omega arith)
alike f g n ns false true p q k l e further = absurd (omega arith)
alike f g n ns false false p q k l e further = further k l (omega arith)

number_alike : (names : List Bytes) (f g : Bytes) → KnownName names f → KnownName names g
    → number_of f names ≡ number_of g names → same f g ≡ true
unfolding any number_of
number_alike [] f g k l e = let z : ◌≡◌ {A = ℕ} 0 1 = cc in absurd (omega arith)
number_alike (n ∷ ns) f g k l e = alike f g n ns (same f n) (same g n) refl refl k l e (number_alike ns f g)

same_number : (names : List Bytes) (f g : Bytes) → same f g ≡ true → number_of f names ≡ number_of g names
same_number names f g e = ap (λ h. number_of h names) (same_true f g e)

-- A test of words is a test of what they are words of.
eqb_as : (a b c d : ℕ) → (a ≡ b → c ≡ d) → (c ≡ d → a ≡ b) → eqb a b ≡ eqb c d
eqb_as a b c d there back =
    same_answer (eqb a b) (eqb c d) (λ e. eq-eqb c d (there (eqb-true a b e))) (λ e. eq-eqb a b (back (eqb-true c d e)))

integers_equal : (i j : Integer) → RangedInteger i → RangedInteger j → eqb (integer_word (bits i)) (integer_word (bits j)) ≡ same_integer i j
unfolding same_integer
integers_equal (plus m) (plus n) a b = eqb_as (integer_word m) (integer_word n) m n (λ e. omega arith) (λ e. omega arith)
integers_equal (plus m) (minus n) a b = ne_eqb (integer_word m) (integer_word (4294967296 - n)) (λ e. omega (arith, b.0, b.1))
integers_equal (minus m) (plus n) a b = ne_eqb (integer_word (4294967296 - m)) (integer_word n) (λ e. omega (arith, a.0, a.1))
integers_equal (minus m) (minus n) a b =
    eqb_as (integer_word (4294967296 - m)) (integer_word (4294967296 - n)) m n (λ e. omega (arith, a.1, b.1)) (λ e. omega arith)

names_equal : (names : List Bytes) (f g : Bytes) → KnownName names f → KnownName names g
    → eqb (name_word (number_of f names)) (name_word (number_of g names)) ≡ same f g
names_equal names f g k l =
    let a = name_word (number_of f names) in
    let b = name_word (number_of g names) in
    same_answer (eqb a b) (same f g)
    (λ e. number_alike names f g k l (omega (arith, eqb-true a b e)))
    (λ e. eq-eqb a b (omega (arith, same_number names f g e)))

-- Equal words exactly if equal constants.
pub constants_equal : (p q : Places) → q.names ≡ p.names → (c k : Constant) → KnownConstant p.names c → KnownConstant p.names k
    → RangedConstant c → RangedConstant k
    → eqb (term_word q (Term.constant c)) (term_word p (Term.constant k)) ≡ same_constant c k
unfolding same_constant
constants_equal p q n (Constant.integer i) (Constant.integer j) a b r s = integers_equal i j r s
constants_equal p q n (Constant.integer i) (Constant.name g) a b r s =
    ne_eqb (integer_word (bits i)) (name_word (number_of g p.names)) (λ e. omega arith)
constants_equal p q n (Constant.integer i) Constant.empty a b r s = ne_eqb (integer_word (bits i)) 5 (λ e. omega arith)
constants_equal p q n (Constant.name f) (Constant.integer j) a b r s =
    ne_eqb (name_word (number_of f q.names)) (integer_word (bits j)) (λ e. omega arith)
constants_equal p q n (Constant.name f) (Constant.name g) a b r s = rw n (names_equal p.names f g a b)
constants_equal p q n (Constant.name f) Constant.empty a b r s = ne_eqb (name_word (number_of f q.names)) 5 (λ e. omega arith)
constants_equal p q n Constant.empty (Constant.integer j) a b r s = ne_eqb 5 (integer_word (bits j)) (λ e. omega arith)
constants_equal p q n Constant.empty (Constant.name g) a b r s = ne_eqb 5 (name_word (number_of g p.names)) (λ e. omega arith)
constants_equal p q n Constant.empty Constant.empty a b r s = eq-eqb 5 5 refl

-- A constant's word is never a compound's.
pub constant_no_compound : (q : Places) (c : Constant) (n : ℕ) → eqb (term_word q (Term.constant c)) (compound_word n) ≡ false
constant_no_compound q (Constant.integer i) n = ne_eqb (integer_word (bits i)) (compound_word n) (λ e. omega arith)
constant_no_compound q (Constant.name f) n = ne_eqb (name_word (number_of f q.names)) (compound_word n) (λ e. omega arith)
constant_no_compound q Constant.empty n = ne_eqb 5 (compound_word n) (λ e. omega arith)

and_both : (a b : Bool) → a ≡ true → b ≡ true → (a && b) ≡ true
and_both a b p q = rw (p, q)

-- Equal first words exactly if the same functor and number of arguments.
pub functors_equal : (p q : Places) → q.names ≡ p.names → (g f : Functor) (k j : ℕ) → k ≤ 6 → j ≤ 6
    → KnownFunctor p.names g → KnownFunctor p.names f
    → eqb (functor_word q g k) (functor_word p f j) ≡ (same_functor g f && eqb k j)
unfolding same_functor
functors_equal p q n cell cell k j few least a b = eqb_as (packed k 0) (packed j 0) k j (λ e. omega arith) (λ e. omega arith)
functors_equal p q n cell (named f) k j few least a b = ne_eqb (packed k 0) (packed j (number_of f p.names + 1)) (λ e. omega arith)
functors_equal p q n (named g) cell k j few least a b = ne_eqb (packed k (number_of g q.names + 1)) (packed j 0) (λ e. omega arith)
functors_equal p q n (named g) (named f) k j few least a b =
    let u = packed k (number_of g p.names + 1) in
    let v = packed j (number_of f p.names + 1) in
    rw n
    (same_answer (eqb u v) (same g f && eqb k j)
    (λ e.
    and_both (same g f) (eqb k j)
    (number_alike p.names g f a b (omega (arith, eqb-true u v e)))
    (eq-eqb k j (omega (arith, eqb-true u v e))))
    (λ e.
    eq-eqb u v
    (omega (
      arith,
      same_number p.names g f (and_left (same g f) (eqb k j) e),
      eqb-true k j (and_right (same g f) (eqb k j) e),
    ))))
