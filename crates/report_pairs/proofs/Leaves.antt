-- Terms that are no compounds: where their bytes come from.
use Prim.Native.Nat.{ℕ, suc, ◌+◌, ◌-◌, ◌*◌, ◌≤◌, ◌<◌}
use mathlib.Core.Path.{◌≡◌, refl, ◌∙◌, sym, ap}
use mathlib.Core.Bool.{Bool, true, false, ◌||◌}
use mathlib.Core.List.{List, [], ◌∷◌, ◌++◌}
use mathlib.Core.Option.{none}
use native.Mathlib.Omega.{arith}
use lib.ListN.{length, length-append, get_or}
use lib.Seq.{slice}
use Rattle.meaning.specs.Bytes.{Bytes, bytes, decimal, same, any, when◌then◌else◌}
use Rattle.meaning.specs.Terms.{Half, writer, reader, Integer, plus, minus, Constant, Functor, cell, named, Term}
use Rattle.meaning.specs.State.{value}
use Rattle.meaning.specs.Report.{alone, written, variable_bytes, number_in, integer_bytes, constant_bytes, behind_bar, empty_bytes}
use Rattle.term.specs.Words.{view_of}
use Rattle.term.specs.Cells.{content, bits, number_of, KnownName, Known}
use Rattle.term.specs.Setting.{Setting, Within, Ranged, RangedInteger}
use Rattle.term.specs.Spellings.{SpelledAt}
use Rattle.term.specs.declared.word.View.TheVariants.{Nothing, Writer, Reader, Integer as AnInteger, Name, Empty}
use Rattle.term.proofs.Numbers.{number_below, same_equal}
use Rattle.term.proofs.Spellings.{holds_spelling_at}
use Rattle.report_pairs.specs.Threaded.{full}
use Rattle.report_pairs.specs.Walk.{Opens, opening_bytes}
use Rattle.report_pairs.specs.Facts.{Readable, Led}
use Rattle.report_pairs.proofs.Full.{full_constant, full_unassigned}
use Rattle.report_pairs.proofs.Told.{seen, seen_term, writer_told, reader_told, integer_told, name_told, empty_told, nothing_told}

-- A known name stands where its number says.
name_at : (f : Bytes) (names : List Bytes) → KnownName names f → get_or names (number_of f names) [] ≡ f
unfolding number_of any when◌then◌else◌
name_at f [] h = let z : ◌≡◌ {A = ℕ} 0 1 = cc in absurd (omega arith)
name_at f (g ∷ names) h = go (same f g) refl h (name_at f names)
  where
    go : (b : Bool) → same f g ≡ b → (b || any (same f) names) ≡ true → (KnownName names f → get_or names (number_of f names) [] ≡ f)
        → get_or (g ∷ names) (when b then 0 else suc (number_of f names)) [] ≡ f
    go true e k further = sym (same_equal f g e)
    go false e k further = further k

module _ (s : List ℕ) (text : Bytes) (x : Setting) (facts : ℕ) (r : Readable s text x facts) where
  pub name_spelled : (f : Bytes) → KnownName x.places.names f
      → (2 * number_of f x.places.names + 1 < length s)
      × SpelledAt text (get_or s (2 * number_of f x.places.names) 0) (get_or s (2 * number_of f x.places.names + 1) 0) f
  name_spelled f k =
      let n = number_of f x.places.names in
      let b = number_below f x.places.names k in
      let front : 0 + 2 * n ≡ 2 * n = omega arith in
      let at : SpelledAt text (get_or s (0 + 2 * n) 0) (get_or s (0 + 2 * n + 1) 0) (get_or x.places.names n []) =
      holds_spelling_at s text 0 n x.places.names b r.names in
      (omega (arith, r.behind, r.inside, r.few_names), rw (front, name_at f x.places.names k) at at)

  module _ (t : Term) (w : ℕ) (l : Led s x t w) where
    told : seen w ≡ view_of (content x.places l.last)
    told = seen_term x.places l.last w l.word

    -- An unassigned variable, its pair, and what is written for it.
    pub record Unassigned (h : Half) (p : ℕ) : Type 0 where
      pub number : ℕ
      pub below : number < length x.values
      pub none_given : value x.values number ≡ none
      pub place : p ≡ x.places.pair number
      pub is : full x.values t ≡ Term.variable h number

    unassigned : (h : Half) (n p : ℕ) → l.last ≡ Term.variable h n → p ≡ x.places.pair n → Unassigned h p
    unfolding Within
    unassigned h n p e q =
        let ended : value x.values n ≡ none = rw e at l.ended in record {
          number = n;
          below = rw e at l.term.of.within;
          none_given = ended;
          place = q;
          is = l.same ∙ ap (full x.values) e ∙ full_unassigned x.values h n ended;
        }

    pub leaf_writer : (p : ℕ) → seen w ≡ Writer p → Unassigned writer p
    leaf_writer p e = let k = writer_told x.places l.last p (sym told ∙ e) in unassigned writer k.0 p k.1 k.2

    pub leaf_reader : (p : ℕ) → seen w ≡ Reader p → Unassigned reader p
    leaf_reader p e = let k = reader_told x.places l.last p (sym told ∙ e) in unassigned reader k.0 p k.1 k.2

    constant_is : (k : Constant) → l.last ≡ Term.constant k → full x.values t ≡ Term.constant k
    constant_is k e = l.same ∙ ap (full x.values) e ∙ full_constant x.values k

    pub leaf_integer : (b : ℕ) → seen w ≡ AnInteger b
        → (i : Integer) × (full x.values t ≡ Term.constant (Constant.integer i)) × RangedInteger i × (b ≡ bits i)
    unfolding Ranged
    leaf_integer b e =
        let k = integer_told x.places l.last b (sym told ∙ e) in
        (k.0, constant_is (Constant.integer k.0) k.1, rw k.1 at l.term.of.ranged, k.2)

    pub leaf_name : (m : ℕ) → seen w ≡ Name m
        → (f : Bytes) × (full x.values t ≡ Term.constant (Constant.name f)) × (2 * m + 1 < length s) × SpelledAt text (get_or s (2 * m) 0) (get_or s (2 * m + 1) 0) f
    unfolding Known
    leaf_name m e = go (name_told x.places l.last m (sym told ∙ e))
      where
        go : (f : Bytes) × (l.last ≡ Term.constant (Constant.name f)) × (m ≡ number_of f x.places.names)
            → (f : Bytes) × (full x.values t ≡ Term.constant (Constant.name f)) × (2 * m + 1 < length s) × SpelledAt text (get_or s (2 * m) 0) (get_or s (2 * m + 1) 0) f
        go (f, z, q) =
            let known : KnownName x.places.names f = rw z at l.term.of.known in
            (f, constant_is (Constant.name f) z, rw q (name_spelled f known).0, rw q (name_spelled f known).1)

    pub leaf_empty : seen w ≡ Empty → full x.values t ≡ Term.constant Constant.empty
    leaf_empty e = constant_is Constant.empty (empty_told x.places l.last (sym told ∙ e))

    pub leaf_nothing : seen w ≡ Nothing → ⊥
    leaf_nothing e = nothing_told x.places l.last (sym told ∙ e)

-- The bytes.
pub writer_bytes : (order : List ℕ) (n : ℕ) → written order alone (Term.variable writer n) ≡ 95 ∷ decimal (number_in n order)
unfolding written behind_bar variable_bytes bytes
writer_bytes order n = refl

pub reader_bytes : (order : List ℕ) (n : ℕ) → written order alone (Term.variable reader n) ≡ (95 ∷ decimal (number_in n order)) ++ (63 ∷ [])
unfolding written behind_bar variable_bytes bytes
reader_bytes order n = refl

pub integer_written : (order : List ℕ) (i : Integer) → written order alone (Term.constant (Constant.integer i)) ≡ integer_bytes i
unfolding written constant_bytes behind_bar
integer_written order i = refl

pub name_written : (order : List ℕ) (f : Bytes) → written order alone (Term.constant (Constant.name f)) ≡ f
unfolding written constant_bytes behind_bar
name_written order f = refl

pub empty_written : (order : List ℕ) → written order alone (Term.constant Constant.empty) ≡ 91 ∷ 93 ∷ []
unfolding written constant_bytes empty_bytes bytes
empty_written order = refl

-- An integer by its 32 bits.
pub plus_bits : (i : Integer) (n : ℕ) → RangedInteger i → n ≡ bits i → n < 2147483648 → integer_bytes i ≡ decimal n
unfolding integer_bytes
plus_bits (plus m) n r e h = ap decimal (sym e)
plus_bits (minus m) n r e h = absurd (omega (arith, r))

pub minus_bits : (i : Integer) (n : ℕ) → RangedInteger i → n ≡ bits i → 2147483648 ≤ n
    → (integer_bytes i ≡ 45 ∷ decimal (4294967296 - n)) × (n ≤ 4294967296)
unfolding integer_bytes bytes
minus_bits (plus m) n r e h = absurd (omega (arith, r))
minus_bits (minus m) n r e h =
    let back : m ≡ 4294967296 - n = omega (arith, r) in
    (ap (λ (k : ℕ). 45 ∷ decimal k) back, omega (arith, r))

pub length_more : (b : ℕ) (l : Bytes) → length (b ∷ l) ≡ length l + 1
length_more b l = omega arith

pub minus_length : (i : Integer) (n : ℕ) → RangedInteger i → n ≡ bits i → 2147483648 ≤ n → length (integer_bytes i) ≡ length (decimal (4294967296 - n)) + 1
minus_length i n r e h = ap length (minus_bits i n r e h).0 ∙ length_more 45 (decimal (4294967296 - n))

pub spelled_is : (text : Bytes) (from n a b : ℕ) (f : Bytes) → from ≡ a → n ≡ b → SpelledAt text a b f → slice from (from + n) text ≡ f
spelled_is text from n a b f e g k = rw (e, g) k.spelled

-- What a compound with a name begins with, by its functor's word.
pub opens_named : (s : List ℕ) (text : Bytes) (w k : ℕ) (f : Functor) → w ≡ k + 1 → Opens s text w f
    → (g : Bytes) × (f ≡ named g) × (2 * k + 1 < length s) × SpelledAt text (get_or s (2 * k) 0) (get_or s (2 * k + 1) 0) g
opens_named s text w k cell e o = absurd (omega arith)
opens_named s text w k (named g) e o =
    let same : k ≡ o.0 = omega (arith, o.1) in
    (g, refl, rw same o.2, rw same o.3)

pub opening_length : (f : Functor) → 1 ≤ length (opening_bytes f)
opening_length cell = omega arith
opening_length (named g) = omega (arith, length-append g (40 ∷ []))
