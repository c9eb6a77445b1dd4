-- Names and variables in front: a run led by a letter, unless it has more than 31 bytes.
-- The byte behind a variable's run tells a reader from a writer.
use Prim.Native.Nat.{ℕ, suc, ◌+◌, ◌-◌, ◌≤◌, ◌<◌}
use mathlib.Core.Path.{◌≡◌, refl, sym, ap, ◌∙◌}
use mathlib.Core.Bool.{Bool, true, false}
use mathlib.Core.List.{◌∷◌}
use native.Mathlib.Omega.{arith}
use lib.Dec.{eqb}
use lib.ListN.{length, drop, get_or}
use lib.Seq.{slice, drop-drop}
use borrow.Author.Tests.{le-leb, lt-leb}
use Rattle.meaning.specs.Bytes.{Bytes, byte, when◌then◌else◌}
use Rattle.meaning.specs.Terms.{writer, reader}
use Rattle.meaning.specs.Tokens.{Token, Front, name, variable, bad, lowercase, uppercase, run, next_is, unless_overlong, name_front, variable_front}
use Rattle.load_tokens.specs.Fronts.{FrontIs}
use Rattle.load_tokens.specs.Ends.{end_of_run}
use Rattle.load_tokens.specs.declared.token.Token.TheVariants.{Name, Writer, Reader, Bad}
use Rattle.load_tokens.proofs.Ends.{led, led_inside}
use Rattle.load_tokens.proofs.TokensIn.{token_in_front, bad_in_front}
use Rattle.load_tokens.proofs.Leads.{next_inside, name_leads, variable_leads}

module _ (c : ℕ) (cs : Bytes) where
  one_less : length (c ∷ cs) - 1 ≡ length cs
  one_less = omega arith

  short : (t : Token) → length (c ∷ cs) ≤ 31 → unless_overlong (c ∷ cs) t ≡ t
  unfolding unless_overlong when◌then◌else◌
  short t h = rw (le-leb (length (c ∷ cs)) 31 h)

  long : (t : Token) → 31 < length (c ∷ cs) → unless_overlong (c ∷ cs) t ≡ bad
  unfolding unless_overlong when◌then◌else◌
  long t h = rw (lt-leb (length (c ∷ cs)) 31 h)

  short_name : length (c ∷ cs) ≤ 31 → name_front (c ∷ cs) ≡ Front.token (length cs) (name (c ∷ cs))
  unfolding name_front
  short_name h = rw (short (name (c ∷ cs)) h, one_less)

  long_name : 31 < length (c ∷ cs) → name_front (c ∷ cs) ≡ Front.token (length cs) bad
  unfolding name_front
  long_name h = rw (long (name (c ∷ cs)) h, one_less)

  module _ (behind : Bytes) where
    short_reader : length (c ∷ cs) ≤ 31 → next_is (λ d. eqb d (byte "?")) behind ≡ true → variable_front (c ∷ cs) behind ≡ Front.token (suc (length cs)) (variable reader (c ∷ cs))
    unfolding variable_front when◌then◌else◌
    short_reader h e = rw (e, short (variable reader (c ∷ cs)) h)

    short_writer : length (c ∷ cs) ≤ 31 → next_is (λ d. eqb d (byte "?")) behind ≡ false → variable_front (c ∷ cs) behind ≡ Front.token (length cs) (variable writer (c ∷ cs))
    unfolding variable_front when◌then◌else◌
    short_writer h e = rw (e, short (variable writer (c ∷ cs)) h, one_less)

    long_by : 31 < length (c ∷ cs) → (b : Bool) → next_is (λ d. eqb d (byte "?")) behind ≡ b → (n : ℕ) × (variable_front (c ∷ cs) behind ≡ Front.token n bad)
    unfolding variable_front when◌then◌else◌
    long_by h true e = (length (c ∷ cs), rw (e, long (variable reader (c ∷ cs)) h))
    long_by h false e = (length (c ∷ cs) - 1, rw (e, long (variable writer (c ∷ cs)) h))

    long_variable : 31 < length (c ∷ cs) → (n : ℕ) × (variable_front (c ∷ cs) behind ≡ Front.token n bad)
    long_variable h = long_by h (next_is (λ d. eqb d (byte "?")) behind) refl

module _ (rest : Bytes) (a e : ℕ) (h : a < length rest) (q : e ≡ end_of_run rest (a + 1)) where
  as_led : (t : Bytes → Token) (n : ℕ) → Front.token n (t (get_or rest a 0 ∷ run (drop (a + 1) rest))) ≡ Front.token n (t (slice a e rest))
  as_led t n = ap (λ s. Front.token n (t s)) (sym (led rest a e h q))

  pub name_is : lowercase (get_or rest a 0) ≡ true → e - a ≤ 31 → FrontIs rest a (Name a e)
  name_is l k =
      let cs = run (drop (a + 1) rest) in
      let found = name_leads (get_or rest a 0) (drop (a + 1) rest) l ∙ short_name (get_or rest a 0) cs (omega arith) ∙ as_led name (length cs) in
      let inside : e ≤ length rest = led_inside rest a e h q in
      (omega arith, omega arith, inside, omega arith, token_in_front rest a h (length cs) e (name (slice a e rest)) found (sym q) inside)

  pub long_name_is : lowercase (get_or rest a 0) ≡ true → 31 < e - a → FrontIs rest a (Bad a)
  long_name_is l k =
      let cs = run (drop (a + 1) rest) in
      bad_in_front rest a h (length cs) (name_leads (get_or rest a 0) (drop (a + 1) rest) l ∙ long_name (get_or rest a 0) cs (omega arith))

  module _ (u : uppercase (get_or rest a 0) ≡ true) where
    pub long_variable_is : 31 < e - a → FrontIs rest a (Bad a)
    long_variable_is k =
        let cs = run (drop (a + 1) rest) in
        let found = long_variable (get_or rest a 0) cs (drop (length cs) (drop (a + 1) rest)) (omega arith) in
        bad_in_front rest a h found.0 (variable_leads (get_or rest a 0) (drop (a + 1) rest) u ∙ found.1)

    behind_run : drop (length (run (drop (a + 1) rest))) (drop (a + 1) rest) ≡ drop e rest
    behind_run = drop-drop (length (run (drop (a + 1) rest))) (a + 1) rest ∙ ap (λ i. drop i rest) (sym q)

    pub writer_is : e - a ≤ 31 → next_is (λ d. eqb d (byte "?")) (drop e rest) ≡ false → FrontIs rest a (Writer a e)
    writer_is k fails =
        let cs = run (drop (a + 1) rest) in
        let behind = drop (length cs) (drop (a + 1) rest) in
        let none : next_is (λ d. eqb d (byte "?")) behind ≡ false = rw behind_run fails in
        let found = variable_leads (get_or rest a 0) (drop (a + 1) rest) u ∙ short_writer (get_or rest a 0) cs behind (omega arith) none ∙ as_led (variable writer) (length cs) in
        let inside : e ≤ length rest = led_inside rest a e h q in
        (omega arith, omega arith, inside, omega arith, token_in_front rest a h (length cs) e (variable writer (slice a e rest)) found (sym q) inside)

    pub reader_is : e - a ≤ 31 → next_is (λ d. eqb d (byte "?")) (drop e rest) ≡ true → FrontIs rest a (Reader a e)
    reader_is k passes =
        let cs = run (drop (a + 1) rest) in
        let behind = drop (length cs) (drop (a + 1) rest) in
        let some : next_is (λ d. eqb d (byte "?")) behind ≡ true = rw behind_run passes in
        let found = variable_leads (get_or rest a 0) (drop (a + 1) rest) u ∙ short_reader (get_or rest a 0) cs behind (omega arith) some ∙ as_led (variable reader) (suc (length cs)) in
        let more : e < length rest = next_inside _ rest e passes in
        (omega arith, omega arith, more, omega arith, token_in_front rest a h (suc (length cs)) (e + 1) (variable reader (slice a e rest)) found (omega arith) (omega arith))
