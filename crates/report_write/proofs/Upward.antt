-- Behind an argument: a byte and the next argument, or a last byte and the compound around.
use Prim.Native.Nat.{ℕ, zero, suc, ◌+◌, ◌-◌, ◌/◌, ◌%◌, ◌≤◌, ◌<◌}
use mathlib.Core.Path.{◌≡◌, refl, ◌∙◌, sym, ap}
use mathlib.Core.Logic.{◌≢◌}
use mathlib.Core.List.{List, [], ◌∷◌, ◌++◌, append_assoc}
use native.Mathlib.Omega.{arith}
use lib.ListN.{length, length-append, get_or}
use Rattle.meaning.specs.Bytes.{Bytes}
use Rattle.term.specs.Setting.{Setting}
use Rattle.report_pairs.specs.Laid.{Puts}
use Rattle.report_pairs.specs.Walk.{after, rest, Found}
use Rattle.std.specs.Prelude.{Option, Some, None}
use Rattle.report_write.specs.Frames.{Behind, Frames, Rose}
use Rattle.report_pairs.proofs.Leaves.{length_more}
use Rattle.report_pairs.proofs.Laid.{puts_none}
use Rattle.report_put.proofs.Putting.{puts_two, puts_is, puts_length}

-- The compound around the innermost.
outermost : (frames s : List ℕ) (x : Setting) (facts : ℕ) (order : List ℕ) (d : ℕ) (bs : Bytes) → d ≡ 0 → Frames frames s x facts order d bs → bs ≡ []
unfolding Frames
outermost frames s x facts order zero bs e F = F
outermost frames s x facts order (suc d) bs e F = absurd (omega arith)

around : (frames s : List ℕ) (x : Setting) (facts : ℕ) (order : List ℕ) (d : ℕ) (bs : Bytes) → d ≢ 0 → Frames frames s x facts order d bs
    → Behind (Frames frames s x facts order (d - 1)) s x facts order (get_or frames (d - 1) 0 / 8) (get_or frames (d - 1) 0 % 8) bs
unfolding Frames
around frames s x facts order zero bs e F = absurd (e refl)
around frames s x facts order (suc d) bs e F = let same : suc d - 1 ≡ d = omega arith in rw same F

-- Some of the bytes are put.
pub record Rising (frames s : List ℕ) (x : Setting) (facts : ℕ) (order b₀ b : List ℕ) (at to p i d deep : ℕ) (bs : Bytes) : Type 0 where
  pub done : Bytes
  pub left : Bytes
  pub puts : Puts b₀ b at to done
  pub whole : done ++ left ≡ bs
  pub behind : Behind (Frames frames s x facts order d) s x facts order p i left
  pub low : d ≤ deep

pub rising_first : (frames s : List ℕ) (x : Setting) (facts : ℕ) (order b : List ℕ) (at p i d : ℕ) (bs : Bytes)
    → Behind (Frames frames s x facts order d) s x facts order p i bs → Rising frames s x facts order b b at at p i d d bs
rising_first frames s x facts order b at p i d bs B = record { done = []; left = bs; puts = puts_none b at; whole = refl; behind = B; low = omega arith }

module _ (frames s : List ℕ) (x : Setting) (facts : ℕ) (order b₀ b : List ℕ) (at to p i d deep : ℕ) (bs : Bytes)
    (R : Rising frames s x facts order b₀ b at to p i d deep bs) where
  abbrev B : Behind (Frames frames s x facts order d) s x facts order p i R.left
  B = R.behind

  abbrev here : Bytes
  here = after x.values order B.f B.j B.us

  -- There is room for the byte that was found.
  room : (byte : ℕ) (further : Bytes) → here ≡ byte ∷ further → at + length bs ≤ length b₀ → to < length b
  room byte further e fit =
      omega (
        arith,
        fit,
        ap length R.whole,
        length-append R.done R.left,
        ap length B.is,
        length-append here B.outer,
        ap length e,
        length_more byte further,
        R.puts.place,
        puts_length R.puts,
      )

  pub rising_room : (found : ℕ × Option (ℕ × ℕ)) → Found s x B.f B.j B.us found → at + length bs ≤ length b₀ → to < length b
  rising_room (byte, None) F = room byte [] (F.0 order)
  rising_room (byte, Some (q, k)) F = room byte _ (F.5 order)

  module _ (b₁ : List ℕ) (to₁ byte : ℕ) (P : Puts b b₁ to to₁ (byte ∷ [])) where
    further_on : (left : Bytes) → byte ∷ left ≡ R.left → (R.done ++ (byte ∷ [])) ++ left ≡ bs
    further_on left e = append_assoc R.done (byte ∷ []) left ∙ ap (λ (l : Bytes). R.done ++ l) e ∙ R.whole

    last_byte : here ≡ byte ∷ [] → byte ∷ B.outer ≡ R.left
    last_byte e = ap (λ (l : Bytes). l ++ B.outer) (sym e) ∙ B.is

    pub rising_goes : (q k : ℕ) → Found s x B.f B.j B.us (byte, Some (q, k))
        → Rose frames s x facts order b₀ b₁ at deep bs (to₁, Some (q, k, d))
    rising_goes q k (j, g, v, vs, position, bytes_are, seen_are, stands_are) = (
      R.done ++ (byte ∷ []),
      rest x.values order g j v vs ++ B.outer,
      puts_two R.puts P,
      further_on (rest x.values order g j v vs ++ B.outer) (ap (λ (l : Bytes). l ++ B.outer) (sym (bytes_are order)) ∙ B.is),
      record {
        f = g;
        j = j;
        u = v;
        us = vs;
        position = position;
        numbered = λ m h st. B.numbered m h (stands_are m st);
        outer = B.outer;
        outside = B.outside;
        is = refl;
      },
      omega (arith, R.puts.place, P.place, length_more byte []),
      R.low,
    )

    pub rising_ends : Found s x B.f B.j B.us (byte, None) → d ≡ 0 → Puts b₀ b₁ at to₁ bs
    rising_ends F e =
        let none = outermost frames s x facts order d B.outer e B.outside in
        let one : byte ∷ [] ≡ R.left = ap (λ (l : Bytes). byte ∷ l) (sym none) ∙ last_byte (F.0 order) in
        puts_is (ap (λ (l : Bytes). R.done ++ l) one ∙ R.whole) (puts_two R.puts P)

    pub rising_on : Found s x B.f B.j B.us (byte, None) → d ≢ 0
        → Rising frames s x facts order b₀ b₁ at to₁ (get_or frames (d - 1) 0 / 8) (get_or frames (d - 1) 0 % 8) (d - 1) deep bs
    rising_on F e = record {
      done = R.done ++ (byte ∷ []);
      left = B.outer;
      puts = puts_two R.puts P;
      whole = further_on B.outer (last_byte (F.0 order));
      behind = around frames s x facts order d B.outer e B.outside;
      low = omega (arith, R.low);
    }
