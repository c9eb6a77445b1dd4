-- A variable that stands at a place of a text is spelled by the text's bytes there.
-- By induction over the text: of all that can stand in front, only a run led by an uppercase letter is a variable, and the run is its spelling.
use Prim.Native.Nat.{ℕ, zero, suc, ◌+◌, ◌-◌}
use mathlib.Core.Path.{◌≡◌, refl}
use mathlib.Core.Logic.{◌⊎◌, inl, inr}
use mathlib.Core.Bool.{Bool, true, false, ◌||◌}
use mathlib.Core.List.{List, [], ◌∷◌, ◌++◌}
use native.Mathlib.Omega.{arith}
use lib.Dec.{leb, eqb}
use lib.ListN.{length}
use Rattle.meaning.specs.Bytes.{Bytes, byte, when◌then◌else◌}
use Rattle.meaning.specs.Terms.{Half, reader, writer}
use Rattle.meaning.specs.Tokens.{
  Token,
  name,
  variable,
  sign,
  bad,
  Tokens,
  ends,
  token,
  Front,
  blank,
  lowercase,
  uppercase,
  digit,
  underscore,
  separates,
  single_sign,
  in_run,
  run,
  unless_overlong,
  unsigned,
  negative,
  name_front,
  variable_front,
  double_front,
  minus_front,
  front,
  placed,
  tokens_from,
  tokens,
}
use Rattle.meaning.specs.Items.{is, onto, pieces}
use Rattle.laws.proofs.Lists.{In, here, there, in_none, in_single, in_cons_cases, if_holds, differ}
use Rattle.laws.proofs.Reading.Rising.{StandsAt}

-- If this token is a variable, then with this spelling.
abbrev SpelledSo : Bytes → Token → Type 0
SpelledSo s t = (k : Half) (x : Bytes) → variable k x ≡ t → x ≡ s

abbrev FrontSo : Bytes → Front → Type 0
FrontSo s (blank n) = Unit {0}
FrontSo s (Front.token n t) = SpelledSo s t

module _ (s : Bytes) where
  bad_so : SpelledSo s bad
  bad_so k x e = absurd (differ (cc))

  sign_so : (c : ℕ) → SpelledSo s (sign c)
  sign_so c k x e = absurd (differ (cc))

  name_so : (f : Bytes) → SpelledSo s (unless_overlong f (name f))
  unfolding unless_overlong
  name_so f = if_holds (SpelledSo s) (leb (length f) 31) (name f) bad (λ e k x q. absurd (differ (cc))) (λ e. bad_so)

  variable_so : (h : Half) → SpelledSo s (unless_overlong s (variable h s))
  unfolding unless_overlong
  variable_so h = if_holds (SpelledSo s) (leb (length s) 31) (variable h s) bad (λ e k x q. cc) (λ e. bad_so)

  unsigned_so : (cs : Bytes) → SpelledSo s (unsigned cs)
  unfolding unsigned
  unsigned_so cs = if_holds (SpelledSo s) _ _ _ (λ e k x q. absurd (differ (cc))) (λ e. bad_so)

  negative_so : (cs : Bytes) → SpelledSo s (negative cs)
  unfolding negative
  negative_so cs = if_holds (SpelledSo s) _ _ _ (λ e k x q. absurd (differ (cc))) (λ e. bad_so)

front_so : (c : ℕ) (cs : Bytes) → FrontSo (c ∷ run cs) (front c cs)
unfolding front name_front variable_front double_front minus_front
front_so c cs =
    let s : Bytes = c ∷ run cs in
    if_holds (FrontSo s) (separates c) _ _ (λ e. tt)
    (λ e. if_holds (FrontSo s) (eqb c (byte "%")) _ _ (λ e. tt)
    (λ e. if_holds (FrontSo s) (lowercase c) _ _ (λ e. name_so s (c ∷ run cs))
    (λ e. if_holds (FrontSo s) (uppercase c) _ _
    (λ e. if_holds (FrontSo s) _ _ _ (λ e. variable_so s reader) (λ e. variable_so s writer))
    (λ e. if_holds (FrontSo s) (digit c) _ _ (λ e. unsigned_so s (c ∷ run cs))
    (λ e. if_holds (FrontSo s) (underscore c) _ _ (λ e. bad_so s)
    (λ e. if_holds (FrontSo s) (eqb c (byte "-")) _ _ (λ e. if_holds (FrontSo s) _ _ _ (λ e. negative_so s (run cs)) (λ e. bad_so s))
    (λ e. if_holds (FrontSo s) (eqb c (byte ":") || eqb c (byte "?")) _ _ (λ e. if_holds (FrontSo s) _ _ _ (λ e. sign_so s c) (λ e. bad_so s))
    (λ e. if_holds (FrontSo s) (eqb c (byte "=")) _ _ (λ e. if_holds (FrontSo s) _ _ _ (λ e. sign_so s c) (λ e. bad_so s))
    (λ e. if_holds (FrontSo s) (single_sign c) _ _ (λ e. sign_so s c) (λ e. bad_so s))))))))))

run_in_front : (cs : Bytes) → (behind : Bytes) × (cs ≡ run cs ++ behind)
unfolding run
run_in_front [] = ([], refl)
run_in_front (c ∷ cs) = go (in_run c) refl (run_in_front cs)
  where
    go : (b : Bool) → in_run c ≡ b → (behind : Bytes) × (cs ≡ run cs ++ behind) → (behind : Bytes) × (c ∷ cs ≡ run (c ∷ cs) ++ behind)
    go true e (behind, q) = (behind, rw (e, run) (cc q))
    go false e q = (c ∷ cs, rw (e, run) refl)

-- The bytes at a place of a text: this spelling, with so many bytes before it.
pub record SpelledAt (text : Bytes) (p : ℕ) (x : Bytes) : Type 0 where
  pub before : Bytes
  pub behind : Bytes
  pub text_is : text ≡ before ++ (x ++ behind)
  pub place_is : length before ≡ p

-- From an offset on.
abbrev From : ℕ → Bytes → ℕ → Bytes → Type 0
From at cs p x = (before : Bytes) × (behind : Bytes) × (cs ≡ before ++ (x ++ behind)) × (p ≡ at + length before)

one_more : (at c p : ℕ) (cs x : Bytes) → From (at + 1) cs p x → From at (c ∷ cs) p x
one_more at c p cs x (before, behind, e, q) = (c ∷ before, behind, cc e, omega arith)

module _ (k : Half) (x : Bytes) (p : ℕ) where
  placed_spelled : (at c : ℕ) (cs : Bytes) (f : Front) → FrontSo (c ∷ run cs) f → (later : ℕ → Tokens)
      → ((n : ℕ) → StandsAt p (variable k x) (later n) → From (at + 1) cs p x) → StandsAt p (variable k x) (placed at f later) → From at (c ∷ cs) p x
  unfolding placed StandsAt
  placed_spelled at c cs (blank n) so later further m = one_more at c p cs x (further n m)
  placed_spelled at c cs (Front.token n t) so later further (inl (e, q)) =
      let (behind, run_is) = run_in_front cs in
      let x_is : x ≡ c ∷ run cs = so k x q in
      ([], behind, rw x_is (cc run_is), omega arith)
  placed_spelled at c cs (Front.token n t) so later further (inr m) = one_more at c p cs x (further n m)

  tokens_spelled : (at skip : ℕ) (cs : Bytes) → StandsAt p (variable k x) (tokens_from at skip cs) → From at cs p x
  unfolding tokens_from StandsAt
  tokens_spelled at skip [] m = absurd m
  tokens_spelled at zero (c ∷ cs) m =
      placed_spelled at c cs (front c cs) (front_so c cs) (λ n. tokens_from (at + 1) n cs) (λ n i. tokens_spelled (at + 1) n cs i) m
  tokens_spelled at (suc skip) (c ∷ cs) m = one_more at c p cs x (tokens_spelled (at + 1) skip cs m)

  -- A variable at a place of a text is spelled there.
  pub spelled_at : (text : Bytes) → StandsAt p (variable k x) (tokens text) → SpelledAt text p x
  unfolding tokens
  spelled_at text m =
      let (before, behind, e, q) = tokens_spelled 0 0 text m in
      record { before = before; behind = behind; text_is = e; place_is = omega arith }

-- What stands in a piece of the tokens stands among them.
pub stands_in_all : (p : ℕ) (u : Token) (ts piece : Tokens) → In piece (pieces ts) → StandsAt p u piece → StandsAt p u ts
unfolding pieces StandsAt onto when◌then◌else◌
stands_in_all p u (ends place) piece m i = rw (in_single m) at i
stands_in_all p u (token place t rest) piece m i = go (is "." t) refl (stands_in_all p u rest)
  where
    onto_cases : (ps : List Tokens) → In piece (onto place t ps) → ((s : Tokens) → In s ps → StandsAt p u s → StandsAt p u rest)
        → ((p ≡ place) × (u ≡ t)) ⊎ StandsAt p u rest
    onto_cases [] m further = absurd (in_none m)
    onto_cases (s ∷ ps) m further = by (in_cons_cases m)
      where
        by : (piece ≡ token place t s) ⊎ In piece ps → ((p ≡ place) × (u ≡ t)) ⊎ StandsAt p u rest
        by (inl e) = first (rw e at i)
          where
            first : ((p ≡ place) × (u ≡ t)) ⊎ StandsAt p u s → ((p ≡ place) × (u ≡ t)) ⊎ StandsAt p u rest
            first (inl q) = inl q
            first (inr q) = inr (further s (here refl) q)
        by (inr j) = inr (further piece (there j) i)

    go : (b : Bool) → is "." t ≡ b → ((s : Tokens) → In s (pieces rest) → StandsAt p u s → StandsAt p u rest) → ((p ≡ place) × (u ≡ t)) ⊎ StandsAt p u rest
    go true e further = by (in_cons_cases (rw e at m))
      where
        by : (piece ≡ token place t (ends place)) ⊎ In piece (pieces rest) → ((p ≡ place) × (u ≡ t)) ⊎ StandsAt p u rest
        by (inl q) = first (rw q at i)
          where
            first : ((p ≡ place) × (u ≡ t)) ⊎ StandsAt p u (ends place) → ((p ≡ place) × (u ≡ t)) ⊎ StandsAt p u rest
            first (inl q) = inl q
            first (inr q) = absurd q
        by (inr j) = inr (further piece j i)
    go false e further = onto_cases (pieces rest) (rw e at m) further
