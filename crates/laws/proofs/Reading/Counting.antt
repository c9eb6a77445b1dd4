-- The readers that look at a token without reading a term, and those that count a name, a variable or a compound.
-- What they count is bounded by the figures; a variable's and a compound's number is below what has been counted.
use Prim.Native.Char.{Char}
use Prim.Native.Nat.{ℕ, suc, ◌+◌, ◌<◌}
use mathlib.Core.Path.{◌≡◌, refl}
use mathlib.Core.Logic.{◌⊎◌, inl, inr}
use mathlib.Core.Bool.{Bool, true, false}
use mathlib.Core.List.{List, [], ◌∷◌, ◌++◌}
use mathlib.Core.Option.{Option, none, some}
use native.Mathlib.Omega.{arith}
use lib.Dec.{ltb}
use lib.ListN.{length, length-append}
use borrow.Author.Tests.{ltb-true}
use Rattle.meaning.specs.Bytes.{Bytes, when◌then◌else◌, same, any}
use Rattle.meaning.specs.Tokens.{Token, Tokens, ends, token}
use Rattle.meaning.specs.Items.{
  Counted,
  read,
  malformed,
  passed,
  is,
  standing,
  expect,
  either,
  count_name,
  place_of,
  new_variable,
  count_variable,
  count_compound,
}
use Rattle.laws.proofs.Lists.{
  In,
  any_append_last,
  any_append_left,
  in_any,
  in_cons_cases,
  in_none,
  same_refl,
  differ,
  false_not_true,
}
use Rattle.laws.proofs.Reading.Figures.{SpellingFits, one_more_spelling, Known, Widens, widens_refl}
use Rattle.laws.proofs.Reading.Alike.{
  bounds,
  Figures,
  Beside,
  Agree,
  AgreeBy,
  ReadAlike,
  first_tokens,
  give_alike,
  cannot_stand_alike,
  if_alike,
  next_alike,
}

-- No compound is counted, and no more is said of what is read.
abbrev pub Unmoved : {A : Type 0} → ℕ → Counted → A → Type 0
Unmoved low c a = low ≡ c.compounds

module _ (c : Counted) where
  standing_agrees : (can : Token → Bool) (c₂ : Counted) (s₁ s₂ : Tokens) → Beside c c₂ s₁ s₂
      → Agree c (Unmoved c.compounds) (standing can c s₁) (standing can c₂ s₂)
  unfolding standing AgreeBy when◌then◌else◌
  standing_agrees can c₂ (ends place₁) (ends place₂) b = tt
  standing_agrees can c₂ (ends place₁) (token place₂ t₂ s₂) b = tt
  standing_agrees can c₂ (token place₁ t₁ s₁) (ends place₂) b = go (can t₁)
    where
      go : (test : Bool) → Agree c (Unmoved c.compounds) (when test then read (tt {0}) c (token place₁ t₁ s₁) else malformed place₁) (malformed place₂)
      go true = tt
      go false = tt
  standing_agrees can c₂ (token place₁ t₁ s₁) (token place₂ t₂ s₂) b = rw (first_tokens b).0 (go (can t₁))
    where
      go : (test : Bool)
          → Agree c (Unmoved c.compounds)
          (when test then read (tt {0}) c (token place₁ t₁ s₁) else malformed place₁)
          (when test then read (tt {0}) c₂ (token place₂ t₁ s₂) else malformed place₂)
      go true = record { value = refl; onward = rw (first_tokens b).0 at b; widens = widens_refl (bounds c); holds = refl }
      go false = tt

  pub standing_alike : (can : Token → Bool) → ReadAlike c (Unmoved c.compounds) (standing can) (standing can)
  standing_alike can = record { agree = standing_agrees can }

  pub expect_alike : (sign : Char) → ReadAlike c (Unmoved c.compounds) (expect sign) (expect sign)
  unfolding expect
  expect_alike sign = next_alike (λ place₁ place₂ t fits. if_alike (is sign t) (λ e. give_alike tt refl) (λ e. cannot_stand_alike place₁ place₂))

  pub either_alike : (first second : Char) → ReadAlike c (Unmoved c.compounds) (either first second) (either first second)
  unfolding either
  either_alike first second =
      next_alike (λ place₁ place₂ t fits.
      if_alike (is first t) (λ e. give_alike true refl)
      (λ e. if_alike (is second t) (λ e. give_alike false refl) (λ e. cannot_stand_alike place₁ place₂)))

-- "256 distinct names": a name is counted unless it is there, and is there then.
pub record NameCounted (f : Bytes) (c d : Counted) : Type 0 where
  pub variables : d.variables ≡ c.variables
  pub compounds : d.compounds ≡ c.compounds
  pub known : Known (bounds d) f
  pub widens : Widens (bounds c) (bounds d)
  pub figures : SpellingFits f → Figures c → Figures d

count_name_reads : (f : Bytes) (c : Counted) (s : Tokens)
    → (count_name f c s ≡ passed) ⊎ ((d : Counted) × (count_name f c s ≡ read tt d s) × NameCounted f c d)
unfolding count_name when◌then◌else◌
count_name_reads f c s = go (any (same f) c.names) refl (ltb (length c.names) 256) refl
  where
    unheard : any (same f) c.names ≡ false → In f c.names → ⊥
    unheard e m = false_not_true (any (same f) c.names) e (in_any (same f) m (same_refl f))

    go : (there : Bool) → any (same f) c.names ≡ there → (room : Bool) → ltb (length c.names) 256 ≡ room
        → (count_name f c s ≡ passed) ⊎ ((d : Counted) × (count_name f c s ≡ read tt d s) × NameCounted f c d)
    go true e room e' = inr (c, rw (e, count_name), record { variables = refl; compounds = refl; known = e; widens = widens_refl (bounds c); figures = λ s h. h })
    go false e true e' =
        inr (
          record { names = c.names ++ (f ∷ []); variables = c.variables; compounds = c.compounds },
          rw (e, e', count_name),
          record {
            variables = refl;
            compounds = refl;
            known = any_append_last (same f) c.names f (same_refl f);
            widens = record { pairs = omega arith; compounds = omega arith; names = λ g h. any_append_left (same g) c.names (f ∷ []) h };
            figures = λ s h. record {
              names = one_more_spelling c.names f (ltb-true (length c.names) 256 e') s (unheard e) h.names;
              variables = h.variables;
              compounds = h.compounds;
            };
          },
        )
    go false e false e' = inl (rw (e, e', count_name))

-- The name is known then, and no compound is counted.
abbrev pub NameKnown : Bytes → ℕ → Counted → Unit {0} → Type 0
NameKnown f low c u = Known (bounds c) f × (low ≡ c.compounds)

module _ (f : Bytes) (spelled : SpellingFits f) (c : Counted) where
  count_name_agrees : (c₂ : Counted) (s₁ s₂ : Tokens) → Beside c c₂ s₁ s₂
      → Agree c (NameKnown f c.compounds) (count_name f c s₁) (count_name f c₂ s₂)
  unfolding AgreeBy
  count_name_agrees c₂ s₁ s₂ b = go (count_name_reads f c s₁) (count_name_reads f c₂ s₂)
    where
      go : (count_name f c s₁ ≡ passed) ⊎ ((d : Counted) × (count_name f c s₁ ≡ read tt d s₁) × NameCounted f c d)
          → (count_name f c₂ s₂ ≡ passed) ⊎ ((d : Counted) × (count_name f c₂ s₂ ≡ read tt d s₂) × NameCounted f c₂ d)
          → Agree c (NameKnown f c.compounds) (count_name f c s₁) (count_name f c₂ s₂)
      go (inl e) other = rw e tt
      go (inr (d, e, h)) (inl e₂) = rw (e, e₂) tt
      go (inr (d, e, h)) (inr (d₂, e₂, h₂)) =
          rw (e, e₂) (record {
            value = refl;
            onward = record {
              variables = cc (b.variables, h.variables, h₂.variables);
              compounds = cc (b.compounds, h.compounds, h₂.compounds);
              tokens = b.tokens;
              figures = h.figures spelled b.figures;
              fit = b.fit;
            };
            widens = h.widens;
            holds = (h.known, cc h.compounds);
          })

  pub count_name_alike : ReadAlike c (NameKnown f c.compounds) (count_name f) (count_name f)
  count_name_alike = record { agree = count_name_agrees }

-- A pair's number is its place in order of first occurrence of either half.
pub place_below : (x : Bytes) (l : List Bytes) (n : ℕ) → place_of x l ≡ some n → n < length l
unfolding place_of
place_below x [] n e = absurd (differ (cc))
place_below x (y ∷ l) n e = go (same x y) refl (place_of x l) refl (place_below x l)
  where
    go : (b : Bool) → same x y ≡ b → (o : Option ℕ) → place_of x l ≡ o → ((m : ℕ) → place_of x l ≡ some m → m < length l) → n < suc (length l)
    go true t o e' below = let e'' : some 0 ≡ some n = rw (t, place_of) at e in let z : n ≡ 0 = cc in omega arith
    go false t none e' below = let e'' : none ≡ some n = rw (t, e', place_of) at e in absurd (differ (cc))
    go false t (some m) e' below = let e'' : some (suc m) ≡ some n = rw (t, e', place_of) at e in let z : n ≡ suc m = cc in omega (arith, below m e')

-- A spelling without a place is not there.
pub placeless : (x : Bytes) (l : List Bytes) → place_of x l ≡ none → In x l → ⊥
unfolding place_of
placeless x [] e m = in_none m
placeless x (y ∷ l) e m = go (same x y) refl (place_of x l) refl (placeless x l) (in_cons_cases m)
  where
    go : (b : Bool) → same x y ≡ b → (o : Option ℕ) → place_of x l ≡ o → (place_of x l ≡ none → In x l → ⊥) → (x ≡ y) ⊎ In x l → ⊥
    go true t o e' further at = let e'' : ◌≡◌ {A = Option ℕ} (some 0) none = rw (t, place_of) at e in differ (cc)
    go false t none e' further (inl first) = false_not_true (same x y) t (rw (← first) (same_refl x))
    go false t none e' further (inr later) = further e' later
    go false t (some n) e' further at = let e'' : some (suc n) ≡ none = rw (t, e', place_of) at e in differ (cc)

abbrev pub PairBelow : ℕ → Counted → ℕ → Type 0
PairBelow low c n = (n < length c.variables) × (low ≡ c.compounds)

module _ (x : Bytes) (spelled : SpellingFits x) (c c₂ : Counted) (s₁ s₂ : Tokens) (b : Beside c c₂ s₁ s₂) where
  new_variable_agrees : (o : Option ℕ) → place_of x c.variables ≡ o → Agree c (PairBelow c.compounds) (new_variable x o c s₁) (new_variable x o c₂ s₂)
  unfolding new_variable AgreeBy when◌then◌else◌
  new_variable_agrees (some n) e =
      record { value = refl; onward = b; widens = widens_refl (bounds c); holds = (place_below x c.variables n e, refl) }
  new_variable_agrees none e = rw (← b.variables) (go (ltb (length c.variables) 16) refl)
    where
      go : (room : Bool) → ltb (length c.variables) 16 ≡ room
          → Agree c (PairBelow c.compounds)
          (when room then read (length c.variables) (record { names = c.names; variables = c.variables ++ (x ∷ []); compounds = c.compounds }) s₁ else passed)
          (when room then read (length c.variables) (record { names = c₂.names; variables = c.variables ++ (x ∷ []); compounds = c₂.compounds }) s₂ else passed)
      go true room =
          let longer = length-append c.variables (x ∷ []) in
          let few = ltb-true (length c.variables) 16 room in
          record {
            value = refl;
            onward = record {
              variables = refl;
              compounds = b.compounds;
              tokens = b.tokens;
              figures = record {
                names = b.figures.names;
                variables = one_more_spelling c.variables x few spelled (placeless x c.variables e) b.figures.variables;
                compounds = b.figures.compounds;
              };
              fit = b.fit;
            };
            widens = record { pairs = omega arith; compounds = omega arith; names = λ g h. h };
            holds = (omega arith, refl);
          }
      go false room = tt

pub count_variable_alike : (x : Bytes) → SpellingFits x → (c : Counted) → ReadAlike c (PairBelow c.compounds) (count_variable x) (count_variable x)
unfolding count_variable
count_variable_alike x spelled c =
    record {
      agree = λ c₂ s₁ s₂ b.
          let e : place_of x c₂.variables ≡ place_of x c.variables = cc b.variables in
          rw e (new_variable_agrees x spelled c c₂ s₁ s₂ b (place_of x c.variables) refl);
    }

-- A compound's number is its place.
abbrev pub CompoundNext : ℕ → Counted → ℕ → Type 0
CompoundNext low c n = (n ≡ low) × (c.compounds ≡ low + 1)

module _ (c c₂ : Counted) (s₁ s₂ : Tokens) (b : Beside c c₂ s₁ s₂) where
  count_compound_agrees : Agree c (CompoundNext c.compounds) (count_compound c s₁) (count_compound c₂ s₂)
  unfolding count_compound AgreeBy when◌then◌else◌
  count_compound_agrees = rw (← b.compounds) (go (ltb c.compounds 32) refl)
    where
      go : (room : Bool) → ltb c.compounds 32 ≡ room
          → Agree c (CompoundNext c.compounds)
          (when room then read c.compounds (record { names = c.names; variables = c.variables; compounds = c.compounds + 1 }) s₁ else passed)
          (when room then read c.compounds (record { names = c₂.names; variables = c₂.variables; compounds = c.compounds + 1 }) s₂ else passed)
      go true room =
          let few = ltb-true c.compounds 32 room in
          record {
            value = refl;
            onward = record {
              variables = b.variables;
              compounds = refl;
              tokens = b.tokens;
              figures = record { names = b.figures.names; variables = b.figures.variables; compounds = omega arith };
              fit = b.fit;
            };
            widens = record { pairs = omega arith; compounds = omega arith; names = λ g h. h };
            holds = (refl, refl);
          }
      go false room = tt

pub count_compound_alike : (c : Counted) → ReadAlike c (CompoundNext c.compounds) count_compound count_compound
count_compound_alike c = record { agree = λ c₂ s₁ s₂ b. count_compound_agrees c c₂ s₁ s₂ b }
