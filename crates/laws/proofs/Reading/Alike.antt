-- Two readings alike: from the same tokens, wherever they stand, and from the same variables and compounds counted, whatever the names,
-- both readers read the same, if both read at all; and what is read fits within what has been counted. One law for each combinator.
-- Where what is read holds tokens, with their places, the two are alike by some relation and not the same.
use Prim.Native.Char.{Char}
use Prim.Native.Nat.{ℕ, ◌≤◌}
use mathlib.Core.Path.{◌≡◌, refl}
use mathlib.Core.Bool.{Bool, true, false}
use mathlib.Core.List.{List, [], ◌∷◌}
use lib.ListN.{length}
use Rattle.meaning.specs.Bytes.{when◌then◌else◌}
use Rattle.meaning.specs.Tokens.{Token, Tokens, ends, token}
use Rattle.meaning.specs.Items.{
  Counted,
  Read,
  read,
  malformed,
  passed,
  Reader,
  read_on,
  ◌>>=◌,
  ◌>>◌,
  give,
  cannot_stand,
  passes,
  next,
  is,
  if_next,
  here,
}
use Rattle.laws.proofs.Lists.{differ}
use Rattle.laws.proofs.Reading.EachToken.{EachToken}
use Rattle.laws.proofs.Reading.TokensFit.{TokenFits}
use Rattle.laws.proofs.Reading.Figures.{SpellingsFit, Bounds, Widens, widens_refl, widens_trans}

-- The tokens of a piece of the text, without their places.
unfoldable pub bare : Tokens → List Token
bare (ends place) = []
bare (token place t rest) = t ∷ bare rest

-- What has been counted bounds what has been read.
abbrev pub bounds : Counted → Bounds
bounds c = record { pairs = length c.variables; compounds = c.compounds; names = c.names }

-- The figures are kept so far, and names and variables are told apart.
pub record Figures (c : Counted) : Type 0 where
  pub names : SpellingsFit 256 c.names
  pub variables : SpellingsFit 16 c.variables
  pub compounds : c.compounds ≤ 32

-- Two places in two texts from which the same is read.
pub record Beside (c₁ c₂ : Counted) (s₁ s₂ : Tokens) : Type 0 where
  pub variables : c₁.variables ≡ c₂.variables
  pub compounds : c₁.compounds ≡ c₂.compounds
  pub tokens : bare s₁ ≡ bare s₂
  pub figures : Figures c₁
  pub fit : EachToken TokenFits s₁

-- What two readings that began at c have read: alike by R, and of the first P holds, up to places beside one another.
pub record SameBy {A : Type 0} (c : Counted) (R : A → A → Type 0) (P : Counted → A → Type 0) (a₁ a₂ : A) (c₁ c₂ : Counted) (s₁ s₂ : Tokens) : Type 0 where
  pub value : R a₁ a₂
  pub onward : Beside c₁ c₂ s₁ s₂
  pub widens : Widens (bounds c) (bounds c₁)
  pub holds : P c₁ a₁

-- If both read at all.
unfoldable pub AgreeBy : {A : Type 0} → Counted → (A → A → Type 0) → (Counted → A → Type 0) → Read A → Read A → Type 0
AgreeBy c R P (read a₁ c₁ s₁) (read a₂ c₂ s₂) = SameBy c R P a₁ a₂ c₁ c₂ s₁ s₂
AgreeBy c R P (read a₁ c₁ s₁) (malformed place) = Unit {0}
AgreeBy c R P (read a₁ c₁ s₁) passed = Unit {0}
AgreeBy c R P (malformed place) y = Unit {0}
AgreeBy c R P passed y = Unit {0}

-- Two readers that read alike from what has been counted at c.
pub record ReadAlikeBy {A : Type 0} (c : Counted) (R : A → A → Type 0) (P : Counted → A → Type 0) (r₁ r₂ : Reader A) : Type 0 where
  pub agree : (c₂ : Counted) (s₁ s₂ : Tokens) → Beside c c₂ s₁ s₂ → AgreeBy c R P (r₁ c s₁) (r₂ c₂ s₂)

-- Most read the same.
abbrev pub Same : {A : Type 0} → Counted → (Counted → A → Type 0) → A → A → Counted → Counted → Tokens → Tokens → Type 0
Same c P a₁ a₂ c₁ c₂ s₁ s₂ = SameBy c (λ a b. a ≡ b) P a₁ a₂ c₁ c₂ s₁ s₂

abbrev pub Agree : {A : Type 0} → Counted → (Counted → A → Type 0) → Read A → Read A → Type 0
Agree c P x y = AgreeBy c (λ a b. a ≡ b) P x y

abbrev pub ReadAlike : {A : Type 0} → Counted → (Counted → A → Type 0) → Reader A → Reader A → Type 0
ReadAlike c P r₁ r₂ = ReadAlikeBy c (λ a b. a ≡ b) P r₁ r₂

-- The same tokens behind a first token, which fits.
pub first_tokens : {c₁ c₂ : Counted} {place₁ place₂ : ℕ} {t₁ t₂ : Token} {s₁ s₂ : Tokens}
    → Beside c₁ c₂ (token place₁ t₁ s₁) (token place₂ t₂ s₂) → (t₂ ≡ t₁) × Beside c₁ c₂ s₁ s₂ × TokenFits t₁
unfolding bare
first_tokens b = (
  cc b.tokens,
  record { variables = b.variables; compounds = b.compounds; tokens = cc b.tokens; figures = b.figures; fit = b.fit.1 },
  b.fit.0,
)

module _ {A : Type 0} (c : Counted) (R : A → A → Type 0) (P : Counted → A → Type 0) where
  agree_malformed : (x : Read A) (place : ℕ) → AgreeBy c R P x (malformed place)
  unfolding AgreeBy
  agree_malformed (read a₁ c₁ s₁) place = tt
  agree_malformed (malformed place₁) place = tt
  agree_malformed passed place = tt

  agree_passed : (x : Read A) → AgreeBy c R P x passed
  unfolding AgreeBy
  agree_passed (read a₁ c₁ s₁) = tt
  agree_passed (malformed place₁) = tt
  agree_passed passed = tt

  agree_wider : (d : Counted) → Widens (bounds c) (bounds d) → (x y : Read A) → AgreeBy d R P x y → AgreeBy c R P x y
  unfolding AgreeBy
  agree_wider d w (read a₁ c₁ s₁) (read a₂ c₂ s₂) h =
      record { value = h.value; onward = h.onward; widens = widens_trans w h.widens; holds = h.holds }
  agree_wider d w (read a₁ c₁ s₁) (malformed place) h = tt
  agree_wider d w (read a₁ c₁ s₁) passed h = tt
  agree_wider d w (malformed place) y h = tt
  agree_wider d w passed y h = tt

module _ {A : Type 0} {c : Counted} {R : A → A → Type 0} {P : Counted → A → Type 0} where
  pub cannot_stand_alike : (place₁ place₂ : ℕ) → ReadAlikeBy c R P (cannot_stand place₁) (cannot_stand place₂)
  unfolding cannot_stand AgreeBy
  cannot_stand_alike place₁ place₂ = record { agree = λ c₂ s₁ s₂ b. tt }

  pub passes_alike : ReadAlikeBy c R P passes passes
  unfolding passes AgreeBy
  passes_alike = record { agree = λ c₂ s₁ s₂ b. tt }

  pub give_alike_by : (a₁ a₂ : A) → R a₁ a₂ → P c a₁ → ReadAlikeBy c R P (give a₁) (give a₂)
  unfolding give AgreeBy
  give_alike_by a₁ a₂ r p =
      record { agree = λ c₂ s₁ s₂ b. record { value = r; onward = b; widens = widens_refl (bounds c); holds = p } }

  pub if_alike : (test : Bool) {r₁ r₂ r₃ r₄ : Reader A} → (test ≡ true → ReadAlikeBy c R P r₁ r₂) → (test ≡ false → ReadAlikeBy c R P r₃ r₄)
      → ReadAlikeBy c R P (when test then r₁ else r₃) (when test then r₂ else r₄)
  unfolding when◌then◌else◌
  if_alike true first second = first refl
  if_alike false first second = second refl

  module _ {on₁ on₂ : ℕ → Token → Reader A} (on : (place₁ place₂ : ℕ) (t : Token) → TokenFits t → ReadAlikeBy c R P (on₁ place₁ t) (on₂ place₂ t)) where
    next_agrees : (c₂ : Counted) (s₁ s₂ : Tokens) → Beside c c₂ s₁ s₂ → AgreeBy c R P (next on₁ c s₁) (next on₂ c₂ s₂)
    unfolding next AgreeBy
    next_agrees c₂ (ends place₁) (ends place₂) b = tt
    next_agrees c₂ (ends place₁) (token place₂ t₂ s₂) b = tt
    next_agrees c₂ (token place₁ t₁ s₁) (ends place₂) b = agree_malformed c R P (on₁ place₁ t₁ c s₁) place₂
    next_agrees c₂ (token place₁ t₁ s₁) (token place₂ t₂ s₂) b =
        rw (first_tokens b).0 ((on place₁ place₂ t₁ (first_tokens b).2).agree c₂ s₁ s₂ (first_tokens b).1)

    pub next_alike : ReadAlikeBy c R P (next on₁) (next on₂)
    next_alike = record { agree = next_agrees }

  module _ (sign : Char) {r₁ r₂ r₃ r₄ : Reader A} (first : ReadAlikeBy c R P r₁ r₂) (second : ReadAlikeBy c R P r₃ r₄) where
    if_next_agrees : (c₂ : Counted) (s₁ s₂ : Tokens) → Beside c c₂ s₁ s₂ → AgreeBy c R P (if_next sign r₁ r₃ c s₁) (if_next sign r₂ r₄ c₂ s₂)
    unfolding if_next bare when◌then◌else◌
    if_next_agrees c₂ (ends place₁) (ends place₂) b = second.agree c₂ (ends place₁) (ends place₂) b
    if_next_agrees c₂ (ends place₁) (token place₂ t₂ s₂) b = absurd (differ (cc b.tokens))
    if_next_agrees c₂ (token place₁ t₁ s₁) (ends place₂) b = absurd (differ (cc b.tokens))
    if_next_agrees c₂ (token place₁ t₁ s₁) (token place₂ t₂ s₂) b = rw (first_tokens b).0 (go (is sign t₁))
      where
        go : (test : Bool)
            → AgreeBy c R P (when test then r₁ c s₁ else r₃ c (token place₁ t₁ s₁)) (when test then r₂ c₂ s₂ else r₄ c₂ (token place₂ t₁ s₂))
        go true = first.agree c₂ s₁ s₂ (first_tokens b).1
        go false = rw (first_tokens b).0 at (second.agree c₂ (token place₁ t₁ s₁) (token place₂ t₂ s₂) b)

    pub if_next_alike : ReadAlikeBy c R P (if_next sign r₁ r₃) (if_next sign r₂ r₄)
    if_next_alike = record { agree = if_next_agrees }

pub give_alike : {A : Type 0} {c : Counted} {P : Counted → A → Type 0} (a : A) → P c a → ReadAlike c P (give a) (give a)
give_alike a p = give_alike_by a a refl p

-- One reader behind another: the second is judged from what the first has counted, and knows what the first has read.
module _ {A B : Type 0} (c : Counted) (R : A → A → Type 0) (P : Counted → A → Type 0) (S : B → B → Type 0) (Q : Counted → B → Type 0) where
  read_on_agrees : (k₁ k₂ : A → Reader B)
      → ((d : Counted) (a₁ a₂ : A) → Widens (bounds c) (bounds d) → R a₁ a₂ → P d a₁ → ReadAlikeBy d S Q (k₁ a₁) (k₂ a₂))
      → (x y : Read A) → AgreeBy c R P x y → AgreeBy c S Q (read_on x k₁) (read_on y k₂)
  unfolding AgreeBy read_on
  read_on_agrees k₁ k₂ on (read a₁ c₁ s₁) (read a₂ c₂ s₂) h =
      agree_wider c S Q c₁ h.widens (k₁ a₁ c₁ s₁) (k₂ a₂ c₂ s₂) ((on c₁ a₁ a₂ h.widens h.value h.holds).agree c₂ s₁ s₂ h.onward)
  read_on_agrees k₁ k₂ on (read a₁ c₁ s₁) (malformed place) h = agree_malformed c S Q (k₁ a₁ c₁ s₁) place
  read_on_agrees k₁ k₂ on (read a₁ c₁ s₁) passed h = agree_passed c S Q (k₁ a₁ c₁ s₁)
  read_on_agrees k₁ k₂ on (malformed place) y h = tt
  read_on_agrees k₁ k₂ on passed y h = tt

pub then_alike_by : {A B : Type 0} {c : Counted} {R : A → A → Type 0} {P : Counted → A → Type 0} {S : B → B → Type 0} {Q : Counted → B → Type 0}
    {r₁ r₂ : Reader A} {k₁ k₂ : A → Reader B} → ReadAlikeBy c R P r₁ r₂
    → ((d : Counted) (a₁ a₂ : A) → Widens (bounds c) (bounds d) → R a₁ a₂ → P d a₁ → ReadAlikeBy d S Q (k₁ a₁) (k₂ a₂))
    → ReadAlikeBy c S Q (r₁ >>= k₁) (r₂ >>= k₂)
unfolding ◌>>=◌
then_alike_by {c = c} {R = R} {P = P} {S = S} {Q = Q} {r₁ = r₁} {r₂ = r₂} {k₁ = k₁} {k₂ = k₂} first on =
    record { agree = λ c₂ s₁ s₂ b. read_on_agrees c R P S Q k₁ k₂ on (r₁ c s₁) (r₂ c₂ s₂) (first.agree c₂ s₁ s₂ b) }

module _ {A B : Type 0} {c : Counted} {P : Counted → A → Type 0} {S : B → B → Type 0} {Q : Counted → B → Type 0} where
  pub then_alike : {r₁ r₂ : Reader A} {k₁ k₂ : A → Reader B} → ReadAlike c P r₁ r₂
      → ((d : Counted) (a : A) → Widens (bounds c) (bounds d) → P d a → ReadAlikeBy d S Q (k₁ a) (k₂ a))
      → ReadAlikeBy c S Q (r₁ >>= k₁) (r₂ >>= k₂)
  then_alike first on = then_alike_by first (λ d a₁ a₂ w e p. rw (← e) (on d a₁ w p))

  pub behind_alike : {r₁ r₂ : Reader A} {q₁ q₂ : Reader B} → ReadAlike c P r₁ r₂
      → ((d : Counted) (a : A) → Widens (bounds c) (bounds d) → P d a → ReadAlikeBy d S Q q₁ q₂)
      → ReadAlikeBy c S Q (r₁ >> q₁) (r₂ >> q₂)
  unfolding ◌>>◌
  behind_alike {r₁} {r₂} {q₁} {q₂} first on =
      record {
        agree = λ c₂ s₁ s₂ b.
            read_on_agrees c (λ a b. a ≡ b) P S Q (λ a. q₁) (λ a. q₂) (λ d a₁ a₂ w e p. on d a₁ w p) (r₁ c s₁) (r₂ c₂ s₂) (first.agree c₂ s₁ s₂ b);
      }

-- The tokens that come next are the same but for their places, and none is taken.
pub here_alike : {B : Type 0} {c : Counted} {S : B → B → Type 0} {Q : Counted → B → Type 0} {k₁ k₂ : Tokens → Reader B}
    → ((s₁ s₂ : Tokens) → ReadAlikeBy c S Q (k₁ s₁) (k₂ s₂)) → ReadAlikeBy c S Q (here >>= k₁) (here >>= k₂)
unfolding here ◌>>=◌ read_on
here_alike on = record { agree = λ c₂ s₁ s₂ b. (on s₁ s₂).agree c₂ s₁ s₂ b }

-- Less may be said of what is read.
module _ {A : Type 0} (c : Counted) (P Q : Counted → A → Type 0) (less : (d : Counted) (a : A) → P d a → Q d a) where
  agree_less : (x y : Read A) → Agree c P x y → Agree c Q x y
  unfolding AgreeBy
  agree_less (read a₁ c₁ s₁) (read a₂ c₂ s₂) h =
      record { value = h.value; onward = h.onward; widens = h.widens; holds = less c₁ a₁ h.holds }
  agree_less (read a₁ c₁ s₁) (malformed place) h = tt
  agree_less (read a₁ c₁ s₁) passed h = tt
  agree_less (malformed place) y h = tt
  agree_less passed y h = tt

  pub less_alike : {r₁ r₂ : Reader A} → ReadAlike c P r₁ r₂ → ReadAlike c Q r₁ r₂
  less_alike {r₁} {r₂} h = record { agree = λ c₂ s₁ s₂ b. agree_less (r₁ c s₁) (r₂ c₂ s₂) (h.agree c₂ s₁ s₂ b) }

-- Both have read: so they have read alike, and it fits.
pub both_read : {A : Type 0} {c c₂ : Counted} {R : A → A → Type 0} {P : Counted → A → Type 0} {r₁ r₂ : Reader A} {s₁ s₂ : Tokens} → ReadAlikeBy c R P r₁ r₂
    → Beside c c₂ s₁ s₂ → {a₁ a₂ : A} {d₁ d₂ : Counted} {t₁ t₂ : Tokens} → r₁ c s₁ ≡ read a₁ d₁ t₁ → r₂ c₂ s₂ ≡ read a₂ d₂ t₂
    → SameBy c R P a₁ a₂ d₁ d₂ t₁ t₂
unfolding AgreeBy
both_read {c₂ = c₂} {s₁ = s₁} {s₂ = s₂} h b e₁ e₂ = rw (e₁, e₂) at (h.agree c₂ s₁ s₂ b)
