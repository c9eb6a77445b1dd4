-- What the code says of the next token: whether it can begin a term, whether it is a sign, and which of some signs it is.
use Rattle.std.specs.Prelude.{ℕ, ◌+◌, ◌≤◌, ◌<◌, ◌≡◌, Bool, true, false, List, [], ◌∷◌, length, Result, Ok, Err}
use Rattle.meaning.specs.Bytes.{Bytes, among}
use Rattle.meaning.specs.Tokens.{Token, Tokens, ends, token, name, variable, integer, sign, bad}
use Rattle.meaning.specs.Items.{begins_term}
use Rattle.load_tokens.specs.Fronts.{tokens_in, behind, FrontIs}
use Rattle.load_tokens.specs.declared.next.Misplaced.{Misplaced}
use Rattle.load_tokens.specs.declared.token.Token.TheVariants as tokens

-- A token is one of these signs.
unfoldable pub one_of : List ℕ → Token → Bool
one_of signs (name f) = false
one_of signs (variable h v) = false
one_of signs (integer i) = false
one_of signs (sign b) = among b signs
one_of signs bad = false

-- The tokens stop at a place: the text ends there, or the token there does not pass the test.
abbrev pub Stops : (Token → Bool) → ℕ → Tokens → Type 0
Stops can place (ends p) = p ≡ place
Stops can place (token p t others) = (p ≡ place) × (can t ≡ false)

-- The next token passes the test.
abbrev pub Goes : (Token → Bool) → Tokens → Type 0
Goes can (ends p) = ⊥
Goes can (token p t others) = can t ≡ true

-- This sign comes next, and the first place behind it is a place of the rest.
pub record SignAt (rest : Bytes) (at x next : ℕ) : Type 0 where
  pub place : ℕ
  pub ends_at : next ≡ behind x place
  pub forward : at < next
  pub inside : next ≤ length rest
  pub follows : (from : ℕ) → tokens_in from rest at ≡ token (from + place) (sign x) (tokens_in from rest next)

-- The token that does not pass the test stands at the place that is named, wherever in the text the rest begins.
abbrev pub StopsAt : (Token → Bool) → Bytes → ℕ → Misplaced → Type 0
StopsAt can rest at m = (m.0 ≤ length rest) × ((from : ℕ) → Stops can (from + m.0) (tokens_in from rest at))

abbrev pub StartIs : Bytes → ℕ → Result Unit Misplaced → Type 0
StartIs rest at (Ok u) = (from : ℕ) → Goes begins_term (tokens_in from rest at)
StartIs rest at (Err m) = StopsAt begins_term rest at m

abbrev pub MarkIs : Bytes → ℕ → Result (ℕ × ℕ) Misplaced → Type 0
MarkIs rest at (Ok (c, a)) = FrontIs rest at (tokens.Sign c a)
MarkIs rest at (Err m) = (signs : List ℕ) → StopsAt (one_of signs) rest at m

abbrev pub IsNextSign : Bytes → ℕ → ℕ → Result ℕ Misplaced → Type 0
IsNextSign rest at x (Ok next) = SignAt rest at x next
IsNextSign rest at x (Err m) = StopsAt (one_of (x ∷ [])) rest at m

abbrev pub NextIs : Bytes → ℕ → List ℕ → Result (ℕ × ℕ) Misplaced → Type 0
NextIs rest at signs (Ok (c, next)) = (among c signs ≡ true) × SignAt rest at c next
NextIs rest at signs (Err m) = StopsAt (one_of signs) rest at m
