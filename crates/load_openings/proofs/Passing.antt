-- Tokens that were passed, one part behind the other, and what they add: names and variables only ever come behind those known.
use Prim.Native.Nat.{ℕ, ◌-◌}
use mathlib.Core.Path.{◌≡◌, refl, ap, sym, ◌∙◌}
use mathlib.Core.Bool.{Bool, true, false}
use mathlib.Core.List.{List, [], ◌∷◌, ◌++◌, append_assoc, append-nil}
use Rattle.meaning.specs.Bytes.{Bytes, same, any}
use Rattle.meaning.specs.Tokens.{Token, Tokens, ends, token, name, variable, integer, sign, bad}
use Rattle.load_names.specs.Places.{
  Place,
  Placed,
  spellings,
  with_place,
  with_name,
  with_variable,
  before,
  names_over,
  variables_over,
}
use Rattle.load_tokens.specs.Nexts.{Stops, Goes}
use Rattle.load_openings.specs.Reading.{piece, Open}
use Rattle.load_names.proofs.Numbering.{spellings_append, with_known, with_new}

pub before_append : (a b : List Placed) (rest : Tokens) → before (a ++ b) rest ≡ before a (before b rest)
unfolding before
before_append [] b rest = refl
before_append (p ∷ a) b rest = ap (λ l. token p.at p.token l) (before_append a b rest)

pub names_append : (a b : List Placed) (known : List Place) → names_over (a ++ b) known ≡ names_over b (names_over a known)
unfolding names_over
names_append [] b known = refl
names_append (p ∷ a) b known = names_append a b (with_name p.at p.token known)

pub variables_append : (from : ℕ) (a b : List Placed) (vars : List Place)
    → variables_over from (a ++ b) vars ≡ variables_over from b (variables_over from a vars)
unfolding variables_over
variables_append from [] b vars = refl
variables_append from (p ∷ a) b vars = variables_append from a b (with_variable (p.at - from) p.token vars)

pub open_append : (a b : List Placed) → Open a → Open b → Open (a ++ b)
unfolding Open
open_append [] b h k = k
open_append (p ∷ a) b h k = (h.0, open_append a b h.1 k)

-- What comes behind the known places.
abbrev pub Longer : List Place → List Place → Type 0
Longer known known' = (later : List Place) × (known' ≡ known ++ later)

with_longer : (at : ℕ) (f : Bytes) (known : List Place) (b : Bool) → any (same f) (spellings known) ≡ b → Longer known (with_place at f known)
with_longer at f known true e = ([], with_known at f known e ∙ sym (append-nil known))
with_longer at f known false e = (record { at = at; spelling = f } ∷ [], with_new at f known e)

with_name_longer : (at : ℕ) (t : Token) (known : List Place) → Longer known (with_name at t known)
unfolding with_name
with_name_longer at (name f) known = with_longer at f known (any (same f) (spellings known)) refl
with_name_longer at (variable h x) known = ([], sym (append-nil known))
with_name_longer at (integer i) known = ([], sym (append-nil known))
with_name_longer at (sign b) known = ([], sym (append-nil known))
with_name_longer at bad known = ([], sym (append-nil known))

longer_then : (a b c : List Place) → Longer a b → Longer b c → Longer a c
longer_then a b c x y = (x.0 ++ y.0, y.1 ∙ ap (λ l. l ++ y.0) x.1 ∙ append_assoc a x.0 y.0)

pub names_longer : (passed : List Placed) (known : List Place) → Longer known (names_over passed known)
unfolding names_over
names_longer [] known = ([], sym (append-nil known))
names_longer (p ∷ ps) known =
    longer_then known (with_name p.at p.token known) (names_over ps (with_name p.at p.token known))
    (with_name_longer p.at p.token known) (names_longer ps (with_name p.at p.token known))

-- The spellings with those that come behind.
abbrev pub More : List Place → List Place → Type 0
More known known' = (later : List Bytes) × (spellings known' ≡ spellings known ++ later)

pub names_more : (passed : List Placed) (known : List Place) → More known (names_over passed known)
names_more passed known =
    let l = names_longer passed known in
    (spellings l.0, ap spellings l.1 ∙ spellings_append known l.0)

-- A piece begins as the tokens do.
pub piece_stops : (can : Token → Bool) (place : ℕ) (ts : Tokens) → Stops can place ts → Stops can place (piece ts)
unfolding piece
piece_stops can place (ends p) h = h
piece_stops can place (token p t rest) h = h

pub piece_goes : (can : Token → Bool) (ts : Tokens) → Goes can ts → Goes can (piece ts)
unfolding piece
piece_goes can (ends p) h = h
piece_goes can (token p t rest) h = h
