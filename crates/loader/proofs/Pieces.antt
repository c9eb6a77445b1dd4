-- The text cut behind each full stop: the tokens of an item are a piece, and behind it the pieces go on.
use Prim.Native.Nat.{ℕ, zero, suc, ◌+◌, ◌-◌, ◌≤◌}
use mathlib.Core.Path.{◌≡◌, refl, ap, ◌∙◌}
use mathlib.Core.Bool.{Bool, true, false}
use mathlib.Core.List.{List, [], ◌∷◌, ◌++◌, map, map-append}
use native.Mathlib.Omega.{arith}
use lib.ListN.{drop}
use lib.Seq.{drop-drop}
use Rattle.meaning.specs.Bytes.{Bytes, byte, same, any, when◌then◌else◌}
use Rattle.meaning.specs.Tokens.{Token, name, variable, integer, sign, bad, Tokens, ends, token, Front, blank, placed, front, tokens_from}
use Rattle.meaning.specs.Items.{is, onto, pieces}
use Rattle.load_tokens.specs.Fronts.{tokens_at, tokens_in}
use Rattle.load_names.specs.Places.{Place, Placed, spellings, with_place, with_name, with_variable, before, names_over, variables_over}
use Rattle.load_openings.specs.Reading.{piece, Open}
use Rattle.load_image.specs.Image.{names_in, variables_in}
use Rattle.load_items.specs.Outcomes.{shifted}

abbrev stopped : ℕ → Tokens
stopped stop = token stop (sign 46) (ends stop)

pub piece_is : (ps : List Placed) (stop : ℕ) (ts : Tokens) → Open ps → piece (before ps (token stop (sign 46) ts)) ≡ before ps (token stop (sign 46) (ends stop))
unfolding piece before Open is byte when◌then◌else◌
piece_is [] stop ts o = refl
piece_is (p ∷ ps) stop ts o = rw o.0 (ap (λ us. token p.at p.token us) (piece_is ps stop ts o.1))

pub pieces_cut : (ps : List Placed) (stop : ℕ) (ts : Tokens) → Open ps
    → pieces (before ps (token stop (sign 46) ts)) ≡ before ps (token stop (sign 46) (ends stop)) ∷ pieces ts
unfolding pieces before Open is byte when◌then◌else◌ onto
pieces_cut [] stop ts o = refl
pieces_cut (p ∷ ps) stop ts o = rw (o.0, pieces_cut ps stop ts o.1)

pub names_before : (ps : List Placed) (ts : Tokens) (known : List Place) → names_in (before ps ts) known ≡ names_in ts (names_over ps known)
unfolding names_in before names_over
names_before [] ts known = refl
names_before (p ∷ ps) ts known = names_before ps ts (with_name p.at p.token known)

variables_before : (ps : List Placed) (ts : Tokens) (vars : List Place) → variables_in (before ps ts) vars ≡ variables_in ts (variables_over 0 ps vars)
unfolding variables_in before variables_over
variables_before [] ts vars = refl
variables_before (p ∷ ps) ts vars =
    let e : p.at - 0 ≡ p.at = omega arith in
    rw e (variables_before ps ts (with_variable p.at p.token vars))

-- The names and variables of a piece.
pub names_of_piece : (ps : List Placed) (stop : ℕ) (known : List Place) → names_in (before ps (token stop (sign 46) (ends stop))) known ≡ names_over ps known
unfolding names_in with_name
names_of_piece ps stop known = names_before ps (stopped stop) known

-- Every token stands at or behind where the tokens begin.
From : ℕ → Tokens → Type 0
From n (ends m) = Unit {0}
From n (token at t ts) = (n ≤ at) × From n ts

placed_from : (n at : ℕ) (f : Front) (behind : ℕ → Tokens) → n ≤ at → ((m : ℕ) → From n (behind m)) → From n (placed at f behind)
unfolding placed From
placed_from n at (blank m) behind l h = h m
placed_from n at (Front.token m t) behind l h = (l, h m)

tokens_after : (n at skip : ℕ) (cs : Bytes) → n ≤ at → From n (tokens_from at skip cs)
unfolding tokens_from From
tokens_after n at skip [] l = tt
tokens_after n at zero (c ∷ cs) l = placed_from n at (front c cs) (λ m. tokens_from (at + 1) m cs) l (λ m. tokens_after n (at + 1) m cs (omega arith))
tokens_after n at (suc skip) (c ∷ cs) l = tokens_after n (at + 1) skip cs (omega arith)

shifted_spellings : (from : ℕ) (vars : List Place) → spellings (map (shifted from) vars) ≡ spellings vars
unfolding spellings shifted
shifted_spellings from [] = refl
shifted_spellings from (v ∷ vs) = ap (λ l. v.spelling ∷ l) (shifted_spellings from vs)

shifted_by : (from at : ℕ) (x : Bytes) (vars : List Place) (b : Bool) → from ≤ at
    → (when b then map (shifted from) vars else map (shifted from) vars ++ (record { at = at; spelling = x } ∷ []))
    ≡ map (shifted from) (when b then vars else vars ++ (record { at = at - from; spelling = x } ∷ []))
unfolding when◌then◌else◌ shifted
shifted_by from at x vars true l = refl
shifted_by from at x vars false l =
    let e : from + (at - from) ≡ at = omega arith in
    rw (map-append (shifted from) vars (record { at = at - from; spelling = x } ∷ []), e)

shifted_variable : (from at : ℕ) (t : Token) (vars : List Place) → from ≤ at
    → with_variable at t (map (shifted from) vars) ≡ map (shifted from) (with_variable (at - from) t vars)
unfolding with_variable with_place
shifted_variable from at (name f) vars l = refl
shifted_variable from at (variable h x) vars l =
    rw (shifted_spellings from vars) (shifted_by from at x vars (any (same x) (spellings vars)) l)
shifted_variable from at (integer i) vars l = refl
shifted_variable from at (sign b) vars l = refl
shifted_variable from at bad vars l = refl

shifted_over : (from : ℕ) (ps : List Placed) (ts us : Tokens) (vars : List Place) → From from (before ps us)
    → variables_in (before ps ts) (map (shifted from) vars) ≡ variables_in ts (map (shifted from) (variables_over from ps vars))
unfolding variables_in before variables_over From
shifted_over from [] ts us vars h = refl
shifted_over from (p ∷ ps) ts us vars h =
    ap (λ vs. variables_in (before ps ts) vs) (shifted_variable from p.at p.token vars h.0)
    ∙ shifted_over from ps ts us (with_variable (p.at - from) p.token vars) h.1

pub variables_of_piece : (rest : Bytes) (from at : ℕ) (ps : List Placed) (stop : ℕ) (us : Tokens) → tokens_in from rest at ≡ before ps us
    → variables_in (before ps (token stop (sign 46) (ends stop))) [] ≡ map (shifted from) (variables_over from ps [])
unfolding variables_in with_variable
variables_of_piece rest from at ps stop us e =
    shifted_over from ps (stopped stop) us [] (rw e at (tokens_after from (from + at) 0 (drop at rest) (omega arith)))

-- The rest of the text, and what is left of it behind an item.
pub tokens_behind : (text rest : Bytes) (from at : ℕ) → rest ≡ drop from text → tokens_in from rest at ≡ tokens_at text (from + at)
tokens_behind text rest from at e = rw (e, drop-drop at from text)
