-- The definitions' `goals` one goal at a time: behind a goal comes a comma and more goals, a full stop, or something that cannot stand.
use Prim.Native.Nat.{ℕ, suc}
use mathlib.Core.Path.{◌≡◌, refl, ap, sym}
use mathlib.Core.List.{List, [], ◌∷◌, ◌++◌, append_assoc}
use Rattle.meaning.specs.Bytes.{byte, when◌then◌else◌}
use Rattle.meaning.specs.Terms.{Named}
use Rattle.meaning.specs.Tokens.{sign, Tokens, ends, token}
use Rattle.meaning.specs.Items.{Counted, Read, read, malformed, passed, read_on, ◌>>=◌, give, is, either, goal, goals}
use Rattle.load_openings.specs.Reading.{piece}
use Rattle.load_tokens.specs.Nexts.{one_of, Stops}
use Rattle.load_openings.proofs.Expected.{piece_open, piece_stop, either_first, either_second, either_stops}
use Rattle.load_openings.proofs.Passing.{piece_stops}

goals_suc : (left : ℕ) (counted counted' : Counted) (ts us : Tokens) (g : Named) → goal counted ts ≡ read g counted' us
    → goals (suc left) counted ts
    ≡ read_on (either "," "." counted' us) (λ another. when another then (goals left >>= λ gs. give (g ∷ gs)) else give (g ∷ []))
unfolding goals ◌>>=◌ read_on
goals_suc left counted counted' ts us g h = rw h

module _ (left : ℕ) (counted counted' : Counted) (ts us : Tokens) (g : Named) (h : goal counted ts ≡ read g counted' (piece us)) where
  pub goals_comma : (p : ℕ) (vs : Tokens) → us ≡ token p (sign 44) vs
      → goals (suc left) counted ts ≡ read_on (goals left counted' (piece vs)) (λ gs. give (g ∷ gs))
  unfolding read_on is byte when◌then◌else◌ ◌>>=◌
  goals_comma p vs e =
      rw (
        goals_suc left counted counted' ts (piece us) g h,
        e,
        piece_open p (sign 44) vs refl,
        either_first counted' "," "." p (sign 44) (piece vs) refl,
      )

  pub goals_stop : (p : ℕ) (vs : Tokens) → us ≡ token p (sign 46) vs → goals (suc left) counted ts ≡ read (g ∷ []) counted' (ends p)
  unfolding read_on is byte when◌then◌else◌ give
  goals_stop p vs e =
      rw (
        goals_suc left counted counted' ts (piece us) g h,
        e,
        piece_stop p (sign 46) vs refl,
        either_second counted' "," "." p (sign 46) (ends p) refl refl,
      )

  pub goals_other : (place : ℕ) → Stops (one_of (44 ∷ 46 ∷ [])) place us → goals (suc left) counted ts ≡ malformed place
  unfolding read_on byte
  goals_other place s = rw (goals_suc left counted counted' ts (piece us) g h, either_stops counted' "," "." place (piece us) (piece_stops (one_of (44 ∷ 46 ∷ [])) place us s))

pub goals_malformed : (left : ℕ) (counted : Counted) (ts : Tokens) (place : ℕ) → goal counted ts ≡ malformed place → goals (suc left) counted ts ≡ malformed place
unfolding goals ◌>>=◌ read_on
goals_malformed left counted ts place h = rw h

pub goals_passed : (left : ℕ) (counted : Counted) (ts : Tokens) → goal counted ts ≡ passed → goals (suc left) counted ts ≡ passed
unfolding goals ◌>>=◌ read_on
goals_passed left counted ts h = rw h

-- Goals behind those that have been read.
pub behind_goals : (gs : List Named) (g : Named) (r : Read (List Named))
    → read_on (read_on r (λ hs. give (g ∷ hs))) (λ hs. give (gs ++ hs)) ≡ read_on r (λ hs. give ((gs ++ (g ∷ [])) ++ hs))
unfolding read_on give
behind_goals gs g (read hs counted ts) = ap (λ l. read l counted ts) (sym (append_assoc gs (g ∷ []) hs))
behind_goals gs g (malformed place) = refl
behind_goals gs g passed = refl
