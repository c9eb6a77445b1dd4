-- Of a rule that is read: the tokens that count for the pairing hold each half as often as its head and goals do, and those of its head as often as the head.
-- Their places rise as the item's do, and what stands there stands in the item.
use Prim.Native.Nat.{ℕ, ◌+◌}
use mathlib.Core.Path.{◌≡◌, refl, sym, ◌∙◌}
use mathlib.Core.Logic.{◌⊎◌, inl, inr}
use mathlib.Core.Bool.{true, false}
use mathlib.Core.List.{List, [], ◌∷◌}
use mathlib.Core.Option.{Option, none, some}
use native.Mathlib.Omega.{arith}
use lib.ListN.{length}
use Rattle.meaning.specs.Bytes.{Bytes, byte, when◌then◌else◌}
use Rattle.meaning.specs.Terms.{Half, Named, all_occurrences, goals_occurrences}
use Rattle.meaning.specs.Tokens.{Token, Tokens, ends, token, is}
use Rattle.meaning.specs.Table.{Element}
use Rattle.meaning.specs.Faults.{is_half, occurs_at, up_to_implied, pairing, head_tokens}
use Rattle.meaning.specs.Items.{Counted, place_of, Rule}
use Rattle.laws.proofs.Lists.{differ}
use Rattle.laws.proofs.Reading.Rising.{Rising, StandsAt}
use Rattle.laws.proofs.Reading.Pairing.{Past, past_rising, past_stands, up_to_implied_twice, past_occurs, past_implied_rising, implied_stands}
use Rattle.laws.proofs.Reading.Passed.{Extends, extends_refl, extends_trans, Ended, Cut, cut_behind, stop_ends, Mark, before_stop, never, by_number, by_number_never, by_number_both}
use Rattle.laws.proofs.Reading.Taken.{sign_no_half, sign_not_implied}
use Rattle.laws.proofs.Reading.Bodies.{OverBody, OverRule}
use Rattle.laws.proofs.Reading.Faultless.{item_counts}

-- The head's tokens are the same, whether or not there is a bar.
pub head_of_pairing : (o : Option Tokens) (s : Tokens) → head_tokens (pairing o s) ≡ head_tokens s
unfolding pairing head_tokens
head_of_pairing none s = refl
head_of_pairing (some behind) s = up_to_implied_twice s behind (ends 0)

body_grows : (from : Mark) (es : List Element) (gs : List Named) (o : Option Tokens) (c d : Counted) (s rest : Tokens)
    → OverBody from es gs o c s d rest → Extends c.variables d.variables
unfolding OverBody
body_grows from es gs none c d s rest h = h.grows
body_grows from es gs (some behind) c d s rest (m, guards, goals) = extends_trans c.variables m.variables d.variables guards.grows goals.grows

occurs_behind_sign : (h : Half) (x : Bytes) (place : ℕ) (t : Token) (s : Tokens) → is_half h x t ≡ false → occurs_at h x (token place t s) ≡ occurs_at h x s
unfolding occurs_at when◌then◌else◌
occurs_behind_sign h x place t s e = rw e refl

ended_none : (h : Half) (x : Bytes) (s : Tokens) → Ended s → occurs_at h x s ≡ []
unfolding occurs_at
ended_none h x s (place, e) = rw e refl

module _ {c d : Counted} {s rest : Tokens} {r : Rule} (o : OverRule c s r d rest) (cut : Cut s) where
  rule_grows : Extends o.counted.variables d.variables
  rule_grows = go o.body_over
    where
      go : ((is "." o.sign ≡ true) × (r.body ≡ record { guards = []; goals = []; behind = none }) × (o.counted ≡ d) × (o.behind ≡ rest))
          ⊎ ((is ":" o.sign ≡ true) × OverBody (before_stop never) r.body.guards r.body.goals r.body.behind o.counted o.behind d rest)
          → Extends o.counted.variables d.variables
      go (inl (stop, none_there, counted_is, behind_is)) = rw counted_is (extends_refl d.variables)
      go (inr (neck, over)) = body_grows (before_stop never) r.body.guards r.body.goals r.body.behind o.counted d o.behind rest over

  module _ (h : Half) (x : Bytes) where
    abbrev by_head : ℕ
    by_head = by_number (place_of x d.variables) (λ n. all_occurrences h n r.head.arguments)

    abbrev by_goals : ℕ
    by_goals = by_number (place_of x d.variables) (λ n. goals_occurrences h n r.body.goals)

    -- The head's, and then what stands behind its sign.
    head_and_behind : is_half h x o.sign ≡ false → length (occurs_at h x s) ≡ by_head + length (occurs_at h x o.behind)
    head_and_behind no_half =
        omega (
          arith,
          o.head_over.counts d.variables rule_grows h x,
          by_number_never (place_of x d.variables),
          ap_length (occurs_behind_sign h x o.place o.sign o.behind no_half),
        )
      where
        ap_length : {l m : List ℕ} → l ≡ m → length l ≡ length m
        ap_length e = rw e refl

    -- With others behind the `:-`.
    head_and_others : is_half h x o.sign ≡ false → is ":" o.sign ≡ true → (others : Tokens)
        → length (occurs_at h x (up_to_implied s others)) ≡ by_head + length (occurs_at h x others)
    unfolding up_to_implied when◌then◌else◌
    head_and_others no_half neck others =
        let passed : length (occurs_at h x (up_to_implied s others)) + length (occurs_at h x (token o.place o.sign o.behind))
        ≡ length (occurs_at h x s) + length (occurs_at h x (token o.place o.sign others)) = rw neck at (past_occurs o.head_over.past others h x) in
        let passed' : length (occurs_at h x (up_to_implied s others)) + length (occurs_at h x o.behind) ≡ length (occurs_at h x s) + length (occurs_at h x others) =
        rw (occurs_behind_sign h x o.place o.sign o.behind no_half, occurs_behind_sign h x o.place o.sign others no_half) at passed in
        omega (arith, passed', head_and_behind no_half)

    head_alone : is_half h x o.sign ≡ false → is ":" o.sign ≡ false → Ended o.behind → length (occurs_at h x (head_tokens s)) ≡ by_head
    unfolding up_to_implied when◌then◌else◌ head_tokens occurs_at
    head_alone no_half unimplied (place, ended) =
        let passed : length (occurs_at h x (up_to_implied s (ends 0))) + length (occurs_at h x (token o.place o.sign o.behind))
        ≡ length (occurs_at h x s) + length (occurs_at h x (token o.place o.sign (up_to_implied o.behind (ends 0)))) =
        rw unimplied at (past_occurs o.head_over.past (ends 0) h x) in
        let passed' : length (occurs_at h x (up_to_implied s (ends 0))) + length (occurs_at h x o.behind)
        ≡ length (occurs_at h x s) + length (occurs_at h x (up_to_implied o.behind (ends 0))) = rw no_half at passed in
        let nothing : length (occurs_at h x (up_to_implied o.behind (ends 0))) ≡ 0 = rw ended refl in
        omega (arith, passed', nothing, head_and_behind no_half)

    stop_ended : is "." o.sign ≡ true → Ended o.behind
    stop_ended stop = stop_ends o.place o.sign o.behind stop (o.head_over.shape cut)

    -- In the head's tokens, as often as in the head.
    pub head_counts : length (occurs_at h x (head_tokens s)) ≡ by_head
    unfolding byte head_tokens occurs_at
    head_counts = go o.body_over
      where
        go : ((is "." o.sign ≡ true) × (r.body ≡ record { guards = []; goals = []; behind = none }) × (o.counted ≡ d) × (o.behind ≡ rest))
            ⊎ ((is ":" o.sign ≡ true) × OverBody (before_stop never) r.body.guards r.body.goals r.body.behind o.counted o.behind d rest)
            → length (occurs_at h x (head_tokens s)) ≡ by_head
        go (inl (stop, none_there, counted_is, behind_is)) =
            head_alone (sign_no_half "." o.sign stop h x) (sign_not_implied "." o.sign refl stop) (stop_ended stop)
        go (inr (neck, over)) = omega (arith, head_and_others (sign_no_half ":" o.sign neck h x) neck (ends 0))

    head_then_goals : by_number (place_of x d.variables) (λ n. goals_occurrences h n (r.head ∷ r.body.goals)) ≡ by_head + by_goals
    unfolding goals_occurrences
    head_then_goals = by_number_both (place_of x d.variables) (λ n. all_occurrences h n r.head.arguments) (λ n. goals_occurrences h n r.body.goals)

    behind_counts : is ":" o.sign ≡ true → (b : Option Tokens)
        → OverBody (before_stop never) r.body.guards r.body.goals b o.counted o.behind d rest
        → length (occurs_at h x (pairing b s)) ≡ by_head + by_goals
    unfolding OverBody pairing
    behind_counts neck none over =
        omega (
          arith,
          head_and_behind (sign_no_half ":" o.sign neck h x),
          item_counts (λ h n. goals_occurrences h n r.body.goals) o.counted d o.behind rest over behind_cut h x,
        )
      where
        behind_cut : Cut o.behind
        behind_cut = cut_behind o.place o.sign o.behind (o.head_over.shape cut)
    behind_counts neck (some behind) (m, guards, goals) =
        omega (
          arith,
          head_and_others (sign_no_half ":" o.sign neck h x) neck behind,
          item_counts (λ h n. goals_occurrences h n r.body.goals) m d behind rest goals (guards.shape (cut_behind o.place o.sign o.behind (o.head_over.shape cut))) h x,
        )

    -- In the tokens that count, as often as in head and goals.
    pub paired_counts : length (occurs_at h x (pairing r.body.behind s)) ≡ by_number (place_of x d.variables) (λ n. goals_occurrences h n (r.head ∷ r.body.goals))
    unfolding byte pairing goals_occurrences
    paired_counts = go o.body_over ∙ sym head_then_goals
      where
        go : ((is "." o.sign ≡ true) × (r.body ≡ record { guards = []; goals = []; behind = none }) × (o.counted ≡ d) × (o.behind ≡ rest))
            ⊎ ((is ":" o.sign ≡ true) × OverBody (before_stop never) r.body.guards r.body.goals r.body.behind o.counted o.behind d rest)
            → length (occurs_at h x (pairing r.body.behind s)) ≡ by_head + by_goals
        go (inl (stop, none_there, counted_is, behind_is)) =
            let nothing : length (occurs_at h x o.behind) ≡ 0 = rw (ended_none h x o.behind (stop_ended stop)) refl in
            let all : length (occurs_at h x s) ≡ by_head + by_number (place_of x d.variables) (λ n. 0) =
            omega (arith, nothing, head_and_behind (sign_no_half "." o.sign stop h x), by_number_never (place_of x d.variables)) in
            rw none_there all
        go (inr (neck, over)) = behind_counts neck r.body.behind over

  -- Tokens behind a bar stand behind the `:-`.
  behind_past : (behind : Tokens) → r.body.behind ≡ some behind → (is ":" o.sign ≡ true) × Past o.behind behind
  unfolding OverBody
  behind_past behind e = go o.body_over
    where
      go : ((is "." o.sign ≡ true) × (r.body ≡ record { guards = []; goals = []; behind = none }) × (o.counted ≡ d) × (o.behind ≡ rest))
          ⊎ ((is ":" o.sign ≡ true) × OverBody (before_stop never) r.body.guards r.body.goals r.body.behind o.counted o.behind d rest)
          → (is ":" o.sign ≡ true) × Past o.behind behind
      go (inl (stop, none_there, counted_is, behind_is)) = let e' : none ≡ some behind = rw none_there at e in absurd (differ (cc))
      go (inr (neck, over)) =
          let both : OverBody (before_stop never) r.body.guards r.body.goals (some behind) o.counted o.behind d rest = rw e at over in
          (neck, both.1.past)

  -- The places rise.
  pub paired_rising : (low : ℕ) → Rising low s → Rising low (pairing r.body.behind s)
  unfolding pairing Rising
  paired_rising low rising = go r.body.behind refl
    where
      go : (b : Option Tokens) → r.body.behind ≡ b → Rising low (pairing b s)
      go none e = rising
      go (some behind) e =
          let (neck, past) = behind_past behind e in
          let from_sign : Rising low (token o.place o.sign o.behind) = past_rising low o.head_over.past rising in
          past_implied_rising low o.place o.sign behind o.head_over.past neck rising (past_rising (o.place + 1) past from_sign.1)

  -- What stands there stands in the item.
  pub paired_stands : (p : ℕ) (u : Token) → StandsAt p u (pairing r.body.behind s) → StandsAt p u s
  unfolding pairing
  paired_stands p u = go r.body.behind refl
    where
      go : (b : Option Tokens) → r.body.behind ≡ b → StandsAt p u (pairing b s) → StandsAt p u s
      go none e m = m
      go (some behind) e m =
          let (neck, past) = behind_past behind e in
          implied_stands o.place o.sign behind o.head_over.past neck p u (past_stands p u past) m
