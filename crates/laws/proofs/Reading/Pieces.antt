-- What an item's tokens are decides what is read: neither the other items nor the places of the tokens have any part in it.
-- Two pieces with the same tokens read as the same clause, or as the same query.
use Prim.Native.Nat.{ℕ, ◌+◌}
use mathlib.Core.Path.{◌≡◌, refl, sym, ap, ◌∙◌}
use mathlib.Core.List.{List, [], ◌∷◌, map}
use mathlib.Core.Option.{some}
use Rattle.meaning.specs.Bytes.{Bytes}
use Rattle.meaning.specs.Terms.{Clause, Query}
use Rattle.meaning.specs.Table.{as_guards}
use Rattle.meaning.specs.Tokens.{Tokens, ends, token}
use Rattle.laws.proofs.Lists.{Paired, done, pair, differ}
use Rattle.laws.proofs.Reading.Alike.{bare}
use Rattle.laws.proofs.Reading.Readers.{GoalsFit, goals_steady}
use Rattle.laws.proofs.Reading.BodyReaders.{RuleFits, rule_steady}
use Rattle.laws.proofs.Reading.Items.{ClauseRead, QueryRead, behind_first, same_tokens_same_item}
use Rattle.laws.proofs.Reading.ItemByItem.{ClauseAmong, CountedFrom}

-- Two pieces with the same tokens, as far on in the text, read as the same clause; and as the same query.
pub same_tokens_same_clause : (p₁ p₂ : Tokens) (c₁ c₂ : Clause) → bare p₁ ≡ bare p₂ → c₁.place ≡ c₂.place → ClauseRead p₁ c₁ → ClauseRead p₂ c₂ → c₁ ≡ c₂
same_tokens_same_clause p₁ p₂ c₁ c₂ e nth r₁ r₂ =
    let both = same_tokens_same_item RuleFits rule_steady e r₁.item r₂.item in
    let its : some r₁.guards ≡ some r₂.guards =
    sym r₁.in_table ∙ ap as_guards both.value.guards ∙ r₂.in_table in
    let same : r₁.guards ≡ r₂.guards = cc in
    r₁.made ∙ rw (nth, both.value.head, both.value.goals, both.onward.variables, both.onward.compounds, same) refl ∙ sym r₂.made

behind_first_bare : (p₁ p₂ : Tokens) → bare p₁ ≡ bare p₂ → bare (behind_first p₁) ≡ bare (behind_first p₂)
unfolding bare behind_first
behind_first_bare (ends place₁) (ends place₂) e = refl
behind_first_bare (ends place₁) (token place₂ t₂ s₂) e = cc
behind_first_bare (token place₁ t₁ s₁) (ends place₂) e = cc
behind_first_bare (token place₁ t₁ s₁) (token place₂ t₂ s₂) e = cc

pub same_tokens_same_query : (p₁ p₂ : Tokens) (q₁ q₂ : Query) → bare p₁ ≡ bare p₂ → QueryRead p₁ q₁ → QueryRead p₂ q₂ → q₁ ≡ q₂
same_tokens_same_query p₁ p₂ q₁ q₂ e r₁ r₂ =
    let both = same_tokens_same_item (GoalsFit 8) (goals_steady 8) (behind_first_bare p₁ p₂ e) r₁.item r₂.item in
    rw (r₁.made, r₂.made, both.value, both.onward.variables, both.onward.compounds)

-- Pieces with the same tokens read as the same clauses, if both are counted from the same number.
pub counted_equal : (names₁ names₂ : List Bytes) (n : ℕ) {ps₁ ps₂ : List Tokens} {cs₁ cs₂ : List Clause}
    → Paired (ClauseAmong names₁) ps₁ cs₁ → Paired (ClauseAmong names₂) ps₂ cs₂ → CountedFrom n cs₁ → CountedFrom n cs₂
    → map bare ps₁ ≡ map bare ps₂ → cs₁ ≡ cs₂
counted_equal names₁ names₂ n done done nth₁ nth₂ e = refl
counted_equal names₁ names₂ n done (pair h₂ t₂) nth₁ nth₂ e = absurd (differ (cc))
counted_equal names₁ names₂ n (pair h₁ t₁) done nth₁ nth₂ e = absurd (differ (cc))
counted_equal names₁ names₂ n (pair {a = p₁} {b = c₁} h₁ t₁) (pair {a = p₂} {b = c₂} h₂ t₂) nth₁ nth₂ e =
    let first : c₁ ≡ c₂ = same_tokens_same_clause p₁ p₂ c₁ c₂ (cc) (nth₁.0 ∙ sym nth₂.0) h₁.0 h₂.0 in
    cc (counted_equal names₁ names₂ (n + 1) t₁ t₂ nth₁.1 nth₂.1 (cc))
