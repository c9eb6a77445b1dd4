-- Demand 3 over texts, applied: the two calls of Own/Example have texts alike in their clauses and in the second query, token by token,
-- both ran and both show two tries of it; so they show the same section.
use mathlib.Core.Path.{◌≡◌, refl, sym, ap, ◌∙◌}
use lib.Dec.{lit<}
use Rattle.meaning.specs.Call.{Outcome, everything}
use Rattle.laws.proofs.Reading.Alike.{bare}
use Rattle.laws.proofs.Reading.Items.{begins_with, clause_pieces, query_pieces}
use Rattle.laws.proofs.Report.{begins_q, before_first, cut}
use Rattle.laws.proofs.Report.Decimal.{is_digit, read_digits, before_tries, tries_shown}
use Rattle.laws.proofs.Own.{TextsAlike}
use Rattle.laws.proofs.Own.Shown.{section_shown, left_by}
use Rattle.laws.proofs.Own.Example.{rules, rests, stopped, example_at_rest, example_stopped}
use Rattle.laws.proofs.Promise.{same_tries_same_section}

pub example_texts_alike : TextsAlike 1 rests.text stopped.text
unfolding rules rests stopped bare begins_with clause_pieces query_pieces everything
example_texts_alike = record { place = lit< tt; clauses = refl; query = refl }

-- By the bytes alone, both calls show two tries.
pub example_two_tries : (tries_shown 1 (section_shown 1 (left_by (λ room. 0) rests 175)) ≡ 2) × (tries_shown 1 (section_shown 1 (left_by (λ room. 0) stopped 306)) ≡ 2)
unfolding rules rests stopped section_shown left_by cut before_first begins_q tries_shown before_tries is_digit read_digits everything
example_two_tries = (refl, refl)

pub example_same_section : section_shown 1 (left_by (λ room. 0) rests 175) ≡ section_shown 1 (left_by (λ room. 0) stopped 306)
example_same_section =
    same_tries_same_section 1 (λ room. 0) (λ room. 0) rests stopped 175 306
    (ap (λ (o : Outcome). o.answer) example_at_rest) (ap (λ (o : Outcome). o.answer) example_stopped)
    example_texts_alike (example_two_tries.0 ∙ sym example_two_tries.1)
