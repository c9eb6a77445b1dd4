-- The code's refusal as the definition's answer.
use Rattle.meaning.specs.Call.{Answer, no_items, guard_refused, occurrence_broken, figure_passed}
use Rattle.load_faults.specs.Finding.{rule_of}
use Rattle.loader.specs.declared.refusal.Refusal.{Refusal}
use Rattle.loader.specs.declared.refusal.Refusal.TheVariants.{NoItems, GuardRefused, OccurrenceBroken, FigurePassed}

abbrev pub refusal_answer : Refusal → Answer
refusal_answer (NoItems at offset) = no_items at offset
refusal_answer (GuardRefused at) = guard_refused at
refusal_answer (OccurrenceBroken rule at offset) = occurrence_broken (rule_of rule) at offset
refusal_answer (FigurePassed at) = figure_passed at
