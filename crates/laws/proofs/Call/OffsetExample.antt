-- What the laws of faults say is about something: a clause on the second line with two broken rules, the later variable's byte first;
-- a clause whose guard frees a reader, twice in its head; and a query in which lone halves break nothing. Faults, walk and refusal are computed, and the laws applied to them.
use mathlib.Core.Path.{◌≡◌, refl}
use mathlib.Core.List.{[], ◌∷◌}
use mathlib.Core.Bool.{true, false}
use mathlib.Core.Option.{none, some}
use Rattle.meaning.specs.Bytes.{Bytes, bytes}
use Rattle.meaning.specs.Terms.{reader}
use Rattle.meaning.specs.Tokens.{Tokens, tokens}
use Rattle.meaning.specs.Faults.{twice, writer_alone, Fault, occurs_at, clause_faults, least}
use Rattle.meaning.specs.Items.{no_item, guard_rule, occurrence_rule, refused, reading, pieces}
use Rattle.meaning.specs.Call.{number, line_of, offset_of, refusal, everything}
use Rattle.laws.proofs.Reading.Broken.{other, alone, pardoned, none_free}
use Rattle.laws.proofs.Reading.Walk.{with_seen, nowhere, broken_by, here_or, first_from, first_fault}
use Rattle.laws.proofs.Reading.BrokenText.{OneBroken, refused_is_broken}
use Rattle.laws.proofs.Call.Offset.{OffsetSpelled, offset_spelled}

-- X's reader occurs twice, Y's writer is alone, and stands between the two.
unfoldable pub clause_text : Bytes
clause_text = bytes "?- p(1).\np([X|X?],Y) :- q(X?)."

unfoldable pub clause_tokens : Tokens
clause_tokens = tokens (bytes "p([X|X?],Y) :- q(X?).")

abbrev pub y_alone : Fault
y_alone = record { rule = writer_alone; offset = 18 }

-- X, Y? and Z stand without their other halves, and Z's writer twice.
unfoldable pub query_text : Bytes
query_text = bytes "?- p(X,Y?,Z,Z,Z)."

abbrev pub z_twice : Fault
z_twice = record { rule = twice; offset = 12 }

-- X's reader stands twice in the head: its guard allows it several times in the body, and once in the head.
unfoldable pub guarded_text : Bytes
guarded_text = bytes "?- p(1).\np(X,X?,X?) :- ground(X?) | q(X?,X?)."

abbrev pub x_twice : Fault
x_twice = record { rule = twice; offset = 16 }

unfoldable example_words : Unit {0}
unfolding everything clause_text clause_tokens query_text guarded_text other alone pardoned with_seen nowhere broken_by here_or first_from first_fault
example_words = tt

-- The places of X's reader, and the faults of the clause alone: 5 at its second occurrence, 9 at the first of the lone half. The least is the second.
pub example_faults : (occurs_at reader (bytes "X") clause_tokens ≡ 5 ∷ 17 ∷ [])
    × (clause_faults none_free clause_tokens (bytes "X" ∷ bytes "Y" ∷ []) ≡ record { rule = twice; offset = 17 } ∷ record { rule = writer_alone; offset = 9 } ∷ [])
    × (least (clause_faults none_free clause_tokens (bytes "X" ∷ bytes "Y" ∷ [])) ≡ some (record { rule = writer_alone; offset = 9 }))
unfolding example_words
example_faults = (refl, refl, refl)

-- The walk comes upon it first.
pub example_walk : (first_fault true none_free clause_tokens ≡ some (record { rule = writer_alone; offset = 9 }))
    × (first_fault false none_free (tokens query_text) ≡ some z_twice)
unfolding example_words
example_walk = (refl, refl)

-- A reader that is free is judged in the head alone.
pub free_walk : (first_fault true (λ x. true) (tokens (bytes "p(X,X?) :- q(X?,X?).")) ≡ none)
    × (first_fault true none_free (tokens (bytes "p(X,X?) :- q(X?,X?).")) ≡ some (record { rule = twice; offset = 13 }))
    × (first_fault true (λ x. true) (tokens (bytes "p(X,X?,X?) :- q(X?).")) ≡ some (record { rule = twice; offset = 7 }))
unfolding example_words
free_walk = (refl, refl, refl)

-- In the text it stands 9 bytes further on, and the query breaks 5 alone.
pub clause_is_refused : reading clause_text ≡ refused (occurrence_rule 9 y_alone)
unfolding example_words
clause_is_refused = refl

pub query_is_refused : reading query_text ≡ refused (occurrence_rule 0 z_twice)
unfolding example_words
query_is_refused = refl

pub guarded_is_refused : reading guarded_text ≡ refused (occurrence_rule 9 x_twice)
unfolding example_words
guarded_is_refused = refl

-- 11, where the item begins: a guard that the table does not have, and one with a writer.
pub guards_are_refused : (reading (bytes "p(X) :- foo | q(X?).") ≡ refused (guard_rule 0)) × (reading (bytes "p(X) :- ground(X) | q(X?).") ≡ refused (guard_rule 0))
unfolding example_words
guards_are_refused = (refl, refl)

-- 9, on the second line, at byte 18.
pub example_answer : (number (refusal clause_text (occurrence_rule 9 y_alone)) ≡ 9)
    × (line_of (refusal clause_text (occurrence_rule 9 y_alone)) ≡ 2)
    × (offset_of (refusal clause_text (occurrence_rule 9 y_alone)) ≡ 18)
unfolding example_words
example_answer = (refl, refl, refl)

-- 4 at a token, and at the end of the text.
pub stopped_texts : (reading (bytes "p(a) q") ≡ refused (no_item 5)) × (reading (bytes "?- p(a %") ≡ refused (no_item 8))
unfolding example_words
stopped_texts = (refl, refl)

-- The laws, applied.
pub clause_broken : OneBroken (pieces (tokens clause_text)) 9 y_alone
clause_broken = refused_is_broken clause_text 9 y_alone clause_is_refused

pub guarded_broken : OneBroken (pieces (tokens guarded_text)) 9 x_twice
guarded_broken = refused_is_broken guarded_text 9 x_twice guarded_is_refused

pub query_broken : OneBroken (pieces (tokens query_text)) 0 z_twice
query_broken = refused_is_broken query_text 0 z_twice query_is_refused

pub clause_spelled : OffsetSpelled clause_text y_alone
clause_spelled = offset_spelled clause_text 9 y_alone clause_is_refused
