-- The scratch: each region, each part of one, each stride by its name; how many words a call needs for its room figures. The drawing stands in
-- src/layout.rt, whose constants have the same names. Nothing outside this crate has a number of a region: to move one, move it here and there.
use Rattle.std.specs.Prelude.{ℕ, ◌+◌, ◌*◌, ◌-◌, ◌/◌, ◌≤◌}
use Rattle.meaning.specs.State.{Room}
use Rattle.term.specs.declared.layout.Room.{Room as Figures}

-- Strides: a clause's record, a query's record; the compounds of an item, and the words of a compound there and in the room.
abbrev pub clause_stride : ℕ
clause_stride = 32

abbrev pub query_stride : ℕ
query_stride = 64

abbrev pub item_compounds : ℕ
item_compounds = 32

abbrev pub compound_words : ℕ
compound_words = 8

abbrev pub item_words : ℕ
item_words = item_compounds * compound_words

-- The names of the text, two words a name: where it first stands, and its length.
abbrev pub names_region : ℕ
names_region = 0

-- For each name and number of arguments the first clause of that procedure, plus one.
abbrev pub procedures_region : ℕ
procedures_region = names_region + 512

-- The clauses' records.
abbrev pub clauses_region : ℕ
clauses_region = procedures_region + 2048

-- The queries' records.
abbrev pub queries_region : ℕ
queries_region = clauses_region + 128 * clause_stride

-- The compounds of the clauses and then of the queries.
abbrev pub items_region : ℕ
items_region = queries_region + 8 * query_stride

-- What a trial works with.
abbrev pub trial_region : ℕ
trial_region = items_region + 136 * item_words

-- The compounds of the room; its pairs and goals stand behind them.
abbrev pub compounds_region : ℕ
compounds_region = trial_region + 640

-- A procedure has its word by the first word of a goal: the number of arguments and eight times the name's number and one, so at least eight.
abbrev pub procedure_slot : ℕ → ℕ
procedure_slot w = procedures_region - 8 + w

-- The record of the clause k: the next clause of its procedure, plus one; its pairs, compounds, body goals and guards counted; the body goals' words,
-- and the guards'; the index.
abbrev pub clause_record : ℕ → ℕ
clause_record k = clauses_region + clause_stride * k

abbrev pub clause_pairs_word : ℕ → ℕ
clause_pairs_word k = clause_record k + 1

abbrev pub clause_compounds_word : ℕ → ℕ
clause_compounds_word k = clause_record k + 2

abbrev pub clause_goals_word : ℕ → ℕ
clause_goals_word k = clause_record k + 3

abbrev pub clause_goals_from : ℕ → ℕ
clause_goals_from k = clause_record k + 4

abbrev pub clause_guards_word : ℕ → ℕ
clause_guards_word k = clause_record k + 12

abbrev pub clause_tests_from : ℕ → ℕ
clause_tests_from k = clause_record k + 16

-- The index of the clauses, in words of their records. Of clause k: its key; the next clause with the same key, plus one; the next one of its procedure
-- that has a writer where the procedure is told apart, plus one; the next one in the same bucket, plus one. Of bucket k: the first clause in it, plus one. Of the
-- procedure whose first clause is k: the argument by which it is told apart, or 0. Of clause k: how many clauses of its procedure begin with it, up to a few.
abbrev pub index_from : ℕ
index_from = 24

abbrev pub clause_key_word : ℕ → ℕ
clause_key_word k = clause_record k + 24

abbrev pub clause_same_word : ℕ → ℕ
clause_same_word k = clause_record k + 25

abbrev pub clause_open_word : ℕ → ℕ
clause_open_word k = clause_record k + 26

abbrev pub clause_later_word : ℕ → ℕ
clause_later_word k = clause_record k + 27

abbrev pub bucket_word : ℕ → ℕ
bucket_word k = clause_record k + 28

abbrev pub told_word : ℕ → ℕ
told_word k = clause_record k + 29

abbrev pub many_word : ℕ → ℕ
many_word k = clause_record k + 30

abbrev pub clause_end : ℕ → ℕ
clause_end k = clause_record k + clause_stride

-- The record of the query k: its goals, pairs and compounds counted; the run's first pair and tries; the goals' words; the variables' spellings.
abbrev pub first_pair_at : ℕ
first_pair_at = 3

abbrev pub tries_at : ℕ
tries_at = 4

abbrev pub query_record : ℕ → ℕ
query_record k = queries_region + query_stride * k

abbrev pub query_pairs_word : ℕ → ℕ
query_pairs_word k = query_record k + 1

abbrev pub query_compounds_word : ℕ → ℕ
query_compounds_word k = query_record k + 2

abbrev pub query_first_pair_word : ℕ → ℕ
query_first_pair_word k = query_record k + first_pair_at

abbrev pub query_tries_word : ℕ → ℕ
query_tries_word k = query_record k + tries_at

abbrev pub query_goals_from : ℕ → ℕ
query_goals_from k = query_record k + 8

abbrev pub query_variables_from : ℕ → ℕ
query_variables_from k = query_record k + 16

abbrev pub query_end : ℕ → ℕ
query_end k = query_record k + query_stride

-- The compounds of an item stand from its base on, a base counted in compounds: the clause k has one, and the query k behind all clauses.
abbrev pub items_base : ℕ
items_base = items_region / compound_words

abbrev pub clause_base : ℕ → ℕ
clause_base k = items_base + item_compounds * k

abbrev pub query_base : ℕ → ℕ
query_base k = items_base + item_compounds * (128 + k)

abbrev pub trial_base : ℕ
trial_base = items_base + item_compounds * 136

abbrev pub item_place : ℕ → ℕ → ℕ
item_place base n = compound_words * (base + n)

abbrev pub item_start : ℕ → ℕ
item_start base = compound_words * base

abbrev pub item_end : ℕ → ℕ
item_end base = compound_words * (base + item_compounds)

abbrev pub clause_head : ℕ → ℕ
clause_head k = items_region + item_words * k

abbrev pub query_items_region : ℕ
query_items_region = items_region + 128 * item_words

-- The parts of the trial's region: 16 words for what the head's writers are given; two words for each of 192 of the goal's pairs that a trial notes,
-- the pair, and the term that it is given or 0 where the trial waits on its reader; the goals woken; the goal's arguments, followed.
abbrev pub gifts_part : ℕ
gifts_part = trial_region + 16

abbrev pub gift_pair : ℕ → ℕ
gift_pair n = gifts_part + 2 * n

abbrev pub gift_term : ℕ → ℕ
gift_term n = gifts_part + 1 + 2 * n

abbrev pub woken_part : ℕ
woken_part = gifts_part + 384

abbrev pub followed_part : ℕ
followed_part = woken_part + 192

abbrev pub followed_from : ℕ
followed_from = followed_part + 1

abbrev pub followed_end : ℕ
followed_end = followed_part + 7

-- When the run has ended, the report has the room's pairs told in the second word of the trial's region.
abbrev pub pairs_told : ℕ
pairs_told = trial_region + 1

-- Behind the compounds: of each pair its value, its waiter, the next pair of the same waiting goal, its mark; then, a word for each pair, the pairs
-- whose readers this step has met, and where a pair stands among them; and of each pair the end of its chain.
abbrev pub values_region : Room → ℕ
values_region room = compounds_region + compound_words * room.compounds

abbrev pub waiters_region : Room → ℕ
waiters_region room = values_region room + room.pairs

abbrev pub sets_region : Room → ℕ
sets_region room = values_region room + 2 * room.pairs

abbrev pub marks_region : Room → ℕ
marks_region room = values_region room + 3 * room.pairs

abbrev pub readers_region : Room → ℕ
readers_region room = values_region room + 4 * room.pairs

abbrev pub ranks_region : Room → ℕ
ranks_region room = values_region room + 5 * room.pairs

-- The ends stand behind the values at six words a pair of the room.
abbrev pub ends_after : ℕ
ends_after = 6

abbrev pub ends_region : Room → ℕ
ends_region room = values_region room + ends_after * room.pairs

-- What the report keeps of a pair, in the four words from its waiter on.
abbrev pub pair_facts : ℕ
pair_facts = 4

-- The goals: the queue, the waiting log of two places a goal and two words a place, the failed goals.
abbrev pub queue_region : Room → ℕ
queue_region room = values_region room + 7 * room.pairs

abbrev pub waiting_region : Room → ℕ
waiting_region room = queue_region room + room.goals

abbrev pub failed_region : Room → ℕ
failed_region room = queue_region room + 5 * room.goals

-- The need in 64-bit words: 8 a compound, 7 a pair and 6 a goal behind the regions of fixed size.
abbrev pub need_of : Room → ℕ
need_of room = compounds_region + compound_words * room.compounds + 7 * room.pairs + 6 * room.goals

-- The need by its three figures.
abbrev pub need_for : ℕ → ℕ → ℕ → ℕ
need_for pairs compounds goals = need_of (record { pairs = pairs; compounds = compounds; goals = goals })

-- The figures that the code has, as those of the definitions.
abbrev pub figures : Figures → Room
figures room = record { pairs = room.pairs; compounds = room.compounds; goals = room.goals }

-- "Each 1 to 65,535", of which only the upper end matters to the need.
pub record InRange (room : Room) : Type 0 where
  pub pairs : room.pairs ≤ 65535
  pub compounds : room.compounds ≤ 65535
  pub goals : room.goals ≤ 65535
