-- Document 02, T-01, "Say which rule, say which byte": the occurrence rules of document 01 over an item's tokens, and where one is broken;
-- with T-02, what a clause's guards change in them.
use Rattle.std.specs.Prelude.{ℕ, Bool, false, ◌&&◌, List, [], ◌∷◌, ◌++◌, leb}
use Rattle.std.proofs.Math.Option.{Option, none, some}
use Rattle.meaning.specs.Bytes.{Bytes, same, when◌then◌else◌}
use Rattle.meaning.specs.Terms.{Half, writer, reader, same_half, terms_words}
use Rattle.meaning.specs.Tokens.{Token, name, variable, integer, sign, bad, Tokens, ends, token, is, tokens_words}

-- Document 02: "5 (the same half twice), 9 (a writer without its reader) and 10 (a reader without its writer)."
pub data Broken : Type 0 where
  twice writer_alone reader_alone : Broken

-- A rule that an item breaks, and the byte that shows it: its offset from 0 over the whole text.
pub record Fault : Type 0 where
  pub rule : Broken
  pub offset : ℕ

-- A token is this half of this variable.
unfoldable pub is_half : Half → Bytes → Token → Bool
is_half h x (name f) = false
is_half h x (variable k y) = same_half h k && same x y
is_half h x (integer i) = false
is_half h x (sign b) = false
is_half h x bad = false

-- Where this half of this variable occurs among these tokens: the places of its tokens, in text order.
unfoldable pub occurs_at : Half → Bytes → Tokens → List ℕ
occurs_at h x (ends place) = []
occurs_at h x (token place t rest) = when is_half h x t then place ∷ occurs_at h x rest else occurs_at h x rest

-- "For 5 the second occurrence": of a half that occurs at these places; a third one plays no part.
unfoldable pub twice_faults : List ℕ → List Fault
twice_faults [] = []
twice_faults (first ∷ []) = []
twice_faults (first ∷ second ∷ others) = record { rule = twice; offset = second } ∷ []

-- "For 9 and 10 the first occurrence of the lone half": of a half that occurs at the former places, its other half at the latter.
unfoldable pub alone_faults : Broken → List ℕ → List ℕ → List Fault
alone_faults alone [] theirs = []
alone_faults alone (first ∷ others) [] = record { rule = alone; offset = first } ∷ []
alone_faults alone (first ∷ others) (their_first ∷ their_others) = []

-- "No writer and no reader occurs twice": the faults of one variable among an item's tokens.
unfoldable pub twice_of : Tokens → Bytes → List Fault
twice_of piece x = twice_faults (occurs_at writer x piece) ++ twice_faults (occurs_at reader x piece)

-- "A writer occurs exactly if its reader does."
unfoldable pub alone_of : Tokens → Bytes → List Fault
alone_of piece x =
    alone_faults writer_alone (occurs_at writer x piece) (occurs_at reader x piece)
    ++ alone_faults reader_alone (occurs_at reader x piece) (occurs_at writer x piece)

-- A clause's tokens up to its `:-`, and behind that sign others.
unfoldable pub up_to_implied : Tokens → Tokens → Tokens
up_to_implied (ends place) behind = ends place
up_to_implied (token place t rest) behind = token place t (when is ":" t then behind else up_to_implied rest behind)

-- "Occurrences in guards don't count for the pairing" (T-02): the tokens that count, of a clause without a bar, and of one with these behind its bar.
unfoldable pub pairing : Option Tokens → Tokens → Tokens
pairing none piece = piece
pairing (some behind) piece = up_to_implied piece behind

-- The head's tokens.
unfoldable pub head_tokens : Tokens → Tokens
head_tokens piece = up_to_implied piece (ends 0)

-- "A reader that is itself the argument of a ground, integer or constant guard may stand several times in that clause's body, and once in its head as
-- well" (T-02): of a reader that is free so, only the head's occurrences are judged.
unfoldable pub twice_in_clause : Bool → Tokens → Bytes → List Fault
twice_in_clause free piece x =
    twice_faults (occurs_at writer x piece) ++ twice_faults (occurs_at reader x (when free then head_tokens piece else piece))

-- In a clause both rules hold, of each of its variables, of which some have readers that are free.
unfoldable pub clause_faults : (Bytes → Bool) → Tokens → List Bytes → List Fault
clause_faults free piece [] = []
clause_faults free piece (x ∷ variables) = (twice_in_clause (free x) piece x ++ alone_of piece x) ++ clause_faults free piece variables

-- "In a query nothing occurs twice; either half may be missing."
unfoldable pub query_faults : Tokens → List Bytes → List Fault
query_faults piece [] = []
query_faults piece (x ∷ variables) = twice_of piece x ++ query_faults piece variables

-- "Where several apply to an item, the smallest offset decides."
unfoldable pub smaller : Fault → Option Fault → Fault
smaller f none = f
smaller f (some g) = when leb f.offset g.offset then f else g

unfoldable pub least : List Fault → Option Fault
least [] = none
least (f ∷ faults) = some (smaller f (least faults))

unfoldable pub faults_words : Unit {0}
unfolding tokens_words terms_words is_half occurs_at twice_faults alone_faults twice_of alone_of up_to_implied pairing head_tokens twice_in_clause clause_faults query_faults smaller least
faults_words = tt
