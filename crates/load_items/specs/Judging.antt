-- A clause that was read, as it is judged behind its full stop.
use Rattle.std.specs.Prelude.{ℕ, ◌+◌, ◌≡◌, List, [], replicate, Result}
use Rattle.meaning.specs.Bytes.{Bytes}
use Rattle.meaning.specs.Terms.{Guard}
use Rattle.meaning.specs.Tokens.{Tokens, token, name}
use Rattle.meaning.specs.Items.{Rule}
use Rattle.load_tokens.specs.Fronts.{tokens_in}
use Rattle.load_names.specs.Places.{Place, Placed}
use Rattle.load_openings.specs.declared.cursor.Cursor.{Cursor}
use Rattle.load_items.specs.Rules.{RuleRead}
use Rattle.load_items.specs.Outcomes.{BegunIs}
use Rattle.load_items.specs.declared.items.Item.{Item}
use Rattle.load_items.specs.declared.refused.Refused.{Refused}
use Rattle.load_items.specs.declared.rule.Ruled.{Ruled}

-- What was read, from where on, and what the scratch and the tables were before.
pub record Whole : Type 0 where
  pub text : Bytes
  pub from : ℕ
  pub known : List Place
  pub start : Cursor
  pub begins : ℕ
  pub first : Bytes
  pub behind : Tokens
  pub scratch : List ℕ
  pub names : List ℕ
  pub names' : List ℕ
  pub item : List ℕ
  pub heads : List ℕ
  pub heads' : List ℕ
  pub rule : Rule
  pub guards : List Guard
  pub passed : List Placed
  pub stop : ℕ

pub record Judging (rest : Bytes) (s item in_head in_guards licensed : List ℕ) (k : ℕ) (r : Ruled) (w : Whole) : Type 0 where
  pub was_read : RuleRead k w.text rest w.from w.known [] w.start w.scratch w.item w.heads s w.names' item w.heads' in_head in_guards licensed
      r.guards r.bar r.goals r.cursor w.rule w.guards w.passed w.stop
  pub empty : w.item ≡ replicate 64 0
  pub at_first : (w.start.at ≡ 0) × (w.start.compounds ≡ 0)
  pub tokens : tokens_in w.from rest 0 ≡ token (w.from + w.begins) (name w.first) w.behind

abbrev pub JudgedIs : (rest : Bytes) (k : ℕ) (s' : List ℕ) (w : Whole) → Result Item Refused → Type 0
JudgedIs rest k s' w r = (queries : ℕ) → BegunIs w.text rest w.from w.known k queries w.begins w.scratch w.heads s' w.names' w.heads' r
