-- The first token of an item, as the code finds it.
use Prim.Native.Nat.{ℕ, ◌+◌, ◌≤◌}
use mathlib.Core.Path.{◌≡◌, refl}
use mathlib.Core.List.{List}
use native.Mathlib.Omega.{arith}
use lib.ListN.{length}
use lib.Seq.{slice}
use Rattle.std.specs.Prelude.{Option, None, Result, Ok, Err}
use borrow.Author.Tests.{ne_eqb}
use Rattle.meaning.specs.Bytes.{Bytes, byte, when◌then◌else◌}
use Rattle.meaning.specs.Terms.{writer, reader}
use Rattle.meaning.specs.Tokens.{variable, integer, sign, bad, token}
use Rattle.meaning.specs.Items.{is, is_name}
use Rattle.term.proofs.Frames.{only_same}
use Rattle.term.specs.Layout.{trial_region}
use Rattle.load_tokens.specs.Fronts.{tokens_in, behind, double_sign, FrontIs}
use Rattle.load_names.specs.Places.{Place}
use Rattle.load_items.specs.Outcomes.{BegunIs, ItemIs, begun_at}
use Rattle.load_tokens.specs.declared.token.Token.TheVariants.{End, Writer, Reader, Integer as AnInteger, Sign, Bad}
use Rattle.load_items.specs.declared.items.Item.{Item}
use Rattle.load_items.specs.declared.items.Unfit.{Unfit}
use Rattle.load_items.specs.declared.refused.Refused.{Refused}
use Rattle.load_items.specs.declared.refused.Refused.TheVariants.{Malformed}
use Rattle.load_openings.proofs.GoalNames.{behind_after}
use Rattle.load_items.proofs.Starts.{starts_none}

pub query_sign : (rest : Bytes) (from b a : ℕ) → b ≡ 63 → FrontIs rest 0 (Sign b a)
    → (a + 2 ≤ length rest) × (tokens_in from rest 0 ≡ token (from + a) (sign 63) (tokens_in from rest (a + 2)))
unfolding behind byte when◌then◌else◌ double_sign
query_sign rest from b a e h = let k = rw e at h in (k.1, k.2 from)

-- An item that has begun is the one in front.
pub item_begun : (text rest : Bytes) (from : ℕ) (known : List Place) (clauses queries begins : ℕ) (s heads s' names names' heads' : List ℕ) (r : Result Item Refused)
    → begins ≤ length rest → BegunIs text rest from known clauses queries begins s heads s' names' heads' r
    → ItemIs text rest from known clauses queries s heads s' names names' heads' (begun_at begins r)
item_begun text rest from known clauses queries begins s heads s' names names' heads' (Ok i) inside h = h
item_begun text rest from known clauses queries begins s heads s' names names' heads' (Err why) inside h = (inside, h)

-- The item's first token cannot stand there.
abbrev at_first_token : ℕ → Result (Option Item) Unfit
at_first_token a = Err (record { begins = a; why = Malformed a })

module _ (text rest : Bytes) (from : ℕ) (known : List Place) (clauses queries : ℕ) (s heads names : List ℕ) where
  pub starts_sign : (b a : ℕ) → (b ≡ 63 → ⊥) → FrontIs rest 0 (Sign b a) → ItemIs text rest from known clauses queries s heads s names names heads (at_first_token a)
  unfolding is_name is byte
  starts_sign b a n h = (
    omega (arith, behind_after b a),
    (
      rw (h.2 from) (starts_none known clauses queries (from + a) (tokens_in from rest (behind b a)) (sign b) refl (ne_eqb b 63 n)),
      omega (arith, behind_after b a),
      only_same 0 trial_region s,
    ),
  )

  pub starts_writer : (a e : ℕ) → FrontIs rest 0 (Writer a e) → ItemIs text rest from known clauses queries s heads s names names heads (at_first_token a)
  unfolding is_name is
  starts_writer a e h =
      (omega arith, (rw (h.4 from) (starts_none known clauses queries (from + a) (tokens_in from rest e) (variable writer (slice a e rest)) refl refl), omega arith, only_same 0 trial_region s))

  pub starts_reader : (a e : ℕ) → FrontIs rest 0 (Reader a e) → ItemIs text rest from known clauses queries s heads s names names heads (at_first_token a)
  unfolding is_name is
  starts_reader a e h =
      (omega arith, (rw (h.4 from) (starts_none known clauses queries (from + a) (tokens_in from rest (e + 1)) (variable reader (slice a e rest)) refl refl), omega arith, only_same 0 trial_region s))

  pub starts_integer : (w a e : ℕ) → FrontIs rest 0 (AnInteger w a e) → ItemIs text rest from known clauses queries s heads s names names heads (at_first_token a)
  unfolding is_name is
  starts_integer w a e h =
      (omega arith, (rw (h.6 from) (starts_none known clauses queries (from + a) (tokens_in from rest e) (integer h.4) refl refl), omega arith, only_same 0 trial_region s))

  pub starts_bad : (a : ℕ) → FrontIs rest 0 (Bad a) → ItemIs text rest from known clauses queries s heads s names names heads (at_first_token a)
  unfolding is_name is
  starts_bad a h =
      (omega arith, (rw (h.2 from).1 (starts_none known clauses queries (from + a) (h.2 from).0 bad refl refl), omega arith, only_same 0 trial_region s))

  pub starts_nothing : FrontIs rest 0 End → ItemIs text rest from known clauses queries s heads s names names heads (Ok None)
  starts_nothing h = (h from, refl, refl, refl)
