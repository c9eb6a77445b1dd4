-- An item begins: its table is empty, and its first token says whether it is a clause, a query or none.
use Prim.Native.Nat.{ℕ, ◌+◌, ◌≤◌, ◌<◌, min}
use mathlib.Core.Path.{◌≡◌, refl, ◌∙◌}
use mathlib.Core.Bool.{false}
use mathlib.Core.List.{List, []}
use native.Mathlib.Omega.{arith}
use lib.ListN.{length, get_or, replicate, length-replicate, get_or-replicate}
use borrow.Author.Tests.{lt-ltb, le-ltb}
use Rattle.meaning.specs.Bytes.{Bytes, byte, when◌then◌else◌}
use Rattle.meaning.specs.Terms.{Half, writer, reader, Named, goals_occurrences}
use Rattle.meaning.specs.Tokens.{Token, name, sign, Tokens, token}
use Rattle.meaning.specs.Items.{refused, no_item, figure, fresh, is, is_name, rule, goals, clause_piece, query_piece, clause_from, query_from, item_from, item}
use Rattle.load_names.specs.Places.{Place, spellings}
use Rattle.load_names.specs.Tables.{VariablesIn}
use Rattle.load_openings.specs.Reading.{piece, counted_at, half_place, Stands}
use Rattle.load_image.specs.Image.{so_far}
use Rattle.load_items.specs.Outcomes.{Begins}
use Rattle.load_openings.specs.declared.cursor.Cursor.{Cursor}
use Rattle.load_openings.proofs.Expected.{piece_open}

no_variables : (rest : Bytes) → VariablesIn rest [] (replicate 64 0)
no_variables rest = record {
  size = length-replicate {A = ℕ} 64 0;
  few = omega arith;
  starts = λ n l. absurd (omega arith);
  lengths = λ n l. absurd (omega arith);
  inside = λ n l. absurd (omega arith);
  spelled = λ n l. absurd (omega arith);
  counted = λ k l. let e = get_or-replicate {A = ℕ} 64 (32 + k) 0 0 (omega arith) in omega (arith, e);
}

pub no_halves : (h : Half) (n : ℕ) → n < 16 → ◌≡◌ {A = ℕ} (get_or (replicate 64 0) (half_place h n) 0) 0
unfolding half_place
no_halves writer n l = get_or-replicate {A = ℕ} 64 (32 + n) 0 0 (omega arith)
no_halves reader n l = get_or-replicate {A = ℕ} 64 (48 + n) 0 0 (omega arith)

-- How often each half occurred, counted from an empty table.
pub halves_from_none : (item item' : List ℕ) (gs : List Named) → item ≡ replicate 64 0
    → ((h : Half) (n : ℕ) → n < 16 → get_or item' (half_place h n) 0 ≡ min 2 (get_or item (half_place h n) 0 + goals_occurrences h n gs))
    → (h : Half) (n : ℕ) → n < 16 → get_or item' (half_place h n) 0 ≡ min 2 (goals_occurrences h n gs)
halves_from_none item item' gs e halves h n l =
    let none : get_or item (half_place h n) 0 ≡ 0 = rw e (no_halves h n l) in
    omega (arith, halves h n l)

module _ (text rest : Bytes) (from : ℕ) (names item₀ : List ℕ) (count : ℕ) (known : List Place) (b : Begins text rest from names item₀ count known) where
  pub begin_stands : (c : Cursor) → c.at ≤ length rest → c.names ≡ count → c.variables ≡ 0 → c.compounds ≡ 0
      → Stands text rest from names item₀ c known []
  begin_stands c inside names_are variables_are compounds_are = record {
    part = b.part;
    inside = inside;
    names_in = b.names_in;
    names_count = names_are ∙ b.count_is;
    variables_in = rw b.empty (no_variables rest);
    variables_count = variables_are;
    compounds_few = omega arith;
  }

fresh_is : (known : List Place) → fresh (spellings known) ≡ counted_at known [] 0
unfolding fresh counted_at spellings
fresh_is known = refl

-- By the first token.
module _ (known : List Place) (clauses queries : ℕ) (p : ℕ) (ts : Tokens) where
  starts_clause : (f : Bytes) → item (so_far known clauses queries) (piece (token p (name f) ts))
      ≡ clause_from (so_far known clauses queries) p (piece (token p (name f) ts))
  unfolding item item_from is_name when◌then◌else◌ is
  starts_clause f = rw (piece_open p (name f) ts refl)

  pub clause_many : (f : Bytes) → 128 ≤ clauses → item (so_far known clauses queries) (piece (token p (name f) ts)) ≡ refused (figure p)
  unfolding clause_from so_far when◌then◌else◌
  clause_many f h = rw (starts_clause f, le-ltb clauses 128 h)

  pub clause_reads : (f : Bytes) → clauses < 128
      → item (so_far known clauses queries) (piece (token p (name f) ts))
      ≡ clause_piece (clauses + 1) p (piece (token p (name f) ts)) (rule (counted_at known [] 0) (piece (token p (name f) ts)))
  unfolding clause_from so_far when◌then◌else◌
  clause_reads f h = rw (starts_clause f, lt-ltb clauses 128 h, fresh_is known)

  starts_query : item (so_far known clauses queries) (piece (token p (sign 63) ts)) ≡ query_from (so_far known clauses queries) p (piece ts)
  unfolding item item_from is_name when◌then◌else◌ is byte
  starts_query = rw (piece_open p (sign 63) ts refl)

  pub query_many : 8 ≤ queries → item (so_far known clauses queries) (piece (token p (sign 63) ts)) ≡ refused (figure p)
  unfolding query_from so_far when◌then◌else◌
  query_many h = rw (starts_query, le-ltb queries 8 h)

  pub query_reads : queries < 8
      → item (so_far known clauses queries) (piece (token p (sign 63) ts)) ≡ query_piece p (piece ts) (goals 8 (counted_at known [] 0) (piece ts))
  unfolding query_from so_far when◌then◌else◌
  query_reads h = rw (starts_query, lt-ltb queries 8 h, fresh_is known)

  pub starts_none : (t : Token) → is_name t ≡ false → is "?" t ≡ false → item (so_far known clauses queries) (piece (token p t ts)) ≡ refused (no_item p)
  unfolding item item_from piece when◌then◌else◌
  starts_none t h k = rw (h, k)
