-- A goal: what `compound` answers behind its parenthesis is what `goal` answers at its name.
use Rattle.std.specs.Prelude.{Result, Ok, Err}
use Prim.Native.Nat.{ℕ}
use mathlib.Core.Path.{refl, ap, ◌∙◌}
use mathlib.Core.List.{List, ◌∷◌}
use Rattle.meaning.specs.Bytes.{Bytes, byte}
use Rattle.meaning.specs.Terms.{as_term}
use Rattle.meaning.specs.Tokens.{name, sign, token}
use Rattle.meaning.specs.Items.{is, compound_of, term, goal}
use Rattle.term.proofs.Frames.{only_same}
use Rattle.term.specs.Layout.{item_start, item_end}
use Rattle.load_names.specs.Places.{Place, with_place, with_name, with_variable, before, names_over, variables_over}
use Rattle.load_openings.specs.Reading.{ReadIs, Open}
use Rattle.load_openings.specs.Openings.{Opens, OpeningIs}
use Rattle.load_openings.specs.declared.cursor.Cursor.{Cursor}
use Rattle.load_openings.specs.declared.cursor.Unread.{Unread}
use Rattle.load_openings.specs.declared.cursor.Unread.TheVariants.{Malformed, Exceeded}

module _ (text rest : Bytes) (from base : ℕ) (known vars : List Place) (c c₂ : Cursor) (s names item s' names' item' : List ℕ) (n p q : ℕ) (f : Bytes)
    (o : Opens text rest from names item known vars c n c₂ f p q) where
  pub goal_is : (r : Result (ℕ × Cursor) Unread)
      → ReadIs as_term (compound_of (term 15) f) text rest from base (with_place p f known) vars c₂ s item s' names' item' r
      → ReadIs as_term goal text rest from base known vars c s item s' names' item' r
  unfolding before names_over variables_over with_name with_variable Open is byte
  goal_is (Ok (w, c')) (g, ps, gave) = (
    g,
    record { at = p; token = name f } ∷ (record { at = q; token = sign 40 } ∷ ps),
    record {
      reads = o.reads ∙ gave.reads;
      follows = o.follows ∙ ap (λ ts. token p (name f) (token q (sign 40) ts)) gave.follows;
      stands = gave.stands;
      word_is = gave.word_is;
      stored_is = gave.stored_is;
      numbered = rw o.compounds_same at gave.numbered;
      known_names = gave.known_names;
      no_stop = (refl, (refl, gave.no_stop));
      halves = gave.halves;
    },
  )
  goal_is (Err (Malformed place)) (e, inside, only) = (o.reads ∙ e, inside, only)
  goal_is (Err Exceeded) (e, only) = (o.reads ∙ e, only)

-- Where no goal begins, nothing of the scratch has changed.
module _ (text rest : Bytes) (from base : ℕ) (known vars : List Place) (c : Cursor) (s names item : List ℕ) where
  pub goal_unread : (u : Unread) → OpeningIs text rest from names item known vars c (Err u)
      → ReadIs as_term goal text rest from base known vars c s item s names item (Err u)
  goal_unread (Malformed place) (e, inside) = (e, inside, only_same (item_start base) (item_end base) s)
  goal_unread Exceeded e = (e, only_same (item_start base) (item_end base) s)
