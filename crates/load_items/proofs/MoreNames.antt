-- A clause's guards are stored as they were where more names are known.
use Prim.Native.Nat.{ℕ, ◌+◌}
use mathlib.Core.Path.{◌≡◌, refl}
use mathlib.Core.List.{List, [], ◌∷◌, ◌++◌}
use lib.ListN.{set}
use Rattle.meaning.specs.Bytes.{Bytes}
use Rattle.meaning.specs.Terms.{Test, Terms, compound, end, more, named, Guard}
use Rattle.term.specs.Cells.{Places as CellPlaces, stored}
use Rattle.term.specs.Guards.{guard_word}
use Rattle.term.proofs.Names.{with_more, known_more, term_word_more, stored_more}
use Rattle.load_names.specs.Places.{Place, spellings, item_places}
use Rattle.load_image.specs.Image.{test_stored, guards_stored}
use Rattle.load_openings.proofs.Passing.{More}
use Rattle.load_goals.proofs.GoalLists.{places_more}
use Rattle.load_items.specs.Rules.{TestNamed, GuardsNamed}

test_named_later : (names later : List Bytes) (test : Test) (g : Guard) (ts : Terms) → TestNamed test names g ts → TestNamed test (names ++ later) g ts
unfolding TestNamed
test_named_later names later Test.an_integer g ts k = known_more (compound g.number (named g.row.name) ts) names later k
test_named_later names later Test.a_constant g ts k = known_more (compound g.number (named g.row.name) ts) names later k
test_named_later names later Test.a_compound g ts k = known_more (compound g.number (named g.row.name) ts) names later k
test_named_later names later Test.a_ground g ts k = known_more (compound g.number (named g.row.name) ts) names later k
test_named_later names later Test.known g ts k = known_more (compound g.number (named g.row.name) ts) names later k
test_named_later names later Test.equal g end k = tt
test_named_later names later Test.equal g (more t end) k = tt
test_named_later names later Test.equal g (more t (more u ts)) k = (known_more t names later k.0, known_more u names later k.1)
test_named_later names later Test.otherwise g ts k = tt

named_later : (names later : List Bytes) (gs : List Guard) → GuardsNamed names gs → GuardsNamed (names ++ later) gs
unfolding GuardsNamed
named_later names later [] k = tt
named_later names later (g ∷ gs) k = (test_named_later names later g.row.test g g.arguments k.0, named_later names later gs k.1)

module _ (p : CellPlaces) (later : List Bytes) where
  test_later : (test : Test) (g : Guard) (ts : Terms) (s : List ℕ) → TestNamed test p.names g ts → test_stored test (with_more p later) g ts s ≡ test_stored test p g ts s
  unfolding TestNamed test_stored
  test_later Test.an_integer g ts s k = stored_more p later (compound g.number (named g.row.name) ts) s k
  test_later Test.a_constant g ts s k = stored_more p later (compound g.number (named g.row.name) ts) s k
  test_later Test.a_compound g ts s k = stored_more p later (compound g.number (named g.row.name) ts) s k
  test_later Test.a_ground g ts s k = stored_more p later (compound g.number (named g.row.name) ts) s k
  test_later Test.known g ts s k = stored_more p later (compound g.number (named g.row.name) ts) s k
  test_later Test.equal g end s k = refl
  test_later Test.equal g (more t end) s k = refl
  test_later Test.equal g (more t (more u ts)) s k =
      rw (
        stored_more p later t s k.0,
        stored_more p later u (stored p t s) k.1,
        term_word_more p later t k.0,
        term_word_more p later u k.1,
      )
  test_later Test.otherwise g ts s k = refl

  guards_later : (place : ℕ) (gs : List Guard) (s : List ℕ) → GuardsNamed p.names gs → guards_stored (with_more p later) place gs s ≡ guards_stored p place gs s
  unfolding GuardsNamed guards_stored
  guards_later place [] s k = refl
  guards_later place (g ∷ gs) s k =
      rw (test_later g.row.test g g.arguments s k.0)
      (guards_later (place + 1) gs (set (test_stored g.row.test p g g.arguments s) place (guard_word p g)) k.1)

module _ (known known' : List Place) (base : ℕ) (m : More known known') where
  pub still_guards : (place : ℕ) (gs : List Guard) (s : List ℕ) → GuardsNamed (spellings known) gs
      → guards_stored (item_places known' base) place gs s ≡ guards_stored (item_places known base) place gs s
  unfolding item_places
  still_guards place gs s k = rw (places_more known known' base m) (guards_later (item_places known base) m.0 place gs s k)

  pub still_named_guards : (gs : List Guard) → GuardsNamed (spellings known) gs → GuardsNamed (spellings known') gs
  still_named_guards gs k = rw m.1 (named_later (spellings known) m.0 gs k)
