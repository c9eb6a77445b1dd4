-- An accepted text's entries are its job's items, each laid out over the names of the whole text.
-- Piece by piece the names of the readings are the spellings of the places, and the names known before stay known.
use Prim.Native.Nat.{ℕ, ◌+◌, ◌≤◌, ◌<◌}
use mathlib.Core.Path.{◌≡◌, refl, ap, sym, ◌∙◌}
use mathlib.Core.Bool.{Bool, true, false}
use mathlib.Core.List.{List, [], ◌∷◌, ◌++◌}
use native.Mathlib.Omega.{arith}
use lib.ListN.{length}
use Rattle.meaning.specs.Bytes.{Bytes, same, any, when◌then◌else◌}
use Rattle.meaning.specs.Terms.{Clause, Query, Job}
use Rattle.meaning.specs.Tokens.{Token, name, variable, integer, sign, bad, Tokens, ends, token}
use Rattle.meaning.specs.Items.{
  is,
  Piece,
  nothing,
  clause,
  query,
  refused as refused_piece,
  item,
  onto,
  pieces,
  Reading,
  job,
  refused,
  with_clause,
  with_query,
  items,
}
use Rattle.term.specs.Cells.{KnownName}
use Rattle.term.specs.Jobs.{ClauseLaid, QueryLaid}
use Rattle.term.proofs.Names.{known_name_more}
use Rattle.load_names.specs.Places.{Place, spellings, with_place, with_name, with_variable}
use Rattle.load_image.specs.Image.{
  Entry,
  a_clause,
  a_query,
  so_far,
  entries,
  clauses_of,
  queries_of,
  names_in,
  variables_in,
}
use Rattle.load_names.proofs.Numbering.{spellings_snoc, spellings_length}
use Rattle.load_image.proofs.Steps.{added, name_added, variable_added, names_after, variables_after, Ends, Cut}
use Rattle.load_image.proofs.Laid.{goals_known_wider, guards_known_wider}
use Rattle.load_image.proofs.LaidItems.{PieceIs, item_is}
use Rattle.load_image.proofs.KeptEntries.{EntriesLaid}
use Rattle.load_image.proofs.ImageHolds.{job_of}

-- Spellings of places, one more or not.
with_place_spells : (at : ℕ) (f : Bytes) (known : List Place) → spellings (with_place at f known) ≡ added f (spellings known)
unfolding with_place added when◌then◌else◌
with_place_spells at f known = by (any (same f) (spellings known))
  where
    by : (b : Bool)
        → spellings (when b then known else known ++ (record { at = at; spelling = f } ∷ [])) ≡ (when b then spellings known else spellings known ++ (f ∷ []))
    by true = refl
    by false = spellings_snoc known at f

with_name_spells : (at : ℕ) (t : Token) (known : List Place) → spellings (with_name at t known) ≡ name_added t (spellings known)
unfolding with_name name_added
with_name_spells at (name f) known = with_place_spells at f known
with_name_spells at (variable h x) known = refl
with_name_spells at (integer i) known = refl
with_name_spells at (sign b) known = refl
with_name_spells at bad known = refl

with_variable_spells : (at : ℕ) (t : Token) (known : List Place) → spellings (with_variable at t known) ≡ variable_added t (spellings known)
unfolding with_variable variable_added
with_variable_spells at (name f) known = refl
with_variable_spells at (variable h x) known = with_place_spells at x known
with_variable_spells at (integer i) known = refl
with_variable_spells at (sign b) known = refl
with_variable_spells at bad known = refl

pub names_in_spells : (ts : Tokens) (known : List Place) → spellings (names_in ts known) ≡ names_after ts (spellings known)
unfolding names_in names_after
names_in_spells (ends n) known = refl
names_in_spells (token at t rest) known = names_in_spells rest (with_name at t known) ∙ ap (names_after rest) (with_name_spells at t known)

pub variables_in_spells : (ts : Tokens) (known : List Place) → spellings (variables_in ts known) ≡ variables_after ts (spellings known)
unfolding variables_in variables_after
variables_in_spells (ends n) known = refl
variables_in_spells (token at t rest) known =
    variables_in_spells rest (with_variable at t known) ∙ ap (variables_after rest) (with_variable_spells at t known)

pub first_variables : (ts : Tokens) → spellings (variables_in ts []) ≡ variables_after ts []
unfolding spellings
first_variables ts = variables_in_spells ts []

names_in_end : (ts : Tokens) (known : List Place) → Ends ts → names_in ts known ≡ known
unfolding Ends names_in
names_in_end (ends n) known h = refl
names_in_end (token at t rest) known h = absurd h

-- Known names stay known.
added_wider : (f g : Bytes) (known : List Bytes) → KnownName known g → KnownName (added f known) g
unfolding added when◌then◌else◌
added_wider f g known h = by (any (same f) known)
  where
    by : (b : Bool) → KnownName (when b then known else known ++ (f ∷ [])) g
    by true = h
    by false = known_name_more g known (f ∷ []) h

name_added_wider : (t : Token) (g : Bytes) (known : List Bytes) → KnownName known g → KnownName (name_added t known) g
unfolding name_added
name_added_wider (name f) g known h = added_wider f g known h
name_added_wider (variable k x) g known h = h
name_added_wider (integer i) g known h = h
name_added_wider (sign b) g known h = h
name_added_wider bad g known h = h

after_wider : (ts : Tokens) (g : Bytes) (known : List Bytes) → KnownName known g → KnownName (names_after ts known) g
unfolding names_after
after_wider (ends n) g known h = h
after_wider (token at t rest) g known h = after_wider rest g (name_added t known) (name_added_wider t g known h)

-- The names over all pieces.
unfoldable pub names_all : List Tokens → List Place → List Place
names_all [] known = known
names_all (p ∷ ps) known = names_all ps (names_in p known)

all_wider : (ps : List Tokens) (known : List Place) (g : Bytes) → KnownName (spellings known) g → KnownName (spellings (names_all ps known)) g
unfolding names_all
all_wider [] known g h = h
all_wider (p ∷ ps) known g h =
    all_wider ps (names_in p known) g (rw (names_in_spells p known) (after_wider p g (spellings known) h))

clause_wider : (n n' : List Bytes) (c : Clause) → ((f : Bytes) → KnownName n f → KnownName n' f) → ClauseLaid n c → ClauseLaid n' c
clause_wider n n' c w l = record {
  few_pairs = l.few_pairs;
  few_compounds = l.few_compounds;
  few_goals = l.few_goals;
  few_guards = l.few_guards;
  behind_head = l.behind_head;
  behind_guards = l.behind_guards;
  head_numbered = l.head_numbered;
  guards_numbered = l.guards_numbered;
  body_numbered = l.body_numbered;
  known = goals_known_wider n n' w (c.head ∷ c.body) l.known;
  guards_known = guards_known_wider n n' w c.guards l.guards_known;
}

query_wider : (n n' : List Bytes) (q : Query) → ((f : Bytes) → KnownName n f → KnownName n' f) → QueryLaid n q → QueryLaid n' q
query_wider n n' q w l = record {
  few_pairs = l.few_pairs;
  few_compounds = l.few_compounds;
  few_goals = l.few_goals;
  numbered = l.numbered;
  known = goals_known_wider n n' w q.goals l.known;
}

-- Every piece ends behind its full stop.
unfoldable pub EachCut : List Tokens → Type 0
EachCut [] = Unit {0}
EachCut (p ∷ ps) = Cut p × EachCut ps

-- What an accepted rest of the text says.
pub record AcceptedFrom (known : List Place) (k q : ℕ) (ps : List Tokens) (es : List Entry) (j : Job) : Type 0 where
  pub few_names : length (spellings (names_all ps known)) ≤ 256
  pub laid : EntriesLaid (spellings (names_all ps known)) k q es
  pub same_job : job_of es ≡ j

with_clause_job : (c : Clause) (x : Reading) (j : Job) → with_clause c x ≡ job j
    → (i : Job) × (x ≡ job i) × (record { clauses = c ∷ i.clauses; queries = i.queries } ≡ j)
unfolding with_clause
with_clause_job c (job i) j h = (i, refl, cc)
with_clause_job c (refused r) j h = let z : ◌≡◌ {A = ℕ} 0 1 = cc in absurd (omega arith)

with_query_job : (q : Query) (x : Reading) (j : Job) → with_query q x ≡ job j
    → (i : Job) × (x ≡ job i) × (record { clauses = i.clauses; queries = q ∷ i.queries } ≡ j)
unfolding with_query
with_query_job q (job i) j h = (i, refl, cc)
with_query_job q (refused r) j h = let z : ◌≡◌ {A = ℕ} 0 1 = cc in absurd (omega arith)

-- One piece, by what it reads as, and the pieces behind it.
module _ (p : Tokens) (ps : List Tokens)
    (behind : (known : List Place) (k q : ℕ) (j : Job) → length (spellings known) ≤ 256 → k ≤ 128 → q ≤ 8 → items (so_far known k q) ps ≡ job j
    → AcceptedFrom known k q ps (entries known k q ps) j) where
  piece_accepted : (known : List Place) (k q : ℕ) (j : Job) → length (spellings known) ≤ 256 → k ≤ 128 → q ≤ 8
      → (x : Piece) → PieceIs p (spellings known) k q x
      → elim x [
        | nothing ↦ items (so_far known k q) ps
        | clause c names ↦ with_clause c (items (record { names = names; clauses = k + 1; queries = q }) ps)
        | query g names ↦ with_query g (items (record { names = names; clauses = k; queries = q + 1 }) ps)
        | refused_piece r ↦ refused r
      ] ≡ job j
      → AcceptedFrom known k q (p ∷ ps)
      (elim x [
        | nothing ↦ entries known k q ps
        | clause c names ↦ a_clause c ∷ entries (names_in p known) (k + 1) q ps
        | query g names ↦ a_query g (variables_in p []) ∷ entries (names_in p known) k (q + 1) ps
        | refused_piece r ↦ []
      ])
      j
  unfolding PieceIs names_all EntriesLaid job_of clauses_of queries_of so_far
  piece_accepted known k q j few a b nothing is_this h =
      let all = behind known k q j few a b h in
      let none = names_in_end p known is_this in
      record {
        few_names = rw none all.few_names;
        laid = rw none all.laid;
        same_job = all.same_job;
      }
  piece_accepted known k q j few a b (clause c names) is_this h =
      let spells : names ≡ spellings (names_in p known) = is_this.names_are ∙ sym (names_in_spells p known) in
      let rest = with_clause_job c (items (record { names = names; clauses = k + 1; queries = q }) ps) j h in
      let few' : length (spellings (names_in p known)) ≤ 256 = rw spells at (is_this.few_names few) in
      let number : k < 128 = is_this.number in
      let again = ap (λ n. items (record { names = n; clauses = k + 1; queries = q }) ps) spells in
      let tail = behind (names_in p known) (k + 1) q rest.0 few' (omega arith) b (sym again ∙ rest.1) in
      record {
        few_names = tail.few_names;
        laid = (
          number,
          clause_wider names (spellings (names_all ps (names_in p known))) c
              (λ f l. all_wider ps (names_in p known) f (rw spells at l)) is_this.laid,
          tail.laid,
          is_this.nth,
        );
        same_job = ap (λ i. record { clauses = c ∷ i.clauses; queries = i.queries }) tail.same_job ∙ rest.2;
      }
  piece_accepted known k q j few a b (query g names) is_this h =
      let spells : names ≡ spellings (names_in p known) = is_this.names_are ∙ sym (names_in_spells p known) in
      let rest = with_query_job g (items (record { names = names; clauses = k; queries = q + 1 }) ps) j h in
      let few' : length (spellings (names_in p known)) ≤ 256 = rw spells at (is_this.few_names few) in
      let number : q < 8 = is_this.number in
      let again = ap (λ n. items (record { names = n; clauses = k; queries = q + 1 }) ps) spells in
      let tail = behind (names_in p known) k (q + 1) rest.0 few' a (omega arith) (sym again ∙ rest.1) in
      let variables : length (spellings (variables_in p [])) ≡ length g.variables = ap length (first_variables p ∙ sym is_this.variables_are) in
      record {
        few_names = tail.few_names;
        laid = (
          number,
          query_wider names (spellings (names_all ps (names_in p known))) g
              (λ f l. all_wider ps (names_in p known) f (rw spells at l)) is_this.laid,
          omega (arith, variables, spellings_length (variables_in p []), is_this.laid.few_pairs),
          tail.laid,
        );
        same_job = ap (λ i. record { clauses = i.clauses; queries = g ∷ i.queries }) tail.same_job ∙ rest.2;
      }
  piece_accepted known k q j few a b (refused_piece r) is_this h = let z : ◌≡◌ {A = ℕ} 0 1 = cc in absurd (omega arith)

pub entries_accepted : (known : List Place) (k q : ℕ) (ps : List Tokens) (j : Job) → EachCut ps → length (spellings known) ≤ 256 → k ≤ 128 → q ≤ 8
    → items (so_far known k q) ps ≡ job j → AcceptedFrom known k q ps (entries known k q ps) j
unfolding EachCut items entries so_far names_all EntriesLaid job_of clauses_of queries_of
entries_accepted known k q [] j cut few a b h = record { few_names = few; laid = (a, b); same_job = cc }
entries_accepted known k q (p ∷ ps) j cut few a b h =
    piece_accepted p ps (λ known' k' q' j' few' a' b' h'. entries_accepted known' k' q' ps j' cut.1 few' a' b' h') known k q j few a b
    (item (so_far known k q) p) (item_is (spellings known) k q p cut.0) h

-- The pieces of a text, cut behind its full stops.
Some : List Tokens → Type 0
Some [] = ⊥
Some (p ∷ ps) = Unit {0}

onto_some : (place : ℕ) (t : Token) (ps : List Tokens) → Some ps → Some (onto place t ps)
unfolding Some onto
onto_some place t [] h = h
onto_some place t (p ∷ ps) h = tt

onto_cut : (place : ℕ) (t : Token) (ps : List Tokens) → is "." t ≡ false → EachCut ps → EachCut (onto place t ps)
unfolding onto EachCut Cut
onto_cut place t [] h c = tt
onto_cut place t (p ∷ ps) h c = ((λ e. let z : ◌≡◌ {A = ℕ} 0 1 = cc in absurd (omega arith), c.0), c.1)

onto_names : (place : ℕ) (t : Token) (ps : List Tokens) (known : List Place) → Some ps
    → names_all (onto place t ps) known ≡ names_all ps (with_name place t known)
unfolding Some onto names_all names_in
onto_names place t [] known h = absurd h
onto_names place t (p ∷ ps) known h = refl

if_some : (b : Bool) (ps qs : List Tokens) → Some ps → Some qs → Some (when b then ps else qs)
unfolding when◌then◌else◌
if_some true ps qs g h = g
if_some false ps qs g h = h

pieces_some : (ts : Tokens) → Some (pieces ts)
unfolding pieces Some
pieces_some (ends place) = tt
pieces_some (token place t rest) =
    if_some (is "." t) (token place t (ends place) ∷ pieces rest) (onto place t (pieces rest)) tt (onto_some place t (pieces rest) (pieces_some rest))

pub pieces_cut : (ts : Tokens) → EachCut (pieces ts)
unfolding pieces EachCut Cut Ends when◌then◌else◌
pieces_cut (ends place) = (tt, tt)
pieces_cut (token place t rest) = by (is "." t) refl (pieces_cut rest)
  where
    by : (b : Bool) → is "." t ≡ b → EachCut (pieces rest)
        → EachCut (when b then token place t (ends place) ∷ pieces rest else onto place t (pieces rest))
    by true e c = ((λ h. tt, tt), c)
    by false e c = onto_cut place t (pieces rest) e c

pub pieces_names : (ts : Tokens) (known : List Place) → names_all (pieces ts) known ≡ names_in ts known
unfolding pieces names_all names_in when◌then◌else◌
pieces_names (ends place) known = refl
pieces_names (token place t rest) known = by (is "." t) (pieces_names rest (with_name place t known))
  where
    by : (b : Bool) → names_all (pieces rest) (with_name place t known) ≡ names_in rest (with_name place t known)
        → names_all (when b then token place t (ends place) ∷ pieces rest else onto place t (pieces rest)) known ≡ names_in rest (with_name place t known)
    by true e = e
    by false e = onto_names place t (pieces rest) known (pieces_some rest) ∙ e
