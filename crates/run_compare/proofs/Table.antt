-- Document 01's table: what a row on words has done is what the definitions' table says of the two terms, the head's renamed apart.
use Prim.Native.Nat.{ℕ, ◌+◌, ◌≤◌, ◌<◌}
use mathlib.Core.Path.{◌≡◌, refl, ap}
use mathlib.Core.Bool.{Bool, true, false}
use mathlib.Core.List.{List, [], ◌∷◌}
use native.Mathlib.Omega.{arith}
use lib.Dec.{eqb}
use lib.ListN.{length}
use Rattle.meaning.specs.Bytes.{when◌then◌else◌}
use Rattle.meaning.specs.Terms.{writer, reader, Constant, Functor, Term, Terms, renamed, same_constant}
use Rattle.meaning.specs.Compare.{Result, succeeds, gives, waits_on, fails, place}
use Rattle.term.specs.Words.{view_of}
use Rattle.term.specs.Cells.{Places, content, constant_content, term_word, Known}
use Rattle.term.specs.Frames.{Only}
use Rattle.term.specs.declared.word.View.{View}
use Rattle.term.specs.declared.word.View.TheVariants.{Writer}
use Rattle.term.proofs.Cells.{numbered_order}
use Rattle.term.proofs.Frames.{only_same, only_set, only_then}
use Rattle.run_table.specs.declared.table.PlaceResult.{PlaceResult}
use Rattle.run_table.specs.declared.table.PlaceResult.TheVariants.{Noted, Fails, Below}
use Rattle.term.specs.Setting.{Setting, Within, Ranged, UnitTerm}
use Rattle.term.specs.Layout.{trial_region, gift_pair, gift_term, woken_part, item_place, clause_base}
use Rattle.run_compare.specs.Gifts.{to_head, to_goal, assignments}
use Rattle.run_compare.specs.Notes.{given, asked, gifts_in, asks_in, judged, noted, written}
use Rattle.run_table.specs.Rows.{
  head_written,
  goal_written,
  Row,
  agrees,
  gives_head,
  gives_goal,
  waits,
  fails as fails_row,
  below,
  writer_row,
  reader_row,
  equal_row,
  constant_row,
  compound_row,
  row,
  answer,
  behind,
  Done,
}
use Rattle.run_compare.specs.Compare.{Template, item, HeadTerm, Against, AllNoted, Notes}
use Rattle.run_table.proofs.Seen.{seen, seen_term, seen_writer}
use Rattle.run_compare.proofs.Equal.{constants_equal, constant_no_compound}

-- Two compounds, whose functors and arguments decide.
pub record Descends (x : Setting) (y : Template) (t u : Term) (p q : ℕ) : Type 0 where
  pub m : ℕ
  pub g : Functor
  pub us : Terms
  pub l : ℕ
  pub f : Functor
  pub ts : Terms
  pub head : t ≡ Term.compound m g us
  pub goal : u ≡ Term.compound l f ts
  pub head_place : p ≡ item_place (clause_base y.number) m
  pub goal_place : q ≡ x.places.compound l

abbrev pub Meets : List ℕ → List ℕ → Setting → Template → ℕ → ℕ → ℕ → Result → Term → Term → PlaceResult → Type 0
Meets s s' x y n lo hi o t u (Noted m) = (m ≤ n + 1) × Notes s s' x y n lo hi o m
Meets s s' x y n lo hi o t u Fails = o ≡ fails
Meets s s' x y n lo hi o t u (Below p q) = Descends x y t u p q × (s' ≡ s)

-- A constant's word is seen as one that is no variable and no compound.
row_constant : (places : Places) (k : Constant) (same : Bool) (v : View) → row same (view_of (constant_content places k)) v ≡ constant_row same v
unfolding row
row_constant places (Constant.integer i) same v = refl
row_constant places (Constant.name f) same v = refl
row_constant places Constant.empty same v = refl

writer_constant : (places : Places) (k : Constant) (x : ℕ) → writer_row x (view_of (constant_content places k)) ≡ gives_head x
unfolding writer_row
writer_constant places (Constant.integer i) x = refl
writer_constant places (Constant.name f) x = refl
writer_constant places Constant.empty x = refl

reader_constant : (places : Places) (k : Constant) → reader_row (view_of (constant_content places k)) ≡ fails_row
unfolding reader_row
reader_constant places (Constant.integer i) = refl
reader_constant places (Constant.name f) = refl
reader_constant places Constant.empty = refl

constant_constant : (places : Places) (k : Constant) (same : Bool) → constant_row same (view_of (constant_content places k)) ≡ equal_row same
unfolding constant_row
constant_constant places (Constant.integer i) same = refl
constant_constant places (Constant.name f) same = refl
constant_constant places Constant.empty same = refl

compound_constant : (places : Places) (k : Constant) (p : ℕ) → compound_row p (view_of (constant_content places k)) ≡ fails_row
unfolding compound_row
compound_constant places (Constant.integer i) p = refl
compound_constant places (Constant.name f) p = refl
compound_constant places Constant.empty p = refl

against_room : {s : List ℕ} {x : Setting} {y : Template} {from links lo hi : ℕ} {t u : Term} {h w n : ℕ} → Against s x y from links lo hi t u h w n → n < 192
against_room {lo = lo} {hi = hi} {t = t} k = omega (arith, k.room, numbered_order lo hi t k.head.numbered)

in_order : {s : List ℕ} {x : Setting} {y : Template} {from links lo hi : ℕ} {t u : Term} {h w n : ℕ} → Against s x y from links lo hi t u h w n → lo ≤ hi
in_order {lo = lo} {hi = hi} {t = t} k = numbered_order lo hi t k.head.numbered

-- Only the trial's region changes.
only_head : (s : List ℕ) (x w : ℕ) → x < 16 → Only trial_region woken_part s (head_written x w s)
only_head s x w h = only_set trial_region woken_part s (trial_region + x) w (omega arith) (omega arith)

only_goal : (s : List ℕ) (n z h : ℕ) → n < 192 → Only trial_region woken_part s (goal_written n z h s)
only_goal s n z h b =
    let mid = lib.ListN.set s (gift_pair n) z in
    only_then trial_region woken_part s mid (goal_written n z h s)
    (only_set trial_region woken_part s (gift_pair n) z (omega arith) (omega arith))
    (only_set trial_region woken_part mid (gift_term n) h (omega arith) (omega arith))

abbrev pub Found : List ℕ → List ℕ → Setting → Template → ℕ → ℕ → ℕ → Result → Term → Term → PlaceResult → Type 0
Found s s' x y n lo hi o t u met = Only trial_region woken_part s s' × Meets s s' x y n lo hi o t u met

module _ (s s' : List ℕ) (x : Setting) (y : Template) (n lo hi : ℕ) (order : lo ≤ hi) (h w : ℕ) (t u : Term) (met : PlaceResult) (o : Result) where
  none_given : Done s s' n h w agrees met → o ≡ succeeds [] → Found s s' x y n lo hi o t u met
  unfolding answer behind assignments gifts_in asks_in judged noted written AllNoted
  none_given d e =
      rw (d.answers, d.scratch) (
        only_same trial_region woken_part s,
        (omega arith, record { notes = []; outcome = e; scratch = refl; counted = omega arith; held = order }),
      )

  head_given : (a : ℕ) → Done s s' n h w (gives_head a) met → a < y.pairs → y.pairs ≤ 16 → UnitTerm s x u → w ≡ term_word x.places u
      → o ≡ gives (length x.values + a) u → Found s s' x y n lo hi o t u met
  unfolding answer behind assignments gifts_in asks_in judged noted written AllNoted gives
  head_given a d small few held word e =
      rw (d.answers, d.scratch) (
        only_head s a w (omega arith),
        (
          omega arith,
          record {
            notes = given (to_head a u) ∷ [];
            outcome = e;
            scratch = ap (λ v. head_written a v s) word;
            counted = omega arith;
            held = ((small, held), order);
          },
        ),
      )

  goal_given : (z : ℕ) → Done s s' n h w (gives_goal (x.places.pair z)) met → n < 192 → z < length x.values
      → HeadTerm s x y lo hi t → h ≡ term_word (item x y) t → o ≡ gives z (renamed (length x.values) x.compounds t)
      → Found s s' x y n lo hi o t u met
  unfolding answer behind assignments gifts_in asks_in judged noted written AllNoted gives
  goal_given z d room inside held word e =
      rw (d.answers, d.scratch) (
        only_goal s n (x.places.pair z) h room,
        (
          omega arith,
          record {
            notes = given (to_goal z t) ∷ [];
            outcome = e;
            scratch = ap (λ v. goal_written n (x.places.pair z) v s) word;
            counted = omega arith;
            held = (inside, lo, hi, omega arith, held, omega arith);
          },
        ),
      )

  waits_found : (z : ℕ) → Done s s' n h w (waits (x.places.pair z)) met → n < 192 → z < length x.values → o ≡ waits_on z
      → Found s s' x y n lo hi o t u met
  unfolding answer behind assignments gifts_in asks_in judged noted written AllNoted waits_on
  waits_found z d room inside e =
      rw (d.answers, d.scratch) (
        only_goal s n (x.places.pair z) 0 room,
        (omega arith, record { notes = asked z ∷ []; outcome = e; scratch = refl; counted = omega arith; held = (inside, order) }),
      )

  fails_found : Done s s' n h w fails_row met → o ≡ fails → Found s s' x y n lo hi o t u met
  unfolding answer behind
  fails_found d e = rw (d.answers, d.scratch) (only_same trial_region woken_part s, e)

  equal_found : (same : Bool) → Done s s' n h w (equal_row same) met → o ≡ (when same then succeeds [] else fails) → Found s s' x y n lo hi o t u met
  unfolding equal_row when◌then◌else◌
  equal_found true d e = none_given d e
  equal_found false d e = fails_found d e

below_found : (s s' : List ℕ) (x : Setting) (y : Template) (n lo hi h w : ℕ) (m : ℕ) (g : Functor) (us : Terms) (l : ℕ) (f : Functor) (ts : Terms) (met : PlaceResult) (o : Result)
    → Done s s' n h w (below (item_place (clause_base y.number) m) (x.places.compound l)) met
    → Found s s' x y n lo hi o (Term.compound m g us) (Term.compound l f ts) met
unfolding answer behind
below_found s s' x y n lo hi h w m g us l f ts met o d =
    rw (d.answers, d.scratch) (
      only_same trial_region woken_part s,
      (
        record { m = m; g = g; us = us; l = l; f = f; ts = ts; head = refl; goal = refl; head_place = refl; goal_place = refl },
        refl,
      ),
    )

-- The row that two terms come to, by their words.
abbrev RowOf : Setting → Template → Term → Term → Row
RowOf x y t u =
    row (eqb (term_word (item x y) t) (term_word x.places u)) (view_of (content (item x y) t)) (view_of (content x.places u))

module _ (s s' : List ℕ) (x : Setting) (y : Template) (from links lo hi n h w : ℕ) (look : Term → Term) (met : PlaceResult) where
  abbrev ResultOf : Term → Term → Result
  ResultOf t u = place look (renamed (length x.values) x.compounds t) u

  by_terms : (t u : Term) → Against s x y from links lo hi t u h w n → Done s s' n h w (RowOf x y t u) met
      → Found s s' x y n lo hi (ResultOf t u) t u met
  unfolding place renamed row writer_row reader_row constant_row compound_row Within Known Ranged when◌then◌else◌
  by_terms (Term.variable writer a) (Term.variable writer z) k d = fails_found s s' x y n lo hi (in_order k) h w _ _ met _ d refl
  by_terms (Term.variable writer a) (Term.variable reader z) k d =
      head_given s s' x y n lo hi (in_order k) h w _ _ met _ a d k.head.within k.trial.pairs k.goal k.goal_word refl
  by_terms (Term.variable writer a) (Term.constant c) k d =
      head_given s s' x y n lo hi (in_order k) h w _ _ met _ a (rw (writer_constant x.places c a) at d) k.head.within k.trial.pairs k.goal k.goal_word refl
  by_terms (Term.variable writer a) (Term.compound l f ts) k d =
      head_given s s' x y n lo hi (in_order k) h w _ _ met _ a d k.head.within k.trial.pairs k.goal k.goal_word refl
  by_terms (Term.variable reader a) (Term.variable writer z) k d =
      goal_given s s' x y n lo hi (in_order k) h w _ _ met _ z d (against_room k) k.goal.of.within k.head k.head_word refl
  by_terms (Term.variable reader a) (Term.variable reader z) k d = fails_found s s' x y n lo hi (in_order k) h w _ _ met _ d refl
  by_terms (Term.variable reader a) (Term.constant c) k d =
      fails_found s s' x y n lo hi (in_order k) h w _ _ met _ (rw (reader_constant x.places c) at d) refl
  by_terms (Term.variable reader a) (Term.compound l f ts) k d = fails_found s s' x y n lo hi (in_order k) h w _ _ met _ d refl
  by_terms (Term.constant c) (Term.variable writer z) k d =
      goal_given s s' x y n lo hi (in_order k) h w _ _ met _ z (rw (row_constant (item x y) c) at d) (against_room k) k.goal.of.within k.head k.head_word refl
  by_terms (Term.constant c) (Term.variable reader z) k d =
      waits_found s s' x y n lo hi (in_order k) h w _ _ met _ z (rw (row_constant (item x y) c) at d) (against_room k) k.goal.of.within refl
  by_terms (Term.constant c) (Term.constant e) k d =
      equal_found s s' x y n lo hi (in_order k) h w _ _ met _ (same_constant c e)
      (rw (row_constant (item x y) c, constant_constant x.places e, constants_equal x.places (item x y) refl c e k.head.known k.goal.of.known k.head.ranged k.goal.of.ranged) at d)
      refl
  by_terms (Term.constant c) (Term.compound l f ts) k d =
      equal_found s s' x y n lo hi (in_order k) h w _ _ met _ false
      (rw (row_constant (item x y) c, constant_no_compound (item x y) c (x.places.compound l)) at d) refl
  by_terms (Term.compound m g us) (Term.variable writer z) k d =
      goal_given s s' x y n lo hi (in_order k) h w _ _ met _ z d (against_room k) k.goal.of.within k.head k.head_word refl
  by_terms (Term.compound m g us) (Term.variable reader z) k d = waits_found s s' x y n lo hi (in_order k) h w _ _ met _ z d (against_room k) k.goal.of.within refl
  by_terms (Term.compound m g us) (Term.constant c) k d =
      fails_found s s' x y n lo hi (in_order k) h w _ _ met _ (rw (compound_constant x.places c) at d) refl
  by_terms (Term.compound m g us) (Term.compound l f ts) k d = below_found s s' x y n lo hi h w m g us l f ts met _ d

-- What the code's row has done is what the table says.
pub table_found : (s s' : List ℕ) (x : Setting) (y : Template) (from links lo hi n h w : ℕ) (look : Term → Term) (met : PlaceResult) (t u : Term)
    → Against s x y from links lo hi t u h w n → Done s s' n h w (row (eqb h w) (seen h) (seen w)) met
    → Found s s' x y n lo hi (place look (renamed (length x.values) x.compounds t) u) t u met
table_found s s' x y from links lo hi n h w look met t u k d =
    let same : row (eqb h w) (seen h) (seen w) ≡ RowOf x y t u =
    rw (seen_term (item x y) t h k.head_word, seen_term x.places u w k.goal_word, k.head_word, k.goal_word)
    in
    by_terms s s' x y from links lo hi n h w look met t u k (rw same at d)

-- What the code's table asks: a head's writer is one of the clause's pairs.
pub table_asks : (s : List ℕ) (x : Setting) (y : Template) (from links lo hi n h w : ℕ) (t u : Term) → Against s x y from links lo hi t u h w n
    → (woken_part ≤ length s) × (n < 192) × ((a : ℕ) → seen h ≡ Writer a → a < 16)
unfolding Within
table_asks s x y from links lo hi n h w t u k = (k.trial.large, against_room k, λ a e. go t k (seen_writer (item x y) t h a k.head_word e))
  where
    go : {a : ℕ} (t : Term) → Against s x y from links lo hi t u h w n → (m : ℕ) × (t ≡ Term.variable writer m) × (a ≡ (item x y).pair m) → a < 16
    go t k (m, e, b) =
        let within : Within y.pairs y.compounds (Term.variable writer m) = rw e at k.head.within in
        omega (arith, within, b, k.trial.pairs)
