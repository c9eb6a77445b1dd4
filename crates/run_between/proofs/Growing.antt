-- A unit that grows: its older pairs and compounds lie where they lay, so its terms keep their words and stay held, and so do its values.
use Prim.Native.Nat.{ℕ, ◌+◌, ◌≤◌, ◌<◌}
use mathlib.Core.Path.{◌≡◌, refl, ap, sym, ◌∙◌}
use mathlib.Core.List.{List}
use mathlib.Core.Option.{Option, none, some}
use native.Mathlib.Omega.{arith}
use lib.ListN.{length, get_or}
use Rattle.meaning.specs.Terms.{writer, reader, Constant, Functor, cell, named, Term, Terms, variable, constant, compound, end, more, count}
use Rattle.meaning.specs.State.{value}
use Rattle.term.specs.Cells.{Places, term_word, functor_word, number_of}
use Rattle.term.specs.Holds.{Holds, HoldsFrom, HoldsValue, value_word}
use Rattle.term.specs.Setting.{Setting, Within, AllWithin, OfUnit, UnitTerm, UnitStands}
use Rattle.term.proofs.Holds.{holds_alike}
use Rattle.term.proofs.Units.{within_every}
use Rattle.term.specs.Words.{writer_word, reader_word, name_word, compound_word, packed}

-- Wider bounds.
mutual
  unfolding Within AllWithin

  pub within_wider : (p c p' c' : ℕ) (t : Term) → p ≤ p' → c ≤ c' → Within p c t → Within p' c' t
  within_wider p c p' c' (variable h n) a b w = omega arith
  within_wider p c p' c' (constant k) a b w = tt
  within_wider p c p' c' (compound n f ts) a b w = (omega arith, all_within_wider p c p' c' ts a b w.1)

  all_within_wider : (p c p' c' : ℕ) (ts : Terms) → p ≤ p' → c ≤ c' → AllWithin p c ts → AllWithin p' c' ts
  all_within_wider p c p' c' end a b w = tt
  all_within_wider p c p' c' (more t ts) a b w = (within_wider p c p' c' t a b w.0, all_within_wider p c p' c' ts a b w.1)

-- Two places that agree on the pairs below p and the compounds below c.
pub record AgreeBelow (p c : ℕ) (places places' : Places) : Type 0 where
  pub names : places'.names ≡ places.names
  pub pair : (n : ℕ) → n < p → places'.pair n ≡ places.pair n
  pub compound : (n : ℕ) → n < c → places'.compound n ≡ places.compound n
  pub width : (n : ℕ) → n < c → places'.width n ≡ places.width n

pub agree_same : (p c : ℕ) (places : Places) → AgreeBelow p c places places
agree_same p c places = record { names = refl; pair = λ n h. refl; compound = λ n h. refl; width = λ n h. refl }

-- They agree on the words of older terms, and on what it is to hold them.
module _ (p c : ℕ) (places places' : Places) (same : AgreeBelow p c places places') where
  constant_word : (k : Constant) → term_word places' (constant k) ≡ term_word places (constant k)
  constant_word (Constant.integer i) = refl
  constant_word (Constant.name f) = ap (λ names. name_word (number_of f names)) same.names
  constant_word Constant.empty = refl

  functor_same : (f : Functor) (k : ℕ) → functor_word places' f k ≡ functor_word places f k
  functor_same cell k = refl
  functor_same (named f) k = ap (λ names. packed k (number_of f names + 1)) same.names

  pub word_agrees : (t : Term) → Within p c t → term_word places' t ≡ term_word places t
  unfolding Within
  word_agrees (variable writer n) h = ap (λ x. writer_word x) (same.pair n h)
  word_agrees (variable reader n) h = ap (λ x. reader_word x) (same.pair n h)
  word_agrees (constant k) h = constant_word k
  word_agrees (compound n f ts) h = ap (λ x. compound_word x) (same.compound n h.0)

  module _ (s : List ℕ) where
    mutual
      unfolding Within AllWithin Holds HoldsFrom

      pub held_agrees : (t : Term) → Within p c t → Holds s places t → Holds s places' t
      held_agrees (variable h n) o d = tt
      held_agrees (constant k) o d = tt
      held_agrees (compound n f ts) o d =
          let e = same.compound n o.0 in (
            record {
              inside = omega (arith, d.0.inside);
              few = d.0.few;
              wide = omega (arith, d.0.wide, same.width n o.0);
              functor = ap (λ x. get_or s x 0) e ∙ d.0.functor ∙ sym (functor_same f (count ts));
            },
            held_from_agrees n 0 ts o.0 o.1 d.1,
          )

      held_from_agrees : (n i : ℕ) (ts : Terms) → n < c → AllWithin p c ts → HoldsFrom s places n i ts → HoldsFrom s places' n i ts
      held_from_agrees n i end b o d = tt
      held_from_agrees n i (more t ts) b o d = (
        ap (λ x. get_or s (x + 1 + i) 0) (same.compound n b) ∙ d.0 ∙ sym (word_agrees t o.0),
        held_agrees t o.0 d.1,
        held_from_agrees n (i + 1) ts b o.1 d.2,
      )

-- From one unit to the next: the older pairs and compounds in place, and the words of the older compounds as they were.
pub record Grown (s s' : List ℕ) (x x' : Setting) : Type 0 where
  pub agree : AgreeBelow (length x.values) x.compounds x.places x'.places
  pub more_pairs : length x.values ≤ length x'.values
  pub more_compounds : x.compounds ≤ x'.compounds
  pub room : x.pairs ≡ x'.pairs
  pub size : length s ≤ length s'
  pub words : (n : ℕ) → n < x.compounds → (k : ℕ) → x.places.compound n ≤ k → k < x.places.compound n + x.places.width n → get_or s' k 0 ≡ get_or s k 0

abbrev pub OfValue : Setting → Option Term → Type 0
OfValue x none = Unit {0}
OfValue x (some t) = OfUnit x t

-- What stands of one pair.
pub record PairStands (s : List ℕ) (x : Setting) (from n : ℕ) (v : Option Term) : Type 0 where
  pub place : x.places.pair n < x.pairs
  pub stands : get_or s (from + x.places.pair n) 0 ≡ value_word x.places v
  pub held : HoldsValue s x.places v
  pub of : OfValue x v

of_value : (s : List ℕ) (x : Setting) (from n : ℕ) → UnitStands s x from → n < length x.values → (v : Option Term) → value x.values n ≡ v → OfValue x v
of_value s x from n u h none e = tt
of_value s x from n u h (some t) e = u.of n t h e

pub pair_stands : (s : List ℕ) (x : Setting) (from n : ℕ) → UnitStands s x from → n < length x.values → PairStands s x from n (value x.values n)
pair_stands s x from n u h =
    record {
      place = u.held.place n h;
      stands = u.held.stands n h;
      held = u.held.held n h;
      of = of_value s x from n u h (value x.values n) refl;
    }

pub unit_stands : (s : List ℕ) (x : Setting) (from : ℕ) → from + x.pairs ≤ length s
    → ((n : ℕ) → n < length x.values → PairStands s x from n (value x.values n)) → UnitStands s x from
unit_stands s x from inside each =
    record {
      held = record {
        inside = inside;
        place = λ n h. (each n h).place;
        stands = λ n h. (each n h).stands;
        held = λ n h. (each n h).held;
      };
      of = λ n t h e. told (value x.values n) t e (each n h).of;
    }
  where
    told : (v : Option Term) (t : Term) → v ≡ some t → OfValue x v → OfUnit x t
    told v t e o = rw e at o

module _ (s s' : List ℕ) (x x' : Setting) (g : Grown s s' x x') where
  pub of_grows : (t : Term) → OfUnit x t → OfUnit x' t
  of_grows t o =
      record {
        within = within_wider (length x.values) x.compounds (length x'.values) x'.compounds t g.more_pairs g.more_compounds o.within;
        known = rw g.agree.names o.known;
        ranged = o.ranged;
      }

  pub word_grows : (t : Term) → OfUnit x t → term_word x'.places t ≡ term_word x.places t
  word_grows t o = word_agrees (length x.values) x.compounds x.places x'.places g.agree t o.within

  pub held_grows : (t : Term) → OfUnit x t → Holds s x.places t → Holds s' x'.places t
  held_grows t o h =
      held_agrees (length x.values) x.compounds x.places x'.places g.agree s' t o.within
      (holds_alike s s' x.places (λ n. n < x.compounds) g.size g.words t
      (within_every (length x.values) x.compounds t o.within) h)

  pub term_grows : (t : Term) → UnitTerm s x t → UnitTerm s' x' t
  term_grows t u = record { held = held_grows t u.of u.held; of = of_grows t u.of }

  pub value_word_grows : (v : Option Term) → OfValue x v → value_word x.places v ≡ value_word x'.places v
  value_word_grows none o = refl
  value_word_grows (some t) o = sym (word_grows t o)

  pub value_held_grows : (v : Option Term) → OfValue x v → HoldsValue s x.places v → HoldsValue s' x'.places v
  value_held_grows none o h = tt
  value_held_grows (some t) o h = held_grows t o h

  pub value_of_grows : (v : Option Term) → OfValue x v → OfValue x' v
  value_of_grows none o = tt
  value_of_grows (some t) o = of_grows t o

  pub pair_grows : (from n : ℕ) (v : Option Term) → n < length x.values
      → get_or s' (from + x.places.pair n) 0 ≡ get_or s (from + x.places.pair n) 0 → PairStands s x from n v → PairStands s' x' from n v
  pair_grows from n v h same p =
      let e : x'.places.pair n ≡ x.places.pair n = g.agree.pair n h in
      record {
        place = omega (arith, p.place, g.room);
        stands = ap (λ z. get_or s' (from + z) 0) e ∙ same ∙ p.stands ∙ value_word_grows v p.of;
        held = value_held_grows v p.of p.held;
        of = value_of_grows v p.of;
      }
