-- Following a term of the unit: each term found is a term of the unit again, has the same end and is nearer to it.
use Prim.Native.Nat.{ℕ, suc, ◌+◌, ◌-◌, ◌*◌, ◌<◌}
use mathlib.Core.Path.{◌≡◌, refl, ◌∙◌, sym, ap}
use mathlib.Core.Logic.{◌≢◌, ◌⊎◌, inl, inr}
use mathlib.Core.List.{List}
use mathlib.Core.Option.{Option, none, some}
use native.Mathlib.Omega.{arith}
use lib.ListN.{length, get_or}
use Rattle.meaning.specs.Terms.{Half, writer, reader, Term}
use Rattle.meaning.specs.State.{value}
use Rattle.meaning.specs.Compare.{followed}
use Rattle.term.specs.Chains.{value_of, Leads, end_place}
use Rattle.term.specs.Holds.{value_word}
use Rattle.term.specs.Setting.{Setting, Within}
use Rattle.term.specs.declared.word.View.TheVariants.{Writer, Reader}
use Rattle.term.proofs.Cells.{word_positive}
use Rattle.term.proofs.Chains.{followed_none, same_end, nearer}
use Rattle.term.specs.Layout.{ends_after}
use Rattle.run_chains.specs.Follow.{Reads, FollowedTo, PairAt, Onward}
use Rattle.run_table.proofs.Seen.{seen, seen_term, seen_writer, seen_reader}

module _ (s : List ℕ) (x : Setting) (from links : ℕ) where
  -- A pair's words stand in the scratch.
  pub pair_inside : (n p : ℕ) → PairAt s x from links n p → from + ends_after * links + p < length s
  pair_inside n p a =
      omega (arith, a.chained.ends.inside, a.chained.links_are, a.chained.stands.held.place n a.inside, a.place)

  -- A pair leads to its value, if it has one.
  module _ (n p v : ℕ) (h : Half) (a : PairAt s x from links n p) (e : v ≡ get_or s (from + p) 0) where
    value_here : v ≡ value_word x.places (value x.values n)
    value_here = e ∙ ap (λ m. get_or s (from + m) 0) a.place ∙ a.chained.stands.held.stands n a.inside

    pub none_ahead : v ≡ 0 → value_of x.values (Term.variable h n) ≡ none
    none_ahead z = by (value x.values n) value_here
      where
        by : (o : Option Term) → v ≡ value_word x.places o → o ≡ none
        by none f = refl
        by (some u) f = absurd (omega (arith, word_positive x.places u))

    pub value_ahead : v ≢ 0 → Onward s x from links (Term.variable h n) v
    unfolding Leads
    value_ahead d = by (value x.values n) refl value_here
      where
        by : (o : Option Term) → value x.values n ≡ o → v ≡ value_word x.places o → Onward s x from links (Term.variable h n) v
        by none q f = absurd (d f)
        by (some u) q f = record {
          next = u;
          over = 1;
          more = omega arith;
          leads = (u, q, refl);
          reads = record {
            chained = a.chained;
            term = record { held = rw q at (a.chained.stands.held.held n a.inside); of = a.chained.stands.of n u a.inside q };
            word = f;
          };
        }

  -- It leads to the end that is kept of it.
  pub end_ahead : (n p e : ℕ) (h : Half) → PairAt s x from links n p → e ≡ get_or s (from + ends_after * links + p) 0 → e ≢ 0
      → Onward s x from links (Term.variable h n) e
  unfolding Leads
  end_ahead n p e h a f d =
      let same : from + ends_after * links + p ≡ end_place x from n = omega (arith, a.chained.links_are, a.place) in
      let word : e ≡ get_or s (end_place x from n) 0 = f ∙ ap (λ m. get_or s m 0) same in
      let k = a.chained.ends.kept n a.inside (λ z. d (word ∙ z)) in record {
        next = k.last;
        over = suc k.links;
        more = omega arith;
        leads = (k.first, k.assigned, k.leads);
        reads = record { chained = a.chained; term = k.term; word = word ∙ k.word };
      }

  -- What a look at the word of a variable, or of another term, says.
  pair_at : (n w p : ℕ) (h : Half) → Reads s x from links (Term.variable h n) w → p ≡ x.places.pair n → PairAt s x from links n p
  unfolding Within
  pair_at n w p h r e = record { chained = r.chained; inside = r.term.of.within; place = e }

  writer_pair : (t : Term) (w p : ℕ) → Reads s x from links t w → seen w ≡ Writer p
      → (n : ℕ) × (t ≡ Term.variable writer n) × PairAt s x from links n p
  writer_pair t w p r e = go (seen_writer x.places t w p r.word e)
    where
      go : (n : ℕ) × (t ≡ Term.variable writer n) × (p ≡ x.places.pair n) → (n : ℕ) × (t ≡ Term.variable writer n) × PairAt s x from links n p
      go (n, a, b) = (n, a, pair_at n w p writer (rw a at r) b)

  reader_pair : (t : Term) (w p : ℕ) → Reads s x from links t w → seen w ≡ Reader p
      → (n : ℕ) × (t ≡ Term.variable reader n) × PairAt s x from links n p
  reader_pair t w p r e = go (seen_reader x.places t w p r.word e)
    where
      go : (n : ℕ) × (t ≡ Term.variable reader n) × (p ≡ x.places.pair n) → (n : ℕ) × (t ≡ Term.variable reader n) × PairAt s x from links n p
      go (n, a, b) = (n, a, pair_at n w p reader (rw a at r) b)

  pub variable_pair : (t : Term) (w p : ℕ) → Reads s x from links t w → (seen w ≡ Writer p) ⊎ (seen w ≡ Reader p)
      → (h : Half) × (n : ℕ) × (t ≡ Term.variable h n) × PairAt s x from links n p
  variable_pair t w p r (inl e) = let (n, a, b) = writer_pair t w p r e in (writer, n, a, b)
  variable_pair t w p r (inr e) = let (n, a, b) = reader_pair t w p r e in (reader, n, a, b)

  pub other_ahead : (t : Term) (w : ℕ) → Reads s x from links t w → ((p : ℕ) → seen w ≡ Writer p → ⊥) → ((p : ℕ) → seen w ≡ Reader p → ⊥)
      → value_of x.values t ≡ none
  other_ahead (Term.variable writer n) w r a b = absurd (a (x.places.pair n) (seen_term x.places (Term.variable writer n) w r.word))
  other_ahead (Term.variable reader n) w r a b = absurd (b (x.places.pair n) (seen_term x.places (Term.variable reader n) w r.word))
  other_ahead (Term.constant c) w r a b = refl
  other_ahead (Term.compound n f ts) w r a b = refl

-- So far: the term at hand, of the word w, has the end of the whole term t, within the links that are left.
pub record Passed (s : List ℕ) (x : Setting) (from links left : ℕ) (t : Term) (w : ℕ) : Type 0 where
  pub term : Term
  pub reads : Reads s x from links term w
  pub near : value_of x.values (followed left x.values term) ≡ none
  pub same : followed links x.values term ≡ followed links x.values t

module _ (s : List ℕ) (x : Setting) (from links : ℕ) where
  all_end : (t : Term) (w : ℕ) → Reads s x from links t w → (u : Term) → value_of x.values (followed links x.values u) ≡ none
  all_end t w r u = rw r.chained.links_are (r.chained.ends.ended u)

  pub start_passed : (t : Term) (w : ℕ) → Reads s x from links t w → Passed s x from links links t w
  start_passed t w r = record { term = t; reads = r; near = all_end t w r t; same = refl }

  pub pass_on : (left : ℕ) (t : Term) (w v : ℕ) (p : Passed s x from links left t w) → Onward s x from links p.term v
      → Passed s x from links (left - 1) t v
  pass_on left t w v p g = record {
    term = g.next;
    reads = g.reads;
    near = nearer x.values g.over left p.term g.next g.more g.leads p.near;
    same = same_end x.values g.over links p.term g.next g.leads (all_end p.term w p.reads p.term) ∙ p.same;
  }

  pub passed_all : (left : ℕ) (t : Term) (w : ℕ) (p : Passed s x from links left t w) → value_of x.values p.term ≡ none
      → FollowedTo s x from links t w
  passed_all left t w p e =
      let same : p.term ≡ followed links x.values t = sym (followed_none x.values links p.term e) ∙ p.same in
      rw same at p.reads

  pub pass_end : (left : ℕ) (t : Term) (w : ℕ) → Passed s x from links left t w → left ≡ 0 → FollowedTo s x from links t w
  unfolding followed
  pass_end left t w p z = passed_all left t w p (rw z at p.near)
