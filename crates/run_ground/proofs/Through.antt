-- A walk through the arguments of a compound of the clause: from left to right, each a compound again or a leaf; their depth falls.
use Prim.Native.Nat.{ℕ, ◌+◌, ◌%◌, ◌≤◌, ◌<◌}
use mathlib.Core.Path.{◌≡◌, refl, ap, ◌∙◌}
use mathlib.Core.Logic.{⊎_elim}
use mathlib.Core.Bool.{Bool}
use mathlib.Core.List.{List}
use native.Mathlib.Omega.{arith}
use lib.ListN.{length, get_or}
use Rattle.meaning.specs.Terms.{writer, reader, integer, name, empty, Functor, Term, Terms, variable, constant, compound, end, more, count, replaced, all_replaced}
use Rattle.meaning.specs.Guards.{variables, all_variables}
use Rattle.term.specs.Cells.{Places, term_word}
use Rattle.term.specs.Holds.{Holds, HoldsFrom}
use Rattle.term.specs.Setting.{Within, AllWithin}
use Rattle.term.specs.Words.{tag_in, rest_in}
use Rattle.term.proofs.Holds.{holds_from_alike}
use Rattle.term.proofs.Units.{all_within_every}
use Rattle.run_compare.specs.Compare.{item}
use Rattle.run_circle.proofs.Depth.{depth, depths, height, highest, heights_are, shallow}
use Rattle.run_ground.specs.Seeking.{together}
use Rattle.run_ground.specs.Looking.{Scene, Clause, leaf_result, args_result, Placed, Looking, Found, Asked, AllLooked, Leaf, Args}
use Rattle.run_ground.proofs.Found.{found_as, found_nothing, ended_decides, pending_then, looking_on, looked_on, goes, found_then}
use Rattle.run_ground.proofs.Results.{or_some_true}
use Rattle.run_ground.proofs.Words.{word_kept}

-- What falls: the depth of the k arguments of the compound at place q.
abbrev pub args_weight : List ℕ → ℕ → ℕ → ℕ
args_weight s q k = highest (height (length s) s) s (q + 1) k

all_shallow : (s : List ℕ) (places : Places) (n i : ℕ) (ts : Terms) → HoldsFrom s places n i ts → depths ts ≤ length s
unfolding HoldsFrom depths
all_shallow s places n i end held = omega arith
all_shallow s places n i (more t ts) held = omega (arith, shallow s places t held.1, all_shallow s places n (i + 1) ts held.2)

-- A compound of the clause stands before the marks.
pub item_before : (x : Scene) (y : Clause) (values marks stamp : ℕ) (s : List ℕ) → Asked x y values → Placed s x values marks stamp → (n : ℕ)
    → n < y.template.compounds → (item x.unit y.template).compound n + 8 ≤ marks
item_before x y values marks stamp s asked h n low =
    omega (arith, asked.number, asked.few_compounds, asked.behind, h.shown.marks_behind)

module _ (values marks links stamp : ℕ) (s : List ℕ) (q k state : ℕ) where
  abbrev pub ArgsAsks : Type 0
  ArgsAsks = (x : Scene) × (y : Clause) × (m : ℕ) × (p : Bool) × (ts : Terms) × Args s x y values marks links stamp state m p q k ts

  abbrev pub ArgsTells : List ℕ → ℕ → Type 0
  ArgsTells s' r = (x : Scene) (y : Clause) (m : ℕ) (p : Bool) (ts : Terms) → Args s x y values marks links stamp state m p q k ts
      → Found s s' x marks links stamp m p (args_result x y ts) r

  -- Their weight is their depth.
  pub weight_is : (x : Scene) (y : Clause) (m : ℕ) (p : Bool) (ts : Terms) → Args s x y values marks links stamp state m p q k ts
      → args_weight s q k ≡ depths ts
  weight_is x y m p ts b =
      let places = item x.unit y.template in
      let before = item_before x y values marks stamp s b.asked b.looking.placed in
      let here : HoldsFrom s places b.number 0 ts =
      holds_from_alike x.base s places (λ n. n < y.template.compounds) (omega (arith, b.looking.placed.only.size))
      (λ n low j from to. word_kept x values marks stamp s b.looking.placed j (omega (arith, before n low)))
      b.number 0 ts (λ j from to. word_kept x values marks stamp s b.looking.placed j (omega (arith, before b.number b.low)))
      (omega (arith, b.counted, b.few)) (all_within_every y.template.pairs y.template.compounds ts b.within) b.held in
      let at : q + 1 ≡ places.compound b.number + 1 + 0 = omega (arith, b.place) in
      rw (at, b.counted) (heights_are s places (length s) b.number 0 ts here (all_shallow s places b.number 0 ts here))

-- Before the i-th of the k arguments: those that are left.
pub record Passed (s₀ s : List ℕ) (x : Scene) (y : Clause) (values marks links stamp m₀ : ℕ) (p₀ : Bool) (n k : ℕ) (ts : Terms) (i state : ℕ) : Type 0 where
  pub size : ℕ
  pub pending : Bool
  pub looking : Looking s x values marks links stamp state size pending
  pub looked : AllLooked s x marks links stamp size pending
  pub passed : ℕ
  pub terms : Terms
  pub index : i ≡ passed + 1
  pub total : i + count terms ≡ k + 1
  pub held : HoldsFrom x.base (item x.unit y.template) n passed terms
  pub within : AllWithin y.template.pairs y.template.compounds terms
  pub lower : depths terms ≤ depths ts
  pub answer : (s' : List ℕ) (r : ℕ) → Found s s' x marks links stamp size pending (args_result x y terms) r
      → Found s₀ s' x marks links stamp m₀ p₀ (args_result x y ts) r

-- The i-th argument, with the word a, and those behind it.
pub record NextOf (x : Scene) (y : Clause) (a n i : ℕ) (ts : Terms) : Type 0 where
  pub term : Term
  pub others : Terms
  pub is : ts ≡ more term others
  pub word : a ≡ term_word (item x.unit y.template) term
  pub held : Holds x.base (item x.unit y.template) term
  pub within : Within y.template.pairs y.template.compounds term
  pub others_held : HoldsFrom x.base (item x.unit y.template) n (i + 1) others
  pub others_within : AllWithin y.template.pairs y.template.compounds others

next_of : (x : Scene) (y : Clause) (a n i : ℕ) (ts : Terms) → HoldsFrom x.base (item x.unit y.template) n i ts
    → AllWithin y.template.pairs y.template.compounds ts → 0 < count ts → a ≡ get_or x.base ((item x.unit y.template).compound n + 1 + i) 0
    → NextOf x y a n i ts
unfolding count HoldsFrom AllWithin
next_of x y a n i end held within some_left reads = absurd (omega arith)
next_of x y a n i (more t ts) held within some_left reads = record {
  term = t;
  others = ts;
  is = refl;
  word = reads ∙ held.0;
  held = held.1;
  within = within.0;
  others_held = held.2;
  others_within = within.1;
}

-- A compound among them.
pub record ItsCompound (x : Scene) (y : Clause) (a : ℕ) (t : Term) : Type 0 where
  pub number : ℕ
  pub functor : Functor
  pub terms : Terms
  pub is : t ≡ compound number functor terms
  pub place : rest_in a ≡ (item x.unit y.template).compound number
  pub low : number < y.template.compounds
  pub few : count terms ≤ 6
  pub counted : tag_in (get_or x.base (rest_in a) 0) ≡ count terms
  pub held : HoldsFrom x.base (item x.unit y.template) number 0 terms
  pub within : AllWithin y.template.pairs y.template.compounds terms

its_compound : (x : Scene) (y : Clause) (a : ℕ) (t : Term) → a ≡ term_word (item x.unit y.template) t → Holds x.base (item x.unit y.template) t
    → Within y.template.pairs y.template.compounds t → tag_in a ≡ 6 → ItsCompound x y a t
unfolding Holds Within
its_compound x y a (variable writer n) word held within six = absurd (omega arith)
its_compound x y a (variable reader n) word held within six = absurd (omega arith)
its_compound x y a (constant (integer i)) word held within six = absurd (omega arith)
its_compound x y a (constant (name f)) word held within six = absurd (omega arith)
its_compound x y a (constant empty) word held within six = absurd (omega arith)
its_compound x y a (compound n f ts) word held within six =
    let at : rest_in a ≡ (item x.unit y.template).compound n = omega arith in
    record {
      number = n;
      functor = f;
      terms = ts;
      is = refl;
      place = at;
      low = within.0;
      few = held.0.few;
      counted = rw at (omega (arith, held.0.functor, held.0.few));
      held = held.1;
      within = within.1;
    }

module _ (values marks links stamp : ℕ) (s₀ : List ℕ) (q k state₀ : ℕ) where
  abbrev pub Passing : List ℕ → ℕ → ℕ → Type 0
  Passing s i state = (x : Scene) (y : Clause) (m : ℕ) (p : Bool) (ts : Terms) (b : Args s₀ x y values marks links stamp state₀ m p q k ts)
      → Passed s₀ s x y values marks links stamp m p b.number k ts i state

  pub passing_first : Passing s₀ 1 state₀
  passing_first x y m p ts b = record {
    size = m;
    pending = p;
    looking = b.looking;
    looked = b.looked;
    passed = 0;
    terms = ts;
    index = refl;
    total = omega (arith, b.counted);
    held = b.held;
    within = b.within;
    lower = omega arith;
    answer = λ s' r f. f;
  }

  pub args_few : ArgsAsks values marks links stamp s₀ q k state₀ → k ≤ 6
  args_few (x, y, m, p, ts, b) = b.few

  module _ (s : List ℕ) (i state : ℕ) (passing : Passing s i state) where
    -- None is left.
    pub passing_last : k < i → ArgsTells values marks links stamp s₀ q k state₀ s state
    unfolding count all_variables all_replaced
    passing_last done x y m p ts b = go c.terms refl
      where
        c : Passed s₀ s x y values marks links stamp m p b.number k ts i state
        c = passing x y m p ts b

        go : (us : Terms) → c.terms ≡ us → Found s₀ s x marks links stamp m p (args_result x y ts) state
        go end e =
            c.answer s state
            (found_nothing x marks links stamp values state c.size c.pending s c.looking (args_result x y c.terms) (ap (args_result x y) e))
        go (more u us) e = absurd (omega (arith, c.total, ap count e))

    module _ (le : i ≤ k) where
      pub args_at : ArgsAsks values marks links stamp s₀ q k state₀ → q + i < length s
      args_at (x, y, m, p, ts, b) =
          let c = passing x y m p ts b in
          omega (
            arith,
            b.few,
            b.place,
            item_before x y values marks stamp s b.asked c.looking.placed b.number b.low,
            c.looking.placed.shown.inside,
            c.looking.placed.only.size,
          )

      module _ (a : ℕ) (reads : a ≡ get_or s (q + i) 0) where
        pub next : (x : Scene) (y : Clause) (m : ℕ) (p : Bool) (ts : Terms) (b : Args s₀ x y values marks links stamp state₀ m p q k ts)
            → NextOf x y a b.number (passing x y m p ts b).passed (passing x y m p ts b).terms
        next x y m p ts b =
            let c = passing x y m p ts b in
            let place : q + i ≡ (item x.unit y.template).compound b.number + 1 + c.passed = omega (arith, b.place, c.index) in
            next_of x y a b.number c.passed c.terms c.held c.within (omega (arith, c.total))
            (reads ∙ word_kept x values marks stamp s c.looking.placed (q + i)
            (omega (arith, b.few, b.place, item_before x y values marks stamp s b.asked c.looking.placed b.number b.low))
            ∙ ap (λ j. get_or x.base j 0) place)

        -- It was walked.
        abbrev pub NextTells : List ℕ → ℕ → Type 0
        NextTells s' r = (x : Scene) (y : Clause) (m : ℕ) (p : Bool) (ts : Terms) (b : Args s₀ x y values marks links stamp state₀ m p q k ts)
            → Found s s' x marks links stamp (passing x y m p ts b).size (passing x y m p ts b).pending (leaf_result x y (next x y m p ts b).term) r

        results_are : (x : Scene) (y : Clause) (m : ℕ) (p : Bool) (ts : Terms) (b : Args s₀ x y values marks links stamp state₀ m p q k ts)
            → args_result x y (passing x y m p ts b).terms
            ≡ together x.first (leaf_result x y (next x y m p ts b).term) (args_result x y (next x y m p ts b).others)
        unfolding all_variables all_replaced
        results_are x y m p ts b = ap (args_result x y) (next x y m p ts b).is

        module _ (s' : List ℕ) (r : ℕ) (tell : NextTells s' r) where
          pub passing_ended : r % 4 ≡ 3 → ArgsTells values marks links stamp s₀ q k state₀ s' r
          passing_ended e x y m p ts b =
              let c = passing x y m p ts b in
              let n = next x y m p ts b in
              let f = tell x y m p ts b in
              c.answer s' r
              (found_as x marks links stamp s s' c.size c.pending (leaf_result x y n.term) r f (args_result x y c.terms)
              (results_are x y m p ts b
              ∙ ended_decides x marks links stamp s s' c.size c.pending (leaf_result x y n.term) r f c.looking.goes_on e (args_result x y n.others)))

          pub passing_next : (r % 4 ≡ 3 → ⊥) → Passing s' (i + 1) r
          unfolding count depths
          passing_next d x y m p ts b =
              let c = passing x y m p ts b in
              let n = next x y m p ts b in
              let f = tell x y m p ts b in
              let g = goes x marks links stamp s s' c.size c.pending (leaf_result x y n.term) r f d in
              record {
                size = f.size;
                pending = pending_then x marks links stamp s s' c.size c.pending (leaf_result x y n.term) r f d;
                looking = looking_on x marks links stamp s s' c.size c.pending (leaf_result x y n.term) r f d values state c.looking;
                looked = λ j l e. ⊎_elim
                    (λ was. looked_on x marks links stamp s s' c.size f.size c.pending
                    (pending_then x marks links stamp s s' c.size c.pending (leaf_result x y n.term) r f d) f.pairs j f.joined
                    (or_some_true c.pending g.readers) (c.looked j l was))
                    (λ k. k) (g.new j l e);
                passed = c.passed + 1;
                terms = n.others;
                index = omega (arith, c.index);
                total = omega (arith, c.total, ap count n.is);
                held = n.others_held;
                within = n.others_within;
                lower = let deep : depths c.terms ≡ depths (more n.term n.others) = ap depths n.is in omega (arith, c.lower);
                answer = λ s'' r' h. c.answer s'' r'
                    (found_as x marks links stamp s s'' c.size c.pending (together x.first (leaf_result x y n.term) (args_result x y n.others)) r'
                    (found_then x marks links stamp s s' c.size c.pending (leaf_result x y n.term) r f d s'' (args_result x y n.others) r' h)
                    (args_result x y c.terms) (results_are x y m p ts b));
              }

        -- It is a leaf.
        module _ (six : tag_in a ≡ 6 → ⊥) where
          leaf : (x : Scene) (y : Clause) (m : ℕ) (p : Bool) (ts : Terms) (b : Args s₀ x y values marks links stamp state₀ m p q k ts)
              → Leaf s x y values marks links stamp state (passing x y m p ts b).size (passing x y m p ts b).pending a (next x y m p ts b).term
          leaf x y m p ts b =
              let c = passing x y m p ts b in
              let n = next x y m p ts b in
              record { looking = c.looking; asked = b.asked; looked = c.looked; word = n.word; within = n.within; leaf = six }

          pub leaf_asks : ArgsAsks values marks links stamp s₀ q k state₀
              → (x : Scene) × (y : Clause) × (m : ℕ) × (p : Bool) × (t : Term) × Leaf s x y values marks links stamp state m p a t
          leaf_asks (x, y, m, p, ts, b) = (x, y, _, _, _, leaf x y m p ts b)

          pub leaf_tells : (s' : List ℕ) (r : ℕ) → ((x : Scene) (y : Clause) (m : ℕ) (p : Bool) (t : Term) → Leaf s x y values marks links stamp state m p a t
              → Found s s' x marks links stamp m p (leaf_result x y t) r) → NextTells s' r
          leaf_tells s' r tell x y m p ts b = tell x y _ _ _ (leaf x y m p ts b)

        -- It is a compound.
        module _ (six : tag_in a ≡ 6) (q' : ℕ) (at : q' ≡ rest_in a) where
          its : (x : Scene) (y : Clause) (m : ℕ) (p : Bool) (ts : Terms) (b : Args s₀ x y values marks links stamp state₀ m p q k ts)
              → ItsCompound x y a (next x y m p ts b).term
          its x y m p ts b = let n = next x y m p ts b in its_compound x y a n.term n.word n.held n.within six

          before : (x : Scene) (y : Clause) (m : ℕ) (p : Bool) (ts : Terms) (b : Args s₀ x y values marks links stamp state₀ m p q k ts) → q' + 8 ≤ marks
          before x y m p ts b =
              let u = its x y m p ts b in
              omega (arith, u.place, item_before x y values marks stamp s b.asked (passing x y m p ts b).looking.placed u.number u.low)

          pub inner_at : ArgsAsks values marks links stamp s₀ q k state₀ → q' < length s
          inner_at (x, y, m, p, ts, b) =
              let c = passing x y m p ts b in
              omega (arith, before x y m p ts b, c.looking.placed.shown.inside, c.looking.placed.only.size)

          module _ (k' : ℕ) (counted : k' ≡ tag_in (get_or s q' 0)) where
            inner : (x : Scene) (y : Clause) (m : ℕ) (p : Bool) (ts : Terms) (b : Args s₀ x y values marks links stamp state₀ m p q k ts)
                → Args s x y values marks links stamp state (passing x y m p ts b).size (passing x y m p ts b).pending q' k' (its x y m p ts b).terms
            inner x y m p ts b =
                let c = passing x y m p ts b in
                let u = its x y m p ts b in
                let same : get_or s q' 0 ≡ get_or x.base (rest_in a) 0 =
                word_kept x values marks stamp s c.looking.placed q' (omega (arith, before x y m p ts b)) ∙ ap (λ j. get_or x.base j 0) at in
                let is : k' ≡ count u.terms = counted ∙ ap (λ j. tag_in j) same ∙ u.counted in
                record {
                  looking = c.looking;
                  asked = b.asked;
                  looked = c.looked;
                  number = u.number;
                  place = at ∙ u.place;
                  low = u.low;
                  held = u.held;
                  within = u.within;
                  counted = is;
                  few = omega (arith, u.few);
                }

            pub inner_asks : ArgsAsks values marks links stamp s₀ q k state₀ → ArgsAsks values marks links stamp s q' k' state
            inner_asks (x, y, m, p, ts, b) = (x, y, _, _, _, inner x y m p ts b)

            pub inner_lighter : ArgsAsks values marks links stamp s₀ q k state₀ → args_weight s q' k' < args_weight s₀ q k
            unfolding depth depths
            inner_lighter (x, y, m, p, ts, b) =
                let c = passing x y m p ts b in
                let n = next x y m p ts b in
                let u = its x y m p ts b in
                let outer = weight_is values marks links stamp s₀ q k state₀ x y m p ts b in
                let deep = weight_is values marks links stamp s q' k' state x y c.size c.pending u.terms (inner x y m p ts b) in
                let one : depths c.terms ≡ depths (more n.term n.others) = ap depths n.is in
                let two : depth n.term ≡ depth (compound u.number u.functor u.terms) = ap depth u.is in
                omega (arith, outer, deep, c.lower)

            pub inner_tells : (s' : List ℕ) (r : ℕ) → ArgsTells values marks links stamp s q' k' state s' r → NextTells s' r
            unfolding variables replaced
            inner_tells s' r tell x y m p ts b =
                let c = passing x y m p ts b in
                let u = its x y m p ts b in
                found_as x marks links stamp s s' c.size c.pending (args_result x y u.terms) r (tell x y _ _ _ (inner x y m p ts b))
                (leaf_result x y (next x y m p ts b).term) (ap (leaf_result x y) u.is)
