-- What `copy`, `copy_compound` and `copy_arguments` ask of each other and tell, in the form of their contracts.
use Prim.Native.Nat.{ℕ, ◌+◌, ◌*◌, ◌≤◌, ◌<◌}
use mathlib.Core.Path.{◌≡◌}
use mathlib.Core.List.{List}
use native.Mathlib.Omega.{arith}
use lib.ListN.{length, get_or, set}
use Rattle.meaning.specs.Terms.{Functor, Term, Terms, compound}
use Rattle.term.specs.Words.{view, compound_word, tag_in, rest_in}
use Rattle.term.specs.declared.word.View.TheVariants.{Compound}
use Rattle.run_circle.proofs.Depth.{height}
use Rattle.run_effects.specs.Build.{PairFits, moved_word, Item, Original, Aside, Laid, Copied}
use Rattle.run_effects.proofs.Copying.{
  NoCompound,
  writer_few,
  reader_few,
  moved_copied,
  compound_original,
  original_put,
  laid_copied,
  height_put,
  Progress,
  there,
  room,
  number_is,
  begin,
  argument_falls,
  argument,
  again,
  ended,
}

-- What is asked for a term, for a compound with a place for its copy's word, and for a compound alone, and what is told.
abbrev pub AsksTerm : List ℕ → ℕ → ℕ → ℕ → ℕ → Type 0
AsksTerm s pair at to h = (x : Item) × (t : Term) × Original s x pair to h t × Aside s at to t

abbrev pub TellsTerm : List ℕ → ℕ → ℕ → ℕ → ℕ → List ℕ → ℕ → Type 0
TellsTerm s pair at to h s' r = (x : Item) (t : Term) → Original s x pair to h t → Aside s at to t → Copied s s' x pair at to t r

abbrev pub AsksWhole : List ℕ → ℕ → ℕ → ℕ → ℕ → Type 0
AsksWhole s pair at to p =
    (x : Item) × (n : ℕ) × (f : Functor) × (ts : Terms) × Original s x pair to (compound_word p) (compound n f ts) × Aside s at to (compound n f ts)

abbrev pub TellsWhole : List ℕ → ℕ → ℕ → ℕ → ℕ → List ℕ → ℕ → Type 0
TellsWhole s pair at to p s' r =
    (x : Item) (n : ℕ) (f : Functor) (ts : Terms) → Original s x pair to (compound_word p) (compound n f ts) → Aside s at to (compound n f ts)
    → Copied s s' x pair at to (compound n f ts) r

abbrev pub AsksCompound : List ℕ → ℕ → ℕ → ℕ → Type 0
AsksCompound s pair to p = (x : Item) × (n : ℕ) × (f : Functor) × (ts : Terms) × Original s x pair to (compound_word p) (compound n f ts)

abbrev pub TellsCompound : List ℕ → ℕ → ℕ → ℕ → List ℕ → ℕ → Type 0
TellsCompound s pair to p s' r =
    (x : Item) (n : ℕ) (f : Functor) (ts : Terms) → Original s x pair to (compound_word p) (compound n f ts) → Laid s s' x pair to (compound n f ts) r

module _ (s : List ℕ) (pair at to h : ℕ) where
  -- The copy's word has a place.
  pub term_inside : AsksTerm s pair at to h → at < length s
  term_inside (x, t, o, a) = a.inside

  -- A pair's copy is one of the pairs.
  pub pair_fits : AsksTerm s pair at to h → PairFits pair (view (tag_in h) (rest_in h))
  pair_fits (x, t, o, a) = (
    λ m e. omega (arith, writer_few s x pair to h t o m e, o.goes.pairs_fit),
    λ m e. omega (arith, reader_few s x pair to h t o m e, o.goes.pairs_fit),
  )

  -- A term that is no compound.
  pub moved_tells : NoCompound (view (tag_in h) (rest_in h)) → (w : ℕ) → w ≡ moved_word pair h (view (tag_in h) (rest_in h)) → TellsTerm s pair at to h (set s at w) to
  moved_tells k w is x t o a = rw is (moved_copied s x pair to h at t o a k)

  -- A term that is one.
  pub whole_asks : AsksTerm s pair at to h → (p : ℕ) → view (tag_in h) (rest_in h) ≡ Compound p → AsksWhole s pair at to p
  whole_asks (x, t, o, a) p e = let (n, f, ts, same, found) = compound_original s x pair to h t o p e in (x, n, f, ts, found, rw same at a)

  pub whole_tells : (p : ℕ) → view (tag_in h) (rest_in h) ≡ Compound p → (s' : List ℕ) (r : ℕ) → TellsWhole s pair at to p s' r → TellsTerm s pair at to h s' r
  whole_tells p e s' r told x t o a =
      let (n, f, ts, same, found) = compound_original s x pair to h t o p e in
      rw same (told x n f ts found (rw same at a))

module _ (s : List ℕ) (pair at to p : ℕ) where
  -- The copy's word and its compounds have places.
  pub whole_inside : AsksWhole s pair at to p → (at < length s) × (to ≤ length s)
  whole_inside (x, n, f, ts, o, a) = (a.inside, omega (arith, o.inside))

  -- From a compound with its word's place to the compound, its word put.
  pub compound_asks : AsksWhole s pair at to p → (s₁ : List ℕ) (w : ℕ) → s₁ ≡ set s at w → (most : ℕ)
      → 2 * height (length s) s (compound_word p) + 1 ≡ most → (2 * height (length s₁) s₁ (compound_word p) < most) × AsksCompound s₁ pair to p
  compound_asks (x, n, f, ts, o, a) s₁ w put most is =
      let falls : 2 * height (length (set s at w)) (set s at w) (compound_word p) < most =
      omega (arith, height_put s x pair to (compound_word p) at w (compound n f ts) o a.behind) in
      rw put (falls, (x, n, f, ts, original_put s x pair to (compound_word p) at w (compound n f ts) o a.behind))

  pub compound_tells : (s₁ s₂ : List ℕ) (w r : ℕ) → s₁ ≡ set s at w → w ≡ compound_word to → TellsCompound s₁ pair to p s₂ r → TellsWhole s pair at to p s₂ r
  compound_tells s₁ s₂ w r put is told x n f ts o a =
      let there : Original s₁ x pair to (compound_word p) (compound n f ts) =
      rw put (original_put s x pair to (compound_word p) at w (compound n f ts) o a.behind) in
      laid_copied s x pair to (compound_word p) at s₁ s₂ r n f ts (rw is at put) a o.term.within (told x n f ts there)

-- Before the i-th of k arguments of the compound at p, the scratch having been s₁ when its first word was copied.
abbrev pub Walking : List ℕ → ℕ → ℕ → ℕ → ℕ → List ℕ → ℕ → ℕ → Type 0
Walking s₁ pair to p k s free i =
    (s₀ : List ℕ) → s₁ ≡ set s₀ to (get_or s₀ p 0) → k ≡ tag_in (get_or s₀ p 0)
    → (x : Item) (n : ℕ) (f : Functor) (ts : Terms) → Original s₀ x pair to (compound_word p) (compound n f ts)
    → (j : ℕ) × (rest : Terms) × Progress s₀ s x pair to k i free n f ts j rest

pub walk_begins : (s₁ : List ℕ) (pair to p k : ℕ) → Walking s₁ pair to p k s₁ (to + 1 + k) 1
walk_begins s₁ pair to p k s₀ put e x n f ts o = (0, ts, begin s₀ x pair to p n f ts o k e s₁ put)

-- The compound and its copy lie in the scratch.
pub compound_inside : (s : List ℕ) (pair to p : ℕ) → AsksCompound s pair to p → (p + 8 ≤ length s) × (to + 8 ≤ length s)
compound_inside s pair to p (x, n, f, ts, o) =
    let end_in = room s x pair to p n f ts o in
    (omega (arith, there s x pair to p n f ts o, o.behind), omega arith)

module _ (s₀ : List ℕ) (pair to p k : ℕ) (e : k ≡ tag_in (get_or s₀ p 0)) where
  pub copy_inside : AsksCompound s₀ pair to p → to + 1 + k + 7 ≤ length s₀
  copy_inside (x, n, f, ts, o) = omega (arith, room s₀ x pair to p n f ts o, number_is s₀ x pair to p n f ts o k e)

  module _ (s₁ : List ℕ) (put : s₁ ≡ set s₀ to (get_or s₀ p 0)) (s : List ℕ) (free i : ℕ) (walk : Walking s₁ pair to p k s free i) where
    pub walk_size : AsksCompound s₀ pair to p → (length s ≡ length s₀) × (k ≤ 6)
    walk_size (x, n, f, ts, o) = let (j, rest, g) = walk s₀ put e x n f ts o in (g.only.size, g.few)

    -- The next argument.
    pub walk_term : AsksCompound s₀ pair to p → i ≤ k → (a : ℕ) → a ≡ get_or s (p + i) 0 → AsksTerm s pair (to + i) free a
    walk_term (x, n, f, ts, o) h a read =
        let (j, rest, g) = walk s₀ put e x n f ts o in
        let (t, others, same, deep, found, aside) = argument s₀ x pair to p n f ts o s k i free j rest g h in
        (x, t, rw read found, aside)

    -- The same where it is a compound: the measure falls.
    pub walk_asks : AsksCompound s₀ pair to p → i ≤ k → (a : ℕ) → a ≡ get_or s (p + i) 0 → (q : ℕ) → view (tag_in a) (rest_in a) ≡ Compound q → (most : ℕ)
        → 2 * height (length s₀) s₀ (compound_word p) ≡ most → (2 * height (length s) s (compound_word q) + 1 < most) × AsksWhole s pair (to + i) free q
    walk_asks (x, n, f, ts, o) h a read q seen most is =
        let (j, rest, g) = walk s₀ put e x n f ts o in
        let (t, others, same, deep, found, aside) = argument s₀ x pair to p n f ts o s k i free j rest g h in
        let (m, f', ts', whole, found') = compound_original s x pair free a t (rw read found) q seen in (
          argument_falls s₀ x pair to p n f ts o s free (compound_word q) (compound m f' ts') (rw whole at deep) found' most is,
          (x, m, f', ts', found', rw whole at aside),
        )

    pub walk_ends : k < i → TellsCompound s₀ pair to p s free
    walk_ends h x n f ts o =
        let (j, rest, g) = walk s₀ put e x n f ts o in
        ended s₀ x pair to p n f ts o s k i free j rest g h

pub walk_on : (s₁ : List ℕ) (pair to p k : ℕ) (s : List ℕ) (free i : ℕ) → Walking s₁ pair to p k s free i → i ≤ k → (a : ℕ) → a ≡ get_or s (p + i) 0
    → (s' : List ℕ) (r : ℕ) → TellsTerm s pair (to + i) free a s' r → (s'' : List ℕ) (r'' : ℕ) → s'' ≡ s' → r'' ≡ r → Walking s₁ pair to p k s'' r'' (i + 1)
walk_on s₁ pair to p k s free i walk h a read s' r told s'' r'' same end_at s₀ put e x n f ts o =
    let (j, rest, g) = walk s₀ put e x n f ts o in
    rw (same, end_at) (again s₀ x pair to p n f ts o s k i free j rest g h s' r (rw read at told))
