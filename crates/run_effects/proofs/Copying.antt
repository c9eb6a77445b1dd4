-- The copy of a variable or a constant is a word of its own; that of a compound is its first word and then argument by argument: the argument's word
-- and, behind all that has been copied, its compounds. So what is copied stays; the depth of the term falls from a compound to its arguments.
use Prim.Native.Nat.{ℕ, ◌+◌, ◌*◌, ◌≤◌, ◌<◌}
use mathlib.Core.Path.{◌≡◌, refl, ap, sym, ◌∙◌}
use mathlib.Core.Logic.{inl, inr}
use mathlib.Core.List.{List, [], ◌∷◌}
use native.Mathlib.Omega.{arith}
use lib.ListN.{length, get_or, set, length-set}
use lib.Seq.{get_or-set_same, get_or-set_other}
use denote.Enum.Declared.{tag_of}
use types.Run.{OneOf, miss}
use Rattle.meaning.specs.Terms.{
  Half,
  writer,
  reader,
  Constant,
  Functor,
  cell,
  named,
  Term,
  Terms,
  variable,
  constant,
  compound,
  end,
  more,
  count,
  renamed,
  all_renamed,
}
use Rattle.term.specs.Words.{view, writer_word, reader_word, compound_word, tag_in, rest_in}
use Rattle.term.specs.declared.word.View.{View}
use Rattle.term.specs.contracts.word.View.{the_type}
use Rattle.term.specs.declared.word.View.TheVariants.{Nothing, Writer, Reader, Integer, Name, Empty, Compound}
use Rattle.term.specs.Cells.{Places, term_word, functor_word}
use Rattle.term.specs.Holds.{Holds, HoldsFrom}
use Rattle.term.specs.Setting.{Within, AllWithin}
use Rattle.term.specs.Frames.{Only}
use Rattle.term.proofs.Frames.{only_set}
use Rattle.term.specs.Layout.{trial_region, compounds_region}
use Rattle.run_table.proofs.Seen.{seen_term, seen_writer, seen_reader}
use Rattle.run_circle.proofs.Depth.{depth, depths, height, height_is, shallow}
use Rattle.run_effects.specs.Build.{
  Item,
  size,
  sizes,
  Copies,
  Spread,
  AllSpread,
  Original,
  moved_word,
  Aside,
  Moved,
  Laid,
  Copied,
}
use Rattle.run_effects.proofs.Copies.{count_renamed, same_constant_word, same_functor_word, item_term_on}
use Rattle.run_effects.proofs.Keeping.{only_apart}
use Rattle.run_effects.proofs.Spreading.{copy_stays}

-- What is seen is no compound, by its tag.
abbrev pub NoCompound : View → Type 0
NoCompound v = OneOf (0 ∷ 1 ∷ 2 ∷ 3 ∷ 4 ∷ 5 ∷ []) (tag_of the_type v)

pub none_compound : (v : View) → ((p : ℕ) → v ≡ Compound p → ⊥) → NoCompound v
none_compound Nothing k = inl refl
none_compound (Writer m) k = inr (inl refl)
none_compound (Reader m) k = inr (inr (inl refl))
none_compound (Integer i) k = inr (inr (inr (inl refl)))
none_compound (Name n) k = inr (inr (inr (inr (inl refl))))
none_compound Empty k = inr (inr (inr (inr (inr refl))))
none_compound (Compound p) k = absurd (k p refl)

module _ (s : List ℕ) (x : Item) (pair to h : ℕ) where
  -- A writer or a reader is one of the item's pairs.
  pub writer_few : (t : Term) → Original s x pair to h t → (m : ℕ) → view (tag_in h) (rest_in h) ≡ Writer m → m < x.pairs
  unfolding Within
  writer_few t o m e =
      let (n, is, place) = seen_writer x.places t h m o.word e in
      let within : Within x.pairs x.compounds (variable writer n) = rw is at o.term.within in
      omega (arith, o.goes.own n)

  pub reader_few : (t : Term) → Original s x pair to h t → (m : ℕ) → view (tag_in h) (rest_in h) ≡ Reader m → m < x.pairs
  unfolding Within
  reader_few t o m e =
      let (n, is, place) = seen_reader x.places t h m o.word e in
      let within : Within x.pairs x.compounds (variable reader n) = rw is at o.term.within in
      omega (arith, o.goes.own n)

  -- A term with no compound is copied by its word.
  leaf : (at w : ℕ) (t : Term) → size t ≡ 0 → at < length s
      → ((places : Places) (y : Copies) (p c : ℕ) → Moved x places pair y p c → w ≡ term_word places (renamed p c t))
      → ((places : Places) (p c : ℕ) → Holds (set s at w) places (renamed p c t)) → Copied s (set s at w) x pair at to t to
  leaf at w t none inside word held = record {
    behind = omega arith;
    size_kept = length-set s at w;
    same = λ k other apart. get_or-set_other s at k w 0 other;
    word = λ places y p c moved spread. get_or-set_same s at w 0 inside ∙ word places y p c moved;
    held = λ places y p c moved spread. held places p c;
  }

  variable_word : (g : Half) (n : ℕ) → Original s x pair to h (variable g n) → (places : Places) (y : Copies) (p c : ℕ) → Moved x places pair y p c
      → places.pair (p + n) ≡ pair + x.places.pair n
  unfolding Within
  variable_word g n o places y p c moved = moved.pair_at n o.term.within ∙ ap (λ m. pair + m) (sym (o.goes.own n))

  constant_copied : (at : ℕ) (k : Constant) → Original s x pair to h (constant k) → Aside s at to (constant k)
      → Copied s (set s at h) x pair at to (constant k) to
  unfolding size Holds renamed
  constant_copied at k o a =
      leaf at h (constant k) refl a.inside (λ places y p c moved. o.word ∙ same_constant_word x.places places k moved.names) (λ places p c. tt)

  -- A variable or a constant is copied by its word moved.
  pub moved_copied : (at : ℕ) (t : Term) → Original s x pair to h t → Aside s at to t → NoCompound (view (tag_in h) (rest_in h))
      → Copied s (set s at (moved_word pair h (view (tag_in h) (rest_in h)))) x pair at to t to
  unfolding size Holds renamed
  moved_copied at (variable writer n) o a k =
      rw (seen_term x.places (variable writer n) h o.word)
      (leaf at (writer_word (pair + x.places.pair n)) (variable writer n) refl a.inside
      (λ places y p c moved. omega (arith, variable_word writer n o places y p c moved)) (λ places p c. tt))
  moved_copied at (variable reader n) o a k =
      rw (seen_term x.places (variable reader n) h o.word)
      (leaf at (reader_word (pair + x.places.pair n)) (variable reader n) refl a.inside
      (λ places y p c moved. omega (arith, variable_word reader n o places y p c moved)) (λ places p c. tt))
  moved_copied at (constant (Constant.integer i)) o a k =
      rw (seen_term x.places (constant (Constant.integer i)) h o.word) (constant_copied at (Constant.integer i) o a)
  moved_copied at (constant (Constant.name f)) o a k =
      rw (seen_term x.places (constant (Constant.name f)) h o.word) (constant_copied at (Constant.name f) o a)
  moved_copied at (constant Constant.empty) o a k =
      rw (seen_term x.places (constant Constant.empty) h o.word) (constant_copied at Constant.empty o a)
  moved_copied at (compound n f ts) o a k =
      absurd (miss (0 ∷ 1 ∷ 2 ∷ 3 ∷ 4 ∷ 5 ∷ []) 6 tt (rw (seen_term x.places (compound n f ts) h o.word) at k))

  -- A compound at its place p.
  compound_seen : (t : Term) → Original s x pair to h t → (p : ℕ) → view (tag_in h) (rest_in h) ≡ Compound p
      → (n : ℕ) × (f : Functor) × (ts : Terms) × (t ≡ compound n f ts) × (p ≡ x.places.compound n)
  compound_seen (compound n f ts) o p e =
      let k = seen_term x.places (compound n f ts) h o.word in
      (n, f, ts, refl, cc)
  compound_seen (variable writer m) o p e =
      let k = seen_term x.places (variable writer m) h o.word in let z : ◌≡◌ {A = ℕ} 0 1 = cc in absurd (omega arith)
  compound_seen (variable reader m) o p e =
      let k = seen_term x.places (variable reader m) h o.word in let z : ◌≡◌ {A = ℕ} 0 1 = cc in absurd (omega arith)
  compound_seen (constant (Constant.integer i)) o p e =
      let k = seen_term x.places (constant (Constant.integer i)) h o.word in let z : ◌≡◌ {A = ℕ} 0 1 = cc in absurd (omega arith)
  compound_seen (constant (Constant.name f)) o p e =
      let k = seen_term x.places (constant (Constant.name f)) h o.word in let z : ◌≡◌ {A = ℕ} 0 1 = cc in absurd (omega arith)
  compound_seen (constant Constant.empty) o p e =
      let k = seen_term x.places (constant Constant.empty) h o.word in let z : ◌≡◌ {A = ℕ} 0 1 = cc in absurd (omega arith)

  pub compound_original : (t : Term) → Original s x pair to h t → (p : ℕ) → view (tag_in h) (rest_in h) ≡ Compound p
      → (n : ℕ) × (f : Functor) × (ts : Terms) × (t ≡ compound n f ts) × Original s x pair to (compound_word p) (compound n f ts)
  compound_original t o p e =
      let (n, f, ts, is, place) = compound_seen t o p e in
      let o' : Original s x pair to h (compound n f ts) = rw is at o in (
        n,
        f,
        ts,
        is,
        record {
          goes = o'.goes;
          word = ap (λ m. compound_word m) place;
          term = o'.term;
          behind = o'.behind;
          inside = o'.inside;
          room = o'.room;
        },
      )

  -- Where a word behind the trial's region is put, the term is still there.
  pub original_put : (at w : ℕ) (t : Term) → Original s x pair to h t → compounds_region ≤ at → Original (set s at w) x pair to h t
  original_put at w t o far = record {
    goes = o.goes;
    word = o.word;
    term =
        item_term_on x pair o.goes s (set s at w) (omega (arith, length-set s at w)) (λ k l. get_or-set_other s at k w 0 (λ z. omega arith)) t o.term;
    behind = o.behind;
    inside = omega (arith, o.inside, length-set s at w);
    room = λ some. omega (arith, o.room some, length-set s at w);
  }

  -- A compound's word put and its compounds copied.
  pub laid_copied : (at : ℕ) (s₁ s₂ : List ℕ) (r n : ℕ) (f : Functor) (ts : Terms) → s₁ ≡ set s at (compound_word to) → Aside s at to (compound n f ts)
      → Within x.pairs x.compounds (compound n f ts) → Laid s₁ s₂ x pair to (compound n f ts) r → Copied s s₂ x pair at to (compound n f ts) r
  unfolding Within Spread renamed
  laid_copied at s₁ s₂ r n f ts put a within d =
      let w = compound_word to in
      let end_at = to + size (compound n f ts) in
      record {
        behind = d.behind;
        size_kept = d.only.size ∙ (rw put (length-set s at w));
        same = λ k other apart.
            only_apart to end_at k s₁ s₂ d.only apart ∙ (rw put (get_or-set_other s at k w 0 other));
        word = λ places y p c moved spread.
            let place : places.compound (c + n) ≡ to = moved.compound_at n within.0 ∙ spread.0 in
            only_apart to end_at at s₁ s₂ d.only a.apart
            ∙ (rw put (get_or-set_same s at w 0 a.inside))
            ∙ ap (λ m. compound_word m) (sym place);
        held = d.held;
      }

  -- The depth that the word tells.
  pub original_height : (t : Term) → Original s x pair to h t → height (length s) s h ≡ depth t
  original_height t o = rw o.word (height_is s x.places (length s) t o.term.held (shallow s x.places t o.term.held))

-- It is the same in the scratch in which the copy's word is put.
pub height_put : (s : List ℕ) (x : Item) (pair to h at w : ℕ) (t : Term) → Original s x pair to h t → compounds_region ≤ at
    → height (length (set s at w)) (set s at w) h ≡ height (length s) s h
height_put s x pair to h at w t o far =
    original_height (set s at w) x pair to h t (original_put s x pair to h at w t o far) ∙ sym (original_height s x pair to h t o)

functor_count : (places : Places) (f : Functor) (k : ℕ) → k ≤ 6 → tag_in (functor_word places f k) ≡ k
functor_count places cell k h = omega arith
functor_count places (named f) k h = omega arith

-- What stays while further arguments are copied: the words before the next argument's, and those of the copied arguments' compounds.
pub record Later (s s' : List ℕ) (next first free : ℕ) : Type 0 where
  pub size_kept : length s ≤ length s'
  pub before : (k : ℕ) → k < next → get_or s' k 0 ≡ get_or s k 0
  pub behind : (k : ℕ) → first ≤ k → k < free → get_or s' k 0 ≡ get_or s k 0

-- The functor and the first j arguments are copied, and the rest is left.
pub record Progress (s₀ s : List ℕ) (x : Item) (pair to k i free n : ℕ) (f : Functor) (ts : Terms) (j : ℕ) (rest : Terms) : Type 0 where
  pub index : i ≡ j + 1
  pub left : j + count rest ≡ k
  pub number : k ≡ count ts
  pub few : k ≤ 6
  pub beyond : to + 1 + k ≤ free
  pub ends : free + sizes rest ≡ to + 1 + k + sizes ts
  pub only : Only to free s₀ s
  pub functor : get_or s to 0 ≡ functor_word x.places f (count ts)
  pub held : HoldsFrom s₀ x.places n j rest
  pub within : AllWithin x.pairs x.compounds rest
  pub deep : depths rest ≤ depths ts
  pub spread : (y : Copies) → AllSpread y (to + 1 + count ts) ts → AllSpread y free rest
  pub whole : (places : Places) (y : Copies) (p c : ℕ) → Moved x places pair y p c → places.compound (c + n) ≡ to → AllSpread y (to + 1 + count ts) ts
      → (s' : List ℕ) → Later s s' (to + i) (to + 1 + k) free
      → HoldsFrom s' places (c + n) j (all_renamed p c rest) → HoldsFrom s' places (c + n) 0 (all_renamed p c ts)

module _ (s₀ : List ℕ) (x : Item) (pair to p n : ℕ) (f : Functor) (ts : Terms) (o : Original s₀ x pair to (compound_word p) (compound n f ts)) where
  place : p ≡ x.places.compound n
  place = omega (arith, o.word)

  known : n < x.compounds
  unfolding Within
  known = o.term.within.0

  -- Where the compound stands.
  pub there : p + 8 ≤ trial_region
  there = omega (arith, place, o.goes.before n known)

  -- Where its copy ends.
  pub room : to + 1 + count ts + sizes ts + 7 ≤ length s₀
  unfolding size
  room = omega (arith, o.room (omega arith))

  first_word : get_or s₀ p 0 ≡ functor_word x.places f (count ts)
  unfolding Holds
  first_word = rw place o.term.held.0.functor

  pub number_is : (k : ℕ) → k ≡ tag_in (get_or s₀ p 0) → k ≡ count ts
  unfolding Holds
  number_is k e = e ∙ ap (λ w. tag_in w) first_word ∙ functor_count x.places f (count ts) o.term.held.0.few

  pub begin : (k : ℕ) → k ≡ tag_in (get_or s₀ p 0) → (s : List ℕ) → s ≡ set s₀ to (get_or s₀ p 0)
      → Progress s₀ s x pair to k 1 (to + 1 + k) n f ts 0 ts
  unfolding Holds Within
  begin k e s put =
      let number : k ≡ count ts = number_is k e in
      let w = get_or s₀ p 0 in
      record {
        index = refl;
        left = omega arith;
        number = number;
        few = omega (arith, o.term.held.0.few);
        beyond = omega arith;
        ends = refl;
        only = rw put (only_set to (to + 1 + k) s₀ to w (omega arith) (omega arith));
        functor = (rw put (get_or-set_same s₀ to w 0 (omega (arith, room)))) ∙ first_word;
        held = o.term.held.1;
        within = o.term.within.1;
        deep = omega arith;
        spread = λ y d. rw number d;
        whole = λ places y p c moved at d s' later rest. rest;
      }

  -- The measure falls from a compound to an argument.
  pub argument_falls : (s : List ℕ) (free a : ℕ) (u : Term) → depth u ≤ depths ts → Original s x pair free a u → (t : ℕ)
      → 2 * height (length s₀) s₀ (compound_word p) ≡ t → 2 * height (length s) s a + 1 < t
  unfolding depth
  argument_falls s free a u deep b t e =
      omega (arith, original_height s₀ x pair to (compound_word p) (compound n f ts) o, original_height s x pair free a u b)

  module _ (s : List ℕ) (k i free j : ℕ) where
    -- All arguments are copied.
    pub ended : (rest : Terms) → Progress s₀ s x pair to k i free n f ts j rest → k < i → Laid s₀ s x pair to (compound n f ts) free
    unfolding Holds renamed all_renamed HoldsFrom count size sizes Spread
    ended end g h =
        let number : k ≡ count ts = g.number in
        let last : free ≡ to + (1 + count ts + sizes ts) = omega (arith, g.ends) in
        record {
          behind = last;
          only = rw (sym last) g.only;
          held = λ places y p' c moved spread.
              let at : places.compound (c + n) ≡ to = moved.compound_at n known ∙ spread.0 in
              let wide : places.width (c + n) ≡ 1 + count ts = moved.width_at n known ∙ spread.1 in (
                record {
                  inside = omega (arith, room, g.only.size);
                  few = omega (arith, count_renamed p' c ts, g.few);
                  wide = omega (arith, count_renamed p' c ts);
                  functor =
                      ap (λ m. get_or s m 0) at
                      ∙ g.functor
                      ∙ same_functor_word x.places places f (count ts) moved.names
                      ∙ ap (functor_word places f) (sym (count_renamed p' c ts));
                },
                g.whole places y p' c moved at spread.2 s (record { size_kept = omega arith; before = λ m l. refl; behind = λ m l u. refl }) tt,
              );
        }
    ended (more t rest) g h = absurd (omega (arith, g.left, g.index))

    -- The next argument is a term of the item, and there is room for its copy.
    pub argument : (rest : Terms) → Progress s₀ s x pair to k i free n f ts j rest → i ≤ k
        → (t : Term) × (others : Terms) × (rest ≡ more t others) × (depth t ≤ depths ts) × Original s x pair free (get_or s (p + i) 0) t × Aside s (to + i) free t
    unfolding HoldsFrom AllWithin count depths sizes
    argument end g h = absurd (omega (arith, g.left, g.index))
    argument (more t others) g h =
        let spot : p + i ≡ x.places.compound n + 1 + j = omega (arith, place, g.index) in
        let same : get_or s (p + i) 0 ≡ get_or s₀ (p + i) 0 = g.only.below (p + i) (omega (arith, g.few, there, o.behind)) in (
          t,
          others,
          refl,
          omega (arith, g.deep),
          record {
            goes = o.goes;
            word = same ∙ ap (λ m. get_or s₀ m 0) spot ∙ g.held.0;
            term =
                item_term_on x pair o.goes s₀ s (omega (arith, g.only.size)) (λ m l. g.only.below m (omega (arith, o.behind))) t
                (record { held = g.held.1; within = g.within.0 });
            behind = omega (arith, g.beyond, o.behind);
            inside = omega (arith, room, g.only.size, g.ends, g.number);
            room = λ some. omega (arith, room, g.only.size, g.ends, g.number);
          },
          record {
            behind = omega (arith, o.behind);
            inside = omega (arith, room, g.only.size, g.number);
            apart = inl (omega (arith, g.beyond));
          },
        )

    -- The next argument copied.
    module _ (t : Term) (others : Terms) (g : Progress s₀ s x pair to k i free n f ts j (more t others)) (h : i ≤ k) (s₁ : List ℕ) (r : ℕ)
        (d : Copied s s₁ x pair (to + i) free t r) where
      other_word : (m : ℕ) → (m ≡ to + i → ⊥) → m < free → get_or s₁ m 0 ≡ get_or s m 0
      other_word m other l = d.same m other (inl l)

      copied_whole : (places : Places) (y : Copies) (p' c : ℕ) → Moved x places pair y p' c → places.compound (c + n) ≡ to
          → AllSpread y (to + 1 + count ts) ts → (s' : List ℕ) → Later s₁ s' (to + (i + 1)) (to + 1 + k) r
          → HoldsFrom s' places (c + n) (j + 1) (all_renamed p' c others) → HoldsFrom s' places (c + n) 0 (all_renamed p' c ts)
      unfolding HoldsFrom all_renamed AllSpread AllWithin
      copied_whole places y p' c moved at all s' later rest =
          let own = (g.spread y all).0 in
          let spot : to + 1 + j ≡ to + i = omega (arith, g.index) in
          let low : to + 1 + k ≤ free = g.beyond in
          let ends : r ≡ free + size t = d.behind in
          g.whole places y p' c moved at all s' (record {
            size_kept = omega (arith, later.size_kept, d.size_kept);
            before = λ m l. later.before m (omega arith) ∙ other_word m (λ z. omega arith) (omega arith);
            behind = λ m l u. later.behind m l (omega arith) ∙ other_word m (λ z. omega arith) u;
          }) (
            ap (λ m. get_or s' (m + 1 + j) 0) at
                ∙ ap (λ m. get_or s' m 0) spot
                ∙ later.before (to + i) (omega arith)
                ∙ d.word places y p' c moved own,
            copy_stays x places pair y p' c moved s₁ s' later.size_kept free t (λ m l u. later.behind m (omega arith) (omega arith)) g.within.0 own
                (d.held places y p' c moved own),
            rest,
          )

      pub copied : Progress s₀ s₁ x pair to k (i + 1) r n f ts (j + 1) others
      unfolding HoldsFrom AllWithin count depths sizes AllSpread
      copied =
          let low : to + 1 + k ≤ free = g.beyond in
          let ends : r ≡ free + size t = d.behind in
          record {
            index = omega (arith, g.index);
            left = omega (arith, g.left);
            number = g.number;
            few = g.few;
            beyond = omega arith;
            ends = omega (arith, g.ends);
            only = record {
              size = d.size_kept ∙ g.only.size;
              below = λ m l. other_word m (λ z. omega arith) (omega arith) ∙ g.only.below m l;
              above = λ m u. d.same m (λ z. omega arith) (inr (omega arith)) ∙ g.only.above m (omega arith);
            };
            functor = other_word to (λ z. omega (arith, g.index)) (omega arith) ∙ g.functor;
            held = g.held.2;
            within = g.within.1;
            deep = omega (arith, g.deep);
            spread = λ y all. rw ends (g.spread y all).1;
            whole = copied_whole;
          }

    pub again : (rest : Terms) → Progress s₀ s x pair to k i free n f ts j rest → i ≤ k → (s₁ : List ℕ) (r : ℕ)
        → ((x : Item) (t : Term) → Original s x pair free (get_or s (p + i) 0) t → Aside s (to + i) free t → Copied s s₁ x pair (to + i) free t r)
        → (j' : ℕ) × (rest' : Terms) × Progress s₀ s₁ x pair to k (i + 1) r n f ts j' rest'
    again rest g h s₁ r told =
        let (t, others, is, deep, a, aside) = argument rest g h in
        (j + 1, others, copied t others (rw is at g) h s₁ r (told x t a aside))
