-- The comparison's calls: what each asks for and what is told of it, in the very form in which its contract has it, for all scenes at once.
use Prim.Native.Nat.{ℕ, ◌+◌, ◌<◌}
use mathlib.Core.Path.{◌≡◌, refl, sym, subst, ◌∙◌}
use mathlib.Core.Bool.{Bool, true, false, not}
use mathlib.Core.List.{List}
use native.Mathlib.Omega.{arith}
use lib.ListN.{length, get_or}
use borrow.Author.Tests.{not-true, not-false}
use Rattle.meaning.specs.Terms.{Term}
use Rattle.term.specs.Words.{tag_in, rest_in}
use Rattle.run_equal.specs.Equal.{
  Scene,
  Means,
  PartIs,
  Readable,
  Working,
  Alike,
  Opened,
  Linked,
  Compared,
  SameRoot,
  MatchIs,
}
use Rattle.run_equal.proofs.Turns.{
  Opening,
  Facing,
  opening,
  roots_found,
  found_same,
  compound_inside,
  matched,
  mismatched,
  counted_terms,
  found_compounds,
  part_readable,
  part_means,
}
use Rattle.run_equal.proofs.Going.{
  Going,
  Partly,
  Now,
  working_none,
  going_first,
  ends_equal,
  ends_unequal,
  too_deep,
  partly_first,
  now_at,
  partly_next,
  none_found,
  going_on,
  argument_differs,
}

-- What the comparison asks for, and what it tells.
abbrev pub Asks : List ℕ → ℕ → ℕ → ℕ → ℕ → ℕ → ℕ → Type 0
Asks s values lists links taken a b = (x : Scene) × (v : Term) × (u : Term) × Working s x values lists links taken × Means x a v × Means x b u

abbrev pub Tells : List ℕ → List ℕ → ℕ → ℕ → ℕ → ℕ → ℕ → ℕ → ℕ → ℕ → Type 0
Tells s s' values lists links taken deep a b r =
    (x : Scene) (v u : Term) → Working s x values lists links taken → Means x a v → Means x b u
    → Compared s s' x values lists links taken deep v u r

abbrev RootTells : List ℕ → ℕ → ℕ → ℕ → ℕ → ℕ → Type 0
RootTells s lists links taken w r =
    (x : Scene) (values : ℕ) (v : Term) → Working s x values lists links taken → Means x w v → Alike s x lists taken v r

abbrev OpenedTells : List ℕ → ℕ → ℕ → ℕ → ℕ → ℕ → ℕ → Type 0
OpenedTells s values lists links taken c r =
    (x : Scene) (v : Term) → Working s x values lists links taken → Means x c v → Opened s x lists taken v r

abbrev JoinTells : List ℕ → List ℕ → ℕ → ℕ → ℕ → ℕ → ℕ → ℕ → Type 0
JoinTells s s₁ lists links taken c d r =
    (x : Scene) (values : ℕ) (v u : Term) → Working s x values lists links taken → Means x c v → Means x d u
    → Linked s s₁ x values lists links taken v u r

-- Two terms opened, whatever they are; before a turn; before an argument.
abbrev pub Opens : List ℕ → List ℕ → ℕ → ℕ → ℕ → ℕ → ℕ → ℕ → ℕ → ℕ → ℕ → Type 0
Opens s s₁ values lists links taken taken₁ a b e f =
    (x : Scene) (v u : Term) → Working s x values lists links taken → Means x a v → Means x b u
    → Opening s s₁ x values lists links taken taken₁ v u e f

abbrev pub Goes : List ℕ → List ℕ → ℕ → ℕ → ℕ → ℕ → ℕ → ℕ → ℕ → ℕ → ℕ → ℕ → ℕ → Type 0
Goes s₀ s values lists links first depth left right taken a b deep =
    (x : Scene) (v u : Term) → Working s₀ x values lists links first → Means x left v → Means x right u
    → Going s₀ s x values lists links first depth v u taken a b deep

abbrev pub Walks : List ℕ → List ℕ → ℕ → ℕ → ℕ → ℕ → ℕ → ℕ → ℕ → ℕ → ℕ → ℕ → Type 0
Walks s₁ s values lists links taken₁ e f taken p q k =
    (x : Scene) (v u : Term) (F : Facing x values e f v u) → Working s₁ x values lists links taken₁
    → Partly s₁ s x values lists links taken₁ taken p q k F.left.terms F.right.terms

module _ (s₀ : List ℕ) (values lists links first depth left right : ℕ) where
  pub goes_first : Goes s₀ s₀ values lists links first depth left right first left right depth
  goes_first x v u w m o = going_first s₀ x values lists links first depth v u left right w m o

  module _ (s : List ℕ) (taken a b deep : ℕ) (goes : Goes s₀ s values lists links first depth left right taken a b deep) where
    pub at_hand : Asks s₀ values lists links first left right → Asks s values lists links taken a b
    at_hand (x, v, u, w, m, o) =
        let G = goes x v u w m o in
        (x, G.left, G.right, G.working, G.left_means, G.right_means)

    pub ends_deep : deep ≡ 0 → Tells s₀ s values lists links first depth left right 65537
    ends_deep z x v u w m o =
        let G = goes x v u w m o in
        ends_unequal s₀ s x values lists links first depth v u taken a b deep G s 65537 refl (working_none s x values lists links taken G.working)
        (too_deep s₀ s x values lists links first depth v u taken a b deep G z)

    pub ends_root : (c d : ℕ) (is : Bool) → RootTells s lists links taken a c → RootTells s lists links taken b d → SameRoot c d is → is ≡ true
        → Tells s₀ s values lists links first depth left right taken
    ends_root c d is l r same e x v u w m o =
        let G = goes x v u w m o in
        ends_equal s₀ s x values lists links first depth v u taken a b deep G s taken G.working
        (roots_found s x values lists links taken G.working G.left G.right c d (l x values G.left G.working G.left_means)
        (r x values G.right G.working G.right_means) (subst (SameRoot c d) e same))

    module _ (s₁ : List ℕ) (taken₁ e f : ℕ) (opens : Opens s s₁ values lists links taken taken₁ a b e f) where
      pub ends_same : e ≡ f → Tells s₀ s₁ values lists links first depth left right taken₁
      ends_same q x v u w m o =
          let G = goes x v u w m o in
          let O = opens x G.left G.right G.working G.left_means G.right_means in
          ends_equal s₀ s x values lists links first depth v u taken a b deep G s₁ taken₁ O.working
          (found_same s s₁ x values lists links taken taken₁ G.left G.right e f O q)

      pub matches_asks : Asks s₀ values lists links first left right → (tag_in e ≡ 6 → rest_in e < length s₁) × (tag_in f ≡ 6 → rest_in f < length s₁)
      matches_asks (x, v, u, w, m, o) =
          let G = goes x v u w m o in
          let O = opens x G.left G.right G.working G.left_means G.right_means in (
            compound_inside s s₁ x values lists links taken taken₁ G.left G.right e f O e O.first O.first_means,
            compound_inside s s₁ x values lists links taken taken₁ G.left G.right e f O f O.second O.second_means,
          )

      pub ends_differ : (is : Bool) → MatchIs s₁ e f is → not is ≡ true → (e ≡ f → ⊥) → Tells s₀ s₁ values lists links first depth left right 65537
      ends_differ is match q d x v u w m o =
          let G = goes x v u w m o in
          let O = opens x G.left G.right G.working G.left_means G.right_means in
          ends_unequal s₀ s x values lists links first depth v u taken a b deep G s₁ 65537 refl
          (working_none s₁ x values lists links taken₁ O.working) (λ t.
          mismatched s s₁ x values lists links taken taken₁ G.left G.right e f O (subst (MatchIs s₁ e f) (not-true is q) match) d
          (λ i. O.down i (t.links i) (t.equal i)))

      -- Two compounds of the same functor and number of arguments.
      module _ (is : Bool) (match : MatchIs s₁ e f is) (q : not is ≡ false) where
        facing : (x : Scene) (v u : Term) → Working s x values lists links taken → (m : Means x a v) (o : Means x b u)
            → (O : Opening s s₁ x values lists links taken taken₁ v u e f) → Facing x values e f O.first O.second
        facing x v u w m o O = matched s s₁ x values lists links taken taken₁ v u e f O (subst (MatchIs s₁ e f) (not-false is q) match)

        -- Their place, and the room behind it.
        pub count_asks : Asks s₀ values lists links first left right → (p : ℕ) → p ≡ rest_in e → p < length s₁
        count_asks (x, v, u, w, m, o) p at =
            let G = goes x v u w m o in
            let O = opens x G.left G.right G.working G.left_means G.right_means in
            let F = facing x G.left G.right G.working G.left_means G.right_means O in
            omega (arith, F.left.inside, O.working.only.size)

        pub place_fits : Asks s₀ values lists links first left right → (p r k : ℕ) → p ≡ rest_in e → r ≡ rest_in f → k ≡ tag_in (get_or s₁ p 0)
            → (p + k < 4294967296) × (r + k < 4294967296)
        place_fits (x, v, u, w, m, o) p r k at there counted =
            let G = goes x v u w m o in
            let O = opens x G.left G.right G.working G.left_means G.right_means in
            let F = facing x G.left G.right G.working G.left_means G.right_means O in
            (omega (arith, F.left.low, w.near), omega (arith, F.right.low, w.near))

        pub ends_none : (p k : ℕ) → p ≡ rest_in e → k ≡ tag_in (get_or s₁ p 0) → k ≡ 0 → Tells s₀ s₁ values lists links first depth left right taken₁
        ends_none p k at counted z x v u w m o =
            let G = goes x v u w m o in
            let O = opens x G.left G.right G.working G.left_means G.right_means in
            let F = facing x G.left G.right G.working G.left_means G.right_means O in
            let all = counted_terms s₁ x values lists links taken₁ O.working e f O.first O.second F p k at counted in
            ends_equal s₀ s x values lists links first depth v u taken a b deep G s₁ taken₁ O.working
            (found_compounds s s₁ x values lists links taken taken₁ G.left G.right e f O F s₁ taken₁
            (none_found s₁ x lists taken₁ F.left.terms F.right.terms (sym all ∙ z) F.counts))

        -- Before an argument.
        module _ (s₂ : List ℕ) (taken₂ p r k : ℕ) (walks : Walks s₁ s₂ values lists links taken₁ e f taken₂ p r k) (some : 0 < k) where
          now_here : (x : Scene) (v u : Term) (F : Facing x values e f v u) (w : Working s₁ x values lists links taken₁)
              → Now x values p r (walks x v u F w).lefts (walks x v u F w).rights
          now_here x v u F w = now_at s₁ s₂ x values lists links taken₁ taken₂ p r k F.left.terms F.right.terms (walks x v u F w) some

          pub part_asks : Asks s₀ values lists links first left right → Readable s₂ (p + 1) × Readable s₂ (r + 1)
          part_asks (x, v, u, w, m, o) =
              let G = goes x v u w m o in
              let O = opens x G.left G.right G.working G.left_means G.right_means in
              let F = facing x G.left G.right G.working G.left_means G.right_means O in
              let P = walks x O.first O.second F O.working in
              let N = now_here x O.first O.second F O.working in (
                part_readable s₂ x values lists links taken₂ P.working (p + 1) N.left N.left_part,
                part_readable s₂ x values lists links taken₂ P.working (r + 1) N.right N.right_part,
              )

          module _ (t t' : ℕ) (one : PartIs s₂ (p + 1) t) (two : PartIs s₂ (r + 1) t') where
            means_left : (x : Scene) (v u : Term) (F : Facing x values e f v u) (w : Working s₁ x values lists links taken₁)
                → Means x t (now_here x v u F w).left
            means_left x v u F w =
                part_means s₂ x values lists links taken₂ (walks x v u F w).working (p + 1) (now_here x v u F w).left (now_here x v u F w).left_part t one

            means_right : (x : Scene) (v u : Term) (F : Facing x values e f v u) (w : Working s₁ x values lists links taken₁)
                → Means x t' (now_here x v u F w).right
            means_right x v u F w =
                part_means s₂ x values lists links taken₂ (walks x v u F w).working (r + 1) (now_here x v u F w).right (now_here x v u F w).right_part t' two

            pub same_asks : Asks s₀ values lists links first left right → Asks s₂ values lists links taken₂ t t'
            same_asks (x, v, u, w, m, o) =
                let G = goes x v u w m o in
                let O = opens x G.left G.right G.working G.left_means G.right_means in
                let F = facing x G.left G.right G.working G.left_means G.right_means O in
                let N = now_here x O.first O.second F O.working in (
                  x,
                  N.left,
                  N.right,
                  (walks x O.first O.second F O.working).working,
                  means_left x O.first O.second F O.working,
                  means_right x O.first O.second F O.working,
                )

            -- It is the last: the loop goes on with it.
            pub goes_on : k ≡ 1 → (deeper : ℕ) → deeper + 1 ≡ deep → Goes s₀ s₂ values lists links first depth left right taken₂ t t' deeper
            goes_on last deeper d x v u w m o =
                let G = goes x v u w m o in
                let O = opens x G.left G.right G.working G.left_means G.right_means in
                let F = facing x G.left G.right G.working G.left_means G.right_means O in
                going_on s₀ s s₁ s₂ x values lists links first depth v u taken a b deep G taken₁ e f O F taken₂ p r k
                (walks x O.first O.second F O.working) (now_here x O.first O.second F O.working) last t t' deeper
                (means_left x O.first O.second F O.working) (means_right x O.first O.second F O.working) d

            module _ (s₃ : List ℕ) (deeper o₃ : ℕ) (tells : Tells s₂ s₃ values lists links taken₂ deeper t t' o₃) where
              told : (x : Scene) (v u : Term) (F : Facing x values e f v u) (w : Working s₁ x values lists links taken₁)
                  → Compared s₂ s₃ x values lists links taken₂ deeper (now_here x v u F w).left (now_here x v u F w).right o₃
              told x v u F w =
                  tells x (now_here x v u F w).left (now_here x v u F w).right (walks x v u F w).working (means_left x v u F w) (means_right x v u F w)

              -- The arguments differ.
              pub ends_within : o₃ ≡ 65537 → deeper + 1 ≡ deep → Tells s₀ s₃ values lists links first depth left right 65537
              ends_within same d x v u w m o =
                  let G = goes x v u w m o in
                  let O = opens x G.left G.right G.working G.left_means G.right_means in
                  let F = facing x G.left G.right G.working G.left_means G.right_means O in
                  let C = told x O.first O.second F O.working in
                  ends_unequal s₀ s x values lists links first depth v u taken a b deep G s₃ 65537 refl C.stands
                  (argument_differs s s₁ s₂ s₃ x values lists links G.left G.right taken deep taken₁ e f O F taken₂ p r k
                  (walks x O.first O.second F O.working) (now_here x O.first O.second F O.working) deeper o₃ d C same)

              -- They do not.
              pub walks_on : (o₃ ≡ 65537 → ⊥) → (j : ℕ) → j + 1 ≡ k → Walks s₁ s₃ values lists links taken₁ e f o₃ (p + 1) (r + 1) j
              walks_on d j here x v u F w =
                  partly_next s₁ s₂ x values lists links taken₁ taken₂ p r k F.left.terms F.right.terms (walks x v u F w) (now_here x v u F w)
                  s₃ o₃ deeper (told x v u F w) d j here

-- Two terms are opened.
pub opens_of : (s s₁ : List ℕ) (values lists links taken taken₁ a b c d e f : ℕ) → RootTells s lists links taken a c → RootTells s lists links taken b d
    → OpenedTells s values lists links taken c e → OpenedTells s values lists links taken d f → JoinTells s s₁ lists links taken c d taken₁
    → Opens s s₁ values lists links taken taken₁ a b e f
opens_of s s₁ values lists links taken taken₁ a b c d e f l r g h j x v u w m o =
    let L = l x values v w m in
    let R = r x values u w o in
    opening s s₁ x values lists links taken taken₁ v u c d e f L R (g x L.meaning w L.means) (h x R.meaning w R.means)
    (j x values L.meaning R.meaning w L.means R.means)

-- Before the first argument.
pub walks_first : (s : List ℕ) (values lists links taken e f p r k : ℕ) → p ≡ rest_in e → r ≡ rest_in f → k ≡ tag_in (get_or s p 0)
    → Walks s s values lists links taken e f taken p r k
walks_first s values lists links taken e f p r k at there counted x v u F w =
    rw (at, there)
    (partly_first s x values lists links taken e f k v u F w (counted_terms s x values lists links taken w e f v u F p k at counted))
