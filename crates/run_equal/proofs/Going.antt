-- The comparison, turn by turn: what is found of the terms at hand is found of those at first; if those at first are equal and all links true, so are
-- these. And within a turn, argument by argument.
use Prim.Native.Nat.{ℕ, ◌+◌, ◌≤◌, ◌<◌}
use mathlib.Core.Path.{◌≡◌, refl, sym, ap, ◌∙◌}
use mathlib.Core.List.{List}
use native.Mathlib.Omega.{arith}
use Rattle.meaning.specs.Terms.{Term, Terms, end, more, count}
use Rattle.term.specs.Words.{rest_in}
use Rattle.run_circle.proofs.Depth.{depth, depths}
use Rattle.run_equal.specs.Equal.{each, cut, Scene, Means, Agrees, Working, Found, Truly, Compared}
use Rattle.run_equal.proofs.Cuts.{Equal, AllEqual, first_agrees, others_agree, more_agree}
use Rattle.run_equal.proofs.Meanings.{Part, Parts}
use Rattle.run_equal.proofs.Turns.{Opening, Facing, found_compounds, links_true, terms_equal, terms_low}

-- With no link.
pub working_none : (s : List ℕ) (x : Scene) (values lists links taken : ℕ) → Working s x values lists links taken → Working s x values lists links x.met
working_none s x values lists links taken w = record {
  asking = w.asking;
  few = w.few;
  near = w.near;
  lists_at = w.lists_at;
  only = w.only;
  readers = w.readers;
  firsts = w.firsts;
  low = omega arith;
  high = w.readers.few;
  linked = λ i l h. absurd (omega arith);
}

-- Before a turn.
pub record Going (s₀ s : List ℕ) (x : Scene) (values lists links first depth : ℕ) (v u : Term) (taken a b deep : ℕ) : Type 0 where
  pub working : Working s x values lists links taken
  pub left : Term
  pub right : Term
  pub left_means : Means x a left
  pub right_means : Means x b right
  pub back : (s' : List ℕ) (r : ℕ) → Found s s' x lists taken left right r → Found s₀ s' x lists first v u r
  pub on : Truly s₀ x lists first v u depth → Truly s x lists taken left right deep

pub going_first : (s : List ℕ) (x : Scene) (values lists links first depth : ℕ) (v u : Term) (a b : ℕ) → Working s x values lists links first → Means x a v
    → Means x b u → Going s s x values lists links first depth v u first a b depth
going_first s x values lists links first depth v u a b w m o =
    record { working = w; left = v; right = u; left_means = m; right_means = o; back = λ s' r f. f; on = λ t. t }

module _ (s₀ s : List ℕ) (x : Scene) (values lists links first depth : ℕ) (v u : Term) (taken a b deep : ℕ)
    (G : Going s₀ s x values lists links first depth v u taken a b deep) where
  -- Equal.
  pub ends_equal : (s' : List ℕ) (r : ℕ) → Working s' x values lists links r → Found s s' x lists taken G.left G.right r
      → Compared s₀ s' x values lists links first depth v u r
  ends_equal s' r w f = record {
    stands = working_none s' x values lists links r w;
    working = λ d. w;
    found = λ d. G.back s' r f;
    unequal = λ e t. absurd (omega (arith, w.high, w.few));
  }

  -- Not equal.
  pub ends_unequal : (s' : List ℕ) (r : ℕ) → r ≡ 65537 → Working s' x values lists links x.met
      → (Truly s x lists taken G.left G.right deep → ⊥) → Compared s₀ s' x values lists links first depth v u r
  ends_unequal s' r e w no_more = record {
    stands = w;
    working = λ d. absurd (d e);
    found = λ d. absurd (d e);
    unequal = λ f t. no_more (G.on t);
  }

  -- No deeper.
  pub too_deep : deep ≡ 0 → Truly s x lists taken G.left G.right deep → ⊥
  too_deep z t = omega (arith, t.low)

-- Before an argument, of two compounds with the arguments us and ts; p and q are the places before those at hand.
pub record Partly (s₁ s : List ℕ) (x : Scene) (values lists links taken₁ taken p q k : ℕ) (us ts : Terms) : Type 0 where
  pub working : Working s x values lists links taken
  pub lefts : Terms
  pub rights : Terms
  pub counted : k ≡ count lefts
  pub counts : count lefts ≡ count rights
  pub left_parts : Parts x values p lefts
  pub right_parts : Parts x values q rights
  pub back : (n : ℕ) → Agrees x s₁ lists taken₁ n
      → (each (cut n) lefts ≡ each (cut n) rights → each (cut n) us ≡ each (cut n) ts) × Agrees x s lists taken n
  pub on : AllEqual us ts → AllEqual lefts rights
  pub low : depths lefts ≤ depths us

pub partly_first : (s : List ℕ) (x : Scene) (values lists links taken e f k : ℕ) (v u : Term) (F : Facing x values e f v u)
    → Working s x values lists links taken → k ≡ count F.left.terms
    → Partly s s x values lists links taken taken (rest_in e) (rest_in f) k F.left.terms F.right.terms
partly_first s x values lists links taken e f k v u F w c = record {
  working = w;
  lefts = F.left.terms;
  rights = F.right.terms;
  counted = c;
  counts = F.counts;
  left_parts = F.left.parts;
  right_parts = F.right.parts;
  back = λ n h. ((λ e. e), h);
  on = λ e. e;
  low = omega arith;
}

-- The arguments at hand.
pub record Now (x : Scene) (values p q : ℕ) (lefts rights : Terms) : Type 0 where
  pub left : Term
  pub right : Term
  pub left_others : Terms
  pub right_others : Terms
  pub lefts_are : lefts ≡ more left left_others
  pub rights_are : rights ≡ more right right_others
  pub left_part : Part x values (p + 1) left
  pub right_part : Part x values (q + 1) right
  pub left_parts : Parts x values (p + 1) left_others
  pub right_parts : Parts x values (q + 1) right_others

now_terms : (x : Scene) (values p q : ℕ) (lefts rights : Terms) → 0 < count lefts → count lefts ≡ count rights → Parts x values p lefts
    → Parts x values q rights → Now x values p q lefts rights
unfolding count Parts
now_terms x values p q end rights some c a b = absurd (omega arith)
now_terms x values p q (more l ls) end some c a b = absurd (omega arith)
now_terms x values p q (more l ls) (more r rs) some c a b = record {
  left = l;
  right = r;
  left_others = ls;
  right_others = rs;
  lefts_are = refl;
  rights_are = refl;
  left_part = a.0;
  right_part = b.0;
  left_parts = a.1;
  right_parts = b.1;
}

none_left : (ts us : Terms) → count ts ≡ 0 → count us ≡ 0 → (n : ℕ) → each (cut n) ts ≡ each (cut n) us
unfolding count each
none_left end end a b n = refl
none_left end (more u us) a b n = absurd (omega arith)
none_left (more t ts) us a b n = absurd (omega arith)

count_more : (t : Term) (ts us : Terms) → us ≡ more t ts → count us ≡ count ts + 1
unfolding count
count_more t ts us e = ap count e ∙ omega arith

deepest : (t : Term) (ts us : Terms) → us ≡ more t ts → (depth t ≤ depths us) × (depths ts ≤ depths us)
unfolding depths
deepest t ts us e = let is : depths us ≡ depths (more t ts) = ap depths e in (omega arith, omega arith)

module _ (s₁ s : List ℕ) (x : Scene) (values lists links taken₁ taken p q k : ℕ) (us ts : Terms)
    (P : Partly s₁ s x values lists links taken₁ taken p q k us ts) where
  pub now_at : 0 < k → Now x values p q P.lefts P.rights
  now_at some = now_terms x values p q P.lefts P.rights (omega (arith, P.counted)) P.counts P.left_parts P.right_parts

  module _ (N : Now x values p q P.lefts P.rights) where
    agree_more : (n : ℕ) → cut n N.left ≡ cut n N.right → each (cut n) N.left_others ≡ each (cut n) N.right_others
        → each (cut n) P.lefts ≡ each (cut n) P.rights
    agree_more n e d =
        ap (each (cut n)) N.lefts_are ∙ more_agree n N.left N.right N.left_others N.right_others e d ∙ sym (ap (each (cut n)) N.rights_are)

    both : AllEqual us ts → (n : ℕ) → each (cut n) (more N.left N.left_others) ≡ each (cut n) (more N.right N.right_others)
    both all n = sym (ap (each (cut n)) N.lefts_are) ∙ P.on all n ∙ ap (each (cut n)) N.rights_are

    pub nows_equal : AllEqual us ts → Equal N.left N.right
    nows_equal all n = first_agrees n N.left N.right N.left_others N.right_others (both all n)

    -- They are equal, and the links are true, if all is.
    pub nows_truly : (deep : ℕ) → ((n : ℕ) → Agrees x s₁ lists taken₁ n) → AllEqual us ts → depths us < deep
        → Truly s x lists taken N.left N.right deep
    nows_truly deep links all below = record {
      links = λ n. (P.back n (links n)).1;
      equal = nows_equal all;
      low = omega (arith, P.low, (deepest N.left N.left_others P.lefts N.lefts_are).0);
    }

    -- The next one.
    pub partly_next : (s' : List ℕ) (r deep : ℕ) → Compared s s' x values lists links taken deep N.left N.right r → (r ≡ 65537 → ⊥) → (j : ℕ) → j + 1 ≡ k
        → Partly s₁ s' x values lists links taken₁ r (p + 1) (q + 1) j us ts
    partly_next s' r deep c d j e =
        let lefts : count P.lefts ≡ count N.left_others + 1 = count_more N.left N.left_others P.lefts N.lefts_are in
        let rights : count P.rights ≡ count N.right_others + 1 = count_more N.right N.right_others P.rights N.rights_are in record {
          working = c.working d;
          lefts = N.left_others;
          rights = N.right_others;
          counted = omega (arith, P.counted);
          counts = omega (arith, P.counts);
          left_parts = N.left_parts;
          right_parts = N.right_parts;
          back = λ n h.
              let before = P.back n h in
              let here = c.found d n before.1 in
              ((λ others. before.0 (agree_more n here.0 others)), here.1);
          on = λ all n. others_agree n N.left N.right N.left_others N.right_others (both all n);
          low = omega (arith, P.low, (deepest N.left N.left_others P.lefts N.lefts_are).1);
        }

    -- The last one is found equal: all are.
    pub last_found : k ≡ 1 → (s' : List ℕ) (r : ℕ) → Found s s' x lists taken N.left N.right r → (n : ℕ) → Agrees x s₁ lists taken₁ n
        → (each (cut n) us ≡ each (cut n) ts) × Agrees x s' lists r n
    last_found one s' r f n h =
        let before = P.back n h in
        let here = f n before.1 in
        let lefts : count N.left_others ≡ 0 = omega (arith, P.counted, count_more N.left N.left_others P.lefts N.lefts_are) in
        let rights : count N.right_others ≡ 0 =
        omega (arith, P.counted, P.counts, count_more N.right N.right_others P.rights N.rights_are) in
        (before.0 (agree_more n here.0 (none_left N.left_others N.right_others lefts rights n)), here.1)

-- Of two compounds without arguments.
pub none_found : (s : List ℕ) (x : Scene) (lists taken : ℕ) (us ts : Terms) → count us ≡ 0 → count us ≡ count ts
    → (n : ℕ) → Agrees x s lists taken n → (each (cut n) us ≡ each (cut n) ts) × Agrees x s lists taken n
none_found s x lists taken us ts z c n h = (none_left us ts z (omega arith) n, h)

-- The loop goes on with the last arguments.
pub going_on : (s₀ s s₁ s₂ : List ℕ) (x : Scene) (values lists links first depth : ℕ) (v u : Term) (taken a b deep : ℕ)
    (G : Going s₀ s x values lists links first depth v u taken a b deep) (taken₁ e f : ℕ)
    (o : Opening s s₁ x values lists links taken taken₁ G.left G.right e f) (F : Facing x values e f o.first o.second)
    (taken₂ p q k : ℕ) (P : Partly s₁ s₂ x values lists links taken₁ taken₂ p q k F.left.terms F.right.terms)
    (N : Now x values p q P.lefts P.rights) → k ≡ 1 → (a' b' deeper : ℕ) → Means x a' N.left → Means x b' N.right → deeper + 1 ≡ deep
    → Going s₀ s₂ x values lists links first depth v u taken₂ a' b' deeper
going_on s₀ s s₁ s₂ x values lists links first depth v u taken a b deep G taken₁ e f o F taken₂ p q k P N one a' b' deeper m l d = record {
  working = P.working;
  left = N.left;
  right = N.right;
  left_means = m;
  right_means = l;
  back = λ s' r found.
      G.back s' r (found_compounds s s₁ x values lists links taken taken₁ G.left G.right e f o F s' r
      (last_found s₁ s₂ x values lists links taken₁ taken₂ p q k F.left.terms F.right.terms P N one s' r found));
  on = λ t.
      let now_true = G.on t in
      let low = terms_low s s₁ x values lists links taken taken₁ G.left G.right e f o F deep now_true in
      nows_truly s₁ s₂ x values lists links taken₁ taken₂ p q k F.left.terms F.right.terms P N deeper
      (links_true s s₁ x values lists links taken taken₁ G.left G.right e f o F deep now_true)
      (terms_equal s s₁ x values lists links taken taken₁ G.left G.right e f o F deep now_true) (omega arith);
}

-- An argument differs: so do the two terms.
pub argument_differs : (s s₁ s₂ s₃ : List ℕ) (x : Scene) (values lists links : ℕ) (left right : Term) (taken deep taken₁ e f : ℕ)
    (o : Opening s s₁ x values lists links taken taken₁ left right e f) (F : Facing x values e f o.first o.second)
    (taken₂ p q k : ℕ) (P : Partly s₁ s₂ x values lists links taken₁ taken₂ p q k F.left.terms F.right.terms)
    (N : Now x values p q P.lefts P.rights) (deeper r : ℕ) → deeper + 1 ≡ deep
    → Compared s₂ s₃ x values lists links taken₂ deeper N.left N.right r → r ≡ 65537 → Truly s x lists taken left right deep → ⊥
argument_differs s s₁ s₂ s₃ x values lists links left right taken deep taken₁ e f o F taken₂ p q k P N deeper r d c same t =
    let low = terms_low s s₁ x values lists links taken taken₁ left right e f o F deep t in
    c.unequal same
    (nows_truly s₁ s₂ x values lists links taken₁ taken₂ p q k F.left.terms F.right.terms P N deeper
    (links_true s s₁ x values lists links taken taken₁ left right e f o F deep t)
    (terms_equal s s₁ x values lists links taken taken₁ left right e f o F deep t) (omega arith))
