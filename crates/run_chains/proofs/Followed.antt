-- A goal's arguments, followed, go on standing where the words for them and the unit's compounds stay as they were; and following them, argument
-- by argument: what stands behind the whole, if what is left is followed too.
use Prim.Native.Nat.{ℕ, ◌+◌, ◌≤◌, ◌<◌}
use mathlib.Core.Path.{◌≡◌, refl, ap, ◌∙◌}
use mathlib.Core.List.{List}
use native.Mathlib.Omega.{arith}
use lib.ListN.{length, get_or, set}
use lib.Seq.{get_or-set_same}
use Rattle.meaning.specs.Terms.{Functor, Terms, end, more, count}
use Rattle.meaning.specs.Compare.{followed}
use Rattle.term.specs.Chains.{end_place}
use Rattle.term.specs.Frames.{Only}
use Rattle.term.specs.Setting.{Setting, UnitTerms}
use Rattle.term.proofs.Frames.{only_same, only_set, only_then, only_wider}
use Rattle.term.proofs.Units.{unit_term_alike, unit_terms_alike, unit_stands_alike, ends_stand_alike}
use Rattle.term.specs.Layout.{compounds_region, followed_part, followed_from, followed_end}
use Rattle.term.specs.Words.{tag_in}
use Rattle.run_chains.specs.Follow.{Chained, FollowedTo, FollowedAt, Follows, ArgumentsFollowed}
use Rattle.run_chains.proofs.Compounds.{
  compound_inside,
  compound_number,
  compound_few,
  compound_wide,
  compound_count,
  compound_arguments,
  Next,
  next_argument,
}

-- The unit's values and ends, where its compounds and what stands from the values on stay.
pub chained_alike : (s s' : List ℕ) (x : Setting) → length s ≤ length s'
    → ((n : ℕ) → n < x.compounds → (k : ℕ) → x.places.compound n ≤ k → k < x.places.compound n + x.places.width n → get_or s' k 0 ≡ get_or s k 0)
    → (from links : ℕ) → ((k : ℕ) → from ≤ k → get_or s' k 0 ≡ get_or s k 0) → Chained s x from links → Chained s' x from links
chained_alike s s' x size alike from links own c = record {
  stands = unit_stands_alike s s' x size alike from (λ k l h. own k l) c.stands;
  links_are = c.links_are;
  ends = ends_stand_alike s s' x size alike from (λ n h. own (end_place x from n) (omega arith)) c.ends;
}

module _ (s s' : List ℕ) (x : Setting) (size : length s ≤ length s')
    (alike : (n : ℕ) → n < x.compounds → (k : ℕ) → x.places.compound n ≤ k → k < x.places.compound n + x.places.width n → get_or s' k 0 ≡ get_or s k 0)
    (links : ℕ) where
  pub followed_alike : (i : ℕ) (ts : Terms) → ((k : ℕ) → followed_from + i ≤ k → k < followed_from + i + count ts → get_or s' k 0 ≡ get_or s k 0)
      → FollowedAt s x links i ts → FollowedAt s' x links i ts
  unfolding FollowedAt count
  followed_alike i end own f = tt
  followed_alike i (more t ts) own f = (
    own (followed_from + i) (omega arith) (omega arith) ∙ f.0,
    unit_term_alike s s' x size alike (followed links x.values t) f.1,
    followed_alike (i + 1) ts (λ k l h. own k (omega arith) (omega arith)) f.2,
  )

-- So far, before the i-th argument of the compound l: s₀ was the scratch at first. Where the words for what is left are all that changes further,
-- and it is followed, so is the whole.
pub record Midway (s₀ s : List ℕ) (x : Setting) (from links l : ℕ) (ts : Terms) (k i : ℕ) : Type 0 where
  pub whole : k ≡ count ts
  pub only : Only followed_from followed_end s₀ s
  pub chained : Chained s x from links
  pub j : ℕ
  pub at : i ≡ j + 1
  pub rest : Terms
  pub terms : UnitTerms s x l j rest
  pub left : j + count rest ≡ count ts
  pub on : (s' : List ℕ) → Only (followed_from + j) followed_end s s' → FollowedAt s' x links j rest → FollowedAt s' x links 0 ts

module _ {s₀ : List ℕ} {x : Setting} {from links l : ℕ} {f : Functor} {ts : Terms} {goal : ℕ} (a : Follows s₀ x from links l f ts goal) where
  large : compounds_region ≤ length s₀
  large = omega (arith, compound_inside a.term a.place, a.place, a.compounds_behind l (compound_number a.term a.place))

  pub first_midway : (k : ℕ) → k ≡ tag_in (get_or s₀ goal 0) → Midway s₀ s₀ x from links l ts k 1
  first_midway k e = record {
    whole = compound_count a.term a.place e;
    only = only_same followed_from followed_end s₀;
    chained = a.chained;
    j = 0;
    at = refl;
    rest = ts;
    terms = compound_arguments a.term a.place;
    left = omega arith;
    on = λ s' o stand. stand;
  }

  -- The unit's words stay.
  module _ (s s' : List ℕ) (o : Only followed_from followed_end s s') where
    cells_stay : (n : ℕ) → n < x.compounds → (k : ℕ) → x.places.compound n ≤ k → k < x.places.compound n + x.places.width n
        → get_or s' k 0 ≡ get_or s k 0
    cells_stay n h k b c = o.above k (omega (arith, a.compounds_behind n h))

    chained_stays : Chained s x from links → Chained s' x from links
    chained_stays = chained_alike s s' x (omega (arith, o.size)) cells_stay from links (λ k h. o.above k (omega (arith, a.values_behind)))

  module _ {s : List ℕ} {k i : ℕ} (P : Midway s₀ s x from links l ts k i) where
    pub count_small : k ≤ 6
    count_small = omega (arith, P.whole, compound_few a.term a.place)

    pub argument_inside : i ≤ k → goal + i < length s
    argument_inside h = omega (arith, compound_inside a.term a.place, P.only.size, count_small)

    pub word_inside : i ≤ k → followed_part + i < length s
    word_inside h = omega (arith, large, P.only.size, count_small)

    -- The argument at hand.
    abbrev pub Now : ℕ → Type 0
    Now w = Next s x from links l P.j P.rest w

    pub now_at : {w : ℕ} → i ≤ k → w ≡ get_or s (goal + i) 0 → Now w
    now_at h e =
        next_argument P.chained l P.j P.rest P.terms (omega (arith, P.at, P.whole, P.left)) (omega (arith, a.place, P.at)) e

    module _ {w v : ℕ} (N : Now w) (to : FollowedTo s x from links N.u v) (h : i ≤ k) where
      abbrev after : List ℕ
      after = set s (followed_part + i) v

      one : Only (followed_from + P.j) followed_end s after
      one = only_set (followed_from + P.j) followed_end s (followed_part + i) v (omega (arith, P.at)) (omega (arith, count_small))

      one_wider : Only followed_from followed_end s after
      one_wider = only_wider (followed_from + P.j) followed_end followed_from followed_end s after (omega arith) (omega arith) one

      onward : (s' : List ℕ) → Only (followed_from + (P.j + 1)) followed_end after s' → FollowedAt s' x links (P.j + 1) N.us → FollowedAt s' x links 0 ts
      unfolding FollowedAt
      onward s' o stand =
          let both : Only (followed_from + P.j) followed_end s s' =
          only_then (followed_from + P.j) followed_end s after s' one
          (only_wider (followed_from + (P.j + 1)) followed_end (followed_from + P.j) followed_end after s' (omega arith) (omega arith) o) in
          let wide_both = only_wider (followed_from + P.j) followed_end followed_from followed_end s s' (omega arith) (omega arith) both in
          let same : followed_from + P.j ≡ followed_part + i = omega (arith, P.at) in
          let here : get_or s' (followed_from + P.j) 0 ≡ v =
          o.below (followed_from + P.j) (omega arith) ∙ ap (λ c. get_or after c 0) same ∙ get_or-set_same s (followed_part + i) v 0 (word_inside h) in
          P.on s' both
          (rw N.rest_is (
            here ∙ to.word,
            unit_term_alike s s' x (omega (arith, wide_both.size)) (cells_stay s s' wide_both) (followed links x.values N.u) to.term,
            stand,
          ))

      pub midway_more : Midway s₀ after x from links l ts k (i + 1)
      midway_more = record {
        whole = P.whole;
        only = only_then followed_from followed_end s₀ s after P.only one_wider;
        chained = chained_stays s after one_wider P.chained;
        j = P.j + 1;
        at = omega (arith, P.at);
        rest = N.us;
        terms = unit_terms_alike s after x (omega (arith, one_wider.size)) (cells_stay s after one_wider) l (P.j + 1) N.us
            (compound_number a.term a.place) (omega (arith, N.fewer, P.left, compound_wide a.term a.place)) N.behind;
        left = omega (arith, N.fewer, P.left);
        on = onward;
      }

    pub all_followed : k < i → ArgumentsFollowed s₀ s x links ts
    unfolding FollowedAt count
    all_followed h = record {
      only = P.only;
      stand = P.on s (only_same (followed_from + P.j) followed_end s) (none_left P.rest (omega (arith, P.at, P.whole, P.left)));
    }
      where
        none_left : (us : Terms) → count us ≡ 0 → FollowedAt s x links P.j us
        none_left end z = tt
        none_left (more u us) z = absurd (omega arith)
