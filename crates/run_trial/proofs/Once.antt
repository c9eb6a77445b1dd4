-- What is assigned once: of assignments for different pairs each is the value afterwards. Of what a trial gives, the entries are some, in order, and
-- every other is given to the clause's pairs.
use Prim.Native.Nat.{ℕ, zero, suc, ◌+◌, ◌≤◌, ◌<◌}
use mathlib.Core.Path.{◌≡◌, refl, sym, subst, ap, ◌∙◌}
use mathlib.Core.Bool.{Bool, true, false}
use mathlib.Core.Logic.{◌⊎◌, inl, inr, ◌≢◌}
use mathlib.Core.List.{List, [], ◌∷◌, ◌++◌, append_assoc}
use mathlib.Core.Option.{none, some}
use native.Mathlib.Omega.{arith}
use lib.Dec.{eqb}
use lib.ListN.{length, get_or, set, length-set}
use borrow.Author.Tests.{eqb-true, eqb-false}
use Rattle.meaning.specs.Terms.{writer, Term, Constant, renamed}
use Rattle.meaning.specs.State.{Values, value}
use Rattle.meaning.specs.Compare.{Assignment}
use Rattle.meaning.specs.Trial.{assigned}
use Rattle.meaning.specs.Guards.{given_to}
use Rattle.laws.proofs.Lists.Among.{In, here, there, in_cons_cases, in_none}
use Rattle.laws.proofs.Lists.EachOf.{Each, each_in, each_member}
use Rattle.laws.proofs.Single.{AssignedOnce}
use Rattle.laws.proofs.Trial.Values.{value_assigned_other, value_set_same, value_set_other}
use Rattle.term.specs.Cells.{Places, term_word}
use Rattle.term.specs.Setting.{Setting, UnitTerm}
use Rattle.term.proofs.Cells.{numbered_order}
use Rattle.term.specs.Layout.{gift_pair, gift_term}
use Rattle.run_compare.specs.Gifts.{Gift, to_head, to_goal, assignments, Entry, entries_of, EntriesAt}
use Rattle.run_compare.specs.Compare.{Template, HeadTerm, AllGiven, AllEntries}

-- No two for one pair.
abbrev pub AllApart : List Assignment → Type 0
AllApart [] = Unit {0}
AllApart (a ∷ given) = Each (λ b. a.pair ≢ b.pair) given × AllApart given

in_split : {A : Type 0} (l : List A) (a : A) → In a l → (u : List A) × (v : List A) × (l ≡ u ++ a ∷ v)
in_split {A} [] a m = absurd (in_none m)
in_split {A} (b ∷ l) a m = go (in_cons_cases m) (in_split l a)
  where
    go : (a ≡ b) ⊎ In a l → (In a l → (u : List A) × (v : List A) × (l ≡ u ++ a ∷ v)) → (u : List A) × (v : List A) × (b ∷ l ≡ u ++ a ∷ v)
    go (inl e) further = ([], l, rw e)
    go (inr n) further = let (u, v, e) = further n in (b ∷ u, v, rw e)

apart_behind : (whole first given : List Assignment)
    → ((f between behind : List Assignment) (a b : Assignment) → whole ≡ f ++ a ∷ between ++ b ∷ behind → a.pair ≡ b.pair → ⊥)
    → whole ≡ first ++ given → AllApart given
apart_behind whole first [] no_two e = tt
apart_behind whole first (a ∷ given) no_two e = (
  each_member (λ b. a.pair ≢ b.pair) given
      (λ b m same.
      let (u, v, q) = in_split given b m in
      no_two first u v a b (e ∙ ap (λ l. first ++ a ∷ l) q ∙ sym (append_assoc first (a ∷ u) (b ∷ v))) same),
  apart_behind whole (first ++ (a ∷ [])) given no_two (e ∙ sym (append_assoc first (a ∷ []) given)),
)

pub once_apart : {values : Values} {pairs : ℕ} {given : List Assignment} → AssignedOnce values pairs given → AllApart given
once_apart {given = given} o = apart_behind given [] given o.no_pair_twice refl

-- Each is the value afterwards.
pub assigned_is : (given : List Assignment) (values : Values) (a : Assignment) → AllApart given → In a given → a.pair < length values
    → value (assigned given values) a.pair ≡ some a.value
unfolding assigned
assigned_is [] values a apart m h = absurd (in_none m)
assigned_is (b ∷ given) values a apart m h = go (in_cons_cases m) (assigned_is given (set values b.pair (some b.value)) a apart.1)
  where
    next : Values
    next = set values b.pair (some b.value)

    go : (a ≡ b) ⊎ In a given
        → (In a given → a.pair < length next → value (assigned given next) a.pair ≡ some a.value)
        → value (assigned given next) a.pair ≡ some a.value
    go (inl e) further =
        rw e
        (value_assigned_other given next b.pair (λ d n. each_in (λ d. b.pair ≢ d.pair) apart.0 n)
        ∙ value_set_same values b.pair (some b.value) (rw e at h))
    go (inr n) further = further n (omega (arith, length-set values b.pair (some b.value)))

-- What the definition of the guards looks up is that value; of a pair that had none and is given none it is the pair's own writer.
pub given_to_is : (given : List Assignment) (values : Values) (p : ℕ) → AllApart given → p < length values → value values p ≡ none
    → ((value (assigned given values) p ≡ none) × (given_to given p ≡ Term.variable writer p)) ⊎ (value (assigned given values) p ≡ some (given_to given p))
unfolding assigned given_to
given_to_is [] values p apart h e = inl (e, refl)
given_to_is (a ∷ given) values p apart h e =
    go (eqb a.pair p) refl (given_to_is given next p apart.1 (omega (arith, length-set values a.pair (some a.value))))
  where
    next : Values
    next = set values a.pair (some a.value)

    Is : Term → Type 0
    Is t = ((value (assigned given next) p ≡ none) × (t ≡ Term.variable writer p)) ⊎ (value (assigned given next) p ≡ some t)

    go : (b : Bool) → eqb a.pair p ≡ b → (value next p ≡ none → Is (given_to given p))
        → Is (elim b [ true ↦ a.value | false ↦ given_to given p ])
    go true q further =
        let same : a.pair ≡ p = eqb-true a.pair p q in
        inr (subst (λ n. value (assigned given next) n ≡ some a.value) same
        (assigned_is (a ∷ given) values a apart (here refl) (omega arith)))
    go false q further =
        further (value_set_other values a.pair p (some a.value) (λ f. eqb-false a.pair p q (sym f)) ∙ e)

-- The entries among the assignments.
pub no_entry : Entry
no_entry = record { pair = 0; term = Term.constant Constant.empty }

module _ (p c : ℕ) where
  abbrev pub entry_assignment : Entry → Assignment
  entry_assignment e = record { pair = e.pair; value = renamed p c e.term }

  pub entry_assigned : (gs : List Gift) (i : ℕ) → i < length (entries_of gs)
      → In (entry_assignment (get_or (entries_of gs) i no_entry)) (assignments p c gs)
  unfolding entries_of assignments
  entry_assigned [] i h = absurd (omega arith)
  entry_assigned (to_head n u ∷ gs) i h = there (entry_assigned gs i h)
  entry_assigned (to_goal z t ∷ gs) zero h = here refl
  entry_assigned (to_goal z t ∷ gs) (suc i) h = there (entry_assigned gs i (omega arith))

  -- No two entries are for one pair.
  pub entries_differ : (gs : List Gift) (i j : ℕ) → AllApart (assignments p c gs) → i < length (entries_of gs) → j < length (entries_of gs)
      → (get_or (entries_of gs) i no_entry).pair ≡ (get_or (entries_of gs) j no_entry).pair → i ≡ j
  unfolding entries_of assignments
  entries_differ [] i j apart h k e = absurd (omega arith)
  entries_differ (to_head n u ∷ gs) i j apart h k e = entries_differ gs i j apart.1 h k e
  entries_differ (to_goal z t ∷ gs) zero zero apart h k e = refl
  entries_differ (to_goal z t ∷ gs) zero (suc j) apart h k e =
      absurd (each_in (λ (b : Assignment). z ≢ b.pair) apart.0 (entry_assigned gs j (omega arith)) e)
  entries_differ (to_goal z t ∷ gs) (suc i) zero apart h k e =
      absurd (each_in (λ (b : Assignment). z ≢ b.pair) apart.0 (entry_assigned gs i (omega arith)) (sym e))
  entries_differ (to_goal z t ∷ gs) (suc i) (suc j) apart h k e = ap suc (entries_differ gs i j apart.1 (omega arith) (omega arith) e)

  -- What is given to the clause's pairs is a term of the unit.
  pub to_clause : (s : List ℕ) (x : Setting) (y : Template) (lo hi : ℕ) (gs : List Gift) → AllGiven s x y lo hi gs → p ≡ length x.values
      → Each (λ a. p ≤ a.pair → UnitTerm s x a.value) (assignments p c gs)
  unfolding AllGiven assignments
  to_clause s x y lo hi [] k e = tt
  to_clause s x y lo hi (to_head n u ∷ gs) k e = (λ h. k.0.1, to_clause s x y lo hi gs k.1 e)
  to_clause s x y lo hi (to_goal z t ∷ gs) k e = (λ h. absurd (omega (arith, k.0)), to_clause s x y k.2 hi gs k.5 e)

  -- What is given to the unit's pairs is an entry.
  pub to_unit : (s : List ℕ) (item unit : Places) (gs : List Gift) (n : ℕ) (a : Assignment) → EntriesAt s item unit n (entries_of gs)
      → In a (assignments p c gs) → a.pair < p
      → (i : ℕ) × (i < n + length (entries_of gs)) × (unit.pair a.pair ≡ get_or s (gift_pair i) 0)
  unfolding entries_of EntriesAt assignments
  to_unit s item unit [] n a k m h = absurd (in_none m)
  to_unit s item unit (to_head b u ∷ gs) n a k m h = go (in_cons_cases m) (to_unit s item unit gs n a k)
    where
      go : (a ≡ record { pair = p + b; value = u }) ⊎ In a (assignments p c gs)
          → (In a (assignments p c gs) → a.pair < p
          → (i : ℕ) × (i < n + length (entries_of gs)) × (unit.pair a.pair ≡ get_or s (gift_pair i) 0))
          → (i : ℕ) × (i < n + length (entries_of gs)) × (unit.pair a.pair ≡ get_or s (gift_pair i) 0)
      go (inl e) further = absurd (omega (arith, ap (λ (d : Assignment). d.pair) e))
      go (inr q) further = further q h
  to_unit s item unit (to_goal z t ∷ gs) n a k m h = go (in_cons_cases m) (to_unit s item unit gs (n + 1) a k.2)
    where
      go : (a ≡ record { pair = z; value = renamed p c t }) ⊎ In a (assignments p c gs)
          → (In a (assignments p c gs) → a.pair < p
          → (i : ℕ) × (i < n + 1 + length (entries_of gs)) × (unit.pair a.pair ≡ get_or s (gift_pair i) 0))
          → (i : ℕ) × (i < n + length (entries_of (to_goal z t ∷ gs))) × (unit.pair a.pair ≡ get_or s (gift_pair i) 0)
      go (inl e) further = (n, omega arith, ap (λ (d : Assignment). unit.pair d.pair) e ∙ sym k.0)
      go (inr q) further = let r = further q h in (r.0, omega (arith, r.1), r.2)

-- The i-th entry: its words, and what is held of it.
pub entry_words : (s : List ℕ) (item unit : Places) (n : ℕ) (es : List Entry) (i : ℕ) → i < length es → EntriesAt s item unit n es
    → (get_or s (gift_pair (n + i)) 0 ≡ unit.pair (get_or es i no_entry).pair)
    × (get_or s (gift_term (n + i)) 0 ≡ term_word item (get_or es i no_entry).term)
unfolding EntriesAt
entry_words s item unit n [] i h k = absurd (omega arith)
entry_words s item unit n (e ∷ es) zero h k = let is : n + 0 ≡ n = omega arith in rw is (k.0, k.1)
entry_words s item unit n (e ∷ es) (suc i) h k =
    let is : n + suc i ≡ (n + 1) + i = omega arith in
    rw is (entry_words s item unit (n + 1) es i (omega arith) k.2)

pub entries_order : (s : List ℕ) (x : Setting) (y : Template) (lo hi : ℕ) (es : List Entry) → AllEntries s x y lo hi es → lo ≤ hi
unfolding AllEntries
entries_order s x y lo hi [] k = k
entries_order s x y lo hi (e ∷ es) k =
    omega (arith, k.3, numbered_order k.1 k.2 e.term k.4.numbered, entries_order s x y k.2 hi es k.5)

pub entry_held : (s : List ℕ) (x : Setting) (y : Template) (lo hi : ℕ) (es : List Entry) (i : ℕ) → i < length es → AllEntries s x y lo hi es
    → ((get_or es i no_entry).pair < length x.values) × (a : ℕ) × (b : ℕ) × HeadTerm s x y a b (get_or es i no_entry).term × (lo ≤ a) × (b ≤ hi)
unfolding AllEntries
entry_held s x y lo hi [] i h k = absurd (omega arith)
entry_held s x y lo hi (e ∷ es) zero h k = (k.0, k.1, k.2, k.4, k.3, entries_order s x y k.2 hi es k.5)
entry_held s x y lo hi (e ∷ es) (suc i) h k =
    let (pair, a, b, term, low, high) = entry_held s x y k.2 hi es i (omega arith) k.5 in
    (pair, a, b, term, omega (arith, k.3, numbered_order k.1 k.2 e.term k.4.numbered), high)
