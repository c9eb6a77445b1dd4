-- The clauses linked: from the word of a procedure, the links lead to exactly its clauses, in text order.
-- Each clause, from the last to the first, becomes the first of its own procedure and changes no other's.
use Prim.Native.Nat.{ℕ, ◌+◌, ◌≤◌, ◌<◌}
use mathlib.Core.Path.{◌≡◌, refl, ap, sym, ◌∙◌}
use mathlib.Core.Bool.{Bool, true, false, ◌&&◌}
use mathlib.Core.List.{List, [], ◌∷◌}
use mathlib.Core.Logic.{◌≢◌}
use native.Mathlib.Omega.{arith}
use lib.Dec.{eqb}
use lib.ListN.{length, get_or, set, length-set}
use lib.Seq.{get_or-set_same, get_or-set_other}
use borrow.Author.Tests.{eqb-true, eqb-false}
use Rattle.meaning.specs.Bytes.{Bytes, same, those, when◌then◌else◌}
use Rattle.meaning.specs.Terms.{Named, Clause, count, as_term}
use Rattle.meaning.specs.Trial.{procedure}
use Rattle.term.specs.Cells.{number_of, KnownName, Known, Numbered}
use Rattle.term.specs.Jobs.{ClauseLaid, GoalsKnown, EachFrom, Linked, procedure_place}
use Rattle.term.proofs.Numbers.{same_equal, number_below, number_apart}
use Rattle.term.proofs.Jobs.{linked_map}
use Rattle.term.specs.Layout.{clauses_region, queries_region, compounds_region, procedure_slot, clause_record, clause_stride}
use Rattle.term.specs.Words.{packed}
use Rattle.load_names.specs.Places.{Place, spellings, item_places}
use Rattle.load_image.specs.Image.{head_word, head_words, link_one, linked}

-- A head or a goal that has a procedure: its name is known, and it has at most 6 arguments.
pub record Headed (names : List Bytes) (g : Named) : Type 0 where
  pub known : KnownName names g.name
  pub few : count g.arguments ≤ 6

pub clause_headed : (names : List Bytes) (c : Clause) → ClauseLaid names c → Headed names c.head
unfolding GoalsKnown Numbered Known as_term
clause_headed names c laid = record { known = laid.known.0.0; few = laid.head_numbered.1 }

-- The test of a procedure, and the words of two heads.
alike : Named → Named → Bool
alike g h = same g.name h.name && eqb (count g.arguments) (count h.arguments)

place_alike : (names : List Bytes) (m n : ℕ) (f g : Bytes) (a b : Bool) → same f g ≡ a → eqb m n ≡ b → (a && b) ≡ true
    → procedure_slot (packed m (number_of f names + 1)) ≡ procedure_slot (packed n (number_of g names + 1))
place_alike names m n f g true true d e h = rw (same_equal f g d, eqb-true m n e)
place_alike names m n f g true false d e h = let z : ◌≡◌ {A = ℕ} 0 1 = cc in absurd (omega arith)
place_alike names m n f g false b d e h = let z : ◌≡◌ {A = ℕ} 0 1 = cc in absurd (omega arith)

place_apart : (names : List Bytes) (m n : ℕ) (f g : Bytes) (a b : Bool) → m ≤ 6 → n ≤ 6 → KnownName names f → KnownName names g
    → same f g ≡ a → eqb m n ≡ b → (a && b) ≡ false
    → procedure_slot (packed m (number_of f names + 1)) ≢ procedure_slot (packed n (number_of g names + 1))
place_apart names m n f g true true x y k l d e h p = let z : ◌≡◌ {A = ℕ} 0 1 = cc in absurd (omega arith)
place_apart names m n f g true false x y k l d e h p = eqb-false m n e (omega arith)
place_apart names m n f g false b x y k l d e h p = number_apart f g names d k l (omega arith)

-- Where a head's procedure has its word.
module _ (names : List Bytes) (g : Named) (h : Headed names g) (few : length names ≤ 256) where
  pub place_low : 512 ≤ procedure_place names g
  place_low = omega arith

  pub place_high : procedure_place names g < clauses_region
  place_high = omega (arith, number_below g.name names h.known, h.few)

-- One clause more: where it is one of the goal's, and where it is not.
procedure_with : (c : Clause) (cs : List Clause) (goal : Named) → alike c.head goal ≡ true → procedure (c ∷ cs) goal ≡ c ∷ procedure cs goal
unfolding procedure those alike when◌then◌else◌
procedure_with c cs goal h = rw h

procedure_without : (c : Clause) (cs : List Clause) (goal : Named) → alike c.head goal ≡ false → procedure (c ∷ cs) goal ≡ procedure cs goal
unfolding procedure those alike when◌then◌else◌
procedure_without c cs goal h = rw h

procedure_none : (goal : Named) → procedure [] goal ≡ []
unfolding procedure those
procedure_none goal = refl

-- A clause that is linked: the record's first word, and the procedure's.
linked_one : List ℕ → ℕ → ℕ → List ℕ
linked_one s k p = set (set s (clause_record k) (get_or s p 0)) p (k + 1)

module _ (s : List ℕ) (k p : ℕ) (few : k < 128) (low : 512 ≤ p) (high : p < clauses_region) (inside : compounds_region ≤ length s) where
  one_size : length (linked_one s k p) ≡ length s
  unfolding linked_one
  one_size = length-set (set s (clause_record k) (get_or s p 0)) p (k + 1) ∙ length-set s (clause_record k) (get_or s p 0)

  one_other : (w : ℕ) → w ≢ clause_record k → w ≢ p → get_or (linked_one s k p) w 0 ≡ get_or s w 0
  unfolding linked_one
  one_other w x y =
      get_or-set_other (set s (clause_record k) (get_or s p 0)) p w (k + 1) 0 y ∙ get_or-set_other s (clause_record k) w (get_or s p 0) 0 x

  one_first : get_or (linked_one s k p) p 0 ≡ k + 1
  unfolding linked_one
  one_first =
      get_or-set_same (set s (clause_record k) (get_or s p 0)) p (k + 1) 0 (omega (arith, length-set s (clause_record k) (get_or s p 0)))

  one_next : get_or (linked_one s k p) (clause_record k) 0 ≡ get_or s p 0
  unfolding linked_one
  one_next =
      get_or-set_other (set s (clause_record k) (get_or s p 0)) p (clause_record k) (k + 1) 0 (λ e. omega arith)
      ∙ get_or-set_same s (clause_record k) (get_or s p 0) 0 (omega arith)

-- Linking changes only the procedures' words and the first words of the clauses' records.
pub record LinkKept (s s' : List ℕ) : Type 0 where
  pub size : length s' ≡ length s
  pub before : (w : ℕ) → w < 512 → get_or s' w 0 ≡ get_or s w 0
  pub records : (i j : ℕ) → 1 ≤ j → j < clause_stride → get_or s' (clause_record i + j) 0 ≡ get_or s (clause_record i + j) 0
  pub behind : (w : ℕ) → queries_region ≤ w → get_or s' w 0 ≡ get_or s w 0

module _ (names : List Place) (few_names : length (spellings names) ≤ 256) where
  linked_cons : (k : ℕ) (c : Clause) (cs : List Clause) (s : List ℕ)
      → linked k (head_words names (c ∷ cs)) s ≡ linked_one (linked (k + 1) (head_words names cs) s) k (procedure_place (spellings names) c.head)
  unfolding linked link_one linked_one head_words head_word item_places
  linked_cons k c cs s = refl

  linked_nil : (k : ℕ) (s : List ℕ) → linked k (head_words names []) s ≡ s
  unfolding linked head_words
  linked_nil k s = refl

  pub linked_kept : (k : ℕ) (cs : List Clause) (s : List ℕ) → k + length cs ≤ 128 → compounds_region ≤ length s
      → EachFrom (λ i c. Headed (spellings names) c.head) k cs → LinkKept s (linked k (head_words names cs) s)
  unfolding EachFrom
  linked_kept k [] s room inside h =
      rw (linked_nil k s) (record { size = refl; before = λ w m. refl; records = λ i j l m. refl; behind = λ w m. refl })
  linked_kept k (c ∷ cs) s room inside h =
      let s₁ = linked (k + 1) (head_words names cs) s in
      let p = procedure_place (spellings names) c.head in
      let low : 512 ≤ p = place_low (spellings names) c.head h.0 few_names in
      let high : p < clauses_region = place_high (spellings names) c.head h.0 few_names in
      let few : k < 128 = omega arith in
      let rest : LinkKept s s₁ = linked_kept (k + 1) cs s (omega arith) inside h.1 in
      let in₁ : compounds_region ≤ length s₁ = omega (arith, rest.size) in
      rw (linked_cons k c cs s) (after k s s₁ p few low high in₁ rest)
    where
      after : (k : ℕ) (s s₁ : List ℕ) (p : ℕ) (few : k < 128) (low : 512 ≤ p) (high : p < clauses_region) (in₁ : compounds_region ≤ length s₁) → LinkKept s s₁
          → LinkKept s (linked_one s₁ k p)
      after k s s₁ p few low high in₁ rest = record {
        size = one_size s₁ k p few low high in₁ ∙ rest.size;
        before = λ w m. one_other s₁ k p few low high in₁ w (λ e. omega arith) (λ e. omega arith) ∙ rest.before w m;
        records = λ i j l m. one_other s₁ k p few low high in₁ (clause_record i + j) (λ e. omega arith) (λ e. omega arith) ∙ rest.records i j l m;
        behind = λ w m. one_other s₁ k p few low high in₁ w (λ e. omega arith) (λ e. omega arith) ∙ rest.behind w m;
      }

  -- One clause more in front.
  module _ (At : ℕ → Clause → Type 0) (goal : Named) (g : Headed (spellings names) goal) (k : ℕ) (c : Clause) (cs : List Clause) (s : List ℕ)
      (few : k < 128) (inside : compounds_region ≤ length s) (head : Headed (spellings names) c.head) (at : At k c)
      (rest : Linked s (λ i d. (k + 1 ≤ i) × (i < 128) × At i d) (get_or s (procedure_place (spellings names) goal) 0) (procedure cs goal)) where
    first_low : 512 ≤ procedure_place (spellings names) c.head
    first_low = place_low (spellings names) c.head head few_names

    first_high : procedure_place (spellings names) c.head < clauses_region
    first_high = place_high (spellings names) c.head head few_names

    others : Linked (linked_one s k (procedure_place (spellings names) c.head)) (λ i d. (k ≤ i) × (i < 128) × At i d)
        (get_or s (procedure_place (spellings names) goal) 0) (procedure cs goal)
    others =
        let p = procedure_place (spellings names) c.head in
        let low : 512 ≤ p = first_low in
        let high : p < clauses_region = first_high in
        linked_map s (linked_one s k p) (λ i d. (k + 1 ≤ i) × (i < 128) × At i d) (λ i d. (k ≤ i) × (i < 128) × At i d)
        (get_or s (procedure_place (spellings names) goal) 0) (procedure cs goal)
        (λ i d h. (
          (omega (arith, h.0), h.1, h.2),
          one_other s k p few low high inside (clause_record i) (λ e. omega (arith, h.0)) (λ e. omega (arith, h.0)),
        ))
        rest

    link_first_by : (b : Bool) → alike c.head goal ≡ b
        → Linked (linked_one s k (procedure_place (spellings names) c.head)) (λ i d. (k ≤ i) × (i < 128) × At i d)
        (get_or (linked_one s k (procedure_place (spellings names) c.head)) (procedure_place (spellings names) goal) 0) (procedure (c ∷ cs) goal)
    unfolding Linked alike
    link_first_by true h =
        let p = procedure_place (spellings names) c.head in
        let q = procedure_place (spellings names) goal in
        let e : q ≡ p = sym (place_alike (spellings names) (count c.head.arguments) (count goal.arguments) c.head.name goal.name
        (same c.head.name goal.name) (eqb (count c.head.arguments) (count goal.arguments)) refl refl h) in
        rw (procedure_with c cs goal h) (
          k,
          ap (λ w. get_or (linked_one s k p) w 0) e ∙ one_first s k p few first_low first_high inside,
          (omega arith, few, at),
          rw (one_next s k p few first_low first_high inside) (rw e at others),
        )
    link_first_by false h =
        let p = procedure_place (spellings names) c.head in
        let q = procedure_place (spellings names) goal in
        let low : 512 ≤ q = place_low (spellings names) goal g few_names in
        let high : q < clauses_region = place_high (spellings names) goal g few_names in
        let apart : p ≢ q = place_apart (spellings names) (count c.head.arguments) (count goal.arguments) c.head.name goal.name
        (same c.head.name goal.name) (eqb (count c.head.arguments) (count goal.arguments)) head.few g.few
        head.known g.known refl refl h in
        rw (procedure_without c cs goal h, one_other s k p few first_low first_high inside q (λ e. omega arith) (λ e. apart (sym e))) others

    link_first : Linked (linked_one s k (procedure_place (spellings names) c.head)) (λ i d. (k ≤ i) × (i < 128) × At i d)
        (get_or (linked_one s k (procedure_place (spellings names) c.head)) (procedure_place (spellings names) goal) 0) (procedure (c ∷ cs) goal)
    link_first = link_first_by (alike c.head goal) refl

  -- From the word of a goal's procedure on.
  pub linked_leads : (At : ℕ → Clause → Type 0) (goal : Named) → Headed (spellings names) goal → (k : ℕ) (cs : List Clause) (s : List ℕ)
      → k + length cs ≤ 128 → compounds_region ≤ length s → ((w : ℕ) → 512 ≤ w → w < clauses_region → get_or s w 0 ≡ 0)
      → EachFrom (λ i c. Headed (spellings names) c.head) k cs → EachFrom At k cs
      → Linked (linked k (head_words names cs) s) (λ i c. (k ≤ i) × (i < 128) × At i c)
      (get_or (linked k (head_words names cs) s) (procedure_place (spellings names) goal) 0) (procedure cs goal)
  unfolding EachFrom Linked
  linked_leads At goal g k [] s room inside zeros heads each =
      rw (linked_nil k s, procedure_none goal)
      (zeros (procedure_place (spellings names) goal) (place_low (spellings names) goal g few_names) (place_high (spellings names) goal g few_names))
  linked_leads At goal g k (c ∷ cs) s room inside zeros heads each =
      rw (linked_cons k c cs s)
      (link_first At goal g k c cs (linked (k + 1) (head_words names cs) s) (omega arith)
      (omega (arith, (linked_kept (k + 1) cs s (omega arith) inside heads.1).size)) heads.0 each.0
      (linked_leads At goal g (k + 1) cs s (omega arith) inside zeros heads.1 each.1))
