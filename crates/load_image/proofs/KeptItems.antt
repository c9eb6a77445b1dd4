-- A clause and a query, stored: only the item's own record and the places of its 32 compounds change, and the scratch then holds the item.
use Prim.Native.Nat.{ℕ, ◌+◌, ◌*◌, ◌≤◌, ◌<◌}
use mathlib.Core.Path.{◌≡◌, refl, ◌∙◌}
use mathlib.Core.List.{List}
use native.Mathlib.Omega.{arith}
use lib.ListN.{length, get_or, set, length-set}
use lib.Seq.{get_or-set_same, get_or-set_other}
use Rattle.meaning.specs.Terms.{Clause, Query, as_term}
use Rattle.term.specs.Cells.{Places as CellPlaces, stored}
use Rattle.term.specs.Frames.{Only}
use Rattle.term.specs.Jobs.{ClauseLaid, QueryLaid, HoldsClause, HoldsQuery}
use Rattle.term.proofs.Frames.{only_set, only_then}
use Rattle.term.proofs.Cells.{stored_only}
use Rattle.term.proofs.Regions.{OnlyTwo, two_first, two_second, two_then, two_wider}
use Rattle.term.proofs.Holds.{holds_kept, stored_holds}
use Rattle.term.proofs.KeptGuards.{guards_numbered_order, holds_guards_kept}
use Rattle.term.proofs.Jobs.{goals_numbered_order, holds_goals_kept}
use Rattle.term.specs.Layout.{compounds_region, item_start, item_end, item_place, clause_record, clause_base, query_record, query_base, query_end, clause_pairs_word, clause_goals_from, clause_tests_from, clause_end}
use Rattle.load_names.specs.Places.{Place, spellings, item_places}
use Rattle.load_image.specs.Image.{goals_stored, guards_stored, places_stored, clause_stored, query_stored}
use Rattle.load_image.proofs.Keeping.{goals_two, goals_hold, places_only}
use Rattle.load_image.proofs.StoredGuards.{guards_two, guards_hold}

-- Three words of a record.
three_only : (lo hi : ℕ) (s : List ℕ) (p q r a b c : ℕ) → lo ≤ p → p < hi → lo ≤ q → q < hi → lo ≤ r → r < hi
    → Only lo hi s (set (set (set s p a) q b) r c)
three_only lo hi s p q r a b c x x' y y' z z' =
    let s₁ = set s p a in
    let s₂ = set s₁ q b in
    only_then lo hi s s₁ (set s₂ r c) (only_set lo hi s p a x x')
    (only_then lo hi s₁ s₂ (set s₂ r c) (only_set lo hi s₁ q b y y') (only_set lo hi s₂ r c z z'))

module _ (s : List ℕ) (p q r a b c : ℕ) (first : p < length s) (second : q < length s) (third : r < length s) (x : p < q) (y : q < r) where
  three_words : (get_or (set (set (set s p a) q b) r c) p 0 ≡ a)
      × (get_or (set (set (set s p a) q b) r c) q 0 ≡ b)
      × (get_or (set (set (set s p a) q b) r c) r 0 ≡ c)
  three_words =
      let s₁ = set s p a in
      let s₂ = set s₁ q b in
      let size₁ : length s₁ ≡ length s = length-set s p a in
      let size₂ : length s₂ ≡ length s₁ = length-set s₁ q b in (
        get_or-set_other s₂ r p c 0 (λ e. omega arith) ∙ (get_or-set_other s₁ q p b 0 (λ e. omega arith) ∙ get_or-set_same s p a 0 first),
        get_or-set_other s₂ r q c 0 (λ e. omega arith) ∙ get_or-set_same s₁ q b 0 (omega arith),
        get_or-set_same s₂ r c 0 (omega arith),
      )

-- A clause's four words: three of them, and one behind.
four_only : (lo hi : ℕ) (s : List ℕ) (p q r o a b c d : ℕ) → lo ≤ p → p < hi → lo ≤ q → q < hi → lo ≤ r → r < hi → lo ≤ o → o < hi
    → Only lo hi s (set (set (set (set s p a) q b) r c) o d)
four_only lo hi s p q r o a b c d x x' y y' z z' w w' =
    let s₃ = set (set (set s p a) q b) r c in
    only_then lo hi s s₃ (set s₃ o d) (three_only lo hi s p q r a b c x x' y y' z z') (only_set lo hi s₃ o d w w')

-- The clause k: first its head, then its guards, then its body, then the four words.
module _ (names : List Place) (k : ℕ) (few : k < 128) (c : Clause) (laid : ClauseLaid (spellings names) c) (s : List ℕ) where
  abbrev base : ℕ
  base = clause_base k

  abbrev p : CellPlaces
  p = item_places names (clause_base k)

  abbrev r : ℕ
  r = clause_record k

  abbrev mid : ℕ
  mid = laid.behind_head

  abbrev low : ℕ
  low = laid.behind_guards

  abbrev hi : ℕ
  hi = c.compounds

  abbrev s₁ : List ℕ
  s₁ = stored p (as_term c.head) s

  abbrev s₂ : List ℕ
  s₂ = guards_stored p (clause_tests_from k) c.guards s₁

  abbrev s₃ : List ℕ
  s₃ = goals_stored p (clause_goals_from k) c.body s₂

  abbrev s₄ : List ℕ
  s₄ = set (set (set (set s₃ (r + 1) c.pairs) (r + 2) c.compounds) (r + 3) (length c.body)) (r + 12) (length c.guards)

  ordered : (mid ≤ low) × (low ≤ hi) × (hi ≤ 32) × (length c.body ≤ 8) × (length c.guards ≤ 8)
  ordered = (
    guards_numbered_order mid low c.guards laid.guards_numbered,
    goals_numbered_order low hi c.body laid.body_numbered,
    laid.few_compounds,
    laid.few_goals,
    laid.few_guards,
  )

  head_only : Only (item_place base 0) (item_place base mid) s s₁
  unfolding item_places
  head_only = stored_only p base (λ n. refl) 0 mid (as_term c.head) s laid.head_numbered

  guards_only : OnlyTwo (r + 16) (r + 16 + length c.guards) (item_place base mid) (item_place base low) s₁ s₂
  unfolding item_places
  guards_only =
      guards_two p base (λ n. refl) (r + 16) mid low (spellings names) c.guards s₁ (omega (arith, ordered.4)) laid.guards_numbered laid.guards_known

  goals_only : OnlyTwo (r + 4) (r + 4 + length c.body) (item_place base low) (item_place base hi) s₂ s₃
  unfolding item_places
  goals_only = goals_two p base (λ n. refl) (r + 4) low hi c.body s₂ (omega (arith, ordered.3)) laid.body_numbered

  words_only : (lo end : ℕ) → lo ≤ r + 1 → r + 12 < end → Only lo end s₃ s₄
  words_only lo end l h =
      four_only lo end s₃ (r + 1) (r + 2) (r + 3) (r + 12) c.pairs c.compounds (length c.body) (length c.guards)
      (omega arith) (omega arith) (omega arith) (omega arith) (omega arith) (omega arith) (omega arith) (omega arith)

  pub clause_two : OnlyTwo (clause_pairs_word k) (clause_end k) (item_start (clause_base k)) (item_end (clause_base k)) s (clause_stored names k c s)
  unfolding clause_stored
  clause_two =
      let (a, b, d, e, f) = ordered in
      let x = r + 1 in
      let y = clause_end k in
      let v = item_start base in
      let w = item_end base in
      two_then x y v w s s₁ s₄ (two_second x y v w (item_place base 0) (item_place base mid) s s₁ (omega arith) (omega arith) (omega arith) head_only)
      (two_then x y v w s₁ s₂ s₄
      (two_wider (r + 16) (r + 16 + length c.guards) (item_place base mid) (item_place base low) x y v w s₁ s₂ (omega arith) (omega arith) (omega arith) (omega arith) guards_only)
      (two_then x y v w s₂ s₃ s₄
      (two_wider (r + 4) (r + 4 + length c.body) (item_place base low) (item_place base hi) x y v w s₂ s₃ (omega arith) (omega arith) (omega arith) (omega arith) goals_only)
      (two_first x y v w x y s₃ s₄ (omega arith) (omega arith) (omega arith) (words_only x y (omega arith) (omega arith)))))

  -- Words of the record that are none of the four, and words behind it, stay.
  four_others : (j : ℕ) → (j ≡ r + 1 → ⊥) → (j ≡ r + 2 → ⊥) → (j ≡ r + 3 → ⊥) → (j ≡ r + 12 → ⊥) → get_or s₄ j 0 ≡ get_or s₃ j 0
  four_others j x y z w =
      get_or-set_other (set (set (set s₃ (r + 1) c.pairs) (r + 2) c.compounds) (r + 3) (length c.body)) (r + 12) j (length c.guards) 0 w
      ∙ (get_or-set_other (set (set s₃ (r + 1) c.pairs) (r + 2) c.compounds) (r + 3) j (length c.body) 0 z
      ∙ (get_or-set_other (set s₃ (r + 1) c.pairs) (r + 2) j c.compounds 0 y ∙ get_or-set_other s₃ (r + 1) j c.pairs 0 x))

  pub clause_holds : compounds_region ≤ length s → HoldsClause (clause_stored names k c s) (spellings names) k c
  unfolding clause_stored item_places
  clause_holds inside =
      let (a, b, d, e, f) = ordered in
      let size₁ : length s₁ ≡ length s = head_only.size in
      let size₂ : length s₂ ≡ length s₁ = guards_only.size in
      let size₃ : length s₃ ≡ length s₂ = goals_only.size in
      let size₄ : length s₄ ≡ length s₃ = (words_only (r + 1) (r + 13) (omega arith) (omega arith)).size in
      let three = set (set (set s₃ (r + 1) c.pairs) (r + 2) c.compounds) (r + 3) (length c.body) in
      let size₅ : length three ≡ length s₃ = (three_only (r + 1) (r + 4) s₃ (r + 1) (r + 2) (r + 3) c.pairs c.compounds (length c.body)
      (omega arith) (omega arith) (omega arith) (omega arith) (omega arith) (omega arith)).size in
      let words = three_words s₃ (r + 1) (r + 2) (r + 3) c.pairs c.compounds (length c.body)
      (omega arith) (omega arith) (omega arith) (omega arith) (omega arith) in
      let last : (j : ℕ) → (j ≡ r + 12 → ⊥) → get_or s₄ j 0 ≡ get_or three j 0 = λ j x. get_or-set_other three (r + 12) j (length c.guards) 0 x in
      let none : r + 4 + 0 ≡ r + 4 = omega arith in
      let nothing : r + 16 + 0 ≡ r + 16 = omega arith in
      record {
        laid = laid;
        pairs = last (r + 1) (λ q. omega arith) ∙ words.0;
        compounds = last (r + 2) (λ q. omega arith) ∙ words.1;
        goals = last (r + 3) (λ q. omega arith) ∙ words.2;
        guards = get_or-set_same three (r + 12) (length c.guards) 0 (omega arith);
        head = holds_kept p base (λ n. refl) (λ n. refl) s₁ s₄ (omega arith) 0 mid (as_term c.head)
            (λ j l h. four_others j (λ q. omega arith) (λ q. omega arith) (λ q. omega arith) (λ q. omega arith)
            ∙ (goals_only.between j (omega arith) (omega arith) ∙ guards_only.between j (omega arith) h))
            laid.head_numbered (stored_holds p base (λ n. refl) (λ n. refl) 0 mid (as_term c.head) s laid.head_numbered (omega arith));
        body = holds_goals_kept p base (λ n. refl) (λ n. refl) s₃ s₄ (omega arith) (r + 4) 0 low hi c.body
            (λ j l h. four_others (r + 4 + j) (λ q. omega arith) (λ q. omega arith) (λ q. omega arith) (λ q. omega arith))
            (λ j l h. four_others j (λ q. omega arith) (λ q. omega arith) (λ q. omega arith) (λ q. omega arith)) laid.body_numbered
            (rw none at (goals_hold p base (λ n. refl) (λ n. refl) (r + 4) 0 low hi c.body s₂ (omega arith) (omega arith) laid.body_numbered));
        tests = holds_guards_kept p base (λ n. refl) (λ n. refl) s₂ s₄ (omega arith) (r + 16) 0 mid low (spellings names) c.guards
            (λ j l h. four_others (r + 16 + j) (λ q. omega arith) (λ q. omega arith) (λ q. omega arith) (λ q. omega arith)
            ∙ goals_only.between (r + 16 + j) (omega arith) (omega arith))
            (λ j l h. four_others j (λ q. omega arith) (λ q. omega arith) (λ q. omega arith) (λ q. omega arith)
            ∙ goals_only.between j (omega arith) (omega arith))
            laid.guards_numbered laid.guards_known
            (rw nothing at (guards_hold p base (λ n. refl) (λ n. refl) (r + 16) 0 mid low (spellings names) c.guards s₁ (omega arith) (omega arith) (omega arith)
            laid.guards_numbered laid.guards_known));
      }

-- The query k, with where its variables first stand.
module _ (names : List Place) (k : ℕ) (few : k < 8) (q : Query) (laid : QueryLaid (spellings names) q) (vs : List Place) (few_places : length vs ≤ 16)
    (s : List ℕ) where
  pub query_two : OnlyTwo (query_record k) (query_end k) (item_start (query_base k)) (item_end (query_base k)) s (query_stored names k q vs s)
  unfolding query_stored item_places
  query_two =
      let p = item_places names (query_base k) in
      let base = query_base k in
      let r = query_record k in
      let b = r + 64 in
      let v = item_start base in
      let w = item_end base in
      let hi = q.compounds in
      let few_compounds : hi ≤ 32 = laid.few_compounds in
      let few_goals : length q.goals ≤ 8 = laid.few_goals in
      let s₁ = goals_stored p (r + 8) q.goals s in
      let s₂ = set (set (set s₁ r (length q.goals)) (r + 1) (length q.variables)) (r + 2) q.compounds in
      let s₃ = places_stored (r + 16) vs s₂ in
      two_then r b v w s s₁ s₃
      (two_wider (r + 8) (r + 8 + length q.goals) (item_place base 0) (item_place base hi) r b v w s s₁ (omega arith) (omega arith) (omega arith) (omega arith)
      (goals_two p base (λ n. refl) (r + 8) 0 hi q.goals s (omega arith) laid.numbered))
      (two_then r b v w s₁ s₂ s₃
      (two_first r b v w r b s₁ s₂ (omega arith) (omega arith) (omega arith)
      (three_only r b s₁ r (r + 1) (r + 2) (length q.goals) (length q.variables) q.compounds
      (omega arith) (omega arith) (omega arith) (omega arith) (omega arith) (omega arith)))
      (two_first r b v w (r + 16) (r + 16 + 2 * length vs) s₂ s₃ (omega arith) (omega arith) (omega arith) (places_only (r + 16) vs s₂)))

  pub query_holds : compounds_region ≤ length s → HoldsQuery (query_stored names k q vs s) (spellings names) k q
  unfolding query_stored item_places
  query_holds inside =
      let p = item_places names (query_base k) in
      let base = query_base k in
      let r = query_record k in
      let hi = q.compounds in
      let few_compounds : hi ≤ 32 = laid.few_compounds in
      let few_goals : length q.goals ≤ 8 = laid.few_goals in
      let s₁ = goals_stored p (r + 8) q.goals s in
      let s₂ = set (set (set s₁ r (length q.goals)) (r + 1) (length q.variables)) (r + 2) q.compounds in
      let s₃ = places_stored (r + 16) vs s₂ in
      let size₁ : length s₁ ≡ length s = (goals_two p base (λ n. refl) (r + 8) 0 hi q.goals s (omega arith) laid.numbered).size in
      let three : Only r (r + 3) s₁ s₂
      = three_only r (r + 3) s₁ r (r + 1) (r + 2) (length q.goals) (length q.variables) q.compounds
      (omega arith) (omega arith) (omega arith) (omega arith) (omega arith) (omega arith) in
      let size₂ : length s₂ ≡ length s₁ = three.size in
      let last : Only (r + 16) (r + 16 + 2 * length vs) s₂ s₃ = places_only (r + 16) vs s₂ in
      let size₃ : length s₃ ≡ length s₂ = last.size in
      let words = three_words s₁ r (r + 1) (r + 2) (length q.goals) (length q.variables) q.compounds
      (omega arith) (omega arith) (omega arith) (omega arith) (omega arith) in
      let none : r + 8 + 0 ≡ r + 8 = omega arith in
      record {
        laid = laid;
        goals = last.below r (omega arith) ∙ words.0;
        pairs = last.below (r + 1) (omega arith) ∙ words.1;
        compounds = last.below (r + 2) (omega arith) ∙ words.2;
        words = holds_goals_kept p base (λ n. refl) (λ n. refl) s₁ s₃ (omega arith) (r + 8) 0 0 hi q.goals
            (λ j l h. last.below (r + 8 + j) (omega arith) ∙ three.above (r + 8 + j) (omega arith))
            (λ j l h. last.above j (omega arith) ∙ three.above j (omega arith)) laid.numbered
            (rw none at (goals_hold p base (λ n. refl) (λ n. refl) (r + 8) 0 0 hi q.goals s (omega arith) (omega arith) laid.numbered));
      }
