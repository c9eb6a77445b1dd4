-- The table of the names: what a place of it says, and that the table with one name more holds the places with that one.
-- The four words that are written lie apart from all that was kept, so each is read by the store that wrote it.
use Prim.Native.Nat.{ℕ, suc, ◌+◌, ◌*◌, ◌≤◌, ◌<◌}
use mathlib.Core.Path.{◌≡◌, refl, sym, ◌∙◌}
use mathlib.Core.Bool.{Bool, true, false}
use mathlib.Core.List.{List, [], ◌∷◌, ◌++◌}
use mathlib.Core.Option.{none, some}
use mathlib.Core.Logic.{◌≢◌}
use native.Mathlib.Omega.{arith}
use native.Mathlib.Numerals.{add-one}
use lib.Dec.{eqb}
use borrow.Author.Tests.{eqb-true, eqb-false}
use lib.ListN.{length, get_or, set, replicate, length-set, length-replicate, get_or-append}
use lib.Seq.{slice, get_or-append_seam, get_or-set_same, get_or-set_other}
use Rattle.meaning.specs.Bytes.{Bytes}
use Rattle.meaning.specs.Items.{place_of}
use Rattle.load_names.specs.Places.{Place, spellings}
use Rattle.load_names.specs.Tables.{hash_of, no_place, last_with, StandsAt, NamesIn, stored_name}
use Rattle.load_names.specs.Answers.{NameIs}
use Rattle.std.specs.Prelude.{Some, None}
use Rattle.load_names.proofs.Lists.{length_more, each_more, getD_zeros}
use Rattle.load_names.proofs.Spellings.{has_place, with_known, not_known, with_new, new_place, not_spelled}
use Rattle.load_names.proofs.Hashes.{hash_fits, last_hit, last_miss, last_before}

pub name_stands : (text : Bytes) (places : List Place) (table : List ℕ) → NamesIn text places table → (n : ℕ) → n < length places
    → StandsAt text table n (get_or places n no_place).spelling
name_stands text places table kept n h = record {
  kept = omega (arith, kept.size, kept.few);
  size = kept.lengths n h;
  inside = rw (kept.starts n h) (kept.inside n h);
  spelled = rw (kept.starts n h) (kept.spelled n h);
}

-- A table of zeros holds no name.
pub no_names : (text : Bytes) → NamesIn text [] (replicate 1024 0)
unfolding last_with
no_names text = record {
  size = length-replicate {A = ℕ} 1024 0;
  few = omega arith;
  starts = λ n h. absurd (omega arith);
  lengths = λ n h. absurd (omega arith);
  inside = λ n h. absurd (omega arith);
  spelled = λ n h. absurd (omega arith);
  distinct = λ m n k h. absurd (omega arith);
  heads = λ h k. getD_zeros 1024 (512 + h);
  chains = λ n h. absurd (omega arith);
  unused = λ k l h. getD_zeros 1024 k;
}

-- The table after the first, the second and the third of the four stores.
abbrev started : List ℕ → ℕ → ℕ → List ℕ
started t c start = set t (2 * c) start

abbrev sized : List ℕ → ℕ → ℕ → ℕ → List ℕ
sized t c start size = set (started t c start) (2 * c + 1) size

abbrev linked : List ℕ → ℕ → ℕ → ℕ → ℕ → List ℕ
linked t c h start size = set (sized t c start size) (768 + c) (get_or t (512 + h) 0)

-- The words of the table after all four.
module _ (t : List ℕ) (c h start size : ℕ) (few : c < 256) (fits : h < 256) (long : length t ≡ 1024) where
  other : (k : ℕ) → k ≢ 2 * c → k ≢ 2 * c + 1 → k ≢ 768 + c → k ≢ 512 + h → get_or (stored_name t c h start size) k 0 ≡ get_or t k 0
  other k p q r s =
      get_or-set_other (linked t c h start size) (512 + h) k (c + 1) 0 s
      ∙ get_or-set_other (sized t c start size) (768 + c) k (get_or t (512 + h) 0) 0 r
      ∙ get_or-set_other (started t c start) (2 * c + 1) k size 0 q
      ∙ get_or-set_other t (2 * c) k start 0 p

  at_start : get_or (stored_name t c h start size) (2 * c) 0 ≡ start
  at_start =
      get_or-set_other (linked t c h start size) (512 + h) (2 * c) (c + 1) 0 (omega arith)
      ∙ get_or-set_other (sized t c start size) (768 + c) (2 * c) (get_or t (512 + h) 0) 0 (omega arith)
      ∙ get_or-set_other (started t c start) (2 * c + 1) (2 * c) size 0 (omega arith)
      ∙ get_or-set_same t (2 * c) start 0 (omega arith)

  at_size : get_or (stored_name t c h start size) (2 * c + 1) 0 ≡ size
  at_size =
      get_or-set_other (linked t c h start size) (512 + h) (2 * c + 1) (c + 1) 0 (omega arith)
      ∙ get_or-set_other (sized t c start size) (768 + c) (2 * c + 1) (get_or t (512 + h) 0) 0 (omega arith)
      ∙ get_or-set_same (started t c start) (2 * c + 1) size 0 (simp length-set (omega arith))

  at_link : get_or (stored_name t c h start size) (768 + c) 0 ≡ get_or t (512 + h) 0
  at_link =
      get_or-set_other (linked t c h start size) (512 + h) (768 + c) (c + 1) 0 (omega arith)
      ∙ get_or-set_same (sized t c start size) (768 + c) (get_or t (512 + h) 0) 0 (simp length-set (omega arith))

  at_head : get_or (stored_name t c h start size) (512 + h) 0 ≡ c + 1
  at_head = get_or-set_same (linked t c h start size) (512 + h) (c + 1) 0 (simp length-set (omega arith))

module _ (text : Bytes) (places : List Place) (table : List ℕ) (p : Place) (kept : NamesIn text places table)
    (few : length places < 256)
    (inside : p.at + length p.spelling ≤ length text)
    (spelled : slice p.at (p.at + length p.spelling) text ≡ p.spelling)
    (new : (m : ℕ) → m < length places → (get_or places m no_place).spelling ≡ p.spelling → ⊥) where
  same_word : (k : ℕ) → k ≢ 2 * length places → k ≢ 2 * length places + 1 → k ≢ 768 + length places → k ≢ 512 + hash_of p.spelling
      → get_or (stored_name table (length places) (hash_of p.spelling) p.at (length p.spelling)) k 0 ≡ get_or table k 0
  same_word = other table (length places) (hash_of p.spelling) p.at (length p.spelling) few (hash_fits p.spelling) kept.size

  new_at : get_or (places ++ (p ∷ [])) (length places) no_place ≡ p
  new_at = get_or-append_seam places p [] no_place

  distinct_more : (n : ℕ) → n < length (places ++ (p ∷ [])) → (m : ℕ) → m < n
      → (get_or (places ++ (p ∷ [])) m no_place).spelling ≡ (get_or (places ++ (p ∷ [])) n no_place).spelling → ⊥
  distinct_more =
      each_more (λ n q. (m : ℕ) → m < n → (get_or (places ++ (p ∷ [])) m no_place).spelling ≡ q.spelling → ⊥) places p no_place
      (λ n k m l e. kept.distinct m n l k (rw (get_or-append places (p ∷ []) no_place m (omega arith)) at e))
      (λ m l e. new m l (rw (get_or-append places (p ∷ []) no_place m (omega arith)) at e))

  head_more : (g : ℕ) → g < 256 → (t : Bool) → eqb (hash_of p.spelling) g ≡ t
      → get_or (stored_name table (length places) (hash_of p.spelling) p.at (length p.spelling)) (512 + g) 0
      ≡ last_with g (places ++ (p ∷ [])) (suc (length places))
  head_more g k true e =
      let hashed : hash_of p.spelling ≡ g = eqb-true _ _ e in
      rw (← hashed)
      (at_head table (length places) (hash_of p.spelling) p.at (length p.spelling) few (hash_fits p.spelling) kept.size
      ∙ add-one (length places)
      ∙ sym (last_hit (hash_of p.spelling) (places ++ (p ∷ [])) (length places) (rw new_at)))
  head_more g k false e =
      let hashed : hash_of p.spelling ≡ g → ⊥ = eqb-false _ _ e in
      same_word (512 + g) (omega arith) (omega arith) (omega arith) (λ w. hashed (omega arith))
      ∙ kept.heads g k
      ∙ sym (last_before g places (p ∷ []) (length places) (omega arith))
      ∙ sym (last_miss g (places ++ (p ∷ [])) (length places) (rw new_at hashed))

  -- The words of the new name are those of the picture in src/names.rt; all others are as they were.
  name_added : NamesIn text (places ++ (p ∷ [])) (stored_name table (length places) (hash_of p.spelling) p.at (length p.spelling))
  name_added =
      let c = length places in
      let h = hash_of p.spelling in
      let fits = hash_fits p.spelling in
      let bytes = length p.spelling in
      let after = stored_name table c h p.at bytes in
      record {
        size = simp length-set kept.size;
        few = rw (length_more places p) few;
        starts = each_more (λ n q. get_or after (2 * n) 0 ≡ q.at) places p no_place
            (λ n k. same_word (2 * n) (omega arith) (omega arith) (omega arith) (omega arith) ∙ kept.starts n k)
            (at_start table c h p.at bytes few fits kept.size);
        lengths = each_more (λ n q. get_or after (2 * n + 1) 0 ≡ length q.spelling) places p no_place
            (λ n k. same_word (2 * n + 1) (omega arith) (omega arith) (omega arith) (omega arith) ∙ kept.lengths n k)
            (at_size table c h p.at bytes few fits kept.size);
        inside = each_more (λ n q. q.at + length q.spelling ≤ length text) places p no_place kept.inside inside;
        spelled = each_more (λ n q. slice q.at (q.at + length q.spelling) text ≡ q.spelling) places p no_place kept.spelled spelled;
        distinct = λ m n k l. distinct_more n l m k;
        heads = λ g k. rw (length_more places p) (head_more g k (eqb h g) refl);
        chains = each_more (λ n q. get_or after (768 + n) 0 ≡ last_with (hash_of q.spelling) (places ++ (p ∷ [])) n) places p no_place
            (λ n k. same_word (768 + n) (omega arith) (omega arith) (omega arith) (omega arith)
            ∙ kept.chains n k
            ∙ sym (last_before _ places (p ∷ []) n (omega arith)))
            (at_link table c h p.at bytes few fits kept.size ∙ kept.heads h fits ∙ sym (last_before h places (p ∷ []) c (omega arith)));
        unused = λ k l u.
            let m : 2 * suc c ≤ k = rw (length_more places p) at l in
            same_word k (omega arith) (omega arith) (omega arith) (omega arith) ∙ kept.unused k (omega arith) u;
      }

-- What `number` answers: of a name that is known, of a new one, and of the 257th.
module _ (text : Bytes) (places : List Place) (table : List ℕ) (count at : ℕ) (f : Bytes) (kept : NamesIn text places table)
    (counted : count ≡ length places) where
  pub name_known : (n : ℕ) → place_of f (spellings places) ≡ some n → NameIs text places at f table table (Some (n, count))
  name_known n h = rw (with_known f places n at h) (kept, counted, rw counted (has_place f places n h), h)

  pub name_new : (h size : ℕ) (table' : List ℕ) → place_of f (spellings places) ≡ none → count < 256
      → (at + length f ≤ length text) × (slice at (at + length f) text ≡ f) → h ≡ hash_of f → size ≡ length f
      → table' ≡ stored_name table count h at size → NameIs text places at f table table' (Some (count, count + 1))
  name_new h size table' unknown few part hashed sized after =
      let p : Place = record { at = at; spelling = f } in
      let added = name_added text places table p kept (rw counted at few) part.0 part.1 (not_spelled f places unknown) in
      rw (with_new f places at unknown) (
        rw (after, counted, hashed, sized) added,
        rw (counted, length_more places p, add-one (length places)),
        omega arith,
        rw counted (new_place f places at unknown),
      )

  pub name_passed : place_of f (spellings places) ≡ none → 256 ≤ count → NameIs text places at f table table None
  name_passed h many = (not_known f places h, rw counted at many, refl)
