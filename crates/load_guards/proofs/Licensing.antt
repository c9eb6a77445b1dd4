-- Which readers the first guards license: one guard more licenses at most one reader more.
use Prim.Native.Nat.{ℕ, suc, ◌+◌, ◌≤◌, ◌<◌}
use mathlib.Core.Path.{◌≡◌, refl, sym, ap, ◌∙◌}
use mathlib.Core.Bool.{Bool, true, false, ◌&&◌, ◌||◌}
use mathlib.Core.List.{List, [], ◌∷◌, ◌++◌, append_assoc}
use native.Mathlib.Omega.{arith}
use lib.Dec.{leb, eqb}
use lib.ListN.{length, get_or, set, replicate, length-set, length-append, length-replicate, get_or-replicate}
use lib.Seq.{get_or-set_same, get_or-set_other}
use borrow.Author.Tests.{eqb-true, eqb-false, leb-true}
use Rattle.std.specs.Prelude.{Option as Told, Some, None}
use Rattle.std.proofs.Math.Bool.{or-true, or-false, or_assoc}
use Rattle.std.proofs.lemmas.List.{append-nil}
use Rattle.meaning.specs.Bytes.{any, when◌then◌else◌}
use Rattle.meaning.specs.Terms.{Guard}
use Rattle.meaning.specs.Table.{is_reader, licensed}
use Rattle.term.specs.Guards.{HoldsGuards}
use Rattle.load_names.specs.Places.{Place, item_places}
use Rattle.load_guards.specs.Judged.{Tabled, Tests, TestAt, marks, marked, Licences}

-- One guard more.
licensed_more : (gs : List Guard) (g : Guard) (m : ℕ) → licensed (gs ++ (g ∷ [])) m ≡ (licensed gs m || (g.row.means_ground && is_reader m g.arguments))
unfolding licensed any
licensed_more [] g m = or-false (g.row.means_ground && is_reader m g.arguments)
licensed_more (h ∷ gs) g m =
    rw (licensed_more gs g m)
    (sym (or_assoc (h.row.means_ground && is_reader m h.arguments) (licensed gs m) (g.row.means_ground && is_reader m g.arguments)))

pub marked_length : (table : List ℕ) (m : ℕ) → length (marked table m) ≡ length table
unfolding marked when◌then◌else◌
marked_length table m = go (leb 16 m)
  where
    go : (b : Bool) → length (when b then table else set table m 1) ≡ length table
    go true = refl
    go false = length-set table m 1

pub record Licensing (s : List ℕ) (place base : ℕ) (known : List Place) (gs : List Guard) (i : ℕ) (table : List ℕ) : Type 0 where
  pub done : List Guard
  pub left : List Guard
  pub all_are : gs ≡ done ++ left
  pub count_is : length done ≡ i
  pub told : Licences table done
  pub held : HoldsGuards s (item_places known base) place i left
  pub tabled : Tabled left

module _ (s : List ℕ) (place n base : ℕ) (known : List Place) (gs : List Guard) (t : Tests s place n base known gs) where
  pub none_yet : Licensing s place base known gs 0 (replicate 16 0)
  unfolding licensed any when◌then◌else◌
  none_yet =
      record {
        done = [];
        left = gs;
        all_are = refl;
        count_is = refl;
        told = record { size = length-replicate {A = ℕ} 16 0; licences = λ m l. get_or-replicate {A = ℕ} 16 m 0 0 l };
        held = t.held;
        tabled = t.tabled;
      }

  module _ (i : ℕ) (table : List ℕ) (p : Licensing s place base known gs i table) where
    total : i + length p.left ≡ n
    total = omega (arith, ap length p.all_are, length-append p.done p.left, p.count_is, t.count_is)

    pub all_told : n ≤ i → Licences table gs
    all_told h = go p.left refl
      where
        go : (left : List Guard) → p.left ≡ left → Licences table gs
        go [] q = rw (p.all_are, q, append-nil p.done) p.told
        go (g ∷ left) q = let some_left : length p.left ≡ suc (length left) = rw q refl in absurd (omega (arith, total))

    module _ (further : i < n) where
      pub first : (g : Guard) × (others : List Guard) × (p.left ≡ g ∷ others)
      first = go p.left refl
        where
          go : (left : List Guard) → p.left ≡ left → (g : Guard) × (others : List Guard) × (p.left ≡ g ∷ others)
          go [] q = let none_left : length p.left ≡ 0 = rw q refl in absurd (omega (arith, total))
          go (g ∷ others) q = (g, others, q)

      pub test_at : TestAt s (get_or s (place + i) 0) base known first.0
      unfolding HoldsGuards Tabled
      test_at =
          let held = rw first.2 at p.held in
          let tabled = rw first.2 at p.tabled in
          record { word_is = held.0; inside = held.1; held = held.2; in_table = tabled.0 }

      goes_on : (table' : List ℕ) → Licences table' (p.done ++ (first.0 ∷ [])) → Licensing s place base known gs (i + 1) table'
      unfolding HoldsGuards Tabled
      goes_on table' told =
          record {
            done = p.done ++ (first.0 ∷ []);
            left = first.1;
            all_are = p.all_are ∙ ap (λ l. p.done ++ l) first.2 ∙ sym (append_assoc p.done (first.0 ∷ []) first.1);
            count_is = omega (arith, length-append p.done (first.0 ∷ []), p.count_is);
            told = told;
            held = (rw first.2 at p.held).3;
            tabled = (rw first.2 at p.tabled).1;
          }

      -- What `grounded` tells of the next guard.
      module _ (o : Told ℕ)
          (told : (b : ℕ) (k : List Place) (g : Guard) → TestAt s (get_or s (place + i) 0) b k g → (m : ℕ) → (g.row.means_ground && is_reader m g.arguments) ≡ marks m o) where
        told_now : (m : ℕ) → licensed (p.done ++ (first.0 ∷ [])) m ≡ (licensed p.done m || marks m o)
        told_now m = licensed_more p.done first.0 m ∙ rw (told base known first.0 test_at m) refl

        pub none_more : o ≡ None → Licensing s place base known gs (i + 1) table
        none_more h =
            goes_on table (record {
              size = p.told.size;
              licences = λ m l. rw (told_now m, h, or-false (licensed p.done m)) (p.told.licences m l);
            })

        pub one_more : (r : ℕ) → o ≡ Some r → Licensing s place base known gs (i + 1) (marked table r)
        unfolding marked when◌then◌else◌
        one_more r h = goes_on (marked table r) (record { size = marked_length table r ∙ p.told.size; licences = λ m l. go m l (leb 16 r) refl (eqb m r) refl })
          where
            go : (m : ℕ) → m < 16 → (a : Bool) → leb 16 r ≡ a → (b : Bool) → eqb m r ≡ b
                → get_or (when a then table else set table r 1) m 0 ≡ (when licensed (p.done ++ (first.0 ∷ [])) m then 1 else 0)
            go m l true few true e = let here = eqb-true m r e in absurd (omega (arith, leb-true 16 r few))
            go m l true few false e = rw (told_now m, h, e, or-false (licensed p.done m)) (p.told.licences m l)
            go m l false few true e =
                let here : m ≡ r = eqb-true m r e in
                rw (told_now m, h, e, or-true (licensed p.done m), here) (get_or-set_same table r 1 0 (omega (arith, p.told.size)))
            go m l false few false e =
                rw (told_now m, h, e, or-false (licensed p.done m)) (get_or-set_other table r m 1 0 (eqb-false m r e) ∙ p.told.licences m l)
