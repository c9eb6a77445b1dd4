-- What the code asks and tells behind an argument, by the kind of its compound.
use Prim.Native.Nat.{ℕ, ◌+◌, ◌<◌}
use mathlib.Core.Path.{◌≡◌}
use mathlib.Core.Logic.{◌≢◌}
use mathlib.Core.List.{List}
use native.Mathlib.Omega.{arith}
use lib.ListN.{length, get_or}
use Rattle.meaning.specs.Bytes.{Bytes}
use Rattle.meaning.specs.Terms.{Functor, cell, named, Term, Terms, end, more, count}
use Rattle.term.specs.Setting.{Setting}
use Rattle.term.specs.Words.{rest_in}
use Rattle.report_pairs.specs.Facts.{Shows}
use Rattle.report_pairs.specs.Walk.{Position, Found}
use Rattle.std.specs.Prelude.{Option, None}
use Rattle.report_pairs.proofs.Walking.{position_named, position_cell, position_element, position_tail, tail_shows}

module _ (s : List ℕ) (x : Setting) (p i j : ℕ) (f : Functor) (u : Term) (us : Terms) (a : Position s x p i j f u us) where
  pub named_asks : rest_in (get_or s p 0) ≢ 0
      → (x : Setting) × (f : Bytes) × (j : ℕ) × (u : Term) × (us : Terms) × Position s x p i j (named f) u us
  named_asks d = go (position_named s x p i j f u us a d)
    where
      go : (g : Bytes) × (f ≡ named g) → (x : Setting) × (f : Bytes) × (j : ℕ) × (u : Term) × (us : Terms) × Position s x p i j (named f) u us
      go (g, e) = (x, g, j, u, us, rw e at a)

  pub named_tells : rest_in (get_or s p 0) ≢ 0 → (r : ℕ × Option (ℕ × ℕ))
      → ((x : Setting) (f : Bytes) (j : ℕ) (u : Term) (us : Terms) → Position s x p i j (named f) u us → Found s x (named f) j us r)
      → Found s x f j us r
  named_tells d r told = go (position_named s x p i j f u us a d)
    where
      go : (g : Bytes) × (f ≡ named g) → Found s x f j us r
      go (g, e) = rw e (told x g j u us (rw e at a))

  pub record Tail : Type 0 where
    pub tail_term : Term
    pub position : Position s x p 1 0 cell u (more tail_term end)
    pub shows : Shows s x tail_term (get_or s (p + 2) 0)
    pub inside : p + 2 < length s
    pub tells : (r : ℕ × Option (ℕ × ℕ)) → Found s x cell 0 (more tail_term end) r → Found s x f j us r

  pub tail_asks : rest_in (get_or s p 0) ≡ 0 → i ≡ 1 → Tail
  unfolding count
  tail_asks z one = go (position_cell s x p i j f u us a z)
    where
      with_cell : (e : f ≡ cell) → (v : Term) × (us ≡ more v end) × (j ≡ 0) → Tail
      with_cell e (v, us_is, j_is) =
          let b : Position s x p 1 0 cell u (more v end) = rw (e, us_is, j_is, one) at a in record {
            tail_term = v;
            position = b;
            shows = tail_shows s x p u v b;
            inside = omega (arith, b.cell_at.inside, b.place);
            tells = λ r told. rw (e, us_is, j_is) told;
          }

      go : f ≡ cell → Tail
      go e = with_cell e (position_element s x p i j u us (rw e at a) one)

  pub tail_tells : rest_in (get_or s p 0) ≡ 0 → i ≢ 1 → Found s x f j us (93, None)
  tail_tells z d = go (position_cell s x p i j f u us a z)
    where
      go : f ≡ cell → Found s x f j us (93, None)
      go e = rw e (position_tail s x p i j u us (rw e at a) d)
