-- From a live pair, a path through values to a pair that is not closed leads through live pairs only, each held by its reader.
-- So a path from one assigned pair to another that is not closed is a chain to that other's reader.
use Prim.Native.Nat.{ℕ, ◌≤◌}
use mathlib.Core.Path.{◌≡◌}
use mathlib.Core.Bool.{false}
use mathlib.Core.List.{List}
use mathlib.Core.Option.{some}
use native.Mathlib.Omega.{arith}
use Rattle.meaning.specs.Terms.{Half, writer, reader, Term, end, more, occurrences, all_occurrences}
use Rattle.meaning.specs.State.{Values, value}
use Rattle.meaning.specs.Compare.{Assignment}
use Rattle.laws.proofs.Terms.{Stands, stands_occurs}
use Rattle.laws.proofs.Circle.Leaning.{Leans, Links, one, first}
use Rattle.laws.proofs.Single.Closed.{closed}
use Rattle.laws.proofs.Single.LiveValues.{Count, marks, Settled, Fair, no_writer_marks, taken_out}
use Rattle.laws.proofs.Single.Chains.{Reaches, here, through}
use Rattle.laws.proofs.Elsewhere.Open.{links_open}

-- A pair from which a path begins has a value.
pub links_value : {values : Values} {i j : ℕ} → Links values i j → (t : Term) × (value values i ≡ some t)
unfolding Leans
links_value (one (t, e, s)) = (t, e)
links_value (first (t, e, s) further) = (t, e)

module _ (values : Values) (c : Count) (live : List Assignment) (settled : Settled values live) (fair : Fair values c live) where
  -- What a live pair's value holds of an assigned pair that is not closed is its reader, and that pair is live.
  held_reader : (i j : ℕ) (t u : Term) → value values i ≡ some t → 1 ≤ marks reader reader i live → Stands j t → value values j ≡ some u
      → closed values j ≡ false → (1 ≤ occurrences reader j t) × (1 ≤ marks reader reader j live)
  held_reader i j t u e m s f unshut = go (stands_occurs t j s)
    where
      go : (h : Half) × (1 ≤ occurrences h j t) → (1 ≤ occurrences reader j t) × (1 ≤ marks reader reader j live)
      go (writer, o) =
          absurd (omega (arith, fair writer j u unshut f, no_writer_marks j live, (taken_out values i t live settled e m).values_out writer j))
      go (reader, o) = (o, omega (arith, fair reader j u unshut f, (taken_out values i t live settled e m).values_out reader j))

  -- A path from a live pair to an assigned one that is not closed is a chain from the first one's value to the other's reader.
  pub live_reaches : {i j : ℕ} (t u : Term) → value values i ≡ some t → 1 ≤ marks reader reader i live → Links values i j → value values j ≡ some u
      → closed values j ≡ false → Reaches values j (more t end)
  unfolding Leans all_occurrences
  live_reaches {i} {j} t u e m (one (v, f, s)) g unshut =
      let same : t ≡ v = cc in
      here {ts = more t end} (omega (arith, (held_reader i j t u e m (rw same s) g unshut).0))
  live_reaches {i} {j} t u e m (first {j = k} (v, f, s) further) g unshut =
      let same : t ≡ v = cc in
      let (w, q) = links_value further in
      let (o, n) = held_reader i k t w e m (rw same s) q (links_open values further unshut) in
      through {ts = more t end} reader k w (omega arith) q (live_reaches w u q n further g unshut)
