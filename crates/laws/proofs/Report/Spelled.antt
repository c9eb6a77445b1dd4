-- What every name of a job satisfies, every name of its runs' states satisfies: a run makes no new spelling.
-- Renaming, replacing and following keep it, and what a comparison assigns is a part of the goal or of the renamed head.
use Prim.Native.Nat.{ℕ, zero, suc}
use mathlib.Core.Path.{◌≡◌, refl}
use mathlib.Core.List.{List, []}
use mathlib.Core.Option.{Option, none, some}
use Rattle.meaning.specs.Bytes.{Bytes}
use Rattle.meaning.specs.Terms.{
  Half,
  Constant,
  integer,
  name,
  empty,
  Functor,
  cell,
  named,
  Term,
  Terms,
  variable,
  constant,
  compound,
  end,
  more,
  Named,
  renamed,
  all_renamed,
  replaced,
  all_replaced,
}
use Rattle.meaning.specs.State.{Values, value}
use Rattle.meaning.specs.Compare.{succeeds, followed, places, Assignment}
use Rattle.meaning.specs.Report.{applied}
use Rattle.laws.proofs.Lists.{Each, each_getD}
use Rattle.laws.proofs.Trial.{EachArgument, table_gives}

-- Each name in a term, or in all of some terms, satisfies S.
unfoldable pub ConstantSpelled : (Bytes → Type 0) → Constant → Type 0
ConstantSpelled S (integer i) = Unit {0}
ConstantSpelled S (name f) = S f
ConstantSpelled S empty = Unit {0}

unfoldable pub FunctorSpelled : (Bytes → Type 0) → Functor → Type 0
FunctorSpelled S cell = Unit {0}
FunctorSpelled S (named f) = S f

unfoldable mutual
  pub Spelled : (Bytes → Type 0) → Term → Type 0
  Spelled S (variable h n) = Unit {0}
  Spelled S (constant k) = ConstantSpelled S k
  Spelled S (compound n f ts) = FunctorSpelled S f × AllSpelled S ts

  pub AllSpelled : (Bytes → Type 0) → Terms → Type 0
  AllSpelled S end = Unit {0}
  AllSpelled S (more t ts) = Spelled S t × AllSpelled S ts

unfoldable pub GoalSpelled : (Bytes → Type 0) → Named → Type 0
GoalSpelled S g = S g.name × AllSpelled S g.arguments

unfoldable pub ValueSpelled : (Bytes → Type 0) → Option Term → Type 0
ValueSpelled S none = Unit {0}
ValueSpelled S (some t) = Spelled S t

module _ (S : Bytes → Type 0) where
  mutual
    unfolding renamed all_renamed Spelled AllSpelled

    pub renamed_spelled : (p c : ℕ) (t : Term) → Spelled S t → Spelled S (renamed p c t)
    renamed_spelled p c (variable h n) s = tt
    renamed_spelled p c (constant k) s = s
    renamed_spelled p c (compound n f ts) s = (s.0, all_renamed_spelled p c ts s.1)

    pub all_renamed_spelled : (p c : ℕ) (ts : Terms) → AllSpelled S ts → AllSpelled S (all_renamed p c ts)
    all_renamed_spelled p c end s = tt
    all_renamed_spelled p c (more t ts) s = (renamed_spelled p c t s.0, all_renamed_spelled p c ts s.1)

  mutual
    unfolding replaced all_replaced Spelled AllSpelled

    pub replaced_spelled : (by : Half → ℕ → Term) → ((h : Half) (n : ℕ) → Spelled S (by h n)) → (t : Term) → Spelled S t → Spelled S (replaced by t)
    replaced_spelled by b (variable h n) s = b h n
    replaced_spelled by b (constant k) s = s
    replaced_spelled by b (compound m f ts) s = (s.0, all_replaced_spelled by b ts s.1)

    pub all_replaced_spelled : (by : Half → ℕ → Term) → ((h : Half) (n : ℕ) → Spelled S (by h n)) → (ts : Terms) → AllSpelled S ts → AllSpelled S (all_replaced by ts)
    all_replaced_spelled by b end s = tt
    all_replaced_spelled by b (more t ts) s = (replaced_spelled by b t s.0, all_replaced_spelled by b ts s.1)

  -- Values, following and writing out.
  pub value_spelled : (values : Values) (n : ℕ) → Each (ValueSpelled S) values → ValueSpelled S (value values n)
  unfolding value ValueSpelled
  value_spelled values n v = each_getD (ValueSpelled S) values n none v tt

  pub followed_spelled : (links : ℕ) (values : Values) → Each (ValueSpelled S) values → (t : Term) → Spelled S t → Spelled S (followed links values t)
  unfolding followed ValueSpelled
  followed_spelled zero values v t s = s
  followed_spelled (suc links) values v (variable h p) s = go (value values p) refl (value_spelled values p v) (followed_spelled links values v)
    where
      go : (o : Option Term) → value values p ≡ o → ValueSpelled S (value values p)
          → ((t : Term) → Spelled S t → Spelled S (followed links values t))
          → Spelled S (followed (suc links) values (variable h p))
      go none e u further = rw (e, followed) s
      go (some t) e u further = rw (e, followed) (further t (rw e at u))
  followed_spelled (suc links) values v (constant k) s = s
  followed_spelled (suc links) values v (compound n f ts) s = s

  pub applied_spelled : (links : ℕ) (values : Values) → Each (ValueSpelled S) values → (t : Term) → Spelled S t → Spelled S (applied links values t)
  unfolding applied ValueSpelled Spelled
  applied_spelled zero values v t s = s
  applied_spelled (suc links) values v t s =
      replaced_spelled _ (λ h p. go h p (value values p) (value_spelled values p v) (applied_spelled links values v)) t s
    where
      go : (h : Half) (p : ℕ) (o : Option Term) → ValueSpelled S o → ((t : Term) → Spelled S t → Spelled S (applied links values t))
          → Spelled S (elim o [ none ↦ variable h p | some u ↦ applied links values u ])
      go h p none u further = tt
      go h p (some u) v' further = further u v'

  -- Each argument is spelled.
  each_spelled : (ts : Terms) → AllSpelled S ts → EachArgument (Spelled S) ts
  unfolding AllSpelled EachArgument
  each_spelled end s = tt
  each_spelled (more t ts) s = (s.0, each_spelled ts s.1)

  -- The table: what is assigned is the goal's term, a reader, or the head's term.
  pub given_spelled : (look : Term → Term) → ((t : Term) → Spelled S t → Spelled S (look t))
      → (us ts : Terms) → AllSpelled S us → AllSpelled S ts
      → (given : List Assignment) → places look us ts ≡ succeeds given → Each (λ a. Spelled S a.value) given
  unfolding Spelled
  given_spelled look looks us ts heads goals given agree =
      table_gives (Spelled S) (Spelled S) (Spelled S) (λ a. Spelled S a.value) look
      (λ n f us s. each_spelled us s.1) (λ n f ts s. each_spelled ts s.1) looks
      (λ x t head found. found) (λ z u found head. head)
      us ts (each_spelled us heads) (each_spelled ts goals) given agree
