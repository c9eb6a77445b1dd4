-- Following a chain of values: where it has ended more links change nothing, and all terms on its way have the same end.
use Prim.Native.Nat.{ℕ, zero, suc, ◌-◌, ◌≤◌, ◌<◌}
use mathlib.Core.Path.{◌≡◌, refl, ◌∙◌, sym}
use mathlib.Core.Bool.{false}
use mathlib.Core.Option.{Option, none, some}
use native.Mathlib.Omega.{arith}
use lib.ListN.{length}
use Rattle.meaning.specs.Terms.{Term}
use Rattle.meaning.specs.State.{Values, value}
use Rattle.meaning.specs.Circle.{circle}
use Rattle.meaning.specs.Compare.{followed}
use Rattle.laws.proofs.Circle.Following.{followed_within, followed_unassigned}
use Rattle.term.specs.Chains.{value_of, Leads}

some_none : (u : Term) → ◌≡◌ {A = Option Term} (some u) none → ⊥
some_none u e = let z : ◌≡◌ {A = ℕ} 0 1 = cc in omega arith

module _ (values : Values) where
  pub followed_none : (links : ℕ) (t : Term) → value_of values t ≡ none → followed links values t ≡ t
  unfolding followed
  followed_none zero t e = refl
  followed_none (suc links) (Term.variable h n) e = rw (e, followed)
  followed_none (suc links) (Term.constant k) e = refl
  followed_none (suc links) (Term.compound n f ts) e = refl

  followed_some : (links : ℕ) (t u : Term) → value_of values t ≡ some u → followed (suc links) values t ≡ followed links values u
  unfolding followed
  followed_some links (Term.variable h n) u e = rw (e, followed)
  followed_some links (Term.constant k) u e = absurd (some_none u (sym e))
  followed_some links (Term.compound n f ts) u e = absurd (some_none u (sym e))

  -- Every chain ends.
  ended_by : circle values ≡ false → (v t : Term) → followed (length values) values t ≡ v → value_of values v ≡ none
  ended_by c (Term.variable h n) t e = followed_unassigned values c t h n e
  ended_by c (Term.constant k) t e = refl
  ended_by c (Term.compound n f ts) t e = refl

  pub chains_end : circle values ≡ false → (links : ℕ) → length values ≤ links → (t : Term) → value_of values (followed links values t) ≡ none
  chains_end c links h t = ended_by c (followed links values t) t (sym (followed_within values c links h t))

  -- More links change nothing behind the end.
  followed_ended : (links larger : ℕ) (t : Term) → value_of values (followed links values t) ≡ none → links ≤ larger
      → followed larger values t ≡ followed links values t
  unfolding followed
  followed_ended zero larger t e h = followed_none larger t e
  followed_ended (suc links) zero t e h = absurd (omega arith)
  followed_ended (suc links) (suc larger) t e h = go (value_of values t) refl (followed_ended links larger)
    where
      go : (v : Option Term) → value_of values t ≡ v
          → ((u : Term) → value_of values (followed links values u) ≡ none → links ≤ larger → followed larger values u ≡ followed links values u)
          → followed (suc larger) values t ≡ followed (suc links) values t
      go none q further = followed_none (suc larger) t q ∙ sym (followed_none (suc links) t q)
      go (some u) q further =
          followed_some larger t u q
          ∙ further u (rw (followed_some links t u q) at e) (omega arith)
          ∙ sym (followed_some links t u q)

  -- What is left to follow, so many links further on.
  left_over : (l links : ℕ) (t u : Term) → Leads values l t u → value_of values (followed links values t) ≡ none
      → (l ≤ links) × (followed links values t ≡ followed (links - l) values u)
  unfolding followed Leads
  left_over zero links t u r e = let same : links - 0 ≡ links = omega arith in (omega arith, rw (same, r))
  left_over (suc l) zero t u (v, q, r) e = absurd (some_none v (sym q ∙ e))
  left_over (suc l) (suc links) t u (v, q, r) e =
      let same : suc links - suc l ≡ links - l = omega arith in
      let further = left_over l links v u r (rw (followed_some links t v q) at e) in
      (omega (arith, further.0), rw same (followed_some links t v q ∙ further.1))

  -- A term to which another leads has the same end, and is nearer to it.
  pub same_end : (l links : ℕ) (t u : Term) → Leads values l t u → value_of values (followed links values t) ≡ none
      → followed links values u ≡ followed links values t
  same_end l links t u r e =
      let left = left_over l links t u r e in
      followed_ended (links - l) links u (rw left.1 at e) (omega arith) ∙ sym left.1

  pub nearer : (l links : ℕ) (t u : Term) → 0 < l → Leads values l t u → value_of values (followed links values t) ≡ none
      → value_of values (followed (links - 1) values u) ≡ none
  nearer l links t u h r e =
      let left = left_over l links t u r e in
      let ended = rw left.1 at e in
      rw (followed_ended (links - l) (links - 1) u ended (omega (arith, left.0))) ended

  -- Following leads to what it finds.
  following_leads : (links : ℕ) (t : Term) → (l : ℕ) × Leads values l t (followed links values t)
  unfolding followed Leads
  following_leads zero t = (0, refl)
  following_leads (suc links) t = go (value_of values t) refl (following_leads links)
    where
      go : (v : Option Term) → value_of values t ≡ v → ((u : Term) → (l : ℕ) × Leads values l u (followed links values u))
          → (l : ℕ) × Leads values l t (followed (suc links) values t)
      go none q further = (0, sym (followed_none (suc links) t q))
      go (some u) q further =
          let on = further u in
          (suc on.0, (u, q, rw (followed_some links t u q) on.1))

  pub value_leads : (links : ℕ) (t u : Term) → 0 < links → value_of values t ≡ some u → (l : ℕ) × Leads values l u (followed links values t)
  value_leads zero t u h e = absurd (omega arith)
  value_leads (suc links) t u h e = rw (followed_some links t u e) (following_leads links u)

-- A value, once it is there, stays: so a term goes on leading where it led.
pub leads_on : (values values' : Values) → ((n : ℕ) (t : Term) → value values n ≡ some t → value values' n ≡ some t)
    → (l : ℕ) (t u : Term) → Leads values l t u → Leads values' l t u
unfolding Leads
leads_on values values' stays zero t u r = r
leads_on values values' stays (suc l) (Term.variable h n) u (v, q, r) = (v, stays n v q, leads_on values values' stays l v u r)
leads_on values values' stays (suc l) (Term.constant k) u (v, q, r) = absurd (some_none v (sym q))
leads_on values values' stays (suc l) (Term.compound n f ts) u (v, q, r) = absurd (some_none v (sym q))
