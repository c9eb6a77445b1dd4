-- Counting over terms together with a list of live values: an entry of the list is worth its value less one reader of its pair.
-- So to follow an assigned reader is a flow: its entry is taken out, and its value is counted instead. Closed pairs are not counted.
use Prim.Native.Nat.{ℕ, zero, suc, ◌+◌, ◌≤◌}
use mathlib.Core.Path.{◌≡◌, refl, ap, sym, ◌∙◌}
use mathlib.Core.Bool.{Bool, true, false}
use mathlib.Core.List.{List, [], ◌∷◌}
use mathlib.Core.Option.{Option, none, some}
use native.Mathlib.Omega.{arith}
use lib.Dec.{eqb}
use borrow.Author.Tests.{eqb-true, eqb-false}
use Rattle.meaning.specs.Bytes.{when◌then◌else◌}
use Rattle.meaning.specs.Terms.{Half, writer, reader, Term, Terms, variable, constant, compound, same_half, occurrences, all_occurrences}
use Rattle.meaning.specs.State.{Values, value}
use Rattle.meaning.specs.Compare.{Assignment, followed}
use Rattle.laws.proofs.Lists.{Each, sum}
use Rattle.laws.proofs.Terms.{occurs_itself, occurs_in_other}
use Rattle.laws.proofs.Single.Closed.{closed, closed_holds_none}

-- How often each half of each pair is counted.
abbrev pub Count : Type 0
Count = Half → ℕ → ℕ

-- How often each occurs in a term, and in several.
abbrev pub in_term : Term → Count
in_term t h n = occurrences h n t

abbrev pub in_terms : Terms → Count
in_terms ts h n = all_occurrences h n ts

-- How often a half occurs in the values of assignments.
abbrev pub held : Half → ℕ → List Assignment → ℕ
held h n given = sum (λ a. occurrences h n a.value) given

-- How often it would if each assignment stood for the writer, or for the reader, of its pair.
abbrev pub marks : Half → Half → ℕ → List Assignment → ℕ
marks k h n given = sum (λ a. occurrences h n (variable k a.pair)) given

-- Each assignment is the value of its pair.
abbrev pub Settled : Values → List Assignment → Type 0
Settled values given = Each (λ a. value values a.pair ≡ some a.value) given

-- Of a pair that is assigned and not closed the writer is not counted, and the reader at most as often as the pair has a live value.
abbrev pub Fair : Values → Count → List Assignment → Type 0
Fair values c live = (h : Half) (n : ℕ) (t : Term) → closed values n ≡ false → value values n ≡ some t → c h n + held h n live ≤ marks reader h n live

-- What is counted becomes another count, with some of the live values used up.
pub record Flow (values : Values) (c : Count) (live : List Assignment) (c' : Count) : Type 0 where
  pub left : List Assignment
  pub settled : Settled values left
  pub fewer : (h : Half) (n : ℕ) → marks reader h n left ≤ marks reader h n live
  pub flow : (h : Half) (n : ℕ) → closed values n ≡ false → c' h n + held h n left + marks reader h n live ≤ c h n + held h n live + marks reader h n left

-- Whatever is counted around it, and whatever the live values are, the first becomes the second.
pub record Flows (values : Values) (c c' : Count) : Type 0 where
  pub from : (around : Count) (live : List Assignment) → Settled values live → Fair values (λ h n. c h n + around h n) live → Flow values c live c'

module _ {values : Values} where
  pub flows_to_less : {c c' : Count} → ((h : Half) (n : ℕ) → c' h n ≤ c h n) → Flows values c c'
  flows_to_less less =
      record {
        from = λ around live s fair. record { left = live; settled = s; fewer = λ h n. omega arith; flow = λ h n o. omega (arith, less h n) };
      }

  pub flows_then : {c d e : Count} → Flows values c d → Flows values d e → Flows values c e
  flows_then one two =
      record {
        from = λ around live s fair.
            let f = one.from around live s fair in
            let g = two.from around f.left f.settled (λ h n t o i. omega (arith, fair h n t o i, f.flow h n o)) in
            record {
              left = g.left;
              settled = g.settled;
              fewer = λ h n. omega (arith, f.fewer h n, g.fewer h n);
              flow = λ h n o. omega (arith, f.flow h n o, g.flow h n o);
            };
      }

  -- Two counts side by side, the first of them first.
  pub flows_both : {c c' d d' : Count} → Flows values c c' → Flows values d d' → Flows values (λ h n. c h n + d h n) (λ h n. c' h n + d' h n)
  flows_both {c} {c'} {d} {d'} one two =
      record {
        from = λ around live s fair.
            let f = one.from (λ h n. d h n + around h n) live s (λ h n t o i. omega (arith, fair h n t o i)) in
            let g = two.from (λ h n. c' h n + around h n) f.left f.settled (λ h n t o i. omega (arith, fair h n t o i, f.flow h n o)) in
            record {
              left = g.left;
              settled = g.settled;
              fewer = λ h n. omega (arith, f.fewer h n, g.fewer h n);
              flow = λ h n o. omega (arith, f.flow h n o, g.flow h n o);
            };
      }

pub occurs_within : (c : Count) (k : Half) (p : ℕ) → 1 ≤ c k p → (h : Half) (n : ℕ) → occurrences h n (variable k p) ≤ c h n
unfolding occurrences same_half when◌then◌else◌
occurs_within c k p e h n = go h k e (eqb n p) refl
  where
    go : (h k : Half) → 1 ≤ c k p → (b : Bool) → eqb n p ≡ b → occurrences h n (variable k p) ≤ c h n
    go writer writer e true t = rw (t, eqb-true n p t) e
    go writer writer e false t = rw t (omega arith)
    go writer reader e b t = omega arith
    go reader writer e b t = omega arith
    go reader reader e true t = rw (t, eqb-true n p t) e
    go reader reader e false t = rw t (omega arith)

-- A reader is no writer.
pub no_writer_marks : (n : ℕ) (live : List Assignment) → marks reader writer n live ≡ 0
unfolding occurrences same_half when◌then◌else◌
no_writer_marks n [] = refl
no_writer_marks n (a ∷ live) = omega (arith, no_writer_marks n live)

-- A live value taken out.
pub record Out (values : Values) (p : ℕ) (u : Term) (live : List Assignment) : Type 0 where
  pub left : List Assignment
  pub settled : Settled values left
  pub values_out : (h : Half) (n : ℕ) → held h n live ≡ occurrences h n u + held h n left
  pub readers_out : (h : Half) (n : ℕ) → marks reader h n live ≡ occurrences h n (variable reader p) + marks reader h n left

module _ (values : Values) where
  pub taken_out : (p : ℕ) (u : Term) (live : List Assignment) → Settled values live → value values p ≡ some u → 1 ≤ marks reader reader p live
      → Out values p u live
  taken_out p u [] s e m = absurd (omega arith)
  taken_out p u (a ∷ live) s e m = go (eqb p a.pair) refl (λ m. taken_out p u live s.1 e m)
    where
      go : (b : Bool) → eqb p a.pair ≡ b → (1 ≤ marks reader reader p live → Out values p u live) → Out values p u (a ∷ live)
      go true t further =
          let same : p ≡ a.pair = eqb-true p a.pair t in
          let it : some u ≡ some a.value = sym e ∙ ap (λ (q : ℕ). value values q) same ∙ s.0 in
          let its : u ≡ a.value = cc in
          record { left = live; settled = s.1; values_out = λ h n. rw its refl; readers_out = λ h n. rw same refl }
      go false t further =
          let d = eqb-false p a.pair t in
          let o = further (omega (arith, occurs_in_other reader reader p a.pair d)) in
          record {
            left = a ∷ o.left;
            settled = (s.0, o.settled);
            values_out = λ h n. omega (arith, o.values_out h n);
            readers_out = λ h n. omega (arith, o.readers_out h n);
          }

  -- An assigned half that is counted is a reader, or of a closed pair; its value is counted instead of it. A closed pair's counts nothing.
  pub link : (c : Count) (k : Half) (p : ℕ) (u : Term) → value values p ≡ some u → 1 ≤ c k p → Flows values c (in_term u)
  link c k p u e m = go k m (closed values p) refl
    where
      go : (k : Half) → 1 ≤ c k p → (b : Bool) → closed values p ≡ b → Flows values c (in_term u)
      go k m true shut =
          record {
            from = λ around live s fair.
                record {
                  left = live;
                  settled = s;
                  fewer = λ h n. omega arith;
                  flow = λ h n o. omega (arith, closed_holds_none values p u shut e h n o);
                };
          }
      go writer m false o =
          record { from = λ around live s fair. absurd (omega (arith, fair writer p u o e, no_writer_marks p live)) }
      go reader m false o =
          record {
            from = λ around live s fair.
                let out = taken_out p u live s e (omega (arith, fair reader p u o e)) in
                record {
                  left = out.left;
                  settled = out.settled;
                  fewer = λ h n. omega (arith, out.readers_out h n);
                  flow = λ h n o. omega (arith, out.values_out h n, out.readers_out h n, occurs_within c reader p m h n);
                };
          }

  -- So does an assigned variable become its value.
  pub value_flows : (k : Half) (p : ℕ) (u : Term) → value values p ≡ some u
      → Flows values (in_term (variable k p)) (in_term u)
  value_flows k p u e = link (in_term (variable k p)) k p u e (omega (arith, occurs_itself k p))

  -- "A goal term that is an assigned variable is followed to its value, again and again."
  pub followed_flows : (links : ℕ) (t : Term) → Flows values (in_term t) (in_term (followed links values t))
  unfolding followed
  followed_flows zero t = flows_to_less (λ h n. omega arith)
  followed_flows (suc links) (constant k) = flows_to_less (λ h n. omega arith)
  followed_flows (suc links) (compound m f ts) = flows_to_less (λ h n. omega arith)
  followed_flows (suc links) (variable k p) = go (value values p) refl (followed_flows links)
    where
      go : (o : Option Term) → value values p ≡ o
          → ((u : Term) → Flows values (in_term u) (in_term (followed links values u)))
          → Flows values (in_term (variable k p)) (in_term (followed (suc links) values (variable k p)))
      go none e further = rw (e, followed) (flows_to_less (λ h n. omega arith))
      go (some u) e further = rw (e, followed) (flows_then (value_flows k p u e) (further u))
