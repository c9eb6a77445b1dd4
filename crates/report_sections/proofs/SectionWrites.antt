-- A section written in its whole order has the bytes that were counted: every line's pairs are among the order, which begins with what was seen after it.
use Prim.Native.Nat.{ℕ, zero, suc, ◌+◌, ◌≤◌, ◌<◌}
use mathlib.Core.Path.{◌≡◌, refl, sym, ap, ap₂, ◌∙◌}
use mathlib.Core.Bool.{true}
use mathlib.Core.List.{List, [], ◌∷◌, ◌++◌, append_assoc, append-nil}
use native.Mathlib.Omega.{arith}
use lib.ListN.{length}
use Rattle.meaning.specs.Bytes.{Bytes, bytes, among}
use Rattle.meaning.specs.Terms.{writer, Term, variable, as_term}
use Rattle.meaning.specs.State.{Room, Values, Goal}
use Rattle.meaning.specs.Report.{alone, origin_bytes, value_lines, goal_lines, lines_applied}
use Rattle.laws.proofs.Lists.Among.{in_among, in_append_left}
use Rattle.laws.proofs.Terms.Standing.{Stands}
use Rattle.term.specs.Layout.{waiters_region}
use Rattle.term.specs.Setting.{Setting}
use Rattle.term.specs.declared.state.Standing.{Standing}
use Rattle.report_pairs.specs.Threaded.{full, seen_after, shown_values, seen_after_values, shown_goals, seen_after_goals, lines_seen, written_values, written_goals}
use Rattle.report_pairs.specs.Laid.{Puts}
use Rattle.report_tallies.specs.Header.{header_of, tallies_of}
use Rattle.report_pairs.specs.Facts.{Readable}
use Rattle.report_leaves.specs.Fits.{Fits}
use Rattle.report_leaves.specs.Writes.{Numbered}
use Rattle.report_leaves.proofs.Copying.{fits_front, fits_behind, fits_as}
use Rattle.report_tallies.specs.declared.groups.Group.{Group}
use Rattle.report_sections.specs.Sections.{Listed}
use Rattle.report_sections.specs.Whole.{AllIn, Numbers, SectionStands, lines_shown, section_bytes}
use Rattle.report_pairs.proofs.Laid.{puts_behind, puts_as}
use Rattle.report_pairs.proofs.Once.{seen_after_lines_keeps, in_seen_after}
use Rattle.report_pairs.proofs.Settled.{settled_in}
use Rattle.report_sections.proofs.Lines.{values_seen, goals_seen}
use Rattle.report_sections.proofs.WrittenGoals.{numbered_in}

-- An order that begins with what was seen so far.
abbrev pub Begins : List ℕ → List ℕ → Type 0
Begins order seen = (behind : List ℕ) × (order ≡ seen ++ behind)

begins_before : (order seen later : List ℕ) → (new : List ℕ) × (later ≡ seen ++ new) → Begins order later → Begins order seen
begins_before order seen later (new, f) (behind, e) =
    (new ++ behind, e ∙ ap (λ (l : List ℕ). l ++ behind) f ∙ append_assoc seen new behind)

values_keep : (values : Values) (seen : List ℕ) (p : ℕ) (xs : List Bytes) → (new : List ℕ) × (seen_after_values values seen p xs ≡ seen ++ new)
values_keep values seen p xs =
    let (new, e) = seen_after_lines_keeps seen (lines_applied values (value_lines p xs)) in (new, sym (values_seen values xs p seen) ∙ e)

goals_keep : (values : Values) (seen : List ℕ) (gs : List Goal) → (new : List ℕ) × (seen_after_goals values seen gs ≡ seen ++ new)
goals_keep values seen gs =
    let (new, e) = seen_after_lines_keeps seen (lines_applied values (goal_lines [] gs)) in (new, sym (goals_seen values [] gs seen) ∙ e)

pub begins_goals : (values : Values) (order seen : List ℕ) (gs : List Goal) → Begins order (seen_after_goals values seen gs) → Begins order seen
begins_goals values order seen gs b = begins_before order seen (seen_after_goals values seen gs) (goals_keep values seen gs) b

-- A term's pairs are among an order that begins with what was seen after it.
stands_among : (order seen : List ℕ) (t : Term) → Begins order (seen_after seen t) → (n : ℕ) → Stands n t → among n order ≡ true
stands_among order seen t (behind, e) n stands = ap (among n) e ∙ in_among (in_append_left behind (in_seen_after seen t n stands))

first_value : (values : Values) (order seen : List ℕ) (p : ℕ) (v : Bytes) (xs : List Bytes) → Begins order (seen_after_values values seen p (v ∷ xs))
    → Begins order (seen_after seen (full values (variable writer p)))
unfolding seen_after_values
first_value values order seen p v xs b =
    begins_before order (seen_after seen (full values (variable writer p))) _ (values_keep values (seen_after seen (full values (variable writer p))) (suc p) xs) b

first_goal : (values : Values) (order seen : List ℕ) (g : Goal) (gs : List Goal) → Begins order (seen_after_goals values seen (g ∷ gs))
    → Begins order (seen_after seen (full values (as_term g.goal)))
unfolding seen_after_goals
first_goal values order seen g gs b =
    begins_before order (seen_after seen (full values (as_term g.goal))) _ (goals_keep values (seen_after seen (full values (as_term g.goal))) gs) b

pub goals_in : (values : Values) (order : List ℕ) (gs : List Goal) (seen : List ℕ) → Begins order (seen_after_goals values seen gs) → AllIn values order gs
unfolding seen_after_goals
goals_in values order [] seen b = tt
goals_in values order (g ∷ gs) seen b = (
  stands_among order seen (full values (as_term g.goal)) (first_goal values order seen g gs b),
  goals_in values order gs (seen_after seen (full values (as_term g.goal))) b,
)

pub values_in : (values : Values) (order : List ℕ) (xs : List Bytes) (p : ℕ) (seen : List ℕ) → Begins order (seen_after_values values seen p xs)
    → (n : ℕ) → n < length xs → (m : ℕ) → Stands m (full values (variable writer (p + n))) → among m order ≡ true
unfolding seen_after_values
values_in values order [] p seen b n h = absurd (omega arith)
values_in values order (v ∷ xs) p seen b zero h =
    let none : p + 0 ≡ p = omega arith in
    rw none (stands_among order seen (full values (variable writer p)) (first_value values order seen p v xs b))
values_in values order (v ∷ xs) p seen b (suc n) h =
    let next : p + suc n ≡ suc p + n = omega arith in
    rw next (values_in values order xs (suc p) (seen_after seen (full values (variable writer p))) b n (omega arith))

-- The lines' bytes.
pub values_threaded : (values : Values) (order : List ℕ) (xs : List Bytes) (p : ℕ) (seen : List ℕ) → Begins order (seen_after_values values seen p xs)
    → written_values values order p xs ≡ shown_values values seen p xs
unfolding seen_after_values written_values shown_values
values_threaded values order [] p seen b = refl
values_threaded values order (v ∷ xs) p seen b =
    ap₂ (λ (c d : Bytes). (v ++ bytes " = ") ++ (c ++ bytes "\n") ++ d)
    (settled_in seen order alone (full values (variable writer p)) (first_value values order seen p v xs b))
    (values_threaded values order xs (suc p) (seen_after seen (full values (variable writer p))) b)

pub goals_threaded : (values : Values) (order : List ℕ) (word : Bytes) (gs : List Goal) (seen : List ℕ) → Begins order (seen_after_goals values seen gs)
    → written_goals values order word gs ≡ shown_goals values seen word gs
unfolding seen_after_goals written_goals shown_goals
goals_threaded values order word [] seen b = refl
goals_threaded values order word (g ∷ gs) seen b =
    ap₂ (λ (c d : Bytes). word ++ (c ++ (origin_bytes g.origin ++ bytes "\n")) ++ d)
    (settled_in seen order alone (full values (as_term g.goal)) (first_goal values order seen g gs b))
    (goals_threaded values order word gs (seen_after seen (full values (as_term g.goal))) b)

-- The whole section in its order.
module _ (values : Values) (xs : List Bytes) (actives ws fs : List Goal) where
  abbrev pub order_of : List ℕ
  order_of = lines_seen values xs actives ws fs

  abbrev seen₁ : List ℕ
  seen₁ = seen_after_values values [] 0 xs

  abbrev seen₂ : List ℕ
  seen₂ = seen_after_goals values seen₁ actives

  abbrev seen₃ : List ℕ
  seen₃ = seen_after_goals values seen₂ ws

  begins₄ : Begins order_of (seen_after_goals values seen₃ fs)
  unfolding lines_seen
  begins₄ = ([], sym (append-nil (seen_after_goals values seen₃ fs)))

  begins₃ : Begins order_of seen₃
  begins₃ = begins_goals values order_of seen₃ fs begins₄

  begins₂ : Begins order_of seen₂
  begins₂ = begins_goals values order_of seen₂ ws begins₃

  begins₁ : Begins order_of seen₁
  begins₁ = begins_goals values order_of seen₁ actives begins₂

  pub section_values_in : (n : ℕ) → n < length xs → (m : ℕ) → Stands m (full values (variable writer n)) → among m order_of ≡ true
  section_values_in n h =
      let same : 0 + n ≡ n = omega arith in
      rw same at (values_in values order_of xs 0 [] begins₁ n h)

  pub section_actives_in : AllIn values order_of actives
  section_actives_in = goals_in values order_of actives seen₁ begins₂

  pub section_waits_in : AllIn values order_of ws
  section_waits_in = goals_in values order_of ws seen₂ begins₃

  pub section_fails_in : AllIn values order_of fs
  section_fails_in = goals_in values order_of fs seen₃ begins₄

  abbrev pub part₁ : Bytes
  part₁ = written_values values order_of 0 xs

  abbrev pub part₂ : Bytes
  part₂ = written_goals values order_of (bytes "active ") actives

  abbrev pub part₃ : Bytes
  part₃ = written_goals values order_of (bytes "waiting ") ws

  abbrev pub part₄ : Bytes
  part₄ = written_goals values order_of (bytes "failed ") fs

  lines_are : part₁ ++ (part₂ ++ (part₃ ++ part₄)) ≡ lines_shown values xs actives ws fs
  unfolding lines_shown
  lines_are =
      ap₂ (◌++◌ {A = ℕ}) (values_threaded values order_of xs 0 [] begins₁)
      (ap₂ (◌++◌ {A = ℕ}) (goals_threaded values order_of (bytes "active ") actives seen₁ begins₂)
      (ap₂ (◌++◌ {A = ℕ}) (goals_threaded values order_of (bytes "waiting ") ws seen₂ begins₃)
      (goals_threaded values order_of (bytes "failed ") fs seen₃ begins₄)))

  pub section_is : (s : List ℕ) (figures : Room) (t : Standing) (q : ℕ)
      → header_of q (tallies_of s figures q t) ++ (part₁ ++ (part₂ ++ (part₃ ++ part₄))) ≡ section_bytes s figures t values q xs actives ws fs
  unfolding section_bytes
  section_is s figures t q = ap (◌++◌ (header_of q (tallies_of s figures q t))) lines_are

  -- Each part fits where those before it were put.
  module _ {l : List ℕ} {x : Setting} {facts at : ℕ} {b : List ℕ} (s : List ℕ) (figures : Room) (t : Standing) (q : ℕ)
      (F : Fits l x facts order_of at b (section_bytes s figures t values q xs actives ws fs)) where
    abbrev head : Bytes
    head = header_of q (tallies_of s figures q t)

    fits₀ : Fits l x facts order_of at b (head ++ (part₁ ++ (part₂ ++ (part₃ ++ part₄))))
    fits₀ = fits_as (sym (section_is s figures t q)) F

    pub head_fits : at + length head ≤ length b
    head_fits = (fits_front head (part₁ ++ (part₂ ++ (part₃ ++ part₄))) fits₀).room

    module _ {b₁ : List ℕ} {m₁ : ℕ} (p₁ : Puts b b₁ at m₁ head) where
      fits₁ : Fits l x facts order_of m₁ b₁ (part₁ ++ (part₂ ++ (part₃ ++ part₄)))
      fits₁ = fits_behind head (part₁ ++ (part₂ ++ (part₃ ++ part₄))) fits₀ p₁

      pub values_fit : Fits l x facts order_of m₁ b₁ part₁
      values_fit = fits_front part₁ (part₂ ++ (part₃ ++ part₄)) fits₁

      module _ {b₂ : List ℕ} {m₂ : ℕ} (p₂ : Puts b₁ b₂ m₁ m₂ part₁) where
        fits₂ : Fits l x facts order_of m₂ b₂ (part₂ ++ (part₃ ++ part₄))
        fits₂ = fits_behind part₁ (part₂ ++ (part₃ ++ part₄)) fits₁ p₂

        pub actives_fit : Fits l x facts order_of m₂ b₂ part₂
        actives_fit = fits_front part₂ (part₃ ++ part₄) fits₂

        module _ {b₃ : List ℕ} {m₃ : ℕ} (p₃ : Puts b₂ b₃ m₂ m₃ part₂) where
          fits₃ : Fits l x facts order_of m₃ b₃ (part₃ ++ part₄)
          fits₃ = fits_behind part₂ (part₃ ++ part₄) fits₂ p₃

          pub waits_fit : Fits l x facts order_of m₃ b₃ part₃
          waits_fit = fits_front part₃ part₄ fits₃

          pub fails_fit : {b₄ : List ℕ} {m₄ : ℕ} → Puts b₃ b₄ m₃ m₄ part₃ → Fits l x facts order_of m₄ b₄ part₄
          fails_fit p₄ = fits_behind part₃ part₄ fits₃ p₄

  pub section_puts : (s : List ℕ) (figures : Room) (t : Standing) (q : ℕ) (b₀ b₁ b₂ b₃ b₄ b₅ : List ℕ) (at m₁ m₂ m₃ m₄ to : ℕ)
      → Puts b₀ b₁ at m₁ (header_of q (tallies_of s figures q t)) → Puts b₁ b₂ m₁ m₂ part₁ → Puts b₂ b₃ m₂ m₃ part₂ → Puts b₃ b₄ m₃ m₄ part₃ → Puts b₄ b₅ m₄ to part₄
      → Puts b₀ b₅ at to (section_bytes s figures t values q xs actives ws fs)
  section_puts s figures t q b₀ b₁ b₂ b₃ b₄ b₅ at m₁ m₂ m₃ m₄ to p₁ p₂ p₃ p₄ p₅ =
      puts_as (header_of q (tallies_of s figures q t) ++ (part₁ ++ (part₂ ++ (part₃ ++ part₄)))) (section_bytes s figures t values q xs actives ws fs) b₀ b₅ at to (section_is s figures t q)
      (puts_behind (header_of q (tallies_of s figures q t)) (part₁ ++ (part₂ ++ (part₃ ++ part₄))) b₀ b₁ b₅ at m₁ to p₁
      (puts_behind part₁ (part₂ ++ (part₃ ++ part₄)) b₁ b₂ b₅ m₁ m₂ to p₂
      (puts_behind part₂ (part₃ ++ part₄) b₂ b₃ b₅ m₂ m₃ to p₃ (puts_behind part₃ part₄ b₃ b₄ b₅ m₃ m₄ to p₄ p₅))))

-- What writing the values asks, and what writing the goals of a list asks.
pub values_ready : (s : List ℕ) (text : Bytes) (x : Setting) (figures : Room) (t : Standing) (q : ℕ) (xs : List Bytes) (actives ws fs : List Goal) (facts : ℕ)
    → facts ≡ waiters_region figures → SectionStands s text x figures t q xs actives ws fs
    → Numbers s x (waiters_region figures) (lines_seen x.values xs actives ws fs)
    → Readable s text x facts
    × ((n : ℕ) → n < length xs → Numbered s x facts (lines_seen x.values xs actives ws fs) (full x.values (Term.variable writer n)))
values_ready s text x figures t q xs actives ws fs facts e stands numbers =
    rw e (
      stands.readable,
      λ n h.
          numbered_in s x (waiters_region figures) (lines_seen x.values xs actives ws fs) (full x.values (Term.variable writer n)) numbers
          (section_values_in x.values xs actives ws fs n h),
    )

pub goals_ready : (s : List ℕ) (text : Bytes) (x : Setting) (facts facts' : ℕ) (g g' : Group) (q : ℕ) (gs : List Goal) (order : List ℕ) → facts' ≡ facts → g' ≡ g
    → Readable s text x facts → Listed s x facts g q gs → Numbers s x facts order
    → Readable s text x facts' × Listed s x facts' g' q gs × Numbers s x facts' order
goals_ready s text x facts facts' g g' q gs order e f readable listed numbers = rw (e, f) (readable, listed, numbers)

-- The facts begin at the place by another equation.
pub fits_from : {s : List ℕ} {x : Setting} {facts facts' : ℕ} {order : List ℕ} {at : ℕ} {b : List ℕ} {bs : Bytes} → facts' ≡ facts → Fits s x facts order at b bs
    → Fits s x facts' order at b bs
fits_from e F = rw e F
