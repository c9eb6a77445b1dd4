-- Writing a term: a compound's opening, and the walk over its arguments.
use Prim.Native.Nat.{ℕ, zero, suc, ◌+◌, ◌*◌, ◌/◌, ◌%◌, ◌≤◌, ◌<◌}
use mathlib.Core.Path.{◌≡◌, refl, ◌∙◌, sym, ap}
use mathlib.Core.Logic.{inl, inr}
use mathlib.Core.List.{List, [], ◌++◌, append_assoc, append-nil}
use native.Mathlib.Omega.{arith}
use native.Mathlib.Numerals.{add-one}
use lib.ListN.{length, length-append, length-set, get_or, set}
use lib.Seq.{get_or-set_same, get_or-set_other}
use Rattle.meaning.specs.Bytes.{Bytes}
use Rattle.meaning.specs.Terms.{Functor, Term, Terms, more, count}
use Rattle.meaning.specs.Report.{alone, written}
use Rattle.laws.proofs.Terms.Standing.{Stands, StandsIn}
use Rattle.term.specs.Setting.{Setting}
use Rattle.term.specs.declared.word.View.TheVariants.{Compound}
use Rattle.report_pairs.specs.Threaded.{full, all_full}
use Rattle.report_pairs.specs.Laid.{Puts}
use Rattle.report_pairs.specs.Facts.{Readable, Shows, Led}
use Rattle.report_pairs.specs.Walk.{opening_bytes, Opens, StandsAt, after, rest}
use Rattle.report_leaves.specs.Fits.{Fits}
use Rattle.report_leaves.specs.Writes.{Numbered, Writes}
use Rattle.report_leaves.proofs.Copying.{fits_front, fits_behind, fits_as}
use Rattle.report_write.specs.Frames.{Behind, Before, Nothing, Frames, Rose}
use Rattle.std.specs.Prelude.{Option as Told, Some, None}
use Rattle.report_pairs.proofs.Full.{full_compound}
use Rattle.report_pairs.proofs.Told.{seen, seen_term, compound_told}
use Rattle.report_pairs.proofs.Wholes.{whole_is, some_argument, stands_opens}
use Rattle.report_pairs.proofs.Walking.{position_first, position_inside, position_shows}
use Rattle.report_pairs.proofs.Leaves.{opening_length}
use Rattle.report_pairs.proofs.Laid.{puts_none}
use Rattle.report_put.proofs.Putting.{puts_two, puts_is, puts_length}

-- A compound of the unit: its opening, and what stands behind it.
pub opened : (s : List ℕ) (x : Setting) (facts : ℕ) (order : List ℕ) (n : ℕ) (f : Functor) (ts : Terms) (p : ℕ)
    → Numbered s x facts order (full x.values (Term.compound n f ts)) → StandsAt s x n f ts p
    → (later : Bytes) × (opening_bytes f ++ later ≡ written order alone (full x.values (Term.compound n f ts))) × Before Nothing s x facts order p 1 later
unfolding Stands
opened s x facts order n f ts p N a = go (some_argument n f ts a.sound)
  where
    go : (u : Term) × (us : Terms) × (ts ≡ more u us)
        → (later : Bytes) × (opening_bytes f ++ later ≡ written order alone (full x.values (Term.compound n f ts))) × Before Nothing s x facts order p 1 later
    go (u, us, e) = (
      rest x.values order f 0 u us,
      rw e (sym (whole_is x order n f u us)),
      record {
        f = f;
        j = 0;
        u = u;
        us = us;
        position = position_first s x n f u us p (rw e at a);
        numbered = λ m k st. N m k (rw (e, full_compound x.values n f (more u us)) (stands_compound m n f (all_full x.values (more u us)) st));
        outer = [];
        outside = refl;
        is = append-nil (rest x.values order f 0 u us);
      },
    )
      where
        stands_compound : (m n : ℕ) (f : Functor) (ts : Terms) → StandsIn m ts → Stands m (Term.compound n f ts)
        stands_compound m n f ts k = k

-- A compound at the end of the chain: its opening, and what stands behind it.
module _ {s : List ℕ} {text : Bytes} {x : Setting} {facts : ℕ} {order : List ℕ} {t : Term} {at size w : ℕ}
    (W : Writes s text x facts order t at size) (l : Led s x t w) where
  pub record WithinIt (q : ℕ) : Type 0 where
    pub functor : Functor
    pub later : Bytes
    pub opens : (q < length s) × Opens s text (get_or s q 0 / 8) functor
    pub before : Before Nothing s x facts order q 1 later
    pub is : opening_bytes functor ++ later ≡ written order alone (full x.values t)

  module _ (q : ℕ) (z : seen w ≡ Compound q) where
    pub within : WithinIt q
    within = go (compound_told x.places l.last q (sym (seen_term x.places l.last w l.word) ∙ z))
      where
        go : (n : ℕ) × (f : Functor) × (ts : Terms) × (l.last ≡ Term.compound n f ts) × (q ≡ x.places.compound n) → WithinIt q
        go (n, f, ts, y, b) =
            let same : full x.values t ≡ full x.values (Term.compound n f ts) = l.same ∙ ap (full x.values) y in
            let stands : StandsAt s x n f ts q = record { term = rw y at l.term; sound = rw y at l.sound; place = b } in
            let o = opened s x facts order n f ts q (rw same at W.numbered) stands in record {
              functor = f;
              later = o.0;
              opens = stands_opens s text x facts W.readable n f ts q stands;
              before = o.2;
              is = o.1 ∙ ap (written order alone) (sym same);
            }

    pub into_here : opening_bytes within.functor ++ within.later ≡ written order alone (full x.values t)
    into_here = within.is

    into_sizes : length (opening_bytes within.functor) + length within.later ≡ length (written order alone (full x.values t))
    into_sizes = sym (length-append (opening_bytes within.functor) within.later) ∙ ap length into_here

    pub into_fits : at + length (opening_bytes within.functor) ≤ size
    into_fits = omega (arith, into_sizes, W.fits)

    module _ {b b₁ : List ℕ} {to : ℕ} (P : Puts b b₁ at to (opening_bytes within.functor)) where
      pub into_falls : at < to
      into_falls = omega (arith, P.place, opening_length within.functor)

      pub into_room : Fits s x facts order at b (written order alone (full x.values t)) → Fits s x facts order to b₁ within.later
      into_room F = fits_behind (opening_bytes within.functor) within.later (fits_as (sym into_here) F) P

      pub into_whole : {b₂ : List ℕ} {to₂ : ℕ} → Puts b₁ b₂ to to₂ within.later → Puts b b₂ at to₂ (written order alone (full x.values t))
      into_whole P₂ = puts_is into_here (puts_two P P₂)

-- Where nothing stands outside, something does.
pub before_within : (Outside : Bytes → Type 0) (s : List ℕ) (x : Setting) (facts : ℕ) (order : List ℕ) (p i : ℕ) (bs outer : Bytes)
    → Before Nothing s x facts order p i bs → Outside outer → Before Outside s x facts order p i (bs ++ outer)
before_within Outside s x facts order p i bs outer B o =
    let alone : Bytes = rest x.values order B.f B.j B.u B.us in record {
      f = B.f;
      j = B.j;
      u = B.u;
      us = B.us;
      position = B.position;
      numbered = B.numbered;
      outer = outer;
      outside = o;
      is = ap (λ (l : Bytes). l ++ outer) (sym (append-nil alone) ∙ ap (λ (l : Bytes). alone ++ l) (sym B.outside) ∙ B.is);
    }

-- The frames below one that is set stay.
frames_kept : (frames s : List ℕ) (x : Setting) (facts : ℕ) (order : List ℕ) (k w d : ℕ) (bs : Bytes) → d ≤ k
    → Frames frames s x facts order d bs → Frames (set frames k w) s x facts order d bs
unfolding Frames
frames_kept frames s x facts order k w zero bs h F = F
frames_kept frames s x facts order k w (suc d) bs h F =
    let same : get_or (set frames k w) d 0 ≡ get_or frames d 0 = get_or-set_other frames k d w 0 (omega arith) in
    rw same (record {
      f = F.f;
      j = F.j;
      u = F.u;
      us = F.us;
      position = F.position;
      numbered = F.numbered;
      outer = F.outer;
      outside = frames_kept frames s x facts order k w d F.outer (omega arith) F.outside;
      is = F.is;
    })

frame_set : (frames s : List ℕ) (x : Setting) (facts : ℕ) (order : List ℕ) (d p i : ℕ) (bs : Bytes) → d < length frames → i < 8
    → Behind (Frames frames s x facts order d) s x facts order p i bs → Frames (set frames d (8 * p + i)) s x facts order (suc d) bs
unfolding Frames
frame_set frames s x facts order d p i bs h l B =
    let same : get_or (set frames d (8 * p + i)) d 0 ≡ 8 * p + i = get_or-set_same frames d (8 * p + i) 0 h in
    let place : get_or (set frames d (8 * p + i)) d 0 / 8 ≡ p = omega (arith, same) in
    let number : get_or (set frames d (8 * p + i)) d 0 % 8 ≡ i = omega (arith, same) in
    rw (place, number) (record {
      f = B.f;
      j = B.j;
      u = B.u;
      us = B.us;
      position = B.position;
      numbered = B.numbered;
      outer = B.outer;
      outside = frames_kept frames s x facts order d (8 * p + i) d B.outer (omega arith) B.outside;
      is = B.is;
    })

-- The walk: some bytes are put, and the others are still to be written.
pub record Going (frames s : List ℕ) (x : Setting) (facts : ℕ) (order : List ℕ) (whole : Bytes) (b₀ b : List ℕ) (at p i d to : ℕ) : Type 0 where
  pub done : Bytes
  pub left : Bytes
  pub puts : Puts b₀ b at to done
  pub is : done ++ left ≡ whole
  pub before : Before (Frames frames s x facts order d) s x facts order p i left
  pub few : d ≤ 16
  pub size : length frames ≡ 16

pub going_first : (frames s : List ℕ) (x : Setting) (facts : ℕ) (order : List ℕ) (whole : Bytes) (b : List ℕ) (at p : ℕ) → length frames ≡ 16
    → Before Nothing s x facts order p 1 whole → Going frames s x facts order whole b b at p 1 0 at
unfolding Frames
going_first frames s x facts order whole b at p size B = record {
  done = [];
  left = whole;
  puts = puts_none b at;
  is = refl;
  before = rw (append-nil whole) at (before_within (Frames frames s x facts order 0) s x facts order p 1 whole [] B refl);
  few = omega arith;
  size = size;
}

module _ {frames s : List ℕ} {text : Bytes} {x : Setting} {facts : ℕ} {order : List ℕ} {whole : Bytes} {b₀ b : List ℕ} {at p i d to : ℕ}
    (r : Readable s text x facts) (F : Fits s x facts order at b₀ whole) (G : Going frames s x facts order whole b₀ b at p i d to) where
  abbrev B : Before (Frames frames s x facts order d) s x facts order p i G.left
  B = G.before

  abbrev pub here : Bytes
  here = written order alone (full x.values B.u)

  abbrev pub later_bytes : Bytes
  later_bytes = after x.values order B.f B.j B.us ++ B.outer

  whole_here : (G.done ++ here) ++ later_bytes ≡ whole
  whole_here =
      append_assoc G.done here later_bytes
      ∙ ap (λ (l : Bytes). G.done ++ l) (sym (append_assoc here (after x.values order B.f B.j B.us) B.outer) ∙ B.is)
      ∙ G.is

  sizes : length G.done + length here + length later_bytes ≡ length whole
  sizes =
      sym (length-append (G.done ++ here) later_bytes ∙ ap (λ (n : ℕ). n + length later_bytes) (length-append G.done here)) ∙ ap length whole_here

  pub going_writes : Writes s text x facts order B.u to (length b)
  unfolding StandsIn all_full
  going_writes = record {
    readable = r;
    numbered = λ m k st. B.numbered m k (inl st);
    fits = omega (arith, sizes, F.room, G.puts.place, puts_length G.puts);
  }

  -- The argument fits there, and may be copied.
  pub going_room : Fits s x facts order to b here
  going_room =
      let left : Fits s x facts order to b G.left = fits_behind G.done G.left (fits_as (sym G.is) F) G.puts in
      fits_front here later_bytes (fits_as (sym B.is ∙ append_assoc here (after x.values order B.f B.j B.us) B.outer) left)

  pub going_inside : p + i < length s
  going_inside = position_inside s x p i B.j B.f B.u B.us B.position

  pub going_shows : Shows s x B.u (get_or s (p + i) 0)
  going_shows = position_shows s x p i B.j B.f B.u B.us B.position

  pub going_falls : (to < length b₀ + 1) × (at ≤ to)
  going_falls = (omega (arith, sizes, F.room, G.puts.place), omega (arith, G.puts.place))

  small : i < 8
  unfolding count
  small =
      let few : B.j + suc (count B.us) ≤ 6 = B.position.cell_at.few in
      omega (arith, B.position.index)

  pub going_behind : Behind (Frames frames s x facts order d) s x facts order p i later_bytes
  unfolding StandsIn all_full
  going_behind = record {
    f = B.f;
    j = B.j;
    u = B.u;
    us = B.us;
    position = B.position;
    numbered = λ m k st. B.numbered m k (inr st);
    outer = B.outer;
    outside = B.outside;
    is = refl;
  }

  -- The argument is written.
  module _ {b₁ : List ℕ} {to₁ : ℕ} (P : Puts b b₁ to to₁ here) where
    pub going_fits : to₁ + length later_bytes ≤ length b₁
    going_fits = omega (arith, sizes, F.room, G.puts.place, P.place, puts_length G.puts, puts_length P)

    pub going_ends : {b₂ : List ℕ} {to₂ : ℕ} → Rose frames s x facts order b₁ b₂ to₁ d later_bytes (to₂, None) → Puts b₀ b₂ at to₂ whole
    going_ends R = puts_is whole_here (puts_two (puts_two G.puts P) R)

    pub going_on : {b₂ : List ℕ} {to₂ p₂ i₂ d₂ : ℕ} → Rose frames s x facts order b₁ b₂ to₁ d later_bytes (to₂, Some (p₂, i₂, d₂))
        → Going frames s x facts order whole b₀ b₂ at p₂ i₂ d₂ to₂
    going_on (done₂, left₂, P₂, is₂, before₂, rises, low) = record {
      done = (G.done ++ here) ++ done₂;
      left = left₂;
      puts = puts_two (puts_two G.puts P) P₂;
      is = append_assoc (G.done ++ here) done₂ left₂ ∙ ap (λ (l : Bytes). (G.done ++ here) ++ l) is₂ ∙ whole_here;
      before = before₂;
      few = omega (arith, low, G.few);
      size = G.size;
    }

  -- The argument is a compound, and its opening is written.
  module _ {w : ℕ} (l : Led s x B.u w) (q : ℕ) (z : seen w ≡ Compound q) {b₁ : List ℕ} {to₁ : ℕ}
      (P : Puts b b₁ to to₁ (opening_bytes (within going_writes l q z).functor)) where
    pub going_into : d < 16 → Going (set frames d (8 * p + i)) s x facts order whole b₀ b₁ at q 1 (d + 1) to₁
    going_into h =
        let D = within going_writes l q z in
        let first = opening_bytes D.functor in
        let is_here = into_here going_writes l q z in
        let outside : Frames (set frames d (8 * p + i)) s x facts order (d + 1) later_bytes =
        rw (add-one d) (frame_set frames s x facts order d p i later_bytes (omega (arith, G.size)) small going_behind) in record {
          done = G.done ++ first;
          left = D.later ++ later_bytes;
          puts = puts_two G.puts P;
          is = append_assoc G.done first (D.later ++ later_bytes)
              ∙ ap (λ (m : Bytes). G.done ++ m) (sym (append_assoc first D.later later_bytes) ∙ ap (λ (m : Bytes). m ++ later_bytes) is_here)
              ∙ sym (append_assoc G.done here later_bytes)
              ∙ whole_here;
          before = before_within (Frames (set frames d (8 * p + i)) s x facts order (d + 1)) s x facts order q 1 D.later later_bytes D.before outside;
          few = omega arith;
          size = length-set frames d (8 * p + i) ∙ G.size;
        }

-- What was put on the way up, by its parts.
pub rose_as : (frames s : List ℕ) (x : Setting) (facts : ℕ) (order b b' : List ℕ) (at deep : ℕ) (bs : Bytes) (r : ℕ × Told (ℕ × ℕ × ℕ)) (o : Told (ℕ × ℕ × ℕ)) → r.1 ≡ o
    → Rose frames s x facts order b b' at deep bs r → Rose frames s x facts order b b' at deep bs (r.0, o)
rose_as frames s x facts order b b' at deep bs (to, n) o e R = rw e at R

pub puts_moved : {xs : Bytes} {b c c' : List ℕ} {at to to' : ℕ} → c' ≡ c → to' ≡ to → Puts b c at to xs → Puts b c' at to' xs
puts_moved e f p = rw (e, f) p

-- Nothing was copied: the walk stands as it did.
unfoldable pub going_still : {frames s : List ℕ} {x : Setting} {facts : ℕ} {order : List ℕ} {whole : Bytes} {b₀ b c : List ℕ} {at p i d to : ℕ} → c ≡ b
    → Going frames s x facts order whole b₀ b at p i d to → Going frames s x facts order whole b₀ c at p i d to
going_still e G = record { done = G.done; left = G.left; puts = rw e G.puts; is = G.is; before = G.before; few = G.few; size = G.size }

pub fits_still : {s : List ℕ} {x : Setting} {facts : ℕ} {order : List ℕ} {ys : Bytes} {b c : List ℕ} {at : ℕ} → c ≡ b
    → Fits s x facts order at b ys → Fits s x facts order at c ys
fits_still e F = rw e F

pub puts_still : {ys : Bytes} {b c d : List ℕ} {at to : ℕ} → c ≡ b → Puts c d at to ys → Puts b d at to ys
puts_still e P = rw e at P

pub writes_still : {s : List ℕ} {text : Bytes} {x : Setting} {facts : ℕ} {order : List ℕ} {t : Term} {b c : List ℕ} {at : ℕ} → c ≡ b
    → Writes s text x facts order t at (length b) → Writes s text x facts order t at (length c)
writes_still e W = rw e W
