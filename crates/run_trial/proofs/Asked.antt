-- What stands in the trial's region of a trial's notes: the pairs whose readers it waits on are those beside which no term stands, in order, since a
-- term's word is not 0. So whether a trial waits is told by its region alone.
use Prim.Native.Nat.{ℕ, zero, suc, ◌+◌, ◌≤◌, ◌<◌}
use mathlib.Core.Path.{◌≡◌, refl, sym, ap, ◌∙◌}
use mathlib.Core.Bool.{Bool, true, false}
use mathlib.Core.Logic.{⊎_elim}
use mathlib.Core.List.{List, [], ◌∷◌, ◌++◌, map, append-nil, append_assoc}
use native.Mathlib.Omega.{arith}
use lib.Dec.{eqb}
use lib.ListN.{length, get_or, set, length-set}
use lib.Seq.{get_or-set_same, get_or-set_other}
use borrow.Author.Tests.{eqb-true, eqb-false}
use Rattle.meaning.specs.Bytes.{when◌then◌else◌}
use Rattle.laws.proofs.Lists.Among.{In, here, in_cons_cases, in_none, in_append_left, in_append_right}
use Rattle.term.specs.Cells.{Places, term_word}
use Rattle.term.specs.Setting.{Setting}
use Rattle.term.proofs.Cells.{word_positive}
use Rattle.term.specs.Layout.{trial_region, gift_pair, gift_term, woken_part}
use Rattle.run_table.specs.Rows.{head_written, goal_written, asked_written}
use Rattle.run_compare.specs.Gifts.{to_head, to_goal}
use Rattle.run_compare.specs.Notes.{Note, given, asked, asks_in, noted, written}
use Rattle.run_compare.specs.Compare.{Template, AllNoted}
use Rattle.run_readers.specs.Readers.{asked_in}
use Rattle.run_readers.proofs.Asking.{asked_kept, asked_more, asked_less}
use Rattle.run_asked.specs.Asking.{AllBelow}

-- One note more: of a pair with a term, of a pair with none.
module _ (s : List ℕ) (n p w : ℕ) (large : woken_part ≤ length s) (room : n < 192) where
  abbrev mid : List ℕ
  mid = set s (gift_pair n) p

  abbrev after : List ℕ
  after = goal_written n p w s

  long : length mid ≡ length s
  long = length-set s (gift_pair n) p

  pub noted_long : length after ≡ length s
  noted_long = length-set mid (gift_term n) w ∙ long

  term_there : get_or after (gift_term n) 0 ≡ w
  term_there = get_or-set_same mid (gift_term n) w 0 (omega (arith, long))

  pair_there : get_or after (gift_pair n) 0 ≡ p
  pair_there =
      get_or-set_other mid (gift_term n) (gift_pair n) w 0 (λ e. omega arith) ∙ get_or-set_same s (gift_pair n) p 0 (omega arith)

  before_there : asked_in after n ≡ asked_in s n
  before_there =
      asked_kept s after n
      (λ x a b.
      get_or-set_other mid (gift_term n) x w 0 (λ e. omega arith) ∙ get_or-set_other s (gift_pair n) x p 0 (λ e. omega arith))

  pub with_term : 0 < w → asked_in after (n + 1) ≡ asked_in s n
  with_term h = asked_less after n (λ e. omega (arith, term_there)) ∙ before_there

  pub with_none : w ≡ 0 → asked_in after (n + 1) ≡ asked_in s n ++ (p ∷ [])
  with_none e = asked_more after n (term_there ∙ e) ∙ rw (before_there, pair_there)

head_there : (s : List ℕ) (n x w : ℕ) → x < 16 → asked_in (head_written x w s) n ≡ asked_in s n
head_there s n x w h =
    asked_kept s (head_written x w s) n (λ k a b. get_or-set_other s (trial_region + x) k w 0 (λ e. omega arith))

-- The notes' readers stand behind those before them.
module _ (item unit : Places) where
  pub asked_are : (ns : List Note) (s : List ℕ) (x : Setting) (y : Template) (lo hi n : ℕ) (s₀ : List ℕ) → y.pairs ≤ 16 → AllNoted s₀ x y lo hi ns
      → woken_part ≤ length s → n + noted ns ≤ 192
      → asked_in (written item unit n ns s) (n + noted ns) ≡ asked_in s n ++ map (λ p. unit.pair p) (asks_in ns)
  unfolding written noted asks_in AllNoted
  asked_are [] s x y lo hi n s₀ few k large room =
      let same : n + 0 ≡ n = omega arith in
      rw same (sym (append-nil (asked_in s n)))
  asked_are (given (to_head a u) ∷ ns) s x y lo hi n s₀ few k large room =
      asked_are ns (head_written a (term_word unit u) s) x y lo hi n s₀ few k.1
      (omega (arith, length-set s (trial_region + a) (term_word unit u))) room
      ∙ ap (λ l. l ++ map (λ p. unit.pair p) (asks_in ns)) (head_there s n a (term_word unit u) (omega (arith, k.0.0)))
  asked_are (given (to_goal z t) ∷ ns) s x y lo hi n s₀ few k large room =
      let p = unit.pair z in
      let w = term_word item t in
      let same : n + (noted ns + 1) ≡ n + 1 + noted ns = omega arith in
      let more : n < 192 = omega arith in
      rw same
      (asked_are ns (goal_written n p w s) x y k.2 hi (n + 1) s₀ few k.5 (omega (arith, noted_long s n p w large more)) (omega arith)
      ∙ ap (λ l. l ++ map (λ q. unit.pair q) (asks_in ns)) (with_term s n p w large more (word_positive item t)))
  asked_are (asked z ∷ ns) s x y lo hi n s₀ few k large room =
      let p = unit.pair z in
      let same : n + (noted ns + 1) ≡ n + 1 + noted ns = omega arith in
      let more : n < 192 = omega arith in
      let rest = map (λ q. unit.pair q) (asks_in ns) in
      rw same
      (asked_are ns (asked_written n p s) x y lo hi (n + 1) s₀ few k.1 (omega (arith, noted_long s n p 0 large more)) (omega arith)
      ∙ ap (λ l. l ++ rest) (with_none s n p 0 large more refl)
      ∙ append_assoc (asked_in s n) (p ∷ []) rest)

-- They are pairs of the unit.
pub asks_below : (ns : List Note) (s : List ℕ) (x : Setting) (y : Template) (lo hi : ℕ) → AllNoted s x y lo hi ns
    → AllBelow (length x.values) (asks_in ns)
unfolding asks_in AllNoted
asks_below [] s x y lo hi k = tt
asks_below (given (to_head a u) ∷ ns) s x y lo hi k = asks_below ns s x y lo hi k.1
asks_below (given (to_goal z t) ∷ ns) s x y lo hi k = asks_below ns s x y k.2 hi k.5
asks_below (asked z ∷ ns) s x y lo hi k = (k.0, asks_below ns s x y lo hi k.1)

pub none_mapped : (f : ℕ → ℕ) (l : List ℕ) → map f l ≡ [] → l ≡ []
none_mapped f [] e = refl
none_mapped f (r ∷ l) e =
    let wrong : ◌≡◌ {A = ℕ} 0 1 = cc in
    absurd (omega arith)

pub mapped_below : (n most : ℕ) (f : ℕ → ℕ) → ((q : ℕ) → q < n → f q < most) → (l : List ℕ) → AllBelow n l → {p : ℕ} → In p (map f l) → p < most
mapped_below n most f small [] b m = absurd (in_none m)
mapped_below n most f small (q ∷ l) b {p} m =
    ⊎_elim (λ e. rw e (small q b.0)) (mapped_below n most f small l b.1) (in_cons_cases m)

pub below_both : (n : ℕ) (a b : List ℕ) → AllBelow n a → AllBelow n b → AllBelow n (a ++ b)
below_both n [] b h k = k
below_both n (r ∷ a) b h k = (h.0, below_both n a b h.1 k)

-- A pair beside which no term stands is one of them.
pub asked_at : (s : List ℕ) (n i : ℕ) → i < n → get_or s (gift_term i) 0 ≡ 0 → In (get_or s (gift_pair i) 0) (asked_in s n)
unfolding asked_in when◌then◌else◌
asked_at s zero i h e = absurd (omega arith)
asked_at s (suc n) i h e = go (eqb i n) refl (asked_at s n i)
  where
    last : i ≡ n → In (get_or s (gift_pair i) 0) (asked_in s (suc n))
    last q = rw q (rw (rw q at e) (in_append_right (asked_in s n) (here refl)))

    go : (b : Bool) → eqb i n ≡ b → (i < n → get_or s (gift_term i) 0 ≡ 0 → In (get_or s (gift_pair i) 0) (asked_in s n))
        → In (get_or s (gift_pair i) 0) (asked_in s (suc n))
    go true q further = last (eqb-true i n q)
    go false q further =
        let less : i < n = omega (arith, eqb-false i n q) in
        in_append_left _ (further less e)
