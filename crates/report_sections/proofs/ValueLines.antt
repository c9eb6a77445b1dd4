-- The `NAME = value` lines, one more behind so many.
use Prim.Native.Nat.{ℕ, ◌+◌, ◌*◌, ◌<◌}
use mathlib.Core.Path.{◌≡◌, refl, sym, ap, ap₂, ◌∙◌}
use mathlib.Core.List.{List, [], ◌∷◌, ◌++◌, append-nil}
use native.Mathlib.Numerals.{add-one}
use native.Mathlib.Omega.{arith}
use lib.ListN.{length, get_or, take, length-take}
use lib.Seq.{slice, take-suc}
use Rattle.meaning.specs.Bytes.{Bytes, bytes}
use Rattle.meaning.specs.Terms.{writer, Term}
use Rattle.meaning.specs.State.{Values}
use Rattle.meaning.specs.Report.{alone}
use Rattle.term.specs.Cells.{Known}
use Rattle.term.specs.Holds.{Holds}
use Rattle.term.specs.Setting.{Setting, Within, Ranged}
use Rattle.term.specs.Spellings.{SpelledAt}
use Rattle.term.proofs.Spellings.{holds_spellings_kept, holds_spelling_at}
use Rattle.term.specs.Layout.{items_region, query_pairs_word, query_first_pair_word, query_variables_from}
use Rattle.term.specs.Words.{writer_word}
use Rattle.report_pairs.specs.Threaded.{full, seen_after, shown, shown_values, seen_after_values}
use Rattle.report_pairs.specs.Sound.{Sound}
use Rattle.report_pairs.specs.Facts.{Readable, Shows, Changed}
use Rattle.report_count.specs.Counts.{Counts, Counted}
use Rattle.report_pairs.specs.Laid.{Puts}
use Rattle.report_leaves.specs.Writes.{Writes}
use Rattle.report_sections.specs.Sections.{Variables}
use Rattle.report_pairs.proofs.Laid.{puts_as}
use Rattle.report_sections.proofs.Lines.{shown_values_append, seen_after_values_append}
use Rattle.report_count.proofs.Lengths.{changed_below, counted_none, counted_then, counted_as}

-- The variables' words stay when facts change.
pub variables_kept : (s s' : List ℕ) (text : Bytes) (x : Setting) (facts q : ℕ) (xs : List Bytes) → Readable s text x facts → Changed s s' x facts
    → Variables s text x q xs → Variables s' text x q xs
variables_kept s s' text x facts q xs r c v =
    let same : (k : ℕ) → k < items_region → get_or s' k 0 ≡ get_or s k 0 =
    λ k h. changed_below s s' text x facts c k (omega (arith, r.behind)) (λ e. omega arith) in
    record {
      small = v.small;
      few = v.few;
      number = same (query_pairs_word q) (omega (arith, v.small)) ∙ v.number;
      spelled = holds_spellings_kept s s' text (query_variables_from q) xs (λ k l h. same k (omega (arith, v.small, v.few))) v.spelled;
      pair = λ n h. v.pair n h ∙ ap (λ (k : ℕ). k + n) (sym (same (query_first_pair_word q) (omega (arith, v.small))));
      low = v.low;
      within = v.within;
    }

-- The v-th variable is a term of the unit.
pub shows_variable : (s : List ℕ) (text : Bytes) (x : Setting) (q : ℕ) (xs : List Bytes) (v w : ℕ) → Variables s text x q xs → v < length xs
    → w ≡ writer_word (get_or s (query_first_pair_word q) 0 + v) → Shows s x (Term.variable writer v) w
unfolding Holds Within Known Ranged Sound
shows_variable s text x q xs v w vs h e =
    record {
      term = record { held = tt; of = record { within = omega (arith, vs.within); known = tt; ranged = tt } };
      sound = tt;
      word = e ∙ ap (λ (k : ℕ). writer_word k) (sym (vs.pair v h));
    }

-- How long its name is.
pub name_size : (s : List ℕ) (text : Bytes) (x : Setting) (q : ℕ) (xs : List Bytes) (v : ℕ) → Variables s text x q xs → v < length xs
    → SpelledAt text (get_or s (query_variables_from q + 2 * v) 0) (get_or s (query_variables_from q + 2 * v + 1) 0) (get_or xs v [])
name_size s text x q xs v vs h = holds_spelling_at s text (query_variables_from q) v xs h vs.spelled

-- The bytes and the pairs of one line more.
module _ (values : Values) (seen : List ℕ) (xs : List Bytes) (v : ℕ) (h : v < length xs) where
  one_more : take (v + 1) xs ≡ take v xs ++ (get_or xs v [] ∷ [])
  one_more = ap (λ (n : ℕ). take n xs) (add-one v) ∙ take-suc xs v [] h

  place_of : 0 + length (take v xs) ≡ v
  place_of = simp length-take (omega arith)

  abbrev seen_v : List ℕ
  seen_v = seen_after_values values seen 0 (take v xs)

  abbrev pub line : ℕ → List ℕ → Bytes
  line p l = (get_or xs v [] ++ bytes " = ") ++ (shown l alone (full values (Term.variable writer p)) ++ bytes "\n")

  last_line : (p : ℕ) (l : List ℕ) → shown_values values l p (get_or xs v [] ∷ []) ≡ line p l
  unfolding shown_values
  last_line p l = append-nil (line p l)

  pub values_bytes : shown_values values seen 0 (take (v + 1) xs) ≡ shown_values values seen 0 (take v xs) ++ line v seen_v
  values_bytes =
      ap (shown_values values seen 0) one_more
      ∙ shown_values_append values (take v xs) (get_or xs v [] ∷ []) 0 seen
      ∙ ap (λ (p : ℕ). shown_values values seen 0 (take v xs) ++ shown_values values seen_v p (get_or xs v [] ∷ [])) place_of
      ∙ ap (◌++◌ (shown_values values seen 0 (take v xs))) (last_line v seen_v)

  last_seen : (p : ℕ) (l : List ℕ) → seen_after_values values l p (get_or xs v [] ∷ []) ≡ seen_after l (full values (Term.variable writer p))
  unfolding seen_after_values
  last_seen p l = refl

  pub values_seen_more : seen_after_values values seen 0 (take (v + 1) xs) ≡ seen_after seen_v (full values (Term.variable writer v))
  values_seen_more =
      ap (seen_after_values values seen 0) one_more
      ∙ seen_after_values_append values (take v xs) (get_or xs v [] ∷ []) 0 seen
      ∙ ap (λ (p : ℕ). seen_after_values values seen_v p (get_or xs v [] ∷ [])) place_of
      ∙ last_seen v seen_v

-- One line more counted.
pub value_counted : (s s₁ s₂ : List ℕ) (text : Bytes) (x : Setting) (facts at : ℕ) (seen : List ℕ) (xs : List Bytes) (v r₁ r₂ : ℕ) → v < length xs
    → (c : Counted s s₁ text x facts at seen (shown_values x.values seen 0 (take v xs)) (seen_after_values x.values seen 0 (take v xs)) r₁)
    → Counted s₁ s₂ text x facts r₁ c.after ((get_or xs v [] ++ bytes " = ") ++ (shown c.after alone (full x.values (Term.variable writer v)) ++ bytes "\n"))
    (seen_after c.after (full x.values (Term.variable writer v))) r₂
    → Counted s s₂ text x facts at seen (shown_values x.values seen 0 (take (v + 1) xs)) (seen_after_values x.values seen 0 (take (v + 1) xs)) r₂
value_counted s s₁ s₂ text x facts at seen xs v r₁ r₂ h c d =
    counted_as s s₂ text x facts at seen _ _ _ _ r₂ (sym (values_bytes x.values seen xs v h)) (sym (values_seen_more x.values seen xs v h))
    (counted_then s s₁ s₂ text x facts at seen _ _ r₁ r₂
    (λ l. (get_or xs v [] ++ bytes " = ") ++ (shown l alone (full x.values (Term.variable writer v)) ++ bytes "\n"))
    (λ l. seen_after l (full x.values (Term.variable writer v))) c d)

-- No line.
pub no_values : (s : List ℕ) (text : Bytes) (x : Setting) (facts : ℕ) (seen : List ℕ) (at : ℕ) (xs : List Bytes) → Counts s text x facts seen at
    → Counted s s text x facts at seen (shown_values x.values seen 0 (take 0 xs)) (seen_after_values x.values seen 0 (take 0 xs)) at
unfolding shown_values seen_after_values
no_values s text x facts seen at xs c = counted_none s text x facts seen at c

-- A name that was put is the variable's.
pub puts_name : (text : Bytes) (from n a b : ℕ) (f : Bytes) (c d : List ℕ) (at to : ℕ) → from ≡ a → n ≡ b → SpelledAt text a b f
    → Puts c d at to (slice from (from + n) text) → Puts c d at to f
puts_name text from n a b f c d at to e g spelled p =
    puts_as _ f c d at to (ap₂ (λ (i j : ℕ). slice i (i + j) text) e g ∙ spelled.spelled) p

-- The same place and size by equations.
pub writes_as : (s : List ℕ) (text : Bytes) (x : Setting) (facts : ℕ) (order : List ℕ) (t : Term) (at at' size size' : ℕ) → at ≡ at' → size ≡ size'
    → Writes s text x facts order t at size → Writes s text x facts order t at' size'
writes_as s text x facts order t at at' size size' e f w = record { readable = w.readable; numbered = w.numbered; fits = omega (arith, w.fits) }
