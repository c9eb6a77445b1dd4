-- Spellings stay held where their two words stay; so where a job stays held, its text does.
use Prim.Native.Nat.{ℕ, zero, suc, ◌+◌, ◌*◌, ◌-◌, ◌≤◌, ◌<◌}
use mathlib.Core.Path.{◌≡◌}
use mathlib.Core.List.{List, [], ◌∷◌}
use native.Mathlib.Omega.{arith}
use lib.ListN.{length, get_or}
use Rattle.meaning.specs.Bytes.{Bytes}
use Rattle.meaning.specs.Terms.{Job}
use Rattle.term.specs.Jobs.{HoldsJob, KeptButIndex}
use Rattle.term.specs.Spellings.{SpelledAt, HoldsSpellings, HoldsVariables, HoldsText}
use Rattle.term.proofs.Jobs.{each_map}
use Rattle.term.specs.Layout.{query_record, query_variables_from, query_end}

pub holds_spellings_kept : (s s' : List ℕ) (text : Bytes) (place : ℕ) (fs : List Bytes)
    → ((k : ℕ) → place ≤ k → k < place + 2 * length fs → get_or s' k 0 ≡ get_or s k 0)
    → HoldsSpellings s text place fs → HoldsSpellings s' text place fs
unfolding HoldsSpellings
holds_spellings_kept s s' text place [] own h = tt
holds_spellings_kept s s' text place (f ∷ fs) own h = (
  rw (own place (omega arith) (omega arith), own (place + 1) (omega arith) (omega arith)) h.0,
  holds_spellings_kept s s' text (place + 2) fs (λ k l m. own k (omega arith) (omega arith)) h.1,
)

-- The n-th spelling.
pub holds_spelling_at : (s : List ℕ) (text : Bytes) (place n : ℕ) (fs : List Bytes) → n < length fs → HoldsSpellings s text place fs
    → SpelledAt text (get_or s (place + 2 * n) 0) (get_or s (place + 2 * n + 1) 0) (get_or fs n [])
unfolding HoldsSpellings
holds_spelling_at s text place n [] l h = absurd (omega arith)
holds_spelling_at s text place zero (f ∷ fs) l h = let same : place + 2 * 0 ≡ place = omega arith in rw same h.0
holds_spelling_at s text place (suc n) (f ∷ fs) l h =
    let same : place + 2 * suc n ≡ place + 2 + 2 * n = omega arith in
    rw same (holds_spelling_at s text (place + 2) n fs (omega arith) h.1)

pub holds_text_kept : (s s' : List ℕ) (text : Bytes) (names : List Bytes) (job : Job) → HoldsJob s names job → KeptButIndex s s'
    → HoldsText s text names job → HoldsText s' text names job
holds_text_kept s s' text names job held kept h =
    let few_names : length names ≤ 256 = held.few_names in
    let few_queries : length job.queries ≤ 8 = held.few_queries in
    record {
      names_held = holds_spellings_kept s s' text 0 names (λ k l m. kept.before k (omega arith)) h.names_held;
      variables_held = each_map (HoldsVariables s text) (HoldsVariables s' text) 0 job.queries
          (λ k q l m v. let few : length q.variables ≤ 16 = v.few in
          record {
            few = v.few;
            held = holds_spellings_kept s s' text (query_variables_from k) q.variables (λ w a b. record_word k w (omega arith) a (omega arith)) v.held;
          })
          h.variables_held;
    }
  where
    record_word : (k w : ℕ) → k < 8 → query_variables_from k ≤ w → w < query_end k → get_or s' w 0 ≡ get_or s w 0
    record_word k w few low high =
        let i = w - query_record k in
        let whole : query_record k + i ≡ w = omega arith in
        rw whole at (kept.records k i few (omega arith) (λ e. omega arith) (λ e. omega arith))
