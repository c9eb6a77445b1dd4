-- The tokens of a text: a name holds no LF, and a variable holds no LF and does not begin with `q`, since a run is letters, digits and `_`.
-- So every job that a text gives is lined, and its reports are cut by their bytes alone.
use Prim.Native.Nat.{ℕ}
use mathlib.Core.Path.{◌≡◌, refl}
use mathlib.Core.Bool.{Bool, true, false}
use mathlib.Core.List.{[], ◌∷◌}
use lib.Dec.{eqb}
use Rattle.meaning.specs.Bytes.{Bytes, byte}
use Rattle.meaning.specs.Terms.{Job}
use Rattle.meaning.specs.Tokens.{between, lowercase, uppercase, in_run, run, unsigned, negative, tokens}
use Rattle.meaning.specs.Items.{job, reading}
use Rattle.laws.proofs.Lists.{each_implies, if_holds, not_this}
use Rattle.laws.proofs.Reading.EachToken.{EachToken, each_token_of_text}
use Rattle.laws.proofs.Report.SpelledReader.{TokenGood}
use Rattle.laws.proofs.Report.SpelledText.{ReadingGood, reading_good}
use Rattle.laws.proofs.Report.Cut.{Plain, no_break, begins_q, Inner}
use Rattle.laws.proofs.Report.Sections.{Lined}

in_run_no_break : (c : ℕ) → in_run c ≡ true → eqb c (byte "\n") ≡ false
unfolding in_run between byte
in_run_no_break c e = not_this in_run c (byte "\n") refl e

lowercase_no_break : (c : ℕ) → lowercase c ≡ true → eqb c (byte "\n") ≡ false
unfolding lowercase between byte
lowercase_no_break c e = not_this lowercase c (byte "\n") refl e

uppercase_no_break : (c : ℕ) → uppercase c ≡ true → eqb c (byte "\n") ≡ false
unfolding uppercase between byte
uppercase_no_break c e = not_this uppercase c (byte "\n") refl e

uppercase_no_q : (c : ℕ) → uppercase c ≡ true → eqb c (byte "q") ≡ false
unfolding uppercase between byte
uppercase_no_q c e = not_this uppercase c (byte "q") refl e

plain_more : (c : ℕ) (cs : Bytes) → eqb c (byte "\n") ≡ false → Plain cs → Plain (c ∷ cs)
unfolding no_break
plain_more c cs e p = rw e p

run_plain : (cs : Bytes) → Plain (run cs)
unfolding run no_break
run_plain [] = refl
run_plain (c ∷ cs) = go (in_run c) refl (run_plain cs)
  where
    go : (b : Bool) → in_run c ≡ b → Plain (run cs) → Plain (run (c ∷ cs))
    go true e further = rw (e, run) (plain_more c (run cs) (in_run_no_break c e) further)
    go false e further = rw (e, run)

variable_inner : (c : ℕ) (cs : Bytes) → uppercase c ≡ true → Inner (c ∷ run cs)
unfolding begins_q
variable_inner c cs e = record { plain = plain_more c (run cs) (uppercase_no_break c e) (run_plain cs); begins = uppercase_no_q c e }

-- Every token of a text, as it is made.
tokens_good : (text : Bytes) → EachToken (TokenGood Plain Inner) (tokens text)
unfolding unsigned negative
tokens_good text =
    each_token_of_text (TokenGood Plain Inner) (record {
      names = λ c cs low few. plain_more c (run cs) (lowercase_no_break c low) (run_plain cs);
      variables = λ h c cs up few. variable_inner c cs up;
      unsigned_ones = unsigned_good;
      negative_ones = λ c cs d. negative_good (c ∷ cs);
      signs = λ c. tt;
      bad_one = tt;
    }) text
  where
    unsigned_good : (cs : Bytes) → TokenGood Plain Inner (unsigned cs)
    unsigned_good cs = if_holds (TokenGood Plain Inner) _ _ _ (λ e. tt) (λ e. tt)

    negative_good : (cs : Bytes) → TokenGood Plain Inner (negative cs)
    negative_good cs = if_holds (TokenGood Plain Inner) _ _ _ (λ e. tt) (λ e. tt)

-- No name of a job that a text gives holds an LF, and no variable begins with `q`.
pub read_job_lined : (text : Bytes) (j : Job) → reading text ≡ job j → Lined j
read_job_lined text j e =
    let good = reading_good Plain Inner text (tokens_good text) in
    lined (rw e at good)
  where
    lined : ReadingGood Plain Inner (job j) → Lined j
    lined g =
        record {
          names = record { clauses = g.0; queries = each_implies _ _ (λ q s. s.goals) j.queries g.1 };
          variables = each_implies _ _ (λ q s. s.variables) j.queries g.1;
        }
