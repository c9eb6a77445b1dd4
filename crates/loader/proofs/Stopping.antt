-- Where reading stops: the first refused item decides, and where nothing is left all that was read is the job.
use Prim.Native.Nat.{ℕ}
use mathlib.Core.Path.{◌≡◌, refl, ap, ◌∙◌}
use mathlib.Core.Bool.{Bool, true, false}
use mathlib.Core.List.{List, [], ◌∷◌}
use lib.ListN.{drop}
use Rattle.meaning.specs.Bytes.{Bytes, when◌then◌else◌}
use Rattle.meaning.specs.Tokens.{Token, Tokens, ends, token}
use Rattle.meaning.specs.Items.{Piece, Refusal, refused, is, onto, item, items, pieces, asked, reading}
use Rattle.load_tokens.specs.Fronts.{tokens_at, tokens_in}
use Rattle.load_names.specs.Places.{Place, spellings}
use Rattle.load_openings.specs.Reading.{piece}
use Rattle.load_image.specs.Image.{Entry, so_far}
use Rattle.loader.specs.Loading.{with_entries, Reached}
use Rattle.loader.proofs.Entries.{with_refused}
use Rattle.loader.proofs.Reaching.{items_refused, here}

first_by : (at : ℕ) (t : Token) (ts : Tokens) (b : Bool) → is "." t ≡ b → (others : List Tokens) → pieces ts ≡ piece ts ∷ others
    → (more : List Tokens) × (pieces (token at t ts) ≡ piece (token at t ts) ∷ more)
unfolding pieces piece when◌then◌else◌ onto
first_by at t ts true h others e = (pieces ts, rw h)
first_by at t ts false h others e = (others, rw (h, e))

pub first_piece : (ts : Tokens) → (more : List Tokens) × (pieces ts ≡ piece ts ∷ more)
unfolding pieces piece
first_piece (ends n) = ([], refl)
first_piece (token at t ts) =
    let before = first_piece ts in
    first_by at t ts (is "." t) refl before.0 before.1

module _ (text : Bytes) (s₀ s names heads : List ℕ) (from clauses queries known : ℕ) (places : List Place) (done : List Entry)
    (r : Reached text s₀ s names heads from clauses queries known places done) where
  pub stopped : (why : Refusal) → item (so_far places clauses queries) (piece (tokens_in from (drop from text) 0)) ≡ Piece.refused why → reading text ≡ refused why
  unfolding reading asked so_far spellings
  stopped why h =
      let cut = first_piece (tokens_at text from) in
      let this = rw (here text s₀ s names heads from clauses queries known places done r) at h in
      let all = r.reads ∙ ap (λ l. with_entries done (items (so_far places clauses queries) l)) cut.1
      ∙ ap (with_entries done) (items_refused places clauses queries (piece (tokens_at text from)) cut.0 why this)
      ∙ with_refused done why in
      ap asked all
