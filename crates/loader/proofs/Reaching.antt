-- From one item to the next: the definitions' reading goes on behind the full stop, and the scratch has one entry more.
use Prim.Native.Nat.{ℕ, ◌+◌, ◌≤◌, ◌<◌}
use mathlib.Core.Path.{◌≡◌, refl, ap, sym, ◌∙◌}
use mathlib.Core.List.{List, [], ◌∷◌, ◌++◌, map, append_assoc}
use native.Mathlib.Omega.{arith}
use native.Mathlib.Numerals.{add-one}
use lib.ListN.{length, drop, replicate, length-drop, length-set, length-replicate, get_or-replicate}
use lib.Seq.{take-suc-set}
use Rattle.std.proofs.lemmas.List.{append-nil, length_push}
use Rattle.meaning.specs.Bytes.{Bytes}
use Rattle.meaning.specs.Terms.{Clause, Query}
use Rattle.meaning.specs.Tokens.{Tokens, ends, token, sign, tokens}
use Rattle.meaning.specs.Items.{Piece, clause, query, refused, Refusal, with_clause, with_query, item, items, pieces}
use Rattle.term.proofs.Frames.{only_same, only_then}
use Rattle.term.specs.Frames.{Only}
use Rattle.term.specs.Layout.{trial_region}
use Rattle.load_tokens.specs.Fronts.{tokens_at, tokens_in}
use Rattle.load_names.specs.Places.{Place, Placed, spellings, before, names_over, variables_over, with_name}
use Rattle.load_names.specs.Tables.{NamesIn, last_with}
use Rattle.load_openings.specs.Reading.{piece}
use Rattle.load_image.specs.Image.{
  names_in,
  variables_in,
  Entry,
  a_clause,
  a_query,
  so_far,
  entries,
  clauses_of,
  queries_of,
  entries_stored,
  clause_stored,
  query_stored,
  head_word,
  head_words,
}
use Rattle.load_items.specs.Outcomes.{Took, TookClause, TookQuery, shifted}
use Rattle.loader.specs.Loading.{with_entries, EntriesKnown, Reached}
use Rattle.load_openings.proofs.Passing.{names_more}
use Rattle.loader.proofs.Pieces.{piece_is, pieces_cut, names_before, names_of_piece, variables_of_piece, tokens_behind}
use Rattle.loader.proofs.Entries.{
  with_snoc,
  clauses_snoc,
  queries_snoc,
  stored_snoc_clause,
  stored_snoc_query,
  known_snoc_entries,
  entries_still_known,
  entries_still,
  heads_still,
}

-- No name is known yet.
no_names : (text : Bytes) (names : List ℕ) → names ≡ replicate 1024 0 → NamesIn text [] names
unfolding last_with
no_names text names e = record {
  size = ap length e ∙ length-replicate {A = ℕ} 1024 0;
  few = omega arith;
  starts = λ n l. absurd (omega arith);
  lengths = λ n l. absurd (omega arith);
  inside = λ n l. absurd (omega arith);
  spelled = λ n l. absurd (omega arith);
  distinct = λ m n a b. absurd (omega arith);
  heads = λ h l. rw e (get_or-replicate {A = ℕ} 1024 (512 + h) 0 0 (omega arith));
  chains = λ n l. absurd (omega arith);
  unused = λ k a b. rw e (get_or-replicate {A = ℕ} 1024 k 0 0 (omega arith));
}

pub reached_none : (text : Bytes) (s names heads : List ℕ) → names ≡ replicate 1024 0 → length heads ≡ 128 → Reached text s s names heads 0 0 0 0 [] []
unfolding tokens with_entries clauses_of queries_of head_words entries_stored EntriesKnown
reached_none text s names heads e size = record {
  inside = omega arith;
  names_table = no_names text names e;
  count_is = refl;
  clauses_are = refl;
  queries_are = refl;
  few = omega arith;
  reads = refl;
  entries_are = refl;
  names_are = refl;
  stored_is = refl;
  heads_are = refl;
  heads_size = size;
  known_names = tt;
  only = only_same 0 trial_region s;
}

zero_plus : (n : ℕ) → n ≡ 0 + n
zero_plus n = omega arith

words_snoc : (places : List Place) (cs : List Clause) (c : Clause) → head_words places (cs ++ (c ∷ [])) ≡ head_words places cs ++ (head_word places c.head ∷ [])
unfolding head_words
words_snoc places [] c = refl
words_snoc places (d ∷ cs) c = ap (λ l. head_word places d.head ∷ l) (words_snoc places cs c)

-- The definitions at one piece more.
module _ (places : List Place) (clauses queries : ℕ) (p : Tokens) (ps : List Tokens) where
  items_clause : (c : Clause) (names : List Bytes) → item (so_far places clauses queries) p ≡ clause c names
      → items (so_far places clauses queries) (p ∷ ps) ≡ with_clause c (items (record { names = names; clauses = clauses + 1; queries = queries }) ps)
  unfolding items so_far
  items_clause c names h = rw (h, items)

  items_query : (q : Query) (names : List Bytes) → item (so_far places clauses queries) p ≡ query q names
      → items (so_far places clauses queries) (p ∷ ps) ≡ with_query q (items (record { names = names; clauses = clauses; queries = queries + 1 }) ps)
  unfolding items so_far
  items_query q names h = rw (h, items)

  pub items_refused : (r : Refusal) → item (so_far places clauses queries) p ≡ Piece.refused r → items (so_far places clauses queries) (p ∷ ps) ≡ refused r
  unfolding items
  items_refused r h = rw (h, items)

  entries_clause : (c : Clause) (names : List Bytes) → item (so_far places clauses queries) p ≡ clause c names
      → entries places clauses queries (p ∷ ps) ≡ a_clause c ∷ entries (names_in p places) (clauses + 1) queries ps
  unfolding entries
  entries_clause c names h = rw (h, entries)

  entries_query : (q : Query) (names : List Bytes) → item (so_far places clauses queries) p ≡ query q names
      → entries places clauses queries (p ∷ ps) ≡ a_query q (variables_in p []) ∷ entries (names_in p places) clauses (queries + 1) ps
  unfolding entries
  entries_query q names h = rw (h, entries)

module _ (text : Bytes) (s₀ s names heads : List ℕ) (from clauses queries known : ℕ) (places : List Place) (done : List Entry)
    (r : Reached text s₀ s names heads from clauses queries known places done) where
  pub here : tokens_in from (drop from text) 0 ≡ tokens_at text from
  here =
      let same_place : from + 0 ≡ from = omega arith in
      tokens_behind text (drop from text) from 0 refl ∙ ap (tokens_at text) same_place

  module _ (names' : List ℕ) (at count' : ℕ) (ps : List Placed) (stop : ℕ) (t : Took text (drop from text) from places names' at count' ps stop) where
    abbrev cut : Tokens
    cut = before ps (token stop (sign 46) (ends stop))

    all_tokens : tokens_at text from ≡ before ps (token stop (sign 46) (tokens_at text (from + at)))
    all_tokens = sym here ∙ t.follows ∙ ap (λ ts. before ps (token stop (sign 46) ts)) (tokens_behind text (drop from text) from at refl)

    all_pieces : pieces (tokens_at text from) ≡ cut ∷ pieces (tokens_at text (from + at))
    all_pieces = rw all_tokens (pieces_cut ps stop (tokens_at text (from + at)) t.no_stop)

    this_piece : piece (tokens_in from (drop from text) 0) ≡ cut
    this_piece = rw t.follows (piece_is ps stop (tokens_in from (drop from text) at) t.no_stop)

    next_names : names_in (tokens text) [] ≡ names_in (tokens_at text (from + at)) (names_over ps places)
    unfolding names_in with_name
    next_names = r.names_are ∙ ap (λ ts. names_in ts places) all_tokens ∙ names_before ps (token stop (sign 46) (tokens_at text (from + at))) places

    pub next_inside : from + at ≤ length text
    next_inside = omega (arith, t.inside, length-drop from text, r.inside)

  -- A clause more.
  pub reached_clause : (s' names' heads' : List ℕ) (at count' : ℕ) (c : Clause) (ps : List Placed) (stop : ℕ)
      → TookClause text (drop from text) from places clauses queries s heads s' names' heads' at count' c ps stop → Only 0 trial_region s s'
      → Reached text s₀ s' names' heads' (from + at) (clauses + 1) queries count' (names_over ps places) (done ++ (a_clause c ∷ []))
  unfolding with_entries clauses_of queries_of head_words EntriesKnown so_far
  reached_clause s' names' heads' at count' c ps stop k only =
      let t = k.took in
      let places' = names_over ps places in
      let m = names_more ps places in
      let this = rw (this_piece names' at count' ps stop t) at k.reads in
      let p = before ps (token stop (sign 46) (ends stop)) in
      let after = pieces (tokens_at text (from + at)) in
      let cut_here = all_pieces names' at count' ps stop t in
      let eC : clauses_of (done ++ (a_clause c ∷ [])) ≡ clauses_of done ++ (c ∷ []) = clauses_snoc done (a_clause c ∷ []) in
      let inside_heads : clauses < length heads = omega (arith, k.few.0, r.heads_size) in
      record {
        inside = next_inside names' at count' ps stop t;
        names_table = t.names_in;
        count_is = t.count_is;
        clauses_are = rw eC (omega (arith, r.clauses_are, length_push (clauses_of done) c));
        queries_are = r.queries_are ∙ ap length (sym (queries_snoc done (a_clause c ∷ []) ∙ append-nil (queries_of done)));
        few = (omega (arith, k.few.0), r.few.1);
        reads =
            r.reads ∙ ap (λ l. with_entries done (items (so_far places clauses queries) l)) cut_here
            ∙ ap (with_entries done) (items_clause places clauses queries p after c (spellings places') this)
            ∙ sym (with_snoc done (a_clause c) (items (so_far places' (clauses + 1) queries) after));
        entries_are =
            r.entries_are ∙ ap (λ l. done ++ entries places clauses queries l) cut_here
            ∙ ap (λ l. done ++ l) (entries_clause places clauses queries p after c (spellings places') this
            ∙ ap (λ n. a_clause c ∷ entries n (clauses + 1) queries after) (names_of_piece ps stop places))
            ∙ sym (append_assoc done (a_clause c ∷ []) (entries places' (clauses + 1) queries after));
        names_are = next_names names' at count' ps stop t;
        stored_is =
            k.stored_is ∙ ap (clause_stored places' clauses c) (r.stored_is ∙ sym (entries_still places places' m 0 0 done s₀ r.known_names))
            ∙ ap (λ n. clause_stored places' n c (entries_stored places' 0 0 done s₀)) (r.clauses_are ∙ zero_plus (length (clauses_of done)))
            ∙ sym (stored_snoc_clause places' 0 0 done c s₀);
        heads_are =
            rw (k.noted, add-one clauses, take-suc-set heads clauses (head_word places' c.head) inside_heads, r.heads_are, eC)
            (ap (λ l. l ++ (head_word places' c.head ∷ [])) (sym (heads_still places places' m done r.known_names))
            ∙ sym (words_snoc places' (clauses_of done) c));
        heads_size = ap length k.noted ∙ length-set heads clauses (head_word places' c.head) ∙ r.heads_size;
        known_names =
            known_snoc_entries (spellings places') done (a_clause c ∷ []) (entries_still_known places places' m done r.known_names)
            ((k.known_names, k.guards_named), k.few.1, tt);
        only = only_then 0 trial_region s₀ s s' r.only only;
      }

  -- A query more.
  pub reached_query : (s' names' heads' : List ℕ) (at count' : ℕ) (q : Query) (ps : List Placed) (stop : ℕ)
      → TookQuery text (drop from text) from places clauses queries s heads s' names' heads' at count' q ps stop → Only 0 trial_region s s'
      → Reached text s₀ s' names' heads' (from + at) clauses (queries + 1) count' (names_over ps places)
      (done ++ (a_query q (map (shifted from) (variables_over from ps [])) ∷ []))
  unfolding with_entries clauses_of queries_of head_words EntriesKnown so_far
  reached_query s' names' heads' at count' q ps stop k only =
      let t = k.took in
      let places' = names_over ps places in
      let vs = map (shifted from) (variables_over from ps []) in
      let m = names_more ps places in
      let this = rw (this_piece names' at count' ps stop t) at k.reads in
      let p = before ps (token stop (sign 46) (ends stop)) in
      let after = pieces (tokens_at text (from + at)) in
      let cut_here = all_pieces names' at count' ps stop t in
      let eC : clauses_of (done ++ (a_query q vs ∷ [])) ≡ clauses_of done = clauses_snoc done (a_query q vs ∷ []) ∙ append-nil (clauses_of done) in
      let eQ : queries_of (done ++ (a_query q vs ∷ [])) ≡ queries_of done ++ (q ∷ []) = queries_snoc done (a_query q vs ∷ []) in
      let eV : variables_in p [] ≡ vs = variables_of_piece (drop from text) from 0 ps stop (token stop (sign 46) (tokens_in from (drop from text) at)) t.follows in
      record {
        inside = next_inside names' at count' ps stop t;
        names_table = t.names_in;
        count_is = t.count_is;
        clauses_are = rw eC r.clauses_are;
        queries_are = rw eQ (omega (arith, r.queries_are, length_push (queries_of done) q));
        few = (r.few.0, omega (arith, k.few));
        reads =
            r.reads ∙ ap (λ l. with_entries done (items (so_far places clauses queries) l)) cut_here
            ∙ ap (with_entries done) (items_query places clauses queries p after q (spellings places') this)
            ∙ sym (with_snoc done (a_query q vs) (items (so_far places' clauses (queries + 1)) after));
        entries_are =
            r.entries_are ∙ ap (λ l. done ++ entries places clauses queries l) cut_here
            ∙ ap (λ l. done ++ l) (entries_query places clauses queries p after q (spellings places') this
            ∙ ap (λ n. a_query q (variables_in p []) ∷ entries n clauses (queries + 1) after) (names_of_piece ps stop places)
            ∙ ap (λ v. a_query q v ∷ entries places' clauses (queries + 1) after) eV)
            ∙ sym (append_assoc done (a_query q vs ∷ []) (entries places' clauses (queries + 1) after));
        names_are = next_names names' at count' ps stop t;
        stored_is =
            k.stored_is ∙ ap (query_stored places' queries q vs) (r.stored_is ∙ sym (entries_still places places' m 0 0 done s₀ r.known_names))
            ∙ ap (λ n. query_stored places' n q vs (entries_stored places' 0 0 done s₀)) (r.queries_are ∙ zero_plus (length (queries_of done)))
            ∙ sym (stored_snoc_query places' 0 0 done q vs s₀);
        heads_are = rw (k.noted, eC) (r.heads_are ∙ sym (heads_still places places' m done r.known_names));
        heads_size = rw k.noted r.heads_size;
        known_names =
            known_snoc_entries (spellings places') done (a_query q vs ∷ []) (entries_still_known places places' m done r.known_names) (k.known_names, tt);
        only = only_then 0 trial_region s₀ s s' r.only only;
      }
