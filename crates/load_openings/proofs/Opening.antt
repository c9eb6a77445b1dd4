-- A term by its first token, as the code's answers say it: read whole, or opened by a bracket, or refused.
use Rattle.std.specs.Prelude.{Result, Ok, Err, Some}
use Prim.Native.Nat.{ℕ, ◌+◌, ◌*◌, ◌-◌, ◌≤◌, ◌<◌, min}
use mathlib.Core.Path.{◌≡◌, refl, ap, sym, ◌∙◌}
use mathlib.Core.Bool.{Bool, true, false}
use mathlib.Core.List.{List, [], ◌∷◌, ◌++◌}
use native.Mathlib.Omega.{arith}
use lib.Dec.{eqb}
use lib.ListN.{length, get_or}
use lib.Seq.{slice}
use mathlib.Core.Logic.{◌≢◌}
use borrow.Author.Tests.{eqb-true, eqb-false}
use Rattle.meaning.specs.Bytes.{Bytes, same, any, byte, when◌then◌else◌}
use Rattle.meaning.specs.Terms.{Half, writer, reader, Integer, plus, minus, Constant, empty, Term, occurrences, same_half}
use Rattle.meaning.specs.Tokens.{Tokens, ends, token, name, variable, integer, sign}
use Rattle.meaning.specs.Items.{Counted, read, is, count_name, term}
use Rattle.term.specs.Cells.{term_word, stored, Numbered, Known}
use Rattle.term.specs.Cells.{bits as cell_bits}
use Rattle.term.specs.Words.{integer_word, packed, name_word}
use Rattle.load_tokens.specs.Fronts.{tokens_in, FrontIs, bits, double_sign, behind}
use Rattle.load_names.specs.Places.{Place, spellings, with_place, with_name, with_variable, item_places}
use Rattle.load_names.specs.Answers.{NameIs}
use Rattle.load_tokens.specs.Nexts.{SignAt, one_of}
use Rattle.load_openings.specs.Begun.{BehindName, BehindBracket, VariableBegun}
use Rattle.load_openings.specs.Reading.{piece, counted_at, half_place, Stands, BegunIs}
use Rattle.load_tokens.specs.declared.token.Token.TheVariants.{End, Name, Integer as AnInteger, Sign, Bad}
use Rattle.load_openings.specs.declared.cursor.Cursor.{Cursor}
use Rattle.load_openings.specs.declared.begin.Begun.{Begun}
use Rattle.load_openings.specs.declared.begin.Begun.TheVariants.{Got, Round, Square}
use Rattle.load_openings.specs.declared.cursor.Unread.{Unread}
use Rattle.load_openings.specs.declared.cursor.Unread.TheVariants.{Malformed, Exceeded}
use Rattle.load_names.proofs.Numbering.{placed}
use Rattle.load_openings.proofs.Expected.{piece_open}
use Rattle.load_openings.proofs.Passing.{piece_stops}
use Rattle.load_openings.proofs.Readers.{count_name_with, count_name_passed, count_variable_with, count_variable_passed}
use Rattle.load_openings.proofs.Begins.{
  term_end,
  term_bad,
  term_sign,
  term_integer,
  term_variable,
  term_variable_passed,
  term_name_passed,
  term_name,
  term_round_passed,
  term_round,
  term_square_passed,
  term_square,
  term_empty,
}
use Rattle.load_openings.proofs.Moves.{
  Moves,
  moves_then,
  moves_token,
  moves_sign,
  sign_placed,
  piece_sign,
  moved_to,
  stands_moved,
  once,
  half_small,
}
use Rattle.load_openings.proofs.Given.{gave_by}
use Rattle.load_tokens.proofs.InFront.{behind_past}

-- One occurrence more of one half of one pair.
occurs_same : (at m n : ℕ) (b : Bool) (item item' : List ℕ) → eqb m n ≡ b
    → get_or item' (at + n) 0 ≡ min 2 (get_or item (at + n) 0 + 1)
    → ((j : ℕ) → 32 ≤ j → j ≢ at + n → get_or item' j 0 ≡ get_or item j 0)
    → 32 ≤ at → get_or item (at + m) 0 ≤ 2
    → get_or item' (at + m) 0 ≡ min 2 (get_or item (at + m) 0 + (when eqb m n then 1 else 0))
unfolding when◌then◌else◌
occurs_same at m n true item item' e up kept high small =
    let one : m ≡ n = eqb-true m n e in
    rw (e, one) up
occurs_same at m n false item item' e up kept high small =
    let other : at + m ≢ at + n = λ s. eqb-false m n e (omega arith) in
    rw e (kept (at + m) (omega arith) other ∙ once (get_or item (at + m) 0) small)

occurs : (h k : Half) (n m : ℕ) (item item' : List ℕ) → n < 16 → m < 16
    → get_or item' (half_place h n) 0 ≡ min 2 (get_or item (half_place h n) 0 + 1)
    → ((j : ℕ) → 32 ≤ j → j ≢ half_place h n → get_or item' j 0 ≡ get_or item j 0)
    → get_or item (half_place k m) 0 ≤ 2
    → get_or item' (half_place k m) 0 ≡ min 2 (get_or item (half_place k m) 0 + occurrences k m (Term.variable h n))
unfolding half_place occurrences same_half when◌then◌else◌
occurs writer writer n m item item' few small up kept twice = occurs_same 32 m n (eqb m n) item item' refl up kept (omega arith) twice
occurs writer reader n m item item' few small up kept twice =
    kept (48 + m) (omega arith) (λ s. omega arith) ∙ once (get_or item (48 + m) 0) twice
occurs reader writer n m item item' few small up kept twice =
    kept (32 + m) (omega arith) (λ s. omega arith) ∙ once (get_or item (32 + m) 0) twice
occurs reader reader n m item item' few small up kept twice = occurs_same 48 m n (eqb m n) item item' refl up kept (omega arith) twice

module _ (left : ℕ) (text rest : Bytes) (from : ℕ) (known vars : List Place) (c : Cursor) (names item : List ℕ)
    (stands : Stands text rest from names item c known vars) where
  abbrev so_far : Counted
  so_far = counted_at known vars c.compounds

  abbrev here : Tokens
  here = piece (tokens_in from rest c.at)

  -- No term begins here.
  pub begun_end : FrontIs rest c.at End → BegunIs left text rest from known vars c item names item (Err (Malformed (length rest)))
  unfolding piece
  begun_end f = (ap (λ ts. term left so_far (piece ts)) (f from) ∙ term_end left so_far (from + length rest), omega arith)

  pub begun_bad : (a : ℕ) → FrontIs rest c.at (Bad a) → BegunIs left text rest from known vars c item names item (Err (Malformed a))
  unfolding piece is when◌then◌else◌
  begun_bad a f =
      let o = f.2 from in
      (ap (λ ts. term left so_far (piece ts)) o.1 ∙ term_bad left so_far (from + a) (piece o.0), omega (arith, f.1))

  pub begun_sign : (b a : ℕ) → FrontIs rest c.at (Sign b a) → eqb b 91 ≡ false
      → BegunIs left text rest from known vars c item names item (Err (Malformed a))
  unfolding piece
  begun_sign b a f e =
      let behind_it = tokens_in from rest (behind b a) in (
        ap (λ ts. term left so_far (piece ts)) (f.2 from)
            ∙ term_sign left so_far (from + a) b (when is "." (sign b) then ends (from + a) else piece behind_it) e,
        omega (arith, f.1, behind_past b a),
      )

  -- An integer.
  same_bits : (i : Integer) → bits i ≡ cell_bits i
  same_bits (plus n) = refl
  same_bits (minus n) = refl

  nothing_more : (h : Half) (n : ℕ) → n < 16 → get_or item (half_place h n) 0 ≡ min 2 (get_or item (half_place h n) 0 + 0)
  nothing_more h n few = once (get_or item (half_place h n) 0) (half_small stands.variables_in h n few)

  pub begun_integer : (w a e : ℕ) → FrontIs rest c.at (AnInteger w a e)
      → BegunIs left text rest from known vars c item names item (Ok (Got (integer_word w) (moved_to c e)))
  unfolding with_name with_variable is Numbered Known occurrences stored
  begun_integer w a e f =
      let i = f.4 in
      let follows = f.6 from in
      let p : here ≡ token (from + a) (integer i) (piece (tokens_in from rest e)) =
      ap piece follows ∙ piece_open (from + a) (integer i) (tokens_in from rest e) refl in (
        Term.constant (Constant.integer i),
        record { at = from + a; token = integer i } ∷ [],
        λ base s. gave_by known vars (moves_token from rest c.at e a (integer i) known vars follows refl)
            (ap (term left so_far) p ∙ term_integer left so_far (from + a) i (piece (tokens_in from rest e)))
            (stands_moved e stands f.2)
            (ap (λ v. integer_word v) (f.5 ∙ same_bits i))
            refl
            (omega arith)
            tt
            nothing_more,
      )

  -- A variable.
  module _ (h : Half) (tag a next : ℕ) (x : Bytes) (tagged : (n : ℕ) → packed tag n ≡ term_word (item_places [] 0) (Term.variable h n))
      (halved : (n : ℕ) → 16 + 16 * tag + n ≡ half_place h n) (inside : next ≤ length rest)
      (follows : tokens_in from rest c.at ≡ token (from + a) (variable h x) (tokens_in from rest next)) where
    first : here ≡ token (from + a) (variable h x) (piece (tokens_in from rest next))
    unfolding is
    first = ap piece follows ∙ piece_open (from + a) (variable h x) (tokens_in from rest next) refl

    pub begun_variable : (item' : List ℕ) (r : Result Begun Unread) → VariableBegun rest vars tag a x next c item item' r
        → BegunIs left text rest from known vars c item names item' r
    unfolding with_name with_variable is item_places stored Numbered Known
    begun_variable item' (Ok (Got w d)) v =
        let n = v.0 in
        let total = v.1 in
        let is_so = v.4 in
        let vars' = with_place a x vars in
        let few : n < 16 = omega (arith, is_so.0.few, is_so.1, is_so.2) in
        let back : from + a - from ≡ a = omega arith in
        let m : Moves from rest c.at next known vars known vars' (record { at = from + a; token = variable h x } ∷ []) =
        rw back at (moves_token from rest c.at next a (variable h x) known vars follows refl) in
        let up : get_or item' (half_place h n) 0 ≡ min 2 (get_or item (half_place h n) 0 + 1) = rw (halved n) at is_so.4 in
        let kept : (j : ℕ) → 32 ≤ j → j ≢ half_place h n → get_or item' j 0 ≡ get_or item j 0 = rw (halved n) at is_so.5 in
        rw v.3 (
          Term.variable h n,
          record { at = from + a; token = variable h x } ∷ [],
          λ base s. gave_by known vars' m
              (ap (term left so_far) first
              ∙ term_variable left so_far (from + a) h x (piece (tokens_in from rest next)) n (counted_at known vars' c.compounds)
              (count_variable_with a x known vars c.compounds n (piece (tokens_in from rest next)) is_so.0.few is_so.3))
              (record {
                part = stands.part;
                inside = inside;
                names_in = stands.names_in;
                names_count = stands.names_count;
                variables_in = is_so.0;
                variables_count = is_so.1;
                compounds_few = stands.compounds_few;
              })
              (v.2 ∙ tagged n)
              refl
              (omega arith)
              tt
              (λ k o small. occurs h k n o item item' few small up kept (half_small stands.variables_in k o small)),
        )
    begun_variable item' (Ok (Round m d)) v = absurd v
    begun_variable item' (Ok (Square d)) v = absurd v
    begun_variable item' (Err (Malformed place)) v = absurd v
    begun_variable item' (Err Exceeded) v =
        ap (term left so_far) first
        ∙ term_variable_passed left so_far (from + a) h x (piece (tokens_in from rest next))
        (count_variable_passed x known vars c.compounds (piece (tokens_in from rest next)) v.0 v.1)

  -- A name.
  module _ (a e : ℕ) (front : FrontIs rest c.at (Name a e)) where
    abbrev f : Bytes
    f = slice a e rest

    abbrev known' : List Place
    known' = with_place (from + a) f known

    named : here ≡ token (from + a) (name f) (piece (tokens_in from rest e))
    unfolding is
    named = ap piece (front.4 from) ∙ piece_open (from + a) (name f) (tokens_in from rest e) refl

    pub begun_name_passed : any (same f) (spellings known) ≡ false → 256 ≤ length known → (names' : List ℕ)
        → BegunIs left text rest from known vars c item names' item (Err Exceeded)
    begun_name_passed u many names' =
        ap (term left so_far) named
        ∙ term_name_passed left so_far (from + a) f (piece (tokens_in from rest e))
        (count_name_passed f known vars c.compounds (piece (tokens_in from rest e)) u many)

    module _ (n total : ℕ) (names' : List ℕ) (numbered : NameIs text known (from + a) f names names' (Some (n, total))) where
      abbrev d : Cursor
      d = record { at = e; names = total; variables = c.variables; compounds = c.compounds }

      count_it : (ts : Tokens) → count_name f so_far ts ≡ read tt (counted_at known' vars c.compounds) ts
      count_it ts = count_name_with (from + a) f known vars c.compounds ts numbered.0.few

      stands_named : Stands text rest from names' item d known' vars
      stands_named = record {
        part = stands.part;
        inside = front.2;
        names_in = numbered.0;
        names_count = numbered.1;
        variables_in = stands.variables_in;
        variables_count = stands.variables_count;
        compounds_few = stands.compounds_few;
      }

      moves : Moves from rest c.at e known vars known' vars (record { at = from + a; token = name f } ∷ [])
      unfolding with_name with_variable is byte
      moves = moves_token from rest c.at e a (name f) known vars (front.4 from) refl

      round : (b : ℕ) (s : SignAt rest e 40 b) → piece (tokens_in from rest e) ≡ token (from + s.place) (sign 40) (piece (tokens_in from rest b))
      round b s = piece_sign from rest e 40 b s refl

      opens : (b : ℕ) (s : SignAt rest e 40 b) → 0 < left → BegunIs left text rest from known vars c item names' item (Ok (Round n (moved_to d b)))
      opens b s some_left =
          let m = moves_then from rest c.at e b known vars known' vars known' vars (record { at = from + a; token = name f } ∷ [])
          (sign_placed from rest s ∷ []) moves (moves_sign from rest e 40 b known' vars s refl) in (
            f,
            (record { at = from + a; token = name f } ∷ []) ++ (sign_placed from rest s ∷ []),
            some_left,
            rw m.names numbered.3,
            record {
              reads = rw (m.names, m.variables)
                  (ap (term left so_far) (named ∙ ap (token (from + a) (name f)) (round b s))
                  ∙ term_round left so_far (from + a) f (from + s.place) (piece (tokens_in from rest b)) (counted_at known' vars c.compounds)
                  (count_it (token (from + s.place) (sign 40) (piece (tokens_in from rest b)))) (left - 1) (omega arith));
              follows = m.follows;
              stands = rw (m.names, m.variables) (stands_moved b stands_named s.inside);
              compounds_same = refl;
              no_stop = m.no_stop;
              item_same = refl;
            },
          )

      pub begun_name : (r : Result Begun Unread) → BehindName rest left n d r → BegunIs left text rest from known vars c item names' item r
      unfolding item_places stored Numbered Known occurrences
      begun_name (Ok (Got w d')) b =
          rw b.1 (
            Term.constant (Constant.name f),
            record { at = from + a; token = name f } ∷ [],
            λ base s. gave_by known' vars moves
                (ap (term left so_far) named
                ∙ term_name left so_far (from + a) f (piece (tokens_in from rest e)) (counted_at known' vars c.compounds) (from + b.2)
                (count_it (piece (tokens_in from rest e)))
                (piece_stops (one_of (40 ∷ [])) (from + b.2) (tokens_in from rest e) (b.3 from)))
                stands_named
                (b.0 ∙ ap (λ k. name_word k) (sym (placed f (spellings known') n numbered.3).number))
                refl
                (omega arith)
                (placed f (spellings known') n numbered.3).among
                nothing_more,
          )
      begun_name (Ok (Round m d')) b = rw (b.0, b.4) (opens b.2 b.3 b.1)
      begun_name (Ok (Square d')) b = absurd b
      begun_name (Err (Malformed place)) b = absurd b
      begun_name (Err Exceeded) b =
          ap (term left so_far) (named ∙ ap (token (from + a) (name f)) (round b.1 b.2))
          ∙ term_round_passed left so_far (from + a) f (from + b.2.place) (piece (tokens_in from rest b.1))
          (counted_at known' vars c.compounds) (count_it (token (from + b.2.place) (sign 40) (piece (tokens_in from rest b.1)))) b.0

  -- A list.
  module _ (b a : ℕ) (front : FrontIs rest c.at (Sign b a)) (square : b ≡ 91) where
    follows : tokens_in from rest c.at ≡ token (from + a) (sign 91) (tokens_in from rest (a + 1))
    unfolding behind double_sign byte when◌then◌else◌
    follows = rw square at (front.2 from)

    inside : a + 1 ≤ length rest
    unfolding behind double_sign byte when◌then◌else◌
    inside = rw square at front.1

    bracket : here ≡ token (from + a) (sign 91) (piece (tokens_in from rest (a + 1)))
    unfolding is byte
    bracket = ap piece follows ∙ piece_open (from + a) (sign 91) (tokens_in from rest (a + 1)) refl

    moves_in : Moves from rest c.at (a + 1) known vars known vars (record { at = from + a; token = sign 91 } ∷ [])
    unfolding with_name with_variable is byte
    moves_in = moves_token from rest c.at (a + 1) a (sign 91) known vars follows refl

    pub begun_list : (r : Result Begun Unread) → BehindBracket rest left (moved_to c (a + 1)) r → BegunIs left text rest from known vars c item names item r
    unfolding item_places stored Numbered Known occurrences
    begun_list (Ok (Got w d')) k =
        let e = k.2 in
        let s = k.3 in
        let m = moves_then from rest c.at (a + 1) e known vars known vars known vars (record { at = from + a; token = sign 91 } ∷ [])
        (sign_placed from rest s ∷ []) moves_in (moves_sign from rest (a + 1) 93 e known vars s refl) in
        rw k.4 (
          Term.constant empty,
          (record { at = from + a; token = sign 91 } ∷ []) ++ (sign_placed from rest s ∷ []),
          λ base st. gave_by known vars m
              (ap (term left so_far) (bracket ∙ ap (token (from + a) (sign 91)) (piece_sign from rest (a + 1) 93 e s refl))
              ∙ term_empty left so_far (from + a) (left - 1) (from + s.place) (piece (tokens_in from rest e)) (omega (arith, k.1)))
              (stands_moved e stands s.inside)
              k.0
              refl
              (omega arith)
              tt
              nothing_more,
        )
    begun_list (Ok (Round n d')) k = absurd k
    begun_list (Ok (Square d')) k =
        rw k.1 (
          record { at = from + a; token = sign 91 } ∷ [],
          k.0,
          record {
            reads = rw (moves_in.names, moves_in.variables)
                (ap (term left so_far) bracket
                ∙ term_square left so_far (from + a) (piece (tokens_in from rest (a + 1))) (left - 1) (from + k.2) (omega (arith, k.0))
                (piece_stops (one_of (93 ∷ [])) (from + k.2) (tokens_in from rest (a + 1)) (k.3 from)));
            follows = moves_in.follows;
            stands = rw (moves_in.names, moves_in.variables) (stands_moved (a + 1) stands inside);
            compounds_same = refl;
            no_stop = moves_in.no_stop;
            item_same = refl;
          },
        )
    begun_list (Err (Malformed place)) k = absurd k
    begun_list (Err Exceeded) k =
        ap (term left so_far) bracket ∙ term_square_passed left so_far (from + a) (piece (tokens_in from rest (a + 1))) k
