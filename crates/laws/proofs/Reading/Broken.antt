-- Which rule, which byte: what a fault of an item says, that no two faults share an offset, and that the least of them decides.
-- A fault is told by the places at which its half occurs; a place holds one token, and it is that half of that variable.
use Prim.Native.Nat.{ℕ, ◌≤◌}
use mathlib.Core.Path.{◌≡◌, refl, sym, ◌∙◌}
use mathlib.Core.Logic.{◌⊎◌, inl, inr}
use mathlib.Core.Bool.{Bool, true, false}
use mathlib.Core.List.{List, [], ◌∷◌, ◌++◌}
use mathlib.Core.Option.{Option, none, some}
use native.Mathlib.Omega.{arith}
use lib.Dec.{leb}
use borrow.Author.Tests.{leb-true, leb-false}
use Rattle.meaning.specs.Bytes.{Bytes, when◌then◌else◌}
use Rattle.meaning.specs.Terms.{Half, writer, reader}
use Rattle.meaning.specs.Tokens.{variable, Tokens}
use Rattle.meaning.specs.Faults.{
  Broken,
  twice,
  writer_alone,
  reader_alone,
  Fault,
  occurs_at,
  twice_faults,
  alone_faults,
  twice_of,
  alone_of,
  head_tokens,
  twice_in_clause,
  clause_faults,
  query_faults,
  smaller,
  least,
}
use Rattle.laws.proofs.Lists.{In, here, there, in_none, in_cons_cases, in_append_cases, in_append_left, in_append_right, in_single, differ, false_not_true}
use Rattle.laws.proofs.Reading.Faultless.{least_none}
use Rattle.laws.proofs.Reading.Pairing.{head_first}
use Rattle.laws.proofs.Reading.Rising.{Rising, StandsAt, occurs_stands_at, one_token_at, first_before}

-- The other half of a pair, and the rule that a half breaks whose other half is missing.
unfoldable pub other : Half → Half
other writer = reader
other reader = writer

unfoldable pub alone : Half → Broken
alone writer = writer_alone
alone reader = reader_alone

-- A reader that is free: of it only the head's occurrences are judged. In a query none is.
unfoldable pub pardoned : (Bytes → Bool) → Half → Bytes → Bool
pardoned free writer x = false
pardoned free reader x = free x

abbrev pub none_free : Bytes → Bool
none_free x = false

-- The tokens among which a half may not stand twice.
unfoldable pub judged_in : (Bytes → Bool) → Half → Bytes → Tokens → Tokens
judged_in free h x piece = when pardoned free h x then head_tokens piece else piece

-- "For 5 the second occurrence."
pub record TwiceAt (piece : Tokens) (h : Half) (x : Bytes) (f : Fault) : Type 0 where
  pub rule_is : f.rule ≡ twice
  pub first : ℕ
  pub others : List ℕ
  pub places : occurs_at h x piece ≡ first ∷ f.offset ∷ others

-- "For 9 and 10 the first occurrence of the lone half."
pub record AloneAt (piece : Tokens) (h : Half) (x : Bytes) (f : Fault) : Type 0 where
  pub rule_is : f.rule ≡ alone h
  pub others : List ℕ
  pub places : occurs_at h x piece ≡ f.offset ∷ others
  pub missing : occurs_at (other h) x piece ≡ []

-- A fault of an item: at some half of one of its variables, which is there a second time, or alone, where that is a rule.
pub record FaultOf (both : Bool) (free : Bytes → Bool) (piece : Tokens) (xs : List Bytes) (f : Fault) : Type 0 where
  pub half : Half
  pub spelling : Bytes
  pub its_variable : In spelling xs
  pub shown : TwiceAt (judged_in free half spelling piece) half spelling f ⊎ ((both ≡ true) × AloneAt piece half spelling f)

-- From the lists of faults, and back.
module _ (piece : Tokens) (x : Bytes) (f : Fault) where
  twice_in : (h : Half) (l : List ℕ) → occurs_at h x piece ≡ l → In f (twice_faults l) → TwiceAt piece h x f
  unfolding twice_faults
  twice_in h [] e m = absurd (in_none m)
  twice_in h (first ∷ []) e m = absurd (in_none m)
  twice_in h (first ∷ second ∷ others) e m =
      let f_is : f ≡ record { rule = twice; offset = second } = in_single m in
      rw f_is (record { rule_is = refl; first = first; others = others; places = e })

  in_twice : (h : Half) → TwiceAt piece h x f → In f (twice_faults (occurs_at h x piece))
  unfolding twice_faults
  in_twice h t = rw t.places (here (same_fault t.rule_is))
    where
      same_fault : f.rule ≡ twice → f ≡ record { rule = twice; offset = f.offset }
      same_fault e = rw (← e) refl

  alone_in : (h : Half) (l m : List ℕ) → occurs_at h x piece ≡ l → occurs_at (other h) x piece ≡ m → In f (alone_faults (alone h) l m) → AloneAt piece h x f
  unfolding alone_faults
  alone_in h [] m e e' i = absurd (in_none i)
  alone_in h (first ∷ others) [] e e' i =
      let f_is : f ≡ record { rule = alone h; offset = first } = in_single i in
      rw f_is (record { rule_is = refl; others = others; places = e; missing = e' })
  alone_in h (first ∷ others) (their_first ∷ their_others) e e' i = absurd (in_none i)

  in_alone : (h : Half) → AloneAt piece h x f → In f (alone_faults (alone h) (occurs_at h x piece) (occurs_at (other h) x piece))
  unfolding alone_faults
  in_alone h a = rw (a.places, a.missing) (here (same_fault a.rule_is))
    where
      same_fault : f.rule ≡ alone h → f ≡ record { rule = alone h; offset = f.offset }
      same_fault e = rw (← e) refl

  pub twice_of_in : In f (twice_of piece x) → (h : Half) × TwiceAt piece h x f
  unfolding twice_of
  twice_of_in m = go (in_append_cases (twice_faults (occurs_at writer x piece)) m)
    where
      go : In f (twice_faults (occurs_at writer x piece)) ⊎ In f (twice_faults (occurs_at reader x piece)) → (h : Half) × TwiceAt piece h x f
      go (inl i) = (writer, twice_in writer _ refl i)
      go (inr i) = (reader, twice_in reader _ refl i)

  pub in_twice_of : (h : Half) → TwiceAt piece h x f → In f (twice_of piece x)
  unfolding twice_of
  in_twice_of writer t = in_append_left (twice_faults (occurs_at reader x piece)) (in_twice writer t)
  in_twice_of reader t = in_append_right (twice_faults (occurs_at writer x piece)) (in_twice reader t)

  pub alone_of_in : In f (alone_of piece x) → (h : Half) × AloneAt piece h x f
  unfolding alone_of alone other
  alone_of_in m = go (in_append_cases (alone_faults writer_alone (occurs_at writer x piece) (occurs_at reader x piece)) m)
    where
      go : In f (alone_faults writer_alone (occurs_at writer x piece) (occurs_at reader x piece)) ⊎ In f (alone_faults reader_alone (occurs_at reader x piece) (occurs_at writer x piece))
          → (h : Half) × AloneAt piece h x f
      go (inl i) = (writer, alone_in writer _ _ refl refl i)
      go (inr i) = (reader, alone_in reader _ _ refl refl i)

  pub in_alone_of : (h : Half) → AloneAt piece h x f → In f (alone_of piece x)
  unfolding alone_of alone other
  in_alone_of writer a = in_append_left (alone_faults reader_alone (occurs_at reader x piece) (occurs_at writer x piece)) (in_alone writer a)
  in_alone_of reader a = in_append_right (alone_faults writer_alone (occurs_at writer x piece) (occurs_at reader x piece)) (in_alone reader a)

-- The faults of a variable in a clause, where its reader may be free.
module _ (free : Bytes → Bool) (piece : Tokens) (x : Bytes) (f : Fault) where
  pub twice_in_clause_in : In f (twice_in_clause (free x) piece x) → (h : Half) × TwiceAt (judged_in free h x piece) h x f
  unfolding twice_in_clause judged_in pardoned when◌then◌else◌
  twice_in_clause_in m = go (in_append_cases (twice_faults (occurs_at writer x piece)) m)
    where
      go : In f (twice_faults (occurs_at writer x piece)) ⊎ In f (twice_faults (occurs_at reader x (when free x then head_tokens piece else piece)))
          → (h : Half) × TwiceAt (judged_in free h x piece) h x f
      go (inl i) = (writer, twice_in piece x f writer _ refl i)
      go (inr i) = (reader, twice_in (when free x then head_tokens piece else piece) x f reader _ refl i)

  pub in_twice_in_clause : (h : Half) → TwiceAt (judged_in free h x piece) h x f → In f (twice_in_clause (free x) piece x)
  unfolding twice_in_clause judged_in pardoned when◌then◌else◌
  in_twice_in_clause writer t = in_append_left (twice_faults (occurs_at reader x (when free x then head_tokens piece else piece))) (in_twice piece x f writer t)
  in_twice_in_clause reader t =
      in_append_right (twice_faults (occurs_at writer x piece)) (in_twice (when free x then head_tokens piece else piece) x f reader t)

more_variables : (both : Bool) (free : Bytes → Bool) (piece : Tokens) (y : Bytes) (xs : List Bytes) (f : Fault)
    → FaultOf both free piece xs f → FaultOf both free piece (y ∷ xs) f
more_variables both free piece y xs f o = record { half = o.half; spelling = o.spelling; its_variable = there o.its_variable; shown = o.shown }

-- The faults of a clause are all such, and no others.
module _ (free : Bytes → Bool) (piece : Tokens) (f : Fault) where
  pub clause_fault_is : (xs : List Bytes) → In f (clause_faults free piece xs) → FaultOf true free piece xs f
  unfolding clause_faults
  clause_fault_is [] m = absurd (in_none m)
  clause_fault_is (y ∷ xs) m = go (in_append_cases (twice_in_clause (free y) piece y ++ alone_of piece y) m) (clause_fault_is xs)
    where
      of_this : In f (twice_in_clause (free y) piece y) ⊎ In f (alone_of piece y) → FaultOf true free piece (y ∷ xs) f
      of_this (inl i) = let (h, t) = twice_in_clause_in free piece y f i in record { half = h; spelling = y; its_variable = here refl; shown = inl t }
      of_this (inr i) = let (h, a) = alone_of_in piece y f i in record { half = h; spelling = y; its_variable = here refl; shown = inr (refl, a) }

      go : In f (twice_in_clause (free y) piece y ++ alone_of piece y) ⊎ In f (clause_faults free piece xs)
          → (In f (clause_faults free piece xs) → FaultOf true free piece xs f) → FaultOf true free piece (y ∷ xs) f
      go (inl i) further = of_this (in_append_cases (twice_in_clause (free y) piece y) i)
      go (inr i) further = more_variables true free piece y xs f (further i)

  pub fault_in_clause : (xs : List Bytes) → FaultOf true free piece xs f → In f (clause_faults free piece xs)
  unfolding clause_faults
  fault_in_clause [] o = absurd (in_none o.its_variable)
  fault_in_clause (y ∷ xs) o = go (in_cons_cases o.its_variable) (fault_in_clause xs) o.shown
    where
      go : (o.spelling ≡ y) ⊎ In o.spelling xs → (FaultOf true free piece xs f → In f (clause_faults free piece xs))
          → TwiceAt (judged_in free o.half o.spelling piece) o.half o.spelling f ⊎ ((true ≡ true) × AloneAt piece o.half o.spelling f)
          → In f ((twice_in_clause (free y) piece y ++ alone_of piece y) ++ clause_faults free piece xs)
      go (inl e) further (inl t) =
          in_append_left (clause_faults free piece xs) (in_append_left (alone_of piece y) (in_twice_in_clause free piece y f o.half (rw e at t)))
      go (inl e) further (inr (b, a)) =
          in_append_left (clause_faults free piece xs) (in_append_right (twice_in_clause (free y) piece y) (in_alone_of piece y f o.half (rw e at a)))
      go (inr i) further s =
          in_append_right (twice_in_clause (free y) piece y ++ alone_of piece y)
          (further (record { half = o.half; spelling = o.spelling; its_variable = i; shown = s }))

-- Of a query those of 5, and no reader is free.
module _ (piece : Tokens) (f : Fault) where
  not_free : (h : Half) (x : Bytes) → judged_in none_free h x piece ≡ piece
  unfolding judged_in pardoned when◌then◌else◌
  not_free writer x = refl
  not_free reader x = refl

  pub query_fault_is : (xs : List Bytes) → In f (query_faults piece xs) → FaultOf false none_free piece xs f
  unfolding query_faults
  query_fault_is [] m = absurd (in_none m)
  query_fault_is (y ∷ xs) m = go (in_append_cases (twice_of piece y) m) (query_fault_is xs)
    where
      go : In f (twice_of piece y) ⊎ In f (query_faults piece xs) → (In f (query_faults piece xs) → FaultOf false none_free piece xs f)
          → FaultOf false none_free piece (y ∷ xs) f
      go (inl i) further =
          let (h, t) = twice_of_in piece y f i in
          record { half = h; spelling = y; its_variable = here refl; shown = inl (rw (not_free h y) t) }
      go (inr i) further = more_variables false none_free piece y xs f (further i)

  pub fault_in_query : (xs : List Bytes) → FaultOf false none_free piece xs f → In f (query_faults piece xs)
  unfolding query_faults
  fault_in_query [] o = absurd (in_none o.its_variable)
  fault_in_query (y ∷ xs) o = go (in_cons_cases o.its_variable) (fault_in_query xs) o.shown
    where
      go : (o.spelling ≡ y) ⊎ In o.spelling xs → (FaultOf false none_free piece xs f → In f (query_faults piece xs))
          → TwiceAt (judged_in none_free o.half o.spelling piece) o.half o.spelling f ⊎ ((false ≡ true) × AloneAt piece o.half o.spelling f)
          → In f (twice_of piece y ++ query_faults piece xs)
      go (inl e) further (inl t) = in_append_left (query_faults piece xs) (in_twice_of piece y f o.half (rw (not_free o.half o.spelling, e) at t))
      go (inl e) further (inr (b, a)) = absurd (false_not_true false refl b)
      go (inr i) further s =
          in_append_right (twice_of piece y) (further (record { half = o.half; spelling = o.spelling; its_variable = i; shown = s }))

-- "The smallest offset decides": the least is one of them, and no other is smaller.
abbrev pub Least : List Fault → Fault → Type 0
Least l f = In f l × ((g : Fault) → In g l → f.offset ≤ g.offset)

smaller_is : (k : Fault) (l : List Fault) (o : Option Fault) → (o ≡ none → l ≡ []) → ((g : Fault) → o ≡ some g → Least l g) → Least (k ∷ l) (smaller k o)
unfolding smaller when◌then◌else◌
smaller_is k l none empty its = (here refl, λ g m. go g (in_cons_cases m))
  where
    go : (g : Fault) → (g ≡ k) ⊎ In g l → k.offset ≤ g.offset
    go g (inl e) = rw e (omega arith)
    go g (inr m) = absurd (in_none (rw (empty refl) at m))
smaller_is k l (some g) empty its = go (leb k.offset g.offset) refl (its g refl)
  where
    go : (b : Bool) → leb k.offset g.offset ≡ b → Least l g → Least (k ∷ l) (when b then k else g)
    go true e (m, h) = (here refl, λ j i. by j (in_cons_cases i))
      where
        by : (j : Fault) → (j ≡ k) ⊎ In j l → k.offset ≤ j.offset
        by j (inl q) = rw q (omega arith)
        by j (inr q) = omega (arith, leb-true k.offset g.offset e, h j q)
    go false e (m, h) = (there m, λ j i. by j (in_cons_cases i))
      where
        by : (j : Fault) → (j ≡ k) ⊎ In j l → g.offset ≤ j.offset
        by j (inl q) = rw q (omega (arith, leb-false k.offset g.offset e))
        by j (inr q) = h j q

pub least_is : (l : List Fault) (f : Fault) → least l ≡ some f → Least l f
unfolding least
least_is [] f e = absurd (differ (cc))
least_is (k ∷ l) f e =
    let f_is : smaller k (least l) ≡ f = cc in
    rw (← f_is) (smaller_is k l (least l) (least_none l) (λ g q. least_is l g q))

-- What is there twice among the tokens by which it is judged is there twice in the item.
pub twice_anyway : (free : Bytes → Bool) (piece : Tokens) (h : Half) (x : Bytes) (f : Fault) → TwiceAt (judged_in free h x piece) h x f → TwiceAt piece h x f
unfolding judged_in when◌then◌else◌
twice_anyway free piece h x f t = go (pardoned free h x) refl
  where
    go : (b : Bool) → pardoned free h x ≡ b → TwiceAt piece h x f
    go true e =
        let (later, all) = head_first h x piece in
        let in_head : TwiceAt (head_tokens piece) h x f = rw e at t in
        record { rule_is = in_head.rule_is; first = in_head.first; others = in_head.others ++ later; places = all ∙ rw in_head.places refl }
    go false e = rw e at t

-- At a fault's offset stands that half of that variable.
module _ (both : Bool) (free : Bytes → Bool) (piece : Tokens) (xs : List Bytes) (f : Fault) (o : FaultOf both free piece xs f) where
  pub shown_anyway : TwiceAt piece o.half o.spelling f ⊎ ((both ≡ true) × AloneAt piece o.half o.spelling f)
  shown_anyway = go o.shown
    where
      go : TwiceAt (judged_in free o.half o.spelling piece) o.half o.spelling f ⊎ ((both ≡ true) × AloneAt piece o.half o.spelling f)
          → TwiceAt piece o.half o.spelling f ⊎ ((both ≡ true) × AloneAt piece o.half o.spelling f)
      go (inl t) = inl (twice_anyway free piece o.half o.spelling f t)
      go (inr a) = inr a

  pub fault_occurs : In f.offset (occurs_at o.half o.spelling piece)
  fault_occurs = go shown_anyway
    where
      go : TwiceAt piece o.half o.spelling f ⊎ ((both ≡ true) × AloneAt piece o.half o.spelling f) → In f.offset (occurs_at o.half o.spelling piece)
      go (inl t) = rw t.places (there (here refl))
      go (inr (b, a)) = rw a.places (here refl)

  pub fault_stands : StandsAt f.offset (variable o.half o.spelling) piece
  fault_stands = occurs_stands_at o.half o.spelling f.offset piece fault_occurs

same_fault : (a b : Broken) (m n : ℕ) → a ≡ b → m ≡ n → ◌≡◌ {A = Fault} (record { rule = a; offset = m }) (record { rule = b; offset = n })
same_fault a b m n e f = rw (e, f) refl

-- No two faults share an offset: a token is the first or the second occurrence of its half.
module _ (both : Bool) (free : Bytes → Bool) (piece : Tokens) (low : ℕ) (rising : Rising low piece) (xs : List Bytes) where
  same_rule : (h : Half) (x : Bytes) (f g : Fault) → f.offset ≡ g.offset
      → TwiceAt piece h x f ⊎ ((both ≡ true) × AloneAt piece h x f) → TwiceAt piece h x g ⊎ ((both ≡ true) × AloneAt piece h x g) → f.rule ≡ g.rule
  same_rule h x f g e (inl t) (inl u) = t.rule_is ∙ sym u.rule_is
  same_rule h x f g e (inl t) (inr (b, a)) =
      let l : t.first ∷ f.offset ∷ t.others ≡ g.offset ∷ a.others = sym t.places ∙ a.places in
      let z : t.first ≡ g.offset = cc in
      absurd (omega (arith, first_before h x low piece rising t.first (f.offset ∷ t.others) t.places f.offset (here refl)))
  same_rule h x f g e (inr (b, a)) (inl u) =
      let l : f.offset ∷ a.others ≡ u.first ∷ g.offset ∷ u.others = sym a.places ∙ u.places in
      let z : u.first ≡ f.offset = cc in
      absurd (omega (arith, first_before h x low piece rising u.first (g.offset ∷ u.others) u.places g.offset (here refl)))
  same_rule h x f g e (inr (b, a)) (inr (c, d)) = a.rule_is ∙ sym d.rule_is

  pub one_fault_at : (f g : Fault) → FaultOf both free piece xs f → FaultOf both free piece xs g → f.offset ≡ g.offset → f ≡ g
  one_fault_at f g o p e = same_fault f.rule g.rule f.offset g.offset (same_rule o.half o.spelling f g e (shown_anyway both free piece xs f o) same_token) e
    where
      token_is : variable o.half o.spelling ≡ variable p.half p.spelling
      token_is = one_token_at (variable o.half o.spelling) (variable p.half p.spelling) low f.offset piece rising (fault_stands both free piece xs f o)
          (rw (← e) at (fault_stands both free piece xs g p))

      same_token : TwiceAt piece o.half o.spelling g ⊎ ((both ≡ true) × AloneAt piece o.half o.spelling g)
      same_token =
          let h_is : p.half ≡ o.half = cc (token_is) in
          let x_is : p.spelling ≡ o.spelling = cc (token_is) in
          rw (h_is, x_is) at (shown_anyway both free piece xs g p)
