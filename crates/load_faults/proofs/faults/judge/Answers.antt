-- The variable is in the item's table, and what was seen and counted of it decides.
use Rattle.std.proofs.Common.{◌≡◌, ◌<◌, ℕ, List, Bool, sym, ◌∙◌, arith}
use Rattle.std.proofs.Math.Option.{some}
use Rattle.meaning.specs.Bytes.{Bytes}
use Rattle.meaning.specs.Tokens.{Tokens}
use Rattle.meaning.specs.Items.{place_of}
use Rattle.load_names.specs.Places.{Place, spellings}
use Rattle.load_names.proofs.Spellings.{has_place}
use Rattle.load_faults.specs.Finding.{half_of, Searched}
use Rattle.load_faults.proofs.Walked.{half_small, no_place_here, second_time, seen_again, is_lone, noted_on}
use Rattle.load_faults.proofs.faults.judge.Goals as goal

-- The variable's number is below 16, so its half is noted inside the array and counted inside the tables.
number_few : (rest : Bytes) (table : List ℕ) (count : ℕ) (licensed : List ℕ) (places : List Place) (free : Bytes → Bool) (whole : Tokens) (x : Bytes) (n : ℕ)
    → Searched rest table count licensed places free whole → some n ≡ place_of x (spellings places) → n < 16
number_few rest table count licensed places free whole x n s here = omega (arith, has_place x places n (sym here), s.table.few)

pub returns-in_default : goal.returns-in_default
returns-in_default c places free whole implied at ts f pardon_is searched reached =
    absurd (no_place_here c.args.item.now.both places free whole implied c.args.seen.now f at (half_of c.args.half) c.args.spelling.now ts
    (sym (c.in_default.ensures places searched.table searched.count_is)) reached)

pub overflow_add-from : goal.overflow_add-from
overflow_add-from c =
    let (places, free, whole, s) = c.requires in
    omega (arith, number_few _ _ _ _ _ _ _ _ _ s (c.in-Some.ensures places s.table s.count_is), half_small (half_of c.args.half))

pub offset_bounds-seen-from : goal.offset_bounds-seen-from
offset_bounds-seen-from c =
    let (places, free, whole, s) = c.requires in
    omega (arith, number_few _ _ _ _ _ _ _ _ _ s (c.in-Some.ensures places s.table s.count_is), half_small (half_of c.args.half))

pub bounds-seen-from : goal.bounds-seen-from
bounds-seen-from c =
    let (places, free, whole, s) = c.requires in
    omega (arith, number_few _ _ _ _ _ _ _ _ _ s (c.in-Some.ensures places s.table s.count_is), half_small (half_of c.args.half))

pub excused-requires : goal.excused-requires
excused-requires c =
    let (places, free, whole, s) = c.requires in
    omega (arith, number_few _ _ _ _ _ _ _ _ _ s (c.in-Some.ensures places s.table s.count_is), s.frees_size)

pub overflow_sub-from : goal.overflow_sub-from
overflow_sub-from c = omega (arith, half_small (half_of c.args.half))

pub overflow_add-from-2 : goal.overflow_add-from-2
overflow_add-from-2 c =
    let (places, free, whole, s) = c.requires in
    omega (arith, number_few _ _ _ _ _ _ _ _ _ s (c.in-Some.ensures places s.table s.count_is), half_small (half_of c.args.half))

pub lone-requires : goal.lone-requires
lone-requires c =
    let (places, free, whole, s) = c.requires in
    omega (arith, number_few _ _ _ _ _ _ _ _ _ s (c.in-Some.ensures places s.table s.count_is), half_small (half_of c.args.half), s.table.size)

pub overflow_add-seen : goal.overflow_add-seen
overflow_add-seen c =
    let (places, free, whole, s) = c.requires in
    omega (arith, number_few _ _ _ _ _ _ _ _ _ s (c.in-Some.ensures places s.table s.count_is), half_small (half_of c.args.half))

pub offset_bounds-seen-from-2 : goal.offset_bounds-seen-from-2
offset_bounds-seen-from-2 c =
    let (places, free, whole, s) = c.requires in
    omega (arith, number_few _ _ _ _ _ _ _ _ _ s (c.in-Some.ensures places s.table s.count_is), half_small (half_of c.args.half))

pub bounds-seen-from-2 : goal.bounds-seen-from-2
bounds-seen-from-2 c =
    let (places, free, whole, s) = c.requires in
    omega (arith, number_few _ _ _ _ _ _ _ _ _ s (c.in-Some.ensures places s.table s.count_is), half_small (half_of c.args.half))

pub returns-then-excused : goal.returns-then-excused
returns-then-excused c places free whole implied at ts f pardon_is searched reached =
    seen_again c.args.item.now.both places free whole implied c.args.seen.now f c.args.rest.now c.args.item.now.table.now c.args.item.now.count c.args.item.now.licensed.now searched (half_of c.args.half) c.args.spelling.now c.in-Some.n (sym (c.in-Some.ensures places searched.table searched.count_is)) at ts reached
    (rw c.noted_from-from.ensures at c.if-seen-from-ne0.true) (rw pardon_is at (sym c.excused.ensures ∙ c.if-excused.true))

pub returns-then-seen-from-ne0 : goal.returns-then-seen-from-ne0
returns-then-seen-from-ne0 c places free whole implied at ts f pardon_is searched reached =
    second_time c.args.item.now.both places free whole implied c.args.seen.now f c.args.rest.now c.args.item.now.table.now c.args.item.now.count c.args.item.now.licensed.now searched (half_of c.args.half) c.args.spelling.now c.in-Some.n (sym (c.in-Some.ensures places searched.table searched.count_is)) at ts reached
    (rw c.noted_from-from.ensures at c.if-seen-from-ne0.true) (rw pardon_is at (sym c.excused.ensures ∙ c.if-excused.false))

pub returns-then-lone : goal.returns-then-lone
returns-then-lone c places free whole implied at ts f pardon_is searched reached =
    rw c.alone.ensures (is_lone c.args.item.now.both places free whole implied c.args.seen.now f c.args.rest.now c.args.item.now.table.now c.args.item.now.count c.args.item.now.licensed.now searched (half_of c.args.half) c.args.spelling.now c.in-Some.n (sym (c.in-Some.ensures places searched.table searched.count_is)) at ts reached
    (rw c.noted_from-from.ensures at c.if-seen-from-ne0.false) (rw c.noted_from-from.ensures at (sym c.lone.ensures ∙ c.if-lone.true)))

pub returns : goal.returns
returns c places free whole implied at ts f pardon_is searched reached =
    rw c.noted_from-from.ensures (noted_on c.args.item.now.both places free whole implied c.args.seen.now f c.args.rest.now c.args.item.now.table.now c.args.item.now.count c.args.item.now.licensed.now searched (half_of c.args.half) c.args.spelling.now c.in-Some.n (sym (c.in-Some.ensures places searched.table searched.count_is)) at ts reached
    (rw c.noted_from-from.ensures at c.if-seen-from-ne0.false) (rw c.noted_from-from.ensures at (sym c.lone.ensures ∙ c.if-lone.false)))
