-- The place at which the walk stands is one of the known places, and the next link is a place before it.
use Rattle.std.proofs.Common.{◌≡◌, ℕ, suc, ◌+◌, ◌-◌, ◌<◌, List, Bool, true, false, length, get_or, sym, ◌∙◌, arith}
use Rattle.std.proofs.Math.Option.{some}
use Rattle.meaning.specs.Bytes.{Bytes, same}
use Rattle.meaning.specs.Items.{place_of}
use Rattle.load_names.specs.Places.{Place, spellings}
use Rattle.load_names.specs.Tables.{hash_of, no_place, StandsAt, NamesIn}
use Rattle.load_names.proofs.Hashes.{hash_fits, last_below, Walk, walk_begin, walk_next, walk_found, walk_end}
use Rattle.load_names.proofs.NameTable.{name_stands}
use Rattle.load_names.proofs.names.find.Goals as goal

module _ (text f : Bytes) (table : List ℕ) (places : List Place) (kept : NamesIn text places table) (next n : ℕ) (walk : Walk f places next) (counts : next ≡ suc n) where
  inside : n < length places
  inside = omega (arith, walk.below)

  stands : StandsAt text table n (get_or places n no_place).spelling
  stands = name_stands text places table kept n inside

  module _ (spelled : Bool) (compared : (g : Bytes) → StandsAt text table n g → spelled ≡ same f g) where
    is_found : spelled ≡ true → some n ≡ place_of f (spellings places)
    is_found e = sym (walk_found f places next n walk counts (sym (compared _ stands) ∙ e) (λ m k l. kept.distinct m n k l))

    goes_on : (link : ℕ) → link ≡ get_or table (768 + n) 0 → spelled ≡ false → Walk f places link
    goes_on link is e = rw (is, kept.chains n inside) (walk_next f places next n walk counts (sym (compared _ stands) ∙ e))

  link_below : (link : ℕ) → link ≡ get_or table (768 + n) 0 → link < next
  link_below link is = omega (arith, is ∙ kept.chains n inside, last_below (hash_of (get_or places n no_place).spelling) places n, counts)

pub loop-next-init : goal.loop-next-init
loop-next-init c places kept =
    let fits : c.args.h < 256 = rw c.requires.hashed (hash_fits _) in
    rw (c.index-next.ensures, kept.heads c.args.h fits, c.requires.hashed) (walk_begin c.args.spelling.now places)

pub spelled-requires : goal.spelled-requires
spelled-requires c =
    let (places, kept) = c.requires.names_in in
    record { stands_at = (_, stands c.args.text.now _ c.args.table.now places kept c.loop-next.next _ (c.loop-next.invariant places kept) (omega arith)) }

pub returns-then-spelled : goal.returns-then-spelled
returns-then-spelled c places kept =
    is_found c.args.text.now _ c.args.table.now places kept c.loop-next.next _ (c.loop-next.invariant places kept) (omega arith) c.spelled.result c.spelled.ensures c.if-spelled.true

pub loop-next-smaller : goal.loop-next-smaller
loop-next-smaller c =
    let (places, kept) = c.requires.names_in in
    let counts : c.loop-next.next ≡ suc (c.loop-next.next - 1) = omega arith in
    link_below c.args.text.now _ c.args.table.now places kept c.loop-next.next _ (c.loop-next.invariant places kept) counts c.index-next-in-loop-next.result c.index-next-in-loop-next.ensures

pub loop-next-preserved : goal.loop-next-preserved
loop-next-preserved c places kept =
    goes_on c.args.text.now _ c.args.table.now places kept c.loop-next.next _ (c.loop-next.invariant places kept) (omega arith) c.spelled.result c.spelled.ensures
    c.index-next-in-loop-next.result c.index-next-in-loop-next.ensures c.if-spelled.false

pub returns : goal.returns
returns c places kept =
    let ends : c.loop-next.next ≡ 0 = omega arith in
    sym (walk_end c.args.spelling.now places (rw ends at (c.loop-next.invariant places kept)))
