-- All items read into the prepared scratch, then the clauses linked and the names kept; or the needed part is cleared.
use Rattle.std.proofs.Common.{◌≡◌, arith}
use Rattle.term.specs.Layout.{need_of, figures}
use Rattle.load_names.specs.Places.{spellings}
use Rattle.load_image.specs.Image.{text_names, image}
use Rattle.loader.specs.Loading.{prepared}
use Rattle.loader.proofs.Preparing.{prepared_is}
use Rattle.loader.proofs.Readying.{loaded_ready, loaded_only}
use Rattle.loader.proofs.Finishing.{clear_refused, some_queries, the_job, imaged, link_heads}
use Rattle.loader.proofs.load.load.Goals as goal

pub link-requires-clause-by_index : goal.link-requires-clause-by_index
link-requires-clause-by_index c =
    let a = c.args in
    let read = c.all_items.new in
    let found = c.in-Ok in
    let (places, done, n, from, r, left, some) = found.ensures in
    link_heads a.text.now c.prepare.new.s read.s read.names read.heads from found.clauses found.queries found.known n places done r left

pub returns-in-Ok : goal.returns-in-Ok
unfolding the_job
returns-in-Ok c =
    let a = c.args in
    let read = c.all_items.new in
    let found = c.in-Ok in
    let (places, done, n, from, r, left, some) = found.ensures in
    let q = c.requires in
    let ready_for : c.prepare.new.s ≡ prepared (figures a.room) a.s.now = c.prepare.ensures in
    let j = the_job a.text.now c.prepare.new.s read.s read.names read.heads from found.clauses found.queries found.known n places done r left in
    let reads = some_queries a.text.now c.prepare.new.s read.s read.names read.heads from found.clauses found.queries found.known n places done r left some in
    let image_is : c.keep_places.new.s ≡ image a.text.now (prepared (figures a.room) a.s.now) =
    rw ready_for at (imaged a.text.now c.prepare.new.s read.s read.names read.heads from found.clauses found.queries found.known n places done r left c.link.new.s c.keep_places.new.s c.link.ensures c.keep_places.ensures) in
    let ready = loaded_ready a.text.now j (figures a.room) a.s.now c.keep_places.new.s q.1 reads image_is q.0 in
    let only = loaded_only a.text.now j (figures a.room) a.s.now c.keep_places.new.s q.1 reads image_is in
    (j, reads, r.clauses_are, r.queries_are, image_is, spellings (text_names a.text.now), ready, only)

pub returns-in-Err : goal.returns-in-Err
returns-in-Err c =
    let a = c.args in
    let t = c.in-Err.ensures in
    let ready_for : c.prepare.new.s ≡ prepared (figures a.room) a.s.now = c.prepare.ensures in (
      t.0,
      t.1,
      t.2,
      clear_refused (need_of (figures a.room)) c.need-words.result a.s.now (prepared (figures a.room) a.s.now) c.all_items.new.s c.clear.new.s c.need-words.ensures
          (omega arith) (prepared_is (figures a.room) a.s.now c.requires.1).only (rw ready_for at t.3) c.clear.ensures,
    )
