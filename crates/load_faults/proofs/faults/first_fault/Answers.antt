-- Each token passed leaves the fault in what is left, or has it.
use Rattle.std.proofs.Common.{◌+◌, length, refl, arith}
use Rattle.std.proofs.Math.Seq.{slice}
use Rattle.meaning.specs.Terms.{writer, reader}
use Rattle.meaning.specs.Tokens.{is}
use Rattle.meaning.specs.Faults.{pairing}
use Rattle.load_tokens.specs.Fronts.{tokens_in}
use Rattle.load_openings.specs.Reading.{piece}
use Rattle.load_faults.specs.Finding.{rule_of, pardons}
use Rattle.load_faults.proofs.Walked.{left_at, at_first, no_end, no_bad, over_name, over_integer, over_sign, at_spelled, says, behind_more, bar_inside, sign_inside, sign_less}
use Rattle.load_faults.proofs.faults.first_fault.Goals as goal

pub loop-e-init : goal.loop-e-init
unfolding left_at
loop-e-init c = record {
  inside = c.requires.begins_in_bounds;
  reached = λ from places free after f s. at_first c.args.both places free (pairing after (piece (tokens_in from c.args.rest.now c.args.begins))) s.searched.table.few f s.found s.walkable;
}

pub loop-e-preserved-in-Name : goal.loop-e-preserved-in-Name
loop-e-preserved-in-Name c =
    let g = c.in-Name in
    let t = g.ensures in
    record {
      inside = t.2;
      reached = λ from places free after f s.
          over_name c.args.both places free (pairing after (piece (tokens_in from c.args.rest.now c.args.begins))) c.loop-e.implied c.loop-e.seen f after (from + g.field-0) (slice g.field-0 g.e c.args.rest.now)
          (tokens_in from c.args.rest.now g.e) (rw (t.4 from) at (c.loop-e.invariant.reached from places free after f s));
    }

pub returns-in-Err : goal.returns-in-Err
unfolding pardons
returns-in-Err c from places free after f s =
    let g = c.in-Writer in
    let t = g.ensures in
    let rest = c.args.rest.now in
    let whole = pairing after (piece (tokens_in from rest c.args.begins)) in
    let r = at_spelled c.args.both places free whole c.loop-e.implied c.loop-e.seen f after rest from c.loop-e.at g.a g.e g.e writer (t.4 from) (c.loop-e.invariant.reached from places free after f s) in
    says (rule_of c.in-Err.rule) from g.a (length rest) f (omega (arith, t.1, t.2)) (c.in-Err.ensures places free whole c.loop-e.implied (from + g.a) (left_at c.loop-e.implied after (piece (tokens_in from rest g.e))) f refl s.searched r)

pub loop-e-preserved-in-Writer : goal.loop-e-preserved-in-Writer
unfolding pardons
loop-e-preserved-in-Writer c =
    record {
      inside = c.in-Writer.ensures.2;
      reached = λ from places free after f s.
          let g = c.in-Writer in
          let t = g.ensures in
          let rest = c.args.rest.now in
          let whole = pairing after (piece (tokens_in from rest c.args.begins)) in
          let r = at_spelled c.args.both places free whole c.loop-e.implied c.loop-e.seen f after rest from c.loop-e.at g.a g.e g.e writer (t.4 from) (c.loop-e.invariant.reached from places free after f s) in
          c.in_default.ensures places free whole c.loop-e.implied (from + g.a) (left_at c.loop-e.implied after (piece (tokens_in from rest g.e))) f refl s.searched r;
    }

pub returns-in-Err-judge : goal.returns-in-Err-judge
unfolding pardons
returns-in-Err-judge c from places free after f s =
    let g = c.in-Reader in
    let t = g.ensures in
    let rest = c.args.rest.now in
    let whole = pairing after (piece (tokens_in from rest c.args.begins)) in
    let r = at_spelled c.args.both places free whole c.loop-e.implied c.loop-e.seen f after rest from c.loop-e.at g.a g.e (g.e + 1) reader (t.4 from) (c.loop-e.invariant.reached from places free after f s) in
    says (rule_of c.in-Err-judge.rule) from g.a (length rest) f (omega (arith, t.1, t.2)) (c.in-Err-judge.ensures places free whole c.loop-e.implied (from + g.a) (left_at c.loop-e.implied after (piece (tokens_in from rest (g.e + 1)))) f refl s.searched r)

pub loop-e-preserved-in-Reader : goal.loop-e-preserved-in-Reader
unfolding pardons
loop-e-preserved-in-Reader c =
    record {
      inside = omega (arith, c.in-Reader.ensures.2);
      reached = λ from places free after f s.
          let g = c.in-Reader in
          let t = g.ensures in
          let rest = c.args.rest.now in
          let whole = pairing after (piece (tokens_in from rest c.args.begins)) in
          let r = at_spelled c.args.both places free whole c.loop-e.implied c.loop-e.seen f after rest from c.loop-e.at g.a g.e (g.e + 1) reader (t.4 from) (c.loop-e.invariant.reached from places free after f s) in
          c.in_default-judge.ensures places free whole c.loop-e.implied (from + g.a) (left_at c.loop-e.implied after (piece (tokens_in from rest (g.e + 1)))) f refl s.searched r;
    }

pub loop-e-preserved-in-Integer : goal.loop-e-preserved-in-Integer
loop-e-preserved-in-Integer c =
    let g = c.in-Integer in
    let t = g.ensures in
    record {
      inside = t.2;
      reached = λ from places free after f s.
          over_integer c.args.both places free (pairing after (piece (tokens_in from c.args.rest.now c.args.begins))) c.loop-e.implied c.loop-e.seen f after (from + g.field-1) t.4
          (tokens_in from c.args.rest.now g.e) (rw (t.6 from) at (c.loop-e.invariant.reached from places free after f s));
    }

pub onward-at-requires : goal.onward-at-requires
onward-at-requires c = omega (arith, c.in-Sign.ensures.1, behind_more c.in-Sign.c c.in-Sign.a)

pub loop-e-smaller : goal.loop-e-smaller
loop-e-smaller c =
    rw (c.onward-at.ensures, c.behind_neck-implied.ensures)
    (sign_less (length c.args.rest.now) c.loop-e.at c.in-Sign.c c.in-Sign.a c.args.bar c.loop-e.implied c.in-Sign.ensures.0 c.in-Sign.ensures.1)

pub loop-e-preserved : goal.loop-e-preserved
unfolding is
loop-e-preserved c =
    let g = c.in-Sign in
    let t = g.ensures in
    let rest = c.args.rest.now in
    let known = c.requires.by_index in
    rw (c.onward-at.ensures, c.behind_neck-implied.ensures) (record {
      inside = sign_inside (length rest) g.c g.a c.args.bar c.loop-e.implied t.1 (bar_inside rest known.0 c.args.bar known.3 known.5.bar_is);
      reached = λ from places free after f s.
          over_sign c.args.both places free (pairing after (piece (tokens_in from c.args.rest.now c.args.begins))) c.loop-e.implied c.loop-e.seen f rest from c.args.bar after s.bar_is (from + g.a) g.c g.a
          (rw (t.2 from) at (c.loop-e.invariant.reached from places free after f s));
    })

pub returns-in-Bad : goal.returns-in-Bad
returns-in-Bad c from places free after f s =
    let others = c.in-Bad.ensures.2 from in
    absurd (no_bad c.args.both places free (pairing after (piece (tokens_in from c.args.rest.now c.args.begins))) c.loop-e.implied c.loop-e.seen f after (from + c.in-Bad.a) others.0 (rw others.1 at (c.loop-e.invariant.reached from places free after f s)))

pub returns-in-End : goal.returns-in-End
returns-in-End c from places free after f s =
    absurd (no_end c.args.both places free (pairing after (piece (tokens_in from c.args.rest.now c.args.begins))) c.loop-e.implied c.loop-e.seen f after (from + length c.args.rest.now)
    (rw (c.in-End.ensures from) at (c.loop-e.invariant.reached from places free after f s)))
