-- `run_guards::guards::look_at` meets its contract, by what the word that was read shows.
use Rattle.std.proofs.Common.{arith}
use Rattle.run_guards.specs.Single.{written, Shows}
use Rattle.run_guards.proofs.Answers.{first_argument, look_nothing, look_fails, look_pair, look_waits, look_succeeds, look_other}
use Rattle.run_guards.proofs.guards.look_at.Goals as goal

pub argument-requires : goal.argument-requires
argument-requires c = omega (arith, c.requires.5.arguments.inside)

pub read-requires : goal.read-requires
read-requires c =
    let p = c.requires in
    let (t, us, is, A) = first_argument p.5 p.6 c.argument.result c.argument.ensures in
    (p.0, p.1, p.2, c.args.marks, t, A)

pub returns-in_default : goal.returns-in_default
returns-in_default c x y given stamp g A some_here =
    let (t, us, is, R) = first_argument A some_here c.argument.result c.argument.ensures in
    look_nothing A c.args.kind t us is (rw c.in_default.is at (c.read.ensures x y given c.args.marks t R))

pub returns-then-tag-lt-READER : goal.returns-then-tag-lt-READER
returns-then-tag-lt-READER c x y given stamp g A some_here =
    let (t, us, is, R) = first_argument A some_here c.argument.result c.argument.ensures in
    let shows : Shows x (written x given t) c.in-Some.w = rw c.in-Some.is at (c.read.ensures x y given c.args.marks t R) in
    look_fails A c.args.kind t us is c.in-Some.w shows (omega arith)

pub meet-requires : goal.meet-requires
meet-requires c =
    let p = c.requires in
    let (t, us, is, R) = first_argument p.5 p.6 c.argument.result c.argument.ensures in
    let shows : Shows p.0 (written p.0 p.2 t) c.in-Some.w = rw c.in-Some.is at (c.read.ensures p.0 p.1 p.2 c.args.marks t R) in
    (p.5.readers, omega (arith, look_pair p.5 c.args.kind t us is c.in-Some.w shows c.if-tag-eq-READER.true, c.index.ensures))

pub returns-then-tag-eq-READER : goal.returns-then-tag-eq-READER
returns-then-tag-eq-READER c x y given stamp g A some_here =
    let (t, us, is, R) = first_argument A some_here c.argument.result c.argument.ensures in
    let shows : Shows x (written x given t) c.in-Some.w = rw c.in-Some.is at (c.read.ensures x y given c.args.marks t R) in
    look_waits A c.args.kind t us is c.in-Some.w shows c.if-tag-eq-READER.true _ c.meet.result (rw c.index.ensures at c.meet.ensures)

pub returns-then-is_kind : goal.returns-then-is_kind
returns-then-is_kind c x y given stamp g A some_here =
    let (t, us, is, R) = first_argument A some_here c.argument.result c.argument.ensures in
    let shows : Shows x (written x given t) c.in-Some.w = rw c.in-Some.is at (c.read.ensures x y given c.args.marks t R) in
    look_succeeds A c.args.kind t us is c.in-Some.w shows (omega arith) c.is_kind.result c.is_kind.ensures c.if-is_kind.true

pub returns-else-is_kind : goal.returns-else-is_kind
returns-else-is_kind c x y given stamp g A some_here =
    let (t, us, is, R) = first_argument A some_here c.argument.result c.argument.ensures in
    let shows : Shows x (written x given t) c.in-Some.w = rw c.in-Some.is at (c.read.ensures x y given c.args.marks t R) in
    look_other A c.args.kind t us is c.in-Some.w shows (omega arith) c.is_kind.result c.is_kind.ensures c.if-is_kind.false
