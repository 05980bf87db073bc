-- One row more.
use Rattle.std.proofs.Common.{◌*◌, arith}
use Rattle.std.proofs.lemmas.Result.{err_from_is_err_and}
use Rattle.record_fields.proofs.BodyParts.{length_linear}
use Rattle.record_fields.proofs.InParts.{rows_repeat, parts_start, parts_more, parts_out, part_there}
use Rattle.record_faults.proofs.rows_fault.Goals as goal

pub loop-init : goal.loop-init
loop-init g c = parts_start (rows_repeat c.args.n) g.met.S.Numbers.parts c.args.source

pub overflow_mul-n : goal.overflow_mul-n
overflow_mul-n g c =
    let t = g.met.S.Numbers.parts in
    let here =
    part_there (rows_repeat c.args.n) t c.args.source c.loop.counter c.loop.source c.loop.invariant c.args.count c.loop-test.true c.requires in
    omega (arith, t.few _ _ here, length_linear (2 * c.args.n))

pub linear_fault-requires : goal.linear_fault-requires
linear_fault-requires g c =
    part_there (rows_repeat c.args.n) g.met.S.Numbers.parts c.args.source c.loop.counter c.loop.source c.loop.invariant c.args.count
    c.loop-test.true c.requires

pub returns-in_err-source : goal.returns-in_err-source
returns-in_err-source g c =
    let p = err_from_is_err_and c.from_residual.result c.from_residual.ensures.1 in
    rw (p.1, p.2)
    (parts_out (rows_repeat c.args.n) g.met.S.Numbers.parts c.args.source c.loop.counter c.loop.source c.loop.invariant c.args.count
    c.loop-test.true _ c.in_err-source.ensures)

pub loop-preserved : goal.loop-preserved
loop-preserved g c =
    parts_more (rows_repeat c.args.n) g.met.S.Numbers.parts c.args.source c.loop.counter c.loop.source c.loop.invariant _ c.in_ok-source.ensures
