-- One field more.
use Rattle.std.proofs.lemmas.Result.{err_from_is_err_and}
use Rattle.record_fields.proofs.InParts.{replicate_repeats, parts_out, part_there}
use Rattle.record_faults.proofs.source.walk.Goals as goal

pub field_fault-requires : goal.field_fault-requires
field_fault-requires g c =
    part_there (replicate_repeats g.F.BodyField.field) g.met.S.Numbers.parts c.args.source c.loop.counter c.loop.source c.loop.invariant c.args.count
    c.loop-test.true c.requires

pub returns-in_err-source : goal.returns-in_err-source
returns-in_err-source g c =
    let p = err_from_is_err_and c.from_residual.result c.from_residual.ensures.1 in
    rw (p.1, p.2)
    (parts_out (replicate_repeats g.F.BodyField.field) g.met.S.Numbers.parts c.args.source c.loop.counter c.loop.source c.loop.invariant c.args.count
    c.loop-test.true _ c.in_err-source.ensures)
