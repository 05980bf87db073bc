use Rattle.std.proofs.Common.{refl, arith}
use Rattle.record.specs.Fields.{values as held}
use Rattle.record.specs.Layouts.{rows_of}
use Rattle.record_fields.proofs.Readings.{read_row}
use Rattle.record_values.proofs.read_rows.Goals as goal

pub loop-init : goal.loop-init
unfolding held rows_of
loop-init c = record { at_next = omega arith; i_next = omega arith; read = refl }

pub loop-preserved : goal.loop-preserved
loop-preserved c =
    let a = c.args in
    let before = c.loop.invariant in
    record {
      at_next = omega arith;
      i_next = omega arith;
      read = read_row a.n c.loop.counter a.bytes.now a.place a.index a.values.now c.loop.values before.read (rw (before.i_next, before.at_next) at c.read_linear.ensures);
    }
