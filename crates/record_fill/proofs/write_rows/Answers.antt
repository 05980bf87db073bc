use Rattle.std.proofs.Common.{refl, arith}
use Rattle.record.specs.Fields.{bytes_of}
use Rattle.record.specs.Layouts.{rows_of}
use Rattle.record_fields.proofs.Stores.{row_fits, write_row}
use Rattle.record_fill.proofs.write_rows.Goals as goal

pub loop-init : goal.loop-init
unfolding bytes_of rows_of
loop-init c = record { at_next = omega arith; i_next = omega arith; written = refl }

pub write_linear-requires-clause-fit : goal.write_linear-requires-clause-fit
write_linear-requires-clause-fit c =
    let a = c.args in
    rw c.loop.invariant.i_next (row_fits a.n c.loop.counter a.values.now a.index a.count c.loop-test.true c.requires.there c.requires.fit)

pub loop-preserved : goal.loop-preserved
loop-preserved c =
    let a = c.args in
    let before = c.loop.invariant in
    record {
      at_next = omega arith;
      i_next = omega arith;
      written =
          write_row a.n c.loop.counter a.values.now a.index a.count c.loop-test.true c.requires.there a.place a.body.now c.loop.body before.written
          (rw (before.i_next, before.at_next) at c.write_linear.ensures);
    }
