-- `judge_sums::column_of` meets its contract.
use Rattle.std.proofs.Common.{arith}
use Rattle.judge_sums.proofs.ColumnLaws.{column_none, column_more}
use Rattle.judge_sums.proofs.column_of.Goals as goal

pub loop-i-init : goal.loop-i-init
loop-i-init c =
    let a = c.args in
    (omega arith, column_none a.multipliers.bytes.now a.multipliers.place a.rows.bytes.now a.rows.start a.rows.n a.j c.new-column.ensures)

pub loop-i-preserved : goal.loop-i-preserved
loop-i-preserved c =
    let a = c.args in
    let kept = c.loop-i.invariant in
    let read = c.at in
    (omega arith, column_more a.multipliers.bytes.now a.multipliers.place a.rows.bytes.now a.rows.start a.rows.n a.j c.loop-i.i read.result c.loop-i.at kept.1 read.ensures.0 kept.0 c.visit-column.ensures)
