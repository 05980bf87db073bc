-- `judge_totals::sum_rows` meets its contract: the totals start as those of no row, and each turn adds one.
use Rattle.std.proofs.Common.{arith}
use Rattle.judge_sums.proofs.TotalsLaws.{totals_none, totals_more}
use Rattle.judge_totals.proofs.sum_rows.Goals as goal

pub loop-i-init : goal.loop-i-init
loop-i-init c =
    let a = c.args in
    (omega arith, totals_none a.multipliers.bytes.now a.multipliers.place a.rows.bytes.now a.rows.start a.rows.n a.sums.now c.requires.1 c.new-beside.ensures)

pub loop-i-preserved : goal.loop-i-preserved
loop-i-preserved c =
    let a = c.args in
    let kept = c.loop-i.invariant in
    let read = c.at in
    let more = c.visit-beside.ensures in
    (omega arith, totals_more a.multipliers.bytes.now a.multipliers.place a.rows.bytes.now a.rows.start a.rows.n c.loop-i.i read.result c.loop-i.at kept.1 read.ensures.0 read.ensures.1 kept.0 more.0 more.1)
