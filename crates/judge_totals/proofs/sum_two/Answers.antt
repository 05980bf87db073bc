-- `judge_totals::sum_two` meets its contract: the totals start as those of no row, and each turn adds one.
use Rattle.std.proofs.Common.{◌≡◌, arith}
use Rattle.judge_sums.proofs.TotalsLaws.{totals_none, totals_more}
use Rattle.judge_totals.proofs.sum_two.Goals as goal

pub loop-i-init : goal.loop-i-init
loop-i-init c =
    let a = c.args in
    let none = c.new-beside.ensures in
    record {
      here = omega arith;
      under_y = totals_none a.y.bytes.now a.y.place a.rows.bytes.now a.rows.start a.rows.n a.ys.now c.requires.2 (none.0, none.1);
      under_z = totals_none a.z.bytes.now a.z.place a.rows.bytes.now a.rows.start a.rows.n a.zs.now c.requires.3 (none.2, none.3);
    }

pub loop-i-preserved : goal.loop-i-preserved
loop-i-preserved c =
    let a = c.args in
    let kept = c.loop-i.invariant in
    let read_y = c.at in
    let read_z = c.at-in-loop-i in
    let more = c.visit_two-beside.ensures in
    record {
      here = omega arith;
      under_y = totals_more a.y.bytes.now a.y.place a.rows.bytes.now a.rows.start a.rows.n c.loop-i.i read_y.result c.loop-i.at kept.under_y read_y.ensures.0 read_y.ensures.1 kept.here more.0 more.2;
      under_z = totals_more a.z.bytes.now a.z.place a.rows.bytes.now a.rows.start a.rows.n c.loop-i.i read_z.result c.loop-i.at kept.under_z read_z.ensures.0 read_z.ensures.1 kept.here more.1 more.3;
    }

pub returns : goal.returns
returns c =
    let kept = c.loop-i.invariant in
    let end : c.loop-i.i ≡ c.args.rows.count = omega arith in
    (rw end at kept.under_y, rw end at kept.under_z)
