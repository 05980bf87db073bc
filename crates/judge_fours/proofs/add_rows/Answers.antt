-- `judge_fours::add_rows` meets its contract: the totals start as those of no row.
use Rattle.std.proofs.Common.{◌*◌, arith}
use Rattle.judge_sums.proofs.LiftLaws.{rest_none}
use Rattle.judge_sums.proofs.TotalsLaws.{totals_none}
use Rattle.judge_fours.proofs.add_rows.Goals as goal

pub loop-i-init : goal.loop-i-init
loop-i-init c =
    let a = c.args in
    let none = c.new-beside.ensures in
    record {
      within = omega arith;
      rest_y = rest_none (2 * a.rows.n) a.ys.now;
      rest_z = rest_none (2 * a.rows.n) a.zs.now;
      under_y = totals_none a.y.bytes.now a.y.place a.rows.bytes.now a.rows.start a.rows.n a.ys.now c.requires.2 (none.0, none.1);
      under_z = totals_none a.z.bytes.now a.z.place a.rows.bytes.now a.rows.start a.rows.n a.zs.now c.requires.3 (none.2, none.3);
    }
