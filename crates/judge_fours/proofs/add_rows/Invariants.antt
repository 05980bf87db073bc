-- before each turn the totals are those of the rows so far
use Rattle.std.proofs.Common.{◌*◌, ◌-◌, ◌≤◌}
use Rattle.judge_sums.specs.Places.{RestStays}
use Rattle.judge_sums.specs.Terms.{TotalsUnder}
use Rattle.judge_fours.proofs.add_rows.Given as goal

abbrev pub invariant-loop-i : goal.invariant-loop-i
invariant-loop-i l = record {
  within : l.i ≤ l.rows.count;
  rest_y : RestStays (2 * l.rows.n) l.fn.ys l.ys;
  rest_z : RestStays (2 * l.rows.n) l.fn.zs l.zs;
  under_y : TotalsUnder l.y l.rows l.i l.ys l.beside.y.lift l.beside.y.right;
  under_z : TotalsUnder l.z l.rows l.i l.zs l.beside.z.lift l.beside.z.right;
}

abbrev pub decreases-loop-i : goal.decreases-loop-i
decreases-loop-i l = l.rows.count - l.i
