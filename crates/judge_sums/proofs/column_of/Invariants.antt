-- before each turn the totals are those of the rows so far, and the next row starts at `at`
use Rattle.std.proofs.Common.{◌≡◌}
use Rattle.judge_sums.specs.Places.{row_place}
use Rattle.judge_sums.specs.Terms.{ColumnUnder}
use Rattle.judge_sums.proofs.column_of.Given as goal

abbrev pub invariant-loop-i : goal.invariant-loop-i
invariant-loop-i l = (l.at ≡ row_place l.rows.start l.rows.n l.i) × ColumnUnder l.multipliers l.rows l.j l.i l.column.now.sum l.column.next.sum
