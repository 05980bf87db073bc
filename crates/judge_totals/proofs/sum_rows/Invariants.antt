-- before each turn the totals are those of the rows so far, and the next row starts at `at`
use Rattle.std.proofs.Common.{◌≡◌}
use Rattle.judge_sums.specs.Places.{row_place}
use Rattle.judge_sums.specs.Terms.{TotalsUnder}
use Rattle.judge_totals.proofs.sum_rows.Given as goal

abbrev pub invariant-loop-i : goal.invariant-loop-i
invariant-loop-i l = (l.at ≡ row_place l.rows.start l.rows.n l.i) × TotalsUnder l.multipliers l.rows l.i l.sums l.beside.lift l.beside.right
