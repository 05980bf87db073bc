-- before each turn the totals are those of the columns so far
use Rattle.judge_along.specs.AlongRows.{AlongOf}
use Rattle.judge_along.proofs.row_of.Given as goal

abbrev pub invariant-loop-j : goal.invariant-loop-j
invariant-loop-j l = AlongOf l.rows l.row l.n l.certificate l.place l.j l.sums.v.sum l.sums.u.sum l.sums.now.sum l.sums.next.sum
