-- before each turn the entries so far are added, and the others stand as they were
use Rattle.judge_sums.specs.Places.{RowAdded}
use Rattle.judge_sums.proofs.add_row.Given as goal

abbrev pub invariant-loop-k : goal.invariant-loop-k
invariant-loop-k l = RowAdded l.y l.rows l.row l.k l.fn.ys l.ys × RowAdded l.z l.rows l.row l.k l.fn.zs l.zs
