-- before each turn the entries so far are added, and the others stand as they were
use Rattle.judge_sums.specs.Places.{RowAdded}
use Rattle.judge_totals.proofs.add_row.Given as goal

abbrev pub invariant-loop-k : goal.invariant-loop-k
invariant-loop-k l = RowAdded l.multiplier l.rows l.row l.k l.fn.sums l.sums
