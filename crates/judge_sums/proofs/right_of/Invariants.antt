-- before each turn the total is that of the rows so far, and the next row starts at `at`
use Rattle.std.proofs.Common.{◌≡◌}
use Rattle.judge_sums.specs.Places.{row_place, most_right}
use Rattle.judge_sums.specs.Running.{SumOf}
use Rattle.judge_sums.specs.Terms.{right_terms}
use Rattle.judge_sums.proofs.right_of.Given as goal

abbrev pub invariant-loop-i : goal.invariant-loop-i
invariant-loop-i l = (l.at ≡ row_place l.rows.start l.rows.n l.i) × SumOf l.i most_right (right_terms l.multipliers l.rows) l.total.sum
