-- before each turn the total is that of the entries so far
use Rattle.std.proofs.Common.{pos, ◌*ℤ◌, length, get_or}
use Rattle.judge_along.specs.AlongRows.{most_rank}
use Rattle.judge_sums.specs.Running.{SumOf}
use Rattle.judge_along.proofs.rank_at.Given as goal

abbrev pub invariant-loop-r : goal.invariant-loop-r
invariant-loop-r l = SumOf (length l.yielded) most_rank (λ j. get_or l.rank j (pos 0) *ℤ get_or l.state.entries.now j (pos 0)) l.total.sum
