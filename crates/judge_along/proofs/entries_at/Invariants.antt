-- before each turn the total is that of the entries so far
use Rattle.judge_along.specs.AlongRows.{state_term, most_state}
use Rattle.judge_sums.specs.Running.{SumOf}
use Rattle.judge_along.proofs.entries_at.Given as goal

abbrev pub invariant-loop-j : goal.invariant-loop-j
invariant-loop-j l = SumOf l.j most_state (state_term l.bytes l.place l.state.entries.now) l.total.sum
