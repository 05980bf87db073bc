use Rattle.judge_state.proofs.StateLaws.{SoFar}
use Rattle.judge_state.proofs.state_fault.Given as goal

-- so far all entries are in range
abbrev pub invariant-loop-i : goal.invariant-loop-i
invariant-loop-i l = SoFar l.state l.i
