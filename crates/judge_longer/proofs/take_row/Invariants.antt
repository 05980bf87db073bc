-- The totals so far are taken from, and the others stand as they were.
use Rattle.judge_longer.specs.LongerHeld.{RowTaken}
use Rattle.judge_longer.proofs.take_row.Given as goal

abbrev pub invariant-loop-j : goal.invariant-loop-j
invariant-loop-j l = RowTaken l.multiplier l.certificate l.s l.j l.initial.sums l.sums
