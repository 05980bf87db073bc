-- The three conditions hold at the columns before j.
use Rattle.judge_ranking.specs.LiftedTotals.{HoldBefore}
use Rattle.judge_ranking.proofs.lifted.Totals.first_fault.Given as goal

abbrev pub invariant-loop-j : goal.invariant-loop-j
invariant-loop-j l = HoldBefore l.j l.self
