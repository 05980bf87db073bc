-- Before entry j the first j are put.
use Rattle.std.proofs.Common.{◌≡◌, ◌++◌, drop}
use Rattle.whole.specs.Sums.{tabulate}
use Rattle.judge_ranking.specs.LiftedTotals.{next_total}
use Rattle.judge_ranking.proofs.put_rank.Given as goal

abbrev pub invariant-loop-j : goal.invariant-loop-j
invariant-loop-j l = l.rank ≡ tabulate l.j (next_total l.z) ++ drop l.j l.initial.rank
