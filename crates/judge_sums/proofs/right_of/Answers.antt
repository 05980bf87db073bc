-- `judge_sums::right_of` meets its contract.
use Rattle.std.proofs.Common.{arith}
use Rattle.judge_sums.specs.Places.{multiplier_at, right_term, most_right}
use Rattle.judge_sums.specs.Terms.{right_terms}
use Rattle.judge_sums.proofs.RunningLaws.{sum_none, sum_more}
use Rattle.judge_sums.proofs.right_of.Goals as goal

pub loop-i-init : goal.loop-i-init
loop-i-init c =
    let a = c.args in
    (omega arith, sum_none most_right (right_terms a.multipliers a.rows) c.new-total.ensures)

pub loop-i-preserved : goal.loop-i-preserved
unfolding multiplier_at right_term
loop-i-preserved c =
    let a = c.args in
    let kept = c.loop-i.invariant in (
      omega arith,
      sum_more most_right (right_terms a.multipliers a.rows) c.loop-i.i kept.1 (rw (c.at.ensures.0, kept.0) at c.add_right-total.ensures),
    )
