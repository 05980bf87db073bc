-- `judge_lasso::LassoRecord::s0` meets its contract.
use Rattle.std.proofs.Common.{arith}
use Rattle.whole.proofs.Size.{back}
use Rattle.judge_sums.specs.Places.{right_at}
use Rattle.judge_lasso.proofs.lasso_record.LassoRecord.s0.Goals as goal

pub returns : goal.returns
unfolding right_at
returns c = rw (back {z = c.i32_at.result} (omega (arith, c.i32_at.ensures.1))) (rw c.s_place.ensures.0 at c.i32_at.ensures)
