-- `judge_sums::add_right` meets its contract.
use Rattle.std.proofs.Common.{pos, refl, arith}
use Rattle.judge_sums.specs.Places.{right_at}
use Rattle.judge_sums.proofs.RunningLaws.{added}
use Rattle.judge_sums.proofs.add_right.Goals as goal

pub returns : goal.returns
unfolding right_at
returns c = added (pos c.args.multiplier) c.i32_at.result 65535 2147483648 (omega arith) c.i32_at.ensures.1 (omega arith) refl c.i32_at.ensures.0 c.plus.ensures
