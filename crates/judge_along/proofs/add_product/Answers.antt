-- `judge_along::add_product` meets its contract.
use Rattle.std.proofs.Common.{arith}
use Rattle.judge_sums.specs.Places.{entry_at, right_at}
use Rattle.judge_sums.proofs.RunningLaws.{added}
use Rattle.judge_along.proofs.add_product.Goals as goal

pub returns : goal.returns
unfolding entry_at right_at
returns c =
    let here = c.i16_at in
    let there = c.i32_at in
    added here.result there.result 32768 2147483648 here.ensures.1 there.ensures.1 (omega arith) here.ensures.0 there.ensures.0 c.plus.ensures
