-- `judge_sums::add_lifted` meets its contract.
use Rattle.std.proofs.Common.{w64, arith, rules}
use mir.Val.{SFits}
use mir.Facts.{to_z-of_z}
use Rattle.whole.proofs.Size.{back}
use Rattle.judge_sums.specs.Places.{entry_at}
use Rattle.judge_sums.proofs.RunningLaws.{lifted_added}
use Rattle.judge_sums.proofs.add_lifted.Goals as goal

pub returns : goal.returns
unfolding entry_at
returns c =
    let fits : SFits w64 c.plus.result.sum = search rules in
    let read = c.lifted_at.ensures in
    rw (to_z-of_z fits)
    (lifted_added c.args.multiplier c.lifted_at.result (omega arith) read.0 read.1 read.2 (rw (back {z = c.args.sum} (omega arith)) at c.plus.ensures))
