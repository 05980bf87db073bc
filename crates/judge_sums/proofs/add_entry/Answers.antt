-- `judge_sums::add_entry` meets its contract.
use Rattle.std.proofs.Common.{pos, refl, arith}
use Rattle.judge_sums.specs.Places.{entry_at}
use Rattle.judge_sums.proofs.RunningLaws.{added}
use Rattle.judge_sums.proofs.add_entry.Goals as goal

pub returns : goal.returns
unfolding entry_at
returns c = added (pos c.args.multiplier) c.i16_at.result 65535 32768 (omega arith) c.i16_at.ensures.1 (omega arith) refl c.i16_at.ensures.0 c.plus.ensures
