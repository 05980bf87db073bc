-- `SoundLoop::rows` meets its contract: a sound loop's rows lie within its bytes.
use Rattle.judge.proofs.SoundSizes.{rows_in}
use Rattle.judge.proofs.sound_loop.SoundLoop.rows.Goals as goal

pub invariant_of-result : goal.invariant_of-result
invariant_of-result c = record { lie = rows_in _ _ _ c.args.self.sound }
