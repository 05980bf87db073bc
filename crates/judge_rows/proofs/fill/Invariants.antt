-- After i records the next starts at its place, i places are filled and i stretches judged.
use Rattle.std.proofs.Common.{◌≡◌, length}
use Rattle.verdict_batch.proofs.Filling.{State}
use Rattle.judge_rows.specs.VerdictRows.{put_for}
use Rattle.judge_rows.proofs.fill.Given as goal

abbrev pub invariant-loop-i : goal.invariant-loop-i
invariant-loop-i g l =
    (length l.rows ≡ length l.initial.rows)
    × (length l.ranks ≡ length l.initial.ranks)
    × State (put_for g.R.Row.of) l.loopbytes l.bytes l.initial.rows l.initial.ranks l.i l.from l.rows l.ranks
