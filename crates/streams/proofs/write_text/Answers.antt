-- What a turn wrote lies behind what was written before it.
use Rattle.std.proofs.Common.{arith}
use Rattle.streams.proofs.AnswerLaws.{written-more, written-no-more}
use Rattle.streams.proofs.write_text.Goals as goal
use Rattle.streams.proofs.write_text.Goals.{in-Moved, in-Again}

pub loop-preserved : goal.loop-preserved
loop-preserved g c =
    let l = c.loop in
    elim c.match-write_some.branch [
      | in-Moved w ↦ (omega (arith, w.in-Moved.ensures.within), written-more _ _ _ c.args.text.now l.size w.in-Moved.count _ w.size-is l.invariant.1 w.in-Moved.ensures.bytes)
      | in-Again w ↦ (omega arith, written-no-more _ _ _ c.args.text.now l.size _ w.size-is l.invariant.1 w.in-Again.ensures.bytes)
    ]
