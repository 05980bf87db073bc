-- What a turn read lies behind what was read before it.
use Rattle.std.proofs.Common.{arith, take, length-take-le}
use Rattle.streams.proofs.AnswerLaws.{read-on, read-no-more}
use Rattle.streams.proofs.read_input.Goals as goal
use Rattle.streams.proofs.read_input.Goals.{in-Moved, in-Again}

pub loop-preserved : goal.loop-preserved
loop-preserved g c =
    let l = c.loop in
    let r = c.read_some in
    let before = length-take-le l.size l.room l.invariant.0 in
    elim c.match-read_some.branch [
      | in-Moved w ↦ (
        omega (arith, w.in-Moved.ensures.within),
        omega arith,
        read-on _ _ _ (take l.size l.room) r.new.buf _ l.size w.in-Moved.count _ before (omega (arith, w.in-Moved.ensures.within)) w.size-is l.invariant.2 w.in-Moved.ensures.bytes,
      )
      | in-Again w ↦ (omega arith, omega arith, read-no-more _ _ _ (take l.size l.room) r.new.buf _ l.size _ before w.size-is l.invariant.2 w.in-Again.ensures.bytes)
    ]
