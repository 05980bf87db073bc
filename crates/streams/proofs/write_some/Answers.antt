-- What a step tells of a write, by what the write told.
use Rattle.streams.proofs.AnswerLaws.{step-appends}
use Rattle.streams.proofs.write_some.Goals as goal

pub returns-clause-bytes : goal.returns-clause-bytes
returns-clause-bytes g c =
    let old = g.W.Write.contents c.args.output.now in
    let new = g.W.Write.contents c.write-got.new.self in
    rw c.step_of.ensures.value (step-appends old new c.write-got.result c.args.buf.now c.write-got.ensures.bytes)
