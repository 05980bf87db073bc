-- What a step tells of a read, by what the read told.
use Rattle.streams.proofs.AnswerLaws.{step-consumes}
use Rattle.streams.proofs.read_some.Goals as goal

pub returns-clause-bytes : goal.returns-clause-bytes
returns-clause-bytes g c =
    let old = g.R.Read.remaining c.args.input.now in
    let new = g.R.Read.remaining c.read-got.new.self in
    rw c.step_of.ensures.value (step-consumes old new c.read-got.result c.read-got.new.buf c.read-got.ensures.bytes)
