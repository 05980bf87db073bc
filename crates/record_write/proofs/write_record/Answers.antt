-- `record_write::write_record` meets its contract: it answers how many bytes were written, or the refusal.
use Rattle.std.proofs.Common.{◌∙◌, ap}
use Rattle.record.specs.Writings.{written_of}
use Rattle.record.specs.Writers.{writer}
use Rattle.record_write.proofs.WritingWays.{answers}
use Rattle.record_write.proofs.write_record.Goals as goal

pub returns-clause-value : goal.returns-clause-value
returns-clause-value c =
    let a = c.args in
    c.of.ensures ∙ ap written_of c.write_bytes.ensures.value ∙ answers (writer a.kind a.n a.m a.values.now a.room.now)
