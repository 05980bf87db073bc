-- `record_short_write::lengthen` meets its contract.
use Rattle.std.proofs.Common.{◌∙◌, ap}
use Rattle.record.specs.Writings.{written_of}
use Rattle.record_short.specs.Conversions.{lengthening_told, lengthens}
use Rattle.record_short.specs.ShortRecords.{long_bytes}
use Rattle.record_short.proofs.LongRecords.{length_long}
use Rattle.record_short_write.proofs.ConversionWays.{converts}
use Rattle.record_short_write.proofs.lengthen.Goals as goal

pub returns-clause-value : goal.returns-clause-value
unfolding lengthens
returns-clause-value c =
    let a = c.args in
    c.of.ensures ∙ ap written_of c.lengthened.ensures.value
    ∙ converts (lengthening_told a.bytes.now a.n a.m a.room.now) (long_bytes a.n a.m a.bytes.now) _ (length_long a.n a.m a.bytes.now)
