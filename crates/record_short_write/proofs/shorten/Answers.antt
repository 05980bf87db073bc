-- `record_short_write::shorten` meets its contract.
use Rattle.std.proofs.Common.{◌∙◌, ap}
use Rattle.record.specs.Writings.{written_of}
use Rattle.record_short.specs.Conversions.{short_bytes, shortening_told, shortens}
use Rattle.record_short.proofs.ShortBytes.{length_short}
use Rattle.record_short_write.proofs.ConversionWays.{converts}
use Rattle.record_short_write.proofs.shorten.Goals as goal

pub returns-clause-value : goal.returns-clause-value
unfolding shortens
returns-clause-value c =
    let a = c.args in
    c.of.ensures ∙ ap written_of c.shortened.ensures.value
    ∙ converts (shortening_told a.bytes.now a.n a.m a.room.now) (short_bytes a.m a.bytes.now) _ (length_short a.m a.bytes.now)
