-- `record_short_write::SoundRanking::has_weight` meets its contract.
use Rattle.std.proofs.Common.{◌∙◌, ap}
use mathlib.Core.Bool.{not}
use borrow.Author.Tests.{ne_eqb}
use Rattle.record_short_write.proofs.ShortRooms.{weighs_by_Y, weighs_by_Z}
use Rattle.record_short_write.proofs.ranking.SoundRanking.has_weight.Goals as goal

pub returns-then-u16_at-ne0 : goal.returns-then-u16_at-ne0
returns-then-u16_at-ne0 c = ap not (ne_eqb _ _ c.if-u16_at-ne0.true) ∙ weighs_by_Y _ _ _ c.u16_at.result c.u16_at.ensures.0 c.if-u16_at-ne0.true

pub returns-else-u16_at-ne0 : goal.returns-else-u16_at-ne0
returns-else-u16_at-ne0 c =
    weighs_by_Z _ _ _ c.u16_at.result c.u16_at-else-u16_at-ne0.result c.u16_at.ensures.0 c.u16_at-else-u16_at-ne0.ensures.0 c.if-u16_at-ne0.false
