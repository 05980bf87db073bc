-- `record_short_check::row_fits` meets its contract.
use Rattle.std.proofs.Common.{◌∙◌}
use borrow.Author.Tests.{eq-eqb, le-ltb}
use Rattle.record_short_check.proofs.TripleTests.{row_past, row_first, row_later}
use Rattle.record_short_check.proofs.row_fits.Goals as goal

pub returns-then-i-eq0 : goal.returns-then-i-eq0
returns-then-i-eq0 c = eq-eqb _ _ c.if-i-eq0.true ∙ row_first _ _ _ _ c.u16_at-row.ensures.0 c.if-row-m.true c.if-i-eq0.true

pub returns-else-i-eq0 : goal.returns-else-i-eq0
returns-else-i-eq0 c = row_later _ _ _ _ c.u16_at-row.ensures.0 c.if-row-m.true c.if-i-eq0.false _ c.u16_at.ensures.0

pub returns-else-row-m : goal.returns-else-row-m
returns-else-row-m c = le-ltb _ _ c.if-row-m.false ∙ row_past _ _ _ _ c.u16_at-row.ensures.0 c.if-row-m.false
