-- The range is written out.
use Rattle.record.specs.Ranges.{rows}
use Rattle.record_faults.proofs.rows_fit.Goals as goal

pub returns : goal.returns
unfolding rows
returns c = c.between.ensures
