-- The range is written out.
use Rattle.record.specs.Ranges.{variables}
use Rattle.record_faults.proofs.variables_fit.Goals as goal

pub returns : goal.returns
unfolding variables
returns c = c.between.ensures
