-- `judge_bound::bound_at` meets its contract: the steps are from the rank's value.
use Rattle.std.proofs.Common.{rules}
use Rattle.theory.specs.Rankings as Rankings
use Rattle.judge_bound.proofs.bound_at.Goals as goal

pub returns : goal.returns
unfolding Rankings.bound
returns c = search rules
