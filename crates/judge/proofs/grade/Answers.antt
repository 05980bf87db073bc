-- `judge::grade` meets its contract.
use Rattle.verdict.specs.Outcomes.{grade_of}
use Rattle.judge.proofs.grade.Goals as goal

pub returns-then-whole_step : goal.returns-then-whole_step
unfolding grade_of
returns-then-whole_step c = rw (← c.whole_step.ensures, c.if-whole_step.true)

pub returns-else-whole_step : goal.returns-else-whole_step
unfolding grade_of
returns-else-whole_step c = rw (← c.whole_step.ensures, c.if-whole_step.false)
