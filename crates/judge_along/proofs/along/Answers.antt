-- `judge_along::along` meets its contract.
use Rattle.judge_along.proofs.SideLaws.{direction_held, difference_held, step_held, direction_is, step_is}
use Rattle.judge_along.proofs.along.Goals as goal

pub overflow_add-result : goal.overflow_add-result
overflow_add-result c = direction_held c.row_of-sums.ensures c.requires.2

pub overflow_sub-result : goal.overflow_sub-result
overflow_sub-result c = difference_held c.row_of-sums.ensures c.requires.2

pub overflow_add-result-2 : goal.overflow_add-result-2
overflow_add-result-2 c = step_held c.row_of-sums.ensures c.requires.2

pub returns : goal.returns
returns c =
    let direction = direction_is c.row_of-sums.ensures c.requires.2 in
    let step = step_is c.row_of-sums.ensures c.requires.2 in
    (direction.0, direction.1, step.0, step.1)
