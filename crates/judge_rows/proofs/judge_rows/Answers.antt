-- `judge_rows::judge_rows` meets its contract: what is put for a verdict is its row of numbers.
use Rattle.judge_rows.specs.VerdictRows.{filled_by, rows_after}
use Rattle.judge_rows.proofs.judge_rows.Goals as goal

pub returns-clause-rows_after : goal.returns-clause-rows_after
unfolding filled_by rows_after
returns-clause-rows_after c = c.fill.ensures.rows_after
