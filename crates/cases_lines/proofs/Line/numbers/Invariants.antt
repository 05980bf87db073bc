-- No more numbers were put than places were passed.
use Rattle.std.proofs.Common.{◌≤◌}
use Rattle.cases_lines.proofs.Line.numbers.Given as goal

abbrev pub invariant-loop-place : goal.invariant-loop-place
invariant-loop-place l = l.count ≤ l.place-index
