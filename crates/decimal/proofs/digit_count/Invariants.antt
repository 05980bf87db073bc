-- What is counted and the digits of the rest are together one more than the digits of x.
use Rattle.std.proofs.Common.{◌≡◌, ◌+◌, length}
use Rattle.decimal.specs.Decimals.{decimal}
use Rattle.decimal.proofs.digit_count.Given as goal

abbrev pub invariant-loop-rest : goal.invariant-loop-rest
invariant-loop-rest l = l.count + length (decimal l.rest) ≡ length (decimal l.x) + 1

abbrev pub decreases-loop-rest : goal.decreases-loop-rest
decreases-loop-rest l = l.rest
