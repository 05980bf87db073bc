-- `judge_short::is_short` meets its contract.
use Rattle.std.proofs.Common.{ap}
use lib.Dec.{eqb}
use borrow.Author.Tests.{le-leb, lt-leb}
use Rattle.verdict_short.specs.ShortJudging.{of_short}
use Rattle.judge_short.proofs.is_short.Goals as goal

pub returns-then-certificate-lt6 : goal.returns-then-certificate-lt6
returns-then-certificate-lt6 c = rw (lt-leb _ _ c.if-certificate-lt6.true)

pub returns : goal.returns
unfolding of_short
returns c = rw (le-leb _ _ c.if-certificate-lt6.false) (ap (λ k. eqb k 7) c.u16_at.ensures.0)
