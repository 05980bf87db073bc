-- `judge_batch::judge_part` meets its contract: the numbers of a verdict give it back.
use Rattle.std.proofs.Common.{ap, ◌∙◌}
use Rattle.verdict_flat.specs.VerdictsBack.{verdict_back}
use Rattle.verdict_flat.proofs.VerdictsAgain.{back_again}
use Rattle.judge_batch.proofs.judge_part.Goals as goal

pub returns : goal.returns
returns c =
    let called = c.flat_part in
    (c.from.ensures ∙ ap verdict_back called.ensures.0 ∙ back_again _, called.ensures.1)
