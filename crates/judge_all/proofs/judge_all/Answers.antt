-- `judge_all::judge_all` meets its contract: what is put for a verdict is the verdict.
use Rattle.std.proofs.Common.{◌∙◌}
use Rattle.judge_all.proofs.AsTheyAre.{verdicts_filled}
use Rattle.judge_all.proofs.judge_all.Goals as goal

pub returns : goal.returns
returns c =
    let put = c.fill.ensures in
    let a = c.args in (
      put.value,
      put.rows_after ∙ verdicts_filled a.loopbytes.now a.bytes.now a.verdicts.now a.ranks.now,
      put.ranks_after,
    )
