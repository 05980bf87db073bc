-- `judge_paths::Path::weighs` meets its contract: the totals are those of the weighted rows, and they are asked as the theory asks.
use Rattle.std.proofs.Common.{◌*◌, ◌≤◌, ◌∙◌, arith}
use Rattle.judge_ranking.proofs.RankingTotals.{zeros}
use Rattle.judge_paths.proofs.WeighedByTotals.{weighs_is}
use Rattle.judge_paths.proofs.path.Path.weighs.Goals as goal

pub sum_rows-beside-requires : goal.sum_rows-beside-requires
sum_rows-beside-requires c =
    let wide : 2 * c.args.self.rows.n ≤ 32 = omega (arith, c.args.self.lies.narrow) in
    (wide, zeros _ wide, c.requires.0)

pub returns : goal.returns
returns c =
    let path = c.args.self in
    let sums = c.sum_rows-beside in
    c.met_by.ensures ∙ weighs_is path.rows c.args.held path.lies.few sums.new.sums _ _ sums.ensures
