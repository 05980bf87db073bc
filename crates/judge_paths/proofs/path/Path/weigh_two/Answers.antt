-- `judge_paths::Path::weigh_two` meets its contract: the totals under each list are those of its weighted rows, and they are asked as the theory asks.
use Rattle.std.proofs.Common.{◌*◌, ◌≤◌, ◌∙◌, arith}
use Rattle.judge_sums.proofs.LiftLaws.{sums_modest}
use Rattle.judge_ranking.proofs.RankingTotals.{zeros}
use Rattle.judge_paths.proofs.WeighedByTotals.{weighs_is}
use Rattle.judge_paths.proofs.path.Path.weigh_two.Goals as goal

pub sum_two-beside-requires : goal.sum_two-beside-requires
sum_two-beside-requires c =
    let wide : 2 * c.args.self.rows.n ≤ 32 = omega (arith, c.args.self.lies.narrow) in
    (wide, wide, zeros _ wide, zeros _ wide, c.requires.0, c.requires.2)

pub invariant_of-y-clause-sums_modest : goal.invariant_of-y-clause-sums_modest
invariant_of-y-clause-sums_modest c =
    let rows = c.args.self.rows in
    let sums = c.sum_two-beside in
    let weights = c.args.first.weights in
    sums_modest weights.bytes.now weights.place rows.bytes.now rows.start rows.n rows.count sums.new.ys sums.ensures.0.columns rows.lie.few

pub invariant_of-z-clause-sums_modest : goal.invariant_of-z-clause-sums_modest
invariant_of-z-clause-sums_modest c =
    let rows = c.args.self.rows in
    let sums = c.sum_two-beside in
    let weights = c.args.second.weights in
    sums_modest weights.bytes.now weights.place rows.bytes.now rows.start rows.n rows.count sums.new.zs sums.ensures.1.columns rows.lie.few

pub returns : goal.returns
returns c =
    let path = c.args.self in
    let sums = c.sum_two-beside in (
      c.met_by.ensures ∙ weighs_is path.rows c.args.first path.lies.few sums.new.ys _ _ sums.ensures.0,
      c.met_by-2.ensures ∙ weighs_is path.rows c.args.second path.lies.few sums.new.zs _ _ sums.ensures.1,
    )
