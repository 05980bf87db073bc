-- `judge_ranking::over` meets its contract: what the totals tell is told of the ranking.
use Rattle.judge_ranking.proofs.RankingSums.{ranks}
use Rattle.judge_ranking.proofs.over.Goals as goal

pub returns : goal.returns
returns g c =
    let a = c.args in
    let sums = c.add_rows-beside in
    ranks a.rows a.certificate.now sums.new.ys sums.new.zs sums.result c.requires.2 sums.ensures.0 sums.ensures.1 c.ranked.result a.rank.now c.ranked.new.rank c.ranked.ensures
