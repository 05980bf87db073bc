-- `judge_along::row_of` meets its contract.
use Rattle.judge_along.proofs.AlongLaws.{along_none, along_more}
use Rattle.judge_along.proofs.row_of.Goals as goal

pub loop-j-init : goal.loop-j-init
loop-j-init c =
    let a = c.args in
    along_none a.rows.now a.row a.n a.certificate.now a.place c.new.ensures c.new-2.ensures c.new-3.ensures c.new-4.ensures

pub loop-j-preserved : goal.loop-j-preserved
loop-j-preserved c =
    let a = c.args in
    along_more a.rows.now a.row a.n a.certificate.now a.place c.loop-j.j c.loop-j.invariant c.visit-sums.ensures
