-- `judge_totals::add_row` meets its contract.
use Rattle.std.proofs.Common.{pos, get_or, arith}
use mir.Facts.{to_z-of_z}
use borrow.Author.Rules.{sfits_of}
use Rattle.judge_sums.proofs.LiftLaws.{row_more, next_grows, grown}
use Rattle.judge_totals.proofs.add_row.Goals as goal

pub loop-k-preserved : goal.loop-k-preserved
loop-k-preserved c =
    let a = c.args in
    let kept = c.loop-k.invariant in
    let k = c.loop-k.k in
    let grows = next_grows _ a.sums.now k a.width c.loop-k.sums kept c.requires.1 c.loop-k-test.true in
    rw (to_z-of_z (sfits_of c.add_lifted.type_inv))
    (row_more _ a.sums.now k c.loop-k.sums c.add_lifted.result kept (omega arith) (rw (grown (get_or c.loop-k.sums k (pos 0)) grows) at c.add_lifted.ensures))
