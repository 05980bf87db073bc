-- `judge_sums::add_row` meets its contract.
use Rattle.std.proofs.Common.{pos, get_or, arith}
use mir.Facts.{to_z-of_z}
use borrow.Author.Rules.{sfits_of}
use Rattle.judge_sums.proofs.LiftLaws.{row_more, next_grows, grown}
use Rattle.judge_sums.proofs.add_row.Goals as goal

pub loop-k-preserved : goal.loop-k-preserved
loop-k-preserved c =
    let a = c.args in
    let kept = c.loop-k.invariant in
    let k = c.loop-k.k in
    let below = c.loop-k-test.true in
    let ys-grow = next_grows _ a.ys.now k a.width c.loop-k.ys kept.0 c.requires.2 below in
    let zs-grow = next_grows _ a.zs.now k a.width c.loop-k.zs kept.1 c.requires.3 below in (
      rw (to_z-of_z (sfits_of c.add_lifted.type_inv))
          (row_more _ a.ys.now k c.loop-k.ys c.add_lifted.result kept.0 (omega arith) (rw (grown (get_or c.loop-k.ys k (pos 0)) ys-grow) at c.add_lifted.ensures)),
      rw (to_z-of_z (sfits_of c.add_lifted-in-loop-k.type_inv))
          (row_more _ a.zs.now k c.loop-k.zs c.add_lifted-in-loop-k.result kept.1 (omega arith)
          (rw (grown (get_or c.loop-k.zs k (pos 0)) zs-grow) at c.add_lifted-in-loop-k.ensures)),
    )
