-- `judge_fours::add_four` meets its contract.
use Rattle.std.proofs.Common.{◌*◌, ◌≡◌, arith}
use mir.Facts.{to_z-of_z}
use borrow.Author.Rules.{sfits_of}
use Rattle.judge_sums.proofs.LiftLaws.{row_more}
use Rattle.judge_fours.proofs.FourLaws.{next_modest}
use Rattle.judge_fours.proofs.add_four.Goals as goal

pub loop-k-preserved : goal.loop-k-preserved
loop-k-preserved c =
    let a = c.args in
    let kept = c.loop-k.invariant in
    let k = c.loop-k.k in
    let width = 2 * a.n in
    let below = c.loop-k-test.true in (
      rw (to_z-of_z (sfits_of c.add_entries.type_inv))
          (row_more _ a.ys.now k c.loop-k.ys c.add_entries.result kept.0 (omega arith)
          (rw (next_modest k width kept.0 c.requires.2 below).1 at c.add_entries.ensures)),
      rw (to_z-of_z (sfits_of c.add_entries-in-loop-k.type_inv))
          (row_more _ a.zs.now k c.loop-k.zs c.add_entries-in-loop-k.result kept.1 (omega arith)
          (rw (next_modest k width kept.1 c.requires.3 below).1 at c.add_entries-in-loop-k.ensures)),
    )

pub returns : goal.returns
returns c =
    let end : c.loop-k.k ≡ 2 * c.args.n = omega arith in
    rw end at c.loop-k.invariant
