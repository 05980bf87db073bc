-- `judge_ranking::put_rank` meets its contract: each turn puts one entry more.
use Rattle.std.proofs.Common.{refl, arith}
use borrow.Author.Rules.{sfits_of}
use mir.Facts.{to_z-of_z}
use Rattle.whole.specs.Sums.{tabulate}
use Rattle.judge_ranking.specs.LiftedTotals.{next_total}
use Rattle.judge_ranking.proofs.RankedLaws.{put_more}
use Rattle.judge_ranking.proofs.put_rank.Goals as goal

pub loop-j-init : goal.loop-j-init
unfolding tabulate
loop-j-init c = refl

pub loop-j-preserved : goal.loop-j-preserved
loop-j-preserved c =
    rw (to_z-of_z (sfits_of c.next.type_inv), c.next.ensures.0, c.loop-j.invariant)
    (put_more (next_total c.args.z) c.args.rank.now c.loop-j.j (omega arith))
