-- `judge_longer::take_row` meets its contract: each turn takes one term more.
use Rattle.std.proofs.Common.{pos, get_or, arith}
use mir.Facts.{to_z-of_z}
use borrow.Author.Rules.{sfits_of}
use Rattle.whole.proofs.Size.{back}
use Rattle.judge_sums.specs.Places.{entry_at}
use Rattle.judge_sums.specs.Running.{Modest}
use Rattle.judge_longer.proofs.AddedLaws.{taken_more, next_modest}
use Rattle.judge_longer.proofs.take_row.Goals as goal

pub loop-j-preserved : goal.loop-j-preserved
unfolding entry_at
loop-j-preserved c =
    let a = c.args in
    let j = c.loop-j.j in
    let kept = c.loop-j.invariant in
    let total = get_or c.loop-j.sums j (pos 0) in
    let modest : Modest total = next_modest a.multiplier a.certificate.now a.s a.sums.now j a.n c.loop-j.sums kept c.requires.1 c.loop-j-test.true in
    rw (
      to_z-of_z (sfits_of c.less_times.type_inv),
      c.less_times.ensures.0,
      back {z = total} (omega (arith, modest)),
      back {z = c.i16_at.result} (omega (arith, c.i16_at.ensures.1)),
    )
    (taken_more a.multiplier a.certificate.now a.s a.sums.now j c.loop-j.sums c.i16_at.result kept (omega arith) c.requires.2 c.i16_at.ensures.0 c.i16_at.ensures.1)
