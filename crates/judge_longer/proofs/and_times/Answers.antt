-- `judge_longer::and_times` meets its contract: the total takes the term, and can grow.
use Rattle.std.proofs.Common.{◌*◌, ◌*ℤ◌, pos, refl, arith}
use mir.Facts.{to_z-of_z}
use borrow.Author.Rules.{sfits_of}
use Rattle.whole.proofs.Size.{abs_add}
use Rattle.judge_sums.specs.Running.{Adds}
use Rattle.judge_sums.proofs.RunningLaws.{may_add, added}
use Rattle.judge_longer.proofs.and_times.Goals as goal

pub plus-more-requires : goal.plus-more-requires
plus-more-requires c =
    let a = c.args in
    rw (to_z-of_z c.ranges.total)
    (may_add (pos a.k) a.z 65535 2147483648 (omega (arith, c.requires.1)) c.requires.2 (omega arith) a.total (omega (arith, c.requires.0)))

pub returns : goal.returns
returns c =
    let a = c.args in
    let term = pos a.k *ℤ a.z in
    let sum = c.plus-more.result.sum in
    let more : Adds (65535 * 2147483648) term a.total sum =
    added (pos a.k) a.z 65535 2147483648 (omega (arith, c.requires.1)) c.requires.2 (omega arith) refl refl (rw (to_z-of_z c.ranges.total) at c.plus-more.ensures)
    in
    rw (to_z-of_z (sfits_of c.plus-more.type_inv.1.1.0.1)) (more.is, rw more.is (omega (arith, abs_add a.total term, more.small, c.requires.0)))
