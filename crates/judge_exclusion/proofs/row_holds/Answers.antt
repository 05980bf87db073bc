-- `judge_exclusion::row_holds` meets its contract: the left sides are those of the theory, and the right side is q·b.
use Rattle.std.proofs.Common.{◌≡◌, pos, w64, to_z, arith}
use mir.Facts.{to_z-of_z, to_z_pos}
use Rattle.whole.proofs.Size.{fits_abs}
use Rattle.judge_sums.specs.Places.{right_at}
use Rattle.judge_exclusion.proofs.ExcludedLaws.{stays_so, meets_so}
use Rattle.judge_exclusion.proofs.row_holds.Goals as goal

pub returns : goal.returns
unfolding right_at
returns c =
    let a = c.args in
    let sides = c.along-sides in
    let q = c.u16_at-q in
    let b = c.i32_at in
    let right = c.times-right in
    let q_is : to_z w64 q.result ≡ pos q.result = to_z_pos w64 (omega (arith, q.ensures.1)) in
    let b_passed = to_z-of_z (fits_abs {z = b.result} (omega (arith, b.ensures.1))) in
    let right_is = rw (q_is, b_passed, q.ensures.0, b.ensures.0) at right.ensures.0 in (
      stays_so a.rows.now a.row a.n a.certificate.now sides.result.direction sides.ensures.0 sides.ensures.1,
      meets_so a.rows.now a.row a.n a.certificate.now sides.result.step right.result sides.ensures.2 sides.ensures.3 right_is (omega (arith, right.ensures.1)),
    )
