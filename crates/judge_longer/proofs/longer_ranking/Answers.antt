-- `judge_longer::longer_ranking` meets its contract: the loop's lifted totals, less the added row's terms and the lifts, and its right sides with the
-- added row's, are the sums over the longer loop.
use Rattle.std.proofs.Common.{◌+◌, ◌*◌, ◌≤◌, nat_abs, refl, ◌∙◌, w64, arith}
use mir.Facts.{to_z-of_z}
use borrow.Author.Rules.{sfits_of}
use Rattle.whole.proofs.Size.{back}
use Rattle.judge_conditions.proofs.Totals.{right_small}
use Rattle.judge_conditions.specs.LoopHeld.{loop_held}
use Rattle.judge_ranking.specs.RankingHeld.{ranking_held}
use Rattle.judge_longer.specs.LongerHeld.{longer_held, longer_of}
use Rattle.judge_longer.proofs.AddedLaws.{taken_modest, totalled_longer, rights_longer}
use Rattle.judge_ranking.proofs.RankedLaws.{ranked_by}
use Rattle.judge_ranking.proofs.RankingTotals.{lift_passed, zeros}
use Rattle.judge_longer.proofs.longer_ranking.Goals as goal

pub invariant_of-y-clause-sums_modest : goal.invariant_of-y-clause-sums_modest
invariant_of-y-clause-sums_modest c =
    let a = c.args in
    let sums = c.add_rows-beside in
    taken_modest a.rows a.certificate.now a.place a.s c.at-y_last.result sums.new.ys c.take_row.new.sums c.requires.0 sums.ensures.0 c.take_row.ensures

pub invariant_of-z-clause-sums_modest : goal.invariant_of-z-clause-sums_modest
invariant_of-z-clause-sums_modest c =
    let a = c.args in
    let sums = c.add_rows-beside in
    taken_modest a.rows a.certificate.now (a.place + 2 * (a.rows.count + 1)) a.s c.at-z_last.result sums.new.zs c.take_row-2.new.sums c.requires.0 sums.ensures.1 c.take_row-2.ensures

pub add_rows-beside-requires : goal.add_rows-beside-requires
add_rows-beside-requires c =
    let wide : 2 * c.args.rows.n ≤ 32 = omega arith in
    (wide, wide, zeros _ wide, zeros _ wide, omega arith, omega arith)

pub returns : goal.returns
unfolding longer_held loop_held ranking_held
returns c =
    let a = c.args in
    let m = a.rows.count in
    let sums = c.add_rows-beside in
    let y = sums.result.y in
    let z = sums.result.z in
    let few : m ≤ 65 = omega (arith, c.requires.0) in
    let z_place = a.place + 2 * (m + 1) in
    let lift_y = lift_passed m _ few sums.ensures.4.lift_sum in
    let lift_z = lift_passed m _ few sums.ensures.5.lift_sum in
    let yb = c.and_times-yb in
    let zb = c.and_times-zb in
    let small_y : nat_abs y.right ≤ 9147797156659200 = right_small m _ y.right few sums.ensures.4.right_sum in
    let small_z : nat_abs z.right ≤ 9147797156659200 = right_small m _ z.right few sums.ensures.5.right_sum in
    let more_y = rw (to_z-of_z c.ranges.right, back {z = y.right} (omega (arith, small_y))) at yb.ensures.0 in
    let more_z = rw (to_z-of_z c.ranges.right, back {z = z.right} (omega (arith, small_z))) at zb.ensures.0 in
    let over_y =
    to_z-of_z {w = w64} {z = yb.result} (sfits_of yb.type_inv) ∙ more_y
    ∙ rights_longer a.rows.bytes.now a.certificate.now a.rows.start a.rows.n m a.place a.s a.right c.at-y_last.result y.right _ c.at-y_last.ensures.0 sums.ensures.4.right_sum refl in
    let over_z =
    to_z-of_z {w = w64} {z = zb.result} (sfits_of zb.type_inv) ∙ more_z
    ∙ rights_longer a.rows.bytes.now a.certificate.now a.rows.start a.rows.n m z_place a.s a.right c.at-z_last.result z.right _ c.at-z_last.ensures.0 sums.ensures.5.right_sum refl in
    ranked_by (longer_of a.rows a.certificate.now a.s a.right) (ranking_held a.certificate.now a.place (m + 1))
    c.take_row.new.sums _ c.take_row-2.new.sums _
    (totalled_longer a.rows a.certificate.now a.place a.s a.right sums.new.ys c.take_row.new.sums _ sums.new.zs c.take_row-2.new.sums _
    c.at-y_last.result c.at-z_last.result few
    sums.ensures.0 c.take_row.ensures lift_y sums.ensures.1 c.take_row-2.ensures lift_z
    c.at-y_last.ensures.0 c.at-z_last.ensures.0)
    _ _ c.ranked.result a.rank.now c.ranked.new.rank
    over_y over_z c.ranked.ensures.0 c.ranked.ensures.1
