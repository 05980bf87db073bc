-- `judge_settling::settling` meets its contract: the rise and the ranking are its conditions.
use Rattle.std.proofs.Common.{◌≡◌, ◌+◌, ◌*◌, Err, w64, ap, ◌∙◌, arith, to_z-of_z}
use Rattle.std.proofs.lemmas.Result.{err_from_is_err_and}
use borrow.Author.Rules.{sfits_of}
use Rattle.record_settling.specs.SettlingRecords.{Y-place}
use Rattle.refusal.proofs.FaultLaws.{told_done, told_refused}
use Rattle.judge_conditions.specs.LoopHeld.{loop_held, loop_of}
use Rattle.judge_longer.specs.LongerHeld.{longer_held}
use Rattle.judge_sums.specs.Places.{right_at}
use Rattle.whole.proofs.Size.{fits_abs}
use Rattle.judge_settling.specs.SettlingHeld.{settling_held}
use Rattle.judge_settling.proofs.SettlingLaws.{rise_told, ranking_told_lem, settling_refused, settling_ranked}
use Rattle.judge_settling.proofs.settling.Goals as goal

pub returns-in_err-rises : goal.returns-in_err-rises
unfolding loop_held
returns-in_err-rises c =
    let a = c.args in
    let loop = loop_of a.rows in
    let held = settling_held a.certificate.now a.rows.n a.rows.count in
    let p = err_from_is_err_and c.from_residual.result c.from_residual.ensures.1 in
    settling_refused loop held _ a.rank.now _ _ (rise_told loop held _ _ (told_refused _ tt _ c.in_err-rises.ensures)) (p.1 ∙ ap Err p.2)

pub returns : goal.returns
unfolding loop_held settling_held longer_held right_at
returns c =
    let a = c.args in
    let loop = loop_of a.rows in
    let held = settling_held a.certificate.now a.rows.n a.rows.count in
    let ranked = c.longer_ranking in
    let place : 6 + 2 * a.rows.n + 6 + 2 * a.rows.count ≡ Y-place a.rows.n a.rows.count = omega arith in
    let t_fits = to_z-of_z {w = w64} {z = c.i32_at-t.result} (fits_abs {z = c.i32_at-t.result} (omega (arith, c.i32_at-t.ensures.1))) in
    let less-is = rw (t_fits, c.i32_at-t.ensures.0) at c.minus-right.ensures.0 in
    settling_ranked loop held ranked.result a.rank.now ranked.new.rank
    (ranking_told_lem loop held (told_done _ tt _ c.in_ok-rises.ensures))
    (rw (place, to_z-of_z {w = w64} {z = c.minus-right.result} (sfits_of c.minus-right.type_inv), less-is) at ranked.ensures)
