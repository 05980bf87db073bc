-- `judge_ranking::by_totals` meets its contract: what fails first of the four is told, and where all hold the rank is put.
use Rattle.std.proofs.Common.{◌≤ℤ◌, ◌<ℤ◌, pos, neg_ℤ, Err, ap, sym, ◌∙◌, arith}
use Rattle.std.proofs.lemmas.Int.{ints}
use Rattle.std.proofs.lemmas.Result.{err_from_is_err_and}
use lib.IntN.{+ℤ_idl}
use mir.Facts.{to_z-of_z}
use Rattle.refusal.proofs.FaultLaws.{told_done, told_refused}
use Rattle.whole.proofs.Compare.{lt_true, le_false}
use Rattle.judge_conditions.proofs.Compared.{minus_fits}
use Rattle.judge_ranking.proofs.RankedLaws.{three_fail, fourth_fails, all_hold, shows_nothing, shows_rank}
use Rattle.judge_ranking.proofs.by_totals.Goals as goal

pub returns-in_err-told : goal.returns-in_err-told
returns-in_err-told c ys ylift is =
    let a = c.args in
    let p = err_from_is_err_and c.from_residual.result c.from_residual.ensures.1 in
    let told = told_refused _ tt _ (sym c.in_err-told.was ∙ is) in
    shows_nothing _ _ _ _ _ _ _ a.rank.now (three_fail ys ylift a.z.sums.now a.z.lift a.z.n a.zb _ _ told) (p.1 ∙ ap Err p.2)

pub returns-then-zb-ge0 : goal.returns-then-zb-ge0
returns-then-zb-ge0 c ys ylift is =
    let a = c.args in
    let right : pos 0 ≤ℤ a.zb = omega (arith, ints) in
    let three_hold = told_done _ tt _ (sym c.in_ok-told.was ∙ is) in
    shows_nothing _ 24 0 _ _ _ _ a.rank.now (fourth_fails ys ylift a.z.sums.now a.z.lift a.z.n a.zb three_hold (le_false right)) c.refused.ensures

pub returns : goal.returns
returns c ys ylift is =
    let a = c.args in
    let right : a.zb <ℤ pos 0 = omega (arith, ints) in
    let three_hold = told_done _ tt _ (sym c.in_ok-told.was ∙ is) in
    rw (
      to_z-of_z c.ranges.yb,
      to_z-of_z c.ranges.zb,
      to_z-of_z (minus_fits a.yb c.requires.0),
      to_z-of_z (minus_fits a.zb c.requires.1),
      +ℤ_idl (neg_ℤ a.yb),
      +ℤ_idl (neg_ℤ a.zb),
    )
    (shows_rank _ (neg_ℤ a.yb) (neg_ℤ a.zb) a.z.n _ a.rank.now _ (all_hold ys ylift a.z.sums.now a.z.lift a.z.n a.zb three_hold (lt_true right)) c.put_rank.ensures)
