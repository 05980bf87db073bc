-- `judge_lasso::lasso` meets its contract: start, kept and the ranking are its conditions.
use Rattle.std.proofs.Common.{Err, w64, ap, ◌∙◌}
use Rattle.std.proofs.lemmas.Result.{err_from_is_err_and}
use mir.Facts.{to_z-of_z}
use borrow.Author.Rules.{sfits_of}
use Rattle.refusal.proofs.FaultLaws.{told_done, told_refused}
use Rattle.judge_conditions.specs.LoopHeld.{loop_held, loop_of}
use Rattle.judge_lasso.specs.LassoAt.{lasso_at}
use Rattle.judge_lasso.proofs.LassoLaws.{longer_as, start_told, kept_told, ranking_told_lem, lasso_refused, lasso_ranked}
use Rattle.judge_lasso.proofs.lasso.Goals as goal

pub returns-in_err-starts : goal.returns-in_err-starts
unfolding loop_held
returns-in_err-starts c =
    let loop = loop_of c.args.rows in
    let held = lasso_at c.args.certificate in
    let p = err_from_is_err_and c.from_residual.result c.from_residual.ensures.1 in
    lasso_refused loop held _ c.args.rank.now _ _ (start_told loop held _ c.requires.0 _ _ (told_refused _ tt _ c.in_err-starts.ensures)) (p.1 ∙ ap Err p.2)

pub returns-in_err-keeps : goal.returns-in_err-keeps
unfolding loop_held
returns-in_err-keeps c =
    let loop = loop_of c.args.rows in
    let held = lasso_at c.args.certificate in
    let p = err_from_is_err_and c.from_residual-in_err-keeps.result c.from_residual-in_err-keeps.ensures.1 in
    lasso_refused loop held _ c.args.rank.now _ _
    (kept_told loop held _ c.requires.0 (told_done _ tt _ c.in_ok-starts.ensures) _ _ (told_refused _ tt _ c.in_err-keeps.ensures)) (p.1 ∙ ap Err p.2)

pub returns : goal.returns
unfolding loop_held
returns c =
    let a = c.args in
    let loop = loop_of a.rows in
    let held = lasso_at a.certificate in
    let s0_fits = to_z-of_z {w = w64} {z = c.s0.result} (sfits_of c.s0.type_inv) in
    lasso_ranked loop held c.longer_ranking.result a.rank.now c.longer_ranking.new.rank
    (ranking_told_lem loop held _ c.requires.0 (told_done _ tt _ c.in_ok-starts.ensures) (told_done _ tt _ c.in_ok-keeps.ensures))
    (longer_as a.certificate a.rows c.requires.0 c.requires.1 (rw (c.y_place-y.ensures, c.s_place.ensures.0, s0_fits, c.s0.ensures.0) at c.longer_ranking.ensures))
