-- `judge::lasso_sound` meets its contract: what the conditions tell of the places they tell of the records, and so the verdict is judging's.
use Rattle.std.proofs.Common.{◌≤◌, ◌∙◌, refl, length, arith, rules}
use mir.Syntax.{w64}
use mir.Val.{SFits}
use mir.Facts.{to_z-of_z}
use Rattle.record.specs.Layouts.{lasso, has_rank}
use Rattle.verdict.specs.Judging.{certificates_judged}
use Rattle.judge.specs.SoundPairs.{rank_outcome, verdict_shown}
use Rattle.judge.proofs.JudgedKinds.{short_list, ranked_judged}
use Rattle.judge.proofs.SoundContents.{lasso_told_lem}
use Rattle.judge.proofs.SoundSizes.{lasso_long}
use Rattle.judge.proofs.lasso_sound.Goals as goal

pub returns-then-rank-looped : goal.returns-then-rank-looped
unfolding has_rank
returns-then-rank-looped c =
    let a = c.args in
    let told = short_list _ _ _ a.looped.sound a.certificate.now a.rank.now lasso c.requires.as_kind refl c.if-rank-looped.true in
    (c.refused.ensures ∙ told.0, told.1)

pub invariant_of-lasso : goal.invariant_of-lasso
invariant_of-lasso c = record { lies = lasso_long _ _ _ _ c.args.looped.sound certificates_judged _ c.requires.as_kind c.requires.ms_is }

pub lasso-requires : goal.lasso-requires
lasso-requires c = let rows = c.rows.ensures in (rows.2, rows.3, omega arith)

pub returns-in-Ok : goal.returns-in-Ok
unfolding has_rank rank_outcome verdict_shown
returns-in-Ok c =
    let a = c.args in
    let rows = c.rows.ensures in
    let room : a.looped.n ≤ length a.rank.now = omega arith in
    let by = lasso_told_lem _ _ _ a.looped.sound certificates_judged a.certificate.now a.ms c.requires.as_kind c.requires.ms_is c.lasso.result a.rank.now c.lasso.new.rank (rw (rows.0, rows.1, rows.2, rows.3) at c.lasso.ensures) in
    let told = ranked_judged _ _ _ a.looped.sound a.certificate.now a.rank.now lasso c.requires.as_kind refl c.lasso.result c.lasso.new.rank by room in
    let start : SFits w64 c.in-Ok.field-0.start = search rules in
    let fall : SFits w64 c.in-Ok.field-0.fall = search rules in
    (rw (to_z-of_z start, to_z-of_z fall) at c.accepted.ensures ∙ rw c.in-Ok.is at told.0, told.1)

pub returns-in-Err : goal.returns-in-Err
unfolding has_rank verdict_shown
returns-in-Err c =
    let a = c.args in
    let rows = c.rows.ensures in
    let room : a.looped.n ≤ length a.rank.now = omega arith in
    let by = lasso_told_lem _ _ _ a.looped.sound certificates_judged a.certificate.now a.ms c.requires.as_kind c.requires.ms_is c.lasso.result a.rank.now c.lasso.new.rank (rw (rows.0, rows.1, rows.2, rows.3) at c.lasso.ensures) in
    let told = ranked_judged _ _ _ a.looped.sound a.certificate.now a.rank.now lasso c.requires.as_kind refl c.lasso.result c.lasso.new.rank by room in
    (c.refused-in-Err.ensures ∙ rw c.in-Err.is at told.0, told.1)
