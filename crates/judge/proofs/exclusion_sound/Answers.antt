-- `judge::exclusion_sound` meets its contract: each return is one way through judging.
use Rattle.std.proofs.Common.{◌∙◌, sym}
use Rattle.verdict.specs.Judging.{certificates_judged}
use Rattle.judge.proofs.JudgedKinds.{exclusion_refused, exclusion_accepted}
use Rattle.judge.proofs.SoundContents.{q_positive}
use Rattle.judge.proofs.SoundSizes.{n_few, exclusion_long}
use Rattle.judge.proofs.exclusion_sound.Goals as goal

pub exclusion-requires : goal.exclusion-requires
exclusion-requires c =
    let l = c.args.looped.sound in
    rw c.rows.ensures.2 (n_few _ _ _ l, exclusion_long _ _ _ l certificates_judged _ c.requires)

pub grade-requires : goal.grade-requires
grade-requires c =
    let l = c.args.looped.sound in
    let sound = c.requires in
    (exclusion_long _ _ _ l certificates_judged _ sound, n_few _ _ _ l, q_positive _ _ _ l certificates_judged _ sound)

pub returns-in-Ok : goal.returns-in-Ok
returns-in-Ok c lent =
    let a = c.args in
    let rows = c.rows.ensures in
    let told = exclusion_accepted _ _ _ a.looped.sound a.certificate.now lent c.requires c.exclusion.result (rw (rows.0, rows.1, rows.2, rows.3) at c.exclusion.ensures) (sym c.in-Ok.is) in
    (c.accepted.ensures ∙ rw c.grade.ensures told.0, told.1)

pub returns-in-Err : goal.returns-in-Err
returns-in-Err c lent =
    let a = c.args in
    let rows = c.rows.ensures in
    let told = exclusion_refused _ _ _ a.looped.sound a.certificate.now lent c.requires c.exclusion.result (rw (rows.0, rows.1, rows.2, rows.3) at c.exclusion.ensures) c.in-Err.fault (sym c.in-Err.is) in
    (c.refused.ensures ∙ told.0, told.1)
