-- `judge_by_kind::settling_sound` meets its contract: the certificate, the room, then the conditions, as judging asks them.
use Rattle.std.proofs.Common.{◌≤◌, ◌∙◌, sym, length, arith, rules}
use mir.Syntax.{w64}
use mir.Val.{SFits}
use mir.Facts.{to_z-of_z}
use Rattle.judge.proofs.SoundSizes.{n_few, m_few}
use Rattle.judge_settling.proofs.SettlingEntered.{certificate_refused, certificate_sound, certificate_there}
use Rattle.judge_by_kind.proofs.SettlingWays.{at_certificate, at_room, all_hold, one_fails}
use Rattle.judge_by_kind.proofs.settling_sound.Goals as goal

pub check_settling-requires : goal.check_settling-requires
check_settling-requires c = (n_few _ _ _ c.args.looped.sound, m_few _ _ _ c.args.looped.sound)

pub returns-in-Err : goal.returns-in-Err
returns-in-Err c =
    let a = c.args in
    let told =
    at_certificate a.looped.bytes.now a.certificate.now a.rank.now a.looped.sound.told _ _
    (certificate_refused _ _ _ _ a.looped.sound tt c.in-Err.fault (sym c.in-Err.is ∙ c.check_settling.ensures))
    in
    (c.refused.ensures ∙ told.0, told.1)

pub returns-then-rank-looped : goal.returns-then-rank-looped
returns-then-rank-looped c =
    let a = c.args in
    let sound = certificate_sound _ _ _ _ a.looped.sound tt tt (sym c.in_default.is ∙ c.check_settling.ensures) in
    let told = at_room _ _ a.rank.now _ _ a.looped.sound sound c.if-rank-looped.true in
    (c.refused-then-rank-looped.ensures ∙ told.0, told.1)

pub settling-requires : goal.settling-requires
settling-requires c =
    let a = c.args in
    let rows = c.rows.ensures in
    let there = certificate_there _ _ _ _ a.looped.sound tt tt (sym c.in_default.is ∙ c.check_settling.ensures) in
    rw (rows.2, rows.3) (there, omega arith)

pub returns-in-Ok : goal.returns-in-Ok
returns-in-Ok c =
    let a = c.args in
    let sound = certificate_sound _ _ _ _ a.looped.sound tt tt (sym c.in_default.is ∙ c.check_settling.ensures) in
    let rows = c.rows.ensures in
    let room : a.looped.n ≤ length a.rank.now = omega arith in
    let start : SFits w64 c.in-Ok.field-0.start = search rules in
    let fall : SFits w64 c.in-Ok.field-0.fall = search rules in
    let told =
    all_hold _ _ a.rank.now _ _ a.looped.sound sound room
    c.settling.result c.settling.new.rank (rw (rows.0, rows.1, rows.2, rows.3) at c.settling.ensures) c.in-Ok.field-0 (sym c.in-Ok.is)
    in
    (rw (to_z-of_z start, to_z-of_z fall) at c.accepted.ensures ∙ told.0, told.1)

pub returns-in-Err-settling : goal.returns-in-Err-settling
returns-in-Err-settling c =
    let a = c.args in
    let sound = certificate_sound _ _ _ _ a.looped.sound tt tt (sym c.in_default.is ∙ c.check_settling.ensures) in
    let rows = c.rows.ensures in
    let room : a.looped.n ≤ length a.rank.now = omega arith in
    let told =
    one_fails _ _ a.rank.now _ _ a.looped.sound sound room
    c.settling.result c.settling.new.rank (rw (rows.0, rows.1, rows.2, rows.3) at c.settling.ensures) c.in-Err-settling.fault (sym c.in-Err-settling.is)
    in
    (c.refused-in-Err-settling.ensures ∙ told.0, told.1)
