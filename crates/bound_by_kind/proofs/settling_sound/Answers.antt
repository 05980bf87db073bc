-- `bound_by_kind::settling_sound` meets its contract: the certificate, the state, then the conditions, as the bound asks them.
use Rattle.std.proofs.Common.{◌∙◌, sym, arith, rules, pos, replicate}
use mir.Syntax.{w64}
use mir.Val.{SFits}
use mir.Facts.{to_z-of_z}
use Rattle.refusal.specs.Tests.{first}
use Rattle.refusal.proofs.FaultLaws.{told_refused}
use Rattle.verdict.specs.StateTests.{state_tests}
use Rattle.judge.proofs.SoundSizes.{n_few, m_few}
use Rattle.judge_bound.proofs.FittingStates.{state_fits, state_long, state_small}
use Rattle.judge_settling.proofs.SettlingEntered.{certificate_refused, certificate_sound, certificate_there}
use Rattle.bound_by_kind.proofs.BoundWays.{at_certificate, at_state, all_hold, one_fails}
use Rattle.bound_by_kind.proofs.settling_sound.Goals as goal

pub check_settling-requires : goal.check_settling-requires
check_settling-requires c = (n_few _ _ _ c.args.looped.sound, m_few _ _ _ c.args.looped.sound)

pub returns-in-Err : goal.returns-in-Err
returns-in-Err c =
    let a = c.args in
    let l = a.looped in
    c.refused.ensures
    ∙ at_certificate l.bytes.now a.certificate.now a.state.now l.sound.told _ _
    (certificate_refused _ a.certificate.now _ _ l.sound tt c.in-Err.fault (sym c.in-Err.is ∙ c.check_settling.ensures))

pub returns-in-Err-state_fault : goal.returns-in-Err-state_fault
returns-in-Err-state_fault c =
    let a = c.args in
    let l = a.looped in
    let sound = certificate_sound _ a.certificate.now _ _ l.sound tt tt (sym c.in_default.is ∙ c.check_settling.ensures) in
    c.refused-in-Err-state_fault.ensures
    ∙ at_state l a.certificate.now a.state.now sound _ _
    (told_refused (first state_tests (record { n = l.n; state = a.state.now })) tt c.in-Err-state_fault.fault (sym c.in-Err-state_fault.is ∙ c.state_fault.ensures))

pub settling-requires : goal.settling-requires
settling-requires c =
    let l = c.args.looped in
    rw (c.rows.ensures.2, c.rows.ensures.3) (certificate_there _ c.args.certificate.now _ _ l.sound tt tt (sym c.in_default.is ∙ c.check_settling.ensures), n_few _ _ _ l.sound)

pub invariant_of-steps_at : goal.invariant_of-steps_at
invariant_of-steps_at c = record { small = state_small c.args.looped.n c.args.state.now (sym c.in_default-state_fault.is ∙ c.state_fault.ensures) }

pub steps_at-requires : goal.steps_at-requires
steps_at-requires c =
    let a = c.args in
    let l = a.looped in
    let there = certificate_there _ a.certificate.now _ _ l.sound tt tt (sym c.in_default.is ∙ c.check_settling.ensures) in
    let long = state_long l.n a.state.now (state_fits l.n a.state.now (sym c.in_default-state_fault.is ∙ c.state_fault.ensures)) in
    (omega (arith, there.inside, long), omega (arith, n_few _ _ _ l.sound, long))

pub returns-in-Ok : goal.returns-in-Ok
returns-in-Ok c =
    let a = c.args in
    let l = a.looped in
    let sound = certificate_sound _ a.certificate.now _ _ l.sound tt tt (sym c.in_default.is ∙ c.check_settling.ensures) in
    let fits = state_fits l.n a.state.now (sym c.in_default-state_fault.is ∙ c.state_fault.ensures) in
    let start : SFits w64 c.in-Ok.field-0.start = search rules in
    let fall : SFits w64 c.in-Ok.field-0.fall = search rules in
    let told = all_hold l a.certificate.now a.state.now sound fits c.rows.result c.rows.ensures c.settling.result (replicate 16 (pos 0)) c.settling.new.rank c.settling.ensures c.in-Ok.field-0 (sym c.in-Ok.is) in
    rw (rw (to_z-of_z start, to_z-of_z fall) at c.accepted.ensures, c.steps_at.ensures) told

pub returns-in-Err-settling : goal.returns-in-Err-settling
returns-in-Err-settling c =
    let a = c.args in
    let l = a.looped in
    let sound = certificate_sound _ a.certificate.now _ _ l.sound tt tt (sym c.in_default.is ∙ c.check_settling.ensures) in
    let fits = state_fits l.n a.state.now (sym c.in_default-state_fault.is ∙ c.state_fault.ensures) in
    c.refused-in-Err-settling.ensures
    ∙ one_fails l a.certificate.now a.state.now sound fits c.rows.result c.rows.ensures c.settling.result (replicate 16 (pos 0)) c.settling.new.rank c.settling.ensures c.in-Err-settling.fault (sym c.in-Err-settling.is)
