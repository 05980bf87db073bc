-- `judge_by_kind::judge_paths_sound` meets its contract: the certificate, then the conditions, as judging asks them.
use Rattle.std.proofs.Common.{◌∙◌, sym}
use Rattle.judge_by_kind.proofs.KindWays.{certificate_refused, certificate_sound, condition_refused, all_hold}
use Rattle.judge_by_kind.proofs.judge_paths_sound.Goals as goal

pub returns-in-Err : goal.returns-in-Err
returns-in-Err c =
    let a = c.args in
    c.refused.ensures ∙ certificate_refused a.loopbytes.now a.certificate.now c.requires c.in-Err.fault (sym c.in-Err.is ∙ c.check_lexicographic.ensures)

pub paths_fault-requires : goal.paths_fault-requires
paths_fault-requires c =
    (c.requires, certificate_sound c.args.loopbytes.now c.args.certificate.now c.requires (sym c.in_default.is ∙ c.check_lexicographic.ensures))

pub returns-in-Ok : goal.returns-in-Ok
returns-in-Ok c =
    let a = c.args in
    let sound = certificate_sound a.loopbytes.now a.certificate.now c.requires (sym c.in_default.is ∙ c.check_lexicographic.ensures) in
    c.accepted.ensures ∙ all_hold a.loopbytes.now a.certificate.now c.requires sound (sym c.in-Ok.is ∙ c.paths_fault.ensures)

pub returns-in-Err-paths_fault : goal.returns-in-Err-paths_fault
returns-in-Err-paths_fault c =
    let a = c.args in
    let sound = certificate_sound a.loopbytes.now a.certificate.now c.requires (sym c.in_default.is ∙ c.check_lexicographic.ensures) in
    c.refused-in-Err-paths_fault.ensures
    ∙ condition_refused a.loopbytes.now a.certificate.now c.requires sound c.in-Err-paths_fault.fault (sym c.in-Err-paths_fault.is ∙ c.paths_fault.ensures)
