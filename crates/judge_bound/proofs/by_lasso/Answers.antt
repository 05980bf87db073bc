-- `judge_bound::by_lasso` meets its contract: the record's body is checked, then the state, and then it is bounded.
use Rattle.std.proofs.Common.{◌∙◌, refl, sym}
use Rattle.record.specs.Layouts.{lasso}
use Rattle.record.specs.Wants.{wants_of}
use Rattle.judge.proofs.ByKind.{body_lasso}
use Rattle.judge_bound.proofs.ByKind.{with_rank, body_refused, state_refused}
use Rattle.judge_bound.proofs.FittingStates.{state_fits, state_small}
use Rattle.judge.proofs.Framing.{counts_fit}
use Rattle.judge_bound.proofs.by_lasso.Goals as goal

pub lasso_record-requires : goal.lasso_record-requires
lasso_record-requires c = counts_fit _ _ _ c.args.looped.sound

pub returns-in-Err : goal.returns-in-Err
unfolding wants_of
returns-in-Err c =
    let a = c.args in
    c.refused.ensures ∙ body_refused a.looped a.certificate.bytes.now a.state.now lasso c.lasso_record.result c.lasso_record.ensures refl c.in-Err.fault (sym c.in-Err.is)

pub returns-in-Err-state_fault : goal.returns-in-Err-state_fault
unfolding wants_of
returns-in-Err-state_fault c =
    let a = c.args in
    let sound = body_lasso _ _ _ a.looped.sound a.certificate.bytes.now lasso c.lasso_record.result c.lasso_record.ensures with_rank refl c.in-Ok.checked (sym c.in-Ok.is) c.args.certificate.numbered in
    c.refused-in-Err-state_fault.ensures
    ∙ state_refused a.looped a.certificate.bytes.now a.state.now lasso sound.as_kind c.in-Err-state_fault.fault (sym c.in-Err-state_fault.is ∙ c.state_fault.ensures)

pub invariant_of-lasso_bound : goal.invariant_of-lasso_bound
invariant_of-lasso_bound c = record { small = state_small c.args.looped.n c.args.state.now (sym c.in_default.is ∙ c.state_fault.ensures) }

pub lasso_bound-requires : goal.lasso_bound-requires
unfolding wants_of
lasso_bound-requires c =
    let a = c.args in
    let sound = body_lasso _ _ _ a.looped.sound a.certificate.bytes.now lasso c.lasso_record.result c.lasso_record.ensures with_rank refl c.in-Ok.checked (sym c.in-Ok.is) c.args.certificate.numbered in
    (sound, state_fits a.looped.n a.state.now (sym c.in_default.is ∙ c.state_fault.ensures))
