-- `judge_bound::by_ranking` meets its contract: the record's body is checked, then the state, and then it is bounded.
use Rattle.std.proofs.Common.{◌∙◌, refl, sym}
use Rattle.record.specs.Layouts.{ranking, kind_of}
use Rattle.record.specs.Wants.{wants_of}
use Rattle.judge.proofs.ByKind.{body_sound}
use Rattle.judge_bound.proofs.ByKind.{with_rank, body_refused, state_refused}
use Rattle.judge_bound.proofs.FittingStates.{state_fits, state_small}
use Rattle.judge.proofs.Framing.{counts_fit}
use Rattle.judge_bound.proofs.by_ranking.Goals as goal

pub ranking_record-requires : goal.ranking_record-requires
ranking_record-requires c = counts_fit _ _ _ c.args.looped.sound

pub returns-in-Err : goal.returns-in-Err
unfolding wants_of
returns-in-Err c =
    let a = c.args in
    c.refused.ensures ∙ body_refused a.looped a.certificate.bytes.now a.state.now ranking c.ranking_record.result c.ranking_record.ensures refl c.in-Err.fault (sym c.in-Err.is)

pub returns-in-Err-state_fault : goal.returns-in-Err-state_fault
unfolding kind_of wants_of
returns-in-Err-state_fault c =
    let a = c.args in
    let sound = body_sound _ _ _ a.looped.sound a.certificate.bytes.now ranking c.ranking_record.result c.ranking_record.ensures with_rank refl c.in_default.field-0 (sym c.in_default.is) 2 c.args.certificate.numbered in
    c.refused-in-Err-state_fault.ensures
    ∙ state_refused a.looped a.certificate.bytes.now a.state.now ranking sound c.in-Err-state_fault.fault (sym c.in-Err-state_fault.is ∙ c.state_fault.ensures)

pub invariant_of-ranking_bound : goal.invariant_of-ranking_bound
invariant_of-ranking_bound c = record { small = state_small c.args.looped.n c.args.state.now (sym c.in_default-state_fault.is ∙ c.state_fault.ensures) }

pub ranking_bound-requires : goal.ranking_bound-requires
unfolding kind_of wants_of
ranking_bound-requires c =
    let a = c.args in
    let sound = body_sound _ _ _ a.looped.sound a.certificate.bytes.now ranking c.ranking_record.result c.ranking_record.ensures with_rank refl c.in_default.field-0 (sym c.in_default.is) 2 c.args.certificate.numbered in
    (sound, state_fits a.looped.n a.state.now (sym c.in_default-state_fault.is ∙ c.state_fault.ensures))
