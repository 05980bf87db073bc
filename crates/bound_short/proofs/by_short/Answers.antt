-- `bound_short::by_short` meets its contract: a short ranking is bounded as the record that it stands for.
use Rattle.std.proofs.Common.{◌∙◌, refl, sym, arith}
use lib.Seq.{length-take-le}
use Rattle.record.specs.Layouts.{ranking}
use Rattle.record.specs.Wants.{wants_of}
use Rattle.verdict.specs.Bounding.{certificates_bounded}
use Rattle.verdict_short.specs.ShortJudging.{long_of, short_pair}
use Rattle.judge.proofs.SoundSizes.{m_few}
use Rattle.judge_bound.proofs.ByKind.{state_refused}
use Rattle.judge_bound.proofs.FittingStates.{state_fits, state_small}
use Rattle.judge_short.proofs.ShortWays.{refused_so, can_lengthen, long_there, long_is_ranking, judged_as_long}
use Rattle.bound_short.proofs.by_short.Goals as goal

pub returns-in-Err : goal.returns-in-Err
returns-in-Err c =
    let a = c.args in
    let told = refused_so _ _ _ a.looped.sound a.certificate.now c.requires c.in-Err.fault (sym c.in-Err.is ∙ c.check_short.ensures) a.state.now in
    c.refused.ensures ∙ sym told.2

pub returns-in-Err-state_fault : goal.returns-in-Err-state_fault
unfolding wants_of
returns-in-Err-state_fault c =
    let a = c.args in
    let l = a.looped in
    let checked = sym c.in_default.is ∙ c.check_short.ensures in
    let stands_for = long_is_ranking _ _ _ l.sound a.certificate.now c.requires checked certificates_bounded refl in
    let told = state_refused l (long_of (short_pair l.bytes.now a.certificate.now)) a.state.now ranking stands_for c.in-Err-state_fault.fault (sym c.in-Err-state_fault.is ∙ c.state_fault.ensures) in
    c.refused-in-Err-state_fault.ensures ∙ told ∙ sym (judged_as_long _ _ _ l.sound a.certificate.now c.requires checked a.state.now).2

pub lengthen_into-requires : goal.lengthen_into-requires
lengthen_into-requires c =
    let a = c.args in
    let l = a.looped in
    record {
      sound = can_lengthen _ _ _ l.sound a.certificate.now c.requires (sym c.in_default.is ∙ c.check_short.ensures);
      roomy = omega (arith, m_few _ _ _ l.sound);
    }

pub overflow_mul-long : goal.overflow_mul-long
overflow_mul-long c = omega (arith, m_few _ _ _ c.args.looped.sound)

pub overflow_add-long : goal.overflow_add-long
overflow_add-long c = omega (arith, m_few _ _ _ c.args.looped.sound)

pub slice_bounds-long-end : goal.slice_bounds-long-end
slice_bounds-long-end c = omega (arith, m_few _ _ _ c.args.looped.sound, c.lengthen_into.auto.room)

pub slice_bounds-ranking_bound-end : goal.slice_bounds-ranking_bound-end
slice_bounds-ranking_bound-end c = sym (length-take-le _ _ (omega (arith, m_few _ _ _ c.args.looped.sound, c.lengthen_into.auto.room)))

pub invariant_of-ranking_bound : goal.invariant_of-ranking_bound
invariant_of-ranking_bound c = record { small = state_small c.args.looped.n c.args.state.now (sym c.in_default-state_fault.is ∙ c.state_fault.ensures) }

pub ranking_bound-requires : goal.ranking_bound-requires
unfolding wants_of
ranking_bound-requires c =
    let a = c.args in
    let l = a.looped in
    let checked = sym c.in_default.is ∙ c.check_short.ensures in
    let front = long_there _ _ _ l.sound a.certificate.now c.requires checked c.lengthen_into.new.room _ (c.lengthen_into.ensures l.n) in
    rw front (
      long_is_ranking _ _ _ l.sound a.certificate.now c.requires checked certificates_bounded refl,
      state_fits l.n a.state.now (sym c.in_default-state_fault.is ∙ c.state_fault.ensures),
    )

pub returns : goal.returns
returns c =
    let a = c.args in
    let l = a.looped in
    let checked = sym c.in_default.is ∙ c.check_short.ensures in
    let front = long_there _ _ _ l.sound a.certificate.now c.requires checked c.lengthen_into.new.room _ (c.lengthen_into.ensures l.n) in
    rw front at c.ranking_bound.ensures ∙ sym (judged_as_long _ _ _ l.sound a.certificate.now c.requires checked a.state.now).2
