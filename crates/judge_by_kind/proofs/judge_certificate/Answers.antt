-- `judge_by_kind::judge_certificate` meets its contract: the frame refuses alike whatever the kind, and the kind leads to its judge.
use Rattle.std.proofs.Common.{◌∙◌, sym, arith}
use Rattle.judge.proofs.Framing.{well_framed}
use Rattle.judge_by_kind.proofs.CertificateWays as Ways
use Rattle.judge_by_kind.proofs.judge_certificate.Goals as goal

pub returns-in-Err : goal.returns-in-Err
returns-in-Err c = Ways.by_frame _ _ _ c.args.looped.sound c.in-Err.fault (sym c.in-Err.is ∙ c.frame.ensures) _ c.refused.ensures

pub u16_at-requires : goal.u16_at-requires
u16_at-requires c = (well_framed c.args.certificate.now (sym c.in_default.is ∙ c.frame.ensures)).head

pub invariant_of-by_ranking : goal.invariant_of-by_ranking
invariant_of-by_ranking c =
    let past = Ways.past_frame (sym c.in_default.is ∙ c.frame.ensures) c.u16_at.ensures.0 in
    record { framed = past.frame_right; numbered = Ways.numbered_as past 2 c.in-2.is }

pub invariant_of-by_exclusion : goal.invariant_of-by_exclusion
invariant_of-by_exclusion c =
    let past = Ways.past_frame (sym c.in_default.is ∙ c.frame.ensures) c.u16_at.ensures.0 in
    record { framed = past.frame_right; numbered = Ways.numbered_as past 3 c.in-3.is }

pub invariant_of-by_lasso : goal.invariant_of-by_lasso
invariant_of-by_lasso c =
    let past = Ways.past_frame (sym c.in_default.is ∙ c.frame.ensures) c.u16_at.ensures.0 in
    record { framed = past.frame_right; numbered = Ways.numbered_as past 4 c.in-4.is }

pub by_short-requires : goal.by_short-requires
by_short-requires c =
    let past = Ways.past_frame (sym c.in_default.is ∙ c.frame.ensures) c.u16_at.ensures.0 in
    Ways.is_seven past c.in-7.is

pub returns-in-2 : goal.returns-in-2
returns-in-2 c =
    let past = Ways.past_frame (sym c.in_default.is ∙ c.frame.ensures) c.u16_at.ensures.0 in
    Ways.by_base c.args.looped.sound past c.args.rank.now 2 c.in-2.is (omega arith) _ _ c.by_ranking.ensures

pub returns-in-3 : goal.returns-in-3
returns-in-3 c =
    let past = Ways.past_frame (sym c.in_default.is ∙ c.frame.ensures) c.u16_at.ensures.0 in
    Ways.by_base c.args.looped.sound past c.args.rank.now 3 c.in-3.is (omega arith) _ _ (c.by_exclusion.ensures c.args.rank.now)

pub returns-in-4 : goal.returns-in-4
returns-in-4 c =
    let past = Ways.past_frame (sym c.in_default.is ∙ c.frame.ensures) c.u16_at.ensures.0 in
    Ways.by_base c.args.looped.sound past c.args.rank.now 4 c.in-4.is (omega arith) _ _ c.by_lasso.ensures

pub returns-in-7 : goal.returns-in-7
returns-in-7 c =
    let past = Ways.past_frame (sym c.in_default.is ∙ c.frame.ensures) c.u16_at.ensures.0 in
    Ways.by_seven c.args.looped.sound past c.args.rank.now c.in-7.is _ _ c.by_short.ensures

pub returns-in-8 : goal.returns-in-8
returns-in-8 c =
    let past = Ways.past_frame (sym c.in_default.is ∙ c.frame.ensures) c.u16_at.ensures.0 in
    Ways.by_eight c.args.looped.sound past c.args.rank.now c.in-8.is _ _ c.settling_sound.ensures

pub returns-in_default-u16_at : goal.returns-in_default-u16_at
returns-in_default-u16_at c =
    let past = Ways.past_frame (sym c.in_default.is ∙ c.frame.ensures) c.u16_at.ensures.0 in
    Ways.by_none c.args.looped.sound past c.args.rank.now (λ e. omega (arith, e)) (λ e. omega (arith, e)) (λ e. omega (arith, e)) (λ e. omega (arith, e)) (λ e. omega (arith, e)) _ c.refused-in_default-u16_at.ensures
