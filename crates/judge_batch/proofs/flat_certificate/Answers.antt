-- `judge_batch::flat_certificate` meets its contract: the frame refuses alike whatever the kind, and the kind leads to its judge, whose verdict is told in numbers.
use Rattle.std.proofs.Common.{◌∙◌, sym, arith}
use Rattle.judge.proofs.Framing.{well_framed}
use Rattle.judge_by_kind.proofs.CertificateWays as Ways
use Rattle.judge_batch.proofs.FlatWays.{in_numbers}
use Rattle.judge_batch.proofs.flat_certificate.Goals as goal

pub returns-in-Err : goal.returns-in-Err
returns-in-Err c = in_numbers c.from.ensures (Ways.by_frame _ _ _ c.args.looped.sound c.in-Err.fault (sym c.in-Err.is ∙ c.frame.ensures) _ c.refused.ensures)

pub u16_at-kind-requires : goal.u16_at-kind-requires
u16_at-kind-requires c = (well_framed c.args.certificate.now (sym c.in_default.is ∙ c.frame.ensures)).head

pub invariant_of-by_ranking : goal.invariant_of-by_ranking
invariant_of-by_ranking c =
    let past = Ways.past_frame (sym c.in_default.is ∙ c.frame.ensures) c.u16_at-kind.ensures.0 in
    record { framed = past.frame_right; numbered = Ways.numbered_as past 2 c.in-2.is }

pub returns-in-2 : goal.returns-in-2
returns-in-2 c =
    let past = Ways.past_frame (sym c.in_default.is ∙ c.frame.ensures) c.u16_at-kind.ensures.0 in
    in_numbers c.from-in-2.ensures (Ways.by_base c.args.looped.sound past c.args.rank.now 2 c.in-2.is (omega arith) _ _ c.by_ranking.ensures)

pub invariant_of-by_lasso : goal.invariant_of-by_lasso
invariant_of-by_lasso c =
    let past = Ways.past_frame (sym c.in_default.is ∙ c.frame.ensures) c.u16_at-kind.ensures.0 in
    record { framed = past.frame_right; numbered = Ways.numbered_as past 4 c.in-4.is }

pub returns-in-4 : goal.returns-in-4
returns-in-4 c =
    let past = Ways.past_frame (sym c.in_default.is ∙ c.frame.ensures) c.u16_at-kind.ensures.0 in
    in_numbers c.from-in-4.ensures (Ways.by_base c.args.looped.sound past c.args.rank.now 4 c.in-4.is (omega arith) _ _ c.by_lasso.ensures)

pub returns-in-8 : goal.returns-in-8
returns-in-8 c =
    let past = Ways.past_frame (sym c.in_default.is ∙ c.frame.ensures) c.u16_at-kind.ensures.0 in
    in_numbers c.from-in-8.ensures (Ways.by_eight c.args.looped.sound past c.args.rank.now c.in-8.is _ _ c.settling_sound.ensures)

pub judge_others-requires : goal.judge_others-requires
judge_others-requires c =
    let past = Ways.past_frame (sym c.in_default.is ∙ c.frame.ensures) c.u16_at-kind.ensures.0 in
    record { past_frame = past; other_kind = (λ e. omega (arith, e), λ e. omega (arith, e), λ e. omega (arith, e)) }
