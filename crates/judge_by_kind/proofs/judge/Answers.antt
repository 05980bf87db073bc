-- `judge_by_kind::judge` meets its contract: the loop's frame refuses alike whatever the kind, and the kind leads to its judge.
use Rattle.std.proofs.Common.{◌∙◌, sym, arith}
use Rattle.judge.proofs.Framing.{frame_told, well_framed, unwanted_loop}
use Rattle.verdict_short.proofs.KindNumbers.{five, not_five}
use Rattle.judge_by_kind.proofs.AnswerWays.{as_paths, loop_refused, loop_unframed}
use Rattle.judge_by_kind.proofs.judge.Goals as goal

pub returns-in-Err : goal.returns-in-Err
returns-in-Err c =
    let a = c.args in
    let by = loop_unframed a.loopbytes.now a.certificate.now a.rank.now _ _ (frame_told a.loopbytes.now c.in-Err.fault (sym c.in-Err.is ∙ c.frame.ensures)) in
    record { value = c.refused.ensures ∙ by.0; rank_after = by.1 }

pub u16_at-requires : goal.u16_at-requires
u16_at-requires c = (well_framed c.args.loopbytes.now (sym c.in_default.is ∙ c.frame.ensures)).head

pub invariant_of-judge_rows : goal.invariant_of-judge_rows
invariant_of-judge_rows c =
    record { framed = well_framed c.args.loopbytes.now (sym c.in_default.is ∙ c.frame.ensures); numbered = sym c.u16_at.ensures.0 ∙ c.in-1.is }

pub returns-in-5 : goal.returns-in-5
returns-in-5 c =
    let a = c.args in
    let by = as_paths a.loopbytes.now a.certificate.now a.rank.now (five a.loopbytes.now (sym c.u16_at.ensures.0 ∙ c.in-5.is)) in
    record { value = c.judge_paths.ensures ∙ by.0; rank_after = by.1 }

pub returns-in_default-u16_at : goal.returns-in_default-u16_at
returns-in_default-u16_at c =
    let a = c.args in
    let told = c.u16_at.ensures.0 in
    let rows = not_five a.loopbytes.now (λ e. omega (arith, told, e)) in
    let right = well_framed a.loopbytes.now (sym c.in_default.is ∙ c.frame.ensures) in
    let by = loop_refused a.loopbytes.now a.certificate.now a.rank.now rows 4 4 (unwanted_loop a.loopbytes.now right (λ e. omega (arith, told, e))) in
    record { value = c.refused-in_default-u16_at.ensures ∙ by.0; rank_after = by.1 }
