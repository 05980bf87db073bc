-- `judge_by_kind::judge_rows` meets its contract: the loop's body is checked, then the certificate judged.
use Rattle.std.proofs.Common.{◌≡◌, ◌∙◌, sym, false, arith}
use Rattle.verdict_paths.specs.JudgingByLoop.{of_paths}
use Rattle.verdict_short.proofs.KindNumbers.{not_five}
use Rattle.judge.proofs.Entered as Entered
use Rattle.judge_by_kind.proofs.AnswerWays.{loop_refused}
use Rattle.judge_by_kind.proofs.judge_rows.Goals as goal

pub invariant_of-looped : goal.invariant_of-looped
invariant_of-looped c = record { sound = Entered.loop_sound _ c.in-Ok.field-0 (sym c.in-Ok.is ∙ c.loop_record.ensures) }

pub returns-in-Err : goal.returns-in-Err
returns-in-Err c =
    let a = c.args in
    let rows : of_paths a.loopbytes.bytes.now ≡ false = not_five a.loopbytes.bytes.now (λ e. omega (arith, e, c.args.loopbytes.numbered)) in
    let told = Entered.loop_refused a.loopbytes.bytes.now c.in-Err.fault (sym c.in-Err.is ∙ c.loop_record.ensures) in
    let by = loop_refused a.loopbytes.bytes.now a.certificate.now a.rank.now rows _ _ told in
    (c.refused.ensures ∙ by.0, by.1)
