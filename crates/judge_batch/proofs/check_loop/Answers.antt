-- `judge_batch::check_loop` meets its contract: the frame is one for both kinds, and the kind leads to its check.
use Rattle.std.proofs.Common.{◌≡◌, ◌∙◌, sym, ap, rules, Err}
use Rattle.refusal.specs.Faults.{result_of}
use Rattle.refusal.proofs.FaultLaws.{refuses, gives}
use Rattle.judge.proofs.Entered.{loop_refused, loop_sound}
use Rattle.judge.proofs.Framing.{frame_told, well_framed}
use Rattle.verdict_short.proofs.KindNumbers.{five, not_five}
use Rattle.judge_batch.proofs.LoopsChecked.{as_paths, as_rows, as_framed}
use Rattle.judge_batch.proofs.check_loop.Goals as goal

pub returns-in_err-frame : goal.returns-in_err-frame
returns-in_err-frame c =
    let bytes = c.args.loopbytes.now in
    let e : c.from_residual.result ≡ Err c.in_err-frame.field-0.0 = search rules in
    e ∙ refuses tt (as_framed bytes _ _ (frame_told bytes c.in_err-frame.field-0.0 (sym c.in_err-frame.was ∙ c.frame.ensures)))

pub u16_at-requires : goal.u16_at-requires
u16_at-requires c = (well_framed c.args.loopbytes.now (sym c.in_ok-frame.was ∙ c.frame.ensures)).head

pub returns-then-u16_at-eq5 : goal.returns-then-u16_at-eq5
returns-then-u16_at-eq5 c =
    let bytes = c.args.loopbytes.now in
    c.check_paths.ensures ∙ ap (λ t. result_of t tt) (sym (as_paths bytes (five bytes (sym c.u16_at.ensures.0 ∙ c.if-u16_at-eq5.true))))

pub returns-in_err-check_loop : goal.returns-in_err-check_loop
returns-in_err-check_loop c =
    let bytes = c.args.loopbytes.now in
    let rows = not_five bytes (λ e. c.if-u16_at-eq5.false (c.u16_at.ensures.0 ∙ e)) in
    let e : c.from_residual-in_err-check_loop.result ≡ Err c.in_err-check_loop.field-0.0 = search rules in
    e ∙ refuses tt (as_rows bytes rows ∙ loop_refused bytes c.in_err-check_loop.field-0.0 (sym c.in_err-check_loop.was ∙ c.check_loop.ensures))

pub returns : goal.returns
returns c =
    let bytes = c.args.loopbytes.now in
    let rows = not_five bytes (λ e. c.if-u16_at-eq5.false (c.u16_at.ensures.0 ∙ e)) in
    gives tt (as_rows bytes rows ∙ (loop_sound bytes c.in_ok-check_loop.field-0 (sym c.in_ok-check_loop.was ∙ c.check_loop.ensures)).told)
