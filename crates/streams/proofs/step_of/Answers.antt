-- `step_of` answers as its definition says, a law for each return.
use Rattle.std.proofs.Common.{◌≡◌, sym, ap, ◌∙◌, length}
use Rattle.std.specs.IoError.{error_kind}
use Rattle.streams.specs.SystemAnswers.{passes, step_of}
use Rattle.streams.specs.declared.Step.TheVariants.{Moved, Failed}
use Rattle.streams.proofs.AnswerLaws.{step-nothing, step-moved, step-again, step-failed}
use Rattle.streams.proofs.step_of.Goals as goal

pub returns-in-Ok-eq0-clause-value : goal.returns-in-Ok-eq0-clause-value
returns-in-Ok-eq0-clause-value c =
    let most = length c.args.buf.now in
    step-nothing c.in-Ok-eq0.field-0 most (sym c.in-Ok-eq0.field-0-is ∙ c.in-Ok-eq0.field-0-test) ∙ ap (λ got. step_of got most) (sym c.in-Ok-eq0.is)

pub returns-in-Ok-clause-value : goal.returns-in-Ok-clause-value
returns-in-Ok-clause-value c =
    let most = length c.args.buf.now in
    ap Moved c.min.ensures ∙ step-moved c.in-Ok.count most (rw c.in-Ok.is at (c.in-Ok.count-test.1)) ∙ ap (λ got. step_of got most) (sym c.in-Ok.is)

pub returns-in-Err-clause-value : goal.returns-in-Err-clause-value
returns-in-Err-clause-value c =
    let most = length c.args.buf.now in
    step-again c.in-Err.error most (sym c.if-passing.true ∙ c.passing.ensures ∙ ap passes c.kind.ensures ∙ ap (λ e. passes (error_kind e)) c.in-Err.error-is) ∙ ap (λ got. step_of got most) (sym c.in-Err.is)

pub returns-in-Err-2-clause-value : goal.returns-in-Err-2-clause-value
returns-in-Err-2-clause-value c =
    let most = length c.args.buf.now in
    let same : c.in-Err-2.error ≡ c.in-Err.error = cc in
    ap Failed same ∙ step-failed c.in-Err.error most (sym c.if-passing.false ∙ c.passing.ensures ∙ ap passes c.kind.ensures ∙ ap (λ e. passes (error_kind e)) c.in-Err.error-is) ∙ ap (λ got. step_of got most) (sym c.in-Err.is)
