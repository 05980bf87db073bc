-- `bound_by_kind::bound_rows` meets its contract: the loop's body is checked, then the rest.
use Rattle.std.proofs.Common.{◌∙◌, sym}
use Rattle.judge.proofs.Entered as Entered
use Rattle.bound_by_kind.proofs.AnswerWays.{loop_refused}
use Rattle.bound_by_kind.proofs.bound_rows.Goals as goal

pub invariant_of-looped : goal.invariant_of-looped
invariant_of-looped c = record { sound = Entered.loop_sound c.args.loopbytes.bytes.now c.in-Ok.checked (sym c.in-Ok.is ∙ c.loop_record.ensures) }

pub returns-in-Err : goal.returns-in-Err
returns-in-Err c =
    let a = c.args in
    c.refused.ensures
    ∙ loop_refused a.loopbytes.bytes.now a.certificate.now a.state.now _ _ (Entered.loop_refused a.loopbytes.bytes.now c.in-Err.fault (sym c.in-Err.is ∙ c.loop_record.ensures))
