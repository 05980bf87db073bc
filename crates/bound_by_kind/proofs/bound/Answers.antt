-- `bound_by_kind::bound` meets its contract: the loop's frame refuses alike whatever the kind, and kind 1 alone has a bound.
use Rattle.std.proofs.Common.{◌∙◌, sym, arith}
use Rattle.judge.proofs.Framing.{frame_told, well_framed, loop_alike, unwanted_loop}
use Rattle.bound_by_kind.proofs.AnswerWays.{loop_refused}
use Rattle.bound_by_kind.proofs.bound.Goals as goal

pub returns-in-Err : goal.returns-in-Err
returns-in-Err c =
    let a = c.args in
    let told = frame_told a.loopbytes.now c.in-Err.fault (sym c.in-Err.is ∙ c.frame.ensures) in
    c.refused.ensures ∙ loop_refused a.loopbytes.now a.certificate.now a.state.now _ _ (loop_alike a.loopbytes.now _ _ told)

pub u16_at-requires : goal.u16_at-requires
u16_at-requires c = (well_framed c.args.loopbytes.now (sym c.in_default.is ∙ c.frame.ensures)).head

pub invariant_of-bound_rows : goal.invariant_of-bound_rows
invariant_of-bound_rows c =
    record { framed = well_framed c.args.loopbytes.now (sym c.in_default.is ∙ c.frame.ensures); numbered = sym c.u16_at.ensures.0 ∙ c.in-1.is }

pub returns-in_default-u16_at : goal.returns-in_default-u16_at
returns-in_default-u16_at c =
    let a = c.args in
    let told = c.u16_at.ensures.0 in
    let right = well_framed a.loopbytes.now (sym c.in_default.is ∙ c.frame.ensures) in
    c.refused-in_default-u16_at.ensures
    ∙ loop_refused a.loopbytes.now a.certificate.now a.state.now 4 4 (unwanted_loop a.loopbytes.now right (λ e. omega (arith, told, e)))
