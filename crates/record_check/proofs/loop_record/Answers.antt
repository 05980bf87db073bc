-- `record_check::loop_record` meets its contract.
use Rattle.std.proofs.Common.{◌≡◌, ◌∙◌, sym, arith, rules, Err}
use Rattle.record.proofs.Lengths.{widths_rows}
use Rattle.record_check.proofs.LoopWays.{loop_short, loop_n, loop_m, loop_length, loop_out, loop_sound}
use Rattle.record_check.proofs.loop_record.Goals as goal

pub returns-then-end-lt10 : goal.returns-then-end-lt10
returns-then-end-lt10 c = c.refused.ensures ∙ loop_short c.args.opened.bytes.now c.args.opened.framed c.args.opened.numbered c.if-end-lt10.true

pub returns-then-not-variables_fit : goal.returns-then-not-variables_fit
returns-then-not-variables_fit c =
    let out = sym c.variables_fit.ensures ∙ c.if-not-variables_fit.true in
    c.refused-then-not-variables_fit.ensures
    ∙ loop_n c.args.opened.bytes.now c.args.opened.framed c.args.opened.numbered c.if-end-lt10.false c.u16_at-n.result c.u16_at-n.ensures.0 out

pub returns-then-not-rows_fit : goal.returns-then-not-rows_fit
returns-then-not-rows_fit c =
    let n_fits = sym c.variables_fit.ensures ∙ c.if-not-variables_fit.false in
    let out = sym c.rows_fit.ensures ∙ c.if-not-rows_fit.true in
    c.refused-then-not-rows_fit.ensures
    ∙ loop_m c.args.opened.bytes.now c.args.opened.framed c.args.opened.numbered c.if-end-lt10.false c.u16_at-n.result c.u16_at-n.ensures.0 n_fits c.u16_at-m.result c.u16_at-m.ensures.0 out

pub returns-then-end-m : goal.returns-then-end-m
returns-then-end-m c =
    let n_fits = sym c.variables_fit.ensures ∙ c.if-not-variables_fit.false in
    let m_fits = sym c.rows_fit.ensures ∙ c.if-not-rows_fit.false in
    c.refused-then-end-m.ensures
    ∙ loop_length c.args.opened.bytes.now c.args.opened.framed c.args.opened.numbered c.if-end-lt10.false c.u16_at-n.result c.u16_at-n.ensures.0 n_fits c.u16_at-m.result c.u16_at-m.ensures.0 m_fits c.if-end-m.true

pub rows_fault-requires : goal.rows_fault-requires
rows_fault-requires c = (omega (arith, widths_rows c.u16_at-n.result c.u16_at-m.result), search rules)

pub returns-in_err-rows_fault : goal.returns-in_err-rows_fault
returns-in_err-rows_fault c =
    let n_fits = sym c.variables_fit.ensures ∙ c.if-not-variables_fit.false in
    let m_fits = sym c.rows_fit.ensures ∙ c.if-not-rows_fit.false in
    let e : c.from_residual.result ≡ Err c.in_err-rows_fault.field-0.0 = search rules in
    e
    ∙ loop_out c.args.opened.bytes.now c.args.opened.framed c.args.opened.numbered c.if-end-lt10.false c.u16_at-n.result c.u16_at-n.ensures.0 n_fits c.u16_at-m.result c.u16_at-m.ensures.0 m_fits
    c.if-end-m.false _ _ c.in_err-rows_fault.ensures

pub returns : goal.returns
returns c =
    let n_fits = sym c.variables_fit.ensures ∙ c.if-not-variables_fit.false in
    let m_fits = sym c.rows_fit.ensures ∙ c.if-not-rows_fit.false in
    loop_sound c.args.opened.bytes.now c.args.opened.framed c.args.opened.numbered c.if-end-lt10.false c.u16_at-n.result c.u16_at-n.ensures.0 n_fits c.u16_at-m.result c.u16_at-m.ensures.0 m_fits
    c.if-end-m.false _ _ c.in_ok-rows_fault.ensures
