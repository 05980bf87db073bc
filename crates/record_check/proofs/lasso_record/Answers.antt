-- `record_check::lasso_record` meets its contract.
use Rattle.std.proofs.Common.{◌≡◌, ◌+◌, ◌*◌, ◌≤◌, ◌∙◌, sym, arith, rules, Err}
use native.Mathlib.Nat.{mul-le-mul}
use Rattle.record.specs.Layouts.{length_of}
use Rattle.record.proofs.FieldLaws.{widths_append}
use Rattle.record.proofs.Lengths.{widths_rows}
use Rattle.record.proofs.CountLimits.{rows_most, arguments_most}
use Rattle.record_fields.proofs.BodyParts.{widths_linear, widths_weights, lasso_is}
use Rattle.record_check.proofs.LassoWays.{lasso_short, lasso_ms, lasso_length, lasso_out, lasso_sound}
use Rattle.record_check.proofs.lasso_record.Goals as goal

pub returns-then-end-lt8 : goal.returns-then-end-lt8
returns-then-end-lt8 c wanted known =
    c.refused.ensures ∙ lasso_short wanted c.args.opened.bytes.now c.args.n c.args.m c.args.opened.framed c.args.opened.numbered known c.requires c.if-end-lt8.true

pub returns-then-not-rows_fit : goal.returns-then-not-rows_fit
returns-then-not-rows_fit c wanted known =
    let a = c.args in
    let out = sym c.rows_fit.ensures ∙ c.if-not-rows_fit.true in
    c.refused-then-not-rows_fit.ensures
    ∙ lasso_ms wanted a.opened.bytes.now a.n a.m c.args.opened.framed c.args.opened.numbered known c.requires c.if-end-lt8.false c.u16_at-ms.result c.u16_at-ms.ensures.0 out

-- the counts are small, once ms is a count of rows
small : (c : goal.Else-not-rows_fit) → (c.args.n ≤ 16) × (c.args.m ≤ 64) × (c.u16_at-ms.result * (4 * c.args.n + 6) ≤ 64 * 70)
small c =
    let both = arguments_most _ _ c.requires in
    let wide : 4 * c.args.n + 6 ≤ 70 = omega arith in
    (both.0, both.1, mul-le-mul (rows_most _ (sym c.rows_fit.ensures ∙ c.if-not-rows_fit.false)) wide)

pub overflow_mul-n : goal.overflow_mul-n
overflow_mul-n c = omega (arith, small c)

pub overflow_add-n : goal.overflow_add-n
overflow_add-n c = omega (arith, small c)

pub overflow_mul-n-2 : goal.overflow_mul-n-2
overflow_mul-n-2 c = omega (arith, small c)

pub overflow_add-n-2 : goal.overflow_add-n-2
overflow_add-n-2 c = omega (arith, small c)

pub overflow_mul-ms : goal.overflow_mul-ms
overflow_mul-ms c = omega (arith, small c)

pub overflow_add-n-3 : goal.overflow_add-n-3
overflow_add-n-3 c = omega (arith, small c)

pub overflow_mul-m : goal.overflow_mul-m
overflow_mul-m c = omega (arith, small c)

pub overflow_add-n-4 : goal.overflow_add-n-4
overflow_add-n-4 c = omega (arith, small c)

pub returns-then-end-n : goal.returns-then-end-n
unfolding length_of
returns-then-end-n c wanted known =
    let a = c.args in
    let fits = sym c.rows_fit.ensures ∙ c.if-not-rows_fit.false in
    c.refused-then-end-n.ensures
    ∙ lasso_length wanted a.opened.bytes.now a.n a.m c.args.opened.framed c.args.opened.numbered known c.requires c.if-end-lt8.false c.u16_at-ms.result c.u16_at-ms.ensures.0 fits
    (λ e. c.if-end-n.true (omega (arith, e)))

pub lasso_fault-requires : goal.lasso_fault-requires
lasso_fault-requires c = (simp (widths_append, widths_rows, widths_linear, widths_weights) (omega arith), search rules)

pub returns-in_err-lasso_fault : goal.returns-in_err-lasso_fault
unfolding length_of
returns-in_err-lasso_fault c wanted known =
    let a = c.args in
    let fits = sym c.rows_fit.ensures ∙ c.if-not-rows_fit.false in
    let told = rw (← lasso_is (record { n = a.n; m = a.m; ms = c.u16_at-ms.result })) at c.in_err-lasso_fault.ensures in
    let e : c.from_residual.result ≡ Err c.in_err-lasso_fault.field-0.0 = search rules in
    e
    ∙ lasso_out wanted a.opened.bytes.now a.n a.m c.args.opened.framed c.args.opened.numbered known c.requires c.if-end-lt8.false c.u16_at-ms.result c.u16_at-ms.ensures.0 fits
    (omega (arith, c.if-end-n.false)) _ _ told

pub returns : goal.returns
unfolding length_of
returns c wanted known =
    let a = c.args in
    let fits = sym c.rows_fit.ensures ∙ c.if-not-rows_fit.false in
    let told = rw (← lasso_is (record { n = a.n; m = a.m; ms = c.u16_at-ms.result })) at c.in_ok-lasso_fault.ensures in
    lasso_sound wanted a.opened.bytes.now a.n a.m c.args.opened.framed c.args.opened.numbered known c.requires c.if-end-lt8.false c.u16_at-ms.result c.u16_at-ms.ensures.0 fits
    (omega (arith, c.if-end-n.false)) _ _ told
