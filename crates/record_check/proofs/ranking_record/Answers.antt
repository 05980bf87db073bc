-- `record_check::ranking_record` meets its contract.
use Rattle.std.proofs.Common.{◌*◌, ◌≡◌, ◌∙◌, refl, ap, arith, rules, Err}
use Rattle.record.specs.Fields.{width}
use Rattle.record.specs.Layouts.{multiplier, ranking, kind_of, is_lasso, counts, length_of}
use Rattle.record.proofs.Lengths.{widths_replicate}
use Rattle.record.proofs.CountLimits.{arguments_most}
use Rattle.record_fields.proofs.BodyParts.{ranking_is}
use Rattle.record_check.proofs.CertificateWays.{plain_length, plain_out, plain_sound}
use Rattle.record_check.proofs.ranking_record.Goals as goal

pub overflow_mul-m : goal.overflow_mul-m
overflow_mul-m c = omega (arith, arguments_most _ _ c.requires)

pub overflow_add-m : goal.overflow_add-m
overflow_add-m c = omega (arith, arguments_most _ _ c.requires)

pub returns-then-end-m : goal.returns-then-end-m
unfolding kind_of is_lasso counts length_of
returns-then-end-m c wanted known =
    let a = c.args in
    c.refused.ensures
    ∙ plain_length wanted a.opened.bytes.now a.n a.m c.args.opened.framed ranking (ap kind_of c.args.opened.numbered) known c.requires refl refl (λ e. c.if-end-m.true (omega (arith, e)))

pub multipliers_fault-requires : goal.multipliers_fault-requires
unfolding width multiplier
multipliers_fault-requires c = (omega (arith, widths_replicate (2 * c.args.m) multiplier), search rules)

pub returns-in_err-multipliers_fault : goal.returns-in_err-multipliers_fault
unfolding kind_of is_lasso counts length_of
returns-in_err-multipliers_fault c wanted known =
    let a = c.args in
    let told = rw (← ranking_is (record { n = a.n; m = a.m; ms = 0 })) at c.in_err-multipliers_fault.ensures in
    let e : c.from_residual.result ≡ Err c.in_err-multipliers_fault.field-0.0 = search rules in
    e
    ∙ plain_out wanted a.opened.bytes.now a.n a.m c.args.opened.framed ranking (ap kind_of c.args.opened.numbered) known c.requires refl refl (omega (arith, c.if-end-m.false))
    _ _ told

pub returns : goal.returns
unfolding kind_of is_lasso counts length_of
returns c wanted known =
    let a = c.args in
    let told = rw (← ranking_is (record { n = a.n; m = a.m; ms = 0 })) at c.in_ok-multipliers_fault.ensures in
    rw c.args.opened.numbered at
    (plain_sound wanted a.opened.bytes.now a.n a.m c.args.opened.framed ranking (ap kind_of c.args.opened.numbered) known c.requires refl refl (omega (arith, c.if-end-m.false))
    _ _ told)
