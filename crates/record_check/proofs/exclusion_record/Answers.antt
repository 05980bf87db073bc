-- `record_check::exclusion_record` meets its contract.
use Rattle.std.proofs.Common.{◌*◌, ◌≡◌, ◌∙◌, refl, ap, arith, rules, Err}
use Rattle.record.specs.Fields.{width, widths}
use Rattle.record.specs.Layouts.{scale, direction, exclusion, kind_of, is_lasso, counts, length_of}
use Rattle.record.proofs.Lengths.{widths_replicate}
use Rattle.record.proofs.CountLimits.{arguments_most}
use Rattle.record_fields.proofs.BodyParts.{exclusion_is}
use Rattle.record_check.proofs.CertificateWays.{plain_length, plain_out, plain_sound}
use Rattle.record_check.proofs.exclusion_record.Goals as goal

pub overflow_mul-n : goal.overflow_mul-n
overflow_mul-n c = omega (arith, arguments_most _ _ c.requires)

pub overflow_add-n : goal.overflow_add-n
overflow_add-n c = omega (arith, arguments_most _ _ c.requires)

pub returns-then-end-n : goal.returns-then-end-n
unfolding kind_of is_lasso counts length_of
returns-then-end-n c wanted known =
    let a = c.args in
    c.refused.ensures
    ∙ plain_length wanted a.opened.bytes.now a.n a.m c.args.opened.framed exclusion (ap kind_of c.args.opened.numbered) known c.requires refl refl (λ e. c.if-end-n.true (omega (arith, e)))

pub exclusion_fault-requires : goal.exclusion_fault-requires
unfolding widths width scale direction
exclusion_fault-requires c = (omega (arith, widths_replicate (3 * c.args.n) direction), search rules)

pub returns-in_err-exclusion_fault : goal.returns-in_err-exclusion_fault
unfolding kind_of is_lasso counts length_of
returns-in_err-exclusion_fault c wanted known =
    let a = c.args in
    let told = rw (← exclusion_is (record { n = a.n; m = a.m; ms = 0 })) at c.in_err-exclusion_fault.ensures in
    let e : c.from_residual.result ≡ Err c.in_err-exclusion_fault.field-0.0 = search rules in
    e
    ∙ plain_out wanted a.opened.bytes.now a.n a.m c.args.opened.framed exclusion (ap kind_of c.args.opened.numbered) known c.requires refl refl (omega (arith, c.if-end-n.false))
    _ _ told

pub returns : goal.returns
unfolding kind_of is_lasso counts length_of
returns c wanted known =
    let a = c.args in
    let told = rw (← exclusion_is (record { n = a.n; m = a.m; ms = 0 })) at c.in_ok-exclusion_fault.ensures in
    rw c.args.opened.numbered at
    (plain_sound wanted a.opened.bytes.now a.n a.m c.args.opened.framed exclusion (ap kind_of c.args.opened.numbered) known c.requires refl refl (omega (arith, c.if-end-n.false))
    _ _ told)
