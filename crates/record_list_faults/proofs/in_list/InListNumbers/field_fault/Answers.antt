-- The test's answer decides what is told.
use Rattle.std.proofs.Common.{arith, sym, ◌∙◌}
use Rattle.refusal.proofs.FaultLaws.{gives, refuses}
use Rattle.record_fields.proofs.ToldFaults.{list_told-fits, list_told-out}
use Rattle.record_fields.proofs.FieldRuns.{one_wide}
use Rattle.record_list_faults.proofs.in_list.InListNumbers.field_fault.Goals as goal

pub overflow_add-result-then-value_fits : goal.overflow_add-result-then-value_fits
overflow_add-result-then-value_fits g c = omega (arith, one_wide g.F.BodyField.field _ (g.met.F.BodyField.wide ∙ sym c.WIDE.ensures))

pub returns-then-value_fits : goal.returns-then-value_fits
returns-then-value_fits g c =
    let s = c.args.self in
    rw (one_wide g.F.BodyField.field _ (g.met.F.BodyField.wide ∙ sym c.WIDE.ensures))
    (gives _ (list_told-fits s.values.now g.F.BodyField.field s.index s.place (omega arith) (sym c.value_fits.ensures ∙ c.if-value_fits.true)))

pub returns-else-value_fits : goal.returns-else-value_fits
returns-else-value_fits g c =
    let s = c.args.self in
    c.refused.ensures
    ∙ refuses _ (list_told-out s.values.now g.F.BodyField.field s.index s.place (omega arith) (sym c.value_fits.ensures ∙ c.if-value_fits.false))
