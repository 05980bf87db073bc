-- The test's answer decides what is told, and the bytes that the field takes where it ends.
use Rattle.std.proofs.Common.{sym, ◌∙◌, arith}
use Rattle.refusal.proofs.FaultLaws.{gives, refuses}
use Rattle.record_fields.proofs.ToldFaults.{run_told-fits, run_told-out}
use Rattle.record_fields.proofs.FieldRuns.{one_wide}
use Rattle.record_faults.proofs.in_bytes.InBytesNumbers.field_fault.Goals as goal

pub fits-requires : goal.fits-requires
fits-requires g c = omega (arith, one_wide g.F.BodyField.field _ g.met.F.BodyField.wide)

pub overflow_add-result : goal.overflow_add-result
overflow_add-result g c = omega (arith, one_wide g.F.BodyField.field _ (g.met.F.BodyField.wide ∙ sym c.WIDE.ensures))

pub returns-then-fits : goal.returns-then-fits
returns-then-fits g c =
    let s = c.args.self in
    rw (one_wide g.F.BodyField.field _ (g.met.F.BodyField.wide ∙ sym c.WIDE.ensures))
    (gives _ (run_told-fits s.bytes.now g.F.BodyField.field s.place (sym c.fits.ensures ∙ c.if-fits.true)))

pub returns-else-fits : goal.returns-else-fits
returns-else-fits g c =
    let s = c.args.self in
    c.refused.ensures ∙ refuses _ (run_told-out s.bytes.now g.F.BodyField.field s.place (sym c.fits.ensures ∙ c.if-fits.false))
