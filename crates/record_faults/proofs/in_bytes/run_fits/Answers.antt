-- One field more.
use Rattle.std.proofs.Common.{sym, ◌∙◌}
use Rattle.record_fields.proofs.FieldRuns.{all_fit-none, all_fit-more}
use Rattle.record_faults.proofs.in_bytes.run_fits.Goals as goal

pub loop-i-init : goal.loop-i-init
loop-i-init g c = all_fit-none g.F.BodyField.field c.args.bytes.now c.args.place

pub loop-i-preserved : goal.loop-i-preserved
loop-i-preserved g c =
    all_fit-more g.F.BodyField.field c.args.bytes.now c.args.place c.loop-i.i c.WIDE.result (g.met.F.BodyField.wide ∙ sym c.WIDE.ensures) c.loop-i.invariant c.fits-all.ensures
