-- What the comparison tests of the stored number is what `fits` says.
use Rattle.record_fields.proofs.StoredInRange.{entry_fits}
use Rattle.record_faults.proofs.fields.EntryBodyField.fits.Goals as goal

pub returns : goal.returns
returns c = entry_fits c.args.bytes.now c.args.place c.u16_at.result c.u16_at.ensures.0 c.u16_at.ensures.1
