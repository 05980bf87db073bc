-- What the comparison tests of the stored number is what `fits` says.
use Rattle.record_fields.proofs.StoredInRange.{right_side_fits}
use Rattle.record_faults.proofs.fields.RightSideBodyField.fits.Goals as goal

pub returns : goal.returns
returns c = right_side_fits c.args.bytes.now c.args.place c.u32_at.result c.u32_at.ensures.0 c.u32_at.ensures.1
