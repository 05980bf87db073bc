-- What the comparison tests of the stored number is what `fits` says.
use mathlib.Core.Path.{◌∙◌}
use Rattle.record_fields.proofs.StoredInRange.{multiplier_fits}
use Rattle.record_faults.proofs.fields.MultiplierBodyField.fits.Goals as goal

pub returns : goal.returns
returns c = c.between.ensures ∙ multiplier_fits c.args.bytes.now c.args.place c.u16_at.result c.u16_at.ensures.0
