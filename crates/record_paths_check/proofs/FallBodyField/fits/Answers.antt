-- What the comparison tests of the stored number is what `fits` says.
use Rattle.std.proofs.Common.{◌∙◌}
use Rattle.record_paths_check.proofs.FieldFaults.{fall_fits}
use Rattle.record_paths_check.proofs.FallBodyField.fits.Goals as goal

pub returns : goal.returns
returns c = c.between.ensures ∙ fall_fits c.args.bytes.now c.args.place c.u32_at.result c.u32_at.ensures.0 c.u32_at.ensures.1
