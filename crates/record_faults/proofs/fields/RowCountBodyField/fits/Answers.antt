-- What the comparison tests of the stored number is what `fits` says.
use mathlib.Core.Path.{◌∙◌}
use Rattle.record_fields.proofs.StoredInRange.{row_count_fits}
use Rattle.record_faults.proofs.fields.RowCountBodyField.fits.Goals as goal

pub returns : goal.returns
returns c = c.rows_fit.ensures ∙ row_count_fits c.args.bytes.now c.args.place c.u16_at.result c.u16_at.ensures.0
