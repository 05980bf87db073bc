use Rattle.std.proofs.Common.{◌*◌, [], ◌∷◌, drop, replicate, refl, ap, ◌∙◌}
use Rattle.std.proofs.lemmas.List.Edits.{sets}
use Rattle.record.specs.Fields.{u16, i32, width, widths}
use Rattle.record.specs.Layouts.{scale, direction}
use Rattle.record_fields.proofs.Forms.{values_run}
use Rattle.record_fields.proofs.Readings.{read_both}
use Rattle.record_values.proofs.read_exclusion.Goals as goal

pub returns : goal.returns
unfolding widths width scale direction
returns c =
    let a = c.args in
    let bytes = a.bytes.now in
    let first = c.read_run in
    read_both (scale ∷ []) (replicate (3 * a.n) direction) bytes 6 8 0 1 a.values.now first.new.values refl refl
    (first.ensures ∙ ap (sets a.values.now 0) (values_run u16 scale 1 (drop 6 bytes) refl))
    (c.read_run-2.ensures ∙ ap (sets first.new.values 1) (values_run i32 direction (3 * a.n) (drop 8 bytes) refl))
