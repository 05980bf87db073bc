use Rattle.std.proofs.Common.{◌+◌, ◌*◌, [], ◌∷◌, drop, replicate, refl, ap, ◌∙◌, arith}
use Rattle.std.proofs.lemmas.List.Edits.{sets}
use lib.ListN.{length-replicate}
use Rattle.record.specs.Fields.{i16, i32, width}
use Rattle.record.specs.Layouts.{entry, right_side}
use Rattle.record.proofs.Lengths.{widths_replicate}
use Rattle.record_fields.specs.Runs.{linear}
use Rattle.record_fields.proofs.Forms.{values_run}
use Rattle.record_fields.proofs.Readings.{read_both}
use Rattle.record_values.proofs.read_linear.Goals as goal

pub returns : goal.returns
unfolding linear width entry right_side
returns c =
    let a = c.args in
    let bytes = a.bytes.now in
    let place = a.place + 2 * a.count in
    let first = c.read_run in
    read_both (replicate a.count entry) (right_side ∷ []) bytes a.place place a.index (a.index + a.count) a.values.now first.new.values
    (omega (arith, widths_replicate a.count entry)) (omega (arith, length-replicate a.count entry))
    (first.ensures ∙ ap (sets a.values.now a.index) (values_run i16 entry a.count (drop a.place bytes) refl))
    (c.read_run-2.ensures ∙ ap (sets first.new.values (a.index + a.count)) (values_run i32 right_side 1 (drop place bytes) refl))
