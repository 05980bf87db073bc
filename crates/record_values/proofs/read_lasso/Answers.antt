use Rattle.std.proofs.Common.{◌+◌, ◌*◌, [], ◌∷◌, ◌++◌, drop, refl, sym, ap, ◌∙◌}
use Rattle.std.proofs.lemmas.List.Edits.{sets}
use Rattle.record.specs.Fields.{u16, width, widths, values as held}
use Rattle.record.specs.Layouts.{is_loop, row_count, rows_of, counts, listed}
use Rattle.record.proofs.Lengths.{widths_rows}
use Rattle.record_fields.specs.Runs.{linear, weights}
use Rattle.record_fields.proofs.Forms.{values_run, weights_numbers}
use Rattle.record_fields.proofs.BodyParts.{widths_linear, length_linear, length_rows, lasso_is}
use Rattle.record_fields.proofs.Readings.{read_both}
use Rattle.record_values.proofs.read_lasso.Goals as goal

pub returns : goal.returns
unfolding listed counts is_loop widths width row_count
returns c =
    let a = c.args in
    let n = a.counts.n in
    let m = a.counts.m in
    let ms = a.counts.ms in
    let bytes = a.bytes.now in
    let place = 8 + ms * (4 * n + 4) in
    let index = 1 + ms * (2 * n + 1) in
    let count = c.read_run in
    let stem = c.read_rows in
    let invariant = c.read_linear in
    let last = weights ms ++ weights (3 * m + 3) in
    let from_invariant =
    read_both (linear n) last bytes place (place + (2 * n + 4)) index (index + (n + 1)) stem.new.values invariant.new.values
    (ap (λ k. place + k) (sym (widths_linear n))) (ap (λ k. index + k) (sym (length_linear n)))
    invariant.ensures
    (c.read_run-2.ensures ∙ ap (sets invariant.new.values (index + (n + 1))) (weights_numbers ms m (drop (place + (2 * n + 4)) bytes))) in
    let from_stem =
    read_both (rows_of n ms) (linear n ++ last) bytes 8 place 1 index count.new.values stem.new.values
    (ap (λ k. 8 + k) (sym (widths_rows n ms))) (ap (λ k. 1 + k) (sym (length_rows n ms))) stem.ensures from_invariant in
    let all =
    read_both (row_count ∷ []) (rows_of n ms ++ (linear n ++ last)) bytes 6 8 0 1 a.values.now count.new.values refl refl
    (count.ensures ∙ ap (sets a.values.now 0) (values_run u16 row_count 1 (drop 6 bytes) refl)) from_stem in
    all ∙ ap (λ fs. sets a.values.now 0 (held (row_count ∷ fs) (drop 6 bytes))) (sym (lasso_is a.counts))
