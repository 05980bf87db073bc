use Rattle.std.proofs.Common.{◌≡◌, ℕ, ◌+◌, ◌*◌, ◌≤◌, true, List, [], ◌∷◌, ℤ, length, drop, replicate, refl, ap, ◌∙◌, arith}
use Rattle.std.proofs.lemmas.List.Edits.{sets}
use lib.ListN.{length-replicate}
use Rattle.record.specs.Fields.{i16, i32, width, in_range}
use Rattle.record.specs.Layouts.{entry, right_side}
use Rattle.record.proofs.Lengths.{widths_replicate}
use Rattle.record_fields.specs.Runs.{linear, all_held}
use Rattle.record_fields.proofs.Stores.{bytes_run, held_run, in_range_both, write_both}
use Rattle.record_fill.proofs.write_linear.Goals as goal

-- the entries and the right side are held
held : (count : ℕ) (zs : List ℤ) (index : ℕ) → index + (count + 1) ≤ length zs → in_range (linear count) (drop index zs) ≡ true
    → (all_held i16 count (drop index zs) ≡ true) × (all_held i32 1 (drop (index + count) zs) ≡ true)
unfolding linear entry right_side
held count zs index there fit =
    let both = in_range_both (replicate count entry) (right_side ∷ []) zs index (index + count) (omega (arith, length-replicate count entry)) (omega (arith, length-replicate count entry)) fit in
    (held_run i16 entry count (drop index zs) refl both.0, held_run i32 right_side 1 (drop (index + count) zs) refl both.1)

pub write_run-requires-clause-held : goal.write_run-requires-clause-held
write_run-requires-clause-held c = let a = c.args in (held a.count a.values.now a.index c.requires.there c.requires.fit).0

pub write_run-requires-2-clause-held : goal.write_run-requires-2-clause-held
write_run-requires-2-clause-held c = let a = c.args in (held a.count a.values.now a.index c.requires.there c.requires.fit).1

pub returns : goal.returns
unfolding linear width entry right_side
returns c =
    let a = c.args in
    let first = c.write_run in
    let place = a.place + 2 * a.count in
    let zs = a.values.now in
    write_both (replicate a.count entry) (right_side ∷ []) zs a.index (a.index + a.count) (omega (arith, length-replicate a.count entry)) (omega (arith, c.requires.there, length-replicate a.count entry))
    a.place place a.body.now first.new.body (omega (arith, widths_replicate a.count entry))
    (first.ensures ∙ ap (sets a.body.now a.place) (bytes_run i16 entry a.count (drop a.index zs) refl))
    (c.write_run-2.ensures ∙ ap (sets first.new.body place) (bytes_run i32 right_side 1 (drop (a.index + a.count) zs) refl))
