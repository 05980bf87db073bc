-- `sheet_parts::next_part` meets its contract: each turn puts the line of the first record of the bytes that are left.
use Rattle.std.proofs.Common.{◌+◌, ◌≤◌, ◌∙◌, sym, ap, arith, length, take, drop}
use lib.Seq.{length-take-le}
use Rattle.decimal.proofs.RoomLaws.{length_written}
use Rattle.record_parting.specs.Parting.{first_record}
use Rattle.record_parting.proofs.PartingLaws.{taken_within}
use Rattle.sheet_text.specs.Sheets.{certificate_line}
use Rattle.sheet_parts.proofs.PartLaws.{first_is, size_within, size_some, size_held, line_short, filled_more}
use Rattle.sheet_parts.proofs.next_part.Goals as goal

pub slice_bounds-looped-end : goal.slice_bounds-looped-end
slice_bounds-looped-end c = sym (length-take-le _ _ (omega (arith, c.first_end-end.ensures, taken_within c.args.input.now)))

pub slice_bounds-put_certificate-end : goal.slice_bounds-put_certificate-end
slice_bounds-put_certificate-end c = sym (size_held c.args.input.now c.loop-place.place _ c.loop-place-test.true c.first_end-size.ensures)

pub invariant_of-looped : goal.invariant_of-looped
invariant_of-looped c =
    record { sound = rw (first_is c.args.input.now _ c.first_end-end.ensures) (c.requires.goes_on.loop_sound c.requires.place_in_bounds) }

pub put_certificate-requires : goal.put_certificate-requires
put_certificate-requires c =
    let far = c.loop-place.invariant.1 in
    let on = c.requires.goes_on in
    let size = line_short _ _ _ c.loop-place-test.true c.first_end-size.ensures c.loop-place.count (on.loop_sound c.requires.place_in_bounds) (on.short c.requires.place_in_bounds) far.counted in
    rw (first_is c.args.input.now _ c.first_end-end.ensures) (record { fits = omega (arith, size, far.same, far.fits) })

pub overflow_add-place : goal.overflow_add-place
overflow_add-place c = record { fits = omega (arith, size_within c.args.input.now _ _ c.loop-place-test.true c.first_end-size.ensures) }

pub loop-place-smaller : goal.loop-place-smaller
loop-place-smaller c =
    omega (arith, size_within c.args.input.now _ _ c.loop-place-test.true c.first_end-size.ensures, size_some c.args.input.now _ _ c.loop-place-test.true c.first_end-size.ensures)

pub loop-place-preserved : goal.loop-place-preserved
loop-place-preserved c =
    let l = c.loop-place in
    let far = l.invariant.1 in
    let sound = c.requires.goes_on.loop_sound c.requires.place_in_bounds in
    let short = c.requires.goes_on.short c.requires.place_in_bounds in
    let size = line_short _ _ _ c.loop-place-test.true c.first_end-size.ensures l.count sound short far.counted in
    let put = rw (first_is c.args.input.now _ c.first_end-end.ensures) at c.put_certificate.ensures in
    let same_length = ap length put.puts.room_is ∙ length_written _ _ _ (omega (arith, size, far.same, far.fits)) in
    (put.same_room ∙ l.invariant.0, filled_more _ c.loop-place-test.true c.first_end-size.ensures far sound short (omega arith) put.puts same_length)
