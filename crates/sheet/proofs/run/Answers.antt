-- The text that was handed on is that of the whole input.
use Rattle.std.proofs.Common.{arith}
use Rattle.sheet.proofs.HandingOn.{whole_text}
use Rattle.sheet.proofs.run.Goals as goal

pub returns : goal.returns
returns g c =
    let r = c.read_input in
    let read = c.in_ok-size in
    let printed = c.in_ok-print_sheet in
    whole_text _ _ _ _ r.new.room read.size printed.field-0 (omega (arith, r.auto.room, c.input_room-room.ensures)) read.ensures.prefix.0 read.ensures.bytes
    (λ less. read.ensures.end (omega (arith, less, r.auto.room))) printed.ensures.whole printed.ensures.bytes
