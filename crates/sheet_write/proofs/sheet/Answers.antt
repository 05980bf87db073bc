-- `sheet_write::sheet` meets its contract: the room is as it was, or the text is at its front.
use Rattle.std.proofs.Common.{arith, sym, ◌∙◌}
use Rattle.decimal.proofs.RoomLaws.{written_front}
use Rattle.sheet_text.proofs.TextLaws.{no_room, enough}
use Rattle.sheet_write.proofs.sheet.Goals as goal

pub returns-then-text-needed-clause-text_after : goal.returns-then-text-needed-clause-text_after
returns-then-text-needed-clause-text_after c = sym (no_room c.args.input.now c.args.text.now (omega arith)).1

pub returns-clause-text_after : goal.returns-clause-text_after
returns-clause-text_after c = c.put_sheet-written.ensures.room_is ∙ written_front c.args.text.now _ ∙ sym (enough c.args.input.now c.args.text.now (omega arith)).1
