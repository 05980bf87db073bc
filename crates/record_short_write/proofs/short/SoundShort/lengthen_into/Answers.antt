-- `record_short_write::SoundShort::lengthen_into` meets its contract.
use Rattle.std.proofs.Common.{◌*◌, arith}
use Rattle.record_short_write.proofs.LongRooms.{long_room}
use Rattle.record_short_write.proofs.RoomLaws.{zeros_put}
use Rattle.record_short_write.proofs.short.SoundShort.lengthen_into.Goals as goal

pub returns : goal.returns
returns c n =
    let a = c.args in
    let zeros = zeros_put c.put_u16.new.room c.fill.new.self 6 (4 * a.self.m) (omega (arith, c.requires, c.put_u32.auto.room, c.put_u16.auto.room)) (c.fill.ensures.after (λ y e. e)) in
    long_room a.self.m a.self.bytes.now n a.room.now _ _ _ _ c.args.self.lengthens.rows_below c.put_u32.ensures c.put_u16.ensures zeros c.put_triples.ensures
