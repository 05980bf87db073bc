-- `record_short_write::SoundRanking::shorten_into` meets its contract.
use Rattle.std.proofs.Common.{arith}
use Rattle.record_short.specs.Conversions.{triples_needed}
use Rattle.record_short.proofs.ShortBytes.{rows_few}
use Rattle.record_short_write.proofs.ShortRooms.{short_room}
use Rattle.record_short_write.proofs.ranking.SoundRanking.shorten_into.Goals as goal

pub put_u32-requires : goal.put_u32-requires
unfolding triples_needed
put_u32-requires c =
    omega (arith, c.args.self.lists.few_rows, c.requires.counted, rows_few c.args.self.m c.args.self.bytes.now c.args.self.m, c.requires.roomy)

pub put_u16-requires-2 : goal.put_u16-requires-2
unfolding triples_needed
put_u16-requires-2 c = (
  omega (arith, c.requires.roomy, c.put_u32.auto.room, c.put_u16.auto.room),
  omega (arith, c.args.self.lists.few_rows, c.requires.counted, rows_few c.args.self.m c.args.self.bytes.now c.args.self.m),
)

pub returns : goal.returns
returns c =
    let a = c.args in
    short_room a.self.m a.self.bytes.now a.room.now _ _ _ _ a.count c.requires.counted c.put_u32.ensures c.put_u16.ensures c.put_u16-2.ensures c.put_rows.ensures
