-- `record_short_write::SoundRanking::put_rows` meets its contract.
use Rattle.std.proofs.Common.{◌∙◌, arith}
use native.Mathlib.Numerals.{add-one}
use Rattle.record_short.specs.Conversions.{rows_with_weight, triples_needed}
use Rattle.record_short.proofs.ShortBytes.{rows_more, rows_grow}
use Rattle.record_short_write.specs.Rooms.{listed}
use Rattle.record_short_write.proofs.ShortRooms.{rows_none, rows_next}
use Rattle.record_short_write.proofs.ranking.SoundRanking.put_rows.Goals as goal

pub loop-i-init : goal.loop-i-init
unfolding rows_with_weight
loop-i-init c = record { next = omega arith; filled = rows_none c.args.self.m c.args.self.bytes.now c.args.room.now (omega (arith, c.requires)) }

pub put_row-at-requires-clause-roomy : goal.put_row-at-requires-clause-roomy
unfolding listed triples_needed
put_row-at-requires-clause-roomy c =
    let grow = rows_grow c.args.self.m c.args.self.bytes.now c.loop-i.i c.args.self.m c.loop-i-test.true in
    omega (arith, c.requires, c.loop-i.auto.room, c.loop-i.invariant.next, grow)

pub loop-i-preserved : goal.loop-i-preserved
unfolding listed
loop-i-preserved c =
    let a = c.args in
    record {
      next = c.put_row-at.ensures.value ∙ rw (c.loop-i.invariant.next, add-one c.loop-i.i) (omega (arith, rows_more a.self.m a.self.bytes.now c.loop-i.i));
      filled =
          rows_next a.self.m a.self.bytes.now a.room.now (omega (arith, c.requires)) c.loop-i.i _
          (rw (← c.loop-i.invariant.next, ← c.loop-i.invariant.filled) c.put_row-at.ensures.room_after);
    }
