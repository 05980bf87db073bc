use Rattle.std.proofs.Common.{◌≡◌, ◌+◌, ◌*◌, length}
use Rattle.record_short.specs.Conversions.{rows_with_weight}
use Rattle.record_short_write.specs.Rooms.{with_rows}
use Rattle.record_short_write.proofs.ranking.SoundRanking.put_rows.Given as goal

abbrev pub invariant-loop-i : goal.invariant-loop-i
invariant-loop-i l = record { next : l.at ≡ 8 + 6 * length (rows_with_weight l.self.m l.self.bytes.now l.i); filled : l.room ≡ with_rows l.self.m l.self.bytes.now l.i l.initial.room }
