use Rattle.std.proofs.Common.{◌≡◌}
use Rattle.record_short_write.specs.Rooms.{with_triples}
use Rattle.record_short_write.proofs.short.SoundShort.put_triples.Given as goal

abbrev pub invariant-loop-k : goal.invariant-loop-k
invariant-loop-k l = l.room ≡ with_triples l.self.m l.self.bytes.now l.k l.initial.room
