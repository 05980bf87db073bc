-- Of the rows so far those that have weight are counted.
use Rattle.std.proofs.Common.{◌≡◌, ◌≤◌, length}
use Rattle.record_short.specs.Conversions.{rows_with_weight}
use Rattle.record_short_write.proofs.ranking.SoundRanking.rows_counted.Given as goal

abbrev pub invariant-loop-i : goal.invariant-loop-i
invariant-loop-i l = (l.i ≤ l.self.m) × (l.count ≡ length (rows_with_weight l.self.m l.self.bytes.now l.i))
