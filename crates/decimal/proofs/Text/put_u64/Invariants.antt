-- With the digits of the rest at the place, the room is what it has to be.
use Rattle.std.proofs.Common.{◌≡◌, ◌+◌, ◌≤◌, length}
use Rattle.decimal.specs.Decimals.{decimal}
use Rattle.decimal.specs.Rooms.{written}
use Rattle.decimal.proofs.Text.put_u64.Given as goal

abbrev pub invariant-loop-rest : goal.invariant-loop-rest
invariant-loop-rest l =
    (l.at ≡ l.place + length (decimal l.rest)) × (l.at ≤ length l.room) × (written l.room l.place (decimal l.rest) ≡ written l.initial.room l.place (decimal l.x))

abbrev pub decreases-loop-rest : goal.decreases-loop-rest
decreases-loop-rest l = l.rest
