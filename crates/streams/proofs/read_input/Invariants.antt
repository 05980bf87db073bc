-- The room holds what was read so far.
use Rattle.std.proofs.Common.{◌≡◌, ◌≤◌, length, take}
use Rattle.std.specs.Io.KnownBytes.{Consumes}
use Rattle.streams.proofs.read_input.Given as goal

abbrev pub invariant-loop : goal.invariant-loop
invariant-loop g l =
    (l.size ≤ length l.room) × (length l.room ≡ length l.initial.room) × Consumes (g.R.Read.remaining l.initial.input) (g.R.Read.remaining l.input) (take l.size l.room)
