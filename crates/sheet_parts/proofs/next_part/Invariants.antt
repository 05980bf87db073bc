-- The front of the room and the lines from `place` on are what was to come. The measure is how many bytes are left.
use Rattle.std.proofs.Common.{◌≡◌, ◌-◌, length}
use Rattle.sheet_parts.proofs.PartLaws.{Filled}
use Rattle.sheet_parts.proofs.next_part.Given as goal

abbrev pub invariant-loop-place : goal.invariant-loop-place
invariant-loop-place l = (l.text.room.ghost_name ≡ l.initial.text.room.ghost_name) × Filled l.input l.initial.place l.initial.count (length l.initial.text.room.now) l.text.room.now l.text.at l.place l.count

abbrev pub decreases-loop-place : goal.decreases-loop-place
decreases-loop-place l = length l.input - l.place
