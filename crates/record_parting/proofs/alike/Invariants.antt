-- The bytes from here on are those after the records that were counted, and those and the records from here on are together all of them.
use Rattle.std.proofs.Common.{◌≡◌, ◌*◌, ◌≤◌, drop}
use Rattle.record_parting.proofs.PartingPlaces.{Counted}
use Rattle.record_parting.proofs.alike.Given as goal

abbrev pub invariant-loop-record : goal.invariant-loop-record
invariant-loop-record l =
    (6 ≤ l.size) × (l.record-iterator.size ≡ l.size) × (l.record-iterator.rest.now ≡ drop (l.alike * l.size) l.bytes) × Counted l.bytes l.size l.alike
