-- The edges of reading and writing in one table, under one statement: `every_edge`.
use mathlib.Core.Path.{◌≡◌, refl}
use mathlib.Core.Bool.{true, false}
use mathlib.Core.List.{List, [], ◌++◌}
use lib.IntN.{pos, neg_ℤ}
use Rattle.refusal.specs.Tests.{number, place}
use Rattle.record.specs.Computing.{computing}
use Rattle.record.specs.Ranges.{within, state_entries}
use Rattle.record.specs.Samples.{P, S1, S7, S10}
use Rattle.record.proofs.EdgeInputs.{Edge, tells, wrong, two, four, filed, one_row, zeros, weights, excluding, caught, keeping}
use Rattle.record.proofs.ReadingEdges.{reading_order, ranges_read}
use Rattle.record.proofs.WritingEdges.{writing_order, ranges_written}

-- the table
unfoldable pub edges : List Edge
edges = reading_order ++ (ranges_read ++ (writing_order ++ ranges_written))

-- no line of the table is wrong
pub every_edge : wrong edges ≡ []
unfolding edges computing number place tells wrong two four filed one_row zeros weights excluding caught keeping P S1 S7 S10 reading_order ranges_read writing_order ranges_written
every_edge = refl

-- state entries stand in no record: both ends of their range, and one past each end
pub state_ends :
    (within state_entries (pos 1_000_000) ≡ true) × (within state_entries (pos 1_000_001) ≡ false)
    × (within state_entries (neg_ℤ (pos 1_000_000)) ≡ true) × (within state_entries (neg_ℤ (pos 1_000_001)) ≡ false)
unfolding computing
state_ends = (refl, refl, refl, refl)
