-- What is told of what came to a writer before the room is looked at: 01's order for a writing up to 6, in two parts, and the counts
-- that it gives.
use Rattle.std.specs.Prelude.{List, take, Result}
use Rattle.refusal.specs.declared.Fault.{Fault}
use Rattle.refusal.specs.Faults.{result_of}
use Rattle.refusal.specs.Tests.{Told, Test, first}
use Rattle.record.specs.declared.Counts.{Counts}
use Rattle.record.specs.Writers.{Writer, counts_given, writing}

unfoldable pub given : Told → Writer → Result Counts Fault
given told w = result_of told (counts_given w)

-- the kind and the counts: 4, 5 for n and m, 12 if ms is absent, 5 for ms
unfoldable pub counting : List (Test Writer)
counting = take 4 writing

-- and the list: 12, 6
unfoldable pub settling : List (Test Writer)
settling = take 6 writing

unfoldable pub counted : Writer → Result Counts Fault
counted w = given (first counting w) w

unfoldable pub settled : Writer → Result Counts Fault
settled w = given (first settling w) w
