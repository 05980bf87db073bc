-- The list of values that a record's bytes hold.
use Rattle.std.specs.Prelude.{ℕ, ◌+◌, List, ℤ, drop}
use Rattle.record.specs.Fields.{widths, values}
use Rattle.record.specs.declared.Counts.{Counts}
use Rattle.record.specs.Layouts.{kind_of, ahead, listed}

-- the list of values of a record with these counts
unfoldable pub list_of : List ℕ → ℕ → Counts → List ℤ
list_of bytes kind c = values (listed (kind_of kind) c) (drop (6 + widths (ahead (kind_of kind))) bytes)
