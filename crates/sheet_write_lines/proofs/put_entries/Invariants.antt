-- The entries from z on are still to come.
use Rattle.std.proofs.Common.{drop}
use Rattle.decimal.proofs.TextLaws.{SoFar}
use Rattle.sheet_lines.proofs.LineLaws.{entries}
use Rattle.sheet_write_lines.proofs.put_entries.Given as goal

abbrev pub invariant-loop-z : goal.invariant-loop-z
invariant-loop-z l = SoFar l.initial.text (entries l.rank) l.text (entries (drop l.z-index l.rank))
