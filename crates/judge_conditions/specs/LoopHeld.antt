-- The loop whose rows lie in bytes from a start on (01, "Records on file"). The judge's code reads these places; crate `judge` shows
-- that those of a loop record are the loop of crate `verdict`.
use Rattle.std.specs.Prelude.{ℕ, List}
use Rattle.judge_sums.specs.Lists.{rows_from}
use Rattle.judge_sums.specs.declared.rows.Rows.{Rows}
use Rattle.theory.specs.Loops.{Loop, over}

-- m rows over n variables
unfoldable pub loop_held : List ℕ → ℕ → ℕ → ℕ → Loop
loop_held bytes start n m = over n (rows_from bytes n start m)

-- that of rows as they lie
abbrev pub loop_of : Rows → Loop
loop_of rows = loop_held rows.bytes.now rows.start rows.n rows.count
