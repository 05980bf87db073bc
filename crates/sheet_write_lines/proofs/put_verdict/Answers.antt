-- `sheet_write_lines::put_verdict` meets its contract: in each arm one writer puts the whole line. The last arm names none of its numbers, so its line is told here.
use Rattle.sheet_lines.proofs.LineLaws.{settling_line}
use Rattle.sheet_write_lines.proofs.put_verdict.Goals as goal

pub put_refusal-requires-in-Settling : goal.put_refusal-requires-in-Settling
put_refusal-requires-in-Settling c =
    let a = c.args in
    rw (settling_line a.v.outcome a.v.number a.v.place a.rank.now _ _ c.in-Settling.is) at c.requires

pub returns-in-Settling : goal.returns-in-Settling
returns-in-Settling c =
    let a = c.args in
    rw (settling_line a.v.outcome a.v.number a.v.place a.rank.now _ _ c.in-Settling.is) c.put_refusal-in-Settling.ensures
