use Rattle.std.proofs.Common.{◌≡◌, Ok}
use Rattle.record.specs.Layouts.{rows_of}
use Rattle.record_faults.proofs.rows_fault.Given as goal

-- the source is behind the rows so far
abbrev pub invariant-loop : goal.invariant-loop
invariant-loop g l = Ok l.source ≡ g.S.Numbers.answer l.fn.source (rows_of l.n l.counter)
