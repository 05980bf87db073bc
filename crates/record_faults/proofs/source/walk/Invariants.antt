use Rattle.std.proofs.Common.{◌≡◌, Ok, replicate}
use Rattle.record_faults.proofs.source.walk.Given as goal

-- the source is behind the fields so far
abbrev pub invariant-loop : goal.invariant-loop
invariant-loop g l = Ok l.source ≡ g.S.Numbers.answer l.fn.source (replicate l.counter g.F.BodyField.field)
