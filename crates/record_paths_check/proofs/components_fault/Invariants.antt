use Rattle.std.proofs.Common.{◌≡◌, Ok}
use Rattle.record_paths.specs.PathCertificates.{components_fields}
use Rattle.record_paths_check.proofs.components_fault.Given as goal

-- the source is behind the components so far
abbrev pub invariant-loop : goal.invariant-loop
invariant-loop g l = Ok l.source ≡ g.S.Numbers.answer l.fn.source (components_fields l.n l.counter)
