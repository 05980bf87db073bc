use Rattle.record_paths_check.specs.PathChecks.{component_there, multipliers_of}
use Rattle.record_paths_check.proofs.PathWalks.{SoFar}
use Rattle.record_paths_check.proofs.lists_walked.Given as goal

abbrev pub invariant-loop-j : goal.invariant-loop-j
invariant-loop-j l = SoFar l.paths (component_there l.components l.bytes) (multipliers_of l.loopbytes l.bytes) l.j l.sum
