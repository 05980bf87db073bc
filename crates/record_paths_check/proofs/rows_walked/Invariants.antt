use Rattle.record_paths.specs.PathLoops.{rows_in}
use Rattle.record_paths_check.specs.PathChecks.{m_fits}
use Rattle.record_paths_check.proofs.PathWalks.{SoFar}
use Rattle.record_paths_check.proofs.rows_walked.Given as goal

abbrev pub invariant-loop-j : goal.invariant-loop-j
invariant-loop-j l = SoFar l.paths (m_fits l.bytes) (rows_in l.bytes) l.j l.sum
