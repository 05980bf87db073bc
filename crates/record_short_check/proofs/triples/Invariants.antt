use Rattle.record_short_check.proofs.TripleWalks.{SoFar}
use Rattle.record_short_check.proofs.triples.Given as goal

abbrev pub invariant-loop-i : goal.invariant-loop-i
invariant-loop-i l = SoFar l.m l.bytes l.count l.i l.values
