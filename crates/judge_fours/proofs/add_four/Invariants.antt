-- before each turn the columns so far have taken the four rows, and the others stand as they were
use Rattle.judge_fours.specs.Fours.{FourAdded}
use Rattle.judge_fours.proofs.add_four.Given as goal

abbrev pub invariant-loop-k : goal.invariant-loop-k
invariant-loop-k l = FourAdded l.y l.rows l.row l.n l.k l.fn.ys l.ys × FourAdded l.z l.rows l.row l.n l.k l.fn.zs l.zs
