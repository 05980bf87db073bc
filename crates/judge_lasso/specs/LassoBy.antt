-- What the tests of a lasso's conditions tell, and what is shown where all hold: start, fall and the rank over the loop with the added
-- row.
use Rattle.std.specs.Prelude.{Result, ℤ, List}
use Rattle.refusal.specs.declared.Fault.{Fault}
use Rattle.theory.specs.Conditions.{lasso_told}
use Rattle.theory.specs.Lassos.{Lasso, longer}
use Rattle.theory.specs.Loops.{Loop}
use Rattle.judge_ranking.specs.RankedBy.{RankedBy}
use Rattle.judge_ranking.specs.declared.Ranked.{Ranked}

abbrev pub LassoBy : Result Ranked Fault → Loop → Lasso → List ℤ → List ℤ → Type 0
LassoBy r loop c before after = RankedBy r (lasso_told loop c) (longer loop c) c.ranking before after
