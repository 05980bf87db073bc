-- What the tests of a settling's conditions tell, and what is shown where all hold: start, fall and the rank over the loop with the added
-- row.
use Rattle.std.specs.Prelude.{Result, ℤ, List}
use Rattle.refusal.specs.declared.Fault.{Fault}
use Rattle.theory.specs.Loops.{Loop}
use Rattle.theory_settling.specs.SettlingConditions.{settling_told}
use Rattle.theory_settling.specs.Settlings.{Settling, longer}
use Rattle.judge_ranking.specs.RankedBy.{RankedBy}
use Rattle.judge_ranking.specs.declared.Ranked.{Ranked}

abbrev pub SettlingBy : Result Ranked Fault → Loop → Settling → List ℤ → List ℤ → Type 0
SettlingBy r loop c before after = RankedBy r (settling_told loop c) (longer loop c) c.ranking before after
