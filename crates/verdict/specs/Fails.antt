-- What a refusal by a condition says (02, Q-1), by the certificate's kind, of the loop and the values that the bytes hold: which condition
-- fails, at which column or row it fails first, and that all before it hold. `told_exactly_judging` and `told_exactly_bounding` in
-- proofs/ToldExactly.antt say that this and nothing else is told.
use Rattle.std.specs.Prelude.{ℕ}
use Rattle.record.specs.Layouts.{Kind, loop, ranking, exclusion, lasso, other}
use Rattle.theory.specs.Fails.{RankingFails, ExclusionFails, LassoFails}
use Rattle.verdict.specs.Contents.{loop_in, ranking_in, exclusion_in, lasso_in}
use Rattle.verdict.specs.Pairs.{Pair}

-- by number and place
abbrev pub ConditionFails : Kind → Pair → ℕ → ℕ → Type 0
ConditionFails loop p number place = ⊥
ConditionFails ranking p number place = RankingFails (loop_in p.loop_is) (ranking_in p.certificate_is) number place
ConditionFails exclusion p number place = ExclusionFails (loop_in p.loop_is) (exclusion_in p.certificate_is) number place
ConditionFails lasso p number place = LassoFails (loop_in p.loop_is) (lasso_in p.certificate_is) number place
ConditionFails other p number place = ⊥
