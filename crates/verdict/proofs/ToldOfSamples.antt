-- A refusal of a sample, read as mathematics: of P's second certificate judging and bound tell 22 in column 1, so YA' = 0 throughout, and (Y - Z)A is 0 in
-- column 0 and is not in column 1; and where that is so, this is told. So the statements of `ToldExactly` speak of the calls' own bytes.
use mathlib.Core.Path.{◌≡◌, refl}
use mathlib.Core.List.{[], ◌∷◌}
use native.Mathlib.Omega.{arith}
use lib.IntN.{pos}
use Rattle.record.specs.Contents.{ranking_values}
use Rattle.record.specs.Samples as Records
use Rattle.theory.specs.Fails.{RankingFails}
use Rattle.theory.specs.Samples as Rows
use Rattle.verdict.specs.Bounding.{Bounding, bounds, bound_of}
use Rattle.verdict.specs.Computing.{computing}
use Rattle.verdict.specs.Judging.{Judging, judges, judge_of}
use Rattle.verdict.specs.Samples.{P, second_of_P, ranking_bytes}
use Rattle.verdict.specs.Stages.{refusal_of}
use Rattle.verdict.proofs.ToldExactly.{JudgingFails, BoundingFails, told_exactly_judging, told_exactly_bounding}

abbrev second_judged : Judging
second_judged = judge_of P second_of_P (pos 0 ∷ pos 0 ∷ [])

abbrev second_bounded : Bounding
second_bounded = bound_of P second_of_P (pos 5 ∷ pos 1 ∷ [])

judging_fails : JudgingFails second_judged 22 1
unfolding computing P second_of_P Records.P ranking_bytes ranking_values
judging_fails = (told_exactly_judging second_judged 22 1 (omega arith)).0 refl

bounding_fails : BoundingFails second_bounded 22 1
unfolding computing P second_of_P Records.P ranking_bytes ranking_values
bounding_fails = (told_exactly_bounding second_bounded 22 1 (omega arith)).0 refl

-- as rows and multipliers, whichever call tells it
pub second_fails : (RankingFails Rows.P (Rows.ranking (1 ∷ 0 ∷ 0 ∷ []) (0 ∷ 1 ∷ 0 ∷ [])) 22 1) × (RankingFails Rows.P (Rows.ranking (1 ∷ 0 ∷ 0 ∷ []) (0 ∷ 1 ∷ 0 ∷ [])) 22 1)
unfolding computing P second_of_P Records.P Rows.P ranking_bytes ranking_values
second_fails = (judging_fails.fails, bounding_fails.fails)

-- and back
pub second_told : (judges second_judged ≡ refusal_of 2 22 1) × (bounds second_bounded ≡ record { verdict = refusal_of 2 22 1; bound = 0 })
second_told = ((told_exactly_judging second_judged 22 1 (omega arith)).1 judging_fails, (told_exactly_bounding second_bounded 22 1 (omega arith)).1 bounding_fails)
