-- One name that opens every definition of judging and bound, so that a table is proved by computing it.
use Rattle.record.specs.Computing as Records
use Rattle.theory.specs.Conditions as Conditions
use Rattle.theory.specs.Exclusions as Exclusions
use Rattle.theory.specs.Rankings as Rankings
use Rattle.whole.specs.Sums as Sums
use Rattle.verdict.specs.Bounding as Bounding
use Rattle.verdict.specs.Claims as Claims
use Rattle.verdict.specs.Contents as Contents
use Rattle.verdict.specs.Judging as Judging
use Rattle.verdict.specs.Outcomes as Outcomes
use Rattle.verdict.specs.Pairs as Pairs
use Rattle.verdict.specs.Stages as Stages
use Rattle.verdict.specs.StateTests as StateTests

unfoldable pub computing : Unit {0}
unfolding
    Records.computing Conditions.◌at_each◌unless◌ Conditions.ranking_tests Conditions.exclusion_tests Conditions.weighed_tests
    Conditions.of Conditions.lasso_tests Conditions.ranking_told Conditions.exclusion_told Conditions.lasso_told Rankings.rank
    Rankings.start Rankings.fall Rankings.bound Sums.dot Sums.sum Sums.tabulate Sums.scale Sums.add Sums.less
    StateTests.before_outside StateTests.state_tests Bounding.invariant Bounding.bounding Bounding.bounded Bounding.bounds
    Bounding.bound_of Claims.ranking_claim Claims.exclusion_claim Claims.lasso_claim Claims.no_claim Contents.rows_of_numbers
    Contents.ranking_from Contents.exclusion_from Contents.lasso_from Contents.loop_in Contents.ranking_in Contents.exclusion_in
    Contents.lasso_in Judging.rank_room Judging.judging Judging.judges Judging.ranks Judging.rank_after Judging.judge_of
    Outcomes.grade_number Outcomes.numbers Outcomes.grade_of Exclusions.divides Exclusions.all_divided Exclusions.step_is_whole
    Pairs.loop_record Pairs.certificate_record Pairs.pair_kind
    Pairs.variables_of Pairs.claim Pairs.conditions Pairs.rank_of Pairs.outcome_of Stages.said Stages.verdict_of
computing = tt
