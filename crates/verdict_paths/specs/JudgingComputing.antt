-- One name that opens every definition of judging by the loop's kind, so that a table is proved by computing it.
use Rattle.record_fields.specs.Runs.{field_number_at}
use Rattle.record_paths.specs.PathComputing as Records
use Rattle.theory_paths.specs.PathConditions as Conditions
use Rattle.verdict.specs.Computing as Verdicts
use Rattle.verdict_paths.specs.PathContents as Contents
use Rattle.verdict_paths.specs.PathJudging as Judging
use Rattle.verdict_paths.specs.JudgingByLoop as ByLoop

unfoldable pub computing : Unit {0}
unfolding
    field_number_at Records.computing Verdicts.computing Conditions.every Conditions.weighs Conditions.path_tests Conditions.path_by_path
    Conditions.lexicographic_tests Conditions.lexicographic_told Contents.rows_at Contents.path_in Contents.branches_in
    Contents.component_held Contents.list_held Contents.part_held Contents.lexicographic_in Judging.path_judging
    Judging.path_judges ByLoop.of_paths ByLoop.judged ByLoop.rank_judged
computing = tt
