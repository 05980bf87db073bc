-- One name that opens every definition of judging and bound by the records' kinds, so that a table is proved by computing it.
use Rattle.record_settling.specs.SettlingRecords as Records
use Rattle.theory_settling.specs.SettlingConditions as Conditions
use Rattle.theory_settling.specs.Settlings as Settlings
use Rattle.verdict_paths.specs.JudgingComputing as Paths
use Rattle.verdict_settling.specs.AnswersByKind as ByKind
use Rattle.verdict_settling.specs.SettlingContents as Contents
use Rattle.verdict_settling.specs.SettlingJudging as Judging

unfoldable pub computing : Unit {0}
unfolding
    Paths.computing Records.settling_fields Records.settling_length Records.sound_settling Conditions.settling_tests
    Conditions.settling_told Settlings.unsettled Settlings.unsettled_steps Settlings.settling_bound Contents.settling_in
    Judging.variables_of Judging.rows_for Judging.loop_of Judging.settling_of Judging.settling_outcome Judging.settling_rank
    Judging.rank_room Judging.settling_judging Judging.settling_judges Judging.settling_rank_after Judging.settling_bounding
    Judging.settling_bounds ByKind.of_settling ByKind.settles ByKind.judged_by_kind ByKind.rank_by_kind ByKind.bounded_by_kind
computing = tt
