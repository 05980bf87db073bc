-- One name that opens every definition of the public judge and bound, so that a table is proved by computing it.
use Rattle.record_short.specs.ShortComputing as Records
use Rattle.verdict_settling.specs.AnswersComputing as Before
use Rattle.verdict_short.specs.Answers as Answers
use Rattle.verdict_short.specs.ShortContents as Contents
use Rattle.verdict_short.specs.ShortJudging as Judging

unfoldable pub computing : Unit {0}
unfolding
    Before.computing Records.computing Judging.variables_of Judging.rows_for Judging.long_of Judging.short_records Judging.short_judged
    Judging.short_ranked Judging.short_bounded Judging.of_short Judging.judged_or_short Judging.ranked_or_short
    Judging.bounded_or_short Contents.stood_for Contents.loop_of Contents.ranking_of Answers.is_short Answers.answered
    Answers.rank_answered Answers.bounded_answered
computing = tt
