-- One name that opens every definition of a batch, so that a table is proved by computing it.
use Rattle.record_parting.specs.Parting as Parting
use Rattle.verdict_short.specs.AnswersComputing as Answers
use Rattle.verdict_batch.specs.Batches as Batches

unfoldable pub computing : Unit {0}
unfolding
    Answers.computing Parting.stated Parting.whole_first Parting.taken Parting.first_record Parting.after_first Parting.up_to
    Parting.records Batches.loop_told Batches.variables Batches.count Batches.numbers_needed Batches.enough_room Batches.batching
    Batches.verdicts_in_turn Batches.ranks_in_turn Batches.stretch Batches.with_stretch Batches.answer Batches.batch_answers
    Batches.filled Batches.verdicts_after Batches.ranked Batches.ranks_after
computing = tt
