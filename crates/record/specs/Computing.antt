-- One name that opens every definition, so that a table of inputs and answers is proved by computing it: a statement with the
-- line `unfolding computing` computes.
use Rattle.endian.specs.Numbers.{little, little_at, digits, signed, unsigned}
use Rattle.refusal.specs.Tests.{first}
use Rattle.record.specs.Fields.{width, number, stored, holds, widths, values, bytes_of, in_range, before_fault}
use Rattle.record.specs.Layouts.{kind_of, is_loop, is_lasso, is_known, has_rank, variable_count, row_count, entry, right_side}
use Rattle.record.specs.Layouts.{multiplier, scale, direction, row, rows_of, counts, layout, length_of, ahead, listed}
use Rattle.record.specs.Ranges.{◌to◌, either_way, variables, rows, entries, right_sides, multipliers, scales, directions}
use Rattle.record.specs.Ranges.{state_entries, within}
use Rattle.record.specs.Readers as R
use Rattle.record.specs.Wants.{wants_of, kinds_written}
use Rattle.record.specs.Writers as W

unfoldable pub computing : Unit {0}
unfolding
    little little_at digits signed unsigned first width number stored holds widths values bytes_of in_range before_fault kind_of
    is_loop is_lasso is_known has_rank wants_of kinds_written variable_count row_count entry right_side multiplier scale
    direction row rows_of counts layout length_of ahead listed ◌to◌ either_way variables rows entries right_sides multipliers
    scales directions state_entries within R.stated_length R.kind_number R.kind R.counts_read R.fields R.list_start
    R.count_list R.list R.arguments_fit R.sound R.enough_room R.reading R.answer R.filled R.loop_reader R.certificate_reader
    R.reads R.fills W.kind W.ms_given W.counts_given W.fields W.length_stated W.numbers_ahead W.record_bytes W.argument_place
    W.writing W.answer W.filled W.writer W.writes W.room_after
computing = tt
