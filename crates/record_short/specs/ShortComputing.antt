-- One name that opens every definition of short rankings, so that a table of inputs and answers is proved by computing it.
use Rattle.record_paths.specs.PathComputing as Records
use Rattle.whole.specs.Sums.{tabulate}
use Rattle.record_short.specs.ShortRecords as S
use Rattle.record_short.specs.Conversions as C

unfoldable pub computing : Unit {0}
unfolding
    Records.computing tabulate S.triples_in S.row_in S.Y-in S.Z-in S.row_rises S.has_weight S.before_bad S.triple_count S.row_number
    S.triples_fields S.short_length S.sound_short S.weight_of S.Y-for S.Z-for S.long_bytes C.ranking_given C.long_Y C.long_Z
    C.rows_with_weight C.triples_bytes C.triples_needed C.short_bytes C.shortening C.lengthening C.converted C.put_first
    C.shortening_told C.lengthening_told C.shortens C.shortened_room C.lengthens C.lengthened_room
computing = tt
