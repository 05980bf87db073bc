-- One name that opens every definition of kinds 5 and 6, so that a table of inputs and answers is proved by computing it.
use Rattle.record.specs.Computing as Records
use Rattle.refusal.specs.Places as Places
use Rattle.record_paths.specs.PathFields as F
use Rattle.record_paths.specs.PathLoops as L
use Rattle.record_paths.specs.PathCertificates as C

unfoldable pub computing : Unit {0}
unfolding
    Records.computing Places.before_failing F.path_counts F.component_counts F.falls F.path_count F.component_count F.fall
    F.numbers_at F.sum_of F.bytes_alone F.is_kind F.holds_counts F.is_long F.fields_fit L.variables_in L.paths_in L.rows_in
    L.rows_before L.all_rows L.rows_place L.paths_length L.sound_paths C.counted C.components_in C.component_in C.before_missing
    C.multipliers_before C.all_multipliers C.component_place C.list_place C.component_fields C.components_fields
    C.certificate_fields C.certificate_length C.sound_lexicographic
computing = tt
