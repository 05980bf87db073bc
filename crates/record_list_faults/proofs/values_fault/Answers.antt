-- The fields end in the values and in the record, and what they tell is handed on.
use Rattle.std.proofs.lemmas.Result.{err_from_is_err_and}
use Rattle.refusal.proofs.FaultLaws.{handed_on, went_on}
use Rattle.record.specs.Layouts.{kind_of}
use Rattle.record_list_faults.proofs.ListedFields.{listed_ends}
use Rattle.record_list_faults.proofs.values_fault.Goals as goal

pub listed_fault-requires : goal.listed_fault-requires
listed_fault-requires c = rw c.first_place.ensures (listed_ends (kind_of c.args.kind) c.args.counts _ c.requires.values_len c.requires.ms_bound)

pub returns-in_err-listed_fault : goal.returns-in_err-listed_fault
returns-in_err-listed_fault c =
    let p = err_from_is_err_and c.from_residual.result c.from_residual.ensures.1 in
    rw (p.1, p.2, ← c.first_place.ensures) (handed_on _ _ _ _ c.in_err-listed_fault.ensures)

pub returns : goal.returns
returns c = rw (← c.first_place.ensures) (went_on _ _ _ _ c.in_ok-listed_fault.ensures)
