-- The tests of four values are the test of a run of four.
use Rattle.std.proofs.Common.{arith}
use Rattle.record_list_faults.proofs.ListRuns.{in_range-four}
use Rattle.record_list_faults.proofs.in_list.four_fit.Goals as goal

pub returns : goal.returns
returns g c =
    in_range-four g.F.BodyField.field c.args.values.now c.args.index _ _ _ _ (omega arith) c.value_fits.ensures c.value_fits-2.ensures c.value_fits-3.ensures c.value_fits-4.ensures
