-- Four more are in range, or the walk goes on.
use Rattle.std.proofs.Common.{arith, sym, ◌∙◌}
use Rattle.record_list_faults.proofs.ListRuns.{four_none, four_there, four_more, rest_there, rest_answer, same_length}
use Rattle.record_list_faults.proofs.in_list.InListSource.run_fault.Goals as goal

pub loop-left-init : goal.loop-left-init
loop-left-init g c = record { few = omega arith; so_far = four_none g.F.BodyField.field c.args.self c.args.count }

pub four_fit-requires : goal.four_fit-requires
four_fit-requires g c = (four_there g.F.BodyField.field c.args.self c.args.count c.loop-left.source c.loop-left.left c.loop-left.invariant.few c.loop-left.invariant.so_far c.requires g.F.BodyField.WIDE g.met.F.BodyField.wide c.loop-left-test.true).0

pub overflow_add-source : goal.overflow_add-source
overflow_add-source g c = omega (arith, (four_there g.F.BodyField.field c.args.self c.args.count c.loop-left.source c.loop-left.left c.loop-left.invariant.few c.loop-left.invariant.so_far c.requires g.F.BodyField.WIDE g.met.F.BodyField.wide c.loop-left-test.true).0, same_length g.F.BodyField.field c.args.self c.args.count c.loop-left.source c.loop-left.left c.loop-left.invariant.few c.loop-left.invariant.so_far)

pub overflow_mul-source : goal.overflow_mul-source
overflow_mul-source g c = omega (arith, (four_there g.F.BodyField.field c.args.self c.args.count c.loop-left.source c.loop-left.left c.loop-left.invariant.few c.loop-left.invariant.so_far c.requires c.WIDE.result (g.met.F.BodyField.wide ∙ sym c.WIDE.ensures) c.loop-left-test.true).1)

pub overflow_add-source-in-loop-left : goal.overflow_add-source-in-loop-left
overflow_add-source-in-loop-left g c = omega (arith, (four_there g.F.BodyField.field c.args.self c.args.count c.loop-left.source c.loop-left.left c.loop-left.invariant.few c.loop-left.invariant.so_far c.requires c.WIDE.result (g.met.F.BodyField.wide ∙ sym c.WIDE.ensures) c.loop-left-test.true).1)

pub loop-left-preserved : goal.loop-left-preserved
loop-left-preserved g c =
    record {
      few = omega (arith, c.loop-left.invariant.few);
      so_far = four_more g.F.BodyField.field c.args.self c.args.count c.loop-left.source c.loop-left.left c.loop-left.invariant.few c.loop-left.invariant.so_far c.requires c.WIDE.result (g.met.F.BodyField.wide ∙ sym c.WIDE.ensures) c.loop-left-test.true (sym c.four_fit.ensures ∙ c.if-four_fit.true);
    }

pub walk-requires : goal.walk-requires
walk-requires g c = rest_there g.F.BodyField.field c.args.self c.args.count c.loop-left.source c.loop-left.left c.loop-left.invariant.few c.loop-left.invariant.so_far c.requires

pub returns : goal.returns
returns g c = c.walk.ensures ∙ rest_answer g.F.BodyField.field c.args.self c.args.count c.loop-left.source c.loop-left.left c.loop-left.invariant.few c.loop-left.invariant.so_far
