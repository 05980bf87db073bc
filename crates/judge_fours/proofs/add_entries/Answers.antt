-- `judge_fours::add_entries` meets its contract: two entries leave room for the third, and three for the fourth.
use Rattle.std.proofs.Common.{arith}
use Rattle.judge_sums.proofs.LiftLaws.{passed_grows}
use Rattle.judge_fours.proofs.FourLaws.{passed_size}
use Rattle.judge_fours.proofs.add_entries.Goals as goal

pub add_lifted-three-requires : goal.add_lifted-three-requires
add_lifted-three-requires c =
    let one = passed_size c.args.sum (omega arith) c.args.four.small.0 c.add_lifted-one.ensures in
    let two = passed_size c.add_lifted-one.result (omega (arith, one)) c.args.four.small.1 c.add_lifted-two.ensures in
    (passed_grows c.add_lifted-two.result (omega (arith, one, two)), omega arith, omega arith)

pub add_lifted-requires : goal.add_lifted-requires
add_lifted-requires c =
    let one = passed_size c.args.sum (omega arith) c.args.four.small.0 c.add_lifted-one.ensures in
    let two = passed_size c.add_lifted-one.result (omega (arith, one)) c.args.four.small.1 c.add_lifted-two.ensures in
    let three = passed_size c.add_lifted-two.result (omega (arith, one, two)) c.args.four.small.2 c.add_lifted-three.ensures in
    (passed_grows c.add_lifted-three.result (omega (arith, one, two, three)), omega arith, omega arith)
