-- `judge_fours::beside_four` meets its contract: three rows leave room for the fourth.
use Rattle.std.proofs.Common.{arith}
use Rattle.judge_fours.proofs.FourLaws.{sided_size}
use Rattle.judge_fours.proofs.beside_four.Goals as goal

pub visit-requires : goal.visit-requires
visit-requires c =
    let one = sided_size c.visit-one.ensures in
    let two = sided_size c.visit-two.ensures in
    let three = sided_size c.visit-three.ensures in
    (omega (arith, one.0, two.0, three.0), omega (arith, one.1, two.1, three.1), c.args.four.small.3, omega arith)
