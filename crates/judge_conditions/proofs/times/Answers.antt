-- `judge_conditions::times` meets its contract: the product fits.
use Rattle.std.proofs.Common.{◌≤◌, nat_abs, ◌*ℤ◌, refl, arith}
use mir.Facts.{to_z-of_z}
use Rattle.whole.proofs.Size.{abs_product, back}
use Rattle.judge_conditions.proofs.times.Goals as goal

pub returns : goal.returns
returns c =
    let product = c.args.factor *ℤ c.args.z in
    let small : nat_abs product ≤ 140735340871680 = abs_product c.args.factor c.args.z {a = 65535} {b = 2147483648} c.requires.0 c.requires.1 in
    rw (to_z-of_z c.ranges.factor, to_z-of_z c.ranges.z, back {z = product} (omega (arith, small))) (refl, small)
