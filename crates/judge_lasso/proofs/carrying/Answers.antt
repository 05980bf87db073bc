-- `judge_lasso::carrying` meets its contract: the factors and the limit are those of the invariant.
use Rattle.std.proofs.Common.{◌≡◌, ◌≤◌, pos, ◌-ℤ◌, nat_abs, w64, to_z, arith}
use Rattle.std.proofs.lemmas.Int.{ints}
use mir.Facts.{to_z-of_z, to_z_pos}
use borrow.Author.Rules.{sfits_of}
use Rattle.whole.proofs.Size.{back}
use Rattle.judge_lasso.proofs.carrying.Goals as goal

pub returns : goal.returns
returns c =
    let h : to_z w64 c.args.h ≡ pos c.args.h = to_z_pos w64 (omega arith) in
    let k : to_z w64 c.args.k ≡ pos c.args.k = to_z_pos w64 (omega arith) in
    let between : nat_abs (pos c.args.k -ℤ pos c.args.h) ≤ 65535 = omega (arith, ints) in
    let limit =
    rw (h, k, back {z = pos c.args.k -ℤ pos c.args.h} (omega arith), to_z-of_z {w = w64} {z = c.s0.result} (sfits_of c.s0.type_inv), c.s0.ensures.0) at c.times.ensures.0 in
    rw (
      c.s_place.ensures.0,
      h,
      to_z-of_z {w = w64} {z = c.minus.result} (sfits_of c.minus.type_inv),
      rw k at c.minus.ensures.0,
      to_z-of_z {w = w64} {z = c.times.result} (sfits_of c.times.type_inv),
      limit,
    )
