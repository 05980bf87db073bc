use Rattle.std.proofs.Common.{◌+◌, ◌%◌, ◌<◌, arith}
use native.Mathlib.Nat.{mod-lt}
use mir.Syntax.{w64}
use mir.Facts.{to_z_pos}
use Rattle.endian.proofs.Laws.{lifted_read}
use Rattle.endian.proofs.lifted_at.Goals as goal

pub returns : goal.returns
returns c =
    let lifted = (c.u16_at.result + 32768) % 65536 in
    let small : lifted < 65536 = mod-lt (c.u16_at.result + 32768) (omega arith) in
    rw (to_z_pos w64 {n = lifted} (omega (arith, small))) (lifted_read 32768 c.u16_at.result _ c.u16_at.ensures.1 c.u16_at.ensures.0)
