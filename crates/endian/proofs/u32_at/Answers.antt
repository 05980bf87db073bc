use Rattle.std.proofs.Common.{arith, rules}
use Rattle.endian.proofs.Laws.{little_at_four}
use Rattle.endian.proofs.u32_at.Goals as goal

pub returns : goal.returns
returns c = (omega (arith, c.from_le_bytes.ensures, little_at_four c.args.bytes.now c.args.place), search rules)
