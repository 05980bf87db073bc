use Rattle.std.proofs.Common.{arith, rules}
use Rattle.endian.proofs.Laws.{little_at_two}
use Rattle.endian.proofs.u16_at.Goals as goal

pub returns : goal.returns
returns c = (omega (arith, c.from_le_bytes.ensures, little_at_two c.args.bytes.now c.args.place), search rules)
