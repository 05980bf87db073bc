use Rattle.std.proofs.Common.{◌∙◌}
use Rattle.endian.specs.Numbers.{digits}
use Rattle.endian.proofs.Laws.{two_bytes, put_at}
use Rattle.endian.proofs.put_u16.Goals as goal

pub returns : goal.returns
returns c =
    let a = c.args in
    put_at a.place 2 a.room.now c.copy_from_slice.new.self (digits 2 a.x) (c.copy_from_slice.ensures.after ∙ c.to_le_bytes.ensures ∙ two_bytes a.x)
