use Rattle.std.proofs.Common.{◌∙◌, refl, rules}
use mir.Syntax.{w32, w64}
use mir.Val.{SFits}
use mir.Facts.{to_z-of_z}
use Rattle.endian.specs.Numbers.{digits, unsigned}
use Rattle.endian.proofs.Laws.{four_bytes, unsigned_is, put_at}
use Rattle.endian.proofs.put_i32.Goals as goal

pub returns : goal.returns
returns c =
    let a = c.args in
    let wide : SFits w64 a.z = search rules in
    let narrow : SFits w32 a.z = search rules in
    put_at a.place 4 a.room.now c.copy_from_slice.new.self (digits 4 (unsigned 2147483648 a.z))
    (c.copy_from_slice.ensures.after ∙ c.to_le_bytes.ensures ∙ rw (to_z-of_z wide, to_z-of_z narrow, unsigned_is w32 2147483648 refl a.z) (four_bytes (unsigned 2147483648 a.z)))
