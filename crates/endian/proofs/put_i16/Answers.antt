use Rattle.std.proofs.Common.{◌∙◌, refl, rules}
use mir.Syntax.{w16, w64}
use mir.Val.{SFits}
use mir.Facts.{to_z-of_z}
use Rattle.endian.specs.Numbers.{digits, unsigned}
use Rattle.endian.proofs.Laws.{two_bytes, unsigned_is, put_at}
use Rattle.endian.proofs.put_i16.Goals as goal

pub returns : goal.returns
returns c =
    let a = c.args in
    let wide : SFits w64 a.z = search rules in
    let narrow : SFits w16 a.z = search rules in
    put_at a.place 2 a.room.now c.copy_from_slice.new.self (digits 2 (unsigned 32768 a.z))
    (c.copy_from_slice.ensures.after ∙ c.to_le_bytes.ensures ∙ rw (to_z-of_z wide, to_z-of_z narrow, unsigned_is w16 32768 refl a.z) (two_bytes (unsigned 32768 a.z)))
