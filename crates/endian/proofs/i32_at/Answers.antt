use Rattle.std.proofs.Common.{◌+◌, ◌*◌, ◌<◌, ◌≡◌, get_or, refl, arith, rules}
use mir.Syntax.{w32, w64}
use mir.Val.{SFits}
use mir.Facts.{to_z-of_z}
use borrow.Author.Rules.{sfits_of}
use Rattle.endian.specs.Numbers.{little_at}
use Rattle.endian.proofs.Laws.{little_at_four, signed_read}
use Rattle.endian.proofs.i32_at.Goals as goal

pub returns : goal.returns
returns c =
    let a = c.args in
    let bytes = a.bytes.now in
    let z = c.from_le_bytes.result in
    let x = get_or bytes a.place 0 + get_or bytes (a.place + 1) 0 * 256 + get_or bytes (a.place + 2) 0 * 65536 + get_or bytes (a.place + 3) 0 * 16777216 in
    let small : x < 4294967296 = omega (arith, c.type_inv.bytes a.place, c.type_inv.bytes (a.place + 1), c.type_inv.bytes (a.place + 2), c.type_inv.bytes (a.place + 3)) in
    let here : x ≡ little_at 4 bytes a.place = omega (arith, little_at_four bytes a.place) in
    let narrow : SFits w32 z = sfits_of c.from_le_bytes.type_inv in
    let wide : SFits w64 z = search rules in
    rw (to_z-of_z narrow, to_z-of_z wide) (signed_read w32 2147483648 refl x (little_at 4 bytes a.place) z refl small here c.from_le_bytes.ensures)
