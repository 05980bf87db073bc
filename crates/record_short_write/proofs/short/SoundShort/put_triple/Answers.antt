-- `record_short_write::SoundShort::put_triple` meets its contract.
use Rattle.std.proofs.Common.{◌≡◌, ◌∙◌, arith, ◌+◌, ◌*◌, ◌<◌, rules}
use Rattle.record_short.specs.ShortRecords.{row_in, Y-in, Z-in}
use Rattle.record_short_write.specs.Rooms.{put_at, with_triple}
use Rattle.record_short_write.proofs.short.SoundShort.put_triple.Goals as goal

pub put_u16-requires : goal.put_u16-requires
unfolding row_in
put_u16-requires c =
    let below : c.u16_at.result < c.args.self.m = rw c.u16_at.ensures.0 (c.args.self.lengthens.rows_below c.args.k c.requires.inside) in
    (omega (arith, below, c.requires.roomy), search rules)

pub put_u16-requires-2 : goal.put_u16-requires-2
unfolding row_in
put_u16-requires-2 c =
    let below : c.u16_at.result < c.args.self.m = rw c.u16_at.ensures.0 (c.args.self.lengthens.rows_below c.args.k c.requires.inside) in
    (omega (arith, below, c.requires.roomy, c.put_u16.auto.room), search rules)

pub returns : goal.returns
unfolding row_in Y-in Z-in put_at with_triple
returns c =
    let k = c.args.k in
    let Y-at : 10 + 6 * k ≡ 8 + 6 * k + 2 = omega arith in
    let Z-at : 12 + 6 * k ≡ 8 + 6 * k + 4 = omega arith in
    c.put_u16-2.ensures ∙ rw (c.put_u16.ensures, Y-at, Z-at, ← c.u16_at.ensures.0, ← c.u16_at-y.ensures.0, ← c.u16_at-z.ensures.0)
