-- `record_write::write_out` meets its contract: three parts one after another are the record's bytes.
use Rattle.std.proofs.Common.{◌+◌, ◌++◌, ◌∙◌, sym, ap, arith}
use Rattle.endian.specs.Numbers.{digits}
use Rattle.endian.proofs.Laws.{length_digits}
use Rattle.record_fields.proofs.Copies.{sets_both}
use Rattle.record_fields.proofs.Stores.{put_is}
use Rattle.record_fill.specs.Bodies.{body_bytes}
use Rattle.record_fill.proofs.BodyBytes.{body_long}
use Rattle.record_write.proofs.RoomTails.{tail_sets}
use Rattle.record_write.proofs.write_out.Goals as goal

pub returns : goal.returns
returns c =
    let a = c.args in
    let bytes = body_bytes a.kind a.counts a.values.now in
    let first = c.put_u32.new.room in
    let second = c.put_u16.new.room in
    let stated = body_long a.kind a.counts a.values.now c.requires.fitting c.requires.known ∙ sym c.requires.long_is in
    let tail = tail_sets second 6 bytes (omega (arith, stated)) c.write_body.ensures in
    let kind_and_body =
    sets_both first 4 6 (digits 2 a.kind) bytes (c.put_u16.ensures ∙ put_is first (digits 2 a.kind) 4 2 (length_digits 2 a.kind) (omega (arith, stated)))
    tail (ap (λ k. 4 + k) (sym (length_digits 2 a.kind))) in
    sets_both a.room.now 0 4 (digits 4 a.long) (digits 2 a.kind ++ bytes)
    (c.put_u32.ensures ∙ put_is a.room.now (digits 4 a.long) 0 4 (length_digits 4 a.long) (omega arith))
    kind_and_body (ap (λ k. 0 + k) (sym (length_digits 4 a.long)))
