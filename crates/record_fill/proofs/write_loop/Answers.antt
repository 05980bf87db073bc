use Rattle.std.proofs.Common.{◌+◌, ◌++◌, sym, ap, ◌∙◌, arith}
use Rattle.endian.specs.Numbers.{digits}
use Rattle.endian.proofs.Laws.{length_digits}
use Rattle.record.specs.Fields.{bytes_of}
use Rattle.record.specs.Layouts.{rows_of}
use Rattle.record_fields.proofs.Copies.{sets_both}
use Rattle.record_fields.proofs.Stores.{put_is}
use Rattle.record_fill.proofs.write_loop.Goals as goal

pub returns : goal.returns
returns c =
    let a = c.args in
    let n-put = c.put_u16 in
    let m-put = c.put_u16-2 in
    let second =
    sets_both n-put.new.room 2 4 (digits 2 a.m) (bytes_of (rows_of a.n a.m) a.values.now)
    (m-put.ensures ∙ put_is n-put.new.room (digits 2 a.m) 2 2 (length_digits 2 a.m) (omega (arith, n-put.auto, c.requires.room)))
    c.write_rows.ensures (ap (λ k. 2 + k) (sym (length_digits 2 a.m))) in
    sets_both a.body.now 0 2 (digits 2 a.n) (digits 2 a.m ++ bytes_of (rows_of a.n a.m) a.values.now)
    (n-put.ensures ∙ put_is a.body.now (digits 2 a.n) 0 2 (length_digits 2 a.n) (omega (arith, c.requires.room))) second (ap (λ k. 0 + k) (sym (length_digits 2 a.n)))
