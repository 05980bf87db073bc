-- `sheet_put::put_certificate` meets its contract: a fresh list of 16 zeros is lent to the judge, and the verdict's line is the certificate's.
use Rattle.std.proofs.Common.{◌≡◌, sym, arith, take}
use lib.Seq.{length-take-le}
use Rattle.sheet_lines.specs.VerdictLines.{verdict_line}
use Rattle.sheet_text.specs.Sheets.{lent, variables_in, certificate_line}
use Rattle.sheet_text.proofs.JudgedSizes.{few_variables}
use Rattle.sheet_put.proofs.put_certificate.Goals as goal

-- the list that was lent has room for r
pub slice_bounds-rank-end : goal.slice_bounds-rank-end
unfolding variables_in
slice_bounds-rank-end c = omega (arith, c.judge_sound-v.auto.rank, few_variables c.args.looped.bytes.now c.args.looped.sound.told, c.args.looped.sound.n_is)

pub slice_bounds-put_line-end : goal.slice_bounds-put_line-end
unfolding variables_in
slice_bounds-put_line-end c =
    sym (length-take-le _ _ (omega (arith, c.judge_sound-v.auto.rank, few_variables c.args.looped.bytes.now c.args.looped.sound.told, c.args.looped.sound.n_is)))

-- the line of the verdict is that of the certificate
pub put_line-requires : goal.put_line-requires
unfolding certificate_line lent variables_in
put_line-requires c =
    let a = c.args in
    let line : certificate_line a.looped.bytes.now a.count a.certificate.now ≡ verdict_line a.count c.judge_sound-v.result (take a.looped.n c.judge_sound-v.new.rank)
    = rw (c.judge_sound-v.ensures.0, c.judge_sound-v.ensures.1, c.args.looped.sound.n_is) in
    rw (← line) c.requires

pub returns : goal.returns
unfolding certificate_line lent variables_in
returns c =
    let a = c.args in
    let line : certificate_line a.looped.bytes.now a.count a.certificate.now ≡ verdict_line a.count c.judge_sound-v.result (take a.looped.n c.judge_sound-v.new.rank)
    = rw (c.judge_sound-v.ensures.0, c.judge_sound-v.ensures.1, c.args.looped.sound.n_is) in
    rw line c.put_line.ensures
