-- `sheet_put::put_certificates` meets its contract: each turn puts the line of the first certificate that is left.
use Rattle.std.proofs.Common.{◌≡◌, ◌+◌, ap, arith, length}
use Rattle.decimal.proofs.TextLaws.{room_first, so_far_none, so_far_more, so_far_all}
use Rattle.record_parting.specs.Parting.{records}
use Rattle.record_parting.proofs.PartingLaws.{records_few}
use Rattle.sheet_text.specs.Sheets.{lines}
use Rattle.sheet_text.proofs.TextLaws.{lines_first}
use Rattle.sheet_put.proofs.put_certificates.Goals as goal

pub loop-certificate-init : goal.loop-certificate-init
loop-certificate-init c =
    let same : records c.into_iter-certificate-iterator.result.0.now ≡ records c.args.certificates.now
    = ap (λ left. records left.0.now) c.into_iter-certificate-iterator.ensures.into_iter_gives in
    (ap (λ left. 1 + length left) same, rw same (so_far_none c.requires))

pub put_certificate-requires : goal.put_certificate-requires
put_certificate-requires c =
    let l = c.loop-certificate in
    let turn = lines_first c.args.looped.bytes.now l.count _ _ _ c.in-Some.ensures.steps in
    room_first _ _ (rw turn at l.invariant.1.room)

pub overflow_add-count : goal.overflow_add-count
overflow_add-count c =
    record { fits = omega (arith, c.loop-certificate.invariant.0, ap length c.in-Some.ensures.steps, records_few c.args.certificates.now) }

pub loop-certificate-preserved : goal.loop-certificate-preserved
loop-certificate-preserved c =
    let l = c.loop-certificate in
    let turn = lines_first c.args.looped.bytes.now l.count _ _ _ c.in-Some.ensures.steps in
    (omega (arith, l.invariant.0, ap length c.in-Some.ensures.steps), so_far_more _ _ (rw turn at l.invariant.1) c.put_certificate.ensures)

pub returns : goal.returns
unfolding lines
returns c = so_far_all (rw c.in-None.ensures.steps.0 at c.loop-certificate.invariant.1)
