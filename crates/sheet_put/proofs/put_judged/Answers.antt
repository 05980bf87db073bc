-- `sheet_put::put_judged` meets its contract: `loop`, and then a refusal, or the counts and a line for each certificate.
use Rattle.std.proofs.Common.{◌∙◌, sym, arith}
use Rattle.decimal.proofs.TextLaws.{room_first, room_next, appends_on}
use Rattle.record.specs.Readers.{sound}
use Rattle.refusal.specs.Tests.{first}
use Rattle.verdict.specs.Pairs.{loop_record}
use Rattle.judge.proofs.Entered.{loop_refused, loop_sound}
use Rattle.sheet_lines.proofs.LineLaws.{loop_word}
use Rattle.sheet_text.proofs.TextLaws.{judged_first, judged_sound, judged_refused}
use Rattle.sheet_put.proofs.put_judged.Goals as goal

pub put_bytes-requires : goal.put_bytes-requires
put_bytes-requires c =
    record { fits = omega (arith, c.requires.fits, judged_first c.args.loopbytes.now c.args.certificates.now (first sound (loop_record c.args.loopbytes.now))) }

pub put_refusal-requires : goal.put_refusal-requires
put_refusal-requires c =
    let told = judged_refused c.args.loopbytes.now c.args.certificates.now _ _ (loop_refused c.args.loopbytes.now c.in-Err.fault (sym c.in-Err.is ∙ c.check_loop.ensures)) in
    room_next loop_word _ (rw told at c.requires) c.put_bytes.ensures

pub returns-in-Err : goal.returns-in-Err
returns-in-Err c =
    let told = judged_refused c.args.loopbytes.now c.args.certificates.now _ _ (loop_refused c.args.loopbytes.now c.in-Err.fault (sym c.in-Err.is ∙ c.check_loop.ensures)) in
    rw told (appends_on loop_word _ (rw told at c.requires) c.put_bytes.ensures c.put_refusal.ensures)

pub put_pair-requires : goal.put_pair-requires
put_pair-requires c =
    let s = loop_sound c.args.loopbytes.now c.in-Ok.field-0 (sym c.in-Ok.is ∙ c.check_loop.ensures) in
    let told = judged_sound c.args.loopbytes.now c.args.certificates.now _ _ s.told s.n_is s.m_is in
    room_first _ _ (room_next loop_word _ (rw told at c.requires) c.put_bytes.ensures)

pub put_certificates-requires : goal.put_certificates-requires
put_certificates-requires c =
    let s = loop_sound c.args.loopbytes.now c.in-Ok.field-0 (sym c.in-Ok.is ∙ c.check_loop.ensures) in
    let told = judged_sound c.args.loopbytes.now c.args.certificates.now _ _ s.told s.n_is s.m_is in
    room_next _ _ (room_next loop_word _ (rw told at c.requires) c.put_bytes.ensures) c.put_pair.ensures

pub invariant_of-looped : goal.invariant_of-looped
invariant_of-looped c = record { sound = loop_sound _ c.in-Ok.field-0 (sym c.in-Ok.is ∙ c.check_loop.ensures) }

pub returns-in-Ok : goal.returns-in-Ok
returns-in-Ok c =
    let s = loop_sound c.args.loopbytes.now c.in-Ok.field-0 (sym c.in-Ok.is ∙ c.check_loop.ensures) in
    let told = judged_sound c.args.loopbytes.now c.args.certificates.now _ _ s.told s.n_is s.m_is in
    rw told
    (appends_on loop_word _ (rw told at c.requires) c.put_bytes.ensures
    (appends_on _ _ (room_next loop_word _ (rw told at c.requires) c.put_bytes.ensures) c.put_pair.ensures c.put_certificates.ensures))
