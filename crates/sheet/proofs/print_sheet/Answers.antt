-- What was handed on is the front of the text, and after the last part it is all of it.
use Rattle.std.proofs.Common.{◌+◌, arith, ap, ◌∙◌, length-take-le}
use Rattle.std.proofs.lemmas.Result.{err_from_is_err_and}
use Rattle.sheet_text.specs.Sheets.{sheet_text}
use Rattle.streams.proofs.AnswerLaws.{written-on}
use Rattle.sheet_parts.proofs.EndToEnd.{comes_next, then_to_come, all_handed_on, next_within}
use Rattle.sheet.proofs.print_sheet.Goals as goal

pub returns-in_err-hand_on-clause-bytes : goal.returns-in_err-hand_on-clause-bytes
returns-in_err-hand_on-clause-bytes g c =
    let l = c.loop-room in
    let h = c.hand_on in
    let given = err_from_is_err_and c.from_residual.result c.from_residual.ensures.1 in
    rw (given.1, given.2, c.in_err-hand_on.ensures.stopped) (written-on _ _ _ (sheet_text c.args.input.now) l.done h.new.done h.ensures.grows l.invariant.3 h.ensures.bytes)

pub returns-then-part-input-clause-whole : goal.returns-then-part-input-clause-whole
returns-then-part-input-clause-whole g c =
    let l = c.loop-room in
    c.in_ok-hand_on.ensures.counted ∙ ap (λ k. l.done + k) (length-take-le _ _ l.invariant.2.fits)
    ∙ all_handed_on _ _ _ l.done l.part l.invariant.2 l.invariant.0 c.if-part-input.true

pub returns-then-part-input-clause-bytes : goal.returns-then-part-input-clause-bytes
returns-then-part-input-clause-bytes g c =
    let l = c.loop-room in
    let h = c.hand_on in
    written-on _ _ _ (sheet_text c.args.input.now) l.done h.new.done h.ensures.grows l.invariant.3 h.ensures.bytes

pub loop-room-preserved : goal.loop-room-preserved
loop-room-preserved g c =
    let l = c.loop-room in
    let h = c.hand_on in
    let n = c.next_part-part in
    let text = sheet_text c.args.input.now in
    let size = length-take-le _ _ l.invariant.2.fits in
    let handed = c.in_ok-hand_on.ensures.counted ∙ ap (λ k. l.done + k) size in
    let within = next_within text _ l.done (comes_next text _ _ l.done l.part l.invariant.2) l.invariant.0 in (
      omega (arith, handed, size, within),
      n.auto.room ∙ l.invariant.1,
      rw (handed, then_to_come text _ _ l.done l.part l.invariant.2) n.ensures.begins,
      written-on _ _ _ text l.done h.new.done h.ensures.grows l.invariant.3 h.ensures.bytes,
    )
