-- A part that comes next lies within the text, so its bytes can be counted.
use Rattle.std.proofs.Common.{arith, length, sym, subst}
use Rattle.std.proofs.Math.Seq.{take-length}
use Rattle.std.specs.Io.KnownBytes.{Appends}
use Rattle.sheet_text.specs.Sheets.{sheet_text}
use Rattle.sheet_text.proofs.WorstCase.{never_longer}
use Rattle.sheet_parts.proofs.EndToEnd.{next_within}
use Rattle.sheet.proofs.HandingOn.{handed_on}
use Rattle.sheet.proofs.hand_on.Goals as goal

pub overflow_add-done : goal.overflow_add-done
overflow_add-done g c =
    let within = next_within (sheet_text c.args.input.now) c.args.part.now c.args.done.now c.requires.1 c.requires.0 in
    omega (arith, within, never_longer c.args.input.now)

pub overflow_add-done-in-Err : goal.overflow_add-done-in-Err
overflow_add-done-in-Err g c =
    let within = next_within (sheet_text c.args.input.now) c.args.part.now c.args.done.now c.requires.1 c.requires.0 in
    omega (arith, within, c.in-Err.ensures.within, never_longer c.args.input.now)

pub returns-in-Ok-clause-bytes : goal.returns-in-Ok-clause-bytes
returns-in-Ok-clause-bytes g c =
    let part = c.args.part.now in
    handed_on _ _ (sheet_text c.args.input.now) part c.args.done.now (length part) c.requires.1 (omega arith) (subst (Appends _ _) (sym (take-length part)) c.in-Ok.ensures.whole)

pub returns-in-Err-clause-bytes : goal.returns-in-Err-clause-bytes
returns-in-Err-clause-bytes g c =
    let stopped = c.in-Err.stopped in
    handed_on _ _ (sheet_text c.args.input.now) c.args.part.now c.args.done.now stopped.size c.requires.1 c.in-Err.ensures.within c.in-Err.ensures.bytes
