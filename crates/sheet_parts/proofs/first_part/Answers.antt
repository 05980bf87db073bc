-- `sheet_parts::first_part` meets its contract: the text of the loop without certificates is the first line.
use Rattle.std.proofs.Common.{rules, ◌≡◌, ◌≤◌, ◌∙◌, refl, sym, ap, ℕ, List, [], length, take, arith}
use lib.Seq.{length-take-le}
use Rattle.record.specs.Readers.{sound}
use Rattle.refusal.specs.Tests.{first}
use Rattle.verdict.specs.Pairs.{loop_record}
use Rattle.judge.specs.SoundPairs.{LoopSound}
use Rattle.judge.proofs.Entered.{loop_refused, loop_sound}
use Rattle.record_parting.specs.Parting.{taken, first_record}
use Rattle.record_parting.proofs.PartingLaws.{taken_within, first_length}
use Rattle.sheet_text.specs.Sheets.{judged, sheet_text}
use Rattle.sheet_text.proofs.TextLaws.{text_too_long_line}
use Rattle.sheet_text.proofs.WorstCase.{judged_size}
use Rattle.sheet_parts.specs.Parts.{Begins}
use Rattle.sheet_parts.specs.declared.Part.{Part}
use Rattle.sheet_parts.proofs.PartLaws.{first_is, text_sound, text_refused, begins, begins_last}
use Rattle.sheet_parts.proofs.first_part.Goals as goal

-- the first line is short
small : (input : List ℕ) (end : ℕ) → end ≡ taken input → length input ≤ 65_536
    → length (judged (first sound (loop_record (take end input))) (take end input) []) ≤ 306
small input end is short =
    judged_size (first sound (loop_record (take end input))) (take end input) [] refl (rw (first_is input end is) (omega (arith, first_length input))) (omega arith)

-- the room that was lent is what the text's room is at the end
given_back : {text input room lent : List ℕ} {part : Part} → room ≡ lent → Begins text input room part → Begins text input lent part
given_back same part = rw (← same) part

pub put_sheet-written-requires : goal.put_sheet-written-requires
put_sheet-written-requires c = omega (arith, c.requires, ap length (text_too_long_line c.args.input.now (omega arith)))

pub returns-then-input-gt65536 : goal.returns-then-input-gt65536
returns-then-input-gt65536 c =
    let last = c.last_part.ensures in
    let size = ap length (text_too_long_line c.args.input.now (omega arith)) in
    begins_last c.last_part.result c.put_sheet-written.ensures (omega (arith, c.requires, size)) last.0 last.1 last.2

pub slice_bounds-loopbytes-end : goal.slice_bounds-loopbytes-end
slice_bounds-loopbytes-end c = sym (length-take-le _ _ (omega (arith, c.first_end-end.ensures, taken_within c.args.input.now)))

pub put_judged-requires : goal.put_judged-requires
put_judged-requires c = record { fits = omega (arith, small c.args.input.now c.first_end-end.result c.first_end-end.ensures (omega arith), c.requires) }

-- a sound loop
pub returns-in-Ok : goal.returns-in-Ok
returns-in-Ok c =
    let input = c.args.input.now in
    let end = c.first_end-end.result in
    let short : length input ≤ 65_536 = omega arith in
    let inside : end ≤ length input = omega (arith, c.first_end-end.ensures, taken_within input) in
    let sound_loop = loop_sound (take end input) c.in-Ok.found (sym c.in-Ok.is ∙ c.check_loop.ensures) in
    let sound_first : LoopSound (first_record input) c.in-Ok.found.n c.in-Ok.found.m = rw (first_is input end c.first_end-end.ensures) at sound_loop in
    given_back (search rules)
    (begins _ c.put_judged.ensures.puts (omega (arith, small input end c.first_end-end.ensures short, c.requires)) refl (sheet_text input)
    (record { within = inside; counted = omega arith; short = λ more. short; loop_sound = λ more. sound_first })
    (text_sound input end short c.first_end-end.ensures sound_loop.told))

-- a refused one: its line is all
pub returns-in-Err : goal.returns-in-Err
returns-in-Err c =
    let input = c.args.input.now in
    let end = c.first_end-end.result in
    let short : length input ≤ 65_536 = omega arith in
    let last = c.last_part-in-Err.ensures in
    let told = loop_refused (take end input) c.in-Err.field-0 (sym c.in-Err.is ∙ c.check_loop.ensures) in
    rw (text_refused input end short c.first_end-end.ensures _ _ told)
    (given_back (search rules)
    (begins_last c.last_part-in-Err.result c.put_judged.ensures.puts (omega (arith, small input end c.first_end-end.ensures short, c.requires)) last.0 last.1 last.2))
