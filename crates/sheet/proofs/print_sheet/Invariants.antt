-- At the head of the loop a part lies in the room that begins what was not handed on yet, and the rest was handed on. The measure is how many bytes of the
-- input have no line yet.
use Rattle.std.proofs.Common.{◌≡◌, ◌-◌, ◌≤◌, length, take, drop}
use Rattle.std.specs.Io.KnownBytes.{Appends}
use Rattle.sheet_text.specs.Sheets.{sheet_text}
use Rattle.sheet_parts.specs.Parts.{Begins}
use Rattle.sheet.proofs.print_sheet.Given as goal

abbrev pub invariant-loop-room : goal.invariant-loop-room
invariant-loop-room g l =
    (l.done ≤ length (sheet_text l.input)) × (length l.room ≡ 16_384) × Begins (drop l.done (sheet_text l.input)) l.input l.room l.part
    × Appends (g.W.Write.contents l.initial.output) (g.W.Write.contents l.output) (take l.done (sheet_text l.input))

abbrev pub decreases-loop-room : goal.decreases-loop-room
decreases-loop-room g l = length l.input - l.part.place
