-- A row of numbers holds a verdict's: the library's conversion gives the 64 bits of a signed number.
use Rattle.std.proofs.Common.{rules, refl}
use mir.Syntax.{w64}
use mir.Val.{SFits}
use mir.Facts.{to_z-of_z}
use Rattle.judge_rows.specs.VerdictRows.{row_of}
use Rattle.judge_rows.proofs.WordLaws.{word_is}
use Rattle.judge_rows.proofs.ArrayUsize7Row.of.Goals as goal

pub returns : goal.returns
unfolding row_of
returns c =
    let start : SFits w64 c.args.v.start = search rules in
    let fall : SFits w64 c.args.v.fall = search rules in
    rw (c.cast_unsigned.ensures, c.cast_unsigned-2.ensures, to_z-of_z start, to_z-of_z fall, word_is c.args.v.start, word_is c.args.v.fall) refl
