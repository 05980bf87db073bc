-- `sheet_put::put_sheet` meets its contract.
use Rattle.std.proofs.Common.{◌≡◌, ◌≤◌, ◌-◌, ℕ, List, sym, ap, rules, arith, length, take, drop, length-drop}
use lib.Seq.{take_all, length-take-le}
use Rattle.record.specs.Readers.{sound}
use Rattle.refusal.specs.Tests.{first}
use Rattle.verdict.specs.Pairs.{loop_record}
use Rattle.sheet_text.specs.Sheets.{judged, sheet_text}
use Rattle.record_parting.specs.Parting.{taken}
use Rattle.record_parting.proofs.PartingLaws.{taken_within}
use Rattle.sheet_text.proofs.TextLaws.{text_too_long_line, text_parted}
use Rattle.sheet_put.proofs.put_sheet.Goals as goal

-- the input is parted where the first record ends
module _ (input : List ℕ) (end : ℕ) (short : length input ≤ 65_536) (end_is : end ≡ taken input) where
  inside : end ≤ length input
  inside = omega (arith, taken_within input)

  text_is : sheet_text input ≡ judged (first sound (loop_record (take end input))) (take end input) (take (length input - end) (drop end input))
  text_is = text_parted input _ end short (take_all (length input - end) (drop end input) (rw length-drop (omega arith))) end_is

pub put_bytes-requires : goal.put_bytes-requires
put_bytes-requires c = record { fits = omega (arith, c.requires, ap length (text_too_long_line c.args.input.now (omega arith))) }

pub returns-then-input-gt65536 : goal.returns-then-input-gt65536
returns-then-input-gt65536 c = rw (text_too_long_line c.args.input.now (omega arith)) (search rules)

pub slice_bounds-put_judged-end : goal.slice_bounds-put_judged-end
slice_bounds-put_judged-end c = sym (length-take-le _ _ (inside c.args.input.now _ (omega arith) c.first_end-end.ensures))

pub slice_bounds-put_judged-count : goal.slice_bounds-put_judged-count
slice_bounds-put_judged-count c = inside c.args.input.now _ (omega arith) c.first_end-end.ensures

pub slice_bounds-put_judged-start : goal.slice_bounds-put_judged-start
slice_bounds-put_judged-start c = inside c.args.input.now _ (omega arith) c.first_end-end.ensures

pub put_judged-requires : goal.put_judged-requires
put_judged-requires c = record { fits = omega (arith, c.requires, ap length (text_is c.args.input.now _ (omega arith) c.first_end-end.ensures)) }

pub returns : goal.returns
returns c = rw (text_is c.args.input.now _ (omega arith) c.first_end-end.ensures) (search rules)
